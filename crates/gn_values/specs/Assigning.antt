-- What the operators of assignments leave: of a value, and of a list or a scope where they are for one of its elements.
use Rattle.std.specs.Prelude.{ℕ, ℤ, pos, negsuc, nat_lt, nat_le, Bool, true, false, ◌&&◌, if◌then◌else◌, List, slice_set, Option, Some, None, Result, Ok, Err}
use Rattle.gn_tree.specs.declared.operator.AssignOp.{AssignOp}
use Rattle.gn_tree.specs.declared.operator.AssignOp.TheVariants.{Set, Add, Subtract}
use Rattle.gn_values.specs.Val.{Val, vint, vstr, vlist, vscope, binds_of, list_of, entries_of, depth_of}
use Rattle.gn_values.specs.Limits.{max_depth, scope_fits}
use Rattle.gn_values.specs.Operators.{sum_of, difference_of, list_value, item_at, value_at, with_entry}
use Rattle.gn_values.specs.declared.error.ValueError.{ValueError}
use Rattle.gn_values.specs.declared.error.ValueError.TheVariants.{BadTypes, Undefined, TooLong}
use Rattle.gn_values.specs.declared.error.ElementError.{ElementError}
use Rattle.gn_values.specs.declared.error.ElementError.TheVariants.{Subscript, Operator}

-- `=` leaves the right value, `+=` the sum and `-=` the difference
abbrev pub combined : AssignOp → Val → Val → Result Val ValueError
combined Set left right = Ok right
combined Add left right = sum_of left right
combined Subtract left right = difference_of left right

-- a fault that is one of the operator
abbrev pub operator_fault : Result Val ValueError → Result Val ElementError
operator_fault (Ok v) = Ok v
operator_fault (Err e) = Err (Operator e)

-- what holds an element, once the element was combined with the right value and is put back
abbrev pub put_back : (Val → Result Val ValueError) → Result Val ValueError → Result Val ElementError
put_back put (Ok v) = operator_fault (put v)
put_back put (Err e) = Err (Operator e)

-- a list with its item of this number set, and a scope with its entry of this name set, within the limits
abbrev pub list_with : List Val → ℤ → Val → Result Val ValueError
list_with vs (pos n) v = list_value (slice_set vs n v)
list_with vs (negsuc n) v = list_value vs

abbrev pub scope_with : List (List ℕ × Val) → List ℕ → Val → Result Val ValueError
scope_with bs name v = if scope_fits (with_entry bs name v) then Ok (vscope (binds_of (with_entry bs name v))) else Err TooLong

-- `list[at] op= value`, by what is found there: each operator needs an item
abbrev pub item_assigned : List Val → ℤ → AssignOp → Val → Result Val ValueError → Result Val ElementError
item_assigned vs at op value (Ok old) = put_back (list_with vs at) (combined op old value)
item_assigned vs at op value (Err e) = Err (Subscript e)

-- `scope[name] op= value` and `scope.name op= value`, by what is found there: `=` adds an absent entry, and the other
-- operators need one
abbrev pub entry_assigned : List (List ℕ × Val) → List ℕ → AssignOp → Val → Option Val → Result Val ElementError
entry_assigned bs name op value (Some old) = put_back (scope_with bs name) (combined op old value)
entry_assigned bs name Set value None = put_back (scope_with bs name) (Ok value)
entry_assigned bs name op value None = Err (Subscript Undefined)

-- `base[at] op= value` and `base.at op= value`: what becomes of the base
unfoldable pub element_assigned : Val → Val → AssignOp → Val → Result Val ElementError
element_assigned (vlist vs) (vint n) op value = item_assigned (list_of vs) n op value (item_at (list_of vs) n)
element_assigned (vscope bs) (vstr name) op value = entry_assigned (entries_of bs) name op value (value_at name (entries_of bs))
element_assigned _ _ _ _ = Err (Subscript BadTypes)

-- an element as such: one level less deep than the list or scope that holds it
abbrev pub element_value : Val → Result Val ValueError
element_value v = if nat_lt (depth_of v) max_depth then Ok v else Err TooLong

-- whether an element is too deep after an assignment, known before it: a sum of two lists is as deep as the deeper one,
-- a difference no deeper than the left list, and an element was not too deep before
abbrev pub is_list : Val → Bool
is_list (vlist vs) = true
is_list _ = false

abbrev pub grows_too_deep : AssignOp → Val → Val → Bool
grows_too_deep Set left right = nat_le max_depth (depth_of right)
grows_too_deep Add left right = is_list left && is_list right && nat_le max_depth (depth_of right)
grows_too_deep Subtract left right = false
