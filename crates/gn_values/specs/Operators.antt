-- The operators on values, by cases of the values' types. A refusal names what the language finds wrong.
use Rattle.std.specs.Prelude.{ℕ, ℤ, pos, negsuc, ◌+ℤ◌, ◌-ℤ◌, ◌^◌, Bool, not, nat_lt, int_lt, int_le, if◌then◌else◌, List, ◌++◌, filter, slice_get, Option, Result, Ok, Err, ok_or}
use Rattle.std.specs.List.{list_any, list_all}
use Rattle.std.specs.Ordering.{nat_cmp}
use Rattle.std.specs.Cmp.Lexicographic.{slice_cmp}
use Rattle.std.specs.Map.{lookup}
use Rattle.std.specs.BTreeMap.{is_at, insert_entry}
use Rattle.std.specs.Fmt.{signed_decimal}
use Rattle.gn_values.specs.Val.{Val, vint, vstr, vlist, vscope, vals_of, list_of, entries_of}
use Rattle.gn_values.specs.Limits.{text_fits, list_fits}
use Rattle.gn_values.specs.Equal.{equals}
use Rattle.gn_values.specs.declared.error.ValueError.{ValueError}
use Rattle.gn_values.specs.declared.error.ValueError.TheVariants.{BadTypes, Overflow, NotInList, BadIndex, Undefined, TooLong}
use Rattle.gn_values.specs.declared.comparison.Compare.{Compare}
use Rattle.gn_values.specs.declared.comparison.Compare.TheVariants.{Less, LessOrEqual, Greater, GreaterOrEqual}

-- whether a number is one of 64 signed bits, from -2^63 to 2^63 - 1
abbrev pub integer_fits : ℤ → Bool
integer_fits (pos n) = nat_lt n (2 ^ 63)
integer_fits (negsuc n) = nat_lt n (2 ^ 63)

-- a number, a text and a list as values, where they are within the limits
abbrev pub integer_of : ℤ → Result ℤ ValueError
integer_of n = if integer_fits n then Ok n else Err Overflow

abbrev pub text_value : List ℕ → Result Val ValueError
text_value text = if text_fits text then Ok (vstr text) else Err TooLong

abbrev pub list_value : List Val → Result Val ValueError
list_value vs = if list_fits vs then Ok (vlist (vals_of vs)) else Err TooLong

abbrev pub integer_value : ℤ → Result Val ValueError
integer_value n = if integer_fits n then Ok (vint n) else Err Overflow

-- whether a value equals one of the list
abbrev pub is_among : Val → List Val → Bool
is_among v vs = list_any (equals v) vs

-- the items that equal no item of the other list
abbrev pub without : List Val → List Val → List Val
without vs taken = filter (λ v. not (is_among v taken)) vs

-- `+` adds integers, joins strings, joins a string and an integer in decimal as text, and appends lists
unfoldable pub sum_of : Val → Val → Result Val ValueError
sum_of (vint a) (vint b) = integer_value (a +ℤ b)
sum_of (vint a) (vstr t) = text_value (signed_decimal a ++ t)
sum_of (vstr s) (vint b) = text_value (s ++ signed_decimal b)
sum_of (vstr s) (vstr t) = text_value (s ++ t)
sum_of (vlist vs) (vlist ws) = list_value (list_of vs ++ list_of ws)
sum_of _ _ = Err BadTypes

-- `-` subtracts integers, and removes from a list every item that equals an item of the right list, each of which
-- must equal an item of the left list
unfoldable pub difference_of : Val → Val → Result Val ValueError
difference_of (vint a) (vint b) = integer_value (a -ℤ b)
difference_of (vlist vs) (vlist ws) =
    if list_all (λ w. is_among w (list_of vs)) (list_of ws) then Ok (vlist (vals_of (without (list_of vs) (list_of ws)))) else Err NotInList
difference_of _ _ = Err BadTypes

-- whether two integers stand so to each other
abbrev pub holds : Compare → ℤ → ℤ → Bool
holds Less a b = int_lt a b
holds LessOrEqual a b = int_le a b
holds Greater a b = int_lt b a
holds GreaterOrEqual a b = int_le b a

-- `<` and its kin take integers
unfoldable pub comparison_of : Compare → Val → Val → Result Bool ValueError
comparison_of op (vint a) (vint b) = Ok (holds op a b)
comparison_of op _ _ = Err BadTypes

-- the value of a name among entries
abbrev pub value_at : List ℕ → List (List ℕ × Val) → Option Val
value_at name bs = lookup (is_at (slice_cmp nat_cmp name)) bs

-- the entries with this name set to this value
abbrev pub with_entry : List (List ℕ × Val) → List ℕ → Val → List (List ℕ × Val)
with_entry bs name value = insert_entry (slice_cmp nat_cmp) bs name value

-- the item of this number, counted from 0
abbrev pub item_at : List Val → ℤ → Result Val ValueError
item_at vs (pos n) = ok_or (slice_get vs n) BadIndex
item_at vs (negsuc n) = Err BadIndex

-- `a[i]` on a list counts from 0, and `a[s]` and `a.s` read a scope's entry
unfoldable pub element_of : Val → Val → Result Val ValueError
element_of (vlist vs) (vint n) = item_at (list_of vs) n
element_of (vscope bs) (vstr name) = ok_or (value_at name (entries_of bs)) Undefined
element_of _ _ = Err BadTypes
