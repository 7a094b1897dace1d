-- What an assignment to an element leaves of what holds it.
use Rattle.std.proofs.Common.{◌≡◌, pos, get_or, length, ℕ, ◌+ℤ◌, ◌-ℤ◌, ◌<◌, ◌≤◌, max, Bool, true, false, nat_lt, cond, not, ◌++◌, List, Some, Result, Ok, Err, refl, sym, ap, ◌∙◌, arith}
use Rattle.std.specs.List.{list_all}
use Rattle.std.specs.Option.{ok_or}
use Rattle.std.specs.Prelude.{slice_set}
use Rattle.std.proofs.lemmas.Option.{slice_get-get_or}
use Rattle.std.specs.Fmt.{signed_decimal}
use Rattle.std.proofs.lemmas.Bool.Decides.{nat_tests}
use Rattle.gn_tree.specs.declared.operator.AssignOp.{AssignOp}
use Rattle.gn_tree.specs.declared.operator.AssignOp.TheVariants.{Set, Add, Subtract}
use Rattle.gn_values.specs.Val.{Val, vint, vstr, vlist, vscope, Vals, no_vals, val_then, vals_of, binds_of, list_of, depth_of, deepest_item}
use Rattle.gn_values.specs.Limits.{max_depth, list_fits, text_fits, IsList, IsScope}
use Rattle.gn_values.specs.Operators.{sum_of, difference_of, integer_fits, is_among, item_at, value_at, with_entry}
use Rattle.gn_values.specs.Assigning.{combined, operator_fault, put_back, element_value, grows_too_deep, list_with, item_assigned, scope_with, entry_assigned}
use Rattle.gn_values.specs.declared.error.ValueError.{ValueError}
use Rattle.gn_values.specs.declared.error.ValueError.TheVariants.{BadTypes, Overflow, NotInList, BadIndex, TooLong}
use Rattle.gn_values.specs.declared.error.ElementError.{ElementError}
use Rattle.gn_values.specs.declared.error.ElementError.TheVariants.{Operator}
use Rattle.gn_value_model.proofs.Within.{deepest_item-append}
use Rattle.gn_values.proofs.Among.{deepest_item-filter}
use Rattle.gn_values.proofs.Elements.{fits_set, fits_with, item_there}
use Rattle.std.proofs.lemmas.List.{map-set, length-map}
use Rattle.gn_values.specs.View.{val_of, vals_in, KeepsItems}
use Rattle.gn_values.specs.declared.value.Value.{Value}

-- a value is an element where it isn't too deep
element_from : (v : Val) → depth_of v < max_depth → element_value v ≡ Ok v
element_from v h = let b : nat_lt (depth_of v) max_depth ≡ true = grind (arith, nat_tests) in ap (λ t. cond t (Ok v) (Err TooLong)) b

no_element : (v : Val) → max_depth ≤ depth_of v → element_value v ≡ Err TooLong
no_element v h = let b : nat_lt (depth_of v) max_depth ≡ false = grind (arith, nat_tests) in ap (λ t. cond t (Ok v) (Err TooLong)) b

-- the value that a test lets through
only_value : (t : Bool) (w v : Val) (e : ValueError) → cond t (Ok w) (Err e) ≡ Ok v → w ≡ v
only_value true w v e h = cc
only_value false w v e h = absurd (let f : Err e ≡ Ok v = h in cc)

deepest_there : (vs : Vals) → deepest_item (vals_of (list_of vs)) ≡ deepest_item vs
deepest_there no_vals = refl
deepest_there (val_then v vs) = ap (λ n. max (depth_of v) n) (deepest_there vs)

deepest_sum : (vs ws : Vals) → deepest_item (vals_of (list_of vs ++ list_of ws)) ≡ max (deepest_item vs) (deepest_item ws)
deepest_sum vs ws = omega (arith, deepest_item-append (list_of vs) (list_of ws), deepest_there vs, deepest_there ws)

flat : (t : Bool) (w v : Val) (e : ValueError) → depth_of w ≡ 0 → cond t (Ok w) (Err e) ≡ Ok v → depth_of v < max_depth
flat t w v e z h = let same = ap depth_of (only_value t w v e h) in omega arith

sum_shallow : (l r v : Val) → depth_of l < max_depth → grows_too_deep Add l r ≡ false → sum_of l r ≡ Ok v → depth_of v < max_depth
unfolding sum_of
sum_shallow (vint a) (vint b) v h t e = flat (integer_fits (a +ℤ b)) (vint (a +ℤ b)) v Overflow refl e
sum_shallow (vint a) (vstr s) v h t e = flat (text_fits (signed_decimal a ++ s)) (vstr (signed_decimal a ++ s)) v TooLong refl e
sum_shallow (vstr s) (vint b) v h t e = flat (text_fits (s ++ signed_decimal b)) (vstr (s ++ signed_decimal b)) v TooLong refl e
sum_shallow (vstr s) (vstr u) v h t e = flat (text_fits (s ++ u)) (vstr (s ++ u)) v TooLong refl e
sum_shallow (vlist vs) (vlist ws) v h t e =
    let same = ap depth_of (only_value (list_fits (list_of vs ++ list_of ws)) _ v TooLong e) in
    let deep = deepest_sum vs ws in
    grind (arith, nat_tests)
sum_shallow l r v h t e = absurd (let f : Err BadTypes ≡ Ok v = e in cc)

difference_shallow : (l r v : Val) → depth_of l < max_depth → difference_of l r ≡ Ok v → depth_of v < max_depth
unfolding difference_of
difference_shallow (vint a) (vint b) v h e = flat (integer_fits (a -ℤ b)) (vint (a -ℤ b)) v Overflow refl e
difference_shallow (vlist vs) (vlist ws) v h e =
    let same = ap depth_of (only_value (list_all (λ w. is_among w (list_of vs)) (list_of ws)) _ v NotInList e) in
    let deep = deepest_item-filter (λ w. not (is_among w (list_of ws))) (list_of vs) in
    omega (arith, deepest_there vs)
difference_shallow l r v h e = absurd (let f : Err BadTypes ≡ Ok v = e in cc)

-- an element that doesn't get too deep
pub combined_shallow : (op : AssignOp) (l r v : Val) → depth_of l < max_depth → grows_too_deep op l r ≡ false → combined op l r ≡ Ok v → put_back element_value (combined op l r) ≡ Ok v
combined_shallow op l r v h t e = ap (put_back element_value) e ∙ ap operator_fault (element_from v (by op t e))
  where
    by : (op : AssignOp) → grows_too_deep op l r ≡ false → combined op l r ≡ Ok v → depth_of v < max_depth
    by Set t e = let same : r ≡ v = cc in let deep = ap depth_of same in grind (arith, nat_tests)
    by Add t e = sum_shallow l r v h t e
    by Subtract t e = difference_shallow l r v h e

sum_deep : (vs ws : Vals) → max_depth ≤ depth_of (vlist ws) → put_back element_value (sum_of (vlist vs) (vlist ws)) ≡ Err (Operator TooLong)
unfolding sum_of
sum_deep vs ws h = by (list_fits (list_of vs ++ list_of ws))
  where
    by : (b : Bool) → put_back element_value (cond b (Ok (vlist (vals_of (list_of vs ++ list_of ws)))) (Err TooLong)) ≡ Err (Operator TooLong)
    by true = ap operator_fault (no_element (vlist (vals_of (list_of vs ++ list_of ws))) (omega (arith, deepest_sum vs ws)))
    by false = refl

-- one that does
pub combined_deep : (op : AssignOp) (l r : Val) → grows_too_deep op l r ≡ true → put_back element_value (combined op l r) ≡ Err (Operator TooLong)
combined_deep Set l r t = ap operator_fault (no_element r (grind (arith, nat_tests)))
combined_deep Add (vlist vs) (vlist ws) t = sum_deep vs ws (grind (arith, nat_tests))
combined_deep Add (vlist vs) r t = absurd (let f : false ≡ true = t in cc)
combined_deep Add l r t = absurd (let f : false ≡ true = t in cc)
combined_deep Subtract l r t = absurd (let f : false ≡ true = t in cc)

-- an element that was made isn't too deep
pub put_shallow : (r : Result Val ValueError) (new : Val) → put_back element_value r ≡ Ok new → depth_of new < max_depth
put_shallow (Ok v) new h = by (nat_lt (depth_of v) max_depth) refl h
  where
    by : (b : Bool) → nat_lt (depth_of v) max_depth ≡ b → operator_fault (cond b (Ok v) (Err TooLong)) ≡ Ok new → depth_of new < max_depth
    by true t h = let same : v ≡ new = cc in let deep = ap depth_of same in grind (arith, nat_tests)
    by false t h = absurd (let f : Err (Operator TooLong) ≡ Ok new = h in cc)
put_shallow (Err e) new h = absurd (let f : Err (Operator e) ≡ Ok new = h in cc)

-- what holds an element, where it fits exactly with an element that isn't too deep
module _ (put : Val → Result Val ValueError) (whole : Val → Val) (fits : (v : Val) → put v ≡ cond (nat_lt (depth_of v) max_depth) (Ok (whole v)) (Err TooLong)) where
  by_test : (b : Bool) (v new : Val) → operator_fault (cond b (Ok v) (Err TooLong)) ≡ Ok new → operator_fault (cond b (Ok (whole v)) (Err TooLong)) ≡ Ok (whole new)
  by_test true v new h = let same : v ≡ new = cc in ap (λ w. Ok (whole w)) same
  by_test false v new h = absurd (let f : Err (Operator TooLong) ≡ Ok new = h in cc)

  by_test_refused : (b : Bool) (v : Val) (e : ElementError) → operator_fault (cond b (Ok v) (Err TooLong)) ≡ Err e → operator_fault (cond b (Ok (whole v)) (Err TooLong)) ≡ Err e
  by_test_refused true v e h = absurd (let f : Ok v ≡ Err e = h in cc)
  by_test_refused false v e h = h

  pub put_fitting : (r : Result Val ValueError) (new : Val) → put_back element_value r ≡ Ok new → put_back put r ≡ Ok (whole new)
  put_fitting (Ok v) new h = ap operator_fault (fits v) ∙ by_test (nat_lt (depth_of v) max_depth) v new h
  put_fitting (Err e) new h = absurd (let f : Err (Operator e) ≡ Ok new = h in cc)

  pub put_refused : (r : Result Val ValueError) (e : ElementError) → put_back element_value r ≡ Err e → put_back put r ≡ Err e
  put_refused (Ok v) e h = ap operator_fault (fits v) ∙ by_test_refused (nat_lt (depth_of v) max_depth) v e h
  put_refused (Err f) e h = h

-- an assignment to an item that is there
module _ (vs : List Val) (i : ℕ) (old value : Val) (op : AssignOp) (limits : IsList vs) (within : i < length vs) (is : old ≡ get_or vs i old) where
  found : item_at vs (pos i) ≡ Ok old
  found = ap (λ o. ok_or o BadIndex) (slice_get-get_or vs i old within) ∙ ap Ok (sym is)

  fits_here : (v : Val) → list_with vs (pos i) v ≡ cond (nat_lt (depth_of v) max_depth) (Ok (vlist (vals_of (slice_set vs i v)))) (Err TooLong)
  fits_here v = ap (λ b. cond b (Ok (vlist (vals_of (slice_set vs i v)))) (Err TooLong)) (sym (fits_set vs i v limits within))

  pub item_ok : (new : Val) → put_back element_value (combined op old value) ≡ Ok new → item_assigned vs (pos i) op value (item_at vs (pos i)) ≡ Ok (vlist (vals_of (slice_set vs i new)))
  item_ok new h = ap (item_assigned vs (pos i) op value) found ∙ put_fitting (list_with vs (pos i)) (λ v. vlist (vals_of (slice_set vs i v))) fits_here (combined op old value) new h

  pub item_refused : (e : ElementError) → put_back element_value (combined op old value) ≡ Err e → item_assigned vs (pos i) op value (item_at vs (pos i)) ≡ Err e
  item_refused e h = ap (item_assigned vs (pos i) op value) found ∙ put_refused (list_with vs (pos i)) (λ v. vlist (vals_of (slice_set vs i v))) fits_here (combined op old value) e h

-- an assignment to an item of a list of the program
module _ (xs : List Value) (i : ℕ) (old : Value) (value : Val) (op : AssignOp) (d : ℕ) (keeps : KeepsItems (vals_in xs) d) (within : i < length xs) (is : old ≡ get_or xs i old) where
  pub item_ok_there : (new : Value) → put_back element_value (combined op (val_of old) value) ≡ Ok (val_of new) → item_assigned (vals_in xs) (pos i) op value (item_at (vals_in xs) (pos i)) ≡ Ok (vlist (vals_of (vals_in (slice_set xs i new))))
  item_ok_there new h =
      let inside : i < length (vals_in xs) = omega (arith, length-map xs val_of) in
      item_ok (vals_in xs) i (val_of old) value op keeps.limits inside (item_there xs i old within is) (val_of new) h
      ∙ ap (λ vs. Ok (vlist (vals_of vs))) (sym (map-set val_of xs i new))

  pub item_refused_there : (e : ElementError) → put_back element_value (combined op (val_of old) value) ≡ Err e → item_assigned (vals_in xs) (pos i) op value (item_at (vals_in xs) (pos i)) ≡ Err e
  item_refused_there e h =
      let inside : i < length (vals_in xs) = omega (arith, length-map xs val_of) in
      item_refused (vals_in xs) i (val_of old) value op keeps.limits inside (item_there xs i old within is) e h

-- an assignment to an entry that is there
module _ (bs : List (List ℕ × Val)) (k : List ℕ) (old value : Val) (op : AssignOp) (limits : IsScope bs) (is : value_at k bs ≡ Some old) where
  fits_entry : (v : Val) → scope_with bs k v ≡ cond (nat_lt (depth_of v) max_depth) (Ok (vscope (binds_of (with_entry bs k v)))) (Err TooLong)
  fits_entry v = ap (λ b. cond b (Ok (vscope (binds_of (with_entry bs k v)))) (Err TooLong)) (sym (fits_with bs k v limits))

  pub entry_ok : (new : Val) → put_back element_value (combined op old value) ≡ Ok new → entry_assigned bs k op value (value_at k bs) ≡ Ok (vscope (binds_of (with_entry bs k new)))
  entry_ok new h = ap (entry_assigned bs k op value) is ∙ put_fitting (scope_with bs k) (λ v. vscope (binds_of (with_entry bs k v))) fits_entry (combined op old value) new h

  pub entry_refused : (e : ElementError) → put_back element_value (combined op old value) ≡ Err e → entry_assigned bs k op value (value_at k bs) ≡ Err e
  entry_refused e h = ap (entry_assigned bs k op value) is ∙ put_refused (scope_with bs k) (λ v. vscope (binds_of (with_entry bs k v))) fits_entry (combined op old value) e h
