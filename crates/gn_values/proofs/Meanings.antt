-- The operators on lists and scopes, over the lists that contracts see.
use Rattle.std.proofs.Common.{◌≡◌, ℕ, ℤ, true, false, cond, List, ◌++◌, ◌≢◌, IsTrue, OnOk, IfErr, Result, Ok, Err, refl, sym, ap, ◌∙◌}
use Rattle.std.specs.List.{list_all}
use Rattle.std.specs.Option.{ok_or}
use Rattle.gn_values.specs.Val.{Val, vlist, vscope, vint, vstr, vals_of, binds_of}
use Rattle.gn_values.specs.Operators.{sum_of, difference_of, element_of, item_at, value_at, is_among, without, list_value}
use Rattle.gn_tree.specs.declared.operator.AssignOp.{AssignOp}
use Rattle.gn_values.specs.Assigning.{element_assigned, item_assigned, entry_assigned}
use Rattle.gn_values.specs.declared.error.ValueError.TheVariants.{NotInList, Undefined, TooLong, Memory}
use Rattle.gn_values.specs.declared.error.ValueError.{ValueError}
use Rattle.gn_values.specs.Limits.{list_fits}
use Rattle.gn_value_model.proofs.Items.{list_of-vals, entries_of-binds}

pub sum_of-lists : (vs ws : List Val) → sum_of (vlist (vals_of vs)) (vlist (vals_of ws)) ≡ list_value (vs ++ ws)
unfolding sum_of
sum_of-lists vs ws = λ i. list_value (list_of-vals vs i ++ list_of-vals ws i)

pub difference_of-lists : (vs ws : List Val) → difference_of (vlist (vals_of vs)) (vlist (vals_of ws)) ≡ cond (list_all (λ w. is_among w vs) ws) (Ok (vlist (vals_of (without vs ws)))) (Err NotInList)
unfolding difference_of
difference_of-lists vs ws = λ i. cond (list_all (λ w. is_among w (list_of-vals vs i)) (list_of-vals ws i)) (Ok (vlist (vals_of (without (list_of-vals vs i) (list_of-vals ws i))))) (Err NotInList)

pub element_of-list : (vs : List Val) (n : ℤ) → element_of (vlist (vals_of vs)) (vint n) ≡ item_at vs n
unfolding element_of
element_of-list vs n = ap (λ l. item_at l n) (list_of-vals vs)

pub element_of-scope : (bs : List (List ℕ × Val)) (name : List ℕ) → element_of (vscope (binds_of bs)) (vstr name) ≡ ok_or (value_at name bs) Undefined
unfolding element_of
element_of-scope bs name = ap (λ l. ok_or (value_at name l) Undefined) (entries_of-binds bs)

pub element_assigned-list : (vs : List Val) (n : ℤ) (op : AssignOp) (v : Val) → element_assigned (vlist (vals_of vs)) (vint n) op v ≡ item_assigned vs n op v (item_at vs n)
unfolding element_assigned
element_assigned-list vs n op v = ap (λ l. item_assigned l n op v (item_at l n)) (list_of-vals vs)

pub element_assigned-scope : (bs : List (List ℕ × Val)) (name : List ℕ) (op : AssignOp) (v : Val) → element_assigned (vscope (binds_of bs)) (vstr name) op v ≡ entry_assigned bs name op v (value_at name bs)
unfolding element_assigned
element_assigned-scope bs name op v = ap (λ l. entry_assigned l name op v (value_at name l)) (entries_of-binds bs)

pub difference_of-found : (vs ws : List Val) → list_all (λ w. is_among w vs) ws ≡ true → difference_of (vlist (vals_of vs)) (vlist (vals_of ws)) ≡ Ok (vlist (vals_of (without vs ws)))
difference_of-found vs ws h = difference_of-lists vs ws ∙ rw h refl

pub difference_of-lacking : (vs ws : List Val) → list_all (λ w. is_among w vs) ws ≡ false → difference_of (vlist (vals_of vs)) (vlist (vals_of ws)) ≡ Err NotInList
difference_of-lacking vs ws h = difference_of-lists vs ws ∙ rw h refl

-- what appending to a list answers, as a sum
module _ (vs ws new : List Val) where
  sum_of-fitting : new ≡ vs ++ ws → IsTrue (list_fits new) → sum_of (vlist (vals_of vs)) (vlist (vals_of ws)) ≡ Ok (vlist (vals_of new))
  sum_of-fitting e h =
      let fits : list_fits (vs ++ ws) ≡ true = ap list_fits (sym e) ∙ h in
      sum_of-lists vs ws ∙ ap (λ b. cond b (Ok (vlist (vals_of (vs ++ ws)))) (Err TooLong)) fits ∙ ap (λ l. Ok (vlist (vals_of l))) (sym e)

  sum_of-long : list_fits (vs ++ ws) ≡ false → sum_of (vlist (vals_of vs)) (vlist (vals_of ws)) ≡ Err TooLong
  sum_of-long h = sum_of-lists vs ws ∙ ap (λ b. cond b (Ok (vlist (vals_of (vs ++ ws)))) (Err TooLong)) h

  pub appended_ok : (r : Result (Unit {0}) ValueError) → OnOk r (new ≡ vs ++ ws) → OnOk r (IsTrue (list_fits new)) → OnOk r (sum_of (vlist (vals_of vs)) (vlist (vals_of ws)) ≡ Ok (vlist (vals_of new)))
  appended_ok (Ok u) e h = sum_of-fitting e h
  appended_ok (Err e) h g = tt

  pub appended_refused : (r : Result (Unit {0}) ValueError) → (r ≡ Err TooLong → list_fits (vs ++ ws) ≡ false) → IfErr r (λ e. e ≢ Memory → e ≡ TooLong) → IfErr r (λ e. e ≢ Memory → sum_of (vlist (vals_of vs)) (vlist (vals_of ws)) ≡ Err e)
  appended_refused (Ok u) h g = tt
  appended_refused (Err e) h g = λ n. sum_of-long (h (ap Err (g n))) ∙ ap Err (sym (g n))
