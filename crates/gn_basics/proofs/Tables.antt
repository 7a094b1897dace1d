-- Tables, which are entries in the order of their keys: a view of the values, a key at the end, and a new key taken away again.
use Rattle.std.proofs.Common.{◌≡◌, Bool, true, false, cond, List, [], ◌∷◌, ◌++◌, map, Some, None, Ordering, refl, sym, ap, ◌∙◌}
use Rattle.std.specs.Cmp.{IsTotalOrder, tied_itself}
use Rattle.std.specs.Ordering.{is_eq, match_ordering, ordering_reverse}
use Rattle.std.specs.declared.cmp.Ordering.TheVariants.{Less, Equal, Greater}
use Rattle.std.specs.List.{AllByRecursion}
use Rattle.std.specs.List.Sorted.{IsStrictlySortedBy}
use Rattle.std.specs.Map.{keys_of, lookup, remove_entry}
use Rattle.std.specs.BTreeMap.{is_at, insert_entry}
use Rattle.gn_basics.proofs.Orders.{by_order, by_answer}

module _ {K X Y : Type 0} (g : X → Y) where
  -- the entries with each value seen by g
  abbrev pub seen : List (K × X) → List (K × Y)
  seen es = map (λ (e : K × X). (e.0, g e.1)) es

  pub insert_entry-seen : (cmp : K → K → Ordering) (es : List (K × X)) (k : K) (v : X) → seen (insert_entry cmp es k v) ≡ insert_entry cmp (seen es) k (g v)
  insert_entry-seen cmp [] k v = refl
  insert_entry-seen cmp (e ∷ es) k v =
      by_order (λ r. seen (match_ordering r ((k, v) ∷ e ∷ es) ((e.0, v) ∷ es) (e ∷ insert_entry cmp es k v)) ≡ match_ordering r ((k, g v) ∷ (e.0, g e.1) ∷ seen es) ((e.0, g v) ∷ seen es) ((e.0, g e.1) ∷ insert_entry cmp (seen es) k (g v))) (cmp k e.0) refl refl (ap (λ ys. (e.0, g e.1) ∷ ys) (insert_entry-seen cmp es k v))

  pub remove_entry-seen : (test : K → Bool) (es : List (K × X)) → seen (remove_entry test es) ≡ remove_entry test (seen es)
  remove_entry-seen test [] = refl
  remove_entry-seen test (e ∷ es) =
      elim (test e.0) as (λ b. seen (cond b es (e ∷ remove_entry test es)) ≡ cond b (seen es) ((e.0, g e.1) ∷ remove_entry test (seen es))) [ true ↦ refl | false ↦ ap (λ ys. (e.0, g e.1) ∷ ys) (remove_entry-seen test es) ]

module _ {K X : Type 0} {cmp : K → K → Ordering} (total : IsTotalOrder cmp) where
  behind : (P : K → Type 0) (xs ys : List (K × X)) (e : K × X) → AllByRecursion P (keys_of (xs ++ e ∷ ys)) → P e.0
  behind P [] ys e a = a.0
  behind P (x ∷ xs) ys e a = behind P xs ys e a.1

  -- a key behind all others is put at the end
  pub insert_last : (xs ys : List (K × X)) (e : K × X) → IsStrictlySortedBy cmp (keys_of (xs ++ e ∷ ys)) → insert_entry cmp xs e.0 e.1 ≡ xs ++ e ∷ []
  unfolding IsStrictlySortedBy
  insert_last [] ys e s = refl
  insert_last (x ∷ xs) ys e s =
      let after : cmp e.0 x.0 ≡ Greater = total.antisymm e.0 x.0 ∙ ap ordering_reverse (behind (λ y. cmp x.0 y ≡ Less) xs ys e s.0) in
      ap (λ o. match_ordering o (e ∷ x ∷ xs) ((x.0, e.1) ∷ xs) (x ∷ insert_entry cmp xs e.0 e.1)) after ∙ ap (λ es. x ∷ es) (insert_last xs ys e s.1)

module _ {K X : Type 0} {cmp : K → K → Ordering} (total : IsTotalOrder cmp) (k : K) (v : X) where
  set_step : (e : K × X) (es : List (K × X)) (r : Ordering) → cmp k e.0 ≡ r → insert_entry cmp (e ∷ es) k v ≡ match_ordering r ((k, v) ∷ e ∷ es) ((e.0, v) ∷ es) (e ∷ insert_entry cmp es k v)
  set_step e es r h = ap (λ o. match_ordering o ((k, v) ∷ e ∷ es) ((e.0, v) ∷ es) (e ∷ insert_entry cmp es k v)) h

  found_step : (e : K × X) (es : List (K × X)) (r : Ordering) → cmp k e.0 ≡ r → lookup (is_at (cmp k)) (e ∷ es) ≡ cond (is_eq r) (Some e.1) (lookup (is_at (cmp k)) es)
  found_step e es r h = ap (λ o. cond (is_eq o) (Some e.1) (lookup (is_at (cmp k)) es)) h

  gone_step : (e : K × X) (es : List (K × X)) (r : Ordering) → cmp k e.0 ≡ r → remove_entry (is_at (cmp k)) (e ∷ es) ≡ cond (is_eq r) es (e ∷ remove_entry (is_at (cmp k)) es)
  gone_step e es r h = ap (λ o. cond (is_eq o) es (e ∷ remove_entry (is_at (cmp k)) es)) h

  own_gone : (es : List (K × X)) → remove_entry (is_at (cmp k)) ((k, v) ∷ es) ≡ es
  own_gone es = gone_step (k, v) es Equal (tied_itself total k)

  -- a new key that was set and is taken away
  pub new_gone : (es : List (K × X)) → lookup (is_at (cmp k)) es ≡ None → remove_entry (is_at (cmp k)) (insert_entry cmp es k v) ≡ es
  new_gone [] h = own_gone []
  new_gone (e ∷ es) h = by_answer (cmp k e.0)
      (λ r. ap (remove_entry (is_at (cmp k))) (set_step e es Less r) ∙ own_gone (e ∷ es))
      (λ r. let bad : Some e.1 ≡ None = sym (found_step e es Equal r) ∙ h in cc)
      (λ r. ap (remove_entry (is_at (cmp k))) (set_step e es Greater r) ∙ gone_step e (insert_entry cmp es k v) Greater r ∙ ap (λ ys. e ∷ ys) (new_gone es (sym (found_step e es Greater r) ∙ h)))
