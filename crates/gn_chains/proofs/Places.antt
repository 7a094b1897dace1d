-- A set of labels in their order, as a list.
use Rattle.std.proofs.Common.{◌≡◌, ℕ, List, [], ◌∷◌, ◌++◌, Bool, true, false, Option, Some, None, IfSome, IfNone, is_some, get_or, slice_get, position, if◌then◌else◌, sym, ◌∙◌, ap}
use Rattle.std.specs.List.{list_any}
use Rattle.std.proofs.lemmas.List.Quantifiers.{position-Some}
use Rattle.std.proofs.lemmas.Option.{slice_get-get_or}
use Rattle.indexmap.specs.IndexSet.{insert_key}
use Rattle.gn_labels.specs.declared.label.Label.{Label}
use Rattle.gn_labels.specs.contracts.label.LabelPartialEq.TheImpl.{eq-value}
use Rattle.gn_dependencies.specs.Lists.{has}
use Rattle.gn_dependencies.proofs.Same.{same}
use Rattle.gn_dependencies.proofs.SameLabel.{tie}

pub any_tie : (xs : List Label) (q : Label) → list_any (eq-value.it q) xs ≡ has xs q
any_tie xs q = λ i. list_any (λ k. tie q k i) xs

pub is_there : (xs : List Label) (q : Label) (b : Bool) → b ≡ list_any (eq-value.it q) xs → b ≡ true → xs ≡ (if has xs q then xs else xs ++ q ∷ [])
is_there xs q b h t = sym (ap (λ c. if c then xs else xs ++ q ∷ []) (sym (any_tie xs q) ∙ sym h ∙ t))

pub put : (xs new : List Label) (k q : Label) → k ≡ q → new ≡ insert_key eq-value.it xs k → new ≡ (if has xs q then xs else xs ++ q ∷ [])
put xs new k q e h = h ∙ ap (insert_key eq-value.it xs) e ∙ ap (λ c. if c then xs else xs ++ q ∷ []) (any_tie xs q)

pub place_found : (xs : List Label) (q : Label) (r : Option ℕ) → r ≡ position (eq-value.it q) xs → IfSome r (λ n. slice_get xs n ≡ Some q)
place_found xs q None h = tt
place_found xs q (Some n) h =
    let p = position-Some (eq-value.it q) xs n q (sym h) in
    slice_get-get_or xs n q p.0 ∙ ap Some (sym (same q (get_or xs n q) (sym (tie q (get_or xs n q)) ∙ p.1)))

pub place_lacking : (xs : List Label) (q : Label) (r : Option ℕ) → is_some r ≡ list_any (eq-value.it q) xs → IfNone r (has xs q ≡ false)
place_lacking xs q None h = sym (any_tie xs q) ∙ sym h
place_lacking xs q (Some n) h = tt
