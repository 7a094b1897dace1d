-- The items of a list value are the list that it was made of, and the entries of a scope likewise.
use Rattle.std.proofs.Common.{◌≡◌, ℕ, List, [], ◌∷◌, refl, sym, ap, ◌∙◌}
use Rattle.gn_value_model.specs.Val.{Val, vlist, vscope, vals_of, binds_of, list_of, entries_of}

pub list_of-vals : (vs : List Val) → list_of (vals_of vs) ≡ vs
list_of-vals [] = refl
list_of-vals (v ∷ vs) = ap (λ r. v ∷ r) (list_of-vals vs)

pub entries_of-binds : (bs : List (List ℕ × Val)) → entries_of (binds_of bs) ≡ bs
entries_of-binds [] = refl
entries_of-binds (b ∷ bs) = ap (λ r. b ∷ r) (entries_of-binds bs)

abbrev list_in : Val → List Val
list_in (vlist vs) = list_of vs
list_in _ = []

abbrev scope_in : Val → List (List ℕ × Val)
scope_in (vscope bs) = entries_of bs
scope_in _ = []

pub same_list : (xs ys : List Val) → vlist (vals_of xs) ≡ vlist (vals_of ys) → xs ≡ ys
same_list xs ys e = sym (list_of-vals xs) ∙ ap list_in e ∙ list_of-vals ys

pub same_scope : (xs ys : List (List ℕ × Val)) → vscope (binds_of xs) ≡ vscope (binds_of ys) → xs ≡ ys
same_scope xs ys e = sym (entries_of-binds xs) ∙ ap scope_in e ∙ entries_of-binds ys
