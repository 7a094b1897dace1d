-- Done files of dependencies.
use Rattle.std.proofs.Common.{◌≡◌, ℕ, List, [], ◌++◌, sym, ◌∙◌, ap}
use Rattle.std.proofs.lemmas.List.{map-append}
use Rattle.gn_labels.specs.declared.label.Label.{Label}
use Rattle.gn_resolve.specs.declared.table.Resolved.{Resolved}
use Rattle.gn_resolve.specs.Table.{known_in, exports_known, dones_in}

-- those of one list behind those of another
pub both : (r : Resolved) (xs ys xs' ys' : List Label) (none one two : List (List ℕ)) → none ≡ [] → one ≡ none ++ dones_in r xs' → xs' ≡ xs → two ≡ one ++ dones_in r ys' → ys' ≡ ys
    → two ≡ dones_in r (xs ++ ys)
both r xs ys xs' ys' none one two n a e b h =
    b ∙ ap (λ (z : List Label). one ++ dones_in r z) h
    ∙ ap (λ (z : List (List ℕ)). z ++ dones_in r ys) (a ∙ ap (λ (z : List Label). none ++ dones_in r z) e ∙ ap (λ (z : List (List ℕ)). z ++ dones_in r xs) n)
    ∙ sym (map-append (λ q. (exports_known (known_in r q)).done) xs ys)
