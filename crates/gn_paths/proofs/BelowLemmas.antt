-- Texts that begin with another and a slash.
use Rattle.std.proofs.Common.{◌≡◌, ℕ, Bool, true, false, ◌&&◌, List, [], ◌∷◌, ◌++◌, length, take, drop, refl, sym, ap, ◌∙◌, nat_eq}
use Rattle.std.specs.List.{starts_with}
use Rattle.std.specs.Cmp.Lexicographic.{pointwise, nat_list_eq_equiv}

joined : (b l r s : Bool) → l ≡ (r && s) → (b && l) ≡ ((b && r) && s)
joined true l r s h = h
joined false l r s h = refl

-- a text begins with another and a slash where it begins with the other, and a slash comes next
pub starts_with_slash : (outer dir : List ℕ) → starts_with nat_eq dir (outer ++ 47 ∷ []) ≡ (starts_with nat_eq dir outer && starts_with nat_eq (drop (length outer) dir) (47 ∷ []))
starts_with_slash [] dir = refl
starts_with_slash (x ∷ xs) [] = refl
starts_with_slash (x ∷ xs) (y ∷ ys) = joined (nat_eq x y) _ _ _ (starts_with_slash xs ys)

-- the same, from the two parts as code finds them
pub begins_found : (outer dir rest : List ℕ) → pointwise nat_eq (take (length outer) dir) outer ≡ true → rest ≡ drop (length outer) dir → starts_with nat_eq rest (47 ∷ []) ≡ starts_with nat_eq dir (outer ++ 47 ∷ [])
begins_found outer dir rest h e =
    ap (λ r. starts_with nat_eq r (47 ∷ [])) e ∙ sym (starts_with_slash outer dir ∙ ap (λ b. b && starts_with nat_eq (drop (length outer) dir) (47 ∷ [])) (nat_list_eq_equiv.symm outer (take (length outer) dir) ∙ h))

pub begins_missed : (outer dir : List ℕ) → pointwise nat_eq (take (length outer) dir) outer ≡ false → false ≡ starts_with nat_eq dir (outer ++ 47 ∷ [])
begins_missed outer dir h =
    sym (starts_with_slash outer dir ∙ ap (λ b. b && starts_with nat_eq (drop (length outer) dir) (47 ∷ [])) (nat_list_eq_equiv.symm outer (take (length outer) dir) ∙ h))
