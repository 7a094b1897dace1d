-- Lists of rules that grow element by element.
use Rattle.std.proofs.Common.{◌≡◌, ℕ, ◌+◌, ◌<◌, List, ◌++◌, length, drop, get_or, map, sym, ap, ◌∙◌}
use Rattle.std.specs.List.{flat_map}
use Rattle.std.proofs.lemmas.List.{drop_more, append_assoc}

pub flat_step : {A B C : Type 0} (g : A → B) (f : B → List C) (base now new : List C) (xs : List A) (i : ℕ) (x : A) → i < length xs → x ≡ get_or xs i x
    → base ≡ now ++ flat_map f (map g (drop i xs)) → new ≡ now ++ f (g x) → base ≡ new ++ flat_map f (map g (drop (i + 1) xs))
flat_step g f base now new xs i x l e h n =
    h ∙ ap (λ z. now ++ flat_map f (map g z)) (drop_more xs i x l)
    ∙ ap (λ z. now ++ (f (g z) ++ flat_map f (map g (drop (i + 1) xs)))) (sym e)
    ∙ sym (append_assoc now (f (g x)) (flat_map f (map g (drop (i + 1) xs))))
    ∙ ap (λ z. z ++ flat_map f (map g (drop (i + 1) xs))) (sym n)

pub flat_next : {A C : Type 0} (f : A → List C) (base now new : List C) (xs : List A) (i : ℕ) (x : A) → i < length xs → x ≡ get_or xs i x
    → base ≡ now ++ flat_map f (drop i xs) → new ≡ now ++ f x → base ≡ new ++ flat_map f (drop (i + 1) xs)
flat_next f base now new xs i x l e h n =
    h ∙ ap (λ z. now ++ flat_map f z) (drop_more xs i x l)
    ∙ ap (λ z. now ++ (f z ++ flat_map f (drop (i + 1) xs))) (sym e)
    ∙ sym (append_assoc now (f x) (flat_map f (drop (i + 1) xs)))
    ∙ ap (λ z. z ++ flat_map f (drop (i + 1) xs)) (sym n)
