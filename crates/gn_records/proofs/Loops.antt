-- Loops that go on by an item, over what they have made of the items before it.
use Rattle.std.proofs.Common.{◌≡◌, ℕ, ◌+◌, ◌<◌, ◌≤◌, List, [], ◌∷◌, ◌++◌, map, take, get_or, length, ap, sym, ◌∙◌}
use Rattle.std.specs.List.{flat_map}
use Rattle.std.proofs.lemmas.List.{map_more, flat_map_more, take_more, take_all}

-- what is made of one item stands behind
pub mapped_more : {X Y : Type 0} (f : X → Y) (xs : List X) (i : ℕ) (x : X) (old new : List Y) → i < length xs → x ≡ get_or xs i x → old ≡ map f (take i xs) → new ≡ old ++ f x ∷ [] → new ≡ map f (take (i + 1) xs)
mapped_more f xs i x old new within item before grown =
    grown
    ∙ ap (λ z. z ++ f x ∷ []) before
    ∙ ap (λ z. map f (take i xs) ++ f z ∷ []) item
    ∙ sym (map_more f xs i x within)

-- behind the last item
pub mapped_all : {X Y : Type 0} (f : X → Y) (xs : List X) (i : ℕ) (old new : List Y) → length xs ≤ i → old ≡ map f (take i xs) → new ≡ old → new ≡ map f xs
mapped_all f xs i old new behind before same = same ∙ before ∙ ap (map f) (take_all i xs behind)

-- the same of loops that put lists behind one another
pub joined_more : {X A : Type 0} (f : X → List A) (xs : List X) (i : ℕ) (x : X) (first old new : List A) → i < length xs → x ≡ get_or xs i x → old ≡ first ++ flat_map f (take i xs) → new ≡ old ++ f x → new ≡ first ++ flat_map f (take (i + 1) xs)
joined_more f xs i x first old new within item before grown =
    grown
    ∙ ap (λ z. z ++ f x) before
    ∙ flat_map_more f first (take i xs) x
    ∙ ap (λ z. first ++ flat_map f (take i xs ++ z ∷ [])) item
    ∙ ap (λ z. first ++ flat_map f z) (sym (take_more xs i x within))

pub joined_all : {X A : Type 0} (f : X → List A) (xs : List X) (i : ℕ) (first old : List A) → length xs ≤ i → old ≡ first ++ flat_map f (take i xs) → old ≡ first ++ flat_map f xs
joined_all f xs i first old behind before = before ∙ ap (λ z. first ++ flat_map f z) (take_all i xs behind)
