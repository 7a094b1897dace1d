-- Words on lists that compute by cases on the list.
use Rattle.std.specs.Prelude.{◌≡◌, ◌⊎◌, ◌≢◌, List, [], ◌∷◌, ◌++◌, Option, option_map}

-- P holds of each element
abbrev pub Each : {X : Type 0} → (X → Type 0) → List X → Type 0
Each P [] = Unit {0}
Each P (x ∷ xs) = P x × Each P xs

-- the lists are as long, and R holds at each place
abbrev pub EachPair : {X Y : Type 0} → (X → Y → Type 0) → List X → List Y → Type 0
EachPair R [] [] = Unit {0}
EachPair R [] (y ∷ ys) = ⊥
EachPair R (x ∷ xs) [] = ⊥
EachPair R (x ∷ xs) (y ∷ ys) = R x y × EachPair R xs ys

-- R holds at some place
abbrev pub SomePair : {X Y : Type 0} → (X → Y → Type 0) → List X → List Y → Type 0
SomePair R [] ys = ⊥
SomePair R (x ∷ xs) [] = ⊥
SomePair R (x ∷ xs) (y ∷ ys) = R x y ⊎ SomePair R xs ys

-- x is one of the list
abbrev pub OneOf : {X : Type 0} → List X → X → Type 0
OneOf [] x = ⊥
OneOf (y ∷ ys) x = (x ≡ y) ⊎ OneOf ys x

-- no element stands twice
abbrev pub AllDiffer : {X : Type 0} → List X → Type 0
AllDiffer [] = Unit {0}
AllDiffer (x ∷ xs) = Each (λ y. x ≢ y) xs × AllDiffer xs

-- where a list is told, it is longer by these; where none is told, none is told afterwards
abbrev pub Extends : {X : Type 0} → Option (List X) → Option (List X) → List X → Type 0
Extends before after more = after ≡ option_map (λ xs. xs ++ more) before
