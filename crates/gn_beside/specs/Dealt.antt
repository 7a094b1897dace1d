-- Answers for the places of a list.
use Rattle.std.specs.Prelude.{◌≡◌, ℕ, List, length, Option, Result, Ok, IfSome, IfOk}
use Rattle.std.specs.List.{All}
use Rattle.std.specs.declared.vec.Vec.{Vec}
use Rattle.gn_threads.specs.Places.{AllFrom}
use Rattle.gn_beside.specs.declared.placed.Placed.{Placed}

-- an answer is one that a call gives for the place
abbrev pub IsMade : {X E : Type 0} → (ℕ → Result X E → Type 0) → ℕ → X → Type 0
IsMade gives place x = gives place (Ok x)

-- these are answers for so many places, in their order
abbrev pub AreMade : {X E : Type 0} → (ℕ → Result X E → Type 0) → ℕ → List X → Type 0
AreMade gives count xs = (length xs ≡ count) × AllFrom (IsMade gives) 0 xs

-- those that there are stand at their places
abbrev pub AreSlots : {X E : Type 0} → (ℕ → Result X E → Type 0) → List (Option X) → Type 0
AreSlots gives slots = AllFrom (λ place slot. IfSome slot (IsMade gives place)) 0 slots

-- each is an answer for the place beside it
abbrev pub ArePlaced : {X E : Type 0} → (ℕ → Result X E → Type 0) → List (Placed X) → Type 0
ArePlaced gives = All (λ one. IsMade gives one.place one.answer)

-- what each thread gives is such a list, where it gives one
abbrev pub AreShared : {X E A D : Type 0} → (ℕ → Result X E → Type 0) → List (Result (Vec (Placed X) A) D) → Type 0
AreShared gives = All (λ share. IfOk share (λ answers. ArePlaced gives answers.items))
