-- What follows from what tests answer, beside what the library has in `Bool`.
use Rattle.std.proofs.Common.{◌≡◌, Bool, true, false, cond, ◌&&◌, T, refl}
use Rattle.std.proofs.lemmas.Bool.{false≢true, and_parts}

pub first_true : (a b : Bool) → (a && b) ≡ true → a ≡ true
first_true a b h = (and_parts a b h).0

pub second_true : (a b : Bool) → (a && b) ≡ true → b ≡ true
second_true a b h = (and_parts a b h).1

-- the first test fails, and the second passes
pub neither_but_second : (a b : Bool) → cond a false b ≡ true → (a ≡ false) × (b ≡ true)
neither_but_second true b e = absurd (false≢true e)
neither_but_second false b e = (refl, e)

pub second_holds : (a b : Bool) → T (a && b) → T b
second_holds true b h = h
second_holds false b h = absurd h
