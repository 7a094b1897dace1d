-- Words for laws of the calls.
use Rattle.std.specs.Prelude.{◌≡◌, List, [], ◌∷◌}
use Rattle.gn_values.specs.Val.{Val}
use Rattle.gn_calls_text.specs.Answers.{Settled, gives}

-- each of the second values is what is answered to the first value at its place alone
abbrev pub AreGivenAlone : (Val → Settled) → List Val → List Val → Type 0
AreGivenAlone alone [] [] = Unit {0}
AreGivenAlone alone [] (r ∷ rs) = ⊥
AreGivenAlone alone (v ∷ vs) [] = ⊥
AreGivenAlone alone (v ∷ vs) (r ∷ rs) = (alone v ≡ gives r) × AreGivenAlone alone vs rs
