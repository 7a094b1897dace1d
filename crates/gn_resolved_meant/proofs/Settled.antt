-- What is said of the configurations of a target is what the functions give.
use Rattle.std.proofs.Common.{ℕ, suc, List, length, refl}
use Rattle.gn_labels.specs.declared.label.Label.{Label}
use Rattle.gn_dependencies.specs.Shape.{Shape}
use Rattle.gn_dependencies.specs.Configurations.{IsSettled, IsApplied, IsPushed, IsPushedPublic}
use Rattle.gn_dependencies.specs.Laws.{BoundedPathsHaveNoCycle, NoCycleBoundsPaths, IsOne}
use Rattle.gn_resolved_meant.specs.Along.{applied_in, pushed_in, pushed_public_in}
use Rattle.gn_resolved_meant.specs.Laws.{Settles, IsTheOne}

pub settles_applied : Settles applied_in IsApplied
unfolding applied_in
settles_applied all g t e = record { depth = suc (length all); ends = e; is = refl }

pub settles_pushed : Settles pushed_in IsPushed
unfolding pushed_in
settles_pushed all g t e = record { depth = suc (length all); ends = e; is = refl }

pub settles_public : Settles pushed_public_in IsPushedPublic
unfolding pushed_public_in
settles_public all g t e = record { depth = suc (length all); ends = e; is = refl }

-- where only the labels have dependencies, their number bounds the paths of whatever has a bound
pub is_the_one : BoundedPathsHaveNoCycle → NoCycleBoundsPaths → (given : List Label → Shape → Label → List Label) (list : Shape → ℕ → Label → List Label)
    → Settles given (λ g t xs. IsSettled g list t xs) → IsOne (λ g t xs. IsSettled g list t xs) → IsTheOne given (λ g t xs. IsSettled g list t xs)
is_the_one free bounded given list settles one all g only t xs s = one g t xs (given all g t) s (settles all g t (bounded g all only t (free g s.depth t s.ends)))
