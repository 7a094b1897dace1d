-- What was executed ahead, of what was wanted.
use Rattle.std.specs.Prelude.{◌≡◌, ◌⊎◌, ℕ, List, [], ◌∷◌, ◌++◌, Option, Some, None}
use Rattle.gn_closure.specs.Reach.{Load}
use Rattle.gn_core.specs.Keys.{Read, Unit_of, Filed as Answers}
use Rattle.gn_core.specs.Layered.{IsPart}
use Rattle.gn_book.specs.Keys.{key_of}
use Rattle.gn_answers.specs.declared.answer.Filed.{Filed}
use Rattle.gn_prepared.specs.Copies.{HasNoUnits}
use Rattle.gn_prepared.specs.declared.wanted.Wanted.{Wanted}
use Rattle.gn_load.specs.Current.{IsCurrent}
use Rattle.gn_load.specs.declared.current.CurrentBase.{CurrentBase}
use Rattle.gn_load.specs.declared.ready.Ready.{Ready}

-- build files are executed over a part of what is filed that has no units, with the base of what is filed
pub record IsExecutedOver (b : CurrentBase) (part filed : Answers) : Type 0 where
  pub current : IsCurrent b filed
  pub no_units : HasNoUnits part
  pub within : IsPart part filed

-- it is the answer of what was wanted
pub record IsReadyOf (w : Wanted) (answer : Filed) (r : Ready) : Type 0 where
  pub key : key_of w.key ≡ Unit_of (Load r.directory r.toolchain)
  pub file : key_of r.file ≡ Read w.path
  pub content : r.content ≡ w.content
  pub is : r.answer ≡ answer

-- one more stands in front, if there is one
abbrev pub PutsReady : List Ready → List Ready → Option Ready → Type 0
PutsReady old new None = new ≡ old
PutsReady old new (Some r) = new ≡ r ∷ old

abbrev pub AddsReady : List Ready → List Ready → Wanted → Option Filed → Type 0
AddsReady old new w answer = (new ≡ old) ⊎ ((a : Filed) × (r : Ready) × (answer ≡ Some a) × (new ≡ r ∷ old) × IsReadyOf w a r)

-- the last that is wanted is taken out, with its answer
abbrev pub TakesLast : List Wanted → List Wanted → List (Option Filed) → List (Option Filed) → Option (ℕ × (Wanted × Option Filed)) → Type 0
TakesLast old new was is None = Unit {0}
TakesLast old new was is (Some last) = (old ≡ new ++ last.1.0 ∷ []) × (was ≡ is ++ last.1.1 ∷ [])
