-- What stands behind a reference when a borrow of it ends.
use Rattle.std.specs.Prelude.{⊤}
use base.Fml.{Fml}
use denote.RattleType.{RattleType}
use denote.Ref.{MutBor}
use denote.Follow.{follows_so}
use mathlib.Core.Option.{none}

-- a value of which P holds, whatever the result shows
abbrev pub Ends : (R : RattleType) → MutBor R.Denot → (R.Denot → Type 0) → Fml
Ends R reference P = follows_so R R reference.ghost_name none (λ _ _. ⊤) P
