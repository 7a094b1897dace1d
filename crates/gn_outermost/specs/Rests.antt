-- What is left of the outermost block of a file, and how far it runs.
use Rattle.std.specs.Prelude.{◌≡◌, ◌<◌, ℕ, zero, suc, Some, Result, Ok, Err}
use Rattle.gn_tree.specs.Tree.{BlockTree, no_statements, statement_then}
use Rattle.gn_tree.specs.Depth.{IsShallow}
use Rattle.gn_items.specs.Effects.{Effects}
use Rattle.gn_runs.specs.Runs.{Answers, Run}
use Rattle.gn_environment.specs.Environment.{Environment}
use Rattle.gn_meaning.specs.Steps.{Left, ends}
use Rattle.gn_meaning.specs.Meaning.{whole_block_runs}
use Rattle.gn_eval.specs.Library.{LibraryState, Includes, GoesOn}
use Rattle.gn_eval.specs.Ends.{Covers, IsFailure}
use Rattle.gn_eval.specs.declared.ending.EvalEnd.{EvalEnd}
use Rattle.gn_eval.specs.declared.ending.EvalEnd.TheVariants.{Stopped}
use Rattle.gn_outermost.specs.Lacking.{NeedsOver}
use Rattle.gn_outermost.specs.declared.halting.Halt.{Halt}
use Rattle.gn_outermost.specs.declared.halting.Halt.TheVariants as halt
use Rattle.gn_outermost.specs.declared.paused.Paused.{Paused as PausedFile}
use Rattle.gn_outermost.specs.declared.paused.Halted.{Halted}
use Rattle.gn_outermost.specs.declared.paused.Halted.TheVariants.{Ended, Paused, Failed}

-- the statements of a block from the one of a number on
abbrev pub behind : ℕ → BlockTree → BlockTree
behind zero block = block
behind (suc n) no_statements = no_statements
behind (suc n) (statement_then s block) = behind n block

-- the run of a block halts in front of a statement: over all answers that include what is told it is the run of the rest, and over just those told it needs
-- what was noted
pub record Pauses (before after : LibraryState) (left : BlockTree) (env : Environment) (out : Effects) (run : Answers → Run (Left (Unit {0}))) : Type 0 where
  pub rest : (a : Answers) → Includes after.told a → run a ≡ whole_block_runs a left env out
  pub needs : (a : Answers) → after.told ≡ Some a → NeedsOver after.need out.asked (run a)
  pub rose : before.stops < after.stops

-- it has no end
pub record Fails (before after : LibraryState) (e : EvalEnd) (out : Effects) (run : Answers → Run (Left (Unit {0}))) : Type 0 where
  pub runs : (a : Answers) → Covers {T = Unit {0}} after.told (Err e) a → IsFailure after.need e out (run a)
  pub rose : e ≡ Stopped → before.stops < after.stops

-- it has run, over all answers that include what is told
abbrev pub HasRun : LibraryState → Environment → Effects → (Answers → Run (Left (Unit {0}))) → Type 0
HasRun after env out run = (a : Answers) → Includes after.told a → run a ≡ ends tt env out

abbrev pub HaltsAs : LibraryState → LibraryState → BlockTree → Result Halt EvalEnd → Environment → Effects → (Answers → Run (Left (Unit {0}))) → Type 0
HaltsAs before after block (Ok halt.Ended) env out run = HasRun after env out run
HaltsAs before after block (Ok (halt.Before n)) env out run = Pauses before after (behind n block) env out run
HaltsAs before after block (Err e) env out run = Fails before after e out run

-- how far the run of a block comes over a library
pub record Halts (before after : LibraryState) (block : BlockTree) (result : Result Halt EvalEnd) (env : Environment) (out : Effects) (run : Answers → Run (Left (Unit {0}))) : Type 0 where
  pub so : HaltsAs before after block result env out run
  pub goes : GoesOn before after

-- the run of what is left of a file
abbrev pub rest_runs : PausedFile → Answers → Run (Left (Unit {0}))
rest_runs p a = whole_block_runs a (behind p.next p.tree) p.env p.out

-- the same of a file that is kept
abbrev pub StopsAs : LibraryState → LibraryState → Halted → (Answers → Run (Left (Unit {0}))) → Type 0
StopsAs before after (Ended env out) run = HasRun after env out run
StopsAs before after (Paused p) run = IsShallow p.tree × Pauses before after (behind p.next p.tree) p.env p.out run
StopsAs before after (Failed e out tree) run = Fails before after e out run

pub record StopsOn (before after : LibraryState) (result : Halted) (run : Answers → Run (Left (Unit {0}))) : Type 0 where
  pub so : StopsAs before after result run
  pub goes : GoesOn before after

-- what comes back of it has this tree
abbrev pub KeepsTree : Halted → BlockTree → Type 0
KeepsTree (Ended env out) tree = Unit {0}
KeepsTree (Paused p) tree = p.tree ≡ tree
KeepsTree (Failed e out left) tree = left ≡ tree
