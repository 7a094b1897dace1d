-- How what is answered for a dotfile, and for build arguments, stands to its run.
use Rattle.std.specs.Prelude.{◌≡◌, ℕ, List, Result, Ok, Err}
use Rattle.gn_items.specs.Effects.{Effects}
use Rattle.gn_values.specs.Val.{Val}
use Rattle.gn_values.specs.Tables.{Table}
use Rattle.gn_tree.specs.Tree.{BlockTree}
use Rattle.gn_runs.specs.Runs.{has_bytes, ended, wrong, Run}
use Rattle.gn_environment.specs.Environment.{Environment, entries_here}
use Rattle.gn_meaning.specs.Steps.{Left, Steps, ends, then_do}
use Rattle.gn_meaning.specs.Meaning.{whole_block_runs}
use Rattle.gn_executions.specs.Units.{content_runs}
use Rattle.gn_executions.specs.Alone.{nothing_there}
use Rattle.gn_executions.specs.Dotfile.{DotfileState, dotfile_of, dotfile_ends}
use Rattle.gn_first_stage.specs.declared.alone.UnitEnd.{UnitEnd}
use Rattle.gn_first_stage.specs.declared.alone.UnitEnd.TheVariants.{Wrong, Memory}
use Rattle.gn_dotfile.specs.declared.said.Dotfile.{Dotfile}
use Rattle.gn_dotfile.specs.declared.names.DotfileNames.{DotfileNames}
use Rattle.gn_dotfile.specs.Names.{names_state, dotfile_state}

-- a run has ended with its first fault; of want of memory nothing is claimed
abbrev pub IsWrong : {A : Type 0} → UnitEnd → Run A → Type 0
IsWrong (Wrong fault) run = run.end ≡ wrong fault
IsWrong Memory run = Unit {0}

-- the bytes of a file are read as this tree, or are wrong
abbrev pub IsParsed : Result BlockTree UnitEnd → Environment → Effects → Run (Left BlockTree) → Type 0
IsParsed (Ok tree) env out run = run ≡ ends tree env out
IsParsed (Err e) env out run = IsWrong e run

-- a file that stands alone has run and leaves this environment, or is wrong
abbrev pub HasRunAlone : Result (Unit {0}) UnitEnd → Environment → Effects → Run (Left (Unit {0})) → Type 0
HasRunAlone (Ok u) env out run = run ≡ ends tt env out
HasRunAlone (Err e) env out run = IsWrong e run

-- what these bytes run to as such a file, in an environment and behind effects
abbrev pub bytes_alone : List ℕ → Steps (Unit {0})
bytes_alone bytes env out = then_do (content_runs (has_bytes bytes) env out) (λ tree env1 out1. whole_block_runs nothing_there tree env1 out1)

-- the same of a dotfile, whose names are looked at then, and of build arguments
abbrev pub dotfile_alone : List ℕ → Steps DotfileState
dotfile_alone bytes env out = then_do (bytes_alone bytes env out) (λ _ env1 out1. dotfile_ends (dotfile_of (entries_here env1)) env1 out1)

abbrev pub arguments_alone : List ℕ → Steps (Table Val)
arguments_alone bytes env out = then_do (bytes_alone bytes env out) (λ _ env1 out1. ends (entries_here env1) env1 out1)

-- what a run leaves, and what it has printed
abbrev pub LeavesWith : {A : Type 0} → A → List (List ℕ) → Run (Left A) → Type 0
LeavesWith {A} value prints run =
    (left : Left A) × (run.end ≡ ended left) × (left.value ≡ value) × (left.effects.prints ≡ prints)

-- a run ends with a value, or is wrong
abbrev pub EndsIn : {A T : Type 0} → (T → A) → Result T UnitEnd → Environment → Effects → Run (Left A) → Type 0
EndsIn view (Ok x) env out run = run ≡ ends (view x) env out
EndsIn view (Err e) env out run = IsWrong e run

-- what the names of a dotfile say, with what was printed; or the same end
abbrev pub IsSaidWith : Result DotfileNames UnitEnd → Effects → Result Dotfile UnitEnd → Type 0
IsSaidWith (Ok names) out (Ok d) = (dotfile_state d ≡ names_state names) × (d.prints ≡ out.prints)
IsSaidWith (Ok names) out (Err f) = ⊥
IsSaidWith (Err e) out (Ok d) = ⊥
IsSaidWith (Err e) out (Err f) = f ≡ e

-- the names that build arguments set, with what was printed; or the same end
abbrev pub AreSetWith : Result (Table Val) UnitEnd → Effects → Result (Table Val × List (List ℕ)) UnitEnd → Type 0
AreSetWith (Ok entries) out (Ok r) = (r.0 ≡ entries) × (r.1 ≡ out.prints)
AreSetWith (Ok entries) out (Err f) = ⊥
AreSetWith (Err e) out (Ok r) = ⊥
AreSetWith (Err e) out (Err f) = f ≡ e

abbrev pub IsDotfile : Result Dotfile UnitEnd → Run (Left DotfileState) → Type 0
IsDotfile (Ok d) run = LeavesWith (dotfile_state d) d.prints run
IsDotfile (Err e) run = IsWrong e run

abbrev pub AreArguments : Result (Table Val × List (List ℕ)) UnitEnd → Run (Left (Table Val)) → Type 0
AreArguments (Ok r) run = LeavesWith r.0 r.1 run
AreArguments (Err e) run = IsWrong e run
