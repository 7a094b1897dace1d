-- A file that asks for nothing ends with what it leaves, or with its first fault.
use Rattle.std.proofs.Common.{◌≡◌, ℕ, List, Some, subst, ap}
use Rattle.gn_paths.specs.declared.place.Place.{Place}
use Rattle.gn_tree.specs.Tree.{BlockTree}
use Rattle.gn_items.specs.Effects.{Effects, no_effects}
use Rattle.gn_runs.specs.Runs.{Question, has_bytes, End, spoiled, Run}
use Rattle.gn_runs.proofs.TreeLaws.{below_itself}
use Rattle.gn_environment.specs.declared.context.Context.{Context}
use Rattle.gn_environment.specs.Environment.{Environment}
use Rattle.gn_faults.specs.declared.file_kind.FileKind.{FileKind}
use Rattle.gn_meaning.specs.Steps.{Left, ends, onward, then_do}
use Rattle.gn_meaning.specs.Meaning.{whole_block_runs}
use Rattle.gn_eval.specs.Library.{Includes}
use Rattle.gn_executions.specs.declared.host.HostNames.{HostNames}
use Rattle.gn_executions.specs.Laws.{FilesEndAlone}
use Rattle.gn_executions.specs.Units.{content_runs}
use Rattle.gn_executions.specs.Alone.{nothing_there, alone_begins, alone_runs, EndsAlone}
use Rattle.gn_first_stage.specs.declared.alone.UnitEnd.{UnitEnd}
use Rattle.gn_first_stage.specs.declared.alone.UnitEnd.TheVariants.{Wrong, Memory}
use Rattle.gn_first_stage.specs.Alone.{IsWrong, bytes_alone}

-- all that such a file might ask is told
pub all_told : Includes (Some nothing_there) nothing_there
all_told = below_itself nothing_there

-- its run isn't spoiled
pub is_not_spoiled : (path : List ℕ) (place : Place) (asked : List Question) (run : Run (Left (Unit {0}))) → run ≡ record { end = spoiled path place; asked = asked } → EndsAlone run.end → ⊥
is_not_spoiled path place asked run h alone = subst (λ (r : Run (Left (Unit {0}))). EndsAlone r.end) h alone

-- a run that is wrong where its tree is read is wrong
pub wrong_first : {A B : Type 0} (e : UnitEnd) (run : Run (Left A)) (next : A → Environment → Effects → Run (Left B)) → IsWrong e run → IsWrong e (then_do run next)
wrong_first {A} (Wrong fault) run next h = ap (λ (e : End (Left A)). (onward e run.asked next).end) h
wrong_first Memory run next h = tt

-- where its tree is read, the run is that of the tree
pub tree_alone : (bytes : List ℕ) (tree : BlockTree) (env : Environment) (out : Effects) → content_runs (has_bytes bytes) env out ≡ ends tree env out → bytes_alone bytes env out ≡ whole_block_runs nothing_there tree env out
tree_alone bytes tree env out h = ap (λ (r : Run (Left BlockTree)). then_do r (λ t env1 out1. whole_block_runs nothing_there t env1 out1)) h

-- such a file ends by itself, from where it begins
pub begins_alone : FilesEndAlone → (host : HostNames) (context : Context) (kind : FileKind) (file bytes : List ℕ) → EndsAlone (bytes_alone bytes (alone_begins host context kind file) no_effects).end
unfolding alone_runs
begins_alone law host context kind file bytes = law host context kind file (has_bytes bytes)
