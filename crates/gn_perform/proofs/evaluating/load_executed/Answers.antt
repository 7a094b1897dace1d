use Rattle.gn_runs.specs.Runs.{wrong, spoiled}
use Rattle.gn_projects.specs.Worlds.{unit_end, file_leaves}
use Rattle.gn_perform.proofs.Evaluations.{left_as, ended_as}
use Rattle.gn_perform.proofs.evaluating.load_executed.Goals as goal

pub returns-in-Load : goal.returns-in-Load
returns-in-Load c = λ run ends asked. left_as (unit_end file_leaves) run tt c.in-Load.outcome (rw c.in-Load.is at ends) (rw c.in-Load.is at asked)

pub unreachable-requires : goal.unreachable-requires
unreachable-requires c = rw c.in-Setup.is at c.requires

pub unreachable-requires-in-Import : goal.unreachable-requires-in-Import
unreachable-requires-in-Import c = rw c.in-Import.is at c.requires

pub returns-in-Wrong : goal.returns-in-Wrong
returns-in-Wrong c = λ run ends asked. ended_as (unit_end file_leaves) run (wrong c.in-Wrong.fault) _ (rw c.in-Wrong.is at ends) (rw c.in-Wrong.is at asked)

pub returns-in-Spoiled : goal.returns-in-Spoiled
returns-in-Spoiled c = λ run ends asked. ended_as (unit_end file_leaves) run (spoiled c.in-Spoiled.path c.in-Spoiled.place) _ (rw c.in-Spoiled.is at ends) (rw c.in-Spoiled.is at asked)
