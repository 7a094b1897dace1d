use Rattle.gn_runs.specs.Runs.{wrong, spoiled}
use Rattle.gn_projects.specs.Files.{left_end}
use Rattle.gn_perform.proofs.Evaluations.{left_as, ended_as}
use Rattle.gn_perform.proofs.evaluating.import_executed.Goals as goal

pub unreachable-requires : goal.unreachable-requires
unreachable-requires c = rw c.in-Setup.is at c.requires

pub unreachable-requires-in-Load : goal.unreachable-requires-in-Load
unreachable-requires-in-Load c = rw c.in-Load.is at c.requires

pub returns-in-Import : goal.returns-in-Import
returns-in-Import c = λ run ends asked. left_as (left_end (λ value. value)) run c.in-Import.value c.in-Import.outcome (rw c.in-Import.is at ends) (rw c.in-Import.is at asked)

pub returns-in-Wrong : goal.returns-in-Wrong
returns-in-Wrong c = λ run ends asked. ended_as (left_end (λ value. value)) run (wrong c.in-Wrong.fault) _ (rw c.in-Wrong.is at ends) (rw c.in-Wrong.is at asked)

pub returns-in-Spoiled : goal.returns-in-Spoiled
returns-in-Spoiled c = λ run ends asked. ended_as (left_end (λ value. value)) run (spoiled c.in-Spoiled.path c.in-Spoiled.place) _ (rw c.in-Spoiled.is at ends) (rw c.in-Spoiled.is at asked)
