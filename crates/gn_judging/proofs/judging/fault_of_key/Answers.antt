use Rattle.std.proofs.Common.{Some, ap, sym, refl, ◌∙◌}
use Rattle.gn_items.specs.declared.key.Key.{Key}
use Rattle.gn_book.specs.Keys.{key_of}
use Rattle.gn_closure.specs.Reach.{Setup, Load}
use Rattle.gn_projects.specs.Worlds.{world_of}
use Rattle.gn_builds.specs.Rest.{faults_of_key}
use Rattle.gn_judging.proofs.ExecutionLemmas.{key_is}
use Rattle.gn_judging.proofs.judging.fault_of_key.Goals as goal

pub fault_of_unit-requires-clause-unit : goal.fault_of_unit-requires-clause-unit
fault_of_unit-requires-clause-unit c = (Setup _, key_is c.args.book.now c.args.number _ c.requires.number ∙ ap key_of c.in-Setup.is, refl)

pub fault_of_unit-requires-in-Load-clause-unit : goal.fault_of_unit-requires-in-Load-clause-unit
fault_of_unit-requires-in-Load-clause-unit c = (Load _ _, key_is c.args.book.now c.args.number _ c.requires.number ∙ ap key_of c.in-Load.is, refl)

pub returns-in-Read : goal.returns-in-Read
returns-in-Read c = λ files rest. ap (λ (k : Key). faults_of_key (world_of files) (key_of k)) c.in-Read.is

pub returns-in-Import : goal.returns-in-Import
returns-in-Import c = λ files rest. ap (λ (k : Key). faults_of_key (world_of files) (key_of k)) c.in-Import.is

pub returns-in-Resolve : goal.returns-in-Resolve
returns-in-Resolve c = λ files rest. ap (λ (k : Key). faults_of_key (world_of files) (key_of k)) c.in-Resolve.is
