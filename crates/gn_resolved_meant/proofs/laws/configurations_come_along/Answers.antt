use Rattle.gn_dependencies.specs.Configurations.{applied, pushed, pushed_public}
use Rattle.gn_resolved_meant.specs.Along.{applied_in, pushed_in, pushed_public_in}
use Rattle.gn_resolved_meant.proofs.Settled.{is_the_one}
use Rattle.gn_resolved_meant.proofs.laws.configurations_come_along.Goals as goal

pub returns-clause-applied : goal.returns-clause-applied
returns-clause-applied c = is_the_one c.no_cycle_is_bounded_paths.ensures.free c.no_cycle_is_bounded_paths.ensures.bounded applied_in applied
    c.configurations_are_given.ensures.applied c.there_is_one_record.ensures.applied

pub returns-clause-pushed : goal.returns-clause-pushed
returns-clause-pushed c = is_the_one c.no_cycle_is_bounded_paths.ensures.free c.no_cycle_is_bounded_paths.ensures.bounded pushed_in pushed
    c.configurations_are_given.ensures.pushed c.there_is_one_record.ensures.pushed

pub returns-clause-public : goal.returns-clause-public
returns-clause-public c = is_the_one c.no_cycle_is_bounded_paths.ensures.free c.no_cycle_is_bounded_paths.ensures.bounded pushed_public_in pushed_public
    c.configurations_are_given.ensures.public c.there_is_one_record.ensures.public
