use Rattle.gn_eval.proofs.Configurations.{configuration_ended}
use Rattle.gn_eval.proofs.blocks.end_configuration.Goals as goal

pub returns-clause-runs : goal.returns-clause-runs
returns-clause-runs c need =
    (c.args.env, configuration_ended c.args.env c.args.out.now c.in_ok-configuration_value.field-0 c.context.result.now _ c.context.ensures c.default_toolchain.ensures c.if-lacks_toolchain.ensures c.in_ok-configuration_value.ensures)
