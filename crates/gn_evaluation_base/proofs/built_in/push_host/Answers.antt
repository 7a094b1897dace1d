use Rattle.std.proofs.Common.{◌∷◌, ◌++◌, map, codes, ◌∙◌}
use Rattle.gn_values.specs.View.{entry_of}
use Rattle.gn_executions.specs.BuiltIn.{overridden}
use Rattle.gn_evaluation_base.proofs.built_in.push_host.Goals as goal

pub returns : goal.returns
returns c later =
    c.in_ok-push_system.ensures later
    ∙ (λ i. map entry_of c.args.variables.now.items ++ overridden c.args.context.now.overrides (codes "host_os", c.as_bytes-os.ensures i) ∷ overridden c.args.context.now.overrides (codes "host_cpu", c.as_bytes-cpu.ensures i) ∷ later)
