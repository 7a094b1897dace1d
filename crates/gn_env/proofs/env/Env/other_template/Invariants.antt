use Rattle.std.proofs.Common.{◌≡◌}
use Rattle.gn_environment.specs.Imports.{first_name, other_template}
use Rattle.gn_env.proofs.env.Env.other_template.Given as goal

abbrev pub invariant-loop-name : goal.invariant-loop-name
invariant-loop-name l =
    first_name (other_template l.self l.self.chain.inner) l.name-iterator ≡ first_name (other_template l.self l.self.chain.inner) l.templates.entries
