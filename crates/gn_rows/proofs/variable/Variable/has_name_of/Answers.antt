use Rattle.std.proofs.Common.{◌∙◌}
use Rattle.gn_rows.proofs.NameLemmas.{names-tell}
use Rattle.gn_rows.proofs.variable.Variable.has_name_of.Goals as goal

pub returns : goal.returns
returns c = c.eq.ensures ∙ names-tell c.args.self c.args.other
