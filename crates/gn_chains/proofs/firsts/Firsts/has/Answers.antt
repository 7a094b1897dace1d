use Rattle.std.proofs.Common.{◌∙◌}
use Rattle.gn_chains.proofs.Places.{any_tie}
use Rattle.gn_chains.proofs.firsts.Firsts.has.Goals as goal

pub returns : goal.returns
returns c = rw (← c.self.view_is) (c.contains.ensures ∙ any_tie c.self.inside.labels.keys c.args.label.now)
