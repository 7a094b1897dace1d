use Rattle.std.proofs.Common.{ap, ◌∙◌}
use Rattle.gn_environment.specs.Chains.{is_one_of}
use Rattle.gn_layers.proofs.NameSets.{has_number}
use Rattle.gn_layers.proofs.name_set.NameSet.has.Goals as goal

pub returns : goal.returns
returns c =
    c.is_some.ensures ∙ has_number c.self.inside.table c.args.name.now c.number.result c.number.ensures.found c.number.ensures.lacking
    ∙ c.self.invariant c.args.name.now ∙ ap (is_one_of c.args.name.now) c.self.view_is
