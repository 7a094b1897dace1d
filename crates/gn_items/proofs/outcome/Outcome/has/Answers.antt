use Rattle.std.proofs.Common.{◌∙◌, ap, is_some}
use Rattle.gn_items.specs.Effects.{is_defined}
use Rattle.gn_items.proofs.LabelLemmas.{has_place}
use Rattle.gn_items.proofs.outcome.Outcome.has.Goals as goal

pub returns : goal.returns
unfolding is_defined
returns c =
    c.contains_key.ensures ∙ ap is_some (c.self.invariant c.args.label.now) ∙ has_place c.args.label.now c.self.inside.items.items ∙ ap (is_defined c.args.label.now) c.self.view_is
