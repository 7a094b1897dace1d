use Rattle.std.proofs.Common.{◌∷◌, ◌++◌, [], ap, ◌∙◌}
use Rattle.std.proofs.lemmas.List.{append-nil}
use Rattle.std.proofs.lemmas.List.Concat.{flat_map-append}
use Rattle.gn_graph.specs.declared.rule.UnitRules.TheVariants.{Under}
use Rattle.gn_graph.specs.Facts.{unit_horns, unit_rules_in}
use Rattle.gn_graph.proofs.rule.hang.Goals as goal

pub returns : goal.returns
returns c =
    let own = Under c.args.unit c.args.rules in
    ap unit_rules_in c.in_ok-push.ensures.items
    ∙ flat_map-append unit_horns c.args.done.now.items (own ∷ [])
    ∙ ap (λ z. unit_rules_in c.args.done.now.items ++ z) (append-nil (unit_horns own))
