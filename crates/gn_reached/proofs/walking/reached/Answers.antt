use Rattle.std.proofs.Common.{sym, ◌∙◌}
use Rattle.gn_basics.proofs.Results.{if_ok}
use Rattle.gn_reached.proofs.walking.reached.Goals as goal

pub returns : goal.returns
returns g c =
    if_ok c.in_label_order.result
    (λ ordered are.
    c.reached_targets_are_closed.ensures.is (g.G.Graph.all c.args.graph.now) (g.G.Graph.default c.args.graph.now) (g.G.Graph.shape c.args.graph.now) c.requires c.args.targets.now ordered.items
    (rw c.default_toolchain.ensures at are.rises)
    (λ q. (λ h. (c.in_ok-walked.ensures q).0 (sym (are.same q) ∙ h), λ h. are.same q ∙ (c.in_ok-walked.ensures q).1 h)))
    c.in_label_order.ensures
