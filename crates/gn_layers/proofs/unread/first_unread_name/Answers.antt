use Rattle.std.proofs.Common.{option_map, sym, ap, ◌∙◌}
use Rattle.gn_layers.specs.Named.{texted}
use Rattle.gn_environment.specs.Unread.{first_unread_of, earlier, unread_at}
use Rattle.gn_layers.specs.View.{variables_in}
use Rattle.gn_environment.proofs.Earlier.{earlier_assoc}
use Rattle.gn_layers.proofs.unread.first_unread_name.Goals as goal

pub loop-number-preserved : goal.loop-number-preserved
loop-number-preserved c =
    let names = c.args.names.now in
    let before = option_map (λ p. (p.0.now, p.1)) c.loop-number.first in
    let unread = c.in-Some.variable.now.unread in
    let rest = first_unread_of (texted names (variables_in c.next.new.self)) in
    ap (λ o. earlier o rest) c.earlier_name-first.ensures
    ∙ earlier_assoc before (unread_at c.numbered_name.result.now unread) rest
    ∙ ap (λ k. earlier before (earlier (unread_at k unread) rest)) c.numbered_name.ensures
    ∙ ap (λ es. earlier before (first_unread_of (texted names (variables_in es)))) (sym c.in-Some.ensures.steps)
    ∙ c.loop-number.invariant
