use Rattle.std.proofs.Common.{sym, ◌∙◌}
use Rattle.gn_items.specs.Effects.{with_defined}
use Rattle.gn_calls_scopes.proofs.Defined.{defined_asks_nothing, failed_as_well, fails_so, fails_where}
use Rattle.gn_calls_scopes.proofs.items.close_item.Goals as goal

pub returns-then-is_known : goal.returns-then-is_known
returns-then-is_known c =
    let out = c.args.out.now in
    let after = with_defined c.args.kind c.args.item.now out in
    failed_as_well c.duplicate.result out after _ (defined_asks_nothing c.args.kind c.args.item.now out)
    (fails_where _ c.duplicate.result out _ _ (sym c.is_known.ensures ∙ c.if-is_known.true) (fails_so _ c.duplicate.result _ out c.duplicate.ensures))
