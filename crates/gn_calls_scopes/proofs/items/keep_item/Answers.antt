use Rattle.std.proofs.Common.{option_map, sym}
use Rattle.gn_items.specs.Effects.{with_defined}
use Rattle.gn_values.specs.View.{val_of}
use Rattle.gn_calls_scopes.proofs.Defined.{defined_asks_nothing, failed_as_well, leaves_so}
use Rattle.gn_calls_scopes.proofs.items.keep_item.Goals as goal

pub returns-in_err-close_item : goal.returns-in_err-close_item
returns-in_err-close_item c =
    let out = c.args.out.now in
    let after = with_defined c.args.kind c.args.item out in
    leaves_so (option_map val_of) c.from_residual.result _ c.close_item.new.env out _ c.from_residual.ensures.1
    (failed_as_well _ after out _ (sym (defined_asks_nothing c.args.kind c.args.item out)) c.in_err-close_item.ensures)
