use Rattle.std.proofs.Common.{◌≡◌, true, false, sym, ◌∙◌, map, rules}
use Rattle.gn_values.specs.Limits.{IsList}
use Rattle.gn_values.specs.Operators.{is_among}
use Rattle.gn_values.specs.View.{val_of}
use Rattle.gn_values.proofs.Among.{kept_same, kept_more, kept_fits}
use Rattle.gn_values.proofs.value.Items.no_members.Goals as goal

pub push_copy-requires : goal.push_copy-requires
push_copy-requires c =
    let new : is_among (val_of c.item-item.result) (map val_of c.args.others.now) ≡ false = sym c.if-is_member.ensures in
    let limits : IsList (map val_of c.as_slice-item-items.result.now) = rw c.as_slice-item-items.ensures c.self.invariant.limits in
    let fits = kept_fits _ _ _ _ _ c.loop-item-test.true c.item-item.is c.loop-item.invariant new limits in
    search rules

pub loop-item-preserved : goal.loop-item-preserved
loop-item-preserved c =
    let new : is_among (val_of c.item-item.result) (map val_of c.args.others.now) ≡ false = sym c.if-is_member.ensures in
    c.in_ok-push_copy.ensures ∙ kept_more _ _ _ _ _ c.loop-item-test.true c.item-item.is c.loop-item.invariant new

pub loop-item-preserved-then-is_member : goal.loop-item-preserved-then-is_member
loop-item-preserved-then-is_member c =
    let there : is_among (val_of c.item-item.result) (map val_of c.args.others.now) ≡ true = sym c.if-is_member.ensures in
    kept_same _ _ _ _ _ c.loop-item-test.true c.item-item.is c.loop-item.invariant there
