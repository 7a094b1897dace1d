use Rattle.std.proofs.Common.{ap, sym, ◌∙◌}
use Rattle.gn_values.specs.Val.{vstr}
use Rattle.gn_values.specs.View.{val_of}
use Rattle.gn_values.proofs.Members.{no_string, string_more, other_than_string}
use Rattle.gn_values.proofs.value.difference.strings_of.Goals as goal

pub loop-value-preserved-in_default : goal.loop-value-preserved-in_default
loop-value-preserved-in_default c =
    no_string c.args.values.now _ _ c.loop-value-test.true c.value-item.is _ (other_than_string _ c.in_default.not-Str) c.loop-value.invariant

pub loop-value-preserved : goal.loop-value-preserved
loop-value-preserved c =
    string_more c.args.values.now _ _ c.loop-value-test.true c.value-item.is _ _ c.as_bytes.result c.in_ok-insert.ensures.updates (ap val_of c.in-Str.is ∙ ap vstr (sym c.as_bytes.ensures)) c.loop-value.invariant
