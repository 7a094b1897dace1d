use Rattle.gn_tokens.proofs.Scans.{bad_escaped, bad_plain}
use Rattle.gn_tokens.proofs.text.bad_dollar_in.Goals as goal
use Rattle.gn_tokens.proofs.text.bad_dollar_in.Goals.{then-is_escaped, else-is_escaped+else-ends_text+else-is_bad}

pub loop-i-preserved : goal.loop-i-preserved
loop-i-preserved c =
    elim c.if-is_escaped.branch [
      | then-is_escaped w ↦ bad_escaped c.args.bytes.now c.loop-i.i c.loop-i.is_escape c.if-is_escaped.is_escape c.is_escaped.result
          c.loop-i-test.true c.is_escaped.ensures w.if-is_escaped.true w.is_escape-is c.loop-i.invariant
      | else-is_escaped+else-ends_text+else-is_bad w ↦ bad_plain c.args.bytes.now c.loop-i.i c.loop-i.is_escape c.if-is_escaped.is_escape c.is_escaped.result w.ends_text.result w.is_bad.result w.from.result.now
          c.loop-i-test.true c.is_escaped.ensures w.if-is_escaped.false w.ends_text.ensures w.if-ends_text.false w.from.ensures w.is_bad.ensures w.if-is_bad.false w.is_escape-is c.loop-i.invariant
    ]
