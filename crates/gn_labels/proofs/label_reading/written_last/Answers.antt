use Rattle.std.proofs.Common.{ap, ◌∙◌, ◌<◌, ◌+◌, length, arith}
use Rattle.std.proofs.lemmas.List.{length-drop, take_rest}
use Rattle.gn_labels.proofs.NameLemmas.{last_ends, last_on}
use Rattle.gn_labels.proofs.label_reading.written_last.Goals as goal

pub returns-then-n-rest : goal.returns-then-n-rest
returns-then-n-rest c =
    let l = c.walk in
    c.later-next.ensures ∙ last_ends l.last.now l.rest.now c.len_before-n.result c.len_before-n.ensures.value c.if-n-rest.true ∙ l.invariant.1

pub walk-preserved : goal.walk-preserved
walk-preserved c =
    let l = c.walk in
    let less : c.len_before-n.result < length l.rest.now = omega (arith, c.len_before-n.ensures.within, c.if-n-rest.false) in
    (omega (arith, ap length (take_rest l.rest.now (c.len_before-n.result + 1)), length-drop (c.len_before-n.result + 1) l.rest.now, l.invariant.0), last_on _ l.last.now c.later-next.result.now l.rest.now c.args.text.now c.len_before-n.result c.len_before-n.ensures.value less c.later-next.ensures l.invariant.1)
