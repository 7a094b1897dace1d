use Rattle.std.proofs.Common.{sym, ap, ◌∙◌, ◌<◌, ◌+◌, length, arith}
use Rattle.std.proofs.lemmas.List.{length-drop, take_rest}
use Rattle.gn_paths.specs.Directory.{leads_down}
use Rattle.gn_labels.proofs.NameLemmas.{first_fails, last_passes, passes_on}
use Rattle.gn_labels.proofs.name.has_plain_pieces.Goals as goal

pub returns-then-not-leads_down : goal.returns-then-not-leads_down
returns-then-not-leads_down c =
    let l = c.loop-rest in
    sym (first_fails leads_down l.rest.now c.len_before-n.result c.len_before-n.ensures.value c.len_before-n.ensures.within (sym c.if-not-leads_down.ensures)) ∙ l.invariant.1

pub returns-then-n-rest : goal.returns-then-n-rest
returns-then-n-rest c =
    let l = c.loop-rest in
    sym (last_passes leads_down l.rest.now c.len_before-n.result c.len_before-n.ensures.value c.if-n-rest.true (sym c.if-not-leads_down.ensures)) ∙ l.invariant.1

pub loop-rest-preserved : goal.loop-rest-preserved
loop-rest-preserved c =
    let l = c.loop-rest in
    let less : c.len_before-n.result < length l.rest.now = omega (arith, c.len_before-n.ensures.within, c.if-n-rest.false) in
    (omega (arith, ap length (take_rest l.rest.now (c.len_before-n.result + 1)), length-drop (c.len_before-n.result + 1) l.rest.now, l.invariant.0), passes_on leads_down l.rest.now c.len_before-n.result c.len_before-n.ensures.value less (sym c.if-not-leads_down.ensures) ∙ l.invariant.1)
