use Rattle.std.proofs.Common.{◌≡◌, ◌+◌, length, sym, ◌∙◌, ap, refl, arith}
use Rattle.std.specs.Prelude.{drop}
use Rattle.gn_outside.proofs.EventLemmas.{file_in, piece_passed, file_found, file_passed, none_left, same_file}
use Rattle.gn_outside.proofs.tree_sink.file_among.Goals as goal
use Rattle.gn_outside.proofs.tree_sink.file_among.Goals.{in-Said, in-Kept-2}

pub loop-event-init : goal.loop-event-init
loop-event-init c = refl

pub returns-in-Kept : goal.returns-in-Kept
returns-in-Kept c =
    same_file c.as_str.ensures.value c.deref.ensures.value
    ∙ sym (file_found c.args.events.now c.loop-event.event-index c.event-item.result c.loop-event-test.true c.event-item.is c.in-Kept.path c.in-Kept.bytes c.in-Kept.is)
    ∙ ap (λ n. file_in (drop c.loop-event.event-index c.args.events.now) n) (sym c.if-left-eq0.true)
    ∙ c.loop-event.invariant

pub loop-event-preserved : goal.loop-event-preserved
loop-event-preserved c = elim c.match-event.branch [
  | in-Said w ↦ ap (λ n. file_in (drop (c.loop-event.event-index + 1) c.args.events.now) n) w.left-is
      ∙ sym (piece_passed c.args.events.now c.loop-event.event-index c.event-item.result c.loop-event-test.true c.event-item.is w.in-Said.field-0 c.loop-event.left w.in-Said.is)
      ∙ c.loop-event.invariant
  | in-Kept-2 w ↦ ap (λ n. file_in (drop (c.loop-event.event-index + 1) c.args.events.now) n) w.left-is
      ∙ sym (file_passed c.args.events.now c.loop-event.event-index c.event-item.result c.loop-event-test.true c.event-item.is w.in-Kept.path w.in-Kept.bytes c.loop-event.left w.if-left-eq0.false w.in-Kept.is)
      ∙ c.loop-event.invariant
]

pub returns : goal.returns
returns c =
    let at_end : c.loop-event.event-index ≡ length c.args.events.now = omega arith in
    sym (none_left c.args.events.now c.loop-event.left) ∙ ap (λ i. file_in (drop i c.args.events.now) c.loop-event.left) (sym at_end) ∙ c.loop-event.invariant
