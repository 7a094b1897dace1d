use Rattle.std.proofs.Common.{sym, ap, ◌∙◌, ◌<◌, ◌+◌, length, arith}
use Rattle.std.proofs.lemmas.List.{length-drop, take_rest}
use Rattle.gn_paths.specs.Reading.{is_clean}
use Rattle.gn_paths.proofs.BufferLemmas.{walked_last, walk_on}
use Rattle.gn_paths.proofs.CleanLemmas.{clean_last, clean_on, walk_fault}
use Rattle.gn_paths.proofs.resolving.walk.Goals as goal

pub returns-in-Err : goal.returns-in-Err
returns-in-Err c =
    let l = c.loop-n in
    let p = c.in-Some.ensures in
    walk_fault c.args.top c.args.buffer.now.items c.args.text.now l.buffer.items l.rest.now c.in-Some.n _ _ l.invariant.1 l.invariant.2 p.0 p.1 p.2 c.in-Err.ensures c.fault.ensures

pub returns-then-n-rest : goal.returns-then-n-rest
returns-then-n-rest c =
    let l = c.loop-n in
    let p = c.in-Some.ensures in
    (sym l.invariant.1 ∙ sym (clean_last l.rest.now c.in-Some.n c.if-n-rest.true) ∙ p.2, sym l.invariant.2 ∙ walked_last c.args.top l.buffer.items l.rest.now c.in-Some.n p.0 c.if-n-rest.true ∙ c.in_default-step.ensures)

pub loop-n-preserved : goal.loop-n-preserved
loop-n-preserved c =
    let l = c.loop-n in
    let t = l.rest.now in
    let n = c.in-Some.n in
    let p = c.in-Some.ensures in
    let less : n < length t = omega (arith, p.1, c.if-n-rest.false) in (
      omega (arith, ap length (take_rest t (n + 1)), length-drop (n + 1) t, l.invariant.0),
      ap is_clean (take_rest t (n + 1)) ∙ sym (clean_on t n p.0 less p.2) ∙ l.invariant.1,
      walk_on c.args.top c.args.buffer.now.items c.args.text.now l.buffer.items c.step.new.buffer.items t n l.invariant.2 p.0 less c.in_default-step.ensures,
    )
