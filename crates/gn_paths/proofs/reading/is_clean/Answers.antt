use Rattle.std.proofs.Common.{◌<◌, ◌+◌, length, sym, ap, ◌∙◌, arith}
use Rattle.std.proofs.lemmas.List.{length-drop, take_rest}
use Rattle.gn_paths.specs.Reading.{is_clean}
use Rattle.gn_paths.proofs.CleanLemmas.{clean_on}
use Rattle.gn_paths.proofs.reading.is_clean.Goals as goal

pub loop-n-preserved : goal.loop-n-preserved
loop-n-preserved c =
    let t = c.loop-n.rest.now in
    let n = c.in-Some.n in
    let less : n < length t = omega (arith, c.in-Some.ensures.1, c.if-n-rest.false) in
    (omega (arith, ap length (take_rest t (n + 1)), length-drop (n + 1) t, c.loop-n.invariant.0), ap is_clean (take_rest t (n + 1)) ∙ sym (clean_on t n c.in-Some.ensures.0 less c.in-Some.ensures.2) ∙ c.loop-n.invariant.1)
