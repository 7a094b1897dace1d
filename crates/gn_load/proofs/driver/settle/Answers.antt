use Rattle.std.proofs.Common.{refl, arith}
use Rattle.gn_load.proofs.DoneLemmas.{popped}
use Rattle.gn_load.proofs.driver.settle.Goals as goal

pub returns : goal.returns
returns c =
    let next = popped c.pop_front.result c.args.driver.now.waiting.items c.pop_front.new.self.items _ _ c.pop_front.ensures.items c.pop_front.ensures.cases (λ none. omega (arith, c.args.driver.now.waiting.ok.0, none)) in
    record { book = c.in_ok-file.ensures.ok; waiting = next.0; next = next.1; rest = record { base = refl; known = refl; reads = refl } }
