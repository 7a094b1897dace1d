use Rattle.std.proofs.Common.{◌≡◌, ℕ, ◌+◌, ◌∷◌, [], ◌++◌, List, length, replicate, ap, ◌∙◌, append_assoc, arith}
use Rattle.std.proofs.lemmas.List.{replicate_more, length-append, length-replicate}
use Rattle.gn_cycles.proofs.search.fill.Goals as goal

filled : (xs old new : List ℕ) (k n : ℕ) → old ≡ xs ++ replicate k n → new ≡ old ++ n ∷ [] → new ≡ xs ++ replicate (k + 1) n
filled xs old new k n e f = f ∙ ap (λ (z : List ℕ). z ++ n ∷ []) e ∙ append_assoc xs (replicate k n) (n ∷ []) ∙ ap (λ (z : List ℕ). xs ++ z) (replicate_more k n)

size : (xs old : List ℕ) (k n : ℕ) → old ≡ xs ++ replicate k n → length old ≡ length xs + k
size xs old k n e = ap length e ∙ length-append xs (replicate k n) ∙ ap (λ z. length xs + z) (length-replicate k n)

pub loop-numbers-preserved : goal.loop-numbers-preserved
loop-numbers-preserved c =
    let i = c.loop-numbers.invariant in
    let xs = c.args.numbers.now.items in
    let old = c.loop-numbers.numbers.items in
    let n = c.args.number in
    (i.0 + 1, filled xs old c.push.new.self.items i.0 n i.1 c.in_ok-push.ensures.items, let s = size xs old i.0 n i.1 in omega (arith, s, c.loop-numbers-test.true, c.len.ensures, c.loop-numbers.numbers.ok.0))
