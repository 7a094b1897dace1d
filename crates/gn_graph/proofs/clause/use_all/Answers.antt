use Rattle.std.proofs.Common.{◌≡◌, ℕ, Bool, true, false, ◌||◌, take, get_or, ap, sym, ◌∙◌, refl, arith, nat_eq, eqb-true}
use Rattle.gn_graph.specs.Clauses.{has, waits_at}
use Rattle.gn_graph.proofs.Has.{has-take_more}
use Rattle.gn_graph.proofs.clause.use_all.Goals as goal

pub loop-p-preserved : goal.loop-p-preserved
loop-p-preserved c =
    let needs = c.args.needs.now in
    let k = c.loop-p.p-index in
    record {
      kept = λ q j m. c.in_ok-use_waiting.ensures.kept q j (c.loop-p.invariant.kept q j m);
      added = λ q h out. step q (has (take k needs) q) (nat_eq q (get_or needs k 0)) refl (λ m. c.loop-p.invariant.added q m out) out (sym (has-take_more needs k q (omega arith)) ∙ h);
    }
  where
    step : (q : ℕ) (a b : Bool) → nat_eq q (get_or c.args.needs.now c.loop-p.p-index 0) ≡ b → (a ≡ true → has (waits_at c.loop-p.uses q) c.args.i ≡ true)
        → has (take c.args.n c.args.held.now) q ≡ false → (a || b) ≡ true → has (waits_at c.use_waiting.new.uses q) c.args.i ≡ true
    step q true b e f out h = c.in_ok-use_waiting.ensures.kept q c.args.i (f refl)
    step q false true e f out h =
        let at : q ≡ get_or c.args.needs.now c.loop-p.p-index 0 = eqb-true q _ e in
        ap (λ (z : ℕ). has (waits_at c.use_waiting.new.uses z) c.args.i) at ∙ c.in_ok-use_waiting.ensures.added (ap (has (take c.args.n c.args.held.now)) (sym at) ∙ out)
    step q false false e f out h = absurd (cc h)
