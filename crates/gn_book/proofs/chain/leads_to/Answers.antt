use Rattle.std.proofs.Common.{◌≡◌, ◌≤◌, ◌↔◌, ℕ, List, map, length, Bool, true, false, nat_eq, eqb-true, eq-eqb, arith, refl, ap, sym, ◌∙◌, Some}
use Rattle.gn_book.specs.Standings.{Standing, standing_of, next_of}
use Rattle.gn_book.specs.Chains.{LeadsTo, walk}
use Rattle.gn_book.proofs.Back.{Missed, missed_more, walk_more, dead_end, spent, numbers, numbers_length}
use Rattle.gn_book.proofs.Chains.{next_listed}
use Rattle.gn_book.proofs.Steps.{map_length}
use Rattle.gn_book.proofs.chain.leads_to.Goals as goal

pub returns-in-None : goal.returns-in-None
returns-in-None g c = (
  (λ t. cc t),
  (λ l. absurd (dead_end (next_of (map (standing_of g.A.Answer.meaning) c.args.statuses.now)) c.loop-step._step c.args.from c.args.to c.loop-step.at c.loop-step.invariant.goes
      (sym c.next_key.ensures ∙ c.in-None.is) c.if-at-to.false c.loop-step.invariant.missed l)),
)

pub loop-step-preserved : goal.loop-step-preserved
loop-step-preserved g c = record {
  goes = walk_more (next_of (map (standing_of g.A.Answer.meaning) c.args.statuses.now)) c.loop-step._step c.args.from c.loop-step.at c.in-Some.next c.loop-step.invariant.goes (sym c.next_key.ensures ∙ c.in-Some.is);
  missed = missed_more (next_of (map (standing_of g.A.Answer.meaning) c.args.statuses.now)) c.loop-step._step c.args.from c.args.to c.loop-step.at c.loop-step.invariant.goes c.if-at-to.false c.loop-step.invariant.missed;
  room = c.loop-step.invariant.room;
}

at_end : (xs : List Standing) (n q k at : ℕ) (b : Bool) → nat_eq at k ≡ b → walk (next_of xs) n q ≡ Some at → Missed (next_of xs) n q k → length xs ≤ n → (b ≡ true) ↔ LeadsTo (next_of xs) q k
at_end xs n q k at true e w miss le = ((λ t. (n, w ∙ ap Some (eqb-true at k e))), (λ l. refl))
at_end xs n q k at false e w miss le = (
  (λ t. absurd (cc t)),
  (λ l. absurd (spent (next_of xs) (numbers (length xs)) n q k at (next_listed xs) (let long : length (numbers (length xs)) ≡ length xs = numbers_length (length xs) in omega (arith, long, le)) w
      (λ same. let t : nat_eq at k ≡ true = eq-eqb at k same in cc (t, e)) miss l)),
)

pub returns : goal.returns
returns g c =
    at_end (map (standing_of g.A.Answer.meaning) c.args.statuses.now) c.loop-step._step c.args.from c.args.to c.loop-step.at (nat_eq c.loop-step.at c.args.to) refl
    c.loop-step.invariant.goes c.loop-step.invariant.missed
    (let long : length (map (standing_of g.A.Answer.meaning) c.args.statuses.now) ≡ length c.args.statuses.now = map_length (standing_of g.A.Answer.meaning) c.args.statuses.now in
    omega (arith, long, c.loop-step.invariant.room, c.loop-step-test.false))
