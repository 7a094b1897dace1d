use Rattle.std.proofs.Common.{rules, ◌≡◌, ◌++◌, [], ◌∷◌, ap, ◌∙◌, subst, append_assoc}
use Rattle.std.specs.List.{All}
use Rattle.gn_turn.specs.Tokens.{IsDoneToken, joined_of, map_reversed}
use Rattle.gn_turn.specs.Views.{numbers_given, after_join}
use Rattle.gn_turn.proofs.Lists.{all_init, all_last}
use Rattle.gn_turn.proofs.SeatSteps.{join_allowed}
use Rattle.gn_turn.proofs.closing.join_seats.Goals as goal

pub join_seat-requires : goal.join_seat-requires
join_seat-requires g c =
    let z = c.args.steps.now.table_id in
    let base = g.B.Kept.basis c.args.steps.now.key.value in
    let joined = c.loop-seat.invariant.2 in
    let items : c.loop-seat.others.items ≡ c.pop.new.self.items ++ c.in-Some.seat ∷ [] = search rules in
    let all_done = subst (λ xs. All (λ s. IsDoneToken z base s.token) xs) items c.loop-seat.invariant.1 in
    let done = all_last (λ s. IsDoneToken z base s.token) c.pop.new.self.items c.in-Some.seat all_done in
    let token = c.into_token.ensures in (
      search rules,
      ap (λ p. p.table_id) token ∙ done.0,
      ap (λ p. p.me.1) token ∙ done.2.1,
      search rules,
      join_allowed g.B.Kept.basis g.B.Kept.history g.B.Kept.number _ _ _
          (numbers_given c.args.first.now.me.0.role) (map_reversed (λ s. joined_of s.token) joined.0) _ _
          (ap (λ m. m.0.basis) joined.2 ∙ c.requires.first.1) (ap (λ m. m.0.role) joined.2)
          (ap (λ p. p.me.0.basis) token ∙ done.1) (ap (λ p. p.me.0.stage) token ∙ done.2.0),
    )

pub loop-seat-preserved : goal.loop-seat-preserved
loop-seat-preserved g c =
    let z = c.args.steps.now.table_id in
    let base = g.B.Kept.basis c.args.steps.now.key.value in
    let joined = c.loop-seat.invariant.2 in
    let items : c.loop-seat.others.items ≡ c.pop.new.self.items ++ c.in-Some.seat ∷ [] = search rules in
    let all_done = subst (λ xs. All (λ s. IsDoneToken z base s.token) xs) items c.loop-seat.invariant.1 in (
      search rules,
      all_init (λ s. IsDoneToken z base s.token) c.pop.new.self.items (c.in-Some.seat ∷ []) all_done,
      (
        c.in-Some.seat ∷ joined.0,
        joined.1 ∙ (ap (λ xs. xs ++ joined.0) items ∙ append_assoc c.pop.new.self.items (c.in-Some.seat ∷ []) joined.0),
        c.join_seat.ensures.2 ∙ (λ i. (after_join (joined.2 i).0 (c.into_token.ensures i).me.0, (joined.2 i).1)),
      ),
    )
