use Rattle.std.proofs.Common.{rules, ◌≡◌, ℕ, [], ◌∷◌, List, Option, Some, sym, ap, ◌∙◌, subst, add-one, get_or}
use Rattle.atomic_table.specs.Table.{opening}
use Rattle.gn_turn.specs.Invariant.{LockInvariant}
use Rattle.gn_turn.specs.Tokens.{IsTokenOf, IsNewToken, Each}
use Rattle.gn_turn.specs.Views.{new_view, first_view}
use Rattle.gn_turn.specs.declared.view.Role.TheVariants.{Plain, First}
use Rattle.gn_turn.proofs.Lists.{each_front}
use Rattle.gn_turn.proofs.NewTokens.{new_first, new_else}
use Rattle.gn_turn.proofs.SeatSteps.{opening_holds}
use Rattle.gn_turn.proofs.turn.Turn.new.Goals as goal

pub new-requires : goal.new-requires
new-requires g c =
    let base = g.B.Kept.basis c.of-key.result.value in
    let items : c.push.new.self.items ≡ Some c.args.kept ∷ [] = search rules in
    subst (λ (xs : List (Option g.row.B.Denot)). LockInvariant g.B.Kept.basis g.B.Kept.history g.B.Kept.number base (opening (0 ∷ 0 ∷ []) xs (first_view base))) (sym items)
    (opening_holds g.B.Kept.basis g.B.Kept.history g.B.Kept.number base c.args.kept (ap g.B.Kept.basis (sym c.of-key.ensures)) c.requires.empty)

pub returns-clause-seats : goal.returns-clause-seats
returns-clause-seats g c =
    let z = c.in-Ok.table.shared.table_id in
    let base = g.B.Kept.basis c.in-Ok.table.shared.key.value in
    let n : ℕ = c.args.seats in
    let first : c.split_seats.new.first.me ≡ (new_view base 0 (First n []), []) = search rules in
    let token : c.new-2.result.token ≡ c.split_seats.new.first = search rules in
    let at : c.split_seats.new.first.table_id ≡ z = search rules in
    let items : c.insert.new.self.items ≡ c.new-2.result ∷ c.in_ok-row.row.items = search rules in
    subst (λ xs. Each (λ i s. IsTokenOf z base n s.token × IsNewToken i s.token) xs) (sym items)
    (each_front (λ i s. IsTokenOf z base n s.token × IsNewToken i s.token) c.new-2.result c.in_ok-row.row.items
    (new_first z base n c.new-2.result.token (ap (λ p. p.table_id) token ∙ at) (ap (λ p. p.me) token ∙ first))
    (λ i d l. let h = c.in_ok-row.ensures.rest i d l in
    new_else z base n (get_or c.in_ok-row.row.items i d).token i h.0 (h.1 ∙ ap (λ (k : ℕ). (new_view base k Plain, [])) (add-one i))))
