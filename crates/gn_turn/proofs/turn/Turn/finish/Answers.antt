use Rattle.std.proofs.Common.{rules, ◌≡◌, ◌<◌, Some, None, sym, ◌∙◌, subst, ap, get_or}
use Rattle.std.specs.List.{All, remove}
use Rattle.gn_turn.specs.History.{SeenPrefix}
use Rattle.gn_turn.specs.Tokens.{joined_of, map_reversed}
use Rattle.gn_turn.specs.Turns.{number_of, seen}
use Rattle.gn_turn.specs.Views.{numbers_given}
use Rattle.gn_turn.specs.declared.view.Role.TheVariants.{First}
use Rattle.gn_turn.proofs.Entries.{entries_of-SeenPrefix}
use Rattle.gn_turn.proofs.Finish.{finish_gives}
use Rattle.gn_turn.proofs.turn.Turn.finish.Goals as goal

pub unreachable-requires : goal.unreachable-requires
unreachable-requires g c =
    let base = g.B.Kept.basis c.args.self.table.shared.key.value in
    let place = c.first_place-place.result in
    let first = c.remove.result in
    let at_zero : number_of first ≡ 0 = ap (λ s. number_of s) (c.remove.ensures.value ∙ ap (λ xs. get_or xs place first) (sym c.as_slice.ensures.value)) ∙ c.first_place-place.ensures.first first in
    let now : c.join_seats.new.first.me.0 ≡ record first.token.me.0 { role = First (numbers_given first.token.me.0.role) (map_reversed (λ s. joined_of s.token) (remove c.args.seats.items place)) } = search rules in
    let r = finish_gives g.B.Kept.basis g.B.Kept.history g.B.Kept.number base (λ s. s.token) c.args.self.table.shared.table_id c.args.self.count c.args.seats.items place first c.join_seats.new.first _ _ c.take-kept.result
    (search rules) c.remove.ensures.value at_zero c.requires.all c.requires.idle now c.close_with-closed.ensures.values.2 c.take-kept.ensures.value in
    let e : None ≡ Some r.0 = sym c.in-None.is ∙ r.1 in cc

pub returns : goal.returns
returns g c =
    let base = g.B.Kept.basis c.args.self.table.shared.key.value in
    let place = c.first_place-place.result in
    let first = c.remove.result in
    let at_zero : number_of first ≡ 0 = ap (λ s. number_of s) (c.remove.ensures.value ∙ ap (λ xs. get_or xs place first) (sym c.as_slice.ensures.value)) ∙ c.first_place-place.ensures.first first in
    let now : c.join_seats.new.first.me.0 ≡ record first.token.me.0 { role = First (numbers_given first.token.me.0.role) (map_reversed (λ s. joined_of s.token) (remove c.args.seats.items place)) } = search rules in
    let r = finish_gives g.B.Kept.basis g.B.Kept.history g.B.Kept.number base (λ s. s.token) c.args.self.table.shared.table_id c.args.self.count c.args.seats.items place first c.join_seats.new.first _ _ c.take-kept.result
    (search rules) c.remove.ensures.value at_zero c.requires.all c.requires.idle now c.close_with-closed.ensures.values.2 c.take-kept.ensures.value in
    let same : Some r.0 ≡ Some c.in-Some.kept = sym r.1 ∙ c.in-Some.is in
    let is : r.0 ≡ c.in-Some.kept = cc in
    let saw : All (λ s. SeenPrefix g.B.Kept.number (number_of s) (seen s) (g.B.Kept.history c.in-Some.kept)) c.args.seats.items =
    subst (λ x. All (λ s. SeenPrefix g.B.Kept.number (number_of s) (seen s) (g.B.Kept.history x)) c.args.seats.items) is r.4 in record {
      given = search rules;
      saw = saw;
      entries = λ i d l. entries_of-SeenPrefix g.B.Kept.number _ _ _ (saw i d l);
      numbers = subst (λ x. All (λ e. g.B.Kept.number e < c.args.self.count) (g.B.Kept.history x)) is r.3;
      basis = subst (λ x. g.B.Kept.basis x ≡ base) is r.2;
    }
