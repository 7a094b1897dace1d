use Rattle.std.proofs.Common.{◌≡◌, ◌+◌, [], length}
use Rattle.gn_turn.specs.Tokens.{Each}
use Rattle.gn_turn.specs.Views.{new_view}
use Rattle.gn_turn.specs.declared.view.Role.TheVariants.{Plain, First}
use Rattle.gn_turn.proofs.opening.split_seats.Given as goal

abbrev pub invariant-loop-number : goal.invariant-loop-number
invariant-loop-number g l =
    let base = g.B.Kept.basis l.steps.key.value in
    (l.first.table_id ≡ l.fn.first.table_id)
    × (l.first.me ≡ (new_view base 0 (First l.number []), []))
    × (length l.rest.items + 1 ≡ l.number)
    × Each (λ i s. (s.token.table_id ≡ l.steps.table_id) × (s.token.me ≡ (new_view base (i + 1) Plain, []))) l.rest.items
