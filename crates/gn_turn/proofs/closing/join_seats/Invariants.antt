use Rattle.std.proofs.Common.{◌≡◌, [], List, ◌++◌, vec_len}
use Rattle.std.specs.List.{All}
use Rattle.gn_turn.specs.Tokens.{IsDoneToken, joined_of, map_reversed}
use Rattle.gn_turn.specs.Views.{numbers_given}
use Rattle.gn_turn.specs.declared.view.Role.TheVariants.{First}
use Rattle.gn_turn.proofs.closing.join_seats.Given as goal

-- `gone` are the seats that were joined
abbrev pub invariant-loop-seat : goal.invariant-loop-seat
invariant-loop-seat g l =
    let v = l.fn.first.me.0 in
    (l.first.table_id ≡ l.fn.first.table_id)
    × All (λ s. IsDoneToken l.steps.table_id (g.B.Kept.basis l.steps.key.value) s.token) l.others.items
    × ((gone : List _) × (l.fn.others.items ≡ l.others.items ++ gone)
    × (l.first.me ≡ (record v { role = First (numbers_given v.role) (map_reversed (λ s. joined_of s.token) gone) }, [])))

abbrev pub decreases-loop-seat : goal.decreases-loop-seat
decreases-loop-seat g l = vec_len l.others
