-- Who has a key.
use Rattle.std.specs.Prelude.{◌≡◌, Option, Some, None, Bool, true, false}
use Rattle.gn_book.specs.declared.status.Holder.{Holder}
use Rattle.gn_book.specs.declared.status.Holder.TheVariants.{Nobody, Seat, Done}
use Rattle.gn_book.specs.Standings.{Standing, is_open, is_claimed, is_blocked, is_filed, seat_in, answer_in}

abbrev pub has_answer : Option Standing → Bool
has_answer None = false
has_answer (Some is_open) = false
has_answer (Some (is_claimed seat)) = false
has_answer (Some (is_blocked seat on)) = false
has_answer (Some (is_filed answer)) = true

abbrev pub HoldsAs : Option Standing → Holder → Type 0
HoldsAs o Nobody = (seat_in o ≡ None) × (answer_in o ≡ None)
HoldsAs o (Seat seat) = seat_in o ≡ Some seat
HoldsAs o Done = has_answer o ≡ true
