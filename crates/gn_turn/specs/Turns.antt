-- What public clauses say of a turn, its seats and the value that is handed out.
use Rattle.std.specs.Prelude.{◌≡◌, ℕ, ◌<◌, List, SomeIndex}
use Rattle.std.specs.List.{HoldsAt}
use Rattle.gn_turn.specs.declared.kept.Kept.{Ghosts}
use Rattle.gn_turn.specs.declared.held.Held.{Held}
use Rattle.gn_turn.specs.declared.seat.Seat.{Seat}
use Rattle.gn_turn.specs.declared.turn.Turn.{Turn}
use Rattle.gn_turn.specs.Tokens.{Each, token_seen, token_number, IsTokenOf, IsIdleToken, IsHoldingToken, IsSameToken, IsNewToken}

-- how many seats the turn has
abbrev pub seat_count : {B E G : Type 0} → Turn B E G → ℕ
seat_count t = t.count

-- the value with which the turn was made
abbrev pub opening_value : {B E G : Type 0} → Turn B E G → B
opening_value t = t.table.shared.key.value

-- the value that was handed out
abbrev pub held_value : {B : Type 0} → Held B → B
held_value h = h.kept

module _ {B E G : Type 0} {k : Ghosts B E G} where
  abbrev pub number_of : Seat B E G k → ℕ
  number_of s = token_number s.token

  -- the history that the seat has seen: the longest that it was handed or gave back
  abbrev pub seen : Seat B E G k → List E
  seen s = token_seen s.token

  -- the seat is one of the turn's
  abbrev pub IsSeatOf : Turn B E G → Seat B E G k → Type 0
  IsSeatOf t s = IsTokenOf t.table.shared.table_id (k.basis (opening_value t)) t.count s.token

  -- it waits for no turn, and has none
  abbrev pub IsIdle : Seat B E G k → Type 0
  IsIdle s = IsIdleToken s.token

  -- its turn is now: the value was handed out to it, and not given back
  abbrev pub IsHolding : Seat B E G k → Type 0
  IsHolding s = IsHoldingToken s.token

  -- it is the same seat of the same turn, whatever it has seen since
  abbrev pub IsSameSeat : Seat B E G k → Seat B E G k → Type 0
  IsSameSeat old new = IsSameToken old.token new.token

  -- each seat stands at the place of its number
  abbrev pub AreInOrder : List (Seat B E G k) → Type 0
  AreInOrder seats = Each (λ i s. number_of s ≡ i) seats

  -- seats of the turn as they are made: in order, and each has seen nothing and waits for no turn
  abbrev pub AreNewSeats : Turn B E G → List (Seat B E G k) → Type 0
  AreNewSeats t seats = Each (λ i s. IsSeatOf t s × IsNewToken i s.token) seats

  -- one of these seats bears the number
  abbrev pub HasNumber : List (Seat B E G k) → ℕ → Type 0
  HasNumber seats number = SomeIndex seats (HoldsAt (λ s. number_of s ≡ number) seats)

  -- these are all seats of the turn, in any order: each of its numbers is borne by one of them
  abbrev pub HasEachNumber : Turn B E G → List (Seat B E G k) → Type 0
  HasEachNumber t seats = (number : ℕ) → number < seat_count t → HasNumber seats number
