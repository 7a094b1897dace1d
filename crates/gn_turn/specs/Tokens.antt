-- What a clause inside the crate says of a seat's token of the table.
use Rattle.std.specs.Prelude.{◌≡◌, ℕ, List, [], ◌∷◌, ◌++◌, ◌<◌, true, Option, Some, None, length, slice_index_or}
use Rattle.atomic_table.specs.Seated.{TableId}
use Rattle.atomic_table.specs.declared.shared.Seat.{Seat}
use Rattle.gn_turn.specs.declared.view.View.{View}
use Rattle.gn_turn.specs.declared.view.Joined.{Joined}
use Rattle.gn_turn.specs.declared.view.Stage.TheVariants.{Idle}
use Rattle.gn_turn.specs.Views.{role_at, is_holding}

-- P holds of each element with its place
abbrev pub Each : {X : Type 0} → (ℕ → X → Type 0) → List X → Type 0
Each {X} P xs = (i : ℕ) (d : X) → i < length xs → P i (slice_index_or xs i d)

-- the answers of f, from the last element to the first
abbrev pub map_reversed : {X Y : Type 0} → (X → Y) → List X → List Y
map_reversed f [] = []
map_reversed f (x ∷ xs) = map_reversed f xs ++ f x ∷ []

module _ {B E G : Type 0} where
  abbrev pub token_seen : Seat (Option B) (View E G) → List E
  token_seen p = p.me.0.seen

  abbrev pub token_number : Seat (Option B) (View E G) → ℕ
  token_number p = p.me.0.number

  -- the seat is one of n, at the table z, over a value with the basis g
  abbrev pub IsTokenOf : TableId → G → ℕ → Seat (Option B) (View E G) → Type 0
  IsTokenOf z g n p = (p.table_id ≡ z) × (p.me.0.basis ≡ Some g) × (p.me.0.role ≡ role_at n p.me.0.number)

  -- it has no ticket, and no slot
  abbrev pub IsIdleToken : Seat (Option B) (View E G) → Type 0
  IsIdleToken p = (p.me.0.stage ≡ Idle) × (p.me.1 ≡ [])

  -- its turn is now, and the value is out of the slot
  abbrev pub IsHoldingToken : Seat (Option B) (View E G) → Type 0
  IsHoldingToken p = (is_holding p.me.0.stage ≡ true) × (p.me.1 ≡ (0, None) ∷ [])

  -- the same seat, whatever it has seen since
  abbrev pub IsSameToken : Seat (Option B) (View E G) → Seat (Option B) (View E G) → Type 0
  IsSameToken p p' = (p'.table_id ≡ p.table_id) × (p'.me.0.basis ≡ p.me.0.basis) × (p'.me.0.number ≡ p.me.0.number) × (p'.me.0.role ≡ p.me.0.role)

  -- it has this number, and has seen nothing yet
  abbrev pub IsNewToken : ℕ → Seat (Option B) (View E G) → Type 0
  IsNewToken i p = (p.me.0.number ≡ i) × (p.me.0.seen ≡ []) × IsIdleToken p

  -- what the first seat keeps of a seat that it takes in
  abbrev pub joined_of : Seat (Option B) (View E G) → Joined E
  joined_of p = record { number = p.me.0.number; seen = p.me.0.seen }

  -- a seat that may be joined into the first
  abbrev pub IsDoneToken : TableId → G → Seat (Option B) (View E G) → Type 0
  IsDoneToken z g p = (p.table_id ≡ z) × (p.me.0.basis ≡ Some g) × IsIdleToken p
