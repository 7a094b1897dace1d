-- What each kind of step tells the seat m that makes it, where the word was n and the seat is m' after.
use Rattle.std.specs.Prelude.{◌≡◌, ◌≢◌, ℕ, ◌%◌, ◌^◌, List, [], ◌∷◌, Option, Some}
use Rattle.atomic_table.specs.Table.{Me, Step}
use Rattle.gn_turn.specs.declared.view.View.{View}
use Rattle.gn_turn.specs.declared.view.Stage.TheVariants.{Idle, Waiting, AtTurn, Holding, Returned}
use Rattle.gn_turn.specs.History.{SeenPrefix}
use Rattle.gn_turn.specs.Views.{ticket, returned_history}

module _ {B E G : Type 0} where
  -- the number found is the ticket, counted round at 2^64
  abbrev pub DrawsTicket : Step (Option B) → Me (Option B) (View E G) → ℕ → Me (Option B) (View E G) → Type 0
  DrawsTicket st m n m' = (m'.1 ≡ m.1) × (n ≡ ticket m'.0.stage % 2 ^ 64) × (m'.0 ≡ record m.0 { stage = Waiting (ticket m'.0.stage) })

  -- where the number found is the ticket's, the seat is at its turn and sees the settled history
  abbrev pub LoadsServing : (E → ℕ) → Step (Option B) → Me (Option B) (View E G) → ℕ → Me (Option B) (View E G) → Type 0
  LoadsServing number st m n m' = (m'.1 ≡ m.1)
      × (n ≡ ticket m.0.stage % 2 ^ 64 → (m'.0 ≡ record m.0 { seen = m'.0.seen; stage = AtTurn (ticket m.0.stage) }) × SeenPrefix number m.0.number m.0.seen m'.0.seen)
      × (n ≢ ticket m.0.stage % 2 ^ 64 → m'.0 ≡ m.0)

  -- the seat has the slot, and in it a value with the history that the seat has seen
  abbrev pub TakesSlot : (B → G) → (B → List E) → Step (Option B) → Me (Option B) (View E G) → ℕ → Me (Option B) (View E G) → Type 0
  TakesSlot basis history st m n m' = (m'.0 ≡ record m.0 { stage = Holding (ticket m.0.stage) })
      × ((x : B) × (m'.1 ≡ (0, Some x) ∷ []) × (m.0.basis ≡ Some (basis x)) × (history x ≡ m.0.seen))

  -- the seat has the slot no longer
  abbrev pub ReturnsSlot : (B → List E) → Step (Option B) → Me (Option B) (View E G) → ℕ → Me (Option B) (View E G) → Type 0
  ReturnsSlot history st m n m' = (m'.1 ≡ []) × ((x : B) → m.1 ≡ (0, Some x) ∷ [] → m'.0 ≡ record m.0 { stage = Returned (ticket m.0.stage) (history x) })

  -- the ticket is gone, and the seat has seen the history that it gave back
  abbrev pub PassesOn : Step (Option B) → Me (Option B) (View E G) → ℕ → Me (Option B) (View E G) → Type 0
  PassesOn st m n m' = (m'.1 ≡ m.1) × (m'.0 ≡ record m.0 { seen = returned_history m.0.stage; stage = Idle })
