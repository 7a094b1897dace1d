-- The rule of the lock: what holds of the two words, the slot and all seats between any two steps.
use Rattle.std.specs.Prelude.{◌≡◌, ◌⊎◌, ℕ, ◌+◌, ◌%◌, ◌^◌, ◌<◌, ◌≤◌, List, [], ◌∷◌, length, All, count_by, Option, Some}
use mathlib.Core.Option.{some, none}
use mathlib.Core.Option as maybe
use lib.ListN.{get_elem?}
use Rattle.atomic_table.specs.Table.{State}
use Rattle.gn_turn.specs.declared.view.View.{View}
use Rattle.gn_turn.specs.declared.view.Joined.{Joined}
use Rattle.gn_turn.specs.declared.view.Stage.{Stage}
use Rattle.gn_turn.specs.declared.view.Stage.TheVariants.{Idle, Waiting, AtTurn, Holding, Returned}
use Rattle.gn_turn.specs.declared.view.Role.{Role}
use Rattle.gn_turn.specs.declared.view.Role.TheVariants.{Plain, First}
use Rattle.gn_turn.specs.History.{SeenPrefix, AddsOwn}
use Rattle.gn_turn.specs.Views.{spent_view, has_drawn}

-- the slot is at rest with the settled history, was taken, or has the value back with this history
pub data Slot (E : Type 0) : Type 0 where
  at_rest : Slot E
  taken : Slot E
  returned : List E → Slot E

-- what the rule knows beside the words, the slot and the seats
pub record Progress (E : Type 0) : Type 0 where
  -- how many turns were passed on, which is the ticket that is served
  pub passed : ℕ
  -- how many tickets are out
  pub tickets : ℕ
  -- which seat has each ticket
  pub owner : ℕ → ℕ
  pub slot : Slot E
  -- the history at the last pass-on
  pub settled : List E

module _ {E G : Type 0} (number : E → ℕ) (q : Progress E) (views : List (View E G)) (j : ℕ) where
  -- the seat j has the ticket that is served, and has found its turn: it has seen the settled history
  abbrev pub IsServed : List E → ℕ → Slot E → Type 0
  IsServed seen t slot = (t ≡ q.passed) × (0 < q.tickets) × (q.owner t ≡ j) × (seen ≡ q.settled) × (q.slot ≡ slot)

  abbrev pub IsAtStage : List E → Stage E → Type 0
  IsAtStage seen Idle = Unit {0}
  IsAtStage seen (Waiting t) = (q.passed ≤ t) × (t < q.passed + q.tickets) × (q.owner t ≡ j)
  IsAtStage seen (AtTurn t) = IsServed seen t at_rest
  IsAtStage seen (Holding t) = IsServed seen t taken
  IsAtStage seen (Returned t history) = IsServed seen t (returned history)

  -- a seat that was joined: it saw a prefix of the settled history, and no live seat bears its number
  abbrev pub IsRemembered : Joined E → Type 0
  IsRemembered p = SeenPrefix number p.number p.seen q.settled × (get_elem? views p.number ≡ some spent_view)

  -- only the seat 0 counts numbers and takes others in
  abbrev pub IsInRole : Role E → Type 0
  IsInRole Plain = Unit {0}
  IsInRole (First n joined) = (j ≡ 0) × (n ≡ length views) × All IsRemembered joined

  -- what holds of a live seat: its number is its place among the views
  pub record IsSeated (g : G) (v : View E G) : Type 0 where
    pub number_is : v.number ≡ j
    pub basis_is : v.basis ≡ Some g
    pub saw : SeenPrefix number j v.seen q.settled
    pub at_stage : IsAtStage v.seen v.stage
    pub in_role : IsInRole v.role

module _ {E G : Type 0} (passed tickets server : ℕ) (views : List (View E G)) where
  -- where the slot isn't at rest, the seat whose ticket is served uses it
  abbrev pub IsInUse : Slot E → Type 0
  IsInUse at_rest = Unit {0}
  IsInUse taken = (0 < tickets) × ((v : View E G) × (get_elem? views server ≡ some v) × (v.stage ≡ Holding passed))
  IsInUse (returned history) = (0 < tickets) × ((v : View E G) × (get_elem? views server ≡ some v) × (v.stage ≡ Returned passed history))

module _ {B E G : Type 0} (basis : B → G) (history : B → List E) (number : E → ℕ) (g : G) where
  -- the value is at home, with the basis g and this history
  abbrev pub IsAtHome : List (maybe.Option (Option B)) → List E → Type 0
  IsAtHome homes h = (x : B) × (homes ≡ some (Some x) ∷ []) × (basis x ≡ g) × (history x ≡ h)

  module _ (settled : List E) (server : ℕ) where
    -- what the slot has at home; between slot in and pass on, the settled history and entries of the seat that is served
    abbrev pub SlotHas : List (maybe.Option (Option B)) → Slot E → Type 0
    SlotHas homes at_rest = IsAtHome homes settled
    SlotHas homes taken = homes ≡ none ∷ []
    SlotHas homes (returned h) = IsAtHome homes h × AddsOwn number server settled h

  -- Word 0 is the next ticket and word 1 the one that is served, both counted round at 2^64
  pub record LockInvariant (s : State (Option B) (View E G)) : Type 0 where
    pub progress : Progress E
    pub words : s.words ≡ (progress.passed + progress.tickets) % 2 ^ 64 ∷ progress.passed % 2 ^ 64 ∷ []
    pub counted : count_by has_drawn s.views ≡ progress.tickets
    pub few : length s.views ≤ 64
    -- numbers not yet given have no entry
    pub known : All (λ e. number e < length s.views) progress.settled
    pub home : SlotHas progress.settled (progress.owner progress.passed) s.homes progress.slot
    pub in_use : IsInUse progress.passed progress.tickets (progress.owner progress.passed) s.views progress.slot
    pub seats : (j : ℕ) (v : View E G) → get_elem? s.views j ≡ some v → (v ≡ spent_view) ⊎ IsSeated number progress s.views j g v
