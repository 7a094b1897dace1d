-- What a seat knows, part by part, and how the steps change it.
use Rattle.std.specs.Prelude.{ℕ, zero, suc, ◌+◌, List, [], ◌∷◌, ◌++◌, Bool, true, false, Some, None}
use Rattle.gn_turn.specs.declared.view.View.{View}
use Rattle.gn_turn.specs.declared.view.Stage.{Stage}
use Rattle.gn_turn.specs.declared.view.Stage.TheVariants.{Idle, Waiting, AtTurn, Holding, Returned}
use Rattle.gn_turn.specs.declared.view.Role.{Role}
use Rattle.gn_turn.specs.declared.view.Role.TheVariants.{Plain, First}

module _ {E : Type 0} where
  -- the ticket of a stage, which is 0 where it has none
  abbrev pub ticket : Stage E → ℕ
  ticket Idle = 0
  ticket (Waiting t) = t
  ticket (AtTurn t) = t
  ticket (Holding t) = t
  ticket (Returned t history) = t

  abbrev pub has_ticket : Stage E → Bool
  has_ticket Idle = false
  has_ticket _ = true

  abbrev pub is_holding : Stage E → Bool
  is_holding (Holding t) = true
  is_holding _ = false

  -- the history with which the value was put back
  abbrev pub returned_history : Stage E → List E
  returned_history (Returned t history) = history
  returned_history _ = []

  -- what the seat of this number serves as, among n seats
  abbrev pub role_at : ℕ → ℕ → Role E
  role_at n zero = First n []
  role_at n (suc k) = Plain

  abbrev pub numbers_given : Role E → ℕ
  numbers_given Plain = 0
  numbers_given (First n joined) = n

  abbrev pub one_more_given : Role E → Role E
  one_more_given Plain = Plain
  one_more_given (First n joined) = First (n + 1) joined

  -- the first seat keeps the number and the history of a seat that it takes in
  abbrev pub taking_in : ℕ → List E → Role E → Role E
  taking_in number seen Plain = Plain
  taking_in number seen (First n joined) = First n (joined ++ record { number = number; seen = seen } ∷ [])

module _ {E G : Type 0} where
  abbrev pub spent_view : View E G
  spent_view = record { basis = None; number = 0; seen = []; stage = Idle; role = Plain }

  abbrev pub new_view : G → ℕ → Role E → View E G
  new_view g n role = record { basis = Some g; number = n; seen = []; stage = Idle; role = role }

  abbrev pub first_view : G → View E G
  first_view g = new_view g 0 (First 1 [])

  abbrev pub has_drawn : View E G → Bool
  has_drawn v = has_ticket v.stage

  -- splitting: the first seat counts one more number, and the new seat bears it
  abbrev pub after_split : View E G → View E G
  after_split v = record v { role = one_more_given v.role }

  abbrev pub split_off : View E G → View E G
  split_off v = record v { number = numbers_given v.role; seen = []; stage = Idle; role = Plain }

  -- joining: the first seat takes the other in
  abbrev pub after_join : View E G → View E G → View E G
  after_join v w = record v { role = taking_in w.number w.seen v.role }
