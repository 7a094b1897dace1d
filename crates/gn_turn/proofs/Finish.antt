-- What `finish` hands back, and what each seat has seen of it.
use Rattle.std.proofs.Common.{◌≡◌, ◌≢◌, ℕ, ◌<◌, List, length, get_or, Option, Some, sym, ap, ◌∙◌, subst, arith}
use Rattle.std.specs.List.{All, SomeIndex, HoldsAt, remove}
use mathlib.Core.Option.{some}
use lib.ListN.{get_elem?}
use Rattle.atomic_table.specs.Table.{Final, Seen}
use Rattle.atomic_table.specs.Seated.{TableId}
use Rattle.atomic_table.specs.declared.shared.Seat.{Seat}
use Rattle.gn_turn.specs.declared.view.View.{View}
use Rattle.gn_turn.specs.declared.view.Joined.{Joined}
use Rattle.gn_turn.specs.declared.view.Role.{Role}
use Rattle.gn_turn.specs.declared.view.Role.TheVariants.{First}
use Rattle.gn_turn.specs.History.{SeenPrefix}
use Rattle.gn_turn.specs.Invariant.{LockInvariant}
use Rattle.gn_turn.specs.Views.{numbers_given, role_at}
use Rattle.gn_turn.specs.Tokens.{IsTokenOf, IsIdleToken, token_number, token_seen, joined_of, map_reversed}
use Rattle.gn_turn.proofs.Lists.{remove_else, all_put_back, found, all_found}
use Rattle.gn_turn.proofs.LastSeat.{AllJoined, final_value}

module _ {A B E G : Type 0} (basis : B → G) (history : B → List E) (number : E → ℕ) (g : G) (token : A → Seat (Option B) (View E G)) where
  abbrev IsMember : TableId → ℕ → A → Type 0
  IsMember z n s = IsTokenOf z g n (token s) × IsIdleToken (token s)

  abbrev HasEach : ℕ → List A → Type 0
  HasEach n seats = (k : ℕ) → k < n → SomeIndex seats (HoldsAt (λ s. token_number (token s) ≡ k) seats)

  abbrev joins_as : A → Joined E
  joins_as s = joined_of (token s)

  -- without the first seat, the others have all numbers but 0
  all_joined : (n : ℕ) (seats : List A) (i : ℕ) (first : A) → first ≡ get_or seats i first → token_number (token first) ≡ 0 → HasEach n seats
      → AllJoined basis history number g n (map_reversed joins_as (remove seats i))
  all_joined n seats i first is at_zero each k some_k below =
      let at = each k below in
      let other : at.0 ≢ i = λ same. (let e : token_number (token first) ≡ k = ap (λ s. token_number (token s)) (is ∙ ap (λ (m : ℕ). get_or seats m first) (sym same)) ∙ at.2 first in omega arith) in
      let left = remove_else seats i at.0 first at.1 other in
      let joined = found joins_as (remove seats i) left.0 first left.1 in
      (joined.0, joins_as first, joined.1, ap (λ (p : Joined E). p.number) joined.2 ∙ (ap (λ (s : A). token_number (token s)) left.2 ∙ at.2 first))

  pub finish_gives : (z : TableId) (n : ℕ) (seats : List A) (i : ℕ) (first : A) (q : Seat (Option B) (View E G)) (ws : List ℕ) (xs : List (Option B)) (y : Option B)
      → i < length seats → first ≡ get_or seats i first → token_number (token first) ≡ 0 → HasEach n seats → All (IsMember z n) seats
      → q.me.0 ≡ record (token first).me.0 { role = First (numbers_given (token first).me.0.role) (map_reversed joins_as (remove seats i)) }
      → Final (Seen (LockInvariant basis history number g) q.id q.me.0) ws xs → get_elem? xs 0 ≡ some y
      → (x : B) × (y ≡ Some x) × (basis x ≡ g) × All (λ e. number e < n) (history x) × All (λ s. SeenPrefix number (token_number (token s)) (token_seen (token s)) (history x)) seats
  finish_gives z n seats i first q ws xs y near is at_zero each members now final at =
      let member : IsMember z n first = subst (IsMember z n) (sym is) (members i first near) in
      let joined : List (Joined E) = map_reversed joins_as (remove seats i) in
      let count : numbers_given (token first).me.0.role ≡ n = ap numbers_given (member.0.2 ∙ ap (role_at n) at_zero) in
      let r = final_value basis history number g ws xs q.id q.me.0 n joined final (ap (λ v. v.basis) now ∙ member.0.1) (ap (λ v. v.stage) now ∙ member.1.0)
      (ap (λ v. v.role) now ∙ ap (λ (k : ℕ). let role : Role E = First k joined in role) count) (all_joined n seats i first is at_zero each) y at in
      let x : B = r.0 in
      let Saw : A → Type 0 = λ s. SeenPrefix number (token_number (token s)) (token_seen (token s)) (history x) in
      let first_saw : Saw first = subst (λ (p : ℕ × List E). SeenPrefix number p.0 p.1 (history x)) (λ k. (sym at_zero k, (ap (λ v. v.seen) now) k)) r.4 in
      let others_saw : All Saw (remove seats i) = all_found joins_as (λ p. SeenPrefix number p.number p.seen (history x)) (remove seats i) r.5 in
      (x, r.1, r.2, r.3, all_put_back Saw seats i first near is first_saw others_saw)
