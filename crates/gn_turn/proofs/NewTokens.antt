-- What is known of a new seat, and of one that holds.
use Rattle.std.proofs.Common.{◌≡◌, ℕ, suc, [], true, Option, refl, sym, ap, ◌∙◌}
use Rattle.atomic_table.specs.Seated.{TableId}
use Rattle.atomic_table.specs.declared.shared.Seat.{Seat}
use Rattle.gn_turn.specs.declared.view.View.{View}
use Rattle.gn_turn.specs.declared.view.Stage.{Stage}
use Rattle.gn_turn.specs.declared.view.Stage.TheVariants.{Idle, Waiting, AtTurn, Holding, Returned}
use Rattle.gn_turn.specs.declared.view.Role.TheVariants.{Plain, First}
use Rattle.gn_turn.specs.Views.{ticket, new_view, is_holding, role_at}
use Rattle.gn_turn.specs.Tokens.{IsTokenOf, IsNewToken}

pub holds_ticket : {E : Type 0} (σ : Stage E) → is_holding σ ≡ true → σ ≡ Holding (ticket σ)
holds_ticket Idle h = cc
holds_ticket (Waiting t) h = cc
holds_ticket (AtTurn t) h = cc
holds_ticket (Holding t) h = refl
holds_ticket (Returned t l) h = cc

module _ {B E G : Type 0} (z : TableId) (g : G) (n : ℕ) (p : Seat (Option B) (View E G)) where
  pub new_first : p.table_id ≡ z → p.me ≡ (new_view g 0 (First n []), []) → IsTokenOf z g n p × IsNewToken 0 p
  new_first at e = let num = ap (λ m. m.0.number) e in
      ((at, ap (λ m. m.0.basis) e, ap (λ m. m.0.role) e ∙ ap (role_at n) (sym num)), (num, ap (λ m. m.0.seen) e, (ap (λ m. m.0.stage) e, ap (λ m. m.1) e)))

  pub new_else : (i : ℕ) → p.table_id ≡ z → p.me ≡ (new_view g (suc i) Plain, []) → IsTokenOf z g n p × IsNewToken (suc i) p
  new_else i at e = let num = ap (λ m. m.0.number) e in
      ((at, ap (λ m. m.0.basis) e, ap (λ m. m.0.role) e ∙ ap (role_at n) (sym num)), (num, ap (λ m. m.0.seen) e, (ap (λ m. m.0.stage) e, ap (λ m. m.1) e)))
