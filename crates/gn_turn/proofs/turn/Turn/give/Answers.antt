use Rattle.std.proofs.Common.{rules, ◌∷◌, ap, ◌∙◌, sym, Some}
use Rattle.atomic_table.specs.Table.{rest}
use Rattle.gn_turn.proofs.Entries.{entries_of-AddsOwn}
use Rattle.gn_turn.proofs.NewTokens.{holds_ticket}
use Rattle.gn_turn.proofs.SlotSteps.{return_allowed}
use Rattle.gn_turn.proofs.TicketSteps.{pass_on_allowed}
use Rattle.gn_turn.proofs.turn.Turn.give.Goals as goal

pub load-requires : goal.load-requires
load-requires g c =
    let now = c.exchange.ensures.3 in
    let view = ap (λ m. m.0) now in
    let kept = c.into_kept-kept.result in (
      search rules,
      search rules,
      return_allowed g.B.Kept.basis g.B.Kept.history g.B.Kept.number _ _ _ _ _ kept
          (ap (λ v. v.basis) view ∙ c.requires.own.1) (ap (λ v. v.stage) view ∙ holds_ticket _ c.requires.holding.0)
          (ap (λ m. m.1) now ∙ ap (λ cs. (0, Some kept) ∷ rest cs) c.requires.holding.1)
          (ap (λ v. v.basis) view ∙ (c.requires.own.1 ∙ ap (λ b. Some b) (sym (ap g.B.Kept.basis c.into_kept-kept.ensures ∙ c.requires.basis)))) (search rules),
    )

pub fetch_add-requires : goal.fetch_add-requires
fetch_add-requires g c =
    let now = c.exchange.ensures.3 in
    let view = ap (λ m. m.0) now in
    let kept = c.into_kept-kept.result in
    let carried = ap (λ m. m.1) now ∙ ap (λ cs. (0, Some kept) ∷ rest cs) c.requires.holding.1 in
    let returned = c.load.ensures.2.1 kept carried in (
      search rules,
      search rules,
      pass_on_allowed g.B.Kept.basis g.B.Kept.history g.B.Kept.number _ _ _ _ _ _
          (ap (λ v. v.basis) returned ∙ (ap (λ v. v.basis) view ∙ c.requires.own.1)) (ap (λ v. v.stage) returned),
    )

pub returns-clause-entries : goal.returns-clause-entries
returns-clause-entries g c = entries_of-AddsOwn g.B.Kept.number _ _ _ (search rules)
