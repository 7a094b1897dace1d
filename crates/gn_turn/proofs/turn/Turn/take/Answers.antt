use Rattle.std.proofs.Common.{rules, ◌∷◌, ap, ◌∙◌, sym, Some}
use Rattle.atomic_table.specs.Table.{rest}
use Rattle.gn_turn.proofs.Entries.{entries_of-SeenPrefix}
use Rattle.gn_turn.proofs.SlotSteps.{take_allowed}
use Rattle.gn_turn.proofs.TicketSteps.{draw_allowed}
use Rattle.gn_turn.proofs.turn.Turn.take.Goals as goal

pub fetch_add-drawn-requires : goal.fetch_add-drawn-requires
fetch_add-drawn-requires g c = (
  search rules,
  search rules,
  draw_allowed g.B.Kept.basis g.B.Kept.history g.B.Kept.number _ _ _ _ c.requires.own.1 c.requires.idle.0,
)

pub load-requires : goal.load-requires
load-requires g c = let drew = c.fetch_add-drawn.ensures.2 in let at_turn = c.wait_for_turn.ensures in (
  search rules,
  search rules,
  take_allowed g.B.Kept.basis g.B.Kept.history g.B.Kept.number _ _ _ _ _
      (ap (λ v. v.basis) at_turn.view ∙ (ap (λ v. v.basis) drew.2 ∙ c.requires.own.1)) (ap (λ v. v.stage) at_turn.view)
      (at_turn.token.1 ∙ (drew.0 ∙ c.requires.idle.1)),
)

pub exchange-requires : goal.exchange-requires
exchange-requires g c = let took = c.load.ensures.2.1 in (search rules, (Some took.0, took.1 ∙ ap (λ cs. (0, Some took.0) ∷ rest cs) (sym took.1)))

pub returns-clause-entries : goal.returns-clause-entries
returns-clause-entries g c = entries_of-SeenPrefix g.B.Kept.number _ _ _ (search rules)
