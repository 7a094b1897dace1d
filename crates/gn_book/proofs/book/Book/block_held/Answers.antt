use Rattle.std.proofs.Common.{◌++◌, ◌∷◌, [], List, refl, ◌∙◌, ap, arith, vec_len, vec_capacity}
use Rattle.gn_book.specs.declared.event.Event.{Event as Logged}
use Rattle.gn_book.specs.declared.event.Event.TheVariants as logged
use Rattle.gn_book.proofs.Steps.{within, seat_here, block_step, closes_same}
use Rattle.gn_book.proofs.Graphing.{graphed_event}
use Rattle.gn_book.proofs.book.Book.block_held.Goals as goal

pub block-requires-clause-number : goal.block-requires-clause-number
block-requires-clause-number g c = within c.self.inside.seats c.self.inside.left c.self.inside.stop c.self.inside.roster.keys c.self.inside.roster.standings c.self.inside.log.items (vec_len c.self.inside.log) (vec_capacity c.self.inside.log) c.args.self.now (record { whole = c.self.invariant.0; view_is = c.self.view_is }) c.args.claim.now.number c.requires.numbers.0

pub block-requires-clause-claimed : goal.block-requires-clause-claimed
block-requires-clause-claimed g c = seat_here c.self.inside.seats c.self.inside.left c.self.inside.stop c.self.inside.roster.keys c.self.inside.roster.standings c.self.inside.log.items (vec_len c.self.inside.log) (vec_capacity c.self.inside.log) c.args.self.now (record { whole = c.self.invariant.0; view_is = c.self.view_is }) c.args.claim.now.number c.requires.numbers.0 ∙ c.requires.claimed

pub invariant_of-self-2 : goal.invariant_of-self-2
invariant_of-self-2 g c =
    let done = block_step c.self.inside.seats c.self.inside.left c.self.inside.stop c.self.inside.roster.keys c.self.inside.roster.standings c.self.inside.log.items (vec_len c.self.inside.log) (vec_capacity c.self.inside.log) c.args.self.now (record { whole = c.self.invariant.0; view_is = c.self.view_is })
    c.args.claim.now.number c.args.on c.args.claim.now.seat c.args.seat c.args.place c.leads-closes.result c.requires.numbers.0 c.requires.numbers.1 c.requires.claimed c.requires.held
    c.block.new.self c.note.new.log.items (vec_len c.note.new.log) (vec_capacity c.note.new.log)
    c.block.ensures
    (c.note.ensures.items ∙ ap (λ (z : List Logged). z ++ logged.Block c.args.claim.now.seat c.args.claim.now.number (record { on = c.args.on; place = c.args.place; closes = c.leads-closes.result }) ∷ []) c.make_room.ensures.items)
    (omega (arith, c.note.ensures.len, c.note.ensures.capacity, c.in_ok-make_room.ensures.room)) in
    (done.0, graphed_event _ _ _ _ _ _ c.self.view_is done.1 refl c.self.invariant.1)

pub returns-clause-ok : goal.returns-clause-ok
returns-clause-ok g c = (
  c.leads-closes.result,
  c.wait_or_cycle.ensures,
  closes_same c.self.inside.seats c.self.inside.left c.self.inside.stop c.self.inside.roster.keys c.self.inside.roster.standings c.self.inside.log.items (vec_len c.self.inside.log) (vec_capacity c.self.inside.log) c.args.self.now (record { whole = c.self.invariant.0; view_is = c.self.view_is }) c.args.claim.now.number c.args.on c.requires.numbers.0 c.requires.numbers.1 c.leads-closes.result c.leads-closes.ensures,
  (block_step c.self.inside.seats c.self.inside.left c.self.inside.stop c.self.inside.roster.keys c.self.inside.roster.standings c.self.inside.log.items (vec_len c.self.inside.log) (vec_capacity c.self.inside.log) c.args.self.now (record { whole = c.self.invariant.0; view_is = c.self.view_is })
      c.args.claim.now.number c.args.on c.args.claim.now.seat c.args.seat c.args.place c.leads-closes.result c.requires.numbers.0 c.requires.numbers.1 c.requires.claimed c.requires.held
      c.block.new.self c.note.new.log.items (vec_len c.note.new.log) (vec_capacity c.note.new.log)
      c.block.ensures
      (c.note.ensures.items ∙ ap (λ (z : List Logged). z ++ logged.Block c.args.claim.now.seat c.args.claim.now.number (record { on = c.args.on; place = c.args.place; closes = c.leads-closes.result }) ∷ []) c.make_room.ensures.items)
      (omega (arith, c.note.ensures.len, c.note.ensures.capacity, c.in_ok-make_room.ensures.room))).1,
)
