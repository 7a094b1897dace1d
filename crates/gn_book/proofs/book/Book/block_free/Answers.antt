use Rattle.std.proofs.Common.{◌++◌, ◌∷◌, [], List, false, refl, ◌∙◌, ap, arith, vec_len, vec_capacity}
use Rattle.gn_book.specs.declared.event.Event.{Event as Logged}
use Rattle.gn_book.specs.declared.event.Event.TheVariants as logged
use Rattle.gn_book.specs.Keys.{key_of}
use Rattle.gn_book.specs.Rosters.{Table, with_standing}
use Rattle.gn_book.specs.Standings.{is_blocked}
use Rattle.gn_book.proofs.Steps.{within, free_open, still_seated, kept_whole, kept_log, err_says, free_block_step, named_key}
use Rattle.gn_book.proofs.Graphing.{graphed_same, graphed_event}
use Rattle.gn_book.proofs.book.Book.block_free.Goals as goal

pub claim-requires-clause-number : goal.claim-requires-clause-number
claim-requires-clause-number g c = within c.self.inside.seats c.self.inside.left c.self.inside.stop c.self.inside.roster.keys c.self.inside.roster.standings c.self.inside.log.items (vec_len c.self.inside.log) (vec_capacity c.self.inside.log) c.args.self.now (record { whole = c.self.invariant.0; view_is = c.self.view_is }) c.args.on c.requires.numbers.1

pub claim-requires-clause-is_open : goal.claim-requires-clause-is_open
claim-requires-clause-is_open g c = free_open c.self.inside.seats c.self.inside.left c.self.inside.stop c.self.inside.roster.keys c.self.inside.roster.standings c.self.inside.log.items (vec_len c.self.inside.log) (vec_capacity c.self.inside.log) c.args.self.now (record { whole = c.self.invariant.0; view_is = c.self.view_is }) c.args.on c.requires.numbers.1 c.requires.free

pub block-requires-clause-number : goal.block-requires-clause-number
block-requires-clause-number g c = (still_seated c.self.inside.seats c.self.inside.left c.self.inside.stop c.self.inside.roster.keys c.self.inside.roster.standings c.self.inside.log.items (vec_len c.self.inside.log) (vec_capacity c.self.inside.log) c.args.self.now (record { whole = c.self.invariant.0; view_is = c.self.view_is }) c.args.claim.now.number c.args.on c.args.claim.now.seat c.requires.numbers.0 c.requires.numbers.1 c.requires.claimed c.requires.free c.claim.new.self c.in_ok-named.ensures.ok).0

pub block-requires-clause-claimed : goal.block-requires-clause-claimed
block-requires-clause-claimed g c = (still_seated c.self.inside.seats c.self.inside.left c.self.inside.stop c.self.inside.roster.keys c.self.inside.roster.standings c.self.inside.log.items (vec_len c.self.inside.log) (vec_capacity c.self.inside.log) c.args.self.now (record { whole = c.self.invariant.0; view_is = c.self.view_is }) c.args.claim.now.number c.args.on c.args.claim.now.seat c.requires.numbers.0 c.requires.numbers.1 c.requires.claimed c.requires.free c.claim.new.self c.in_ok-named.ensures.ok).1

pub invariant_of-self-in_err-named : goal.invariant_of-self-in_err-named
invariant_of-self-in_err-named g c = (
  kept_whole c.self.inside.seats c.self.inside.left c.self.inside.stop c.self.inside.roster.keys c.self.inside.roster.standings c.self.inside.log.items (vec_len c.self.inside.log) (vec_capacity c.self.inside.log) c.self.invariant.0 c.claim.new.self c.make_room.new.log.items (vec_len c.make_room.new.log) (vec_capacity c.make_room.new.log)
      c.in_err-named.ensures.err c.make_room.ensures.items c.make_room.ensures.len c.make_room.ensures.kept,
  graphed_same _ _ _ _ _ c.self.view_is (kept_log c.self.inside.seats c.self.inside.roster c.claim.new.self c.self.inside.log.items c.make_room.new.log.items c.args.self.now c.self.view_is c.in_err-named.ensures.err c.make_room.ensures.items) c.self.invariant.1,
)

pub invariant_of-self-2 : goal.invariant_of-self-2
invariant_of-self-2 g c =
    let done = free_block_step c.self.inside.seats c.self.inside.left c.self.inside.stop c.self.inside.roster.keys c.self.inside.roster.standings c.self.inside.log.items (vec_len c.self.inside.log) (vec_capacity c.self.inside.log) c.args.self.now (record { whole = c.self.invariant.0; view_is = c.self.view_is })
    c.args.claim.now.number c.args.on c.args.claim.now.seat c.args.place false c.requires.numbers.0 c.requires.numbers.1 c.requires.claimed c.requires.free
    c.block.new.self c.note.new.log.items (vec_len c.note.new.log) (vec_capacity c.note.new.log)
    (c.block.ensures ∙ ap (λ (t : Table). with_standing t c.args.claim.now.number (is_blocked c.args.claim.now.seat c.args.on)) c.in_ok-named.ensures.ok)
    (c.note.ensures.items ∙ ap (λ (z : List Logged). z ++ logged.Block c.args.claim.now.seat c.args.claim.now.number (record { on = c.args.on; place = c.args.place; closes = false }) ∷ []) c.make_room.ensures.items)
    (omega (arith, c.note.ensures.len, c.note.ensures.capacity, c.in_ok-make_room.ensures.room)) in
    (done.0, graphed_event _ _ _ _ _ _ c.self.view_is done.1 refl c.self.invariant.1)

pub returns-clause-ok : goal.returns-clause-ok
returns-clause-ok g c = (free_block_step c.self.inside.seats c.self.inside.left c.self.inside.stop c.self.inside.roster.keys c.self.inside.roster.standings c.self.inside.log.items (vec_len c.self.inside.log) (vec_capacity c.self.inside.log) c.args.self.now (record { whole = c.self.invariant.0; view_is = c.self.view_is })
    c.args.claim.now.number c.args.on c.args.claim.now.seat c.args.place false c.requires.numbers.0 c.requires.numbers.1 c.requires.claimed c.requires.free
    c.block.new.self c.note.new.log.items (vec_len c.note.new.log) (vec_capacity c.note.new.log)
    (c.block.ensures ∙ ap (λ (t : Table). with_standing t c.args.claim.now.number (is_blocked c.args.claim.now.seat c.args.on)) c.in_ok-named.ensures.ok)
    (c.note.ensures.items ∙ ap (λ (z : List Logged). z ++ logged.Block c.args.claim.now.seat c.args.claim.now.number (record { on = c.args.on; place = c.args.place; closes = false }) ∷ []) c.make_room.ensures.items)
    (omega (arith, c.note.ensures.len, c.note.ensures.capacity, c.in_ok-make_room.ensures.room))).1

pub returns-clause-claim : goal.returns-clause-claim
returns-clause-claim g c = (
  record { key = c.in_ok-named.named; seat = c.args.claim.now.seat; number = c.args.on },
  refl,
  named_key c.self.inside.seats c.self.inside.left c.self.inside.stop c.self.inside.roster.keys c.self.inside.roster.standings c.self.inside.log.items (vec_len c.self.inside.log) (vec_capacity c.self.inside.log) c.args.self.now (record { whole = c.self.invariant.0; view_is = c.self.view_is }) c.args.on (key_of c.in_ok-named.named) c.in_ok-named.ensures.key,
  refl,
  refl,
)

pub returns-in_err-named-clause-err : goal.returns-in_err-named-clause-err
returns-in_err-named-clause-err g c = err_says c.from_residual-in_err-named.result _ (kept_log c.self.inside.seats c.self.inside.roster c.claim.new.self c.self.inside.log.items c.make_room.new.log.items c.args.self.now c.self.view_is c.in_err-named.ensures.err c.make_room.ensures.items)
