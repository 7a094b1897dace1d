use Rattle.std.proofs.Common.{refl, vec_len, vec_capacity}
use Rattle.gn_book.specs.Logs.{state_of, key_at, IsFree}
use Rattle.gn_book.proofs.Steps.{within, holder_free, holder_seat, holder_done, leads_not}
use Rattle.gn_book.proofs.Blocking.{free_blocks, held_blocks}
use Rattle.gn_book.proofs.book.Book.block.Goals as goal

pub holder-requires : goal.holder-requires
holder-requires g c = within c.self.inside.seats c.self.inside.left c.self.inside.stop c.self.inside.roster.keys c.self.inside.roster.standings c.self.inside.log.items (vec_len c.self.inside.log) (vec_capacity c.self.inside.log) c.args.self.now (record { whole = c.self.invariant.0; view_is = c.self.view_is }) c.args.on c.requires.numbers.1

pub block_free-requires-clause-free : goal.block_free-requires-clause-free
block_free-requires-clause-free g c = holder_free c.self.inside.seats c.self.inside.left c.self.inside.stop c.self.inside.roster.keys c.self.inside.roster.standings c.self.inside.log.items (vec_len c.self.inside.log) (vec_capacity c.self.inside.log) c.args.self.now (record { whole = c.self.invariant.0; view_is = c.self.view_is }) c.args.on c.requires.numbers.1 c.in-Nobody.ensures

pub block_held-requires-clause-held : goal.block_held-requires-clause-held
block_held-requires-clause-held g c = holder_seat c.self.inside.seats c.self.inside.left c.self.inside.stop c.self.inside.roster.keys c.self.inside.roster.standings c.self.inside.log.items (vec_len c.self.inside.log) (vec_capacity c.self.inside.log) c.args.self.now (record { whole = c.self.invariant.0; view_is = c.self.view_is }) c.args.on c.requires.numbers.1 c.in-Seat.seat c.in-Seat.ensures

pub returns-in-Done-clause-ok : goal.returns-in-Done-clause-ok
returns-in-Done-clause-ok g c = (refl, holder_done c.self.inside.seats c.self.inside.left c.self.inside.stop c.self.inside.roster.keys c.self.inside.roster.standings c.self.inside.log.items (vec_len c.self.inside.log) (vec_capacity c.self.inside.log) c.args.self.now (record { whole = c.self.invariant.0; view_is = c.self.view_is }) c.args.on c.requires.numbers.1 c.in-Done.ensures)

pub returns-in-Nobody-clause-ok : goal.returns-in-Nobody-clause-ok
returns-in-Nobody-clause-ok g c =
    let free : IsFree (state_of c.args.self.now) (key_at c.args.self.now c.args.on) = holder_free c.self.inside.seats c.self.inside.left c.self.inside.stop c.self.inside.roster.keys c.self.inside.roster.standings c.self.inside.log.items (vec_len c.self.inside.log) (vec_capacity c.self.inside.log) c.args.self.now (record { whole = c.self.invariant.0; view_is = c.self.view_is }) c.args.on c.requires.numbers.1 c.in-Nobody.ensures in
    free_blocks c.args.self.now c.block_free.new.self c.args.claim.now.seat c.args.claim.now.number c.args.on c.args.place c.block_free.result c.block_free.ensures.claim c.block_free.ensures.ok free
    (leads_not c.self.inside.seats c.self.inside.left c.self.inside.stop c.self.inside.roster.keys c.self.inside.roster.standings c.self.inside.log.items (vec_len c.self.inside.log) (vec_capacity c.self.inside.log) c.args.self.now (record { whole = c.self.invariant.0; view_is = c.self.view_is }) c.args.claim.now.number c.args.on c.args.claim.now.seat c.requires.claimed free.unclaimed)

pub returns-in-Seat-clause-ok : goal.returns-in-Seat-clause-ok
returns-in-Seat-clause-ok g c =
    held_blocks c.args.self.now c.block_held.new.self c.args.claim.now.seat c.args.claim.now.number c.args.on c.in-Seat.seat c.args.place c.block_held.result c.block_held.ensures.ok
    (holder_seat c.self.inside.seats c.self.inside.left c.self.inside.stop c.self.inside.roster.keys c.self.inside.roster.standings c.self.inside.log.items (vec_len c.self.inside.log) (vec_capacity c.self.inside.log) c.args.self.now (record { whole = c.self.invariant.0; view_is = c.self.view_is }) c.args.on c.requires.numbers.1 c.in-Seat.seat c.in-Seat.ensures)
