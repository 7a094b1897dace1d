use Rattle.std.proofs.Common.{◌-◌, refl, vec_len, vec_capacity, arith}
use Rattle.gn_book.proofs.Steps.{left_some, stop_step}
use Rattle.gn_book.proofs.Graphing.{graphed_event}
use Rattle.gn_book.proofs.book.Book.stop.Goals as goal

pub overflow_sub-self : goal.overflow_sub-self
overflow_sub-self g c = omega (arith, left_some c.self.inside.seats c.self.inside.left c.self.inside.stop c.self.inside.roster.keys c.self.inside.roster.standings c.self.inside.log.items (vec_len c.self.inside.log) (vec_capacity c.self.inside.log) c.args.self.now (record { whole = c.self.invariant.0; view_is = c.self.view_is }) c.args.seat c.requires.seat c.requires.first)

pub note-requires : goal.note-requires
note-requires g c = omega (arith, left_some c.self.inside.seats c.self.inside.left c.self.inside.stop c.self.inside.roster.keys c.self.inside.roster.standings c.self.inside.log.items (vec_len c.self.inside.log) (vec_capacity c.self.inside.log) c.args.self.now (record { whole = c.self.invariant.0; view_is = c.self.view_is }) c.args.seat c.requires.seat c.requires.first, c.self.invariant.0.2.room)

pub invariant_of-self : goal.invariant_of-self
invariant_of-self g c =
    let done = stop_step c.self.inside.seats c.self.inside.left c.self.inside.stop c.self.inside.roster.keys c.self.inside.roster.standings c.self.inside.log.items (vec_len c.self.inside.log) (vec_capacity c.self.inside.log) c.args.self.now (record { whole = c.self.invariant.0; view_is = c.self.view_is })
    c.args.seat c.args.cause c.requires.seat c.requires.first c.requires.cause (c.self.inside.left - 1) c.set_first.new.stop c.note.new.log.items (vec_len c.note.new.log) (vec_capacity c.note.new.log)
    (omega (arith, left_some c.self.inside.seats c.self.inside.left c.self.inside.stop c.self.inside.roster.keys c.self.inside.roster.standings c.self.inside.log.items (vec_len c.self.inside.log) (vec_capacity c.self.inside.log) c.args.self.now (record { whole = c.self.invariant.0; view_is = c.self.view_is }) c.args.seat c.requires.seat c.requires.first))
    c.set_first.ensures c.note.ensures.items c.note.ensures.len c.note.ensures.capacity in
    (done.0, graphed_event _ _ _ _ _ _ c.self.view_is done.1 refl c.self.invariant.1)

pub returns : goal.returns
returns g c = (stop_step c.self.inside.seats c.self.inside.left c.self.inside.stop c.self.inside.roster.keys c.self.inside.roster.standings c.self.inside.log.items (vec_len c.self.inside.log) (vec_capacity c.self.inside.log) c.args.self.now (record { whole = c.self.invariant.0; view_is = c.self.view_is })
    c.args.seat c.args.cause c.requires.seat c.requires.first c.requires.cause (c.self.inside.left - 1) c.set_first.new.stop c.note.new.log.items (vec_len c.note.new.log) (vec_capacity c.note.new.log)
    (omega (arith, left_some c.self.inside.seats c.self.inside.left c.self.inside.stop c.self.inside.roster.keys c.self.inside.roster.standings c.self.inside.log.items (vec_len c.self.inside.log) (vec_capacity c.self.inside.log) c.args.self.now (record { whole = c.self.invariant.0; view_is = c.self.view_is }) c.args.seat c.requires.seat c.requires.first))
    c.set_first.ensures c.note.ensures.items c.note.ensures.len c.note.ensures.capacity).1
