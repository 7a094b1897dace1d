use Rattle.std.proofs.Common.{◌++◌, ◌∷◌, [], List, sym, subst, ◌∙◌, ap, arith, vec_len, vec_capacity}
use Rattle.gn_book.specs.declared.event.Event.{Event as Logged}
use Rattle.gn_book.specs.declared.event.Event.TheVariants as logged
use Rattle.gn_core.specs.Keys.{Key}
use Rattle.gn_book.specs.Keys.{key_of}
use Rattle.gn_book.specs.Graphs.{IsNew, with_answer}
use Rattle.gn_book.proofs.Steps.{within, seat_here, file_step, unfiled_here, named_key}
use Rattle.gn_book.proofs.Graphing.{graphed_file, new_key}
use Rattle.gn_book.proofs.book.Book.file.Goals as goal

pub file-requires-clause-number : goal.file-requires-clause-number
file-requires-clause-number g c = within c.self.inside.seats c.self.inside.left c.self.inside.stop c.self.inside.roster.keys c.self.inside.roster.standings c.self.inside.log.items (vec_len c.self.inside.log) (vec_capacity c.self.inside.log) c.args.self.now (record { whole = c.self.invariant.0; view_is = c.self.view_is }) c.args.claim.number c.requires.number

pub file-requires-clause-claimed : goal.file-requires-clause-claimed
file-requires-clause-claimed g c = (c.args.claim.seat, seat_here c.self.inside.seats c.self.inside.left c.self.inside.stop c.self.inside.roster.keys c.self.inside.roster.standings c.self.inside.log.items (vec_len c.self.inside.log) (vec_capacity c.self.inside.log) c.args.self.now (record { whole = c.self.invariant.0; view_is = c.self.view_is }) c.args.claim.number c.requires.number ∙ c.requires.claimed)

pub invariant_of-self-in-Ok : goal.invariant_of-self-in-Ok
invariant_of-self-in-Ok g c =
    let done = file_step c.self.inside.seats c.self.inside.left c.self.inside.stop c.self.inside.roster.keys c.self.inside.roster.standings c.self.inside.log.items (vec_len c.self.inside.log) (vec_capacity c.self.inside.log) c.args.self.now (record { whole = c.self.invariant.0; view_is = c.self.view_is })
    c.args.claim.number c.args.claim.seat (g.A.Answer.meaning c.args.answer) c.requires.number c.requires.claimed
    c.file.new.self c.note.new.log.items (vec_len c.note.new.log) (vec_capacity c.note.new.log)
    c.file.ensures
    (c.note.ensures.items ∙ ap (λ (z : List Logged). z ++ logged.File c.args.claim.seat c.args.claim.number ∷ []) c.take_in.ensures.items)
    (omega (arith, c.note.ensures.len, c.note.ensures.capacity, c.in-Ok.ensures.room)) in (
      done.0,
      graphed_file c.more_answers_reach_more.ensures _ _ _ _ _ _ _ _ _ c.self.view_is done.1
          (new_key _ _ c.self.inside.graph c.self.inside.seen _ c.self.view_is c.self.invariant.1 (unfiled_here c.self.inside.seats c.self.inside.left c.self.inside.stop c.self.inside.roster.keys c.self.inside.roster.standings c.self.inside.log.items (vec_len c.self.inside.log) (vec_capacity c.self.inside.log) c.args.self.now (record { whole = c.self.invariant.0; view_is = c.self.view_is }) c.args.claim.number c.args.claim.seat c.requires.number c.requires.claimed))
          (c.in-Ok.ensures.ok ∙ ap (λ (k : Key). with_answer c.self.inside.graph.replies k (g.A.Answer.meaning c.args.answer)) (named_key c.self.inside.seats c.self.inside.left c.self.inside.stop c.self.inside.roster.keys c.self.inside.roster.standings c.self.inside.log.items (vec_len c.self.inside.log) (vec_capacity c.self.inside.log) c.args.self.now (record { whole = c.self.invariant.0; view_is = c.self.view_is }) c.args.claim.number (key_of c.key.result.now) c.key.ensures)) c.in-Ok.ensures.found c.self.invariant.1,
    )

pub returns-in-Ok-clause-ok : goal.returns-in-Ok-clause-ok
returns-in-Ok-clause-ok g c = (file_step c.self.inside.seats c.self.inside.left c.self.inside.stop c.self.inside.roster.keys c.self.inside.roster.standings c.self.inside.log.items (vec_len c.self.inside.log) (vec_capacity c.self.inside.log) c.args.self.now (record { whole = c.self.invariant.0; view_is = c.self.view_is })
    c.args.claim.number c.args.claim.seat (g.A.Answer.meaning c.args.answer) c.requires.number c.requires.claimed
    c.file.new.self c.note.new.log.items (vec_len c.note.new.log) (vec_capacity c.note.new.log)
    c.file.ensures
    (c.note.ensures.items ∙ ap (λ (z : List Logged). z ++ logged.File c.args.claim.seat c.args.claim.number ∷ []) c.take_in.ensures.items)
    (omega (arith, c.note.ensures.len, c.note.ensures.capacity, c.in-Ok.ensures.room))).1

pub key-requires : goal.key-requires
key-requires g c = within c.self.inside.seats c.self.inside.left c.self.inside.stop c.self.inside.roster.keys c.self.inside.roster.standings c.self.inside.log.items (vec_len c.self.inside.log) (vec_capacity c.self.inside.log) c.args.self.now (record { whole = c.self.invariant.0; view_is = c.self.view_is }) c.args.claim.number c.requires.number

pub take_in-requires : goal.take_in-requires
take_in-requires g c =
    subst (λ (k : Key). IsNew c.self.inside.graph.replies k) (sym (named_key c.self.inside.seats c.self.inside.left c.self.inside.stop c.self.inside.roster.keys c.self.inside.roster.standings c.self.inside.log.items (vec_len c.self.inside.log) (vec_capacity c.self.inside.log) c.args.self.now (record { whole = c.self.invariant.0; view_is = c.self.view_is }) c.args.claim.number (key_of c.key.result.now) c.key.ensures))
    (new_key _ _ c.self.inside.graph c.self.inside.seen _ c.self.view_is c.self.invariant.1 (unfiled_here c.self.inside.seats c.self.inside.left c.self.inside.stop c.self.inside.roster.keys c.self.inside.roster.standings c.self.inside.log.items (vec_len c.self.inside.log) (vec_capacity c.self.inside.log) c.args.self.now (record { whole = c.self.invariant.0; view_is = c.self.view_is }) c.args.claim.number c.args.claim.seat c.requires.number c.requires.claimed))
