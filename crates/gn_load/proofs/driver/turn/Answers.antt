use Rattle.std.proofs.Common.{inl, ◌∷◌, refl}
use Rattle.std.proofs.lemmas.Result.{on_ok_weaker}
use Rattle.gn_book.specs.Keys.{key_of}
use Rattle.gn_book.specs.Logs.{state_of}
use Rattle.gn_answers.specs.Answers.{meaning_of}
use Rattle.gn_load.specs.Current.{base_now}
use Rattle.gn_perform.specs.Kept.{asked_so_far, asked_for}
use Rattle.gn_load.proofs.KeptLemmas.{on_ok}
use Rattle.gn_load.proofs.CurrentLemmas.{base_for_key}
use Rattle.gn_load.proofs.TurnLemmas.{goes_still, goes_memory, settled_turn, turn_lacks}
use Rattle.gn_load.proofs.DoneLemmas.{works_still, works_unfailed}
use Rattle.gn_load.proofs.driver.turn.Goals as goal

pub settle-requires : goal.settle-requires
settle-requires g c = c.requires.goes.2.going.claims.0

pub need-requires-clause-goes : goal.need-requires-clause-goes
need-requires-clause-goes g c =
    let work = rw c.in-Ok-Needs.field-0-is at c.in-Ok-Needs.ensures.reads in (
      c.requires.goes.0,
      c.requires.goes.1,
      goes_still c.requires.goes.0 c.requires.goes.1 (g.S.Source.state c.args.source.now) (g.S.Source.state c.work.new.source) c.args.driver.now (c.args.claim ∷ c.args.driver.now.waiting.items)
          work.tree (works_still (key_of c.args.claim.key) _ _ _ c.requires.work work) work.faults c.requires.goes.2,
    )

pub need-requires-clause-needed : goal.need-requires-clause-needed
need-requires-clause-needed g c =
    let old = c.args.driver.now in
    let goes = c.requires.goes.2 in
    (rw c.in-Ok-Needs.field-0-is at c.in-Ok-Needs.ensures.done) old.base.start (base_for_key old.base (state_of old.book).filed (key_of c.args.claim.key) goes.base (goes.layer (key_of c.args.claim.key) (inl refl)))

pub need-requires-clause-lacked : goal.need-requires-clause-lacked
need-requires-clause-lacked g c =
    let old = c.args.driver.now in
    let goes = c.requires.goes.2 in
    turn_lacks c.requires.goes.0 c.requires.goes.1 (g.S.Source.state c.args.source.now) old c.args.claim (key_of c.in-Ok-Needs.on) c.in-Ok-Needs.place (asked_for (key_of c.in-Ok-Needs.on) (asked_so_far c.in-Ok-Needs.kept)) goes
    ((rw c.in-Ok-Needs.field-0-is at c.in-Ok-Needs.ensures.done) old.base.start (base_for_key old.base (state_of old.book).filed (key_of c.args.claim.key) goes.base (goes.layer (key_of c.args.claim.key) (inl refl))))

pub unreachable-requires : goal.unreachable-requires
unreachable-requires g c = let work = rw c.in-Err-Failed.field-0-is at c.in-Err-Failed.ensures.reads in works_unfailed (key_of c.args.claim.key) c.requires.work work.fails

pub returns-in-Ok-Answered-clause-turn : goal.returns-in-Ok-Answered-clause-turn
returns-in-Ok-Answered-clause-turn g c = λ known before goes.
    let old = c.args.driver.now in
    let work = rw c.in-Ok-Answered.field-0-is at c.in-Ok-Answered.ensures.reads in
    let now = g.S.Source.state c.work.new.source in
    let still = goes_still known before (g.S.Source.state c.args.source.now) now old (c.args.claim ∷ old.waiting.items) work.tree (works_still (key_of c.args.claim.key) _ _ _ c.requires.work work) work.faults goes in
    settled_turn known before now old c.args.claim still c.settle.new.driver (meaning_of c.in-Ok-Answered.answer) c.requires.work
    ((rw c.in-Ok-Answered.field-0-is at c.in-Ok-Answered.ensures.done) old.base.start (base_for_key old.base (state_of old.book).filed (key_of c.args.claim.key) goes.base (goes.layer (key_of c.args.claim.key) (inl refl))))
    c.settle.result c.lifted.result c.settle.ensures c.lifted.ensures

pub returns-in-Ok-Needs-clause-turn : goal.returns-in-Ok-Needs-clause-turn
returns-in-Ok-Needs-clause-turn g c = λ known before goes.
    let work = rw c.in-Ok-Needs.field-0-is at c.in-Ok-Needs.ensures.reads in
    c.need.ensures.turn known before
    (goes_still known before (g.S.Source.state c.args.source.now) (g.S.Source.state c.work.new.source) c.args.driver.now (c.args.claim ∷ c.args.driver.now.waiting.items)
    work.tree (works_still (key_of c.args.claim.key) _ _ _ c.requires.work work) work.faults goes)

pub returns-in-Err-Memory-clause-turn : goal.returns-in-Err-Memory-clause-turn
returns-in-Err-Memory-clause-turn g c = λ known before goes.
    let work = rw c.in-Err-Memory.field-0-is at c.in-Err-Memory.ensures.reads in
    let now = g.S.Source.state c.work.new.source in
    goes_memory known before now c.args.driver.now (c.args.claim ∷ c.args.driver.now.waiting.items)
    (goes_still known before (g.S.Source.state c.args.source.now) now c.args.driver.now (c.args.claim ∷ c.args.driver.now.waiting.items) work.tree (works_still (key_of c.args.claim.key) _ _ _ c.requires.work work) work.faults goes)

pub returns-in-Ok-Answered-clause-rests : goal.returns-in-Ok-Answered-clause-rests
returns-in-Ok-Answered-clause-rests g c = on_ok c.lifted.result _ c.in-Ok-Answered.ensures.rests

pub returns-in-Ok-Needs-clause-rests : goal.returns-in-Ok-Needs-clause-rests
returns-in-Ok-Needs-clause-rests g c =
    on_ok_weaker c.need.result
    (λ stores. stores (base_now c.args.driver.now.base) (state_of c.args.driver.now.book).filed (rw c.in-Ok-Needs.field-0-is at c.in-Ok-Needs.ensures.kept) c.in-Ok-Needs.ensures.rests) c.need.ensures.rests
