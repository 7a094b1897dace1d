use Rattle.std.proofs.Common.{[], ◌∷◌, List, refl, sym, ◌∙◌, ap, subst, arith}
use Rattle.gn_book.specs.Keys.{key_of}
use Rattle.gn_book.specs.declared.book.Claim.{Claim}
use Rattle.gn_load.specs.Turns.{Goes}
use Rattle.gn_load.specs.declared.current.CurrentBase.{CurrentBase}
use Rattle.gn_load.proofs.PlainLemmas.{has_begun, taken_drives, finished_counted, finished_less, unit_waits, drive_ends, drive_stops}
use Rattle.gn_load.proofs.plain.drive.Goals as goal

pub returns-in_err-next : goal.returns-in_err-next
returns-in_err-next g c = λ known before goes.
    let stops = c.in_err-next.ensures known before (g.S.Source.state c.args.source.now) goes in
    drive_stops known before (g.S.Source.state c.args.source.now) c.args.driver.now c.args.driver.now c.take_up.new.driver c.take_up.new.units c.from_residual.result _ refl c.from_residual.ensures.1 stops.0 stops.1

pub take_up-requires-clause-goes : goal.take_up-requires-clause-goes
take_up-requires-clause-goes g c = (c.requires.goes.0, c.requires.goes.1, g.S.Source.state c.args.source.now, c.requires.goes.2)

pub rounds-init : goal.rounds-init
rounds-init g c = λ known before goes.
    let taken = c.in_ok-next.ensures known before (g.S.Source.state c.args.source.now) goes in
    (taken_drives known before (g.S.Source.state c.args.source.now) c.args.driver.now c.take_up.new.driver c.take_up.new.units c.in_ok-next.next c.requires.waiting taken, taken.start)

pub finish-requires-clause-goes : goal.finish-requires-clause-goes
finish-requires-clause-goes g c =
    let stands = rw c.in-Some.is at (c.rounds.invariant c.requires.goes.0 c.requires.goes.1 c.requires.goes.2) in
    (c.requires.goes.0, c.requires.goes.1, (subst (λ (ws : List Claim). Goes c.requires.goes.0 c.requires.goes.1 (g.S.Source.state c.rounds.source) c.rounds.driver (c.in-Some.claim ∷ ws)) (sym stands.0.waiting) stands.0.goes))

pub finish-requires-clause-work : goal.finish-requires-clause-work
finish-requires-clause-work g c =
    let stands = rw c.in-Some.is at (c.rounds.invariant c.requires.goes.0 c.requires.goes.1 c.requires.goes.2) in
    unit_waits (key_of c.in-Some.claim.key) stands.0.comes

pub returns-in_err-finish : goal.returns-in_err-finish
returns-in_err-finish g c = λ known before goes.
    let stands = rw c.in-Some.is at (c.rounds.invariant known before goes) in
    drive_stops known before (g.S.Source.state c.finish.new.source) c.args.driver.now c.rounds.driver c.finish.new.driver c.rounds.units c.from_residual-in_err-finish.result _ stands.1 c.from_residual-in_err-finish.ensures.1
    (c.in_err-finish.ensures known before (subst (λ (ws : List Claim). Goes known before (g.S.Source.state c.rounds.source) c.rounds.driver (c.in-Some.claim ∷ ws)) (sym stands.0.waiting) stands.0.goes))
    (has_begun known before (g.S.Source.state c.rounds.source) c.rounds.driver (c.in-Some.claim ∷ []) c.rounds.units stands.0.goes stands.0.counted)

pub take_up-requires-in-Some-clause-goes : goal.take_up-requires-in-Some-clause-goes
take_up-requires-in-Some-clause-goes g c =
    let stands = rw c.in-Some.is at (c.rounds.invariant c.requires.goes.0 c.requires.goes.1 c.requires.goes.2) in
    let done = c.in_ok-finish.ensures c.requires.goes.0 c.requires.goes.1 (subst (λ (ws : List Claim). Goes c.requires.goes.0 c.requires.goes.1 (g.S.Source.state c.rounds.source) c.rounds.driver (c.in-Some.claim ∷ ws)) (sym stands.0.waiting) stands.0.goes) in
    (c.requires.goes.0, c.requires.goes.1, g.S.Source.state c.finish.new.source, done.0.goes)

pub take_up-requires-in-Some-clause-counted : goal.take_up-requires-in-Some-clause-counted
take_up-requires-in-Some-clause-counted g c =
    let known = c.requires.goes.0 in
    let before = c.requires.goes.1 in
    let stands = rw c.in-Some.is at (c.rounds.invariant known before c.requires.goes.2) in
    let done = c.in_ok-finish.ensures known before (subst (λ (ws : List Claim). Goes known before (g.S.Source.state c.rounds.source) c.rounds.driver (c.in-Some.claim ∷ ws)) (sym stands.0.waiting) stands.0.goes) in
    finished_counted known before (g.S.Source.state c.rounds.source) (g.S.Source.state c.finish.new.source) c.rounds.driver c.finish.new.driver c.in-Some.claim c.rounds.units stands.0.goes done.0 stands.0.counted

pub returns-in_err-next-2 : goal.returns-in_err-next-2
returns-in_err-next-2 g c = λ known before goes.
    let stands = rw c.in-Some.is at (c.rounds.invariant known before goes) in
    let now = g.S.Source.state c.finish.new.source in
    let done = c.in_ok-finish.ensures known before (subst (λ (ws : List Claim). Goes known before (g.S.Source.state c.rounds.source) c.rounds.driver (c.in-Some.claim ∷ ws)) (sym stands.0.waiting) stands.0.goes) in
    let stops = c.in_err-next-2.ensures known before now done.0.goes in
    drive_stops known before now c.args.driver.now c.finish.new.driver c.take_up-in-Some.new.driver c.take_up-in-Some.new.units c.from_residual-in_err-next-2.result _ (ap (λ (b : CurrentBase). b.start) done.0.base ∙ stands.1) c.from_residual-in_err-next-2.ensures.1
    stops.0 stops.1

pub rounds-preserved : goal.rounds-preserved
rounds-preserved g c = λ known before goes.
    let stands = rw c.in-Some.is at (c.rounds.invariant known before goes) in
    let now = g.S.Source.state c.finish.new.source in
    let done = c.in_ok-finish.ensures known before (subst (λ (ws : List Claim). Goes known before (g.S.Source.state c.rounds.source) c.rounds.driver (c.in-Some.claim ∷ ws)) (sym stands.0.waiting) stands.0.goes) in
    let taken = c.in_ok-next-2.ensures known before now done.0.goes in
    (taken_drives known before now c.finish.new.driver c.take_up-in-Some.new.driver c.take_up-in-Some.new.units _ done.1 taken, taken.start ∙ ap (λ (b : CurrentBase). b.start) done.0.base ∙ stands.1)

pub rounds-smaller : goal.rounds-smaller
rounds-smaller g c =
    let known = c.requires.goes.0 in
    let before = c.requires.goes.1 in
    let stands = rw c.in-Some.is at (c.rounds.invariant known before c.requires.goes.2) in
    let now = g.S.Source.state c.finish.new.source in
    let done = c.in_ok-finish.ensures known before (subst (λ (ws : List Claim). Goes known before (g.S.Source.state c.rounds.source) c.rounds.driver (c.in-Some.claim ∷ ws)) (sym stands.0.waiting) stands.0.goes) in
    let less = finished_less known before (g.S.Source.state c.rounds.source) now c.rounds.driver c.finish.new.driver c.in-Some.claim stands.0.goes stands.0.comes stands.0.numbered done.0 in
    let more = (c.in_ok-next-2.ensures known before now done.0.goes).left in
    omega (arith, less, more)

pub returns : goal.returns
returns g c = λ known before goes.
    let stands = rw c.in_default.is at (c.rounds.invariant known before goes) in
    (drive_ends known before (g.S.Source.state c.rounds.source) c.rounds.driver c.rounds.units stands.0, stands.1)
