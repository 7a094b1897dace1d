use Rattle.std.proofs.Common.{◌≡◌, Option, None, refl, subst}
use Rattle.std.proofs.lemmas.Result.{IfOk-weaker}
use Rattle.gn_runs.specs.Runs.{import_of}
use Rattle.gn_eval.specs.Ends.{asked_until}
use Rattle.gn_core.specs.Keys.{Key}
use Rattle.gn_book.specs.Keys.{key_of}
use Rattle.gn_book.specs.Logs.{state_of}
use Rattle.gn_book.specs.declared.book.Claim.{Claim}
use Rattle.gn_perform.specs.Kept.{asked_so_far, asked_for}
use Rattle.gn_load.specs.Turns.{IsNeeded, TakesAs}
use Rattle.gn_load.specs.declared.driver.Driver.{Driver}
use Rattle.gn_load.proofs.TakeLemmas.{closed_claim}
use Rattle.gn_load.proofs.TurnLemmas.{turn_awaits}
use Rattle.gn_load.proofs.driver.need_import.Goals as goal

pub await_import-requires : goal.await_import-requires
await_import-requires c = λ none.
    let old = c.args.driver.now.book in
    let new = c.take_import.new.book in
    closed_claim old new c.args.claim (key_of c.args.on) c.args.place c.requires.claim (subst (λ (o : Option Claim). TakesAs old new c.args.claim (key_of c.args.on) c.args.place o) none c.in-Ok.ensures.1)

pub returns-in-Ok-clause-turn : goal.returns-in-Ok-clause-turn
returns-in-Ok-clause-turn c =
    let old = c.args.driver.now in
    let mid : Driver = record { base = old.base; book = c.take_import.new.book; waiting = old.waiting; known = old.known; reads = old.reads } in
    let named = c.in-Ok.ensures.0 in
    let taken = c.in-Ok.taken in
    let takes = subst (λ (k : Key). TakesAs old.book c.take_import.new.book c.args.claim k c.args.place taken.0) named.1 c.in-Ok.ensures.1 in
    IfOk-weaker c.await_import.result _ _ (λ next does known before now goes need.
    turn_awaits known before now old c.args.claim goes named.0 taken.1 c.args.place (asked_until (import_of taken.1) (asked_so_far c.args.kept))
    (subst (λ (k : Key). IsNeeded old.base.start old.book c.args.claim k c.args.place (asked_for k (asked_so_far c.args.kept))) named.1 need)
    mid c.await_import.new.driver (subst (λ (k : Key). (state_of old.book).filed k ≡ None) named.1 c.requires.lacked.unfiled) taken.0 takes (record { base = refl; known = refl; reads = refl }) refl next does) c.await_import.ensures.turn
