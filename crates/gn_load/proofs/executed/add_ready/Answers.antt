use Rattle.std.proofs.Common.{inl, refl}
use Rattle.gn_load.specs.Executed.{PutsReady, AddsReady}
use Rattle.gn_load.proofs.ExecutedLemmas.{on_ok_so, adds_ready}
use Rattle.gn_load.proofs.executed.add_ready.Goals as goal

pub returns-in-Some : goal.returns-in-Some
returns-in-Some c =
    let old = c.args.all.now.items in
    let new = c.put_ready.new.all.items in
    on_ok_so (PutsReady old new c.ready_of.result) (AddsReady old new c.args.last.1.0 c.args.last.1.1) c.put_ready.result
    (adds_ready old new c.args.last.1.0 c.in-Some.answer c.args.last.1.1 c.ready_of.result c.in-Some.is c.ready_of.ensures) c.put_ready.ensures

pub returns-in-None : goal.returns-in-None
returns-in-None c = inl refl
