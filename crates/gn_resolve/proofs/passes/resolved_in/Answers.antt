use Rattle.std.proofs.Common.{◌≡◌, IsOk, sym, subst}
use Rattle.std.proofs.lemmas.Result.{IfOk-weaker}
use Rattle.gn_resolve.specs.declared.table.Resolved.{Resolved}
use Rattle.gn_resolve.specs.Steps.{surroundings_of}
use Rattle.gn_resolve.specs.Whole.{AreResolved}
use Rattle.gn_resolve.proofs.PassLemmas.{on_ok_given}
use Rattle.gn_resolve.proofs.passes.resolved_in.Goals as goal

pub returns : goal.returns
returns g c =
    let s = surroundings_of c.args.frames.now in
    let items = c.args.graph.items in
    let ts = c.args.targets.now in
    let records = c.resolve_in-done.new.graph.records in
    IfOk-weaker c.finished.result (λ r. (r ≡ records) × IsOk c.resolve_in-done.result) (AreResolved s items ts)
    (λ r is. subst (λ (z : Resolved). AreResolved s items ts z) (sym is.0) (on_ok_given c.resolve_in-done.result (AreResolved s items ts records) c.resolve_in-done.ensures is.1))
    c.finished.ensures
