use Rattle.std.proofs.Common.{refl}
use Rattle.gn_basics.proofs.Results.{if_ok}
use Rattle.std.proofs.Crossing.{crosses}
use denote.Param.Send.{sendable}
use Rattle.gn_prepared.specs.Copies.{answers_of}
use Rattle.gn_prepared.specs.Prepared.{IsPrepared}
use Rattle.gn_prepared.proofs.Placing.{related}
use Rattle.gn_prepared.proofs.prepared.prepare_beside.Goals as goal

pub deal_out-requires-sync-F : goal.deal_out-requires-sync-F
deal_out-requires-sync-F g c κs within = search (c.work_is_shared.ensures.sync, sendable) depth 20

pub returns-clause-prepared : goal.returns-clause-prepared
returns-clause-prepared g c =
    let Is = IsPrepared c.args.base.now (answers_of c.args.copies.now) in
    if_ok c.deal_out.result.0 (λ all made. related Is _ c.args.wanted.now all.items refl made.0 made.1 (λ place y d within is. is d)) c.deal_out.ensures.made
