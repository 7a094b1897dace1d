use Rattle.std.proofs.Common.{refl}
use Rattle.gn_basics.proofs.Results.{if_ok}
use denote.Param.Send.{sendable}
use Rattle.gn_toolchains.specs.Frames.{known_of}
use Rattle.gn_build_faults.specs.Examined.{examined_state, examined_of}
use Rattle.gn_threads.proofs.Shown.{shown}
use Rattle.gn_build_faults.proofs.examined.examine_all.Goals as goal

pub deal-requires-sync-F : goal.deal-requires-sync-F
deal-requires-sync-F g c κs within = search (c.graphs_are_shared.ensures.examining, sendable) depth 20

pub deal-requires-send-A : goal.deal-requires-send-A
deal-requires-send-A g c κs within = search (c.graphs_are_shared.ensures.examined, sendable) depth 20

pub returns : goal.returns
returns g c =
    let meant = examined_of c.args.default.now c.args.items.now (known_of c.args.frames.now) in
    if_ok c.deal.result (λ all made. shown examined_state meant _ c.args.targets.now all.items refl made.0 made.1 (λ place y d within is. is d)) c.deal.ensures
