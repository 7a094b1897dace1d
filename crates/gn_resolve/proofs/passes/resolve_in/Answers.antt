use Rattle.std.proofs.Common.{ap, subst, Bor, List, ℕ}
use Rattle.std.proofs.lemmas.Result.{on_ok_weaker}
use Rattle.gn_items.specs.declared.item.Item.{Item}
use Rattle.gn_resolve.specs.Steps.{surroundings_of}
use Rattle.gn_resolve.specs.Whole.{AreResolved}
use Rattle.gn_resolve.proofs.PassLemmas.{fit_at, held_at, can_at, all_right}
use Rattle.gn_resolve.proofs.passes.resolve_in.Goals as goal

pub complete-requires : goal.complete-requires
complete-requires g c =
    let items = c.args.graph.now.items in
    let graph = c.resolve_levels.new.graph in
    let same = c.in_ok-resolve_levels.ensures.same in
    record {
      fit = fit_at c.args.frames.now c.args.graph.now.default.now graph.default.now items graph.items (ap (λ (b : Bor (List ℕ)). b.now) same.1) same.0 c.requires.fit;
      held = held_at (surroundings_of c.args.frames.now) items graph.items graph.records same.0 c.in_ok-resolve_levels.ensures.held;
      can = can_at c.args.frames.now items graph.items c.args.targets.now same.0 c.requires.can;
    }

pub returns : goal.returns
returns g c =
    let s = surroundings_of c.args.frames.now in
    let graph = c.resolve_levels.new.graph in
    on_ok_weaker c.complete.result (λ k.
    subst (λ (z : List Item). AreResolved s z c.args.targets.now c.complete.new.graph.records) c.in_ok-resolve_levels.ensures.same.0
    (all_right c.args.frames.now graph.items c.args.targets.now c.complete.new.graph.records k.0 k.1))
    c.complete.ensures
