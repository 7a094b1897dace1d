use Rattle.std.proofs.Common.{◌∙◌, sym, ap, refl, arith, Bor, List, ℕ}
use Rattle.gn_resolve.specs.Table.{is_in}
use Rattle.gn_resolve.specs.Steps.{surroundings_of}
use Rattle.gn_resolve.proofs.Ready.{each}
use Rattle.gn_resolve.proofs.PassLemmas.{fit_at, held_at, step_at, none_within, one_further, all_within}
use Rattle.gn_resolve.proofs.passes.complete.Goals as goal

pub loop-turn-init : goal.loop-turn-init
loop-turn-init c = record {
  held = c.requires.held;
  within = none_within c.args.frames.now c.args.graph.now.items c.args.targets.now c.args.graph.now.records;
  items = refl;
  default = refl;
}

pub pass-requires : goal.pass-requires
pass-requires c = record {
  fit = fit_at c.args.frames.now c.args.graph.now.default.now c.loop-turn.graph.default.now c.args.graph.now.items c.loop-turn.graph.items
      (ap (λ (b : Bor (List ℕ)). b.now) c.loop-turn.invariant.default) c.loop-turn.invariant.items c.requires.fit;
  held = held_at (surroundings_of c.args.frames.now) c.args.graph.now.items c.loop-turn.graph.items c.loop-turn.graph.records c.loop-turn.invariant.items c.loop-turn.invariant.held;
}

pub loop-turn-preserved : goal.loop-turn-preserved
loop-turn-preserved c =
    let items = c.args.graph.now.items in
    let frames = c.args.frames.now in
    let step = step_at frames items c.loop-turn.graph.items c.args.targets.now c.loop-turn.graph.records c.pass.new.graph.records c.loop-turn.invariant.items c.in_ok-pass.ensures.step in
    record {
      held = step.held;
      within = one_further frames items c.args.targets.now c.loop-turn.turn c.loop-turn.graph.records c.pass.new.graph.records c.requires.can c.loop-turn.invariant.within step;
      items = c.in_ok-pass.ensures.same.0 ∙ c.loop-turn.invariant.items;
      default = c.in_ok-pass.ensures.same.1 ∙ c.loop-turn.invariant.default;
    }

pub returns-then-are_in : goal.returns-then-are_in
returns-then-are_in c = (
  c.loop-turn.invariant.held,
  λ q h. each (is_in c.loop-turn.graph.records) q c.args.targets.now (sym c.are_in.ensures ∙ c.if-are_in.true) h,
)

pub returns : goal.returns
returns c = (
  c.loop-turn.invariant.held,
  all_within c.args.frames.now c.args.graph.now.items c.args.targets.now c.items.result.now c.loop-turn.turn c.loop-turn.graph.records c.items.ensures (omega arith) c.requires.can
      c.loop-turn.invariant.within,
)
