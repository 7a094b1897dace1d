use Rattle.std.proofs.Common.{◌∙◌, ap, refl, subst, arith, Bor, List, ℕ}
use Rattle.std.proofs.lemmas.List.{take_all}
use Rattle.gn_labels.specs.declared.label.Label.{Label}
use Rattle.gn_resolve.specs.Steps.{surroundings_of, IsStep}
use Rattle.gn_resolve.proofs.PassLemmas.{fit_at, held_at, step_at, none_first, then_next}
use Rattle.gn_resolve.proofs.resolving.pass.Goals as goal

pub loop-target-init : goal.loop-target-init
loop-target-init c = record {
  step = none_first c.args.frames.now c.args.graph.now.items c.args.graph.now.records c.requires.held;
  items = refl;
  default = refl;
}

pub try_resolve-requires : goal.try_resolve-requires
try_resolve-requires c = record {
  fit = fit_at c.args.frames.now c.args.graph.now.default.now c.loop-target.graph.default.now c.args.graph.now.items c.loop-target.graph.items
      (ap (λ (b : Bor (List ℕ)). b.now) c.loop-target.invariant.default) c.loop-target.invariant.items c.requires.fit;
  held = held_at (surroundings_of c.args.frames.now) c.args.graph.now.items c.loop-target.graph.items c.loop-target.graph.records c.loop-target.invariant.items c.loop-target.invariant.step.held;
}

pub loop-target-preserved : goal.loop-target-preserved
loop-target-preserved c = record {
  step =
      then_next c.args.frames.now c.args.graph.now.items c.args.targets.now c.loop-target.target-index c.target-item.result
      c.args.graph.now.records c.loop-target.graph.records c.try_resolve.new.graph.records (omega arith) c.target-item.is c.loop-target.invariant.step
      (step_at c.args.frames.now c.args.graph.now.items c.loop-target.graph.items _ c.loop-target.graph.records c.try_resolve.new.graph.records c.loop-target.invariant.items c.in_ok-try_resolve.ensures.step);
  items = c.in_ok-try_resolve.ensures.same.0 ∙ c.loop-target.invariant.items;
  default = c.in_ok-try_resolve.ensures.same.1 ∙ c.loop-target.invariant.default;
}

pub returns : goal.returns
returns c = record {
  step =
      subst (λ (z : List Label). IsStep c.args.frames.now c.args.graph.now.items z c.args.graph.now.records c.loop-target.graph.records)
      (take_all c.loop-target.target-index c.args.targets.now (omega arith)) c.loop-target.invariant.step;
  same = (c.loop-target.invariant.items, c.loop-target.invariant.default);
}
