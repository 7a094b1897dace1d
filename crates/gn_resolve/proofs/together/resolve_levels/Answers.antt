use Rattle.std.proofs.Common.{◌∙◌, ap, refl, subst, Bor, List, ℕ}
use Rattle.gn_items.specs.declared.item.Item.{Item}
use Rattle.gn_resolve.specs.Steps.{surroundings_of, IsHeld}
use Rattle.gn_resolve.proofs.PassLemmas.{fit_at, held_at}
use Rattle.gn_resolve.proofs.together.resolve_levels.Goals as goal

pub loop-level-init : goal.loop-level-init
loop-level-init g c = record { held = c.requires.held; items = refl; default = refl }

pub resolve_together-requires : goal.resolve_together-requires
resolve_together-requires g c = (
  c.type_bounds.sync-R,
  (
    fit_at c.args.frames.now c.args.graph.now.default.now c.loop-level.graph.default.now c.args.graph.now.items c.loop-level.graph.items
        (ap (λ (b : Bor (List ℕ)). b.now) c.loop-level.invariant.default) c.loop-level.invariant.items c.requires.fit,
    held_at (surroundings_of c.args.frames.now) c.args.graph.now.items c.loop-level.graph.items c.loop-level.graph.records c.loop-level.invariant.items c.loop-level.invariant.held,
  ),
)

pub loop-level-preserved : goal.loop-level-preserved
loop-level-preserved g c = record {
  held = subst (λ (z : List Item). IsHeld (surroundings_of c.args.frames.now) z c.resolve_together.new.graph.records) c.loop-level.invariant.items c.in_ok-resolve_together.ensures.held;
  items = c.in_ok-resolve_together.ensures.same.0 ∙ c.loop-level.invariant.items;
  default = c.in_ok-resolve_together.ensures.same.1 ∙ c.loop-level.invariant.default;
}

pub returns : goal.returns
returns g c = record { held = c.loop-level.invariant.held; same = (c.loop-level.invariant.items, c.loop-level.invariant.default) }
