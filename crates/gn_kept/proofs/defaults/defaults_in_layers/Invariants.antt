use Rattle.std.proofs.Common.{◌≡◌, map}
use Rattle.std.specs.VecDeque.Iter.{deque_iter_rest}
use Rattle.gn_environment.specs.Layers.{LayerState}
use Rattle.gn_environment.specs.Templates.{defaults_among}
use Rattle.gn_kept.proofs.defaults.defaults_in_layers.Given as goal

abbrev pub invariant-loop-layer : goal.invariant-loop-layer
invariant-loop-layer l =
    (goal.iterator-loop-layer).can_next l.layer-iterator × (goal.iterator-loop-layer).is_finite l.layer-iterator × (defaults_among l.kind (map (λ (m : LayerState). m.defaults) (deque_iter_rest l.layer-iterator)) ≡ defaults_among l.kind (map (λ (m : LayerState). m.defaults) l.layers.items))
