use Rattle.std.proofs.Common.{◌≡◌, map}
use Rattle.std.specs.VecDeque.Iter.{deque_iter_rest}
use Rattle.gn_environment.specs.Layers.{LayerState}
use Rattle.gn_environment.specs.Templates.{template_among}
use Rattle.gn_env.proofs.env.Env.template_in_layers.Given as goal

abbrev pub invariant-loop-layer : goal.invariant-loop-layer
invariant-loop-layer l =
    (goal.iterator-loop-layer).can_next l.layer-iterator × (goal.iterator-loop-layer).is_finite l.layer-iterator × (template_among l.name l.self (map (λ (m : LayerState). m.templates) (deque_iter_rest l.layer-iterator)) ≡ template_among l.name l.self (map (λ (m : LayerState). m.templates) l.layers.items))
