use Rattle.std.proofs.Common.{◌≡◌, filter, map, take, slice_index_or}
use Rattle.gn_labels.specs.declared.label.Label.{Label}
use Rattle.gn_dependencies.specs.Inherited.{is_library}
use Rattle.gn_dependencies.specs.Shape.{Shape}
use Rattle.gn_chains.specs.Reached.{AreNodes}
use Rattle.gn_chains.proofs.inheriting.libraries_at.Given as goal

abbrev pub invariant-loop-number : goal.invariant-loop-number
invariant-loop-number l = (g : Shape) → AreNodes g l.walked l.nodes → (d : Label) → l.labels.items ≡ filter (λ q. is_library (g.kind q)) (map (λ n. slice_index_or l.walked n d) (take l.number-index l.order))
