use Rattle.std.proofs.Common.{◌-◌, length}
use Rattle.gn_chains.specs.Walking.{looked_at, meets, goes_through}
use Rattle.gn_chains.proofs.WalkState.{WalkState}
use Rattle.gn_chains.proofs.walk.add_walked.Given as goal

abbrev pub invariant-loop-next : goal.invariant-loop-next
invariant-loop-next g l =
    let s = g.G.Graph.shape l.graph in
    WalkState (λ d. looked_at l.walk s d) (λ d. meets l.walk (s.kind d)) (λ d. goes_through l.walk (s.kind d)) l.target l.out l.next

abbrev pub decreases-loop-next : goal.decreases-loop-next
decreases-loop-next g l = length (g.G.Graph.all l.graph) - l.next
