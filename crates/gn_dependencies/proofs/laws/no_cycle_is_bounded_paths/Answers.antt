use Rattle.gn_dependencies.proofs.Finite.{free_of_cycles, bounded, ends_bounded, bounded_ends}
use Rattle.gn_dependencies.proofs.laws.no_cycle_is_bounded_paths.Goals as goal

pub returns-clause-free : goal.returns-clause-free
returns-clause-free c = free_of_cycles

pub returns-clause-bounded : goal.returns-clause-bounded
returns-clause-bounded c = bounded

pub returns-clause-least : goal.returns-clause-least
returns-clause-least c = λ g t. (ends_bounded g t, λ h. bounded_ends g h.0 t h.1)
