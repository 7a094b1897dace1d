use Rattle.gn_resolved_meant.proofs.Faultless.{faultless_end}
use Rattle.gn_resolved_meant.proofs.laws.faultless_targets_reach_no_cycle.Goals as goal

pub returns : goal.returns
returns c = faultless_end c.no_cycle_is_bounded_paths.ensures.bounded c.the_shortest_path_is_found.ensures c.the_least_fault_is_told.ensures.least
