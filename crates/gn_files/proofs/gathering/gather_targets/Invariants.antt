use Rattle.std.proofs.Common.{◌≡◌, take}
use Rattle.std.specs.List.{fold}
use Rattle.gn_files.specs.Files.{with_pools_of_target}
use Rattle.gn_files.specs.Gathered.{AreGathered}
use Rattle.gn_files.proofs.gathering.gather_targets.Given as goal

abbrev pub invariant-loop-target : goal.invariant-loop-target
invariant-loop-target l = record {
  pools : l.gathered.pools.entries ≡ fold (with_pools_of_target l.project.surroundings.default.now l.project.items.now) l.initial.gathered.pools.entries (take l.target-index l.project.targets.now);
  targets : AreGathered l.project (take l.target-index l.project.targets.now) l.gathered;
}
