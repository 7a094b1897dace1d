use Rattle.std.proofs.Common.{◌≡◌, drop}
use Rattle.gn_toolchains.specs.Toolchains.{lent}
use Rattle.gn_toolchains.specs.Frames.{surroundings, AreRight, texts_in, with_toolchains}
use Rattle.gn_toolchains.proofs.frames.add_all.Given as goal

abbrev pub invariant-loop-target : goal.invariant-loop-target
invariant-loop-target l = record {
  right : AreRight (surroundings l.surroundings) (lent l.items) l.list.items;
  texts : with_toolchains (texts_in l.list.items) (drop l.target-index l.targets) ≡ with_toolchains (texts_in l.fn.list.items) l.targets;
}
