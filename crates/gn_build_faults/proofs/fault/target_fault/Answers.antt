use Rattle.std.proofs.Common.{List, refl, ◌∙◌, subst}
use Rattle.gn_basics.proofs.Results.{if_ok}
use Rattle.gn_items.specs.declared.item.Item.{Item}
use Rattle.gn_toolchains.specs.Frames.{surroundings as given, IsOver}
use Rattle.gn_build_faults.proofs.Known.{told_of}
use Rattle.gn_build_faults.proofs.fault.target_fault.Goals as goal

pub returns : goal.returns
returns g c =
    let s = given c.args.surroundings in
    let items = c.args.items.now in
    let over = subst (λ (xs : List Item). IsOver s xs c.args.targets.now c.in_ok-frames.frames) c.items.ensures c.in_ok-frames.ensures in
    if_ok c.fault_among-fault.result
    (λ told is. is ∙ told_of s items items c.args.targets.now c.in_ok-frames.frames refl over)
    c.fault_among-fault.ensures
