use Rattle.std.proofs.Common.{◌∙◌}
use Rattle.gn_build_faults.proofs.whole.is_whole.Goals as goal

pub returns : goal.returns
returns c =
    c.is_whole_by.ensures c.args.items.now c.in_ok-marks.ensures.0 c.requires.links c.requires.places (c.as_mut_slice.ensures.value ∙ c.in_ok-marks.ensures.1)
