use Rattle.std.proofs.Common.{◌∙◌, [], ap, map}
use Rattle.gn_basics.proofs.Results.{if_ok}
use Rattle.gn_toolchains.specs.Frames.{known_of}
use Rattle.gn_build_faults.specs.Examined.{examined_state, fault_of_examined}
use Rattle.gn_build_faults.proofs.Telling.{examined_tell}
use Rattle.gn_build_faults.proofs.fault.fault_among.Goals as goal

pub returns : goal.returns
returns g c =
    let default = c.args.default.now in
    let items = c.args.items.now in
    let known = known_of c.args.frames.now in
    if_ok c.fault_of_examined-fault.result
    (λ told is. is ∙ ap (fault_of_examined default items known []) (ap (λ examined. map examined_state examined) c.as_slice.ensures.value ∙ c.in_ok-examined.ensures) ∙ examined_tell default items known [] c.args.targets.now)
    c.fault_of_examined-fault.ensures
