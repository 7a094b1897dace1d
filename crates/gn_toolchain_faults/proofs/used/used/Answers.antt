use Rattle.std.proofs.Common.{ap, ◌∙◌}
use Rattle.gn_basics.proofs.Results.{if_ok}
use Rattle.gn_toolchains.specs.Toolchains.{lent}
use Rattle.gn_toolchain_faults.proofs.Using.{used_by}
use Rattle.gn_toolchain_faults.proofs.used.used.Goals as goal

pub returns : goal.returns
returns c =
    if_ok c.toolchains_at.result
    (λ found is. is ∙ used_by c.args.default.now (lent c.args.items.now) c.args.targets.now c.as_slice.result.now (lent c.as_slice-2.result.now)
    (c.as_slice.ensures.keys ∙ c.in_ok-texts.ensures) (ap lent c.as_slice-2.ensures.value ∙ c.in_ok-definitions.ensures)) c.toolchains_at.ensures
