use Rattle.std.proofs.Common.{◌∙◌}
use Rattle.gn_paths.specs.Rebase.{system_components, keeps_slash}
use Rattle.gn_paths.proofs.RebaseLemmas.{system_plain, shown_as, IsTrail-from_trail}
use Rattle.gn_paths.proofs.rebasing.shown_in_system.Goals as goal

pub show-requires-clause-base : goal.show-requires-clause-base
show-requires-clause-base c =
    IsTrail-from_trail c.as_slice.result.now (system_components c.args.root.now c.args.base.now) (c.as_slice.ensures.value ∙ c.in_ok-base.ensures) (system_plain c.args.root.now c.args.base.now)

pub show-requires-clause-path : goal.show-requires-clause-path
show-requires-clause-path c =
    IsTrail-from_trail c.as_slice-2.result.now (system_components c.args.root.now c.args.path.now) (c.as_slice-2.ensures.value ∙ c.in_ok-shown.ensures) (system_plain c.args.root.now c.args.path.now)

pub returns : goal.returns
returns c =
    c.in_ok-text.ensures ∙ shown_as c.as_slice.result.now c.as_slice-2.result.now (system_components c.args.root.now c.args.base.now) (system_components c.args.root.now c.args.path.now) c.keeps_slash.result (keeps_slash c.args.path.now) (c.as_slice.ensures.value ∙ c.in_ok-base.ensures) (system_plain c.args.root.now c.args.base.now) (c.as_slice-2.ensures.value ∙ c.in_ok-shown.ensures) (system_plain c.args.root.now c.args.path.now) c.keeps_slash.ensures
