use Rattle.std.proofs.Common.{◌∙◌}
use Rattle.gn_paths.specs.Components.{components}
use Rattle.gn_paths.specs.Rebase.{keeps_slash}
use Rattle.gn_paths.proofs.PieceLemmas.{components_plain}
use Rattle.gn_paths.proofs.RebaseLemmas.{shown_as, IsTrail-from_trail}
use Rattle.gn_paths.proofs.rebasing.shown_in_source.Goals as goal

pub show-requires-clause-base : goal.show-requires-clause-base
show-requires-clause-base c =
    IsTrail-from_trail c.trail_of-start.result.now (components c.args.base.now) c.trail_of-start.ensures (components_plain c.args.base.now)

pub show-requires-clause-path : goal.show-requires-clause-path
show-requires-clause-path c =
    IsTrail-from_trail c.trail_of-end.result.now (components c.args.path.now) c.trail_of-end.ensures (components_plain c.args.path.now)

pub returns : goal.returns
returns c =
    c.in_ok-text.ensures ∙ shown_as c.trail_of-start.result.now c.trail_of-end.result.now (components c.args.base.now) (components c.args.path.now) c.keeps_slash.result (keeps_slash c.args.path.now) c.trail_of-start.ensures (components_plain c.args.base.now) c.trail_of-end.ensures (components_plain c.args.path.now) c.keeps_slash.ensures
