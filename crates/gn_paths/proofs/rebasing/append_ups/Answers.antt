use Rattle.std.proofs.Common.{ap, ◌∙◌, ◌++◌, ◌∷◌}
use Rattle.gn_paths.specs.Components.{two_dots}
use Rattle.gn_paths.proofs.RebaseLemmas.{ups_more}
use Rattle.gn_paths.proofs.rebasing.append_ups.Goals as goal

pub loop-up-preserved : goal.loop-up-preserved
loop-up-preserved c =
    c.in_ok-extend_from_slice.ensures.items ∙ ap (λ t. t ++ (47 ∷ two_dots)) c.loop-up.invariant ∙ ups_more c.args.text.now.items c.loop-up._up
