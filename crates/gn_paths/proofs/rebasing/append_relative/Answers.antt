use Rattle.std.proofs.Common.{ap, ◌∙◌, ◌++◌, ◌-◌, replicate, arith}
use Rattle.gn_paths.specs.Components.{two_dots, trail}
use Rattle.gn_paths.proofs.RebaseLemmas.{joined-ups}
use Rattle.gn_paths.proofs.rebasing.append_relative.Goals as goal

pub returns : goal.returns
returns c =
    c.in_ok-extend_from_slice-2.ensures.items ∙ ap (λ t. t ++ c.args.path.now) (c.in_ok-append_ups.ensures ∙ ap (λ t. t ++ trail (replicate (c.args.ups - 1) two_dots)) c.in_ok-extend_from_slice.ensures.items) ∙ joined-ups c.args.text.now.items c.args.path.now c.args.ups (omega arith) c.requires
