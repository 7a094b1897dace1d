use Rattle.std.proofs.Common.{sym, ap, ◌∙◌, ◌++◌}
use Rattle.gn_paths.specs.Rebase.{dotted}
use Rattle.gn_paths.proofs.RebaseLemmas.{joined_dotted}
use Rattle.gn_paths.proofs.rebasing.append_down.Goals as goal

pub returns : goal.returns
returns c =
    c.in_ok-append_dotted.ensures ∙ ap (λ t. c.args.text.now.items ++ t) (ap dotted c.without_first.ensures ∙ sym (joined_dotted c.args.path.now c.requires))
