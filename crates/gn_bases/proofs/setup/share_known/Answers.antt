use Rattle.std.proofs.Common.{ℕ, List, ap, ◌∙◌}
use Rattle.gn_values.specs.Tables.{with_names}
use Rattle.gn_bases.specs.Setups.{contents_known}
use Rattle.gn_answers.specs.declared.answer.FileContent.{FileContent}
use Rattle.gn_bases.proofs.SetupLemmas.{all_put}
use Rattle.gn_bases.proofs.setup.share_known.Goals as goal

pub returns-clause-same : goal.returns-clause-same
returns-clause-same c =
    c.in_ok-put_all.ensures.all
    ∙ ap (λ (es : List (List ℕ × FileContent)). with_names (contents_known c.args.known.now.entries) (contents_known es)) c.new-shared.ensures.empty
    ∙ all_put c.args.known.now.entries c.in_ok-put_all.ensures.ordered
