use Rattle.std.proofs.Common.{sym, ap, ◌∙◌, ◌++◌, replicate}
use Rattle.gn_paths.specs.Components.{two_dots}
use Rattle.gn_paths.specs.Rebase.{closed, joined, parts}
use Rattle.gn_paths.proofs.RebaseLemmas.{dots-counted}
use Rattle.gn_paths.proofs.rebasing.show.Goals as goal

pub returns : goal.returns
returns c =
    let base = c.without_common.result.0.now in
    let path = c.without_common.result.1.now in
    c.in_ok-append_final.ensures ∙ ap (λ t. closed t c.args.ends_in_slash) (c.in_ok-append_relative.ensures ∙ ap (λ t. t ++ joined (replicate c.slash_count.result two_dots ++ parts path)) c.in_ok-text.ensures.items ∙ ap (λ n. joined (replicate n two_dots ++ parts path)) c.slash_count.ensures ∙ ap joined (sym (dots-counted base (parts path)) ∙ sym c.without_common.ensures.value))
