use Rattle.std.proofs.Common.{sym, ap, ◌∙◌, ◌++◌, cond}
use Rattle.gn_paths.specs.Components.{trail, components, without_final_slash}
use Rattle.gn_paths.specs.Rebase.{root_components, rooted}
use Rattle.gn_paths.proofs.RebaseLemmas.{trail-system}
use Rattle.gn_paths.proofs.rebasing.system_trail.Goals as goal

pub returns : goal.returns
returns c =
    let root = c.args.root.now in
    let path = c.args.path.now in
    c.in_ok-extend_from_slice.ensures.items ∙ ap (λ t. t ++ c.trail_of-2.result.now) (c.in_ok-append_root.ensures ∙ ap (λ t. t ++ rooted c.without_final_slash.result.now) c.new-text.ensures.items ∙ ap rooted c.without_final_slash.ensures) ∙ ap (λ t. rooted (without_final_slash root) ++ t) c.trail_of-2.ensures ∙ sym (trail-system root path) ∙ ap (λ b. trail (cond b (root_components root ++ components path) (components path))) c.if-not-is_source.ensures
