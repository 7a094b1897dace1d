use Rattle.std.proofs.Common.{sym, subst, ap, ◌∙◌, ◌++◌}
use Rattle.gn_paths.specs.Normal.{IsNormal}
use Rattle.gn_paths.specs.Components.{components}
use Rattle.gn_paths.proofs.PieceLemmas.{components_plain}
use Rattle.gn_paths.proofs.RebaseLemmas.{IsTrail-from_trail}
use Rattle.gn_paths.proofs.OutputLemmas.{output_made, output_directory-normal}
use Rattle.gn_paths.proofs.output_directories.output_text.Goals as goal

pub append_down-requires : goal.append_down-requires
append_down-requires c =
    IsTrail-from_trail c.trail_of.result.now (components c.as_bytes-2.result.now) c.trail_of.ensures (components_plain c.as_bytes-2.result.now)

pub returns-clause-value : goal.returns-clause-value
returns-clause-value c =
    output_made c.args.name.now c.args.out.now c.args.directory.now _ _ _ _ _ _ _ c.as_bytes.ensures.normal c.as_bytes.ensures.value c.as_bytes-2.ensures.value c.without_final_slash.ensures c.trail_of.ensures (c.in_ok-extend_from_slice.ensures.items ∙ ap (λ t. t ++ c.without_final_slash.result.now) c.in_ok-text.ensures.items) c.in_ok-append_piece.ensures c.in_ok-append_down.ensures

pub returns-clause-normal : goal.returns-clause-normal
returns-clause-normal c =
    subst IsNormal (sym (output_made c.args.name.now c.args.out.now c.args.directory.now _ _ _ _ _ _ _ c.as_bytes.ensures.normal c.as_bytes.ensures.value c.as_bytes-2.ensures.value c.without_final_slash.ensures c.trail_of.ensures (c.in_ok-extend_from_slice.ensures.items ∙ ap (λ t. t ++ c.without_final_slash.result.now) c.in_ok-text.ensures.items) c.in_ok-append_piece.ensures c.in_ok-append_down.ensures))
    (output_directory-normal c.args.name.now c.args.out.now c.args.directory.now c.requires c.as_bytes.ensures.normal c.as_bytes-2.ensures.normal)
