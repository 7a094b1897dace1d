use Rattle.std.proofs.Common.{◌∙◌}
use Rattle.gn_paths.proofs.NormalLemmas.{empty_text}
use Rattle.gn_paths.proofs.RebaseLemmas.{relative-no_path}
use Rattle.gn_paths.proofs.rebasing.without_common.Goals as goal

pub returns-then-is_empty-clause-value : goal.returns-then-is_empty-clause-value
returns-then-is_empty-clause-value c =
    c.components.invariant.2 ∙ relative-no_path c.components.base_rest.now c.components.path_rest.now (empty_text c.components.path_rest.now c.if-is_empty.ensures)
