use Rattle.std.proofs.Common.{ap, ◌∙◌, Some}
use Rattle.std.specs.FinMap as map
use Rattle.gn_outside.specs.Tree.{Whole}
use Rattle.gn_outside.specs.Entries.{tree_of}
use Rattle.gn_outside.proofs.TreeLemmas.{tree_of-insert}
use Rattle.gn_outside.proofs.tree.Tree.put.Goals as goal

pub returns-clause-ok : goal.returns-clause-ok
returns-clause-ok c =
    ap tree_of c.in_ok-insert.ensures.entries
    ∙ tree_of-insert c.self.inside.files.entries c.in_ok-path.path (Some c.in_ok-bytes.bytes)
    ∙ (λ i. map.insert (c.self.view_is i) (c.in_ok-path.ensures.ok i) (Whole (c.in_ok-bytes.ensures.items_if_clones_equal (λ _ _ same. same) i)))
