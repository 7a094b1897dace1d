use Rattle.std.proofs.Common.{ap, ◌∙◌, None}
use Rattle.std.specs.FinMap as map
use Rattle.gn_outside.specs.Tree.{Marked}
use Rattle.gn_outside.specs.Entries.{tree_of}
use Rattle.gn_outside.proofs.TreeLemmas.{tree_of-insert}
use Rattle.gn_outside.proofs.tree.Tree.mark.Goals as goal

pub returns-clause-ok : goal.returns-clause-ok
returns-clause-ok c =
    ap tree_of c.in_ok-insert.ensures.entries
    ∙ tree_of-insert c.self.inside.files.entries c.in_ok-path.path None
    ∙ (λ i. map.insert (c.self.view_is i) (c.in_ok-path.ensures.ok i) Marked)
