-- A file that stands alone ends with what it leaves, or with its first fault.
use Rattle.std.proofs.Common.{◌≡◌, ℕ, List, refl}
use Rattle.gn_paths.specs.declared.place.Place.{Place}
use Rattle.gn_tree.specs.Tree.{BlockTree}
use Rattle.gn_items.specs.Effects.{no_effects}
use Rattle.gn_runs.specs.Laws.{IsUnknown}
use Rattle.gn_runs.specs.Runs.{Question, content_of, import_of, Answers, End, ended, wrong, spoiled, needs, Run, IsTree}
use Rattle.gn_runs.proofs.TreeLaws.{tree_needs_unknown, tree_spoiled_by_unusable}
use Rattle.gn_environment.specs.Environment.{Environment}
use Rattle.gn_meaning.specs.Steps.{then_do}
use Rattle.gn_meaning.specs.Meaning.{whole_block_runs}
use Rattle.gn_meaning.proofs.Steps.{whole_tree, tree_do}
use Rattle.gn_meaning.proofs.ImportTrees.{whole_block_tree}
use Rattle.gn_executions.specs.Units.{content_runs}
use Rattle.gn_executions.specs.Alone.{alone_begins, nothing_there, alone_runs, EndsAlone}
use Rattle.gn_executions.specs.Laws.{FilesEndAlone}
use Rattle.gn_executions.proofs.ExecutionTrees.{content_tree}

all_known : (q : Question) → IsUnknown nothing_there q → ⊥
all_known (content_of path) h = cc
all_known (import_of path) h = cc

-- what ends neither in need nor at an import that can't be used
ends_alone : {A : Type 0} (end : End A) → ((q : Question) (p : Place) → end ≡ needs q p → ⊥) → ((path : List ℕ) (p : Place) → end ≡ spoiled path p → ⊥) → EndsAlone end
ends_alone (ended left) n s = tt
ends_alone (wrong fault) n s = tt
ends_alone (spoiled path place) n s = s path place refl
ends_alone (needs question place) n s = n question place refl

-- a tree of questions, where nothing is at any path
tree_ends_alone : {A : Type 0} (meaning : Answers → Run A) → IsTree meaning → EndsAlone (meaning nothing_there).end
tree_ends_alone meaning t =
    ends_alone (meaning nothing_there).end (λ q p h. all_known q (tree_needs_unknown meaning t nothing_there q p h).0) (λ path p h. absurd (cc ((tree_spoiled_by_unusable meaning t nothing_there path p h).0)))

pub block_ends_alone : (b : BlockTree) (env : Environment) → EndsAlone (whole_block_runs nothing_there b env no_effects).end
block_ends_alone b env = tree_ends_alone (λ a. whole_block_runs a b env no_effects) (whole_tree _ (whole_block_tree b env no_effects))

pub files_end_alone : FilesEndAlone
unfolding alone_runs
files_end_alone host context kind file content =
    tree_ends_alone (λ a. then_do (content_runs content (alone_begins host context kind file) no_effects) (λ tree env out. whole_block_runs a tree env out))
    (whole_tree _ (tree_do _ _ (content_tree content (alone_begins host context kind file) no_effects) (λ tree env out. whole_block_tree tree env out)))
