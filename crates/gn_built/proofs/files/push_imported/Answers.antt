use Rattle.std.proofs.Common.{List, ℕ, ◌++◌, ◌∙◌, ap}
use Rattle.gn_projects.specs.Loaded.{imported_by_key}
use Rattle.gn_built.specs.Files.{paths_lent}
use Rattle.gn_built.proofs.BuiltLemmas.{within_index}
use Rattle.gn_built.proofs.FileLemmas.{keys_more}
use Rattle.gn_built.proofs.files.push_imported.Goals as goal

pub key_of_number-requires : goal.key_of_number-requires
key_of_number-requires c = within_index c.args.book.now c.args.numbers.now c.requires c.loop-number.number-index c.loop-number-test.true

pub loop-number-preserved : goal.loop-number-preserved
loop-number-preserved c =
    keys_more imported_by_key c.args.book.now c.args.numbers.now c.loop-number.number-index (paths_lent c.args.paths.now.items) (paths_lent c.loop-number.paths.items) _ c.loop-number-test.true c.loop-number.invariant
    (c.in_ok-push_path.ensures ∙ ap (λ (ps : List (List ℕ)). paths_lent c.loop-number.paths.items ++ ps) (c.file_imported.ensures ∙ ap imported_by_key c.key_of_number.ensures))
