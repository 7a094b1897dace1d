use Rattle.std.proofs.Common.{List, ℕ, ◌++◌, ◌∙◌, ap}
use Rattle.gn_book.specs.Logs.{state_of}
use Rattle.gn_projects.specs.Loaded.{loaded_by_key}
use Rattle.gn_built.specs.Files.{paths_lent}
use Rattle.gn_built.proofs.BuiltLemmas.{within_index}
use Rattle.gn_built.proofs.FileLemmas.{keys_more}
use Rattle.gn_built.proofs.files.push_loaded.Goals as goal

pub key_of_number-requires : goal.key_of_number-requires
key_of_number-requires c = within_index c.args.book.now c.args.numbers.now c.requires c.loop-number.number-index c.loop-number-test.true

pub loop-number-preserved : goal.loop-number-preserved
loop-number-preserved c =
    keys_more (loaded_by_key (state_of c.args.book.now).filed) c.args.book.now c.args.numbers.now c.loop-number.number-index (paths_lent c.args.paths.now.items) (paths_lent c.loop-number.paths.items) _ c.loop-number-test.true c.loop-number.invariant
    (c.in_ok-push_path.ensures ∙ ap (λ (ps : List (List ℕ)). paths_lent c.loop-number.paths.items ++ ps) (c.in_ok-file.ensures ∙ ap (loaded_by_key (state_of c.args.book.now).filed) c.key_of_number.ensures))

pub file_loaded-requires-clause-number : goal.file_loaded-requires-clause-number
file_loaded-requires-clause-number c = within_index c.args.book.now c.args.numbers.now c.requires c.loop-number.number-index c.loop-number-test.true

pub file_loaded-requires-clause-key : goal.file_loaded-requires-clause-key
file_loaded-requires-clause-key c = c.key_of_number.ensures
