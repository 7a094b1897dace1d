use Rattle.gn_book.specs.Logs.{state_of}
use Rattle.gn_projects.specs.Loaded.{written_by_key}
use Rattle.gn_built.specs.Files.{files_of}
use Rattle.gn_built.proofs.BuiltLemmas.{within_index}
use Rattle.gn_built.proofs.FileLemmas.{keys_more}
use Rattle.gn_built.proofs.files.push_written.Goals as goal

pub push_written_by-requires : goal.push_written_by-requires
push_written_by-requires c = within_index c.args.book.now c.args.numbers.now c.requires c.loop-number.number-index c.loop-number-test.true

pub loop-number-preserved : goal.loop-number-preserved
loop-number-preserved c =
    keys_more (written_by_key c.args.default.now (state_of c.args.book.now).filed) c.args.book.now c.args.numbers.now c.loop-number.number-index (files_of c.args.written.now.items) (files_of c.loop-number.written.items) _ c.loop-number-test.true
    c.loop-number.invariant c.in_ok-push_written_by.ensures
