use Rattle.std.proofs.Common.{rules}
use Rattle.gn_meaning.specs.Meaning.{import_file_runs}
use Rattle.gn_eval.proofs.blocks.run_import_file.Goals as goal

pub returns-in_ok-import_value-in-Ok : goal.returns-in_ok-import_value-in-Ok
unfolding import_file_runs
returns-in_ok-import_value-in-Ok g c = record { runs = λ a told. (c.run_block.new.env, search rules); goes = search rules; rose = search rules }
