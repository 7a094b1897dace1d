use Rattle.gn_load.specs.Turns.{known_paths}
use Rattle.gn_top.proofs.PartReads.{no_path, read_done, read_failed, read_lost}
use Rattle.gn_top.proofs.first.read_new.Goals as goal

pub returns-in_ok-put_known-in-Ok-clause-reads : goal.returns-in_ok-put_known-in-Ok-clause-reads
returns-in_ok-put_known-in-Ok-clause-reads g c =
    read_done c.args.path (known_paths c.args.read.now.entries) (g.S.Source.state c.args.source.now) (g.S.Source.state c.read_content.new.source) c.requires c.in-Ok.content c.in-Ok.ensures.reads _ tt

pub returns-in_err-put_known-in-Ok-clause-reads : goal.returns-in_err-put_known-in-Ok-clause-reads
returns-in_err-put_known-in-Ok-clause-reads g c =
    read_done c.args.path (known_paths c.args.read.now.entries) (g.S.Source.state c.args.source.now) (g.S.Source.state c.read_content.new.source) c.requires c.in-Ok.content c.in-Ok.ensures.reads _
    (no_path _ c.from_residual.ensures.1)

pub returns-in-Err-Failed-clause-reads : goal.returns-in-Err-Failed-clause-reads
returns-in-Err-Failed-clause-reads g c =
    read_failed c.args.path (known_paths c.args.read.now.entries) (g.S.Source.state c.args.source.now) (g.S.Source.state c.read_content.new.source) c.requires _ (rw c.in-Err-Failed.field-0-is at c.in-Err-Failed.ensures.reads)

pub returns-in-Err-Memory-clause-reads : goal.returns-in-Err-Memory-clause-reads
returns-in-Err-Memory-clause-reads g c =
    read_lost c.args.path (known_paths c.args.read.now.entries) (g.S.Source.state c.args.source.now) (g.S.Source.state c.read_content.new.source) c.requires _ (rw c.in-Err-Memory.field-0-is at c.in-Err-Memory.ensures.reads)
