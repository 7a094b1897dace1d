use Rattle.std.proofs.Common.{subst, sym}
use Rattle.gn_book.specs.Logs.{state_of}
use Rattle.gn_perform.specs.Performing.{HasWork}
use Rattle.gn_perform.specs.declared.work.Performed.TheVariants.{Needs}
use Rattle.gn_load.proofs.DoneLemmas.{read_answered, read_failed, read_lost, reads_need_none}
use Rattle.gn_load.proofs.driver.read_new.Goals as goal

pub perform-requires-clause-work : goal.perform-requires-clause-work
perform-requires-clause-work g c = subst HasWork (sym c.requires.read.1) tt

pub returns-in-Ok-Answered : goal.returns-in-Ok-Answered
returns-in-Ok-Answered g c =
    read_answered (g.S.Source.state c.args.source.now) (g.S.Source.state c.perform.new.source) c.args.driver.now c.read_done.new.driver c.args.claim (state_of c.args.driver.now.book).filed c.base.result.now c.in-Ok-Answered.answer c.read_done.result
    (rw c.in-Ok-Answered.field-0-is at c.in-Ok-Answered.ensures.done) (rw c.in-Ok-Answered.field-0-is at c.in-Ok-Answered.ensures.tree) (rw c.in-Ok-Answered.field-0-is at c.in-Ok-Answered.ensures.reads) c.read_done.ensures

pub unreachable-requires : goal.unreachable-requires
unreachable-requires g c =
    reads_need_none (state_of c.args.driver.now.book).filed c.base.result.now _ c.requires.read.0 (Needs c.in-Ok-Needs.field-0-0 c.in-Ok-Needs.field-0-1 c.in-Ok-Needs.field-0-2) c.requires.read.1 (rw c.in-Ok-Needs.field-0-is at c.in-Ok-Needs.ensures.done)

pub returns-in-Err-Failed : goal.returns-in-Err-Failed
returns-in-Err-Failed g c =
    read_failed (g.S.Source.state c.args.source.now) (g.S.Source.state c.perform.new.source) c.args.driver.now c.args.driver.now c.args.claim c.path_of.result c.path_of.ensures (rw c.in-Err-Failed.field-0-is at c.in-Err-Failed.ensures.reads)

pub returns-in-Err-Memory : goal.returns-in-Err-Memory
returns-in-Err-Memory g c =
    read_lost (g.S.Source.state c.args.source.now) (g.S.Source.state c.perform.new.source) c.args.driver.now c.args.driver.now c.args.claim (rw c.in-Err-Memory.field-0-is at c.in-Err-Memory.ensures.reads)
