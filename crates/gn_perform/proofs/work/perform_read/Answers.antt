use Rattle.std.proofs.Common.{refl, ap}
use Rattle.gn_core.specs.Keys.{found}
use Rattle.gn_answers.specs.Answers.{content_view}
use Rattle.gn_perform.proofs.Performs.{content_work, stop_work}
use Rattle.gn_perform.proofs.work.perform_read.Goals as goal

pub returns-in-Ok-clause-done : goal.returns-in-Ok-clause-done
returns-in-Ok-clause-done g c = λ start part. (content_view c.in-Ok.content, refl)

pub returns-in-Ok-clause-tree : goal.returns-in-Ok-clause-tree
returns-in-Ok-clause-tree g c = λ tree told. ap found (c.in-Ok.ensures.content tree told)

pub returns-in-Ok-clause-reads : goal.returns-in-Ok-clause-reads
returns-in-Ok-clause-reads g c = content_work (g.S.Source.state c.args.source.now) (g.S.Source.state c.read_content.new.source) c.args.path.now c.in-Ok.content _ c.in-Ok.ensures.reads

pub returns-in-Err-clause-reads : goal.returns-in-Err-clause-reads
returns-in-Err-clause-reads g c = stop_work (g.S.Source.state c.args.source.now) (g.S.Source.state c.read_content.new.source) c.args.path.now c.in-Err.stop c.in-Err.ensures.reads
