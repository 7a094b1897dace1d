use Rattle.std.proofs.Common.{sym, ap}
use Rattle.gn_projects.specs.Files.{content_in}
use Rattle.gn_answers.proofs.Contents.{bytes_content, bytes_read, answered_read, big_read, failed_read, lost_read}
use Rattle.gn_answers.proofs.reading.read_content.Goals as goal

pub content_of-requires : goal.content_of-requires
content_of-requires g c = (rw c.in-Ok-Some.field-0-is at c.in-Ok-Some.ensures).limit

pub returns-in-Ok-Some-clause-content : goal.returns-in-Ok-Some-clause-content
returns-in-Ok-Some-clause-content g c =
    bytes_content (g.S.Source.state c.args.source.now).tree c.in-Ok-Some.bytes.items c.args.path.now c.content_of.result c.content_of.ensures
    (λ tree told. rw c.as_str.ensures.value at (rw c.in-Ok-Some.field-0-is at (c.in-Ok-Some.ensures.answer tree told)))

pub returns-in-Ok-Some-clause-reads : goal.returns-in-Ok-Some-clause-reads
returns-in-Ok-Some-clause-reads g c =
    bytes_read (g.S.Source.state c.args.source.now) (g.S.Source.state c.read.new.self) c.args.path.now c.in-Ok-Some.bytes c.content_of.result c.content_of.ensures (rw c.as_str.ensures.value at (rw c.in-Ok-Some.field-0-is at c.in-Ok-Some.ensures))

pub returns-in-Ok-None-clause-content : goal.returns-in-Ok-None-clause-content
returns-in-Ok-None-clause-content g c = λ tree told. ap content_in (sym (rw c.as_str.ensures.value at (rw c.in-Ok-None.field-0-is at (c.in-Ok-None.ensures.answer tree told))))

pub returns-in-Ok-None-clause-reads : goal.returns-in-Ok-None-clause-reads
returns-in-Ok-None-clause-reads g c = answered_read (g.S.Source.state c.args.source.now) (g.S.Source.state c.read.new.self) c.args.path.now _ _ (rw c.as_str.ensures.value at c.in-Ok-None.ensures)

pub returns-in-Err-TooBig-clause-content : goal.returns-in-Err-TooBig-clause-content
returns-in-Err-TooBig-clause-content g c = λ tree told. ap content_in (sym (rw c.as_str.ensures.value at (rw c.in-Err-TooBig.field-0-is at (c.in-Err-TooBig.ensures.answer tree told))))

pub returns-in-Err-TooBig-clause-reads : goal.returns-in-Err-TooBig-clause-reads
returns-in-Err-TooBig-clause-reads g c = big_read (g.S.Source.state c.args.source.now) (g.S.Source.state c.read.new.self) c.args.path.now _ _ (rw c.as_str.ensures.value at (rw c.in-Err-TooBig.field-0-is at c.in-Err-TooBig.ensures))

pub returns-in-Err-Failed-clause-reads : goal.returns-in-Err-Failed-clause-reads
returns-in-Err-Failed-clause-reads g c = failed_read (g.S.Source.state c.args.source.now) (g.S.Source.state c.read.new.self) c.args.path.now (rw c.as_str.ensures.value at (rw c.in-Err-Failed.field-0-is at c.in-Err-Failed.ensures))

pub returns-in-Err-Memory-clause-reads : goal.returns-in-Err-Memory-clause-reads
returns-in-Err-Memory-clause-reads g c = lost_read (g.S.Source.state c.args.source.now) (g.S.Source.state c.read.new.self) c.args.path.now (rw c.as_str.ensures.value at (rw c.in-Err-Memory.field-0-is at c.in-Err-Memory.ensures))
