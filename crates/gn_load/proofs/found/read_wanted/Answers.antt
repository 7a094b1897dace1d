use Rattle.gn_load.proofs.FoundLemmas.{one_fails, one_lost, one_then_lost, one_read}
use Rattle.gn_load.proofs.found.read_wanted.Goals as goal

pub returns-in_err-keep_wanted-in-Ok : goal.returns-in_err-keep_wanted-in-Ok
returns-in_err-keep_wanted-in-Ok g c = λ known before is.
    one_then_lost known before (g.S.Source.state c.args.source.now) (g.S.Source.state c.read_content.new.source) c.args.driver.now c.args.total.now c.requires.wanted.0 c.args.key c.args.path is c.requires.numbers c.requires.wanted.1 c.in-Ok.content c.in-Ok.ensures.reads
    c.keep_wanted.new.driver c.keep_wanted.new.total c.from_residual.result c.from_residual.ensures.1

pub returns-in_ok-keep_wanted-in-Ok : goal.returns-in_ok-keep_wanted-in-Ok
returns-in_ok-keep_wanted-in-Ok g c = λ known before is.
    one_read known before (g.S.Source.state c.args.source.now) (g.S.Source.state c.read_content.new.source) c.args.driver.now c.args.total.now c.requires.wanted.0 c.args.key c.args.path is c.requires.numbers c.requires.wanted.1 c.in-Ok.content c.in-Ok.ensures.reads
    c.in-Ok.ensures.content c.requires.few c.keep_wanted.new.driver c.keep_wanted.new.total c.in_ok-keep_wanted-in-Ok.field-0 c.in_ok-keep_wanted-in-Ok.ensures

pub returns-in-Err-Failed : goal.returns-in-Err-Failed
returns-in-Err-Failed g c = λ known before is.
    one_fails known before (g.S.Source.state c.args.source.now) (g.S.Source.state c.read_content.new.source) c.args.driver.now c.args.total.now c.requires.wanted.0 c.args.key c.args.path is c.requires.numbers c.requires.wanted.1
    (rw c.in-Err-Failed.field-0-is at c.in-Err-Failed.ensures.reads)

pub returns-in-Err-Memory : goal.returns-in-Err-Memory
returns-in-Err-Memory g c = λ known before is.
    one_lost known before (g.S.Source.state c.args.source.now) (g.S.Source.state c.read_content.new.source) c.args.driver.now c.args.total.now c.requires.wanted.0 c.args.key c.args.path is c.requires.numbers c.requires.wanted.1
    (rw c.in-Err-Memory.field-0-is at c.in-Err-Memory.ensures.reads)
