use Rattle.gn_executions.specs.Setups.{content_in}
use Rattle.gn_executions.specs.Units.{content_runs}
use Rattle.gn_unit.specs.Found.{content_view}
use Rattle.gn_unit.specs.Configuration.{found_in}
use Rattle.gn_unit.proofs.Configurations.{in_read, known_shallow, begins_told, begins_fails}
use Rattle.gn_unit.proofs.execution.found_file.Goals as goal

pub begun_in-requires-clause-known : goal.begun_in-requires-clause-known
begun_in-requires-clause-known g c =
    let secondary = c.args.base.now.secondary in
    let content = content_view c.args.found in
    known_shallow c.args.known (g.L.Library.state c.args.library.now).told (λ a. content_in secondary a content c.args.env c.args.out.now) c.requires.known

pub returns-in-Ok-clause-begins : goal.returns-in-Ok-clause-begins
returns-in-Ok-clause-begins g c =
    let before = g.L.Library.state c.args.library.now in
    let later = g.L.Library.state c.found_content.new.library in
    let secondary = c.args.base.now.secondary in
    let content = content_view c.args.found in
    let env = c.args.env in
    let out = c.args.out.now in
    begins_told before later c.found_content.new.env c.found_content.new.out (λ a. found_in secondary a content env out) (λ a. content_in secondary a content env out) (λ a. in_read secondary a content env out)
    c.in-Ok.found c.begun_in.result c.args.known c.in-Ok.ensures.evaluates c.requires.known c.begun_in.ensures.begins c.begun_in.ensures.reads

pub returns-in-Err-clause-begins : goal.returns-in-Err-clause-begins
returns-in-Err-clause-begins g c =
    let before = g.L.Library.state c.args.library.now in
    let later = g.L.Library.state c.found_content.new.library in
    let secondary = c.args.base.now.secondary in
    let content = content_view c.args.found in
    let env = c.args.env in
    let out = c.args.out.now in
    begins_fails before later c.found_content.new.env c.found_content.new.out (λ a. found_in secondary a content env out) (λ a. content_in secondary a content env out) (λ a content1 env1 out1. content_runs content1 env1 out1)
    (λ a. in_read secondary a content env out) c.in-Err.end c.in-Err.ensures.evaluates
