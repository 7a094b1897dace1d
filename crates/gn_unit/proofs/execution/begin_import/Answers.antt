use Rattle.std.proofs.Common.{ap}
use Rattle.gn_environment.specs.Environment.{Setting}
use Rattle.gn_executions.specs.Units.{import_begins, content_runs, tree_runs}
use Rattle.gn_unit.specs.Configuration.{own_content_runs}
use Rattle.gn_unit.proofs.Configurations.{own_read, known_shallow, begins_told, begins_fails}
use Rattle.gn_unit.proofs.Executions.{import_set}
use Rattle.gn_unit.proofs.execution.begin_import.Goals as goal

pub begun_in-requires-clause-known : goal.begun_in-requires-clause-known
begun_in-requires-clause-known g c =
    let begins = import_begins c.args.base.now c.args.when c.args.toolchain.now c.args.path.now in
    known_shallow c.args.known (g.L.Library.state c.args.library.now).told (λ a. tree_runs a begins c.args.out.now) c.requires

pub returns-in-Ok-import_environment-clause-begins : goal.returns-in-Ok-import_environment-clause-begins
returns-in-Ok-import_environment-clause-begins g c =
    let before = g.L.Library.state c.args.library.now in
    let later = g.L.Library.state c.content_at.new.library in
    let path = c.args.path.now in
    let begins = import_begins c.args.base.now c.args.when c.args.toolchain.now path in
    let out = c.args.out.now in
    let file = ap (λ (s : Setting). s.file) (import_set c.args.base.now c.args.when c.args.toolchain.now path) in
    begins_told before later begins c.content_at.new.out (λ a. own_content_runs path a begins out) (λ a. tree_runs a begins out) (λ a. own_read path a begins out file)
    c.in-Ok.found c.begun_in.result c.args.known (c.in-Ok.ensures.evaluates begins) c.requires (rw c.in-Ok-import_environment.ensures at c.begun_in.ensures.begins) c.begun_in.ensures.reads

pub returns-in-Err-import_environment-clause-begins : goal.returns-in-Err-import_environment-clause-begins
returns-in-Err-import_environment-clause-begins g c =
    let told = c.in-Ok.ensures.evaluates (import_begins c.args.base.now c.args.when c.args.toolchain.now c.args.path.now) in
    record { runs = λ a h. tt; goes = told.goes; rose = λ e. cc }

pub returns-in-Err-clause-begins : goal.returns-in-Err-clause-begins
returns-in-Err-clause-begins g c =
    let before = g.L.Library.state c.args.library.now in
    let later = g.L.Library.state c.content_at.new.library in
    let path = c.args.path.now in
    let begins = import_begins c.args.base.now c.args.when c.args.toolchain.now path in
    let out = c.args.out.now in
    let file = ap (λ (s : Setting). s.file) (import_set c.args.base.now c.args.when c.args.toolchain.now path) in
    begins_fails before later begins c.content_at.new.out (λ a. own_content_runs path a begins out) (λ a. tree_runs a begins out) (λ a content env1 out1. content_runs content env1 out1) (λ a. own_read path a begins out file)
    c.in-Err.end (c.in-Err.ensures.evaluates begins)
