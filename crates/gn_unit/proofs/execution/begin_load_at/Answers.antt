use Rattle.std.proofs.Common.{ap, ◌∙◌}
use Rattle.gn_environment.specs.Environment.{Setting, Environment}
use Rattle.gn_executions.specs.Units.{load_begins}
use Rattle.gn_unit.proofs.Configurations.{own_known, own_begins, own_fails}
use Rattle.gn_unit.proofs.Executions.{load_set}
use Rattle.gn_unit.proofs.execution.begin_load_at.Goals as goal

pub found_file-requires-clause-file : goal.found_file-requires-clause-file
found_file-requires-clause-file g c =
    ap (λ (e : Environment). e.setting.file) c.in-Ok-load_environment.ensures ∙ ap (λ (s : Setting). s.file) (load_set c.args.base.now c.args.directory.now c.args.toolchain.now c.args.path.now)

pub found_file-requires-clause-known : goal.found_file-requires-clause-known
found_file-requires-clause-known g c =
    let before = g.L.Library.state c.args.library.now in
    let later = g.L.Library.state c.content_at.new.library in
    let path = c.args.path.now in
    let begins = load_begins c.args.base.now c.args.directory.now c.args.toolchain.now path in
    let file = ap (λ (s : Setting). s.file) (load_set c.args.base.now c.args.directory.now c.args.toolchain.now path) in
    own_known before later c.args.base.now.secondary path begins file c.args.out.now c.content_at.new.out c.in-Ok.found c.in-Ok-load_environment.env c.args.known (c.in-Ok.ensures.evaluates begins) c.in-Ok-load_environment.ensures c.requires

pub returns-in-Ok-load_environment-clause-begins : goal.returns-in-Ok-load_environment-clause-begins
returns-in-Ok-load_environment-clause-begins g c =
    let before = g.L.Library.state c.args.library.now in
    let later = g.L.Library.state c.content_at.new.library in
    let end = g.L.Library.state c.found_file.new.library in
    let path = c.args.path.now in
    let begins = load_begins c.args.base.now c.args.directory.now c.args.toolchain.now path in
    let file = ap (λ (s : Setting). s.file) (load_set c.args.base.now c.args.directory.now c.args.toolchain.now path) in
    own_begins before later c.args.base.now.secondary path begins file c.args.out.now c.content_at.new.out c.in-Ok.found c.in-Ok-load_environment.env end c.found_file.result c.found_file.new.out
    (c.in-Ok.ensures.evaluates begins) c.in-Ok-load_environment.ensures c.found_file.ensures.begins

pub returns-in-Err-load_environment-clause-begins : goal.returns-in-Err-load_environment-clause-begins
returns-in-Err-load_environment-clause-begins g c =
    let told = c.in-Ok.ensures.evaluates (load_begins c.args.base.now c.args.directory.now c.args.toolchain.now c.args.path.now) in
    record { runs = λ a h. tt; goes = told.goes; rose = λ e. cc }

pub returns-in-Err-clause-begins : goal.returns-in-Err-clause-begins
returns-in-Err-clause-begins g c =
    let before = g.L.Library.state c.args.library.now in
    let later = g.L.Library.state c.content_at.new.library in
    let path = c.args.path.now in
    let begins = load_begins c.args.base.now c.args.directory.now c.args.toolchain.now path in
    let file = ap (λ (s : Setting). s.file) (load_set c.args.base.now c.args.directory.now c.args.toolchain.now path) in
    own_fails before later c.args.base.now.secondary path begins file c.args.out.now c.content_at.new.out c.in-Err.end (c.in-Err.ensures.evaluates begins)
