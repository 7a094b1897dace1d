use Rattle.std.proofs.Common.{sym, ap, ◌∙◌}
use Rattle.gn_environment.specs.Environment.{Environment}
use Rattle.gn_executions.specs.Setups.{setup_begins}
use Rattle.gn_unit.proofs.Configurations.{setup_set, own_known, own_begins, own_fails}
use Rattle.gn_unit.proofs.configuration.begin_setup.Goals as goal

pub found_file-requires-clause-file : goal.found_file-requires-clause-file
found_file-requires-clause-file g c =
    ap (λ (e : Environment). e.setting.file) c.in-Ok-setup_environment.ensures ∙ setup_set c.args.base.now c.args.toolchain.now ∙ sym c.configuration-path.ensures

pub found_file-requires-clause-known : goal.found_file-requires-clause-known
found_file-requires-clause-known g c =
    let before = g.L.Library.state c.args.library.now in
    let later = g.L.Library.state c.content_at.new.library in
    let path = c.configuration-path.result.now in
    let begins = setup_begins c.args.base.now c.args.toolchain.now in
    let file = setup_set c.args.base.now c.args.toolchain.now ∙ sym c.configuration-path.ensures in
    own_known before later c.args.base.now.secondary path begins file c.args.out.now c.content_at.new.out c.in-Ok.found c.in-Ok-setup_environment.env c.args.known (c.in-Ok.ensures.evaluates begins) c.in-Ok-setup_environment.ensures c.requires

pub returns-in-Ok-setup_environment-clause-begins : goal.returns-in-Ok-setup_environment-clause-begins
returns-in-Ok-setup_environment-clause-begins g c =
    let before = g.L.Library.state c.args.library.now in
    let later = g.L.Library.state c.content_at.new.library in
    let end = g.L.Library.state c.found_file.new.library in
    let path = c.configuration-path.result.now in
    let begins = setup_begins c.args.base.now c.args.toolchain.now in
    let file = setup_set c.args.base.now c.args.toolchain.now ∙ sym c.configuration-path.ensures in
    own_begins before later c.args.base.now.secondary path begins file c.args.out.now c.content_at.new.out c.in-Ok.found c.in-Ok-setup_environment.env end c.found_file.result c.found_file.new.out
    (c.in-Ok.ensures.evaluates begins) c.in-Ok-setup_environment.ensures c.found_file.ensures.begins

pub returns-in-Err-setup_environment-clause-begins : goal.returns-in-Err-setup_environment-clause-begins
returns-in-Err-setup_environment-clause-begins g c =
    let told = c.in-Ok.ensures.evaluates (setup_begins c.args.base.now c.args.toolchain.now) in
    record { runs = λ a h. tt; goes = told.goes; rose = λ e. cc }

pub returns-in-Err-clause-begins : goal.returns-in-Err-clause-begins
returns-in-Err-clause-begins g c =
    let before = g.L.Library.state c.args.library.now in
    let later = g.L.Library.state c.content_at.new.library in
    let path = c.configuration-path.result.now in
    let begins = setup_begins c.args.base.now c.args.toolchain.now in
    let file = setup_set c.args.base.now c.args.toolchain.now ∙ sym c.configuration-path.ensures in
    own_fails before later c.args.base.now.secondary path begins file c.args.out.now c.content_at.new.out c.in-Err.end (c.in-Err.ensures.evaluates begins)
