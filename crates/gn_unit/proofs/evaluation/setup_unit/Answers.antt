use Rattle.std.proofs.Common.{◌≡◌, Result, IfSome, IfErr, refl, sym, subst}
use Rattle.gn_items.specs.Effects.{Effects}
use Rattle.gn_definitions.specs.Imported.{ImportState}
use Rattle.gn_meaning.specs.Steps.{ends}
use Rattle.gn_meaning.specs.Meaning.{configuration_ends}
use Rattle.gn_eval.specs.Ends.{IsFailure}
use Rattle.gn_eval.specs.Telling.{told_before, covers_error}
use Rattle.gn_tree.specs.Tree.{BlockTree}
use Rattle.gn_environment.specs.Environment.{Environment}
use Rattle.gn_executions.specs.Setups.{secondary_tree_runs, setup_begins, setup_execution}
use Rattle.gn_outermost.specs.declared.paused.Paused.{Paused as PausedFile}
use Rattle.gn_unit.specs.Begun.{Reads, setup_reads}
use Rattle.gn_unit.specs.Ends.{IsSetupOf, Executes, rest_then, WhereTree}
use Rattle.gn_unit.specs.declared.unit.Unit.{Unit as Evaluated}
use Rattle.gn_unit.specs.declared.unit.EvalStop.{EvalStop}
use Rattle.gn_unit.proofs.Ended.{ended_executes, executes_from, setup_begun, setup_failed, ended_tree, tree_read}
use Rattle.gn_unit.proofs.evaluation.setup_unit.Goals as goal

pub begin_setup-requires : goal.begin_setup-requires
begin_setup-requires g c =
    subst (λ (o : Effects). IfSome c.args.known (Reads (g.L.Library.state c.args.library.now).told (λ a. secondary_tree_runs c.args.base.now.secondary a (setup_begins c.args.base.now c.args.toolchain.now) o))) (sym c.new-out.ensures) c.requires

pub returns-in-Ok-clause-unit : goal.returns-in-Ok-clause-unit
returns-in-Ok-clause-unit g c =
    let base = c.args.base.now in
    let before = g.L.Library.state c.args.library.now in
    let middle = g.L.Library.state c.begin_setup.new.library in
    let after = g.L.Library.state c.setup_on.new.library in
    let tree = c.in-Ok.tree in
    let env = c.in-Ok.env in
    let out = c.begin_setup.new.out in
    let p : PausedFile = record { tree = tree; next = 0; env = env; out = out } in
    executes_from IsSetupOf configuration_ends before after middle c.setup_on.result (setup_execution base c.args.toolchain.now) (rest_then configuration_ends p) c.in-Ok.ensures.begins.goes c.setup_on.ensures.unit
    (λ a i.
    setup_begun base a tree env out p refl c.args.toolchain.now
    (subst (λ (o : Effects). secondary_tree_runs c.args.base.now.secondary a (setup_begins c.args.base.now c.args.toolchain.now) o ≡ ends tree env out) c.new-out.ensures (c.in-Ok.ensures.begins.runs a (told_before c.setup_on.ensures.unit.goes a i))))

pub returns-in-Ok-clause-tree : goal.returns-in-Ok-clause-tree
returns-in-Ok-clause-tree g c =
    let tree = c.in-Ok.tree in
    let env = c.in-Ok.env in
    let out = c.begin_setup.new.out in
    tree_read c.setup_on.result tree (g.L.Library.state c.setup_on.new.library).told (setup_reads c.args.base.now c.args.toolchain.now) c.in-Ok.ensures.shallow
    (λ a i. (env, out, subst (λ (o : Effects). secondary_tree_runs c.args.base.now.secondary a (setup_begins c.args.base.now c.args.toolchain.now) o ≡ ends tree env out) c.new-out.ensures (c.in-Ok.ensures.begins.runs a (told_before c.setup_on.ensures.unit.goes a i)))) c.setup_on.ensures.tree

pub returns-in-Err-clause-unit : goal.returns-in-Err-clause-unit
returns-in-Err-clause-unit g c =
    let base = c.args.base.now in
    let before = g.L.Library.state c.args.library.now in
    let after = g.L.Library.state c.begin_setup.new.library in
    let out = c.begin_setup.new.out in
    subst (λ (r : Result Evaluated EvalStop). Executes IsSetupOf configuration_ends before after r (setup_execution base c.args.toolchain.now)) (sym c.ended.ensures)
    (ended_executes IsSetupOf configuration_ends (λ fault asked end h. h) (λ path place asked end h. h) before after (setup_execution base c.args.toolchain.now) c.in-Err.end c.into_asked.result out
    (λ a i.
    setup_failed base a after.need c.in-Err.end out c.args.toolchain.now
    (subst (λ (o : Effects). IsFailure after.need c.in-Err.end out (secondary_tree_runs c.args.base.now.secondary a (setup_begins c.args.base.now c.args.toolchain.now) o)) c.new-out.ensures
    (c.in-Err.ensures.begins.runs a (covers_error ImportState (BlockTree × Environment) after.told c.in-Err.end a i))))
    c.in-Err.ensures.begins.goes (λ e. c.in-Err.ensures.begins.rose (cc)) c.into_asked.ensures)

pub returns-in-Err-clause-tree : goal.returns-in-Err-clause-tree
returns-in-Err-clause-tree g c =
    let P = Reads (g.L.Library.state c.begin_setup.new.library).told (setup_reads c.args.base.now c.args.toolchain.now) in
    subst (λ (r : Result Evaluated EvalStop). IfErr r (λ stop. WhereTree stop P)) (sym c.ended.ensures) (ended_tree c.in-Err.end c.into_asked.result P)
