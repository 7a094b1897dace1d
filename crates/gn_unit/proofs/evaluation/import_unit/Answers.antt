use Rattle.std.proofs.Common.{◌≡◌, Result, IfSome, IfErr, refl, sym, subst}
use Rattle.gn_items.specs.Effects.{Effects}
use Rattle.gn_definitions.specs.Imported.{ImportState}
use Rattle.gn_meaning.specs.Steps.{ends}
use Rattle.gn_eval.specs.Ends.{IsFailure}
use Rattle.gn_eval.specs.Telling.{told_before, covers_error}
use Rattle.gn_tree.specs.Tree.{BlockTree}
use Rattle.gn_environment.specs.Environment.{Environment}
use Rattle.gn_executions.specs.Units.{tree_runs, import_begins, import_execution}
use Rattle.gn_outermost.specs.declared.paused.Paused.{Paused as PausedFile}
use Rattle.gn_unit.specs.Begun.{Reads, import_reads}
use Rattle.gn_unit.specs.Ends.{IsImportOf, Executes, rest_then, import_ends, WhereTree}
use Rattle.gn_unit.specs.declared.unit.Unit.{Unit as Evaluated}
use Rattle.gn_unit.specs.declared.unit.EvalStop.{EvalStop}
use Rattle.gn_unit.proofs.Ended.{ended_executes, executes_from, import_begun, import_failed, ended_tree, tree_read}
use Rattle.gn_unit.proofs.evaluation.import_unit.Goals as goal

pub begin_import-requires : goal.begin_import-requires
begin_import-requires g c =
    subst (λ (o : Effects). IfSome c.args.known (Reads (g.L.Library.state c.args.library.now).told (λ a. tree_runs a (import_begins c.args.base.now c.args.when c.args.toolchain.now c.args.path.now) o))) (sym c.new-out.ensures) c.requires

pub returns-in-Ok-clause-unit : goal.returns-in-Ok-clause-unit
returns-in-Ok-clause-unit g c =
    let base = c.args.base.now in
    let before = g.L.Library.state c.args.library.now in
    let middle = g.L.Library.state c.begin_import.new.library in
    let after = g.L.Library.state c.import_on.new.library in
    let tree = c.in-Ok.tree in
    let env = c.in-Ok.env in
    let out = c.begin_import.new.out in
    let p : PausedFile = record { tree = tree; next = 0; env = env; out = out } in
    executes_from IsImportOf import_ends before after middle c.import_on.result (import_execution base c.args.when c.args.toolchain.now c.args.path.now) (rest_then import_ends p) c.in-Ok.ensures.begins.goes c.import_on.ensures.unit
    (λ a i.
    import_begun base a tree env out p refl c.args.when c.args.toolchain.now c.args.path.now
    (subst (λ (o : Effects). tree_runs a (import_begins c.args.base.now c.args.when c.args.toolchain.now c.args.path.now) o ≡ ends tree env out) c.new-out.ensures (c.in-Ok.ensures.begins.runs a (told_before c.import_on.ensures.unit.goes a i))))

pub returns-in-Ok-clause-tree : goal.returns-in-Ok-clause-tree
returns-in-Ok-clause-tree g c =
    let tree = c.in-Ok.tree in
    let env = c.in-Ok.env in
    let out = c.begin_import.new.out in
    tree_read c.import_on.result tree (g.L.Library.state c.import_on.new.library).told (import_reads c.args.base.now c.args.when c.args.toolchain.now c.args.path.now) c.in-Ok.ensures.shallow
    (λ a i. (env, out, subst (λ (o : Effects). tree_runs a (import_begins c.args.base.now c.args.when c.args.toolchain.now c.args.path.now) o ≡ ends tree env out) c.new-out.ensures (c.in-Ok.ensures.begins.runs a (told_before c.import_on.ensures.unit.goes a i)))) c.import_on.ensures.tree

pub returns-in-Err-clause-unit : goal.returns-in-Err-clause-unit
returns-in-Err-clause-unit g c =
    let base = c.args.base.now in
    let before = g.L.Library.state c.args.library.now in
    let after = g.L.Library.state c.begin_import.new.library in
    let out = c.begin_import.new.out in
    subst (λ (r : Result Evaluated EvalStop). Executes IsImportOf import_ends before after r (import_execution base c.args.when c.args.toolchain.now c.args.path.now)) (sym c.ended.ensures)
    (ended_executes IsImportOf import_ends (λ fault asked end h. h) (λ path place asked end h. h) before after (import_execution base c.args.when c.args.toolchain.now c.args.path.now) c.in-Err.end c.into_asked.result out
    (λ a i.
    import_failed base a after.need c.in-Err.end out c.args.when c.args.toolchain.now c.args.path.now
    (subst (λ (o : Effects). IsFailure after.need c.in-Err.end out (tree_runs a (import_begins c.args.base.now c.args.when c.args.toolchain.now c.args.path.now) o)) c.new-out.ensures
    (c.in-Err.ensures.begins.runs a (covers_error ImportState (BlockTree × Environment) after.told c.in-Err.end a i))))
    c.in-Err.ensures.begins.goes (λ e. c.in-Err.ensures.begins.rose (cc)) c.into_asked.ensures)

pub returns-in-Err-clause-tree : goal.returns-in-Err-clause-tree
returns-in-Err-clause-tree g c =
    let P = Reads (g.L.Library.state c.begin_import.new.library).told (import_reads c.args.base.now c.args.when c.args.toolchain.now c.args.path.now) in
    subst (λ (r : Result Evaluated EvalStop). IfErr r (λ stop. WhereTree stop P)) (sym c.ended.ensures) (ended_tree c.in-Err.end c.into_asked.result P)
