use Rattle.std.proofs.Common.{IfSome, Some, sym, subst, ◌∙◌}
use Rattle.std.proofs.lemmas.Result.{IfOk-weaker}
use Rattle.gn_book.specs.Keys.{layer_at}
use Rattle.gn_items.specs.declared.key.Key.{Key}
use Rattle.gn_items.specs.declared.key.Key.TheVariants as variant
use Rattle.gn_core.specs.Keys.{shown}
use Rattle.gn_perform.specs.Kept.{GoesOnAt}
use Rattle.gn_told.specs.Told.{need_view}
use Rattle.gn_perform.proofs.Evaluations.{import_ended, import_needs, is_imported, import_answered, import_lacks, ran_keeps, lacks_kept, import_run_at, import_at_layer}
use Rattle.gn_perform.proofs.evaluating.perform_import.Goals as goal

pub import_executed-requires : goal.import_executed-requires
import_executed-requires g c =
    is_imported c.in-Ended.unit _
    (import_ended c.args.base.now c.in_ok-key.key _ _ c.in_ok-unit.ensures c.args.when c.args.toolchain.now c.args.path.now c.in_ok-key.ensures c.in-Ended.unit c.in-Ended.is).0

pub returns-in_ok-import_filed-in-Ended-clause-done : goal.returns-in_ok-import_filed-in-Ended-clause-done
returns-in_ok-import_filed-in-Ended-clause-done g c = λ start same.
    let base = c.args.base.now in
    let ended = import_ended base c.in_ok-key.key _ _ c.in_ok-unit.ensures c.args.when c.args.toolchain.now c.args.path.now c.in_ok-key.ensures c.in-Ended.unit c.in-Ended.is in
    import_answered start base (g.P.Part.answers c.args.part.now) (layer_at c.args.when c.args.toolchain.now) c.args.path.now same _ c.in_ok-import_filed-in-Ended.field-0
    (import_run_at base c.args.when c.args.toolchain.now c.args.path.now _ c.import_executed.result (c.import_executed.ensures _ ended.0 ended.1)) c.in_ok-import_filed-in-Ended.ensures

pub returns-in-Lacks-clause-done : goal.returns-in-Lacks-clause-done
returns-in-Lacks-clause-done g c =
    let base = c.args.base.now in
    let is = import_needs base c.in_ok-key.key _ _ c.in_ok-unit.ensures c.args.when c.args.toolchain.now c.args.path.now c.in_ok-key.ensures c.in-Lacks.need c.in-Lacks.kept c.in-Lacks.is in
    IfOk-weaker c.needs.result _ _
    (λ done lacking start same.
    import_lacks start base (g.P.Part.answers c.args.part.now) (layer_at c.args.when c.args.toolchain.now) c.args.path.now same (need_view c.in-Lacks.need) c.in-Lacks.kept done
    (import_at_layer base c.args.when c.args.toolchain.now c.args.path.now _ ∙ is) lacking)
    c.needs.ensures

pub run_key-requires-clause-rest : goal.run_key-requires-clause-rest
run_key-requires-clause-rest g c = subst (λ (k : Key). IfSome c.args.rest (GoesOnAt c.args.base.now k (Some (shown (g.P.Part.answers c.args.part.now) (layer_at c.args.when c.args.toolchain.now))))) (sym c.in_ok-key.ensures) c.requires

pub returns-in-Lacks-clause-kept : goal.returns-in-Lacks-clause-kept
returns-in-Lacks-clause-kept g c =
    let base = c.args.base.now in
    let part = g.P.Part.answers c.args.part.now in
    let keeps = ran_keeps base c.in_ok-key.key _ _ c.in_ok-unit.ensures (variant.Import c.args.when c.args.toolchain.now c.args.path.now) c.in-Lacks.need c.in-Lacks.kept c.in_ok-key.ensures c.in-Lacks.is in
    IfOk-weaker c.needs.result _ _ (λ done lacking. lacks_kept base part (variant.Import c.args.when c.args.toolchain.now c.args.path.now) (layer_at c.args.when c.args.toolchain.now) (need_view c.in-Lacks.need) c.in-Lacks.kept done keeps lacking) c.needs.ensures
