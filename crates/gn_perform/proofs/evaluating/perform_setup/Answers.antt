use Rattle.std.proofs.Common.{IfSome, Some, sym, subst}
use Rattle.std.proofs.lemmas.Result.{IfOk-weaker}
use Rattle.gn_items.specs.declared.key.Key.{Key}
use Rattle.gn_items.specs.declared.key.Key.TheVariants as variant
use Rattle.gn_core.specs.Keys.{early, shown}
use Rattle.gn_perform.specs.Kept.{GoesOnAt}
use Rattle.gn_told.specs.Told.{need_view}
use Rattle.gn_perform.proofs.Evaluations.{setup_ended, setup_needs, is_configuration, setup_answered, setup_lacks, ran_keeps, lacks_kept}
use Rattle.gn_perform.proofs.evaluating.perform_setup.Goals as goal

pub setup_executed-requires : goal.setup_executed-requires
setup_executed-requires g c = is_configuration c.in-Ended.unit _ (setup_ended c.args.base.now c.in_ok-key.key _ _ c.in_ok-unit.ensures c.args.toolchain.now c.in_ok-key.ensures c.in-Ended.unit c.in-Ended.is).0

pub returns-in-Ended-clause-done : goal.returns-in-Ended-clause-done
returns-in-Ended-clause-done g c = λ start same.
    let ended = setup_ended c.args.base.now c.in_ok-key.key _ _ c.in_ok-unit.ensures c.args.toolchain.now c.in_ok-key.ensures c.in-Ended.unit c.in-Ended.is in
    setup_answered start c.args.base.now (g.P.Part.answers c.args.part.now) c.args.toolchain.now same c.in-Ended.unit c.setup_executed.result ended.0 ended.1 c.setup_executed.ensures

pub returns-in-Lacks-clause-done : goal.returns-in-Lacks-clause-done
returns-in-Lacks-clause-done g c =
    let is = setup_needs c.args.base.now c.in_ok-key.key _ _ c.in_ok-unit.ensures c.args.toolchain.now c.in_ok-key.ensures c.in-Lacks.need c.in-Lacks.kept c.in-Lacks.is in
    IfOk-weaker c.needs.result _ _
    (λ done lacking start same.
    setup_lacks start c.args.base.now (g.P.Part.answers c.args.part.now) c.args.toolchain.now same (need_view c.in-Lacks.need) c.in-Lacks.kept done is lacking)
    c.needs.ensures

pub run_key-requires-clause-rest : goal.run_key-requires-clause-rest
run_key-requires-clause-rest g c = subst (λ (k : Key). IfSome c.args.rest (GoesOnAt c.args.base.now k (Some (shown (g.P.Part.answers c.args.part.now) (early c.args.toolchain.now))))) (sym c.in_ok-key.ensures) c.requires

pub returns-in-Lacks-clause-kept : goal.returns-in-Lacks-clause-kept
returns-in-Lacks-clause-kept g c =
    let base = c.args.base.now in
    let part = g.P.Part.answers c.args.part.now in
    let keeps = ran_keeps base c.in_ok-key.key _ _ c.in_ok-unit.ensures (variant.Setup c.args.toolchain.now) c.in-Lacks.need c.in-Lacks.kept c.in_ok-key.ensures c.in-Lacks.is in
    IfOk-weaker c.needs.result _ _ (λ done lacking. lacks_kept base part (variant.Setup c.args.toolchain.now) (early c.args.toolchain.now) (need_view c.in-Lacks.need) c.in-Lacks.kept done keeps lacking) c.needs.ensures
