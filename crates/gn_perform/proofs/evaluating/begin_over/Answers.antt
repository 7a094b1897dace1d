use Rattle.std.proofs.Common.{List, Some, sym, subst, ap, refl}
use Rattle.std.proofs.lemmas.Result.{IfOk-weaker}
use Rattle.gn_items.specs.declared.key.Key.{Key}
use Rattle.gn_items.specs.declared.key.Claim.{Claim}
use Rattle.gn_book.specs.Keys.{layer_at}
use Rattle.gn_core.specs.Keys.{shown}
use Rattle.gn_runs.specs.Runs.{Question}
use Rattle.gn_unit.specs.Ends.{IsExecuted, IsNeedOf, IsKept, IsRead}
use Rattle.gn_perform.specs.Evaluating.{IsRan}
use Rattle.gn_told.specs.Told.{told_state, need_view}
use Rattle.gn_perform.specs.declared.evaluating.Ran.TheVariants.{Ended}
use Rattle.gn_perform.proofs.Evaluations.{ran_ended, ran_stopped, ran_paused, ran_read, where_stopped, where_paused, where_tree}
use Rattle.gn_perform.proofs.evaluating.begin_over.Goals as goal

pub evaluate-requires : goal.evaluate-requires
evaluate-requires g c = subst IsExecuted (sym (ap (λ (x : Claim). x.key) c.issue.ensures)) c.requires

pub returns-in-Ok : goal.returns-in-Ok
returns-in-Ok g c =
    let told = shown (g.P.Part.answers c.args.told.part.now) (layer_at c.args.told.when c.args.told.toolchain.now) in
    subst (λ (k : Key). IsRan c.args.base.now k told (Ended c.in-Ok.done.1)) (ap (λ (x : Claim). x.key) c.issue.ensures)
    (ran_ended c.args.base.now c.issue.result.key (told_state g.P.Part.answers c.args.told) (told_state g.P.Part.answers c.evaluate.new.library) told c.evaluate.ensures.goes refl c.in-Ok.done.1 c.in-Ok.ensures.unit c.in-Ok.ensures.asked)

pub returns-in-Err : goal.returns-in-Err
returns-in-Err g c =
    let told = shown (g.P.Part.answers c.args.told.part.now) (layer_at c.args.told.when c.args.told.toolchain.now) in
    IfOk-weaker c.lacks.result _ _
    (λ ran lacks.
    lacks c.args.base.now c.args.key told
    (where_stopped c.in-Err.stopped.1 _ (λ (asked : List Question). IsNeedOf c.args.base.now c.args.key (need_view c.evaluate.new.library.need) asked told)
    (λ asked h. subst (λ (k : Key). IsNeedOf c.args.base.now k (need_view c.evaluate.new.library.need) asked told) (ap (λ (x : Claim). x.key) c.issue.ensures)
    (ran_stopped c.args.base.now c.issue.result.key (told_state g.P.Part.answers c.args.told) (told_state g.P.Part.answers c.evaluate.new.library) told c.evaluate.ensures.goes refl _ asked h))
    c.in-Err.ensures.need)
    (where_paused c.in-Err.stopped.1 _ (IsKept c.args.base.now c.args.key (Some told))
    (λ rest h. subst (λ (k : Key). IsKept c.args.base.now k (Some told) rest) (ap (λ (x : Claim). x.key) c.issue.ensures)
    (ran_paused c.args.base.now c.issue.result.key (told_state g.P.Part.answers c.args.told) (told_state g.P.Part.answers c.evaluate.new.library) told c.evaluate.ensures.goes refl rest h))
    c.in-Err.ensures.kept)
    (where_tree c.in-Err.stopped.1 _ (IsRead c.args.base.now c.args.key (Some told))
    (λ tree h. subst (λ (k : Key). IsRead c.args.base.now k (Some told) tree) (ap (λ (x : Claim). x.key) c.issue.ensures)
    (ran_read c.args.base.now c.issue.result.key (told_state g.P.Part.answers c.args.told) (told_state g.P.Part.answers c.evaluate.new.library) told c.evaluate.ensures.goes refl tree h))
    c.in-Err.ensures.tree))
    c.lacks.ensures
