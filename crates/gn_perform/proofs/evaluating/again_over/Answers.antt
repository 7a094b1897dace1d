use Rattle.std.proofs.Common.{List, Some, refl}
use Rattle.std.proofs.lemmas.Result.{IfOk-weaker}
use Rattle.gn_book.specs.Keys.{layer_at}
use Rattle.gn_core.specs.Keys.{shown}
use Rattle.gn_runs.specs.Runs.{Question}
use Rattle.gn_unit.specs.Ends.{IsNeedOf, IsKept, IsRead}
use Rattle.gn_told.specs.Told.{told_state, need_view}
use Rattle.gn_perform.proofs.Evaluations.{ran_ended, ran_stopped, ran_paused, ran_read, where_stopped, where_paused, where_tree}
use Rattle.gn_perform.proofs.evaluating.again_over.Goals as goal

pub returns-in-Ok : goal.returns-in-Ok
returns-in-Ok g c =
    let told = shown (g.P.Part.answers c.args.told.part.now) (layer_at c.args.told.when c.args.told.toolchain.now) in
    ran_ended c.args.base.now c.args.key.now (told_state g.P.Part.answers c.args.told) (told_state g.P.Part.answers c.evaluate_again.new.library) told c.evaluate_again.ensures.goes refl c.in-Ok.unit c.in-Ok.ensures.unit c.in-Ok.ensures.asked

pub returns-in-Err : goal.returns-in-Err
returns-in-Err g c =
    let told = shown (g.P.Part.answers c.args.told.part.now) (layer_at c.args.told.when c.args.told.toolchain.now) in
    let before = told_state g.P.Part.answers c.args.told in
    let after = told_state g.P.Part.answers c.evaluate_again.new.library in
    let base = c.args.base.now in
    let key = c.args.key.now in
    IfOk-weaker c.lacks.result _ _
    (λ ran lacks.
    lacks base key told
    (where_stopped c.in-Err.stop _ (λ (asked : List Question). IsNeedOf base key (need_view c.evaluate_again.new.library.need) asked told)
    (λ asked h. ran_stopped base key before after told c.evaluate_again.ensures.goes refl _ asked h) c.in-Err.ensures.need)
    (where_paused c.in-Err.stop _ (IsKept base key (Some told)) (λ rest h. ran_paused base key before after told c.evaluate_again.ensures.goes refl rest h) c.in-Err.ensures.kept)
    (where_tree c.in-Err.stop _ (IsRead base key (Some told)) (λ tree h. ran_read base key before after told c.evaluate_again.ensures.goes refl tree h) c.in-Err.ensures.tree))
    c.lacks.ensures
