use Rattle.std.proofs.Common.{List, Some, refl, sym, subst}
use Rattle.std.proofs.lemmas.Result.{IfOk-weaker}
use Rattle.gn_book.specs.Keys.{layer_at}
use Rattle.gn_core.specs.Keys.{shown}
use Rattle.gn_runs.specs.Runs.{Question}
use Rattle.gn_unit.specs.Ends.{IsNeedOf, IsKept, IsRead}
use Rattle.gn_told.specs.Told.{told_state, need_view}
use Rattle.gn_perform.proofs.Evaluations.{went_ended, went_stopped, went_paused, where_stopped, where_paused, where_tree}
use Rattle.gn_perform.proofs.evaluating.go_over.Goals as goal

pub returns-in-Ok : goal.returns-in-Ok
returns-in-Ok g c = λ base kept.
    let told = shown (g.P.Part.answers c.args.told.part.now) (layer_at c.args.told.when c.args.told.toolchain.now) in
    went_ended base c.args.key.now (told_state g.P.Part.answers c.args.told) (told_state g.P.Part.answers c.go_on.new.library) told c.args.rest c.go_on.ensures.goes refl kept.0 c.in-Ok.unit c.in-Ok.ensures.unit c.in-Ok.ensures.asked

pub returns-in-Err : goal.returns-in-Err
returns-in-Err g c =
    let told = shown (g.P.Part.answers c.args.told.part.now) (layer_at c.args.told.when c.args.told.toolchain.now) in
    let before = told_state g.P.Part.answers c.args.told in
    let after = told_state g.P.Part.answers c.go_on.new.library in
    let key = c.args.key.now in
    IfOk-weaker c.lacks.result _ _
    (λ ran lacks base kept.
    lacks base key told
    (where_stopped c.in-Err.stop _ (λ (asked : List Question). IsNeedOf base key (need_view c.go_on.new.library.need) asked told)
    (λ asked h. went_stopped base key before after told c.args.rest c.go_on.ensures.goes refl kept.0 _ asked h)
    c.in-Err.ensures.need)
    (where_paused c.in-Err.stop _ (IsKept base key (Some told))
    (λ later h. went_paused base key before after told c.args.rest c.go_on.ensures.goes refl kept.0 later h)
    c.in-Err.ensures.kept)
    (where_tree c.in-Err.stop _ (IsRead base key (Some told)) (λ tree h. subst (IsRead base key (Some told)) (sym h) kept.1) c.in-Err.ensures.tree))
    c.lacks.ensures
