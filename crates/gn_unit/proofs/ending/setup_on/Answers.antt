use Rattle.std.proofs.Common.{◌≡◌, Result, IfErr, refl, sym, subst}
use Rattle.gn_meaning.specs.Meaning.{configuration_ends}
use Rattle.gn_outermost.specs.Rests.{rest_runs}
use Rattle.gn_unit.specs.Ends.{IsSetupOf, Executes, rest_then, WhereTree}
use Rattle.gn_unit.specs.declared.unit.Unit.{Unit as Evaluated}
use Rattle.gn_unit.specs.declared.unit.EvalStop.{EvalStop}
use Rattle.gn_unit.proofs.Ended.{rest_ends, rest_pauses, rest_fails, failed_tree, end_tree}
use Rattle.gn_unit.proofs.ending.setup_on.Goals as goal

pub returns-in-Ended-clause-unit : goal.returns-in-Ended-clause-unit
returns-in-Ended-clause-unit g c =
    let before = g.L.Library.state c.args.library.now in
    let after = g.L.Library.state c.run_on.new.library in
    rest_ends IsSetupOf configuration_ends before after (rest_runs c.args.paused) c.in-Ended.env c.in-Ended.out c.end_setup.result c.in-Ended.ensures.stops.so c.in-Ended.ensures.stops.goes c.end_setup.ensures

pub returns-in-Ended-clause-tree : goal.returns-in-Ended-clause-tree
returns-in-Ended-clause-tree g c = end_tree IsSetupOf c.end_setup.result (configuration_ends c.in-Ended.env c.in-Ended.out) (λ t. t ≡ c.args.paused.tree) c.end_setup.ensures

pub returns-in-Paused-clause-unit : goal.returns-in-Paused-clause-unit
returns-in-Paused-clause-unit g c =
    let before = g.L.Library.state c.args.library.now in
    let after = g.L.Library.state c.run_on.new.library in
    rest_pauses IsSetupOf configuration_ends before after (rest_runs c.args.paused) c.in-Paused.paused c.in-Paused.ensures.stops.so.0 c.in-Paused.ensures.stops.so.1 c.in-Paused.ensures.stops.goes

pub returns-in-Failed-clause-unit : goal.returns-in-Failed-clause-unit
returns-in-Failed-clause-unit g c =
    let before = g.L.Library.state c.args.library.now in
    let after = g.L.Library.state c.run_on.new.library in
    subst (λ (r : Result Evaluated EvalStop). Executes IsSetupOf configuration_ends before after r (rest_then configuration_ends c.args.paused)) (sym c.failed.ensures)
    (rest_fails IsSetupOf configuration_ends (λ fault asked end h. h) (λ path place asked end h. h) before after (rest_then configuration_ends c.args.paused) c.in-Failed.end c.into_asked.result c.in-Failed.out (rest_runs c.args.paused) (λ a. refl) c.in-Failed.ensures.stops.so c.in-Failed.ensures.stops.goes c.into_asked.ensures c.in-Failed.tree)

pub returns-in-Failed-clause-tree : goal.returns-in-Failed-clause-tree
returns-in-Failed-clause-tree g c =
    subst (λ (r : Result Evaluated EvalStop). IfErr r (λ stop. WhereTree stop (λ t. t ≡ c.args.paused.tree))) (sym c.failed.ensures)
    (failed_tree c.in-Failed.end c.into_asked.result c.in-Failed.tree (λ t. t ≡ c.args.paused.tree) c.in-Failed.ensures.tree)
