use Rattle.gn_executions.specs.Setups.{path_below}
use Rattle.gn_runs.specs.Runs.{is_absent}
use Rattle.gn_eval.specs.declared.library.Found.TheVariants.{Absent}
use Rattle.gn_unit.specs.Found.{content_view}
use Rattle.gn_unit.specs.Configuration.{found_below, found_in}
use Rattle.gn_unit.proofs.Configurations.{below_runs, nowhere_runs, still, same_runs}
use Rattle.gn_unit.proofs.found.absent_content.Goals as goal

pub returns-in-Some-clause-evaluates : goal.returns-in-Some-clause-evaluates
returns-in-Some-clause-evaluates g c =
    let secondary = c.args.base.now.secondary in
    let env = c.args.env.now in
    let out = c.args.out.now in
    same_runs content_view (g.L.Library.state c.args.library.now) (g.L.Library.state c.content_below.new.library) c.content_below.result c.content_below.new.env c.content_below.new.out (λ a. found_in secondary a is_absent env out)
    (λ a. found_below (path_below c.in-Some.tree.now c.args.path.now) a env out)
    (λ a. below_runs secondary c.in-Some.tree.now c.args.path.now a env out c.in-Some.ensures c.requires)
    c.content_below.ensures.evaluates

pub returns-in-None-clause-evaluates : goal.returns-in-None-clause-evaluates
returns-in-None-clause-evaluates g c =
    let secondary = c.args.base.now.secondary in
    let env = c.args.env.now in
    let out = c.args.out.now in
    still content_view (g.L.Library.state c.args.library.now) Absent env out (λ a. found_in secondary a is_absent env out) (λ a. nowhere_runs secondary a env out c.in-None.ensures)
