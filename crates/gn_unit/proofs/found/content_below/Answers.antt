use Rattle.std.proofs.Common.{ℕ, List, Ok, Err, sym, ap, ◌∙◌}
use Rattle.gn_environment.specs.Environment.{Environment}
use Rattle.gn_meaning.specs.Steps.{ends}
use Rattle.gn_executions.specs.Setups.{path_below}
use Rattle.gn_unit.specs.Found.{content_view}
use Rattle.gn_unit.specs.Configuration.{placed, found_below}
use Rattle.gn_unit.proofs.Configurations.{told_still, told_fails, same_runs}
use Rattle.gn_unit.proofs.found.content_below.Goals as goal

pub returns-in-Ok-clause-evaluates : goal.returns-in-Ok-clause-evaluates
returns-in-Ok-clause-evaluates g c =
    let before = g.L.Library.state c.args.library.now in
    let later = g.L.Library.state c.content_at.new.library in
    let env = c.args.env.now in
    let path = c.in_ok-path.path in
    let out = c.args.out.now in
    let after = c.content_at.new.out in
    let found = c.in-Ok.found in
    same_runs content_view before later (Ok found) c.place.new.env after (λ a. found_below (path_below c.args.tree.now c.args.own.now) a env out) (λ a. found_below path a env out)
    (λ a. ap (λ (p : List ℕ). found_below p a env out) (sym c.in_ok-path.ensures))
    (told_still before later path env out after (λ a content env1 out1. ends content (placed path content env1) out1) found (c.in-Ok.ensures.evaluates env) c.place.new.env
    (λ a. ap (λ (e : Environment). ends (content_view found) e after) (sym (c.place.ensures ∙ ap (λ (p : List ℕ). placed p (content_view found) env) (c.in_ok-file.ensures ∙ c.as_text.ensures.value)))))

pub returns-clause-evaluates : goal.returns-clause-evaluates
returns-clause-evaluates g c =
    let before = g.L.Library.state c.args.library.now in
    let later = g.L.Library.state c.content_at.new.library in
    let env = c.args.env.now in
    let path = c.in_ok-path.path in
    let out = c.args.out.now in
    let after = c.content_at.new.out in
    same_runs content_view before later (Err c.in-Err.end) env after (λ a. found_below (path_below c.args.tree.now c.args.own.now) a env out) (λ a. found_below path a env out)
    (λ a. ap (λ (p : List ℕ). found_below p a env out) (sym c.in_ok-path.ensures))
    (told_fails before later path env out after (λ a content env1 out1. ends content (placed path content env1) out1) c.in-Err.end env (c.in-Err.ensures.evaluates env))
