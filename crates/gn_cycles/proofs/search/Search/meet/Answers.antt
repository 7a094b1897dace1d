use Rattle.std.proofs.Common.{◌++◌}
use Rattle.std.proofs.lemmas.Result.{on_ok_weaker}
use Rattle.gn_dependencies.proofs.Joins.{then_two}
use Rattle.gn_cycles.proofs.search.Search.meet.Goals as goal

pub returns-clause-labels : goal.returns-clause-labels
returns-clause-labels c =
    let out = c.args.self.now.labels in
    let ls = c.args.labels in
    let one = c.add_all.new.self in
    let two = c.add_all-2.new.self in
    on_ok_weaker c.fill.result
    (λ _. then_two out two c.add_all-3.new.self (ls.0.now ++ ls.1.now) ls.2.now (then_two out one two ls.0.now ls.1.now c.in_ok-add_all.ensures c.in_ok-add_all-2.ensures) c.in_ok-add_all-3.ensures) c.fill.ensures
