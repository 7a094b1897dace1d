use Rattle.std.proofs.Common.{◌≡◌, None, arith}
use Rattle.std.proofs.lemmas.Grind.{common_steps}
use Rattle.gn_values.specs.Tables.{at_name}
use Rattle.gn_definitions.proofs.TakenOut.{one_more_added}
use Rattle.gn_definitions.proofs.import_value.MadeBy.add_new.Goals as goal

pub returns-clause-back : goal.returns-clause-back
returns-clause-back c =
    let new : at_name c.args.execution.now c.args.self.now ≡ None = grind (arith, common_steps) in
    rw (c.push_reserved.ensures.items, c.in_ok-reserve.ensures.items, c.in_ok-name.ensures, c.in_ok-set_copies.ensures.ok) (one_more_added c.args.added.now.items c.args.execution.now c.args.definitions.now.value c.args.self.now new)
