use Rattle.std.proofs.Common.{sym}
use Rattle.gn_values.specs.View.{val_of}
use Rattle.gn_values.proofs.Assigned.{combined_shallow, combined_deep}
use Rattle.gn_values.proofs.value.Value.combine_element.Goals as goal

pub returns-then-grows_too_deep-clause-refused : goal.returns-then-grows_too_deep-clause-refused
returns-then-grows_too_deep-clause-refused c = λ _.
    combined_deep c.args.op (val_of c.args.self.now) (val_of c.args.right) (sym c.if-grows_too_deep.ensures)

pub returns-in-Ok-clause-ok : goal.returns-in-Ok-clause-ok
returns-in-Ok-clause-ok c =
    combined_shallow c.args.op (val_of c.args.self.now) (val_of c.args.right) _ c.requires (sym c.if-grows_too_deep.ensures) c.in-Ok.ensures.ok
