use Rattle.std.proofs.Common.{ap, FitsSigned, w64, rules}
use Rattle.std.proofs.lemmas.Int.{to_z-of_z}
use Rattle.gn_values.specs.View.{val_of}
use Rattle.gn_values.proofs.Meanings.{element_assigned-list, element_assigned-scope}
use Rattle.gn_values.proofs.value.Value.assign_element.Goals as goal

pub returns-in-Int-clause-ok : goal.returns-in-Int-clause-ok
returns-in-Int-clause-ok c =
    let fits : FitsSigned w64 c.in-Int.index = search rules in
    rw (ap val_of c.in-List.is, ap val_of c.in-Int.is, element_assigned-list c.in-List.items c.in-Int.index c.args.op (val_of c.args.value), ← to_z-of_z w64 c.in-Int.index fits) c.assign_item.ensures.ok

pub returns-in-Int-clause-refused : goal.returns-in-Int-clause-refused
returns-in-Int-clause-refused c =
    let fits : FitsSigned w64 c.in-Int.index = search rules in
    rw (ap val_of c.in-List.is, ap val_of c.in-Int.is, element_assigned-list c.in-List.items c.in-Int.index c.args.op (val_of c.args.value), ← to_z-of_z w64 c.in-Int.index fits) c.assign_item.ensures.refused

pub returns-in-Str-clause-ok : goal.returns-in-Str-clause-ok
returns-in-Str-clause-ok c =
    rw (ap val_of c.in-Scope.is, ap val_of c.in-Str.is, element_assigned-scope c.in-Scope.entries c.in-Str.name c.args.op (val_of c.args.value)) c.assign_entry.ensures.ok

pub returns-in-Str-clause-refused : goal.returns-in-Str-clause-refused
returns-in-Str-clause-refused c =
    rw (ap val_of c.in-Scope.is, ap val_of c.in-Str.is, element_assigned-scope c.in-Scope.entries c.in-Str.name c.args.op (val_of c.args.value)) c.assign_entry.ensures.refused
