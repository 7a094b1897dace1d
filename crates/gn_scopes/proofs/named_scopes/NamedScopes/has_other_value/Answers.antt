use Rattle.std.proofs.Common.{Some, not, ap, ◌∙◌}
use Rattle.gn_values.specs.View.{val_of}
use Rattle.gn_value_model.proofs.Equality.{test_from_answer}
use Rattle.gn_scopes.proofs.OtherValues.{other_by_value}
use Rattle.gn_scopes.proofs.named_scopes.NamedScopes.has_other_value.Goals as goal

pub returns-in-Some : goal.returns-in-Some
returns-in-Some c =
    ap not (test_from_answer _ _ c.same.result c.same.ensures) ∙ other_by_value c.args.self.now.inner c.args.entry.now.name (val_of c.args.entry.now.value) (Some (val_of c.in-Some.value.now)) c.in-Some.ensures
