use Rattle.std.proofs.Common.{◌≡◌, [], map, ap, ◌∙◌, subst}
use Rattle.std.specs.Map.{keys_of}
use Rattle.std.specs.List.Sorted.{IsStrictlySortedBy}
use Rattle.gn_values.specs.Val.{Val, IsSortedByName}
use Rattle.gn_values.specs.View.{entry_of}
use Rattle.gn_values.specs.Tables.{Table, with_names}
use Rattle.gn_definitions.specs.declared.kept.DefinitionName.{DefinitionName}
use Rattle.gn_definitions.specs.Imported.{ScopeState}
use Rattle.gn_environment.proofs.Names.{order}
use Rattle.gn_layers.specs.View.{value_pairs}
use Rattle.gn_layers.proofs.LaidOver.{scope_copied}
use Rattle.gn_layers.proofs.laid.Laid.of_kept.Goals as goal

pub returns : goal.returns
returns c =
    let a = c.laid.inside in
    let new = c.laid.view_is ∙ c.new-laid.ensures in
    let no_values : value_pairs a.variables.entries ≡ [] = ap (λ (s : ScopeState). s.variables) new in
    let no_templates : a.templates.entries ≡ [] = ap (λ (s : ScopeState). s.templates) new in
    let no_defaults : a.defaults.entries ≡ [] = ap (λ (s : ScopeState). s.defaults) new in
    let values_are : map entry_of c.as_slice.result.now ≡ c.args.scope.now.variables = c.as_slice.ensures.value ∙ c.variables.ensures in
    scope_copied c.args.scope.now (value_pairs c.lay_entries.new.lower.entries) c.lay_table.new.lower.entries c.lay_table-2.new.lower.entries
    (subst (λ (vs : Table Val). IsSortedByName vs) c.variables.ensures c.as_slice.ensures.sorted)
    (subst (λ (ts : Table DefinitionName). IsStrictlySortedBy order (keys_of ts)) c.templates.ensures c.lay_table.ensures.ordered)
    (subst (λ (ds : Table (Table Val)). IsStrictlySortedBy order (keys_of ds)) c.defaults.ensures c.lay_table-2.ensures.ordered)
    (c.in_ok-lay_entries.ensures ∙ (λ i. with_names (values_are i) (no_values i)))
    (c.in_ok-lay_table.ensures.laid ∙ (λ i. with_names (c.templates.ensures i) (no_templates i)))
    (c.in_ok-lay_table-2.ensures.laid ∙ (λ i. with_names (c.defaults.ensures i) (no_defaults i)))
