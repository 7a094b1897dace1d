use Rattle.std.proofs.Common.{Some, option_map, sym, ap, ◌∙◌}
use Rattle.std.proofs.lemmas.Map.Made.{lookup-map_values}
use Rattle.gn_values.specs.Tables.{at_name}
use Rattle.gn_definitions.proofs.import_value.MadeBy.get.Goals as goal

pub returns-in-Some : goal.returns-in-Some
returns-in-Some c =
    ap Some c.deref.ensures ∙ ap (option_map (λ d. d.value)) c.in-Some.ensures.value ∙ sym (lookup-map_values (λ d. d.value) _ c.self.inside.executions.entries) ∙ ap (at_name c.args.execution.now) c.self.view_is

pub returns-in-None : goal.returns-in-None
returns-in-None c =
    ap (option_map (λ d. d.value)) c.in-None.ensures.value ∙ sym (lookup-map_values (λ d. d.value) _ c.self.inside.executions.entries) ∙ ap (at_name c.args.execution.now) c.self.view_is
