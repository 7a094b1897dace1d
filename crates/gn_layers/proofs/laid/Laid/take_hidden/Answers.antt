use Rattle.std.proofs.Common.{◌≡◌, ℕ, List, not, filter, ap, ◌∙◌, rules}
use Rattle.std.proofs.lemmas.Map.Made.{filter_same_pairs}
use Rattle.gn_values.specs.Val.{Val}
use Rattle.gn_values.specs.declared.value.Value.{Value}
use Rattle.gn_definitions.specs.Imported.{ScopeState}
use Rattle.gn_layers.specs.View.{value_pairs}
use Rattle.gn_layers.proofs.Gathered.{values_passing}
use Rattle.gn_layers.proofs.laid.Laid.take_hidden.Goals as goal

pub returns : goal.returns
returns g c =
    let a = c.self.inside in
    let hidden = g.H.Hides.hidden c.args.by.now in
    let kept : c.retain.new.self.entries ≡ filter (λ (e : List ℕ × Value). not (hidden e.0)) a.variables.entries
    = filter_same_pairs _ (λ (e : List ℕ × Value). not (hidden e.0)) _ (λ k v b w f t. search rules) a.variables.entries c.retain.new.self.entries c.retain.ensures.filtered in
    let values = ap value_pairs kept ∙ values_passing (λ n. not (hidden n)) a.variables.entries in
    (λ i. record { variables = values i; templates = a.templates.entries; defaults = a.defaults.entries })
    ∙ ap (λ (s : ScopeState). record s { variables = filter (λ (e : List ℕ × Val). not (hidden e.0)) s.variables }) c.self.view_is
