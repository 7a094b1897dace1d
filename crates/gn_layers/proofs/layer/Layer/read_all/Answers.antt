use Rattle.std.proofs.Common.{◌≡◌, ℕ, List, map, ap, ◌∙◌, rules}
use Rattle.gn_values.specs.Tables.{Table}
use Rattle.gn_environment.specs.Layers.{VariableState}
use Rattle.gn_environment.specs.Chains.{all_read}
use Rattle.gn_layers.specs.declared.variable.Variable.{Variable}
use Rattle.gn_layers.proofs.Tables.{layer_with}
use Rattle.gn_layers.proofs.ManyReads.{rewritten, read, all_seen}
use Rattle.gn_layers.proofs.layer.Layer.read_all.Goals as goal

pub returns : goal.returns
returns c =
    let a = c.self.inside in
    let es = a.variables.entries in
    let kept : c.retain.new.self.entries ≡ map (λ (e : List ℕ × Variable). (e.0, read e.1)) es
    = rewritten _ (λ _ v. read v) _ (λ k v b w f t. search rules) es c.retain.new.self.entries c.retain.ensures.filtered in
    ap (layer_with a.templates.entries a.defaults.entries a.checked a.declares) kept
    ∙ ap (λ (vs : Table VariableState). record (layer_with a.templates.entries a.defaults.entries a.checked a.declares es) { variables = vs }) (all_seen es)
    ∙ ap all_read c.self.view_is
