use Rattle.std.proofs.Common.{◌≡◌, ℕ, List, map, ap, ◌∙◌, rules}
use Rattle.gn_values.specs.Tables.{Table}
use Rattle.gn_environment.specs.Layers.{VariableState}
use Rattle.gn_layers.specs.Named.{all_read_but_named}
use Rattle.gn_layers.specs.declared.variable.Variable.{Variable}
use Rattle.gn_layers.proofs.Tables.{layer_with}
use Rattle.gn_layers.proofs.ManyReads.{rewritten, read_but_named, but_seen}
use Rattle.gn_layers.proofs.layer.Layer.read_all_but.Goals as goal

pub returns : goal.returns
returns c =
    let a = c.self.inside in
    let es = a.variables.entries in
    let names = c.args.names.now in
    let except = c.args.except.now in
    let kept : c.retain.new.self.entries ≡ map (λ (e : List ℕ × Variable). (e.0, read_but_named names except e.0 e.1)) es
    = rewritten _ (read_but_named names except) _ (λ k v b w f t. search rules) es c.retain.new.self.entries c.retain.ensures.filtered in
    ap (layer_with a.templates.entries a.defaults.entries a.checked a.declares) kept
    ∙ ap (λ (vs : Table VariableState). record (layer_with a.templates.entries a.defaults.entries a.checked a.declares es) { variables = vs }) (but_seen names except es)
    ∙ ap (all_read_but_named names except) c.self.view_is
