use Rattle.std.proofs.Common.{◌++◌, map, option_map, refl, ap, ◌∙◌}
use Rattle.gn_environment.specs.Layers.{ChainState}
use Rattle.gn_environment.specs.Chains.{shown_or}
use Rattle.gn_environment.specs.Environment.{value_of, after_read, fixed_value, kept_by}
use Rattle.gn_environment.proofs.Outwards.{value_of-after_read}
use Rattle.gn_env.specs.contracts.env.Env.{the_view}
use Rattle.gn_env.proofs.env.Env.look.Goals as goal

pub returns : goal.returns
unfolding value_of after_read
returns c =
    let a = c.self.inside in
    let name = c.as_bytes-name.result.now in
    let same = c.as_bytes-name.ensures in
    let marked = ap (λ (chain : ChainState). the_view (record a { scopes = chain })) c.read-found.follows.holds-at-none ∙ ap (after_read name) c.self.view_is ∙ ap (λ n. after_read n c.args.self.now) same in
    let value = c.shown_or_behind.ensures ∙ (λ i. shown_or (c.read-found.ensures.value i) (fixed_value name (kept_by (option_map (λ d. d.value) a.body) ++ map (λ f. f.value) (c.deref.ensures.value i)))) ∙ value_of-after_read name (the_view a) ∙ ap (value_of name) c.self.view_is ∙ ap (λ n. value_of n c.args.self.now) same in
    ((refl, (λ _. tt), marked), record { read = tt; value = value })
