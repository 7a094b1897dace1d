use Rattle.std.proofs.Common.{ap, ◌∙◌}
use Rattle.std.proofs.lemmas.Result.{IfOk-weaker}
use Rattle.gn_layers.specs.Kept.{public_scope}
use Rattle.gn_layers.specs.View.{value_pairs}
use Rattle.gn_layers.proofs.Gathered.{values_public}
use Rattle.gn_layers.proofs.laid.Laid.into_public.Goals as goal

pub returns : goal.returns
returns c =
    let a = c.laid.inside in
    let values = ap value_pairs c.keep_public.ensures ∙ values_public a.variables.entries in
    IfOk-weaker c.into_kept.result _ _ (λ scope is. is ∙ (λ i. record { variables = values i; templates = c.keep_public-2.ensures i; defaults = c.keep_public-3.ensures i }) ∙ ap public_scope c.laid.view_is) c.into_kept.ensures
