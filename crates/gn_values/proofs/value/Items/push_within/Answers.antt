use Rattle.std.proofs.Common.{◌++◌, ◌∷◌, [], rules, sym, true, ◌≡◌, ◌+◌, max, subst, List}
use Rattle.gn_values.specs.Val.{Val, depth_of}
use Rattle.gn_values.specs.Limits.{list_fits, IsList}
use Rattle.gn_values.specs.View.{val_of}
use Rattle.gn_values.proofs.Depths.{keeps_pushed}
use Rattle.gn_value_model.proofs.Within.{list_from_fits}
use Rattle.gn_values.proofs.value.Items.push_within.Goals as goal

pub invariant_of-self-2 : goal.invariant_of-self-2
invariant_of-self-2 c =
    let deeper : c.max-depth.result ≡ max c.self.inside.depth (depth_of (val_of c.args.value) + 1) = search rules in
    let fits : list_fits (c.args.self.now ++ val_of c.args.value ∷ []) ≡ true = search rules in
    keeps_pushed _ _ (val_of c.args.value) _ _ c.self.invariant c.in_ok-push.ensures.ok deeper
    (subst (λ (vs : List Val). IsList (vs ++ val_of c.args.value ∷ [])) (sym c.self.view_is) (list_from_fits _ fits))
