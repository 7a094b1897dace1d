use Rattle.std.proofs.Common.{◌≡◌, true, false, refl, sym, ◌∙◌, arith}
use Rattle.gn_values.specs.View.{entry_of}
use Rattle.gn_basics.proofs.Lists.{equal_more, unequal_at}
use Rattle.gn_layers.proofs.layer_merge.same_bindings.Goals as goal

pub loop-i-preserved : goal.loop-i-preserved
loop-i-preserved c =
    equal_more entry_of _ _ _ _ _ (omega arith) (omega arith) c.loop-i.invariant c.index-lefts-i.is c.index-rights-i.is (c.if-not-same.ensures.0 refl)

pub returns-then-not-same : goal.returns-then-not-same
returns-then-not-same c =
    (λ h. absurd (let f : false ≡ true = h in cc), λ e. c.if-not-same.ensures.1 (unequal_at entry_of _ _ _ _ _ (omega arith) (omega arith) c.index-lefts-i.is c.index-rights-i.is (c.as_slice-lefts.ensures.value ∙ e ∙ sym c.as_slice-rights.ensures.value)))
