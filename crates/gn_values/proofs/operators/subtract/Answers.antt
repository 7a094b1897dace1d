use Rattle.std.proofs.Common.{◌≡◌, ◌∙◌, sym, ap, Ok, Err}
use Rattle.gn_values.specs.Val.{vlist, vals_of}
use Rattle.gn_values.specs.Operators.{difference_of}
use Rattle.gn_values.specs.View.{val_of}
use Rattle.gn_values.specs.declared.error.ValueError.TheVariants.{NotInList}
use Rattle.gn_values.proofs.Meanings.{difference_of-found, difference_of-lacking}
use Rattle.gn_values.proofs.operators.subtract.Goals as goal

pub returns-in-Ok-clause-ok : goal.returns-in-Ok-clause-ok
returns-in-Ok-clause-ok c =
    (λ i. difference_of (val_of (c.in-List-List.is-0 i)) (val_of (c.in-List-List.is-1 i))) ∙ difference_of-found _ _ c.in-Ok.ensures.found
    ∙ ap (λ l. Ok (vlist (vals_of l))) (sym c.in-Ok.ensures.ok)

pub returns-in-Err-clause-refused : goal.returns-in-Err-clause-refused
returns-in-Err-clause-refused c = λ h.
    let which : c.in-Err.error ≡ NotInList = c.in-Err.ensures.only h in
    (λ i. difference_of (val_of (c.in-List-List.is-0 i)) (val_of (c.in-List-List.is-1 i)))
    ∙ difference_of-lacking _ _ (c.in-Err.ensures.not_in_list (ap Err which)) ∙ ap Err (sym which)
