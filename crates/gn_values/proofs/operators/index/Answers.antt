use Rattle.std.proofs.Common.{◌≡◌, ◌∙◌, sym, ap, FitsSigned, w64, rules}
use Rattle.std.proofs.lemmas.Int.{to_z-of_z}
use Rattle.gn_values.specs.Operators.{element_of, item_at}
use Rattle.gn_values.specs.Val.{vscope, vstr, binds_of}
use Rattle.gn_values.specs.View.{val_of}
use Rattle.gn_values.proofs.Meanings.{element_of-list}
use Rattle.gn_values.proofs.operators.index.Goals as goal

pub returns-in-List-Int : goal.returns-in-List-Int
returns-in-List-Int c =
    let meaning : element_of (val_of c.args.base.now) (val_of c.args.at.now) ≡ item_at c.in-List-Int.items c.in-List-Int.n =
    (λ i. element_of (val_of (c.in-List-Int.is-0 i)) (val_of (c.in-List-Int.is-1 i))) ∙ element_of-list _ _ in
    let fits : FitsSigned w64 c.in-List-Int.n = search rules in
    rw meaning (rw (← to_z-of_z w64 c.in-List-Int.n fits) c.at.ensures)

pub returns-in-Some : goal.returns-in-Some
returns-in-Some c =
    (λ i. element_of (val_of (c.in-Scope-Str.is-0 i)) (val_of (c.in-Scope-Str.is-1 i)))
    ∙ ap (λ n. element_of (vscope (binds_of c.in-Scope-Str.entries)) (vstr n)) (sym c.as_bytes.ensures) ∙ sym c.in-Some.ensures.element

pub returns-in-None : goal.returns-in-None
returns-in-None c =
    (λ i. element_of (val_of (c.in-Scope-Str.is-0 i)) (val_of (c.in-Scope-Str.is-1 i)))
    ∙ ap (λ n. element_of (vscope (binds_of c.in-Scope-Str.entries)) (vstr n)) (sym c.as_bytes.ensures) ∙ sym c.in-None.ensures.element
