use Rattle.std.proofs.Common.{ℕ, List, subst}
use Rattle.std.proofs.lemmas.Result.{err_from_is_err_and}
use Rattle.std.specs.declared.alloc.Global.{Global}
use Rattle.std.specs.declared.vec.Vec.{Vec}
use Rattle.gn_values.specs.View.{val_of}
use Rattle.gn_calls_text.specs.Views.{Settles}
use Rattle.gn_calls_path.specs.Each.{texts_answer}
use Rattle.gn_calls_path.proofs.EachLemmas.{read_fails, read_goes}
use Rattle.gn_calls_path.proofs.making.make_list.Goals as goal

pub returns-in_err-made : goal.returns-in_err-made
returns-in_err-made c =
    let p = err_from_is_err_and c.from_residual.result c.from_residual.ensures.1 in
    read_fails val_of (λ (v : Vec (List ℕ) Global). v.items) 0 c.from_residual.result _ _ _ texts_answer p.1 p.2 c.in_err-made.ensures

pub returns : goal.returns
returns c =
    read_goes val_of 0 c.strings.result _ _ texts_answer c.in_ok-made.ensures (subst (λ ts. Settles val_of c.strings.result (texts_answer ts)) c.as_slice.ensures.value c.strings.ensures)
