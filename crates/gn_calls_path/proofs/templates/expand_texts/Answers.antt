use Rattle.std.proofs.Common.{ℕ, List, subst}
use Rattle.std.proofs.lemmas.Result.{err_from_is_err_and}
use Rattle.std.proofs.Common.{map}
use Rattle.std.specs.declared.alloc.Global.{Global}
use Rattle.std.specs.declared.vec.Vec.{Vec}
use Rattle.gn_substs.specs.declared.subst.Subst.{Subst}
use Rattle.gn_values.specs.View.{val_of}
use Rattle.gn_calls_text.specs.Views.{Settles, bytes_in}
use Rattle.gn_calls_path.specs.Each.{texts_answer}
use Rattle.gn_calls_path.specs.Found.{each, read_at}
use Rattle.gn_calls_path.specs.Templates.{template_at, expanded_all}
use Rattle.gn_calls_path.proofs.EachLemmas.{read_fails, read_goes}
use Rattle.gn_calls_path.proofs.templates.expand_texts.Goals as goal

pub returns-in_err-sources : goal.returns-in_err-sources
returns-in_err-sources c =
    let p = err_from_is_err_and c.from_residual.result c.from_residual.ensures.1 in
    read_fails val_of (λ (v : Vec (List ℕ) Global). v.items) 0 c.from_residual.result _ _ _ (λ ps. read_at 1 (each template_at (map bytes_in c.args.templates.now)) (λ ts. texts_answer (expanded_all c.args.at.now ps ts))) p.1 p.2 c.in_err-sources.ensures

pub returns-in_err-templates : goal.returns-in_err-templates
returns-in_err-templates c =
    let p = err_from_is_err_and c.from_residual-in_err-templates.result c.from_residual-in_err-templates.ensures.1 in
    read_goes val_of 0 c.from_residual-in_err-templates.result _ _ (λ ps. read_at 1 (each template_at (map bytes_in c.args.templates.now)) (λ ts. texts_answer (expanded_all c.args.at.now ps ts))) c.in_ok-sources.ensures
    (read_fails val_of (λ (v : Vec Subst Global). v.items) 1 c.from_residual-in_err-templates.result _ _ _ (λ ts. texts_answer (expanded_all c.args.at.now c.in_ok-sources.sources.items ts)) p.1 p.2 c.in_err-templates.ensures)

pub returns : goal.returns
returns c =
    read_goes val_of 0 c.expand_within.result _ _ (λ ps. read_at 1 (each template_at (map bytes_in c.args.templates.now)) (λ ts. texts_answer (expanded_all c.args.at.now ps ts))) c.in_ok-sources.ensures
    (read_goes val_of 1 c.expand_within.result _ _ (λ ts. texts_answer (expanded_all c.args.at.now c.in_ok-sources.sources.items ts)) c.in_ok-templates.ensures
    (subst (λ ps. Settles val_of c.expand_within.result (texts_answer (expanded_all c.args.at.now ps c.in_ok-templates.templates.items))) c.as_slice.ensures.value
    (subst (λ ts. Settles val_of c.expand_within.result (texts_answer (expanded_all c.args.at.now c.as_slice.result.now ts))) c.as_slice-2.ensures.value c.expand_within.ensures)))
