use Rattle.std.proofs.Common.{ap, ◌∙◌, sym, Ok}
use Rattle.std.proofs.lemmas.Result.{err_from_is_err_and}
use Rattle.gn_calls_path.specs.Calls.{info_if}
use Rattle.gn_calls_path.proofs.EachLemmas.{found_fails}
use Rattle.gn_calls_path.proofs.making.info_text.Goals as goal

pub returns-in_err-path : goal.returns-in_err-path
returns-in_err-path c =
    let p = err_from_is_err_and c.from_residual.result c.from_residual.ensures.1 in
    found_fails _ (λ p. p) 0 c.from_residual.result _ _ _ _ p.1 p.2 c.in_err-path.ensures (λ code e. ap (info_if c.args.at.now c.args.info c.args.text.now) e)

pub returns : goal.returns
returns c = ap (info_if c.args.at.now c.args.info c.args.text.now) c.in_ok-path.ensures ∙ ap Ok (sym c.in_ok-path_info.ensures)
