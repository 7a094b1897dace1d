use Rattle.std.proofs.Common.{◌≡◌, sym, ap, ◌∙◌, Ok, Err, inl, inr, true}
use Rattle.std.proofs.lemmas.Result.{err_from_is_err_and}
use Rattle.gn_paths.specs.Normal.{is_path_text}
use Rattle.gn_paths.proofs.ResolveLemmas.{buffer_led-path, resolved-bad, resolved-system, resolved_not_bad, led_none, led_found}
use Rattle.gn_paths.proofs.LedLemmas.{absolute-normal, led_normal}
use Rattle.gn_paths.proofs.CleanLemmas.{path_text_is, path_text_empty, fault_told, fault_bad}
use Rattle.gn_paths.proofs.resolving.resolve.Goals as goal

pub returns-then-is_empty-clause-err : goal.returns-then-is_empty-clause-err
returns-then-is_empty-clause-err c = inr (resolved-bad _ _ (path_text_empty c.args.text.now c.if-is_empty.ensures))

pub returns-in_err-path-clause-err : goal.returns-in_err-path-clause-err
returns-in_err-path-clause-err c =
    let p = err_from_is_err_and c.from_residual.result c.from_residual.ensures.1 in
    rw (p.1, p.2)
    (fault_told c.args.current.now c.args.text.now _ _ (path_text_is c.args.text.now c.if-is_empty.ensures) (λ _ q. absurd cc) c.in_err-path.ensures)

pub returns-in_err-path-clause-bad : goal.returns-in_err-path-clause-bad
returns-in_err-path-clause-bad c =
    let p = err_from_is_err_and c.from_residual.result c.from_residual.ensures.1 in
    rw (p.1, p.2)
    (λ h. ap Err (fault_bad c.args.current.now c.args.text.now _ _ (path_text_is c.args.text.now c.if-is_empty.ensures) c.in_err-path.ensures h))

pub from_normal-requires : goal.from_normal-requires
from_normal-requires c =
    rw c.in_ok-path.ensures.1
    (record { text = path_text_is c.args.text.now c.if-is_empty.ensures ∙ c.in_ok-path.ensures.0; shape = inl (sym c.if-is_system.ensures) })

pub returns-then-is_system-clause-ok : goal.returns-then-is_system-clause-ok
returns-then-is_system-clause-ok c =
    let e = resolved-system c.args.current.now c.args.text.now (path_text_is c.args.text.now c.if-is_empty.ensures ∙ c.in_ok-path.ensures.0) (sym c.if-is_system.ensures) in
    e ∙ ap Ok (sym (c.from_normal.ensures ∙ c.in_ok-path.ensures.1))

pub returns-then-is_system-clause-bad : goal.returns-then-is_system-clause-bad
returns-then-is_system-clause-bad c =
    λ h. absurd (resolved_not_bad _ _ (path_text_is c.args.text.now c.if-is_empty.ensures ∙ c.in_ok-path.ensures.0) h)

pub returns-in_err-path-2-clause-err : goal.returns-in_err-path-2-clause-err
returns-in_err-path-2-clause-err c =
    let p = err_from_is_err_and c.from_residual-in_err-path-2.result c.from_residual-in_err-path-2.ensures.1 in
    rw (p.1, p.2)
    (fault_told c.args.current.now c.args.text.now _ _ (path_text_is c.args.text.now c.if-is_empty.ensures) (λ t q. led_none c.args.current.now c.args.text.now c.start_of.result.now c.start_of.ensures.value t (sym c.if-is_system.ensures) (absolute-normal _ c.start_of.ensures.normal) q) c.in_err-path-2.ensures)

pub returns-in_err-path-2-clause-bad : goal.returns-in_err-path-2-clause-bad
returns-in_err-path-2-clause-bad c =
    let p = err_from_is_err_and c.from_residual-in_err-path-2.result c.from_residual-in_err-path-2.ensures.1 in
    rw (p.1, p.2)
    (λ h. ap Err (fault_bad c.args.current.now c.args.text.now _ _ (path_text_is c.args.text.now c.if-is_empty.ensures) c.in_err-path-2.ensures h))

pub from_normal-requires-2 : goal.from_normal-requires-2
from_normal-requires-2 c =
    let named : is_path_text c.args.text.now ≡ true = path_text_is c.args.text.now c.if-is_empty.ensures ∙ c.in_ok-path-2.ensures.0 in
    let found = sym (buffer_led-path c.start_of.result.now c.args.text.now (absolute-normal _ c.start_of.ensures.normal)) ∙ c.in_ok-path-2.ensures.1 in
    rw c.from_vec.ensures
    (led_normal c.start_of.result.now c.args.text.now _ c.start_of.ensures.normal named found)

pub returns-clause-ok : goal.returns-clause-ok
returns-clause-ok c =
    let named : is_path_text c.args.text.now ≡ true = path_text_is c.args.text.now c.if-is_empty.ensures ∙ c.in_ok-path-2.ensures.0 in
    led_found c.args.current.now c.args.text.now c.start_of.result.now _ c.start_of.ensures.value named (sym c.if-is_system.ensures) (absolute-normal _ c.start_of.ensures.normal) c.in_ok-path-2.ensures.1 ∙ ap Ok (sym (c.from_normal-2.ensures ∙ c.from_vec.ensures))

pub returns-clause-bad : goal.returns-clause-bad
returns-clause-bad c =
    λ h. absurd (resolved_not_bad _ _ (path_text_is c.args.text.now c.if-is_empty.ensures ∙ c.in_ok-path-2.ensures.0) h)
