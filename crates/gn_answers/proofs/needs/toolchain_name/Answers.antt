use Rattle.std.proofs.Common.{ℕ, List, ◌≡◌, IfOk, subst}
use Rattle.gn_answers.proofs.NeedsLemmas.{printed_at_home}
use Rattle.gn_answers.proofs.needs.toolchain_name.Goals as goal

pub returns : goal.returns
returns c = subst (λ (text : List ℕ). IfOk c.print.result (λ name. name ≡ text)) (printed_at_home c.args.item.now.label) c.print.ensures
