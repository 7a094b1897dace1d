use Rattle.std.proofs.Common.{ℕ, List, ◌+◌, length, sym, ◌∙◌, subst, refl}
use Rattle.gn_tree.specs.declared.piece.Piece.{Piece}
use Rattle.gn_tokens.specs.Text.{expansion_item}
use Rattle.gn_syntax.specs.Literals.{IsWritten}
use Rattle.gn_syntax.proofs.Literals.{variable_written}
use Rattle.gn_syntax.proofs.expansion.named.Goals as goal

pub returns-clause-ok : goal.returns-clause-ok
returns-clause-ok c =
    subst (λ (p : Piece). IsWritten c.args.position (expansion_item c.args.bytes.now) p (length c.word-name.result.now + 1)) (sym c.in_ok-text.ensures)
    (variable_written c.args.position c.args.bytes.now c.word-name.result.now (length c.word-name.result.now + 1) c.requires.no_digit
    (sym c.is_next.ensures ∙ c.if-is_next.false) c.requires.right c.word-name.ensures.value refl)
