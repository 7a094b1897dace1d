use Rattle.std.proofs.Common.{ℕ, List, ◌+◌, length, sym, ◌∙◌, ap, subst, refl}
use Rattle.gn_tree.specs.declared.piece.Piece.{Piece}
use Rattle.gn_tokens.specs.Bytes.{front_word, past_word}
use Rattle.gn_tokens.specs.Text.{braced_item, index_len, front_index}
use Rattle.gn_syntax.specs.Literals.{IsWritten}
use Rattle.gn_grammar.specs.Pieces.{subscript_of}
use Rattle.gn_syntax.proofs.Literals.{index_closes, index_right, name_written, field_written, element_written}
use Rattle.gn_syntax.proofs.expansion.braced.Goals as goal

pub index-index-requires : goal.index-index-requires
index-index-requires c =
    index_closes c.args.bytes.now c.after_word-rest.result.now c.after_one-inner.result.now c.requires c.after_word-rest.ensures.value
    (sym c.is_next.ensures ∙ c.if-is_next.false) (sym c.is_next-2.ensures ∙ c.if-is_next-2.false) c.after_one-inner.ensures.value

pub item_piece-requires : goal.item_piece-requires
item_piece-requires c =
    index_right c.args.bytes.now c.after_word-rest.result.now c.index-index.result.now c.requires c.after_word-rest.ensures.value
    (sym c.is_next.ensures ∙ c.if-is_next.false) (sym c.is_next-2.ensures ∙ c.if-is_next-2.false)
    (c.index-index.ensures.value ∙ ap (λ (x : List ℕ). front_index (index_len x) x) c.after_one-inner.ensures.value)

pub returns-then-is_next-clause-ok : goal.returns-then-is_next-clause-ok
returns-then-is_next-clause-ok c =
    subst (λ (p : Piece). IsWritten c.args.position (braced_item (front_word c.args.bytes.now) (past_word c.args.bytes.now)) p (length c.word-name.result.now + 3)) (sym c.in_ok-whole.ensures)
    (name_written c.args.position c.args.bytes.now c.word-name.result.now c.after_word-rest.result.now (length c.word-name.result.now + 3) c.word-name.ensures.value c.after_word-rest.ensures.value (sym c.is_next.ensures ∙ c.if-is_next.true) refl)

pub returns-then-is_next-2-clause-ok : goal.returns-then-is_next-2-clause-ok
returns-then-is_next-2-clause-ok c =
    subst (λ (p : Piece). IsWritten c.args.position (braced_item (front_word c.args.bytes.now) (past_word c.args.bytes.now)) p (length c.word-name.result.now + length c.word-field.result.now + 4)) (sym c.in_ok-entry.ensures)
    (field_written c.args.position c.args.bytes.now c.word-name.result.now c.after_word-rest.result.now c.word-field.result.now (length c.word-name.result.now + length c.word-field.result.now + 4) c.word-name.ensures.value c.after_word-rest.ensures.value (sym c.is_next.ensures ∙ c.if-is_next.false) (sym c.is_next-2.ensures ∙ c.if-is_next-2.true)
    (c.word-field.ensures.value ∙ ap front_word c.after_one-inner.ensures.value) refl)

pub returns-clause-ok : goal.returns-clause-ok
returns-clause-ok c =
    subst (λ (p : Piece). IsWritten c.args.position (braced_item (front_word c.args.bytes.now) (past_word c.args.bytes.now)) p (length c.word-name.result.now + length c.index-index.result.now + 5)) (sym c.in_ok-item.ensures)
    (element_written c.args.position c.args.bytes.now c.word-name.result.now c.after_word-rest.result.now c.index-index.result.now (subscript_of c.index-index.result.now) (length c.word-name.result.now + length c.index-index.result.now + 5) c.word-name.ensures.value c.after_word-rest.ensures.value (sym c.is_next.ensures ∙ c.if-is_next.false) (sym c.is_next-2.ensures ∙ c.if-is_next-2.false)
    (c.index-index.ensures.value ∙ ap (λ (x : List ℕ). front_index (index_len x) x) c.after_one-inner.ensures.value) refl refl)
