-- What bytes are read as is the tree that they spell, or their first error, and nothing else is.
use Rattle.std.proofs.Common.{◌≡◌, ℕ, List, Some, None, MatchOption, Result, Ok, Err, sym, ap, subst, inl, inr, ◌⊎◌}
use Rattle.std.specs.Prelude.{⊤}
use Rattle.gn_tree.specs.Tree.{ExprTree, BlockTree}
use Rattle.gn_grammar.specs.declared.fault.SyntaxFault.{SyntaxFault}
use Rattle.gn_grammar.specs.Lexemes.{lexemes, last_of}
use Rattle.gn_grammar.specs.Machine.{Bad, verdict}
use Rattle.gn_grammar.specs.Start.{Start, File, Expression, wanted_of}
use Rattle.gn_grammar.specs.Errors.{IsErrorOf, IsTree, IsExpr}
use Rattle.gn_grammar.specs.Laws.{OneAnswer, IsAsJudged, IsJudgedRightly}
use Rattle.gn_grammar.proofs.OneAnswer.{one_answer, one_expr_answer}
use Rattle.gn_syntax.specs.declared.error.SyntaxError.{SyntaxError}
use Rattle.gn_syntax.specs.declared.error.Stop.{Stop}
use Rattle.gn_syntax.specs.declared.error.Stop.TheVariants.{Fault, Memory}
use Rattle.gn_syntax.specs.Parsing.{Fails, fault_at}
use Rattle.gn_syntax.specs.Reading.{read_as, reading, expr_reading, IsReading, IsExprReading, fault_of, IsAnswer}

module _ (Tree : Type 0) (Is : Tree → Type 0) (First : SyntaxFault → Type 0) (one : OneAnswer Tree Is First) where
  pub tree_read : (tree : Tree) → Is tree → (x : ((t : Tree) × Is t) ⊎ ((e : SyntaxFault) × First e)) → read_as Tree Is First x ≡ Ok tree
  tree_read tree h (inl spelled) = ap Ok (one.one_tree spelled.0 tree spelled.1 h)
  tree_read tree h (inr refused) = absurd (one.not_both tree refused.0 h refused.1)

  pub fault_read : (error : SyntaxFault) → First error → (x : ((t : Tree) × Is t) ⊎ ((e : SyntaxFault) × First e)) → read_as Tree Is First x ≡ Err error
  fault_read error h (inl spelled) = absurd (one.not_both spelled.0 error spelled.1 h)
  fault_read error h (inr refused) = ap Err (one.one_error refused.0 error refused.1 h)

file_read : (bytes : List ℕ) (x : ((t : BlockTree) × IsTree bytes t) ⊎ ((e : SyntaxFault) × IsErrorOf File e bytes)) →
    IsReading bytes (read_as BlockTree (IsTree bytes) (λ e. IsErrorOf File e bytes) x)
file_read bytes (inl spelled) = spelled.1
file_read bytes (inr refused) = refused.1

expr_read : (bytes : List ℕ) (x : ((t : ExprTree) × IsExpr bytes t) ⊎ ((e : SyntaxFault) × IsErrorOf Expression e bytes)) →
    IsExprReading bytes (read_as ExprTree (IsExpr bytes) (λ e. IsErrorOf Expression e bytes) x)
expr_read bytes (inl spelled) = spelled.1
expr_read bytes (inr refused) = refused.1

-- What bytes are read as is right.
pub reading_is_right : (bytes : List ℕ) → IsReading bytes (reading bytes)
unfolding reading
reading_is_right bytes = file_read bytes (one_answer bytes).some_answer

pub expr_reading_is_right : (bytes : List ℕ) → IsExprReading bytes (expr_reading bytes)
unfolding expr_reading
expr_reading_is_right bytes = expr_read bytes (one_expr_answer bytes).some_answer

-- Nothing else is right.
pub reading_is_only : (bytes : List ℕ) (r : Result BlockTree SyntaxFault) → IsReading bytes r → reading bytes ≡ r
unfolding reading
reading_is_only bytes (Ok tree) h = tree_read BlockTree (IsTree bytes) (λ e. IsErrorOf File e bytes) (one_answer bytes) tree h (one_answer bytes).some_answer
reading_is_only bytes (Err error) h = fault_read BlockTree (IsTree bytes) (λ e. IsErrorOf File e bytes) (one_answer bytes) error h (one_answer bytes).some_answer

pub expr_reading_is_only : (bytes : List ℕ) (r : Result ExprTree SyntaxFault) → IsExprReading bytes r → expr_reading bytes ≡ r
unfolding expr_reading
expr_reading_is_only bytes (Ok tree) h = tree_read ExprTree (IsExpr bytes) (λ e. IsErrorOf Expression e bytes) (one_expr_answer bytes) tree h (one_expr_answer bytes).some_answer
expr_reading_is_only bytes (Err error) h = fault_read ExprTree (IsExpr bytes) (λ e. IsErrorOf Expression e bytes) (one_expr_answer bytes) error h (one_expr_answer bytes).some_answer

-- An error that is the verdict is the first one.
is_error : (start : Start) (bytes : List ℕ) (e : SyntaxFault) → IsJudgedRightly start bytes →
    verdict (last_of bytes) (wanted_of start) (lexemes bytes) ≡ Bad e → IsErrorOf start e bytes
is_error start bytes e judged v = subst (λ x. IsAsJudged start bytes x) v judged

answers_fault : {A : Type 0} (error : SyntaxError) (e : SyntaxFault) (meant : Result A SyntaxFault) → fault_of error ≡ Some e → meant ≡ Err e → IsAnswer (Err error) meant
answers_fault error e meant f h = subst (λ x. MatchOption x ⊤ (λ found. meant ≡ Err found)) (sym f) h

answers_memory : {A : Type 0} (error : SyntaxError) (meant : Result A SyntaxFault) → fault_of error ≡ None → IsAnswer (Err error) meant
answers_memory error meant f = subst (λ x. MatchOption x ⊤ (λ found. meant ≡ Err found)) (sym f) tt

-- The error at which the parser stops is what is meant.
pub file_stops : (bytes : List ℕ) (error : SyntaxError) (stop : Stop) → fault_of error ≡ fault_at stop → IsJudgedRightly File bytes →
    Fails stop (verdict (last_of bytes) (wanted_of File) (lexemes bytes)) → IsAnswer (Err error) (reading bytes)
file_stops bytes error (Fault e) f judged v = answers_fault error e (reading bytes) f (reading_is_only bytes (Err e) (is_error File bytes e judged v))
file_stops bytes error Memory f judged v = answers_memory error (reading bytes) f

pub expr_stops : (bytes : List ℕ) (error : SyntaxError) (stop : Stop) → fault_of error ≡ fault_at stop → IsJudgedRightly Expression bytes →
    Fails stop (verdict (last_of bytes) (wanted_of Expression) (lexemes bytes)) → IsAnswer (Err error) (expr_reading bytes)
expr_stops bytes error (Fault e) f judged v = answers_fault error e (expr_reading bytes) f (expr_reading_is_only bytes (Err e) (is_error Expression bytes e judged v))
expr_stops bytes error Memory f judged v = answers_memory error (expr_reading bytes) f
