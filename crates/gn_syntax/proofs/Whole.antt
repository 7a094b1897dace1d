-- The end of a whole file, and of a whole expression.
use Rattle.std.proofs.Common.{◌≡◌, ◌≢◌, ℕ, ◌<◌, true, false, List, [], ◌∷◌, Some, refl, subst}
use Rattle.gn_tokens.specs.declared.token.TokenKind.TheVariants as k
use Rattle.gn_grammar.specs.Lexemes.{Lexeme, Last, End, Wrong}
use Rattle.gn_grammar.specs.Machine.{Statements, Operators, Good, Bad, verdict}
use Rattle.gn_syntax.specs.Parsing.{front, level, refusal, is_end}
use Rattle.gn_tree.specs.Tree.{ExprTree, BlockTree}
use Rattle.gn_grammar.specs.Lexemes.{lexemes, last_of}
use Rattle.gn_grammar.specs.Grammar.{Spells, SpellsStatements}
use Rattle.gn_grammar.specs.Start.{Start, File, Expression, wanted_of}
use Rattle.gn_grammar.specs.Errors.{IsTree, IsExpr}
use Rattle.gn_grammar.specs.Laws.{IsRight, IsAsJudged, IsJudgedRightly}
use Rattle.gn_syntax.proofs.Steps.{statements_pass, operators_pass}

pub whole_refused : (last : Last) (s : List Lexeme) → front s ≢ Some k.Identifier → front s ≢ Some k.If → is_end last s ≡ false → verdict last (Statements 0 ∷ []) s ≡ Bad (refusal last s)
whole_refused (End offset) [] a b h = absurd cc
whole_refused (Wrong error) [] a b h = refl
whole_refused last (t ∷ ts) a b h = statements_pass last 0 [] (t ∷ ts) a b

pub whole_ends : (last : Last) (s : List Lexeme) → is_end last s ≡ true → verdict last (Statements 0 ∷ []) s ≡ Good
whole_ends (End offset) [] h = refl
whole_ends (Wrong error) [] h = absurd cc
whole_ends last (t ∷ ts) h = absurd cc

pub expr_refused : (last : Last) (deep : ℕ) (s : List Lexeme) → level s < 1 → is_end last s ≡ false → verdict last (Operators deep ∷ []) s ≡ Bad (refusal last s)
expr_refused (End offset) deep [] low h = absurd cc
expr_refused (Wrong error) deep [] low h = refl
expr_refused last deep (t ∷ ts) low h = operators_pass last deep [] (t ∷ ts) low

pub expr_ends : (last : Last) (deep : ℕ) (s : List Lexeme) → is_end last s ≡ true → verdict last (Operators deep ∷ []) s ≡ Good
expr_ends (End offset) deep [] h = refl
expr_ends (Wrong error) deep [] h = absurd cc
expr_ends last deep (t ∷ ts) h = absurd cc

pub nothing_left : (last : Last) (s : List Lexeme) → is_end last s ≡ true → s ≡ []
nothing_left last [] h = refl
nothing_left last (t ∷ ts) h = absurd cc

-- What the machine judges right is a tree, and any tree that is spelled is that of the bytes.
is_right : (start : Start) (bytes : List ℕ) → IsJudgedRightly start bytes → verdict (last_of bytes) (wanted_of start) (lexemes bytes) ≡ Good → IsRight start bytes
is_right start bytes judged v = subst (λ x. IsAsJudged start bytes x) v judged

pub is_tree : (bytes : List ℕ) (tree : BlockTree) → IsJudgedRightly File bytes → verdict (last_of bytes) (wanted_of File) (lexemes bytes) ≡ Good →
    SpellsStatements tree (lexemes bytes) [] → IsTree bytes tree
is_tree bytes tree judged v spells = let h = is_right File bytes judged v in record { offset = h.offset; ends = h.ends; spells = spells; shallow = h.shallow }

pub is_expr : (bytes : List ℕ) (tree : ExprTree) → IsJudgedRightly Expression bytes → verdict (last_of bytes) (wanted_of Expression) (lexemes bytes) ≡ Good →
    Spells 1 tree (lexemes bytes) [] → IsExpr bytes tree
is_expr bytes tree judged v spells = let h = is_right Expression bytes judged v in record { offset = h.offset; ends = h.ends; spells = spells; shallow = h.shallow }
