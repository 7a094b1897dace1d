-- The tree of a file is no deeper than its bytes allow: each node that makes a tree deeper has a token of its own, and each token a byte.
use Rattle.std.proofs.Common.{◌≡◌, ℕ, zero, suc, ◌+◌, ◌-◌, ◌≤◌, List, [], inl, inr, Option, Some, None, Result, Ok, Err, length, ap, arith}
use Rattle.gn_value_model.specs.Limits.{max_bytes}
use Rattle.gn_tree.specs.declared.position.Position.{Position}
use Rattle.gn_tree.specs.Tree.{ExprTree, name_expr, integer_expr, string_expr, boolean_expr, call_expr, item_expr, entry_expr, scope_expr, parentheses_expr, list_expr, not_expr, binary_expr, ExprTrees, no_exprs, expr_then, CallTree, call_tree, BodyTree, no_body, some_body, TargetTree, name_target, item_target, entry_target, StatementTree, assign_statement, call_statement, condition_statement, ConditionTree, condition_tree, OtherwiseTree, no_otherwise, else_block, else_if, BlockTree, no_statements, statement_then}
use Rattle.gn_tree.specs.Depth.{expr_depth, exprs_depth, call_depth, body_depth, target_depth, statement_depth, condition_depth, otherwise_depth, block_depth, max_tree_depth, IsShallow}
use Rattle.gn_tokens.specs.declared.token.Token.{Token}
use Rattle.gn_tokens.specs.declared.token.TokenError.{TokenError}
use Rattle.gn_tokens.specs.declared.token.TokenKind.{TokenKind}
use Rattle.gn_tokens.specs.declared.token.TokenKind.TheVariants as k
use Rattle.gn_tokens.specs.Next.{next_token}
use Rattle.gn_tokens.specs.Stream.{Stream, stream_behind, stream_within, stream_of}
use Rattle.gn_grammar.specs.Lexemes.{Lexeme, lexemes_in, lexemes}
use Rattle.gn_grammar.specs.Grammar.{priority, mark_of, assign_mark, boolean_word, IsToken, IsMark, IsKind, LastComma, Spells, SpellsList, SpellsMore, SpellsCall, SpellsBody, SpellsTarget, SpellsStatement, SpellsCondition, SpellsOtherwise, SpellsStatements}
use Rattle.gn_grammar.specs.Errors.{IsTree, IsExpr}

-- One token is one.
token : (kind : TokenKind) (p : Position) (text : List ℕ) (s rest : List Lexeme) → IsToken kind p text s rest → length s ≡ length rest + 1
token kind p text s rest h = omega (arith, ap length h.1)

mark : (kind : TokenKind) (p : Position) (s rest : List Lexeme) → IsMark kind p s rest → length s ≡ length rest + 1
mark kind p s rest h = token kind p h.0 s rest h.1

of_kind : (kind : TokenKind) (s rest : List Lexeme) → IsKind kind s rest → length s ≡ length rest + 1
of_kind kind s rest h = mark kind h.0 s rest h.1

last_comma : (es : ExprTrees) (s rest : List Lexeme) → LastComma es s rest → length rest ≤ length s
last_comma no_exprs s rest h = omega (arith, ap length h)
last_comma (expr_then e es) s rest (inl h) = omega (arith, ap length h)
last_comma (expr_then e es) s rest (inr h) = omega (arith, of_kind k.Comma s rest h)

-- A part is no deeper than it has tokens.
mutual
  expr_within : (v : ℕ) (e : ExprTree) (s rest : List Lexeme) → Spells v e s rest → expr_depth e + length rest ≤ length s
  expr_within v (name_expr p n) s rest h = omega (arith, token k.Identifier p n s rest h)
  expr_within v (integer_expr p i) s rest h = omega (arith, token k.Integer p h.0 s rest h.1)
  expr_within v (string_expr p ps) s rest h = omega (arith, token k.Str p h.0 s rest h.1)
  expr_within v (boolean_expr p b) s rest h = omega (arith, mark (boolean_word b) p s rest h)
  expr_within v (call_expr c) s rest h = omega (arith, call_within c s rest h)
  expr_within v (item_expr p n b i) s rest h =
      omega (arith, token k.Identifier p n s h.0 h.1, mark k.OpenBracket b h.0 h.2.0 h.2.2, expr_within 1 i h.2.0 h.2.1 h.2.3, of_kind k.CloseBracket h.2.1 rest h.2.4)
  expr_within v (entry_expr p n d e) s rest h =
      omega (arith, token k.Identifier p n s h.0 h.3, mark k.Dot d h.0 h.1 h.4, token k.Identifier h.2 e h.1 rest h.5)
  expr_within v (scope_expr p b) s rest h =
      omega (arith, mark k.OpenBrace p s h.0 h.2, block_within b h.0 h.1 h.3, of_kind k.CloseBrace h.1 rest h.4)
  expr_within v (parentheses_expr p e) s rest h =
      omega (arith, mark k.OpenParen p s h.0 h.2, expr_within 1 e h.0 h.1 h.3, of_kind k.CloseParen h.1 rest h.4)
  expr_within v (list_expr p es) s rest h =
      omega (arith, mark k.OpenBracket p s h.0 h.2, list_within es h.0 h.3.0 h.3.1, last_comma es h.3.0 h.1 h.3.2, of_kind k.CloseBracket h.1 rest h.4)
  expr_within v (not_expr p e) s rest h = omega (arith, mark k.Not p s h.0 h.1, expr_within 6 e h.0 rest h.2)
  expr_within v (binary_expr o p l r) s rest h =
      omega (arith, expr_within (priority o) l s h.0 h.3, mark (mark_of o) p h.0 h.1 h.4, expr_within (priority o + 1) r h.1 rest h.5)

  list_within : (es : ExprTrees) (s rest : List Lexeme) → SpellsList es s rest → exprs_depth es + length rest ≤ length s
  list_within no_exprs s rest h = omega (arith, ap length h)
  list_within (expr_then e es) s rest h = omega (arith, expr_within 1 e s h.0 h.1, more_within es h.0 rest h.2)

  more_within : (es : ExprTrees) (s rest : List Lexeme) → SpellsMore es s rest → exprs_depth es + length rest ≤ length s
  more_within no_exprs s rest h = omega (arith, ap length h)
  more_within (expr_then e es) s rest h = omega (arith, of_kind k.Comma s h.0 h.2, expr_within 1 e h.0 h.1 h.3, more_within es h.1 rest h.4)

  -- A call has three tokens of its own.
  call_within : (c : CallTree) (s rest : List Lexeme) → SpellsCall c s rest → call_depth c + 2 + length rest ≤ length s
  call_within (call_tree p n es b) s rest h =
      let inside = h.3.1 in
      omega (
        arith,
        token k.Identifier p n s h.0 h.2,
        mark k.OpenParen h.3.0 h.0 inside.0 inside.2,
        list_within es inside.0 inside.1 inside.3,
        of_kind k.CloseParen inside.1 h.1 inside.4,
        body_within b h.1 rest h.4,
      )

  body_within : (b : BodyTree) (s rest : List Lexeme) → SpellsBody b s rest → body_depth b + length rest ≤ length s
  body_within no_body s rest h = omega (arith, ap length h)
  body_within (some_body b) s rest h =
      omega (arith, mark k.OpenBrace h.0 s h.1.0 h.1.2, block_within b h.1.0 h.1.1 h.1.3, of_kind k.CloseBrace h.1.1 rest h.1.4)

  target_within : (t : TargetTree) (s rest : List Lexeme) → SpellsTarget t s rest → target_depth t + length rest ≤ length s
  target_within (name_target p n) s rest h = omega (arith, token k.Identifier p n s rest h)
  target_within (item_target p n b i) s rest h =
      omega (arith, token k.Identifier p n s h.0 h.1, mark k.OpenBracket b h.0 h.2.0 h.2.2, expr_within 1 i h.2.0 h.2.1 h.2.3, of_kind k.CloseBracket h.2.1 rest h.2.4)
  target_within (entry_target p n d e) s rest h =
      omega (arith, token k.Identifier p n s h.0 h.3, mark k.Dot d h.0 h.1 h.4, token k.Identifier h.2 e h.1 rest h.5)

  statement_within : (x : StatementTree) (s rest : List Lexeme) → SpellsStatement x s rest → statement_depth x + length rest ≤ length s
  statement_within (assign_statement t o p e) s rest h =
      omega (arith, target_within t s h.0 h.2, mark (assign_mark o) p h.0 h.1 h.3, expr_within 1 e h.1 rest h.4)
  statement_within (call_statement c) s rest h = omega (arith, call_within c s rest h)
  statement_within (condition_statement c) s rest h = omega (arith, condition_within c s rest h)

  -- A condition has five tokens of its own.
  condition_within : (c : ConditionTree) (s rest : List Lexeme) → SpellsCondition c s rest → condition_depth c + 4 + length rest ≤ length s
  condition_within (condition_tree e b o) s rest h =
      let test = h.4.1 in
      let block = h.5.1 in
      omega (
        arith,
        of_kind k.If s h.0 h.3,
        mark k.OpenParen h.4.0 h.0 test.0 test.2,
        expr_within 1 e test.0 test.1 test.3,
        of_kind k.CloseParen test.1 h.1 test.4,
        mark k.OpenBrace h.5.0 h.1 block.0 block.2,
        block_within b block.0 block.1 block.3,
        of_kind k.CloseBrace block.1 h.2 block.4,
        otherwise_within o h.2 rest h.6,
      )

  otherwise_within : (o : OtherwiseTree) (s rest : List Lexeme) → SpellsOtherwise o s rest → otherwise_depth o + length rest ≤ length s
  otherwise_within no_otherwise s rest h = omega (arith, ap length h)
  otherwise_within (else_block b) s rest h =
      let block = h.2.1 in
      omega (
        arith,
        of_kind k.Else s h.0 h.1,
        mark k.OpenBrace h.2.0 h.0 block.0 block.2,
        block_within b block.0 block.1 block.3,
        of_kind k.CloseBrace block.1 rest block.4,
      )
  otherwise_within (else_if c) s rest h = omega (arith, of_kind k.Else s h.0 h.1, condition_within c h.0 rest h.2)

  block_within : (b : BlockTree) (s rest : List Lexeme) → SpellsStatements b s rest → block_depth b + length rest ≤ length s
  block_within no_statements s rest h = omega (arith, ap length h)
  block_within (statement_then x b) s rest h = omega (arith, statement_within x s h.0 h.1, block_within b h.0 rest h.2)

-- There are no more tokens than the count.
few_behind : (n : ℕ) (bytes : List ℕ) (from : ℕ → Stream) (answer : Result (Option Token) TokenError) →
    ((at : ℕ) → length (lexemes_in bytes (from at)) ≤ n) → length (lexemes_in bytes (stream_behind from answer)) ≤ suc n
few_behind n bytes from (Ok (Some x)) h = omega (arith, h x.end)
few_behind n bytes from (Ok None) h = omega arith
few_behind n bytes from (Err error) h = omega arith

few_within : (n : ℕ) (bytes : List ℕ) (at : ℕ) → length (lexemes_in bytes (stream_within n bytes at)) ≤ n
few_within zero bytes at = omega arith
few_within (suc n) bytes at = few_behind n bytes (stream_within n bytes) (next_token bytes at) (few_within n bytes)

-- There are at most as many tokens as bytes, and one.
few_lexemes : (bytes : List ℕ) → length (lexemes bytes) ≤ length bytes + 1
unfolding stream_of
few_lexemes bytes = omega (arith, few_within (length bytes - 0 + 1) bytes 0)

-- A tree of at most so many bytes is shallow.
pub is_shallow : (bytes : List ℕ) (tree : BlockTree) → length bytes ≤ max_bytes → IsTree bytes tree → IsShallow tree
is_shallow bytes tree small h = omega (arith, small, few_lexemes bytes, block_within tree (lexemes bytes) [] h.spells)

-- An expression of at most so many bytes is shallow.
pub is_shallow_expr : (bytes : List ℕ) (tree : ExprTree) → length bytes ≤ max_bytes → IsExpr bytes tree → expr_depth tree ≤ max_tree_depth
is_shallow_expr bytes tree small h = omega (arith, small, few_lexemes bytes, expr_within 1 tree (lexemes bytes) [] h.spells)
