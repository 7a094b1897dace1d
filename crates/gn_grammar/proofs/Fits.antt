-- Which lists of tokens the machine takes.
use Rattle.std.proofs.Common.{◌≡◌, ℕ, ◌+◌, ◌≤◌, arith, Bool, true, false, List, [], ◌∷◌, Option, Some, None, refl, sym, ap, true≢false}
use Rattle.gn_tree.specs.declared.operator.AssignOp.{AssignOp}
use Rattle.gn_tree.specs.declared.operator.AssignOp.TheVariants as assign
use Rattle.gn_tree.specs.declared.operator.BinaryOp.{BinaryOp}
use Rattle.gn_tree.specs.declared.operator.BinaryOp.TheVariants as binary
use Rattle.gn_tokens.specs.declared.token.TokenKind.{TokenKind}
use Rattle.gn_tokens.specs.declared.token.TokenKind.TheVariants as k
use Rattle.gn_grammar.specs.Lexemes.{Lexeme}
use Rattle.gn_grammar.specs.Grammar.{priority, mark_of, assign_mark, boolean_word}
use Rattle.gn_grammar.specs.Machine.{Symbol, Statements, Head, Sign, BlockOr, ElseOr, Operand, Suffix, Operators, Args, MoreArgs, Items, MoreItems, next, is_done}

abbrev pub fits_after : Option (ℕ × List Symbol) → (List Symbol → Bool) → Bool
fits_after None go = false
fits_after (Some x) go = go x.1

-- The machine takes all the tokens, and may end there.
abbrev pub fits : List Symbol → List Lexeme → Bool
fits stack [] = is_done stack
fits stack (t ∷ ts) = fits_after (next stack t.kind) (λ wanted. fits wanted ts)

-- the kind of the next token
abbrev pub front : List Lexeme → Option TokenKind
front [] = None
front (t ∷ ts) = Some t.kind

-- The token is no operator between operands.
abbrev pub is_no_operator : TokenKind → Bool
is_no_operator k.Plus = false
is_no_operator k.Minus = false
is_no_operator k.Less = false
is_no_operator k.LessEqual = false
is_no_operator k.Greater = false
is_no_operator k.GreaterEqual = false
is_no_operator k.Equal = false
is_no_operator k.NotEqual = false
is_no_operator k.And = false
is_no_operator k.Or = false
is_no_operator _ = true

-- The token does not go on with an operand: it opens no bracket behind it, and is no dot.
abbrev pub is_behind_operand : Option TokenKind → Bool
is_behind_operand None = true
is_behind_operand (Some k.OpenParen) = false
is_behind_operand (Some k.OpenBracket) = false
is_behind_operand (Some k.OpenBrace) = false
is_behind_operand (Some k.Dot) = false
is_behind_operand (Some _) = true

-- The token does not go on with a statement.
abbrev pub is_behind_statement : Option TokenKind → Bool
is_behind_statement None = true
is_behind_statement (Some k.OpenParen) = false
is_behind_statement (Some k.OpenBracket) = false
is_behind_statement (Some k.OpenBrace) = false
is_behind_statement (Some k.Dot) = false
is_behind_statement (Some k.Else) = false
is_behind_statement (Some kind) = is_no_operator kind

-- The token does not go on with statements either.
abbrev pub is_behind_statements : Option TokenKind → Bool
is_behind_statements (Some k.Identifier) = false
is_behind_statements (Some k.If) = false
is_behind_statements kind = is_behind_statement kind

pub absurd_false : {A : Type 0} → false ≡ true → A
absurd_false h = absurd (true≢false (sym h))

pub behind_statement_operand : (kind : Option TokenKind) → is_behind_statement kind ≡ true → is_behind_operand kind ≡ true
behind_statement_operand (Some k.OpenParen) h = h
behind_statement_operand (Some k.OpenBracket) h = h
behind_statement_operand (Some k.OpenBrace) h = h
behind_statement_operand (Some k.Dot) h = h
behind_statement_operand _ h = refl

pub behind_statements_statement : (kind : Option TokenKind) → is_behind_statements kind ≡ true → is_behind_statement kind ≡ true
behind_statements_statement (Some k.Identifier) h = absurd_false h
behind_statements_statement (Some k.If) h = absurd_false h
behind_statements_statement _ h = h

pub next_suffix : (deep : ℕ) (stack : List Symbol) (kind : TokenKind) → is_behind_operand (Some kind) ≡ true → next (Suffix deep ∷ stack) kind ≡ next stack kind
next_suffix deep stack k.OpenParen h = absurd_false h
next_suffix deep stack k.OpenBracket h = absurd_false h
next_suffix deep stack k.Dot h = absurd_false h
next_suffix deep stack _ h = refl

pub next_block_or : (deep : ℕ) (stack : List Symbol) (kind : TokenKind) → is_behind_operand (Some kind) ≡ true → next (BlockOr deep ∷ stack) kind ≡ next stack kind
next_block_or deep stack k.OpenBrace h = absurd_false h
next_block_or deep stack _ h = refl

pub next_operators : (deep : ℕ) (stack : List Symbol) (kind : TokenKind) → is_behind_statement (Some kind) ≡ true → next (Operators deep ∷ stack) kind ≡ next stack kind
next_operators deep stack k.Plus h = absurd_false h
next_operators deep stack k.Minus h = absurd_false h
next_operators deep stack k.Less h = absurd_false h
next_operators deep stack k.LessEqual h = absurd_false h
next_operators deep stack k.Greater h = absurd_false h
next_operators deep stack k.GreaterEqual h = absurd_false h
next_operators deep stack k.Equal h = absurd_false h
next_operators deep stack k.NotEqual h = absurd_false h
next_operators deep stack k.And h = absurd_false h
next_operators deep stack k.Or h = absurd_false h
next_operators deep stack _ h = refl

pub next_else_or : (deep : ℕ) (stack : List Symbol) (kind : TokenKind) → is_behind_statement (Some kind) ≡ true → next (ElseOr deep ∷ stack) kind ≡ next stack kind
next_else_or deep stack k.Else h = absurd_false h
next_else_or deep stack _ h = refl

pub next_statements : (deep : ℕ) (stack : List Symbol) (kind : TokenKind) → is_behind_statements (Some kind) ≡ true → next (Statements deep ∷ stack) kind ≡ next stack kind
next_statements deep stack k.Identifier h = absurd_false h
next_statements deep stack k.If h = absurd_false h
next_statements deep stack _ h = refl

fits_same : (one two : List Symbol) (t : Lexeme) (ts : List Lexeme) → next one t.kind ≡ next two t.kind → fits one (t ∷ ts) ≡ fits two (t ∷ ts)
fits_same one two t ts e = ap (λ x. fits_after x (λ wanted. fits wanted ts)) e

-- Where a symbol lets the next token pass, it is as if it were not there.
pub fits_suffix : (deep : ℕ) (stack : List Symbol) (ts : List Lexeme) → is_behind_operand (front ts) ≡ true → fits (Suffix deep ∷ stack) ts ≡ fits stack ts
fits_suffix deep stack [] h = refl
fits_suffix deep stack (t ∷ ts) h = fits_same (Suffix deep ∷ stack) stack t ts (next_suffix deep stack t.kind h)

pub fits_block_or : (deep : ℕ) (stack : List Symbol) (ts : List Lexeme) → is_behind_operand (front ts) ≡ true → fits (BlockOr deep ∷ stack) ts ≡ fits stack ts
fits_block_or deep stack [] h = refl
fits_block_or deep stack (t ∷ ts) h = fits_same (BlockOr deep ∷ stack) stack t ts (next_block_or deep stack t.kind h)

pub fits_operators : (deep : ℕ) (stack : List Symbol) (ts : List Lexeme) → is_behind_statement (front ts) ≡ true → fits (Operators deep ∷ stack) ts ≡ fits stack ts
fits_operators deep stack [] h = refl
fits_operators deep stack (t ∷ ts) h = fits_same (Operators deep ∷ stack) stack t ts (next_operators deep stack t.kind h)

pub fits_else_or : (deep : ℕ) (stack : List Symbol) (ts : List Lexeme) → is_behind_statement (front ts) ≡ true → fits (ElseOr deep ∷ stack) ts ≡ fits stack ts
fits_else_or deep stack [] h = refl
fits_else_or deep stack (t ∷ ts) h = fits_same (ElseOr deep ∷ stack) stack t ts (next_else_or deep stack t.kind h)

pub fits_statements : (deep : ℕ) (stack : List Symbol) (ts : List Lexeme) → is_behind_statements (front ts) ≡ true → fits (Statements deep ∷ stack) ts ≡ fits stack ts
fits_statements deep stack [] h = refl
fits_statements deep stack (t ∷ ts) h = fits_same (Statements deep ∷ stack) stack t ts (next_statements deep stack t.kind h)

-- The token begins an expression.
abbrev pub begins_expr : Option TokenKind → Bool
begins_expr (Some k.Identifier) = true
begins_expr (Some k.Integer) = true
begins_expr (Some k.Str) = true
begins_expr (Some k.True) = true
begins_expr (Some k.False) = true
begins_expr (Some k.Not) = true
begins_expr (Some k.OpenParen) = true
begins_expr (Some k.OpenBracket) = true
begins_expr (Some k.OpenBrace) = true
begins_expr _ = false

pub next_arg : (deep : ℕ) (stack : List Symbol) (kind : TokenKind) → begins_expr (Some kind) ≡ true →
    next (Args deep ∷ stack) kind ≡ next (Operand deep deep ∷ MoreArgs deep ∷ stack) kind
next_arg deep stack k.CloseParen h = absurd_false h
next_arg deep stack _ h = refl

pub next_item : (deep : ℕ) (stack : List Symbol) (kind : TokenKind) → begins_expr (Some kind) ≡ true →
    next (Items deep ∷ stack) kind ≡ next (Operand deep deep ∷ MoreItems deep ∷ stack) kind
next_item deep stack k.CloseBracket h = absurd_false h
next_item deep stack _ h = refl

pub next_mark : (o : BinaryOp) (deep : ℕ) (stack : List Symbol) → next (Operators deep ∷ stack) (mark_of o) ≡ Some (deep + 1, Operand (deep + 1) (deep + 1) ∷ stack)
next_mark binary.Add deep stack = refl
next_mark binary.Subtract deep stack = refl
next_mark binary.Less deep stack = refl
next_mark binary.LessEqual deep stack = refl
next_mark binary.Greater deep stack = refl
next_mark binary.GreaterEqual deep stack = refl
next_mark binary.Equal deep stack = refl
next_mark binary.NotEqual deep stack = refl
next_mark binary.And deep stack = refl
next_mark binary.Or deep stack = refl

pub mark_behind : (o : BinaryOp) → is_behind_operand (Some (mark_of o)) ≡ true
mark_behind binary.Add = refl
mark_behind binary.Subtract = refl
mark_behind binary.Less = refl
mark_behind binary.LessEqual = refl
mark_behind binary.Greater = refl
mark_behind binary.GreaterEqual = refl
mark_behind binary.Equal = refl
mark_behind binary.NotEqual = refl
mark_behind binary.And = refl
mark_behind binary.Or = refl

pub next_sign : (o : AssignOp) (deep : ℕ) (stack : List Symbol) → next (Sign deep ∷ stack) (assign_mark o) ≡ Some (0, Operand deep deep ∷ stack)
next_sign assign.Set deep stack = refl
next_sign assign.Add deep stack = refl
next_sign assign.Subtract deep stack = refl

pub next_head : (o : AssignOp) (deep : ℕ) (stack : List Symbol) → next (Head deep ∷ stack) (assign_mark o) ≡ Some (0, Operand deep deep ∷ stack)
next_head assign.Set deep stack = refl
next_head assign.Add deep stack = refl
next_head assign.Subtract deep stack = refl

pub next_boolean : (b : Bool) (after deep : ℕ) (stack : List Symbol) → next (Operand after deep ∷ stack) (boolean_word b) ≡ Some (0, Operators after ∷ stack)
next_boolean true after deep stack = refl
next_boolean false after deep stack = refl

-- No operator binds so tightly as an operand.
pub no_six : (o : BinaryOp) → 6 ≤ priority o → ⊥
no_six binary.Add h = omega arith
no_six binary.Subtract h = omega arith
no_six binary.Less h = omega arith
no_six binary.LessEqual h = omega arith
no_six binary.Greater h = omega arith
no_six binary.GreaterEqual h = omega arith
no_six binary.Equal h = omega arith
no_six binary.NotEqual h = omega arith
no_six binary.And h = omega arith
no_six binary.Or h = omega arith
