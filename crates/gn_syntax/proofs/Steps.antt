-- How the verdict goes past a token, or stays where a symbol passes.
use Rattle.std.proofs.Common.{◌≡◌, ◌≢◌, ℕ, ◌<◌, false, List, [], ◌∷◌, Some, None, refl, ap, arith}
use Rattle.gn_tokens.specs.declared.token.TokenKind.{TokenKind}
use Rattle.gn_tokens.specs.declared.token.TokenKind.TheVariants as k
use Rattle.gn_grammar.specs.Lexemes.{Lexeme, Last, End, Wrong}
use Rattle.gn_grammar.specs.Machine.{Symbol, Statements, Head, Sign, Test, Block, BlockOr, ElseOr, ElseBody, Operand, Suffix, Operators, Args, MoreArgs, Items, MoreItems, Name, CloseParen, CloseBracket, CloseBrace, next, judged, is_done, Bad, verdict}
use Rattle.gn_syntax.specs.Parsing.{front, level, level_of, refusal, sign_of}

abbrev Refuses : List Symbol → List Lexeme → Type 0
Refuses stack [] = is_done stack ≡ false
Refuses stack (t ∷ ts) = next stack t.kind ≡ None

refuses : (last : Last) (stack : List Symbol) (s : List Lexeme) → Refuses stack s → verdict last stack s ≡ Bad (refusal last s)
refuses (End offset) stack [] h = rw h refl
refuses (Wrong error) stack [] h = refl
refuses last stack (t ∷ ts) h = rw h refl

-- Two lists of symbols do the same.
abbrev Same : List Symbol → List Symbol → List Lexeme → Type 0
Same one two [] = is_done one ≡ is_done two
Same one two (t ∷ ts) = next one t.kind ≡ next two t.kind

same : (last : Last) (one two : List Symbol) (s : List Lexeme) → Same one two s → verdict last one s ≡ verdict last two s
same (End offset) one two [] h = rw h refl
same (Wrong error) one two [] h = refl
same last one two (t ∷ ts) h = ap (λ x. judged x t.start (λ wanted. verdict last wanted ts)) h

next-operand_refused : (after : ℕ) (deep : ℕ) (wanted : List Symbol) (kind : TokenKind) → kind ≢ k.Identifier → kind ≢ k.Integer → kind ≢ k.Str → kind ≢ k.True → kind ≢ k.False → kind ≢ k.Not → kind ≢ k.OpenParen → kind ≢ k.OpenBracket → kind ≢ k.OpenBrace → next (Operand after deep ∷ wanted) kind ≡ None
next-operand_refused after deep wanted k.Identifier h0 h1 h2 h3 h4 h5 h6 h7 h8 = absurd (h0 refl)
next-operand_refused after deep wanted k.Integer h0 h1 h2 h3 h4 h5 h6 h7 h8 = absurd (h1 refl)
next-operand_refused after deep wanted k.Str h0 h1 h2 h3 h4 h5 h6 h7 h8 = absurd (h2 refl)
next-operand_refused after deep wanted k.True h0 h1 h2 h3 h4 h5 h6 h7 h8 = absurd (h3 refl)
next-operand_refused after deep wanted k.False h0 h1 h2 h3 h4 h5 h6 h7 h8 = absurd (h4 refl)
next-operand_refused after deep wanted k.Not h0 h1 h2 h3 h4 h5 h6 h7 h8 = absurd (h5 refl)
next-operand_refused after deep wanted k.OpenParen h0 h1 h2 h3 h4 h5 h6 h7 h8 = absurd (h6 refl)
next-operand_refused after deep wanted k.OpenBracket h0 h1 h2 h3 h4 h5 h6 h7 h8 = absurd (h7 refl)
next-operand_refused after deep wanted k.OpenBrace h0 h1 h2 h3 h4 h5 h6 h7 h8 = absurd (h8 refl)
next-operand_refused after deep wanted _ h0 h1 h2 h3 h4 h5 h6 h7 h8 = refl

-- No other token begins an operand.
pub operand_refused : (last : Last) (after : ℕ) (deep : ℕ) (wanted : List Symbol) (s : List Lexeme) → front s ≢ Some k.Identifier → front s ≢ Some k.Integer → front s ≢ Some k.Str → front s ≢ Some k.True → front s ≢ Some k.False → front s ≢ Some k.Not → front s ≢ Some k.OpenParen → front s ≢ Some k.OpenBracket → front s ≢ Some k.OpenBrace → verdict last (Operand after deep ∷ wanted) s ≡ Bad (refusal last s)
operand_refused last after deep wanted [] h0 h1 h2 h3 h4 h5 h6 h7 h8 = refuses last (Operand after deep ∷ wanted) [] refl
operand_refused last after deep wanted (t ∷ ts) h0 h1 h2 h3 h4 h5 h6 h7 h8 = refuses last (Operand after deep ∷ wanted) (t ∷ ts) (next-operand_refused after deep wanted t.kind (λ e. h0 (ap Some e)) (λ e. h1 (ap Some e)) (λ e. h2 (ap Some e)) (λ e. h3 (ap Some e)) (λ e. h4 (ap Some e)) (λ e. h5 (ap Some e)) (λ e. h6 (ap Some e)) (λ e. h7 (ap Some e)) (λ e. h8 (ap Some e)))

next-close_paren_refused : (wanted : List Symbol) (kind : TokenKind) → kind ≢ k.CloseParen → next (CloseParen ∷ wanted) kind ≡ None
next-close_paren_refused wanted k.CloseParen h0 = absurd (h0 refl)
next-close_paren_refused wanted _ h0 = refl

-- Only one token closes a round bracket.
pub close_paren_refused : (last : Last) (wanted : List Symbol) (s : List Lexeme) → front s ≢ Some k.CloseParen → verdict last (CloseParen ∷ wanted) s ≡ Bad (refusal last s)
close_paren_refused last wanted [] h0 = refuses last (CloseParen ∷ wanted) [] refl
close_paren_refused last wanted (t ∷ ts) h0 = refuses last (CloseParen ∷ wanted) (t ∷ ts) (next-close_paren_refused wanted t.kind (λ e. h0 (ap Some e)))

next-close_bracket_refused : (wanted : List Symbol) (kind : TokenKind) → kind ≢ k.CloseBracket → next (CloseBracket ∷ wanted) kind ≡ None
next-close_bracket_refused wanted k.CloseBracket h0 = absurd (h0 refl)
next-close_bracket_refused wanted _ h0 = refl

-- the same of a square bracket
pub close_bracket_refused : (last : Last) (wanted : List Symbol) (s : List Lexeme) → front s ≢ Some k.CloseBracket → verdict last (CloseBracket ∷ wanted) s ≡ Bad (refusal last s)
close_bracket_refused last wanted [] h0 = refuses last (CloseBracket ∷ wanted) [] refl
close_bracket_refused last wanted (t ∷ ts) h0 = refuses last (CloseBracket ∷ wanted) (t ∷ ts) (next-close_bracket_refused wanted t.kind (λ e. h0 (ap Some e)))

next-close_brace_refused : (wanted : List Symbol) (kind : TokenKind) → kind ≢ k.CloseBrace → next (CloseBrace ∷ wanted) kind ≡ None
next-close_brace_refused wanted k.CloseBrace h0 = absurd (h0 refl)
next-close_brace_refused wanted _ h0 = refl

-- the same of a brace
pub close_brace_refused : (last : Last) (wanted : List Symbol) (s : List Lexeme) → front s ≢ Some k.CloseBrace → verdict last (CloseBrace ∷ wanted) s ≡ Bad (refusal last s)
close_brace_refused last wanted [] h0 = refuses last (CloseBrace ∷ wanted) [] refl
close_brace_refused last wanted (t ∷ ts) h0 = refuses last (CloseBrace ∷ wanted) (t ∷ ts) (next-close_brace_refused wanted t.kind (λ e. h0 (ap Some e)))

next-name_refused : (wanted : List Symbol) (kind : TokenKind) → kind ≢ k.Identifier → next (Name ∷ wanted) kind ≡ None
next-name_refused wanted k.Identifier h0 = absurd (h0 refl)
next-name_refused wanted _ h0 = refl

-- A name is an identifier.
pub name_refused : (last : Last) (wanted : List Symbol) (s : List Lexeme) → front s ≢ Some k.Identifier → verdict last (Name ∷ wanted) s ≡ Bad (refusal last s)
name_refused last wanted [] h0 = refuses last (Name ∷ wanted) [] refl
name_refused last wanted (t ∷ ts) h0 = refuses last (Name ∷ wanted) (t ∷ ts) (next-name_refused wanted t.kind (λ e. h0 (ap Some e)))

next-block_refused : (deep : ℕ) (wanted : List Symbol) (kind : TokenKind) → kind ≢ k.OpenBrace → next (Block deep ∷ wanted) kind ≡ None
next-block_refused deep wanted k.OpenBrace h0 = absurd (h0 refl)
next-block_refused deep wanted _ h0 = refl

-- A block begins with a brace.
pub block_refused : (last : Last) (deep : ℕ) (wanted : List Symbol) (s : List Lexeme) → front s ≢ Some k.OpenBrace → verdict last (Block deep ∷ wanted) s ≡ Bad (refusal last s)
block_refused last deep wanted [] h0 = refuses last (Block deep ∷ wanted) [] refl
block_refused last deep wanted (t ∷ ts) h0 = refuses last (Block deep ∷ wanted) (t ∷ ts) (next-block_refused deep wanted t.kind (λ e. h0 (ap Some e)))

next-test_refused : (deep : ℕ) (wanted : List Symbol) (kind : TokenKind) → kind ≢ k.OpenParen → next (Test deep ∷ wanted) kind ≡ None
next-test_refused deep wanted k.OpenParen h0 = absurd (h0 refl)
next-test_refused deep wanted _ h0 = refl

-- A test begins with a bracket.
pub test_refused : (last : Last) (deep : ℕ) (wanted : List Symbol) (s : List Lexeme) → front s ≢ Some k.OpenParen → verdict last (Test deep ∷ wanted) s ≡ Bad (refusal last s)
test_refused last deep wanted [] h0 = refuses last (Test deep ∷ wanted) [] refl
test_refused last deep wanted (t ∷ ts) h0 = refuses last (Test deep ∷ wanted) (t ∷ ts) (next-test_refused deep wanted t.kind (λ e. h0 (ap Some e)))

next-more_args_refused : (deep : ℕ) (wanted : List Symbol) (kind : TokenKind) → kind ≢ k.CloseParen → kind ≢ k.Comma → next (MoreArgs deep ∷ wanted) kind ≡ None
next-more_args_refused deep wanted k.CloseParen h0 h1 = absurd (h0 refl)
next-more_args_refused deep wanted k.Comma h0 h1 = absurd (h1 refl)
next-more_args_refused deep wanted _ h0 h1 = refl

-- What may stand behind an argument.
pub more_args_refused : (last : Last) (deep : ℕ) (wanted : List Symbol) (s : List Lexeme) → front s ≢ Some k.CloseParen → front s ≢ Some k.Comma → verdict last (MoreArgs deep ∷ wanted) s ≡ Bad (refusal last s)
more_args_refused last deep wanted [] h0 h1 = refuses last (MoreArgs deep ∷ wanted) [] refl
more_args_refused last deep wanted (t ∷ ts) h0 h1 = refuses last (MoreArgs deep ∷ wanted) (t ∷ ts) (next-more_args_refused deep wanted t.kind (λ e. h0 (ap Some e)) (λ e. h1 (ap Some e)))

next-more_items_refused : (deep : ℕ) (wanted : List Symbol) (kind : TokenKind) → kind ≢ k.CloseBracket → kind ≢ k.Comma → next (MoreItems deep ∷ wanted) kind ≡ None
next-more_items_refused deep wanted k.CloseBracket h0 h1 = absurd (h0 refl)
next-more_items_refused deep wanted k.Comma h0 h1 = absurd (h1 refl)
next-more_items_refused deep wanted _ h0 h1 = refl

-- What may stand behind an item.
pub more_items_refused : (last : Last) (deep : ℕ) (wanted : List Symbol) (s : List Lexeme) → front s ≢ Some k.CloseBracket → front s ≢ Some k.Comma → verdict last (MoreItems deep ∷ wanted) s ≡ Bad (refusal last s)
more_items_refused last deep wanted [] h0 h1 = refuses last (MoreItems deep ∷ wanted) [] refl
more_items_refused last deep wanted (t ∷ ts) h0 h1 = refuses last (MoreItems deep ∷ wanted) (t ∷ ts) (next-more_items_refused deep wanted t.kind (λ e. h0 (ap Some e)) (λ e. h1 (ap Some e)))

next-suffix_passes : (deep : ℕ) (wanted : List Symbol) (kind : TokenKind) → kind ≢ k.OpenParen → kind ≢ k.OpenBracket → kind ≢ k.Dot → next (Suffix deep ∷ wanted) kind ≡ next (wanted) kind
next-suffix_passes deep wanted k.OpenParen h0 h1 h2 = absurd (h0 refl)
next-suffix_passes deep wanted k.OpenBracket h0 h1 h2 = absurd (h1 refl)
next-suffix_passes deep wanted k.Dot h0 h1 h2 = absurd (h2 refl)
next-suffix_passes deep wanted _ h0 h1 h2 = refl

-- A name may stand alone.
pub suffix_passes : (last : Last) (deep : ℕ) (wanted : List Symbol) (s : List Lexeme) → front s ≢ Some k.OpenParen → front s ≢ Some k.OpenBracket → front s ≢ Some k.Dot → verdict last (Suffix deep ∷ wanted) s ≡ verdict last (wanted) s
suffix_passes last deep wanted [] h0 h1 h2 = same last (Suffix deep ∷ wanted) (wanted) [] refl
suffix_passes last deep wanted (t ∷ ts) h0 h1 h2 = same last (Suffix deep ∷ wanted) (wanted) (t ∷ ts) (next-suffix_passes deep wanted t.kind (λ e. h0 (ap Some e)) (λ e. h1 (ap Some e)) (λ e. h2 (ap Some e)))

next-statements_pass : (deep : ℕ) (wanted : List Symbol) (kind : TokenKind) → kind ≢ k.Identifier → kind ≢ k.If → next (Statements deep ∷ wanted) kind ≡ next (wanted) kind
next-statements_pass deep wanted k.Identifier h0 h1 = absurd (h0 refl)
next-statements_pass deep wanted k.If h0 h1 = absurd (h1 refl)
next-statements_pass deep wanted _ h0 h1 = refl

-- Statements may end.
pub statements_pass : (last : Last) (deep : ℕ) (wanted : List Symbol) (s : List Lexeme) → front s ≢ Some k.Identifier → front s ≢ Some k.If → verdict last (Statements deep ∷ wanted) s ≡ verdict last (wanted) s
statements_pass last deep wanted [] h0 h1 = same last (Statements deep ∷ wanted) (wanted) [] refl
statements_pass last deep wanted (t ∷ ts) h0 h1 = same last (Statements deep ∷ wanted) (wanted) (t ∷ ts) (next-statements_pass deep wanted t.kind (λ e. h0 (ap Some e)) (λ e. h1 (ap Some e)))

next-block_or_passes : (deep : ℕ) (wanted : List Symbol) (kind : TokenKind) → kind ≢ k.OpenBrace → next (BlockOr deep ∷ wanted) kind ≡ next (wanted) kind
next-block_or_passes deep wanted k.OpenBrace h0 = absurd (h0 refl)
next-block_or_passes deep wanted _ h0 = refl

-- A block may be missing.
pub block_or_passes : (last : Last) (deep : ℕ) (wanted : List Symbol) (s : List Lexeme) → front s ≢ Some k.OpenBrace → verdict last (BlockOr deep ∷ wanted) s ≡ verdict last (wanted) s
block_or_passes last deep wanted [] h0 = same last (BlockOr deep ∷ wanted) (wanted) [] refl
block_or_passes last deep wanted (t ∷ ts) h0 = same last (BlockOr deep ∷ wanted) (wanted) (t ∷ ts) (next-block_or_passes deep wanted t.kind (λ e. h0 (ap Some e)))

next-else_or_passes : (deep : ℕ) (wanted : List Symbol) (kind : TokenKind) → kind ≢ k.Else → next (ElseOr deep ∷ wanted) kind ≡ next (wanted) kind
next-else_or_passes deep wanted k.Else h0 = absurd (h0 refl)
next-else_or_passes deep wanted _ h0 = refl

-- An `else` may be missing.
pub else_or_passes : (last : Last) (deep : ℕ) (wanted : List Symbol) (s : List Lexeme) → front s ≢ Some k.Else → verdict last (ElseOr deep ∷ wanted) s ≡ verdict last (wanted) s
else_or_passes last deep wanted [] h0 = same last (ElseOr deep ∷ wanted) (wanted) [] refl
else_or_passes last deep wanted (t ∷ ts) h0 = same last (ElseOr deep ∷ wanted) (wanted) (t ∷ ts) (next-else_or_passes deep wanted t.kind (λ e. h0 (ap Some e)))

next-else_block : (deep : ℕ) (wanted : List Symbol) (kind : TokenKind) → kind ≢ k.If → next (ElseBody deep ∷ wanted) kind ≡ next (Block deep ∷ wanted) kind
next-else_block deep wanted k.If h0 = absurd (h0 refl)
next-else_block deep wanted _ h0 = refl

-- Behind an `else` without an `if` a block stands.
pub else_block : (last : Last) (deep : ℕ) (wanted : List Symbol) (s : List Lexeme) → front s ≢ Some k.If → verdict last (ElseBody deep ∷ wanted) s ≡ verdict last (Block deep ∷ wanted) s
else_block last deep wanted [] h0 = same last (ElseBody deep ∷ wanted) (Block deep ∷ wanted) [] refl
else_block last deep wanted (t ∷ ts) h0 = same last (ElseBody deep ∷ wanted) (Block deep ∷ wanted) (t ∷ ts) (next-else_block deep wanted t.kind (λ e. h0 (ap Some e)))

next-arg_comes : (deep : ℕ) (wanted : List Symbol) (kind : TokenKind) → kind ≢ k.CloseParen → next (Args deep ∷ wanted) kind ≡ next (Operand deep deep ∷ MoreArgs deep ∷ wanted) kind
next-arg_comes deep wanted k.CloseParen h0 = absurd (h0 refl)
next-arg_comes deep wanted _ h0 = refl

-- Where arguments do not end, one comes.
pub arg_comes : (last : Last) (deep : ℕ) (wanted : List Symbol) (s : List Lexeme) → front s ≢ Some k.CloseParen → verdict last (Args deep ∷ wanted) s ≡ verdict last (Operand deep deep ∷ MoreArgs deep ∷ wanted) s
arg_comes last deep wanted [] h0 = same last (Args deep ∷ wanted) (Operand deep deep ∷ MoreArgs deep ∷ wanted) [] refl
arg_comes last deep wanted (t ∷ ts) h0 = same last (Args deep ∷ wanted) (Operand deep deep ∷ MoreArgs deep ∷ wanted) (t ∷ ts) (next-arg_comes deep wanted t.kind (λ e. h0 (ap Some e)))

next-item_comes : (deep : ℕ) (wanted : List Symbol) (kind : TokenKind) → kind ≢ k.CloseBracket → next (Items deep ∷ wanted) kind ≡ next (Operand deep deep ∷ MoreItems deep ∷ wanted) kind
next-item_comes deep wanted k.CloseBracket h0 = absurd (h0 refl)
next-item_comes deep wanted _ h0 = refl

-- Where items do not end, one comes.
pub item_comes : (last : Last) (deep : ℕ) (wanted : List Symbol) (s : List Lexeme) → front s ≢ Some k.CloseBracket → verdict last (Items deep ∷ wanted) s ≡ verdict last (Operand deep deep ∷ MoreItems deep ∷ wanted) s
item_comes last deep wanted [] h0 = same last (Items deep ∷ wanted) (Operand deep deep ∷ MoreItems deep ∷ wanted) [] refl
item_comes last deep wanted (t ∷ ts) h0 = same last (Items deep ∷ wanted) (Operand deep deep ∷ MoreItems deep ∷ wanted) (t ∷ ts) (next-item_comes deep wanted t.kind (λ e. h0 (ap Some e)))

next-sign_comes : (deep : ℕ) (wanted : List Symbol) (kind : TokenKind) → kind ≢ k.OpenParen → kind ≢ k.OpenBracket → kind ≢ k.Dot → next (Head deep ∷ wanted) kind ≡ next (Sign deep ∷ wanted) kind
next-sign_comes deep wanted k.OpenParen h0 h1 h2 = absurd (h0 refl)
next-sign_comes deep wanted k.OpenBracket h0 h1 h2 = absurd (h1 refl)
next-sign_comes deep wanted k.Dot h0 h1 h2 = absurd (h2 refl)
next-sign_comes deep wanted _ h0 h1 h2 = refl

-- Behind a whole name that begins a statement a sign stands.
pub sign_comes : (last : Last) (deep : ℕ) (wanted : List Symbol) (s : List Lexeme) → front s ≢ Some k.OpenParen → front s ≢ Some k.OpenBracket → front s ≢ Some k.Dot → verdict last (Head deep ∷ wanted) s ≡ verdict last (Sign deep ∷ wanted) s
sign_comes last deep wanted [] h0 h1 h2 = same last (Head deep ∷ wanted) (Sign deep ∷ wanted) [] refl
sign_comes last deep wanted (t ∷ ts) h0 h1 h2 = same last (Head deep ∷ wanted) (Sign deep ∷ wanted) (t ∷ ts) (next-sign_comes deep wanted t.kind (λ e. h0 (ap Some e)) (λ e. h1 (ap Some e)) (λ e. h2 (ap Some e)))

next-operators_pass : (deep : ℕ) (wanted : List Symbol) (kind : TokenKind) → level_of (Some kind) < 1 → next (Operators deep ∷ wanted) kind ≡ next wanted kind
next-operators_pass deep wanted k.Plus low = absurd (omega arith)
next-operators_pass deep wanted k.Minus low = absurd (omega arith)
next-operators_pass deep wanted k.Less low = absurd (omega arith)
next-operators_pass deep wanted k.LessEqual low = absurd (omega arith)
next-operators_pass deep wanted k.Greater low = absurd (omega arith)
next-operators_pass deep wanted k.GreaterEqual low = absurd (omega arith)
next-operators_pass deep wanted k.Equal low = absurd (omega arith)
next-operators_pass deep wanted k.NotEqual low = absurd (omega arith)
next-operators_pass deep wanted k.And low = absurd (omega arith)
next-operators_pass deep wanted k.Or low = absurd (omega arith)
next-operators_pass deep wanted _ low = refl

-- An expression may end where no operator stands.
pub operators_pass : (last : Last) (deep : ℕ) (wanted : List Symbol) (s : List Lexeme) → level s < 1 → verdict last (Operators deep ∷ wanted) s ≡ verdict last wanted s
operators_pass last deep wanted [] low = same last (Operators deep ∷ wanted) wanted [] refl
operators_pass last deep wanted (t ∷ ts) low = same last (Operators deep ∷ wanted) wanted (t ∷ ts) (next-operators_pass deep wanted t.kind low)

next-sign_refused : (deep : ℕ) (wanted : List Symbol) (kind : TokenKind) → sign_of (Some kind) ≡ None → next (Sign deep ∷ wanted) kind ≡ None
next-sign_refused deep wanted k.Assign h = cc
next-sign_refused deep wanted k.AddAssign h = cc
next-sign_refused deep wanted k.SubAssign h = cc
next-sign_refused deep wanted _ h = refl

-- Only three tokens assign.
pub sign_refused : (last : Last) (deep : ℕ) (wanted : List Symbol) (s : List Lexeme) → sign_of (front s) ≡ None → verdict last (Sign deep ∷ wanted) s ≡ Bad (refusal last s)
sign_refused last deep wanted [] h = refuses last (Sign deep ∷ wanted) [] refl
sign_refused last deep wanted (t ∷ ts) h = refuses last (Sign deep ∷ wanted) (t ∷ ts) (next-sign_refused deep wanted t.kind h)

pub ruleset refusals = (operand_refused, close_paren_refused, close_bracket_refused, close_brace_refused, name_refused, block_refused, test_refused, more_args_refused, more_items_refused, sign_refused)

pub ruleset passes = (suffix_passes, statements_pass, block_or_passes, else_or_passes, else_block, arg_comes, item_comes, sign_comes, operators_pass)
