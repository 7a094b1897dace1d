-- Whatever the machine wants, some tokens are taken: a file that was begun can be finished.
use Rattle.std.proofs.Common.{◌≡◌, ℕ, Bool, true, false, ◌&&◌, List, [], ◌∷◌, ◌++◌, Option, Some, None, refl, ◌∙◌}
use Rattle.gn_basics.proofs.Tests.{second_true}
use Rattle.gn_tokens.specs.declared.token.TokenKind.{TokenKind}
use Rattle.gn_tokens.specs.declared.token.TokenKind.TheVariants as k
use Rattle.gn_grammar.specs.Lexemes.{Lexeme}
use Rattle.gn_grammar.specs.Machine.{Symbol, Statements, Head, Sign, Test, Block, BlockOr, ElseOr, ElseBody, Operand, Suffix, Operators, Args, MoreArgs, Items, MoreItems, Name, CloseParen, CloseBracket, CloseBrace, Reaction, Takes, Passes, Refuses, react, reacted, next, operand}
use Rattle.gn_grammar.proofs.Fits.{absurd_false, fits, front, is_behind_operand, is_behind_statement, is_behind_statements, behind_statements_statement, behind_statement_operand, fits_suffix, fits_block_or, fits_operators, fits_else_or, fits_statements}

-- The symbol can be done without a token more, so that what is wanted behind it has the next one.
abbrev pub ends_open : Symbol → Bool
ends_open (Statements d) = true
ends_open (Head d) = true
ends_open (Sign d) = true
ends_open (BlockOr d) = true
ends_open (ElseOr d) = true
ends_open (ElseBody d) = true
ends_open (Operand a d) = true
ends_open (Suffix d) = true
ends_open (Operators d) = true
ends_open _ = false

-- The symbol may stand behind such a one.
abbrev pub may_stand : Symbol → Bool
may_stand (Statements d) = true
may_stand (Operators d) = true
may_stand (MoreArgs d) = true
may_stand (MoreItems d) = true
may_stand CloseParen = true
may_stand CloseBracket = true
may_stand CloseBrace = true
may_stand _ = false

-- What the machine wants has no other symbols behind such ones. The flag says that one stands before.
abbrev pub is_linked : Bool → List Symbol → Bool
is_linked b [] = true
is_linked true (s ∷ stack) = may_stand s && is_linked (ends_open s) stack
is_linked false (s ∷ stack) = is_linked (ends_open s) stack

linked_below : (b : Bool) (stack : List Symbol) → is_linked b stack ≡ true → is_linked false stack ≡ true
linked_below false stack h = h
linked_below true [] h = h
linked_below true (s ∷ stack) h = second_true (may_stand s) (is_linked (ends_open s) stack) h

-- What comes in place of a symbol keeps this.
abbrev KeepsLinks : Reaction → List Symbol → Type 0
KeepsLinks (Takes deep wanted) stack = is_linked false (wanted ++ stack) ≡ true
KeepsLinks Passes stack = Unit {0}
KeepsLinks Refuses stack = Unit {0}

keeps_operand : (a d : ℕ) (later stack : List Symbol) (kind : TokenKind) → is_linked true (later ++ stack) ≡ true → KeepsLinks (operand a d later kind) stack
keeps_operand a d later stack k.Identifier h = h
keeps_operand a d later stack k.Integer h = h
keeps_operand a d later stack k.Str h = h
keeps_operand a d later stack k.True h = h
keeps_operand a d later stack k.False h = h
keeps_operand a d later stack k.Not h = h
keeps_operand a d later stack k.OpenParen h = h
keeps_operand a d later stack k.OpenBracket h = h
keeps_operand a d later stack k.OpenBrace h = h
keeps_operand a d later stack _ h = tt

keeps_operators : (d : ℕ) (stack : List Symbol) (kind : TokenKind) → is_linked true stack ≡ true → KeepsLinks (react (Operators d) kind) stack
keeps_operators d stack k.Plus h = h
keeps_operators d stack k.Minus h = h
keeps_operators d stack k.Less h = h
keeps_operators d stack k.LessEqual h = h
keeps_operators d stack k.Greater h = h
keeps_operators d stack k.GreaterEqual h = h
keeps_operators d stack k.Equal h = h
keeps_operators d stack k.NotEqual h = h
keeps_operators d stack k.And h = h
keeps_operators d stack k.Or h = h
keeps_operators d stack _ h = tt

keeps_suffix : (d : ℕ) (stack : List Symbol) (kind : TokenKind) → is_linked true stack ≡ true → KeepsLinks (react (Suffix d) kind) stack
keeps_suffix d stack k.OpenParen h = h
keeps_suffix d stack k.OpenBracket h = linked_below true stack h
keeps_suffix d stack k.Dot h = linked_below true stack h
keeps_suffix d stack _ h = tt

keeps_sign : (d : ℕ) (stack : List Symbol) (kind : TokenKind) → is_linked true stack ≡ true → KeepsLinks (react (Sign d) kind) stack
keeps_sign d stack k.Assign h = h
keeps_sign d stack k.AddAssign h = h
keeps_sign d stack k.SubAssign h = h
keeps_sign d stack _ h = tt

keeps_head : (d : ℕ) (stack : List Symbol) (kind : TokenKind) → is_linked true stack ≡ true → KeepsLinks (react (Head d) kind) stack
keeps_head d stack k.OpenParen h = h
keeps_head d stack k.OpenBracket h = h
keeps_head d stack k.Dot h = h
keeps_head d stack k.Assign h = h
keeps_head d stack k.AddAssign h = h
keeps_head d stack k.SubAssign h = h
keeps_head d stack _ h = tt

keeps_statements : (d : ℕ) (stack : List Symbol) (kind : TokenKind) → is_linked true stack ≡ true → KeepsLinks (react (Statements d) kind) stack
keeps_statements d stack k.Identifier h = h
keeps_statements d stack k.If h = h
keeps_statements d stack _ h = tt

keeps_test : (d : ℕ) (stack : List Symbol) (kind : TokenKind) → is_linked false stack ≡ true → KeepsLinks (react (Test d) kind) stack
keeps_test d stack k.OpenParen h = h
keeps_test d stack _ h = tt

keeps_block : (d : ℕ) (stack : List Symbol) (kind : TokenKind) → is_linked false stack ≡ true → KeepsLinks (react (Block d) kind) stack
keeps_block d stack k.OpenBrace h = h
keeps_block d stack _ h = tt

keeps_block_or : (d : ℕ) (stack : List Symbol) (kind : TokenKind) → is_linked true stack ≡ true → KeepsLinks (react (BlockOr d) kind) stack
keeps_block_or d stack k.OpenBrace h = linked_below true stack h
keeps_block_or d stack _ h = tt

keeps_else_or : (d : ℕ) (stack : List Symbol) (kind : TokenKind) → is_linked true stack ≡ true → KeepsLinks (react (ElseOr d) kind) stack
keeps_else_or d stack k.Else h = h
keeps_else_or d stack _ h = tt

keeps_else_body : (d : ℕ) (stack : List Symbol) (kind : TokenKind) → is_linked true stack ≡ true → KeepsLinks (react (ElseBody d) kind) stack
keeps_else_body d stack k.If h = h
keeps_else_body d stack k.OpenBrace h = linked_below true stack h
keeps_else_body d stack _ h = tt

keeps_args : (d : ℕ) (stack : List Symbol) (kind : TokenKind) → is_linked false stack ≡ true → KeepsLinks (react (Args d) kind) stack
keeps_args d stack k.CloseParen h = h
keeps_args d stack kind h = keeps_operand d d (MoreArgs d ∷ []) stack kind h

keeps_more_args : (d : ℕ) (stack : List Symbol) (kind : TokenKind) → is_linked false stack ≡ true → KeepsLinks (react (MoreArgs d) kind) stack
keeps_more_args d stack k.CloseParen h = h
keeps_more_args d stack k.Comma h = h
keeps_more_args d stack _ h = tt

keeps_items : (d : ℕ) (stack : List Symbol) (kind : TokenKind) → is_linked false stack ≡ true → KeepsLinks (react (Items d) kind) stack
keeps_items d stack k.CloseBracket h = h
keeps_items d stack kind h = keeps_operand d d (MoreItems d ∷ []) stack kind h

keeps_more_items : (d : ℕ) (stack : List Symbol) (kind : TokenKind) → is_linked false stack ≡ true → KeepsLinks (react (MoreItems d) kind) stack
keeps_more_items d stack k.CloseBracket h = h
keeps_more_items d stack k.Comma h = h
keeps_more_items d stack _ h = tt

keeps_name : (stack : List Symbol) (kind : TokenKind) → is_linked false stack ≡ true → KeepsLinks (react Name kind) stack
keeps_name stack k.Identifier h = h
keeps_name stack _ h = tt

keeps_close_paren : (stack : List Symbol) (kind : TokenKind) → is_linked false stack ≡ true → KeepsLinks (react CloseParen kind) stack
keeps_close_paren stack k.CloseParen h = h
keeps_close_paren stack _ h = tt

keeps_close_bracket : (stack : List Symbol) (kind : TokenKind) → is_linked false stack ≡ true → KeepsLinks (react CloseBracket kind) stack
keeps_close_bracket stack k.CloseBracket h = h
keeps_close_bracket stack _ h = tt

keeps_close_brace : (stack : List Symbol) (kind : TokenKind) → is_linked false stack ≡ true → KeepsLinks (react CloseBrace kind) stack
keeps_close_brace stack k.CloseBrace h = h
keeps_close_brace stack _ h = tt

keeps_links : (s : Symbol) (stack : List Symbol) (kind : TokenKind) → is_linked (ends_open s) stack ≡ true → KeepsLinks (react s kind) stack
keeps_links (Statements d) stack kind h = keeps_statements d stack kind h
keeps_links (Head d) stack kind h = keeps_head d stack kind h
keeps_links (Sign d) stack kind h = keeps_sign d stack kind h
keeps_links (Test d) stack kind h = keeps_test d stack kind h
keeps_links (Block d) stack kind h = keeps_block d stack kind h
keeps_links (BlockOr d) stack kind h = keeps_block_or d stack kind h
keeps_links (ElseOr d) stack kind h = keeps_else_or d stack kind h
keeps_links (ElseBody d) stack kind h = keeps_else_body d stack kind h
keeps_links (Operand a d) stack kind h = keeps_operand a d [] stack kind h
keeps_links (Suffix d) stack kind h = keeps_suffix d stack kind h
keeps_links (Operators d) stack kind h = keeps_operators d stack kind h
keeps_links (Args d) stack kind h = keeps_args d stack kind h
keeps_links (MoreArgs d) stack kind h = keeps_more_args d stack kind h
keeps_links (Items d) stack kind h = keeps_items d stack kind h
keeps_links (MoreItems d) stack kind h = keeps_more_items d stack kind h
keeps_links Name stack kind h = keeps_name stack kind h
keeps_links CloseParen stack kind h = keeps_close_paren stack kind h
keeps_links CloseBracket stack kind h = keeps_close_bracket stack kind h
keeps_links CloseBrace stack kind h = keeps_close_brace stack kind h

abbrev pub LinkedAfter : Option (ℕ × List Symbol) → Type 0
LinkedAfter None = Unit {0}
LinkedAfter (Some x) = is_linked false x.1 ≡ true

linked_reacted : (r : Reaction) (stack : List Symbol) (below : Option (ℕ × List Symbol)) → KeepsLinks r stack → LinkedAfter below → LinkedAfter (reacted r stack below)
linked_reacted (Takes deep wanted) stack below h later = h
linked_reacted Passes stack below h later = later
linked_reacted Refuses stack below h later = tt

-- What the machine wants behind a token is linked where it was before.
pub linked_next : (stack : List Symbol) (kind : TokenKind) → is_linked false stack ≡ true → LinkedAfter (next stack kind)
linked_next [] kind h = tt
linked_next (s ∷ stack) kind h =
    linked_reacted (react s kind) stack (next stack kind) (keeps_links s stack kind h) (linked_next stack kind (linked_below (ends_open s) stack h))

-- a token to finish with
abbrev token : TokenKind → Lexeme
token kind = record { kind = kind; start = 0; position = record { line = 1; column = 1 }; text = [] }

abbrev finish_one : Symbol → List Lexeme → List Lexeme
finish_one (Statements d) ts = ts
finish_one (Head d) ts = token k.Assign ∷ token k.Integer ∷ ts
finish_one (Sign d) ts = token k.Assign ∷ token k.Integer ∷ ts
finish_one (Test d) ts = token k.OpenParen ∷ token k.Integer ∷ token k.CloseParen ∷ ts
finish_one (Block d) ts = token k.OpenBrace ∷ token k.CloseBrace ∷ ts
finish_one (BlockOr d) ts = ts
finish_one (ElseOr d) ts = ts
finish_one (ElseBody d) ts = token k.OpenBrace ∷ token k.CloseBrace ∷ ts
finish_one (Operand a d) ts = token k.Integer ∷ ts
finish_one (Suffix d) ts = ts
finish_one (Operators d) ts = ts
finish_one (Args d) ts = token k.CloseParen ∷ ts
finish_one (MoreArgs d) ts = token k.CloseParen ∷ ts
finish_one (Items d) ts = token k.CloseBracket ∷ ts
finish_one (MoreItems d) ts = token k.CloseBracket ∷ ts
finish_one Name ts = token k.Identifier ∷ ts
finish_one CloseParen ts = token k.CloseParen ∷ ts
finish_one CloseBracket ts = token k.CloseBracket ∷ ts
finish_one CloseBrace ts = token k.CloseBrace ∷ ts

-- tokens that these symbols take
abbrev pub finish : List Symbol → List Lexeme
finish [] = []
finish (s ∷ stack) = finish_one s (finish stack)

-- Behind a symbol that can be done, no token comes that would go on with it.
finish_passed : (stack : List Symbol) → is_linked true stack ≡ true → is_behind_statements (front (finish stack)) ≡ true
finish_passed [] h = refl
finish_passed (Statements d ∷ stack) h = finish_passed stack h
finish_passed (Operators d ∷ stack) h = finish_passed stack h
finish_passed (MoreArgs d ∷ stack) h = refl
finish_passed (MoreItems d ∷ stack) h = refl
finish_passed (CloseParen ∷ stack) h = refl
finish_passed (CloseBracket ∷ stack) h = refl
finish_passed (CloseBrace ∷ stack) h = refl
finish_passed (_ ∷ stack) h = absurd_false h

passed_statement : (stack : List Symbol) → is_linked true stack ≡ true → is_behind_statement (front (finish stack)) ≡ true
passed_statement stack h = behind_statements_statement (front (finish stack)) (finish_passed stack h)

passed_operand : (stack : List Symbol) → is_linked true stack ≡ true → is_behind_operand (front (finish stack)) ≡ true
passed_operand stack h = behind_statement_operand (front (finish stack)) (passed_statement stack h)

-- The machine takes these tokens.
pub fits_finish : (stack : List Symbol) → is_linked false stack ≡ true → fits stack (finish stack) ≡ true
fits_finish [] h = refl
fits_finish (Statements d ∷ stack) h = fits_statements d stack (finish stack) (finish_passed stack h) ∙ fits_finish stack (linked_below true stack h)
fits_finish (Head d ∷ stack) h = fits_operators d stack (finish stack) (passed_statement stack h) ∙ fits_finish stack (linked_below true stack h)
fits_finish (Sign d ∷ stack) h = fits_operators d stack (finish stack) (passed_statement stack h) ∙ fits_finish stack (linked_below true stack h)
fits_finish (Test d ∷ stack) h = fits_finish stack h
fits_finish (Block d ∷ stack) h = fits_finish stack h
fits_finish (BlockOr d ∷ stack) h = fits_block_or d stack (finish stack) (passed_operand stack h) ∙ fits_finish stack (linked_below true stack h)
fits_finish (ElseOr d ∷ stack) h = fits_else_or d stack (finish stack) (passed_statement stack h) ∙ fits_finish stack (linked_below true stack h)
fits_finish (ElseBody d ∷ stack) h = fits_finish stack (linked_below true stack h)
fits_finish (Operand a d ∷ stack) h = fits_operators a stack (finish stack) (passed_statement stack h) ∙ fits_finish stack (linked_below true stack h)
fits_finish (Suffix d ∷ stack) h = fits_suffix d stack (finish stack) (passed_operand stack h) ∙ fits_finish stack (linked_below true stack h)
fits_finish (Operators d ∷ stack) h = fits_operators d stack (finish stack) (passed_statement stack h) ∙ fits_finish stack (linked_below true stack h)
fits_finish (Args d ∷ stack) h = fits_finish stack h
fits_finish (MoreArgs d ∷ stack) h = fits_finish stack h
fits_finish (Items d ∷ stack) h = fits_finish stack h
fits_finish (MoreItems d ∷ stack) h = fits_finish stack h
fits_finish (Name ∷ stack) h = fits_finish stack h
fits_finish (CloseParen ∷ stack) h = fits_finish stack h
fits_finish (CloseBracket ∷ stack) h = fits_finish stack h
fits_finish (CloseBrace ∷ stack) h = fits_finish stack h
