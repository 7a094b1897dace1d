-- What the machine takes is spelled by some tree.
use Rattle.std.proofs.Common.{◌≡◌, ℕ, zero, suc, ◌+◌, ◌<◌, ◌≤◌, true, false, List, [], ◌∷◌, length, refl, ◌∙◌, subst, arith, inl, inr}
use Rattle.gn_tree.specs.declared.position.Position.{Position}
use Rattle.gn_tree.specs.declared.operator.AssignOp.{AssignOp}
use Rattle.gn_tree.specs.declared.operator.AssignOp.TheVariants as assign
use Rattle.gn_tree.specs.declared.operator.BinaryOp.{BinaryOp}
use Rattle.gn_tree.specs.declared.operator.BinaryOp.TheVariants as binary
use Rattle.gn_tree.specs.Tree.{ExprTree, name_expr, integer_expr, string_expr, boolean_expr, call_expr, item_expr, entry_expr, scope_expr, parentheses_expr, list_expr, not_expr, ExprTrees, no_exprs, expr_then, call_tree, BodyTree, no_body, some_body, TargetTree, name_target, item_target, entry_target, StatementTree, assign_statement, call_statement, condition_statement, condition_tree, OtherwiseTree, no_otherwise, else_block, else_if, BlockTree, no_statements, statement_then}
use Rattle.gn_tokens.specs.declared.token.TokenKind.{TokenKind}
use Rattle.gn_tokens.specs.declared.token.TokenKind.TheVariants as k
use Rattle.gn_tokens.specs.Number.{integer_value}
use Rattle.gn_grammar.specs.Lexemes.{Lexeme}
use Rattle.gn_grammar.specs.Pieces.{pieces_of}
use Rattle.gn_grammar.specs.Grammar.{mark_of, assign_mark, IsMark, IsKind, Encloses, Brackets, LastComma, Spells, SpellsList, SpellsMore, SpellsBody, SpellsTarget, SpellsStatement, SpellsOtherwise, SpellsStatements}
use Rattle.gn_grammar.specs.Machine.{Symbol, Statements, Head, Sign, Test, Block, BlockOr, ElseOr, ElseBody, Operand, Suffix, Operators, Args, MoreArgs, Items, MoreItems, Name, CloseParen, CloseBracket, CloseBrace}
use Rattle.gn_grammar.proofs.Fits.{absurd_false, fits}
use Rattle.gn_grammar.proofs.Longer.{Spells_weaker, one_le, longer}

-- the token, with this kind
abbrev as_kind : TokenKind → Lexeme → Lexeme
as_kind kind t = record { kind = kind; start = t.start; position = t.position; text = t.text }

this_mark : (kind : TokenKind) (t : Lexeme) (ts : List Lexeme) → IsMark kind t.position (as_kind kind t ∷ ts) ts
this_mark kind t ts = (t.text, (t.start, refl))

this_kind : (kind : TokenKind) (t : Lexeme) (ts : List Lexeme) → IsKind kind (as_kind kind t ∷ ts) ts
this_kind kind t ts = (t.position, (t.text, (t.start, refl)))

-- A token of this kind comes first, and the machine takes what is left.
abbrev Closed : TokenKind → List Symbol → List Lexeme → Type 0
Closed kind stack s = (rest : List Lexeme) × IsKind kind s rest × (fits stack rest ≡ true) × (length rest < length s)

close_paren_at : (stack : List Symbol) (kind : TokenKind) (t : Lexeme) (ts : List Lexeme) → fits (CloseParen ∷ stack) (as_kind kind t ∷ ts) ≡ true →
    Closed k.CloseParen stack (as_kind kind t ∷ ts)
close_paren_at stack k.CloseParen t ts h = (ts, this_kind k.CloseParen t ts, h, omega arith)
close_paren_at stack _ t ts h = absurd_false h

close_paren : (stack : List Symbol) (s : List Lexeme) → fits (CloseParen ∷ stack) s ≡ true → Closed k.CloseParen stack s
close_paren stack [] h = absurd_false h
close_paren stack (t ∷ ts) h = close_paren_at stack t.kind t ts h

close_bracket_at : (stack : List Symbol) (kind : TokenKind) (t : Lexeme) (ts : List Lexeme) → fits (CloseBracket ∷ stack) (as_kind kind t ∷ ts) ≡ true →
    Closed k.CloseBracket stack (as_kind kind t ∷ ts)
close_bracket_at stack k.CloseBracket t ts h = (ts, this_kind k.CloseBracket t ts, h, omega arith)
close_bracket_at stack _ t ts h = absurd_false h

close_bracket : (stack : List Symbol) (s : List Lexeme) → fits (CloseBracket ∷ stack) s ≡ true → Closed k.CloseBracket stack s
close_bracket stack [] h = absurd_false h
close_bracket stack (t ∷ ts) h = close_bracket_at stack t.kind t ts h

close_brace_at : (stack : List Symbol) (kind : TokenKind) (t : Lexeme) (ts : List Lexeme) → fits (CloseBrace ∷ stack) (as_kind kind t ∷ ts) ≡ true →
    Closed k.CloseBrace stack (as_kind kind t ∷ ts)
close_brace_at stack k.CloseBrace t ts h = (ts, this_kind k.CloseBrace t ts, h, omega arith)
close_brace_at stack _ t ts h = absurd_false h

close_brace : (stack : List Symbol) (s : List Lexeme) → fits (CloseBrace ∷ stack) s ≡ true → Closed k.CloseBrace stack s
close_brace stack [] h = absurd_false h
close_brace stack (t ∷ ts) h = close_brace_at stack t.kind t ts h

name_at : (stack : List Symbol) (kind : TokenKind) (t : Lexeme) (ts : List Lexeme) → fits (Name ∷ stack) (as_kind kind t ∷ ts) ≡ true →
    Closed k.Identifier stack (as_kind kind t ∷ ts)
name_at stack k.Identifier t ts h = (ts, this_kind k.Identifier t ts, h, omega arith)
name_at stack _ t ts h = absurd_false h

name_taken : (stack : List Symbol) (s : List Lexeme) → fits (Name ∷ stack) s ≡ true → Closed k.Identifier stack s
name_taken stack [] h = absurd_false h
name_taken stack (t ∷ ts) h = name_at stack t.kind t ts h

-- What stands first is spelled by some tree, and the machine takes what is left.
abbrev OperandOf : List Symbol → List Lexeme → Type 0
OperandOf stack s = (e : ExprTree) × (rest : List Lexeme) × Spells 6 e s rest × (fits stack rest ≡ true) × (length rest < length s)

abbrev ExprOf : List Symbol → List Lexeme → Type 0
ExprOf stack s = (e : ExprTree) × (rest : List Lexeme) × Spells 1 e s rest × (fits stack rest ≡ true) × (length rest < length s)

abbrev ArgsOf : List Symbol → List Lexeme → Type 0
ArgsOf stack s =
    (es : ExprTrees) × (mid : List Lexeme) × (rest : List Lexeme) × SpellsList es s mid × IsKind k.CloseParen mid rest × (fits stack rest ≡ true) × (length rest < length s)

abbrev MoreArgsOf : List Symbol → List Lexeme → Type 0
MoreArgsOf stack s =
    (es : ExprTrees) × (mid : List Lexeme) × (rest : List Lexeme) × SpellsMore es s mid × IsKind k.CloseParen mid rest × (fits stack rest ≡ true) × (length rest < length s)

abbrev ItemsOf : List Symbol → List Lexeme → Type 0
ItemsOf stack s =
    (es : ExprTrees) × (s1 : List Lexeme) × (s2 : List Lexeme) × (rest : List Lexeme) × SpellsList es s s1 × LastComma es s1 s2 × IsKind k.CloseBracket s2 rest
    × (fits stack rest ≡ true) × (length rest < length s)

abbrev StatementsOf : List Symbol → List Lexeme → Type 0
StatementsOf stack s = (b : BlockTree) × (rest : List Lexeme) × SpellsStatements b s rest × (fits stack rest ≡ true) × (length rest ≤ length s)

-- a condition behind its `if`
abbrev ConditionOf : List Symbol → List Lexeme → Type 0
ConditionOf stack s =
    (t : ExprTree) × (b : BlockTree) × (o : OtherwiseTree) × (s1 : List Lexeme) × (s2 : List Lexeme) × (rest : List Lexeme)
    × Brackets k.OpenParen (Spells 1 t) k.CloseParen s s1 × Brackets k.OpenBrace (SpellsStatements b) k.CloseBrace s1 s2 × SpellsOtherwise o s2 rest
    × (fits stack rest ≡ true) × (length rest < length s)

-- The same of all lists of tokens up to a length.
pub record Taken (n : ℕ) : Type 0 where
  pub operand : (a d : ℕ) (stack : List Symbol) (s : List Lexeme) → length s ≤ n → fits (Operand a d ∷ stack) s ≡ true → OperandOf (Operators a ∷ stack) s
  pub expr : (d : ℕ) (stack : List Symbol) (s : List Lexeme) → length s ≤ n → fits (Operand d d ∷ stack) s ≡ true → ExprOf stack s
  pub args : (d : ℕ) (stack : List Symbol) (s : List Lexeme) → length s ≤ n → fits (Args d ∷ stack) s ≡ true → ArgsOf stack s
  pub more_args : (d : ℕ) (stack : List Symbol) (s : List Lexeme) → length s ≤ n → fits (MoreArgs d ∷ stack) s ≡ true → MoreArgsOf stack s
  pub items : (d : ℕ) (stack : List Symbol) (s : List Lexeme) → length s ≤ n → fits (Items d ∷ stack) s ≡ true → ItemsOf stack s
  pub statements : (d : ℕ) (stack : List Symbol) (s : List Lexeme) → length s ≤ n → fits (Statements d ∷ stack) s ≡ true → StatementsOf stack s
  pub condition : (d : ℕ) (stack : List Symbol) (s : List Lexeme) → length s ≤ n → fits (Test d ∷ Block d ∷ ElseOr d ∷ stack) s ≡ true → ConditionOf stack s

-- what stands in braces, behind the opening one
abbrev BraceOf : List Symbol → List Lexeme → Type 0
BraceOf stack s =
    (b : BlockTree) × (mid : List Lexeme) × (rest : List Lexeme) × SpellsStatements b s mid × IsKind k.CloseBrace mid rest × (fits stack rest ≡ true) × (length rest < length s)

abbrev BlockOf : List Symbol → List Lexeme → Type 0
BlockOf stack s =
    (b : BlockTree) × (rest : List Lexeme) × Brackets k.OpenBrace (SpellsStatements b) k.CloseBrace s rest × (fits stack rest ≡ true) × (length rest < length s)

abbrev BodyOf : List Symbol → List Lexeme → Type 0
BodyOf stack s = (b : BodyTree) × (rest : List Lexeme) × SpellsBody b s rest × (fits stack rest ≡ true) × (length rest ≤ length s)

-- what stands behind the name of a call
abbrev CallOf : List Symbol → List Lexeme → Type 0
CallOf stack s =
    (es : ExprTrees) × (b : BodyTree) × (mid : List Lexeme) × (rest : List Lexeme) × Brackets k.OpenParen (SpellsList es) k.CloseParen s mid × SpellsBody b mid rest
    × (fits stack rest ≡ true) × (length rest < length s)

-- what stands in square brackets
abbrev IndexOf : Position → List Symbol → List Lexeme → Type 0
IndexOf p stack s =
    (i : ExprTree) × (rest : List Lexeme) × Encloses k.OpenBracket p (Spells 1 i) k.CloseBracket s rest × (fits stack rest ≡ true) × (length rest < length s)

-- an operand that begins with this name
abbrev NamedOf : Lexeme → List Symbol → List Lexeme → Type 0
NamedOf t stack ts = (e : ExprTree) × (rest : List Lexeme) × Spells 6 e (as_kind k.Identifier t ∷ ts) rest × (fits stack rest ≡ true) × (length rest ≤ length ts)

-- the mark of an assignment and its value
abbrev SignOf : List Symbol → List Lexeme → Type 0
SignOf stack s =
    (o : AssignOp) × (p : Position) × (v : ExprTree) × (mid : List Lexeme) × (rest : List Lexeme) × IsMark (assign_mark o) p s mid × Spells 1 v mid rest
    × (fits stack rest ≡ true) × (length rest < length s)

-- a statement that begins with this name
abbrev HeadOf : Lexeme → List Symbol → List Lexeme → Type 0
HeadOf t stack ts = (x : StatementTree) × (rest : List Lexeme) × SpellsStatement x (as_kind k.Identifier t ∷ ts) rest × (fits stack rest ≡ true) × (length rest ≤ length ts)

abbrev OtherwiseOf : List Symbol → List Lexeme → Type 0
OtherwiseOf stack s = (o : OtherwiseTree) × (rest : List Lexeme) × SpellsOtherwise o s rest × (fits stack rest ≡ true) × (length rest ≤ length s)

-- operators and operands behind an expression
abbrev ChainOf : List Symbol → List Lexeme → List Lexeme → Type 0
ChainOf stack s mid = (e : ExprTree) × (rest : List Lexeme) × Spells 1 e s rest × (fits stack rest ≡ true) × (length rest ≤ length mid)

abbrev ChainTaken : ℕ → ℕ → Type 0
ChainTaken n m = (left : ExprTree) (a : ℕ) (stack : List Symbol) (s mid : List Lexeme) → length mid ≤ m → length mid ≤ n + 1 →
    Spells 1 left s mid → fits (Operators a ∷ stack) mid ≡ true → ChainOf stack s mid

-- Items behind a comma are more items, or the comma is the last.
comma_items : (x : ExprTree) (es : ExprTrees) (mid ts s1 s2 : List Lexeme) → IsKind k.Comma mid ts → SpellsList es ts s1 → LastComma es s1 s2 →
    (r : List Lexeme) × SpellsMore es mid r × LastComma (expr_then x es) r s2
comma_items x no_exprs mid ts s1 s2 c h l = (mid, refl, inr (subst (λ r. IsKind k.Comma mid r) (h ∙ l) c))
comma_items x (expr_then y ys) mid ts s1 s2 c h l = (s1, (ts, h.0, c, h.1, h.2), l)

module _ (n : ℕ) (ih : Taken n) where
  brace_taken : (d : ℕ) (stack : List Symbol) (s : List Lexeme) → length s ≤ n → fits (Statements d ∷ CloseBrace ∷ stack) s ≡ true → BraceOf stack s
  brace_taken d stack s le h =
      let x = ih.statements d (CloseBrace ∷ stack) s le h in
      let c = close_brace stack x.1 x.3 in
      (x.0, x.1, c.0, x.2, c.1, c.2, omega (arith, x.4, c.3))

  brace_block : (d : ℕ) (stack : List Symbol) (t : Lexeme) (ts : List Lexeme) → length ts ≤ n → fits (Statements d ∷ CloseBrace ∷ stack) ts ≡ true →
      BlockOf stack (as_kind k.OpenBrace t ∷ ts)
  brace_block d stack t ts le h =
      let x = brace_taken d stack ts le h in
      (x.0, x.2, (t.position, (ts, x.1, this_mark k.OpenBrace t ts, x.3, x.4)), x.5, omega (arith, x.6))

  block_at : (d : ℕ) (stack : List Symbol) (kind : TokenKind) (t : Lexeme) (ts : List Lexeme) → length ts ≤ n → fits (Block d ∷ stack) (as_kind kind t ∷ ts) ≡ true →
      BlockOf stack (as_kind kind t ∷ ts)
  block_at d stack k.OpenBrace t ts le h = brace_block (d + 1) stack t ts le h
  block_at d stack _ t ts le h = absurd_false h

  block_taken : (d : ℕ) (stack : List Symbol) (s : List Lexeme) → length s ≤ n → fits (Block d ∷ stack) s ≡ true → BlockOf stack s
  block_taken d stack [] le h = absurd_false h
  block_taken d stack (t ∷ ts) le h = block_at d stack t.kind t ts (omega arith) h

  body_at : (d : ℕ) (stack : List Symbol) (kind : TokenKind) (t : Lexeme) (ts : List Lexeme) → length ts ≤ n → fits (BlockOr d ∷ stack) (as_kind kind t ∷ ts) ≡ true →
      BodyOf stack (as_kind kind t ∷ ts)
  body_at d stack k.OpenBrace t ts le h = let x = brace_block (d + 1) stack t ts le h in (some_body x.0, x.1, x.2, x.3, omega (arith, x.4))
  body_at d stack kind t ts le h = (no_body, as_kind kind t ∷ ts, refl, h, omega arith)

  body_taken : (d : ℕ) (stack : List Symbol) (s : List Lexeme) → length s ≤ n → fits (BlockOr d ∷ stack) s ≡ true → BodyOf stack s
  body_taken d stack [] le h = (no_body, [], refl, h, omega arith)
  body_taken d stack (t ∷ ts) le h = body_at d stack t.kind t ts (omega arith) h

  call_taken : (d : ℕ) (stack : List Symbol) (t : Lexeme) (ts : List Lexeme) → length ts ≤ n → fits (Args (d + 1) ∷ BlockOr d ∷ stack) ts ≡ true →
      CallOf stack (as_kind k.OpenParen t ∷ ts)
  call_taken d stack t ts le h =
      let x = ih.args (d + 1) (BlockOr d ∷ stack) ts le h in
      let b = body_taken d stack x.2 (omega (arith, x.6)) x.5 in
      (x.0, b.0, x.2, b.1, (t.position, (ts, x.1, this_mark k.OpenParen t ts, x.3, x.4)), b.2, b.3, omega (arith, x.6, b.4))

  index_taken : (d : ℕ) (stack : List Symbol) (t : Lexeme) (ts : List Lexeme) → length ts ≤ n → fits (Operand d d ∷ CloseBracket ∷ stack) ts ≡ true →
      IndexOf t.position stack (as_kind k.OpenBracket t ∷ ts)
  index_taken d stack t ts le h =
      let x = ih.expr d (CloseBracket ∷ stack) ts le h in
      let c = close_bracket stack x.1 x.3 in
      (x.0, c.0, (ts, x.1, this_mark k.OpenBracket t ts, x.2, c.1), c.2, omega (arith, x.4, c.3))

  suffix_at : (d : ℕ) (stack : List Symbol) (t : Lexeme) (kind : TokenKind) (u : Lexeme) (us : List Lexeme) → length us ≤ n →
      fits (Suffix d ∷ stack) (as_kind kind u ∷ us) ≡ true → NamedOf t stack (as_kind kind u ∷ us)
  suffix_at d stack t k.OpenParen u us le h =
      let x = call_taken d stack u us le h in
      (call_expr (call_tree t.position t.text x.0 x.1), x.3, (as_kind k.OpenParen u ∷ us, x.2, (t.start, refl), x.4, x.5), x.6, omega (arith, x.7))
  suffix_at d stack t k.OpenBracket u us le h =
      let x = index_taken (d + 1) stack u us le h in
      (item_expr t.position t.text u.position x.0, x.1, (as_kind k.OpenBracket u ∷ us, (t.start, refl), x.2), x.3, omega (arith, x.4))
  suffix_at d stack t k.Dot u us le h =
      let x = name_taken stack us h in
      (entry_expr t.position t.text u.position x.1.1.0, x.0, (as_kind k.Dot u ∷ us, us, x.1.0, (t.start, refl), this_mark k.Dot u us, x.1.1.1), x.2, omega (arith, x.3))
  suffix_at d stack t kind u us le h = (name_expr t.position t.text, as_kind kind u ∷ us, (t.start, refl), h, omega arith)

  suffix_taken : (d : ℕ) (stack : List Symbol) (t : Lexeme) (ts : List Lexeme) → length ts ≤ n → fits (Suffix d ∷ stack) ts ≡ true → NamedOf t stack ts
  suffix_taken d stack t [] le h = (name_expr t.position t.text, [], (t.start, refl), h, omega arith)
  suffix_taken d stack t (u ∷ us) le h = suffix_at d stack t u.kind u us (omega arith) h

  operand_at : (a d : ℕ) (stack : List Symbol) (kind : TokenKind) (t : Lexeme) (ts : List Lexeme) → length ts ≤ n →
      fits (Operand a d ∷ stack) (as_kind kind t ∷ ts) ≡ true → OperandOf (Operators a ∷ stack) (as_kind kind t ∷ ts)
  operand_at a d stack k.Identifier t ts le h =
      let x = suffix_taken d (Operators a ∷ stack) t ts le h in (x.0, x.1, x.2, x.3, omega (arith, x.4))
  operand_at a d stack k.Integer t ts le h = (integer_expr t.position (integer_value t.text), ts, (t.text, (t.start, refl), refl), h, omega arith)
  operand_at a d stack k.Str t ts le h = (string_expr t.position (pieces_of t.position t.text), ts, (t.text, (t.start, refl), refl), h, omega arith)
  operand_at a d stack k.True t ts le h = (boolean_expr t.position true, ts, (t.text, (t.start, refl)), h, omega arith)
  operand_at a d stack k.False t ts le h = (boolean_expr t.position false, ts, (t.text, (t.start, refl)), h, omega arith)
  operand_at a d stack k.Not t ts le h =
      let x = ih.operand a (d + 1) stack ts le h in
      (not_expr t.position x.0, x.1, (ts, this_mark k.Not t ts, x.2), x.3, omega (arith, x.4))
  operand_at a d stack k.OpenParen t ts le h =
      let x = ih.expr (d + 1) (CloseParen ∷ Operators a ∷ stack) ts le h in
      let c = close_paren (Operators a ∷ stack) x.1 x.3 in
      (parentheses_expr t.position x.0, c.0, (ts, x.1, this_mark k.OpenParen t ts, x.2, c.1), c.2, omega (arith, x.4, c.3))
  operand_at a d stack k.OpenBracket t ts le h =
      let x = ih.items (d + 1) (Operators a ∷ stack) ts le h in
      (list_expr t.position x.0, x.3, (ts, x.2, this_mark k.OpenBracket t ts, (x.1, x.4, x.5), x.6), x.7, omega (arith, x.8))
  operand_at a d stack k.OpenBrace t ts le h =
      let x = brace_taken (d + 1) (Operators a ∷ stack) ts le h in
      (scope_expr t.position x.0, x.2, (ts, x.1, this_mark k.OpenBrace t ts, x.3, x.4), x.5, omega (arith, x.6))
  operand_at a d stack _ t ts le h = absurd_false h

  operand_more : (a d : ℕ) (stack : List Symbol) (s : List Lexeme) → length s ≤ suc n → fits (Operand a d ∷ stack) s ≡ true → OperandOf (Operators a ∷ stack) s
  operand_more a d stack [] le h = absurd_false h
  operand_more a d stack (t ∷ ts) le h = operand_at a d stack t.kind t ts (omega arith) h

  chain_on : (m : ℕ) → ChainTaken n m → (left : ExprTree) (a : ℕ) (stack : List Symbol) (s ts : List Lexeme) → length ts ≤ m → length ts ≤ n →
      (o : BinaryOp) (t : Lexeme) → Spells 1 left s (as_kind (mark_of o) t ∷ ts) → fits (Operand (a + 1) (a + 1) ∷ stack) ts ≡ true →
      ChainOf stack s (as_kind (mark_of o) t ∷ ts)
  chain_on m again left a stack s ts le le2 o t sp h =
      let x = ih.operand (a + 1) (a + 1) stack ts le2 h in
      let both = longer o 1 t.position left x.0 s (as_kind (mark_of o) t ∷ ts) ts x.1 (one_le o) sp (this_mark (mark_of o) t ts) x.2 in
      let y = again both.0 (a + 1) stack s x.1 (omega (arith, x.4)) (omega (arith, x.4)) both.1 x.3 in
      (y.0, y.1, y.2, y.3, omega (arith, y.4, x.4))

  chain_at : (m : ℕ) → ChainTaken n m → (left : ExprTree) (a : ℕ) (stack : List Symbol) (s ts : List Lexeme) → length ts ≤ m → length ts ≤ n →
      (kind : TokenKind) (t : Lexeme) → Spells 1 left s (as_kind kind t ∷ ts) → fits (Operators a ∷ stack) (as_kind kind t ∷ ts) ≡ true →
      ChainOf stack s (as_kind kind t ∷ ts)
  chain_at m again left a stack s ts le le2 k.Plus t sp h = chain_on m again left a stack s ts le le2 binary.Add t sp h
  chain_at m again left a stack s ts le le2 k.Minus t sp h = chain_on m again left a stack s ts le le2 binary.Subtract t sp h
  chain_at m again left a stack s ts le le2 k.Less t sp h = chain_on m again left a stack s ts le le2 binary.Less t sp h
  chain_at m again left a stack s ts le le2 k.LessEqual t sp h = chain_on m again left a stack s ts le le2 binary.LessEqual t sp h
  chain_at m again left a stack s ts le le2 k.Greater t sp h = chain_on m again left a stack s ts le le2 binary.Greater t sp h
  chain_at m again left a stack s ts le le2 k.GreaterEqual t sp h = chain_on m again left a stack s ts le le2 binary.GreaterEqual t sp h
  chain_at m again left a stack s ts le le2 k.Equal t sp h = chain_on m again left a stack s ts le le2 binary.Equal t sp h
  chain_at m again left a stack s ts le le2 k.NotEqual t sp h = chain_on m again left a stack s ts le le2 binary.NotEqual t sp h
  chain_at m again left a stack s ts le le2 k.And t sp h = chain_on m again left a stack s ts le le2 binary.And t sp h
  chain_at m again left a stack s ts le le2 k.Or t sp h = chain_on m again left a stack s ts le le2 binary.Or t sp h
  chain_at m again left a stack s ts le le2 kind t sp h = (left, as_kind kind t ∷ ts, sp, h, omega arith)

  -- The operators and operands behind an expression make it longer.
  chain : (m : ℕ) → ChainTaken n m
  chain m left a stack s [] le le2 sp h = (left, [], sp, h, omega arith)
  chain zero left a stack s (t ∷ ts) le le2 sp h = absurd (omega arith)
  chain (suc m) left a stack s (t ∷ ts) le le2 sp h = chain_at m (chain m) left a stack s ts (omega arith) (omega arith) t.kind t sp h

  expr_more : (d : ℕ) (stack : List Symbol) (s : List Lexeme) → length s ≤ suc n → fits (Operand d d ∷ stack) s ≡ true → ExprOf stack s
  expr_more d stack s le h =
      let x = operand_more d d stack s le h in
      let y = chain (length x.1) x.0 d stack s x.1 (omega arith) (omega (arith, x.4)) (Spells_weaker 6 1 x.0 s x.1 (omega arith) x.2) x.3 in
      (y.0, y.1, y.2, y.3, omega (arith, y.4, x.4))

  more_args_at : (d : ℕ) (stack : List Symbol) (kind : TokenKind) (t : Lexeme) (ts : List Lexeme) → length ts ≤ n →
      fits (MoreArgs d ∷ stack) (as_kind kind t ∷ ts) ≡ true → MoreArgsOf stack (as_kind kind t ∷ ts)
  more_args_at d stack k.CloseParen t ts le h = (no_exprs, as_kind k.CloseParen t ∷ ts, ts, refl, this_kind k.CloseParen t ts, h, omega arith)
  more_args_at d stack k.Comma t ts le h =
      let x = ih.expr d (MoreArgs d ∷ stack) ts le h in
      let y = ih.more_args d stack x.1 (omega (arith, x.4)) x.3 in
      (expr_then x.0 y.0, y.1, y.2, (ts, x.1, this_kind k.Comma t ts, x.2, y.3), y.4, y.5, omega (arith, x.4, y.6))
  more_args_at d stack _ t ts le h = absurd_false h

  more_args_more : (d : ℕ) (stack : List Symbol) (s : List Lexeme) → length s ≤ suc n → fits (MoreArgs d ∷ stack) s ≡ true → MoreArgsOf stack s
  more_args_more d stack [] le h = absurd_false h
  more_args_more d stack (t ∷ ts) le h = more_args_at d stack t.kind t ts (omega arith) h

  arg_taken : (d : ℕ) (stack : List Symbol) (s : List Lexeme) → length s ≤ suc n → fits (Operand d d ∷ MoreArgs d ∷ stack) s ≡ true → ArgsOf stack s
  arg_taken d stack s le h =
      let x = expr_more d (MoreArgs d ∷ stack) s le h in
      let y = ih.more_args d stack x.1 (omega (arith, x.4)) x.3 in
      (expr_then x.0 y.0, y.1, y.2, (x.1, x.2, y.3), y.4, y.5, omega (arith, x.4, y.6))

  args_at : (d : ℕ) (stack : List Symbol) (kind : TokenKind) (t : Lexeme) (ts : List Lexeme) → length ts ≤ n →
      fits (Args d ∷ stack) (as_kind kind t ∷ ts) ≡ true → ArgsOf stack (as_kind kind t ∷ ts)
  args_at d stack k.CloseParen t ts le h = (no_exprs, as_kind k.CloseParen t ∷ ts, ts, refl, this_kind k.CloseParen t ts, h, omega arith)
  args_at d stack kind t ts le h = arg_taken d stack (as_kind kind t ∷ ts) (omega arith) h

  args_more : (d : ℕ) (stack : List Symbol) (s : List Lexeme) → length s ≤ suc n → fits (Args d ∷ stack) s ≡ true → ArgsOf stack s
  args_more d stack [] le h = absurd_false h
  args_more d stack (t ∷ ts) le h = args_at d stack t.kind t ts (omega arith) h

  -- what stands behind an item
  more_items_at : (d : ℕ) (x : ExprTree) (stack : List Symbol) (s : List Lexeme) (kind : TokenKind) (t : Lexeme) (ts : List Lexeme) → length ts ≤ n →
      length ts < length s → Spells 1 x s (as_kind kind t ∷ ts) → fits (MoreItems d ∷ stack) (as_kind kind t ∷ ts) ≡ true → ItemsOf stack s
  more_items_at d x stack s k.CloseBracket t ts le lt sp h = (
    expr_then x no_exprs,
    as_kind k.CloseBracket t ∷ ts,
    as_kind k.CloseBracket t ∷ ts,
    ts,
    (as_kind k.CloseBracket t ∷ ts, sp, refl),
    inl refl,
    this_kind k.CloseBracket t ts,
    h,
    lt,
  )
  more_items_at d x stack s k.Comma t ts le lt sp h =
      let y = ih.items d stack ts le h in
      let r = comma_items x y.0 (as_kind k.Comma t ∷ ts) ts y.1 y.2 (this_kind k.Comma t ts) y.4 y.5 in
      (expr_then x y.0, r.0, y.2, y.3, (as_kind k.Comma t ∷ ts, sp, r.1), r.2, y.6, y.7, omega (arith, y.8))
  more_items_at d x stack s _ t ts le lt sp h = absurd_false h

  more_items_taken : (d : ℕ) (x : ExprTree) (stack : List Symbol) (s mid : List Lexeme) → length mid ≤ n → length mid < length s → Spells 1 x s mid →
      fits (MoreItems d ∷ stack) mid ≡ true → ItemsOf stack s
  more_items_taken d x stack s [] le lt sp h = absurd_false h
  more_items_taken d x stack s (t ∷ ts) le lt sp h = more_items_at d x stack s t.kind t ts (omega arith) (omega arith) sp h

  item_taken : (d : ℕ) (stack : List Symbol) (s : List Lexeme) → length s ≤ suc n → fits (Operand d d ∷ MoreItems d ∷ stack) s ≡ true → ItemsOf stack s
  item_taken d stack s le h =
      let x = expr_more d (MoreItems d ∷ stack) s le h in
      more_items_taken d x.0 stack s x.1 (omega (arith, x.4)) x.4 x.2 x.3

  items_at : (d : ℕ) (stack : List Symbol) (kind : TokenKind) (t : Lexeme) (ts : List Lexeme) → length ts ≤ n →
      fits (Items d ∷ stack) (as_kind kind t ∷ ts) ≡ true → ItemsOf stack (as_kind kind t ∷ ts)
  items_at d stack k.CloseBracket t ts le h =
      (no_exprs, as_kind k.CloseBracket t ∷ ts, as_kind k.CloseBracket t ∷ ts, ts, refl, refl, this_kind k.CloseBracket t ts, h, omega arith)
  items_at d stack kind t ts le h = item_taken d stack (as_kind kind t ∷ ts) (omega arith) h

  items_more : (d : ℕ) (stack : List Symbol) (s : List Lexeme) → length s ≤ suc n → fits (Items d ∷ stack) s ≡ true → ItemsOf stack s
  items_more d stack [] le h = absurd_false h
  items_more d stack (t ∷ ts) le h = items_at d stack t.kind t ts (omega arith) h

  sign_on : (o : AssignOp) (d : ℕ) (stack : List Symbol) (t : Lexeme) (ts : List Lexeme) → length ts ≤ n → fits (Operand d d ∷ stack) ts ≡ true →
      SignOf stack (as_kind (assign_mark o) t ∷ ts)
  sign_on o d stack t ts le h =
      let x = ih.expr d stack ts le h in (o, t.position, x.0, ts, x.1, this_mark (assign_mark o) t ts, x.2, x.3, omega (arith, x.4))

  sign_at : (d : ℕ) (stack : List Symbol) (kind : TokenKind) (t : Lexeme) (ts : List Lexeme) → length ts ≤ n → fits (Sign d ∷ stack) (as_kind kind t ∷ ts) ≡ true →
      SignOf stack (as_kind kind t ∷ ts)
  sign_at d stack k.Assign t ts le h = sign_on assign.Set d stack t ts le h
  sign_at d stack k.AddAssign t ts le h = sign_on assign.Add d stack t ts le h
  sign_at d stack k.SubAssign t ts le h = sign_on assign.Subtract d stack t ts le h
  sign_at d stack _ t ts le h = absurd_false h

  sign_taken : (d : ℕ) (stack : List Symbol) (s : List Lexeme) → length s ≤ n → fits (Sign d ∷ stack) s ≡ true → SignOf stack s
  sign_taken d stack [] le h = absurd_false h
  sign_taken d stack (t ∷ ts) le h = sign_at d stack t.kind t ts (omega arith) h

  assigned : (t : Lexeme) (stack : List Symbol) (ts mid : List Lexeme) (target : TargetTree) → SpellsTarget target (as_kind k.Identifier t ∷ ts) mid →
      length mid ≤ length ts → SignOf stack mid → HeadOf t stack ts
  assigned t stack ts mid target sp le x =
      (assign_statement target x.0 x.1 x.2, x.4, (mid, x.3, sp, x.5, x.6), x.7, omega (arith, x.8))

  head_at : (d : ℕ) (stack : List Symbol) (t : Lexeme) (kind : TokenKind) (u : Lexeme) (us : List Lexeme) → length us ≤ n →
      fits (Head d ∷ stack) (as_kind kind u ∷ us) ≡ true → HeadOf t stack (as_kind kind u ∷ us)
  head_at d stack t k.OpenParen u us le h =
      let x = call_taken d stack u us le h in
      (call_statement (call_tree t.position t.text x.0 x.1), x.3, (as_kind k.OpenParen u ∷ us, x.2, (t.start, refl), x.4, x.5), x.6, omega (arith, x.7))
  head_at d stack t k.OpenBracket u us le h =
      let x = index_taken (d + 1) (Sign d ∷ stack) u us le h in
      assigned t stack (as_kind k.OpenBracket u ∷ us) x.1 (item_target t.position t.text u.position x.0) (as_kind k.OpenBracket u ∷ us, (t.start, refl), x.2)
      (omega (arith, x.4)) (sign_taken d stack x.1 (omega (arith, x.4)) x.3)
  head_at d stack t k.Dot u us le h =
      let x = name_taken (Sign d ∷ stack) us h in
      assigned t stack (as_kind k.Dot u ∷ us) x.0 (entry_target t.position t.text u.position x.1.1.0)
      (as_kind k.Dot u ∷ us, us, x.1.0, (t.start, refl), this_mark k.Dot u us, x.1.1.1) (omega (arith, x.3)) (sign_taken d stack x.0 (omega (arith, x.3)) x.2)
  head_at d stack t kind u us le h =
      assigned t stack (as_kind kind u ∷ us) (as_kind kind u ∷ us) (name_target t.position t.text) (t.start, refl) (omega arith) (sign_at d stack kind u us le h)

  head_taken : (d : ℕ) (stack : List Symbol) (t : Lexeme) (ts : List Lexeme) → length ts ≤ n → fits (Head d ∷ stack) ts ≡ true → HeadOf t stack ts
  head_taken d stack t [] le h = absurd_false h
  head_taken d stack t (u ∷ us) le h = head_at d stack t u.kind u us (omega arith) h

  statements_at : (d : ℕ) (stack : List Symbol) (kind : TokenKind) (t : Lexeme) (ts : List Lexeme) → length ts ≤ n →
      fits (Statements d ∷ stack) (as_kind kind t ∷ ts) ≡ true → StatementsOf stack (as_kind kind t ∷ ts)
  statements_at d stack k.Identifier t ts le h =
      let x = head_taken d (Statements d ∷ stack) t ts le h in
      let y = ih.statements d stack x.1 (omega (arith, x.4)) x.3 in
      (statement_then x.0 y.0, y.1, (x.1, x.2, y.2), y.3, omega (arith, x.4, y.4))
  statements_at d stack k.If t ts le h =
      let x = ih.condition d (Statements d ∷ stack) ts le h in
      let y = ih.statements d stack x.5 (omega (arith, x.10)) x.9 in (
        statement_then (condition_statement (condition_tree x.0 x.1 x.2)) y.0,
        y.1,
        (x.5, (ts, x.3, x.4, this_kind k.If t ts, x.6, x.7, x.8), y.2),
        y.3,
        omega (arith, x.10, y.4),
      )
  statements_at d stack kind t ts le h = (no_statements, as_kind kind t ∷ ts, refl, h, omega arith)

  statements_more : (d : ℕ) (stack : List Symbol) (s : List Lexeme) → length s ≤ suc n → fits (Statements d ∷ stack) s ≡ true → StatementsOf stack s
  statements_more d stack [] le h = (no_statements, [], refl, h, omega arith)
  statements_more d stack (t ∷ ts) le h = statements_at d stack t.kind t ts (omega arith) h

  else_body_at : (d : ℕ) (stack : List Symbol) (e : Lexeme) (kind : TokenKind) (t : Lexeme) (ts : List Lexeme) → length ts ≤ n →
      fits (ElseBody d ∷ stack) (as_kind kind t ∷ ts) ≡ true → OtherwiseOf stack (as_kind k.Else e ∷ as_kind kind t ∷ ts)
  else_body_at d stack e k.If t ts le h =
      let x = ih.condition (d + 1) stack ts le h in (
        else_if (condition_tree x.0 x.1 x.2),
        x.5,
        (as_kind k.If t ∷ ts, this_kind k.Else e (as_kind k.If t ∷ ts), (ts, x.3, x.4, this_kind k.If t ts, x.6, x.7, x.8)),
        x.9,
        omega (arith, x.10),
      )
  else_body_at d stack e k.OpenBrace t ts le h =
      let x = brace_block (d + 1) stack t ts le h in
      (else_block x.0, x.1, (as_kind k.OpenBrace t ∷ ts, this_kind k.Else e (as_kind k.OpenBrace t ∷ ts), x.2), x.3, omega (arith, x.4))
  else_body_at d stack e _ t ts le h = absurd_false h

  else_body_taken : (d : ℕ) (stack : List Symbol) (e : Lexeme) (ts : List Lexeme) → length ts ≤ n → fits (ElseBody d ∷ stack) ts ≡ true →
      OtherwiseOf stack (as_kind k.Else e ∷ ts)
  else_body_taken d stack e [] le h = absurd_false h
  else_body_taken d stack e (t ∷ ts) le h = else_body_at d stack e t.kind t ts (omega arith) h

  otherwise_at : (d : ℕ) (stack : List Symbol) (kind : TokenKind) (t : Lexeme) (ts : List Lexeme) → length ts ≤ n →
      fits (ElseOr d ∷ stack) (as_kind kind t ∷ ts) ≡ true → OtherwiseOf stack (as_kind kind t ∷ ts)
  otherwise_at d stack k.Else t ts le h = else_body_taken d stack t ts le h
  otherwise_at d stack kind t ts le h = (no_otherwise, as_kind kind t ∷ ts, refl, h, omega arith)

  otherwise_taken : (d : ℕ) (stack : List Symbol) (s : List Lexeme) → length s ≤ n → fits (ElseOr d ∷ stack) s ≡ true → OtherwiseOf stack s
  otherwise_taken d stack [] le h = (no_otherwise, [], refl, h, omega arith)
  otherwise_taken d stack (t ∷ ts) le h = otherwise_at d stack t.kind t ts (omega arith) h

  condition_at : (d : ℕ) (stack : List Symbol) (kind : TokenKind) (t : Lexeme) (ts : List Lexeme) → length ts ≤ n →
      fits (Test d ∷ Block d ∷ ElseOr d ∷ stack) (as_kind kind t ∷ ts) ≡ true → ConditionOf stack (as_kind kind t ∷ ts)
  condition_at d stack k.OpenParen t ts le h =
      let x = ih.expr (d + 1) (CloseParen ∷ Block d ∷ ElseOr d ∷ stack) ts le h in
      let c = close_paren (Block d ∷ ElseOr d ∷ stack) x.1 x.3 in
      let b = block_taken d (ElseOr d ∷ stack) c.0 (omega (arith, x.4, c.3)) c.2 in
      let o = otherwise_taken d stack b.1 (omega (arith, x.4, c.3, b.4)) b.3 in
      (x.0, b.0, o.0, c.0, b.1, o.1, (t.position, (ts, x.1, this_mark k.OpenParen t ts, x.2, c.1)), b.2, o.2, o.3, omega (arith, x.4, c.3, b.4, o.4))
  condition_at d stack _ t ts le h = absurd_false h

  condition_more : (d : ℕ) (stack : List Symbol) (s : List Lexeme) → length s ≤ suc n → fits (Test d ∷ Block d ∷ ElseOr d ∷ stack) s ≡ true → ConditionOf stack s
  condition_more d stack [] le h = absurd_false h
  condition_more d stack (t ∷ ts) le h = condition_at d stack t.kind t ts (omega arith) h

no_operand : (a d : ℕ) (stack : List Symbol) (s : List Lexeme) → length s ≤ 0 → fits (Operand a d ∷ stack) s ≡ true → OperandOf (Operators a ∷ stack) s
no_operand a d stack [] le h = absurd_false h
no_operand a d stack (t ∷ ts) le h = absurd (omega arith)

no_expr : (d : ℕ) (stack : List Symbol) (s : List Lexeme) → length s ≤ 0 → fits (Operand d d ∷ stack) s ≡ true → ExprOf stack s
no_expr d stack [] le h = absurd_false h
no_expr d stack (t ∷ ts) le h = absurd (omega arith)

no_args : (d : ℕ) (stack : List Symbol) (s : List Lexeme) → length s ≤ 0 → fits (Args d ∷ stack) s ≡ true → ArgsOf stack s
no_args d stack [] le h = absurd_false h
no_args d stack (t ∷ ts) le h = absurd (omega arith)

no_more_args : (d : ℕ) (stack : List Symbol) (s : List Lexeme) → length s ≤ 0 → fits (MoreArgs d ∷ stack) s ≡ true → MoreArgsOf stack s
no_more_args d stack [] le h = absurd_false h
no_more_args d stack (t ∷ ts) le h = absurd (omega arith)

no_items : (d : ℕ) (stack : List Symbol) (s : List Lexeme) → length s ≤ 0 → fits (Items d ∷ stack) s ≡ true → ItemsOf stack s
no_items d stack [] le h = absurd_false h
no_items d stack (t ∷ ts) le h = absurd (omega arith)

none_taken : (d : ℕ) (stack : List Symbol) (s : List Lexeme) → length s ≤ 0 → fits (Statements d ∷ stack) s ≡ true → StatementsOf stack s
none_taken d stack [] le h = (no_statements, [], refl, h, omega arith)
none_taken d stack (t ∷ ts) le h = absurd (omega arith)

no_condition : (d : ℕ) (stack : List Symbol) (s : List Lexeme) → length s ≤ 0 → fits (Test d ∷ Block d ∷ ElseOr d ∷ stack) s ≡ true → ConditionOf stack s
no_condition d stack [] le h = absurd_false h
no_condition d stack (t ∷ ts) le h = absurd (omega arith)

pub taken : (n : ℕ) → Taken n
taken zero = record {
  operand = no_operand;
  expr = no_expr;
  args = no_args;
  more_args = no_more_args;
  items = no_items;
  statements = none_taken;
  condition = no_condition;
}
taken (suc n) =
    let ih = taken n in
    record {
      operand = operand_more n ih;
      expr = expr_more n ih;
      args = args_more n ih;
      more_args = more_args_more n ih;
      items = items_more n ih;
      statements = statements_more n ih;
      condition = condition_more n ih;
    }
