-- What the grammar spells the machine takes, with the nestings of the tree.
use Rattle.std.proofs.Common.{◌≡◌, ℕ, ◌+◌, ◌≤◌, Bool, true, false, List, [], ◌∷◌, ◌++◌, ◌⊎◌, Option, Some, None, refl, sym, ◌∙◌, ap, arith, inl, inr, add-one, append_assoc}
use Rattle.gn_tree.specs.declared.position.Position.{Position}
use Rattle.gn_tree.specs.declared.operator.BinaryOp.{BinaryOp}
use Rattle.gn_tree.specs.Tree.{ExprTree, name_expr, integer_expr, string_expr, boolean_expr, call_expr, item_expr, entry_expr, scope_expr, parentheses_expr, list_expr, not_expr, binary_expr, ExprTrees, no_exprs, expr_then, CallTree, call_tree, BodyTree, no_body, some_body, TargetTree, name_target, item_target, entry_target, StatementTree, assign_statement, call_statement, condition_statement, ConditionTree, condition_tree, OtherwiseTree, no_otherwise, else_block, else_if, BlockTree, no_statements, statement_then}
use Rattle.gn_tokens.specs.declared.token.TokenKind.{TokenKind}
use Rattle.gn_tokens.specs.declared.token.TokenKind.TheVariants as k
use Rattle.gn_grammar.specs.Lexemes.{Lexeme}
use Rattle.gn_grammar.specs.Grammar.{priority, mark_of, assign_mark, boolean_word, IsKind, Encloses, LastComma, Spells, SpellsList, SpellsMore, SpellsCall, SpellsBody, SpellsTarget, SpellsStatement, SpellsCondition, SpellsOtherwise, SpellsStatements}
use Rattle.gn_grammar.specs.Machine.{Symbol, Statements, Head, Sign, Test, Block, BlockOr, ElseOr, ElseBody, Operand, Suffix, Operators, Args, MoreArgs, Items, MoreItems, Name, CloseParen, CloseBracket, CloseBrace, next, is_done, whole_file}
use Rattle.gn_grammar.specs.Nesting.{operators_of, expr_nestings, list_nestings, call_nestings, body_nestings, target_nestings, statement_nestings, condition_nestings, otherwise_nestings, block_nestings, counting}
use Rattle.gn_grammar.proofs.Fits.{absurd_false, fits, fits_after, front, is_behind_operand, is_behind_statement, begins_expr, behind_statement_operand, next_suffix, next_block_or, next_operators, next_else_or, next_arg, next_item, next_mark, next_sign, next_head, next_boolean, mark_behind, no_six}

boolean_begins : (b : Bool) → begins_expr (Some (boolean_word b)) ≡ true
boolean_begins true = refl
boolean_begins false = refl

-- An expression begins as one does.
pub begins : (least : ℕ) (e : ExprTree) (s rest : List Lexeme) → Spells least e s rest → begins_expr (front s) ≡ true
begins least (name_expr p n) s rest h = ap (λ x. begins_expr (front x)) h.1
begins least (integer_expr p v) s rest h = ap (λ x. begins_expr (front x)) h.1.1
begins least (string_expr p ps) s rest h = ap (λ x. begins_expr (front x)) h.1.1
begins least (boolean_expr p b) s rest h = ap (λ x. begins_expr (front x)) h.1.1 ∙ boolean_begins b
begins least (call_expr (call_tree p n es b)) s rest h = ap (λ x. begins_expr (front x)) h.2.1
begins least (item_expr p n b i) s rest h = ap (λ x. begins_expr (front x)) h.1.1
begins least (entry_expr p n d e) s rest h = ap (λ x. begins_expr (front x)) h.3.1
begins least (scope_expr p b) s rest h = ap (λ x. begins_expr (front x)) h.2.1.1
begins least (parentheses_expr p e) s rest h = ap (λ x. begins_expr (front x)) h.2.1.1
begins least (list_expr p es) s rest h = ap (λ x. begins_expr (front x)) h.2.1.1
begins least (not_expr p e) s rest h = ap (λ x. begins_expr (front x)) h.1.1.1
begins least (binary_expr o p l r) s rest h = begins (priority o) l s h.0 h.3

-- the next token is of this kind
pub front_is : (kind : TokenKind) (s rest : List Lexeme) → IsKind kind s rest → front s ≡ Some kind
front_is kind s rest h = ap front h.1.1.1

-- Where these tokens do not go on with an operand, nor do expressions before them with commas.
pub more_behind : (es : ExprTrees) (s s2 : List Lexeme) → SpellsMore es s s2 → is_behind_operand (front s2) ≡ true → is_behind_operand (front s) ≡ true
more_behind no_exprs s s2 h e = ap (λ x. is_behind_operand (front x)) h ∙ e
more_behind (expr_then x xs) s s2 h e = ap is_behind_operand (front_is k.Comma s h.0 h.2)

pub items_end_behind : (s s1 rest : List Lexeme) → (s ≡ s1) ⊎ IsKind k.Comma s s1 → IsKind k.CloseBracket s1 rest → is_behind_operand (front s) ≡ true
items_end_behind s s1 rest (inl e) c = ap (λ x. is_behind_operand (front x)) e ∙ ap is_behind_operand (front_is k.CloseBracket s1 rest c)
items_end_behind s s1 rest (inr h) c = ap is_behind_operand (front_is k.Comma s s1 h)

-- Behind a statement no token goes on with one.
pub statements_behind : (b : BlockTree) (s rest : List Lexeme) → SpellsStatements b s rest → is_behind_statement (front rest) ≡ true → is_behind_statement (front s) ≡ true
statements_behind no_statements s rest h e = ap (λ x. is_behind_statement (front x)) h ∙ e
statements_behind (statement_then (assign_statement (name_target p n) o q v) b) s rest h e = ap (λ x. is_behind_statement (front x)) h.1.2.1
statements_behind (statement_then (assign_statement (item_target p n d i) o q v) b) s rest h e = ap (λ x. is_behind_statement (front x)) h.1.2.1.1
statements_behind (statement_then (assign_statement (entry_target p n d i) o q v) b) s rest h e = ap (λ x. is_behind_statement (front x)) h.1.2.3.1
statements_behind (statement_then (call_statement (call_tree p n es c)) b) s rest h e = ap (λ x. is_behind_statement (front x)) h.1.2.1
statements_behind (statement_then (condition_statement (condition_tree t c o)) b) s rest h e = ap (λ x. is_behind_statement (front x)) h.1.3.1.1.1

abbrev pub run_after : Option (ℕ × List Symbol) → (List Symbol → Bool × List ℕ) → Bool × List ℕ
run_after None go = (false, [])
run_after (Some x) go = ((go x.1).0, counting x.0 (go x.1).1)

-- The machine takes all the tokens and may end there, with the nestings of those that count.
abbrev pub run : List Symbol → List Lexeme → Bool × List ℕ
run stack [] = (is_done stack, [])
run stack (t ∷ ts) = run_after (next stack t.kind) (λ wanted. run wanted ts)

-- a nesting more
abbrev one : ℕ → Bool × List ℕ → Bool × List ℕ
one n r = (r.0, n ∷ r.1)

-- nestings more
abbrev pub push : List ℕ → Bool × List ℕ → Bool × List ℕ
push ns r = (r.0, ns ++ r.1)

push_append : (ms ns : List ℕ) (r : Bool × List ℕ) → push (ms ++ ns) r ≡ push ms (push ns r)
push_append ms ns r = ap (λ z. (r.0, z)) (append_assoc ms ns r.1)

-- A token of this kind is read, which does not count.
read_next : (kind : TokenKind) (before stack : List Symbol) (s rest : List Lexeme) → next before kind ≡ Some (0, stack) → IsKind kind s rest →
    run before s ≡ run stack rest
read_next kind before stack s rest e h = ap (run before) h.1.1.1 ∙ ap (λ x. run_after x (λ wanted. run wanted rest)) e

counting_more : (d : ℕ) (ns : List ℕ) → counting (d + 1) ns ≡ (d + 1) ∷ ns
counting_more d ns = rw add-one

-- A token of this kind is read, behind which the nesting is one more.
read_more : (kind : TokenKind) (before stack : List Symbol) (d : ℕ) (s rest : List Lexeme) → next before kind ≡ Some (d + 1, stack) → IsKind kind s rest →
    run before s ≡ one (d + 1) (run stack rest)
read_more kind before stack d s rest e h =
    ap (run before) h.1.1.1 ∙ ap (λ x. run_after x (λ wanted. run wanted rest)) e ∙ ap (λ z. ((run stack rest).0, z)) (counting_more d (run stack rest).1)

run_same : (one two : List Symbol) (t : Lexeme) (ts : List Lexeme) → next one t.kind ≡ next two t.kind → run one (t ∷ ts) ≡ run two (t ∷ ts)
run_same one two t ts e = ap (λ x. run_after x (λ wanted. run wanted ts)) e

-- Where a symbol lets the next token pass, it is as if it were not there.
run_suffix : (d : ℕ) (stack : List Symbol) (ts : List Lexeme) → is_behind_operand (front ts) ≡ true → run (Suffix d ∷ stack) ts ≡ run stack ts
run_suffix d stack [] h = refl
run_suffix d stack (t ∷ ts) h = run_same (Suffix d ∷ stack) stack t ts (next_suffix d stack t.kind h)

run_block_or : (d : ℕ) (stack : List Symbol) (ts : List Lexeme) → is_behind_operand (front ts) ≡ true → run (BlockOr d ∷ stack) ts ≡ run stack ts
run_block_or d stack [] h = refl
run_block_or d stack (t ∷ ts) h = run_same (BlockOr d ∷ stack) stack t ts (next_block_or d stack t.kind h)

run_operators : (d : ℕ) (stack : List Symbol) (ts : List Lexeme) → is_behind_statement (front ts) ≡ true → run (Operators d ∷ stack) ts ≡ run stack ts
run_operators d stack [] h = refl
run_operators d stack (t ∷ ts) h = run_same (Operators d ∷ stack) stack t ts (next_operators d stack t.kind h)

run_else_or : (d : ℕ) (stack : List Symbol) (ts : List Lexeme) → is_behind_statement (front ts) ≡ true → run (ElseOr d ∷ stack) ts ≡ run stack ts
run_else_or d stack [] h = refl
run_else_or d stack (t ∷ ts) h = run_same (ElseOr d ∷ stack) stack t ts (next_else_or d stack t.kind h)

run_arg : (d : ℕ) (stack : List Symbol) (ts : List Lexeme) → begins_expr (front ts) ≡ true → run (Args d ∷ stack) ts ≡ run (Operand d d ∷ MoreArgs d ∷ stack) ts
run_arg d stack [] h = absurd_false h
run_arg d stack (t ∷ ts) h = run_same (Args d ∷ stack) (Operand d d ∷ MoreArgs d ∷ stack) t ts (next_arg d stack t.kind h)

run_item : (d : ℕ) (stack : List Symbol) (ts : List Lexeme) → begins_expr (front ts) ≡ true → run (Items d ∷ stack) ts ≡ run (Operand d d ∷ MoreItems d ∷ stack) ts
run_item d stack [] h = absurd_false h
run_item d stack (t ∷ ts) h = run_same (Items d ∷ stack) (Operand d d ∷ MoreItems d ∷ stack) t ts (next_item d stack t.kind h)

-- What stands in braces is read.
in_braces : (before stack : List Symbol) (d : ℕ) (p : Position) (Inside : List Lexeme → List Lexeme → Type 0) (ns : List ℕ) (s rest : List Lexeme) →
    next before k.OpenBrace ≡ Some (d + 1, Statements (d + 1) ∷ CloseBrace ∷ stack) → Encloses k.OpenBrace p Inside k.CloseBrace s rest →
    ((s1 s2 : List Lexeme) → Inside s1 s2 → is_behind_statement (front s2) ≡ true →
    run (Statements (d + 1) ∷ CloseBrace ∷ stack) s1 ≡ push ns (run (Statements (d + 1) ∷ CloseBrace ∷ stack) s2)) →
    run before s ≡ one (d + 1) (push ns (run stack rest))
in_braces before stack d p Inside ns s rest e h inner =
    read_more k.OpenBrace before (Statements (d + 1) ∷ CloseBrace ∷ stack) d s h.0 e (p, h.2)
    ∙ ap (one (d + 1)) (inner h.0 h.1 h.3 (ap is_behind_statement (front_is k.CloseBrace h.1 rest h.4))
    ∙ ap (push ns) (read_next k.CloseBrace (Statements (d + 1) ∷ CloseBrace ∷ stack) stack h.1 rest refl h.4))

-- an expression is read
abbrev ExprDepths : ExprTree → ℕ → ℕ → List Symbol → List Lexeme → List Lexeme → Type 0
ExprDepths e a d stack s rest = (b : ℕ) × (b ≡ a + operators_of e) × (run (Operand a d ∷ stack) s ≡ push (expr_nestings e d) (run (Operators b ∷ stack) rest))

in_round : (before stack : List Symbol) (d : ℕ) (p : Position) (e : ExprTree) (s rest : List Lexeme) →
    next before k.OpenParen ≡ Some (d + 1, Operand (d + 1) (d + 1) ∷ CloseParen ∷ stack) → Encloses k.OpenParen p (Spells 1 e) k.CloseParen s rest →
    ((s1 s2 : List Lexeme) → Spells 1 e s1 s2 → is_behind_operand (front s2) ≡ true → ExprDepths e (d + 1) (d + 1) (CloseParen ∷ stack) s1 s2) →
    run before s ≡ one (d + 1) (push (expr_nestings e (d + 1)) (run stack rest))
in_round before stack d p e s rest n h inner =
    let x = inner h.0 h.1 h.3 (ap is_behind_operand (front_is k.CloseParen h.1 rest h.4)) in
    read_more k.OpenParen before (Operand (d + 1) (d + 1) ∷ CloseParen ∷ stack) d s h.0 n (p, h.2)
    ∙ ap (one (d + 1)) (x.2 ∙ ap (push (expr_nestings e (d + 1))) (read_next k.CloseParen (Operators x.0 ∷ CloseParen ∷ stack) stack h.1 rest refl h.4))

in_square : (before stack : List Symbol) (d : ℕ) (p : Position) (e : ExprTree) (s rest : List Lexeme) →
    next before k.OpenBracket ≡ Some (d + 1, Operand (d + 1) (d + 1) ∷ CloseBracket ∷ stack) → Encloses k.OpenBracket p (Spells 1 e) k.CloseBracket s rest →
    ((s1 s2 : List Lexeme) → Spells 1 e s1 s2 → is_behind_operand (front s2) ≡ true → ExprDepths e (d + 1) (d + 1) (CloseBracket ∷ stack) s1 s2) →
    run before s ≡ one (d + 1) (push (expr_nestings e (d + 1)) (run stack rest))
in_square before stack d p e s rest n h inner =
    let x = inner h.0 h.1 h.3 (ap is_behind_operand (front_is k.CloseBracket h.1 rest h.4)) in
    read_more k.OpenBracket before (Operand (d + 1) (d + 1) ∷ CloseBracket ∷ stack) d s h.0 n (p, h.2)
    ∙ ap (one (d + 1)) (x.2 ∙ ap (push (expr_nestings e (d + 1))) (read_next k.CloseBracket (Operators x.0 ∷ CloseBracket ∷ stack) stack h.1 rest refl h.4))

-- Behind a comma an expression is read, and what may follow it.
abbrev CommaReads : Symbol → ℕ → List Symbol → Type 0
CommaReads more d stack = (b : ℕ) (s rest : List Lexeme) → IsKind k.Comma s rest → begins_expr (front rest) ≡ true →
    run (Operators b ∷ more ∷ stack) s ≡ run (Operand d d ∷ more ∷ stack) rest

args_comma : (d : ℕ) (stack : List Symbol) → CommaReads (MoreArgs d) d stack
args_comma d stack b s rest h e = read_next k.Comma (Operators b ∷ MoreArgs d ∷ stack) (Operand d d ∷ MoreArgs d ∷ stack) s rest refl h

items_comma : (d : ℕ) (stack : List Symbol) → CommaReads (MoreItems d) d stack
items_comma d stack b s rest h e = read_next k.Comma (Operators b ∷ MoreItems d ∷ stack) (Items d ∷ stack) s rest refl h ∙ run_item d stack rest e

items_end : (d : ℕ) (stack : List Symbol) (s s1 rest : List Lexeme) → (s ≡ s1) ⊎ IsKind k.Comma s s1 → IsKind k.CloseBracket s1 rest →
    (b : ℕ) → run (Operators b ∷ MoreItems d ∷ stack) s ≡ run stack rest
items_end d stack s s1 rest (inl e) c b =
    ap (run (Operators b ∷ MoreItems d ∷ stack)) e ∙ read_next k.CloseBracket (Operators b ∷ MoreItems d ∷ stack) stack s1 rest refl c
items_end d stack s s1 rest (inr h) c b =
    read_next k.Comma (Operators b ∷ MoreItems d ∷ stack) (Items d ∷ stack) s s1 refl h ∙ read_next k.CloseBracket (Items d ∷ stack) stack s1 rest refl c

abbrev CallDepths : CallTree → ℕ → List Symbol → List Lexeme → List Lexeme → Type 0
CallDepths c d stack s rest = (s1 : List Lexeme) × IsKind k.Identifier s s1 × (run (Suffix d ∷ stack) s1 ≡ push (call_nestings c d) (run stack rest))
    × (run (Head d ∷ stack) s1 ≡ push (call_nestings c d) (run stack rest))

abbrev TargetDepths : TargetTree → ℕ → List Symbol → List Lexeme → List Lexeme → Type 0
TargetDepths t d stack s rest = (s1 : List Lexeme) × IsKind k.Identifier s s1
    × ((out : Bool × List ℕ) → run (Sign d ∷ stack) rest ≡ out → run (Head d ∷ stack) rest ≡ out → run (Head d ∷ stack) s1 ≡ push (target_nestings t d) out)

abbrev ConditionDepths : ConditionTree → ℕ → List Symbol → List Lexeme → List Lexeme → Type 0
ConditionDepths c d stack s rest =
    (s1 : List Lexeme) × IsKind k.If s s1 × (run (Test d ∷ Block d ∷ ElseOr d ∷ stack) s1 ≡ push (condition_nestings c d) (run stack rest))

-- An operand has no operators outside brackets.
no_operators : (e : ExprTree) (a : ℕ) (s rest : List Lexeme) → Spells 6 e s rest → a + operators_of e ≡ a
no_operators (binary_expr o p l r) a s rest h = absurd (no_six o h.2)
no_operators _ a s rest h = omega arith

-- the nestings of a whole expression, from those of its sides
two_sides : (o : BinaryOp) (p : Position) (l r : ExprTree) (a d : ℕ) (stack : List Symbol) (s m1 m2 rest : List Lexeme) → a ≡ d → IsKind (mark_of o) m1 m2 →
    ExprDepths l a d stack s m1 → ((b : ℕ) → ExprDepths r b b stack m2 rest) → ExprDepths (binary_expr o p l r) a d stack s rest
two_sides o p l r a d stack s m1 m2 rest w h left rights =
    let right = rights (left.0 + 1) in
    let here : left.0 + 1 ≡ d + operators_of l + 1 = omega (arith, left.1) in (
      right.0,
      omega (arith, left.1, right.1),
      left.2 ∙ ap (push (expr_nestings l d))
          (read_more (mark_of o) (Operators left.0 ∷ stack) (Operand (left.0 + 1) (left.0 + 1) ∷ stack) left.0 m1 m2 (next_mark o left.0 stack) h
          ∙ ap (one (left.0 + 1)) right.2)
          ∙ ap (λ n. push (expr_nestings l d) (one n (push (expr_nestings r n) (run (Operators right.0 ∷ stack) rest)))) here
          ∙ sym (push_append (expr_nestings l d) ((d + operators_of l + 1) ∷ expr_nestings r (d + operators_of l + 1)) (run (Operators right.0 ∷ stack) rest)),
    )

mutual
  pub read_expr : (e : ExprTree) (least a d : ℕ) (stack : List Symbol) (s rest : List Lexeme) → Spells least e s rest → is_behind_operand (front rest) ≡ true →
      (a ≡ d) ⊎ (6 ≤ least) → ExprDepths e a d stack s rest
  read_expr (name_expr p n) least a d stack s rest h e c =
      (a, omega arith, read_next k.Identifier (Operand a d ∷ stack) (Suffix d ∷ Operators a ∷ stack) s rest refl (p, (n, h)) ∙ run_suffix d (Operators a ∷ stack) rest e)
  read_expr (integer_expr p v) least a d stack s rest h e c =
      (a, omega arith, read_next k.Integer (Operand a d ∷ stack) (Operators a ∷ stack) s rest refl (p, (h.0, h.1)))
  read_expr (string_expr p v) least a d stack s rest h e c = (a, omega arith, read_next k.Str (Operand a d ∷ stack) (Operators a ∷ stack) s rest refl (p, (h.0, h.1)))
  read_expr (boolean_expr p b) least a d stack s rest h e c =
      (a, omega arith, read_next (boolean_word b) (Operand a d ∷ stack) (Operators a ∷ stack) s rest (next_boolean b a d stack) (p, h))
  read_expr (call_expr f) least a d stack s rest h e c =
      let x = read_call f d (Operators a ∷ stack) s rest h e in
      (a, omega arith, read_next k.Identifier (Operand a d ∷ stack) (Suffix d ∷ Operators a ∷ stack) s x.0 refl x.1 ∙ x.2)
  read_expr (item_expr p n b i) least a d stack s rest h e c = (
    a,
    omega arith,
    read_next k.Identifier (Operand a d ∷ stack) (Suffix d ∷ Operators a ∷ stack) s h.0 refl (p, (n, h.1))
        ∙ in_square (Suffix d ∷ Operators a ∷ stack) (Operators a ∷ stack) d b i h.0 rest refl h.2
        (λ s1 s2 x y. read_expr i 1 (d + 1) (d + 1) (CloseBracket ∷ Operators a ∷ stack) s1 s2 x y (inl refl)),
  )
  read_expr (entry_expr p n q i) least a d stack s rest h e c = (
    a,
    omega arith,
    read_next k.Identifier (Operand a d ∷ stack) (Suffix d ∷ Operators a ∷ stack) s h.0 refl (p, (n, h.3))
        ∙ read_next k.Dot (Suffix d ∷ Operators a ∷ stack) (Name ∷ Operators a ∷ stack) h.0 h.1 refl (q, h.4)
        ∙ read_next k.Identifier (Name ∷ Operators a ∷ stack) (Operators a ∷ stack) h.1 rest refl (h.2, (i, h.5)),
  )
  read_expr (scope_expr p b) least a d stack s rest h e c = (
    a,
    omega arith,
    in_braces (Operand a d ∷ stack) (Operators a ∷ stack) d p (SpellsStatements b) (block_nestings b (d + 1)) s rest refl h
        (λ s1 s2 x y. read_statements b (d + 1) (CloseBrace ∷ Operators a ∷ stack) s1 s2 x y),
  )
  read_expr (parentheses_expr p i) least a d stack s rest h e c = (
    a,
    omega arith,
    in_round (Operand a d ∷ stack) (Operators a ∷ stack) d p i s rest refl h
        (λ s1 s2 x y. read_expr i 1 (d + 1) (d + 1) (CloseParen ∷ Operators a ∷ stack) s1 s2 x y (inl refl)),
  )
  read_expr (list_expr p es) least a d stack s rest h e c = (
    a,
    omega arith,
    read_more k.OpenBracket (Operand a d ∷ stack) (Items (d + 1) ∷ Operators a ∷ stack) d s h.0 refl (p, h.2)
        ∙ ap (one (d + 1)) (read_items es (d + 1) (Operators a ∷ stack) h.0 h.3.0 h.1 rest h.3.1 h.3.2 h.4),
  )
  read_expr (not_expr p x) least a d stack s rest h e c =
      let later = read_expr x 6 a (d + 1) stack h.0 rest h.2 e (inr (omega arith)) in (
        a,
        omega arith,
        read_more k.Not (Operand a d ∷ stack) (Operand a (d + 1) ∷ stack) d s h.0 refl (p, h.1)
            ∙ ap (one (d + 1)) (later.2 ∙ ap (λ b. push (expr_nestings x (d + 1)) (run (Operators b ∷ stack) rest)) (later.1 ∙ no_operators x a h.0 rest h.2)),
      )
  read_expr (binary_expr o p l r) least a d stack s rest h e (inr c) = absurd (no_six o (omega (arith, h.2)))
  read_expr (binary_expr o p l r) least a d stack s rest h e (inl w) =
      two_sides o p l r a d stack s h.0 h.1 rest w (p, h.4)
      (read_expr l (priority o) a d stack s h.0 h.3 (ap is_behind_operand (front_is (mark_of o) h.0 h.1 (p, h.4)) ∙ mark_behind o) (inl w))
      (λ b. read_expr r (priority o + 1) b b stack h.1 rest h.5 e (inl refl))

  read_items : (es : ExprTrees) (d : ℕ) (stack : List Symbol) (s s1 s2 rest : List Lexeme) → SpellsList es s s1 → LastComma es s1 s2 → IsKind k.CloseBracket s2 rest →
      run (Items d ∷ stack) s ≡ push (list_nestings es d) (run stack rest)
  read_items no_exprs d stack s s1 s2 rest h c q =
      ap (run (Items d ∷ stack)) h ∙ ap (run (Items d ∷ stack)) c ∙ read_next k.CloseBracket (Items d ∷ stack) stack s2 rest refl q
  read_items (expr_then x xs) d stack s s1 s2 rest h c q =
      let first = read_expr x 1 d d (MoreItems d ∷ stack) s h.0 h.1 (more_behind xs h.0 s1 h.2 (items_end_behind s1 s2 rest c q)) (inl refl) in
      run_item d stack s (begins 1 x s h.0 h.1) ∙ first.2
      ∙ ap (push (expr_nestings x d)) (read_list_more xs (MoreItems d) d stack h.0 s1 (run stack rest) (items_comma d stack) h.2 (items_end_behind s1 s2 rest c q)
      (items_end d stack s1 s2 rest c q) first.0)
      ∙ sym (push_append (expr_nestings x d) (list_nestings xs d) (run stack rest))

  read_args : (es : ExprTrees) (d : ℕ) (stack : List Symbol) (s s1 rest : List Lexeme) → SpellsList es s s1 → IsKind k.CloseParen s1 rest →
      run (Args d ∷ stack) s ≡ push (list_nestings es d) (run stack rest)
  read_args no_exprs d stack s s1 rest h q = ap (run (Args d ∷ stack)) h ∙ read_next k.CloseParen (Args d ∷ stack) stack s1 rest refl q
  read_args (expr_then x xs) d stack s s1 rest h q =
      let close : is_behind_operand (front s1) ≡ true = ap is_behind_operand (front_is k.CloseParen s1 rest q) in
      let first = read_expr x 1 d d (MoreArgs d ∷ stack) s h.0 h.1 (more_behind xs h.0 s1 h.2 close) (inl refl) in
      run_arg d stack s (begins 1 x s h.0 h.1) ∙ first.2
      ∙ ap (push (expr_nestings x d)) (read_list_more xs (MoreArgs d) d stack h.0 s1 (run stack rest) (args_comma d stack) h.2 close
      (λ b. read_next k.CloseParen (Operators b ∷ MoreArgs d ∷ stack) stack s1 rest refl q) first.0)
      ∙ sym (push_append (expr_nestings x d) (list_nestings xs d) (run stack rest))

  read_list_more : (es : ExprTrees) (more : Symbol) (d : ℕ) (stack : List Symbol) (s s1 : List Lexeme) (out : Bool × List ℕ) → CommaReads more d stack → SpellsMore es s s1 →
      is_behind_operand (front s1) ≡ true → ((b : ℕ) → run (Operators b ∷ more ∷ stack) s1 ≡ out) → (b : ℕ) →
      run (Operators b ∷ more ∷ stack) s ≡ push (list_nestings es d) out
  read_list_more no_exprs more d stack s s1 out comma h behind close b = ap (run (Operators b ∷ more ∷ stack)) h ∙ close b
  read_list_more (expr_then x xs) more d stack s s1 out comma h behind close b =
      let first = read_expr x 1 d d (more ∷ stack) h.0 h.1 h.3 (more_behind xs h.1 s1 h.4 behind) (inl refl) in
      comma b s h.0 h.2 (begins 1 x h.0 h.1 h.3) ∙ first.2
      ∙ ap (push (expr_nestings x d)) (read_list_more xs more d stack h.1 s1 out comma h.4 behind close first.0)
      ∙ sym (push_append (expr_nestings x d) (list_nestings xs d) out)

  read_call : (c : CallTree) (d : ℕ) (stack : List Symbol) (s rest : List Lexeme) → SpellsCall c s rest → is_behind_operand (front rest) ≡ true →
      CallDepths c d stack s rest
  read_call (call_tree p n es b) d stack s rest h e =
      let inside : run (Args (d + 1) ∷ BlockOr d ∷ stack) h.3.1.0 ≡ push (list_nestings es (d + 1) ++ body_nestings b d) (run stack rest) =
      read_args es (d + 1) (BlockOr d ∷ stack) h.3.1.0 h.3.1.1 h.1 h.3.1.3 h.3.1.4
      ∙ ap (push (list_nestings es (d + 1))) (read_body b d stack h.1 rest h.4 e)
      ∙ sym (push_append (list_nestings es (d + 1)) (body_nestings b d) (run stack rest)) in (
        h.0,
        (p, (n, h.2)),
        read_more k.OpenParen (Suffix d ∷ stack) (Args (d + 1) ∷ BlockOr d ∷ stack) d h.0 h.3.1.0 refl (h.3.0, h.3.1.2) ∙ ap (one (d + 1)) inside,
        read_more k.OpenParen (Head d ∷ stack) (Args (d + 1) ∷ BlockOr d ∷ stack) d h.0 h.3.1.0 refl (h.3.0, h.3.1.2) ∙ ap (one (d + 1)) inside,
      )

  read_body : (b : BodyTree) (d : ℕ) (stack : List Symbol) (s rest : List Lexeme) → SpellsBody b s rest → is_behind_operand (front rest) ≡ true →
      run (BlockOr d ∷ stack) s ≡ push (body_nestings b d) (run stack rest)
  read_body no_body d stack s rest h e = ap (run (BlockOr d ∷ stack)) h ∙ run_block_or d stack rest e
  read_body (some_body b) d stack s rest h e =
      in_braces (BlockOr d ∷ stack) stack d h.0 (SpellsStatements b) (block_nestings b (d + 1)) s rest refl h.1
      (λ s1 s2 x y. read_statements b (d + 1) (CloseBrace ∷ stack) s1 s2 x y)

  read_target : (t : TargetTree) (d : ℕ) (stack : List Symbol) (s rest : List Lexeme) → SpellsTarget t s rest → TargetDepths t d stack s rest
  read_target (name_target p n) d stack s rest h = (rest, (p, (n, h)), λ out x y. y)
  read_target (item_target p n b i) d stack s rest h = (
    h.0,
    (p, (n, h.1)),
    λ out x y.
        in_square (Head d ∷ stack) (Sign d ∷ stack) d b i h.0 rest refl h.2
        (λ s1 s2 u v. read_expr i 1 (d + 1) (d + 1) (CloseBracket ∷ Sign d ∷ stack) s1 s2 u v (inl refl))
        ∙ ap (λ z. one (d + 1) (push (expr_nestings i (d + 1)) z)) x,
  )
  read_target (entry_target p n q i) d stack s rest h = (
    h.0,
    (p, (n, h.3)),
    λ out x y.
        read_next k.Dot (Head d ∷ stack) (Name ∷ Sign d ∷ stack) h.0 h.1 refl (q, h.4)
        ∙ read_next k.Identifier (Name ∷ Sign d ∷ stack) (Sign d ∷ stack) h.1 rest refl (h.2, (i, h.5)) ∙ x,
  )

  read_statement : (x : StatementTree) (d : ℕ) (stack : List Symbol) (s rest : List Lexeme) → SpellsStatement x s rest → is_behind_statement (front rest) ≡ true →
      run (Statements d ∷ stack) s ≡ push (statement_nestings x d) (run (Statements d ∷ stack) rest)
  read_statement (assign_statement t o p v) d stack s rest h e =
      let target = read_target t d (Statements d ∷ stack) s h.0 h.2 in
      let value = read_expr v 1 d d (Statements d ∷ stack) h.1 rest h.4 (behind_statement_operand (front rest) e) (inl refl) in
      let later : run (Operand d d ∷ Statements d ∷ stack) h.1 ≡ push (expr_nestings v d) (run (Statements d ∷ stack) rest) =
      value.2 ∙ ap (push (expr_nestings v d)) (run_operators value.0 (Statements d ∷ stack) rest e) in
      read_next k.Identifier (Statements d ∷ stack) (Head d ∷ Statements d ∷ stack) s target.0 refl target.1
      ∙ target.2 (push (expr_nestings v d) (run (Statements d ∷ stack) rest))
      (read_next (assign_mark o) (Sign d ∷ Statements d ∷ stack) (Operand d d ∷ Statements d ∷ stack) h.0 h.1 (next_sign o d (Statements d ∷ stack)) (p, h.3) ∙ later)
      (read_next (assign_mark o) (Head d ∷ Statements d ∷ stack) (Operand d d ∷ Statements d ∷ stack) h.0 h.1 (next_head o d (Statements d ∷ stack)) (p, h.3) ∙ later)
      ∙ sym (push_append (target_nestings t d) (expr_nestings v d) (run (Statements d ∷ stack) rest))
  read_statement (call_statement c) d stack s rest h e =
      let x = read_call c d (Statements d ∷ stack) s rest h (behind_statement_operand (front rest) e) in
      read_next k.Identifier (Statements d ∷ stack) (Head d ∷ Statements d ∷ stack) s x.0 refl x.1 ∙ x.3
  read_statement (condition_statement c) d stack s rest h e =
      let x = read_condition c d (Statements d ∷ stack) s rest h e in
      read_next k.If (Statements d ∷ stack) (Test d ∷ Block d ∷ ElseOr d ∷ Statements d ∷ stack) s x.0 refl x.1 ∙ x.2

  read_condition : (c : ConditionTree) (d : ℕ) (stack : List Symbol) (s rest : List Lexeme) → SpellsCondition c s rest → is_behind_statement (front rest) ≡ true →
      ConditionDepths c d stack s rest
  read_condition (condition_tree t b o) d stack s rest h e =
      let other = read_otherwise o d stack h.2 rest h.6 e in
      let block = in_braces (Block d ∷ ElseOr d ∷ stack) (ElseOr d ∷ stack) d h.5.0 (SpellsStatements b) (block_nestings b (d + 1)) h.1 h.2 refl h.5.1
      (λ s1 s2 x y. read_statements b (d + 1) (CloseBrace ∷ ElseOr d ∷ stack) s1 s2 x y) in
      let test = in_round (Test d ∷ Block d ∷ ElseOr d ∷ stack) (Block d ∷ ElseOr d ∷ stack) d h.4.0 t h.0 h.1 refl h.4.1
      (λ s1 s2 x y. read_expr t 1 (d + 1) (d + 1) (CloseParen ∷ Block d ∷ ElseOr d ∷ stack) s1 s2 x y (inl refl)) in (
        h.0,
        h.3,
        test ∙ ap (λ z. one (d + 1) (push (expr_nestings t (d + 1)) z))
            (block ∙ ap (one (d + 1)) (ap (push (block_nestings b (d + 1))) other
            ∙ sym (push_append (block_nestings b (d + 1)) (otherwise_nestings o d) (run stack rest))))
            ∙ ap (one (d + 1))
            (sym (push_append (expr_nestings t (d + 1)) ((d + 1) ∷ (block_nestings b (d + 1) ++ otherwise_nestings o d)) (run stack rest))),
      )

  read_otherwise : (o : OtherwiseTree) (d : ℕ) (stack : List Symbol) (s rest : List Lexeme) → SpellsOtherwise o s rest → is_behind_statement (front rest) ≡ true →
      run (ElseOr d ∷ stack) s ≡ push (otherwise_nestings o d) (run stack rest)
  read_otherwise no_otherwise d stack s rest h e = ap (run (ElseOr d ∷ stack)) h ∙ run_else_or d stack rest e
  read_otherwise (else_block b) d stack s rest h e =
      read_next k.Else (ElseOr d ∷ stack) (ElseBody d ∷ stack) s h.0 refl h.1
      ∙ in_braces (ElseBody d ∷ stack) stack d h.2.0 (SpellsStatements b) (block_nestings b (d + 1)) h.0 rest refl h.2.1
      (λ s1 s2 x y. read_statements b (d + 1) (CloseBrace ∷ stack) s1 s2 x y)
  read_otherwise (else_if c) d stack s rest h e =
      let x = read_condition c (d + 1) stack h.0 rest h.2 e in
      read_next k.Else (ElseOr d ∷ stack) (ElseBody d ∷ stack) s h.0 refl h.1
      ∙ read_more k.If (ElseBody d ∷ stack) (Test (d + 1) ∷ Block (d + 1) ∷ ElseOr (d + 1) ∷ stack) d h.0 x.0 refl x.1 ∙ ap (one (d + 1)) x.2

  pub read_statements : (b : BlockTree) (d : ℕ) (stack : List Symbol) (s rest : List Lexeme) → SpellsStatements b s rest → is_behind_statement (front rest) ≡ true →
      run (Statements d ∷ stack) s ≡ push (block_nestings b d) (run (Statements d ∷ stack) rest)
  read_statements no_statements d stack s rest h e = ap (run (Statements d ∷ stack)) h
  read_statements (statement_then x xs) d stack s rest h e =
      read_statement x d stack s h.0 h.1 (statements_behind xs h.0 rest h.2 e)
      ∙ ap (push (statement_nestings x d)) (read_statements xs d stack h.0 rest h.2 e)
      ∙ sym (push_append (statement_nestings x d) (block_nestings xs d) (run (Statements d ∷ stack) rest))

-- What is run is what is taken.
pub fits_run : (stack : List Symbol) (ts : List Lexeme) → fits stack ts ≡ (run stack ts).0
fits_run stack [] = refl
fits_run stack (t ∷ ts) = go (λ x. fits_run x ts) (next stack t.kind)
  where
    go : ((x : List Symbol) → fits x ts ≡ (run x ts).0) → (x : Option (ℕ × List Symbol)) → fits_after x (λ v. fits v ts) ≡ (run_after x (λ v. run v ts)).0
    go again None = refl
    go again (Some x) = again x.1

-- The machine takes the tokens of a file.
pub fits_spelled : (tree : BlockTree) (tokens : List Lexeme) → SpellsStatements tree tokens [] → fits whole_file tokens ≡ true
fits_spelled tree tokens h = fits_run whole_file tokens ∙ ap (λ (r : Bool × List ℕ). r.0) (read_statements tree 0 [] tokens [] h refl)

-- The machine takes the tokens of an expression.
pub fits_spelled_expr : (tree : ExprTree) (tokens : List Lexeme) → Spells 1 tree tokens [] → fits (Operand 0 0 ∷ []) tokens ≡ true
fits_spelled_expr tree tokens h =
    let x = read_expr tree 1 0 0 [] tokens [] h refl (inl refl) in fits_run (Operand 0 0 ∷ []) tokens ∙ ap (λ (r : Bool × List ℕ). r.0) x.2
