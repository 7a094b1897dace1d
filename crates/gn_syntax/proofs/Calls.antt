-- Whole steps of the grammar: what the parser's functions need at their returns.
use Rattle.std.proofs.Common.{◌≡◌, ◌≢◌, ℕ, ◌+◌, ◌<◌, ◌≤◌, List, [], ◌∷◌, ◌++◌, length, Option, Some, Result, Ok, Err, IfOk, refl, sym, ◌∙◌, ap, subst, arith}
use Rattle.std.proofs.lemmas.Bool.{le-ltb}
use Rattle.gn_tree.specs.declared.operator.AssignOp.{AssignOp}
use Rattle.gn_tree.specs.declared.operator.AssignOp.TheVariants as assign
use Rattle.gn_tree.specs.declared.operator.BinaryOp.{BinaryOp}
use Rattle.gn_tree.specs.declared.operator.BinaryOp.TheVariants as binary
use Rattle.gn_tree.specs.declared.tree.Expr.{Expr}
use Rattle.gn_tree.specs.declared.tree.Statement.{Statement}
use Rattle.gn_tree.specs.Tree.{ExprTrees, TargetTree}
use Rattle.gn_tree.specs.Views.{exprs_of, statement_of, block_of}
use Rattle.gn_tokens.specs.declared.token.TokenKind.{TokenKind}
use Rattle.gn_tokens.specs.declared.token.TokenKind.TheVariants as k
use Rattle.gn_syntax.specs.declared.error.Stop.{Stop}
use Rattle.gn_grammar.specs.Lexemes.{Lexeme, Last}
use Rattle.gn_grammar.specs.Grammar.{mark_of, assign_mark, LastComma, SpellsList, SpellsTarget, SpellsStatement, SpellsStatements}
use Rattle.gn_grammar.specs.Machine.{Symbol, Statements, Head, Sign, Operand, Operators, MoreItems, CloseParen, next, Bad, verdict}
use Rattle.gn_syntax.specs.Parsing.{front, rest_of, level, refusal, sign_of, Begun}
use Rattle.gn_syntax.proofs.Steps.{operators_pass, close_paren_refused, more_items_refused, sign_comes}
use Rattle.gn_syntax.proofs.Trees.{begun_nothing, last_comma, last_none, statements_push}

-- A token is taken.
pub takes : (last : Last) (deep : ℕ) (stack wanted : List Symbol) (kind : TokenKind) (s : List Lexeme) → front s ≡ Some kind → next stack kind ≡ Some (deep, wanted) → deep ≤ 200 →
    verdict last stack s ≡ verdict last wanted (rest_of s)
takes last deep stack wanted kind [] f n h = cc
takes last deep stack wanted kind (t ∷ ts) f n h =
    let same : t.kind ≡ kind = cc in
    let e : next stack t.kind ≡ Some (deep, wanted) = ap (next stack) same ∙ n in rw (e, le-ltb 200 deep h)

pub rest_shorter : (s r : List Lexeme) → r ≡ rest_of s → length r ≤ length s
rest_shorter [] r e = omega (arith, ap length e)
rest_shorter (t ∷ ts) r e = omega (arith, ap length e)

-- an expression, read where the nesting has another name
moved : (last last1 : Last) (n m d : ℕ) (w : List Symbol) (s rest : List Lexeme) → last1 ≡ last → n ≡ m →
    verdict last1 (Operand n n ∷ w) s ≡ verdict last1 (Operators d ∷ w) rest → verdict last (Operand m m ∷ w) s ≡ verdict last (Operators d ∷ w) rest
moved last last1 n m d w s rest e f h =
    subst (λ l. verdict l (Operand m m ∷ w) s ≡ verdict l (Operators d ∷ w) rest) e
    (subst (λ j. verdict last1 (Operand j j ∷ w) s ≡ verdict last1 (Operators d ∷ w) rest) f h)

-- Behind an expression in round brackets no bracket closes.
pub inside_refused : (last last1 : Last) (deep n d : ℕ) (stack later : List Symbol) (s s1 s2 : List Lexeme) → last1 ≡ last → n ≡ deep + 1 → n ≤ 200 →
    front s ≡ Some k.OpenParen → s1 ≡ rest_of s → next stack k.OpenParen ≡ Some (deep + 1, Operand (deep + 1) (deep + 1) ∷ CloseParen ∷ later) →
    ((w : List Symbol) → verdict last1 (Operand n n ∷ w) s1 ≡ verdict last1 (Operators d ∷ w) s2) → level s2 < 1 → front s2 ≢ Some k.CloseParen →
    verdict last stack s ≡ Bad (refusal last s2)
inside_refused last last1 deep n d stack later s s1 s2 el en small f r nx reads low ne =
    takes last (deep + 1) stack (Operand (deep + 1) (deep + 1) ∷ CloseParen ∷ later) k.OpenParen s f nx (omega arith)
    ∙ ap (verdict last (Operand (deep + 1) (deep + 1) ∷ CloseParen ∷ later)) (sym r)
    ∙ moved last last1 n (deep + 1) d (CloseParen ∷ later) s1 s2 el en (reads (CloseParen ∷ later))
    ∙ operators_pass last d (CloseParen ∷ later) s2 low
    ∙ close_paren_refused last later s2 ne

pub sign_mark : (f : Option TokenKind) (op : AssignOp) → sign_of f ≡ Some op → f ≡ Some (assign_mark op)
sign_mark (Some k.Assign) op h = let e : assign.Set ≡ op = cc in ap (λ o. Some (assign_mark o)) e
sign_mark (Some k.AddAssign) op h = let e : assign.Add ≡ op = cc in ap (λ o. Some (assign_mark o)) e
sign_mark (Some k.SubAssign) op h = let e : assign.Subtract ≡ op = cc in ap (λ o. Some (assign_mark o)) e
sign_mark _ op h = absurd cc

sign_next : (deep : ℕ) (wanted : List Symbol) (op : AssignOp) → next (Sign deep ∷ wanted) (assign_mark op) ≡ Some (0, Operand deep deep ∷ wanted)
sign_next deep wanted assign.Set = refl
sign_next deep wanted assign.Add = refl
sign_next deep wanted assign.Subtract = refl

pub assignment_read : (last last1 : Last) (deep n d : ℕ) (wanted : List Symbol) (op : AssignOp) (s s1 s2 : List Lexeme) → last1 ≡ last → n ≡ deep → sign_of (front s) ≡ Some op → s1 ≡ rest_of s →
    ((w : List Symbol) → verdict last1 (Operand n n ∷ w) s1 ≡ verdict last1 (Operators d ∷ w) s2) → level s2 < 1 → verdict last (Sign deep ∷ wanted) s ≡ verdict last wanted s2
assignment_read last last1 deep n d wanted op s s1 s2 el en f r reads low =
    takes last 0 (Sign deep ∷ wanted) (Operand deep deep ∷ wanted) (assign_mark op) s (sign_mark (front s) op f) (sign_next deep wanted op) (omega arith)
    ∙ ap (verdict last (Operand deep deep ∷ wanted)) (sym r)
    ∙ moved last last1 n deep d wanted s1 s2 el en (reads wanted)
    ∙ operators_pass last d wanted s2 low

operators_next : (deep : ℕ) (wanted : List Symbol) (op : BinaryOp) → next (Operators deep ∷ wanted) (mark_of op) ≡ Some (deep + 1, Operand (deep + 1) (deep + 1) ∷ wanted)
operators_next deep wanted binary.Add = refl
operators_next deep wanted binary.Subtract = refl
operators_next deep wanted binary.Less = refl
operators_next deep wanted binary.LessEqual = refl
operators_next deep wanted binary.Greater = refl
operators_next deep wanted binary.GreaterEqual = refl
operators_next deep wanted binary.Equal = refl
operators_next deep wanted binary.NotEqual = refl
operators_next deep wanted binary.And = refl
operators_next deep wanted binary.Or = refl

-- An operator and its right operand more.
pub binary_read : (la ld lb : Last) (stack wanted : List Symbol) (n n1 d : ℕ) (op : BinaryOp) (s s1 s2 s3 : List Lexeme) → ld ≡ la → lb ≡ ld → n1 ≡ n + 1 → n1 ≤ 200 →
    front s1 ≡ Some (mark_of op) → s2 ≡ rest_of s1 → verdict la stack s ≡ verdict la (Operators n ∷ wanted) s1 →
    verdict ld (Operand n1 n1 ∷ wanted) s2 ≡ verdict ld (Operators d ∷ wanted) s3 → verdict lb stack s ≡ verdict lb (Operators d ∷ wanted) s3
binary_read la ld lb stack wanted n n1 d op s s1 s2 s3 e1 e2 en small f r left right =
    subst (λ l. verdict l stack s ≡ verdict l (Operators d ∷ wanted) s3) (sym (e2 ∙ e1))
    (left
    ∙ takes la (n + 1) (Operators n ∷ wanted) (Operand (n + 1) (n + 1) ∷ wanted) (mark_of op) s1 f (operators_next n wanted op) (omega arith)
    ∙ ap (verdict la (Operand (n + 1) (n + 1) ∷ wanted)) (sym r)
    ∙ moved la ld n1 (n + 1) d wanted s2 s3 e1 en right)

-- An expression of a list more, and the token behind it.
pub list_read : (la lb le : Last) (stack more behind : List Symbol) (i n d : ℕ) (kind : TokenKind) (s s1 s2 s3 : List Lexeme) → lb ≡ la → le ≡ lb → n ≡ i →
    verdict la stack s ≡ verdict la (Operand i i ∷ more) s1 → verdict la (Operand n n ∷ more) s1 ≡ verdict la (Operators d ∷ more) s2 →
    front s2 ≡ Some kind → s3 ≡ rest_of s2 → next (Operators d ∷ more) kind ≡ Some (0, behind) → verdict le stack s ≡ verdict le behind s3
list_read la lb le stack more behind i n d kind s s1 s2 s3 e1 e2 en left item f r nx =
    subst (λ l. verdict l stack s ≡ verdict l behind s3) (sym (e2 ∙ e1))
    (left ∙ moved la la n i d more s1 s2 refl en item ∙ takes la 0 (Operators d ∷ more) behind kind s2 f nx (omega arith) ∙ ap (verdict la behind) (sym r))

pub list_refused : (la : Last) (wanted stack : List Symbol) (i n d : ℕ) (s s1 s2 : List Lexeme) → n ≡ i → verdict la stack s ≡ verdict la (Operand i i ∷ MoreItems i ∷ wanted) s1 →
    verdict la (Operand n n ∷ MoreItems i ∷ wanted) s1 ≡ verdict la (Operators d ∷ MoreItems i ∷ wanted) s2 → level s2 < 1 → front s2 ≢ Some k.CloseBracket → front s2 ≢ Some k.Comma →
    verdict la stack s ≡ Bad (refusal la s2)
list_refused la wanted stack i n d s s1 s2 en left item low close comma =
    left ∙ moved la la n i d (MoreItems i ∷ wanted) s1 s2 refl en item ∙ operators_pass la d (MoreItems i ∷ wanted) s2 low ∙ more_items_refused la i wanted s2 close comma

-- A name that begins a statement, and a sign behind it.
pub statement_whole : (last : Last) (deep : ℕ) (wanted : List Symbol) (s s1 : List Lexeme) → front s ≡ Some k.Identifier → s1 ≡ rest_of s →
    front s1 ≢ Some k.OpenParen → front s1 ≢ Some k.OpenBracket → front s1 ≢ Some k.Dot →
    verdict last (Statements deep ∷ wanted) s ≡ verdict last (Sign deep ∷ Statements deep ∷ wanted) s1
statement_whole last deep wanted s s1 f r a b c =
    takes last 0 (Statements deep ∷ wanted) (Head deep ∷ Statements deep ∷ wanted) k.Identifier s f refl (omega arith)
    ∙ ap (verdict last (Head deep ∷ Statements deep ∷ wanted)) (sym r) ∙ sign_comes last deep (Statements deep ∷ wanted) s1 a b c

pub begun_new : (items : List Expr) (s rest : List Lexeme) → items ≡ [] → rest ≡ s → Begun (exprs_of items) s rest
begun_new items s rest e f = subst (λ (x : List Expr). Begun (exprs_of x) s rest) (sym e) (subst (λ r. Begun (exprs_of []) s r) (sym f) (begun_nothing s))

pub list_none : (r : ExprTrees) (items : List Expr) (s : List Lexeme) → r ≡ exprs_of items → items ≡ [] → SpellsList r s s
list_none r items s e f = subst (λ x. SpellsList x s s) (sym (e ∙ ap exprs_of f)) refl

pub items_end : (r : ExprTrees) (items : List Expr) (s rest : List Lexeme) → r ≡ exprs_of items → Begun (exprs_of items) s rest → (mid : List Lexeme) × SpellsList r s mid × LastComma r mid rest
items_end r items s rest e h =
    subst (λ x. (mid : List Lexeme) × SpellsList x s mid × LastComma x mid rest) (sym e) (h.mid, h.spells, last_comma items h.mid rest h.comma)

pub items_none : (r : ExprTrees) (items : List Expr) (s : List Lexeme) → r ≡ exprs_of items → LastComma r s s
items_none r items s e = subst (λ x. LastComma x s s) (sym e) (last_none items s)

pub assigned_spelled : (r : Result Statement Stop) (target : TargetTree) (s mid rest : List Lexeme) →
    IfOk r (λ st. (z : List Lexeme) → SpellsTarget target z mid → SpellsStatement (statement_of st) z rest) → SpellsTarget target s mid → IfOk r (λ st. SpellsStatement (statement_of st) s rest)
assigned_spelled (Ok x) target s mid rest h tgt = h s tgt
assigned_spelled (Err e) target s mid rest h tgt = tt

pub statements_grown : (statements items : List Statement) (x y : Statement) (first s rest rest2 : List Lexeme) → items ≡ statements ++ x ∷ [] → x ≡ y → rest ≡ rest2 →
    SpellsStatements (block_of statements) first s → SpellsStatement (statement_of y) s rest2 → SpellsStatements (block_of items) first rest
statements_grown statements items x y first s rest rest2 e f g h st =
    subst (λ (z : List Statement). SpellsStatements (block_of z) first rest) (sym e)
    (statements_push statements x first s rest h (subst (λ (z : Statement). SpellsStatement (statement_of z) s rest) (sym f) (subst (λ r. SpellsStatement (statement_of y) s r) (sym g) st)))
