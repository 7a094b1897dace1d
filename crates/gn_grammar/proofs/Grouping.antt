-- How operands and operators group: the tree of an expression is a function of them.
use Rattle.std.proofs.Common.{◌≡◌, ℕ, ◌+◌, ◌<◌, List, [], ◌∷◌, ◌++◌, nat_lt, if◌then◌else◌, refl, sym, ◌∙◌, ap, subst, arith}
use Rattle.std.proofs.lemmas.Bool.{le-ltb, lt-ltb}
use Rattle.gn_tree.specs.declared.position.Position.{Position}
use Rattle.gn_tree.specs.declared.operator.BinaryOp.{BinaryOp}
use Rattle.gn_tree.specs.Tree.{ExprTree, binary_expr}
use Rattle.gn_grammar.specs.Lexemes.{Lexeme}
use Rattle.gn_grammar.specs.Grammar.{priority, mark_of, IsMark, Spells}

-- an operator with the operand behind it
pub data Link : Type 0 where
  link : (operator : BinaryOp) (position : Position) (operand : ExprTree) → Link

-- the first operand
abbrev pub first_of : ExprTree → ExprTree
first_of (binary_expr o p l r) = first_of l
first_of e = e

-- the operators behind it with their operands
abbrev pub later_of : ExprTree → List Link
later_of (binary_expr o p l r) = later_of l ++ link o p (first_of r) ∷ later_of r
later_of e = []

-- an operator and an operand more, by their priority
abbrev pub insert : ExprTree → BinaryOp → Position → ExprTree → ExprTree
insert (binary_expr o2 p2 l r) o p x =
    if nat_lt (priority o2) (priority o) then binary_expr o2 p2 l (insert r o p x) else binary_expr o p (binary_expr o2 p2 l r) x
insert e o p x = binary_expr o p e x

abbrev pub built : ExprTree → List Link → ExprTree
built e [] = e
built e (link o p x ∷ ks) = built (insert e o p x) ks

built_append : (ks ms : List Link) (e : ExprTree) → built e (ks ++ ms) ≡ built (built e ks) ms
built_append [] ms e = refl
built_append (link o p x ∷ ks) ms e = built_append ks ms (insert e o p x)

insert_low : (l : ExprTree) (o : BinaryOp) (p : Position) (x : ExprTree) (s m : List Lexeme) → Spells (priority o) l s m → insert l o p x ≡ binary_expr o p l x
insert_low (binary_expr o2 p2 l r) o p x s m h = rw (le-ltb (priority o2) (priority o) h.2)
insert_low _ o p x s m h = refl

-- All these operators bind more tightly.
abbrev AllAbove : ℕ → List Link → Type 0
AllAbove n [] = Unit {0}
AllAbove n (link o p x ∷ ks) = (n < priority o) × AllAbove n ks

above_append : (n : ℕ) (ks ms : List Link) → AllAbove n ks → AllAbove n ms → AllAbove n (ks ++ ms)
above_append n [] ms h i = i
above_append n (link o p x ∷ ks) ms h i = (h.0, above_append n ks ms h.1 i)

above : (e : ExprTree) (v n : ℕ) (s r : List Lexeme) → n < v → Spells v e s r → AllAbove n (later_of e)
above (binary_expr o p l x) v n s r lt h =
    above_append n (later_of l) (link o p (first_of x) ∷ later_of x) (above l (priority o) n s h.0 (omega (arith, h.2)) h.3)
    (omega (arith, h.2), above x (priority o + 1) n h.1 r (omega (arith, h.2)) h.5)
above _ v n s r lt h = tt

built_right : (ks : List Link) (o : BinaryOp) (p : Position) (l x : ExprTree) → AllAbove (priority o) ks → built (binary_expr o p l x) ks ≡ binary_expr o p l (built x ks)
built_right [] o p l x h = refl
built_right (link o2 p2 y ∷ ks) o p l x h =
    let one : insert (binary_expr o p l x) o2 p2 y ≡ binary_expr o p l (insert x o2 p2 y) = rw (lt-ltb (priority o) (priority o2) h.0) in
    ap (λ z. built z ks) one ∙ built_right ks o p l (insert x o2 p2 y) h.1

-- An expression is built of its operands and operators.
pub built_same : (e : ExprTree) (v : ℕ) (s r : List Lexeme) → Spells v e s r → built (first_of e) (later_of e) ≡ e
built_same (binary_expr o p l x) v s r h =
    built_append (later_of l) (link o p (first_of x) ∷ later_of x) (first_of l)
    ∙ ap (λ z. built (insert z o p (first_of x)) (later_of x)) (built_same l (priority o) s h.0 h.3)
    ∙ ap (λ z. built z (later_of x)) (insert_low l o p (first_of x) s h.0 h.3)
    ∙ built_right (later_of x) o p l (first_of x) (above x (priority o + 1) (priority o) h.1 r (omega arith) h.5)
    ∙ ap (binary_expr o p l) (built_same x (priority o + 1) h.1 r h.5)
built_same _ v s r h = refl

-- The tokens s are those of the operators with their operands, and then rest.
abbrev pub SpellsLinks : List Link → List Lexeme → List Lexeme → Type 0
SpellsLinks [] s rest = s ≡ rest
SpellsLinks (link o p x ∷ ks) s rest =
    (s1 : List Lexeme) × (s2 : List Lexeme) × IsMark (mark_of o) p s s1 × Spells 6 x s1 s2 × SpellsLinks ks s2 rest

links_append : (ks ms : List Link) (s m r : List Lexeme) → SpellsLinks ks s m → SpellsLinks ms m r → SpellsLinks (ks ++ ms) s r
links_append [] ms s m r h i = subst (λ x. SpellsLinks ms x r) (sym h) i
links_append (link o p x ∷ ks) ms s m r h i = (h.0, h.1, h.2, h.3, links_append ks ms h.1 m r h.4 i)

-- The tokens of an expression are those of its operands and operators.
pub spells_links : (e : ExprTree) (v : ℕ) (s r : List Lexeme) → Spells v e s r → (s1 : List Lexeme) × Spells 6 (first_of e) s s1 × SpellsLinks (later_of e) s1 r
spells_links (binary_expr o p l x) v s r h =
    let left = spells_links l (priority o) s h.0 h.3 in
    let right = spells_links x (priority o + 1) h.1 r h.5 in
    (left.0, left.1, links_append (later_of l) (link o p (first_of x) ∷ later_of x) left.0 h.0 r left.2 (h.1, right.0, h.4, right.1, right.2))
spells_links _ v s r h = (r, h, refl)
