-- The same tokens spell one tree.
use Rattle.std.proofs.Common.{◌≡◌, ◌≢◌, ℕ, ℤ, ◌+◌, Bool, true, false, List, [], ◌∷◌, ◌++◌, Some, refl, sym, ◌∙◌, ap, subst, inl, inr, ◌⊎◌, append_assoc, append-nil}
use Rattle.gn_tree.specs.declared.position.Position.{Position}
use Rattle.gn_tree.specs.declared.operator.AssignOp.{AssignOp}
use Rattle.gn_tree.specs.declared.operator.BinaryOp.{BinaryOp}
use Rattle.gn_tree.specs.declared.piece.Piece.{Piece}
use Rattle.gn_tree.specs.Tree.{ExprTree, name_expr, integer_expr, string_expr, boolean_expr, call_expr, item_expr, entry_expr, scope_expr, parentheses_expr, list_expr, not_expr, binary_expr, ExprTrees, no_exprs, expr_then, CallTree, call_tree, BodyTree, no_body, some_body, TargetTree, name_target, item_target, entry_target, StatementTree, assign_statement, call_statement, condition_statement, ConditionTree, condition_tree, OtherwiseTree, no_otherwise, else_block, else_if, BlockTree, no_statements, statement_then}
use Rattle.gn_tokens.specs.declared.token.TokenKind.{TokenKind}
use Rattle.gn_tokens.specs.declared.token.TokenKind.TheVariants as k
use Rattle.gn_tokens.specs.Number.{integer_value}
use Rattle.gn_grammar.specs.Lexemes.{Lexeme, lexemes}
use Rattle.gn_grammar.specs.Pieces.{pieces_of}
use Rattle.gn_grammar.specs.Grammar.{priority, mark_of, assign_mark, boolean_word, IsKind, Brackets, LastComma, Spells, SpellsList, SpellsMore, SpellsCall, SpellsBody, SpellsTarget, SpellsStatement, SpellsCondition, SpellsOtherwise, SpellsStatements}
use Rattle.gn_grammar.specs.Errors.{IsTree, IsExpr}
use Rattle.gn_grammar.proofs.Fits.{absurd_false, no_six, front, is_behind_operand, is_behind_statement, is_behind_statements, begins_expr, behind_statement_operand, behind_statements_statement, mark_behind}
use Rattle.gn_grammar.proofs.Spelled.{begins, front_is, statements_behind}
use Rattle.gn_grammar.proofs.Grouping.{Link, link, first_of, later_of, built, built_same, SpellsLinks, spells_links}
use Rattle.gn_grammar.proofs.Same.{absurd_true, same_token, same_mark, same_kind, same_enclosed, mark_injective, sign_injective, mark_not_behind, called, plain, shape_at, expr_shape, operand_shape, target_shape, statement_shape, statement_begins}

-- Two operands of the same tokens are the same.
abbrev OperandSame : ExprTree → Type 0
OperandSame e = (f : ExprTree) (s u r q : List Lexeme) → s ≡ u → Spells 6 e s r → Spells 6 f u q →
    is_behind_operand (front r) ≡ true → is_behind_operand (front q) ≡ true → (e ≡ f) × (r ≡ q)

-- Operands and operators of the same tokens begin with those of the expression.
abbrev LinksSame : ExprTree → Type 0
LinksSame e = (v : ℕ) (s u m r q : List Lexeme) (x : ExprTree) (ks : List Link) → s ≡ u → Spells v e s r → Spells 6 x u m → SpellsLinks ks m q →
    is_behind_operand (front r) ≡ true → is_behind_statement (front q) ≡ true →
    (more : List Link) × (x ≡ first_of e) × (ks ≡ later_of e ++ more) × SpellsLinks more r q

abbrev ExprSame : ExprTree → Type 0
ExprSame e = (f : ExprTree) (s u r q : List Lexeme) → s ≡ u → Spells 1 e s r → Spells 1 f u q →
    is_behind_statement (front r) ≡ true → is_behind_statement (front q) ≡ true → (e ≡ f) × (r ≡ q)

links_behind : (ks : List Link) (s r : List Lexeme) → SpellsLinks ks s r → is_behind_statement (front r) ≡ true → is_behind_operand (front s) ≡ true
links_behind [] s r h b = ap (λ x. is_behind_operand (front x)) h ∙ behind_statement_operand (front r) b
links_behind (link o p x ∷ ks) s r h b = ap (λ x. is_behind_operand (front x)) h.2.1.1 ∙ mark_behind o

no_links : (ks : List Link) (s r : List Lexeme) → SpellsLinks ks s r → is_behind_statement (front s) ≡ true → (ks ≡ []) × (s ≡ r)
no_links [] s r h b = (refl, h)
no_links (link o p x ∷ ks) s r h b = absurd_false (sym (ap (λ x. is_behind_statement (front x)) h.2.1.1 ∙ mark_not_behind o) ∙ b)

links_of_operand : (e : ExprTree) → first_of e ≡ e → later_of e ≡ [] → ((v : ℕ) (s r : List Lexeme) → Spells v e s r → Spells 6 e s r) → OperandSame e → LinksSame e
links_of_operand e fe le tight same v s u m r q x ks w h sp ch br bq =
    let t = same x s u r m w (tight v s r h) sp br (links_behind ks m q ch bq) in
    (ks, sym t.0 ∙ sym fe, ap (λ l. l ++ ks) (sym le), subst (λ z. SpellsLinks ks z q) (sym t.1) ch)

links_of_binary : (o : BinaryOp) (p : Position) (l e : ExprTree) → LinksSame l → LinksSame e → LinksSame (binary_expr o p l e)
links_of_binary o p l e left right v s u m r q x ks w h sp ch br bq =
    let a = left (priority o) s u m h.0 q x ks w h.3 sp ch (ap (λ z. is_behind_operand (front z)) h.4.1.1 ∙ mark_behind o) bq in
    go a.0 a.1 a.2 a.3
  where
    go : (more : List Link) → x ≡ first_of l → ks ≡ later_of l ++ more → SpellsLinks more h.0 q →
        (rest : List Link) × (x ≡ first_of l) × (ks ≡ (later_of l ++ link o p (first_of e) ∷ later_of e) ++ rest) × SpellsLinks rest r q
    go [] fx kx c =
        absurd_true (sym bq ∙ ap (λ z. is_behind_statement (front z)) (sym c ∙ h.4.1.1) ∙ mark_not_behind o)
    go (link o2 p2 y ∷ more) fx kx c =
        let t = same_mark (mark_of o) (mark_of o2) p p2 h.0 h.0 h.1 c.0 refl h.4 c.2 in
        let b = right (priority o + 1) h.1 c.0 c.1 r q y more t.2 h.5 c.3 c.4 br bq in
        let eo : o2 ≡ o = sym (mark_injective o o2 t.0) in
        let ep : p2 ≡ p = sym t.1 in
        let el : link o2 p2 y ≡ link o p (first_of e) = cc (eo, ep, b.1) in
        let em : (link o2 p2 y ∷ more) ≡ ((link o p (first_of e) ∷ later_of e) ++ b.0) = cc (el, b.2) in
        (b.0, fx, kx ∙ ap (λ z. later_of l ++ z) em ∙ sym (append_assoc (later_of l) (link o p (first_of e) ∷ later_of e) b.0), b.3)

-- The operands and operators of an expression tell its tree.
expr_from_links : (e : ExprTree) → LinksSame e → ExprSame e
expr_from_links e same f s u r q w h i br bq =
    let c = spells_links f 1 u q i in
    let a = same 1 s u c.0 r q (first_of f) (later_of f) w h c.1 c.2 (behind_statement_operand (front r) br) bq in
    let n = no_links a.0 r q a.3 br in
    let el : later_of f ≡ later_of e = a.2 ∙ ap (λ z. later_of e ++ z) n.0 ∙ append-nil (later_of e) in
    let eb : built (first_of e) (later_of e) ≡ built (first_of f) (later_of f) = cc (a.1, el) in
    (sym (built_same e 1 s r h) ∙ eb ∙ built_same f 1 u q i, n.1)

-- Operands of the same tokens begin alike.
abbrev SameShape : ExprTree → ExprTree → Type 0
SameShape e f = expr_shape e ≡ expr_shape f

same_shape : (e f : ExprTree) (s u r q : List Lexeme) → s ≡ u → Spells 6 e s r → Spells 6 f u q → is_behind_operand (front r) ≡ true →
    is_behind_operand (front q) ≡ true → SameShape e f
same_shape e f s u r q w h i br bq = sym (operand_shape e s r h br) ∙ ap shape_at w ∙ operand_shape f u q i bq

-- where the second operand is like the first
abbrev OperandLike : ExprTree → Type 0
OperandLike e = (f : ExprTree) (s u r q : List Lexeme) → SameShape e f → s ≡ u → Spells 6 e s r → Spells 6 f u q →
    is_behind_operand (front r) ≡ true → is_behind_operand (front q) ≡ true → (e ≡ f) × (r ≡ q)

operand_from_like : (e : ExprTree) → OperandLike e → OperandSame e
operand_from_like e like f s u r q w h i br bq = like f s u r q (same_shape e f s u r q w h i br bq) w h i br bq

name_like : (p : Position) (n : List ℕ) → OperandLike (name_expr p n)
name_like p n (name_expr p2 n2) s u r q c w h i br bq =
    let t = same_token k.Identifier k.Identifier p p2 n n2 s u r q w h i in
    (cc (t.1, t.2), t.3)
name_like p n _ s u r q c w h i br bq = cc

integer_like : (p : Position) (v : ℤ) → OperandLike (integer_expr p v)
integer_like p v (integer_expr p2 v2) s u r q c w h i br bq =
    let t = same_token k.Integer k.Integer p p2 h.0 i.0 s u r q w h.1 i.1 in
    let e : v ≡ v2 = h.2 ∙ ap integer_value t.2 ∙ sym i.2 in
    (cc (t.1, e), t.3)
integer_like p v _ s u r q c w h i br bq = cc

string_like : (p : Position) (ps : List Piece) → OperandLike (string_expr p ps)
string_like p ps (string_expr p2 qs) s u r q c w h i br bq =
    let t = same_token k.Str k.Str p p2 h.0 i.0 s u r q w h.1 i.1 in
    let same : pieces_of p h.0 ≡ pieces_of p2 i.0 = ap (λ x. pieces_of x h.0) t.1 ∙ ap (pieces_of p2) t.2 in
    let e : ps ≡ qs = h.2 ∙ same ∙ sym i.2 in
    (cc (t.1, e), t.3)
string_like p ps _ s u r q c w h i br bq = cc

boolean_like : (p : Position) (b : Bool) → OperandLike (boolean_expr p b)
boolean_like p b (boolean_expr p2 b2) s u r q c w h i br bq =
    let t = same_mark (boolean_word b) (boolean_word b2) p p2 s u r q w h i in
    let e : b ≡ b2 = cc (c) in
    (cc (t.1, e), t.2)
boolean_like p b _ s u r q c w h i br bq = cc

-- What stands between brackets, where it is an expression.
inside_expr : (e f : ExprTree) (kind : TokenKind) → is_behind_statement (Some kind) ≡ true → ExprSame e →
    (s1 s2 u1 u2 : List Lexeme) → s1 ≡ u1 → Spells 1 e s1 s2 → Spells 1 f u1 u2 → front s2 ≡ Some kind → front u2 ≡ Some kind → (e ≡ f) × (s2 ≡ u2)
inside_expr e f kind b same s1 s2 u1 u2 w h i hf hg = same f s1 u1 s2 u2 w h i (ap is_behind_statement hf ∙ b) (ap is_behind_statement hg ∙ b)

item_like : (p : Position) (n : List ℕ) (b : Position) (x : ExprTree) → ExprSame x → OperandLike (item_expr p n b x)
item_like p n b x same (item_expr p2 n2 b2 y) s u r q c w h i br bq =
    let t = same_token k.Identifier k.Identifier p p2 n n2 s u h.0 i.0 w h.1 i.1 in
    let y2 = same_enclosed k.OpenBracket k.CloseBracket b b2 (Spells 1 x) (Spells 1 y) h.0 i.0 r q t.3 h.2 i.2 (inside_expr x y k.CloseBracket refl same) in
    (cc (t.1, t.2, y2.0, y2.1), y2.2)
item_like p n b x same _ s u r q c w h i br bq = cc

entry_like : (p : Position) (n : List ℕ) (d : Position) (m : List ℕ) → OperandLike (entry_expr p n d m)
entry_like p n d m (entry_expr p2 n2 d2 m2) s u r q c w h i br bq =
    let t = same_token k.Identifier k.Identifier p p2 n n2 s u h.0 i.0 w h.3 i.3 in
    let a = same_mark k.Dot k.Dot d d2 h.0 i.0 h.1 i.1 t.3 h.4 i.4 in
    let z = same_token k.Identifier k.Identifier h.2 i.2 m m2 h.1 i.1 r q a.2 h.5 i.5 in
    (cc (t.1, t.2, a.1, z.2), z.3)
entry_like p n d m _ s u r q c w h i br bq = cc

parentheses_like : (p : Position) (x : ExprTree) → ExprSame x → OperandLike (parentheses_expr p x)
parentheses_like p x same (parentheses_expr p2 y) s u r q c w h i br bq =
    let z = same_enclosed k.OpenParen k.CloseParen p p2 (Spells 1 x) (Spells 1 y) s u r q w h i (inside_expr x y k.CloseParen refl same) in
    (cc (z.0, z.1), z.2)
parentheses_like p x same _ s u r q c w h i br bq = cc

not_like : (p : Position) (x : ExprTree) → OperandSame x → OperandLike (not_expr p x)
not_like p x same (not_expr p2 y) s u r q c w h i br bq =
    let t = same_mark k.Not k.Not p p2 s u h.0 i.0 w h.1 i.1 in
    let z = same y h.0 i.0 r q t.2 h.2 i.2 br bq in
    (cc (t.1, z.0), z.1)
not_like p x same _ s u r q c w h i br bq = cc

-- Behind the items of a list, or the arguments of a call, comes no operator, no expression, and no comma with an expression.
abbrev StopsList : List Lexeme → Type 0
StopsList r = (is_behind_statement (front r) ≡ true) × (begins_expr (front r) ≡ false) × ((v : List Lexeme) → IsKind k.Comma r v → begins_expr (front v) ≡ true → ⊥)

abbrev ListSame : ExprTrees → Type 0
ListSame es = (fs : ExprTrees) (s u r q : List Lexeme) → s ≡ u → SpellsList es s r → SpellsList fs u q → StopsList r → StopsList q → (es ≡ fs) × (r ≡ q)

abbrev MoreSame : ExprTrees → Type 0
MoreSame es = (fs : ExprTrees) (s u r q : List Lexeme) → s ≡ u → SpellsMore es s r → SpellsMore fs u q → StopsList r → StopsList q → (es ≡ fs) × (r ≡ q)

closed_stops : (kind : TokenKind) (s : List Lexeme) → is_behind_statement (Some kind) ≡ true → begins_expr (Some kind) ≡ false → kind ≢ k.Comma → front s ≡ Some kind → StopsList s
closed_stops kind s b e ne f =
    (ap is_behind_statement f ∙ b, ap begins_expr f ∙ e, λ v c x. let same : Some kind ≡ Some k.Comma = sym f ∙ front_is k.Comma s v c in let other : kind ≡ k.Comma = cc in ne other)

paren_stops : (s : List Lexeme) → front s ≡ Some k.CloseParen → StopsList s
paren_stops s f = closed_stops k.CloseParen s refl refl (λ e. cc) f

bracket_stops : (s : List Lexeme) → front s ≡ Some k.CloseBracket → StopsList s
bracket_stops s f = closed_stops k.CloseBracket s refl refl (λ e. cc) f

-- A comma that closes a list stops it.
comma_stops : (s t : List Lexeme) → IsKind k.Comma s t → front t ≡ Some k.CloseBracket → StopsList s
comma_stops s t h f = (
  ap is_behind_statement (front_is k.Comma s t h),
  ap begins_expr (front_is k.Comma s t h),
  λ v c x. absurd_true (sym x ∙ ap (λ z. begins_expr (front z)) (sym (same_kind k.Comma k.Comma s s t v refl h c).1) ∙ ap begins_expr f),
)

items_stop : (es : ExprTrees) (s t : List Lexeme) → LastComma es s t → front t ≡ Some k.CloseBracket → StopsList s
items_stop no_exprs s t h f = bracket_stops s (ap front h ∙ f)
items_stop (expr_then x xs) s t (inl h) f = bracket_stops s (ap front h ∙ f)
items_stop (expr_then x xs) s t (inr h) f = comma_stops s t h f

last_same : (s u t v : List Lexeme) → s ≡ u → (s ≡ t) ⊎ IsKind k.Comma s t → (u ≡ v) ⊎ IsKind k.Comma u v → front t ≡ Some k.CloseBracket →
    front v ≡ Some k.CloseBracket → t ≡ v
last_same s u t v w (inl h) (inl i) f g = sym h ∙ w ∙ i
last_same s u t v w (inr h) (inr i) f g = (same_kind k.Comma k.Comma s u t v w h i).1
last_same s u t v w (inl h) (inr i) f g =
    let e : Some k.CloseBracket ≡ Some k.Comma = sym f ∙ ap front (sym h ∙ w) ∙ front_is k.Comma u v i in cc
last_same s u t v w (inr h) (inl i) f g =
    let e : Some k.Comma ≡ Some k.CloseBracket = sym (front_is k.Comma s t h) ∙ ap front (w ∙ i) ∙ g in cc

-- The same items are followed by a comma or not, as the tokens are.
comma_same : (es fs : ExprTrees) (s u t v : List Lexeme) → es ≡ fs → s ≡ u → LastComma es s t → LastComma fs u v → front t ≡ Some k.CloseBracket →
    front v ≡ Some k.CloseBracket → t ≡ v
comma_same no_exprs no_exprs s u t v e w h i f g = sym h ∙ w ∙ i
comma_same (expr_then x xs) (expr_then y ys) s u t v e w h i f g = last_same s u t v w h i f g
comma_same no_exprs (expr_then y ys) s u t v e w h i f g = cc
comma_same (expr_then x xs) no_exprs s u t v e w h i f g = cc

more_stops : (es : ExprTrees) (s r : List Lexeme) → SpellsMore es s r → StopsList r → is_behind_statement (front s) ≡ true
more_stops no_exprs s r h b = ap (λ x. is_behind_statement (front x)) h ∙ b.0
more_stops (expr_then x xs) s r h b = ap is_behind_statement (front_is k.Comma s h.0 h.2)

no_more : (x : ExprTree) (s u r s1 s2 : List Lexeme) → s ≡ u → s ≡ r → IsKind k.Comma u s1 → Spells 1 x s1 s2 → StopsList r → ⊥
no_more x s u r s1 s2 w h c sp b = b.2 s1 (subst (λ z. IsKind k.Comma z s1) (sym w ∙ h) c) (begins 1 x s1 s2 sp)

more_step : (x : ExprTree) (xs : ExprTrees) → ExprSame x → MoreSame xs → MoreSame (expr_then x xs)
more_step x xs one rest no_exprs s u r q w h i br bq = absurd (no_more x u s q h.0 h.1 (sym w) i h.2 h.3 bq)
more_step x xs one rest (expr_then y ys) s u r q w h i br bq =
    let t = same_kind k.Comma k.Comma s u h.0 i.0 w h.2 i.2 in
    let a = one y h.0 i.0 h.1 i.1 t.1 h.3 i.3 (more_stops xs h.1 r h.4 br) (more_stops ys i.1 q i.4 bq) in
    let b = rest ys h.1 i.1 r q a.1 h.4 i.4 br bq in
    (cc (a.0, b.0), b.1)

more_none : MoreSame no_exprs
more_none no_exprs s u r q w h i br bq = (refl, sym h ∙ w ∙ i)
more_none (expr_then y ys) s u r q w h i br bq = absurd (no_more y s u r i.0 i.1 w h i.2 i.3 br)

no_first : (x : ExprTree) (s u r s1 : List Lexeme) → s ≡ u → s ≡ r → Spells 1 x u s1 → StopsList r → ⊥
no_first x s u r s1 w h sp b = absurd_true (sym (begins 1 x u s1 sp) ∙ ap (λ z. begins_expr (front z)) (sym w ∙ h) ∙ b.1)

list_step : (x : ExprTree) (xs : ExprTrees) → ExprSame x → MoreSame xs → ListSame (expr_then x xs)
list_step x xs one rest no_exprs s u r q w h i br bq = absurd (no_first x u s q h.0 (sym w) i h.1 bq)
list_step x xs one rest (expr_then y ys) s u r q w h i br bq =
    let a = one y s u h.0 i.0 w h.1 i.1 (more_stops xs h.0 r h.2 br) (more_stops ys i.0 q i.2 bq) in
    let b = rest ys h.0 i.0 r q a.1 h.2 i.2 br bq in
    (cc (a.0, b.0), b.1)

list_none : ListSame no_exprs
list_none no_exprs s u r q w h i br bq = (refl, sym h ∙ w ∙ i)
list_none (expr_then y ys) s u r q w h i br bq = absurd (no_first y s u r i.0 w h i.1 br)

list_like : (p : Position) (es : ExprTrees) → ListSame es → OperandLike (list_expr p es)
list_like p es same (list_expr p2 fs) s u r q c w h i br bq =
    let z = same_enclosed k.OpenBracket k.CloseBracket p p2 (λ s1 s3. (s2 : List Lexeme) × SpellsList es s1 s2 × LastComma es s2 s3)
    (λ s1 s3. (s2 : List Lexeme) × SpellsList fs s1 s2 × LastComma fs s2 s3) s u r q w h i
    (λ s1 s2 u1 u2 e x y f g. inside s1 s2 u1 u2 e x y f g) in
    (cc (z.0, z.1), z.2)
  where
    inside : (s1 s2 u1 u2 : List Lexeme) → s1 ≡ u1 → (m : List Lexeme) × SpellsList es s1 m × LastComma es m s2 →
        (n : List Lexeme) × SpellsList fs u1 n × LastComma fs n u2 → front s2 ≡ Some k.CloseBracket → front u2 ≡ Some k.CloseBracket → (es ≡ fs) × (s2 ≡ u2)
    inside s1 s2 u1 u2 e x y f g =
        let a = same fs s1 u1 x.0 y.0 e x.1 y.1 (items_stop es x.0 s2 x.2 f) (items_stop fs y.0 u2 y.2 g) in
        (a.0, comma_same es fs x.0 y.0 s2 u2 a.0 a.1 x.2 y.2 f g)
list_like p es same _ s u r q c w h i br bq = cc

-- statements
abbrev BlockSame : BlockTree → Type 0
BlockSame b = (c : BlockTree) (s u r q : List Lexeme) → s ≡ u → SpellsStatements b s r → SpellsStatements c u q →
    is_behind_statements (front r) ≡ true → is_behind_statements (front q) ≡ true → (b ≡ c) × (r ≡ q)

inside_block : (b c : BlockTree) → BlockSame b → (s1 s2 u1 u2 : List Lexeme) → s1 ≡ u1 → SpellsStatements b s1 s2 → SpellsStatements c u1 u2 →
    front s2 ≡ Some k.CloseBrace → front u2 ≡ Some k.CloseBrace → (b ≡ c) × (s2 ≡ u2)
inside_block b c same s1 s2 u1 u2 w h i f g = same c s1 u1 s2 u2 w h i (ap is_behind_statements f) (ap is_behind_statements g)

scope_like : (p : Position) (b : BlockTree) → BlockSame b → OperandLike (scope_expr p b)
scope_like p b same (scope_expr p2 c) s u r q e w h i br bq =
    let z = same_enclosed k.OpenBrace k.CloseBrace p p2 (SpellsStatements b) (SpellsStatements c) s u r q w h i (inside_block b c same) in
    (cc (z.0, z.1), z.2)
scope_like p b same _ s u r q e w h i br bq = cc

abbrev BodySame : BodyTree → Type 0
BodySame b = (c : BodyTree) (s u r q : List Lexeme) → s ≡ u → SpellsBody b s r → SpellsBody c u q →
    is_behind_operand (front r) ≡ true → is_behind_operand (front q) ≡ true → (b ≡ c) × (r ≡ q)

no_block : (b : BlockTree) (s u r q : List Lexeme) → s ≡ u → s ≡ r → Brackets k.OpenBrace (SpellsStatements b) k.CloseBrace u q → is_behind_operand (front r) ≡ true → ⊥
no_block b s u r q w h i br = absurd_true (sym br ∙ ap (λ z. is_behind_operand (front z)) (sym h ∙ w ∙ i.1.2.1.1))

body_none : BodySame no_body
body_none no_body s u r q w h i br bq = (refl, sym h ∙ w ∙ i)
body_none (some_body c) s u r q w h i br bq = absurd (no_block c s u r q w h i br)

body_some : (b : BlockTree) → BlockSame b → BodySame (some_body b)
body_some b same no_body s u r q w h i br bq = absurd (no_block b u s q r (sym w) i h bq)
body_some b same (some_body c) s u r q w h i br bq =
    let z = same_enclosed k.OpenBrace k.CloseBrace h.0 i.0 (SpellsStatements b) (SpellsStatements c) s u r q w h.1 i.1 (inside_block b c same) in
    (ap some_body z.1, z.2)

abbrev CallSame : CallTree → Type 0
CallSame c = (d : CallTree) (s u r q : List Lexeme) → s ≡ u → SpellsCall c s r → SpellsCall d u q →
    is_behind_operand (front r) ≡ true → is_behind_operand (front q) ≡ true → (c ≡ d) × (r ≡ q)

call_step : (p : Position) (n : List ℕ) (es : ExprTrees) (b : BodyTree) → ListSame es → BodySame b → CallSame (call_tree p n es b)
call_step p n es b list body (call_tree p2 n2 fs c) s u r q w h i br bq =
    let t = same_token k.Identifier k.Identifier p p2 n n2 s u h.0 i.0 w h.2 i.2 in
    let a = same_enclosed k.OpenParen k.CloseParen h.3.0 i.3.0 (SpellsList es) (SpellsList fs) h.0 i.0 h.1 i.1 t.3 h.3.1 i.3.1
    (λ s1 s2 u1 u2 e x y f g. list fs s1 u1 s2 u2 e x y (paren_stops s2 f) (paren_stops u2 g)) in
    let z = body c h.1 i.1 r q a.2 h.4 i.4 br bq in
    (cc (t.1, t.2, a.1, z.0), z.1)

call_like : (c : CallTree) → CallSame c → OperandLike (call_expr c)
call_like c same (call_expr d) s u r q e w h i br bq = let z = same d s u r q w h i br bq in (ap call_expr z.0, z.1)
call_like c same _ s u r q e w h i br bq = cc

abbrev TargetSame : TargetTree → Type 0
TargetSame t = (v : TargetTree) (s u r q : List Lexeme) → target_shape t ≡ target_shape v → s ≡ u → SpellsTarget t s r → SpellsTarget v u q → (t ≡ v) × (r ≡ q)

target_name : (p : Position) (n : List ℕ) → TargetSame (name_target p n)
target_name p n (name_target p2 n2) s u r q c w h i =
    let t = same_token k.Identifier k.Identifier p p2 n n2 s u r q w h i in
    (cc (t.1, t.2), t.3)
target_name p n _ s u r q c w h i = cc

target_item : (p : Position) (n : List ℕ) (b : Position) (x : ExprTree) → ExprSame x → TargetSame (item_target p n b x)
target_item p n b x same (item_target p2 n2 b2 y) s u r q c w h i =
    let t = same_token k.Identifier k.Identifier p p2 n n2 s u h.0 i.0 w h.1 i.1 in
    let z = same_enclosed k.OpenBracket k.CloseBracket b b2 (Spells 1 x) (Spells 1 y) h.0 i.0 r q t.3 h.2 i.2 (inside_expr x y k.CloseBracket refl same) in
    (cc (t.1, t.2, z.0, z.1), z.2)
target_item p n b x same _ s u r q c w h i = cc

target_entry : (p : Position) (n : List ℕ) (d : Position) (m : List ℕ) → TargetSame (entry_target p n d m)
target_entry p n d m (entry_target p2 n2 d2 m2) s u r q c w h i =
    let t = same_token k.Identifier k.Identifier p p2 n n2 s u h.0 i.0 w h.3 i.3 in
    let a = same_mark k.Dot k.Dot d d2 h.0 i.0 h.1 i.1 t.3 h.4 i.4 in
    let z = same_token k.Identifier k.Identifier h.2 i.2 m m2 h.1 i.1 r q a.2 h.5 i.5 in
    (cc (t.1, t.2, a.1, z.2), z.3)
target_entry p n d m _ s u r q c w h i = cc

abbrev OtherwiseSame : OtherwiseTree → Type 0
OtherwiseSame o = (v : OtherwiseTree) (s u r q : List Lexeme) → s ≡ u → SpellsOtherwise o s r → SpellsOtherwise v u q →
    is_behind_statement (front r) ≡ true → is_behind_statement (front q) ≡ true → (o ≡ v) × (r ≡ q)

abbrev ConditionSame : ConditionTree → Type 0
ConditionSame c = (d : ConditionTree) (s u r q : List Lexeme) → s ≡ u → SpellsCondition c s r → SpellsCondition d u q →
    is_behind_statement (front r) ≡ true → is_behind_statement (front q) ≡ true → (c ≡ d) × (r ≡ q)

condition_step : (t : ExprTree) (b : BlockTree) (o : OtherwiseTree) → ExprSame t → BlockSame b → OtherwiseSame o → ConditionSame (condition_tree t b o)
condition_step t b o test block other (condition_tree v c d) s u r q w h i br bq =
    let a = same_kind k.If k.If s u h.0 i.0 w h.3 i.3 in
    let x = same_enclosed k.OpenParen k.CloseParen h.4.0 i.4.0 (Spells 1 t) (Spells 1 v) h.0 i.0 h.1 i.1 a.1 h.4.1 i.4.1 (inside_expr t v k.CloseParen refl test) in
    let y = same_enclosed k.OpenBrace k.CloseBrace h.5.0 i.5.0 (SpellsStatements b) (SpellsStatements c) h.1 i.1 h.2 i.2 x.2 h.5.1 i.5.1 (inside_block b c block) in
    let z = other d h.2 i.2 r q y.2 h.6 i.6 br bq in
    (cc (x.1, y.1, z.0), z.1)

condition_front : (c : ConditionTree) (s r : List Lexeme) → SpellsCondition c s r → front s ≡ Some k.If
condition_front (condition_tree t b o) s r h = front_is k.If s h.0 h.3

no_else : (s u r v : List Lexeme) → s ≡ u → s ≡ r → IsKind k.Else u v → is_behind_statement (front r) ≡ true → ⊥
no_else s u r v w h i br = absurd_true (sym br ∙ ap (λ z. is_behind_statement (front z)) (sym h ∙ w) ∙ ap is_behind_statement (front_is k.Else u v i))

otherwise_none : OtherwiseSame no_otherwise
otherwise_none no_otherwise s u r q w h i br bq = (refl, sym h ∙ w ∙ i)
otherwise_none (else_block c) s u r q w h i br bq = absurd (no_else s u r i.0 w h i.1 br)
otherwise_none (else_if c) s u r q w h i br bq = absurd (no_else s u r i.0 w h i.1 br)

otherwise_block : (b : BlockTree) → BlockSame b → OtherwiseSame (else_block b)
otherwise_block b same no_otherwise s u r q w h i br bq = absurd (no_else u s q h.0 (sym w) i h.1 bq)
otherwise_block b same (else_block c) s u r q w h i br bq =
    let a = same_kind k.Else k.Else s u h.0 i.0 w h.1 i.1 in
    let z = same_enclosed k.OpenBrace k.CloseBrace h.2.0 i.2.0 (SpellsStatements b) (SpellsStatements c) h.0 i.0 r q a.1 h.2.1 i.2.1 (inside_block b c same) in
    (ap else_block z.1, z.2)
otherwise_block b same (else_if c) s u r q w h i br bq =
    let a = same_kind k.Else k.Else s u h.0 i.0 w h.1 i.1 in
    let e : Some k.OpenBrace ≡ Some k.If = sym (ap front h.2.1.2.1.1) ∙ ap front a.1 ∙ condition_front c i.0 q i.2 in cc

otherwise_if : (c : ConditionTree) → ConditionSame c → OtherwiseSame (else_if c)
otherwise_if c same no_otherwise s u r q w h i br bq = absurd (no_else u s q h.0 (sym w) i h.1 bq)
otherwise_if c same (else_if d) s u r q w h i br bq =
    let a = same_kind k.Else k.Else s u h.0 i.0 w h.1 i.1 in
    let z = same d h.0 i.0 r q a.1 h.2 i.2 br bq in
    (ap else_if z.0, z.1)
otherwise_if c same (else_block b) s u r q w h i br bq =
    let a = same_kind k.Else k.Else s u h.0 i.0 w h.1 i.1 in
    let e : Some k.OpenBrace ≡ Some k.If = sym (ap front i.2.1.2.1.1) ∙ ap front (sym a.1) ∙ condition_front c h.0 r h.2 in cc

-- where the second statement is like the first
abbrev StatementSame : StatementTree → Type 0
StatementSame x = (y : StatementTree) (s u r q : List Lexeme) → statement_shape x ≡ statement_shape y → s ≡ u → SpellsStatement x s r → SpellsStatement y u q →
    is_behind_statement (front r) ≡ true → is_behind_statement (front q) ≡ true → (x ≡ y) × (r ≡ q)

target_no_call : (t : TargetTree) → target_shape t ≡ called → ⊥
target_no_call (name_target p n) c = cc
target_no_call (item_target p n b i) c = cc
target_no_call (entry_target p n d e) c = cc

target_no_condition : (t : TargetTree) → target_shape t ≡ plain k.If → ⊥
target_no_condition (name_target p n) c = cc
target_no_condition (item_target p n b i) c = cc
target_no_condition (entry_target p n d e) c = cc

statement_assign : (t : TargetTree) (o : AssignOp) (p : Position) (v : ExprTree) → TargetSame t → ExprSame v → StatementSame (assign_statement t o p v)
statement_assign t o p v target value (assign_statement t2 o2 p2 v2) s u r q c w h i br bq =
    let a = target t2 s u h.0 i.0 c w h.2 i.2 in
    let m = same_mark (assign_mark o) (assign_mark o2) p p2 h.0 i.0 h.1 i.1 a.1 h.3 i.3 in
    let z = value v2 h.1 i.1 r q m.2 h.4 i.4 br bq in
    (cc (a.0, sign_injective o o2 m.0, m.1, z.0), z.1)
statement_assign t o p v target value (call_statement d) s u r q c w h i br bq = absurd (target_no_call t c)
statement_assign t o p v target value (condition_statement d) s u r q c w h i br bq = absurd (target_no_condition t c)

statement_call : (c : CallTree) → CallSame c → StatementSame (call_statement c)
statement_call c same (assign_statement t o p v) s u r q e w h i br bq = absurd (target_no_call t (sym e))
statement_call c same (call_statement d) s u r q e w h i br bq =
    let z = same d s u r q w h i (behind_statement_operand (front r) br) (behind_statement_operand (front q) bq) in (ap call_statement z.0, z.1)
statement_call c same (condition_statement d) s u r q e w h i br bq = cc

statement_condition : (c : ConditionTree) → ConditionSame c → StatementSame (condition_statement c)
statement_condition c same (assign_statement t o p v) s u r q e w h i br bq = absurd (target_no_condition t (sym e))
statement_condition c same (call_statement d) s u r q e w h i br bq = cc
statement_condition c same (condition_statement d) s u r q e w h i br bq = let z = same d s u r q w h i br bq in (ap condition_statement z.0, z.1)

statement_front : (x : StatementTree) (s r : List Lexeme) → SpellsStatement x s r → is_behind_statements (front s) ≡ false
statement_front (assign_statement (name_target p n) o q v) s r h = ap (λ z. is_behind_statements (front z)) h.2.1
statement_front (assign_statement (item_target p n b i) o q v) s r h = ap (λ z. is_behind_statements (front z)) h.2.1.1
statement_front (assign_statement (entry_target p n d e) o q v) s r h = ap (λ z. is_behind_statements (front z)) h.2.3.1
statement_front (call_statement (call_tree p n es b)) s r h = ap (λ z. is_behind_statements (front z)) h.2.1
statement_front (condition_statement (condition_tree t b o)) s r h = ap (λ z. is_behind_statements (front z)) h.3.1.1.1

no_statement : (x : StatementTree) (s u r v : List Lexeme) → s ≡ u → s ≡ r → SpellsStatement x u v → is_behind_statements (front r) ≡ true → ⊥
no_statement x s u r v w h i br = absurd_true (sym br ∙ ap (λ z. is_behind_statements (front z)) (sym h ∙ w) ∙ statement_front x u v i)

block_none : BlockSame no_statements
block_none no_statements s u r q w h i br bq = (refl, sym h ∙ w ∙ i)
block_none (statement_then y ys) s u r q w h i br bq = absurd (no_statement y s u r i.0 w h i.1 br)

block_step : (x : StatementTree) (xs : BlockTree) → StatementSame x → BlockSame xs → BlockSame (statement_then x xs)
block_step x xs one rest no_statements s u r q w h i br bq = absurd (no_statement x u s q h.0 (sym w) i h.1 bq)
block_step x xs one rest (statement_then y ys) s u r q w h i br bq =
    let c : statement_shape x ≡ statement_shape y = sym (statement_begins x s h.0 h.1) ∙ ap shape_at w ∙ statement_begins y u i.0 i.1 in
    let a = one y s u h.0 i.0 c w h.1 i.1 (statements_behind xs h.0 r h.2 (behind_statements_statement (front r) br))
    (statements_behind ys i.0 q i.2 (behind_statements_statement (front q) bq)) in
    let b = rest ys h.0 i.0 r q a.1 h.2 i.2 br bq in
    (cc (a.0, b.0), b.1)

-- an expression as an operand, where it is one, and as operands and operators
abbrev BothSame : ExprTree → Type 0
BothSame e = OperandSame e × LinksSame e

both_of_operand : (e : ExprTree) → first_of e ≡ e → later_of e ≡ [] → ((v : ℕ) (s r : List Lexeme) → Spells v e s r → Spells 6 e s r) → OperandLike e → BothSame e
both_of_operand e fe le tight like = (operand_from_like e like, links_of_operand e fe le tight (operand_from_like e like))

both_of_binary : (o : BinaryOp) (p : Position) (l e : ExprTree) → LinksSame l → LinksSame e → BothSame (binary_expr o p l e)
both_of_binary o p l e left right = (λ f s u r q w h i br bq. absurd (no_six o h.2), links_of_binary o p l e left right)

mutual
  both_same : (e : ExprTree) → BothSame e
  both_same (name_expr p n) = both_of_operand (name_expr p n) refl refl (λ v s r h. h) (name_like p n)
  both_same (integer_expr p v) = both_of_operand (integer_expr p v) refl refl (λ v s r h. h) (integer_like p v)
  both_same (string_expr p ps) = both_of_operand (string_expr p ps) refl refl (λ v s r h. h) (string_like p ps)
  both_same (boolean_expr p b) = both_of_operand (boolean_expr p b) refl refl (λ v s r h. h) (boolean_like p b)
  both_same (call_expr c) = both_of_operand (call_expr c) refl refl (λ v s r h. h) (call_like c (call_same c))
  both_same (item_expr p n b i) = both_of_operand (item_expr p n b i) refl refl (λ v s r h. h) (item_like p n b i (expr_from_links i (both_same i).1))
  both_same (entry_expr p n d m) = both_of_operand (entry_expr p n d m) refl refl (λ v s r h. h) (entry_like p n d m)
  both_same (scope_expr p b) = both_of_operand (scope_expr p b) refl refl (λ v s r h. h) (scope_like p b (block_same b))
  both_same (parentheses_expr p x) = both_of_operand (parentheses_expr p x) refl refl (λ v s r h. h) (parentheses_like p x (expr_from_links x (both_same x).1))
  both_same (list_expr p es) = both_of_operand (list_expr p es) refl refl (λ v s r h. h) (list_like p es (lists_same es).0)
  both_same (not_expr p x) = both_of_operand (not_expr p x) refl refl (λ v s r h. h) (not_like p x (both_same x).0)
  both_same (binary_expr o p l r) = both_of_binary o p l r (both_same l).1 (both_same r).1

  lists_same : (es : ExprTrees) → ListSame es × MoreSame es
  lists_same no_exprs = (list_none, more_none)
  lists_same (expr_then x xs) =
      (list_step x xs (expr_from_links x (both_same x).1) (lists_same xs).1, more_step x xs (expr_from_links x (both_same x).1) (lists_same xs).1)

  call_same : (c : CallTree) → CallSame c
  call_same (call_tree p n es b) = call_step p n es b (lists_same es).0 (body_same b)

  body_same : (b : BodyTree) → BodySame b
  body_same no_body = body_none
  body_same (some_body b) = body_some b (block_same b)

  target_same : (t : TargetTree) → TargetSame t
  target_same (name_target p n) = target_name p n
  target_same (item_target p n b i) = target_item p n b i (expr_from_links i (both_same i).1)
  target_same (entry_target p n d m) = target_entry p n d m

  statement_same : (x : StatementTree) → StatementSame x
  statement_same (assign_statement t o p v) = statement_assign t o p v (target_same t) (expr_from_links v (both_same v).1)
  statement_same (call_statement c) = statement_call c (call_same c)
  statement_same (condition_statement c) = statement_condition c (condition_same c)

  condition_same : (c : ConditionTree) → ConditionSame c
  condition_same (condition_tree t b o) = condition_step t b o (expr_from_links t (both_same t).1) (block_same b) (otherwise_same o)

  otherwise_same : (o : OtherwiseTree) → OtherwiseSame o
  otherwise_same no_otherwise = otherwise_none
  otherwise_same (else_block b) = otherwise_block b (block_same b)
  otherwise_same (else_if c) = otherwise_if c (condition_same c)

  block_same : (b : BlockTree) → BlockSame b
  block_same no_statements = block_none
  block_same (statement_then x xs) = block_step x xs (statement_same x) (block_same xs)

-- Bytes spell one tree.
pub one_tree : (bytes : List ℕ) (a b : BlockTree) → IsTree bytes a → IsTree bytes b → a ≡ b
one_tree bytes a b h i = (block_same a b (lexemes bytes) (lexemes bytes) [] [] refl h.spells i.spells refl refl).0

-- Bytes spell one expression.
pub one_expr : (bytes : List ℕ) (a b : ExprTree) → IsExpr bytes a → IsExpr bytes b → a ≡ b
one_expr bytes a b h i = (expr_from_links a (both_same a).1 b (lexemes bytes) (lexemes bytes) [] [] refl h.spells i.spells refl refl).0
