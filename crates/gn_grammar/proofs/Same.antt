-- The same tokens are the same parts: single tokens, brackets, and how an operand or a statement begins.
use Rattle.std.proofs.Common.{◌≡◌, ℕ, Bool, true, false, List, [], ◌∷◌, Option, Some, refl, sym, ◌∙◌, ap, true≢false}
use Rattle.gn_tree.specs.declared.position.Position.{Position}
use Rattle.gn_tree.specs.declared.operator.AssignOp.{AssignOp}
use Rattle.gn_tree.specs.declared.operator.AssignOp.TheVariants as assign
use Rattle.gn_tree.specs.declared.operator.BinaryOp.{BinaryOp}
use Rattle.gn_tree.specs.declared.operator.BinaryOp.TheVariants as binary
use Rattle.gn_tree.specs.Tree.{ExprTree, name_expr, integer_expr, string_expr, boolean_expr, call_expr, item_expr, entry_expr, scope_expr, parentheses_expr, list_expr, not_expr, binary_expr, CallTree, call_tree, TargetTree, name_target, item_target, entry_target, StatementTree, assign_statement, call_statement, condition_statement, condition_tree}
use Rattle.gn_tokens.specs.declared.token.TokenKind.{TokenKind}
use Rattle.gn_tokens.specs.declared.token.TokenKind.TheVariants as k
use Rattle.gn_grammar.specs.Lexemes.{Lexeme}
use Rattle.gn_grammar.specs.Grammar.{mark_of, assign_mark, boolean_word, IsToken, IsMark, IsKind, Encloses, Spells, SpellsCall, SpellsTarget, SpellsStatement}
use Rattle.gn_grammar.proofs.Fits.{absurd_false, no_six, front, is_behind_operand, is_behind_statement}

pub absurd_true : {A : Type 0} → true ≡ false → A
absurd_true h = absurd (true≢false h)

abbrev rest_of : List Lexeme → List Lexeme
rest_of [] = []
rest_of (t ∷ ts) = ts

abbrev first_or : Lexeme → List Lexeme → Lexeme
first_or t [] = t
first_or t (u ∷ us) = u

pub same_token : (one two : TokenKind) (p q : Position) (text other : List ℕ) (s u rest later : List Lexeme) → s ≡ u → IsToken one p text s rest →
    IsToken two q other u later → (one ≡ two) × (p ≡ q) × (text ≡ other) × (rest ≡ later)
same_token one two p q text other s u rest later e h i =
    let t : Lexeme = record { kind = one; start = h.0; position = p; text = text } in
    let both : (t ∷ rest) ≡ (record { kind = two; start = i.0; position = q; text = other } ∷ later) = sym h.1 ∙ e ∙ i.1 in
    (ap (λ x. (first_or t x).kind) both, ap (λ x. (first_or t x).position) both, ap (λ x. (first_or t x).text) both, ap rest_of both)

pub same_mark : (one two : TokenKind) (p q : Position) (s u rest later : List Lexeme) → s ≡ u → IsMark one p s rest → IsMark two q u later →
    (one ≡ two) × (p ≡ q) × (rest ≡ later)
same_mark one two p q s u rest later e h i = let t = same_token one two p q h.0 i.0 s u rest later e h.1 i.1 in (t.0, t.1, t.3)

pub same_kind : (one two : TokenKind) (s u rest later : List Lexeme) → s ≡ u → IsKind one s rest → IsKind two u later → (one ≡ two) × (rest ≡ later)
same_kind one two s u rest later e h i = let t = same_mark one two h.0 i.0 s u rest later e h.1 i.1 in (t.0, t.2)

-- The same tokens in brackets are the same inside, where what stands inside is told by its tokens and the closing bracket.
pub same_enclosed : {A : Type 0} (left right : TokenKind) (p q : Position) (Inside Other : List Lexeme → List Lexeme → Type 0) (s u rest later : List Lexeme) →
    s ≡ u → Encloses left p Inside right s rest → Encloses left q Other right u later →
    ((s1 s2 u1 u2 : List Lexeme) → s1 ≡ u1 → Inside s1 s2 → Other u1 u2 → front s2 ≡ Some right → front u2 ≡ Some right → A × (s2 ≡ u2)) →
    (p ≡ q) × A × (rest ≡ later)
same_enclosed left right p q Inside Other s u rest later e h i inner =
    let t = same_mark left left p q s u h.0 i.0 e h.2 i.2 in
    let x = inner h.0 h.1 i.0 i.1 t.2 h.3 i.3 (ap front h.4.1.1.1) (ap front i.4.1.1.1) in
    (t.1, x.0, (same_kind right right h.1 i.1 rest later x.1 h.4 i.4).1)

abbrev of_mark : TokenKind → BinaryOp
of_mark k.Plus = binary.Add
of_mark k.Minus = binary.Subtract
of_mark k.Less = binary.Less
of_mark k.LessEqual = binary.LessEqual
of_mark k.Greater = binary.Greater
of_mark k.GreaterEqual = binary.GreaterEqual
of_mark k.Equal = binary.Equal
of_mark k.NotEqual = binary.NotEqual
of_mark k.And = binary.And
of_mark _ = binary.Or

of_mark_of : (o : BinaryOp) → of_mark (mark_of o) ≡ o
of_mark_of binary.Add = refl
of_mark_of binary.Subtract = refl
of_mark_of binary.Less = refl
of_mark_of binary.LessEqual = refl
of_mark_of binary.Greater = refl
of_mark_of binary.GreaterEqual = refl
of_mark_of binary.Equal = refl
of_mark_of binary.NotEqual = refl
of_mark_of binary.And = refl
of_mark_of binary.Or = refl

pub mark_injective : (o r : BinaryOp) → mark_of o ≡ mark_of r → o ≡ r
mark_injective o r e = sym (of_mark_of o) ∙ ap of_mark e ∙ of_mark_of r

pub sign_injective : (o r : AssignOp) → assign_mark o ≡ assign_mark r → o ≡ r
sign_injective assign.Set assign.Set e = refl
sign_injective assign.Add assign.Add e = refl
sign_injective assign.Subtract assign.Subtract e = refl
sign_injective _ _ e = cc

-- An operator between operands goes on with a statement.
pub mark_not_behind : (o : BinaryOp) → is_behind_statement (Some (mark_of o)) ≡ false
mark_not_behind binary.Add = refl
mark_not_behind binary.Subtract = refl
mark_not_behind binary.Less = refl
mark_not_behind binary.LessEqual = refl
mark_not_behind binary.Greater = refl
mark_not_behind binary.GreaterEqual = refl
mark_not_behind binary.Equal = refl
mark_not_behind binary.NotEqual = refl
mark_not_behind binary.And = refl
mark_not_behind binary.Or = refl

-- how an operand or a statement begins
pub data Shape : Type 0 where
  named : Shape
  called : Shape
  indexed : Shape
  dotted : Shape
  truth : (value : Bool) → Shape
  plain : (kind : TokenKind) → Shape
  nothing : Shape

abbrev named_shape : Option TokenKind → Shape
named_shape (Some k.OpenParen) = called
named_shape (Some k.OpenBracket) = indexed
named_shape (Some k.Dot) = dotted
named_shape _ = named

abbrev shape_by : TokenKind → Option TokenKind → Shape
shape_by k.Identifier second = named_shape second
shape_by k.True second = truth true
shape_by k.False second = truth false
shape_by kind second = plain kind

-- the same of tokens
abbrev pub shape_at : List Lexeme → Shape
shape_at [] = nothing
shape_at (t ∷ ts) = shape_by t.kind (front ts)

abbrev pub expr_shape : ExprTree → Shape
expr_shape (name_expr p n) = named
expr_shape (integer_expr p v) = plain k.Integer
expr_shape (string_expr p ps) = plain k.Str
expr_shape (boolean_expr p b) = truth b
expr_shape (call_expr c) = called
expr_shape (item_expr p n b i) = indexed
expr_shape (entry_expr p n d e) = dotted
expr_shape (scope_expr p b) = plain k.OpenBrace
expr_shape (parentheses_expr p e) = plain k.OpenParen
expr_shape (list_expr p es) = plain k.OpenBracket
expr_shape (not_expr p e) = plain k.Not
expr_shape (binary_expr o p l r) = nothing

behind_named : (kind : Option TokenKind) → is_behind_operand kind ≡ true → named_shape kind ≡ named
behind_named (Some k.OpenParen) h = absurd_false h
behind_named (Some k.OpenBracket) h = absurd_false h
behind_named (Some k.Dot) h = absurd_false h
behind_named _ h = refl

boolean_shape : (b : Bool) (second : Option TokenKind) → shape_by (boolean_word b) second ≡ truth b
boolean_shape true second = refl
boolean_shape false second = refl

call_shape : (c : CallTree) (s rest : List Lexeme) → SpellsCall c s rest → shape_at s ≡ called
call_shape (call_tree p n es b) s rest h = ap shape_at h.2.1 ∙ ap (λ x. named_shape (front x)) h.3.1.2.1.1

-- An operand begins by its shape.
pub operand_shape : (e : ExprTree) (s rest : List Lexeme) → Spells 6 e s rest → is_behind_operand (front rest) ≡ true → shape_at s ≡ expr_shape e
operand_shape (name_expr p n) s rest h b = ap shape_at h.1 ∙ behind_named (front rest) b
operand_shape (integer_expr p v) s rest h b = ap shape_at h.1.1
operand_shape (string_expr p ps) s rest h b = ap shape_at h.1.1
operand_shape (boolean_expr p v) s rest h b = ap shape_at h.1.1 ∙ boolean_shape v (front rest)
operand_shape (call_expr c) s rest h b = call_shape c s rest h
operand_shape (item_expr p n q i) s rest h b = ap shape_at h.1.1 ∙ ap (λ x. named_shape (front x)) h.2.2.1.1
operand_shape (entry_expr p n q i) s rest h b = ap shape_at h.3.1 ∙ ap (λ x. named_shape (front x)) h.4.1.1
operand_shape (scope_expr p v) s rest h b = ap shape_at h.2.1.1
operand_shape (parentheses_expr p e) s rest h b = ap shape_at h.2.1.1
operand_shape (list_expr p es) s rest h b = ap shape_at h.2.1.1
operand_shape (not_expr p e) s rest h b = ap shape_at h.1.1.1
operand_shape (binary_expr o p l r) s rest h b = absurd (no_six o h.2)

abbrev pub target_shape : TargetTree → Shape
target_shape (name_target p n) = named
target_shape (item_target p n b i) = indexed
target_shape (entry_target p n d e) = dotted

abbrev pub statement_shape : StatementTree → Shape
statement_shape (assign_statement t o p v) = target_shape t
statement_shape (call_statement c) = called
statement_shape (condition_statement c) = plain k.If

sign_named : (o : AssignOp) → named_shape (Some (assign_mark o)) ≡ named
sign_named assign.Set = refl
sign_named assign.Add = refl
sign_named assign.Subtract = refl

target_begins : (t : TargetTree) (o : AssignOp) (s rest : List Lexeme) → SpellsTarget t s rest → front rest ≡ Some (assign_mark o) → shape_at s ≡ target_shape t
target_begins (name_target p n) o s rest h f = ap shape_at h.1 ∙ ap named_shape f ∙ sign_named o
target_begins (item_target p n q i) o s rest h f = ap shape_at h.1.1 ∙ ap (λ x. named_shape (front x)) h.2.2.1.1
target_begins (entry_target p n q i) o s rest h f = ap shape_at h.3.1 ∙ ap (λ x. named_shape (front x)) h.4.1.1

-- A statement begins by its shape.
pub statement_begins : (x : StatementTree) (s rest : List Lexeme) → SpellsStatement x s rest → shape_at s ≡ statement_shape x
statement_begins (assign_statement t o p v) s rest h = target_begins t o s h.0 h.2 (ap front h.3.1.1)
statement_begins (call_statement c) s rest h = call_shape c s rest h
statement_begins (condition_statement (condition_tree t b o)) s rest h = ap shape_at h.3.1.1.1
