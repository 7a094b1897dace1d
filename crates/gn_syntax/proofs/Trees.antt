-- How spelled trees grow.
use Rattle.std.proofs.Common.{◌≡◌, ℕ, List, [], ◌∷◌, ◌++◌, Some, Result, Ok, Err, IfOk, OnOk, refl, sym, ◌∙◌, subst, inl, inr}
use Rattle.gn_tree.specs.declared.position.Position.{Position}
use Rattle.gn_tree.specs.declared.tree.Expr.{Expr}
use Rattle.gn_tree.specs.declared.tree.Statement.{Statement}
use Rattle.gn_tree.specs.Tree.{no_exprs}
use Rattle.gn_tree.specs.Views.{expr_of, exprs_of, statement_of, block_of}
use Rattle.gn_tokens.specs.declared.token.TokenKind.{TokenKind}
use Rattle.gn_tokens.specs.declared.token.TokenKind.TheVariants as k
use Rattle.gn_syntax.specs.declared.error.Stop.{Stop}
use Rattle.gn_grammar.specs.Lexemes.{Lexeme}
use Rattle.gn_grammar.specs.Grammar.{IsToken, IsMark, IsKind, LastComma, Spells, SpellsList, SpellsMore, SpellsStatement, SpellsStatements}
use Rattle.gn_syntax.specs.Parsing.{front, rest_of, position_at, text_at, CommaBehind, Begun}

pub token_at : (kind : TokenKind) (position : Position) (text : List ℕ) (s rest : List Lexeme) → front s ≡ Some kind → position ≡ position_at s → text ≡ text_at s → rest ≡ rest_of s →
    IsToken kind position text s rest
token_at kind position text [] rest f p x r = cc
token_at kind position text (t ∷ ts) rest f p x r =
    let same : t.kind ≡ kind = cc in
    (t.start, λ i. record { kind = same i; start = t.start; position = sym p i; text = sym x i } ∷ sym r i)

pub mark_at : (kind : TokenKind) (position : Position) (s rest : List Lexeme) → front s ≡ Some kind → position ≡ position_at s → rest ≡ rest_of s → IsMark kind position s rest
mark_at kind position s rest f p r = (text_at s, token_at kind position (text_at s) s rest f p refl r)

pub kind_at : (kind : TokenKind) (s rest : List Lexeme) → front s ≡ Some kind → rest ≡ rest_of s → IsKind kind s rest
kind_at kind s rest f r = (position_at s, mark_at kind (position_at s) s rest f refl r)

-- A list of expressions grows by one.
more_push : (later : List Expr) (x : Expr) (s s1 s2 rest : List Lexeme) → SpellsMore (exprs_of later) s s1 → IsKind k.Comma s1 s2 → Spells 1 (expr_of x) s2 rest →
    SpellsMore (exprs_of (later ++ x ∷ [])) s rest
more_push [] x s s1 s2 rest h c e = (s2, rest, subst (λ y. IsKind k.Comma y s2) (sym h) c, e, refl)
more_push (y ∷ ys) x s s1 s2 rest h c e = (h.0, h.1, h.2, h.3, more_push ys x h.1 s1 s2 rest h.4 c e)

pub list_push : (items : List Expr) (x : Expr) (first s rest : List Lexeme) → Begun (exprs_of items) first s → Spells 1 (expr_of x) s rest → SpellsList (exprs_of (items ++ x ∷ [])) first rest
list_push [] x first s rest h e = (rest, subst (λ y. Spells 1 (expr_of x) y rest) (sym (h.spells ∙ h.comma)) e, refl)
list_push (y ∷ ys) x first s rest h e = (h.spells.0, h.spells.1, more_push ys x h.spells.0 h.mid s rest h.spells.2 h.comma e)

-- Behind a comma another may come.
pub begun_push : (items : List Expr) (x : Expr) (first s s1 s2 : List Lexeme) → Begun (exprs_of items) first s → Spells 1 (expr_of x) s s1 → IsKind k.Comma s1 s2 →
    Begun (exprs_of (items ++ x ∷ [])) first s2
begun_push [] x first s s1 s2 h e c = record { mid = s1; spells = list_push [] x first s s1 h e; comma = c }
begun_push (y ∷ ys) x first s s1 s2 h e c = record { mid = s1; spells = list_push (y ∷ ys) x first s s1 h e; comma = c }

pub begun_nothing : (s : List Lexeme) → Begun no_exprs s s
begun_nothing s = record { mid = s; spells = refl; comma = refl }

pub last_comma : (items : List Expr) (mid s : List Lexeme) → CommaBehind (exprs_of items) mid s → LastComma (exprs_of items) mid s
last_comma [] mid s c = c
last_comma (y ∷ ys) mid s c = inr c

pub last_none : (items : List Expr) (s : List Lexeme) → LastComma (exprs_of items) s s
last_none [] s = refl
last_none (y ∷ ys) s = inl refl

-- A block grows by a statement.
pub statements_push : (statements : List Statement) (x : Statement) (first s rest : List Lexeme) → SpellsStatements (block_of statements) first s → SpellsStatement (statement_of x) s rest →
    SpellsStatements (block_of (statements ++ x ∷ [])) first rest
statements_push [] x first s rest h e = (rest, subst (λ y. SpellsStatement (statement_of x) y rest) (sym h) e, refl)
statements_push (y ∷ ys) x first s rest h e = (h.0, h.1, statements_push ys x h.0 s rest h.2 e)

pub entry_spelled : (r : Result (List ℕ) Stop) (s rest : List Lexeme) → front s ≡ Some k.Identifier → IfOk r (λ t. t ≡ text_at s) → OnOk r (rest ≡ rest_of s) →
    IfOk r (λ t. (at : Position) × IsToken k.Identifier at t s rest)
entry_spelled (Ok t) s rest f x r = (position_at s, token_at k.Identifier (position_at s) t s rest f refl x r)
entry_spelled (Err e) s rest f x r = tt
