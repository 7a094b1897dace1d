-- Bytes have just one answer: what the grammar says of them is what the machine finds.
use Rattle.std.proofs.Common.{◌≡◌, ℕ, ◌<◌, ◌≤◌, Bool, true, false, List, [], ◌∷◌, ◌++◌, Option, Some, None, refl, sym, ◌∙◌, ap, subst, inl, inr, ◌⊎◌, append_assoc, append-nil, if◌then◌else◌}
use Rattle.std.proofs.lemmas.Bool.{le-ltb, lt-ltb}
use Rattle.gn_tree.specs.Tree.{ExprTree, BlockTree}
use Rattle.gn_grammar.specs.declared.fault.SyntaxFault.{SyntaxFault}
use Rattle.gn_grammar.specs.declared.fault.SyntaxFault.TheVariants.{Token, Unexpected, TooDeep}
use Rattle.gn_grammar.specs.Lexemes.{Lexeme, Last, End, Wrong, lexemes, last_of}
use Rattle.gn_grammar.specs.Machine.{Symbol, next, is_done, Verdict, Good, Bad, verdict, verdict_at, judged, max_nesting}
use Rattle.gn_grammar.specs.Start.{Start, File, Expression, IsWhole, BeginsWhole, wanted_of}
use Rattle.gn_grammar.specs.Errors.{IsRefused, next_offset, deep_after, nesting, NoneTooDeep, IsUnexpected, IsTooDeep, IsTokenError, IsErrorOf, IsTree, IsExpr}
use Rattle.gn_grammar.specs.Laws.{HasOneAnswer, HasOneExprAnswer, IsRight, IsAsJudged}
use Rattle.gn_grammar.proofs.Fits.{fits}
use Rattle.gn_grammar.proofs.Viable.{reads, reads_after, fits_reads, reads_fits, reads_push, nesting_push, whole_from_fits, fits_from_whole, begins_from_reads, reads_from_begins, judged_rightly}
use Rattle.gn_grammar.proofs.Unique.{one_tree, one_expr}

-- Tokens that can come, and are not too deep, change no verdict.
verdict_reads : (start : Start) (last : Last) (u w before : List Lexeme) (stack wanted : List Symbol) → reads (wanted_of start) before ≡ Some stack → NoneTooDeep start before u →
    reads stack u ≡ Some wanted → verdict last stack (u ++ w) ≡ verdict last wanted w
verdict_reads start last [] w before stack wanted b deep h = let e : stack ≡ wanted = cc in ap (λ x. verdict last x w) e
verdict_reads start last (t ∷ ts) w before stack wanted b deep h = go (verdict_reads start last ts w (before ++ t ∷ [])) (next stack t.kind) refl h
  where
    go : ((x y : List Symbol) → reads (wanted_of start) (before ++ t ∷ []) ≡ Some x → NoneTooDeep start (before ++ t ∷ []) ts → reads x ts ≡ Some y →
        verdict last x (ts ++ w) ≡ verdict last y w) →
        (x : Option (ℕ × List Symbol)) → next stack t.kind ≡ x → reads_after x (λ v. reads v ts) ≡ Some wanted →
        judged x t.start (λ v. verdict last v (ts ++ w)) ≡ verdict last wanted w
    go again None e h = cc
    go again (Some x) e h =
        let fine : x.0 ≤ max_nesting = rw (sym (nesting_push (wanted_of start) stack before t b ∙ ap (λ y. deep_after y (λ v. 0) []) e)) deep.0 in
        let one : reads (wanted_of start) (before ++ t ∷ []) ≡ Some x.1 = reads_push (wanted_of start) stack before t b ∙ ap (λ y. reads_after y Some) e in
        rw (le-ltb max_nesting x.0 fine) (again x.1 wanted one deep.1 h)

-- the verdict behind tokens that begin what is read
verdict_behind : (start : Start) (last : Last) (u w : List Lexeme) (wanted : List Symbol) → NoneTooDeep start [] u → reads (wanted_of start) u ≡ Some wanted →
    verdict last (wanted_of start) (u ++ w) ≡ verdict last wanted w
verdict_behind start last u w wanted deep h = verdict_reads start last u w [] (wanted_of start) wanted refl deep h

begins_before : (start : Start) (u : List Lexeme) (t : Lexeme) → BeginsWhole start (u ++ t ∷ []) → BeginsWhole start u
begins_before start u t b = (t ∷ b.0, subst (IsWhole start) (append_assoc u (t ∷ []) b.0) b.1)

-- the verdict where nothing goes on
refused_verdict : (start : Start) (last : Last) (before later : List Lexeme) (offset : ℕ) (wanted : List Symbol) → reads (wanted_of start) before ≡ Some wanted →
    next_offset last later ≡ Some offset → IsRefused start before later → verdict last wanted later ≡ Bad (Unexpected offset)
refused_verdict start (Wrong e) before [] offset wanted h here refused = cc
refused_verdict start (End at) before [] offset wanted h here refused = by_end (is_done wanted) refl
  where
    by_end : (b : Bool) → is_done wanted ≡ b → (if b then Good else Bad (Unexpected at)) ≡ Bad (Unexpected offset)
    by_end true e =
        absurd (refused (whole_from_fits start before (ap (fits (wanted_of start)) (sym (append-nil before)) ∙ fits_reads (wanted_of start) wanted before [] h ∙ e)))
    by_end false e = let same : at ≡ offset = cc in ap (λ x. Bad (Unexpected x)) same
refused_verdict start last before (t ∷ later) offset wanted h here refused = by_next (next wanted t.kind) refl
  where
    by_next : (x : Option (ℕ × List Symbol)) → next wanted t.kind ≡ x → judged x t.start (λ v. verdict last v later) ≡ Bad (Unexpected offset)
    by_next None e = let same : t.start ≡ offset = cc in ap (λ x. Bad (Unexpected x)) same
    by_next (Some x) e =
        absurd (refused (begins_from_reads start (before ++ t ∷ []) x.1 (reads_push (wanted_of start) wanted before t h ∙ ap (λ y. reads_after y Some) e)))

-- the verdict where a token is too deep
deep_verdict : (start : Start) (last : Last) (before later : List Lexeme) (t : Lexeme) (wanted : List Symbol) → reads (wanted_of start) before ≡ Some wanted →
    BeginsWhole start (before ++ t ∷ []) → max_nesting < nesting start (before ++ t ∷ []) → verdict last wanted (t ∷ later) ≡ Bad (TooDeep t.start)
deep_verdict start last before later t wanted h first deep = by_next (next wanted t.kind) refl
  where
    by_next : (x : Option (ℕ × List Symbol)) → next wanted t.kind ≡ x → judged x t.start (λ v. verdict last v later) ≡ Bad (TooDeep t.start)
    by_next None e =
        let r = reads_from_begins start (before ++ t ∷ []) first in
        let none : reads (wanted_of start) (before ++ t ∷ []) ≡ None = reads_push (wanted_of start) wanted before t h ∙ ap (λ y. reads_after y Some) e in cc
    by_next (Some x) e =
        let lt : max_nesting < x.0 = rw (sym (nesting_push (wanted_of start) wanted before t h ∙ ap (λ y. deep_after y (λ v. 0) []) e)) deep in
        rw (lt-ltb max_nesting x.0 lt)

pub verdict_of_error : (start : Start) (bytes : List ℕ) (e : SyntaxFault) → IsErrorOf start e bytes → verdict (last_of bytes) (wanted_of start) (lexemes bytes) ≡ Bad e
verdict_of_error start bytes (Token e) h =
    let i : IsTokenError start bytes e = h in
    let r = reads_from_begins start (lexemes bytes) i.first in
    ap (verdict (last_of bytes) (wanted_of start)) (sym (append-nil (lexemes bytes))) ∙ verdict_behind start (last_of bytes) (lexemes bytes) [] r.0 i.shallow r.1
    ∙ ap (λ x. verdict_at x r.0) i.last
verdict_of_error start bytes (Unexpected offset) h =
    let i : IsUnexpected start bytes offset = h in
    let r = reads_from_begins start i.before i.first in
    ap (verdict (last_of bytes) (wanted_of start)) i.split ∙ verdict_behind start (last_of bytes) i.before i.later r.0 i.shallow r.1
    ∙ refused_verdict start (last_of bytes) i.before i.later offset r.0 r.1 i.here i.refused
verdict_of_error start bytes (TooDeep offset) h =
    let i : IsTooDeep start bytes offset = h in
    let r = reads_from_begins start i.before (begins_before start i.before i.token i.first) in
    ap (verdict (last_of bytes) (wanted_of start)) i.split ∙ verdict_behind start (last_of bytes) i.before (i.token ∷ i.later) r.0 i.shallow r.1
    ∙ deep_verdict start (last_of bytes) i.before i.later i.token r.0 r.1 i.first i.deep ∙ ap (λ x. Bad (TooDeep x)) i.here

pub verdict_of_right : (start : Start) (bytes : List ℕ) → IsRight start bytes → verdict (last_of bytes) (wanted_of start) (lexemes bytes) ≡ Good
verdict_of_right start bytes h =
    let f = fits_from_whole start (lexemes bytes) h.whole in
    let r = reads_fits (wanted_of start) (lexemes bytes) [] (ap (fits (wanted_of start)) (append-nil (lexemes bytes)) ∙ f) in
    let done : is_done r.0 ≡ true = sym (fits_reads (wanted_of start) r.0 (lexemes bytes) [] r.1) ∙ ap (fits (wanted_of start)) (append-nil (lexemes bytes)) ∙ f in
    ap (verdict (last_of bytes) (wanted_of start)) (sym (append-nil (lexemes bytes))) ∙ verdict_behind start (last_of bytes) (lexemes bytes) [] r.0 h.shallow r.1
    ∙ ap (λ x. verdict_at x r.0) h.ends ∙ rw done

-- Two first errors are the same, and what is right has none.
one_error : (start : Start) (bytes : List ℕ) (e f : SyntaxFault) → IsErrorOf start e bytes → IsErrorOf start f bytes → e ≡ f
one_error start bytes e f h i = let x = verdict_of_error start bytes e h in let y = verdict_of_error start bytes f i in cc

not_both : (start : Start) (bytes : List ℕ) (e : SyntaxFault) → IsRight start bytes → IsErrorOf start e bytes → ⊥
not_both start bytes e h i = let x = verdict_of_right start bytes h in let y = verdict_of_error start bytes e i in cc

-- A tree makes the bytes right, and what is right has a tree.
tree_right : (bytes : List ℕ) (tree : BlockTree) → IsTree bytes tree → IsRight File bytes
tree_right bytes tree h = record { offset = h.offset; ends = h.ends; whole = (tree, h.spells); shallow = h.shallow }

right_tree : (bytes : List ℕ) → IsRight File bytes → (tree : BlockTree) × IsTree bytes tree
right_tree bytes h = (h.whole.0, record { offset = h.offset; ends = h.ends; spells = h.whole.1; shallow = h.shallow })

expr_right : (bytes : List ℕ) (tree : ExprTree) → IsExpr bytes tree → IsRight Expression bytes
expr_right bytes tree h = record { offset = h.offset; ends = h.ends; whole = (tree, h.spells); shallow = h.shallow }

right_expr : (bytes : List ℕ) → IsRight Expression bytes → (tree : ExprTree) × IsExpr bytes tree
right_expr bytes h = (h.whole.0, record { offset = h.offset; ends = h.ends; spells = h.whole.1; shallow = h.shallow })

some_answer : (bytes : List ℕ) (v : Verdict) → IsAsJudged File bytes v → ((tree : BlockTree) × IsTree bytes tree) ⊎ ((error : SyntaxFault) × IsErrorOf File error bytes)
some_answer bytes Good h = inl (right_tree bytes h)
some_answer bytes (Bad e) h = inr (e, h)

some_expr_answer : (bytes : List ℕ) (v : Verdict) → IsAsJudged Expression bytes v →
    ((tree : ExprTree) × IsExpr bytes tree) ⊎ ((error : SyntaxFault) × IsErrorOf Expression error bytes)
some_expr_answer bytes Good h = inl (right_expr bytes h)
some_expr_answer bytes (Bad e) h = inr (e, h)

pub one_answer : (bytes : List ℕ) → HasOneAnswer bytes
one_answer bytes = record {
  some_answer = some_answer bytes (verdict (last_of bytes) (wanted_of File) (lexemes bytes)) (judged_rightly File bytes);
  one_tree = one_tree bytes;
  one_error = one_error File bytes;
  not_both = λ tree e h i. not_both File bytes e (tree_right bytes tree h) i;
}

pub one_expr_answer : (bytes : List ℕ) → HasOneExprAnswer bytes
one_expr_answer bytes = record {
  some_answer = some_expr_answer bytes (verdict (last_of bytes) (wanted_of Expression) (lexemes bytes)) (judged_rightly Expression bytes);
  one_tree = one_expr bytes;
  one_error = one_error Expression bytes;
  not_both = λ tree e h i. not_both Expression bytes e (expr_right bytes tree h) i;
}
