-- The verdict of the machine is what the grammar says.
use Rattle.std.proofs.Common.{◌≡◌, ℕ, ◌≤◌, Bool, true, false, List, [], ◌∷◌, ◌++◌, length, Option, Some, None, refl, sym, ◌∙◌, ap, subst, arith, true≢false, append_assoc, append-nil, nat_lt, if◌then◌else◌}
use Rattle.std.proofs.lemmas.Bool.{ltb-true, ltb-false}
use Rattle.gn_grammar.specs.declared.fault.SyntaxFault.TheVariants.{Unexpected, TooDeep}
use Rattle.gn_grammar.specs.Lexemes.{Lexeme, Last, End, Wrong, lexemes, last_of}
use Rattle.gn_grammar.specs.Grammar.{Spells, SpellsStatements}
use Rattle.gn_grammar.specs.Machine.{Symbol, next, is_done, Good, Bad, verdict, verdict_at, judged, max_nesting}
use Rattle.gn_grammar.specs.Start.{Start, File, Expression, IsWhole, BeginsWhole, wanted_of}
use Rattle.gn_grammar.specs.Errors.{next_offset, deep_after, nesting_from, nesting, NoneTooDeep}
use Rattle.gn_grammar.specs.Laws.{IsAsJudged, IsJudgedRightly}
use Rattle.gn_grammar.proofs.Fits.{fits, fits_after}
use Rattle.gn_grammar.proofs.Spelled.{fits_spelled, fits_spelled_expr}
use Rattle.gn_grammar.proofs.Taken.{taken}
use Rattle.gn_grammar.proofs.Finish.{finish, fits_finish, is_linked, LinkedAfter, linked_next}

abbrev pub reads_after : Option (ℕ × List Symbol) → (List Symbol → Option (List Symbol)) → Option (List Symbol)
reads_after None go = None
reads_after (Some x) go = go x.1

-- what is wanted behind the tokens
abbrev pub reads : List Symbol → List Lexeme → Option (List Symbol)
reads stack [] = Some stack
reads stack (t ∷ ts) = reads_after (next stack t.kind) (λ wanted. reads wanted ts)

linked_reads : (stack wanted : List Symbol) (u : List Lexeme) → is_linked false stack ≡ true → reads stack u ≡ Some wanted → is_linked false wanted ≡ true
linked_reads stack wanted [] l h = let e : stack ≡ wanted = cc in ap (is_linked false) (sym e) ∙ l
linked_reads stack wanted (t ∷ ts) l h = go (λ x. linked_reads x wanted ts) (next stack t.kind) (linked_next stack t.kind l) h
  where
    go : ((x : List Symbol) → is_linked false x ≡ true → reads x ts ≡ Some wanted → is_linked false wanted ≡ true) → (x : Option (ℕ × List Symbol)) →
        LinkedAfter x → reads_after x (λ v. reads v ts) ≡ Some wanted → is_linked false wanted ≡ true
    go again None l h = cc
    go again (Some x) l h = again x.1 l h

pub fits_reads : (stack wanted : List Symbol) (u w : List Lexeme) → reads stack u ≡ Some wanted → fits stack (u ++ w) ≡ fits wanted w
fits_reads stack wanted [] w h = let e : stack ≡ wanted = cc in ap (λ x. fits x w) e
fits_reads stack wanted (t ∷ ts) w h = go (λ x. fits_reads x wanted ts w) (next stack t.kind) h
  where
    go : ((x : List Symbol) → reads x ts ≡ Some wanted → fits x (ts ++ w) ≡ fits wanted w) → (x : Option (ℕ × List Symbol)) → reads_after x (λ v. reads v ts) ≡ Some wanted → fits_after x (λ v. fits v (ts ++ w)) ≡ fits wanted w
    go again None h = cc
    go again (Some x) h = again x.1 h

pub reads_fits : (stack : List Symbol) (u w : List Lexeme) → fits stack (u ++ w) ≡ true → (wanted : List Symbol) × (reads stack u ≡ Some wanted)
reads_fits stack [] w h = (stack, refl)
reads_fits stack (t ∷ ts) w h = go (λ x. reads_fits x ts w) (next stack t.kind) h
  where
    go : ((x : List Symbol) → fits x (ts ++ w) ≡ true → (wanted : List Symbol) × (reads x ts ≡ Some wanted)) → (x : Option (ℕ × List Symbol)) → fits_after x (λ v. fits v (ts ++ w)) ≡ true → (wanted : List Symbol) × (reads_after x (λ v. reads v ts) ≡ Some wanted)
    go again None h = absurd (true≢false (sym h))
    go again (Some x) h = again x.1 h

ends : (ts : List Lexeme) → fits [] ts ≡ true → ts ≡ []
ends [] h = refl
ends (t ∷ ts) h = absurd (true≢false (sym h))

-- What the machine takes is whole, and the other way round.
pub whole_from_fits : (start : Start) (ts : List Lexeme) → fits (wanted_of start) ts ≡ true → IsWhole start ts
whole_from_fits File ts h =
    let x = (taken (length ts)).statements 0 [] ts (omega arith) h in
    (x.0, subst (λ r. SpellsStatements x.0 ts r) (ends x.1 x.3) x.2)
whole_from_fits Expression ts h =
    let x = (taken (length ts)).expr 0 [] ts (omega arith) h in
    (x.0, subst (λ r. Spells 1 x.0 ts r) (ends x.1 x.3) x.2)

pub fits_from_whole : (start : Start) (ts : List Lexeme) → IsWhole start ts → fits (wanted_of start) ts ≡ true
fits_from_whole File ts f = fits_spelled f.0 ts f.1
fits_from_whole Expression ts f = fits_spelled_expr f.0 ts f.1

linked_start : (start : Start) → is_linked false (wanted_of start) ≡ true
linked_start File = refl
linked_start Expression = refl

pub begins_from_reads : (start : Start) (u : List Lexeme) (wanted : List Symbol) → reads (wanted_of start) u ≡ Some wanted → BeginsWhole start u
begins_from_reads start u wanted h = (
  finish wanted,
  whole_from_fits start (u ++ finish wanted)
      (fits_reads (wanted_of start) wanted u (finish wanted) h ∙ fits_finish wanted (linked_reads (wanted_of start) wanted u (linked_start start) h)),
)

pub reads_from_begins : (start : Start) (u : List Lexeme) → BeginsWhole start u → (wanted : List Symbol) × (reads (wanted_of start) u ≡ Some wanted)
reads_from_begins start u b = reads_fits (wanted_of start) u b.0 (fits_from_whole start (u ++ b.0) b.1)

-- The tokens one further on.
pub reads_push : (stack wanted : List Symbol) (u : List Lexeme) (t : Lexeme) → reads stack u ≡ Some wanted →
    reads stack (u ++ t ∷ []) ≡ reads_after (next wanted t.kind) Some
reads_push stack wanted [] t h = let e : stack ≡ wanted = cc in ap (λ x. reads_after (next x t.kind) Some) e
reads_push stack wanted (s ∷ u) t h = go (λ x. reads_push x wanted u t) (next stack s.kind) h
  where
    go : ((x : List Symbol) → reads x u ≡ Some wanted → reads x (u ++ t ∷ []) ≡ reads_after (next wanted t.kind) Some) →
        (x : Option (ℕ × List Symbol)) → reads_after x (λ v. reads v u) ≡ Some wanted → reads_after x (λ v. reads v (u ++ t ∷ [])) ≡ reads_after (next wanted t.kind) Some
    go again None h = cc
    go again (Some x) h = again x.1 h

nesting_step : (wanted : List Symbol) (u : List Lexeme) (t : Lexeme) →
    ((x : List Symbol) → reads x u ≡ Some wanted → nesting_from x (u ++ t ∷ []) ≡ nesting_from wanted (t ∷ [])) →
    (x : Option (ℕ × List Symbol)) → reads_after x (λ v. reads v u) ≡ Some wanted →
    deep_after x (λ v. nesting_from v (u ++ t ∷ [])) (u ++ t ∷ []) ≡ nesting_from wanted (t ∷ [])
nesting_step wanted u t again None h = cc
nesting_step wanted [] t again (Some x) h = again x.1 h
nesting_step wanted (s ∷ u) t again (Some x) h = again x.1 h

pub nesting_push : (stack wanted : List Symbol) (u : List Lexeme) (t : Lexeme) → reads stack u ≡ Some wanted →
    nesting_from stack (u ++ t ∷ []) ≡ nesting_from wanted (t ∷ [])
nesting_push stack wanted [] t h = let e : stack ≡ wanted = cc in ap (λ x. nesting_from x (t ∷ [])) e
nesting_push stack wanted (s ∷ u) t h = nesting_step wanted u t (λ x. nesting_push x wanted u t) (next stack s.kind) h

NoneTooDeep-push : (start : Start) (before later : List Lexeme) (t : Lexeme) → NoneTooDeep start before later → nesting start ((before ++ later) ++ t ∷ []) ≤ max_nesting →
    NoneTooDeep start before (later ++ t ∷ [])
NoneTooDeep-push start before [] t h le = (subst (λ x. nesting start (x ++ t ∷ []) ≤ max_nesting) (append-nil before) le, tt)
NoneTooDeep-push start before (s ∷ later) t h le =
    (h.0, NoneTooDeep-push start (before ++ s ∷ []) later t h.1 (subst (λ x. nesting start (x ++ t ∷ []) ≤ max_nesting) (sym (append_assoc before (s ∷ []) later)) le))

-- the verdict behind the last token
judge_end : (start : Start) (bytes : List ℕ) (stack : List Symbol) (last : Last) → last_of bytes ≡ last → reads (wanted_of start) (lexemes bytes) ≡ Some stack →
    NoneTooDeep start [] (lexemes bytes) → IsAsJudged start bytes (verdict_at last stack)
judge_end start bytes stack (Wrong e) l h deep = record { last = l; first = begins_from_reads start (lexemes bytes) stack h; shallow = deep }
judge_end start bytes stack (End offset) l h deep = at_end (is_done stack) refl
  where
    done : fits (wanted_of start) (lexemes bytes) ≡ is_done stack
    done = ap (fits (wanted_of start)) (sym (append-nil (lexemes bytes))) ∙ fits_reads (wanted_of start) stack (lexemes bytes) [] h

    at_end : (b : Bool) → is_done stack ≡ b → IsAsJudged start bytes (if b then Good else Bad (Unexpected offset))
    at_end true e = record { offset = offset; ends = l; whole = whole_from_fits start (lexemes bytes) (done ∙ e); shallow = deep }
    at_end false e = record {
      before = lexemes bytes;
      later = [];
      split = sym (append-nil (lexemes bytes));
      here = ap (λ x. next_offset x []) l;
      first = begins_from_reads start (lexemes bytes) stack h;
      refused = λ f. true≢false (sym (fits_from_whole start (lexemes bytes) f) ∙ done ∙ e);
      shallow = deep;
    }

-- the verdict behind tokens that were read
judge : (start : Start) (bytes : List ℕ) (ts before : List Lexeme) (stack : List Symbol) → lexemes bytes ≡ before ++ ts → reads (wanted_of start) before ≡ Some stack →
    NoneTooDeep start [] before → IsAsJudged start bytes (verdict (last_of bytes) stack ts)
judge start bytes [] before stack s h deep =
    let same : lexemes bytes ≡ before = s ∙ append-nil before in
    judge_end start bytes stack (last_of bytes) refl (ap (reads (wanted_of start)) same ∙ h) (subst (NoneTooDeep start []) (sym same) deep)
judge start bytes (t ∷ ts) before stack s h deep = go (judge start bytes ts (before ++ t ∷ [])) (next stack t.kind) refl
  where
    go : ((stack : List Symbol) → lexemes bytes ≡ (before ++ t ∷ []) ++ ts → reads (wanted_of start) (before ++ t ∷ []) ≡ Some stack →
        NoneTooDeep start [] (before ++ t ∷ []) → IsAsJudged start bytes (verdict (last_of bytes) stack ts)) →
        (x : Option (ℕ × List Symbol)) → next stack t.kind ≡ x → IsAsJudged start bytes (judged x t.start (λ w. verdict (last_of bytes) w ts))
    go again None e = record {
      before = before;
      later = t ∷ ts;
      split = s;
      here = refl;
      first = begins_from_reads start before stack h;
      refused = λ b. let r = reads_from_begins start (before ++ t ∷ []) b in
          let none : reads (wanted_of start) (before ++ t ∷ []) ≡ None = reads_push (wanted_of start) stack before t h ∙ ap (λ x. reads_after x Some) e in cc;
      shallow = deep;
    }
    go again (Some x) e = by_depth (nat_lt max_nesting x.0) refl
      where
        one_more : reads (wanted_of start) (before ++ t ∷ []) ≡ Some x.1
        one_more = reads_push (wanted_of start) stack before t h ∙ ap (λ x. reads_after x Some) e

        is_deep : nesting start (before ++ t ∷ []) ≡ x.0
        is_deep = nesting_push (wanted_of start) stack before t h ∙ ap (λ y. deep_after y (λ w. 0) []) e

        by_depth : (b : Bool) → nat_lt max_nesting x.0 ≡ b → IsAsJudged start bytes (if b then Bad (TooDeep t.start) else verdict (last_of bytes) x.1 ts)
        by_depth true d = record {
          before = before;
          token = t;
          later = ts;
          split = s;
          here = refl;
          first = begins_from_reads start (before ++ t ∷ []) x.1 one_more;
          deep = rw is_deep (ltb-true max_nesting x.0 d);
          shallow = deep;
        }
        by_depth false d =
            let fine : nesting start (before ++ t ∷ []) ≤ max_nesting = rw is_deep (ltb-false max_nesting x.0 d) in
            again x.1 (s ∙ sym (append_assoc before (t ∷ []) ts)) one_more (NoneTooDeep-push start [] before t deep fine)

-- What the machine says of bytes is so in the words of the grammar.
pub judged_rightly : (start : Start) (bytes : List ℕ) → IsJudgedRightly start bytes
judged_rightly start bytes = judge start bytes (lexemes bytes) [] (wanted_of start) refl refl tt
