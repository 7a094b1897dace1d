-- Runs of bytes that aren't white space.
use Rattle.std.proofs.Common.{◌≡◌, ℕ, ◌+◌, ◌-◌, ◌<◌, ◌≤◌, Bool, true, false, cond, not, ◌&&◌, List, [], ◌∷◌, ◌++◌, length, take, drop, get_or, refl, sym, ap, ◌∙◌, subst, arith, true≢false}
use Rattle.std.specs.List.{filter, list_all}
use Rattle.std.proofs.lemmas.List.{map-append, drop_more, drop-drop, take-append-drop, take_rest, get_or-drop, length-drop}
use Rattle.std.proofs.lemmas.List.Folds.{list_all_more}
use Rattle.gn_values.specs.Val.{Val, vstr}
use Rattle.gn_values.specs.Limits.{list_fits}
use Rattle.gn_calls_text.specs.Calls.{text_list}
use Rattle.gn_calls_text.proofs.GrowthLemmas.{moved}
use Rattle.gn_calls_text.specs.Pieces.{is_white_space, before_first, between_white_space, is_filled, words}

-- no byte of a run is white space
abbrev pub is_run : List ℕ → Bool
is_run run = list_all (λ b. not (is_white_space b)) run

run_parts : (b : ℕ) (more : List ℕ) → is_run (b ∷ more) ≡ true → (is_white_space b ≡ false) × (is_run more ≡ true)
run_parts b more h = by (is_white_space b) refl h
  where
    by : (v : Bool) → is_white_space b ≡ v → (not v && is_run more) ≡ true → (is_white_space b ≡ false) × (is_run more ≡ true)
    by true e g = absurd (true≢false (sym g))
    by false e g = (e, g)

between_run : (run : List ℕ) → is_run run ≡ true → between_white_space run ≡ run ∷ []
unfolding between_white_space
between_run [] h = refl
between_run (b ∷ more) h =
    let parts = run_parts b more h in
    ap (λ v. cond v ([] ∷ between_white_space more) (before_first b (between_white_space more))) parts.0 ∙ ap (before_first b) (between_run more parts.1)

between_space : (run : List ℕ) (w : ℕ) (more : List ℕ) → is_run run ≡ true → is_white_space w ≡ true → between_white_space (run ++ w ∷ more) ≡ run ∷ between_white_space more
unfolding between_white_space
between_space [] w more h white = ap (λ v. cond v ([] ∷ between_white_space more) (before_first w (between_white_space more))) white
between_space (b ∷ run) w more h white =
    let parts = run_parts b run h in
    ap (λ v. cond v ([] ∷ between_white_space (run ++ w ∷ more)) (before_first b (between_white_space (run ++ w ∷ more)))) parts.0
    ∙ ap (before_first b) (between_space run w more parts.1 white)

filled_more : (run : List ℕ) (ts : List (List ℕ)) → filter is_filled (run ∷ ts) ≡ filter is_filled (run ∷ []) ++ filter is_filled ts
filled_more [] ts = refl
filled_more (b ∷ run) ts = refl

pub words_space : (run : List ℕ) (w : ℕ) (more : List ℕ) → is_run run ≡ true → is_white_space w ≡ true → text_list (words (run ++ w ∷ more)) ≡ text_list (filter is_filled (run ∷ [])) ++ text_list (words more)
unfolding words
words_space run w more h white =
    ap (λ ts. text_list (filter is_filled ts)) (between_space run w more h white)
    ∙ ap text_list (filled_more run (between_white_space more))
    ∙ map-append vstr (filter is_filled (run ∷ [])) (filter is_filled (between_white_space more))

pub words_end : (run : List ℕ) → is_run run ≡ true → text_list (words run) ≡ text_list (filter is_filled (run ∷ []))
unfolding words
words_end run h = ap (λ ts. text_list (filter is_filled ts)) (between_run run h)

-- how far the runs of a text are gathered: those before `start` are, and from there up to `place` there is no white space
abbrev pub IsGathered : List ℕ → List Val → ℕ → ℕ → Type 0
IsGathered text runs start place =
    (start ≤ place) × ((runs ++ text_list (words (drop start text)) ≡ text_list (words text))
    × ((is_run (take (place - start) (drop start text)) ≡ true) × (list_fits runs ≡ true)))

pub words_cut : (text : List ℕ) (runs : List Val) (start place : ℕ) → IsGathered text runs start place → place < length text → is_white_space (get_or text place 0) ≡ true → text_list (words (drop start text)) ≡ text_list (filter is_filled (take (place - start) (drop start text) ∷ [])) ++ text_list (words (drop (place + 1) text))
words_cut text runs start place g within white =
    let low = g.0 in
    let run = take (place - start) (drop start text) in
    let at : start + (place - start) ≡ place = omega arith in
    ap (λ t. text_list (words t)) (sym (take-append-drop (place - start) (drop start text))
    ∙ ap (λ t. run ++ t) (drop-drop (place - start) start text ∙ ap (λ n. drop n text) at ∙ drop_more text place 0 within))
    ∙ words_space run (get_or text place 0) (drop (place + 1) text) g.1.1.0 white

pub gathered_run : (text : List ℕ) (runs runs' : List Val) (start start' place : ℕ) → IsGathered text runs start place → place < length text → is_white_space (get_or text place 0) ≡ true → start' ≡ place + 1 → runs' ≡ runs ++ text_list (filter is_filled (take (place - start) (drop start text) ∷ [])) → list_fits runs' ≡ true → IsGathered text runs' start' (place + 1)
gathered_run text runs runs' start start' place g within white next grown fits =
    let low : start' ≤ place + 1 = omega arith in
    let none : place + 1 - start' ≡ 0 = omega arith in (
      low,
      (
        ap (λ n. runs' ++ text_list (words (drop n text))) next
            ∙ moved runs runs' _ (text_list (words (drop (place + 1) text))) (text_list (words (drop start text))) (text_list (words text)) g.1.0 (words_cut text runs start place g within white) grown,
        (ap (λ n. is_run (take n (drop start' text))) none, fits),
      ),
    )

pub gathered_byte : (text : List ℕ) (runs runs' : List Val) (start start' place : ℕ) → IsGathered text runs start place → place < length text → is_white_space (get_or text place 0) ≡ false → start' ≡ start → runs' ≡ runs → IsGathered text runs' start' (place + 1)
gathered_byte text runs runs' start start' place g within other same kept =
    let low = g.0 in
    let one : place + 1 - start ≡ place - start + 1 = omega arith in
    let at : start + (place - start) ≡ place = omega arith in
    let inside : place - start < length (drop start text) = omega (arith, length-drop start text) in
    let byte : get_or (drop start text) (place - start) 0 ≡ get_or text place 0 = get_or-drop start text (place - start) 0 ∙ ap (λ n. get_or text n 0) at in
    let run : is_run (take (place + 1 - start) (drop start text)) ≡ true =
    ap (λ n. is_run (take n (drop start text))) one ∙ list_all_more (λ b. not (is_white_space b)) (drop start text) (place - start) 0 inside
    ∙ ap (λ v. v && not (is_white_space (get_or (drop start text) (place - start) 0))) g.1.1.0 ∙ ap (λ b. not (is_white_space b)) byte ∙ ap not other in
    let next : start ≤ place + 1 = omega arith in
    subst (λ r. IsGathered text r start' (place + 1)) (sym kept) (subst (λ s. IsGathered text runs s (place + 1)) (sym same) (next, (g.1.0, (run, g.1.1.1))))

-- the last run goes up to the end of the text
pub words_over : (text : List ℕ) (runs : List Val) (start place : ℕ) → IsGathered text runs start place → length text ≤ place → place ≤ length text → text_list (words text) ≡ runs ++ text_list (filter is_filled (take (length text - start) (drop start text) ∷ []))
words_over text runs start place g over within =
    let at : place - start ≡ length text - start = omega arith in
    let run = take (length text - start) (drop start text) in
    sym g.1.0 ∙ ap (λ t. runs ++ text_list (words t)) (sym (take_rest text start))
    ∙ ap (λ r. runs ++ r) (words_end run (ap (λ n. is_run (take n (drop start text))) (sym at) ∙ g.1.1.0))
