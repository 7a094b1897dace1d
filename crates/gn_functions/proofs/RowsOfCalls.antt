-- The rows of the calls on texts and lists, and of those on paths and labels, and the calls themselves say the same of the number of arguments.
use Rattle.std.proofs.Common.{◌≡◌, ℕ, zero, suc, ◌≤◌, true, false, ◌&&◌, nat_le, List, [], ◌∷◌, length, Some, refl, sym, ap, arith, true≢false}
use Rattle.std.proofs.lemmas.Bool.{leb-true, and_parts}
use Rattle.gn_values.specs.Val.{Val, vbool}
use Rattle.gn_calls_text.specs.declared.call.TextCall.{TextCall}
use Rattle.gn_calls_text.specs.declared.call.TextCall.TheVariants.{FilterInclude, FilterExclude, SplitList, StringJoin, StringReplace, StringSplit}
use Rattle.gn_calls_text.specs.Answers.{wrong_type, texts_in}
use Rattle.gn_calls_text.specs.Calls.{text_call}
use Rattle.gn_calls_path.specs.declared.call.PathCall.{PathCall}
use Rattle.gn_calls_path.specs.declared.call.PathCall.TheVariants.{GetLabelInfo, GetPathInfo, LabelMatches, ProcessFileTemplate, RebasePath}
use Rattle.gn_calls_path.specs.declared.place.Where.{Where}
use Rattle.gn_calls_path.specs.Calls.{path_call}
use Rattle.gn_functions.specs.Rules.{takes, rule_of, without_block}
use Rattle.gn_functions.specs.Laws.{row_takes, RefusedAlike, TakenAlike}
use Rattle.gn_functions.specs.declared.function.Plain.TheVariants.{Text, Path}

pub refused_alike : (f : TextCall) → RefusedAlike (Text f) (text_call f)
unfolding takes rule_of text_call
refused_alike FilterInclude [] h = refl
refused_alike FilterInclude (a ∷ []) h = refl
refused_alike FilterInclude (a ∷ b ∷ []) h = absurd (true≢false h)
refused_alike FilterInclude (a ∷ b ∷ c ∷ vs) h = refl
refused_alike FilterExclude [] h = refl
refused_alike FilterExclude (a ∷ []) h = refl
refused_alike FilterExclude (a ∷ b ∷ []) h = absurd (true≢false h)
refused_alike FilterExclude (a ∷ b ∷ c ∷ vs) h = refl
refused_alike SplitList [] h = refl
refused_alike SplitList (a ∷ []) h = refl
refused_alike SplitList (a ∷ b ∷ []) h = absurd (true≢false h)
refused_alike SplitList (a ∷ b ∷ c ∷ vs) h = refl
refused_alike StringJoin [] h = refl
refused_alike StringJoin (a ∷ []) h = refl
refused_alike StringJoin (a ∷ b ∷ []) h = absurd (true≢false h)
refused_alike StringJoin (a ∷ b ∷ c ∷ vs) h = refl
refused_alike StringReplace [] h = refl
refused_alike StringReplace (a ∷ []) h = refl
refused_alike StringReplace (a ∷ b ∷ []) h = refl
refused_alike StringReplace (a ∷ b ∷ c ∷ []) h = absurd (true≢false h)
refused_alike StringReplace (a ∷ b ∷ c ∷ d ∷ []) h = absurd (true≢false h)
refused_alike StringReplace (a ∷ b ∷ c ∷ d ∷ e ∷ vs) h = refl
refused_alike StringSplit [] h = refl
refused_alike StringSplit (a ∷ []) h = absurd (true≢false h)
refused_alike StringSplit (a ∷ b ∷ []) h = absurd (true≢false h)
refused_alike StringSplit (a ∷ b ∷ c ∷ vs) h = refl

-- a number that a row takes stands between its least and its most
is_within : (least most count : ℕ) → takes (without_block least (Some most)) count false ≡ true → (least ≤ count) × (count ≤ most)
unfolding takes
is_within least most count h =
    let b : (nat_le least count ≡ true) × ((nat_le count most && true) ≡ true) = and_parts (nat_le least count) (nat_le count most && true) h in
    (leb-true _ _ b.0, leb-true _ _ (and_parts (nat_le count most) true b.1).0)

-- so many values of a type that none of these calls takes first
abbrev booleans : ℕ → List Val
booleans zero = []
booleans (suc count) = vbool true ∷ booleans count

count_of : (count : ℕ) → length (booleans count) ≡ count
count_of zero = refl
count_of (suc count) = ap suc (count_of count)

judged : (f : TextCall) (count : ℕ) → row_takes (Text f) count ≡ true → text_call f (booleans count) ≡ wrong_type 0
unfolding takes rule_of text_call texts_in
judged FilterInclude zero h = absurd (true≢false (sym h))
judged FilterInclude (suc zero) h = absurd (true≢false (sym h))
judged FilterInclude (suc (suc zero)) h = refl
judged FilterInclude (suc (suc (suc n))) h = absurd (omega (arith, (is_within 2 2 (suc (suc (suc n))) h).1))
judged FilterExclude zero h = absurd (true≢false (sym h))
judged FilterExclude (suc zero) h = absurd (true≢false (sym h))
judged FilterExclude (suc (suc zero)) h = refl
judged FilterExclude (suc (suc (suc n))) h = absurd (omega (arith, (is_within 2 2 (suc (suc (suc n))) h).1))
judged SplitList zero h = absurd (true≢false (sym h))
judged SplitList (suc zero) h = absurd (true≢false (sym h))
judged SplitList (suc (suc zero)) h = refl
judged SplitList (suc (suc (suc n))) h = absurd (omega (arith, (is_within 2 2 (suc (suc (suc n))) h).1))
judged StringJoin zero h = absurd (true≢false (sym h))
judged StringJoin (suc zero) h = absurd (true≢false (sym h))
judged StringJoin (suc (suc zero)) h = refl
judged StringJoin (suc (suc (suc n))) h = absurd (omega (arith, (is_within 2 2 (suc (suc (suc n))) h).1))
judged StringReplace zero h = absurd (true≢false (sym h))
judged StringReplace (suc zero) h = absurd (true≢false (sym h))
judged StringReplace (suc (suc zero)) h = absurd (true≢false (sym h))
judged StringReplace (suc (suc (suc zero))) h = refl
judged StringReplace (suc (suc (suc (suc zero)))) h = refl
judged StringReplace (suc (suc (suc (suc (suc n))))) h = absurd (omega (arith, (is_within 3 4 (suc (suc (suc (suc (suc n))))) h).1))
judged StringSplit zero h = absurd (true≢false (sym h))
judged StringSplit (suc zero) h = refl
judged StringSplit (suc (suc zero)) h = refl
judged StringSplit (suc (suc (suc n))) h = absurd (omega (arith, (is_within 1 2 (suc (suc (suc n))) h).1))

pub taken_alike : (f : TextCall) → TakenAlike (Text f) (text_call f)
taken_alike f count h = (booleans count, (count_of count, judged f count h))

-- Calls on paths and labels, wherever they stand

pub paths_refused_alike : (f : PathCall) (w : Where) → RefusedAlike (Path f) (path_call f w)
unfolding takes rule_of path_call
paths_refused_alike GetLabelInfo w [] h = refl
paths_refused_alike GetLabelInfo w (a ∷ []) h = refl
paths_refused_alike GetLabelInfo w (a ∷ b ∷ []) h = absurd (true≢false h)
paths_refused_alike GetLabelInfo w (a ∷ b ∷ c ∷ vs) h = refl
paths_refused_alike GetPathInfo w [] h = refl
paths_refused_alike GetPathInfo w (a ∷ []) h = refl
paths_refused_alike GetPathInfo w (a ∷ b ∷ []) h = absurd (true≢false h)
paths_refused_alike GetPathInfo w (a ∷ b ∷ c ∷ vs) h = refl
paths_refused_alike LabelMatches w [] h = refl
paths_refused_alike LabelMatches w (a ∷ []) h = refl
paths_refused_alike LabelMatches w (a ∷ b ∷ []) h = absurd (true≢false h)
paths_refused_alike LabelMatches w (a ∷ b ∷ c ∷ vs) h = refl
paths_refused_alike ProcessFileTemplate w [] h = refl
paths_refused_alike ProcessFileTemplate w (a ∷ []) h = refl
paths_refused_alike ProcessFileTemplate w (a ∷ b ∷ []) h = absurd (true≢false h)
paths_refused_alike ProcessFileTemplate w (a ∷ b ∷ c ∷ vs) h = refl
paths_refused_alike RebasePath w [] h = refl
paths_refused_alike RebasePath w (a ∷ []) h = absurd (true≢false h)
paths_refused_alike RebasePath w (a ∷ b ∷ []) h = absurd (true≢false h)
paths_refused_alike RebasePath w (a ∷ b ∷ c ∷ []) h = absurd (true≢false h)
paths_refused_alike RebasePath w (a ∷ b ∷ c ∷ d ∷ vs) h = refl

paths_judged : (f : PathCall) (w : Where) (count : ℕ) → row_takes (Path f) count ≡ true → path_call f w (booleans count) ≡ wrong_type 0
unfolding takes rule_of path_call texts_in
paths_judged GetLabelInfo w zero h = absurd (true≢false (sym h))
paths_judged GetLabelInfo w (suc zero) h = absurd (true≢false (sym h))
paths_judged GetLabelInfo w (suc (suc zero)) h = refl
paths_judged GetLabelInfo w (suc (suc (suc n))) h = absurd (omega (arith, (is_within 2 2 (suc (suc (suc n))) h).1))
paths_judged GetPathInfo w zero h = absurd (true≢false (sym h))
paths_judged GetPathInfo w (suc zero) h = absurd (true≢false (sym h))
paths_judged GetPathInfo w (suc (suc zero)) h = refl
paths_judged GetPathInfo w (suc (suc (suc n))) h = absurd (omega (arith, (is_within 2 2 (suc (suc (suc n))) h).1))
paths_judged LabelMatches w zero h = absurd (true≢false (sym h))
paths_judged LabelMatches w (suc zero) h = absurd (true≢false (sym h))
paths_judged LabelMatches w (suc (suc zero)) h = refl
paths_judged LabelMatches w (suc (suc (suc n))) h = absurd (omega (arith, (is_within 2 2 (suc (suc (suc n))) h).1))
paths_judged ProcessFileTemplate w zero h = absurd (true≢false (sym h))
paths_judged ProcessFileTemplate w (suc zero) h = absurd (true≢false (sym h))
paths_judged ProcessFileTemplate w (suc (suc zero)) h = refl
paths_judged ProcessFileTemplate w (suc (suc (suc n))) h = absurd (omega (arith, (is_within 2 2 (suc (suc (suc n))) h).1))
paths_judged RebasePath w zero h = absurd (true≢false (sym h))
paths_judged RebasePath w (suc zero) h = refl
paths_judged RebasePath w (suc (suc zero)) h = refl
paths_judged RebasePath w (suc (suc (suc zero))) h = refl
paths_judged RebasePath w (suc (suc (suc (suc n)))) h = absurd (omega (arith, (is_within 1 3 (suc (suc (suc (suc n)))) h).1))

pub paths_taken_alike : (f : PathCall) (w : Where) → TakenAlike (Path f) (path_call f w)
paths_taken_alike f w count h = (booleans count, (count_of count, paths_judged f w count h))
