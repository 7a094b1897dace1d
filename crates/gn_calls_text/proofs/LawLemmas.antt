-- Laws of the calls.
use Rattle.std.proofs.Common.{◌≡◌, ℕ, zero, suc, pos, ◌+◌, ◌/◌, ◌%◌, ◌<◌, ◌≤◌, Bool, true, false, cond, not, nat_eq, List, [], ◌∷◌, ◌++◌, length, take, drop, get_or, map, Option, Some, None, option_map, refl, sym, ap, ◌∙◌, subst, arith, append_assoc, inl, inr}
use Rattle.std.specs.List.{starts_with, flat_map, filter}
use Rattle.std.proofs.lemmas.List.{append-nil, take-append-drop, drop-drop, length-take, length-drop}
use Rattle.std.proofs.lemmas.Slice.Eq.{starts_is}
use Rattle.std.proofs.lemmas.Bool.Decides.{Decides-eqb}
use Rattle.gn_values.specs.Val.{Val, Vals, vint, vstr, vlist, vals_of, list_of}
use Rattle.gn_values.specs.Limits.{text_fits, list_fits}
use Rattle.gn_value_model.proofs.Items.{list_of-vals}
use Rattle.gn_calls_text.specs.declared.call.TextCall.TheVariants.{FilterInclude, FilterExclude, SplitList, StringJoin, StringSplit}
use Rattle.gn_calls_text.specs.Answers.{Settled, gives, too_long, typed, text_answer, list_answer, texts_in, texts_among}
use Rattle.gn_calls_text.specs.Calls.{text_call, text_list, list_list}
use Rattle.gn_calls_text.specs.Patterns.{matches_some, matches_none}
use Rattle.gn_calls_text.specs.Pieces.{first_where, first_place, cut, cut_at, joined, split_by, lengths, lists_of, parted}
use Rattle.gn_calls_text.specs.Laws.{IsMerge, IsParted}
use Rattle.gn_calls_text.proofs.CutLemmas.{join_piece}
use Rattle.gn_calls_text.proofs.PartedLemmas.{total, total_is, count_lengths, count_parts}
use Rattle.std.proofs.Math.Nat.{mod-lt}

-- the value that an answer gives
abbrev list_given : Settled → List Val
list_given (gives (vlist vs)) = list_of vs
list_given _ = []

-- the test passes at the place that is found
found_passes : (test : List ℕ → Bool) (text : List ℕ) (k : ℕ) → first_where test text ≡ Some k → test (drop k text) ≡ true
found_passes test [] k h = by (test []) refl h
  where
    by : (v : Bool) → test [] ≡ v → ◌≡◌ {A = Option ℕ} (cond v (Some 0) None) (Some k) → test (drop k []) ≡ true
    by true e g = let zero_is : 0 ≡ k = cc in subst (λ n. test (drop n []) ≡ true) zero_is e
    by false e g = absurd (let f : ◌≡◌ {A = Option ℕ} None (Some k) = g in cc)
found_passes test (b ∷ more) k h = by (found_passes test more) (test (b ∷ more)) refl h
  where
    later : (p : Option ℕ) → ((j : ℕ) → p ≡ Some j → test (drop j more) ≡ true) → option_map suc p ≡ Some k → test (drop k (b ∷ more)) ≡ true
    later None rest g = absurd (let f : ◌≡◌ {A = Option ℕ} None (Some k) = g in cc)
    later (Some j) rest g = let next : suc j ≡ k = cc in subst (λ n. test (drop n (b ∷ more)) ≡ true) next (rest j refl)

    by : ((j : ℕ) → first_where test more ≡ Some j → test (drop j more) ≡ true) → (v : Bool) → test (b ∷ more) ≡ v → ◌≡◌ {A = Option ℕ} (cond v (Some 0) (option_map suc (first_where test more))) (Some k) → test (drop k (b ∷ more)) ≡ true
    by rest true e g = let zero_is : 0 ≡ k = cc in subst (λ n. test (drop n (b ∷ more)) ≡ true) zero_is e
    by rest false e g = later (first_where test more) rest g

-- a text around a separator that is found
around : (separator text : List ℕ) (k : ℕ) → first_place separator text ≡ Some k → (take k text ++ separator) ++ drop (k + length separator) text ≡ text
unfolding first_place
around separator text k h =
    let stands = found_passes (λ t. starts_with nat_eq t separator) text k h in
    let is = (starts_is Decides-eqb (drop k text) separator (starts_with nat_eq (drop k text) separator) refl).0 stands in
    append_assoc (take k text) separator (drop (k + length separator) text)
    ∙ ap (λ t. take k text ++ (separator ++ t)) (sym (drop-drop (length separator) k text)) ∙ ap (λ t. take k text ++ t) (sym is) ∙ take-append-drop k text

joined_cut : (count : ℕ) (separator text : List ℕ) → joined separator (cut count separator text) ≡ text
unfolding cut
joined_cut zero separator text = append-nil text
joined_cut (suc n) separator text = by (joined_cut n separator) (first_place separator text) refl
  where
    by : ((t : List ℕ) → joined separator (cut n separator t) ≡ t) → (p : Option ℕ) → first_place separator text ≡ p → joined separator (cut_at (cut n separator) separator text p) ≡ text
    by rest None e = append-nil text
    by rest (Some k) e =
        join_piece separator (take k text) n separator (drop (k + length separator) text)
        ∙ ap (λ t. (take k text ++ separator) ++ t) (rest (drop (k + length separator) text)) ∙ around separator text k e

pub texts_back : (ts : List (List ℕ)) → texts_in (vlist (vals_of (text_list ts))) ≡ Some ts
unfolding texts_in
texts_back ts = ap texts_among (list_of-vals (text_list ts)) ∙ all ts
  where
    all : (ts : List (List ℕ)) → texts_among (map vstr ts) ≡ Some ts
    all [] = refl
    all (t ∷ ts) = ap (option_map (λ rest. t ∷ rest)) (all ts)

-- a list that an answer gives
given : (vs : List Val) (items : Vals) → list_answer vs ≡ gives (vlist items) → vals_of vs ≡ items
given vs items h = by (list_fits vs) h
  where
    by : (v : Bool) → cond v (gives (vlist (vals_of vs))) too_long ≡ gives (vlist items) → vals_of vs ≡ items
    by true g = cc
    by false g = absurd (let f : too_long ≡ gives (vlist items) = g in cc)

pub split_and_joined : (text separator : List ℕ) (pieces : Vals) → text_fits text ≡ true → text_call StringSplit (vstr text ∷ vstr separator ∷ []) ≡ gives (vlist pieces) → text_call StringJoin (vstr separator ∷ vlist pieces ∷ []) ≡ gives (vstr text)
unfolding text_call
split_and_joined text [] pieces fits h = absurd cc
split_and_joined text (b ∷ more) pieces fits h =
    let separator = b ∷ more in
    let ts = split_by separator text in
    let is : vals_of (text_list ts) ≡ pieces = given (text_list ts) pieces h in
    ap (λ vs. typed 1 (texts_in (vlist vs)) (λ rest. text_answer (joined separator rest))) (sym is)
    ∙ ap (λ found. typed 1 found (λ rest. text_answer (joined separator rest))) (texts_back ts)
    ∙ ap text_answer (joined_cut (length text) separator text)
    ∙ ap (λ f. cond f (gives (vstr text)) too_long) fits

-- a filter and its contrary
merged : (p : List ℕ → Bool) (ts : List (List ℕ)) → IsMerge (text_list (filter p ts)) (text_list (filter (λ t. not (p t)) ts)) (text_list ts)
merged p [] = (refl, refl)
merged p (t ∷ ts) = by (p t) (merged p ts)
  where
    by : (v : Bool) → IsMerge (text_list (filter p ts)) (text_list (filter (λ t. not (p t)) ts)) (text_list ts) → IsMerge (text_list (cond v (t ∷ filter p ts) (filter p ts))) (text_list (cond (not v) (t ∷ filter (λ t. not (p t)) ts) (filter (λ t. not (p t)) ts))) (vstr t ∷ text_list ts)
    by true rest = inl (text_list (filter p ts), (refl, rest))
    by false rest = inr (text_list (filter (λ t. not (p t)) ts), (refl, rest))

only_texts : (vs : List Val) (ts : List (List ℕ)) → texts_among vs ≡ Some ts → vs ≡ text_list ts
only_texts [] ts h = let e : [] ≡ ts = cc in ap text_list e
only_texts (vstr t ∷ vs) ts h = by (texts_among vs) (only_texts vs) h
  where
    by : (p : Option (List (List ℕ))) → ((rest : List (List ℕ)) → p ≡ Some rest → vs ≡ text_list rest) → option_map (λ rest. t ∷ rest) p ≡ Some ts → vstr t ∷ vs ≡ text_list ts
    by (Some rest) k g = let e : t ∷ rest ≡ ts = cc in ap (λ l. vstr t ∷ l) (k rest refl) ∙ ap text_list e
    by None k g = absurd cc
only_texts (_ ∷ vs) ts h = absurd cc

pub filters_merge : (strings included excluded : Vals) (patterns : Val) → text_call FilterInclude (vlist strings ∷ patterns ∷ []) ≡ gives (vlist included) → text_call FilterExclude (vlist strings ∷ patterns ∷ []) ≡ gives (vlist excluded) → IsMerge (list_of included) (list_of excluded) (list_of strings)
unfolding text_call texts_in
filters_merge strings included excluded patterns h g = by (texts_among (list_of strings)) refl (texts_in patterns) h g
  where
    by : (p : Option (List (List ℕ))) → texts_among (list_of strings) ≡ p → (q : Option (List (List ℕ)))
        → typed 0 p (λ ts. typed 1 q (λ ps. gives (vlist (vals_of (text_list (filter (matches_some ps) ts)))))) ≡ gives (vlist included)
        → typed 0 p (λ ts. typed 1 q (λ ps. gives (vlist (vals_of (text_list (filter (matches_none ps) ts)))))) ≡ gives (vlist excluded)
        → IsMerge (list_of included) (list_of excluded) (list_of strings)
    by None e q a b = absurd cc
    by (Some ts) e None a b = absurd cc
    by (Some ts) e (Some ps) a b =
        let first : text_list (filter (matches_some ps) ts) ≡ list_of included = sym (list_of-vals (text_list (filter (matches_some ps) ts))) ∙ ap list_given a in
        let second : text_list (filter (matches_none ps) ts) ≡ list_of excluded = sym (list_of-vals (text_list (filter (matches_none ps) ts))) ∙ ap list_given b in
        subst (λ zs. IsMerge (list_of included) (list_of excluded) zs) (sym (only_texts (list_of strings) ts e))
        (subst (λ ys. IsMerge (list_of included) ys (text_list ts)) second
        (subst (λ xs. IsMerge xs (text_list (filter (matches_none ps) ts)) (text_list ts)) first (merged (matches_some ps) ts)))

lists_join : {A : Type 0} (ns : List ℕ) (xs : List A) → total ns ≡ length xs → flat_map (λ list. list) (lists_of ns xs) ≡ xs
lists_join [] [] h = refl
lists_join [] (x ∷ xs) h = absurd (omega arith)
lists_join (n ∷ ns) xs h =
    ap (λ rest. take n xs ++ rest) (lists_join ns (drop n xs) (omega (arith, length-drop n xs))) ∙ take-append-drop n xs

list_length : {A : Type 0} (ns : List ℕ) (xs : List A) (i : ℕ) → total ns ≤ length xs → i < length ns → length (get_or (lists_of ns xs) i []) ≡ get_or ns i 0
list_length [] xs i h l = absurd (omega arith)
list_length (n ∷ ns) xs zero h l = length-take n xs ∙ omega arith
list_length (n ∷ ns) xs (suc i) h l = list_length ns (drop n xs) i (omega (arith, length-drop n xs)) (omega arith)

length_longer : (count least more i : ℕ) → i < more → i < count → get_or (lengths count least more) i 0 ≡ suc least
length_longer zero least more i h l = absurd (omega arith)
length_longer (suc count) least zero i h l = absurd (omega arith)
length_longer (suc count) least (suc more) zero h l = refl
length_longer (suc count) least (suc more) (suc i) h l = length_longer count least more i (omega arith) (omega arith)

length_other : (count least more i : ℕ) → more ≤ i → i < count → get_or (lengths count least more) i 0 ≡ least
length_other zero least more i h l = absurd (omega arith)
length_other (suc count) least zero zero h l = refl
length_other (suc count) least zero (suc i) h l = length_other count least zero i (omega arith) (omega arith)
length_other (suc count) least (suc more) zero h l = absurd (omega arith)
length_other (suc count) least (suc more) (suc i) h l = length_other count least more i (omega arith) (omega arith)

is_parted : (vs : List Val) (count : ℕ) → 0 < count → IsParted vs count (list_list (parted count vs))
unfolding parted
is_parted vs count some =
    let n = length vs in
    let ns = lengths count (n / count) (n % count) in
    let whole : total ns ≡ n = total_is n count some in
    let many : length ns ≡ count = count_lengths count (n / count) (n % count) in
    let below : n % count < count = mod-lt n some in
    record {
      lists = lists_of ns vs;
      are = refl;
      counted = count_parts count vs;
      joined = lists_join ns vs whole;
      longer = λ i h. list_length ns vs i (omega arith) (omega arith) ∙ length_longer count (n / count) (n % count) i h (omega arith);
      others = λ i h l. list_length ns vs i (omega arith) (omega arith) ∙ length_other count (n / count) (n % count) i h l;
    }

pub list_parted : (items parts : Vals) (count : ℕ) → text_call SplitList (vlist items ∷ vint (pos count) ∷ []) ≡ gives (vlist parts) → IsParted (list_of items) count (list_of parts)
unfolding text_call
list_parted items parts zero h = absurd cc
list_parted items parts (suc n) h =
    let vs = list_of items in
    let is : list_list (parted (suc n) vs) ≡ list_of parts = sym (list_of-vals (list_list (parted (suc n) vs))) ∙ ap list_of (given (list_list (parted (suc n) vs)) parts h) in
    subst (IsParted vs (suc n)) is (is_parted vs (suc n) (omega arith))
