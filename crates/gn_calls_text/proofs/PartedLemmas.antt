-- Lists in parts.
use Rattle.std.proofs.Common.{◌≡◌, ℕ, ℤ, pos, negsuc, zero, suc, ◌+◌, ◌-◌, ◌*◌, ◌/◌, ◌%◌, ◌<◌, ◌≤◌, true, false, cond, List, [], ◌∷◌, ◌++◌, length, take, drop, map, refl, sym, ap, ◌∙◌, arith, true≢false}
use lib.IntN.{nat_abs}
use lib.Signed.{lt_z}
use Rattle.std.proofs.lemmas.List.{take-map, drop-map, take-append-drop, length-map}
use Rattle.std.proofs.lemmas.Nat.{div-add-mod'}
use Rattle.std.proofs.Math.Nat.{mod-lt}
use Rattle.gn_values.specs.Val.{Val, vlist, vals_of}
use Rattle.gn_values.specs.View.{val_of}
use Rattle.gn_values.specs.declared.value.Value.{Value}
use Rattle.gn_values.specs.Limits.{list_fits, max_items}
use Rattle.gn_value_model.proofs.Within.{too_many, first_fit, last_fit}
use Rattle.gn_calls_text.specs.Answers.{gives, too_long}
use Rattle.gn_calls_text.specs.Calls.{list_list, parts_answer}
use Rattle.gn_calls_text.specs.Pieces.{first_length, lengths, lists_of, parted}

-- the sum of lengths
abbrev pub total : List ℕ → ℕ
total [] = 0
total (n ∷ ns) = n + total ns

pub lengths_total : (count least more : ℕ) → more ≤ count → total (lengths count least more) ≡ count * least + more
lengths_total zero least more h = omega arith
lengths_total (suc count) least zero h = let e = lengths_total count least zero (omega arith) in grind arith
lengths_total (suc count) least (suc more) h = let e = lengths_total count least more (omega arith) in grind arith

pub total_is : (n count : ℕ) → 0 < count → total (lengths count (n / count) (n % count)) ≡ n
total_is n count some =
    let below = mod-lt n some in
    lengths_total count (n / count) (n % count) (omega arith) ∙ (let e = div-add-mod' n count in grind arith)

-- the length of the first part, and those of the others
pub lengths_more : (left least more : ℕ) → 0 < left → lengths left least more ≡ first_length least more ∷ lengths (left - 1) least (more - 1)
lengths_more zero least more some = absurd (omega arith)
lengths_more (suc n) least zero some =
    let one : n ≡ suc n - 1 = omega arith in
    ap (λ m. least ∷ lengths m least 0) one
lengths_more (suc n) least (suc more) some =
    let one : n ≡ suc n - 1 = omega arith in
    let two : more ≡ suc more - 1 = omega arith in
    let len : suc least ≡ least + 1 = omega arith in
    λ i. len i ∷ lengths (one i) least (two i)

-- the first list, and those behind it
pub lists_more : (left least more more' len : ℕ) (rest front behind : List Value) → 0 < left → len ≡ first_length least more → more' ≡ more - 1 → front ≡ take len rest → behind ≡ drop len rest → list_list (lists_of (lengths left least more) (map val_of rest)) ≡ vlist (vals_of (map val_of front)) ∷ list_list (lists_of (lengths (left - 1) least more') (map val_of behind))
lists_more left least more more' len rest front behind some is fewer first others =
    ap (λ ns. list_list (lists_of ns (map val_of rest))) (lengths_more left least more some ∙ (λ i. sym is i ∷ lengths (left - 1) least (sym fewer i)))
    ∙ (λ i. vlist (vals_of (take-map val_of len rest i)) ∷ list_list (lists_of (lengths (left - 1) least more') (drop-map val_of len rest i)))
    ∙ (λ i. vlist (vals_of (map val_of (sym first i))) ∷ list_list (lists_of (lengths (left - 1) least more') (map val_of (sym others i))))

pub total_more : (left least more more' len n k : ℕ) → 0 < left → len ≡ first_length least more → more' ≡ more - 1 → total (lengths left least more) ≡ n → k + len ≡ n → total (lengths (left - 1) least more') ≡ k
total_more left least more more' len n k some is fewer e part =
    let whole : len + total (lengths (left - 1) least more') ≡ n = (λ i. is i + total (lengths (left - 1) least (fewer i))) ∙ sym (ap total (lengths_more left least more some)) ∙ e in
    omega arith

pub no_lists_left : (left least more : ℕ) (rest : List Val) → left ≤ 0 → list_list (lists_of (lengths left least more) rest) ≡ []
no_lists_left zero least more rest over = refl
no_lists_left (suc n) least more rest over = absurd (omega arith)

pub count_lengths : (count least more : ℕ) → length (lengths count least more) ≡ count
count_lengths zero least more = refl
count_lengths (suc count) least zero = ap suc (count_lengths count least zero)
count_lengths (suc count) least (suc more) = ap suc (count_lengths count least more)

count_lists : {A : Type 0} (ns : List ℕ) (xs : List A) → length (lists_of ns xs) ≡ length ns
count_lists [] xs = refl
count_lists (n ∷ ns) xs = ap suc (count_lists ns (drop n xs))

-- there are as many parts as are asked for
pub count_parts : {A : Type 0} (count : ℕ) (xs : List A) → length (parted count xs) ≡ count
unfolding parted
count_parts count xs = count_lists (lengths count (length xs / count) (length xs % count)) xs ∙ count_lengths count (length xs / count) (length xs % count)

-- the first part of a list that is within the limits
pub part_fits : (len : ℕ) (xs : List Value) → list_fits (map val_of xs) ≡ true → list_fits (map val_of (take len xs)) ≡ true
part_fits len xs fits =
    ap list_fits (sym (take-map val_of len xs))
    ∙ first_fit (take len (map val_of xs)) (drop len (map val_of xs)) (ap list_fits (take-append-drop len (map val_of xs)) ∙ fits)

pub rest_fits : (len : ℕ) (xs behind : List Value) → behind ≡ drop len xs → list_fits (map val_of xs) ≡ true → list_fits (map val_of behind) ≡ true
rest_fits len xs behind is fits =
    ap (λ ys. list_fits (map val_of ys)) is ∙ ap list_fits (sym (drop-map val_of len xs))
    ∙ last_fit (take len (map val_of xs)) (drop len (map val_of xs)) (ap list_fits (take-append-drop len (map val_of xs)) ∙ fits)

pub parted_begins : (count : ℕ) (values : List Value) (lists : List Val) → lists ≡ [] → lists ++ list_list (lists_of (lengths count (length values / count) (length values % count)) (map val_of values)) ≡ list_list (parted count (map val_of values))
unfolding parted
parted_begins count values lists none =
    ap (λ l. l ++ list_list (lists_of (lengths count (length values / count) (length values % count)) (map val_of values))) none
    ∙ ap (λ n. list_list (lists_of (lengths count (n / count) (n % count)) (map val_of values))) (sym (length-map values val_of))

-- more parts than a list may have items
pub too_many_parts : (n : ℤ) (k : ℕ) (vs : List Val) → n ≡ pos k → max_items < k → parts_answer vs n ≡ too_long
too_many_parts n zero vs is many = absurd (omega arith)
too_many_parts n (suc k) vs is many =
    let lists = list_list (parted (suc k) vs) in
    let count : length lists ≡ suc k = length-map (parted (suc k) vs) (λ ws. vlist (vals_of ws)) ∙ count_parts (suc k) vs in
    ap (parts_answer vs) is ∙ ap (λ f. cond f (gives (vlist (vals_of lists))) too_long) (too_many lists (omega arith))

too_many_from : (z : ℤ) (vs : List Val) → lt_z z (pos 1) ≡ false → max_items < nat_abs z → parts_answer vs z ≡ too_long
too_many_from (pos k) vs low high = too_many_parts (pos k) k vs refl high
too_many_from (negsuc k) vs low high = absurd (true≢false low)

pub too_many_at : (n z : ℤ) (vs : List Val) → z ≡ n → lt_z z (pos 1) ≡ false → max_items < nat_abs z → parts_answer vs n ≡ too_long
too_many_at n z vs is low high = ap (parts_answer vs) (sym is) ∙ too_many_from z vs low high
