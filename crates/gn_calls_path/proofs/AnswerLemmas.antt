-- Texts as the strings of a list.
use Rattle.std.proofs.Common.{◌≡◌, ℕ, ◌+◌, ◌<◌, ◌≤◌, Bool, true, false, cond, List, [], ◌∷◌, ◌++◌, length, take, get_or, refl, sym, ap, ◌∙◌, arith}
use Rattle.std.proofs.lemmas.Bool.Decides.{nat_tests}
use Rattle.std.proofs.lemmas.List.{map-append, length-take, take_more}
use Rattle.std.specs.List.{list_all}
use Rattle.gn_values.specs.Val.{Val, vstr, vlist, vals_of, list_depth}
use Rattle.gn_values.specs.Limits.{text_fits, list_fits, max_items}
use Rattle.gn_calls_text.specs.Answers.{gives, too_long, list_answer}
use Rattle.gn_calls_text.specs.Calls.{text_list}
use Rattle.gn_calls_path.specs.Each.{texts_answer}

strings_depth : (ts : List (List ℕ)) → list_depth (text_list ts) ≡ 1
strings_depth [] = refl
strings_depth (t ∷ ts) = let e = strings_depth ts in omega arith

strings_length : (ts : List (List ℕ)) → length (text_list ts) ≡ length ts
strings_length [] = refl
strings_length (t ∷ ts) = omega (arith, strings_length ts)

pub few_fit : (ts : List (List ℕ)) → length ts ≤ max_items → list_fits (text_list ts) ≡ true
few_fit ts h =
    let deep = strings_depth ts in
    let long = strings_length ts in
    grind (arith, nat_tests)

many_over : (ts : List (List ℕ)) → max_items < length ts → list_fits (text_list ts) ≡ false
many_over ts h =
    let deep = strings_depth ts in
    let long = strings_length ts in
    grind (arith, nat_tests)

pub too_many_texts : (ts : List (List ℕ)) → max_items < length ts → texts_answer ts ≡ too_long
too_many_texts ts h = by (list_all text_fits ts)
  where
    by : (v : Bool) → cond v (list_answer (text_list ts)) too_long ≡ too_long
    by true = ap (λ f. cond f (gives (vlist (vals_of (text_list ts)))) too_long) (many_over ts h)
    by false = refl

pub texts_fit : (ts : List (List ℕ)) → length ts ≤ max_items → list_all text_fits ts ≡ true → texts_answer ts ≡ gives (vlist (vals_of (text_list ts)))
texts_fit ts h all = ap (λ f. cond f (list_answer (text_list ts)) too_long) all ∙ ap (λ f. cond f (gives (vlist (vals_of (text_list ts)))) too_long) (few_fit ts h)

pub text_over : (ts : List (List ℕ)) → list_all text_fits ts ≡ false → texts_answer ts ≡ too_long
text_over ts all = ap (λ f. cond f (list_answer (text_list ts)) too_long) all

-- one more string
pub string_more : (ts : List (List ℕ)) (i : ℕ) (t copy : List ℕ) (items : List Val) → i < length ts → t ≡ get_or ts i t → copy ≡ t → items ≡ text_list (take i ts) → items ++ vstr copy ∷ [] ≡ text_list (take (i + 1) ts)
string_more ts i t copy items h is same made =
    (λ j. made j ++ vstr ((same ∙ is) j) ∷ []) ∙ sym (map-append vstr (take i ts) (get_or ts i t ∷ [])) ∙ ap text_list (sym (take_more ts i t h))

pub string_room : (ts : List (List ℕ)) (i : ℕ) (t copy : List ℕ) (items : List Val) → i < length ts → t ≡ get_or ts i t → copy ≡ t → items ≡ text_list (take i ts) → length ts ≤ max_items → list_fits (items ++ vstr copy ∷ []) ≡ true
string_room ts i t copy items h is same made few =
    ap list_fits (string_more ts i t copy items h is same made) ∙ few_fit (take (i + 1) ts) (let short = length-take (i + 1) ts in omega arith)
