-- Texts that are lent to a set.
use Rattle.std.proofs.Common.{◌≡◌, ℕ, List, [], ◌∷◌, ◌++◌, Bool, true, false, ◌||◌, if◌then◌else◌, not, refl, ◌∙◌, ap, Bor}
use Rattle.std.specs.List.{list_any}
use Rattle.std.specs.Str.{bytes_eq}
use Rattle.std.proofs.lemmas.List.{map-append}
use Rattle.gn_toolchains.specs.Frames.{has_text, with_text}
use Rattle.gn_build_faults.specs.Outputs.{lent_texts}

-- a text is among those that are lent exactly where one of the references lends it
any_lent : (text : Bor (List ℕ)) (keys : List (Bor (List ℕ))) → list_any (λ (k : Bor (List ℕ)). bytes_eq text.now k.now) keys ≡ has_text (lent_texts keys) text.now
any_lent text [] = refl
any_lent text (k ∷ keys) = ap (λ b. bytes_eq text.now k.now || b) (any_lent text keys)

pub seen_more : (text : Bor (List ℕ)) (keys new : List (Bor (List ℕ)))
    → new ≡ (if list_any (λ (k : Bor (List ℕ)). bytes_eq text.now k.now) keys then keys else keys ++ text ∷ [])
    → lent_texts new ≡ with_text (lent_texts keys) text.now
seen_more text keys new h = ap lent_texts h ∙ by (list_any (λ (k : Bor (List ℕ)). bytes_eq text.now k.now) keys) (has_text (lent_texts keys) text.now) (any_lent text keys)
  where
    same : (b : Bool) → lent_texts (if b then keys else keys ++ text ∷ []) ≡ (if b then lent_texts keys else lent_texts keys ++ text.now ∷ [])
    same true = refl
    same false = map-append (λ (k : Bor (List ℕ)). k.now) keys (text ∷ [])

    by : (b c : Bool) → b ≡ c → lent_texts (if b then keys else keys ++ text ∷ []) ≡ (if c then lent_texts keys else lent_texts keys ++ text.now ∷ [])
    by b c e = same b ∙ ap (λ b. if b then lent_texts keys else lent_texts keys ++ text.now ∷ []) e

pub seen_before : (text : Bor (List ℕ)) (keys : List (Bor (List ℕ))) (is_new : Bool) → is_new ≡ not (list_any (λ (k : Bor (List ℕ)). bytes_eq text.now k.now) keys)
    → not is_new ≡ has_text (lent_texts keys) text.now
seen_before text keys is_new h = ap not h ∙ twice (list_any (λ (k : Bor (List ℕ)). bytes_eq text.now k.now) keys) ∙ any_lent text keys
  where
    twice : (b : Bool) → not (not b) ≡ b
    twice true = refl
    twice false = refl
