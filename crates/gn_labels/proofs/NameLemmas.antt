-- Facts of names and their pieces.
use Rattle.std.proofs.Common.{◌≡◌, ℕ, Bool, true, false, ◌&&◌, cond, ◌+◌, ◌-◌, ◌<◌, ◌≤◌, ◌⊎◌, inl, inr, List, [], ◌∷◌, length, take, drop, refl, sym, ap, ◌∙◌, arith}
use Rattle.std.specs.List.{filter, list_all, position_or_len}
use Rattle.std.proofs.lemmas.Bool.{cases_lt}
use Rattle.std.proofs.lemmas.List.{take_all, take_rest}
use Rattle.gn_basics.proofs.Lists.{split_last, split_more}
use Rattle.gn_paths.specs.Components.{is_slash, pieces}
use Rattle.gn_paths.specs.Resolve.{moves}
use Rattle.gn_labels.specs.Reading.{last_or}

-- a test of all pieces fails where it fails at the first
pub first_fails : (p : List ℕ → Bool) (t : List ℕ) (n : ℕ) → n ≡ position_or_len is_slash t → n ≤ length t → p (take n t) ≡ false → list_all p (pieces t) ≡ false
first_fails p t n e w h = by (cases_lt n (length t))
  where
    by : (n < length t) ⊎ (length t ≤ n) → list_all p (pieces t) ≡ false
    by (inl l) =
        ap (list_all p) (split_more is_slash t n e l) ∙ ap (λ b. b && list_all p (pieces (drop (n + 1) t))) h
    by (inr l) =
        ap (list_all p) (split_last is_slash t (omega (arith, e))) ∙ ap (λ x. p x && true) (sym (take_all n t l)) ∙ ap (λ b. b && true) h

-- it passes where it passes at the first piece, which is the last
pub last_passes : (p : List ℕ → Bool) (t : List ℕ) (n : ℕ) → n ≡ position_or_len is_slash t → n ≡ length t → p (take n t) ≡ true → list_all p (pieces t) ≡ true
last_passes p t n e l h =
    ap (list_all p) (split_last is_slash t (omega (arith, e))) ∙ ap (λ x. p x && true) (sym (take_all n t (omega arith))) ∙ ap (λ b. b && true) h

-- and else goes on behind the first slash
pub passes_on : (p : List ℕ → Bool) (t : List ℕ) (n : ℕ) → n ≡ position_or_len is_slash t → n < length t → p (take n t) ≡ true → list_all p (pieces (take (length t - (n + 1)) (drop (n + 1) t))) ≡ list_all p (pieces t)
passes_on p t n e l h =
    ap (λ r. list_all p (pieces r)) (take_rest t (n + 1)) ∙ sym (ap (λ b. b && list_all p (pieces (drop (n + 1) t))) h) ∙ sym (ap (list_all p) (split_more is_slash t n e l))

-- the last piece that leads anywhere, at the last piece and before a slash
pub last_ends : (last t : List ℕ) (n : ℕ) → n ≡ position_or_len is_slash t → n ≡ length t → last_or last (filter moves (take n t ∷ [])) ≡ last_or last (filter moves (pieces t))
last_ends last t n e l =
    ap (λ x. last_or last (filter moves (x ∷ []))) (take_all n t (omega arith)) ∙ ap (λ x. last_or last (filter moves x)) (sym (split_last is_slash t (omega (arith, e))))

last_more : (last p : List ℕ) (ps : List (List ℕ)) → last_or (last_or last (filter moves (p ∷ []))) (filter moves ps) ≡ last_or last (filter moves (p ∷ ps))
last_more last p ps = by (moves p)
  where
    by : (b : Bool) → last_or (last_or last (cond b (p ∷ []) [])) (filter moves ps) ≡ last_or last (cond b (p ∷ filter moves ps) (filter moves ps))
    by true = refl
    by false = refl

pub last_on : (first last next t text : List ℕ) (n : ℕ) → n ≡ position_or_len is_slash t → n < length t → next ≡ last_or last (filter moves (take n t ∷ [])) → last_or last (filter moves (pieces t)) ≡ last_or first (filter moves (pieces text)) → last_or next (filter moves (pieces (take (length t - (n + 1)) (drop (n + 1) t)))) ≡ last_or first (filter moves (pieces text))
last_on first last next t text n e l q h =
    ap (λ r. last_or next (filter moves (pieces r))) (take_rest t (n + 1)) ∙ ap (λ x. last_or x (filter moves (pieces (drop (n + 1) t)))) q ∙ last_more last (take n t) (pieces (drop (n + 1) t)) ∙ ap (λ x. last_or last (filter moves x)) (sym (split_more is_slash t n e l)) ∙ h
