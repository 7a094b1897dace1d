-- The buffer after the first piece of a text.
use Rattle.std.proofs.Common.{◌≡◌, ℕ, ◌+◌, ◌-◌, ◌<◌, ◌≤◌, ◌⊎◌, inl, inr, List, length, take, drop, Option, None, Some, option_and_then, refl, sym, ap, ◌∙◌, arith}
use Rattle.std.specs.List.{position_or_len}
use Rattle.std.proofs.Math.Seq.{take-length}
use Rattle.std.proofs.lemmas.Bool.{cases_lt}
use Rattle.std.proofs.lemmas.List.{take_rest}
use Rattle.gn_basics.proofs.Lists.{split_last, split_more}
use Rattle.gn_paths.specs.declared.error.PathError.{PathError}
use Rattle.gn_paths.specs.declared.error.PathError.TheVariants.{AboveRoot, Memory}
use Rattle.gn_paths.specs.Components.{is_slash, pieces}
use Rattle.gn_paths.specs.Buffer.{buffer_stepped, buffer_walked}

-- at the last piece
pub walked_last : (top : ℕ) (buffer t : List ℕ) (n : ℕ) → n ≡ position_or_len is_slash t → n ≡ length t → buffer_walked top buffer (pieces t) ≡ buffer_stepped top buffer (take n t)
walked_last top buffer t n e l =
    let whole : take n t ≡ t = ap (λ m. take m t) l ∙ take-length t in
    ap (buffer_walked top buffer) (split_last is_slash t (sym e ∙ l)) ∙ by (buffer_stepped top buffer t) ∙ ap (buffer_stepped top buffer) (sym whole)
  where
    by : (o : Option (List ℕ)) → option_and_then (λ after. Some after) o ≡ o
    by None = refl
    by (Some x) = refl

-- at a piece before a slash
pub walked_more : (top : ℕ) (buffer t : List ℕ) (n : ℕ) → n ≡ position_or_len is_slash t → n < length t → buffer_walked top buffer (pieces t) ≡ option_and_then (λ after. buffer_walked top after (pieces (drop (n + 1) t))) (buffer_stepped top buffer (take n t))
walked_more top buffer t n e l = ap (buffer_walked top buffer) (split_more is_slash t n e l)

-- where the first piece leads above the top, all of them do
pub walked_above : (top : ℕ) (buffer t : List ℕ) (n : ℕ) → n ≡ position_or_len is_slash t → n ≤ length t → buffer_stepped top buffer (take n t) ≡ None → buffer_walked top buffer (pieces t) ≡ None
walked_above top buffer t n e w h = by (cases_lt n (length t))
  where
    by : (n < length t) ⊎ (length t ≤ n) → buffer_walked top buffer (pieces t) ≡ None
    by (inl l) = walked_more top buffer t n e l ∙ ap (option_and_then (λ after. buffer_walked top after (pieces (drop (n + 1) t)))) h
    by (inr l) = walked_last top buffer t n e (omega arith) ∙ h

-- a failed step is the failure of the walk
pub walk_failed : (top : ℕ) (first text buffer t : List ℕ) (n : ℕ) (e : PathError) → buffer_walked top buffer (pieces t) ≡ buffer_walked top first (pieces text) → n ≡ position_or_len is_slash t → n ≤ length t → (e ≡ Memory) ⊎ ((e ≡ AboveRoot) × (buffer_stepped top buffer (take n t) ≡ None)) → (e ≡ Memory) ⊎ ((e ≡ AboveRoot) × (buffer_walked top first (pieces text) ≡ None))
walk_failed top first text buffer t n e same v w (inl m) = inl m
walk_failed top first text buffer t n e same v w (inr p) = inr (p.0, sym same ∙ walked_above top buffer t n v w p.1)

-- the walk goes on with what stands behind the slash
pub walk_on : (top : ℕ) (first text buffer after t : List ℕ) (n : ℕ) → buffer_walked top buffer (pieces t) ≡ buffer_walked top first (pieces text) → n ≡ position_or_len is_slash t → n < length t → buffer_stepped top buffer (take n t) ≡ Some after → buffer_walked top after (pieces (take (length t - (n + 1)) (drop (n + 1) t))) ≡ buffer_walked top first (pieces text)
walk_on top first text buffer after t n same v l s =
    ap (λ r. buffer_walked top after (pieces r)) (take_rest t (n + 1)) ∙ sym (ap (option_and_then (λ x. buffer_walked top x (pieces (drop (n + 1) t)))) s) ∙ sym (walked_more top buffer t n v l) ∙ same
