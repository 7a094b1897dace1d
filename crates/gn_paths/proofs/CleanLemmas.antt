-- A text without NUL and newline that is UTF-8, and its pieces.
use Rattle.std.proofs.Common.{◌≡◌, ℕ, ◌+◌, ◌-◌, ◌<◌, ◌≤◌, ◌⊎◌, inl, inr, Bool, true, false, cond, not, ◌&&◌, Decides, List, [], ◌∷◌, ◌++◌, length, take, drop, get_or, Option, None, refl, sym, ap, ◌∙◌, subst, arith, take-append-drop, eqb, Err, true≢false}
use Rattle.std.specs.List.{list_all, position_or_len, before_first, after_first}
use Rattle.std.specs.Str.{is_utf8, bytes_eq}
use Rattle.std.proofs.Math.Seq.{take-length}
use Rattle.std.proofs.lemmas.Bool.{cases_lt, and_parts, and_from}
use Rattle.std.proofs.lemmas.Bool.Decides.{same_from_decides}
use Rattle.std.proofs.lemmas.List.{drop_all, drop_more, take_rest}
use Rattle.std.proofs.lemmas.List.Sums.{split_at_first, passes_at_first, prefix_len-le-length}
use Rattle.std.proofs.lemmas.Str.{is_utf8-from_IsUtf8, IsUtf8-from_is_utf8}
use Rattle.gn_paths.specs.declared.error.PathError.{PathError}
use Rattle.gn_paths.specs.declared.error.PathError.TheVariants.{AboveRoot, BadPath, Memory}
use Rattle.gn_paths.specs.Components.{is_slash, pieces}
use Rattle.gn_paths.specs.Normal.{is_path_byte, is_path_text}
use Rattle.gn_paths.specs.Buffer.{buffer_stepped, buffer_walked}
use Rattle.gn_paths.specs.Resolve.{resolved}
use Rattle.gn_paths.specs.Reading.{is_clean, IsFault}
use Rattle.gn_paths.proofs.PieceLemmas.{slash_is}
use Rattle.gn_paths.proofs.BufferLemmas.{walk_failed}
use Rattle.gn_paths.proofs.NormalLemmas.{empty_text}
use Rattle.gn_paths.proofs.ResolveLemmas.{resolved-bad, resolved_not_bad}
use Rattle.gn_paths.proofs.LedLemmas.{IsClean, clean-append, clean-slash, clean-nil, clean-cut}

clean_decides : (t : List ℕ) → Decides (is_clean t) (IsClean t)
unfolding is_clean
clean_decides t = (
  λ h. (let k = and_parts (list_all is_path_byte t) (is_utf8 t) h in record { bytes = k.0; utf8 = IsUtf8-from_is_utf8 t k.1 }),
  λ h. and_from _ _ h.bytes (is_utf8-from_IsUtf8 t h.utf8),
)

both_decides : (a b : List ℕ) → Decides (is_clean a && is_clean b) (IsClean a × IsClean b)
both_decides a b = (
  λ h. (let k = and_parts (is_clean a) (is_clean b) h in ((clean_decides a).0 k.0, (clean_decides b).0 k.1)),
  λ h. and_from _ _ ((clean_decides a).1 h.0) ((clean_decides b).1 h.1),
)

-- a text at its first slash
at_slash : (t : List ℕ) (n : ℕ) → n ≡ position_or_len is_slash t → n < length t → t ≡ take n t ++ 47 ∷ drop (n + 1) t
at_slash t n e l =
    let inside : position_or_len is_slash t < length t = omega (arith, e) in
    subst (λ m. t ≡ take m t ++ 47 ∷ drop (m + 1) t) (sym e)
    (split_at_first is_slash t 0 inside ∙ ap (λ b. before_first is_slash t ++ b ∷ after_first is_slash t) (slash_is _ (passes_at_first is_slash t 0 inside)))

-- at a piece before a slash
pub clean_more : (t : List ℕ) (n : ℕ) → n ≡ position_or_len is_slash t → n < length t → is_clean t ≡ (is_clean (take n t) && is_clean (drop (n + 1) t))
clean_more t n e l = same_from_decides _ _ whole (both_decides (take n t) (drop (n + 1) t))
  where
    s : t ≡ take n t ++ 47 ∷ drop (n + 1) t
    s = at_slash t n e l

    whole : Decides (is_clean t) (IsClean (take n t) × IsClean (drop (n + 1) t))
    whole = (
      λ h. (let k = clean-cut (take n t) (drop (n + 1) t) (subst IsClean s ((clean_decides t).0 h)) in (k.before, k.behind)),
      λ h. (clean_decides t).1 (subst IsClean (sym s) (clean-append (take n t) (47 ∷ drop (n + 1) t) h.0 (clean-append (47 ∷ []) (drop (n + 1) t) clean-slash h.1))),
    )

-- the first piece and what stands behind it, its slash among that
pub clean_rest : (t : List ℕ) (n : ℕ) → n ≡ position_or_len is_slash t → n ≤ length t → is_clean t ≡ (is_clean (take n t) && is_clean (drop n t))
clean_rest t n e w = same_from_decides _ _ whole (both_decides (take n t) (drop n t))
  where
    here : n < length t → get_or t n 0 ≡ 47
    here m = let inside : position_or_len is_slash t < length t = omega (arith, e) in subst (λ i. get_or t i 0 ≡ 47) (sym e) (slash_is _ (passes_at_first is_slash t 0 inside))

    parts : (n < length t) ⊎ (length t ≤ n) → IsClean t → IsClean (take n t) × IsClean (drop n t)
    parts (inl l) h =
        let s = at_slash t n e l in
        let k = clean-cut (take n t) (drop (n + 1) t) (subst IsClean s h) in
        let behind : drop n t ≡ 47 ∷ drop (n + 1) t = drop_more t n 0 l ∙ ap (λ b. b ∷ drop (n + 1) t) (here l) in
        (k.before, subst IsClean (sym behind) (clean-append (47 ∷ []) (drop (n + 1) t) clean-slash k.behind))
    parts (inr l) h =
        let all : n ≡ length t = omega arith in
        (subst IsClean (sym (ap (λ m. take m t) all ∙ take-length t)) h, subst IsClean (sym (drop_all n t (omega arith))) clean-nil)

    whole : Decides (is_clean t) (IsClean (take n t) × IsClean (drop n t))
    whole = (
      λ h. parts (cases_lt n (length t)) ((clean_decides t).0 h),
      λ h. (clean_decides t).1 (subst IsClean (take-append-drop n t) (clean-append (take n t) (drop n t) h.0 h.1)),
    )

-- a text whose first piece isn't clean isn't either
pub clean_fails : (t : List ℕ) → is_clean (before_first is_slash t) ≡ false → is_clean t ≡ false
clean_fails t e = clean_rest t (position_or_len is_slash t) refl (prefix_len-le-length (λ b. not (is_slash b)) t) ∙ ap (λ b. b && is_clean (drop (position_or_len is_slash t) t)) e

pub clean_last : (t : List ℕ) (n : ℕ) → n ≡ length t → is_clean (take n t) ≡ is_clean t
clean_last t n l = ap is_clean (ap (λ m. take m t) l ∙ take-length t)

-- where the first piece is clean, what stands behind it decides
pub clean_on : (t : List ℕ) (n : ℕ) → n ≡ position_or_len is_slash t → n < length t → is_clean (take n t) ≡ true → is_clean t ≡ is_clean (drop (n + 1) t)
clean_on t n e l h = clean_more t n e l ∙ ap (λ b. b && is_clean (drop (n + 1) t)) h

clean_behind : (t : List ℕ) (n : ℕ) → n ≡ position_or_len is_slash t → n ≤ length t → is_clean (take n t) ≡ true → is_clean t ≡ is_clean (drop n t)
clean_behind t n e w h = clean_rest t n e w ∙ ap (λ b. b && is_clean (drop n t)) h

-- what is told of a fault: what keeps the text from naming a path goes first
pub told_fault : {X : Type 0} (text rest : List ℕ) (path : Option X) (e r : PathError) → is_clean text ≡ is_clean rest → (e ≡ Memory) ⊎ ((e ≡ AboveRoot) × (path ≡ None)) → r ≡ cond (is_clean rest) e BadPath → IsFault text path r
told_fault text rest path e r same w h = by (is_clean rest) refl
  where
    by : (c : Bool) → is_clean rest ≡ c → IsFault text path r
    by true q = let is : r ≡ e = h ∙ ap (λ b. cond b e BadPath) q in inr (same ∙ q, subst (λ x. (x ≡ Memory) ⊎ ((x ≡ AboveRoot) × (path ≡ None))) (sym is) w)
    by false q = inl (same ∙ q, h ∙ ap (λ b. cond b e BadPath) q)

-- a failed step of the walk
pub walk_fault : (top : ℕ) (first text buffer t : List ℕ) (n : ℕ) (e r : PathError) → is_clean t ≡ is_clean text → buffer_walked top buffer (pieces t) ≡ buffer_walked top first (pieces text) → n ≡ position_or_len is_slash t → n ≤ length t → is_clean (take n t) ≡ true → (e ≡ Memory) ⊎ ((e ≡ AboveRoot) × (buffer_stepped top buffer (take n t) ≡ None)) → r ≡ cond (is_clean (take (length t - n) (drop n t))) e BadPath → IsFault text (buffer_walked top first (pieces text)) r
walk_fault top first text buffer t n e r c same v w h f q =
    told_fault text (drop n t) (buffer_walked top first (pieces text)) e r (sym c ∙ clean_behind t n v w h) (walk_failed top first text buffer t n e same v w f) (q ∙ ap (λ x. cond (is_clean x) e BadPath) (take_rest t n))

-- a text that isn't empty may name a path just where it is clean
pub path_text_is : (t : List ℕ) → false ≡ eqb (length t) 0 → is_path_text t ≡ is_clean t
unfolding is_path_text is_clean
path_text_is [] e = absurd (true≢false (sym e))
path_text_is (b ∷ bs) e = refl

pub path_text_empty : (t : List ℕ) → true ≡ eqb (length t) 0 → is_path_text t ≡ false
unfolding is_path_text
path_text_empty t e = ap (λ x. not (bytes_eq x []) && (list_all is_path_byte x && is_utf8 x)) (empty_text t e)

-- a fault is what `resolved` says, but for want of memory
pub fault_told : {X : Type 0} (current text : List ℕ) (path : Option X) (e : PathError) → is_path_text text ≡ is_clean text → (is_path_text text ≡ true → path ≡ None → resolved current text ≡ Err AboveRoot) → IsFault text path e → (e ≡ Memory) ⊎ (resolved current text ≡ Err e)
fault_told current text path e same above (inl b) = inr (resolved-bad current text (same ∙ b.0) ∙ ap Err (sym b.1))
fault_told current text path e same above (inr w) = by w.1
  where
    by : (e ≡ Memory) ⊎ ((e ≡ AboveRoot) × (path ≡ None)) → (e ≡ Memory) ⊎ (resolved current text ≡ Err e)
    by (inl m) = inl m
    by (inr a) = inr (above (same ∙ w.0) a.1 ∙ ap Err (sym a.0))

-- and it is that of a text that may name no path where `resolved` says so
pub fault_bad : {X : Type 0} (current text : List ℕ) (path : Option X) (e : PathError) → is_path_text text ≡ is_clean text → IsFault text path e → resolved current text ≡ Err BadPath → e ≡ BadPath
fault_bad current text path e same (inl b) h = b.1
fault_bad current text path e same (inr w) h = absurd (resolved_not_bad current text (same ∙ w.0) h)
