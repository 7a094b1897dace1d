-- A toolchain's text is cut where it was joined.
use Rattle.std.proofs.Common.{◌≡◌, ℕ, ◌+◌, ◌-◌, ◌<◌, ◌≤◌, Bool, true, false, cond, not, ◌&&◌, ◌||◌, ◌==◌, List, [], ◌∷◌, ◌++◌, length, drop, None, Some, refl, sym, ap, ◌∙◌, arith, get_or, append_assoc, Ok}
use Rattle.std.specs.List.{All, list_any, list_all, suffix_len, before_last, after_last}
use Rattle.std.proofs.lemmas.Bool.{false≢true, and_parts}
use Rattle.std.proofs.lemmas.List.{take_at, drop_at, length-append, get_or_at, get_or-append_right}
use Rattle.std.proofs.lemmas.List.Elements.{All-nil, All-cons}
use Rattle.std.proofs.lemmas.List.Sums.{suffix_len_is}
use Rattle.gn_paths.specs.Components.{two_slashes, pieces}
use Rattle.std.specs.Str.{is_utf8}
use Rattle.gn_paths.specs.Directory.{leads_down}
use Rattle.gn_paths.specs.Normal.{is_path_byte, IsNormal}
use Rattle.gn_paths.specs.Resolve.{path_meant}
use Rattle.gn_labels.specs.declared.named.Named.{Named}
use Rattle.gn_labels.specs.Labels.{spelling}
use Rattle.gn_labels.specs.Names.{is_name_byte, is_name}
use Rattle.gn_labels.specs.Reading.{is_colon}
use Rattle.gn_labels.specs.Toolchains.{named_at, toolchain_named}
use Rattle.gn_labels.specs.Laws.{IsNamed}

-- a name holds no colon
byte_parts : (p a b c d : Bool) → (p && not (a || (b || (c || d)))) ≡ true → d ≡ false
byte_parts false a b c d e = absurd (false≢true e)
byte_parts true true b c d e = absurd (false≢true e)
byte_parts true false true c d e = absurd (false≢true e)
byte_parts true false false true d e = absurd (false≢true e)
byte_parts true false false false true e = absurd (false≢true e)
byte_parts true false false false false e = refl

no_colon : (t : List ℕ) → list_all is_name_byte t ≡ true → All (λ b. is_colon b ≡ false) t
no_colon [] h = All-nil _
no_colon (b ∷ bs) h = let k = and_parts (is_name_byte b) (list_all is_name_byte bs) h in All-cons (λ x. is_colon x ≡ false) b bs (byte_parts (is_path_byte b) (b == 40) (b == 41) (b == 42) (is_colon b) k.0) (no_colon bs k.1)

name_no_colon : (t : List ℕ) → is_name t ≡ true → All (λ b. is_colon b ≡ false) t
unfolding is_name
name_no_colon t h = no_colon t (and_parts (list_all is_name_byte t) (is_utf8 t && list_all leads_down (pieces t)) h).0

-- the place of the last colon
colon_at : (u c : List ℕ) → All (λ b. is_colon b ≡ false) c → suffix_len (λ b. not (is_colon b)) (u ++ 58 ∷ c) ≡ length c
colon_at u c h =
    let zs : List ℕ = u ++ 58 ∷ c in
    let long : length zs ≡ length u + (length c + 1) = omega (arith, length-append u (58 ∷ c)) in
    let same : zs ≡ (u ++ 58 ∷ []) ++ c = sym (append_assoc u (58 ∷ []) c) in
    let n : length (u ++ 58 ∷ []) ≡ length u + 1 = omega (arith, length-append u (58 ∷ [])) in
    let after : (k : ℕ) → length u + 1 ≤ k → k < length zs → not (is_colon (get_or zs k 0)) ≡ true = λ k a l. ap (λ b. not (is_colon b)) (ap (λ t. get_or t k 0) same ∙ get_or-append_right (u ++ 58 ∷ []) c (length u + 1) k 0 n a) ∙ ap not (h (k - (length u + 1)) 0 (omega arith)) in
    let here : 0 < length u + 1 → not (is_colon (get_or zs (length u + 1 - 1) 0)) ≡ false = λ _. ap (λ b. not (is_colon b)) (get_or_at u 58 c 0 (length u + 1 - 1) (omega arith)) in
    let s : suffix_len (λ b. not (is_colon b)) zs ≡ length zs - (length u + 1) = suffix_len_is (λ b. not (is_colon b)) zs (length u + 1) 0 (omega arith) after here in
    omega (arith, s, long)

before_colon : (u c : List ℕ) → All (λ b. is_colon b ≡ false) c → before_last is_colon (u ++ 58 ∷ c) ≡ u
before_colon u c h = take_at u (58 ∷ c) _ (omega (arith, colon_at u c h, length-append u (58 ∷ c)))

behind_colon : (u c : List ℕ) → All (λ b. is_colon b ≡ false) c → after_last is_colon (u ++ 58 ∷ c) ≡ c
behind_colon u c h =
    let n : length (u ++ 58 ∷ []) ≡ length u + 1 = omega (arith, length-append u (58 ∷ [])) in
    ap (drop (length (u ++ 58 ∷ c) - suffix_len (λ b. not (is_colon b)) (u ++ 58 ∷ c))) (sym (append_assoc u (58 ∷ []) c)) ∙ drop_at (u ++ 58 ∷ []) c _ (omega (arith, n, colon_at u c h, length-append u (58 ∷ c)))

some_colon : (u c : List ℕ) → list_any is_colon (u ++ 58 ∷ c) ≡ true
some_colon [] c = refl
some_colon (x ∷ xs) c = by (is_colon x) (some_colon xs c)
  where
    by : (b : Bool) → list_any is_colon (xs ++ 58 ∷ c) ≡ true → (b || list_any is_colon (xs ++ 58 ∷ c)) ≡ true
    by true h = refl
    by false h = h

pub spelled_named : ((current path : List ℕ) → IsNormal path → path_meant current path ≡ Ok path) → (part : Named) → IsNamed part → toolchain_named (spelling part.dir part.name) ≡ Some part
unfolding toolchain_named
spelled_named means_itself part h =
    let text = spelling part.dir part.name in
    let plain = name_no_colon part.name h.name in
    ap (λ b. cond b (named_at (after_last is_colon text) (path_meant two_slashes (before_last is_colon text))) None) (some_colon part.dir part.name) ∙ ap (λ n. named_at n (path_meant two_slashes (before_last is_colon text))) (behind_colon part.dir part.name plain) ∙ ap (λ d. named_at part.name (path_meant two_slashes d)) (before_colon part.dir part.name plain) ∙ ap (named_at part.name) (means_itself two_slashes part.dir h.directory)
