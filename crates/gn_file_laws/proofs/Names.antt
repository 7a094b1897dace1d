-- The names of phony lines, beside what else is made.
use Rattle.std.proofs.Common.{◌≡◌, inl, inr, ℕ, List, [], ◌∷◌, ◌++◌, Bool, true, false, cond, not, ◌||◌, ◌&&◌, T, map, Ordering, refl, sym, ap, ◌∙◌, subst}
use Rattle.std.specs.declared.cmp.Ordering.TheVariants.{Less, Equal, Greater}
use Rattle.std.specs.List.{list_any, list_all, fold}
use Rattle.std.specs.Str.{bytes_eq}
use Rattle.std.specs.Ordering.{nat_cmp, is_lt, is_eq}
use Rattle.std.specs.Cmp.Lexicographic.{slice_cmp}
use Rattle.std.specs.FinMap.{is_sorted}
use Rattle.std.specs.FinMap.Entries.{below_all}
use Rattle.std.proofs.lemmas.Bool.{false≢true}
use Rattle.std.proofs.lemmas.Map.Text.{is_eq-slice_cmp}
use Rattle.gn_text.specs.Names.{with_name}
use Rattle.gn_toolchains.specs.Frames.{has_text}
use Rattle.gn_file_laws.proofs.Once.{IsOnce, AreApart, in_first, in_second, one_of, same_text, own_text}

abbrev pub names : List (List ℕ × List ℕ) → List (List ℕ)
names es = map (λ e. e.0) es

-- Names that rise stand once

both_parts : (a b : Bool) → T (a && b) → T a × T b
both_parts true b h = (tt, h)
both_parts false b h = absurd h

less_apart : (o : Ordering) → T (is_lt o) → is_eq o ≡ false
less_apart Less h = refl
less_apart Equal h = absurd h
less_apart Greater h = absurd h

below_apart : (p : List ℕ) (es : List (List ℕ × List ℕ)) → T (below_all (slice_cmp nat_cmp) p es) → has_text (names es) p ≡ false
below_apart p [] h = refl
below_apart p (e ∷ es) h =
    let parts = both_parts (is_lt (slice_cmp nat_cmp p e.0)) (below_all (slice_cmp nat_cmp) p es) h in
    ap (λ b. b || has_text (names es) p) (sym (is_eq-slice_cmp p e.0) ∙ less_apart (slice_cmp nat_cmp p e.0) parts.0) ∙ below_apart p es parts.1

pub rising_once : (es : List (List ℕ × List ℕ)) → T (is_sorted (slice_cmp nat_cmp) es) → IsOnce (names es)
rising_once [] h = tt
rising_once (e ∷ es) h =
    let parts = both_parts (below_all (slice_cmp nat_cmp) e.0 es) (is_sorted (slice_cmp nat_cmp) es) h in
    (below_apart e.0 es parts.0, rising_once es parts.1)

-- Names that aren't taken

all_parts : (a b : Bool) → (a && b) ≡ true → (a ≡ true) × (b ≡ true)
all_parts true b h = (refl, h)
all_parts false b h = absurd (false≢true h)

refused : (b : Bool) → not b ≡ true → b ≡ true → ⊥
refused true h e = false≢true h
refused false h e = false≢true e

pub free_apart : (taken : List (List ℕ)) (es : List (List ℕ × List ℕ)) → list_all (λ e. not (list_any (bytes_eq e.0) taken)) es ≡ true → AreApart (names es) taken
free_apart taken [] h q m n = false≢true m
free_apart taken (e ∷ es) h q m n =
    let parts = all_parts (not (list_any (bytes_eq e.0) taken)) (list_all (λ e. not (list_any (bytes_eq e.0) taken)) es) h in
    elim (one_of (bytes_eq q e.0) (has_text (names es) q) m) [
      | inl s ↦ refused (list_any (bytes_eq e.0) taken) parts.0 (subst (λ z. has_text taken z ≡ true) (same_text q e.0 s) n)
      | inr j ↦ free_apart taken es parts.1 q j n
    ]

-- What is put with other names is there, and so are these

kept_by : (ns : List (List ℕ)) (p q : List ℕ) (b : Bool) → has_text ns q ≡ true → has_text (cond b ns (ns ++ p ∷ [])) q ≡ true
kept_by ns p q true h = h
kept_by ns p q false h = in_first ns (p ∷ []) q h

put_by : (ns : List (List ℕ)) (q : List ℕ) (b : Bool) → has_text ns q ≡ b → has_text (cond b ns (ns ++ q ∷ [])) q ≡ true
put_by ns q true h = h
put_by ns q false h = in_second ns (q ∷ []) q (ap (λ b. b || false) (own_text q))

pub stays : (ns ps : List (List ℕ)) (q : List ℕ) → has_text ns q ≡ true → has_text (fold with_name ns ps) q ≡ true
stays ns [] q h = h
stays ns (p ∷ ps) q h = stays (with_name ns p) ps q (kept_by ns p q (has_text ns p) h)

pub is_put : (ns ps : List (List ℕ)) (q : List ℕ) → has_text ps q ≡ true → has_text (fold with_name ns ps) q ≡ true
is_put ns [] q h = absurd (false≢true h)
is_put ns (p ∷ ps) q h = elim (one_of (bytes_eq q p) (has_text ps q) h) [
  | inl e ↦ stays (with_name ns p) ps q (subst (λ z. has_text (with_name ns p) z ≡ true) (sym (same_text q p e)) (put_by ns p (has_text ns p) refl))
  | inr i ↦ is_put (with_name ns p) ps q i
]
