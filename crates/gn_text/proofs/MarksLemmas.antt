-- What the bits of marks say, and what is known of texts that are marked.
use Rattle.std.proofs.Common.{◌≡◌, ◌↔◌, ◌⊎◌, inl, inr, ℕ, ◌*◌, ◌%◌, ◌/◌, ◌^◌, ◌<◌, Bool, true, false, ◌||◌, List, [], ◌∷◌, bit_and, bit_or, nat_eq, Decides, sym, ap, ◌∙◌, refl, subst, arith, w64}
use Rattle.std.specs.Int.{bit_at}
use Rattle.std.specs.List.{list_any}
use Rattle.std.specs.Str.{bytes_eq}
use Rattle.std.proofs.lemmas.Bool.{cases_eq}
use Rattle.std.proofs.lemmas.Bool.Decides.{Decides-eqb}
use Rattle.std.proofs.lemmas.Nat.Bits.{shr_and_one, bit_at-zero, bit_at_set_same, bit_at_set_other}
use Rattle.std.proofs.lemmas.Slice.Eq.{bytes_eq-Decides}
use Rattle.gn_text.specs.Marks.{mark_of, IsMarked, AllMarked, AddsMark}
use Rattle.gn_text.specs.declared.marks.Marks.{Marks}

-- no bits are no marks
pub none_marked : (text : List ℕ) → IsMarked (record { bits = 0 }) text → ⊥
unfolding IsMarked
none_marked text h = omega (arith, h, bit_at-zero (mark_of text))

-- a bit is looked at by a shift
pub bit_tested : (n k : ℕ) → Decides (nat_eq (bit_and (n / 2 ^ k) 1) 1) (bit_at n k ≡ 1)
bit_tested n k =
    subst (λ m. Decides (nat_eq m 1) (bit_at n k ≡ 1)) (sym (shr_and_one n k)) (Decides-eqb (bit_at n k) 1)

-- a bit that is set is there, and the others are as before
pub bit_set : (n k j : ℕ) → k < 64 → (bit_at (bit_or n (1 * 2 ^ k % 2 ^ 64)) j ≡ 1) ↔ ((bit_at n j ≡ 1) ⊎ (j ≡ k))
bit_set n k j l = by (cases_eq j k)
  where
    by : (j ≡ k) ⊎ (j ≡ k → ⊥) → (bit_at (bit_or n (1 * 2 ^ k % 2 ^ 64)) j ≡ 1) ↔ ((bit_at n j ≡ 1) ⊎ (j ≡ k))
    by (inl e) =
        (λ _. inr e, λ _. subst (λ i. bit_at (bit_or n (1 * 2 ^ k % 2 ^ 64)) i ≡ 1) (sym e) (bit_at_set_same w64 n k l))
    by (inr other) = (λ h. inl (sym same ∙ h), back)
      where
        same : bit_at (bit_or n (1 * 2 ^ k % 2 ^ 64)) j ≡ bit_at n j
        same = bit_at_set_other w64 n k l j other

        back : (bit_at n j ≡ 1) ⊎ (j ≡ k) → bit_at (bit_or n (1 * 2 ^ k % 2 ^ 64)) j ≡ 1
        back (inl h) = same ∙ h
        back (inr e) = absurd (other e)

-- the marks with the bit of a text's mark set
pub adds_mark : (marks : Marks) (text : List ℕ) (k : ℕ) → k ≡ mark_of text → AddsMark marks text (record { bits = bit_or marks.bits (1 * 2 ^ k % 2 ^ 64) })
unfolding IsMarked
adds_mark marks text k is other = rw is (bit_set marks.bits (mark_of text) (mark_of other) (omega arith))

-- texts that are marked stay so
pub all_kept : (before after : Marks) (text : List ℕ) → AddsMark before text after → (texts : List (List ℕ)) → AllMarked before texts → AllMarked after texts
all_kept before after text adds [] h = tt
all_kept before after text adds (t ∷ ts) h =
    ((adds t).1 (inl h.0), all_kept before after text adds ts h.1)

-- the text whose mark is added is marked
pub itself_marked : (before after : Marks) (text : List ℕ) → AddsMark before text after → IsMarked after text
itself_marked before after text adds = (adds text).1 (inr refl)

-- a text whose mark isn't there is none of those that are marked
pub lacking_unmarked : (marks : Marks) (text : List ℕ) → (IsMarked marks text → ⊥) → (texts : List (List ℕ)) → AllMarked marks texts → list_any (bytes_eq text) texts ≡ false
lacking_unmarked marks text absent [] h = refl
lacking_unmarked marks text absent (t ∷ ts) h =
    ap (λ b. b || list_any (bytes_eq text) ts) (by (bytes_eq text t) refl) ∙ lacking_unmarked marks text absent ts h.1
  where
    by : (b : Bool) → bytes_eq text t ≡ b → bytes_eq text t ≡ false
    by true e = absurd (absent (subst (IsMarked marks) (sym ((bytes_eq-Decides text t).0 e)) h.0))
    by false e = e
