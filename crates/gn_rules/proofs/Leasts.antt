-- The first in label order of labels that are matched.
use Rattle.std.proofs.Common.{◌≡◌, ◌⊎◌, inl, inr, ℕ, ◌+◌, ◌<◌, ◌≤◌, List, length, Bool, true, false, Option, Some, None, slice_get, refl, sym, ◌∙◌, ap, subst, arith, true≢false}
use Rattle.std.proofs.lemmas.Bool.{cases_lt}
use Rattle.gn_labels.specs.declared.label.Label.{Label}
use Rattle.gn_labels.specs.declared.pattern.Pattern.{Pattern}
use Rattle.gn_labels.specs.Labels.{is_before}
use Rattle.gn_dependencies.specs.Lists.{same_label, has}
use Rattle.gn_dependencies.proofs.Same.{own, same}
use Rattle.gn_dependencies.proofs.OrderLaws.{within, place_of, has_at}
use Rattle.gn_dependencies.proofs.At.{one_there}
use Rattle.gn_rules.specs.Rules.{is_matched}
use Rattle.gn_rules.specs.Least.{IsLeast, IsLeastMatched, IsLeastIn}

abbrev pub IsStrict : Type 0
IsStrict = (default : List ℕ) → (a : Label) → is_before default a a ≡ false

abbrev pub IsTransitive : Type 0
IsTransitive = (default : List ℕ) → (a b c : Label) → is_before default a b ≡ true → is_before default b c ≡ true → is_before default a c ≡ true

below_or : (k n : ℕ) → k < n + 1 → (k < n) ⊎ (k ≡ n)
below_or k n l = elim (cases_lt k n) [ inl m ↦ inl m | inr m ↦ inr (omega (arith, l, m)) ]

module _ (default : List ℕ) (patterns : List Pattern) (labels : List Label) (n : ℕ) (x : Label) (at : slice_get labels n ≡ Some x) where
  here : (k : ℕ) (q : Label) → k ≡ n → slice_get labels k ≡ Some q → x ≡ q
  here k q i a = one_there x q (sym at ∙ ap (slice_get labels) (sym i) ∙ a)

  -- one more that isn't matched
  pub unmatched : (best : Option ℕ) → is_matched patterns x ≡ false → IsLeastMatched default patterns labels n best → IsLeastMatched default patterns labels (n + 1) best
  unmatched None h s = λ k q l a. elim (below_or k n l) [ inl i ↦ s k q i a | inr i ↦ ap (is_matched patterns) (sym (here k q i a)) ∙ h ]
  unmatched (Some b) h s = record {
    label = s.label;
    inside = let l = s.inside in omega (arith, l);
    at = s.at;
    matched = s.matched;
    least = λ k q l a m. elim (below_or k n l) [
      | inl i ↦ s.least k q i a m
      | inr i ↦ absurd (true≢false (sym m ∙ ap (is_matched patterns) (sym (here k q i a)) ∙ h))
    ];
  }

  -- the first that is matched
  pub first_matched : IsStrict → is_matched patterns x ≡ true → IsLeastMatched default patterns labels n None → IsLeastMatched default patterns labels (n + 1) (Some n)
  first_matched strict h s = record {
    label = x;
    inside = omega arith;
    at = at;
    matched = h;
    least = λ k q l a m. elim (below_or k n l) [
      | inl i ↦ absurd (true≢false (sym m ∙ s k q i a))
      | inr i ↦ ap (λ (z : Label). is_before default z x) (sym (here k q i a)) ∙ strict default x
    ];
  }

  -- one more that is matched, and comes before the first so far
  pub comes_before : IsStrict → IsTransitive → (b : ℕ) → is_matched patterns x ≡ true → (s : IsLeastMatched default patterns labels n (Some b)) → is_before default x s.label ≡ true
      → IsLeastMatched default patterns labels (n + 1) (Some n)
  comes_before strict transitive b h s e = record {
    label = x;
    inside = omega arith;
    at = at;
    matched = h;
    least = λ k q l a m. elim (below_or k n l) [
      | inl i ↦ test q (is_before default q x) refl (s.least k q i a m)
      | inr i ↦ ap (λ (z : Label). is_before default z x) (sym (here k q i a)) ∙ strict default x
    ];
  }
    where
      test : (q : Label) (v : Bool) → is_before default q x ≡ v → is_before default q s.label ≡ false → is_before default q x ≡ false
      test q true f n = absurd (true≢false (sym (transitive default q x s.label f e) ∙ n))
      test q false f n = f

  -- the same where the first so far is known by another word
  pub replaced : IsStrict → IsTransitive → (best : Option ℕ) (b : ℕ) (first : Bool) → best ≡ Some b → IsLeastMatched default patterns labels n best → is_matched patterns x ≡ true
      → ((x y : Label) → slice_get labels n ≡ Some x → slice_get labels b ≡ Some y → first ≡ is_before default x y) → first ≡ true → IsLeastMatched default patterns labels (n + 1) (Some n)
  replaced strict transitive best b first e s h f t =
      let r : IsLeast default patterns labels n b = subst (λ (z : Option ℕ). IsLeastMatched default patterns labels n z) e s in
      comes_before strict transitive b h r (sym (f x r.label at r.at) ∙ t)

  -- and one that doesn't
  pub stays_first : (b : ℕ) → (s : IsLeastMatched default patterns labels n (Some b)) → is_before default x s.label ≡ false → IsLeastMatched default patterns labels (n + 1) (Some b)
  stays_first b s e = record {
    label = s.label;
    inside = let l = s.inside in omega (arith, l);
    at = s.at;
    matched = s.matched;
    least = λ k q l a m. elim (below_or k n l) [
      | inl i ↦ s.least k q i a m
      | inr i ↦ ap (λ (z : Label). is_before default z s.label) (sym (here k q i a)) ∙ e
    ];
  }

-- ---- of all
pub none_matched : (default : List ℕ) (patterns : List Pattern) (labels : List Label) → IsLeastMatched default patterns labels (length labels) None → IsLeastIn default patterns labels None
none_matched default patterns labels s q h = let k = place_of same_label own same q labels h in s k.0 q (within labels k.0 q k.1) k.1

pub one_matched : (default : List ℕ) (patterns : List Pattern) (labels : List Label) (b : ℕ) (x : Label) → IsLeastMatched default patterns labels (length labels) (Some b) → slice_get labels b ≡ Some x
    → IsLeastIn default patterns labels (Some x)
one_matched default patterns labels b x s a =
    let is : s.label ≡ x = one_there s.label x (sym s.at ∙ a) in
    subst (λ (z : Label). IsLeastIn default patterns labels (Some z)) is
    (has_at same_label own same labels b s.label s.at, (s.matched, λ q h m. let k = place_of same_label own same q labels h in s.least k.0 q (within labels k.0 q k.1) k.1 m))
