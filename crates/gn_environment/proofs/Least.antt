-- Of two the one that comes first, by any order that ranks: nothing comes before it.
use Rattle.std.proofs.Common.{◌≡◌, ◌⊎◌, Bool, true, false, if◌then◌else◌, Option, Some, None, inl, inr, refl, sym, ap, ◌∙◌, subst}
use Rattle.std.specs.Cmp.{IsStrictWeakOrder}
use Rattle.std.proofs.lemmas.Option.{same_Some}

module _ {X : Type 0} (before : X → X → Bool) (ranks : IsStrictWeakOrder before) where
  abbrev pub sooner : Option X → Option X → Option X
  sooner None p = p
  sooner (Some x) None = Some x
  sooner (Some x) (Some y) = if before y x then Some y else Some x

  -- there is one before which this doesn't come
  abbrev pub IsAtMost : Option X → X → Type 0
  IsAtMost o b = (a : X) × (o ≡ Some a) × (before b a ≡ false)

  pub not_before_itself : (x : X) → before x x ≡ false
  not_before_itself x =
      elim (before x x) as (λ r. before x x ≡ r → r ≡ false) [ true ↦ λ e. sym e ∙ ranks.one_way x x e | false ↦ λ e. refl ] refl

  pub one_of_two : (o p : Option X) (a : X) → sooner o p ≡ Some a → (o ≡ Some a) ⊎ (p ≡ Some a)
  one_of_two None p a h = inr h
  one_of_two (Some x) None a h = inl h
  one_of_two (Some x) (Some y) a h =
      elim (before y x) as (λ r. (if r then Some y else Some x) ≡ Some a → (Some x ≡ Some a) ⊎ (Some y ≡ Some a)) [ true ↦ λ g. inr g | false ↦ λ g. inl g ] h

  left_there : (b : X) (p : Option X) → IsAtMost (sooner (Some b) p) b
  left_there b None = (b, refl, not_before_itself b)
  left_there b (Some y) =
      elim (before y b) as (λ r. before y b ≡ r → IsAtMost (if r then Some y else Some b) b) [ true ↦ λ e. (y, refl, ranks.one_way y b e) | false ↦ λ e. (b, refl, not_before_itself b) ] refl

  right_there : (o : Option X) (y b : X) → before b y ≡ false → IsAtMost (sooner o (Some y)) b
  right_there None y b n = (y, refl, n)
  right_there (Some x) y b n =
      elim (before y x) as (λ r. before y x ≡ r → IsAtMost (if r then Some y else Some x) b) [ true ↦ λ e. (y, refl, n) | false ↦ λ e. (x, refl, ranks.chain b y x n e) ] refl

  at_most_left : (o p : Option X) (x b : X) → o ≡ Some x → before b x ≡ false → IsAtMost (sooner o p) b
  at_most_left None p x b h n = cc
  at_most_left (Some z) None x b h n = (z, refl, ap (before b) (same_Some z x h) ∙ n)
  at_most_left (Some z) (Some y) x b h n =
      elim (before y z) as (λ r. before y z ≡ r → IsAtMost (if r then Some y else Some z) b) [
        | true ↦ λ e. (y, refl, ranks.chain b x y n (ap (λ w. before w y) (sym (same_Some z x h)) ∙ ranks.one_way y z e))
        | false ↦ λ e. (z, refl, ap (before b) (same_Some z x h) ∙ n)
      ] refl

  pub in_left : (o p : Option X) (b : X) → IsAtMost o b → IsAtMost (sooner o p) b
  in_left o p b f = at_most_left o p f.0 b f.1 f.2

  pub in_right : (o p : Option X) (b : X) → IsAtMost p b → IsAtMost (sooner o p) b
  in_right o p b f = subst (λ (q : Option X). IsAtMost (sooner o q) b) (sym f.1) (right_there o f.0 b f.2)
