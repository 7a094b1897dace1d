-- The first in label order of a list stands in the list, and nothing of the list stands before it.
use Rattle.std.proofs.Common.{◌≡◌, ◌⊎◌, inl, inr, ℕ, List, [], ◌∷◌, Bool, true, false, cond, Some, None, refl, sym, ◌∙◌, ap, subst, true≢false}
use Rattle.std.specs.List.{Contains, fold}
use Rattle.gn_labels.specs.declared.label.Label.{Label}
use Rattle.gn_labels.specs.Labels.{is_before}
use Rattle.gn_toolchain_faults.specs.Least.{earlier, least}
use Rattle.gn_toolchain_faults.proofs.Contained.{contains_first, contains_later, contains_nothing, contains_cases}

-- the laws of label order
abbrev pub IsStrict : Type 0
IsStrict = (default : List ℕ) → (a : Label) → is_before default a a ≡ false

abbrev pub IsTransitive : Type 0
IsTransitive = (default : List ℕ) → (a b c : Label) → is_before default a b ≡ true → is_before default b c ≡ true → is_before default a c ≡ true

abbrev pub HasNoTies : Type 0
HasNoTies = (default : List ℕ) → (a b : Label) → (is_before default a b ≡ true) ⊎ ((a ≡ b) ⊎ (is_before default b a ≡ true))

pub record LabelOrder : Type 0 where
  pub strict : IsStrict
  pub transitive : IsTransitive
  pub no_ties : HasNoTies

module _ (order : LabelOrder) (default : List ℕ) where
  no_before : (a b : Label) → (is_before default a b ≡ true → ⊥) → is_before default a b ≡ false
  no_before a b h = by (is_before default a b) refl
    where
      by : (v : Bool) → is_before default a b ≡ v → v ≡ false
      by true e = absurd (h e)
      by false e = refl

  -- what comes before a label comes before none that doesn't come behind it
  stays_behind : (x y z : Label) → is_before default x y ≡ true → is_before default x z ≡ false → is_before default y z ≡ false
  stays_behind x y z l n = no_before y z (λ e. true≢false (sym (order.transitive default x y z l e) ∙ n))

  -- and so what a label doesn't come before
  stays_apart : (x y z : Label) → is_before default y x ≡ false → is_before default x z ≡ false → is_before default y z ≡ false
  stays_apart x y z n m = no_before y z (λ e. elim (order.no_ties default x y) [
    | inl l ↦ true≢false (sym (order.transitive default x y z l e) ∙ m)
    | inr r ↦ elim r [
      | inl s ↦ true≢false (sym (ap (λ (w : Label). is_before default w z) s ∙ e) ∙ m)
      | inr l ↦ true≢false (sym l ∙ n)
    ]
  ])

  module _ {A : Type 0} (label : A → Label) where
    pub record IsFirst (xs : List A) (x : A) : Type 0 where
      pub inside : Contains xs x
      pub first : (y : A) → Contains xs y → is_before default (label y) (label x) ≡ false

    first_by : (best y : A) (ys : List A) (x : A) (b : Bool) → is_before default (label y) (label best) ≡ b → IsFirst (cond b y best ∷ ys) x → IsFirst (best ∷ y ∷ ys) x
    first_by best y ys x true e h = record {
      inside = contains_later best (y ∷ ys) x h.inside;
      first = λ z c. elim (contains_cases best (y ∷ ys) z c) [
        | inl s ↦ subst (λ (w : A). is_before default (label w) (label x) ≡ false) s (stays_behind (label y) (label best) (label x) e (h.first y (contains_first y ys)))
        | inr d ↦ h.first z d
      ];
    }
    first_by best y ys x false e h = record {
      inside = elim (contains_cases best ys x h.inside) [
        | inl s ↦ subst (λ (w : A). Contains (best ∷ y ∷ ys) w) s (contains_first best (y ∷ ys))
        | inr d ↦ contains_later best (y ∷ ys) x (contains_later y ys x d)
      ];
      first = λ z c. elim (contains_cases best (y ∷ ys) z c) [
        | inl s ↦ subst (λ (w : A). is_before default (label w) (label x) ≡ false) s (h.first best (contains_first best ys))
        | inr d ↦ elim (contains_cases y ys z d) [
          | inl s ↦ subst (λ (w : A). is_before default (label w) (label x) ≡ false) s (stays_apart (label best) (label y) (label x) e (h.first best (contains_first best ys)))
          | inr f ↦ h.first z (contains_later best ys z f)
        ]
      ];
    }

    chosen : (best y : A) (ys : List A) (b : Bool) → fold (earlier label default) (cond b (Some y) (Some best)) ys ≡ fold (earlier label default) (Some (cond b y best)) ys
    chosen best y ys true = refl
    chosen best y ys false = refl

    first_from : (best : A) (xs : List A) (x : A) → fold (earlier label default) (Some best) xs ≡ Some x → IsFirst (best ∷ xs) x
    first_from best [] x e =
        let s : best ≡ x = cc e in
        record {
          inside = subst (λ (w : A). Contains (best ∷ []) w) s (contains_first best []);
          first = λ z c. elim (contains_cases best [] z c) [
            | inl t ↦ ap (λ (w : A). is_before default (label w) (label x)) (sym t ∙ s) ∙ order.strict default (label x)
            | inr n ↦ absurd (contains_nothing z n)
          ];
        }
    first_from best (y ∷ ys) x e =
        let b : Bool = is_before default (label y) (label best) in
        first_by best y ys x b refl (first_from (cond b y best) ys x (sym (chosen best y ys b) ∙ e))

    pub least_is_first : (xs : List A) (x : A) → least label default xs ≡ Some x → IsFirst xs x
    least_is_first [] x e = absurd (cc e)
    least_is_first (y ∷ ys) x e = first_from y ys x e

    -- there is a first unless the list is empty
    still_one : (best : A) (xs : List A) → fold (earlier label default) (Some best) xs ≡ None → ⊥
    still_one best [] e = cc e
    still_one best (y ∷ ys) e = let b : Bool = is_before default (label y) (label best) in still_one (cond b y best) ys (sym (chosen best y ys b) ∙ e)

    pub none_is_first : (xs : List A) → least label default xs ≡ None → (x : A) → Contains xs x → ⊥
    none_is_first [] e x c = contains_nothing x c
    none_is_first (y ∷ ys) e x c = still_one y ys e
