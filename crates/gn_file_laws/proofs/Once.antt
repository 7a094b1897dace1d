-- Texts that each stand once in a list.
use Rattle.std.proofs.Common.{◌≡◌, ◌⊎◌, inl, inr, ℕ, List, [], ◌∷◌, ◌++◌, Bool, true, false, cond, ◌||◌, if◌then◌else◌, refl, sym, ap, ◌∙◌, subst, append_assoc, append-nil, true≢false}
use Rattle.std.specs.Prelude.{⊤}
use Rattle.std.specs.List.{list_any, flat_map, IsDistinct, AllByRecursion}
use Rattle.std.specs.Str.{bytes_eq}
use Rattle.std.proofs.lemmas.Bool.{false≢true}
use Rattle.std.proofs.lemmas.List.Folds.{list_any-append}
use Rattle.std.proofs.lemmas.Map.Keys.{IsDistinct-head, IsDistinct-tail}
use Rattle.std.proofs.lemmas.Slice.Eq.{bytes_eq-Decides}
use Rattle.gn_toolchains.specs.Frames.{has_text, with_text}
use Rattle.gn_build_faults.specs.Outputs.{with_each, made_twice}

-- Lists of texts

-- two lists have no text in common
abbrev pub AreApart : (xs ys : List (List ℕ)) → Type 0
AreApart xs ys = (q : List ℕ) → has_text xs q ≡ true → has_text ys q ≡ true → ⊥

-- no text stands twice
abbrev pub IsOnce : List (List ℕ) → Type 0
IsOnce [] = ⊤
IsOnce (p ∷ ps) = (has_text ps p ≡ false) × IsOnce ps

pub same_text : (a b : List ℕ) → bytes_eq a b ≡ true → a ≡ b
same_text a b h = (bytes_eq-Decides a b).0 h

pub own_text : (a : List ℕ) → bytes_eq a a ≡ true
own_text a = (bytes_eq-Decides a a).1 refl

-- what isn't so is false
pub denied : (b : Bool) → (b ≡ true → ⊥) → b ≡ false
denied true h = absurd (h refl)
denied false h = refl

pub one_of : (a b : Bool) → (a || b) ≡ true → (a ≡ true) ⊎ (b ≡ true)
one_of true b h = inl refl
one_of false b h = inr h

pub right_or : (a : Bool) → (a || true) ≡ true
right_or true = refl
right_or false = refl

pub in_first : (xs ys : List (List ℕ)) (q : List ℕ) → has_text xs q ≡ true → has_text (xs ++ ys) q ≡ true
in_first xs ys q h = list_any-append (bytes_eq q) xs ys ∙ ap (λ b. b || has_text ys q) h

pub in_second : (xs ys : List (List ℕ)) (q : List ℕ) → has_text ys q ≡ true → has_text (xs ++ ys) q ≡ true
in_second xs ys q h = list_any-append (bytes_eq q) xs ys ∙ ap (λ b. has_text xs q || b) h ∙ right_or (has_text xs q)

pub in_one : (xs ys : List (List ℕ)) (q : List ℕ) → has_text (xs ++ ys) q ≡ true → (has_text xs q ≡ true) ⊎ (has_text ys q ≡ true)
in_one xs ys q h = one_of (has_text xs q) (has_text ys q) (sym (list_any-append (bytes_eq q) xs ys) ∙ h)

pub in_neither : (xs ys : List (List ℕ)) (q : List ℕ) → has_text xs q ≡ false → has_text ys q ≡ false → has_text (xs ++ ys) q ≡ false
in_neither xs ys q a b = list_any-append (bytes_eq q) xs ys ∙ ap (λ x. x || has_text ys q) a ∙ b

pub once_both : (xs ys : List (List ℕ)) → IsOnce xs → IsOnce ys → AreApart xs ys → IsOnce (xs ++ ys)
once_both [] ys a b apart = b
once_both (x ∷ xs) ys a b apart = (
  in_neither xs ys x a.0 (denied (has_text ys x) (apart x (ap (λ b. b || has_text xs x) (own_text x)))),
  once_both xs ys a.1 b (λ q m n. apart q (ap (λ b. bytes_eq q x || b) m ∙ right_or (bytes_eq q x)) n),
)

pub once_first : (xs ys : List (List ℕ)) → IsOnce (xs ++ ys) → IsOnce xs
once_first [] ys h = tt
once_first (x ∷ xs) ys h = (denied (has_text xs x) (λ m. true≢false (sym (in_first xs ys x m) ∙ h.0)), once_first xs ys h.1)

pub once_second : (xs ys : List (List ℕ)) → IsOnce (xs ++ ys) → IsOnce ys
once_second [] ys h = h
once_second (x ∷ xs) ys h = once_second xs ys h.1

pub once_apart : (xs ys : List (List ℕ)) → IsOnce (xs ++ ys) → AreApart xs ys
once_apart [] ys h q m n = false≢true m
once_apart (x ∷ xs) ys h q m n = elim (one_of (bytes_eq q x) (has_text xs q) m) [
  | inl e ↦ true≢false (sym (in_second xs ys x (subst (λ z. has_text ys z ≡ true) (same_text q x e) n)) ∙ h.0)
  | inr i ↦ once_apart xs ys h.1 q i n
]

none_is : (ps : List (List ℕ)) (p : List ℕ) → has_text ps p ≡ false → AllByRecursion (λ q. bytes_eq p q ≡ false) ps
none_is [] p h = tt
none_is (q ∷ ps) p h = by (bytes_eq p q) h (none_is ps p)
  where
    by : (b : Bool) → (b || has_text ps p) ≡ false → (has_text ps p ≡ false → AllByRecursion (λ q. bytes_eq p q ≡ false) ps)
        → (b ≡ false) × AllByRecursion (λ q. bytes_eq p q ≡ false) ps
    by true i others = absurd (true≢false i)
    by false i others = (refl, others i)

-- in std's words
pub once_distinct : (ps : List (List ℕ)) → IsOnce ps → IsDistinct bytes_eq ps
unfolding IsDistinct
once_distinct [] h = tt
once_distinct (p ∷ ps) h = (none_is ps p h.0, once_distinct ps h.1)

-- Outputs of which none is made twice

pub record NotTwice (before ps : List (List ℕ)) : Type 0 where
  pub apart : AreApart before ps
  pub once : IsOnce ps
  pub all : with_each before ps ≡ before ++ ps

pub not_twice : (before ps : List (List ℕ)) → made_twice before ps ≡ [] → NotTwice before ps
not_twice before [] h = record { apart = λ q m n. false≢true n; once = tt; all = sym (append-nil before) }
not_twice before (p ∷ ps) h = by (has_text before p) refl h (λ i. not_twice (with_text before p) ps i)
  where
    by : (b : Bool) → has_text before p ≡ b → cond b (p ∷ made_twice (with_text before p) ps) (made_twice (with_text before p) ps) ≡ []
        → (made_twice (with_text before p) ps ≡ [] → NotTwice (with_text before p) ps) → NotTwice before (p ∷ ps)
    by true e i onward = absurd (cc i)
    by false e i onward =
        let behind = onward i in
        let w : with_text before p ≡ before ++ p ∷ [] = ap (λ b. if b then before else before ++ p ∷ []) e in
        let apart : AreApart (before ++ p ∷ []) ps = subst (λ z. AreApart z ps) w behind.apart in
        record {
          apart = λ q m n. elim (one_of (bytes_eq q p) (has_text ps q) n) [
            | inl s ↦ true≢false (sym (subst (λ z. has_text before z ≡ true) (same_text q p s) m) ∙ e)
            | inr j ↦ apart q (in_first before (p ∷ []) q m) j
          ];
          once = (denied (has_text ps p) (apart p (in_second before (p ∷ []) p (ap (λ b. b || false) (own_text p)))), behind.once);
          all = behind.all ∙ ap (λ z. z ++ ps) w ∙ append_assoc before (p ∷ []) ps;
        }

-- The outputs of several targets

module _ {T : Type 0} (same : T → T → Bool) (one : (t u : T) → same t u ≡ true → t ≡ u) (own : (t : T) → same t t ≡ true) (outs : T → List (List ℕ)) where
  -- whether a list has a target
  abbrev there : List T → T → Bool
  there ts t = list_any (same t) ts

  among : (ts : List T) (t : T) (q : List ℕ) → there ts t ≡ true → has_text (outs t) q ≡ true → has_text (flat_map outs ts) q ≡ true
  among [] t q h m = absurd (false≢true h)
  among (x ∷ ts) t q h m = elim (one_of (same t x) (there ts t) h) [
    | inl e ↦ in_first (outs x) (flat_map outs ts) q (subst (λ z. has_text (outs z) q ≡ true) (one t x e) m)
    | inr i ↦ in_second (outs x) (flat_map outs ts) q (among ts t q i m)
  ]

  maker : (ts : List T) (q : List ℕ) → has_text (flat_map outs ts) q ≡ true → (t : T) × ((there ts t ≡ true) × (has_text (outs t) q ≡ true))
  maker [] q h = absurd (false≢true h)
  maker (x ∷ ts) q h = elim (in_one (outs x) (flat_map outs ts) q h) [
    | inl m ↦ (x, (ap (λ b. b || there ts x) (own x), m))
    | inr i ↦ let rest = maker ts q i in (rest.0, (ap (λ b. same rest.0 x || b) rest.1.0 ∙ right_or (same rest.0 x), rest.1.1))
  ]

  -- where all outputs of a list stand once, those of a target do
  pub of_one : (ts : List T) → IsOnce (flat_map outs ts) → (t : T) → there ts t ≡ true → IsOnce (outs t)
  of_one [] h t i = absurd (false≢true i)
  of_one (x ∷ ts) h t i = elim (one_of (same t x) (there ts t) i) [
    | inl e ↦ subst (λ z. IsOnce (outs z)) (sym (one t x e)) (once_first (outs x) (flat_map outs ts) h)
    | inr j ↦ of_one ts (once_second (outs x) (flat_map outs ts) h) t j
  ]

  -- and two of its targets that make one output are one target
  pub of_two : (ts : List T) → IsOnce (flat_map outs ts) → (t u : T) → there ts t ≡ true → there ts u ≡ true
      → (q : List ℕ) → has_text (outs t) q ≡ true → has_text (outs u) q ≡ true → t ≡ u
  of_two [] h t u i j q m n = absurd (false≢true i)
  of_two (x ∷ ts) h t u i j q m n =
      let apart = once_apart (outs x) (flat_map outs ts) h q in
      elim (one_of (same t x) (there ts t) i) [
        | inl e ↦ elim (one_of (same u x) (there ts u) j) [
          | inl f ↦ one t x e ∙ sym (one u x f)
          | inr l ↦ absurd (apart (subst (λ z. has_text (outs z) q ≡ true) (one t x e) m) (among ts u q l n))
        ]
        | inr k ↦ elim (one_of (same u x) (there ts u) j) [
          | inl f ↦ absurd (apart (subst (λ z. has_text (outs z) q ≡ true) (one u x f) n) (among ts t q k m))
          | inr l ↦ of_two ts (once_second (outs x) (flat_map outs ts) h) t u k l q m n
        ]
      ]

  not_there : (ts : List T) (t : T) → AllByRecursion (λ u. same t u ≡ false) ts → there ts t ≡ true → ⊥
  not_there [] t h i = false≢true i
  not_there (u ∷ ts) t h i = elim (one_of (same t u) (there ts t) i) [
    | inl e ↦ true≢false (sym e ∙ h.0)
    | inr j ↦ not_there ts t h.1 j
  ]

  -- so those of targets of the list, each of which is named once, stand once
  pub of_some : (us : List T) → IsOnce (flat_map outs us) → (ts : List T) → IsDistinct same ts → ((t : T) → there ts t ≡ true → there us t ≡ true) → IsOnce (flat_map outs ts)
  of_some us h [] d i = tt
  of_some us h (t ∷ ts) d i =
      let here : there us t ≡ true = i t (ap (λ b. b || there ts t) (own t)) in
      let others = λ (u : T) (j : there ts u ≡ true). i u (ap (λ b. same u t || b) j ∙ right_or (same u t)) in
      once_both (outs t) (flat_map outs ts) (of_one us h t here) (of_some us h ts (IsDistinct-tail same t ts d) others)
      (λ q m n.
      let other = maker ts q n in
      let e : t ≡ other.0 = of_two us h t other.0 here (others other.0 other.1.0) q m other.1.1 in
      not_there ts t (IsDistinct-head same t ts d) (subst (λ z. there ts z ≡ true) (sym e) other.1.0))
