-- The name of an execution tells its key.
use Rattle.std.proofs.Common.{◌≡◌, ℕ, zero, suc, ◌==◌, false, if◌then◌else◌, List, [], ◌∷◌, ◌++◌, length, replicate, Some, refl, sym, ◌∙◌, ap, arith, true≢false}
use Rattle.std.proofs.lemmas.Option.{same_Some}
use Rattle.gn_items.specs.declared.key.Key.{Key}
use Rattle.gn_items.specs.declared.key.Key.TheVariants.{Read, Import, Setup, Load, Resolve}
use Rattle.gn_items.specs.declared.key.When.TheVariants.{Early, Usual}
use Rattle.gn_items.specs.Names.{name_spelled, setup_name, load_name, import_name, execution_name}

head_same : (x y : ℕ) (s t : List ℕ) → x ∷ s ≡ y ∷ t → x ≡ y
head_same x y s t h = cc

tail_same : (x y : ℕ) (s t : List ℕ) → x ∷ s ≡ y ∷ t → s ≡ t
tail_same x y s t h = cc

no_dot : (a : ℕ) → (a == 46) ≡ false → a ≡ 46 → ⊥
no_dot a is h = true≢false (sym (ap (λ n. n == 46) h) ∙ is)

dots_next : (n : ℕ) (s : List ℕ) → replicate (suc n) 46 ++ s ≡ 46 ∷ (replicate n 46 ++ s)
dots_next n s = refl

-- dots are counted up to the first byte that is none
counted : (n m a b : ℕ) (s t : List ℕ) → (a == 46) ≡ false → (b == 46) ≡ false → replicate n 46 ++ a ∷ s ≡ replicate m 46 ++ b ∷ t → (n ≡ m) × (a ≡ b) × (s ≡ t)
counted zero zero a b s t p q e = (refl, head_same a b s t e, tail_same a b s t e)
counted zero (suc m) a b s t p q e = absurd (no_dot a p (head_same a 46 s (replicate m 46 ++ b ∷ t) (e ∙ dots_next m (b ∷ t))))
counted (suc n) zero a b s t p q e = absurd (no_dot b q (head_same b 46 t (replicate n 46 ++ a ∷ s) (sym e ∙ dots_next n (a ∷ s))))
counted (suc n) (suc m) a b s t p q e =
    let more = counted n m a b s t p q (tail_same 46 46 (replicate n 46 ++ a ∷ s) (replicate m 46 ++ b ∷ t) (sym (dots_next n (a ∷ s)) ∙ e ∙ dots_next m (b ∷ t))) in
    (ap suc more.0, more.1, more.2)

-- texts of one length in front of others
parted : (t u p q : List ℕ) → length t ≡ length u → t ++ p ≡ u ++ q → (t ≡ u) × (p ≡ q)
parted [] [] p q l e = (refl, e)
parted [] (y ∷ u) p q l e = absurd (omega (arith, l))
parted (x ∷ t) [] p q l e = absurd (omega (arith, l))
parted (x ∷ t) (y ∷ u) p q l e =
    let more = parted t u p q (omega (arith, l)) (tail_same x y (t ++ p) (u ++ q) e) in
    ((λ i. head_same x y (t ++ p) (u ++ q) e i ∷ more.0 i), more.1)

same_parts : (a b : ℕ) (t u p q : List ℕ) → (a == 46) ≡ false → (b == 46) ≡ false → name_spelled a t p ≡ name_spelled b u q → (a ≡ b) × (t ≡ u) × (p ≡ q)
same_parts a b t u p q x y e =
    let front = counted (length t) (length u) a b (t ++ p) (u ++ q) x y e in
    let parts = parted t u p q front.0 front.2 in
    (front.1, parts.0, parts.1)

-- the key of these parts
abbrev key_of : ℕ → List ℕ → List ℕ → Key
key_of letter toolchain path =
    if letter == 83 then Setup toolchain else (if letter == 76 then Load path toolchain else Import (if letter == 69 then Early else Usual) toolchain path)

-- a name is spelled of parts, which have one key
record Parts (key : Key) (name : List ℕ) : Type 0 where
  pub letter : ℕ
  pub toolchain : List ℕ
  pub path : List ℕ
  pub is_letter : (letter == 46) ≡ false
  pub spelling : name_spelled letter toolchain path ≡ name
  pub key_is : key_of letter toolchain path ≡ key

parts_of : (key : Key) (name : List ℕ) → execution_name key ≡ Some name → Parts key name
unfolding setup_name load_name import_name
parts_of (Read path) name h = absurd (cc h)
parts_of (Import Early toolchain path) name h = record { letter = 69; toolchain = toolchain; path = path; is_letter = refl; spelling = same_Some _ _ h; key_is = refl }
parts_of (Import Usual toolchain path) name h = record { letter = 85; toolchain = toolchain; path = path; is_letter = refl; spelling = same_Some _ _ h; key_is = refl }
parts_of (Setup toolchain) name h = record { letter = 83; toolchain = toolchain; path = []; is_letter = refl; spelling = same_Some _ _ h; key_is = refl }
parts_of (Load directory toolchain) name h = record { letter = 76; toolchain = toolchain; path = directory; is_letter = refl; spelling = same_Some _ _ h; key_is = refl }
parts_of (Resolve label) name h = absurd (cc h)

pub names_differ : (a b : Key) (name : List ℕ) → execution_name a ≡ Some name → execution_name b ≡ Some name → a ≡ b
names_differ a b name h k =
    let s = parts_of a name h in
    let t = parts_of b name k in
    let same = same_parts s.letter t.letter s.toolchain t.toolchain s.path t.path s.is_letter t.is_letter (s.spelling ∙ sym t.spelling) in
    sym s.key_is ∙ (λ i. key_of (same.0 i) (same.1 i) (same.2 i)) ∙ t.key_is
