-- Lists that begin one another, and sums over a list in which one place changes.
use Rattle.std.proofs.Common.{◌≡◌, ◌≢◌, ◌⊎◌, ℕ, zero, suc, ◌+◌, ◌<◌, ◌≤◌, List, [], ◌∷◌, ◌++◌, length, get_or, set, take, drop, sym, refl, ap, ◌∙◌, subst, inl, inr, ⊎_elim, arith, append_assoc, length-append}
use Rattle.std.specs.List.{All, SomeIndex, HoldsAt, sum_by, remove}
use Rattle.std.proofs.lemmas.List.Elements.{All-append, All-nil, All-cons, All-head, All-tail, All-take, All-drop}
use Rattle.std.proofs.lemmas.List.{append-nil}
use Rattle.std.proofs.lemmas.List.Sums.{sum_by-cons}
use mathlib.Core.Option.{some, some-injective, some-ne-none}
use lib.ListN.{get_elem?}
use Rattle.gn_turn.specs.History.{SeenPrefix, AddsOwn}
use Rattle.gn_turn.specs.Tokens.{Each, map_reversed}
use Rattle.std.proofs.Math.ListN.{get_or-append}
use Rattle.std.proofs.Math.Seq.{get_or-append_seam}

module _ {E : Type 0} (number : E → ℕ) where
  pub saw_whole : (j : ℕ) (h : List E) → SeenPrefix number j h h
  saw_whole j h = record { later = []; is = append-nil h; others = All-nil (λ e. number e ≢ j) }

  pub saw_none : (j : ℕ) (h : List E) → All (λ e. number e ≢ j) h → SeenPrefix number j [] h
  saw_none j h others = record { later = h; is = refl; others = others }

  pub saw_more : (j i : ℕ) (seen h h' : List E) → j ≢ i → AddsOwn number i h h' → SeenPrefix number j seen h → SeenPrefix number j seen h'
  saw_more j i seen h h' other a s = record {
    later = s.later ++ a.added;
    is = sym (append_assoc seen s.later a.added) ∙ (ap (λ (x : List E). x ++ a.added) s.is ∙ a.is);
    others = All-append (λ e. number e ≢ j) s.later a.added s.others (λ k d l z. other (sym z ∙ a.own k d l));
  }

module _ {A : Type 0} where
  pub inside : (l : List A) (i : ℕ) (a : A) → get_elem? l i ≡ some a → i < length l
  inside [] i a e = absurd (some-ne-none a (sym e))
  inside (x ∷ xs) zero a e = omega arith
  inside (x ∷ xs) (suc i) a e = let h = inside xs i a e in omega arith

  pub sum_set : (f : A → ℕ) (l : List A) (i : ℕ) (a b : A) → get_elem? l i ≡ some a → sum_by f (set l i b) + f a ≡ sum_by f l + f b
  sum_set f [] i a b e = absurd (some-ne-none a (sym e))
  sum_set f (x ∷ xs) zero a b e =
      let z : f x ≡ f a = ap f (some-injective x a e) in omega (arith, sum_by-cons f x xs, sum_by-cons f b xs)
  sum_set f (x ∷ xs) (suc i) a b e =
      let z = sum_set f xs i a b e in omega (arith, sum_by-cons f x xs, sum_by-cons f x (set xs i b))

  pub sum_same : (f : A → ℕ) (l : List A) (i : ℕ) (a b : A) → get_elem? l i ≡ some a → f a ≡ f b → sum_by f (set l i b) ≡ sum_by f l
  sum_same f l i a b e same = let z = sum_set f l i a b e in omega arith

  pub at_end : (l : List A) (a b : A) (j : ℕ) → get_elem? (l ++ a ∷ []) j ≡ some b → (get_elem? l j ≡ some b) ⊎ ((j ≡ length l) × (a ≡ b))
  at_end [] a b zero e = inr (refl, some-injective a b e)
  at_end [] a b (suc j) e = absurd (some-ne-none b (sym e))
  at_end (x ∷ xs) a b zero e = inl e
  at_end (x ∷ xs) a b (suc j) e = ⊎_elim (λ t. inl t) (λ t. inr (ap suc t.0, t.1)) (at_end xs a b j e)

  pub one_view : (l : List A) (i : ℕ) (a b : A) → get_elem? l i ≡ some a → get_elem? l i ≡ some b → a ≡ b
  one_view l i a b e f = some-injective a b (sym e ∙ f)

  pub each_front : (P : ℕ → A → Type 0) (y : A) (l : List A) → P 0 y → Each (λ i x. P (suc i) x) l → Each P (y ∷ l)
  each_front P y l first h zero d near = first
  each_front P y l first h (suc i) d near = h i d (omega arith)

  -- what is at no place below the length is nowhere
  pub nowhere : (f : A → ℕ) (n k : ℕ) (l : List A) → length l ≤ k → ((i : ℕ) (d : A) → i < k → f (get_or l i d) ≢ n)
      → SomeIndex l (HoldsAt (λ x. f x ≡ n) l) → ⊥
  nowhere f n k [] long none at = omega (arith, at.1)
  nowhere f n k (x ∷ xs) long none at = none at.0 x (omega (arith, at.1)) (at.2 x)

  -- what is left after a removal
  pub remove_else : (l : List A) (i m : ℕ) (d : A) → m < length l → m ≢ i
      → (n : ℕ) × (n < length (remove l i)) × (get_or (remove l i) n d ≡ get_or l m d)
  remove_else [] i m d near other = absurd (omega arith)
  remove_else (x ∷ xs) zero zero d near other = absurd (other refl)
  remove_else (x ∷ xs) zero (suc m) d near other = (m, omega arith, refl)
  remove_else (x ∷ xs) (suc i) zero d near other = (0, omega arith, refl)
  remove_else (x ∷ xs) (suc i) (suc m) d near other =
      let r = remove_else xs i m d (omega arith) (λ e. other (ap suc e)) in
      let n = r.1 in (suc r.0, omega arith, r.2)

module _ {X Y : Type 0} (f : X → Y) where
  pub found : (l : List X) (i : ℕ) (d : X) → i < length l
      → (m : ℕ) × (m < length (map_reversed f l)) × (get_or (map_reversed f l) m (f d) ≡ f (get_or l i d))
  found [] i d h = absurd (omega arith)
  found (x ∷ xs) zero d h =
      let ys = map_reversed f xs in (length ys, omega (arith, length-append ys (f x ∷ [])), get_or-append_seam ys (f x) [] (f d))
  found (x ∷ xs) (suc i) d h = let ys = map_reversed f xs in let r = found xs i d (omega arith) in let near = r.1 in
      (r.0, omega (arith, length-append ys (f x ∷ [])), get_or-append ys (f x ∷ []) (f d) r.0 r.1 ∙ r.2)

  pub all_found : (P : Y → Type 0) (l : List X) → All P (map_reversed f l) → All (λ x. P (f x)) l
  all_found P l h i d near = let r = found l i d near in subst P r.2 (h r.0 (f d) r.1)

module _ {A : Type 0} (P : A → Type 0) where
  pub all_init : (xs ys : List A) → All P (xs ++ ys) → All P xs
  all_init xs ys h k d near = subst P (get_or-append xs ys d k near) (h k d (omega (arith, length-append xs ys)))

  pub all_last : (xs : List A) (y : A) → All P (xs ++ y ∷ []) → P y
  all_last xs y h = subst P (get_or-append_seam xs y [] y) (h (length xs) y (omega (arith, length-append xs (y ∷ []))))

  pub all_remove : (xs : List A) (i : ℕ) → All P xs → All P (remove xs i)
  all_remove xs i h = All-append P (take i xs) (drop (suc i) xs) (All-take P i xs h) (All-drop P (suc i) xs h)

  -- all are what was removed and what is left
  pub all_put_back : (xs : List A) (i : ℕ) (x : A) → i < length xs → x ≡ get_or xs i x → P x → All P (remove xs i) → All P xs
  all_put_back [] i x near is p h = absurd (omega arith)
  all_put_back (y ∷ ys) zero x near is p h = All-cons P y ys (subst P is p) h
  all_put_back (y ∷ ys) (suc i) x near is p h =
      All-cons P y ys (All-head P y (remove ys i) h) (all_put_back ys i x (omega arith) is p (All-tail P y (remove ys i) h))
