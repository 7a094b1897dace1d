-- Walked targets and inherited libraries.
use Rattle.std.proofs.Common.{◌≡◌, ℕ, zero, suc, ◌<◌, List, [], ◌∷◌, Option, Some, Bool, true, false, ◌||◌, refl, sym, ◌∙◌, ap, take, filter, get_or, length, slice_get, ◌⊎◌, inl, inr, arith, true≢false}
use Rattle.std.specs.List.{IsDistinct}
use Rattle.std.proofs.lemmas.Map.Keys.{IsDistinct-from_apart}
use Rattle.gn_labels.specs.declared.label.Label.{Label}
use Rattle.gn_labels.specs.Labels.{is_before}
use Rattle.gn_rows.specs.declared.kinds.ItemKind.{ItemKind}
use Rattle.gn_dependencies.specs.Lists.{same_label, has}
use Rattle.gn_dependencies.specs.Shape.{Shape, near}
use Rattle.gn_dependencies.specs.Order.{IsOrderOf}
use Rattle.gn_dependencies.specs.Walks.{first, onward}
use Rattle.gn_dependencies.specs.Inherited.{links, opens, walks, is_library, Walked, IsOrder, AreLibraries, InheritedBy, IsInherited}
use Rattle.gn_dependencies.proofs.Same.{own, same}
use Rattle.gn_dependencies.proofs.Local.{Agree, near-same, near_on}
use Rattle.gn_dependencies.proofs.OrderLaws.{order_same, order_unique, inside, has_at}

-- ---- each once
no_twice : (default : List ℕ) (g : Shape) (W : Label → Type 0) (xs : List Label) → IsOrderOf same_label (near g) (is_before default) W xs
    → (i j : ℕ) (p q : Label) → i < j → slice_get xs i ≡ Some p → slice_get xs j ≡ Some q → same_label p q ≡ false
no_twice default g W xs o i j p q l e f = go (same_label p q) refl
  where
    before_place : (xs : List Label) (i j : ℕ) (x : Label) → i < j → slice_get xs i ≡ Some x → slice_get (take j xs) i ≡ Some x
    before_place [] i j x l e = absurd (cc e)
    before_place (y ∷ ys) i zero x l e = absurd (omega (arith, l))
    before_place (y ∷ ys) zero (suc j) x l e = e
    before_place (y ∷ ys) (suc i) (suc j) x l e = before_place ys i j x (omega (arith, l)) e

    go : (b : Bool) → same_label p q ≡ b → same_label p q ≡ false
    go false h = h
    go true h =
        let s : p ≡ q = same p q h in
        let there : has (take j xs) q ≡ true = has_at same_label own same (take j xs) i q (before_place xs i j q l (e ∙ ap Some s)) in
        absurd (true≢false (sym there ∙ (o.places j q f).ready.unplaced))

pub order_once : (default : List ℕ) (g : Shape) (W : Label → Type 0) (xs : List Label) → IsOrderOf same_label (near g) (is_before default) W xs → IsDistinct same_label xs
order_once default g W xs o = IsDistinct-from_apart same_label xs (λ i j d l m. no_twice default g W xs o i j (get_or xs i d) (get_or xs j d) l (at xs i d (omega (arith, l, m))) (at xs j d m))
  where
    at : (ys : List Label) (k : ℕ) (d : Label) → k < length ys → slice_get ys k ≡ Some (get_or ys k d)
    at [] k d l = absurd (omega (arith, l))
    at (y ∷ ys) zero d l = refl
    at (y ∷ ys) (suc k) d l = at ys k d (omega (arith, l))

-- ---- the same libraries
filter-same : (f f' : Label → Bool) (xs : List Label) → ((q : Label) → has xs q ≡ true → f q ≡ f' q) → filter f xs ≡ filter f' xs
filter-same f f' [] h = refl
filter-same f f' (x ∷ xs) h =
    let a : f x ≡ f' x = h x (ap (λ b. b || has xs x) (own x)) in
    let b = filter-same f f' xs (λ q i. h q (ap (λ b. same_label q x || b) i ∙ or_true (same_label q x))) in
    cc (a, b)
  where
    or_true : (b : Bool) → (b || true) ≡ true
    or_true true = refl
    or_true false = refl

module _ (g h : Shape) (R : Label → Type 0) (a : Agree g h R) (t : Label) (r : R t) where
  kinds : (f : Option ItemKind → Bool) (q : Label) → R q → f (g.kind q) ≡ f (h.kind q)
  kinds f q k = ap f (a.kind q k)

  walked_to : (q : Label) → Walked g t q → R q × Walked h t q
  walked_to q (first d e w) =
      let k = near_on g h R a t d r e in
      (k, first d (ap (λ (z : List Label). has z d) (sym (near-same g h R a t r)) ∙ e) (sym (kinds walks d k) ∙ w))
  walked_to q (onward c d wc o e w) =
      let s = walked_to c wc in
      let k = near_on g h R a c d s.0 e in
      (k, onward c d s.1 (sym (kinds opens c s.0) ∙ o) (ap (λ (z : List Label). has z d) (sym (near-same g h R a c s.0)) ∙ e) (sym (kinds walks d k) ∙ w))

  walked_back : (q : Label) → Walked h t q → R q × Walked g t q
  walked_back q (first d e w) =
      let f : has (near g t) d ≡ true = ap (λ (z : List Label). has z d) (near-same g h R a t r) ∙ e in
      let k = near_on g h R a t d r f in
      (k, first d f (kinds walks d k ∙ w))
  walked_back q (onward c d wc o e w) =
      let s = walked_back c wc in
      let f : has (near g c) d ≡ true = ap (λ (z : List Label). has z d) (near-same g h R a c s.0) ∙ e in
      let k = near_on g h R a c d s.0 f in
      (k, onward c d s.1 (kinds opens c s.0 ∙ o) f (kinds walks d k ∙ w))

  pub order_local : (default : List ℕ) (xs : List Label) → IsOrder default g t xs → IsOrder default h t xs
  order_local default xs o = order_same same_label own same (near g) (near h) (is_before default) (Walked g t) (Walked h t) (λ q w. (walked_to q w).1) (λ q w. (walked_back q w).1)
      (λ q w. near-same g h R a q (walked_to q w).0) xs o

  libraries_local : (default : List ℕ) (ls : List Label) → AreLibraries default g t ls → AreLibraries default h t ls
  libraries_local default ls (xs, o, e) = (
    xs,
    order_local default xs o,
    e ∙ filter-same (λ q. is_library (g.kind q)) (λ q. is_library (h.kind q)) xs
        (λ q i. kinds is_library q (walked_to q (inside same_label own same (near g) (is_before default) (Walked g t) xs o q i)).0),
  )

  by_kind : (b c : Bool) → b ≡ c → (default : List ℕ) (ls : List Label) → InheritedBy b default g t ls → InheritedBy c default h t ls
  by_kind true true e default ls i = libraries_local default ls i
  by_kind true false e default ls i = absurd (true≢false e)
  by_kind false true e default ls i = absurd (true≢false (sym e))
  by_kind false false e default ls i = i

  pub inherited_local : (default : List ℕ) (ls : List Label) → IsInherited default g t ls → IsInherited default h t ls
  inherited_local default ls i = by_kind (links (g.kind t)) (links (h.kind t)) (kinds links t r) default ls i

-- ---- one list
one_inherited_by : (b : Bool) (default : List ℕ) (g : Shape) (t : Label) (xs ys : List Label)
    → ((zs ws : List Label) → IsOrder default g t zs → IsOrder default g t ws → zs ≡ ws)
    → InheritedBy b default g t xs → InheritedBy b default g t ys → xs ≡ ys
one_inherited_by true default g t xs ys one (zs, o, e) (ws, p, f) = e ∙ ap (filter (λ q. is_library (g.kind q))) (one zs ws o p) ∙ sym f
one_inherited_by false default g t xs ys one e f = e ∙ sym f

-- label order has no ties
abbrev pub NoTies : Type 0
NoTies = (default : List ℕ) (a b : Label) → (is_before default a b ≡ true) ⊎ ((a ≡ b) ⊎ (is_before default b a ≡ true))

pub total : NoTies → (default : List ℕ) (a b : Label) → is_before default a b ≡ false → is_before default b a ≡ false → a ≡ b
total ties default a b e f = elim (ties default a b) [
  | inl h ↦ absurd (true≢false (sym h ∙ e))
  | inr r ↦ elim r [
    | inl s ↦ s
    | inr h ↦ absurd (true≢false (sym h ∙ f))
  ]
]

pub one_order : NoTies → (default : List ℕ) (g : Shape) (t : Label) (xs ys : List Label) → IsOrder default g t xs → IsOrder default g t ys → xs ≡ ys
one_order ties default g t xs ys a b = order_unique same_label own same (near g) (is_before default) (total ties default) (Walked g t) xs ys a b

pub one_inherited : NoTies → (default : List ℕ) (g : Shape) (t : Label) (xs ys : List Label) → IsInherited default g t xs → IsInherited default g t ys → xs ≡ ys
one_inherited ties default g t xs ys a b = one_inherited_by (links (g.kind t)) default g t xs ys (one_order ties default g t) a b
