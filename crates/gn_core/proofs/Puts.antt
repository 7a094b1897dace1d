-- What a map of keys holds after a put.
use Rattle.std.proofs.Common.{◌≡◌, Option, Some, None, refl, ◌∙◌, ap, subst, ◌⊎◌, inl, inr, Bool, true, false, cond}
use Rattle.std.specs.Str.{bytes_eq}
use Rattle.std.proofs.lemmas.Slice.Eq.{bytes_eq-Decides}
use Rattle.std.proofs.lemmas.Bool.{and_parts}
use Rattle.gn_labels.specs.declared.label.Label.{Label}
use Rattle.gn_closure.specs.Reach.{Unit_key, Is_reached, Is_generated}
use Rattle.gn_closure.specs.Ground.{Holding}
use Rattle.gn_closure.proofs.SameStep.{step_tested}
use Rattle.gn_core.specs.Keys.{Layer, early, usual, Key, Read, Import, Unit_of, Resolve, same_layer, same_key, put}

layer_is : (l m : Layer) → same_layer l m ≡ true → l ≡ m
layer_is (early t) (early u) h = ap early ((bytes_eq-Decides t u).0 h)
layer_is (early t) (usual u) h = cc
layer_is (usual t) (early u) h = cc
layer_is (usual t) (usual u) h = ap usual ((bytes_eq-Decides t u).0 h)

unit_same : (k q : Unit_key) → Holding (Is_reached k) ≡ Holding (Is_reached q) → k ≡ q
unit_same k q e = cc

label_same : (l m : Label) → Holding (Is_generated l) ≡ Holding (Is_generated m) → l ≡ m
label_same l m e = cc

pub same_key_is : (k q : Key) → same_key k q ≡ true → k ≡ q
same_key_is (Read p) (Read q) h = ap Read ((bytes_eq-Decides p q).0 h)
same_key_is (Import l p) (Import m q) h =
    let w = and_parts (same_layer l m) (bytes_eq p q) h in
    ap (λ z. Import z p) (layer_is l m w.0) ∙ ap (Import m) ((bytes_eq-Decides p q).0 w.1)
same_key_is (Unit_of k) (Unit_of q) h = ap Unit_of (unit_same k q ((step_tested (Holding (Is_reached k)) (Holding (Is_reached q))).0 h))
same_key_is (Resolve l) (Resolve m) h = ap Resolve (label_same l m ((step_tested (Holding (Is_generated l)) (Holding (Is_generated m))).0 h))
same_key_is (Read p) (Import m q) h = cc
same_key_is (Read p) (Unit_of q) h = cc
same_key_is (Read p) (Resolve q) h = cc
same_key_is (Import l p) (Read q) h = cc
same_key_is (Import l p) (Unit_of q) h = cc
same_key_is (Import l p) (Resolve q) h = cc
same_key_is (Unit_of k) (Read q) h = cc
same_key_is (Unit_of k) (Import m q) h = cc
same_key_is (Unit_of k) (Resolve q) h = cc
same_key_is (Resolve l) (Read q) h = cc
same_key_is (Resolve l) (Import m q) h = cc
same_key_is (Resolve l) (Unit_of q) h = cc

layer_own : (l : Layer) → same_layer l l ≡ true
layer_own (early t) = (bytes_eq-Decides t t).1 refl
layer_own (usual t) = (bytes_eq-Decides t t).1 refl

pub key_own : (k : Key) → same_key k k ≡ true
key_own (Read p) = (bytes_eq-Decides p p).1 refl
key_own (Import l p) = rw (layer_own l) ((bytes_eq-Decides p p).1 refl)
key_own (Unit_of k) = (step_tested (Holding (Is_reached k)) (Holding (Is_reached k))).1 refl
key_own (Resolve l) = (step_tested (Holding (Is_generated l)) (Holding (Is_generated l))).1 refl

pub put_some : {A : Type 0} (m : Key → Option A) (k : Key) (x : A) (q : Key) (y : A) → put m k (Some x) q ≡ Some y → ((k ≡ q) × (x ≡ y)) ⊎ (m q ≡ Some y)
put_some {A} m k x q y h = go (same_key k q) refl h
  where
    go : (b : Bool) → same_key k q ≡ b → cond b (Some x) (m q) ≡ Some y → ((k ≡ q) × (x ≡ y)) ⊎ (m q ≡ Some y)
    go true e h = inl (same_key_is k q e, cc)
    go false e h = inr h

pub put_none : {A : Type 0} (m : Key → Option A) (k q : Key) (y : A) → put m k None q ≡ Some y → m q ≡ Some y
put_none {A} m k q y h = go (same_key k q) h
  where
    go : (b : Bool) → cond b None (m q) ≡ Some y → m q ≡ Some y
    go true h = cc
    go false h = h

-- a map that has something at a key still has after a put of something
pub put_has : {A : Type 0} (m : Key → Option A) (k : Key) (x : A) (q : Key) (y : A) → m q ≡ Some y → (z : A) × (put m k (Some x) q ≡ Some z)
put_has {A} m k x q y h = go (same_key k q)
  where
    go : (b : Bool) → (z : A) × (cond b (Some x) (m q) ≡ Some z)
    go true = (x, refl)
    go false = (y, h)

pub put_grows : {A : Type 0} (m : Key → Option A) (k : Key) (x : A) → m k ≡ None → (q : Key) (y : A) → m q ≡ Some y → put m k (Some x) q ≡ Some y
put_grows {A} m k x lack q y h = go (same_key k q) refl
  where
    go : (b : Bool) → same_key k q ≡ b → cond b (Some x) (m q) ≡ Some y
    go true e = let at : m q ≡ None = subst (λ z. m z ≡ None) (same_key_is k q e) lack in cc
    go false e = h

pub put_lacks : {A : Type 0} (m : Key → Option A) (k : Key) (x : A) (q : Key) → put m k (Some x) q ≡ None → m q ≡ None
put_lacks {A} m k x q h = go (same_key k q) h
  where
    go : (b : Bool) → cond b (Some x) (m q) ≡ None → m q ≡ None
    go true h = cc
    go false h = h

pub put_here_not : {A : Type 0} (m : Key → Option A) (k q : Key) (y : A) → put m k None q ≡ Some y → k ≡ q → ⊥
put_here_not {A} m k q y h e = go (same_key k q) refl h
  where
    go : (b : Bool) → same_key k q ≡ b → cond b None (m q) ≡ Some y → ⊥
    go true f h = cc
    go false f h = let t : same_key k q ≡ true = subst (λ z. same_key k z ≡ true) e (key_own k) in cc

pub put_other : {A : Type 0} (m : Key → Option A) (k q : Key) (y : A) → m q ≡ Some y → (k ≡ q → ⊥) → put m k None q ≡ Some y
put_other {A} m k q y h n = go (same_key k q) refl
  where
    go : (b : Bool) → same_key k q ≡ b → cond b None (m q) ≡ Some y
    go true e = absurd (n (same_key_is k q e))
    go false e = h

pub put_own : {A : Type 0} (m : Key → Option A) (k : Key) (x : A) → put m k (Some x) k ≡ Some x
put_own m k x = rw (key_own k) refl
