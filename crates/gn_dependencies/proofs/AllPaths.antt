-- `paths` lists each path of at most so many edges, and no other.
use Rattle.std.proofs.Common.{◌≡◌, ℕ, zero, suc, ◌<◌, ◌≤◌, List, [], ◌∷◌, ◌++◌, length, map, Bool, true, false, ◌||◌, refl, sym, ◌∙◌, ap, subst, ◌⊎◌, inl, inr, arith}
use Rattle.std.specs.List.{flat_map}
use Rattle.gn_labels.specs.declared.label.Label.{Label}
use Rattle.gn_dependencies.specs.Lists.{same_label, has}
use Rattle.gn_dependencies.specs.Shape.{Shape, Path, through, paths, end_from, EndsWithin, all_deps}
use Rattle.gn_dependencies.specs.Cycles.{IsPath, Lists}
use Rattle.gn_dependencies.proofs.Same.{own, same}

lists_left : (ps qs : List Path) (p : Path) → Lists ps p → Lists (ps ++ qs) p
lists_left [] qs p h = absurd h
lists_left (x ∷ ps) qs p (inl e) = inl e
lists_left (x ∷ ps) qs p (inr h) = inr (lists_left ps qs p h)

lists_right : (ps qs : List Path) (p : Path) → Lists qs p → Lists (ps ++ qs) p
lists_right [] qs p h = h
lists_right (x ∷ ps) qs p h = inr (lists_right ps qs p h)

lists_cases : (ps qs : List Path) (p : Path) → Lists (ps ++ qs) p → Lists ps p ⊎ Lists qs p
lists_cases [] qs p h = inr h
lists_cases (x ∷ ps) qs p (inl e) = inl (inl e)
lists_cases (x ∷ ps) qs p (inr h) = elim (lists_cases ps qs p h) [ inl a ↦ inl (inr a) | inr b ↦ inr b ]

lists_map : (d : Label) (ps : List Path) (p : Path) → Lists ps p → Lists (map (λ (p : Path). d ∷ p) ps) (d ∷ p)
lists_map d [] p h = absurd h
lists_map d (x ∷ ps) p (inl e) = inl (ap (λ (z : Path). d ∷ z) e)
lists_map d (x ∷ ps) p (inr h) = inr (lists_map d ps p h)

map_lists : (d : Label) (ps : List Path) (q : Path) → Lists (map (λ (p : Path). d ∷ p) ps) q → (p : Path) × (q ≡ d ∷ p) × Lists ps p
map_lists d [] q h = absurd h
map_lists d (x ∷ ps) q (inl e) = (x, sym e, inl refl)
map_lists d (x ∷ ps) q (inr h) = let r = map_lists d ps q h in (r.0, r.1, inr r.2)

-- a path whose first edge is one of ds
flat_in : (f : Label → List Path) (ds : List Label) (d : Label) (p : Path) → has ds d ≡ true → Lists (f d) p → Lists (flat_map f ds) p
flat_in f [] d p h l = absurd (cc h)
flat_in f (x ∷ ds) d p h l = by (same_label d x) refl (λ i. flat_in f ds d p i l) h
  where
    by : (b : Bool) → same_label d x ≡ b → (has ds d ≡ true → Lists (flat_map f ds) p) → (b || has ds d) ≡ true → Lists (f x ++ flat_map f ds) p
    by true e ih i = lists_left (f x) (flat_map f ds) p (subst (λ (z : Label). Lists (f z) p) (same d x e) l)
    by false e ih i = lists_right (f x) (flat_map f ds) p (ih i)

flat_out : (f : Label → List Path) (ds : List Label) (p : Path) → Lists (flat_map f ds) p → (d : Label) × (has ds d ≡ true) × Lists (f d) p
flat_out f [] p h = absurd h
flat_out f (x ∷ ds) p h = elim (lists_cases (f x) (flat_map f ds) p h) [
  | inl a ↦ (x, ap (λ b. b || has ds x) (own x), a)
  | inr b ↦ let r = flat_out f ds p b in (r.0, ap (λ z. same_label r.0 x || z) r.1 ∙ or_true (same_label r.0 x), r.2)
]
  where
    or_true : (b : Bool) → (b || true) ≡ true
    or_true true = refl
    or_true false = refl

pub each_path : (next : Label → List Label) (n : ℕ) (t : Label) (p : Path) → IsPath next t p → length p ≤ n → Lists (paths next n t) p
each_path next n t [] h l = absurd h
each_path next zero t (d ∷ p) h l = absurd (omega (arith, l))
each_path next (suc n) t (d ∷ []) h l = flat_in (λ d. through d (paths next n d)) (next t) d (d ∷ []) h (inl refl)
each_path next (suc n) t (d ∷ e ∷ p) h l =
    flat_in (λ d. through d (paths next n d)) (next t) d (d ∷ e ∷ p) h.0 (inr (lists_map d (paths next n d) (e ∷ p) (each_path next n d (e ∷ p) h.1 (omega (arith, l)))))

longer : (next : Label → List Label) (t d : Label) (p : Path) → has (next t) d ≡ true → IsPath next d p → IsPath next t (d ∷ p)
longer next t d [] h i = absurd i
longer next t d (e ∷ p) h i = (h, i)

pub only_paths : (next : Label → List Label) (n : ℕ) (t : Label) (p : Path) → Lists (paths next n t) p → IsPath next t p × (length p ≤ n)
only_paths next zero t p h = absurd h
only_paths next (suc n) t p h = at (flat_out (λ d. through d (paths next n d)) (next t) p h) (λ d q. only_paths next n d q)
  where
    at : ((d : Label) × (has (next t) d ≡ true) × Lists (through d (paths next n d)) p) → ((d : Label) (q : Path) → Lists (paths next n d) q → IsPath next d q × (length q ≤ n)) → IsPath next t p × (length p ≤ suc n)
    at (d, h, inl e) ih = (subst (λ (z : Path). IsPath next t z) e h, let l : length p ≡ 1 = ap length (sym e) in omega (arith, l))
    at (d, h, inr m) ih =
        let r = map_lists d (paths next n d) p m in
        let i = ih d r.0 r.2 in
        (subst (λ (z : Path). IsPath next t z) (sym r.1) (longer next t d r.0 h i.0), let l : length p ≡ suc (length r.0) = ap length r.1 in omega (arith, l, i.1))

-- where all paths have fewer than n edges, the list has each path
pub no_longer : (g : Shape) (next : Label → List Label) → ((t d : Label) → has (next t) d ≡ true → has (all_deps g t) d ≡ true) → (n : ℕ) (t : Label) → EndsWithin g n t → (p : Path) → IsPath next t p → length p < n
no_longer g next within zero t h p i = absurd h
no_longer g next within (suc n) t h [] i = absurd i
no_longer g next within (suc n) t h (d ∷ []) i = let k = h d (within t d i) in pos n d k
  where
    pos : (n : ℕ) (d : Label) → EndsWithin g n d → 1 < suc n
    pos zero d k = absurd k
    pos (suc n) d k = omega arith
no_longer g next within (suc n) t h (d ∷ e ∷ p) i = omega (arith, no_longer g next within n d (h d (within t d i.0)) (e ∷ p) i.1)

-- whoever lies on a cycle has paths without end
pub no_cycle : (g : Shape) (n : ℕ) (t : Label) → EndsWithin g n t → (p : Path) → IsPath (all_deps g) t p → end_from t p ≡ t → ⊥
no_cycle g n t h p i e = turns n (omega arith)
  where
    joined : (s : Label) (p q : Path) → IsPath (all_deps g) s p → IsPath (all_deps g) (end_from s p) q → IsPath (all_deps g) s (p ++ q)
    joined s [] q i j = absurd i
    joined s (d ∷ []) q i j = longer (all_deps g) s d q i j
    joined s (d ∷ e ∷ p) q i j = (i.0, joined d (e ∷ p) q i.1 j)

    again : (k : ℕ) → (q : Path) × IsPath (all_deps g) t q × (k < length q)
    again zero = (p, i, nonempty p i)
      where
        nonempty : (p : Path) → IsPath (all_deps g) t p → 0 < length p
        nonempty [] i = absurd i
        nonempty (d ∷ p) i = omega arith
    again (suc k) =
        let r = again k in
        (p ++ r.0, joined t p r.0 i (subst (λ (z : Label). IsPath (all_deps g) z r.0) (sym e) r.1), grow p r.0 k i r.2)
      where
        grow : (p q : Path) (k : ℕ) → IsPath (all_deps g) t p → k < length q → suc k < length (p ++ q)
        grow [] q k i l = absurd i
        grow (d ∷ p) q k i l = more p q k l
          where
            more : (p q : Path) (k : ℕ) → k < length q → suc k < suc (length (p ++ q))
            more [] q k l = omega (arith, l)
            more (d ∷ p) q k l = omega (arith, more p q k l)

    turns : (k : ℕ) → n ≤ k → ⊥
    turns k l = let r = again k in let m = no_longer g (all_deps g) (λ s d j. j) n t h r.0 r.1 in omega (arith, m, r.2, l)
