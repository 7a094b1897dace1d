-- In a finite graph a target reaches no cycle exactly where its paths have a bound.
use Rattle.std.proofs.Common.{◌≡◌, ℕ, zero, suc, ◌≤◌, List, [], ◌∷◌, length, Bool, true, false, ◌||◌, refl, sym, ◌∙◌, ap, subst, ◌⊎◌, inl, inr, arith}
use Rattle.std.specs.List.{IsDistinct, AllByRecursion}
use Rattle.std.proofs.lemmas.Map.Made.{length-le_from_is_member}
use Rattle.gn_labels.specs.declared.label.Label.{Label}
use Rattle.gn_dependencies.specs.Lists.{same_label, has}
use Rattle.std.proofs.lemmas.Map.Keys.{IsDistinct-cons}
use Rattle.gn_dependencies.specs.Shape.{Shape, all_deps, EndsWithin, Path, end_from}
use Rattle.gn_dependencies.specs.Cycles.{IsChain, ReachesNoCycle, IsPath, OnlyThese, Ends, by_dependencies}
use Rattle.gn_dependencies.proofs.AllPaths.{no_cycle}
use Rattle.gn_dependencies.proofs.Merge.{common_depth}
use Rattle.gn_dependencies.proofs.Same.{same, label_equiv}
use Rattle.gn_dependencies.proofs.Has.{or_true, has_own}

-- a chain of so many edges
abbrev ChainOf : Shape → ℕ → Label → Type 0
ChainOf g m t = (xs : List Label) × IsChain (all_deps g) (t ∷ xs) × (length xs ≡ m)

each_or_some : (ds : List Label) (P Q : Label → Type 0) → ((d : Label) → P d ⊎ Q d) → ((d : Label) → has ds d ≡ true → P d) ⊎ ((d : Label) × (has ds d ≡ true) × Q d)
each_or_some [] P Q f = inl (λ d h. absurd (cc h))
each_or_some (x ∷ ds) P Q f = go (f x) (each_or_some ds P Q f)
  where
    at : (d : Label) (b : Bool) → same_label d x ≡ b → P x → (has ds d ≡ true → P d) → (b || has ds d) ≡ true → P d
    at d true e p r h = subst P (sym (same d x e)) p
    at d false e p r h = r h

    go : P x ⊎ Q x → (((d : Label) → has ds d ≡ true → P d) ⊎ ((d : Label) × (has ds d ≡ true) × Q d))
        → ((d : Label) → has (x ∷ ds) d ≡ true → P d) ⊎ ((d : Label) × (has (x ∷ ds) d ≡ true) × Q d)
    go (inr q) r = inr (x, has_own x ds, q)
    go (inl p) (inr r) = inr (r.0, ap (λ b. same_label r.0 x || b) r.1 ∙ or_true (same_label r.0 x), r.2)
    go (inl p) (inl r) = inl (λ d h. at d (same_label d x) refl p (r d) h)

ends_or_chain : (g : Shape) (m : ℕ) (t : Label) → EndsWithin g m t ⊎ ChainOf g m t
ends_or_chain g zero t = inr ([], tt, refl)
ends_or_chain g (suc m) t = go (each_or_some (all_deps g t) (EndsWithin g m) (ChainOf g m) (λ d. ends_or_chain g m d))
  where
    go : (((d : Label) → has (all_deps g t) d ≡ true → EndsWithin g m d) ⊎ ((d : Label) × (has (all_deps g t) d ≡ true) × ChainOf g m d)) → EndsWithin g (suc m) t ⊎ ChainOf g (suc m) t
    go (inl f) = inl f
    go (inr (d, h, c)) = inr (d ∷ c.0, (h, c.1), ap suc c.2)

-- a chain without its last target
front : List Label → List Label
front [] = []
front (x ∷ []) = []
front (x ∷ y ∷ ys) = x ∷ front (y ∷ ys)

front-length : (x : Label) (xs : List Label) → length (front (x ∷ xs)) ≡ length xs
unfolding front
front-length x [] = refl
front-length x (y ∷ ys) = ap suc (front-length y ys)

front_chain : (next : Label → List Label) (xs : List Label) → IsChain next xs → IsChain next (front xs)
unfolding front
front_chain next [] h = tt
front_chain next (x ∷ []) h = tt
front_chain next (x ∷ y ∷ []) h = tt
front_chain next (x ∷ y ∷ z ∷ zs) h = (h.0, front_chain next (y ∷ z ∷ zs) h.1)

front_among : (next : Label → List Label) (ts : List Label) → ((t d : Label) → has (next t) d ≡ true → has ts t ≡ true) → (xs : List Label) → IsChain next xs → (q : Label) → has (front xs) q ≡ true → has ts q ≡ true
unfolding front
front_among next ts b [] h q i = absurd (cc i)
front_among next ts b (x ∷ []) h q i = absurd (cc i)
front_among next ts b (x ∷ y ∷ ys) h q i = go (same_label q x) refl (front_among next ts b (y ∷ ys) h.1 q) i
  where
    go : (e : Bool) → same_label q x ≡ e → (has (front (y ∷ ys)) q ≡ true → has ts q ≡ true) → (e || has (front (y ∷ ys)) q) ≡ true → has ts q ≡ true
    go true e r i = ap (has ts) (same q x e) ∙ b x y h.0
    go false e r i = r i

front_start : (t : Label) (xs : List Label) (k : ℕ) → length xs ≡ suc k → (ys : List Label) × (front (t ∷ xs) ≡ t ∷ ys)
unfolding front
front_start t [] k e = absurd (omega (arith, e))
front_start t (y ∷ ys) k e = (front (y ∷ ys), refl)

-- where only these have dependencies, more edges than there are of them are too many
pub bounded : (g : Shape) (ts : List Label) → OnlyThese g ts → (t : Label) → ReachesNoCycle g t → EndsWithin g (suc (length ts)) t
bounded g ts b t free = go (ends_or_chain g (suc (length ts)) t)
  where
    go : EndsWithin g (suc (length ts)) t ⊎ ChainOf g (suc (length ts)) t → EndsWithin g (suc (length ts)) t
    go (inl e) = e
    go (inr (xs, c, l)) =
        let s = front_start t xs (length ts) l in
        let D : List Label → Type 0 = λ z. IsDistinct same_label z in
        let C : List Label → Type 0 = λ z. IsChain (all_deps g) z in
        let once : IsDistinct same_label (front (t ∷ xs)) = subst D (sym s.1) (free s.0 (subst C s.1 (front_chain (all_deps g) (t ∷ xs) c))) in
        let few : length (front (t ∷ xs)) ≤ length ts = length-le_from_is_member label_equiv (front (t ∷ xs)) ts once (front_among (all_deps g) ts b (t ∷ xs) c) in
        absurd (omega (arith, few, front-length t xs, l))

-- ---- the least set
pub ends_bounded : (g : Shape) (t : Label) → Ends g t → (n : ℕ) × EndsWithin g n t
ends_bounded g t (by_dependencies s h) = let r = common_depth g (all_deps g s) (λ d i. ends_bounded g d (h d i)) in (suc r.0, r.1)

pub bounded_ends : (g : Shape) (n : ℕ) (t : Label) → EndsWithin g n t → Ends g t
bounded_ends g zero t h = absurd h
bounded_ends g (suc n) t h = by_dependencies t (λ d i. bounded_ends g n d (h d i))

-- ---- and a bound leaves no room for a cycle
ends_more : (g : Shape) (n : ℕ) (t : Label) → EndsWithin g n t → EndsWithin g (suc n) t
ends_more g zero t h = absurd h
ends_more g (suc n) t h = λ d i. ends_more g n d (h d i)

ends_at : (g : Shape) (n : ℕ) (t d : Label) → EndsWithin g n t → has (all_deps g t) d ≡ true → EndsWithin g n d
ends_at g zero t d h i = absurd h
ends_at g (suc n) t d h i = ends_more g n d (h d i)

-- the part of a chain up to a member is a path to it
path_to : (next : Label → List Label) (x q : Label) (xs : List Label) → IsChain next (x ∷ xs) → has xs q ≡ true → (p : Path) × IsPath next x p × (end_from x p ≡ q)
path_to next x q [] c h = absurd (cc h)
path_to next x q (y ∷ ys) c h = go (same_label q y) refl (λ i. path_to next y q ys c.1 i) h
  where
    longer : (p : Path) → IsPath next y p → IsPath next x (y ∷ p)
    longer [] i = absurd i
    longer (e ∷ p) i = (c.0, i)

    go : (b : Bool) → same_label q y ≡ b → (has ys q ≡ true → (p : Path) × IsPath next y p × (end_from y p ≡ q)) → (b || has ys q) ≡ true → (p : Path) × IsPath next x p × (end_from x p ≡ q)
    go true e ih i = (y ∷ [], c.0, sym (same q y e))
    go false e ih i = let r = ih i in (y ∷ r.0, longer r.0 r.1, r.2)

not_in : (x : Label) (xs : List Label) → (has xs x ≡ true → ⊥) → AllByRecursion (λ y. same_label x y ≡ false) xs
not_in x [] h = tt
not_in x (y ∷ ys) h = go (same_label x y) refl h (λ f. not_in x ys f)
  where
    go : (b : Bool) → same_label x y ≡ b → ((b || has ys x) ≡ true → ⊥) → ((has ys x ≡ true → ⊥) → AllByRecursion (λ y. same_label x y ≡ false) ys) → AllByRecursion (λ y. same_label x y ≡ false) (y ∷ ys)
    go true e f ih = absurd (f refl)
    go false e f ih = (e, ih f)

alone : (x : Label) → IsDistinct same_label (x ∷ [])
unfolding IsDistinct
alone x = (tt, tt)

pub free_of_cycles : (g : Shape) (n : ℕ) (t : Label) → EndsWithin g n t → ReachesNoCycle g t
free_of_cycles g n t e [] c = alone t
free_of_cycles g n t e (y ∷ ys) c =
    IsDistinct-cons same_label t (y ∷ ys) (not_in t (y ∷ ys) (λ h. let p = path_to (all_deps g) t t (y ∷ ys) c h in no_cycle g n t e p.0 p.1 p.2))
    (free_of_cycles g n y (ends_at g n t y e c.0) ys c.1)
