-- What a target pushes is merged from what its dependencies push.
use Rattle.std.proofs.Common.{◌≡◌, ℕ, zero, suc, ◌+◌, List, [], ◌∷◌, ◌++◌, Bool, true, false, ◌||◌, refl, sym, ◌∙◌, ap, subst, arith}
use Rattle.std.specs.List.{flat_map}
use Rattle.std.proofs.lemmas.List.Folds.{flat_map-map}
use Rattle.std.proofs.lemmas.Grind.{flat_map-append}
use Rattle.gn_labels.specs.declared.label.Label.{Label}
use Rattle.gn_rows.specs.declared.variable.Variable.TheVariants.{PublicDeps, Deps, DataDeps}
use Rattle.gn_dependencies.specs.Lists.{same_label, has, firsts, added}
use Rattle.gn_dependencies.specs.Shape.{Shape, near, public_near, all_deps, EndsWithin, Path, through, paths, paths_after, end_from}
use Rattle.gn_dependencies.specs.Configurations.{at_ends, all_dependent, public_configs, own_configs, IsApplied, IsPushed, IsPushedPublic, Records, AreRecorded, pushed_from, pushed_public_from, applied_from}
use Rattle.gn_dependencies.proofs.Same.{own, same}
use Rattle.gn_dependencies.proofs.Kept.{list_more, kept-flat_firsts, has-append}

-- ---- lists of the ends of paths
at_ends-through : (list : Label → List Label) (t d : Label) (ps : List Path) → at_ends list t (through d ps) ≡ list d ++ at_ends list d ps
at_ends-through list t d ps = ap (λ (z : List Label). list d ++ z) (flat_map-map (λ (p : Path). list (end_from t p)) (λ (p : Path). d ∷ p) ps)

-- the list of d, and those of the ends of the paths from it
abbrev pub whole : (Label → List Label) → (Label → List Label) → ℕ → Label → List Label
whole list next n d = list d ++ at_ends list d (paths next n d)

pub at_ends-flat : (list next : Label → List Label) (n : ℕ) (t : Label) (ds : List Label)
    → at_ends list t (flat_map (λ d. through d (paths next n d)) ds) ≡ flat_map (whole list next n) ds
at_ends-flat list next n t [] = refl
at_ends-flat list next n t (d ∷ ds) =
    flat_map-append (λ (p : Path). list (end_from t p)) (through d (paths next n d)) (flat_map (λ d. through d (paths next n d)) ds)
    ∙ ap (λ (z : List Label). z ++ at_ends list t (flat_map (λ d. through d (paths next n d)) ds)) (at_ends-through list t d (paths next n d))
    ∙ ap (λ (z : List Label). whole list next n d ++ z) (at_ends-flat list next n t ds)

-- ---- the same lists at each member
pub flat_map-same : {A : Type 0} (f g : Label → List A) (ds : List Label) → ((d : Label) → has ds d ≡ true → f d ≡ g d) → flat_map f ds ≡ flat_map g ds
flat_map-same f g [] h = refl
flat_map-same f g (d ∷ ds) h =
    let a : f d ≡ g d = h d (ap (λ b. b || has ds d) (own d)) in
    let b = flat_map-same f g ds (λ q i. h q (rw i (or_true (same_label q d)))) in
    cc (a, b)
  where
    or_true : (b : Bool) → (b || true) ≡ true
    or_true true = refl
    or_true false = refl

-- ---- depths
pub paths-settled : (g : Shape) (next : Label → List Label) → ((t d : Label) → has (next t) d ≡ true → has (all_deps g t) d ≡ true)
    → (m n : ℕ) (t : Label) → EndsWithin g m t → EndsWithin g n t → paths next m t ≡ paths next n t
paths-settled g next within zero n t h k = absurd h
paths-settled g next within (suc m) zero t h k = absurd k
paths-settled g next within (suc m) (suc n) t h k =
    flat_map-same (λ d. through d (paths next m d)) (λ d. through d (paths next n d)) (next t)
    (λ d i. ap (through d) (paths-settled g next within m n d (h d (within t d i)) (k d (within t d i))))

pub ends_later : (g : Shape) (m k : ℕ) (t : Label) → EndsWithin g m t → EndsWithin g (m + k) t
ends_later g zero k t h = absurd h
ends_later g (suc m) k t h = let P : ℕ → Type 0 = λ n. EndsWithin g n t in subst P (suc_add m k) (λ d i. ends_later g m k d (h d i))
  where
    suc_add : (m k : ℕ) → suc (m + k) ≡ suc m + k
    suc_add m k = omega arith

-- one depth for all members of a list
pub common_depth : (g : Shape) (ds : List Label) → ((d : Label) → has ds d ≡ true → (n : ℕ) × EndsWithin g n d) → (n : ℕ) × ((d : Label) → has ds d ≡ true → EndsWithin g n d)
common_depth g [] h = (0, λ d i. absurd (cc i))
common_depth g (d ∷ ds) h = join (h d (ap (λ b. b || has ds d) (own d))) (common_depth g ds (λ q i. h q (rw i (or_true (same_label q d)))))
  where
    or_true : (b : Bool) → (b || true) ≡ true
    or_true true = refl
    or_true false = refl

    at : (m n : ℕ) (q : Label) (b : Bool) → same_label q d ≡ b → EndsWithin g m d → (has ds q ≡ true → EndsWithin g n q) → (b || has ds q) ≡ true → EndsWithin g (m + n) q
    at m n q true e a f i = let P : Label → Type 0 = λ z. EndsWithin g (m + n) z in subst P (sym (same q d e)) (ends_later g m n d a)
    at m n q false e a f i = let P : ℕ → Type 0 = λ z. EndsWithin g z q in subst P (swap n m) (ends_later g n m q (f i))
      where
        swap : (n m : ℕ) → n + m ≡ m + n
        swap n m = omega arith

    join : ((n : ℕ) × EndsWithin g n d) → ((n : ℕ) × ((q : Label) → has ds q ≡ true → EndsWithin g n q)) → (n : ℕ) × ((q : Label) → has (d ∷ ds) q ≡ true → EndsWithin g n q)
    join (m, a) (n, f) = (m + n, λ q i. at m n q (same_label q d) refl a (f q) i)

-- ---- merging
-- the lists of dependencies, each without its own repeats, give what the paths give
pub merged : (list next : Label → List Label) (n : ℕ) (t : Label) (ds out : List Label) (f : Label → List Label)
    → ((d : Label) → has ds d ≡ true → f d ≡ firsts (whole list next n d))
    → added out (flat_map f ds) ≡ added out (at_ends list t (flat_map (λ d. through d (paths next n d)) ds))
merged list next n t ds out f same =
    ap (added out) (flat_map-same f (λ d. firsts (whole list next n d)) ds same)
    ∙ ap (λ (z : List Label). out ++ z) (kept-flat_firsts (has out) (whole list next n) ds)
    ∙ ap (added out) (sym (at_ends-flat list next n t ds))

has_left : (xs ys : List Label) (d : Label) → has xs d ≡ true → has (xs ++ ys) d ≡ true
has_left xs ys d h = has-append xs ys d ∙ ap (λ b. b || has ys d) h

has_right : (xs ys : List Label) (d : Label) → has ys d ≡ true → has (xs ++ ys) d ≡ true
has_right xs ys d h = has-append xs ys d ∙ ap (λ b. has xs d || b) h ∙ or_true (has xs d)
  where
    or_true : (b : Bool) → (b || true) ≡ true
    or_true true = refl
    or_true false = refl

pub near_within : (g : Shape) (t d : Label) → has (near g t) d ≡ true → has (all_deps g t) d ≡ true
near_within g t d h = has_left (near g t) (g.lists t DataDeps) d h

pub public_within : (g : Shape) (t d : Label) → has (public_near g t) d ≡ true → has (all_deps g t) d ≡ true
public_within g t d h = near_within g t d (has_left (g.lists t PublicDeps) (g.lists t Deps) d h)

-- ---- what records of dependencies give
-- one depth for a target and all its dependencies, and what their records hold there
pub record CommonDepth (g : Shape) (r : Records) (t : Label) : Type 0 where
  pub depth : ℕ
  pub ends : EndsWithin g (suc depth) t
  pub pushes : (d : Label) → has (near g t) d ≡ true → r.pushed d ≡ firsts (whole (all_dependent g) (near g) depth d)
  pub publics : (d : Label) → has (near g t) d ≡ true → r.pushed_public d ≡ firsts (whole (public_configs g) (public_near g) depth d)

pub common : (g : Shape) (r : Records) (t : Label) → AreRecorded g r t → CommonDepth g r t
common g r t h = at (common_depth g (all_deps g t) (λ d i. let s = (h d i).0 in (s.depth, s.ends)))
  where
    at : ((n : ℕ) × ((d : Label) → has (all_deps g t) d ≡ true → EndsWithin g n d)) → CommonDepth g r t
    at (n, ends) = record {
      depth = n;
      ends = ends;
      pushes = λ d i. let s = (h d (near_within g t d i)).0 in
          s.is ∙ ap (λ (ps : List Path). firsts (all_dependent g d ++ at_ends (all_dependent g) d ps))
          (paths-settled g (near g) (near_within g) s.depth n d s.ends (ends d (near_within g t d i)));
      publics = λ d i. let s = (h d (near_within g t d i)).1 in
          s.is ∙ ap (λ (ps : List Path). firsts (public_configs g d ++ at_ends (public_configs g) d ps))
          (paths-settled g (public_near g) (public_within g) s.depth n d s.ends (ends d (near_within g t d i)));
    }

-- the list of a target joined with those that its dependencies hand on is that of all its paths
pub joined : (g : Shape) (r : Records) (t : Label) (c : CommonDepth g r t) (out : List Label)
    → added out (flat_map r.pushed (near g t)) ≡ added out (at_ends (all_dependent g) t (paths (near g) (suc c.depth) t))
joined g r t c out = merged (all_dependent g) (near g) c.depth t (near g t) out r.pushed c.pushes

pub joined_public : (g : Shape) (r : Records) (t : Label) (c : CommonDepth g r t) (out : List Label)
    → added out (flat_map r.pushed_public (near g t)) ≡ added out (at_ends (public_configs g) t (paths_after (near g) (public_near g) (suc c.depth) t))
joined_public g r t c out = merged (public_configs g) (public_near g) c.depth t (near g t) out r.pushed_public c.publics

pub pushed_settled : (g : Shape) (r : Records) (t : Label) → AreRecorded g r t → IsPushed g t (firsts (pushed_from g r t))
pushed_settled g r t h = let c = common g r t h in record {
  depth = suc c.depth;
  ends = c.ends;
  is = list_more [] (all_dependent g t) (flat_map r.pushed (near g t)) ∙ joined g r t c (added [] (all_dependent g t))
      ∙ sym (list_more [] (all_dependent g t) (at_ends (all_dependent g) t (paths (near g) (suc c.depth) t)));
}

pub pushed_public_settled : (g : Shape) (r : Records) (t : Label) → AreRecorded g r t → IsPushedPublic g t (firsts (pushed_public_from g r t))
pushed_public_settled g r t h = let c = common g r t h in record {
  depth = suc c.depth;
  ends = c.ends;
  is = list_more [] (public_configs g t) (flat_map r.pushed_public (public_near g t))
      ∙ merged (public_configs g) (public_near g) c.depth t (public_near g t) (added [] (public_configs g t)) r.pushed_public
      (λ d i. c.publics d (has_left (g.lists t PublicDeps) (g.lists t Deps) d i))
      ∙ sym (list_more [] (public_configs g t) (at_ends (public_configs g) t (paths (public_near g) (suc c.depth) t)));
}

pub applied_settled : (g : Shape) (r : Records) (t : Label) → AreRecorded g r t → IsApplied g t (firsts (applied_from g r t))
applied_settled g r t h =
    let c = common g r t h in
    let o : List Label = own_configs g t in
    let four : List Label = at_ends (all_dependent g) t (paths (near g) (suc c.depth) t) in
    let five : List Label = at_ends (public_configs g) t (paths_after (near g) (public_near g) (suc c.depth) t) in record {
      depth = suc c.depth;
      ends = c.ends;
      is = list_more [] (o ++ flat_map r.pushed (near g t)) (flat_map r.pushed_public (near g t))
          ∙ ap (λ (z : List Label). added z (flat_map r.pushed_public (near g t))) (list_more [] o (flat_map r.pushed (near g t)))
          ∙ joined_public g r t c (added (added [] o) (flat_map r.pushed (near g t)))
          ∙ ap (λ (z : List Label). added z five) (joined g r t c (added [] o) ∙ sym (list_more [] o four))
          ∙ sym (list_more [] (o ++ four) five);
    }
