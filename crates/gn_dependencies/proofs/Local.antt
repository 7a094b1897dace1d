-- The record of a target depends on what it reaches alone.
use Rattle.std.proofs.Common.{◌≡◌, ℕ, zero, suc, List, [], ◌++◌, true, ◌||◌, refl, sym, ◌∙◌, ap}
use Rattle.std.specs.List.{flat_map}
use Rattle.gn_labels.specs.declared.label.Label.{Label}
use Rattle.gn_rows.specs.declared.variable.Variable.{Variable}
use Rattle.gn_rows.specs.declared.variable.Variable.TheVariants.{PublicDeps, Deps, DataDeps, Configs, PublicConfigs, AllDependentConfigs}
use Rattle.gn_dependencies.specs.Lists.{has, firsts}
use Rattle.gn_dependencies.specs.Shape.{Shape, near, public_near, all_deps, EndsWithin, paths, paths_after}
use Rattle.gn_dependencies.specs.Configurations.{at_ends, all_dependent, public_configs, own_configs, IsApplied, IsPushed, IsPushedPublic}
use Rattle.gn_dependencies.specs.Laws.{Reached, onward, AgreeFrom}
use Rattle.gn_dependencies.proofs.Kept.{has-append}
use Rattle.gn_dependencies.proofs.Merge.{whole, at_ends-flat, flat_map-same}

-- two graphs agree on a set of targets that has all that they depend on
pub record Agree (g h : Shape) (R : Label → Type 0) : Type 0 where
  pub lists : (t : Label) → R t → (variable : Variable) → g.lists t variable ≡ h.lists t variable
  pub kind : (t : Label) → R t → g.kind t ≡ h.kind t
  pub onward : (t d : Label) → R t → has (all_deps g t) d ≡ true → R d

pub agree_from : (g h : Shape) (t : Label) → AgreeFrom g h t → Agree g h (Reached g t)
agree_from g h t a = record { lists = a.lists; kind = a.kind; onward = λ c d r e. onward c d r e }

whole-same : (R : Label → Type 0) (list list' next next' : Label → List Label) → ((d : Label) → R d → list d ≡ list' d) → ((d : Label) → R d → next d ≡ next' d)
    → ((d e : Label) → R d → has (next d) e ≡ true → R e) → (n : ℕ) (d : Label) → R d → whole list next n d ≡ whole list' next' n d
whole-same R list list' next next' sl sn on zero d r = ap (λ (z : List Label). z ++ []) (sl d r)
whole-same R list list' next next' sl sn on (suc n) d r =
    ap (λ (z : List Label). list d ++ z) (at_ends-flat list next n d (next d)
    ∙ flat_map-same (whole list next n) (whole list' next' n) (next d) (λ e i. whole-same R list list' next next' sl sn on n e (on d e r i))
    ∙ ap (flat_map (whole list' next' n)) (sn d r)
    ∙ sym (at_ends-flat list' next' n d (next' d)))
    ∙ ap (λ (z : List Label). z ++ at_ends list' d (paths next' (suc n) d)) (sl d r)

module _ (g h : Shape) (R : Label → Type 0) (a : Agree g h R) where
  pub near-same : (t : Label) → R t → near g t ≡ near h t
  near-same t r = λ i. a.lists t r PublicDeps i ++ a.lists t r Deps i

  all-same : (t : Label) → R t → all_deps g t ≡ all_deps h t
  all-same t r = λ i. near-same t r i ++ a.lists t r DataDeps i

  left : (xs ys : List Label) (d : Label) → has xs d ≡ true → has (xs ++ ys) d ≡ true
  left xs ys d e = has-append xs ys d ∙ ap (λ b. b || has ys d) e

  pub near_on : (t d : Label) → R t → has (near g t) d ≡ true → R d
  near_on t d r e = a.onward t d r (left (near g t) (g.lists t DataDeps) d e)

  public_on : (t d : Label) → R t → has (public_near g t) d ≡ true → R d
  public_on t d r e = near_on t d r (left (g.lists t PublicDeps) (g.lists t Deps) d e)

  pub ends-same : (n : ℕ) (t : Label) → R t → EndsWithin g n t → EndsWithin h n t
  ends-same zero t r e = e
  ends-same (suc n) t r e = λ d i.
      let j : has (all_deps g t) d ≡ true = ap (λ (z : List Label). has z d) (all-same t r) ∙ i in
      ends-same n d (a.onward t d r j) (e d j)

  dependent-same : (d : Label) → R d → all_dependent g d ≡ all_dependent h d
  dependent-same d r = a.lists d r AllDependentConfigs

  public-same : (d : Label) → R d → public_configs g d ≡ public_configs h d
  public-same d r = a.lists d r PublicConfigs

  dependents-same : (n : ℕ) (d : Label) → R d → whole (all_dependent g) (near g) n d ≡ whole (all_dependent h) (near h) n d
  dependents-same n d r = whole-same R (all_dependent g) (all_dependent h) (near g) (near h) dependent-same near-same near_on n d r

  publics-same : (n : ℕ) (d : Label) → R d → whole (public_configs g) (public_near g) n d ≡ whole (public_configs h) (public_near h) n d
  publics-same n d r = whole-same R (public_configs g) (public_configs h) (public_near g) (public_near h) public-same (λ t k. a.lists t k PublicDeps) public_on n d r

  five-same : (n : ℕ) (t : Label) → R t
      → at_ends (public_configs g) t (paths_after (near g) (public_near g) n t) ≡ at_ends (public_configs h) t (paths_after (near h) (public_near h) n t)
  five-same zero t r = refl
  five-same (suc n) t r =
      at_ends-flat (public_configs g) (public_near g) n t (near g t)
      ∙ flat_map-same (whole (public_configs g) (public_near g) n) (whole (public_configs h) (public_near h) n) (near g t) (λ d i. publics-same n d (near_on t d r i))
      ∙ ap (flat_map (whole (public_configs h) (public_near h) n)) (near-same t r)
      ∙ sym (at_ends-flat (public_configs h) (public_near h) n t (near h t))

  four-same : (n : ℕ) (t : Label) → R t
      → at_ends (all_dependent g) t (paths (near g) n t) ≡ at_ends (all_dependent h) t (paths (near h) n t)
  four-same zero t r = refl
  four-same (suc n) t r =
      at_ends-flat (all_dependent g) (near g) n t (near g t)
      ∙ flat_map-same (whole (all_dependent g) (near g) n) (whole (all_dependent h) (near h) n) (near g t) (λ d i. dependents-same n d (near_on t d r i))
      ∙ ap (flat_map (whole (all_dependent h) (near h) n)) (near-same t r)
      ∙ sym (at_ends-flat (all_dependent h) (near h) n t (near h t))

  own-same : (t : Label) → R t → own_configs g t ≡ own_configs h t
  own-same t r = λ i. a.lists t r Configs i ++ dependent-same t r i ++ public-same t r i

  pub applied_local : (t : Label) (xs : List Label) → R t → IsApplied g t xs → IsApplied h t xs
  applied_local t xs r k = record {
    depth = k.depth;
    ends = ends-same k.depth t r k.ends;
    is = k.is ∙ (λ i. firsts (own-same t r i ++ four-same k.depth t r i ++ five-same k.depth t r i));
  }

  pub pushed_local : (t : Label) (xs : List Label) → R t → IsPushed g t xs → IsPushed h t xs
  pushed_local t xs r k = record { depth = k.depth; ends = ends-same k.depth t r k.ends; is = k.is ∙ ap firsts (dependents-same k.depth t r) }

  pub pushed_public_local : (t : Label) (xs : List Label) → R t → IsPushedPublic g t xs → IsPushedPublic h t xs
  pushed_public_local t xs r k = record { depth = k.depth; ends = ends-same k.depth t r k.ends; is = k.is ∙ ap firsts (publics-same k.depth t r) }
