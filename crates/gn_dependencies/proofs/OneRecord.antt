-- A target has one record.
use Rattle.std.proofs.Common.{◌≡◌, ℕ, zero, suc, List, ◌++◌, sym, ◌∙◌, ap}
use Rattle.gn_labels.specs.declared.label.Label.{Label}
use Rattle.gn_dependencies.specs.Lists.{firsts}
use Rattle.gn_dependencies.specs.Shape.{Shape, near, public_near, EndsWithin, through, paths, paths_after}
use Rattle.gn_dependencies.specs.Configurations.{at_ends, all_dependent, public_configs, own_configs, IsApplied, IsPushed, IsPushedPublic}
use Rattle.gn_dependencies.proofs.Merge.{paths-settled, flat_map-same, near_within, public_within}

after-settled : (g : Shape) (m n : ℕ) (t : Label) → EndsWithin g m t → EndsWithin g n t → paths_after (near g) (public_near g) m t ≡ paths_after (near g) (public_near g) n t
after-settled g zero n t h k = absurd h
after-settled g (suc m) zero t h k = absurd k
after-settled g (suc m) (suc n) t h k =
    flat_map-same (λ d. through d (paths (public_near g) m d)) (λ d. through d (paths (public_near g) n d)) (near g t)
    (λ d i. ap (through d) (paths-settled g (public_near g) (public_within g) m n d (h d (near_within g t d i)) (k d (near_within g t d i))))

pub one_applied : (g : Shape) (t : Label) (xs ys : List Label) → IsApplied g t xs → IsApplied g t ys → xs ≡ ys
one_applied g t xs ys a b =
    let four : paths (near g) a.depth t ≡ paths (near g) b.depth t = paths-settled g (near g) (near_within g) a.depth b.depth t a.ends b.ends in
    let five : paths_after (near g) (public_near g) a.depth t ≡ paths_after (near g) (public_near g) b.depth t = after-settled g a.depth b.depth t a.ends b.ends in
    a.is ∙ (λ i. firsts (own_configs g t ++ at_ends (all_dependent g) t (four i) ++ at_ends (public_configs g) t (five i))) ∙ sym b.is

pub one_pushed : (g : Shape) (t : Label) (xs ys : List Label) → IsPushed g t xs → IsPushed g t ys → xs ≡ ys
one_pushed g t xs ys a b =
    let four : paths (near g) a.depth t ≡ paths (near g) b.depth t = paths-settled g (near g) (near_within g) a.depth b.depth t a.ends b.ends in
    a.is ∙ (λ i. firsts (all_dependent g t ++ at_ends (all_dependent g) t (four i))) ∙ sym b.is

pub one_pushed_public : (g : Shape) (t : Label) (xs ys : List Label) → IsPushedPublic g t xs → IsPushedPublic g t ys → xs ≡ ys
one_pushed_public g t xs ys a b =
    let publics : paths (public_near g) a.depth t ≡ paths (public_near g) b.depth t = paths-settled g (public_near g) (public_within g) a.depth b.depth t a.ends b.ends in
    a.is ∙ (λ i. firsts (public_configs g t ++ at_ends (public_configs g) t (publics i))) ∙ sym b.is
