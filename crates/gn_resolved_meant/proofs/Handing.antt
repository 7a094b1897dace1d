-- What is done before objects are built comes along dependencies.
use Rattle.std.proofs.Common.{◌≡◌, ◌↔◌, ◌⊎◌, inl, inr, ℕ, suc, List, [], ◌∷◌, length, Bool, true, refl, sym, ◌∙◌, subst}
use Rattle.std.specs.List.{flat_map}
use Rattle.std.specs.List.Sorted.{IsStrictlySortedBy}
use Rattle.std.proofs.lemmas.Bool.{or_cases}
use Rattle.gn_labels.specs.declared.label.Label.{Label}
use Rattle.gn_labels.specs.Labels.{label_order}
use Rattle.gn_dependencies.specs.Lists.{has}
use Rattle.gn_dependencies.specs.Shape.{Shape, near}
use Rattle.gn_dependencies.specs.Cycles.{OnlyThese}
use Rattle.gn_dependencies.proofs.Kept.{has-append}
use Rattle.gn_dependencies.proofs.Merge.{near_within}
use Rattle.gn_graph_faults.specs.Order.{AreInOrder}
use Rattle.gn_graph_meant.specs.Laws.{OnlyFrom}
use Rattle.gn_graph_meant.proofs.InOrder.{in_order_rises}
use Rattle.gn_graph_meant.proofs.Orders.{HasNoTies}
use Rattle.gn_graph_meant.proofs.Reaching.{has_flat, has_passed, passed_has}
use Rattle.gn_resolved_meant.specs.Reached.{ends_in, is_hard, hard_of, hard_in}
use Rattle.gn_resolved_meant.specs.Laws.{LeadsTo, HardAreLedTo, hard_from, HardIsHandedOn, HardComesAlong, HardComesWithin, HardIsJoined, AreTheHard}
use Rattle.gn_resolved_meant.proofs.Sorted.{in_order_has, same_tests, is_in_order}
use Rattle.gn_resolved_meant.proofs.Members.{has_left, has_right, flat_has}
use Rattle.gn_resolved_meant.proofs.Leading.{longer, ends_lead, leads_only, leads_within, ends_at}

-- what the lists of dependencies have
joined_has : (g : Shape) (hard : Label → List Label) (t q : Label)
    → (has (hard_from g hard t) q ≡ true) ↔ ((has (hard_of g (near g t)) q ≡ true) ⊎ ((d : Label) × (has (near g t) d ≡ true) × (has (hard d) q ≡ true)))
joined_has g hard t q = (to, back)
  where
    to : has (hard_from g hard t) q ≡ true → (has (hard_of g (near g t)) q ≡ true) ⊎ ((d : Label) × (has (near g t) d ≡ true) × (has (hard d) q ≡ true))
    to h = elim (or_cases (has (hard_of g (near g t)) q) (has (flat_map hard (near g t)) q) (sym (has-append (hard_of g (near g t)) (flat_map hard (near g t)) q) ∙ h)) [
      | inl a ↦ inl a
      | inr b ↦ inr (flat_has hard (near g t) q b)
    ]

    back : ((has (hard_of g (near g t)) q ≡ true) ⊎ ((d : Label) × (has (near g t) d ≡ true) × (has (hard d) q ≡ true))) → has (hard_from g hard t) q ≡ true
    back (inl a) = has_left (hard_of g (near g t)) (flat_map hard (near g t)) q a
    back (inr (d, h, i)) = has_right (hard_of g (near g t)) (flat_map hard (near g t)) q (has_flat hard (near g t) d q h i)

pub hard_rises : (all : List Label) (default : List ℕ) (g : Shape) (t : Label) → IsStrictlySortedBy (label_order default) (hard_in all default g t)
unfolding hard_in
hard_rises all default g t = in_order_rises (label_order default) (hard_of g (ends_in all (near g) t))

module _ (no_ties : HasNoTies) (all : List Label) (default : List ℕ) (g : Shape) where
  abbrev hard : Label → Bool
  hard q = is_hard (g.kind q)

  hard_has : (t q : Label) → (has (hard_in all default g t) q ≡ true) ↔ ((is_hard (g.kind q) ≡ true) × (has (ends_in all (near g) t) q ≡ true))
  unfolding hard_in
  hard_has t q =
      let i = in_order_has no_ties default (hard_of g (ends_in all (near g) t)) q in (
        (λ h. let k = passed_has hard (ends_in all (near g) t) q (i.0 h) in (k.1, k.0)),
        (λ k. i.1 (has_passed hard (ends_in all (near g) t) q k.1 k.0)),
      )

  -- the ends of the listed paths are those of all
  abbrev Finds : Label → Type 0
  Finds t = (q : Label) → LeadsTo g t q → has (ends_in all (near g) t) q ≡ true

  handed : (t : Label) → Finds t → ((d : Label) → has (near g t) d ≡ true → Finds d) → HardIsHandedOn all default g t
  handed t finds each q = (to, back)
    where
      on : is_hard (g.kind q) ≡ true → LeadsTo g t q → (has (hard_of g (near g t)) q ≡ true) ⊎ ((d : Label) × (has (near g t) d ≡ true) × (has (hard_in all default g d) q ≡ true))
      on k ([], i, e) = absurd i
      on k (d ∷ [], i, e) = inl (has_passed hard (near g t) q (subst (λ (z : Label). has (near g t) z ≡ true) e i) k)
      on k (d ∷ c ∷ p, i, e) = inr (d, i.0, (hard_has d q).1 (k, each d i.0 q (c ∷ p, i.1, e)))

      to : has (hard_in all default g t) q ≡ true → (has (hard_of g (near g t)) q ≡ true) ⊎ ((d : Label) × (has (near g t) d ≡ true) × (has (hard_in all default g d) q ≡ true))
      to h = let k = (hard_has t q).0 h in on k.0 (ends_lead all (near g) t q k.1)

      back : ((has (hard_of g (near g t)) q ≡ true) ⊎ ((d : Label) × (has (near g t) d ≡ true) × (has (hard_in all default g d) q ≡ true))) → has (hard_in all default g t) q ≡ true
      back (inl h) = let k = passed_has hard (near g t) q h in (hard_has t q).1 (k.1, finds q (q ∷ [], k.0, refl))
      back (inr (d, h, i)) =
          let k = (hard_has d q).0 i in
          let s = ends_lead all (near g) d q k.1 in
          (hard_has t q).1 (k.0, finds q (d ∷ s.0, longer (near g) t d s.0 h s.1, s.2))

  near_only : OnlyThese g all → OnlyFrom (near g) all
  near_only only c d h = only c d (near_within g c d h)

  pub led_to : OnlyThese g all → (t q : Label) → (has (hard_in all default g t) q ≡ true) ↔ ((is_hard (g.kind q) ≡ true) × LeadsTo g t q)
  led_to only t q = (
    (λ h. let k = (hard_has t q).0 h in (k.0, ends_lead all (near g) t q k.1)),
    (λ k. (hard_has t q).1 (k.0, leads_only all (near g) t (near_only only) q k.1)),
  )

  pub handed_only : OnlyThese g all → (t : Label) → HardIsHandedOn all default g t
  handed_only only t = handed t (leads_only all (near g) t (near_only only)) (λ d h. leads_only all (near g) d (near_only only))

  joined : OnlyThese g all → (t : Label) → AreInOrder default (hard_from g (hard_in all default g) t) (hard_in all default g t)
  joined only t = record {
    rises = hard_rises all default g t;
    same = λ q. same_tests (has (hard_in all default g t) q) (has (hard_from g (hard_in all default g) t) q) (
        let one = handed_only only t q in
        let two = joined_has g (hard_in all default g) t q in
        ((λ h. two.1 (one.0 h)), (λ h. one.1 (two.0 h))));
  }

pub hard_led_to : HasNoTies → HardAreLedTo
hard_led_to no_ties all default g only t q = led_to no_ties all default g only t q

pub hard_along : HasNoTies → HardComesAlong
hard_along no_ties all default g only t = handed_only no_ties all default g only t

pub hard_within : HasNoTies → HardComesWithin
hard_within no_ties all default g t ends = handed no_ties all default g t (leads_within all (near g) t g (near_within g) ends)
    (λ d h. leads_within all (near g) d g (near_within g) (ends_at g (suc (length all)) t d ends (near_within g t d h)))

pub hard_joined : HasNoTies → HardIsJoined
hard_joined no_ties all default g only t = is_in_order no_ties default (hard_from g (hard_in all default g) t) (hard_in all default g t) (joined no_ties all default g only t)

pub are_the_hard : HasNoTies → AreTheHard
are_the_hard no_ties all default g only t xs a =
    is_in_order no_ties default (hard_from g (hard_in all default g) t) xs a ∙ sym (hard_joined no_ties all default g only t)
