-- What is reached is what dependencies lead to.
use Rattle.std.proofs.Common.{◌≡◌, ◌↔◌, ◌⊎◌, inl, inr, ℕ, List, [], ◌∷◌, ◌++◌, true, refl, sym, ◌∙◌, ap, subst}
use Rattle.std.specs.List.{flat_map}
use Rattle.std.specs.List.Sorted.{IsStrictlySortedBy}
use Rattle.std.proofs.lemmas.Bool.{or_cases}
use Rattle.gn_labels.specs.declared.label.Label.{Label}
use Rattle.gn_labels.specs.Labels.{label_order}
use Rattle.gn_dependencies.specs.Lists.{has}
use Rattle.gn_dependencies.specs.Shape.{Shape, Path, all_deps, end_from}
use Rattle.gn_dependencies.specs.Cycles.{IsPath, OnlyThese}
use Rattle.gn_dependencies.specs.Laws.{Reached, itself, onward}
use Rattle.gn_dependencies.proofs.Kept.{has-append}
use Rattle.gn_graph_meant.proofs.InOrder.{in_order_rises}
use Rattle.gn_graph_meant.proofs.Orders.{HasNoTies}
use Rattle.gn_graph_meant.proofs.Reaching.{has_flat, path_more, end_more}
use Rattle.gn_resolved_meant.specs.Reached.{ends_in, reached_in}
use Rattle.gn_resolved_meant.specs.Laws.{IsReachedFrom, ReachesThose, ReachedAreClosed, AreTheReached}
use Rattle.gn_resolved_meant.proofs.Sorted.{in_order_has, members_decide}
use Rattle.gn_resolved_meant.proofs.Members.{has_left, has_right, flat_has}
use Rattle.gn_resolved_meant.proofs.Leading.{Leads, ends_lead, leads_only}

module _ (g : Shape) where
  path_reached : (t c : Label) (p : Path) → Reached g t c → IsPath (all_deps g) c p → Reached g t (end_from c p)
  path_reached t c [] r i = absurd i
  path_reached t c (d ∷ []) r i = onward c d r i
  path_reached t c (d ∷ e ∷ p) r i = path_reached t d (e ∷ p) (onward c d r i.0) i.1

  reached_path : (t q : Label) → Reached g t q → (t ≡ q) ⊎ Leads (all_deps g) t q
  reached_path t q itself = inl refl
  reached_path t q (onward c d r h) = elim (reached_path t c r) [
    | inl e ↦ inr (d ∷ [], ap (λ (z : Label). has (all_deps g z) d) e ∙ h, refl)
    | inr s ↦ inr (s.0 ++ d ∷ [], path_more (all_deps g) t d s.0 s.1 (ap (λ (z : Label). has (all_deps g z) d) s.2 ∙ h), end_more t d s.0)
  ]

module _ (no_ties : HasNoTies) (all : List Label) (default : List ℕ) (g : Shape) (only : OnlyThese g all) (ts : List Label) where
  abbrev led_to : List Label
  led_to = flat_map (ends_in all (all_deps g)) ts

  to : (q : Label) → has (ts ++ led_to) q ≡ true → IsReachedFrom g ts q
  to q h = elim (or_cases (has ts q) (has led_to q) (sym (has-append ts led_to q) ∙ h)) [
    | inl a ↦ (q, a, itself)
    | inr b ↦
        let r = flat_has (ends_in all (all_deps g)) ts q b in
        let s = ends_lead all (all_deps g) r.0 q r.2 in
        (r.0, r.1, subst (Reached g r.0) s.2 (path_reached g r.0 r.0 s.0 itself s.1))
  ]

  back : (q : Label) → IsReachedFrom g ts q → has (ts ++ led_to) q ≡ true
  back q r = elim (reached_path g r.0 q r.2) [
    | inl e ↦ has_left ts led_to q (subst (λ (z : Label). has ts z ≡ true) e r.1)
    | inr s ↦ has_right ts led_to q (has_flat (ends_in all (all_deps g)) ts r.0 q r.1 (leads_only all (all_deps g) r.0 only q s))
  ]

  pub reaches : (q : Label) → (has (reached_in all default g ts) q ≡ true) ↔ IsReachedFrom g ts q
  unfolding reached_in
  reaches q = let i = in_order_has no_ties default (ts ++ led_to) q in ((λ h. to q (i.0 h)), (λ r. i.1 (back q r)))

pub reached_rises : (all : List Label) (default : List ℕ) (g : Shape) (ts : List Label) → IsStrictlySortedBy (label_order default) (reached_in all default g ts)
unfolding reached_in
reached_rises all default g ts = in_order_rises (label_order default) (ts ++ flat_map (ends_in all (all_deps g)) ts)

pub reaches_those : HasNoTies → ReachesThose
reaches_those no_ties all default g only ts q = reaches no_ties all default g only ts q

pub reached_closed : HasNoTies → ReachedAreClosed
reached_closed no_ties all default g only ts u d h i =
    let r = (reaches no_ties all default g only ts u).0 h in
    (reaches no_ties all default g only ts d).1 (r.0, r.1, onward u d r.2 i)

pub are_the_reached : HasNoTies → AreTheReached
are_the_reached no_ties all default g only ts xs s each = members_decide default xs (reached_in all default g ts) s (reached_rises all default g ts) (λ q.
    let r = reaches no_ties all default g only ts q in ((λ h. r.1 ((each q).0 h)), (λ h. (each q).1 (r.0 h))))
