-- The libraries that are placed are those that a target inherits.
use Rattle.std.proofs.Common.{◌≡◌, ◌⊎◌, inl, inr, ℕ, suc, List, [], ◌∷◌, ◌++◌, length, filter, Bool, true, false, ◌||◌, cond, refl, sym, ◌∙◌, ap, subst}
use Rattle.gn_labels.specs.declared.label.Label.{Label}
use Rattle.gn_dependencies.specs.Lists.{same_label, has}
use Rattle.gn_dependencies.specs.Shape.{Shape, Path, near, all_deps, end_from}
use Rattle.gn_dependencies.specs.Cycles.{IsPath}
use Rattle.gn_dependencies.specs.Walks.{first, onward}
use Rattle.gn_dependencies.specs.Inherited.{links, opens, walks, is_library, Walked, IsOrder, InheritedBy, IsInherited}
use Rattle.gn_dependencies.specs.Laws.{IsOneOf}
use Rattle.gn_dependencies.proofs.Same.{same}
use Rattle.gn_dependencies.proofs.Has.{has_own}
use Rattle.gn_dependencies.proofs.Merge.{near_within}
use Rattle.gn_graph_meant.proofs.Orders.{HasNoTies}
use Rattle.gn_graph_meant.proofs.Reaching.{has_flat, has_passed, passed_has, path_more, end_more}
use Rattle.gn_resolved_meant.specs.Along.{EndsIn}
use Rattle.gn_resolved_meant.specs.Reached.{ends_in}
use Rattle.gn_resolved_meant.specs.Inherited.{met_near, met_through, walked_in, order_in, inherited_in}
use Rattle.gn_resolved_meant.specs.Laws.{WalksThose, Inherits, AreTheInherited}
use Rattle.gn_resolved_meant.proofs.Members.{has_later, flat_has}
use Rattle.gn_resolved_meant.proofs.Leading.{Leads, ends_lead, leads_within, ends_at}
use Rattle.gn_resolved_meant.proofs.Placing.{in_their_order}

where_open : (b : Bool) (xs : List Label) (d : Label) → has (cond b xs []) d ≡ true → (b ≡ true) × (has xs d ≡ true)
where_open true xs d h = (refl, h)
where_open false xs d h = absurd (cc h)

module _ (g : Shape) where
  abbrev is_met : Label → Bool
  is_met d = walks (g.kind d)

  through_to : (c d : Label) → opens (g.kind c) ≡ true → has (near g c) d ≡ true → is_met d ≡ true → has (met_through g c) d ≡ true
  through_to c d o h w = ap (λ b. has (cond b (met_near g c) []) d) o ∙ has_passed is_met (near g c) d h w

  through_from : (c d : Label) → has (met_through g c) d ≡ true → (opens (g.kind c) ≡ true) × ((has (near g c) d ≡ true) × (is_met d ≡ true))
  through_from c d h = let k = where_open (opens (g.kind c)) (met_near g c) d h in (k.0, passed_has is_met (near g c) d k.1)

  through_within : (c d : Label) → has (met_through g c) d ≡ true → has (all_deps g c) d ≡ true
  through_within c d h = near_within g c d (through_from c d h).1.0

  module _ (t : Label) where
    abbrev IsLedTo : Label → Type 0
    IsLedTo q = (d : Label) × (has (met_near g t) d ≡ true) × ((d ≡ q) ⊎ Leads (met_through g) d q)

    led_to : (q : Label) → Walked g t q → IsLedTo q
    led_to q (first d h w) = (d, has_passed is_met (near g t) d h w, inl refl)
    led_to q (onward c d i o h w) =
        let r = led_to c i in
        let k : has (met_through g c) d ≡ true = through_to c d o h w in
        (r.0, r.1, inr (more r.0 c d r.2 k))
      where
        more : (s c d : Label) → (s ≡ c) ⊎ Leads (met_through g) s c → has (met_through g c) d ≡ true → Leads (met_through g) s d
        more s c d (inl e) k = (d ∷ [], ap (λ (z : Label). has (met_through g z) d) e ∙ k, refl)
        more s c d (inr (p, i, e)) k = (p ++ d ∷ [], path_more (met_through g) s d p i (ap (λ (z : Label). has (met_through g z) d) e ∙ k), end_more s d p)

    walked_on : (c : Label) (p : Path) → Walked g t c → IsPath (met_through g) c p → Walked g t (end_from c p)
    walked_on c [] w i = absurd i
    walked_on c (d ∷ []) w i = let k = through_from c d i in onward c d w k.0 k.1.0 k.1.1
    walked_on c (d ∷ e ∷ p) w i = let k = through_from c d i.0 in walked_on d (e ∷ p) (onward c d w k.0 k.1.0 k.1.1) i.1

    walked_first : (d : Label) → has (met_near g t) d ≡ true → Walked g t d
    walked_first d h = let k = passed_has is_met (near g t) d h in first d k.0 k.1

    module _ (all : List Label) (ends : EndsIn all g t) where
      -- walked targets reach no cycle either
      pub walked_end : (q : Label) → Walked g t q → EndsIn all g q
      walked_end q (first d h w) = ends_at g (suc (length all)) t d ends (near_within g t d h)
      walked_end q (onward c d i o h w) = ends_at g (suc (length all)) c d (walked_end c i) (near_within g c d h)

      pub sound : (q : Label) → has (walked_in all g t) q ≡ true → Walked g t q
      sound q h = on (flat_has (λ d. d ∷ ends_in all (met_through g) d) (met_near g t) q h)
        where
          at : (d : Label) → has (met_near g t) d ≡ true → (b : Bool) → same_label q d ≡ b → (b || has (ends_in all (met_through g) d) q) ≡ true → Walked g t q
          at d m true e i = subst (Walked g t) (sym (same q d e)) (walked_first d m)
          at d m false e i =
              let s = ends_lead all (met_through g) d q i in
              subst (Walked g t) s.2 (walked_on d s.0 (walked_first d m) s.1)

          on : ((d : Label) × (has (met_near g t) d ≡ true) × (has (d ∷ ends_in all (met_through g) d) q ≡ true)) → Walked g t q
          on (d, m, i) = at d m (same_label q d) refl i

      pub whole : (q : Label) → Walked g t q → has (walked_in all g t) q ≡ true
      whole q w = on (led_to q w)
        where
          at : (d : Label) → has (met_near g t) d ≡ true → (d ≡ q) ⊎ Leads (met_through g) d q → has (d ∷ ends_in all (met_through g) d) q ≡ true
          at d m (inl e) = subst (λ (z : Label). has (d ∷ ends_in all (met_through g) d) z ≡ true) e (has_own d (ends_in all (met_through g) d))
          at d m (inr s) = has_later d (ends_in all (met_through g) d) q
              (leads_within all (met_through g) d g through_within (walked_end d (walked_first d m)) q s)

          on : IsLedTo q → has (walked_in all g t) q ≡ true
          on (d, m, r) = has_flat (λ d. d ∷ ends_in all (met_through g) d) (met_near g t) d q m (at d m r)

      pub in_order : HasNoTies → (default : List ℕ) → IsOrder default g t (order_in all default g t)
      in_order no_ties default = in_their_order no_ties default g (Walked g t) (walked_in all g t) sound whole (suc (length all)) walked_end

pub walks_those : WalksThose
walks_those all g t ends q = (sound g t all ends q, whole g t all ends q)

by_links : (b : Bool) (default : List ℕ) (g : Shape) (t : Label) (xs : List Label) → IsOrder default g t xs
    → InheritedBy b default g t (cond b (filter (λ q. is_library (g.kind q)) xs) [])
by_links true default g t xs o = (xs, o, refl)
by_links false default g t xs o = refl

pub inherits : HasNoTies → Inherits
unfolding inherited_in
inherits no_ties all default g t ends = by_links (links (g.kind t)) default g t (order_in all default g t) (in_order g t all ends no_ties default)

pub are_the_inherited : HasNoTies → IsOneOf IsInherited → AreTheInherited
are_the_inherited no_ties one all default g t ends ls i = one default g t ls (inherited_in all default g t) i (inherits no_ties all default g t ends)
