-- What follows from the rules of the answers is what is reached and generated over them.
use Rattle.std.proofs.Common.{◌≡◌, ℕ, List, [], ◌∷◌, ◌++◌, Option, Some, None, ◌⊎◌, ◌↔◌, inl, inr, refl, sym, ◌∙◌, ap, subst, Bool, true, false, cond, map}
use Rattle.std.specs.List.{flat_map}
use Rattle.gn_closure.specs.Closure.{Horn, In, Holds as Closes, by_base, by_rule}
use Rattle.gn_closure.specs.Reach.{Unit_key, Setup, Done, Fact, Is_reached, Is_wanted, Is_generated, Holds}
use Rattle.gn_closure.specs.Ground.{Step, Holding, Asked, Used, Defined, Set_up}
use Rattle.gn_closure.specs.Computed.{is_reached, same_unit, start_rules, unit_rules, known_system, first_system, system_at, holds_in}
use Rattle.gn_closure.specs.Least.{IsTooLarge}
use Rattle.gn_closure.proofs.Least.{derived_holds, holds_derived, computed_least}
use Rattle.gn_closure.proofs.SameStep.{unit_is}
use Rattle.gn_closure.proofs.Opened.{in_append, in_left, in_right, in_flat, flat_in}
use Rattle.gn_graph.specs.Facts.{under}
use Rattle.gn_graph.specs.Needs.{home}
use Rattle.gn_graph.specs.Numbers.{Derived, by_rule as derive}
use Rattle.gn_graph.specs.Replies.{Reply, reply, units_in, AreSingle, default_in, reply_rules, rules_by, all_rules}

in_map : {A B : Type 0} (f : A → B) (xs : List A) (y : B) → In (map f xs) y → (x : A) × In xs x × (f x ≡ y)
in_map f [] y i = absurd i
in_map f (x ∷ xs) y (inl e) = (x, inl refl, e)
in_map f (x ∷ xs) y (inr i) = let q = in_map f xs y i in (q.0, inr q.1, q.2)

map_in : {A B : Type 0} (f : A → B) (xs : List A) (x : A) → In xs x → In (map f xs) (f x)
map_in f [] x i = absurd i
map_in f (y ∷ xs) x (inl e) = inl (ap f e)
map_in f (y ∷ xs) x (inr i) = inr (map_in f xs x i)

-- an answer that the function gives stands in the list
pub told : (rs : List Reply) (k : Unit_key) (x : Option Done) → units_in rs k ≡ Some x → In rs (reply k x)
told [] k x e = absurd (cc e)
told (r ∷ rs) k x e = by (told rs k x) (same_unit r.unit k) refl e
  where
    by : (units_in rs k ≡ Some x → In rs (reply k x)) → (b : Bool) → same_unit r.unit k ≡ b → cond b (Some r.done) (units_in rs k) ≡ Some x → In (r ∷ rs) (reply k x)
    by rest true s e = let u : r.unit ≡ k = unit_is r.unit k s in let d : r.done ≡ x = cc e in inl (λ i. record { unit = u i; done = d i })
    by rest false s e = inr (rest e)

module _ (rs : List Reply) (single : AreSingle rs) (T : List ℕ) where
  known_derived : (s : Step) → Derived (start_rules ++ flat_map (reply_rules T) rs) s → Closes (known_system home T (units_in rs)) s
  known_derived s (derive h s' e i all) = go (in_append start_rules (flat_map (reply_rules T) rs) h i) (λ p n. known_derived p (all p n))
    where
      go : In start_rules h ⊎ In (flat_map (reply_rules T) rs) h → ((p : Step) → In h.needs p → Closes (known_system home T (units_in rs)) p) → Closes (known_system home T (units_in rs)) s'
      go (inl b) ih = by_base h s' e b ih
      go (inr b) ih =
          let q = in_flat (reply_rules T) rs h b in
          let r : Reply = q.0 in
          let g = in_map (under r.unit) (unit_rules home T (Some r.done) r.unit) h q.2 in
          let up : (p : Step) → In (g.0.needs ++ is_reached r.unit ∷ []) p → Closes (known_system home T (units_in rs)) p = λ p n. ih p (subst (λ (z : Horn Step). In z.needs p) g.2 n) in
          let own : In (unit_rules home T (units_in rs r.unit) r.unit) g.0 = subst (λ z. In (unit_rules home T z r.unit) g.0) (sym (single r q.1)) g.1 in
          by_rule (is_reached r.unit) g.0 s' (ap (λ (z : Horn Step). z.gives) g.2 ∙ e) refl (up (is_reached r.unit) (in_right g.0.needs (is_reached r.unit ∷ []) (is_reached r.unit) (inl refl))) own
          (λ p n. up p (in_left g.0.needs (is_reached r.unit ∷ []) p n))

  derived_known : (s : Step) → Closes (known_system home T (units_in rs)) s → Derived (start_rules ++ flat_map (reply_rules T) rs) s
  derived_known s (by_base h s' e i all) = derive h s' e (in_left start_rules (flat_map (reply_rules T) rs) h i) (λ p n. derived_known p (all p n))
  derived_known s (by_rule (Holding (Is_reached unit)) h s' e o ht i all) = go (λ p n. derived_known p (all p n)) (derived_known (is_reached unit) ht) (units_in rs unit) refl i
    where
      go : ((p : Step) → In h.needs p → Derived (start_rules ++ flat_map (reply_rules T) rs) p) → Derived (start_rules ++ flat_map (reply_rules T) rs) (is_reached unit)
          → (x : Option (Option Done)) → units_in rs unit ≡ x → In (unit_rules home T x unit) h → Derived (start_rules ++ flat_map (reply_rules T) rs) s'
      go ih own None x i = absurd i
      go ih own (Some None) x i = absurd i
      go ih own (Some (Some d)) x i =
          let there = flat_in (reply_rules T) rs (reply unit (Some d)) (under unit h) (told rs unit (Some d) x) (map_in (under unit) (unit_rules home T (Some (Some d)) unit) h i) in
          derive (under unit h) s' e (in_right start_rules (flat_map (reply_rules T) rs) (under unit h) there)
          (λ p n. elim (in_append h.needs (is_reached unit ∷ []) p n) [
            | inl a ↦ ih p a
            | inr (inl b) ↦ subst (Derived (start_rules ++ flat_map (reply_rules T) rs)) b own
            | inr (inr b) ↦ absurd b
          ])
  derived_known s (by_rule (Holding (Is_wanted d t)) h s' e o ht i all) = absurd i
  derived_known s (by_rule (Holding (Is_generated l)) h s' e o ht i all) = absurd i
  derived_known s (by_rule (Asked l) h s' e o ht i all) = absurd i
  derived_known s (by_rule (Used t) h s' e o ht i all) = absurd i
  derived_known s (by_rule (Defined t) h s' e o ht i all) = absurd i
  derived_known s (by_rule (Set_up t) h s' e o ht i all) = absurd i

first_closes : (s : Step) → Derived (start_rules ++ []) s → Closes first_system s
first_closes s (derive h s' e (inl i) all) = by_base h s' e (inl i) (λ p n. first_closes p (all p n))
first_closes s (derive h s' e (inr i) all) = absurd i

first_derived : (s : Step) → Closes first_system s → Derived (start_rules ++ []) s
first_derived s (by_base h s' e (inl i) all) = derive h s' e (inl i) (λ p n. first_derived p (all p n))
first_derived s (by_base h s' e (inr i) all) = absurd i
first_derived s (by_rule t h s' e o ht i all) = absurd i

closes_at : (rs : List Reply) → AreSingle rs → (x : Option (Option Done)) (s : Step) → Derived (start_rules ++ rules_by (default_in x) rs) s → Closes (system_at home (units_in rs) x) s
closes_at rs single None s d = first_closes s d
closes_at rs single (Some None) s d = first_closes s d
closes_at rs single (Some (Some u)) s d = known_derived rs single u.default s d

derived_at : (rs : List Reply) → AreSingle rs → (x : Option (Option Done)) (s : Step) → Closes (system_at home (units_in rs) x) s → Derived (start_rules ++ rules_by (default_in x) rs) s
derived_at rs single None s d = first_derived s d
derived_at rs single (Some None) s d = first_derived s d
derived_at rs single (Some (Some u)) s d = derived_known rs single u.default s d

pub reached_is : (rs : List Reply) → AreSingle rs → (f : Fact) → Derived (all_rules rs) (Holding f) ↔ Holds home (units_in rs) f
reached_is rs single f = (
  λ d. derived_holds home (units_in rs) f (closes_at rs single (units_in rs (Setup [])) (Holding f) d),
  λ h. derived_at rs single (units_in rs (Setup [])) (Holding f) (holds_derived home (units_in rs) f h),
)

-- so the facts found are those, and where no limit is exceeded those that are computed
pub graph_whole : (found : List Step) (rules : List (Horn Step)) (rs : List Reply) → AreSingle rs → rules ≡ all_rules rs → ((s : Step) → In found s ↔ Derived rules s) → (f : Fact)
    → In found (Holding f) ↔ Holds home (units_in rs) f
graph_whole found rules rs single e w f = (
  λ i. (reached_is rs single f).0 (subst (λ (z : List (Horn Step)). Derived z (Holding f)) e ((w (Holding f)).0 i)),
  λ h. (w (Holding f)).1 (subst (λ (z : List (Horn Step)). Derived z (Holding f)) (sym e) ((reached_is rs single f).1 h)),
)

pub graph_computed : (found : List Step) (rules : List (Horn Step)) (rs : List Reply) → AreSingle rs → rules ≡ all_rules rs → ((s : Step) → In found s ↔ Derived rules s)
    → (IsTooLarge home (units_in rs) → ⊥) → (f : Fact)
    → In found (Holding f) ↔ (holds_in home (units_in rs) f ≡ true)
graph_computed found rules rs single e w small f = (
  λ i. (computed_least home (units_in rs) small f).1 ((graph_whole found rules rs single e w f).0 i),
  λ h. (graph_whole found rules rs single e w f).1 ((computed_least home (units_in rs) small f).0 h),
)
