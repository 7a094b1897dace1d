-- What is computed is the least set of the rules.
use Rattle.std.proofs.Common.{◌≡◌, ℕ, suc, ◌+◌, ◌<◌, length, List, [], ◌∷◌, Option, Some, None, ◌⊎◌, ◌↔◌, inl, inr, refl, sym, ◌∙◌, ap, subst, Bool, true, false, ◌||◌, map, arith}
use Rattle.std.specs.List.{IsDistinct, AllByRecursion}
use Rattle.std.specs.Set.{is_member}
use Rattle.gn_closure.specs.Closure.{Horn, In, Holds as Derived, by_base, by_rule, facts, opened}
use Rattle.gn_closure.specs.Laws.{IsTested, AreMoreThan, exceeds, AreOfTwoKinds}
use Rattle.gn_closure.specs.Reach.{Unit_key, Setup, Load, Done, Units, Fact, Is_reached, Is_wanted, Is_generated, Rule, first, root, own, target, dependency, want, want_toolchain, want_pool, load, want_home, setup, other_load, Holds, by_rule as by_law}
use Rattle.gn_closure.specs.Ground.{Step, Holding, Asked, Used, Defined, Set_up}
use Rattle.gn_closure.specs.Computed.{is_reached, same_unit, same_step, opens_rules, first_system, system_at, system_of, load_limit, setup_limit, rounds, is_load, is_setup, all_facts, is_too_large, holds_in}
use Rattle.gn_closure.specs.Least.{IsLoad, IsSetup, ReachesMore, IsTooLarge, LimitsAreExact, ComputedIsSound, ComputedIsLeast}
use Rattle.gn_closure.proofs.Closed.{member_in}
use Rattle.gn_closure.proofs.Opened.{is_sound, whole_within, exceeds_exactly}
use Rattle.gn_closure.proofs.GroundRules.{holds_follows, follows_holds}
use Rattle.gn_closure.proofs.SameStep.{step_tested}
use Rattle.gn_closure.proofs.Instance.{derived_follows, follows_derived}

-- before the default setup is done, it alone is reached
module _ (home : List ℕ → List ℕ) (a : Units) (none : (d : Done) → a (Setup []) ≡ Some (Some d) → ⊥) where
  first_by : (fs : List Fact) (ts : List _) (f : Fact) → Rule home fs ts f → ((g : Fact) → In fs g → g ≡ Is_reached (Setup [])) → ((t : _) → In ts t → a t.unit ≡ Some (Some t.done)) → f ≡ Is_reached (Setup [])
  first_by fs ts f first hf ht = refl
  first_by fs ts f (root d) hf ht = absurd (none d (ht _ (inl refl)))
  first_by fs ts f (own d) hf ht = absurd (none d (ht _ (inl refl)))
  first_by fs ts f (target d u dir t i) hf ht = absurd (none d (ht _ (inl refl)))
  first_by fs ts f (dependency u v l m t s i n j o q) hf ht = let e : Is_generated m ≡ Is_reached (Setup []) = hf (Is_generated m) (inl refl) in cc
  first_by fs ts f (want u m l t i n j) hf ht = let e : Is_generated m ≡ Is_reached (Setup []) = hf (Is_generated m) (inl refl) in cc
  first_by fs ts f (want_toolchain d u m t i n) hf ht = absurd (none d (ht _ (inl refl)))
  first_by fs ts f (want_pool d u v m l t c i n j o q) hf ht = absurd (none d (ht _ (inl refl)))
  first_by fs ts f (load d dir) hf ht = absurd (none d (ht _ (inl refl)))
  first_by fs ts f (want_home d dir tc ne) hf ht = absurd (none d (ht _ (inl refl)))
  first_by fs ts f (setup d u dir c ne i) hf ht = absurd (none d (ht _ (inl refl)))
  first_by fs ts f (other_load d s dir tc ne) hf ht = absurd (none d (ht _ (inl refl)))

  first_alone : (f : Fact) → Holds home a f → f ≡ Is_reached (Setup [])
  first_alone f (by_law fs ts f' r hf ht e) = first_by fs ts f' r (λ g i. first_alone g (hf g i)) e

pub first_held : (home : List ℕ → List ℕ) (a : Units) → Holds home a (Is_reached (Setup []))
first_held home a = by_law [] [] (Is_reached (Setup [])) first (λ g i. absurd i) (λ t i. absurd i) (λ t i. absurd i)

first_derived : Derived first_system (is_reached (Setup []))
first_derived = by_base (record { needs = []; gives = is_reached (Setup []) }) (is_reached (Setup [])) refl (inl refl) (λ p i. absurd i)

first_gives : (s : Step) → Derived first_system s → s ≡ is_reached (Setup [])
first_gives s (by_base h f e (inl i) k) = sym e ∙ sym (ap (λ (r : Horn Step). r.gives) i)
first_gives s (by_base h f e (inr i) k) = absurd i
first_gives s (by_rule t h f e o ht i k) = absurd i

some_fact : (f g : Fact) → Holding f ≡ Holding g → f ≡ g
some_fact f g e = cc

-- the least set of the rules is that of the computed rules
derived_at : (home : List ℕ → List ℕ) (a : Units) (x : Option (Option Done)) → a (Setup []) ≡ x → (f : Fact) → Derived (system_at home a x) (Holding f) → Holds home a f
derived_at home a None e f d = subst (Holds home a) (sym (some_fact f (Is_reached (Setup [])) (first_gives (Holding f) d))) (first_held home a)
derived_at home a (Some None) e f d = subst (Holds home a) (sym (some_fact f (Is_reached (Setup [])) (first_gives (Holding f) d))) (first_held home a)
derived_at home a (Some (Some u)) e f d = follows_holds home u.default a u refl e f (derived_follows home u.default a (Holding f) d)

at_derived : (home : List ℕ → List ℕ) (a : Units) (x : Option (Option Done)) → a (Setup []) ≡ x → (f : Fact) → Holds home a f → Derived (system_at home a x) (Holding f)
at_derived home a None e f h = subst (λ g. Derived first_system (Holding g)) (sym (first_alone home a (λ d k. cc) f h)) first_derived
at_derived home a (Some None) e f h = subst (λ g. Derived first_system (Holding g)) (sym (first_alone home a (λ d k. cc) f h)) first_derived
at_derived home a (Some (Some u)) e f h = follows_derived home u.default a u e (Holding f) (holds_follows home u.default a u refl e f h)

pub derived_holds : (home : List ℕ → List ℕ) (a : Units) (f : Fact) → Derived (system_of home a) (Holding f) → Holds home a f
derived_holds home a f d = derived_at home a (a (Setup [])) refl f d

pub holds_derived : (home : List ℕ → List ℕ) (a : Units) (f : Fact) → Holds home a f → Derived (system_of home a) (Holding f)
holds_derived home a f h = at_derived home a (a (Setup [])) refl f h

-- whatever is known of the default toolchain, the test and the facts that open rules are the same
same_at : (home : List ℕ → List ℕ) (a : Units) (x : Option (Option Done)) → (system_at home a x).same ≡ same_step
same_at home a None = refl
same_at home a (Some None) = refl
same_at home a (Some (Some u)) = refl

opens_at : (home : List ℕ → List ℕ) (a : Units) (x : Option (Option Done)) → (system_at home a x).opens ≡ opens_rules
opens_at home a None = refl
opens_at home a (Some None) = refl
opens_at home a (Some (Some u)) = refl

tested_at : (home : List ℕ → List ℕ) (a : Units) (x : Option (Option Done)) → IsTested (system_at home a x)
tested_at home a None = step_tested
tested_at home a (Some None) = step_tested
tested_at home a (Some (Some u)) = step_tested

tested_of : (home : List ℕ → List ℕ) (a : Units) → IsTested (system_of home a)
tested_of home a = tested_at home a (a (Setup []))

kinds_by : (s : Step) → opens_rules s ≡ true → (is_load s ≡ true) ⊎ (is_setup s ≡ true)
kinds_by (Holding (Is_reached (Setup t))) o = inr refl
kinds_by (Holding (Is_reached (Load d t))) o = inl refl
kinds_by (Holding (Is_wanted d t)) o = cc
kinds_by (Holding (Is_generated l)) o = cc
kinds_by (Asked l) o = cc
kinds_by (Used t) o = cc
kinds_by (Defined t) o = cc
kinds_by (Set_up t) o = cc

kinds_of : (home : List ℕ → List ℕ) (a : Units) → AreOfTwoKinds (system_of home a) is_load is_setup
kinds_of home a s o = kinds_by s (subst (λ (p : Step → Bool). p s ≡ true) (opens_at home a (a (Setup []))) o)

room : load_limit + setup_limit < rounds
room = omega arith

-- Lists of units

abbrev pub unit_in : Step → Unit_key
unit_in (Holding (Is_reached k)) = k
unit_in _ = Setup []

-- a kind of facts is a kind of units
pub record IsKind (test : Step → Bool) (kind : Unit_key → Type 0) : Type 0 where
  pub there : (s : Step) → test s ≡ true → (k : Unit_key) × (s ≡ is_reached k) × kind k
  pub back : (k : Unit_key) → kind k → test (is_reached k) ≡ true

pub load_kind : IsKind is_load IsLoad
load_kind = record { there = there; back = back }
  where
    there : (s : Step) → is_load s ≡ true → (k : Unit_key) × (s ≡ is_reached k) × IsLoad k
    there (Holding (Is_reached (Setup t))) o = cc
    there (Holding (Is_reached (Load d t))) o = (Load d t, refl, tt)
    there (Holding (Is_wanted d t)) o = cc
    there (Holding (Is_generated l)) o = cc
    there (Asked l) o = cc
    there (Used t) o = cc
    there (Defined t) o = cc
    there (Set_up t) o = cc

    back : (k : Unit_key) → IsLoad k → is_load (is_reached k) ≡ true
    back (Setup t) i = absurd i
    back (Load d t) i = refl

pub setup_kind : IsKind is_setup IsSetup
setup_kind = record { there = there; back = back }
  where
    there : (s : Step) → is_setup s ≡ true → (k : Unit_key) × (s ≡ is_reached k) × IsSetup k
    there (Holding (Is_reached (Setup t))) o = (Setup t, refl, tt)
    there (Holding (Is_reached (Load d t))) o = cc
    there (Holding (Is_wanted d t)) o = cc
    there (Holding (Is_generated l)) o = cc
    there (Asked l) o = cc
    there (Used t) o = cc
    there (Defined t) o = cc
    there (Set_up t) o = cc

    back : (k : Unit_key) → IsSetup k → is_setup (is_reached k) ≡ true
    back (Setup t) i = refl
    back (Load d t) i = absurd i

module _ (home : List ℕ → List ℕ) (a : Units) (test : Step → Bool) (kind : Unit_key → Type 0) (is : IsKind test kind) where
  -- the units of these facts
  record AreUnits (xs : List Step) (ks : List Unit_key) : Type 0 where
    distinct : IsDistinct same_unit ks
    long : length ks ≡ length xs
    named : (k : Unit_key) → In ks k → In xs (is_reached k)

  apart_units : (k : Unit_key) (xs : List Step) → ((s : Step) → In xs s → test s ≡ true) → AllByRecursion (λ y. same_step (is_reached k) y ≡ false) xs → AllByRecursion (λ y. same_unit k y ≡ false) (map unit_in xs)
  apart_units k [] h d = tt
  apart_units k (x ∷ xs) h d =
      let t = is.there x (h x (inl refl)) in
      (subst (λ z. same_unit k (unit_in z) ≡ false) (sym t.1) (subst (λ z. same_step (is_reached k) z ≡ false) t.1 d.0), apart_units k xs (λ s i. h s (inr i)) d.1)

  pub distinct_units : (xs : List Step) → ((s : Step) → In xs s → test s ≡ true) → IsDistinct same_step xs → IsDistinct same_unit (map unit_in xs)
  unfolding IsDistinct
  distinct_units [] h d = tt
  distinct_units (x ∷ xs) h d =
      let t = is.there x (h x (inl refl)) in (
        subst (λ z. AllByRecursion (λ y. same_unit (unit_in z) y ≡ false) (map unit_in xs)) (sym t.1)
            (apart_units t.0 xs (λ s i. h s (inr i)) (subst (λ z. AllByRecursion (λ y. same_step z y ≡ false) xs) t.1 d.0)),
        distinct_units xs (λ s i. h s (inr i)) d.1,
      )

  pub long_units : (xs : List Step) → length (map unit_in xs) ≡ length xs
  long_units [] = refl
  long_units (x ∷ xs) = ap suc (long_units xs)

  pub named_units : (xs : List Step) → ((s : Step) → In xs s → test s ≡ true) → (k : Unit_key) → In (map unit_in xs) k → In xs (is_reached k)
  named_units [] h k i = absurd i
  named_units (x ∷ xs) h k (inl e) =
      let t = is.there x (h x (inl refl)) in
      inl (t.1 ∙ ap is_reached (sym (ap unit_in t.1) ∙ e))
  named_units (x ∷ xs) h k (inr i) = inr (named_units xs (λ s j. h s (inr j)) k i)

  pub kind_at : (k : Unit_key) → test (is_reached k) ≡ true → kind k
  kind_at k t = let w = is.there (is_reached k) t in subst kind (sym (ap unit_in w.1)) w.2

  apart_steps : (k : Unit_key) (ks : List Unit_key) → AllByRecursion (λ y. same_unit k y ≡ false) ks → AllByRecursion (λ y. same_step (is_reached k) y ≡ false) (map is_reached ks)
  apart_steps k [] d = tt
  apart_steps k (q ∷ ks) d = (d.0, apart_steps k ks d.1)

  pub distinct_steps : (ks : List Unit_key) → IsDistinct same_unit ks → IsDistinct same_step (map is_reached ks)
  unfolding IsDistinct
  distinct_steps [] d = tt
  distinct_steps (k ∷ ks) d = (apart_steps k ks d.0, distinct_steps ks d.1)

  pub long_steps : (ks : List Unit_key) → length (map is_reached ks) ≡ length ks
  long_steps [] = refl
  long_steps (k ∷ ks) = ap suc (long_steps ks)

  pub named_steps : (ks : List Unit_key) (s : Step) → In (map is_reached ks) s → (k : Unit_key) × In ks k × (s ≡ is_reached k)
  named_steps [] s i = absurd i
  named_steps (k ∷ ks) s (inl e) = (k, inl refl, sym e)
  named_steps (k ∷ ks) s (inr i) = let w = named_steps ks s i in (w.0, inr w.1, w.2)

  module _ (limit : ℕ) where
    more_at : (x : Option (Option Done)) → a (Setup []) ≡ x → AreMoreThan (system_at home a x) test limit → ReachesMore kind home a limit
    more_at x e m = (
      map unit_in m.0,
      distinct_units m.0 tests (subst (λ (q : Step → Step → Bool). IsDistinct q m.0) (same_at home a x) m.1),
      subst (λ z. limit < z) (sym (long_units m.0)) m.2,
      λ k i. let j = held k i in (kind_at k j.0, derived_at home a x e (Is_reached k) j.1),
    )
      where
        member : (xs : List Step) (s : Step) → In xs s → is_member (system_at home a x).same xs s ≡ true
        member xs s i = subst (λ (q : Step → Step → Bool). is_member q xs s ≡ true) (sym (same_at home a x)) (by xs i)
          where
            by : (ys : List Step) → In ys s → is_member same_step ys s ≡ true
            by [] j = absurd j
            by (y ∷ ys) (inl f) = subst (λ z. is_member same_step (y ∷ ys) z ≡ true) f (rw ((step_tested y y).1 refl) refl)
            by (y ∷ ys) (inr j) = go (same_step s y) (is_member same_step ys s) (by ys j)
              where
                go : (b c : Bool) → c ≡ true → (b || c) ≡ true
                go true c f = refl
                go false c f = f

        tests : (s : Step) → In m.0 s → test s ≡ true
        tests s i = (m.3 s (member m.0 s i)).0

        held : (k : Unit_key) → In (map unit_in m.0) k → (test (is_reached k) ≡ true) × Derived (system_at home a x) (is_reached k)
        held k i = let j = named_units m.0 tests k i in let w = m.3 (is_reached k) (member m.0 (is_reached k) j) in (w.0, w.2)

    at_more : (x : Option (Option Done)) → a (Setup []) ≡ x → ReachesMore kind home a limit → AreMoreThan (system_at home a x) test limit
    at_more x e m = (
      map is_reached m.0,
      subst (λ (q : Step → Step → Bool). IsDistinct q (map is_reached m.0)) (sym (same_at home a x)) (distinct_steps m.0 m.1),
      subst (λ z. limit < z) (sym (long_steps m.0)) m.2,
      held,
    )
      where
        by : (s : Step) → (k : Unit_key) × In m.0 k × (s ≡ is_reached k) → (test s ≡ true) × ((system_at home a x).opens s ≡ true) × Derived (system_at home a x) s
        by s w =
            let k = m.3 w.0 w.1 in (
              subst (λ z. test z ≡ true) (sym w.2) (is.back w.0 k.0),
              subst (λ z. (system_at home a x).opens z ≡ true) (sym w.2) (subst (λ (p : Step → Bool). p (is_reached w.0) ≡ true) (sym (opens_at home a x)) refl),
              subst (Derived (system_at home a x)) (sym w.2) (at_derived home a x e (Is_reached w.0) k.1),
            )

        held : (s : Step) → is_member (system_at home a x).same (map is_reached m.0) s ≡ true → (test s ≡ true) × ((system_at home a x).opens s ≡ true) × Derived (system_at home a x) s
        held s i = by s (named_steps m.0 s (member_in (system_at home a x).same (tested_at home a x) (map is_reached m.0) s i))

pub limits_exact : LimitsAreExact
unfolding is_too_large
limits_exact home a = (λ h. there (exact.0 h), λ h. exact.1 (back h))
  where
    exact : (exceeds (system_of home a) rounds is_load load_limit is_setup setup_limit ≡ true) ↔ (AreMoreThan (system_of home a) is_load load_limit ⊎ AreMoreThan (system_of home a) is_setup setup_limit)
    exact = exceeds_exactly (system_of home a) (tested_of home a) rounds is_load load_limit is_setup setup_limit (kinds_of home a) room

    there : AreMoreThan (system_of home a) is_load load_limit ⊎ AreMoreThan (system_of home a) is_setup setup_limit → IsTooLarge home a
    there (inl m) = inl (more_at home a is_load IsLoad load_kind load_limit (a (Setup [])) refl m)
    there (inr m) = inr (more_at home a is_setup IsSetup setup_kind setup_limit (a (Setup [])) refl m)

    back : IsTooLarge home a → AreMoreThan (system_of home a) is_load load_limit ⊎ AreMoreThan (system_of home a) is_setup setup_limit
    back (inl m) = inl (at_more home a is_load IsLoad load_kind load_limit (a (Setup [])) refl m)
    back (inr m) = inr (at_more home a is_setup IsSetup setup_kind setup_limit (a (Setup [])) refl m)

-- the list that is computed, under the test of the system
holds_in_is : (home : List ℕ → List ℕ) (a : Units) (f : Fact) → (holds_in home a f ≡ is_member (system_of home a).same (facts (system_of home a) (opened (system_of home a) rounds)) (Holding f))
unfolding all_facts
holds_in_is home a f = ap (λ (q : Step → Step → Bool). is_member q (facts (system_of home a) (opened (system_of home a) rounds)) (Holding f)) (sym (same_at home a (a (Setup []))))

pub computed_sound : ComputedIsSound
computed_sound home a f h = derived_holds home a f (is_sound (system_of home a) (tested_of home a) rounds (Holding f) (sym (holds_in_is home a f) ∙ h))

pub computed_least : ComputedIsLeast
unfolding is_too_large
computed_least home a small f = (computed_sound home a f, whole)
  where
    not_exceeded : exceeds (system_of home a) rounds is_load load_limit is_setup setup_limit ≡ true → ⊥
    not_exceeded h = small ((limits_exact home a).0 h)

    whole : Holds home a f → holds_in home a f ≡ true
    whole h = holds_in_is home a f ∙ (whole_within (system_of home a) (tested_of home a) rounds is_load load_limit is_setup setup_limit (kinds_of home a) room not_exceeded (Holding f) (holds_derived home a f h)).0
