-- Rules are taken in: what is kept stands together.
use Rattle.std.proofs.Common.{◌≡◌, ℕ, zero, suc, ◌<◌, List, [], ◌∷◌, ◌++◌, length, take, get_or, true, false}
use Rattle.std.proofs.Common.{Option, Some, None, slice_get, option_map, refl, sym, ◌∙◌, ap, subst, ◌⊎◌, inl, inr, nat_eq, eq-eqb, true≢false, arith}
use Rattle.std.specs.List.{IsDistinct}
use Rattle.std.specs.Cmp.{nat_eq_equiv}
use Rattle.std.proofs.lemmas.Bool.{cases_lt, false_from_ne_true}
use Rattle.std.proofs.lemmas.List.{map-append, take_all, take-append-le, append_assoc, length-append}
use Rattle.std.proofs.lemmas.Option.{slice_get_within, get_or_from_slice_get, slice_get-map}
use Rattle.std.proofs.lemmas.Map.Keys.{apart_from_distinct, IsDistinct-push}
use Rattle.gn_closure.specs.Closure.{Horn, In}
use Rattle.gn_closure.specs.Ground.{Step}
use Rattle.gn_closure.proofs.Opened.{in_append, in_left, in_right}
use Rattle.gn_graph.specs.declared.clause.Clause.{Clause}
use Rattle.gn_graph.specs.Clauses.{has, horn_of, horns, Follows, held, rule}
use Rattle.gn_graph.specs.Plans.{AllIn, IsPlan}
use Rattle.gn_graph.specs.Numbers.{Derived, by_rule, Grows, IsTable, Extends, AreAt, StandsFor, StandFor, fact_of, facts_of, horn_at, horns_at, IsMore, IsWhole, HasAdded}
use Rattle.gn_graph.specs.States.{State, state, waiting_in, found_in, known_of, IsSound, AreKept, Grown, From, known, by_horn, Took, TookIn, IsNumbered}
use Rattle.gn_graph.proofs.Has.{has-left, has_in_take, index_has}
use Rattle.gn_graph.proofs.Results.{more_none}
use Rattle.gn_graph.proofs.PlanSteps.{last_or, used_more}
use Rattle.gn_graph.proofs.Table.{extends_on, at_grows, stand_grows, stand_more, at_push, fact_is, at_is, horn_is, horns_is, own_at, at_has, stand_at, in_facts, facts_in, in_horns, horns_in}

-- ---- the table grows, and what is kept stays
module _ (a : State) (k : ℕ) (s : IsSound a k) where
  pub found_at : (f : ℕ) → has a.found f ≡ true → slice_get a.table f ≡ Some (fact_of a.table f)
  found_at = at_has a.table a.found (found_in a) s.named

  pub waiting_stay : (t : List Step) → Grows a.table t → horns_at t a.rules ≡ waiting_in a
  waiting_stay t g = horns_is t a.rules (waiting_in a) (stand_grows a.table t g a.rules (waiting_in a) s.stands)

  pub found_stay : (t : List Step) → Grows a.table t → facts_of t a.found ≡ found_in a
  found_stay t g = at_is t a.found (found_in a) (at_grows a.table t g a.found (found_in a) s.named)

  pub sound_table : (t : List Step) (v : ℕ → List ℕ) → Extends a.table t → AreKept a.uses v → IsSound (state t a.rules a.found v) k
  sound_table t v e kept = record {
    table = e.1 s.table;
    stands = subst (λ (z : List (Horn Step)). StandFor t a.rules z) (sym (waiting_stay t e.0)) (stand_grows a.table t e.0 a.rules (waiting_in a) s.stands);
    named = subst (λ (z : List Step). AreAt t a.found z) (sym (found_stay t e.0)) (at_grows a.table t e.0 a.found (found_in a) s.named);
    closed = s.closed;
    used = λ i r p ri n m. kept p i (s.used i r p ri n m);
    once = s.once;
    within = s.within;
  }

  pub took_table : (t : List Step) (v : ℕ → List ℕ) → Grows a.table t → Took a (state t a.rules a.found v) []
  took_table t v g = record {
    each = λ h i. absurd i;
    part = λ h i. inl (subst (λ (z : List (Horn Step)). In z h) (waiting_stay t g) i);
    sound = λ x i. known x (subst (λ (z : List Step). In z x) (found_stay t g) i);
  }

  -- ---- one rule: it gives nothing new
  pub took_known : (h : Horn Step) (n : ℕ) → has a.found n ≡ true → slice_get a.table n ≡ Some h.gives → Took a a (h ∷ [])
  took_known h n m e = record {
    each = λ g i. elim i [ inl f ↦ inr (subst (λ (z : Horn Step). In (found_in a) z.gives) f there) | inr b ↦ absurd b ];
    part = λ g i. inl i;
    sound = λ x i. known x i;
  }
    where
      there : In (found_in a) h.gives
      there = subst (In (found_in a)) (fact_is a.table n h.gives e) (facts_in a.table a.found n m)

  -- all that it needs holds
  module _ (h : Horn Step) (r : Horn ℕ) (st : StandsFor a.table r h) (ready : AllIn a.found r.needs) where
    last_fact : facts_of a.table (a.found ++ r.gives ∷ []) ≡ found_in a ++ fact_of a.table r.gives ∷ []
    last_fact = map-append (fact_of a.table) a.found (r.gives ∷ [])

    gives_is : fact_of a.table r.gives ≡ h.gives
    gives_is = fact_is a.table r.gives h.gives st.1

    pub took_ready : Took a (state a.table a.rules (a.found ++ r.gives ∷ []) a.uses) (h ∷ [])
    took_ready = record {
      each = λ g i. elim i [
        | inl f ↦ inr (subst (λ (z : List Step). In z g.gives) (sym last_fact) (in_right (found_in a) (fact_of a.table r.gives ∷ []) g.gives (inl (gives_is ∙ ap (λ (z : Horn Step). z.gives) f))))
        | inr b ↦ absurd b
      ];
      part = λ g i. inl i;
      sound = λ x i. by x (in_append (found_in a) (fact_of a.table r.gives ∷ []) x (subst (λ (z : List Step). In z x) last_fact i));
    }
      where
        need : (p : Step) → In h.needs p → In (found_in a) p
        need p n =
            let q = in_facts a.table r.needs p (subst (λ (z : List Step). In z p) (sym (at_is a.table r.needs h.needs st.0)) n) in
            subst (In (found_in a)) q.2 (facts_in a.table a.found q.0 (ready q.0 q.1))

        by : (x : Step) → In (found_in a) x ⊎ In (fact_of a.table r.gives ∷ []) x → From (waiting_in a ++ h ∷ []) (found_in a) x
        by x (inl i) = known x i
        by x (inr (inl e)) = by_horn h x (sym gives_is ∙ e) (in_right (waiting_in a) (h ∷ []) h (inl refl)) (λ p n. known p (need p n))
        by x (inr (inr b)) = absurd b

    pub sound_ready : has a.found r.gives ≡ false → IsSound (state a.table a.rules (a.found ++ r.gives ∷ []) a.uses) k
    sound_ready out = record {
      table = s.table;
      stands = s.stands;
      named = subst (λ (z : List Step). AreAt a.table (a.found ++ r.gives ∷ []) z) (sym last_fact)
          (at_push a.table a.found (found_in a) r.gives (fact_of a.table r.gives) s.named (st.1 ∙ ap Some (sym gives_is)));
      closed = λ i q qi all. has-left a.found (r.gives ∷ []) q.gives (s.closed i q qi (λ p n. ap (λ (z : List ℕ). has z p) (sym cut) ∙ all p n));
      used = λ i q p qi n m. s.used i q p qi n (ap (λ (z : List ℕ). has z p) (sym cut) ∙ m);
      once = IsDistinct-push nat_eq_equiv _ _ s.once out;
      within = omega (arith, s.within, length-append a.found (r.gives ∷ []));
    }
      where
        cut : take k (a.found ++ r.gives ∷ []) ≡ take k a.found
        cut = take-append-le k a.found (r.gives ∷ []) s.within

  -- or it waits
  module _ (h : Horn Step) (r : Horn ℕ) (st : StandsFor a.table r h) (v : ℕ → List ℕ) where
    last_rule : horns_at a.table (a.rules ++ r ∷ []) ≡ waiting_in a ++ horn_at a.table r ∷ []
    last_rule = map-append (horn_at a.table) a.rules (r ∷ [])

    rule_is : horn_at a.table r ≡ h
    rule_is = horn_is a.table r h st

    pub took_waiting : Took a (state a.table (a.rules ++ r ∷ []) a.found v) (h ∷ [])
    took_waiting = record {
      each = λ g i. elim i [
        | inl f ↦ inl (subst (λ (z : List (Horn Step)). In z g) (sym last_rule) (in_right (waiting_in a) (horn_at a.table r ∷ []) g (inl (rule_is ∙ f))))
        | inr b ↦ absurd b
      ];
      part = λ g i. elim (in_append (waiting_in a) (horn_at a.table r ∷ []) g (subst (λ (z : List (Horn Step)). In z g) last_rule i)) [
        | inl j ↦ inl j
        | inr (inl e) ↦ inr (inl (sym rule_is ∙ e))
        | inr (inr b) ↦ absurd b
      ];
      sound = λ x i. known x i;
    }

    pub sound_waiting : (AllIn a.found r.needs → ⊥) → AreKept a.uses v → ((p : ℕ) → has r.needs p ≡ true → has (take k a.found) p ≡ false → has (v p) (length a.rules) ≡ true)
        → IsSound (state a.table (a.rules ++ r ∷ []) a.found v) k
    sound_waiting wait kept own = record {
      table = s.table;
      stands = subst (λ (z : List (Horn Step)). StandFor a.table (a.rules ++ r ∷ []) z) (sym last_rule)
          (stand_more a.table a.rules (waiting_in a) (r ∷ []) (horn_at a.table r ∷ []) s.stands (subst (StandsFor a.table r) (sym rule_is) st, tt));
      named = s.named;
      closed = λ i q qi all. elim (last_or a.rules r i q qi) [
        | inl e ↦ s.closed i q e all
        | inr e ↦ absurd (wait (λ p n. has_in_take k a.found p (all p (ap (λ (z : Horn ℕ). has z.needs p) (sym e.1) ∙ n))))
      ];
      used = used_more a.rules r (take k a.found) a.uses v s.used kept own;
      once = s.once;
      within = s.within;
    }

  -- ---- what follows from the rules that wait
  module _ (new : List ℕ) (plan : IsPlan a.rules a.found new) where
    named_in : (f : ℕ) → Follows a.rules a.found f → slice_get a.table f ≡ Some (fact_of a.table f)
    named_in f (held g m) = found_at g m
    named_in f (rule i r g ri e all) =
        let w : slice_get a.table r.gives ≡ Some (fact_of a.table r.gives) = (stand_at a.table a.rules s.stands i r ri).1 in
        subst (λ (z : ℕ). slice_get a.table z ≡ Some (fact_of a.table z)) e w

    from_rules : (f : ℕ) → Follows a.rules a.found f → From (waiting_in a ++ []) (found_in a) (fact_of a.table f)
    from_rules f (held g m) = known (fact_of a.table g) (facts_in a.table a.found g m)
    from_rules f (rule i r g ri e all) = by_horn (horn_at a.table r) (fact_of a.table g) (ap (fact_of a.table) e)
        (in_left (waiting_in a) [] (horn_at a.table r) (horns_in a.table a.rules i r ri))
        (λ p n. let q = in_facts a.table r.needs p n in subst (From (waiting_in a ++ []) (found_in a)) q.2 (from_rules q.0 (all q.0 q.1)))

    pub took_plan : Took a (state a.table a.rules new a.uses) []
    took_plan = record {
      each = λ h i. absurd i;
      part = λ h i. inl i;
      sound = λ x i. let q = in_facts a.table new x i in subst (From (waiting_in a ++ []) (found_in a)) q.2 (from_rules q.0 (plan.sound q.0 q.1));
    }

    pub sound_plan : IsSound (state a.table a.rules new a.uses) (length new)
    sound_plan = record {
      table = s.table;
      stands = s.stands;
      named = own_at a.table new (λ f m. named_in f (plan.sound f m));
      closed = λ i r ri all. plan.closed i r ri (λ p n. ap (λ (z : List ℕ). has z p) (sym whole) ∙ all p n);
      used = λ i r p ri n m. s.used i r p ri n (false_from_ne_true (has (take k a.found) p) (λ e. true≢false (sym (later p (has_in_take k a.found p e)) ∙ ap (λ (z : List ℕ). has z p) (sym whole) ∙ m)));
      once = plan.once;
      within = omega arith;
    }
      where
        whole : take (length new) new ≡ new
        whole = take_all (length new) new (omega arith)

        later : (p : ℕ) → has a.found p ≡ true → has new p ≡ true
        later p m = ap (λ (z : List ℕ). has z p) plan.grows ∙ has-left a.found plan.rest p m

-- ---- nothing is lost
pub more_on : {A : Type 0} (xs ys zs : List A) → IsMore xs ys → IsMore ys zs → IsMore xs zs
more_on xs ys zs f g = (f.0 ++ g.0, g.1 ∙ ap (λ z. z ++ g.0) f.1 ∙ append_assoc xs f.0 g.0)

pub grown_on : (a b c : State) → Grown a b → Grown b c → Grown a c
grown_on a b c f g = record {
  table = extends_on a.table b.table c.table f.table g.table;
  rules = more_on a.rules b.rules c.rules f.rules g.rules;
  found = more_on a.found b.found c.found f.found g.found;
  uses = λ q j m. g.uses q j (f.uses q j m);
}

pub grown_table : (a : State) (t : List Step) (rs : List (Horn ℕ)) (found : List ℕ) (v : ℕ → List ℕ) → Extends a.table t → rs ≡ a.rules → found ≡ a.found → AreKept a.uses v → Grown a (state t rs found v)
grown_table a t rs found v e r f u = record { table = e; rules = more_none a.rules rs r; found = more_none a.found found f; uses = u }

pub grown_none : (a : State) → Grown a a
grown_none a = record { table = (λ n s e. e, λ t. t); rules = more_none a.rules a.rules refl; found = more_none a.found a.found refl; uses = λ q j m. m }

pub took_nothing : (a : State) → Took a a []
took_nothing a = record { each = λ h i. absurd i; part = λ h i. inl i; sound = λ x i. known x i }

waiting_more : (a b : State) (k : ℕ) → IsSound a k → Grown a b → (h : Horn Step) → In (waiting_in a) h → In (waiting_in b) h
waiting_more a b k s g h i =
    subst (λ (z : List (Horn Step)). In z h) (sym (ap (horns_at b.table) g.rules.1 ∙ map-append (horn_at b.table) a.rules g.rules.0))
    (in_left (horns_at b.table a.rules) (horns_at b.table g.rules.0) h (subst (λ (z : List (Horn Step)). In z h) (sym (waiting_stay a k s b.table g.table.0)) i))

found_is : (a b : State) (k : ℕ) → IsSound a k → (g : Grown a b) → found_in b ≡ found_in a ++ facts_of b.table g.found.0
found_is a b k s g = ap (facts_of b.table) g.found.1 ∙ map-append (fact_of b.table) a.found g.found.0 ∙ ap (λ (z : List Step). z ++ facts_of b.table g.found.0) (found_stay a k s b.table g.table.0)

found_more : (a b : State) (k : ℕ) → IsSound a k → Grown a b → (x : Step) → In (found_in a) x → In (found_in b) x
found_more a b k s g x i = subst (λ (z : List Step). In z x) (sym (found_is a b k s g)) (in_left (found_in a) (facts_of b.table g.found.0) x i)

from_on : (rs qs : List (Horn Step)) (base first : List Step) → ((h : Horn Step) → In rs h → In qs h) → ((x : Step) → In base x → From qs first x) → (x : Step) → From rs base x → From qs first x
from_on rs qs base first part b x (known y i) = b y i
from_on rs qs base first part b x (by_horn h y e i all) = by_horn h y e (part h i) (λ p n. from_on rs qs base first part b p (all p n))

-- rules are taken in after others
pub took_on : (a b c : State) (k : ℕ) (hs gs : List (Horn Step)) → IsSound b k → Grown b c → Took a b hs → Took b c gs → Took a c (hs ++ gs)
took_on a b c k hs gs s grown t u = record {
  each = λ h i. elim (in_append hs gs h i) [
    | inl j ↦ elim (t.each h j) [ inl w ↦ inl (waiting_more b c k s grown h w) | inr f ↦ inr (found_more b c k s grown h.gives f) ]
    | inr j ↦ u.each h j
  ];
  part = λ h i. elim (u.part h i) [
    | inl j ↦ elim (t.part h j) [ inl w ↦ inl w | inr f ↦ inr (in_left hs gs h f) ]
    | inr j ↦ inr (in_right hs gs h j)
  ];
  sound = λ x i. from_on (waiting_in b ++ gs) all (found_in b) (found_in a) lifted (λ y j. from_on (waiting_in a ++ hs) all (found_in a) (found_in a) left (λ z m. known z m) y (t.sound y j)) x (u.sound x i);
}
  where
    all : List (Horn Step)
    all = waiting_in a ++ (hs ++ gs)

    left : (h : Horn Step) → In (waiting_in a ++ hs) h → In all h
    left h i = elim (in_append (waiting_in a) hs h i) [
      | inl j ↦ in_left (waiting_in a) (hs ++ gs) h j
      | inr j ↦ in_right (waiting_in a) (hs ++ gs) h (in_left hs gs h j)
    ]

    lifted : (h : Horn Step) → In (waiting_in b ++ gs) h → In all h
    lifted h i = elim (in_append (waiting_in b) gs h i) [
      | inl j ↦ elim (t.part h j) [ inl w ↦ in_left (waiting_in a) (hs ++ gs) h w | inr f ↦ in_right (waiting_in a) (hs ++ gs) h (in_left hs gs h f) ]
      | inr j ↦ in_right (waiting_in a) (hs ++ gs) h (in_right hs gs h j)
    ]

pub taken_on : (a b c : State) (k j : ℕ) (hs gs : List (Horn Step)) → Grown b c → TookIn k a b hs → TookIn j b c gs → TookIn j a c (hs ++ gs)
taken_on a b c k j hs gs g t u = (u.0, took_on a b c k hs gs t.0 g t.1 u.1)

-- ---- at the end
-- a fact is found once
found_once : (a : State) (k : ℕ) → IsSound a k → IsTable (found_in a)
found_once a k s i j x f g = elim (cases_lt i j) [
  | inl l ↦ absurd (apart i j l f g)
  | inr l ↦ elim (cases_lt j i) [ inl m ↦ absurd (apart j i m g f) | inr m ↦ omega (arith, l, m) ]
]
  where
    number : (i : ℕ) → slice_get (found_in a) i ≡ Some x → (n : ℕ) × (slice_get a.found i ≡ Some n) × (fact_of a.table n ≡ x)
    number i e = by (slice_get a.found i) refl (sym (slice_get-map (fact_of a.table) a.found i) ∙ e)
      where
        by : (o : Option ℕ) → slice_get a.found i ≡ o → option_map (fact_of a.table) o ≡ Some x → (n : ℕ) × (slice_get a.found i ≡ Some n) × (fact_of a.table n ≡ x)
        by None e f = absurd (cc f)
        by (Some n) e f = (n, e, cc f)

    apart : (i j : ℕ) → i < j → slice_get (found_in a) i ≡ Some x → slice_get (found_in a) j ≡ Some x → ⊥
    apart i j l e f =
        let p = number i e in
        let q = number j f in
        let fp : slice_get a.table p.0 ≡ Some x = found_at a k s p.0 (index_has a.found i p.0 p.1) ∙ ap Some p.2 in
        let fq : slice_get a.table q.0 ≡ Some x = found_at a k s q.0 (index_has a.found j q.0 q.1) ∙ ap Some q.2 in
        let same : p.0 ≡ q.0 = s.table p.0 q.0 x fp fq in
        let no : nat_eq (get_or a.found i 0) (get_or a.found j 0) ≡ false = apart_from_distinct nat_eq a.found i j 0 s.once l (slice_get_within a.found j q.0 q.1) in
        let yes : nat_eq (get_or a.found i 0) (get_or a.found j 0) ≡ true
        = eq-eqb (get_or a.found i 0) (get_or a.found j 0) (get_or_from_slice_get a.found i p.0 0 p.1 ∙ same ∙ sym (get_or_from_slice_get a.found j q.0 0 q.1)) in
        true≢false (sym yes ∙ no)

-- all that follows was found
module _ (a : State) (s : IsSound a (length a.found)) (rules : List (Horn Step)) (each : (h : Horn Step) → In rules h → In (waiting_in a) h ⊎ In (found_in a) h.gives) where
  pub all_found : (x : Step) → Derived rules x → In (found_in a) x
  all_found x (by_rule h y e i all) = go (each h i) (λ p n. all_found p (all p n))
    where
      go : In (waiting_in a) h ⊎ In (found_in a) h.gives → ((p : Step) → In h.needs p → In (found_in a) p) → In (found_in a) y
      go (inr j) ih = subst (In (found_in a)) e j
      go (inl j) ih =
          let q = in_horns a.table a.rules h j in
          let r : Horn ℕ = q.1 in
          let ready : AllIn a.found r.needs = λ p n.
          let w : In (found_in a) (fact_of a.table p) = ih (fact_of a.table p) (subst (λ (z : Horn Step). In z.needs (fact_of a.table p)) q.3 (facts_in a.table r.needs p n)) in
          let g = in_facts a.table a.found (fact_of a.table p) w in
          let same : g.0 ≡ p = s.table g.0 p (fact_of a.table p) (found_at a (length a.found) s g.0 g.1 ∙ ap Some g.2)
          (at_has a.table r.needs (facts_of a.table r.needs) (stand_at a.table a.rules s.stands q.0 r q.2).0 p n) in
          subst (λ (z : ℕ). has a.found z ≡ true) same g.1 in
          let there : In (found_in a) (fact_of a.table r.gives) = facts_in a.table a.found r.gives
          (s.closed q.0 r q.2 (λ p n. ap (λ (z : List ℕ). has z p) (take_all (length a.found) a.found (omega arith)) ∙ ready p n)) in
          subst (In (found_in a)) (ap (λ (z : Horn Step). z.gives) q.3 ∙ e) there

derived_from : (rs qs : List (Horn Step)) (base : List Step) → ((h : Horn Step) → In rs h → In qs h) → ((x : Step) → In base x → Derived qs x) → (x : Step) → From rs base x → Derived qs x
derived_from rs qs base part b x (known y i) = b y i
derived_from rs qs base part b x (by_horn h y e i all) = by_rule h y e (part h i) (λ p n. derived_from rs qs base part b p (all p n))

derived_more : (rs qs : List (Horn Step)) → (x : Step) → Derived rs x → Derived (rs ++ qs) x
derived_more rs qs x (by_rule h y e i all) = by_rule h y e (in_left rs qs h i) (λ p n. derived_more rs qs p (all p n))

pub has_added : (a b : State) (k : ℕ) (more : List (Horn Step)) → IsSound a k → Grown a b → TookIn (length b.found) a b more → HasAdded (known_of a) (known_of b) more
has_added a b k more s g t = record {
  found = (facts_of b.table g.found.0, found_is a b k s g);
  whole = λ rules w. record {
    whole = λ x. (
      λ i. derived_from (waiting_in a ++ more) (rules ++ more) (found_in a)
          (λ h j. elim (in_append (waiting_in a) more h j) [ inl m ↦ in_left rules more h (w.part h m) | inr m ↦ in_right rules more h m ])
          (λ y j. derived_more rules more y ((w.whole y).0 j)) x (t.1.sound x i),
      λ d. all_found b t.0 (rules ++ more) (every rules w) x d,
    );
    once = found_once b (length b.found) t.0;
    each = every rules w;
    part = λ h i. elim (t.1.part h i) [ inl j ↦ in_left rules more h (w.part h j) | inr j ↦ in_right rules more h j ];
  };
}
  where
    every : (rules : List (Horn Step)) → IsWhole rules (known_of a) → (h : Horn Step) → In (rules ++ more) h → In (waiting_in b) h ⊎ In (found_in b) h.gives
    every rules w h i = elim (in_append rules more h i) [
      | inl j ↦ elim (w.each h j) [ inl m ↦ inl (waiting_more a b k s g h m) | inr m ↦ inr (found_more a b k s g h.gives m) ]
      | inr j ↦ t.1.each h j
    ]

-- no rules
pub none_whole : IsWhole [] (record { waiting = []; found = [] })
none_whole = record {
  whole = λ x. (λ i. absurd i, λ d. none x d);
  once = λ i j x e. absurd (cc e);
  each = λ h i. absurd i;
  part = λ h i. absurd i;
}
  where
    none : (x : Step) → Derived [] x → In {A = Step} [] x
    none x (by_rule h y e i all) = absurd i

-- the numbers of a rule, and that of its unit
pub numbered_hung : (t : List Step) (found needs new : List ℕ) (unit : Step) (hs : List Step) (g : Step) (n : ℕ) (o : Option ℕ) → new ≡ needs ++ n ∷ [] → slice_get t n ≡ Some unit
    → IsNumbered t found needs (record { needs = hs; gives = g }) o → IsNumbered t found new (record { needs = hs ++ unit ∷ []; gives = g }) o
numbered_hung t found needs new unit hs g n None e at x = x
numbered_hung t found needs new unit hs g n (Some f) e at (m, s) = (m, (subst (λ (z : List ℕ). AreAt t z (hs ++ unit ∷ [])) (sym e) (at_push t needs hs n unit s.0 at), s.1))

-- ---- nothing is taken in, or what was taken in is taken back
none_sound : (u : ℕ → List ℕ) → IsSound (state [] [] [] u) 0
unfolding IsDistinct
none_sound u = record {
  table = λ i j s e. absurd (cc e);
  stands = tt;
  named = tt;
  closed = λ i r e. absurd (cc e);
  used = λ i r p e. absurd (cc e);
  once = tt;
  within = omega arith;
}

pub begun_sound : (t : List Step) (rs : List (Horn ℕ)) (found : List ℕ) (u : ℕ → List ℕ) → t ≡ [] → rs ≡ [] → found ≡ [] → IsSound (state t rs found u) (length found)
begun_sound t rs found u e f g =
    subst (λ (z : List Step). IsSound (state z rs found u) (length found)) (sym e)
    (subst (λ (z : List (Horn ℕ)). IsSound (state [] z found u) (length found)) (sym f) (subst (λ (z : List ℕ). IsSound (state [] [] z u) (length z)) (sym g) (none_sound u)))

pub horns_take : (n : ℕ) (cs : List Clause) → horns (take n cs) ≡ take n (horns cs)
horns_take zero cs = refl
horns_take (suc n) [] = refl
horns_take (suc n) (x ∷ cs) = ap (λ z. horn_of x ∷ z) (horns_take n cs)

back_is : {A : Type 0} (xs ys zs : List A) → IsMore xs ys → zs ≡ take (length xs) ys → zs ≡ xs
back_is xs ys zs m e = e ∙ ap (take (length xs)) m.1 ∙ take-append-le (length xs) xs m.0 (omega arith) ∙ take_all (length xs) xs (omega arith)

module _ (a b : State) (s : IsSound a (length a.found)) (g : Grown a b) (rs : List (Horn ℕ)) (found : List ℕ) (e : rs ≡ take (length a.rules) b.rules) (f : found ≡ take (length a.found) b.found) where
  pub back_sound : IsSound (state b.table rs found b.uses) (length found)
  back_sound =
      subst (λ (z : List (Horn ℕ)). IsSound (state b.table z found b.uses) (length found)) (sym (back_is a.rules b.rules rs g.rules e))
      (subst (λ (z : List ℕ). IsSound (state b.table a.rules z b.uses) (length z)) (sym (back_is a.found b.found found g.found f)) (sound_table a (length a.found) s b.table b.uses g.table g.uses))

  pub back_known : known_of (state b.table rs found b.uses) ≡ known_of a
  back_known =
      let w : horns_at b.table rs ≡ waiting_in a = ap (horns_at b.table) (back_is a.rules b.rules rs g.rules e) ∙ waiting_stay a (length a.found) s b.table g.table.0 in
      let v : facts_of b.table found ≡ found_in a = ap (facts_of b.table) (back_is a.found b.found found g.found f) ∙ found_stay a (length a.found) s b.table g.table.0 in
      (λ i. record { waiting = w i; found = v i })
