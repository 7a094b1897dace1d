-- The steps of loading by one seat keep its keys waiting for one another.
use Rattle.std.proofs.Common.{◌≡◌, inl, inr, ℕ, List, [], ◌∷◌, Option, Some, None, unwrap_or, cond, Bool, true, false, refl, sym, ◌∙◌, ap, subst, true≢false}
use Rattle.gn_paths.specs.declared.place.Place.{Place}
use Rattle.gn_closure.specs.Closure.{In}
use Rattle.gn_core.specs.Keys.{Key, Read, Import, Unit_of, Resolve, Answer, same_key, put}
use Rattle.gn_core.specs.Machine.{State, Blocked, Claim, Block, File, happens, Leads, here, onward}
use Rattle.gn_core.proofs.Puts.{same_key_is, put_some, put_none, put_here_not, put_own}
use Rattle.gn_book.specs.Graphs.{is_unit}
use Rattle.gn_book.specs.Logs.{IsFree}
use Rattle.gn_builds.specs.Stacks.{IsAskable, MayWait, Chained, rest_of, IsStacked, TopIsReady}

abbrev wait_for : Key → Place → Blocked
wait_for on place = record { on = on; place = place; closes = false }

-- a key that isn't there has nothing
pub none_some : {A : Type 0} (x : Option A) (y : A) → x ≡ None → x ≡ Some y → ⊥
none_some x y e h = absurd (cc (sym e ∙ h))

-- no evaluation asks for a unit
pub not_unit : (q : Key) → IsAskable q → is_unit q ≡ false
not_unit (Read path) a = refl
not_unit (Import layer path) a = refl
not_unit (Unit_of unit) a = absurd a
not_unit (Resolve label) a = absurd a

-- only what waits behind the first key counts
chained_same : (s t : State) (ks : List Key) → ((q : Key) → In (rest_of ks) q → t.blocks q ≡ s.blocks q) → Chained s ks → Chained t ks
chained_same s t [] f c = tt
chained_same s t (k ∷ []) f c = c
chained_same s t (k ∷ j ∷ js) f (u, a, b, c) = (u, a, (b.0, f j (inl refl) ∙ b.1), chained_same s t (j ∷ js) (λ q i. f q (inr i)) c)

pub first_apart : (s : State) (k : Key) (ks : List Key) → Chained s (k ∷ ks) → In ks k → ⊥
first_apart s k [] c i = i
first_apart s k (j ∷ js) c i = c.1 i

rest_chained : (s : State) (k : Key) (ks : List Key) → Chained s (k ∷ ks) → Chained s ks
rest_chained s k [] c = tt
rest_chained s k (j ∷ js) c = c.3

apart_from : (ks : List Key) (k q : Key) → (In ks k → ⊥) → In ks q → k ≡ q → ⊥
apart_from ks k q apart i e = apart (subst (λ (z : Key). In ks z) (sym e) i)

-- a put leaves the other keys
pub put_else : {A : Type 0} (m : Key → Option A) (k : Key) (v : Option A) (q : Key) → (k ≡ q → ⊥) → put m k v q ≡ m q
put_else m k v q apart = by (same_key k q) refl
  where
    by : (b : Bool) → same_key k q ≡ b → cond b v (m q) ≡ m q
    by true e = absurd (apart (same_key_is k q e))
    by false e = refl

-- a key is claimed, or was
pub given_or_kept : (m : Key → Option ℕ) (on q : Key) (other seat : ℕ) → m q ≡ Some seat → put m on (Some (unwrap_or (m on) other)) q ≡ Some seat
given_or_kept m on q other seat e = by (same_key on q) refl
  where
    by : (b : Bool) → same_key on q ≡ b → cond b (Some (unwrap_or (m on) other)) (m q) ≡ Some seat
    by true s = ap (λ (o : Option ℕ). Some (unwrap_or o other)) (ap m (same_key_is on q s) ∙ e)
    by false s = e

-- the seat takes up a unit
pub begun : (s : State) (k : Key) → IsStacked s [] → is_unit k ≡ true → IsFree s k → IsStacked (happens s (Claim 0 k)) (k ∷ []) × TopIsReady (happens s (Claim 0 k)) (k ∷ [])
begun s k st unit free = (
  record {
    going = st.going;
    held = λ q i. elim i [ inl e ↦ subst (λ (z : Key). put s.claims k (Some 0) z ≡ Some 0) e (put_own s.claims k 0) | inr n ↦ absurd n ];
    unfiled = λ q i. elim i [ inl e ↦ subst (λ (z : Key). s.filed z ≡ None) e free.unfiled | inr n ↦ absurd n ];
    alone = λ q seat e. elim (put_some s.claims k 0 q seat e) [ inl a ↦ (sym a.1, inl a.0) | inr a ↦ absurd (st.alone q seat a).1 ];
    chained = unit;
    waiting = λ q i. absurd i;
    waits = λ q b e. absurd (st.waits q b e).0;
  },
  λ b e. absurd (st.waits k b e).0,
)

-- the first key begins to wait for one that nobody has claimed
module _ (s : State) (k on : Key) (ks : List Key) (place : Place) (st : IsStacked s (k ∷ ks)) (may : MayWait k) (askable : IsAskable on) (free : IsFree s on) where
  abbrev after : State
  after = happens s (Block 0 k on place false)

  on_apart : In (k ∷ ks) on → ⊥
  on_apart i = none_some (s.claims on) 0 free.unclaimed (st.held on i)

  is_given : (q : Key) → on ≡ q → after.claims q ≡ Some 0
  is_given q e = subst (λ (z : Key). after.claims z ≡ Some 0) e (put_own s.claims on (unwrap_or (s.claims on) 0) ∙ ap (λ (o : Option ℕ). Some (unwrap_or o 0)) free.unclaimed)

  kept_chain : Chained after (k ∷ ks)
  kept_chain = chained_same s after (k ∷ ks) (λ q i. put_else s.blocks k _ q (apart_from ks k q (first_apart s k ks st.chained) i)) st.chained

  pub waiting_on : IsStacked after (on ∷ k ∷ ks) × TopIsReady after (on ∷ k ∷ ks)
  waiting_on = (
    record {
      going = st.going;
      held = λ q i. elim i [ inl e ↦ is_given q e | inr j ↦ given_or_kept s.claims on q 0 0 (st.held q j) ];
      unfiled = λ q i. elim i [ inl e ↦ subst (λ (z : Key). s.filed z ≡ None) e free.unfiled | inr j ↦ st.unfiled q j ];
      alone = λ q seat e. elim (put_some s.claims on (unwrap_or (s.claims on) 0) q seat e) [
        | inl a ↦ (sym a.1 ∙ ap (λ (o : Option ℕ). unwrap_or o 0) free.unclaimed, inl a.0)
        | inr a ↦ (let old = st.alone q seat a in (old.0, inr old.1))
      ];
      chained = (not_unit on askable, on_apart, (place, put_own s.blocks k (record { on = on; place = place; closes = false })), kept_chain);
      waiting = λ q i. elim i [ inl e ↦ subst (λ (z : Key). MayWait z) e may | inr j ↦ st.waiting q j ];
      waits = λ q b e. elim (put_some s.blocks k (record { on = on; place = place; closes = false }) q b e) [
        | inl a ↦ (inr (inl a.0), subst (λ (z : Blocked). IsAskable z.on) a.1 askable)
        | inr a ↦ (let old = st.waits q b a in (inr old.0, old.1))
      ];
    },
    λ b e. elim (put_some s.blocks k (record { on = on; place = place; closes = false }) on b e) [
      | inl a ↦ absurd (on_apart (inl a.0))
      | inr a ↦ absurd (on_apart (st.waits on b a).0)
    ],
  )

-- the wait of the first key closes a cycle
pub closing : (s : State) (k on : Key) (ks : List Key) (place : Place) → IsStacked s (k ∷ ks) → IsAskable on → In (k ∷ ks) on → IsStacked (happens s (Block 0 k on place true)) (k ∷ ks)
closing s k on ks place st askable there = record {
  going = st.going;
  held = λ q i. given_or_kept s.claims on q 0 0 (st.held q i);
  unfiled = st.unfiled;
  alone = λ q seat e. elim (put_some s.claims on (unwrap_or (s.claims on) 0) q seat e) [
    | inl a ↦ (sym a.1 ∙ ap (λ (o : Option ℕ). unwrap_or o 0) (st.held on there), subst (λ (z : Key). In (k ∷ ks) z) a.0 there)
    | inr a ↦ st.alone q seat a
  ];
  chained = chained_same s (happens s (Block 0 k on place true)) (k ∷ ks) (λ q i. put_else s.blocks k _ q (apart_from ks k q (first_apart s k ks st.chained) i)) st.chained;
  waiting = st.waiting;
  waits = λ q b e. elim (put_some s.blocks k (record { on = on; place = place; closes = true }) q b e) [
    | inl a ↦ (inl a.0, subst (λ (z : Blocked). IsAskable z.on) a.1 askable)
    | inr a ↦ st.waits q b a
  ];
}

-- the answer of the first key is filed
module _ (s : State) (k : Key) (ks : List Key) (v : Answer) (st : IsStacked s (k ∷ ks)) where
  abbrev later : State
  later = happens s (File 0 k v)

  k_apart : In ks k → ⊥
  k_apart = first_apart s k ks st.chained

  rest_same : (q : Key) → In ks q → later.blocks q ≡ s.blocks q
  rest_same q i = put_else s.blocks k None q (apart_from ks k q k_apart i)

  in_rest : (q : Key) → In (k ∷ ks) q → (k ≡ q → ⊥) → In ks q
  in_rest q i apart = elim i [ inl e ↦ absurd (apart e) | inr j ↦ j ]

  rest_may : (q : Key) (js : List Key) → In (rest_of js) q → In js q
  rest_may q [] i = absurd i
  rest_may q (j ∷ js) i = inr i

  top_ready : (js : List Key) → Chained s (k ∷ js) → ((q : Key) → In js q → later.blocks q ≡ s.blocks q) → TopIsReady later js
  top_ready [] c f = tt
  top_ready (j ∷ js) c f = λ b e.
      let waits_for : Some (wait_for k c.2.0) ≡ Some b = sym c.2.1 ∙ sym (f j (inl refl)) ∙ e in
      let same : wait_for k c.2.0 ≡ b = cc waits_for in
      (v, subst (λ (z : Blocked). later.filed z.on ≡ Some v) same (put_own s.filed k v))

  pub settled : IsStacked later ks × TopIsReady later ks
  settled = (
    record {
      going = st.going;
      held = λ q i. put_else s.claims k None q (apart_from ks k q k_apart i) ∙ st.held q (inr i);
      unfiled = λ q i. put_else s.filed k (Some v) q (apart_from ks k q k_apart i) ∙ st.unfiled q (inr i);
      alone = λ q seat e. let old = st.alone q seat (put_none s.claims k q seat e) in (old.0, in_rest q old.1 (put_here_not s.claims k q seat e));
      chained = chained_same s later ks (λ q i. rest_same q (rest_may q ks i)) (rest_chained s k ks st.chained);
      waiting = λ q i. st.waiting q (rest_may q ks i);
      waits = λ q b e. let old = st.waits q b (put_none s.blocks k q b e) in (in_rest q old.0 (put_here_not s.blocks k q b e), old.1);
    },
    top_ready ks st.chained rest_same,
  )

-- Where chains lead

leads_on : (blocks : Key → Option Blocked) (q j k : Key) → Leads blocks q j → Leads blocks j k → Leads blocks q k
leads_on blocks q j k here rest = rest
leads_on blocks q j k (onward b e more) rest = onward b e (leads_on blocks b.on j k more rest)

-- each key leads to the first one
pub leads_first : (s : State) (k : Key) (ks : List Key) → Chained s (k ∷ ks) → (q : Key) → In (k ∷ ks) q → Leads s.blocks q k
leads_first s k [] c q (inl e) = subst (λ (z : Key). Leads s.blocks z k) e here
leads_first s k [] c q (inr i) = absurd i
leads_first s k (j ∷ js) c q (inl e) = subst (λ (z : Key). Leads s.blocks z k) e here
leads_first s k (j ∷ js) (u, a, b, c) q (inr i) =
    leads_on s.blocks q j k (leads_first s j js c q i) (onward (record { on = k; place = b.0; closes = false }) b.1 here)

-- and what leads to the first one is one of them
pub leads_from : (s : State) (k : Key) (ks : List Key) → IsStacked s (k ∷ ks) → (q : Key) → Leads s.blocks q k → In (k ∷ ks) q
leads_from s k ks st q here = inl refl
leads_from s k ks st q (onward b e more) = (st.waits q b e).0

-- where the first key is a unit, no wait closes a cycle
pub unit_closes_none : (s : State) (k on : Key) (ks : List Key) → IsStacked s (k ∷ ks) → IsAskable on → is_unit k ≡ true → In (k ∷ ks) on → ⊥
unit_closes_none s k on [] st askable unit (inl e) = true≢false (sym unit ∙ ap is_unit e ∙ not_unit on askable)
unit_closes_none s k on [] st askable unit (inr i) = i
unit_closes_none s k on (j ∷ js) st askable unit i = true≢false (sym unit ∙ st.chained.0)
