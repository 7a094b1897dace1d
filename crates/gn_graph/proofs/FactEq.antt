-- Two facts of the code are equal exactly where they are one fact.
use Rattle.std.proofs.Common.{◌≡◌, ℕ, ◌<◌, List, [], ◌∷◌, ◌++◌, get_or, Bool, true, false, cond}
use Rattle.std.proofs.Common.{Option, Some, None, slice_get, option_map, refl, sym, ◌∙◌, ap, inl, inr, true≢false, arith}
use Rattle.std.specs.List.{IsDistinct, list_any}
use Rattle.std.proofs.lemmas.Bool.{cases_lt}
use Rattle.std.proofs.lemmas.Option.{slice_get_within, get_or_from_slice_get, slice_get-map}
use Rattle.std.proofs.lemmas.Map.Keys.{apart_from_distinct}
use Rattle.std.proofs.lemmas.List.{map-append}
use Rattle.indexmap.specs.IndexSet.{insert_key}
use Rattle.gn_closure.specs.Ground.{Step}
use Rattle.gn_closure.specs.Computed.{same_step}
use Rattle.gn_closure.proofs.SameStep.{step_tested}
use Rattle.gn_graph.specs.declared.unit_key.UnitKey.TheVariants.{Setup as setup_key, Load as load_key}
use Rattle.gn_graph.specs.declared.fact.Fact.{Fact}
use Rattle.gn_graph.specs.declared.fact.Fact.TheVariants.{Reached, Wanted, Generated, Asked as asked, Used as used, Defined as defined, SetUp}
use Rattle.gn_graph.specs.contracts.fact.FactPartialEq.TheImpl.{eq-value}
use Rattle.gn_graph.specs.Facts.{step_of, steps_in}
use Rattle.gn_graph.specs.Numbers.{Grows, IsTable, Extends}
use Rattle.gn_graph.proofs.Table.{grows_more}

same_fact : (a b : Fact) → eq-value.it a b ≡ same_step (step_of a) (step_of b)
same_fact (Reached (setup_key a)) (Reached (setup_key b)) = refl
same_fact (Reached (setup_key a)) (Reached (load_key d t)) = refl
same_fact (Reached (load_key d t)) (Reached (setup_key b)) = refl
same_fact (Reached (load_key d t)) (Reached (load_key e u)) = refl
same_fact (Reached a) (Wanted b u) = refl
same_fact (Reached a) (Generated b) = refl
same_fact (Reached a) (asked b) = refl
same_fact (Reached a) (used b) = refl
same_fact (Reached a) (defined b) = refl
same_fact (Reached a) (SetUp b) = refl
same_fact (Wanted a t) (Reached b) = refl
same_fact (Wanted a t) (Wanted b u) = refl
same_fact (Wanted a t) (Generated b) = refl
same_fact (Wanted a t) (asked b) = refl
same_fact (Wanted a t) (used b) = refl
same_fact (Wanted a t) (defined b) = refl
same_fact (Wanted a t) (SetUp b) = refl
same_fact (Generated a) (Reached b) = refl
same_fact (Generated a) (Wanted b u) = refl
same_fact (Generated a) (Generated b) = refl
same_fact (Generated a) (asked b) = refl
same_fact (Generated a) (used b) = refl
same_fact (Generated a) (defined b) = refl
same_fact (Generated a) (SetUp b) = refl
same_fact (asked a) (Reached b) = refl
same_fact (asked a) (Wanted b u) = refl
same_fact (asked a) (Generated b) = refl
same_fact (asked a) (asked b) = refl
same_fact (asked a) (used b) = refl
same_fact (asked a) (defined b) = refl
same_fact (asked a) (SetUp b) = refl
same_fact (used a) (Reached b) = refl
same_fact (used a) (Wanted b u) = refl
same_fact (used a) (Generated b) = refl
same_fact (used a) (asked b) = refl
same_fact (used a) (used b) = refl
same_fact (used a) (defined b) = refl
same_fact (used a) (SetUp b) = refl
same_fact (defined a) (Reached b) = refl
same_fact (defined a) (Wanted b u) = refl
same_fact (defined a) (Generated b) = refl
same_fact (defined a) (asked b) = refl
same_fact (defined a) (used b) = refl
same_fact (defined a) (defined b) = refl
same_fact (defined a) (SetUp b) = refl
same_fact (SetUp a) (Reached b) = refl
same_fact (SetUp a) (Wanted b u) = refl
same_fact (SetUp a) (Generated b) = refl
same_fact (SetUp a) (asked b) = refl
same_fact (SetUp a) (used b) = refl
same_fact (SetUp a) (defined b) = refl
same_fact (SetUp a) (SetUp b) = refl

pub one_fact : (a b : Fact) → eq-value.it a b ≡ true → step_of a ≡ step_of b
one_fact a b e = (step_tested (step_of a) (step_of b)).0 (sym (same_fact a b) ∙ e)

fact_found : (a b : Fact) → step_of a ≡ step_of b → eq-value.it a b ≡ true
fact_found a b e = same_fact a b ∙ (step_tested (step_of a) (step_of b)).1 e

-- different keys are different facts
pub table : (keys : List Fact) → IsDistinct eq-value.it keys → IsTable (steps_in keys)
table keys d i j s a b = elim (cases_lt i j) [
  | inl l ↦ absurd (apart i j l a b)
  | inr l ↦ elim (cases_lt j i) [ inl m ↦ absurd (apart j i m b a) | inr m ↦ omega (arith, l, m) ]
]
  where
    key : (i : ℕ) → slice_get (steps_in keys) i ≡ Some s → (k : Fact) × (slice_get keys i ≡ Some k) × (step_of k ≡ s)
    key i a = by (slice_get keys i) refl (sym (slice_get-map step_of keys i) ∙ a)
      where
        by : (o : Option Fact) → slice_get keys i ≡ o → option_map step_of o ≡ Some s → (k : Fact) × (slice_get keys i ≡ Some k) × (step_of k ≡ s)
        by None e f = absurd (cc f)
        by (Some k) e f = (k, e, cc f)

    apart : (i j : ℕ) → i < j → slice_get (steps_in keys) i ≡ Some s → slice_get (steps_in keys) j ≡ Some s → ⊥
    apart i j l a b =
        let p = key i a in
        let q = key j b in
        let no : eq-value.it (get_or keys i p.0) (get_or keys j p.0) ≡ false = apart_from_distinct eq-value.it keys i j p.0 d l (slice_get_within keys j q.0 q.1) in
        let yes : eq-value.it p.0 q.0 ≡ true = fact_found p.0 q.0 (p.2 ∙ sym q.2) in
        let x : get_or keys i p.0 ≡ p.0 = get_or_from_slice_get keys i p.0 p.0 p.1 in
        let y : get_or keys j p.0 ≡ q.0 = get_or_from_slice_get keys j q.0 p.0 q.1 in
        true≢false (sym yes ∙ (λ i. eq-value.it (sym x i) (sym y i)) ∙ no)

-- one more key
pub grown : (keys new : List Fact) (k : Fact) → new ≡ insert_key eq-value.it keys k → IsDistinct eq-value.it new → Extends (steps_in keys) (steps_in new)
grown keys new k e d = (by (list_any (eq-value.it k) keys) e, λ t. table new d)
  where
    by : (b : Bool) → new ≡ cond b keys (keys ++ k ∷ []) → Grows (steps_in keys) (steps_in new)
    by true e n s g = ap (λ (z : List Fact). slice_get (steps_in z) n) e ∙ g
    by false e n s g = ap (λ (z : List Fact). slice_get (steps_in z) n) e ∙ ap (λ (z : List Step). slice_get z n) (map-append step_of keys (k ∷ [])) ∙ grows_more (steps_in keys) (step_of k ∷ []) n s g

pub stored : (keys : List Fact) (k : Fact) (n : ℕ) (x : Fact) → slice_get keys n ≡ Some x → eq-value.it k x ≡ true → slice_get (steps_in keys) n ≡ Some (step_of k)
stored keys k n x e f = slice_get-map step_of keys n ∙ ap (option_map step_of) e ∙ ap Some (sym (one_fact k x f))
