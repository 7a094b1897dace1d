-- The executions of a build, in their order.
use Rattle.std.proofs.Common.{◌≡◌, ◌⊎◌, inl, inr, ℕ, zero, suc, ◌+◌, ◌<◌, ◌≤◌, List, [], ◌∷◌, ◌++◌, length, map, slice_get, unwrap_or, Option, Some, None, Bool, true, false, if◌then◌else◌, true≢false, refl, sym, ◌∙◌, ap, subst, arith}
use Rattle.std.specs.declared.cmp.Ordering.{Ordering}
use Rattle.std.specs.declared.cmp.Ordering.TheVariants.{Less, Equal, Greater}
use Rattle.std.specs.Ordering.{nat_cmp, ordering_then, ordering_reverse}
use Rattle.std.specs.Cmp.{nat_cmp_total}
use Rattle.std.specs.Option.{option_cmp}
use Rattle.std.specs.Str.{bytes_eq}
use Rattle.std.specs.Borrow.{Bor}
use Rattle.std.specs.Cmp.Lexicographic.{slice_cmp, bytes_decides}
use Rattle.std.proofs.lemmas.Bool.{cases_lt}
use Rattle.std.proofs.lemmas.Option.{slice_get_within, same_Some}
use Rattle.gn_basics.proofs.Orders.{texts_cmp, texts_same, then_equal, both_equal, by_answer}
use Rattle.gn_closure.specs.Closure.{In}
use Rattle.gn_closure.specs.Reach.{Setup, Load}
use Rattle.gn_core.specs.Keys.{early, usual, Key, Read, Import, Unit_of, Resolve}
use Rattle.gn_labels.specs.Labels.{toolchain_key}
use Rattle.gn_book.specs.Logs.{Log, KeysDiffer, key_at}
use Rattle.gn_projects.specs.Loaded.{execution_texts}
use Rattle.gn_builds.specs.Rest.{is_execution, AreInOrder}
use Rattle.gn_judging.specs.Whole.{text_key, IsOrdered}
use Rattle.gn_judging.specs.Executions.{ranked, texts_of, number_of, entry_texts, texts_in, IsPut, IsExecution, AreNumbered}
use Rattle.gn_judging.specs.declared.executions.Execution.{Execution}
use Rattle.gn_judging.specs.declared.executions.Execution.TheVariants as to
use Rattle.gn_judging.specs.declared.executions.ExecutionKey.{ExecutionKey}
use Rattle.gn_judging.specs.contracts.executions.ExecutionOrd.TheImpl.{cmp-value as execution_cmp}
use Rattle.gn_judging.specs.contracts.executions.ExecutionKeyOrd.TheImpl.{cmp-value as key_cmp}
use Rattle.gn_judging.proofs.TableLemmas.{Stands, table_more, table_same, table_empty, table_ordered, table_sorted, value_has}

-- Keys compare as their texts

pub options_ordered : (s t : Option (Bor (List ℕ))) → option_cmp (λ (x y : Bor (List ℕ)). slice_cmp nat_cmp x.now y.now) s t ≡ slice_cmp nat_cmp (text_key s) (text_key t)
options_ordered None None = refl
options_ordered None (Some t) = refl
options_ordered (Some s) None = refl
options_ordered (Some s) (Some t) = refl

executions_ordered : (a b : Execution) → execution_cmp.it a b ≡ texts_cmp (ranked a) (ranked b)
executions_ordered to.Setup to.Setup = refl
executions_ordered to.Setup (to.Early q) = refl
executions_ordered to.Setup (to.Usual q) = refl
executions_ordered to.Setup (to.Load q) = refl
executions_ordered (to.Early p) to.Setup = refl
executions_ordered (to.Early p) (to.Early q) = then_equal (slice_cmp nat_cmp p.now q.now)
executions_ordered (to.Early p) (to.Usual q) = refl
executions_ordered (to.Early p) (to.Load q) = refl
executions_ordered (to.Usual p) to.Setup = refl
executions_ordered (to.Usual p) (to.Early q) = refl
executions_ordered (to.Usual p) (to.Usual q) = then_equal (slice_cmp nat_cmp p.now q.now)
executions_ordered (to.Usual p) (to.Load q) = refl
executions_ordered (to.Load p) to.Setup = refl
executions_ordered (to.Load p) (to.Early q) = refl
executions_ordered (to.Load p) (to.Usual q) = refl
executions_ordered (to.Load p) (to.Load q) = then_equal (slice_cmp nat_cmp p.now q.now)

pub keys_ordered : (a b : ExecutionKey) → key_cmp.it a b ≡ texts_cmp (texts_of a) (texts_of b)
keys_ordered a b i = ordering_then (options_ordered a.toolchain b.toolchain i) (executions_ordered a.execution b.execution i)

-- Executions with the same texts are one

-- a toolchain, by what toolchains are ordered by
abbrev pub toolchain_by : List ℕ → List ℕ → List ℕ
toolchain_by default [] = default
toolchain_by default (n ∷ text) = text

pub toolchain_back : (default t : List ℕ) → toolchain_by default (toolchain_key default t) ≡ t
toolchain_back default t = by (bytes_eq t default) refl
  where
    by : (b : Bool) → bytes_eq t default ≡ b → toolchain_by default (if b then [] else 0 ∷ t) ≡ t
    by true e = sym ((bytes_decides t default).0 e)
    by false e = refl

abbrev pub first_text : List (List ℕ) → List ℕ
first_text [] = []
first_text (t ∷ ts) = t

abbrev pub other_texts : List (List ℕ) → List (List ℕ)
other_texts [] = []
other_texts (t ∷ ts) = ts

abbrev rank_in : List ℕ → ℕ
rank_in [] = 0
rank_in (n ∷ t) = n

abbrev key_by_rank : List ℕ → List ℕ → List ℕ → ℕ → Key
key_by_rank default toolchain path zero = Unit_of (Setup (toolchain_by [] toolchain))
key_by_rank default toolchain path (suc zero) = Import (early (toolchain_by [] toolchain)) path
key_by_rank default toolchain path (suc (suc zero)) = Import (usual (toolchain_by default toolchain)) path
key_by_rank default toolchain path (suc (suc (suc n))) = Unit_of (Load path (toolchain_by default toolchain))

abbrev key_by : List ℕ → List (List ℕ) → Key
key_by default texts = key_by_rank default (first_text texts) (first_text (other_texts (other_texts texts))) (rank_in (first_text (other_texts texts)))

key_back : (default : List ℕ) (k : Key) → is_execution k ≡ true → key_by default (execution_texts default k) ≡ k
key_back default (Read path) e = absurd (true≢false (sym e))
key_back default (Import (early t) path) e = ap (λ (x : List ℕ). Import (early x) path) (toolchain_back [] t)
key_back default (Import (usual t) path) e = ap (λ (x : List ℕ). Import (usual x) path) (toolchain_back default t)
key_back default (Unit_of (Setup t)) e = ap (λ (x : List ℕ). Unit_of (Setup x)) (toolchain_back [] t)
key_back default (Unit_of (Load dir t)) e = ap (λ (x : List ℕ). Unit_of (Load dir x)) (toolchain_back default t)
key_back default (Resolve label) e = absurd (true≢false (sym e))

key_same : (default : List ℕ) (k q : Key) → is_execution k ≡ true → is_execution q ≡ true → execution_texts default k ≡ execution_texts default q → k ≡ q
key_same default k q e f h = sym (key_back default k e) ∙ ap (key_by default) h ∙ key_back default q f

-- Numbers

pub below_or : (k n : ℕ) → k < n + 1 → (k < n) ⊎ (k ≡ n)
below_or k n h = by (cases_lt k n)
  where
    by : (k < n) ⊎ (n ≤ k) → (k < n) ⊎ (k ≡ n)
    by (inl l) = inl l
    by (inr l) = inr (omega (arith, h, l))

pub key_is : (l : Log) (n : ℕ) (k : Key) → slice_get l.keys n ≡ Some k → key_at l n ≡ k
key_is l n k e = ap (λ (x : Option Key). unwrap_or x (Read [])) e

module _ (default : List ℕ) (l : Log) (n : ℕ) where
  abbrev texts_at : ℕ → List (List ℕ)
  texts_at m = execution_texts default (key_at l m)

  wider : (m : ℕ) → IsExecution l n m → IsExecution l (n + 1) m
  wider m h = (omega (arith, h.0), h.1)

  -- one more number, whose key is no execution or one
  put_none : (k : Key) (old new : List (ExecutionKey × ℕ)) → slice_get l.keys n ≡ Some k → is_execution k ≡ false → new ≡ old → AreNumbered default l n old → AreNumbered default l (n + 1) new
  put_none k old new at unlike same table =
      subst (AreNumbered default l (n + 1)) (sym same) (table_same number_of entry_texts texts_at (IsExecution l n) (IsExecution l (n + 1)) old wider back table)
    where
      back : (m : ℕ) → IsExecution l (n + 1) m → IsExecution l n m
      back m h = by (below_or m n h.0)
        where
          by : (m < n) ⊎ (m ≡ n) → IsExecution l n m
          by (inl less) = (less, h.1)
          by (inr e) =
              let here : slice_get l.keys n ≡ Some h.1.0 = subst (λ (z : ℕ). slice_get l.keys z ≡ Some h.1.0) e h.1.1 in
              let same : k ≡ h.1.0 = same_Some k h.1.0 (sym at ∙ here) in
              absurd (true≢false (sym h.1.2 ∙ ap is_execution (sym same) ∙ unlike))

  put_one : (k : Key) (old new : List (ExecutionKey × ℕ)) → slice_get l.keys n ≡ Some k → is_execution k ≡ true → (e : ExecutionKey) → texts_of e ≡ execution_texts default k → new ≡ old ++ (e, n) ∷ [] → AreNumbered default l n old
      → AreNumbered default l (n + 1) new
  put_one k old new at like e texts same table =
      subst (AreNumbered default l (n + 1)) (sym same)
      (table_more number_of entry_texts texts_at (IsExecution l n) (IsExecution l (n + 1)) old (e, n) (texts ∙ ap (execution_texts default) (sym (key_is l n k at))) (omega arith, (k, at, like)) wider cases table)
    where
      cases : (m : ℕ) → IsExecution l (n + 1) m → IsExecution l n m ⊎ (m ≡ n)
      cases m h = by (below_or m n h.0)
        where
          by : (m < n) ⊎ (m ≡ n) → IsExecution l n m ⊎ (m ≡ n)
          by (inl less) = inl (less, h.1)
          by (inr e) = inr e

  pub put_number : (k : Key) (old new : List (ExecutionKey × ℕ)) → slice_get l.keys n ≡ Some k → IsPut (texts_in default k) n old new → AreNumbered default l n old → AreNumbered default l (n + 1) new
  put_number k old new at put table = by (is_execution k) refl put
    where
      by : (b : Bool) → is_execution k ≡ b → IsPut (if b then Some (execution_texts default k) else None) n old new → AreNumbered default l (n + 1) new
      by true like put = put_one k old new at like put.0 put.1 put.2 table
      by false unlike put = put_none k old new at unlike put table

pub none_numbered : (default : List ℕ) (l : Log) → AreNumbered default l 0 []
none_numbered default l = table_empty number_of entry_texts (λ m. execution_texts default (key_at l m)) (IsExecution l 0) (λ m h. omega (arith, h.0))

-- All numbers

irreflexive : (n : ℕ) → nat_cmp n n ≡ Less → ⊥
irreflexive n h = absurd (cc (sym h ∙ nat_cmp_total.antisymm n n ∙ ap ordering_reverse h))

-- entries compare by their keys, and then by their numbers
abbrev pub entry_cmp : ExecutionKey × ℕ → ExecutionKey × ℕ → Ordering
entry_cmp e f = ordering_then (key_cmp.it e.0 f.0) (nat_cmp e.1 f.1)

module _ (default : List ℕ) (l : Log) (differ : KeysDiffer l) where
  abbrev all_texts : ℕ → List (List ℕ)
  all_texts m = execution_texts default (key_at l m)

  abbrev there : ℕ → Type 0
  there = IsExecution l (length l.keys)

  abbrev Stood : ExecutionKey × ℕ → Type 0
  Stood = Stands number_of entry_texts all_texts there

  same_number : (m n : ℕ) → there m → there n → all_texts m ≡ all_texts n → m ≡ n
  same_number m n h i t =
      let texts : execution_texts default h.1.0 ≡ execution_texts default i.1.0 = ap (execution_texts default) (sym (key_is l m h.1.0 h.1.1)) ∙ t ∙ ap (execution_texts default) (key_is l n i.1.0 i.1.1) in
      let same = key_same default h.1.0 i.1.0 h.1.2 i.1.2 texts in
      differ m n i.1.0 (h.1.1 ∙ ap Some same) i.1.1

  same_key : (e f : ExecutionKey × ℕ) → Stood e → Stood f → key_cmp.it e.0 f.0 ≡ Equal → e.1 ≡ f.1
  same_key e f s t h = same_number e.1 f.1 s.0 t.0 (sym s.1 ∙ texts_same (texts_of e.0) (texts_of f.0) (sym (keys_ordered e.0 f.0) ∙ h) ∙ t.1)

  one : (e f : ExecutionKey × ℕ) → Stood e → Stood f → entry_cmp e f ≡ Equal → e.1 ≡ f.1
  one e f s t h = same_key e f s t (both_equal (key_cmp.it e.0 f.0) (nat_cmp e.1 f.1) h).0

  below : (e f : ExecutionKey × ℕ) → Stood e → Stood f → entry_cmp e f ≡ Less → texts_cmp (all_texts e.1) (all_texts f.1) ≡ Less
  below e f s t h = by_answer (key_cmp.it e.0 f.0)
      (λ less. (λ i. texts_cmp (sym s.1 i) (sym t.1 i)) ∙ sym (keys_ordered e.0 f.0) ∙ less)
      (λ equal. absurd (irreflexive f.1 (ap (λ (n : ℕ). nat_cmp n f.1) (sym (same_key e f s t equal)) ∙ sym (first equal) ∙ h)))
      (λ greater. absurd (cc (sym (first greater) ∙ h)))
    where
      first : {r : Ordering} → key_cmp.it e.0 f.0 ≡ r → entry_cmp e f ≡ ordering_then r (nat_cmp e.1 f.1)
      first is = ap (λ (r : Ordering). ordering_then r (nat_cmp e.1 f.1)) is

  pub all_numbered : (old new : List (ExecutionKey × ℕ)) → AreNumbered default l (length l.keys) old → IsOrdered entry_cmp old new → AreInOrder default l (map (λ e. e.1) new)
  all_numbered old new table ordered = record {
    each = λ m i. (value_has number_of entry_texts all_texts there new whole.each m i).1;
    all = λ m k at like. whole.all m (slice_get_within l.keys m k at, (k, at, like));
    sorted = table_sorted number_of entry_texts all_texts entry_cmp there below new whole.each ordered.sorted;
  }
    where
      whole : AreNumbered default l (length l.keys) new
      whole = table_ordered number_of entry_texts all_texts entry_cmp there one old new ordered table
