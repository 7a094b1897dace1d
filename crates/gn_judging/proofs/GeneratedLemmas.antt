-- The labels that are generated, in label order.
use Rattle.std.proofs.Common.{◌≡◌, ◌⊎◌, inl, inr, ℕ, zero, suc, ◌+◌, ◌<◌, List, [], ◌∷◌, ◌++◌, length, map, slice_get, Option, Some, None, Bool, true, false, if◌then◌else◌, ◌↔◌, refl, sym, ◌∙◌, ap, subst, arith}
use Rattle.std.specs.declared.cmp.Ordering.{Ordering}
use Rattle.std.specs.declared.cmp.Ordering.TheVariants.{Less, Equal}
use Rattle.std.specs.Ordering.{nat_cmp, ordering_then}
use Rattle.std.specs.Borrow.{Bor}
use Rattle.std.specs.Cmp.Lexicographic.{slice_cmp}
use Rattle.std.proofs.lemmas.Option.{slice_get_within, same_Some}
use Rattle.gn_basics.proofs.Orders.{texts_cmp, texts_same, then_equal}
use Rattle.gn_labels.specs.declared.label.Label.{Label}
use Rattle.gn_labels.specs.Labels.{toolchain_key, order_key}
use Rattle.gn_closure.specs.Closure.{In}
use Rattle.gn_closure.specs.Reach.{Fact, Units, Is_reached, Is_wanted, Is_generated, Holds}
use Rattle.gn_closure.specs.Ground.{Step, Holding, Asked, Used, Defined, Set_up}
use Rattle.gn_closure.specs.Computed.{is_generated}
use Rattle.gn_graph.specs.Needs.{home}
use Rattle.gn_graph.specs.Replies.{Reply, units_in}
use Rattle.gn_core.specs.Keys.{units}
use Rattle.gn_book.specs.Graphs.{IsGraphOf}
use Rattle.gn_book.specs.Logs.{Log, state_of}
use Rattle.gn_builds.specs.Rest.{AreGenerated}
use Rattle.gn_judging.specs.Whole.{text_key, IsTable, IsOrdered}
use Rattle.gn_judging.specs.Generated.{label_texts, toolchain_lent, label_lent, IsPut, IsMore, IsFound, AreFound}
use Rattle.gn_judging.specs.declared.generated.LentLabel.{LentLabel}
use Rattle.gn_judging.specs.contracts.generated.LentLabelOrd.TheImpl.{cmp-value as label_cmp}
use Rattle.gn_judging.proofs.TableLemmas.{Stands, table_more, table_same, table_empty, table_ordered, table_sorted, value_has}
use Rattle.gn_judging.proofs.ExecutionLemmas.{options_ordered, toolchain_by, toolchain_back, first_text, other_texts, below_or}

-- Entries compare as their texts

pub labels_ordered : (a b : LentLabel) → label_cmp.it a b ≡ texts_cmp (label_texts a) (label_texts b)
labels_ordered a b i =
    ordering_then (slice_cmp nat_cmp a.dir.now b.dir.now) (ordering_then (slice_cmp nat_cmp a.name.now b.name.now) ((options_ordered a.toolchain b.toolchain ∙ then_equal _) i))

-- an entry that was made for a label stands for it
toolchain_told : (default : List ℕ) (lent : Option (Bor (List ℕ))) → toolchain_lent default lent ≡ toolchain_by default (text_key lent)
toolchain_told default None = refl
toolchain_told default (Some toolchain) = refl

pub label_put : (default : List ℕ) (label : Label) (e : LentLabel) (old new : List LentLabel) → e.dir.now ≡ label.dir → e.name.now ≡ label.name → text_key e.toolchain ≡ toolchain_key default label.toolchain → new ≡ old ++ e ∷ [] → IsPut default label old new
label_put default label e old new dir name toolchain same = (e, (λ i. dir i ∷ name i ∷ toolchain i ∷ []), (λ i. record { dir = dir i; name = name i; toolchain = back i }), same)
  where
    back : toolchain_lent default e.toolchain ≡ label.toolchain
    back = toolchain_told default e.toolchain ∙ ap (toolchain_by default) toolchain ∙ toolchain_back default label.toolchain

-- labels with the same texts are one
abbrev label_by : List ℕ → List (List ℕ) → Label
label_by default texts = record { dir = first_text texts; name = first_text (other_texts texts); toolchain = toolchain_by default (first_text (other_texts (other_texts texts))) }

label_back : (default : List ℕ) (label : Label) → label_by default (order_key default label) ≡ label
label_back default label i = record { dir = label.dir; name = label.name; toolchain = toolchain_back default label.toolchain i }

label_same : (default : List ℕ) (a b : Label) → order_key default a ≡ order_key default b → a ≡ b
label_same default a b h = sym (label_back default a) ∙ ap (label_by default) h ∙ label_back default b

-- Facts

module _ (default : List ℕ) (found : List Step) (n : ℕ) where
  wider : (label : Label) → IsFound found n label → IsFound found (n + 1) label
  wider label h = (h.0, omega (arith, h.1), h.2)

  -- one more fact, which says that a label is generated or something else
  found_other : (s : Step) (old new : List LentLabel) → slice_get found n ≡ Some s → ((label : Label) → s ≡ is_generated label → ⊥) → new ≡ old → AreFound default found n old → AreFound default found (n + 1) new
  found_other s old new at other same table =
      subst (AreFound default found (n + 1)) (sym same) (table_same (label_lent default) label_texts (order_key default) (IsFound found n) (IsFound found (n + 1)) old wider back table)
    where
      back : (label : Label) → IsFound found (n + 1) label → IsFound found n label
      back label h = by (below_or h.0 n h.1)
        where
          by : (h.0 < n) ⊎ (h.0 ≡ n) → IsFound found n label
          by (inl less) = (h.0, less, h.2)
          by (inr e) = absurd (other label (same_Some s (is_generated label) (sym at ∙ ap (slice_get found) (sym e) ∙ h.2)))

  found_label : (label : Label) (old new : List LentLabel) → slice_get found n ≡ Some (is_generated label) → IsPut default label old new → AreFound default found n old → AreFound default found (n + 1) new
  found_label label old new at put table =
      subst (AreFound default found (n + 1)) (sym put.3)
      (table_more (label_lent default) label_texts (order_key default) (IsFound found n) (IsFound found (n + 1)) old put.0 (put.1 ∙ ap (order_key default) (sym put.2)) (subst (IsFound found (n + 1)) (sym put.2) (n, omega arith, at)) wider cases table)
    where
      cases : (w : Label) → IsFound found (n + 1) w → IsFound found n w ⊎ (w ≡ label_lent default put.0)
      cases w h = by (below_or h.0 n h.1)
        where
          by : (h.0 < n) ⊎ (h.0 ≡ n) → IsFound found n w ⊎ (w ≡ label_lent default put.0)
          by (inl less) = inl (h.0, less, h.2)
          by (inr e) =
              let same : is_generated w ≡ is_generated label = same_Some (is_generated w) (is_generated label) (sym h.2 ∙ ap (slice_get found) e ∙ at) in
              let is : w ≡ label = cc same in
              inr (is ∙ sym put.2)

  pub found_more : (s : Step) (old new : List LentLabel) → slice_get found n ≡ Some s → IsMore default s old new → AreFound default found n old → AreFound default found (n + 1) new
  found_more (Holding (Is_reached unit)) old new at same table = found_other (Holding (Is_reached unit)) old new at (λ label e. cc e) same table
  found_more (Holding (Is_wanted dir toolchain)) old new at same table = found_other (Holding (Is_wanted dir toolchain)) old new at (λ label e. cc e) same table
  found_more (Holding (Is_generated label)) old new at put table = found_label label old new at put table
  found_more (Asked label) old new at same table = found_other (Asked label) old new at (λ other e. cc e) same table
  found_more (Used toolchain) old new at same table = found_other (Used toolchain) old new at (λ label e. cc e) same table
  found_more (Defined toolchain) old new at same table = found_other (Defined toolchain) old new at (λ label e. cc e) same table
  found_more (Set_up toolchain) old new at same table = found_other (Set_up toolchain) old new at (λ label e. cc e) same table

pub none_found : (default : List ℕ) (found : List Step) → AreFound default found 0 []
none_found default found = table_empty (label_lent default) label_texts (order_key default) (IsFound found 0) (λ label h. omega (arith, h.1))

-- all facts

in_at : (found : List Step) (n : ℕ) (s : Step) → slice_get found n ≡ Some s → In found s
in_at [] n s e = absurd (cc e)
in_at (t ∷ found) zero s e = inl (same_Some t s e)
in_at (t ∷ found) (suc n) s e = inr (in_at found n s e)

place_of : (found : List Step) (s : Step) → In found s → (n : ℕ) × (slice_get found n ≡ Some s)
place_of [] s i = absurd i
place_of (t ∷ found) s (inl e) = (zero, ap Some e)
place_of (t ∷ found) s (inr i) = let rest = place_of found s i in (suc rest.0, rest.1)

pub all_found : (default : List ℕ) (found : List Step) (a : Units) (n : ℕ) (es : List LentLabel) → ((f : Fact) → In found (Holding f) ↔ Holds home a f) → n ≡ length found → AreFound default found n es
    → IsTable (label_lent default) label_texts (order_key default) (λ label. Holds home a (Is_generated label)) es
all_found default found a n es whole all table =
    table_same (label_lent default) label_texts (order_key default) (IsFound found n) (λ label. Holds home a (Is_generated label)) es
    (λ label h. (whole (Is_generated label)).0 (in_at found h.0 (is_generated label) h.2))
    (λ label h. let at = place_of found (is_generated label) ((whole (Is_generated label)).1 h) in (at.0, subst (λ (m : ℕ). at.0 < m) (sym all) (slice_get_within found at.0 (is_generated label) at.1), at.1))
    table

module _ (default : List ℕ) (l : Log) (replies : List Reply) (graph : IsGraphOf replies (state_of l).filed) where
  abbrev there : Label → Type 0
  there label = Holds home (units_in replies) (Is_generated label)

  abbrev Stood : LentLabel → Type 0
  Stood = Stands (label_lent default) label_texts (order_key default) there

  one : (e f : LentLabel) → Stood e → Stood f → label_cmp.it e f ≡ Equal → label_lent default e ≡ label_lent default f
  one e f s t h = label_same default (label_lent default e) (label_lent default f) (sym s.1 ∙ texts_same (label_texts e) (label_texts f) (sym (labels_ordered e f) ∙ h) ∙ t.1)

  below : (e f : LentLabel) → Stood e → Stood f → label_cmp.it e f ≡ Less → texts_cmp (order_key default (label_lent default e)) (order_key default (label_lent default f)) ≡ Less
  below e f s t h = (λ i. texts_cmp (sym s.1 i) (sym t.1 i)) ∙ sym (labels_ordered e f) ∙ h

  pub all_generated : (old new : List LentLabel) → IsTable (label_lent default) label_texts (order_key default) there old → IsOrdered label_cmp.it old new → AreGenerated default l (map (label_lent default) new)
  all_generated old new table ordered = record {
    all = λ label. ((λ i. onto label (value_has (label_lent default) label_texts (order_key default) there new whole.each label i)), (λ h. whole.all label (back label h)));
    sorted = table_sorted (label_lent default) label_texts (order_key default) label_cmp.it there below new whole.each ordered.sorted;
  }
    where
      whole : IsTable (label_lent default) label_texts (order_key default) there new
      whole = table_ordered (label_lent default) label_texts (order_key default) label_cmp.it there one old new ordered table

      same : units_in replies ≡ units (state_of l).filed
      same i k = graph k i

      onto : (label : Label) → there label → Holds home (units (state_of l).filed) (Is_generated label)
      onto label h = subst (λ (a : Units). Holds home a (Is_generated label)) same h

      back : (label : Label) → Holds home (units (state_of l).filed) (Is_generated label) → there label
      back label h = subst (λ (a : Units). Holds home a (Is_generated label)) (sym same) h
