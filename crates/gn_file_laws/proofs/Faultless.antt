-- Where no fault is told of targets, what they make stands once.
use Rattle.std.proofs.Common.{◌≡◌, inl, inr, ℕ, List, [], ◌∷◌, ◌++◌, Option, Some, None, refl, subst}
use Rattle.std.proofs.lemmas.Bool.{false≢true}
use Rattle.std.specs.List.{flat_map}
use Rattle.gn_labels.specs.declared.label.Label.{Label}
use Rattle.gn_faults.specs.declared.fault.Fault.{Fault}
use Rattle.gn_items.specs.declared.item.Item.{Item}
use Rattle.gn_items.specs.Effects.{item_at}
use Rattle.gn_records.specs.Around.{Around}
use Rattle.gn_toolchains.specs.Toolchains.{Surroundings, around_of}
use Rattle.gn_toolchain_faults.specs.declared.fault.ToolchainFault.{ToolchainFault}
use Rattle.gn_toolchain_faults.specs.Faults.{toolchain_fault}
use Rattle.gn_build_faults.specs.Faults.{first_of, own_fault, fault_at, fault_among, target_fault}
use Rattle.gn_build_faults.specs.Labels.{those_before, beside_toolchain, fault_of_labels}
use Rattle.gn_build_faults.specs.Outputs.{made_around, with_each, made_twice, shown, lesser_shown, least_shown, twice_told, output_fault}
use Rattle.gn_file_laws.proofs.Once.{IsOnce, AreApart, not_twice, in_one, in_first, in_second, once_both}

-- Where none of two faults is told, each isn't

first_none : (f g : Option Fault) → first_of f g ≡ None → f ≡ None
first_none None g h = refl
first_none (Some x) g h = absurd (cc h)

other_none : (f g : Option Fault) → first_of f g ≡ None → g ≡ None
other_none None g h = h
other_none (Some x) g h = absurd (cc h)

targets_clear : (s : Surroundings) (items : List Item) (us : List Label) (told : Option ToolchainFault) → beside_toolchain s items us told ≡ None → target_fault s items us ≡ None
targets_clear s items us None h = h
targets_clear s items us (Some told) h = absurd (none_behind (other_none (target_fault s items (those_before s.default told.label us)) (Some told.fault) h))
  where
    none_behind : Some told.fault ≡ None → ⊥
    none_behind e = cc e

pub labels_clear : (s : Surroundings) (items : List Item) (us : List Label) → fault_of_labels s items us ≡ None → target_fault s items us ≡ None
unfolding fault_of_labels
labels_clear s items us h = targets_clear s items us (toolchain_fault s items us) h

-- Where no output is told that is made twice, none is

shown_stays : (build : List ℕ) (p : List ℕ) (ps : List (List ℕ)) → least_shown build (Some p) ps ≡ None → ⊥
shown_stays build p [] h = cc h
shown_stays build p (q ∷ ps) h = shown_stays build (lesser_shown (Some p) (shown build q)) ps h

none_shown : (build : List ℕ) (ps : List (List ℕ)) → least_shown build None ps ≡ None → ps ≡ []
none_shown build [] h = refl
none_shown build (p ∷ ps) h = absurd (shown_stays build (lesser_shown None (shown build p)) ps h)

none_told : (default : List ℕ) (items : List Item) (t : Label) (p : Option (List ℕ)) → twice_told default items t p ≡ None → p ≡ None
none_told default items t None h = refl
none_told default items t (Some p) h = absurd (cc h)

none_twice : (default : List ℕ) (items : List Item) (build : List ℕ) (before outputs : List (List ℕ)) (t : Label)
    → output_fault default items build before outputs t ≡ None → made_twice before outputs ≡ []
unfolding output_fault
none_twice default items build before outputs t h =
    none_shown build (made_twice before outputs) (none_told default items t (least_shown build None (made_twice before outputs)) h)

-- What the targets make, by what never changes for those of their toolchains

module _ (s : Surroundings) (items : List Item) where
  abbrev pub outputs_of : Label → List (List ℕ)
  outputs_of t = made_around (around_of s items t.toolchain) (item_at t items)

  abbrev known : List ℕ → Option Around
  known text = Some (around_of s items text)

  walked : (before : List (List ℕ)) (ts : List Label) → fault_among s.default items known before ts ≡ None
      → AreApart before (flat_map outputs_of ts) × IsOnce (flat_map outputs_of ts)
  walked before [] h = (λ q m n. false≢true n, tt)
  walked before (t ∷ ts) h =
      let a = around_of s items t.toolchain in
      let behind = with_each before (outputs_of t) in
      let here = first_none (fault_at s.default items (Some a) before t) (fault_among s.default items known behind ts) h in
      let told = other_none (own_fault s.default items a t) (output_fault s.default items a.build before (outputs_of t) t) here in
      let own = not_twice before (outputs_of t) (none_twice s.default items a.build before (outputs_of t) t told) in
      let rest = walked behind ts (other_none (fault_at s.default items (Some a) before t) (fault_among s.default items known behind ts) h) in
      let apart : AreApart (before ++ outputs_of t) (flat_map outputs_of ts) = subst (λ z. AreApart z (flat_map outputs_of ts)) own.all rest.0 in (
        λ q m n. elim (in_one (outputs_of t) (flat_map outputs_of ts) q n) [
          | inl j ↦ own.apart q m j
          | inr j ↦ apart q (in_first before (outputs_of t) q m) j
        ],
        once_both (outputs_of t) (flat_map outputs_of ts) own.once rest.1 (λ q m n. apart q (in_second before (outputs_of t) q m) n),
      )

  pub outputs_once : (us : List Label) → fault_of_labels s items us ≡ None → IsOnce (flat_map outputs_of us)
  unfolding target_fault
  outputs_once us h = (walked [] us (labels_clear s items us h)).1
