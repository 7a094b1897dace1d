-- The first that is told of several targets is the least fault, and there is one.
use Rattle.std.proofs.Common.{◌≡◌, ℕ, zero, suc, ◌<◌, List, [], ◌∷◌, ◌++◌, Option, Some, None, map, slice_get, Bool, true, false, ◌||◌, refl, sym, ◌∙◌, ap, subst, inl, inr, arith}
use Rattle.std.specs.List.{Contains, flat_map}
use Rattle.std.proofs.lemmas.Bool.{cases_lt}
use Rattle.gn_labels.specs.declared.label.Label.{Label}
use Rattle.gn_faults.specs.declared.fault.Fault.{Fault}
use Rattle.gn_dependencies.specs.Lists.{same_label, has}
use Rattle.gn_dependencies.proofs.Same.{own, same}
use Rattle.gn_dependencies.proofs.OrderLaws.{has_at}
use Rattle.gn_dependencies.proofs.At.{one_there}
use Rattle.gn_graph_faults.specs.Faults.{Facts, HasFault, Finding, finding, told_of, AreFaults}
use Rattle.gn_graph_faults.specs.Least.{IsFaultless, IsFirstFault, IsLeastFault}
use Rattle.gn_graph_faults.specs.Laws.{ThereIsOneList}
use Rattle.gn_graph_meant.specs.Computed.{least_fault_in, faults_in}
use Rattle.gn_graph_meant.specs.Laws.{TellsFaults, TellsLeast, ThereIsOneFault, IsTheLeast, ListsAgree}
use Rattle.gn_graph_meant.proofs.Members.{contains_first, contains_nothing}

module _ (g : Facts) where
  nothing_told : (t : Label) (fs : List Finding) (f : Finding) → [] ≡ map (told_of g t) fs → Contains fs f → ⊥
  nothing_told t [] f e c = contains_nothing f c
  nothing_told t (x ∷ fs) f e c = absurd (cc e)

  faultless : (t : Label) → AreFaults g t [] → IsFaultless g t
  faultless t a code others h = nothing_told t a.findings (finding code others) a.told ((a.each (finding code others)).1 h)

  some_told : (t : Label) (fs : List Finding) (x : Fault) (rest : List Fault) → x ∷ rest ≡ map (told_of g t) fs
      → ((f : Finding) → Contains fs f → HasFault g t f.code f.others) → IsFaultless g t → ⊥
  some_told t [] x rest e h n = absurd (cc e)
  some_told t (f ∷ fs) x rest e h n = n f.code f.others (h f (contains_first f fs))

  faulty : (t : Label) (x : Fault) (rest : List Fault) → AreFaults g t (x ∷ rest) → IsFaultless g t → ⊥
  faulty t x rest a n = some_told t a.findings x rest a.told (λ f c. (a.each f).0 c) n

  later : (t : Label) (ts : List Label) (o : Option Fault) → IsFaultless g t → IsLeastFault g ts o → IsLeastFault g (t ∷ ts) o
  later t ts None n h = λ q i. go q (same_label q t) refl i
    where
      go : (q : Label) (b : Bool) → same_label q t ≡ b → (b || has ts q) ≡ true → IsFaultless g q
      go q true e i = subst (IsFaultless g) (sym (same q t e)) n
      go q false e i = h q i
  later t ts (Some x) n h = record { place = suc h.place; target = h.target; here = h.here; before = before; rest = h.rest; faults = h.faults }
    where
      before : (k : ℕ) (q : Label) → k < suc h.place → slice_get (t ∷ ts) k ≡ Some q → IsFaultless g q
      before zero q l e = subst (IsFaultless g) (one_there t q e) n
      before (suc k) q l e = h.before k q (omega (arith, l)) e

  least : (told : Label → List Fault) → ((t : Label) → AreFaults g t (told t)) → (ts : List Label) → IsLeastFault g ts (slice_get (flat_map told ts) 0)
  least told are [] = λ q h. absurd (cc h)
  least told are (t ∷ ts) = go (told t) (are t) (least told are ts)
    where
      go : (fs : List Fault) → AreFaults g t fs → IsLeastFault g ts (slice_get (flat_map told ts) 0) → IsLeastFault g (t ∷ ts) (slice_get (fs ++ flat_map told ts) 0)
      go [] a others = later t ts (slice_get (flat_map told ts) 0) (faultless t a) others
      go (x ∷ fs) a others = record { place = 0; target = t; here = refl; before = λ k q l. absurd (omega (arith, l)); rest = fs; faults = a }

  one_first : ThereIsOneList → (ts : List Label) (x y : Fault) → IsFirstFault g ts x → IsFirstFault g ts y → Some x ≡ Some y
  one_first one ts x y h k = elim (cases_lt h.place k.place) [
    | inl l ↦ absurd (faulty h.target x h.rest h.faults (k.before h.place h.target l h.here))
    | inr l ↦ elim (cases_lt k.place h.place) [
      | inl m ↦ absurd (faulty k.target y k.rest k.faults (h.before k.place k.target m k.here))
      | inr m ↦
          let place : h.place ≡ k.place = omega (arith, l, m) in
          let target : h.target ≡ k.target = one_there h.target k.target (sym h.here ∙ ap (slice_get ts) place ∙ k.here) in
          let moved : AreFaults g k.target (x ∷ h.rest) = subst (λ (z : Label). AreFaults g z (x ∷ h.rest)) target h.faults in
          ap (λ (fs : List Fault). slice_get fs 0) (one g k.target (x ∷ h.rest) (y ∷ k.rest) moved k.faults)
    ]
  ]

  never_both : (ts : List Label) (x : Fault) → IsLeastFault g ts None → IsFirstFault g ts x → ⊥
  never_both ts x n h = faulty h.target x h.rest h.faults (n h.target (has_at same_label own same ts h.place h.target h.here))

pub tells_least : TellsFaults → TellsLeast
unfolding least_fault_in
tells_least tells all g only ts = least g (faults_in all g) (tells all g only) ts

pub one_fault : ThereIsOneList → ThereIsOneFault
one_fault one g ts None None h k = refl
one_fault one g ts None (Some y) h k = absurd (never_both g ts y h k)
one_fault one g ts (Some x) None h k = absurd (never_both g ts x k h)
one_fault one g ts (Some x) (Some y) h k = one_first g one ts x y h k

pub is_the_least : ThereIsOneList → TellsLeast → IsTheLeast
is_the_least one tells all g only ts told h = one_fault one g ts told (least_fault_in all g ts) h (tells all g only ts)

pub lists_agree : ThereIsOneList → TellsLeast → ListsAgree
lists_agree one tells all other g only also ts = is_the_least one tells other g also ts (least_fault_in all g ts) (tells all g only ts)
