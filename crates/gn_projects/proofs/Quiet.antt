-- When loading has come to rest what is filed has the faults of the tree.
use Rattle.std.proofs.Common.{◌≡◌, ℕ, zero, suc, List, [], Option, Some, None, refl, sym, ◌∙◌, ap, subst, Bool}
use Rattle.gn_paths.specs.declared.place.Place.{Place}
use Rattle.gn_faults.specs.declared.fault.Fault.{Fault}
use Rattle.gn_runs.specs.Runs.{Question}
use Rattle.gn_runs.specs.Laws.{IsAsked}
use Rattle.gn_imports.specs.Causes.{Link, link, led_by, led}
use Rattle.gn_closure.specs.Reach.{Unit_key, Setup, Is_reached, Holds}
use Rattle.gn_closure.proofs.Least.{first_held}
use Rattle.gn_core.specs.Keys.{Layer, Key, Import, Unit_of, Answer, unit_in, units, Filed}
use Rattle.gn_core.specs.Worlds.{World, all_meanings}
use Rattle.gn_core.specs.Layered.{IsLayered}
use Rattle.gn_core.specs.Machine.{State, replay, IsFiled, asked_in, IsNeeded, by_unit, by_import, HasLoaded, IsOpening, Exceeds, FiledExceeds}
use Rattle.gn_core.proofs.Quiet.{Both, run_both, above, holds_above, back, needed_filed, reached_filed_unit}
use Rattle.gn_core.proofs.Limits.{limits_agree}
use Rattle.gn_projects.specs.Errors.{link_filed, link_at, Leads, LeadsToCall, IsOnCycle, IsLeastPlace, fault_toolchain, default_told, shown_of_layer, cycle_under, IsFaultOf, of_unit, of_import, of_cycle, IsErrorOf, of_limits, of_files}
use Rattle.gn_projects.specs.ErrorLaws.{QuietHasFaults, QuietHasError}
use Rattle.gn_projects.proofs.Links.{of_layer, links_true, leads_needed}
use Rattle.gn_projects.proofs.Faults.{IsFaultOrder, error_is_found}

asker : (x : Option Answer) (q : Question) → IsAsked (asked_in x) q → (v : Answer) × (x ≡ Some v)
asker None q i = absurd i
asker (Some v) q i = (v, refl)

linker : (x : Option Answer) (c : Link) → link_filed x ≡ Some c → (v : Answer) × (x ≡ Some v)
linker None c h = absurd (cc)
linker (Some v) c h = (v, refl)

-- Links that agree wherever some links lead

module _ (f g : List ℕ → Option Link) (P : List ℕ → Type 0) (same : (path : List ℕ) → P path → f path ≡ g path) (next : (path : List ℕ) (c : Link) → P path → f path ≡ Some c → P c.path) where
  led_same : (n : ℕ) (path q : List ℕ) → P path → led f n path ≡ Some q → (led g n path ≡ Some q) × P q
  led_same zero path q p h = let e : path ≡ q = cc in (h, subst P e p)
  led_same (suc n) path q p h = by (f path) refl (λ r. led_same n r q) h
    where
      by : (x : Option Link) → f path ≡ x → ((r : List ℕ) → P r → led f n r ≡ Some q → (led g n r ≡ Some q) × P q) → led_by x (led f n) ≡ Some q → (led_by (g path) (led g n) ≡ Some q) × P q
      by None e ih k = absurd (cc)
      by (Some c) e ih k =
          let m = ih c.path (next path c p e) k in
          (ap (λ (x : Option Link). led_by x (led g n)) (sym (same path p) ∙ e) ∙ m.0, m.1)

  pub leads_same : (path q : List ℕ) → P path → Leads f path q → Leads g path q × P q
  leads_same path q p h = let m = led_same h.0 path q p h.1 in ((h.0, m.0), m.1)

  pub call_same : (path : List ℕ) (c : Link) → P path → LeadsToCall f path c → LeadsToCall g path c
  call_same path c p h = let m = leads_same path h.0 p h.1 in (h.0, m.0, sym (same h.0 m.1) ∙ h.2)

  pub cycle_same : (path : List ℕ) → P path → IsOnCycle f path → IsOnCycle g path
  cycle_same path p h = (h.0, sym (same path p) ∙ h.1, (leads_same h.0.path path (next path h.0 p h.1) h.2).0)

module _ (w : World) (l : IsLayered w) (known : List ℕ → Bool) (first s : State) (op : IsOpening w known first) (b : Both w l known first op s) (quiet : HasLoaded w s) where
  pub is_part : (k : Key) (v : Answer) → s.filed k ≡ Some v → all_meanings w k ≡ Some v
  is_part k v e = above w l first s b.inv b.bases b.scope op.records op.units k v e

  pub reached_up : (k : Unit_key) → Holds w.home (units s.filed) (Is_reached k) → Holds w.home (units (all_meanings w)) (Is_reached k)
  reached_up k h = holds_above w l first s b.inv b.bases b.scope op.records op.units (Is_reached k) h

  pub reached_down : (k : Unit_key) → Holds w.home (units (all_meanings w)) (Is_reached k) → Holds w.home (units s.filed) (Is_reached k)
  reached_down k h = back w l first s b.inv b.bases b.scope op.records op.units quiet (Is_reached k) h

  unit_filed : (k : Unit_key) → Holds w.home (units (all_meanings w)) (Is_reached k) → IsFiled s.filed (Unit_of k)
  unit_filed k h = reached_filed_unit w l first s b.inv b.bases b.scope op.records op.units quiet k h

  import_filed : (k : Key) → IsNeeded w (all_meanings w) k → IsFiled s.filed k
  import_filed k n = needed_filed w l first s b.inv b.bases b.scope op.records op.units quiet k n

  filed_same : (k : Key) → IsFiled s.filed k → s.filed k ≡ all_meanings w k
  filed_same k f = f.1 ∙ sym (is_part k f.0 f.1)

  -- what is needed over one is needed over the other
  asked_up : (k : Key) (q : Question) → IsAsked (asked_in (s.filed k)) q → IsAsked (asked_in (all_meanings w k)) q
  asked_up k q i = let v = asker (s.filed k) q i in subst (λ (z : Option Answer). IsAsked (asked_in z) q) (v.1 ∙ sym (is_part k v.0 v.1)) i

  pub needed_up : (k : Key) → IsNeeded w s.filed k → IsNeeded w (all_meanings w) k
  needed_up k (by_unit u q h i) = by_unit u q (reached_up u h) (asked_up (Unit_of u) q i)
  needed_up k (by_import m path q h i) = by_import m path q (needed_up (Import m path) h) (asked_up (Import m path) q i)

  asked_down : (k : Key) (q : Question) → IsFiled s.filed k → IsAsked (asked_in (all_meanings w k)) q → IsAsked (asked_in (s.filed k)) q
  asked_down k q f i = subst (λ (z : Option Answer). IsAsked (asked_in z) q) (sym (filed_same k f)) i

  pub needed_down : (k : Key) → IsNeeded w (all_meanings w) k → IsNeeded w s.filed k
  needed_down k (by_unit u q h i) = by_unit u q (reached_down u h) (asked_down (Unit_of u) q (unit_filed u h) i)
  needed_down k (by_import m path q h i) = by_import m path q (needed_down (Import m path) h) (asked_down (Import m path) q (import_filed (Import m path) h) i)

  module _ (m : Layer) where
    abbrev IsIn : List ℕ → Type 0
    IsIn path = IsNeeded w (all_meanings w) (Import m path)

    same_link : (path : List ℕ) → IsIn path → link_at s.filed m path ≡ link_at (all_meanings w) m path
    same_link path n = ap link_filed (filed_same (Import m path) (import_filed (Import m path) n))

    next_over : (path : List ℕ) (c : Link) → IsIn path → link_at (all_meanings w) m path ≡ Some c → IsIn c.path
    next_over path c n e =
        let one : link (of_layer w l m) path ≡ Some c = sym (ap (λ (f : List ℕ → Option Link). f path) (links_true w l m)) ∙ e in
        leads_needed w l m path c.path (suc zero, ap (λ (x : Option Link). led_by x (led (link (of_layer w l m)) zero)) one) n

    next_below : (path : List ℕ) (c : Link) → IsIn path → link_at s.filed m path ≡ Some c → IsIn c.path
    next_below path c n e = next_over path c n (sym (same_link path n) ∙ e)

    pub cycle_up : (path : List ℕ) → IsIn path → IsOnCycle (link_at s.filed m) path → IsOnCycle (link_at (all_meanings w) m) path
    cycle_up path n h = cycle_same (link_at s.filed m) (link_at (all_meanings w) m) IsIn same_link next_below path n h

    pub cycle_down : (path : List ℕ) → IsIn path → IsOnCycle (link_at (all_meanings w) m) path → IsOnCycle (link_at s.filed m) path
    cycle_down path n h = cycle_same (link_at (all_meanings w) m) (link_at s.filed m) IsIn (λ q p. sym (same_link q p)) next_over path n h

    call_up : (path : List ℕ) (c : Link) → IsIn path → LeadsToCall (link_at s.filed m) path c → LeadsToCall (link_at (all_meanings w) m) path c
    call_up path c n h = call_same (link_at s.filed m) (link_at (all_meanings w) m) IsIn same_link next_below path c n h

    call_down : (path : List ℕ) (c : Link) → IsIn path → LeadsToCall (link_at (all_meanings w) m) path c → LeadsToCall (link_at s.filed m) path c
    call_down path c n h = call_same (link_at (all_meanings w) m) (link_at s.filed m) IsIn (λ q p. sym (same_link q p)) next_over path c n h

    pub least_up : (path : List ℕ) (place : Place) → IsIn path → IsLeastPlace (link_at s.filed m) path place → IsLeastPlace (link_at (all_meanings w) m) path place
    least_up path place n h = record { found = (h.found.0, call_up path h.found.0 n h.found.1, h.found.2); least = λ c i. h.least c (call_down path c n i) }

    pub least_down : (path : List ℕ) (place : Place) → IsIn path → IsLeastPlace (link_at (all_meanings w) m) path place → IsLeastPlace (link_at s.filed m) path place
    least_down path place n h = record { found = (h.found.0, call_down path h.found.0 n h.found.1, h.found.2); least = λ c i. h.least c (call_up path c n i) }

  same_toolchain : (m : Layer) → fault_toolchain (units s.filed) m ≡ fault_toolchain (units (all_meanings w)) m
  same_toolchain m =
      ap (λ (x : Option Answer). shown_of_layer (default_told (unit_in x)) m)
      (filed_same (Unit_of (Setup [])) (unit_filed (Setup []) (first_held w.home (units (all_meanings w)))))

  pub fault_up : (fault : Fault) → IsFaultOf w s.filed fault → IsFaultOf w (all_meanings w) fault
  fault_up fault (of_unit k run f h e x) = of_unit k run fault (reached_up k h) (is_part (Unit_of k) _ e) x
  fault_up fault (of_import m path run f n e x) = of_import m path run fault (needed_up (Import m path) n) (is_part (Import m path) _ e) x
  fault_up fault (of_cycle m path place f n c least e) =
      let u = needed_up (Import m path) n in
      of_cycle m path place fault u (cycle_up m path u c) (least_up m path place u least) (e ∙ ap (λ t. cycle_under t place) (same_toolchain m))

  pub fault_down : (fault : Fault) → IsFaultOf w (all_meanings w) fault → IsFaultOf w s.filed fault
  fault_down fault (of_unit k run f h e x) = of_unit k run fault (reached_down k h) (filed_same (Unit_of k) (unit_filed k h) ∙ e) x
  fault_down fault (of_import m path run f n e x) =
      of_import m path run fault (needed_down (Import m path) n) (filed_same (Import m path) (import_filed (Import m path) n) ∙ e) x
  fault_down fault (of_cycle m path place f n c least e) =
      of_cycle m path place fault (needed_down (Import m path) n) (cycle_down m path n c) (least_down m path place n least) (e ∙ ap (λ t. cycle_under t place) (sym (same_toolchain m)))

-- errors over answers that have the same faults
error_moves : (w : World) (a c : Filed) (Large Other : Type 0) → ((f : Fault) → IsFaultOf w a f → IsFaultOf w c f) → ((f : Fault) → IsFaultOf w c f → IsFaultOf w a f) → (Large → Other) → (Other → Large) → (fault : Fault)
    → IsErrorOf w a Large fault → IsErrorOf w c Other fault
error_moves w a c Large Other to from up down fault (of_limits f h e) = of_limits fault (up h) e
error_moves w a c Large Other to from up down fault (of_files f h x) =
    of_files fault (λ o. h (down o)) (record { found = to fault x.found; least = λ g i. x.least g (from g i) })

pub quiet_has_faults : QuietHasFaults
quiet_has_faults w known s es is quiet fault = (fault_up w is.layered known s (replay s es) is.opening b quiet fault, fault_down w is.layered known s (replay s es) is.opening b quiet fault)
  where
    b : Both w is.layered known s is.opening (replay s es)
    b = run_both w is.layered known s is.opening es is.runs is.over

pub quiet_has_error : IsFaultOrder → QuietHasError
quiet_has_error order w known s es is quiet fault =
    let e = error_is_found order w is.layered known fault in
    let large = (limits_agree w known s es is).1 quiet in (
      λ h. error_moves w (all_meanings w) (replay s es).filed (Exceeds w known (all_meanings w)) (FiledExceeds w known (replay s es).filed) (λ f. (quiet_has_faults w known s es is quiet f).1) (λ f. (quiet_has_faults w known s es is quiet f).0) large.1 large.0 fault (e.0 h),
      λ h. e.1 (error_moves w (replay s es).filed (all_meanings w) (FiledExceeds w known (replay s es).filed) (Exceeds w known (all_meanings w)) (λ f. (quiet_has_faults w known s es is quiet f).0) (λ f. (quiet_has_faults w known s es is quiet f).1) large.0 large.1 fault h),
    )
