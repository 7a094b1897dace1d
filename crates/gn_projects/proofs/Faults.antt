-- The faults that are found are those of loading, and the first of them is the error.
use Rattle.std.proofs.Common.{◌≡◌, ℕ, List, [], ◌∷◌, Option, Some, None, refl, sym, ◌∙◌, ap, subst, ◌⊎◌, inl, inr, ◌↔◌, Bool, true, false, if◌then◌else◌}
use Rattle.gn_paths.specs.declared.place.Place.{Place}
use Rattle.gn_faults.specs.declared.fault.Fault.{Fault}
use Rattle.gn_faults.specs.Order.{is_before}
use Rattle.gn_runs.specs.Runs.{Question, content_of, import_of, End, ended, wrong, spoiled, needs, Run}
use Rattle.gn_runs.specs.Laws.{IsUnknown}
use Rattle.gn_runs.proofs.TreeLaws.{tree_needs_unknown}
use Rattle.gn_imports.specs.Rounds.{final}
use Rattle.gn_imports.specs.Causes.{Link, outcome, link, cycle_fault, cause, LeadsTo, IsOnCycle as IsRound, IsLeastPlace as IsLeastOf}
use Rattle.gn_imports.specs.Laws.{LeadsToWrong, LeadsToCycle}
use Rattle.gn_imports.proofs.Links.{wrong_outcome}
use Rattle.gn_imports.proofs.Causes.{cause_of_wrong, cause_of_cycle, ends_at_cause}
use Rattle.gn_closure.specs.Closure.{In}
use Rattle.gn_closure.specs.Least.{IsTooLarge}
use Rattle.gn_closure.specs.Reach.{Unit_key, Done, Is_reached, Holds}
use Rattle.gn_closure.proofs.Opened.{in_flat, flat_in}
use Rattle.gn_core.specs.Keys.{Layer, Import, unit_is, layer_of, unit_in, done_in, units, Leaving, UnitLeft}
use Rattle.gn_core.specs.Worlds.{World, all_meanings}
use Rattle.gn_core.specs.Counted.{units_reached, exceeds_limits}
use Rattle.gn_core.specs.Layered.{IsLayered}
use Rattle.gn_core.specs.Machine.{IsNeeded, Exceeds}
use Rattle.gn_core.proofs.Counting.{reached_listed, listed_reached, limits_computed}
use Rattle.gn_projects.specs.Errors.{too_large, IsOnCycle, IsLeastPlace, fault_toolchain, cycle_under, IsFaultOf, of_unit, of_import, of_cycle, IsErrorOf, of_limits, of_files}
use Rattle.gn_projects.specs.Computed.{goes_round, cause_under, faults_at, faults_of_unit, faults_of, first_of, least_of, loading_error}
use Rattle.gn_projects.specs.ErrorLaws.{FaultsAreFound, ErrorIsFound, NoErrorIsDone}
use Rattle.gn_projects.proofs.Links.{wrong_stops, wrong_is_unusable, cycle_goes, round_is_unusable, of_layer, is_project, links_true, answer_wrong, wrong_answer, run_of, unit_true, spoiler_needed, leads_needed, Spoils, unusable_spoils}

-- The least of several faults

-- one is among them, and none stands before it
abbrev pub IsLeastIn : List Fault → Fault → Type 0
IsLeastIn fs f = In fs f × ((g : Fault) → In fs g → is_before g f ≡ false)

first_some : (f : Fault) (x : Option Fault) → first_of f x ≡ None → ⊥
first_some f None h = cc
first_some f (Some o) h = by (is_before o f) h
  where
    by : (t : Bool) → (if t then Some o else Some f) ≡ None → ⊥
    by true h = cc
    by false h = cc

pub least_none : (fs : List Fault) → least_of fs ≡ None → fs ≡ []
least_none [] h = refl
least_none (f ∷ fs) h = absurd (first_some f (least_of fs) h)

-- the order of faults is strict and total
pub record IsFaultOrder : Type 0 where
  pub strict : (a : Fault) → is_before a a ≡ false
  pub transitive : (a b c : Fault) → is_before a b ≡ true → is_before b c ≡ true → is_before a c ≡ true
  pub total : (a b : Fault) → (is_before a b ≡ true) ⊎ ((a ≡ b) ⊎ (is_before b a ≡ true))

module _ (order : IsFaultOrder) where
  not_before : (a b c : Fault) → is_before b a ≡ false → is_before c b ≡ false → is_before c a ≡ false
  not_before a b c h k = by (is_before c a) refl
    where
      go : is_before c a ≡ true → (is_before a b ≡ true) ⊎ ((a ≡ b) ⊎ (is_before b a ≡ true)) → is_before c a ≡ false
      go e (inl f) = let t : is_before c b ≡ true = order.transitive c a b e f in absurd (cc)
      go e (inr (inl f)) = let t : is_before c b ≡ true = subst (λ z. is_before c z ≡ true) f e in absurd (cc)
      go e (inr (inr f)) = absurd (cc)

      by : (t : Bool) → is_before c a ≡ t → is_before c a ≡ false
      by false e = e
      by true e = go e (order.total a b)

  first_least : (f : Fault) (fs : List Fault) (x : Option Fault) → least_of fs ≡ x → ((g : Fault) → x ≡ Some g → IsLeastIn fs g) → (x ≡ None → fs ≡ []) → (g : Fault) → first_of f x ≡ Some g → IsLeastIn (f ∷ fs) g
  first_least f fs None e some none g h =
      let same : f ≡ g = cc in
      let empty : fs ≡ [] = none refl in
      (inl same, λ k i. by k i empty same)
    where
      by : (k : Fault) → In (f ∷ fs) k → fs ≡ [] → f ≡ g → is_before k g ≡ false
      by k (inl c) empty same = subst (λ z. is_before z g ≡ false) (sym same ∙ c) (order.strict g)
      by k (inr i) empty same = absurd (subst (λ (z : List Fault). In z k) empty i)
  first_least f fs (Some o) e some none g h = by (is_before o f) refl h
    where
      least : IsLeastIn fs o
      least = some o refl

      by : (t : Bool) → is_before o f ≡ t → (if t then Some o else Some f) ≡ Some g → IsLeastIn (f ∷ fs) g
      by true c h =
          let same : o ≡ g = cc in
          subst (IsLeastIn (f ∷ fs)) same (inr least.0, λ k i. go k i)
        where
          go : (k : Fault) → In (f ∷ fs) k → is_before k o ≡ false
          go k (inl d) = subst (λ z. is_before z o ≡ false) d (after (order.total f o))
            where
              after : (is_before f o ≡ true) ⊎ ((f ≡ o) ⊎ (is_before o f ≡ true)) → is_before f o ≡ false
              after (inl x) = let t : is_before f f ≡ true = order.transitive f o f x c in let n : is_before f f ≡ false = order.strict f in absurd (cc)
              after (inr (inl x)) = subst (λ z. is_before z o ≡ false) (sym x) (order.strict o)
              after (inr (inr x)) = not_both f o x
                where
                  not_both : (a b : Fault) → is_before b a ≡ true → is_before a b ≡ false
                  not_both a b y = by_test (is_before a b) refl
                    where
                      by_test : (t : Bool) → is_before a b ≡ t → is_before a b ≡ false
                      by_test false z = z
                      by_test true z = let t : is_before a a ≡ true = order.transitive a b a z y in let n : is_before a a ≡ false = order.strict a in absurd (cc)
          go k (inr i) = least.1 k i
      by false c h =
          let same : f ≡ g = cc in
          subst (IsLeastIn (f ∷ fs)) same (inl refl, λ k i. go k i)
        where
          go : (k : Fault) → In (f ∷ fs) k → is_before k f ≡ false
          go k (inl d) = subst (λ z. is_before z f ≡ false) d (order.strict f)
          go k (inr i) = not_before f o k c (least.1 k i)

  pub least_some : (fs : List Fault) (g : Fault) → least_of fs ≡ Some g → IsLeastIn fs g
  least_some [] g h = absurd (cc)
  least_some (f ∷ fs) g h = first_least f fs (least_of fs) refl (λ k e. least_some fs k e) (λ e. least_none fs e) g h

  one_least : (fs : List Fault) (f g : Fault) → IsLeastIn fs f → IsLeastIn fs g → f ≡ g
  one_least fs f g a b = by (order.total f g)
    where
      by : (is_before f g ≡ true) ⊎ ((f ≡ g) ⊎ (is_before g f ≡ true)) → f ≡ g
      by (inl h) = let n : is_before f g ≡ false = b.1 f a.0 in absurd (cc)
      by (inr (inl h)) = h
      by (inr (inr h)) = let n : is_before g f ≡ false = a.1 g b.0 in absurd (cc)

  pub some_least : (fs : List Fault) (f : Fault) → IsLeastIn fs f → least_of fs ≡ Some f
  some_least fs f a = by (least_of fs) refl
    where
      by : (x : Option Fault) → least_of fs ≡ x → least_of fs ≡ Some f
      by None e = absurd (subst (λ (z : List Fault). In z f) (least_none fs e) a.0)
      by (Some g) e = e ∙ ap Some (one_least fs g f (least_some fs g e) a)

-- The faults that are found

chosen : (t b : Bool) (x y : Fault) → b ≡ t → (if b then x else y) ≡ (if t then x else y)
chosen t b x y e = ap (λ z. if z then x else y) e

round_fault : (toolchain : List ℕ) (place : Place) (f : Fault) → f ≡ cycle_fault (Some place) → record f { toolchain = toolchain } ≡ cycle_under toolchain place
round_fault toolchain place f e = ap (λ (z : Fault). record z { toolchain = toolchain }) e

module _ (w : World) (l : IsLayered w) where
  abbrev told : Layer → List ℕ
  told m = fault_toolchain (units (all_meanings w)) m

  cause_wrong : (m : Layer) (path q : List ℕ) (fault : Fault) → LeadsTo (of_layer w l m) path q → (outcome (of_layer w l m) q).end ≡ wrong fault → cause_under (told m) (of_layer w l m) path ≡ fault
  cause_wrong m path q fault h e =
      chosen false (goes_round (of_layer w l m) path) _ _ (wrong_stops (of_layer w l m) (is_project w l m) path q fault h e)
      ∙ cause_of_wrong (of_layer w l m) (is_project w l m) path q fault h e

  cause_round : (m : Layer) (path q : List ℕ) (place : Place) → LeadsTo (of_layer w l m) path q → IsRound (of_layer w l m) q → IsLeastOf (of_layer w l m) q place → cause_under (told m) (of_layer w l m) path ≡ cycle_under (told m) place
  cause_round m path q place h c least =
      chosen true (goes_round (of_layer w l m) path) _ _ (cycle_goes (of_layer w l m) (is_project w l m) path q h c)
      ∙ round_fault (told m) place (cause (of_layer w l m) path) (cause_of_cycle (of_layer w l m) (is_project w l m) path q place h c least)

  -- what is found is a fault of loading

  over_answers : (m : Layer) (q : List ℕ) (place : Place) (fault : Fault) → IsNeeded w (all_meanings w) (Import m q) → IsRound (of_layer w l m) q → IsLeastOf (of_layer w l m) q place → fault ≡ cycle_under (told m) place → IsFaultOf w (all_meanings w) fault
  over_answers m q place fault n c least e =
      let cycle : IsOnCycle (link (of_layer w l m)) q = c in
      let first : IsLeastPlace (link (of_layer w l m)) q place = record { found = least.found; least = least.least } in
      of_cycle m q place fault n (subst (λ (next : List ℕ → Option Link). IsOnCycle next q) (sym (links_true w l m)) cycle)
      (subst (λ (next : List ℕ → Option Link). IsLeastPlace next q place) (sym (links_true w l m)) first) e

  caused : (m : Layer) (path : List ℕ) (fault : Fault) → IsNeeded w (all_meanings w) (Import m path) → cause_under (told m) (of_layer w l m) path ≡ fault → LeadsToWrong (of_layer w l m) path ⊎ LeadsToCycle (of_layer w l m) path
      → IsFaultOf w (all_meanings w) fault
  caused m path fault n e (inl (q, f, h, x, c)) =
      let bad = wrong_outcome (of_layer w l m) (is_project w l m) q f x in
      let a = wrong_answer w l m q f bad in
      let same : f ≡ fault = sym (cause_wrong m path q f h bad) ∙ e in
      of_import m q a.0 fault (leads_needed w l m path q h n) a.1 (a.2 ∙ ap wrong same)
  caused m path fault n e (inr (q, place, h, c, least, x)) =
      over_answers m q place fault (leads_needed w l m path q h n) c least (sym e ∙ cause_round m path q place h c least)

  from_unit : (k : Unit_key) → Holds w.home (units (all_meanings w)) (Is_reached k) → (fault : Fault) (end : End (Leaving UnitLeft)) → (run_of w l k).end ≡ end
      → In (faults_at (told (layer_of k)) (of_layer w l (layer_of k)) end) fault → IsFaultOf w (all_meanings w) fault
  from_unit k h fault (ended left) e i = absurd i
  from_unit k h fault (wrong f) e (inl c) = of_unit k (run_of w l k) fault h (unit_true w l k) (e ∙ ap wrong c)
  from_unit k h fault (wrong f) e (inr i) = absurd i
  from_unit k h fault (spoiled path place) e (inl c) =
      let n = spoiler_needed w l k path place h e in
      caused (layer_of k) path fault n.1 c (ends_at_cause (of_layer w l (layer_of k)) (is_project w l (layer_of k)) path n.0)
  from_unit k h fault (spoiled path place) e (inr i) = absurd i
  from_unit k h fault (needs q place) e i = absurd i

  module _ (small : IsTooLarge w.home (units (all_meanings w)) → ⊥) where
    pub found_is : (fault : Fault) → In (faults_of w) fault → IsFaultOf w (all_meanings w) fault
    unfolding faults_of
    found_is fault i =
        let u = in_flat (faults_of_unit w) (units_reached w) fault i in
        from_unit u.0 (listed_reached w l small u.0 u.1) fault (run_of w l u.0).end refl u.2

    -- and a fault of loading is found

    of_run : (k : Unit_key) → Holds w.home (units (all_meanings w)) (Is_reached k) → (fault : Fault) (end : End (Leaving UnitLeft)) → (run_of w l k).end ≡ end
        → In (faults_at (told (layer_of k)) (of_layer w l (layer_of k)) end) fault → In (faults_of w) fault
    unfolding faults_of
    of_run k h fault end e i =
        flat_in (faults_of_unit w) (units_reached w) k fault (reached_listed w l small k h)
        (subst (λ (z : End (Leaving UnitLeft)). In (faults_at (told (layer_of k)) (of_layer w l (layer_of k)) z) fault) (sym e) i)

    of_spoiled : (m : Layer) (path : List ℕ) (fault : Fault) (s : Spoils w l m path) → cause_under (told m) (of_layer w l m) s.first ≡ fault → In (faults_of w) fault
    of_spoiled m path fault s e =
        of_run s.unit s.reached fault (spoiled s.first s.place) s.ends
        (inl (subst (λ z. cause_under (told z) (of_layer w l z) s.first ≡ fault) s.layer e))

    pub is_found : (fault : Fault) → IsFaultOf w (all_meanings w) fault → In (faults_of w) fault
    is_found fault (of_unit k run f h e x) =
        let same : run_of w l k ≡ run = (let both : Some (unit_is (run_of w l k)) ≡ Some (unit_is run) = sym (unit_true w l k) ∙ e in cc) in
        of_run k h fault (wrong fault) (ap (λ (r : Run (Leaving UnitLeft)). r.end) same ∙ x) (inl refl)
    is_found fault (of_import m path run f n e x) =
        let bad = answer_wrong w l m path run fault e x in
        let s = unusable_spoils w l (Import m path) n m path refl (wrong_is_unusable (of_layer w l m) (is_project w l m) path fault bad) in
        of_spoiled m path fault s (cause_wrong m s.first path fault s.leads bad)
    is_found fault (of_cycle m path place f n c least e) =
        let cycle : IsRound (of_layer w l m) path = subst (λ (next : List ℕ → Option Link). IsOnCycle next path) (links_true w l m) c in
        let first : IsLeastPlace (link (of_layer w l m)) path place = subst (λ (next : List ℕ → Option Link). IsLeastPlace next path place) (links_true w l m) least in
        let all : IsLeastOf (of_layer w l m) path place = record { found = first.found; least = first.least } in
        let s = unusable_spoils w l (Import m path) n m path refl (round_is_unusable (of_layer w l m) (is_project w l m) path cycle) in
        of_spoiled m path fault s (cause_round m s.first path place s.leads cycle all ∙ sym e)

pub faults_are_found : FaultsAreFound
faults_are_found w l small fault = (found_is w l small fault, is_found w l small fault)

-- The error

module _ (w : World) (l : IsLayered w) (known : List ℕ → Bool) where
  abbrev Large : Type 0
  Large = Exceeds w known (all_meanings w)

  none_large : exceeds_limits w known ≡ false → Large → ⊥
  none_large e h = let t : exceeds_limits w known ≡ true = (limits_computed w l known).1 h in cc

  error_there : IsFaultOrder → (fault : Fault) (t : Bool) → exceeds_limits w known ≡ t → (if t then Some too_large else least_of (faults_of w)) ≡ Some fault → IsErrorOf w (all_meanings w) Large fault
  error_there order fault true e h = of_limits fault ((limits_computed w l known).0 e) (let same : too_large ≡ fault = cc in sym same)
  error_there order fault false e h =
      let small : IsTooLarge w.home (units (all_meanings w)) → ⊥ = λ x. none_large e (inl x) in
      let m = least_some order (faults_of w) fault h in
      of_files fault (none_large e) (record { found = found_is w l small fault m.0; least = λ g i. m.1 g (is_found w l small g i) })

  there_error : IsFaultOrder → (fault : Fault) (t : Bool) → exceeds_limits w known ≡ t → IsErrorOf w (all_meanings w) Large fault → (if t then Some too_large else least_of (faults_of w)) ≡ Some fault
  there_error order fault true e (of_limits f h x) = ap Some (sym x)
  there_error order fault true e (of_files f h x) = absurd (h ((limits_computed w l known).0 e))
  there_error order fault false e (of_limits f h x) = absurd (none_large e h)
  there_error order fault false e (of_files f h x) =
      let small : IsTooLarge w.home (units (all_meanings w)) → ⊥ = λ y. none_large e (inl y) in
      some_least order (faults_of w) fault (is_found w l small fault x.found, λ g i. x.least g (found_is w l small g i))

  pub error_found : IsFaultOrder → (fault : Fault) → (loading_error w known ≡ Some fault) ↔ IsErrorOf w (all_meanings w) Large fault
  unfolding loading_error
  error_found order fault = (λ h. error_there order fault (exceeds_limits w known) refl h, λ h. there_error order fault (exceeds_limits w known) refl h)

  -- where there is none all units are done
  never : (k : Unit_key) (q : Question) (p : Place) → (run_of w l k).end ≡ needs q p → ⊥
  unfolding final
  never k q p h = go q (tree_needs_unknown (w.unit_run k (all_meanings w)) (l.is.trees (all_meanings w) k) (final (of_layer w l (layer_of k))) q p h).0
    where
      go : (q : Question) → IsUnknown (final (of_layer w l (layer_of k))) q → ⊥
      go (content_of path) e = cc
      go (import_of path) e = cc

  done_by : (k : Unit_key) → Holds w.home (units (all_meanings w)) (Is_reached k) → (IsTooLarge w.home (units (all_meanings w)) → ⊥) → faults_of w ≡ [] → (end : End (Leaving UnitLeft)) → (run_of w l k).end ≡ end
      → (d : Done) × (units (all_meanings w) k ≡ Some (Some d))
  done_by k h small none (ended left) e = (left.value.needs, ap unit_in (unit_true w l k) ∙ ap (λ (z : End (Leaving UnitLeft)). Some (done_in z)) e)
  done_by k h small none (wrong f) e = absurd (subst (λ (z : List Fault). In z f) none (of_run w l small k h f (wrong f) e (inl refl)))
  done_by k h small none (spoiled path place) e =
      absurd (subst (λ (z : List Fault). In z (cause_under (told w l (layer_of k)) (of_layer w l (layer_of k)) path)) none (of_run w l small k h _ (spoiled path place) e (inl refl)))
  done_by k h small none (needs q p) e = absurd (never k q p e)

  pub none_done : (t : Bool) → exceeds_limits w known ≡ t → (if t then Some too_large else least_of (faults_of w)) ≡ None → (k : Unit_key) → Holds w.home (units (all_meanings w)) (Is_reached k) → (d : Done) × (units (all_meanings w) k ≡ Some (Some d))
  none_done true e h k r = absurd (cc)
  none_done false e h k r = done_by k r (λ y. none_large e (inl y)) (least_none (faults_of w) h) (run_of w l k).end refl

pub error_is_found : IsFaultOrder → ErrorIsFound
error_is_found order w l known fault = error_found w l known order fault

pub no_error_is_done : NoErrorIsDone
unfolding loading_error
no_error_is_done w l known h k r = none_done w l known (exceeds_limits w known) refl h k r
