-- What loading by one seat comes to at rest: all is loaded, no limit is exceeded, and its error is that of the build.
use Rattle.std.proofs.Common.{◌≡◌, ◌⊎◌, inl, inr, ℕ, List, [], map, slice_get, unwrap_or, Option, Some, None, Bool, true, false, ◌&&◌, if◌then◌else◌, refl, sym, ◌∙◌, ap, subst, true≢false, arith}
use Rattle.std.proofs.lemmas.Option.{slice_get_within}
use Rattle.std.specs.Prelude.{is_some}
use Rattle.std.specs.List.{flat_map}
use Rattle.std.proofs.lemmas.Bool.{or_left}
use Rattle.gn_faults.specs.declared.fault.Fault.{Fault}
use Rattle.gn_environment.specs.Chains.{is_one_of}
use Rattle.gn_runs.specs.Runs.{Question}
use Rattle.gn_runs.specs.Laws.{IsAsked}
use Rattle.gn_closure.specs.Closure.{In}
use Rattle.gn_closure.specs.Reach.{Unit_key, Is_reached, Holds}
use Rattle.gn_closure.specs.Least.{IsTooLarge}
use Rattle.gn_closure.proofs.Opened.{in_flat, flat_in}
use Rattle.gn_closure.proofs.Least.{limits_exact}
use Rattle.gn_graph.specs.Needs.{home}
use Rattle.gn_core.specs.Keys.{Key, Read, Import, Unit_of, Resolve, Answer, units, same_key}
use Rattle.gn_core.specs.Worlds.{World, all_meanings}
use Rattle.gn_core.specs.Layered.{IsLayered}
use Rattle.gn_core.specs.Machine.{State, IsReady, HasLoaded, IsFiled, asked_in, IsNeeded, HasMore, Exceeds, FiledExceeds, IsOpening, read_limit}
use Rattle.gn_core.specs.Statements.{Wanted}
use Rattle.gn_core.specs.Counted.{units_reached, exceeds_limits}
use Rattle.gn_core.proofs.Limits.{exceeds_grows}
use Rattle.gn_core.proofs.Quiet.{Both, needed_filed, reached_filed_unit}
use Rattle.gn_core.proofs.Counting.{reached_listed, listed_reached, limits_computed}
use Rattle.gn_book.specs.Logs.{Log, opening, state_of, key_at, IsFree}
use Rattle.gn_book.specs.Next.{IsReadyNumber}
use Rattle.gn_book.specs.NextLaws.{HasNumber}
use Rattle.gn_book.specs.Tasks.{is_task}
use Rattle.gn_projects.specs.Files.{Files}
use Rattle.gn_projects.specs.Worlds.{world_of}
use Rattle.gn_projects.specs.Computed.{faults_of_unit, faults_of, least_of}
use Rattle.gn_projects.specs.Loaded.{is_build_file, loaded_by, loaded, files_reached}
use Rattle.gn_projects.proofs.Faults.{IsFaultOrder, some_least}
use Rattle.gn_projects.proofs.Layered.{whole_builds_are_layered}
use Rattle.gn_projects.proofs.Quiet.{reached_up, reached_down, needed_up}
use Rattle.gn_builds.specs.Driving.{is_begun, is_loaded, files_begun, paths_read, unknown_of}
use Rattle.gn_builds.specs.Rest.{IsAtRest, RestIsLoaded, IsSmall, ReachesFew, IsWithinLimits, RestIsWithin, LargeImportsAreTooLarge, faults_of_key, IsFirstOf, RestIsJudged, RestCountsFiles, is_execution}
use Rattle.gn_builds.proofs.Logs.{opens}
use Rattle.gn_builds.proofs.Named.{number_of, found_number}
use Rattle.gn_builds.proofs.ReadPaths.{in_read}
use Rattle.gn_builds.proofs.Members.{key_tested, none_in, long_map, map_in, one_in, filter_in, no_longer, as_long, counted}
use Rattle.gn_builds.proofs.Executions.{file_unit, not_large, files_in_order, files_distinct, file_there, there_file}
use Rattle.gn_builds.proofs.Asked.{meant, large_up, exceeding, large_end, unknown_in, driven_both, files_loaded, loaded_once, loaded_wanted}

-- Numbers

pub named_at : (l : Log) (n : ℕ) (k : Key) → slice_get l.keys n ≡ Some k → key_at l n ≡ k
named_at l n k at = ap (λ (o : Option Key). unwrap_or o (Read [])) at

-- All is loaded

ready_number : (l : Log) (k : Key) (n : ℕ) → slice_get l.keys n ≡ Some k → is_task k ≡ true → IsFree (state_of l) k → IsReadyNumber l n
ready_number l k n at task free =
    let same = named_at l n k at in
    record {
      number = slice_get_within l.keys n k at;
      task = ap is_task same ∙ task;
      free = subst (λ (z : Key). IsFree (state_of l) z) (sym same) free;
    }

none_ready : (files : Files) (l : Log) → IsAtRest files l → (u : Unit_key) → IsReady (world_of files) (state_of l) (Unit_of u) → ⊥
none_ready files l rest u ready =
    let number : HasNumber l (Unit_of u) = (rest.numbers u).1 ready.0 in
    rest.next.1 number.0 (ready_number l (Unit_of u) number.0 number.1 refl (record { unclaimed = ready.1; unfiled = ready.2 }))

pub rest_is_loaded : RestIsLoaded
rest_is_loaded files l rest = (λ u ready. none_ready files l rest u ready, rest.next.2, rest.next.0)

-- Where all is loaded

module _ (w : World) (lay : IsLayered w) (op : IsOpening w (λ path. false) opening) (s : State) (b : Both w lay (λ path. false) opening op s) (all : HasLoaded w s) where
  pub unit_filed : (u : Unit_key) → Holds w.home (units (all_meanings w)) (Is_reached u) → IsFiled s.filed (Unit_of u)
  unit_filed u h = reached_filed_unit w lay opening s b.inv b.bases b.scope op.records op.units all u h

  pub key_filed : (k : Key) → IsNeeded w (all_meanings w) k → IsFiled s.filed k
  key_filed k n = needed_filed w lay opening s b.inv b.bases b.scope op.records op.units all k n

  -- what is executed has its answer
  pub execution_filed : (k : Key) → is_execution k ≡ true → Wanted w k → IsFiled s.filed k
  execution_filed (Read path) e h = absurd (true≢false (sym e))
  execution_filed (Import m path) e h = key_filed (Import m path) h
  execution_filed (Unit_of u) e h = unit_filed u h
  execution_filed (Resolve label) e h = absurd (true≢false (sym e))

  filed_asks : (k : Key) → IsFiled s.filed k → (q : Question) → IsAsked (asked_in (all_meanings w k)) q → IsAsked (asked_in (s.filed k)) q
  filed_asks k f q i = subst (λ (z : Option Answer). IsAsked (asked_in z) q) (meant w lay op s b k f.0 f.1 ∙ sym f.1) i

  filed_exceeds : (known : List ℕ → Bool) → Exceeds w known (all_meanings w) → FiledExceeds w known s.filed
  filed_exceeds known h =
      exceeds_grows w known (all_meanings w) s.filed (λ u r. reached_down w lay (λ path. false) opening s op b all u r) same (IsNeeded w (all_meanings w)) (IsFiled s.filed) (λ path e n. key_filed (Read path) n) h
    where
      same : (k : Key) (q : Question) → ((u : Unit_key) × (k ≡ Unit_of u) × Holds w.home (units (all_meanings w)) (Is_reached u)) ⊎ IsNeeded w (all_meanings w) k → IsAsked (asked_in (all_meanings w k)) q → IsAsked (asked_in (s.filed k)) q
      same k q (inl (u, e, h)) i = filed_asks k (subst (IsFiled s.filed) (sym e) (unit_filed u h)) q i
      same k q (inr n) i = filed_asks k (key_filed k n) q i

  needed_there : (k : Key) → IsNeeded w s.filed k → IsFiled s.filed k
  needed_there k n = key_filed k (needed_up w lay (λ path. false) opening s op b all k n)

-- Limits

module _ (files : Files) (l : Log) (rest : IsAtRest files l) where
  abbrev layered : IsLayered (world_of files)
  layered = whole_builds_are_layered files

  abbrev opened : IsOpening (world_of files) (λ path. false) opening
  opened = opens (world_of files)

  both : Both (world_of files) layered (λ path. false) opening opened (state_of l)
  both = driven_both files l [] rest.driven rest.over

  all : HasLoaded (world_of files) (state_of l)
  all = rest_is_loaded files l rest

  -- reads that have answers and weren't known before are among those that were counted
  few_reads : (known : List (List ℕ)) → IsSmall known l → HasMore (λ q. (path : List ℕ) × (q ≡ Read path) × (is_one_of path known ≡ false) × IsFiled (state_of l).filed q) read_limit → ⊥
  few_reads known small (ks, distinct, more, each) =
      let few = no_longer same_key key_tested ks (map Read (unknown_of known (paths_read l.keys))) distinct there in
      let long = long_map Read (unknown_of known (paths_read l.keys)) in
      absurd (omega (arith, few, long, more, small))
    where
      there : (k : Key) → In ks k → In (map Read (unknown_of known (paths_read l.keys))) k
      there k i =
          let x = each k i in
          let filed : IsFiled (state_of l).filed (Read x.0) = subst (IsFiled (state_of l).filed) x.1 x.3 in
          let read = one_in (paths_read l.keys) x.0 (in_read l.keys x.0 (rest.driven.named.filed (Read x.0) filed)) in
          subst (In (map Read (unknown_of known (paths_read l.keys)))) (sym x.1) (map_in Read (unknown_of known (paths_read l.keys)) x.0 (unknown_in known (paths_read l.keys) x.0 read x.2))

  few_units : ReachesFew l → IsTooLarge home (units (state_of l).filed) → ⊥
  few_units few large = true≢false (sym ((limits_exact home (units (state_of l).filed)).1 large) ∙ few)

  none_exceeds : (known : List (List ℕ)) → IsWithinLimits known l → FiledExceeds (world_of files) (λ path. is_one_of path known) (state_of l).filed → ⊥
  none_exceeds known within (inl large) = few_units within.units large
  none_exceeds known within (inr (inl (layer, path, needed, more))) =
      within.imports (layer, path, needed_there (world_of files) layered opened (state_of l) both all (Import layer path) needed, more)
  none_exceeds known within (inr (inr more)) = few_reads known within.reads more

  none_exceeded : (known : List (List ℕ)) → IsWithinLimits known l → (b : Bool) → exceeds_limits (world_of files) (λ path. is_one_of path known) ≡ b → b ≡ false
  none_exceeded known within false e = refl
  none_exceeded known within true e =
      absurd (none_exceeds known within (filed_exceeds (world_of files) layered opened (state_of l) both all (λ path. is_one_of path known) ((limits_computed (world_of files) layered (λ path. is_one_of path known)).0 e)))

  within_limits : (known : List (List ℕ)) → IsWithinLimits known l → exceeds_limits (world_of files) (λ path. is_one_of path known) ≡ false
  within_limits known within = none_exceeded known within (exceeds_limits (world_of files) (λ path. is_one_of path known)) refl

  pub small_units : (known : List (List ℕ)) → IsWithinLimits known l → IsTooLarge home (units (all_meanings (world_of files))) → ⊥
  small_units known within = not_large (world_of files) layered (λ path. is_one_of path known) (within_limits known within)

  -- Faults

  module _ (small : IsTooLarge home (units (all_meanings (world_of files))) → ⊥) where
    unit_has : (u : Unit_key) → In (units_reached (world_of files)) u → In l.keys (Unit_of u)
    unit_has u i =
        let down = reached_down (world_of files) layered (λ path. false) opening (state_of l) opened both all u (listed_reached (world_of files) layered small u i) in
        let number : HasNumber l (Unit_of u) = (rest.numbers u).1 down in
        found_number l.keys number.0 (Unit_of u) number.1

    has_unit : (u : Unit_key) → In l.keys (Unit_of u) → In (units_reached (world_of files)) u
    has_unit u i =
        let down = (rest.numbers u).0 (number_of l.keys (Unit_of u) i) in
        reached_listed (world_of files) layered small u (reached_up (world_of files) layered (λ path. false) opening (state_of l) opened both all u down)

    numbered_fault : (fault : Fault) (k : Key) → In l.keys k → In (faults_of_key (world_of files) k) fault → In (faults_of (world_of files)) fault
    unfolding faults_of
    numbered_fault fault (Read path) i f = absurd f
    numbered_fault fault (Import m path) i f = absurd f
    numbered_fault fault (Unit_of u) i f = flat_in (faults_of_unit (world_of files)) (units_reached (world_of files)) u fault (has_unit u i) f
    numbered_fault fault (Resolve label) i f = absurd f

    fault_there : (fault : Fault) → In (flat_map (faults_of_key (world_of files)) l.keys) fault → In (faults_of (world_of files)) fault
    fault_there fault i = let k = in_flat (faults_of_key (world_of files)) l.keys fault i in numbered_fault fault k.0 k.1 k.2

    there_fault : (fault : Fault) → In (faults_of (world_of files)) fault → In (flat_map (faults_of_key (world_of files)) l.keys) fault
    unfolding faults_of
    there_fault fault i =
        let u = in_flat (faults_of_unit (world_of files)) (units_reached (world_of files)) fault i in
        flat_in (faults_of_key (world_of files)) l.keys (Unit_of u.0) fault (unit_has u.0 u.1) u.2

    least_is : IsFaultOrder → (fault : Option Fault) → IsFirstOf (flat_map (faults_of_key (world_of files)) l.keys) fault → least_of (faults_of (world_of files)) ≡ fault
    least_is order None none = ap least_of (none_in (faults_of (world_of files)) (λ fault i. subst (λ (fs : List Fault). In fs fault) none (there_fault fault i)))
    least_is order (Some fault) first = some_least order (faults_of (world_of files)) fault (fault_there fault first.0, λ other i. first.1 other (there_fault other i))

  judged : IsFaultOrder → (known : List (List ℕ)) → IsWithinLimits known l → (fault : Option Fault) → IsFirstOf (flat_map (faults_of_key (world_of files)) l.keys) fault → loaded known files ≡ loaded_by (world_of files) fault
  unfolding loaded
  judged order known within fault first =
      ap (λ (large : Bool). if large then large_end files else loaded_by (world_of files) (least_of (faults_of (world_of files)))) (within_limits known within)
      ∙ ap (loaded_by (world_of files)) (least_is (small_units known within) order fault first)

  -- Build files

  begun_by_answer : (k : Key) → IsFiled (state_of l).filed k → is_begun (state_of l) k ≡ true
  begun_by_answer k f = or_left (is_some ((state_of l).filed k)) (is_some ((state_of l).claims k)) (ap is_some f.1)

  file_loaded : (k : Key) → is_build_file k ≡ true → IsFiled (state_of l).filed k → is_loaded (state_of l) k ≡ true
  file_loaded k file f = ap (λ (b : Bool). b && is_begun (state_of l) k) file ∙ begun_by_answer k f

  files_counted : (known : List (List ℕ)) → IsWithinLimits known l → files_begun l ≡ files_reached (world_of files)
  unfolding files_begun files_reached
  files_counted known within = counted (is_loaded (state_of l)) l.keys ∙ as_long same_key key_tested (files_loaded files l [] rest.driven rest.over) (files_in_order (world_of files) layered small) (loaded_once files l [] rest.driven rest.over) (files_distinct (world_of files) layered small) there back_there
    where
      small : IsTooLarge home (units (all_meanings (world_of files))) → ⊥
      small = small_units known within

      there : (k : Key) → In (files_loaded files l [] rest.driven rest.over) k → In (files_in_order (world_of files) layered small) k
      there k i = let h = loaded_wanted files l [] rest.driven rest.over k i in file_there (world_of files) layered small k h.0 h.1

      file_filed : (k : Key) → is_build_file k ≡ true → Wanted (world_of files) k → IsFiled (state_of l).filed k
      file_filed k e h =
          let u = file_unit k e in
          subst (IsFiled (state_of l).filed) (sym u.1) (unit_filed (world_of files) layered opened (state_of l) both all u.0 (subst (Wanted (world_of files)) u.1 h))

      back_there : (k : Key) → In (files_in_order (world_of files) layered small) k → In (files_loaded files l [] rest.driven rest.over) k
      back_there k i =
          let h = there_file (world_of files) layered small k i in
          let filed = file_filed k h.1 h.0 in
          filter_in (is_loaded (state_of l)) l.keys k (rest.driven.named.filed k filed) (file_loaded k h.1 filed)

pub rest_is_within : RestIsWithin
rest_is_within known files l rest within = within_limits files l rest known within

pub large_imports : LargeImportsAreTooLarge
large_imports known files l rest large =
    exceeding known files
    (large_up (world_of files) (whole_builds_are_layered files) (opens (world_of files)) (state_of l) (driven_both files l [] rest.driven rest.over) (λ path. is_one_of path known) large.0 large.1 large.2 large.3)

pub rest_is_judged : IsFaultOrder → RestIsJudged
rest_is_judged order known files l fault rest within first = judged files l rest order known within fault first

pub rest_counts_files : RestCountsFiles
rest_counts_files known files l rest within = files_counted files l rest known within
