-- Only what a build asks is loaded, whatever ends its loading; and what exceeds a limit over what is filed exceeds it.
use Rattle.std.proofs.Common.{◌≡◌, ◌≢◌, inl, inr, ℕ, ◌<◌, List, [], ◌∷◌, ◌++◌, length, map, Option, Some, None, Err, Bool, true, false, not, if◌then◌else◌, refl, sym, ◌∙◌, ap, subst, true≢false, arith}
use Rattle.std.specs.Prelude.{is_some, Result}
use Rattle.std.specs.List.{IsDistinct, AllByRecursion, filter}
use Rattle.std.proofs.lemmas.Bool.{and_parts, or_cases, not-true, not_from_false}
use Rattle.gn_outside.specs.States.{SourceState, paths_of}
use Rattle.gn_outside.specs.Lists.{AllDiffer, Each}
use Rattle.gn_environment.specs.Chains.{is_one_of}
use Rattle.gn_runs.specs.Runs.{Question}
use Rattle.gn_runs.specs.Laws.{IsAsked}
use Rattle.gn_imports.specs.Projects.{IsOneOf}
use Rattle.gn_imports.proofs.PathOrder.{path_eq, path_eq-Decides}
use Rattle.gn_closure.specs.Closure.{In}
use Rattle.gn_closure.specs.Reach.{Unit_key, Is_reached}
use Rattle.gn_closure.specs.Least.{IsLoad, IsSetup, ReachesMore, IsTooLarge}
use Rattle.gn_closure.proofs.Least.{limits_exact}
use Rattle.gn_graph.specs.Needs.{home}
use Rattle.gn_executions.specs.Base.{BaseState}
use Rattle.gn_core.specs.Keys.{Layer, Key, Read, Import, Unit_of, Answer, units, same_key}
use Rattle.gn_core.specs.Worlds.{World, all_meanings}
use Rattle.gn_core.specs.Layered.{IsLayered}
use Rattle.gn_core.specs.Machine.{State, IsOver, IsFiled, asked_in, IsNeeded, NeededBy, itself, through, HasMore, IsImport, Exceeds, IsOpening, import_limit, read_limit}
use Rattle.gn_core.specs.Statements.{Wanted}
use Rattle.gn_core.proofs.Quiet.{Both, run_both, above, holds_above}
use Rattle.gn_core.proofs.Counting.{limits_computed}
use Rattle.gn_book.specs.Logs.{Log, opening, state_of}
use Rattle.gn_projects.specs.Files.{Files, files_of}
use Rattle.gn_projects.specs.Worlds.{world_of}
use Rattle.gn_projects.specs.Errors.{too_large}
use Rattle.gn_projects.specs.Computed.{faults_of, least_of}
use Rattle.gn_projects.specs.Loaded.{Build, Failure, UpTo, is_build_file, loaded_by, loaded, AreReached, IsAskedFor}
use Rattle.gn_projects.proofs.Layered.{whole_builds_are_layered}
use Rattle.gn_builds.specs.Driving.{IsDriven, IsBegun, is_begun, is_loaded, files_begun, paths_read, unknown_of, ReadsNumbered}
use Rattle.gn_builds.specs.Rest.{IsTooLarge as IsTooLargeBuild, TooManyAreTooLarge, BegunAreReached, ReadsAsked, NumberedAreAsked}
use Rattle.gn_builds.proofs.Logs.{opens}
use Rattle.gn_builds.proofs.Named.{once}
use Rattle.gn_builds.proofs.ReadPaths.{read_in, reads_distinct}
use Rattle.gn_builds.proofs.Unknown.{unknown_distinct, unknown_is_one, unknown_not_known, one_front}
use Rattle.gn_builds.proofs.Members.{key_tested, some_there, in_map, map_in, long_map, in_one, filter_in, in_filter, distinct_filter, counted, once_distinct, distinct_units}
use Rattle.gn_builds.proofs.Executions.{file_unit}

-- Paths that weren't known before

pub unknown_new : (known ps : List (List ℕ)) (path : List ℕ) → In (unknown_of known ps) path → In ps path × (is_one_of path known ≡ false)
unfolding unknown_of
unknown_new known ps path i = let f = in_filter (λ p. not (is_one_of p known)) ps path i in (f.0, not-true (is_one_of path known) f.1)

pub unknown_in : (known ps : List (List ℕ)) (path : List ℕ) → In ps path → is_one_of path known ≡ false → In (unknown_of known ps) path
unfolding unknown_of
unknown_in known ps path i e = filter_in (λ p. not (is_one_of p known)) ps path i (not_from_false (is_one_of path known) e)

reads_apart : (p : List ℕ) (ps : List (List ℕ)) → AllByRecursion (λ y. path_eq p y ≡ false) ps → AllByRecursion (λ y. same_key (Read p) y ≡ false) (map Read ps)
reads_apart p [] h = tt
reads_apart p (q ∷ ps) h = (apart (same_key (Read p) (Read q)) refl, reads_apart p ps h.1)
  where
    apart : (b : Bool) → same_key (Read p) (Read q) ≡ b → b ≡ false
    apart false e = refl
    apart true e =
        let same : p ≡ q = cc ((key_tested (Read p) (Read q)).0 e) in
        absurd (true≢false (sym ((path_eq-Decides p q).1 same) ∙ h.0))

reads_differ : (ps : List (List ℕ)) → IsDistinct path_eq ps → IsDistinct same_key (map Read ps)
unfolding IsDistinct
reads_differ [] h = tt
reads_differ (p ∷ ps) h = (reads_apart p ps h.0, reads_differ ps h.1)

-- What is filed or claimed is wanted, and what is filed is what its key means

asker : (x : Option Answer) (q : Question) → IsAsked (asked_in x) q → (v : Answer) × (x ≡ Some v)
asker None q i = absurd i
asker (Some v) q i = (v, refl)

module _ (w : World) (lay : IsLayered w) (op : IsOpening w (λ path. false) opening) (s : State) (b : Both w lay (λ path. false) opening op s) where
  pub meant : (k : Key) (v : Answer) → s.filed k ≡ Some v → all_meanings w k ≡ Some v
  meant k v e = above w lay opening s b.inv b.bases b.scope op.records op.units k v e

  pub filed_wanted : (k : Key) → IsFiled s.filed k → Wanted w k
  filed_wanted k f = elim (b.scope.filed k f.0 f.1) [ inl h ↦ h | inr none ↦ absurd (cc none.1) ]

  pub begun_wanted : (k : Key) → IsBegun s k → Wanted w k
  begun_wanted k (inl f) = filed_wanted k f
  begun_wanted k (inr c) = b.scope.claimed k c.0 c.1

  asked_up : (k : Key) (q : Question) → IsAsked (asked_in (s.filed k)) q → IsAsked (asked_in (all_meanings w k)) q
  asked_up k q i =
      let v = asker (s.filed k) q i in
      subst (λ (z : Option Answer). IsAsked (asked_in z) q) (v.1 ∙ sym (meant k v.0 v.1)) i

  by_up : (l : Layer) (path : List ℕ) (k : Key) → NeededBy s.filed l path k → NeededBy (all_meanings w) l path k
  by_up l path k itself = itself
  by_up l path k (through other q h i) = through other q (by_up l path (Import l other) h) (asked_up (Import l other) q i)

  pub large_up : (known : List ℕ → Bool) (l : Layer) (path : List ℕ) → IsFiled s.filed (Import l path) → HasMore (λ q. IsImport q × NeededBy s.filed l path q) import_limit → Exceeds w known (all_meanings w)
  large_up known l path f more =
      inr (inl (l, path, filed_wanted (Import l path) f, (more.0, more.1, more.2, λ k i. let x = more.3 k i in (x.0, by_up l path k x.1))))

  reaches_up : (kind : Unit_key → Type 0) (limit : ℕ) → ReachesMore kind w.home (units s.filed) limit → ReachesMore kind w.home (units (all_meanings w)) limit
  reaches_up kind limit h =
      (h.0, h.1, h.2, λ k i. let x = h.3 k i in (x.0, holds_above w lay opening s b.inv b.bases b.scope op.records op.units (Is_reached k) x.1))

  pub units_up : (known : List ℕ → Bool) → IsTooLarge w.home (units s.filed) → Exceeds w known (all_meanings w)
  units_up known (inl h) = inl (inl (reaches_up IsLoad _ h))
  units_up known (inr h) = inl (inr (reaches_up IsSetup _ h))

  -- reads that are filed or claimed
  reads_up : (known ps : List (List ℕ)) → IsDistinct path_eq ps → ((path : List ℕ) → In ps path → IsBegun s (Read path)) → read_limit < length (unknown_of known ps) → Exceeds w (λ path. is_one_of path known) (all_meanings w)
  reads_up known ps distinct begun more =
      inr (inr (
        map Read (unknown_of known ps),
        reads_differ (unknown_of known ps) (unknown_distinct known ps distinct),
        subst (λ n. read_limit < n) (sym (long_map Read (unknown_of known ps))) more,
        λ k i.
            let p = in_map Read (unknown_of known ps) k i in
            let new = unknown_new known ps p.0 p.1 in
            (p.0, sym p.2, new.1, subst (IsNeeded w (all_meanings w)) p.2 (begun_wanted (Read p.0) (begun p.0 new.0))),
      ))

-- what exceeds a limit is too large

abbrev pub large_end : Files → Result Build Failure
large_end files = Err (record { fault = too_large; units = UpTo (world_of files) })

pub exceeding : (known : List (List ℕ)) (files : Files) → Exceeds (world_of files) (λ path. is_one_of path known) (all_meanings (world_of files)) → IsTooLargeBuild known files
unfolding loaded
exceeding known files h =
    ap (λ (large : Bool). if large then large_end files else loaded_by (world_of files) (least_of (faults_of (world_of files))))
    ((limits_computed (world_of files) (whole_builds_are_layered files) (λ path. is_one_of path known)).1 h)

-- A log over files
module _ (files : Files) (l : Log) (ks : List Key) (d : IsDriven files.start l ks) (over : IsOver (world_of files) l.events) where
  pub driven_both : Both (world_of files) (whole_builds_are_layered files) (λ path. false) opening (opens (world_of files)) (state_of l)
  driven_both = run_both (world_of files) (whole_builds_are_layered files) (λ path. false) opening (opens (world_of files)) l.events (d.runs files refl) over

  wanted : (k : Key) → IsBegun (state_of l) k → Wanted (world_of files) k
  wanted k h = begun_wanted (world_of files) (whole_builds_are_layered files) (opens (world_of files)) (state_of l) driven_both k h

  read_begun : (path : List ℕ) → IsOneOf path (paths_read l.keys) → IsBegun (state_of l) (Read path)
  read_begun path i = elim (d.named.begun (Read path) (read_in l.keys path i) refl) [ inl c ↦ inr (0, d.stacked.held (Read path) c) | inr f ↦ inl f ]

  pub read_asked : (path : List ℕ) → IsOneOf path (paths_read l.keys) → IsAskedFor files path
  read_asked path i = wanted (Read path) (read_begun path i)

  pub reads_once : IsDistinct path_eq (paths_read l.keys)
  reads_once = reads_distinct l.keys (once l.keys d.apart)

  many_reads : (known : List (List ℕ)) → read_limit < length (unknown_of known (paths_read l.keys)) → IsTooLargeBuild known files
  many_reads known more =
      exceeding known files
      (reads_up (world_of files) (whole_builds_are_layered files) (opens (world_of files)) (state_of l) driven_both known (paths_read l.keys) reads_once (λ path i. read_begun path (in_one (paths_read l.keys) path i)) more)

  many_units : (known : List (List ℕ)) → IsTooLarge home (units (state_of l).filed) → IsTooLargeBuild known files
  many_units known more =
      exceeding known files
      (units_up (world_of files) (whole_builds_are_layered files) (opens (world_of files)) (state_of l) driven_both (λ path. is_one_of path known) more)

  -- Build files

  pub loaded_begun : (k : Key) → is_loaded (state_of l) k ≡ true → (is_build_file k ≡ true) × IsBegun (state_of l) k
  loaded_begun k e =
      let parts = and_parts (is_build_file k) (is_begun (state_of l) k) e in (
        parts.0,
        elim (or_cases (is_some ((state_of l).filed k)) (is_some ((state_of l).claims k)) parts.1) [
          | inl f ↦ inl (some_there ((state_of l).filed k) f)
          | inr c ↦ inr (some_there ((state_of l).claims k) c)
        ],
      )

  abbrev pub files_loaded : List Key
  files_loaded = filter (is_loaded (state_of l)) l.keys

  pub loaded_once : IsDistinct same_key files_loaded
  loaded_once = distinct_filter (is_loaded (state_of l)) same_key l.keys (once_distinct l.keys (once l.keys d.apart))

  pub loaded_wanted : (k : Key) → In files_loaded k → (is_build_file k ≡ true) × Wanted (world_of files) k
  loaded_wanted k i =
      let f = in_filter (is_loaded (state_of l)) l.keys k i in
      let h = loaded_begun k f.1 in
      (h.0, wanted k h.1)

  files_are_reached : AreReached (world_of files) (files_begun l)
  unfolding files_begun
  files_are_reached =
      let us = all_units files_loaded (λ k i. (loaded_wanted k i).0) in
      let many = counted (is_loaded (state_of l)) l.keys in
      let long : length files_loaded ≡ length us.0 = ap length us.1 ∙ long_map Unit_of us.0 in (
        us.0,
        distinct_units us.0 (subst (IsDistinct same_key) us.1 loaded_once),
        omega (arith, many, long),
        λ u i.
            let h = loaded_wanted (Unit_of u) (subst (λ (ks : List Key). In ks (Unit_of u)) (sym us.1) (map_in Unit_of us.0 u i)) in
            (load_of u h.0, h.1),
      )
    where
      load_of : (u : Unit_key) → is_build_file (Unit_of u) ≡ true → IsLoad u
      load_of u e = let f = file_unit (Unit_of u) e in let same : f.0 ≡ u = cc f.1 in subst IsLoad same f.2

      all_units : (ks : List Key) → ((k : Key) → In ks k → is_build_file k ≡ true) → (us : List Unit_key) × (ks ≡ map Unit_of us)
      all_units [] f = ([], refl)
      all_units (k ∷ ks) f =
          let rest = all_units ks (λ q i. f q (inr i)) in
          let here = file_unit k (f k (inl refl)) in
          (here.0 ∷ rest.0, λ i. here.1 i ∷ rest.1 i)

pub begun_are_reached : BegunAreReached
begun_are_reached files l ks d over = files_are_reached files l ks d over

pub too_many : TooManyAreTooLarge
too_many known files l ks d over (inl more) = many_reads files l ks d over known more
too_many known files l ks d over (inr more) = many_units files l ks d over known ((limits_exact home (units (state_of l).filed)).0 more)

-- paths of which each stands once, and none of which is another one's, differ
each_apart_from : (k : List ℕ) (ps : List (List ℕ)) → ((path : List ℕ) → IsOneOf path ps → k ≡ path → ⊥) → Each (λ y. k ≢ y) ps
each_apart_from k [] f = tt
each_apart_from k (p ∷ ps) f = ((λ e. f p (inl refl) e), each_apart_from k ps (λ path i. f path (inr i)))

each_apart_both : (k : List ℕ) (xs ps : List (List ℕ)) → Each (λ y. k ≢ y) xs → ((path : List ℕ) → IsOneOf path ps → k ≡ path → ⊥) → Each (λ y. k ≢ y) (xs ++ ps)
each_apart_both k [] ps e f = each_apart_from k ps f
each_apart_both k (x ∷ xs) ps e f = (e.0, each_apart_both k xs ps e.1 f)

differ_both : (ks ps : List (List ℕ)) → AllDiffer ks → AllDiffer ps → ((path : List ℕ) → IsOneOf path ps → IsOneOf path ks → ⊥) → AllDiffer (ks ++ ps)
differ_both [] ps dk dp apart = dp
differ_both (k ∷ ks) ps dk dp apart =
    (each_apart_both k ks ps dk.0 (λ path i e. apart path i (inl (sym e))), differ_both ks ps dk.1 dp (λ path i j. apart path i (inr j)))

-- only what is asked is read
module _ (start : BaseState) (known : List (List ℕ)) (before now : SourceState) (differ : AllDiffer known) (n : ReadsNumbered start known before now) where
  front_differs : (xs ys : List (List ℕ)) → IsDistinct path_eq (xs ++ ys) → AllDiffer xs
  unfolding IsDistinct
  front_differs [] ys d = tt
  front_differs (x ∷ xs) ys d = (each_apart xs d.0, front_differs xs ys d.1)
    where
      each_apart : (zs : List (List ℕ)) → AllByRecursion (λ y. path_eq x y ≡ false) (zs ++ ys) → Each (λ y. x ≢ y) zs
      each_apart [] a = tt
      each_apart (z ∷ zs) a = ((λ e. absurd (true≢false (sym ((path_eq-Decides x z).1 e) ∙ a.0))), each_apart zs a.1)

  each_of : (P : List ℕ → Type 0) (xs : List (List ℕ)) → ((path : List ℕ) → IsOneOf path xs → P path) → Each P xs
  each_of P [] f = tt
  each_of P (x ∷ xs) f = (f x (inl refl), each_of P xs (λ path i. f path (inr i)))

  read_unknown : (path : List ℕ) → IsOneOf path (paths_of n.reads) → IsOneOf path (unknown_of known (paths_read n.log.keys))
  read_unknown path i = subst (IsOneOf path) (sym n.numbered.1) (one_front (paths_of n.reads) n.numbered.0 path i)

  numbered_are_asked : ReadsAsked start known before now
  numbered_are_asked = (
    n.reads,
    n.goes,
    differ_both known (paths_of n.reads) differ
        (front_differs (paths_of n.reads) n.numbered.0 (subst (IsDistinct path_eq) n.numbered.1 (unknown_distinct known (paths_read n.log.keys) (reads_distinct n.log.keys (once n.log.keys n.driven.apart)))))
        (λ path i j. unknown_not_known known (paths_read n.log.keys) path (read_unknown path i) j),
    λ tree told. each_of (IsAskedFor (files_of start tree)) (paths_of n.reads) (λ path i.
        read_asked (files_of start tree) n.log n.keys n.driven (n.over tree told) path (unknown_is_one known (paths_read n.log.keys) path (read_unknown path i))),
  )

pub all_are_asked : NumberedAreAsked
all_are_asked start known before now differ n = numbered_are_asked start known before now differ n
