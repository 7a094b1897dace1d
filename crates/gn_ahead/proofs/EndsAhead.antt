-- Wherever the seat ends, and within which limits.
use Rattle.std.proofs.Common.{◌≡◌, ◌⊎◌, inl, inr, ℕ, ◌+◌, ◌<◌, List, [], ◌∷◌, ◌++◌, length, Some, Bool, true, sym, ◌∙◌, subst, arith}
use Rattle.std.specs.Prelude.{IsSome}
use Rattle.std.specs.List.{IsDistinct}
use Rattle.std.proofs.lemmas.List.{length-append}
use Rattle.gn_outside.specs.Tree.{Tree}
use Rattle.gn_outside.specs.States.{SourceRead, SourceState, paths_of}
use Rattle.gn_outside.specs.Lists.{AllDiffer}
use Rattle.gn_outside.specs.Sources.{CountsFailures, plain_reads}
use Rattle.gn_imports.proofs.PathOrder.{path_eq, path_eq-Decides}
use Rattle.gn_closure.specs.Closure.{In}
use Rattle.gn_closure.proofs.Opened.{in_append, in_left, in_right}
use Rattle.gn_executions.specs.Base.{BaseState}
use Rattle.gn_core.specs.Keys.{Key, Read}
use Rattle.gn_core.specs.Machine.{IsFiled, read_limit}
use Rattle.gn_book.specs.Logs.{Log, state_of}
use Rattle.gn_projects.specs.Files.{Files, files_of}
use Rattle.gn_projects.specs.Worlds.{world_of}
use Rattle.gn_projects.specs.Loaded.{IsAskedFor}
use Rattle.gn_projects.proofs.Layered.{whole_builds_are_layered}
use Rattle.gn_builds.specs.Driving.{IsDriven, IsGoing, HasTooMany, ReadsNumbered, FailsAt, paths_read, unknown_of}
use Rattle.gn_builds.specs.Rest.{IsAtRest}
use Rattle.gn_builds.proofs.Logs.{opens}
use Rattle.gn_builds.proofs.Named.{once}
use Rattle.gn_builds.proofs.ReadPaths.{read_in, in_read, reads_distinct, reads_still}
use Rattle.gn_builds.proofs.Unknown.{unknown_distinct, unknown_not_known}
use Rattle.gn_builds.proofs.Asked.{unknown_new, too_many, driven_both}
use Rattle.gn_builds.proofs.Rest.{rest_is_loaded, key_filed}
use Rattle.gn_builds.proofs.Members.{in_one, one_in, no_longer}
use Rattle.gn_builds.proofs.PlainReads.{some_failed}
use Rattle.gn_ahead.specs.Ahead.{IsAskedRead, HasReadAll, ReadsOnlyAsked, read_in_all}
use Rattle.gn_ahead.specs.Laws.{SeatEndsAsked, SeatFailsOn, SeatEndsLarge, FewReadsAreSmall, ManyReadsAreTooLarge}
use Rattle.gn_ahead.proofs.Paths.{differ_both, differ_front, differ_tested, tested_differ, told_behind, told_still, last_behind, paths_behind, failed_behind, stops_behind}
use Rattle.gn_ahead.proofs.AskedAhead.{is_asked_for}
use Rattle.gn_ahead.proofs.Rebased.{known_or_new, read_by_seat, long_in_all}

-- What the seat has read behind what was read before
module _ (start : BaseState) (known : List (List ℕ)) (before mid now : SourceState) (all : List (List ℕ)) (has : HasReadAll start known before mid all) where
  module _ (n : ReadsNumbered start (known ++ all) mid now) where
    -- it has numbers, and wasn't known
    numbered_new : (path : List ℕ) → In (paths_of n.reads) path → In (unknown_of (known ++ all) (paths_read n.log.keys)) path
    numbered_new path i = subst (λ (ps : List (List ℕ)). In ps path) (sym n.numbered.1) (in_left (paths_of n.reads) n.numbered.0 path i)

    numbered_apart : (path : List ℕ) → In (paths_of n.reads) path → In (known ++ all) path → ⊥
    numbered_apart path i k =
        unknown_not_known (known ++ all) (paths_read n.log.keys) path (in_one (unknown_of (known ++ all) (paths_read n.log.keys)) path (numbered_new path i)) (in_one (known ++ all) path k)

    numbered_differ : AllDiffer (paths_of n.reads ++ n.numbered.0)
    numbered_differ = subst AllDiffer n.numbered.1 (differ_tested (unknown_of (known ++ all) (paths_read n.log.keys)) (unknown_distinct (known ++ all) (paths_read n.log.keys) (reads_distinct n.log.keys (once n.log.keys n.driven.apart))))

    numbered_asked : (path : List ℕ) → In (paths_of n.reads) path → IsAskedRead start before path
    numbered_asked path i = record {
      log = n.log;
      keys = n.keys;
      driven = n.driven;
      over = λ tree told. n.over tree (has.tree ∙ told);
      numbered = read_in n.log.keys path (in_one (paths_read n.log.keys) path (unknown_new (known ++ all) (paths_read n.log.keys) path (numbered_new path i)).0);
    }

    same_paths : paths_of (plain_reads all ++ n.reads) ≡ all ++ paths_of n.reads
    same_paths = paths_behind all n.reads

    in_both : (path : List ℕ) → In (paths_of (plain_reads all ++ n.reads)) path → In all path ⊎ In (paths_of n.reads) path
    in_both path i = in_append all (paths_of n.reads) path (subst (λ (ps : List (List ℕ)). In ps path) same_paths i)

    pub seat_asked : ReadsOnlyAsked start known before now
    seat_asked = record {
      reads = plain_reads all ++ n.reads;
      goes = record {
        tree = n.goes.tree ∙ has.tree;
        joined = told_behind before.reads mid.reads now.reads (plain_reads all) n.reads has.reads n.goes.joined;
        stops = stops_behind all n.reads n.goes.stops;
        faults = subst (λ (failed : Bool). CountsFailures before.faults now.faults failed) (sym (failed_behind all n.reads))
            (subst (λ (m : ℕ). CountsFailures m now.faults (some_failed n.reads)) has.faults n.goes.faults);
      };
      differ = subst AllDiffer (sym same_paths)
          (differ_both all (paths_of n.reads) has.differ (differ_front (paths_of n.reads) n.numbered.0 numbered_differ) (λ path i j. numbered_apart path j (in_right known all path i)));
      new = λ path i k. elim (in_both path i) [ inl j ↦ has.new path j k | inr j ↦ numbered_apart path j (in_left known all path k) ];
      asked = λ path i. elim (in_both path i) [ inl j ↦ has.asked path j | inr j ↦ numbered_asked path j ];
    }

  -- a read that has failed is still the last one
  pub seat_fails : (path : List ℕ) → FailsAt path mid now → FailsAt path before now
  seat_fails path fails = record { failed = risen; last = λ some. record { failed = risen; last = last_of (fails.last (still_told some)).last some } }
    where
      risen : before.faults < now.faults
      risen = subst (λ n. n < now.faults) has.faults fails.failed

      still_told : IsSome before.reads → IsSome mid.reads
      still_told some = told_still before.reads mid.reads (plain_reads all) has.reads some

      last_of : ((reads earlier : List SourceRead) × (mid.reads ≡ Some reads) × (now.reads ≡ Some (reads ++ earlier ++ record { path = path; failed = true } ∷ []))) → IsSome before.reads
          → (reads earlier : List SourceRead) × (before.reads ≡ Some reads) × (now.reads ≡ Some (reads ++ earlier ++ record { path = path; failed = true } ∷ []))
      last_of x some = last_behind before.reads mid.reads now.reads (plain_reads all) has.reads x.0 x.1 (record { path = path; failed = true }) x.2 x.3 some

pub seat_ends_asked : SeatEndsAsked
seat_ends_asked start known before mid now all has n = seat_asked start known before mid now all has n

pub seat_fails_on : SeatFailsOn
seat_fails_on start known before mid now all path has fails = seat_fails start known before mid now all has path fails

-- Limits

-- what isn't known where more is known isn't where less is
less_known : (known all ps : List (List ℕ)) (path : List ℕ) → In (unknown_of (known ++ all) ps) path → In (unknown_of known ps) path
less_known known all ps path i = elim (known_or_new known ps path (unknown_new (known ++ all) ps path i).0) [
  | inl old ↦ absurd (unknown_not_known (known ++ all) ps path (in_one (unknown_of (known ++ all) ps) path i) (in_one (known ++ all) path (in_left known all path old)))
  | inr new ↦ new
]

-- each path that is read once
read_once : (start : BaseState) (known : List (List ℕ)) (l : Log) (ks : List Key) → IsDriven start l ks → IsDistinct path_eq (unknown_of known (paths_read l.keys))
read_once start known l ks driven = unknown_distinct known (paths_read l.keys) (reads_distinct l.keys (once l.keys driven.apart))

many_known : (start : BaseState) (known all : List (List ℕ)) (l : Log) (ks : List Key) → IsDriven start l ks → HasTooMany (known ++ all) l → HasTooMany known l
many_known start known all l ks driven (inl more) =
    let few = no_longer path_eq path_eq-Decides (unknown_of (known ++ all) (paths_read l.keys)) (unknown_of known (paths_read l.keys)) (read_once start (known ++ all) l ks driven) (less_known known all (paths_read l.keys)) in
    inl (omega (arith, few, more))
many_known start known all l ks driven (inr more) = inr more

pub seat_ends_large : SeatEndsLarge
seat_ends_large start known before mid now all has (l, ks, driven, read, many) = (
  seat_asked start known before mid now all has (reads_still start (known ++ all) mid now l ks driven read),
  read.faults ∙ has.faults,
  λ tree told. too_many known (files_of start tree) l ks driven (read.over tree (has.tree ∙ told)) (many_known start known all l ks driven many),
)

-- what wasn't known at first is among what was read in all
unknown_in_all : (known all : List (List ℕ)) (l : Log) (path : List ℕ) → In (unknown_of known (paths_read l.keys)) path → In (read_in_all known all l) path
unknown_in_all known all l path i = elim (known_or_new (known ++ all) (paths_read l.keys) path (unknown_new known (paths_read l.keys) path i).0) [
  | inl old ↦ elim (in_append known all path old) [
    | inl j ↦ absurd (unknown_not_known known (paths_read l.keys) path (in_one (unknown_of known (paths_read l.keys)) path i) (in_one known path j))
    | inr j ↦ in_left all (unknown_of (known ++ all) (paths_read l.keys)) path j
  ]
  | inr new ↦ in_right all (unknown_of (known ++ all) (paths_read l.keys)) path new
]

pub few_are_small : FewReadsAreSmall
few_are_small start known mid now all l cs reads going few =
    let long = length-append all (unknown_of (known ++ all) (paths_read l.keys)) in
    let up = no_longer path_eq path_eq-Decides (unknown_of known (paths_read l.keys)) (read_in_all known all l) (read_once start known l _ going.driven) (unknown_in_all known all l) in
    omega (arith, long, up, few, going.counted)

-- at rest all that was read has its answer, and so a number
module _ (start : BaseState) (known : List (List ℕ)) (before mid now : SourceState) (all : List (List ℕ)) (l : Log) (reads : ℕ) (tree : Tree) (has : HasReadAll start known before mid all) (told : before.tree ≡ Some tree) (going : IsGoing start (known ++ all) mid now l [] reads) (rest : IsAtRest (files_of start tree) l) where
  abbrev files : Files
  files = files_of start tree

  filed : (path : List ℕ) → IsAskedFor files path → IsFiled (state_of l).filed (Read path)
  filed path asked =
      key_filed (world_of files) (whole_builds_are_layered files) (opens (world_of files)) (state_of l) (driven_both files l [] rest.driven rest.over) (rest_is_loaded files l rest) (Read path) asked

  numbered : (path : List ℕ) → In all path → In (paths_read l.keys) path
  numbered path i = one_in (paths_read l.keys) path (in_read l.keys path (rest.driven.named.filed (Read path) (filed path (is_asked_for start before path (has.asked path i) tree told))))

  all_unknown : (path : List ℕ) → In (read_in_all known all l) path → In (unknown_of known (paths_read l.keys)) path
  all_unknown path i = elim (in_append all (unknown_of (known ++ all) (paths_read l.keys)) path i) [
    | inl j ↦ elim (known_or_new known (paths_read l.keys) path (numbered path j)) [ inl old ↦ absurd (has.new path j old) | inr new ↦ new ]
    | inr j ↦ less_known known all (paths_read l.keys) path j
  ]

  pub large_at_rest : read_limit < length all + reads → HasTooMany known l
  large_at_rest many =
      let long = long_in_all start known before mid now all l [] reads has going in
      let differ = (read_by_seat start known before mid now all l [] reads has going).differ in
      let up = no_longer path_eq path_eq-Decides (read_in_all known all l) (unknown_of known (paths_read l.keys)) (tested_differ (read_in_all known all l) differ) all_unknown in
      inl (omega (arith, long, up, many))

pub many_are_too_large : ManyReadsAreTooLarge
many_are_too_large start known before mid now all l reads tree has told going rest many =
    too_many known (files_of start tree) l [] rest.driven rest.over (large_at_rest start known before mid now all l reads tree has told going rest many)
