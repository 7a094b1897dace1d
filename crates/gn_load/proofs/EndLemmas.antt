-- How loading has ended.
use Rattle.std.proofs.Common.{◌≡◌, inl, inr, ℕ, ◌≤◌, List, [], Option, Some, None, Bool, true, false, if◌then◌else◌, Result, Ok, Err, IfOk, refl, sym, ◌∙◌, ap, subst}
use Rattle.std.specs.Result.{IsErrAnd}
use Rattle.gn_faults.specs.declared.fault.Fault.{Fault}
use Rattle.gn_outside.specs.Tree.{Tree}
use Rattle.gn_outside.specs.States.{SourceState}
use Rattle.gn_outside.specs.Lists.{AllDiffer}
use Rattle.gn_environment.specs.Chains.{is_one_of}
use Rattle.gn_executions.specs.Base.{BaseState}
use Rattle.gn_core.specs.Worlds.{World}
use Rattle.gn_core.specs.Machine.{IsOver, read_limit}
use Rattle.gn_core.specs.Counted.{exceeds_limits}
use Rattle.gn_book.specs.Logs.{Log}
use Rattle.gn_projects.specs.Files.{Files, files_of}
use Rattle.gn_projects.specs.Worlds.{world_of}
use Rattle.gn_projects.specs.Errors.{too_large}
use Rattle.gn_projects.specs.Computed.{faults_of, least_of}
use Rattle.gn_projects.specs.Loaded.{Build, Exactly, UpTo, IsCount, AreReached, files_reached, loaded_by, loaded}
use Rattle.gn_builds.specs.Driving.{files_begun}
use Rattle.gn_builds.proofs.Begins.{no_log, starts_going, nothing_numbered}
use Rattle.gn_builds.specs.Rest.{IsAtRest, Rests, IsSmall, ReachesFew, HasLargeImport, build_left, IsWithinLimits, LargeImportsAreTooLarge, TooManyAreTooLarge, RestIsJudged, BegunAreReached, RestCountsFiles, ReachedAreCounted, RestIsBuilt, ReadsAsked, NumberedAreAsked}
use Rattle.gn_builds.proofs.ReadPaths.{reads_still}
use Rattle.gn_builds.proofs.Units.{files_at_first}
use Rattle.gn_load.specs.Turns.{IsStop}
use Rattle.gn_judging.specs.Judging.{AreParts, IsJudged}
use Rattle.gn_load.specs.Ends.{IsWithinMeant}
use Rattle.gn_load.specs.Plain.{HasBegun, IsWhollyLoaded, AreWhole, EndsBy, IsEndAt, IsStopped, IsLoadedAs, IsLoad, end_or_memory}
use Rattle.gn_load.specs.declared.driver.Driver.{Driver}
use Rattle.gn_load.specs.declared.driver.Stop.{Stop}
use Rattle.gn_load.specs.declared.driver.Stop.TheVariants as stop
use Rattle.gn_judging.specs.declared.judging.Judged.{Judged}
use Rattle.gn_judging.specs.declared.judging.Judged.TheVariants as judged
use Rattle.gn_load.specs.declared.plain.LoadEnd.{LoadEnd}
use Rattle.gn_load.specs.declared.plain.LoadEnd.TheVariants as end
use Rattle.gn_load.proofs.TurnLemmas.{goes_memory}
use Rattle.gn_load.proofs.PlainLemmas.{has_begun}

-- Build files that are claimed wherever loading ends

module _ (begun : BegunAreReached) (start : BaseState) (before : SourceState) (units : ℕ) (has : HasBegun start before units) (tree : Tree) (told : before.tree ≡ Some tree) where
  abbrev w : World
  w = world_of (files_of start tree)

  -- they are reached
  pub are_reached : AreReached w units
  are_reached = subst (AreReached w) (sym has.counted) (begun (files_of start tree) has.log has.keys has.driven (has.over tree told))

  -- and no more than the meaning of the build has
  module _ (counted : ReachedAreCounted) (known : List (List ℕ)) where
    within_by : (large : Bool) (fault : Option Fault) → exceeds_limits w (λ path. is_one_of path known) ≡ large
        → IsWithinMeant w (if large then Err (record { fault = too_large; units = UpTo w }) else loaded_by w fault) units
    within_by true fault e = are_reached
    within_by false None e = counted (files_of start tree) (λ path. is_one_of path known) units e are_reached
    within_by false (Some fault) e = counted (files_of start tree) (λ path. is_one_of path known) units e are_reached

    pub are_within : IsWithinMeant w (loaded known (files_of start tree)) units
    unfolding loaded
    are_within = within_by (exceeds_limits w (λ path. is_one_of path known)) (least_of (faults_of w)) refl

-- All is loaded

-- whatever the files, loading is at rest
pub at_rest : (files : Files) (l : Log) → Rests files.start l → IsOver (world_of files) l.events → IsAtRest files l
at_rest files l rests over = record { driven = rests.driven; over = over; numbers = rests.numbers; next = rests.next }

-- a build without an error is whole
pub whole_by : (l : Log) (j : Judged) → IsJudged l j → AreWhole l j
whole_by l (judged.Wrong fault) is = tt
whole_by l (judged.Right parts) (inl is) = absurd (cc is.1)
whole_by l (judged.Right parts) (inr is) = is.1.1

module _ (begun : BegunAreReached) (large : LargeImportsAreTooLarge) (is_judged : RestIsJudged) (counts : RestCountsFiles) (is_built : RestIsBuilt) (l : Log) (few : ReachesFew l) where
  fits : (known : List (List ℕ)) → (HasLargeImport l → ⊥) → IsSmall known l → IsWithinLimits known l
  fits known none small = record { reads = small; units = few; imports = none }

  large_end : (fault : Fault) → HasLargeImport l → fault ≡ too_large → IsEndAt l (end.Wrong fault)
  large_end fault big is = λ known files rest small. record {
    failure = record { fault = too_large; units = UpTo (world_of files) };
    is = large known files l rest big;
    fault = sym is;
    counted = begun files l [] rest.driven rest.over;
  }

  wrong_cases : (fault : Fault) → IsJudged l (judged.Wrong fault) → IsEndAt l (end.Wrong fault)
  wrong_cases fault (inl is) = let same : judged.Wrong fault ≡ judged.Wrong too_large = is.1 in large_end fault is.0 (cc same)
  wrong_cases fault (inr is) = λ known files rest small.
      let within = fits known is.0 small in
      record {
        failure = record { fault = fault; units = Exactly (files_reached (world_of files)) };
        is = is_judged known files l (Some fault) rest within (is.1 files rest);
        fault = refl;
        counted = counts known files l rest within;
      }

  pub ends_at : (j : Judged) → IsJudged l j → (e : LoadEnd) → EndsBy l j e → IsEndAt l e
  ends_at (judged.Wrong fault) is e by = subst (IsEndAt l) (sym by) (wrong_cases fault is)
  ends_at (judged.Right parts) (inl is) e by = absurd (cc is.1)
  ends_at (judged.Right parts) (inr is) (end.Built b) by = λ known files rest small.
      let within = fits known is.0 small in
      let are : AreParts l parts = is.1.1 in
      let built = is_built known files l parts.numbers.items parts.labels.items rest within are.numbers are.labels in
      record {
        is = is_judged known files l None rest within (is.1.0 files rest) ∙ ap (λ (build : Build). Ok build) (built ∙ ap (λ (d : List ℕ). build_left d l parts.numbers.items parts.labels.items) (sym are.default) ∙ sym by);
        counted = counts known files l rest within;
      }
  ends_at (judged.Right parts) (inr is) (end.Wrong fault) by = absurd by
  ends_at (judged.Right parts) (inr is) (end.Failed path) by = absurd by
  ends_at (judged.Right parts) (inr is) end.Memory by = absurd by

-- where it has come to rest, and no more files were read than a build may ask for
module _ (begun : BegunAreReached) (reached : ReachedAreCounted) (base : BaseState) (known : List (List ℕ)) (before now : SourceState) (l : Log) (units : ℕ) (has : HasBegun base before units) (counted : units ≡ files_begun l) (rest : (tree : Tree) → before.tree ≡ Some tree → IsAtRest (files_of base tree) l) (small : IsSmall known l) (reads : ReadsAsked base known before now) (faults : now.faults ≡ before.faults) where
  end_at_rest : (e : LoadEnd) → IsEndAt l e → IsLoadedAs base known before now units e
  end_at_rest (end.Built built) is = record {
    end = λ tree told. (let done = is known (files_of base tree) (rest tree told) small in (done.is, counted ∙ done.counted));
    reads = reads;
    faults = faults;
  }
  end_at_rest (end.Wrong fault) is = record {
    end = λ tree told. (
        let done = is known (files_of base tree) (rest tree told) small in
        (done.failure, done.is, done.fault, subst (λ (n : ℕ). IsCount n done.failure.units) (sym counted) done.counted)
        );
    reads = reads;
    faults = faults;
  }
  end_at_rest (end.Failed path) is = absurd is
  end_at_rest end.Memory is = absurd is

  -- or memory was wanting then
  lost_at_rest : IsLoadedAs base known before now units end.Memory
  lost_at_rest = record { end = λ tree told. are_within begun base before units has tree told reached known; reads = reads; faults = faults }

  pub loads_at_rest : {E : Type 0} (r : Result LoadEnd E) → IfOk r (IsEndAt l) → IsLoad base known before now units r
  loads_at_rest (Ok e) is = end_at_rest e is
  loads_at_rest (Err e) is = lost_at_rest

-- where all is loaded
module _ (asked : NumberedAreAsked) (begun : BegunAreReached) (reached : ReachedAreCounted) (known : List (List ℕ)) (differ : AllDiffer known) (before now : SourceState) (d : Driver) (units : ℕ) (whole : IsWhollyLoaded known before now d units) where
  abbrev base : BaseState
  base = d.base.start

  few_read : IsSmall known d.book
  few_read = subst (λ (n : ℕ). n ≤ read_limit) whole.goes.going.counted whole.goes.going.few

  rest_over : (tree : Tree) → before.tree ≡ Some tree → IsAtRest (files_of base tree) d.book
  rest_over tree told = at_rest (files_of base tree) d.book whole.rests (whole.goes.going.source.over tree told)

  lost : IsStop base known before now stop.Memory
  lost = goes_memory known before now d [] whole.goes

  pub loaded_as : {E : Type 0} (r : Result LoadEnd E) → IfOk r (IsEndAt d.book) → IsLoad base known before now units r
  loaded_as r is =
      loads_at_rest begun reached base known before now d.book units (has_begun known before now d [] units whole.goes whole.counted) whole.counted rest_over few_read (asked base known before now differ lost.0) lost.1 r is

-- where it was stopped
module _ (asked : NumberedAreAsked) (begun : BegunAreReached) (reached : ReachedAreCounted) (large : TooManyAreTooLarge) (base : BaseState) (known : List (List ℕ)) (differ : AllDiffer known) (before now : SourceState) (units : ℕ) (has : HasBegun base before units) where
  pub stopped_end : (s : Stop) (e : LoadEnd) → IsStop base known before now s → IsStopped s e → IsLoadedAs base known before now units e
  stopped_end (stop.Failed path) e stops is =
      subst (IsLoadedAs base known before now units) (sym is)
      (record { end = λ tree told. are_within begun base before units has tree told reached known; reads = asked base known before now differ stops.0; faults = stops.1 })
  stopped_end stop.TooLarge e stops is =
      subst (IsLoadedAs base known before now units) (sym is)
      (record {
        end = λ tree told. (
          record { fault = too_large; units = UpTo (world_of (files_of base tree)) },
          large known (files_of base tree) stops.0 stops.1 stops.2 (stops.3.over tree told) stops.4,
          refl,
          are_reached begun base before units has tree told,
        );
        reads = asked base known before now differ (reads_still base known before now stops.0 stops.1 stops.2 stops.3);
        faults = stops.3.faults;
      })
  stopped_end stop.Memory e stops is =
      subst (IsLoadedAs base known before now units) (sym is)
      (record { end = λ tree told. are_within begun base before units has tree told reached known; reads = asked base known before now differ stops.0; faults = stops.1 })

-- before anything was read
nothing_begun : (base : BaseState) (now : SourceState) (units : ℕ) → units ≡ 0 → HasBegun base now units
nothing_begun base now units none =
    let going = starts_going base [] now in
    record { log = no_log; keys = []; driven = going.driven; over = going.source.over; counted = none ∙ sym files_at_first }

pub nothing_loaded : NumberedAreAsked → BegunAreReached → ReachedAreCounted → (base : BaseState) (known : List (List ℕ)) → AllDiffer known → (now : SourceState) (units : ℕ) → units ≡ 0 → IsLoadedAs base known now now units end.Memory
nothing_loaded asked begun reached base known differ now units none = record {
  end = λ tree told. are_within begun base now units (nothing_begun base now units none) tree told reached known;
  reads = asked base known now now differ (nothing_numbered base known now);
  faults = refl;
}

-- whatever has come of it
pub load_ends : {E : Type 0} (start : BaseState) (known : List (List ℕ)) (before after : SourceState) (units : ℕ) (r : Result LoadEnd E) → IsLoad start known before after units r → IsLoadedAs start known before after units (end_or_memory r)
load_ends start known before after units (Ok e) is = is
load_ends start known before after units (Err e) is = is

pub load_lost : {E : Type 0} (P : E → Type 0) (start : BaseState) (known : List (List ℕ)) (before after : SourceState) (units : ℕ) (r : Result LoadEnd E) → IsErrAnd r P → IsLoadedAs start known before after units end.Memory → IsLoad start known before after units r
load_lost P start known before after units (Ok e) h is = absurd h
load_lost P start known before after units (Err e) h is = is
