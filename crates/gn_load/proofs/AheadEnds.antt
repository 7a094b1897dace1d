-- How loading has ended where some files were read ahead.
use Rattle.std.proofs.Common.{◌≡◌, ℕ, ◌+◌, ◌<◌, ◌≤◌, List, [], Some, Result, IfOk, refl, sym, ◌∙◌, subst}
use Rattle.gn_outside.specs.Tree.{Tree}
use Rattle.gn_outside.specs.States.{SourceState}
use Rattle.gn_outside.specs.Lists.{AllDiffer}
use Rattle.gn_executions.specs.Base.{BaseState}
use Rattle.gn_core.specs.Machine.{read_limit}
use Rattle.gn_projects.specs.Files.{files_of}
use Rattle.gn_projects.specs.Worlds.{world_of}
use Rattle.gn_projects.specs.Errors.{too_large}
use Rattle.gn_projects.specs.Loaded.{UpTo}
use Rattle.gn_builds.specs.Driving.{files_begun}
use Rattle.gn_builds.specs.Rest.{IsAtRest, Rests, ReadsAsked, BegunAreReached, ReachedAreCounted}
use Rattle.gn_ahead.specs.Ahead.{HasReadAll, ReadsOnlyAsked, read_in_all}
use Rattle.gn_ahead.proofs.AskedAhead.{reads_asked, all_asked}
use Rattle.gn_ahead.proofs.Rebased.{seat_reads_on}
use Rattle.gn_ahead.proofs.EndsAhead.{few_are_small, many_are_too_large}
use Rattle.gn_load.specs.Ahead.{GoesAhead, IsStopAhead}
use Rattle.gn_load.specs.Plain.{HasBegun, IsEndAt, IsStopped, IsLoadedAs, IsLoad}
use Rattle.gn_load.specs.declared.driver.Driver.{Driver}
use Rattle.gn_load.specs.declared.driver.Stop.{Stop}
use Rattle.gn_load.specs.declared.driver.Stop.TheVariants as stop
use Rattle.gn_load.specs.declared.plain.LoadEnd.{LoadEnd}
use Rattle.gn_load.specs.declared.plain.LoadEnd.TheVariants as end
use Rattle.gn_load.proofs.EndLemmas.{are_reached, are_within, at_rest, loads_at_rest}

-- build files are counted over the same tree
pub begun_before : (start : BaseState) (before mid : SourceState) (units : ℕ) → mid.tree ≡ before.tree → HasBegun start mid units → HasBegun start before units
begun_before start before mid units same has = record { log = has.log; keys = has.keys; driven = has.driven; over = λ tree told. has.over tree (same ∙ told); counted = has.counted }

-- Where all is loaded
module _ (begun : BegunAreReached) (reached : ReachedAreCounted) (known : List (List ℕ)) (differ : AllDiffer known) (before now : SourceState) (d : Driver) (units total : ℕ) (goes : GoesAhead known before now d [] total) (rests : Rests d.base.start d.book) (counted : units ≡ files_begun d.book) where
  abbrev base : BaseState
  base = d.base.start

  has_begun : HasBegun base before units
  has_begun = record { log = d.book; keys = []; driven = goes.goes.going.driven; over = λ tree told. goes.goes.going.source.over tree (goes.has.tree ∙ told); counted = counted }

  rest_over : (tree : Tree) → before.tree ≡ Some tree → IsAtRest (files_of base tree) d.book
  rest_over tree told = at_rest (files_of base tree) d.book rests (goes.goes.going.source.over tree (goes.has.tree ∙ told))

  all_read : HasReadAll base known before now (read_in_all known goes.all d.book)
  all_read = (seat_reads_on base known before goes.mid now goes.all d.book [] d.reads goes.has goes.goes.going).0.has

  all_are_asked : ReadsAsked base known before now
  all_are_asked = reads_asked base known before now differ (all_asked base known before now (read_in_all known goes.all d.book) all_read)

  -- no more files were read than a build may ask for
  pub loaded_ahead : {E : Type 0} → total + d.reads ≤ read_limit → (r : Result LoadEnd E) → IfOk r (IsEndAt d.book) → IsLoad base known before now units r
  loaded_ahead few r is =
      loads_at_rest begun reached base known before now d.book units has_begun counted rest_over
      (few_are_small base known goes.mid now goes.all d.book [] d.reads goes.goes.going (subst (λ (n : ℕ). n + d.reads ≤ read_limit) goes.counted few)) all_are_asked all_read.faults r is

  -- or more were
  pub too_many_ahead : read_limit < total + d.reads → IsLoadedAs base known before now units (end.Wrong too_large)
  too_many_ahead many = record {
    end = λ tree told. (
      record { fault = too_large; units = UpTo (world_of (files_of base tree)) },
      many_are_too_large base known before goes.mid now goes.all d.book d.reads tree goes.has told goes.goes.going (rest_over tree told) (subst (λ (n : ℕ). read_limit < n + d.reads) goes.counted many),
      refl,
      are_reached begun base before units has_begun tree told,
    );
    reads = all_are_asked;
    faults = all_read.faults;
  }

-- Where it was stopped
module _ (begun : BegunAreReached) (reached : ReachedAreCounted) (base : BaseState) (known : List (List ℕ)) (differ : AllDiffer known) (before now : SourceState) (units : ℕ) (has : HasBegun base before units) where
  asked : ReadsOnlyAsked base known before now → ReadsAsked base known before now
  asked only = reads_asked base known before now differ only

  pub stopped_ahead : (s : Stop) (e : LoadEnd) → IsStopAhead base known before now s → IsStopped s e → IsLoadedAs base known before now units e
  stopped_ahead (stop.Failed path) e stops is =
      subst (IsLoadedAs base known before now units) (sym is) (record { end = λ tree told. are_within begun base before units has tree told reached known; reads = asked stops.0; faults = stops.1 })
  stopped_ahead stop.TooLarge e stops is =
      subst (IsLoadedAs base known before now units) (sym is)
      (record {
        end = λ tree told. (record { fault = too_large; units = UpTo (world_of (files_of base tree)) }, stops.2 tree told, refl, are_reached begun base before units has tree told);
        reads = asked stops.0;
        faults = stops.1;
      })
  stopped_ahead stop.Memory e stops is =
      subst (IsLoadedAs base known before now units) (sym is) (record { end = λ tree told. are_within begun base before units has tree told reached known; reads = asked stops.0; faults = stops.1 })
