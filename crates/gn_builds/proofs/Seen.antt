-- What the evaluations of claimed keys see of other units is filed.
use Rattle.std.proofs.Common.{List, false, refl}
use Rattle.gn_closure.specs.Closure.{In}
use Rattle.gn_executions.specs.Base.{BaseState}
use Rattle.gn_core.specs.Keys.{Layer, early, usual, Key, Read, Import, Unit_of, Resolve, Filed, layer_of}
use Rattle.gn_core.specs.Layered.{IsPart, HasLayer}
use Rattle.gn_core.specs.Statements.{IsLoadingRun}
use Rattle.gn_core.proofs.Based.{layer_grows}
use Rattle.gn_book.specs.Logs.{Log, opening, state_of}
use Rattle.gn_projects.specs.Files.{Files}
use Rattle.gn_projects.specs.Worlds.{world_of}
use Rattle.gn_projects.proofs.Layered.{whole_builds_are_layered}
use Rattle.gn_projects.proofs.Whole.{claimed_have_layer}
use Rattle.gn_builds.specs.Working.{evaluator, IsSeen}
use Rattle.gn_builds.specs.Driving.{IsDriven}
use Rattle.gn_builds.specs.Own.{read_by}
use Rattle.gn_builds.proofs.Logs.{opens}
use Rattle.gn_builds.proofs.Own.{files_were_read}

-- what a layer sees is the same over all files
seen_over : (files : Files) (start : BaseState) (filed : Filed) (layer : Layer) → HasLayer (world_of files) filed layer → HasLayer (evaluator start) filed layer
seen_over files start filed (early toolchain) has = has
seen_over files start filed (usual toolchain) has = has

-- over more answers all is seen that was
pub seen_grows : (start : BaseState) (part filed : Filed) (k : Key) → IsPart part filed → IsSeen start part k → IsSeen start filed k
seen_grows start part filed (Read path) le seen = tt
seen_grows start part filed (Import layer path) le seen = layer_grows (evaluator start) part filed le layer seen
seen_grows start part filed (Unit_of unit) le seen = layer_grows (evaluator start) part filed le (layer_of unit) seen
seen_grows start part filed (Resolve label) le seen = absurd seen

-- a driven log is a run of loading over the files that it has read, and so each key that it has claimed has its layer
pub claimed_are_seen : (start : BaseState) (l : Log) (ks : List Key) → IsDriven start l ks → (k : Key) → In ks k → IsSeen start (state_of l).filed k
claimed_are_seen start l ks d k i = by k i
  where
    run : IsLoadingRun (world_of (read_by start l)) (λ path. false) opening l.events
    run = record {
      layered = whole_builds_are_layered (read_by start l);
      opening = opens (world_of (read_by start l));
      runs = d.runs (read_by start l) refl;
      over = files_were_read start l ks d;
    }

    by : (q : Key) → In ks q → IsSeen start (state_of l).filed q
    by (Read path) j = tt
    by (Import layer path) j =
        seen_over (read_by start l) start (state_of l).filed layer
        ((claimed_have_layer (world_of (read_by start l)) (λ path. false) opening l.events run).1 layer path 0 (d.stacked.held (Import layer path) j))
    by (Unit_of unit) j =
        seen_over (read_by start l) start (state_of l).filed (layer_of unit)
        ((claimed_have_layer (world_of (read_by start l)) (λ path. false) opening l.events run).0 unit 0 (d.stacked.held (Unit_of unit) j))
    by (Resolve label) j = d.named.labels label (d.named.claimed (Resolve label) j)
