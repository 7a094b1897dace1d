-- A build, stage by stage: how it ends, and what it has read.
use Rattle.std.proofs.Common.{◌≡◌, inl, inr, ℕ, List, [], ◌++◌, Some, None, Result, Ok, Err, refl, sym, ◌∙◌, ap, subst}
use Rattle.std.specs.Prelude.{◌↔◌}
use Rattle.gn_faults.specs.declared.fault.Fault.{Fault}
use Rattle.gn_outside.specs.Tree.{Tree}
use Rattle.gn_outside.specs.States.{SourceRead, SourceState, paths_of}
use Rattle.gn_outside.specs.Lists.{OneOf}
use Rattle.gn_outside.specs.Sources.{ReadsOnBy}
use Rattle.gn_executions.specs.Base.{BaseState}
use Rattle.gn_projects.specs.Files.{Files, files_of}
use Rattle.gn_projects.specs.Worlds.{world_of}
use Rattle.gn_projects.specs.Loaded.{Build as Loaded, Exactly, Failure, IsAskedFor, loaded as loaded_over}
use Rattle.gn_builds.specs.Driving.{FailsAt}
use Rattle.gn_builds.specs.Rest.{ReadsAsked}
use Rattle.gn_built.specs.Built.{build_of}
use Rattle.gn_load.specs.Ends.{IsWithinMeant, IsEndOf, CountsEnd}
use Rattle.gn_bases.specs.Setups.{given_base}
use Rattle.gn_load.specs.Turns.{known_paths}
use Rattle.gn_answers.specs.declared.answer.FileContent.{FileContent}
use Rattle.gn_built.specs.declared.built.Built.{Built}
use Rattle.gn_load.specs.declared.plain.LoadEnd.{LoadEnd}
use Rattle.gn_load.specs.declared.plain.LoadEnd.TheVariants as load_end
use Rattle.gn_top.specs.Hosts.{HostTexts}
use Rattle.gn_top.specs.Stages.{Request, First, Build, first_said, first_paths, configuration_base, files_behind, surroundings_of, build_failed, without_fault, graph_judged, behind_loading, behind_first, loaded, IsAskedBehind, IsReadFor}
use Rattle.gn_top.specs.GraphFaults.{graph_fault}
use Rattle.gn_top.specs.Steps.{IfCannotRead, CountsFault}
use Rattle.gn_top.specs.declared.answered.RunStop.{RunStop}
use Rattle.gn_top.specs.declared.answered.RunStop.TheVariants.{CannotRead, Memory}
use Rattle.gn_top.specs.declared.building.Started.{Started}
use Rattle.gn_top.specs.declared.building.BuildEnd.{BuildEnd}
use Rattle.gn_top.specs.declared.building.BuildEnd.TheVariants as build_end
use Rattle.gn_top.specs.Building.{started_view, IsStarted, IsBuild, StopsAs, ReadsOneOf, ReadsKnown, ReadsBuild, KnowsAlso}
use Rattle.gn_top.proofs.JoinedReads.{each_maps, known_apart, differ_second, joined_goes, joined_differ, joined_each}
use Rattle.gn_top.proofs.KnownPaths.{loaded_same}
use Rattle.gn_top.proofs.PartReads.{fails_all_behind}

-- Loading

module _ (host : HostTexts) (request : Request) (tree : Tree) (first : First) where
  abbrev base : BaseState
  base = configuration_base host request first

  abbrev files : Files
  files = files_behind host request tree first

  -- a build that was loaded
  pub built_is : (directory : List ℕ) (built : Built) (units : ℕ) (end : BuildEnd) → directory ≡ request.directory → IsEndOf base (first_paths host request tree) tree (load_end.Built built) units
      → IsBuild end (graph_judged (record { directory = directory; first = first; loaded = build_of built; files = units })) → IsBuild end (behind_first host request tree (Ok first))
  built_is directory built units end same is judged =
      subst (λ (r : Result Loaded Failure). IsBuild end (behind_loading request.directory first files r)) (sym is.0)
      (subst (λ (n : ℕ). IsBuild end (graph_judged (record { directory = request.directory; first = first; loaded = build_of built; files = n }))) is.1
      (subst (λ (d : List ℕ). IsBuild end (graph_judged (record { directory = d; first = first; loaded = build_of built; files = units }))) same judged))

  -- its error
  pub wrong_is : (fault : Fault) (units : ℕ) → IsEndOf base (first_paths host request tree) tree (load_end.Wrong fault) units
      → IsBuild (build_end.Failed (record { fault = fault; units = units })) (behind_first host request tree (Ok first))
  wrong_is fault units (failure, is, same, count) = (
    failure.units,
    ap (behind_loading request.directory first files) is ∙ ap (λ f. Err (record { fault = f; units = failure.units })) same,
    count,
  )

-- which of two lists of paths are known doesn't matter where they have the same
within_same : (start : BaseState) (one two : List (List ℕ)) (tree : Tree) (units : ℕ) → ((path : List ℕ) → OneOf one path ↔ OneOf two path) → IsWithinMeant (world_of (files_of start tree)) (loaded_over one (files_of start tree)) units
    → IsWithinMeant (world_of (files_of start tree)) (loaded_over two (files_of start tree)) units
within_same start one two tree units same is = subst (λ (r : Result Loaded Failure). IsWithinMeant (world_of (files_of start tree)) r units) (loaded_same one two same (files_of start tree)) is

ends_same : (start : BaseState) (one two : List (List ℕ)) (tree : Tree) (end : LoadEnd) (units : ℕ) → ((path : List ℕ) → OneOf one path ↔ OneOf two path) → IsEndOf start one tree end units → IsEndOf start two tree end units
ends_same start one two tree (load_end.Built built) units same is = (sym (loaded_same one two same (files_of start tree)) ∙ is.0, is.1)
ends_same start one two tree (load_end.Wrong fault) units same (failure, is, fault_is, count) = (failure, sym (loaded_same one two same (files_of start tree)) ∙ is, fault_is, count)
ends_same start one two tree (load_end.Failed path) units same is = within_same start one two tree units same is
ends_same start one two tree load_end.Memory units same is = within_same start one two tree units same is

-- all that the first stage asks for is known
known_same : (paths known : List (List ℕ)) → KnowsAlso [] paths known → (path : List ℕ) → OneOf known path ↔ OneOf paths path
known_same paths known knows path = (λ one. elim ((knows path).0 one) [ inl none ↦ absurd none | inr there ↦ there ], λ one. (knows path).1 (inr one))

-- The third stage

pub judged_wrong : (build : Build) (fault : Fault) → graph_fault (surroundings_of build) build.loaded ≡ Some fault → graph_judged build ≡ build_failed fault (Exactly build.files)
judged_wrong build fault is = ap (without_fault build) is

pub judged_right : (build : Build) → graph_fault (surroundings_of build) build.loaded ≡ None → graph_judged build ≡ Ok build
judged_right build is = ap (without_fault build) is

-- The meaning of a build behind its first stage

-- how loading has ended, by what the first stage asks for
pub load_is : (host : HostTexts) (request : Request) (tree : Tree) (first : First) (known : List (List ℕ)) (start : BaseState) (load : LoadEnd) (units : ℕ) → start ≡ configuration_base host request first → KnowsAlso [] (first_paths host request tree) known
    → IsEndOf start known tree load units → IsEndOf (configuration_base host request first) (first_paths host request tree) tree load units
load_is host request tree first known start load units same knows ends =
    subst (λ (b : BaseState). IsEndOf b (first_paths host request tree) tree load units) same
    (ends_same start known (first_paths host request tree) tree load units (known_same (first_paths host request tree) known knows) ends)

-- and from what the first stage has left
pub load_started : (host : HostTexts) (request : Request) (tree : Tree) (first : First) (known : List (List ℕ × FileContent)) (start : Started) (end : BuildEnd) → IsStarted host request first known start
    → KnowsAlso [] (first_paths host request tree) (known_paths known)
    → (given_base start.setup ≡ configuration_base host request (started_view start) → KnowsAlso [] (first_paths host request tree) (known_paths start.setup.known.entries) → IsBuild end (behind_first host request tree (Ok (started_view start))))
    → IsBuild end (behind_first host request tree (Ok first))
load_started host request tree first known start end is knows says =
    subst (λ (f : First). IsBuild end (behind_first host request tree (Ok f))) is.view
    (says (is.base ∙ ap (configuration_base host request) (sym is.view)) (subst (λ (es : List (List ℕ × FileContent)). KnowsAlso [] (first_paths host request tree) (known_paths es)) (sym is.read) knows))

pub build_is : (host : HostTexts) (request : Request) (tree : Tree) (first : First) (end : BuildEnd) → first_said host request tree ≡ Ok first → IsBuild end (behind_first host request tree (Ok first)) → IsBuild end (loaded host request tree)
unfolding loaded
build_is host request tree first end said is = subst (λ (r : Result First Fault). IsBuild end (behind_first host request tree r)) (sym said) is

pub failed_build_is : (host : HostTexts) (request : Request) (tree : Tree) (fault : Fault) → first_said host request tree ≡ Err fault → IsBuild (build_end.Failed (record { fault = fault; units = 0 })) (loaded host request tree)
unfolding loaded
failed_build_is host request tree fault said = (Exactly 0, ap (behind_first host request tree) said, refl)

-- What a build has read

first_part : (host : HostTexts) (request : Request) (tree : Tree) (path : List ℕ) → OneOf (first_paths host request tree) path → IsReadFor host request tree path
unfolding IsReadFor
first_part host request tree path one = inl one

second_part : (host : HostTexts) (request : Request) (tree : Tree) (first : First) (path : List ℕ) → first_said host request tree ≡ Ok first → IsAskedFor (files_behind host request tree first) path → IsReadFor host request tree path
unfolding IsReadFor
second_part host request tree first path said asked = inr (subst (λ (r : Result First Fault). IsAskedBehind host request tree r path) (sym said) asked)

pub first_reads : (host : HostTexts) (request : Request) (before now : SourceState) → ReadsOneOf (first_paths host request) before now → ReadsBuild host request before now
first_reads host request before now read = (
  read.0,
  read.1,
  read.2,
  λ tree told. each_maps (OneOf (first_paths host request tree)) (IsReadFor host request tree) (first_part host request tree) (paths_of read.0) (read.3 tree told),
)

pub known_reads : (host : HostTexts) (request : Request) (known : List (List ℕ)) (before now : SourceState) → ReadsKnown (first_paths host request) known before now → ReadsBuild host request before now
known_reads host request known before now read = first_reads host request before now (read.0, read.1, read.2, read.4)

pub build_reads : (host : HostTexts) (request : Request) (known : List (List ℕ)) (first : First) (start : BaseState) (before between after : SourceState) → start ≡ configuration_base host request first
    → ((tree : Tree) → before.tree ≡ Some tree → first_said host request tree ≡ Ok first) → between.faults ≡ before.faults → ReadsKnown (first_paths host request) known before between
    → ReadsAsked start known between after → ReadsBuild host request before after
build_reads host request known first start before between after is said same one two =
    let rs = one.0 in
    let us = two.0 in (
      rs ++ us,
      joined_goes before between after rs us one.1 two.1 same,
      joined_differ rs us one.2 (differ_second known (paths_of us) two.2) (known_apart known (paths_of rs) (paths_of us) two.2 one.3),
      λ tree told.
          joined_each (IsReadFor host request tree) rs us
          (each_maps (OneOf (first_paths host request tree)) (IsReadFor host request tree) (first_part host request tree) (paths_of rs) (one.4 tree told))
          (each_maps (IsAskedFor (files_of start tree)) (IsReadFor host request tree)
          (λ path asked. second_part host request tree first path (said tree told) (subst (λ (b : BaseState). IsAskedFor (files_of b tree) path) is asked)) (paths_of us)
          (two.3 tree ((one.1).tree ∙ told))),
    )

-- Failed reads

-- there is an answer where no read has failed and memory wasn't wanting
ended_faults : {T : Type 0} (before after : SourceState) (r : Result T RunStop) → after.faults ≡ before.faults → IfCannotRead r (λ path. ⊥) → CountsFault before.faults after.faults r
ended_faults before after (Ok x) same none = same
ended_faults before after (Err (CannotRead path)) same none = absurd none
ended_faults before after (Err Memory) same none = same

pub end_faults : {T : Type 0} (before after : SourceState) (end : LoadEnd) (r : Result T RunStop) → CountsEnd before after end → StopsAs end r → CountsFault before.faults after.faults r
end_faults before after (load_end.Built built) r counts stops = ended_faults before after r counts stops
end_faults before after (load_end.Wrong fault) r counts stops = ended_faults before after r counts stops
end_faults before after (load_end.Failed path) r counts stops = subst (CountsFault before.faults after.faults) (sym stops) counts.failed
end_faults before after load_end.Memory r counts stops = subst (CountsFault before.faults after.faults) (sym stops) counts

ended_failure : {T : Type 0} (P : List ℕ → Type 0) (r : Result T RunStop) → IfCannotRead r (λ path. ⊥) → IfCannotRead r P
ended_failure P (Ok x) none = tt
ended_failure P (Err (CannotRead path)) none = absurd none
ended_failure P (Err Memory) none = tt

pub end_failure : {T : Type 0} (before after : SourceState) (end : LoadEnd) (r : Result T RunStop) → CountsEnd before after end → StopsAs end r → IfCannotRead r (λ path. FailsAt path before after)
end_failure before after (load_end.Built built) r counts stops = ended_failure (λ path. FailsAt path before after) r stops
end_failure before after (load_end.Wrong fault) r counts stops = ended_failure (λ path. FailsAt path before after) r stops
end_failure {T} before after (load_end.Failed path) r counts stops = subst (λ (x : Result T RunStop). IfCannotRead x (λ p. FailsAt p before after)) (sym stops) counts
end_failure {T} before after load_end.Memory r counts stops = subst (λ (x : Result T RunStop). IfCannotRead x (λ p. FailsAt p before after)) (sym stops) tt

-- behind the first stage
pub build_failure : {T : Type 0} (before between after : SourceState) (rs : List SourceRead) (end : LoadEnd) (r : Result T RunStop) → ReadsOnBy before between rs → between.faults ≡ before.faults → CountsEnd between after end → StopsAs end r
    → IfCannotRead r (λ path. FailsAt path before after)
build_failure before between after rs end r goes same counts stops = fails_all_behind r before between after rs goes same (end_failure between after end r counts stops)
