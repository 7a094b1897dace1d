-- What a run over one source has said and read.
use Rattle.std.proofs.Common.{◌≡◌, ℕ, ◌≤◌, List, [], ◌∷◌, ◌++◌, refl, sym, ap, ◌∙◌, subst, true≢false, append_assoc, append-nil, codes, inl, ⊎_elim, arith}
use Rattle.std.proofs.Math.Seq.{drop-append_seam}
use Rattle.std.specs.Prelude.{Option, None, Some, is_some, Result, Ok, Err, IfOk, IsSome, true, decimal}
use Rattle.std.specs.List.{IsDistinct}
use Rattle.std.specs.declared.cmp.Ordering.TheVariants.{Equal}
use Rattle.std.specs.Ordering.{nat_cmp}
use Rattle.std.specs.Cmp.Lexicographic.{slice_cmp}
use Rattle.std.proofs.lemmas.Cmp.{nat_list_cmp_total, tied_itself}
use Rattle.gn_faults.specs.declared.fault.Fault.{Fault}
use Rattle.gn_labels.specs.declared.error.PatternFault.{PatternFault}
use Rattle.gn_labels.specs.declared.pattern.Pattern.{Pattern}
use Rattle.gn_outside.specs.Tree.{Tree}
use Rattle.gn_outside.specs.States.{SourceRead, SourceState, paths_of}
use Rattle.gn_outside.specs.Lists.{AllDiffer, Each, EachPair, Extends}
use Rattle.gn_outside.specs.Sources.{AllTell, AllTellReads, FailedAt, IsAtMost, IsLeastFailure, ReadsOn, reads_since, joined_reads}
use Rattle.gn_projects.specs.Loaded.{UnitCount, Exactly, UpTo, Failure, IsCount, IsWithin}
use Rattle.gn_builds.specs.Driving.{FailsAt}
use Rattle.gn_command_line.specs.Words.{Line}
use Rattle.gn_top.specs.declared.answered.Answered.{Answered}
use Rattle.gn_top.specs.declared.answered.RunStop.{RunStop}
use Rattle.gn_top.specs.declared.answered.RunStop.TheVariants.{CannotRead, Memory}
use Rattle.gn_top.specs.declared.building.Build.{Build as BuildCode}
use Rattle.gn_top.specs.declared.building.BuildEnd.{BuildEnd}
use Rattle.gn_top.specs.declared.building.BuildEnd.TheVariants as build_end
use Rattle.gn_top.specs.declared.building.Failure.{Failure as FailureCode}
use Rattle.gn_top.specs.Stages.{Request, Build, build_failed, graph_judged}
use Rattle.gn_top.specs.Texts.{done_line}
use Rattle.gn_top.specs.Said.{Said, Wanted, Labels, Files, build_said, wanted_said, loaded_said, pattern_asked, warning}
use Rattle.gn_top.specs.Steps.{IsSaying, IfCannotRead}
use Rattle.gn_top.specs.Building.{build_view, SaysEnd, SaysFault, ReadsOf}

-- words that say something have a form
pub has_form : (line : Line) (found : Option Line) → Some line ≡ found → found ≡ None → ⊥
has_form line found is none = true≢false (ap is_some (is ∙ none))

-- a source that tells its tree is all that tells it
pub told_by_one : (result : Result Answered RunStop) (before : SourceState) (meaning : Tree → Said) → IfOk result (λ a. (tree : Tree) → before.tree ≡ Some tree → IsSaying a (meaning tree))
    → IfOk result (λ a. (tree : Tree) → AllTell tree (before ∷ []) → IsSaying a (meaning tree))
told_by_one (Ok answered) before meaning says = λ tree told. says tree told.0
told_by_one (Err stop) before meaning says = tt

-- an answer of a line that has a form isn't the usage line

pub never_two : (result : Result Answered RunStop) (P : Type 0) → IfOk result (λ a. a.status ≤ 1) → IfOk result (λ a. a.status ≡ 2 → P)
never_two (Ok answered) P range = λ two. absurd (omega (arith, range, two))
never_two (Err stop) P range = tt

pub at_most_two : (result : Result Answered RunStop) → IfOk result (λ a. a.status ≤ 1) → IfOk result (λ a. a.status ≤ 2)
at_most_two (Ok answered) range = omega (arith, range)
at_most_two (Err stop) range = tt

-- what follows for the path that can't be read
pub of_its_path : {T : Type 0} (result : Result T RunStop) (P Q : List ℕ → Type 0) → ((path : List ℕ) → P path → Q path) → IfCannotRead result P → IfCannotRead result Q
of_its_path (Ok x) P Q so has = tt
of_its_path (Err (CannotRead path)) P Q so has = so path has
of_its_path (Err Memory) P Q so has = tt

since_some : (before reads : List SourceRead) (after : Option (List SourceRead)) → after ≡ Some (before ++ reads) → reads_since (Some before) after ≡ reads
since_some before reads after is = ap (reads_since (Some before)) is ∙ drop-append_seam before reads

-- what was read since are the reads by which the source goes on
pub since_extended : (before after : Option (List SourceRead)) (reads : List SourceRead) → IsSome before → Extends before after reads → reads_since before after ≡ reads
since_extended None after reads told goes = cc
since_extended (Some before) after reads told goes = since_some before reads after goes

-- the path of the last read, or d
end_of : List ℕ → List SourceRead → List ℕ
end_of d [] = d
end_of d (r ∷ rs) = end_of r.path rs

end_told : Option (List SourceRead) → List ℕ
end_told None = []
end_told (Some rs) = end_of [] rs

end_more : (es : List SourceRead) (d : List ℕ) (r : SourceRead) → end_of d (es ++ r ∷ []) ≡ r.path
unfolding end_of
end_more [] d r = refl
end_more (e ∷ es) d r = end_more es e.path r

end_behind : (rs es : List SourceRead) (d : List ℕ) (r : SourceRead) → end_of d (rs ++ es ++ r ∷ []) ≡ r.path
unfolding end_of
end_behind [] es d r = end_more es d r
end_behind (q ∷ rs) es d r = end_behind rs es q.path r

-- a read that has failed
abbrev failed_read : List ℕ → SourceRead
failed_read path = record { path = path; failed = true }

at_most_itself : (path : List ℕ) → IsAtMost path path
at_most_itself path = λ greater. let tied : slice_cmp nat_cmp path path ≡ Equal = tied_itself nat_list_cmp_total path in cc

joined : (before after : SourceState) (reads : List SourceRead) → IsSome before.reads → Extends before.reads after.reads reads → joined_reads (before ∷ []) (after ∷ []) ≡ paths_of reads
joined before after reads told goes = append-nil (paths_of (reads_since before.reads after.reads)) ∙ ap paths_of (since_extended before.reads after.reads reads told goes)

module _ (asks : Tree → List ℕ → Type 0) (before after : SourceState) (read : ReadsOf asks before after) where
  pub reads_differ : AllTellReads (before ∷ []) → AllDiffer (joined_reads (before ∷ []) (after ∷ []))
  reads_differ told = subst AllDiffer (sym (joined before after read.0 told.0 (read.1).joined)) read.2

  pub reads_are_asked : (tree : Tree) → before.tree ≡ Some tree → AllTellReads (before ∷ []) → Each (asks tree) (joined_reads (before ∷ []) (after ∷ []))
  reads_are_asked tree of told = subst (Each (asks tree)) (sym (joined before after read.0 told.0 (read.1).joined)) (read.3 tree of)

  pub source_goes_on : EachPair ReadsOn (before ∷ []) (after ∷ [])
  source_goes_on = ((read.0, read.1), tt)

module _ (before after : SourceState) where
  -- a source has one path that it has read last
  one_last : (path other : List ℕ) → FailedAt path before after → FailedAt other before after → path ≡ other
  unfolding end_told
  one_last path other one two =
      sym (end_behind one.last.0 one.last.1 [] (failed_read path)) ∙ ap end_told (sym one.last.3 ∙ two.last.3) ∙ end_behind two.last.0 two.last.1 [] (failed_read other)

  pub least_failure : (path : List ℕ) → FailsAt path before after → AllTellReads (before ∷ []) → IsLeastFailure (before ∷ []) (after ∷ []) path
  least_failure path fails told = record {
    some = inl (fails.last told.0);
    least = λ other failed. subst (IsAtMost path) (one_last path other (fails.last told.0) (⊎_elim (λ here. here) (λ none. absurd none) failed)) (at_most_itself path);
  }

-- What is said of the end of a build

module _ (wanted : Wanted) (request : Request) where
  pub built_says : (a : Answered) (build : BuildCode) → IsSaying a (loaded_said wanted request (graph_judged (build_view build))) → SaysEnd a wanted request (build_end.Built build)
  built_says a build says meaning is = subst (λ (m : Result Build Failure). IsSaying a (loaded_said wanted request m)) (sym is) says

  pub failed_says : (a : Answered) (failure : FailureCode) → SaysFault a failure.fault failure.units → SaysEnd a wanted request (build_end.Failed failure)
  failed_says a failure says meaning (units, is, count) = subst (λ (m : Result Build Failure). IsSaying a (loaded_said wanted request m)) (sym is) (says units count)

  pub built_ends : {E : Type 0} (r : Result Answered E) (end : BuildEnd) (build : BuildCode) → end ≡ build_end.Built build → IfOk r (λ a. IsSaying a (loaded_said wanted request (graph_judged (build_view build)))) → IfOk r (λ a. SaysEnd a wanted request end)
  built_ends (Ok a) end build is says = subst (λ (e : BuildEnd). SaysEnd a wanted request e) (sym is) (built_says a build says)
  built_ends (Err e) end build is says = tt

  pub failed_ends : {E : Type 0} (r : Result Answered E) (end : BuildEnd) (failure : FailureCode) → end ≡ build_end.Failed failure → IfOk r (λ a. SaysFault a failure.fault failure.units) → IfOk r (λ a. SaysEnd a wanted request end)
  failed_ends (Ok a) end failure is says = subst (λ (e : BuildEnd). SaysEnd a wanted request e) (sym is) (failed_says a failure says)
  failed_ends (Err e) end failure is says = tt

-- what is told of its graph: a fault, or none
module _ (wanted : Wanted) (request : Request) (build : Build) where
  pub wrong_said : {E : Type 0} (r : Result Answered E) (fault : Fault) → graph_judged build ≡ build_failed fault (Exactly build.files) → IfOk r (λ a. SaysFault a fault build.files)
      → IfOk r (λ a. IsSaying a (loaded_said wanted request (graph_judged build)))
  wrong_said (Ok a) fault is says = subst (λ (m : Result Build Failure). IsSaying a (loaded_said wanted request m)) (sym is) (says (Exactly build.files) refl)
  wrong_said (Err e) fault is says = tt

  pub right_said : {E : Type 0} (r : Result Answered E) → graph_judged build ≡ Ok build → IfOk r (λ a. IsSaying a (wanted_said wanted request build))
      → IfOk r (λ a. IsSaying a (loaded_said wanted request (graph_judged build)))
  right_said (Ok a) is says = subst (λ (m : Result Build Failure). IsSaying a (loaded_said wanted request m)) (sym is) says
  right_said (Err e) is says = tt

-- whether a pattern is asked for or not
build_range : (a : Answered) (pattern : Result (Option Pattern) PatternFault) (build : Build) → IsSaying a (build_said pattern build) → a.status ≤ 1
build_range a (Ok pattern) build says = let is = says.status in omega (arith, is)
build_range a (Err fault) build says = let is = says.status in omega (arith, is)

wanted_range : (a : Answered) (wanted : Wanted) (request : Request) (build : Build) → IsSaying a (wanted_said wanted request build) → a.status ≤ 1
wanted_range a (Labels pattern) request build says = build_range a (pattern_asked pattern) build says
wanted_range a Files request build says = let is = says.status in omega (arith, is)

loaded_range : (a : Answered) (wanted : Wanted) (request : Request) (meaning : Result Build Failure) → IsSaying a (loaded_said wanted request meaning) → a.status ≤ 1
loaded_range a wanted request (Ok build) says = wanted_range a wanted request build says
loaded_range a wanted request (Err failure) says = let is = says.status in omega (arith, is)

pub end_range : (a : Answered) (wanted : Wanted) (request : Request) (end : BuildEnd) → SaysEnd a wanted request end → a.status ≤ 1
end_range a wanted request (build_end.Built build) says = loaded_range a wanted request (graph_judged (build_view build)) (says (graph_judged (build_view build)) refl)
end_range a wanted request (build_end.Failed failure) says =
    let is = (says (Err (record { fault = failure.fault; units = Exactly failure.units })) (Exactly failure.units, refl, refl)).status in omega (arith, is)

-- The warning of an argument

all_joined : (a w n e l : List ℕ) → (((a ++ w) ++ n) ++ e) ++ l ≡ a ++ ((w ++ (n ++ e)) ++ l)
all_joined a w n e l = ap (λ (x : List ℕ). x ++ l) (append_assoc (a ++ w) n e ∙ append_assoc a w (n ++ e)) ∙ append_assoc a (w ++ (n ++ e)) l

pub warned : (start one two three all name : List ℕ) → one ≡ start ++ codes "WARNING: The build argument \"" → two ≡ one ++ name → three ≡ two ++ codes "\" has no effect." → all ≡ three ++ 10 ∷ [] → all ≡ start ++ warning name
unfolding warning
warned start one two three all name first second third last =
    last
    ∙ ap (λ (x : List ℕ). x ++ 10 ∷ [])
    (third ∙ ap (λ (x : List ℕ). x ++ codes "\" has no effect.") (second ∙ ap (λ (x : List ℕ). x ++ name) first))
    ∙ all_joined start (codes "WARNING: The build argument \"") name (codes "\" has no effect.") (10 ∷ [])

-- The last line of a build

three_joined : (a d t m f l : List ℕ) → ((a ++ (d ++ t)) ++ (m ++ f)) ++ l ≡ a ++ (d ++ (t ++ (m ++ (f ++ l))))
three_joined a d t m f l =
    append_assoc (a ++ (d ++ t)) (m ++ f) l ∙ append_assoc a (d ++ t) ((m ++ f) ++ l)
    ∙ ap (λ (x : List ℕ). a ++ x) (append_assoc d t ((m ++ f) ++ l) ∙ ap (λ (x : List ℕ). d ++ (t ++ x)) (append_assoc m f l))

-- a newline at the end of them all
line_behind : (targets files : ℕ) → codes "Done. Made " ++ (decimal targets ++ (codes " targets from " ++ (decimal files ++ (codes " files" ++ 10 ∷ [])))) ≡ done_line targets files
unfolding done_line
line_behind targets files = sym (
    append_assoc (codes "Done. Made ") (decimal targets ++ (codes " targets from " ++ (decimal files ++ codes " files"))) (10 ∷ [])
    ∙ ap (λ (x : List ℕ). codes "Done. Made " ++ x) (
    append_assoc (decimal targets) (codes " targets from " ++ (decimal files ++ codes " files")) (10 ∷ [])
    ∙ ap (λ (x : List ℕ). decimal targets ++ x) (
    append_assoc (codes " targets from ") (decimal files ++ codes " files") (10 ∷ [])
    ∙ ap (λ (x : List ℕ). codes " targets from " ++ x) (append_assoc (decimal files) (codes " files") (10 ∷ [])))))

pub done_told : (start one two all : List ℕ) (targets files : ℕ) → one ≡ start ++ (codes "Done. Made " ++ decimal targets) → two ≡ one ++ (codes " targets from " ++ decimal files) → all ≡ two ++ (codes " files" ++ 10 ∷ []) → all ≡ start ++ done_line targets files
unfolding done_line
done_told start one two all targets files first second third =
    third ∙ ap (λ (x : List ℕ). x ++ (codes " files" ++ 10 ∷ [])) (second ∙ ap (λ (x : List ℕ). x ++ (codes " targets from " ++ decimal files)) first)
    ∙ three_joined start (codes "Done. Made ") (decimal targets) (codes " targets from ") (decimal files) ((codes " files" ++ 10 ∷ [])) ∙ ap (λ (x : List ℕ). start ++ x) (line_behind targets files)

-- How many build files are loaded

pub none_within : (count : UnitCount) → IsWithin 0 count
unfolding IsDistinct
none_within (Exactly n) = omega arith
none_within (UpTo w) = ([], tt, omega arith, λ k there. absurd there)

pub count_within : (units : ℕ) (count : UnitCount) → IsCount units count → IsWithin units count
count_within units (Exactly n) is = omega (arith, is)
count_within units (UpTo w) is = is
