-- The laws of imports by rounds.
use Rattle.std.specs.Prelude.{◌≡◌, ◌⊎◌, ◌↔◌, ℕ, suc, Bool, IsTrue, List, Some, None}
use Rattle.gn_paths.specs.declared.place.Place.{Place}
use Rattle.gn_definitions.specs.Imported.{ImportState}
use Rattle.gn_faults.specs.declared.fault.Fault.{Fault}
use Rattle.gn_runs.specs.Runs.{Question, has_value, is_unusable, content_of, import_of, Imported, Answers, End, ended, wrong, spoiled, needs, Run}
use Rattle.gn_runs.specs.Laws.{IsAsked}
use Rattle.gn_imports.specs.Rounds.{Project, knowing, imported_of, round, values, final}
use Rattle.gn_imports.specs.Causes.{Link, link, cycle_fault, cause, LeadsTo, IsOnCycle, IsLeastPlace}
use Rattle.gn_imports.specs.Asked.{all_asked}
use Rattle.gn_imports.specs.Projects.{IsWrong}

-- what a round knows, the next one and the last one know
abbrev pub RoundsGrow : Project → Type 0
RoundsGrow project = (n : ℕ) (path : List ℕ) (y : Imported) → round project n path ≡ Some y → (round project (suc n) path ≡ Some y) × (values project path ≡ Some y)

-- what the executions over the last round leave is the last round
abbrev pub IsAtRest : Project → Type 0
IsAtRest project = (path : List ℕ) → imported_of (project.execute path (knowing project (values project))).end ≡ values project path

-- an import without a value needs one without a value
abbrev pub NoneNeedsNone : Project → Type 0
NoneNeedsNone project = (path : List ℕ) → values project path ≡ None → (q : List ℕ) × (place : Place) × ((project.execute path (knowing project (values project))).end ≡ needs (import_of q) place) × (values project q ≡ None)

-- the answers that everything gets are what the executions over them leave
abbrev pub IsFixed : Project → Type 0
IsFixed project = (path : List ℕ) → imported_of (project.execute path (final project)).end ≡ (final project).imports path

-- an import whose value everything gets ends with it
abbrev pub ValueEnds : Project → Type 0
ValueEnds project = (path : List ℕ) (v : ImportState) → (final project).imports path ≡ Some (has_value v) → (project.execute path (final project)).end ≡ ended v

-- an import is spoiled by one that can't be used
abbrev pub LeadsOn : Project → List ℕ → Type 0
LeadsOn project path = (q : List ℕ) × (place : Place) × ((project.execute path (final project)).end ≡ spoiled q place) × ((final project).imports q ≡ Some is_unusable)

-- one that can't be used is wrong, or leads to another one that can't be used
abbrev pub UnusableLeads : Project → Type 0
UnusableLeads project = (path : List ℕ) → (final project).imports path ≡ Some is_unusable → IsWrong (project.execute path (final project)).end ⊎ LeadsOn project path

-- an import that is needed over the last round has no value, so it spoils the run
abbrev pub without_value : {A : Type 0} → End A → End A
without_value (ended x) = ended x
without_value (wrong fault) = wrong fault
without_value (spoiled path place) = spoiled path place
without_value (needs (content_of path) place) = needs (content_of path) place
without_value (needs (import_of path) place) = spoiled path place

abbrev pub spoiled_at_need : {A : Type 0} → Run A → Run A
spoiled_at_need run = record { end = without_value run.end; asked = run.asked }

-- a run over the answers that everything gets is the run over the last round, but spoiled where that one needs an import
abbrev pub EndsAsInLastRound : {A : Type 0} → Project → (Answers → Run A) → Type 0
EndsAsInLastRound project meaning = meaning (final project) ≡ spoiled_at_need (meaning (knowing project (values project)))

-- the link of an import is what spoils it
abbrev pub LinkSpoils : Project → Type 0
LinkSpoils project = (path : List ℕ) (l : Link) → (project.execute path (final project)).end ≡ spoiled l.path l.place ↔ link project path ≡ Some l

-- links from an import lead to a wrong one, whose fault is its cause
abbrev pub LeadsToWrong : Project → List ℕ → Type 0
LeadsToWrong project path = (q : List ℕ) × (fault : Fault) × LeadsTo project path q × ((project.execute q (final project)).end ≡ wrong fault) × (cause project path ≡ fault)

-- links from an import lead to one on a cycle, and its cause is the cycle at its least place
abbrev pub LeadsToCycle : Project → List ℕ → Type 0
LeadsToCycle project path = (q : List ℕ) × (place : Place) × LeadsTo project path q × IsOnCycle project q × IsLeastPlace project q place × (cause project path ≡ cycle_fault (Some place))

-- one of both holds of each import that can't be used
abbrev pub LinksEnd : Project → Type 0
LinksEnd project = (path : List ℕ) → (final project).imports path ≡ Some is_unusable → LeadsToWrong project path ⊎ LeadsToCycle project path

-- an import has the cause of each to which links from it lead
abbrev pub LinksKeepCause : Project → Type 0
LinksKeepCause project = (path q : List ℕ) → LeadsTo project path q → cause project path ≡ cause project q

-- all that is asked for: these questions, what an import asks that is asked for, and nothing else
abbrev pub AllAskedHas : Project → Type 0
AllAskedHas project = (qs : List Question) (q : Question) → IsAsked qs q → IsAsked (all_asked project qs) q

abbrev pub AllAskedIsClosed : Project → Type 0
AllAskedIsClosed project = (qs : List Question) (path : List ℕ) → IsAsked (all_asked project qs) (import_of path) → (q : Question) → IsAsked (project.execute path (final project)).asked q → IsAsked (all_asked project qs) q

abbrev pub AllAskedIsLeast : Project → Type 0
AllAskedIsLeast project = (test : Question → Bool) → ((path : List ℕ) → IsTrue (test (import_of path)) → (q : Question) → IsAsked (project.execute path (final project)).asked q → IsTrue (test q)) → (qs : List Question) → ((q : Question) → IsAsked qs q → IsTrue (test q)) → (q : Question) → IsAsked (all_asked project qs) q → IsTrue (test q)
