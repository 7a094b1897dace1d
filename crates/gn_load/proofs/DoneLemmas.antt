-- The work on a claim, as a part of a turn.
use Rattle.std.proofs.Common.{◌≡◌, inl, ℕ, ◌+◌, ◌<◌, ◌≤◌, List, [], ◌∷◌, ◌++◌, length, Option, Some, None, MatchOption, option_to_list, Result, Ok, Err, IfErr, OnOk, refl, sym, ◌∙◌, subst, arith}
use Rattle.std.specs.Result.{IsErrAnd}
use Rattle.gn_paths.specs.declared.place.Place.{Place}
use Rattle.gn_outside.specs.Tree.{Tree, read_of}
use Rattle.gn_outside.specs.States.{SourceState}
use Rattle.gn_runs.specs.Runs.{Question, content_of, import_of, Content}
use Rattle.gn_executions.specs.Base.{BaseState}
use Rattle.gn_core.specs.Keys.{Layer, Key, Read, Import, Unit_of, Resolve, Answer, found, Filed as Answers, layer_of, key_of as core_key}
use Rattle.gn_core.specs.Machine.{File, read_limit}
use Rattle.gn_book.specs.Keys.{key_of}
use Rattle.gn_book.specs.Logs.{Log, with_event}
use Rattle.gn_book.specs.declared.book.Claim.{Claim}
use Rattle.gn_projects.specs.Files.{content_in}
use Rattle.gn_builds.specs.Stacks.{IsAskable, MayWait}
use Rattle.gn_builds.specs.Working.{IsInNeed}
use Rattle.gn_builds.specs.Driving.{with_claim}
use Rattle.gn_answers.specs.Answers.{meaning_of}
use Rattle.gn_perform.specs.Performing.{IsPerformed, IsPerformedOver, IsOfTree, IsWorkOf, HasWork}
use Rattle.gn_load.specs.Turns.{IsNextOf, IsCounted, ReadsAs, IsReadAt, IsReadOf, IsRead}
use Rattle.gn_answers.specs.declared.answer.Filed.{Filed}
use Rattle.gn_load.specs.declared.driver.Driver.{Driver}
use Rattle.gn_load.specs.declared.driver.Stop.{Stop}
use Rattle.gn_load.specs.declared.driver.Stop.TheVariants as stop
use Rattle.gn_perform.specs.declared.work.Performed.{Performed}
use Rattle.gn_perform.specs.declared.work.Performed.TheVariants.{Answered, Needs}
use Rattle.gn_answers.specs.declared.reading.PerformStop.{PerformStop}
use Rattle.gn_answers.specs.declared.reading.PerformStop.TheVariants.{Failed, Memory}

-- there is work on what may wait
pub has_work : (k : Key) → MayWait k → HasWork k
has_work (Read path) may = tt
has_work (Import layer path) may = tt
has_work (Unit_of unit) may = tt
has_work (Resolve label) may = may

-- and it reads nothing
pub works_still : (k : Key) (was now : SourceState) (r : Result Performed PerformStop) → MayWait k → IsWorkOf k was now r → now.reads ≡ was.reads
works_still (Read path) was now r may work = absurd may
works_still (Import layer path) was now r may work = work.reads
works_still (Unit_of unit) was now r may work = work.reads
works_still (Resolve label) was now r may work = absurd may

-- nor does it where memory was wanting
pub lost_work : (k : Key) (s : SourceState) → MayWait k → IsWorkOf k s s (Err Memory)
lost_work (Read path) s may = absurd may
lost_work (Import layer path) s may = record { tree = refl; reads = refl; faults = refl; fails = tt }
lost_work (Unit_of unit) s may = record { tree = refl; reads = refl; faults = refl; fails = tt }
lost_work (Resolve label) s may = absurd may

pub works_unfailed : (k : Key) → MayWait k → (path : List ℕ) × (k ≡ Read path) → ⊥
works_unfailed k may read = subst MayWait read.1 may

-- what is needed can be asked for
asked_askable : (l : Layer) (q : Question) → IsAskable (core_key l q)
asked_askable l (content_of path) = tt
asked_askable l (import_of path) = tt

pub needed_askable : (start : BaseState) (part : Answers) (k on : Key) (place : Place) (asked : List Question) → IsInNeed start part k on place asked → IsAskable on
needed_askable start part (Read path) on place asked need = absurd need
needed_askable start part (Import l path) on place asked need = subst IsAskable (sym need.1) (asked_askable l need.0)
needed_askable start part (Unit_of unit) on place asked need = subst IsAskable (sym need.1) (asked_askable (layer_of unit) need.0)
needed_askable start part (Resolve label) on place asked need = absurd need

-- what leaves a stack
none_left : (cs : List Claim) → length cs ≡ 0 → cs ≡ []
none_left [] h = refl
none_left (c ∷ cs) h = absurd (omega (arith, h))

pub popped : (next : Option Claim) (old new : List Claim) (n m : ℕ) → old ≡ option_to_list next ++ new → MatchOption next ((n ≡ 0) × (m ≡ 0)) (λ c. m + 1 ≡ n) → (n ≡ 0 → length old ≡ 0) → (old ≡ with_claim next new) × IsNextOf next new
popped None old new n m items cases long = (items, sym items ∙ none_left old (long cases.0))
popped (Some c) old new n m items cases long = (items, tt)

-- A read

module _ (was now : SourceState) (old new : Driver) (c : Claim) where
  pub read_answered : (part : Answers) (base : BaseState) (filed : Filed) (r : Result (Unit {0}) Stop) → IsPerformedOver base part (key_of c.key) (Answered filed)
      → ((tree : Tree) → was.tree ≡ Some tree → IsOfTree tree (key_of c.key) (Answered filed)) → IsWorkOf (key_of c.key) was now (Ok (Answered filed)) → ReadsAs old new c (meaning_of filed) r → IsRead was now old new c r
  read_answered part base filed r done tells work reads path key =
      by r (subst (λ (k : Key). IsPerformedOver base part k (Answered filed)) key done base tt) (λ tree told. subst (λ (k : Key). IsOfTree tree k (Answered filed)) key (tells tree told)) (subst (λ (k : Key). IsWorkOf k was now (Ok (Answered filed))) key work) reads
    where
      is_found : (x y : Content) → meaning_of filed ≡ found x → meaning_of filed ≡ found y → x ≡ y
      is_found x y e h = let same : found x ≡ found y = sym e ∙ h in cc same

      at : (o : Result (Unit {0}) Stop) → IsPerformed base part (Read path) (Answered filed) → ((tree : Tree) → was.tree ≡ Some tree → IsOfTree tree (Read path) (Answered filed)) → IsWorkOf (Read path) was now (Ok (Answered filed)) → ReadsAs old new c (meaning_of filed) o
          → IsReadAt was now old new c path o
      at o is tree_is does noted = record {
        content = is.0;
        is = λ tree told. is_found is.0 (content_in (read_of tree path)) is.1 (tree_is tree told);
        filed = subst (λ (v : Answer). ReadsAs old new c v o) is.1 noted;
        tree = does.tree;
        faults = does.faults;
        reads = does.reads;
      }

      by : (o : Result (Unit {0}) Stop) → IsPerformed base part (Read path) (Answered filed) → ((tree : Tree) → was.tree ≡ Some tree → IsOfTree tree (Read path) (Answered filed)) → IsWorkOf (Read path) was now (Ok (Answered filed)) → ReadsAs old new c (meaning_of filed) o
          → IsReadOf was now old new c path o
      by (Ok u) is tree_is does noted = at (Ok u) is tree_is does noted
      by (Err (stop.Failed p)) is tree_is does noted = absurd noted
      by (Err stop.TooLarge) is tree_is does noted = at (Err stop.TooLarge) is tree_is does noted
      by (Err stop.Memory) is tree_is does noted = record { tree = does.tree; faults = does.faults; reads = inl does.reads }

  pub read_failed : (p : List ℕ) → key_of c.key ≡ Read p → IsWorkOf (key_of c.key) was now (Err Failed) → IsRead was now old new c (Err (stop.Failed p))
  read_failed p named work path key =
      let paths : Read p ≡ Read path = sym named ∙ key in
      let does = subst (λ (k : Key). IsWorkOf k was now (Err Failed)) key work in
      (cc paths, record { tree = does.tree; faults = does.faults; reads = does.reads })

  pub read_lost : IsWorkOf (key_of c.key) was now (Err Memory) → IsRead was now old new c (Err stop.Memory)
  read_lost work path key =
      let does = subst (λ (k : Key). IsWorkOf k was now (Err Memory)) key work in
      record { tree = does.tree; faults = does.faults; reads = does.reads }

-- its answer is filed, and counted
counted_as : (old new : Driver) (c : Claim) (v : Answer) (r : Result (Unit {0}) Stop) → IsCounted old new c v → OnOk r (new.reads ≤ read_limit) → IfErr r (λ s. (s ≡ stop.TooLarge) × (read_limit < new.reads)) → ReadsAs old new c v r
counted_as old new c v (Ok u) counted few many = (counted, few)
counted_as old new c v (Err (stop.Failed path)) counted few many = cc many.0
counted_as old new c v (Err stop.TooLarge) counted few many = (counted, many.1)
counted_as old new c v (Err stop.Memory) counted few many = tt

module _ (old new : Driver) (c : Claim) (v : Answer) where
  pub reads_as : (book : Log) → book ≡ with_event old.book (File 0 (key_of c.key) v) → (r : Result (Unit {0}) Stop) → new.book ≡ book → new.waiting ≡ old.waiting
      → (new.base ≡ old.base) × (new.known ≡ old.known) → new.reads ≡ old.reads + 1
      → OnOk r (new.reads ≤ read_limit) → IfErr r (λ s. (s ≡ stop.TooLarge) × (read_limit < new.reads)) → ReadsAs old new c v r
  reads_as book filed r same waiting begins reads few many = counted_as old new c v r (record { book = same ∙ filed; waiting = waiting; begins = begins; reads = reads }) few many

  pub reads_lost : (r : Result (Unit {0}) Stop) → IsErrAnd r (λ e. e ≡ stop.Memory) → ReadsAs old new c v r
  reads_lost (Ok u) h = absurd h
  reads_lost (Err s) h = subst (λ (e : Stop). ReadsAs old new c v (Err e)) (sym h) tt

-- a read needs nothing
abbrev pub IsAnswer : Performed → Type 0
IsAnswer (Answered filed) = Unit {0}
IsAnswer (Needs on place asked) = ⊥

pub reads_need_none : (part : Answers) (base : BaseState) (k : Key) (path : List ℕ) (done : Performed) → k ≡ Read path → IsPerformedOver base part k done → IsAnswer done
reads_need_none part base k path done key is = by done (subst (λ (q : Key). IsPerformedOver base part q done) key is base tt)
  where
    by : (d : Performed) → IsPerformed base part (Read path) d → IsAnswer d
    by (Answered filed) h = tt
    by (Needs on place asked) h = h.0
