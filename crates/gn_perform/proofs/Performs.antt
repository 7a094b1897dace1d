-- The work on one claim, as the work on what its key names.
use Rattle.std.proofs.Common.{◌≡◌, ℕ, List, Option, Some, Result, Ok, Err, IfOk, refl, sym, subst}
use Rattle.gn_items.specs.declared.key.Key.{Key as Named}
use Rattle.gn_outside.specs.Tree.{Tree}
use Rattle.gn_outside.specs.States.{SourceState}
use Rattle.gn_executions.specs.Base.{BaseState}
use Rattle.gn_core.specs.Keys.{Key, Read, Import, Unit_of, Resolve, Filed as Answers}
use Rattle.gn_builds.specs.Stacks.{MayWait}
use Rattle.gn_answers.specs.Reading.{IsReadBy}
use Rattle.gn_answers.specs.declared.answer.FileContent.{FileContent}
use Rattle.gn_perform.specs.Performing.{IsPerformed, KeepsFor, IsPerformedOver, IsOfTree, IsWorkOf, IsEvaluated}
use Rattle.gn_perform.specs.declared.work.Performed.{Performed}
use Rattle.gn_perform.specs.declared.work.Performed.TheVariants.{Answered, Needs}
use Rattle.gn_answers.specs.declared.reading.PerformStop.{PerformStop}
use Rattle.gn_answers.specs.declared.reading.PerformStop.TheVariants.{Failed, Memory}

-- An evaluation reads nothing

done_work : (k : Key) (s : SourceState) (d : Performed) → MayWait k → IsWorkOf k s s (Ok d)
done_work (Read path) s d may = absurd may
done_work (Import layer path) s d may = record { tree = refl; reads = refl; faults = refl; fails = tt }
done_work (Unit_of unit) s d may = record { tree = refl; reads = refl; faults = refl; fails = tt }
done_work (Resolve label) s d may = absurd may

pub lost_work : (k : Key) (s : SourceState) → MayWait k → IsWorkOf k s s (Err Memory)
lost_work (Read path) s may = absurd may
lost_work (Import layer path) s may = record { tree = refl; reads = refl; faults = refl; fails = tt }
lost_work (Unit_of unit) s may = record { tree = refl; reads = refl; faults = refl; fails = tt }
lost_work (Resolve label) s may = absurd may

pub evaluated_work : {E : Type 0} (k : Key) (s : SourceState) (done : Result Performed E) (r : Result Performed PerformStop) → MayWait k → IsEvaluated done r → IsWorkOf k s s r
evaluated_work k s (Ok d) r may is = subst (IsWorkOf k s s) (sym is) (done_work k s d may)
evaluated_work k s (Err e) r may is = subst (IsWorkOf k s s) (sym is) (lost_work k s may)

pub evaluated_done : {E : Type 0} (P : Performed → Type 0) (done : Result Performed E) (r : Result Performed PerformStop) → IfOk done P → IsEvaluated done r → IfOk r P
evaluated_done P (Ok d) r h is = subst (λ (o : Result Performed PerformStop). IfOk o P) (sym is) h
evaluated_done P (Err e) r h is = subst (λ (o : Result Performed PerformStop). IfOk o P) (sym is) tt

-- no tree has an answer of it
of_no_read : (tree : Tree) (k : Key) (d : Performed) → MayWait k → IsOfTree tree k d
of_no_read tree (Read path) d may = absurd may
of_no_read tree (Import layer path) d may = tt
of_no_read tree (Unit_of unit) d may = tt
of_no_read tree (Resolve label) d may = absurd may

pub evaluated_tree : (k : Key) (before : Option Tree) (r : Result Performed PerformStop) → MayWait k → IfOk r (λ d. (tree : Tree) → before ≡ Some tree → IsOfTree tree k d)
evaluated_tree k before (Ok d) may = λ tree told. of_no_read tree k d may
evaluated_tree k before (Err e) may = tt

-- a read needs nothing, so nothing is kept of it
pub read_keeps : (base : BaseState) (part : Answers) (key : Named) (path : List ℕ) (r : Result Performed PerformStop) → IfOk r (λ d. (start : BaseState) (p : Answers) → IsPerformed start p (Read path) d) → IfOk r (KeepsFor base part key)
read_keeps base part key path (Ok (Answered filed)) h = tt
read_keeps base part key path (Ok (Needs on place kept)) h = let none = h base part in absurd none.0
read_keeps base part key path (Err e) h = tt

-- a read looks at no part, and has any base
pub read_over : (base : BaseState) (part : Answers) (k : Key) (r : Result Performed PerformStop) → IfOk r (λ d. (start : BaseState) (p : Answers) → IsPerformed start p k d) → IfOk r (IsPerformedOver base part k)
read_over base part k (Ok d) h = λ start same. h start part
read_over base part k (Err e) h = tt

-- what a source has at a path, as the work on the claim of a read
module _ (before after : SourceState) (path : List ℕ) where
  pub content_work : (content : FileContent) (done : Performed) → IsReadBy path before after (Ok content) → IsWorkOf (Read path) before after (Ok done)
  content_work content done read = record { tree = read.tree; reads = read.reads; faults = read.faults; fails = tt }

  pub stop_work : (stop : PerformStop) → IsReadBy path before after (Err stop) → IsWorkOf (Read path) before after (Err stop)
  stop_work Failed read = record { tree = read.tree; reads = read.reads; faults = read.faults; fails = (path, refl) }
  stop_work Memory read = record { tree = read.tree; reads = read.reads; faults = read.faults; fails = tt }
