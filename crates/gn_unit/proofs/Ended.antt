-- The end of an execution of a whole file.
use Rattle.std.proofs.Common.{◌≡◌, ◌<◌, ℕ, List, map, Result, Ok, Err, IfErr, Option, refl, sym, ap, subst, ◌∙◌, arith}
use Rattle.std.specs.declared.vec.Vec.{Vec}
use Rattle.std.specs.declared.alloc.Global.{Global}
use Rattle.gn_paths.specs.declared.place.Place.{Place}
use Rattle.gn_faults.specs.declared.fault.Fault.{Fault}
use Rattle.gn_tree.specs.Tree.{BlockTree}
use Rattle.gn_tree.specs.Depth.{IsShallow}
use Rattle.gn_items.specs.Effects.{Effects, no_effects}
use Rattle.gn_items.specs.declared.key.When.{When}
use Rattle.gn_items.specs.Questions.{question_of}
use Rattle.gn_items.specs.declared.question.Question.{Question as Asked}
use Rattle.gn_runs.specs.Runs.{Question, Answers, End, wrong, spoiled, needs, Run}
use Rattle.gn_environment.specs.Environment.{Environment}
use Rattle.gn_meaning.specs.Steps.{Left, Steps, ends, then_do}
use Rattle.gn_meaning.specs.Meaning.{file_runs, import_file_runs, configuration_file_runs, configuration_ends}
use Rattle.gn_eval.specs.Library.{Need, LibraryState, Includes, GoesOn}
use Rattle.gn_eval.specs.Ends.{Covers, IsFailure, asked_until}
use Rattle.gn_eval.specs.Telling.{told_included, goes_on_further, then_failed, covers_error}
use Rattle.gn_eval.specs.declared.ending.EvalEnd.{EvalEnd}
use Rattle.gn_eval.specs.declared.ending.EvalEnd.TheVariants as ending
use Rattle.gn_executions.specs.Base.{BaseState}
use Rattle.gn_executions.specs.Units.{tree_runs, build_file_of, import_begins, load_begins, import_runs, import_execution}
use Rattle.gn_executions.specs.Found.{found_load_runs, found_load_execution}
use Rattle.gn_executions.specs.Setups.{secondary_tree_runs, setup_begins, setup_runs, setup_execution}
use Rattle.gn_outermost.specs.declared.paused.Paused.{Paused as PausedFile}
use Rattle.gn_outermost.specs.Rests.{behind, Pauses, Fails, HasRun}
use Rattle.gn_definitions.specs.Imported.{ImportState}
use Rattle.gn_unit.specs.Begun.{LeavesTree, Reads}
use Rattle.gn_unit.specs.Ends.{IsSetupOf, Executes, ended_with, failed_with, load_ends, import_ends, rest_then, IsEnd, WhereTree}
use Rattle.gn_unit.specs.declared.unit.EvalStop.{EvalStop}
use Rattle.gn_unit.specs.declared.unit.EvalStop.TheVariants as stop
use Rattle.gn_unit.specs.declared.unit.Unit.{Unit as Evaluated}
use Rattle.gn_unit.specs.declared.unit.Unit.TheVariants as unit

module _ {A : Type 0} (Is : Evaluated → End (Left A) → Type 0) (next : Steps A) (wrongs : (fault : Fault) (asked : Vec Asked Global) (end : End (Left A)) → end ≡ wrong fault → Is (unit.Wrong fault asked) end)
    (spoils : (path : List ℕ) (place : Place) (asked : Vec Asked Global) (end : End (Left A)) → end ≡ spoiled path place → Is (unit.Spoiled path place asked) end) (before after : LibraryState) (run : Answers → Run (Left A)) where
  -- it is how the execution ends over the answers told, with what it asked
  pub ended_executes : (e : EvalEnd) (asked : Vec Asked Global) (out : Effects) → ((a : Answers) → Covers {T = A} after.told (Err e) a → IsFailure after.need e out (run a)) → GoesOn before after → (e ≡ ending.Stopped → before.stops < after.stops)
      → map question_of asked.items ≡ out.asked → Executes Is next before after (ended_with e asked) run
  ended_executes (ending.Wrong fault) asked out h goes rose same = record {
    unit = λ a i. wrongs fault asked (run a).end (ap (λ (r : Run (Left A)). r.end) (h a i));
    asked = λ a i. ap (λ (r : Run (Left A)). r.asked) (h a i) ∙ sym same;
    need = tt;
    kept = tt;
    goes = goes;
    rose = tt;
  }
  ended_executes (ending.Spoiled path place) asked out h goes rose same = record {
    unit = λ a i. spoils path place asked (run a).end (ap (λ (r : Run (Left A)). r.end) (h a i));
    asked = λ a i. ap (λ (r : Run (Left A)). r.asked) (h a i) ∙ sym same;
    need = tt;
    kept = tt;
    goes = goes;
    rose = tt;
  }
  ended_executes ending.Stopped asked out h goes rose same = record {
    unit = tt;
    asked = tt;
    need = λ a i. h a i ∙ ap (λ (q : List Question). record { end = needs after.need.question after.need.place; asked = asked_until after.need.question q }) (sym same);
    kept = tt;
    goes = goes;
    rose = rose refl;
  }
  ended_executes ending.Memory asked out h goes rose same = record { unit = tt; asked = tt; need = tt; kept = tt; goes = goes; rose = tt }

  -- its tree is kept where the library has stopped
  kept_executes : (e : EvalEnd) (asked : Vec Asked Global) (tree : BlockTree) → Executes Is next before after (ended_with e asked) run → Executes Is next before after (failed_with e asked tree) run
  kept_executes (ending.Wrong fault) asked tree h = h
  kept_executes (ending.Spoiled path place) asked tree h = h
  kept_executes ending.Stopped asked tree h = record { unit = tt; asked = tt; need = h.need; kept = tt; goes = h.goes; rose = h.rose }
  kept_executes ending.Memory asked tree h = h

  -- the same where the outermost block has no end
  pub rest_fails : (e : EvalEnd) (asked : Vec Asked Global) (out : Effects) (rest : Answers → Run (Left (Unit {0}))) → ((a : Answers) → run a ≡ then_do (rest a) (λ _ env1 out1. next env1 out1)) → Fails before after e out rest → GoesOn before after
      → map question_of asked.items ≡ out.asked → (tree : BlockTree) → Executes Is next before after (failed_with e asked tree) run
  rest_fails e asked out rest same fails goes all tree =
      kept_executes e asked tree
      (ended_executes e asked out
      (λ a i. subst (IsFailure after.need e out) (sym (same a)) (then_failed after.need e out (rest a) (λ _ env1 out1. next env1 out1) (fails.runs a (covers_error A (Unit {0}) after.told e a i))))
      goes fails.rose all)

module _ {A : Type 0} (Is : Evaluated → End (Left A) → Type 0) (next : Steps A) (before after : LibraryState) where
  -- where the outermost block has run, the execution ends as its end does
  pub rest_ends : (rest : Answers → Run (Left (Unit {0}))) (env : Environment) (out : Effects) (result : Result Evaluated EvalStop) → HasRun after env out rest → GoesOn before after → IsEnd Is result (next env out)
      → Executes Is next before after result (λ a. then_do (rest a) (λ _ env1 out1. next env1 out1))
  rest_ends rest env out (Ok u) has goes is = record {
    unit = λ a i. subst (λ (r : Run (Left (Unit {0}))). Is u (then_do r (λ _ env1 out1. next env1 out1)).end) (sym (has a i)) is.0;
    asked = λ a i. ap (λ (r : Run (Left (Unit {0}))). (then_do r (λ _ env1 out1. next env1 out1)).asked) (has a i) ∙ is.1;
    need = tt;
    kept = tt;
    goes = goes;
    rose = tt;
  }
  rest_ends rest env out (Err (stop.Stopped asked)) has goes is = absurd is
  rest_ends rest env out (Err (stop.Paused p)) has goes is = absurd is
  rest_ends rest env out (Err (stop.Again tree asked)) has goes is = absurd is
  rest_ends rest env out (Err stop.Memory) has goes is = record { unit = tt; asked = tt; need = tt; kept = tt; goes = goes; rose = tt }

  -- where it stops in front of a statement, what is left of it is kept
  pub rest_pauses : (rest : Answers → Run (Left (Unit {0}))) (p : PausedFile) → IsShallow p.tree → Pauses before after (behind p.next p.tree) p.env p.out rest → GoesOn before after
      → Executes Is next before after (Err (stop.Paused p)) (λ a. then_do (rest a) (λ _ env1 out1. next env1 out1))
  rest_pauses rest p shallow pauses goes = record {
    unit = tt;
    asked = tt;
    need = λ a i. ap (λ (r : Run (Left (Unit {0}))). then_do r (λ _ env1 out1. next env1 out1)) (pauses.needs a i);
    kept = record { shallow = shallow; rest = λ a i. ap (λ (r : Run (Left (Unit {0}))). then_do r (λ _ env1 out1. next env1 out1)) (pauses.rest a i) };
    goes = goes;
    rose = pauses.rose;
  }

  -- an execution that goes on from where it has begun
  pub executes_from : (middle : LibraryState) (result : Result Evaluated EvalStop) (run rest : Answers → Run (Left A)) → GoesOn before middle → Executes Is next middle after result rest
      → ((a : Answers) → Includes after.told a → run a ≡ rest a) → Executes Is next before after result run
  executes_from middle (Ok u) run rest goes on same = record {
    unit = λ a i. subst (λ (r : Run (Left A)). Is u r.end) (sym (same a i)) (on.unit a i);
    asked = λ a i. ap (λ (r : Run (Left A)). r.asked) (same a i) ∙ on.asked a i;
    need = tt;
    kept = tt;
    goes = goes_on_further before middle after goes on.goes;
    rose = tt;
  }
  executes_from middle (Err (stop.Stopped asked)) run rest goes on same = record {
    unit = tt;
    asked = tt;
    need = λ a i. same a (told_included after.told a i) ∙ on.need a i;
    kept = tt;
    goes = goes_on_further before middle after goes on.goes;
    rose = omega (arith, goes.later, on.rose);
  }
  executes_from middle (Err (stop.Paused p)) run rest goes on same = record {
    unit = tt;
    asked = tt;
    need = λ a i. same a (told_included after.told a i) ∙ on.need a i;
    kept = record { shallow = on.kept.shallow; rest = λ a i. same a i ∙ on.kept.rest a i };
    goes = goes_on_further before middle after goes on.goes;
    rose = omega (arith, goes.later, on.rose);
  }
  executes_from middle (Err (stop.Again tree asked)) run rest goes on same = record {
    unit = tt;
    asked = tt;
    need = λ a i. same a (told_included after.told a i) ∙ on.need a i;
    kept = tt;
    goes = goes_on_further before middle after goes on.goes;
    rose = omega (arith, goes.later, on.rose);
  }
  executes_from middle (Err stop.Memory) run rest goes on same = record { unit = tt; asked = tt; need = tt; kept = tt; goes = goes_on_further before middle after goes on.goes; rose = tt }

-- the tree that is kept
pub ended_tree : (e : EvalEnd) (asked : Vec Asked Global) (P : BlockTree → Type 0) → IfErr (ended_with e asked) (λ stop. WhereTree stop P)
ended_tree (ending.Wrong fault) asked P = tt
ended_tree (ending.Spoiled path place) asked P = tt
ended_tree ending.Stopped asked P = tt
ended_tree ending.Memory asked P = tt

pub failed_tree : (e : EvalEnd) (asked : Vec Asked Global) (tree : BlockTree) (P : BlockTree → Type 0) → P tree → IfErr (failed_with e asked tree) (λ stop. WhereTree stop P)
failed_tree (ending.Wrong fault) asked tree P h = tt
failed_tree (ending.Spoiled path place) asked tree P h = tt
failed_tree ending.Stopped asked tree P h = h
failed_tree ending.Memory asked tree P h = tt

-- an end of a file keeps none
pub end_tree : {A : Type 0} (Is : Evaluated → End (Left A) → Type 0) (result : Result Evaluated EvalStop) (run : Run (Left A)) (P : BlockTree → Type 0) → IsEnd Is result run → IfErr result (λ stop. WhereTree stop P)
end_tree Is (Ok u) run P is = tt
end_tree Is (Err (stop.Stopped asked)) run P is = tt
end_tree Is (Err (stop.Paused p)) run P is = absurd is
end_tree Is (Err (stop.Again tree asked)) run P is = absurd is
end_tree Is (Err stop.Memory) run P is = tt

-- it is the one that the file was read as
pub tree_read : (result : Result Evaluated EvalStop) (tree : BlockTree) (told : Option Answers) (run : Answers → Run (Left BlockTree)) → IsShallow tree → ((a : Answers) → Includes told a → LeavesTree tree (run a))
    → IfErr result (λ stop. WhereTree stop (λ t. t ≡ tree)) → IfErr result (λ stop. WhereTree stop (Reads told run))
tree_read (Ok u) tree told run shallow reads h = tt
tree_read (Err (stop.Stopped asked)) tree told run shallow reads h = tt
tree_read (Err (stop.Paused p)) tree told run shallow reads h = subst (Reads told run) (sym h) (shallow, reads)
tree_read (Err (stop.Again t asked)) tree told run shallow reads h = subst (Reads told run) (sym h) (shallow, reads)
tree_read (Err stop.Memory) tree told run shallow reads h = tt

-- the end of the build configuration that has left nothing
pub setup_fails : (need : Need) (e : EvalEnd) (asked : Vec Asked Global) (out : Effects) (run : Run (Left ImportState)) → (e ≡ ending.Stopped → ⊥) → IsFailure need e out run → map question_of asked.items ≡ out.asked
    → IsEnd IsSetupOf (ended_with e asked) run
setup_fails need (ending.Wrong fault) asked out run other h same = (ap (λ (r : Run (Left ImportState)). r.end) h, ap (λ (r : Run (Left ImportState)). r.asked) h ∙ sym same)
setup_fails need (ending.Spoiled path place) asked out run other h same = (ap (λ (r : Run (Left ImportState)). r.end) h, ap (λ (r : Run (Left ImportState)). r.asked) h ∙ sym same)
setup_fails need ending.Stopped asked out run other h same = absurd (other refl)
setup_fails need ending.Memory asked out run other h same = tt

-- an execution whose tree was found is the rest behind that
module _ (base : BaseState) (a : Answers) (tree : BlockTree) (env : Environment) (out : Effects) (p : PausedFile) (is : p ≡ record { tree = tree; next = 0; env = env; out = out }) where
  pub load_begun : (directory toolchain : List ℕ) → secondary_tree_runs base.secondary a (load_begins base directory toolchain (build_file_of directory)) no_effects ≡ ends tree env out
      → found_load_execution base directory toolchain a ≡ rest_then load_ends p a
  unfolding found_load_runs file_runs
  load_begun directory toolchain h = rw is (ap (λ (r : Run (Left BlockTree)). then_do r (λ t env1 out1. file_runs a t env1 out1)) h)

  pub import_begun : (when : When) (toolchain path : List ℕ) → tree_runs a (import_begins base when toolchain path) no_effects ≡ ends tree env out
      → import_execution base when toolchain path a ≡ rest_then import_ends p a
  unfolding import_runs import_file_runs
  import_begun when toolchain path h = rw is (ap (λ (r : Run (Left BlockTree)). then_do r (λ t env1 out1. import_file_runs a t env1 out1)) h)

  pub setup_begun : (toolchain : List ℕ) → secondary_tree_runs base.secondary a (setup_begins base toolchain) no_effects ≡ ends tree env out
      → setup_execution base toolchain a ≡ rest_then configuration_ends p a
  unfolding setup_runs configuration_file_runs
  setup_begun toolchain h = rw is (ap (λ (r : Run (Left BlockTree)). then_do r (λ t env1 out1. configuration_file_runs a t env1 out1)) h)

-- an execution whose tree wasn't found fails as its reading does
module _ (base : BaseState) (a : Answers) (need : Need) (e : EvalEnd) (out : Effects) where
  pub load_failed : (directory toolchain : List ℕ) → IsFailure need e out (secondary_tree_runs base.secondary a (load_begins base directory toolchain (build_file_of directory)) no_effects)
      → IsFailure need e out (found_load_execution base directory toolchain a)
  unfolding found_load_runs
  load_failed directory toolchain h = then_failed need e out (secondary_tree_runs base.secondary a (load_begins base directory toolchain (build_file_of directory)) no_effects) (λ t env1 out1. file_runs a t env1 out1) h

  pub import_failed : (when : When) (toolchain path : List ℕ) → IsFailure need e out (tree_runs a (import_begins base when toolchain path) no_effects)
      → IsFailure need e out (import_execution base when toolchain path a)
  unfolding import_runs
  import_failed when toolchain path h = then_failed need e out (tree_runs a (import_begins base when toolchain path) no_effects) (λ t env1 out1. import_file_runs a t env1 out1) h

  pub setup_failed : (toolchain : List ℕ) → IsFailure need e out (secondary_tree_runs base.secondary a (setup_begins base toolchain) no_effects)
      → IsFailure need e out (setup_execution base toolchain a)
  unfolding setup_runs
  setup_failed toolchain h = then_failed need e out (secondary_tree_runs base.secondary a (setup_begins base toolchain) no_effects) (λ t env1 out1. configuration_file_runs a t env1 out1) h
