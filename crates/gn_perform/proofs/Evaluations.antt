-- What an execution over a part comes to, as the work on its claim.
use Rattle.std.proofs.Common.{◌≡◌, inl, inr, ℕ, List, [], ◌∷◌, ◌++◌, map, Option, Some, None, Bool, true, false, if◌then◌else◌, refl, sym, ◌∙◌, ap, subst}
use Rattle.std.specs.declared.vec.Vec.{Vec}
use Rattle.std.specs.declared.alloc.Global.{Global}
use Rattle.gn_paths.specs.declared.place.Place.{Place}
use Rattle.gn_faults.specs.declared.fault.Fault.{Fault}
use Rattle.gn_definitions.specs.Imported.{ImportState}
use Rattle.gn_items.specs.Effects.{Effects}
use Rattle.gn_items.specs.Questions.{question_of}
use Rattle.gn_items.specs.declared.question.Question.{Question as Asked}
use Rattle.gn_items.specs.declared.key.Key.{Key as Named}
use Rattle.gn_items.specs.declared.key.Key.TheVariants.{Import as ImportKey, Setup as SetupKey, Load as LoadKey}
use Rattle.gn_items.specs.declared.key.When.{When}
use Rattle.gn_items.specs.declared.key.When.TheVariants.{Early, Usual}
use Rattle.gn_runs.specs.Runs.{Question, content_of, import_of, Answers, End, ended, wrong, spoiled, needs, Run}
use Rattle.gn_runs.specs.Laws.{IsSettled, IsAsked}
use Rattle.gn_runs.proofs.TreeLaws.{below_itself}
use Rattle.gn_tree.specs.Tree.{BlockTree}
use Rattle.gn_closure.specs.Reach.{Setup, Load}
use Rattle.gn_meaning.specs.Steps.{Left as EndedWith}
use Rattle.gn_eval.specs.Library.{Need, LibraryState, Includes, GoesOn}
use Rattle.gn_eval.specs.Ends.{asked_until}
use Rattle.gn_executions.specs.Base.{BaseState}
use Rattle.gn_executions.specs.Setups.{setup_execution}
use Rattle.gn_executions.specs.Units.{import_execution}
use Rattle.gn_executions.specs.Found.{found_load_execution}
use Rattle.gn_outermost.specs.declared.paused.Paused.{Paused as PausedFile}
use Rattle.gn_unit.specs.Ends.{EndsWith, IsLoadOf, IsSetupOf, IsImportOf, IsUnitOf, IsNeedOf, HasAskedOf, WhereStopped, WherePaused, WhereTree, IsRestOf, IsKept, IsRead, KeepsOn, asked_of}
use Rattle.gn_unit.specs.declared.unit.EvalStop.{EvalStop}
use Rattle.gn_unit.specs.declared.unit.EvalStop.TheVariants.{Stopped, Paused, Again, Memory}
use Rattle.gn_unit.specs.declared.unit.Unit.{Unit as Evaluated}
use Rattle.gn_unit.specs.declared.unit.Unit.TheVariants as unit
use Rattle.gn_core.specs.Keys.{Layer, early, usual, Key, Import, Unit_of, Answer, found, import_is, no_value, unit_is, record_is, Filed, Leaving, key_of, shown}
use Rattle.gn_core.specs.Machine.{IsRightImport, spoiled_as}
use Rattle.gn_book.specs.Keys.{key_of as named_by, layer_at}
use Rattle.gn_projects.specs.Files.{when_of, toolchain_of, left_end, left_run, import_of_layer}
use Rattle.gn_projects.specs.Bases.{base_of_layer}
use Rattle.gn_projects.specs.Worlds.{unit_end, unit_run, configuration_leaves, file_leaves}
use Rattle.gn_builds.specs.Working.{over, AsksContent}
use Rattle.gn_answers.specs.Answers.{run_of, unit_left, meaning_of}
use Rattle.gn_perform.specs.Performing.{IsPerformed, KeepsFor}
use Rattle.gn_perform.specs.Kept.{asked_so_far, asked_for, KeepsOver, KeepsOf}
use Rattle.gn_perform.specs.declared.kept.Kept.{Kept}
use Rattle.gn_perform.specs.declared.kept.Kept.TheVariants.{Asked as AskedBefore, Rest, Tree}
use Rattle.gn_told.specs.Told.{need_view, has_no_value}
use Rattle.gn_perform.specs.Evaluating.{IsRan, IsBuildFile, IsConfiguration, IsImported, IsLoadExecuted, IsSetupExecuted, IsImportFiled, IsLacking}
use Rattle.gn_answers.specs.declared.answer.Executed.{Executed}
use Rattle.gn_answers.specs.declared.answer.Executed.TheVariants.{Left, Wrong, Spoiled}
use Rattle.gn_answers.specs.declared.answer.Filed.{Filed as FiledAnswer}
use Rattle.gn_answers.specs.declared.answer.Filed.TheVariants.{Import as import_filed, Unit as unit_filed, NoValue}
use Rattle.gn_told.specs.declared.told.Needed.{Needed}
use Rattle.gn_perform.specs.declared.evaluating.Ran.{Ran}
use Rattle.gn_perform.specs.declared.evaluating.Ran.TheVariants.{Ended, Lacks}
use Rattle.gn_perform.specs.declared.work.Performed.{Performed}
use Rattle.gn_perform.specs.declared.work.Performed.TheVariants.{Answered, Needs}

-- what a library tells after an evaluation is what it told before
told_still : (s t : LibraryState) (a : Answers) → GoesOn s t → s.told ≡ Some a → t.told ≡ Some a
told_still s t a goes told = goes.told ∙ told

included : (told : Option Answers) (a : Answers) → told ≡ Some a → Includes told a
included told a h = subst (λ (x : Option Answers). Includes x a) (sym h) (below_itself a)

module _ (base : BaseState) (key : Named) (s t : LibraryState) (a : Answers) (goes : GoesOn s t) (told : s.told ≡ Some a) where
  pub ran_ended : (u : Evaluated) → ((x : Answers) → Includes t.told x → IsUnitOf base key u x) → ((x : Answers) → Includes t.told x → HasAskedOf base key u x) → IsRan base key a (Ended u)
  ran_ended u ends asked = let has = included t.told a (told_still s t a goes told) in (ends a has, asked a has)

  pub ran_stopped : (need : Need) (asked : List Question) → ((x : Answers) → t.told ≡ Some x → IsNeedOf base key need asked x) → IsNeedOf base key need asked a
  ran_stopped need asked h = h a (told_still s t a goes told)

  pub ran_paused : (p : PausedFile) → IsKept base key t.told p → IsKept base key (Some a) p
  ran_paused p h = subst (λ (o : Option Answers). IsKept base key o p) (told_still s t a goes told) h

  pub ran_read : (tree : BlockTree) → IsRead base key t.told tree → IsRead base key (Some a) tree
  ran_read tree h = subst (λ (o : Option Answers). IsRead base key o tree) (told_still s t a goes told) h

-- what is needed where it has stopped, and what is kept
pub where_stopped : (stop : EvalStop) (P Q : List Question → Type 0) → ((asked : List Question) → P asked → Q asked) → WhereStopped stop P → WhereStopped stop Q
where_stopped (Stopped asked) P Q so h = so (map question_of asked.items) h
where_stopped (Paused p) P Q so h = so p.out.asked h
where_stopped (Again tree asked) P Q so h = so (map question_of asked.items) h
where_stopped Memory P Q so h = tt

pub where_paused : (stop : EvalStop) (P Q : PausedFile → Type 0) → ((p : PausedFile) → P p → Q p) → WherePaused stop P → WherePaused stop Q
where_paused (Stopped asked) P Q so h = tt
where_paused (Paused p) P Q so h = so p h
where_paused (Again tree asked) P Q so h = tt
where_paused Memory P Q so h = tt

pub where_tree : (stop : EvalStop) (P Q : BlockTree → Type 0) → ((tree : BlockTree) → P tree → Q tree) → WhereTree stop P → WhereTree stop Q
where_tree (Stopped asked) P Q so h = tt
where_tree (Paused p) P Q so h = so p.tree h
where_tree (Again tree asked) P Q so h = so tree h
where_tree Memory P Q so h = tt

module _ (need : Needed) (stop : EvalStop) (base : BaseState) (key : Named) (a : Answers)
    (needed : WhereStopped stop (λ asked. IsNeedOf base key (need_view need) asked a)) (kept : WherePaused stop (IsKept base key (Some a)))
    (read : WhereTree stop (IsRead base key (Some a))) where
  pub stop_lacks : (asked : Vec Asked Global) → stop ≡ Stopped asked → IsRan base key a (Lacks need (AskedBefore asked))
  stop_lacks asked is = (subst (λ (s : EvalStop). WhereStopped s (λ asked. IsNeedOf base key (need_view need) asked a)) is needed, tt)

  pub pause_lacks : (p : PausedFile) → stop ≡ Paused p → IsRan base key a (Lacks need (Rest p))
  pause_lacks p is =
      (subst (λ (s : EvalStop). WhereStopped s (λ asked. IsNeedOf base key (need_view need) asked a)) is needed, (subst (λ (s : EvalStop). WherePaused s (IsKept base key (Some a))) is kept, subst (λ (s : EvalStop). WhereTree s (IsRead base key (Some a))) is read))

  pub again_lacks : (tree : BlockTree) (asked : Vec Asked Global) → stop ≡ Again tree asked → IsRan base key a (Lacks need (Tree tree asked))
  again_lacks tree asked is =
      (subst (λ (s : EvalStop). WhereStopped s (λ asked. IsNeedOf base key (need_view need) asked a)) is needed, subst (λ (s : EvalStop). WhereTree s (IsRead base key (Some a))) is read)

-- what goes on over a library, of which this was kept over what it tells
module _ (base : BaseState) (key : Named) (s t : LibraryState) (a : Answers) (p : PausedFile) (goes : GoesOn s t) (told : s.told ≡ Some a) (kept : IsKept base key (Some a) p) where
  told_then : t.told ≡ Some a
  told_then = told_still s t a goes told

  pub went_ended : (u : Evaluated) → ((b : BaseState) (x : Answers) → Includes t.told x → IsRestOf b key p x → IsUnitOf b key u x) → ((b : BaseState) (x : Answers) → Includes t.told x → IsRestOf b key p x → HasAskedOf b key u x)
      → IsRan base key a (Ended u)
  went_ended u ends asked = let has = included t.told a told_then in let rest = kept.rest a (below_itself a) in (ends base a has rest, asked base a has rest)

  pub went_stopped : (need : Need) (asked : List Question) → ((b : BaseState) (x : Answers) → t.told ≡ Some x → IsRestOf b key p x → IsNeedOf b key need asked x) → IsNeedOf base key need asked a
  went_stopped need asked h = h base a told_then (kept.rest a (below_itself a))

  pub went_paused : (later : PausedFile) → KeepsOn key t.told p later → IsKept base key (Some a) later
  went_paused later on = record { shallow = on.shallow; rest = λ x h. on.rest base x (subst (λ (o : Option Answers). Includes o x) (sym told_then) h) (kept.rest x h) }

-- what has ended is of the kind of its key
pub is_build_file : (u : Evaluated) (end : End (EndedWith (Unit {0}))) → IsLoadOf u end → IsBuildFile u
is_build_file (unit.Setup value effects) end h = h
is_build_file (unit.Load effects) end h = tt
is_build_file (unit.Import value effects) end h = h
is_build_file (unit.Wrong fault asked) end h = tt
is_build_file (unit.Spoiled path place asked) end h = tt

pub is_configuration : (u : Evaluated) (end : End (EndedWith ImportState)) → IsSetupOf u end → IsConfiguration u
is_configuration (unit.Setup value effects) end h = tt
is_configuration (unit.Load effects) end h = h
is_configuration (unit.Import value effects) end h = h
is_configuration (unit.Wrong fault asked) end h = tt
is_configuration (unit.Spoiled path place asked) end h = tt

pub is_imported : (u : Evaluated) (end : End (EndedWith ImportState)) → IsImportOf u end → IsImported u
is_imported (unit.Setup value effects) end h = h
is_imported (unit.Load effects) end h = h
is_imported (unit.Import value effects) end h = tt
is_imported (unit.Wrong fault asked) end h = tt
is_imported (unit.Spoiled path place asked) end h = tt

-- what has come of the execution of a build configuration, of a build file and of one that is imported
module _ (base : BaseState) (key : Named) (a : Answers) (ran : Ran) (does : IsRan base key a ran) where
  module _ (toolchain : List ℕ) (named : key ≡ SetupKey toolchain) where
    pub setup_ended : (u : Evaluated) → ran ≡ Ended u → IsSetupOf u (setup_execution base toolchain a).end × ((setup_execution base toolchain a).asked ≡ asked_of u)
    setup_ended u is = subst (λ (k : Named). IsUnitOf base k u a × HasAskedOf base k u a) named (subst (IsRan base key a) is does)

    pub setup_needs : (need : Needed) (kept : Kept) → ran ≡ Lacks need kept
        → setup_execution base toolchain a ≡ record { end = needs (need_view need).question (need_view need).place; asked = asked_until (need_view need).question (asked_so_far kept) }
    setup_needs need kept is = let has = subst (IsRan base key a) is does in subst (λ (k : Named). IsNeedOf base k (need_view need) (asked_so_far kept) a) named has.0

  module _ (dir toolchain : List ℕ) (named : key ≡ LoadKey dir toolchain) where
    pub load_ended : (u : Evaluated) → ran ≡ Ended u → IsLoadOf u (found_load_execution base dir toolchain a).end × ((found_load_execution base dir toolchain a).asked ≡ asked_of u)
    load_ended u is = subst (λ (k : Named). IsUnitOf base k u a × HasAskedOf base k u a) named (subst (IsRan base key a) is does)

    pub load_needs : (need : Needed) (kept : Kept) → ran ≡ Lacks need kept
        → found_load_execution base dir toolchain a ≡ record { end = needs (need_view need).question (need_view need).place; asked = asked_until (need_view need).question (asked_so_far kept) }
    load_needs need kept is = let has = subst (IsRan base key a) is does in subst (λ (k : Named). IsNeedOf base k (need_view need) (asked_so_far kept) a) named has.0

  module _ (w : When) (toolchain path : List ℕ) (named : key ≡ ImportKey w toolchain path) where
    pub import_ended : (u : Evaluated) → ran ≡ Ended u → IsImportOf u (import_execution base w toolchain path a).end × ((import_execution base w toolchain path a).asked ≡ asked_of u)
    import_ended u is = subst (λ (k : Named). IsUnitOf base k u a × HasAskedOf base k u a) named (subst (IsRan base key a) is does)

    pub import_needs : (need : Needed) (kept : Kept) → ran ≡ Lacks need kept
        → import_execution base w toolchain path a ≡ record { end = needs (need_view need).question (need_view need).place; asked = asked_until (need_view need).question (asked_so_far kept) }
    import_needs need kept is = let has = subst (IsRan base key a) is does in subst (λ (k : Named). IsNeedOf base k (need_view need) (asked_so_far kept) a) named has.0

  pub ran_keeps : (named : Named) (need : Needed) (kept : Kept) → key ≡ named → ran ≡ Lacks need kept → KeepsOver base named (Some a) kept
  ran_keeps named need kept same is = let has = subst (IsRan base key a) is does in subst (λ (k : Named). KeepsOver base k (Some a) kept) same has.1

-- how executions end, as what is filed of them
abbrev run_at : {B : Type 0} → End (Leaving B) → List Question → Run (Leaving B)
run_at end asked = record { end = end; asked = asked }

module _ {A B : Type 0} (to : End (EndedWith A) → End (Leaving B)) (run : Run (EndedWith A)) where
  pub ended_as : (end : End (EndedWith A)) (asked : List Question) → run.end ≡ end → run.asked ≡ asked → run_at (to end) asked ≡ run_at (to run.end) run.asked
  ended_as end asked e h = λ i. run_at (to (sym e i)) (sym h i)

  pub left_as : (value : A) (effects : Effects) → (e : EndsWith value effects run.end) → run.asked ≡ effects.asked
      → run_at (to (ended (record { value = value; environment = e.0; effects = effects }))) effects.asked ≡ run_at (to run.end) run.asked
  left_as value effects e h = ended_as (ended (record { value = value; environment = e.0; effects = effects })) effects.asked e.1 h

-- an execution that has ended is settled
load_settled : (u : Evaluated) (end : End (EndedWith (Unit {0}))) → IsLoadOf u end → IsSettled (unit_end file_leaves end)
load_settled (unit.Setup value effects) end h = absurd h
load_settled (unit.Load effects) end h = subst (λ (e : End (EndedWith (Unit {0}))). IsSettled (unit_end file_leaves e)) (sym h.1) tt
load_settled (unit.Import value effects) end h = absurd h
load_settled (unit.Wrong fault asked) end h = subst (λ (e : End (EndedWith (Unit {0}))). IsSettled (unit_end file_leaves e)) (sym h) tt
load_settled (unit.Spoiled path place asked) end h = subst (λ (e : End (EndedWith (Unit {0}))). IsSettled (unit_end file_leaves e)) (sym h) tt

setup_settled : (u : Evaluated) (end : End (EndedWith ImportState)) → IsSetupOf u end → IsSettled (unit_end configuration_leaves end)
setup_settled (unit.Setup value effects) end h = subst (λ (e : End (EndedWith ImportState)). IsSettled (unit_end configuration_leaves e)) (sym h.1) tt
setup_settled (unit.Load effects) end h = absurd h
setup_settled (unit.Import value effects) end h = absurd h
setup_settled (unit.Wrong fault asked) end h = subst (λ (e : End (EndedWith ImportState)). IsSettled (unit_end configuration_leaves e)) (sym h) tt
setup_settled (unit.Spoiled path place asked) end h = subst (λ (e : End (EndedWith ImportState)). IsSettled (unit_end configuration_leaves e)) (sym h) tt

-- the work on the claim of a build configuration whose execution has ended, over its base
module _ (start base : BaseState) (part : Filed) (toolchain : List ℕ) (same : base ≡ base_of_layer start part (early toolchain)) where
  pub setup_answered : (u : Evaluated) (executed : Executed (Option ImportState))
      → IsSetupOf u (setup_execution base toolchain (shown part (early toolchain))).end → (setup_execution base toolchain (shown part (early toolchain))).asked ≡ asked_of u
      → IsSetupExecuted u executed → IsPerformed start part (Unit_of (Setup toolchain)) (Answered (unit_filed executed))
  setup_answered u executed ends asked is =
      subst (λ (b : BaseState). IsSettled (unit_end configuration_leaves (setup_execution b toolchain (shown part (early toolchain))).end) × (unit_is (run_of unit_left executed) ≡ unit_is (unit_run configuration_leaves (setup_execution b toolchain (shown part (early toolchain)))))) same
      (setup_settled u (setup_execution base toolchain (shown part (early toolchain))).end ends, ap unit_is (is (setup_execution base toolchain (shown part (early toolchain))) ends asked))

-- that of a build file
module _ (start base : BaseState) (part : Filed) (dir toolchain : List ℕ) (same : base ≡ base_of_layer start part (usual toolchain)) where
  pub load_answered : (u : Evaluated) (executed : Executed (Option ImportState))
      → IsLoadOf u (found_load_execution base dir toolchain (shown part (usual toolchain))).end → (found_load_execution base dir toolchain (shown part (usual toolchain))).asked ≡ asked_of u
      → IsLoadExecuted u executed → IsPerformed start part (Unit_of (Load dir toolchain)) (Answered (unit_filed executed))
  load_answered u executed ends asked is =
      subst (λ (b : BaseState). IsSettled (unit_end file_leaves (found_load_execution b dir toolchain (shown part (usual toolchain))).end) × (unit_is (run_of unit_left executed) ≡ unit_is (unit_run file_leaves (found_load_execution b dir toolchain (shown part (usual toolchain)))))) same
      (load_settled u (found_load_execution base dir toolchain (shown part (usual toolchain))).end ends, ap unit_is (is (found_load_execution base dir toolchain (shown part (usual toolchain))) ends asked))

-- of an import
pub import_answered : (start base : BaseState) (part : Filed) (l : Layer) (path : List ℕ) → base ≡ base_of_layer start part l → (run : Run (Leaving ImportState)) (filed : FiledAnswer)
    → run ≡ import_of_layer base l path (shown part l) → IsImportFiled part l run filed → IsPerformed start part (Import l path) (Answered filed)
import_answered start base part l path same run filed is right =
    subst (λ (r : Run (Leaving ImportState)). IsRightImport (over part) l path r r.end (meaning_of filed)) (is ∙ ap (λ (b : BaseState). import_of_layer b l path (shown part l)) same) (right path)

-- an answer that is spoiled at an import without value has none
pub spoiled_by : (x : Option Answer) (q : List ℕ) (p : Place) (run : Run (Leaving ImportState)) → (if has_no_value x then no_value q p run.asked else import_is run) ≡ spoiled_as x q p run
spoiled_by None q p run = refl
spoiled_by (Some (found content)) q p run = refl
spoiled_by (Some (import_is r)) q p run = refl
spoiled_by (Some (no_value a b asked)) q p run = refl
spoiled_by (Some (unit_is r)) q p run = refl
spoiled_by (Some (record_is bytes)) q p run = refl

-- what is filed of an import that is spoiled at another one
abbrev pub filed_spoiled : Bool → List ℕ → Place → Vec Asked Global → FiledAnswer
filed_spoiled none q p asked = if none then NoValue q p asked else import_filed (Spoiled q p asked)

meant_spoiled : (none : Bool) (q : List ℕ) (p : Place) (asked : Vec Asked Global)
    → meaning_of (filed_spoiled none q p asked) ≡ (if none then no_value q p (map question_of asked.items) else import_is (run_of (λ (value : ImportState) (effects : Effects). value) (Spoiled q p asked)))
meant_spoiled true q p asked = refl
meant_spoiled false q p asked = refl

pub import_spoiled : (part : Filed) (l : Layer) (none : Bool) (q : List ℕ) (p : Place) (asked : Vec Asked Global) (filed : FiledAnswer)
    → none ≡ has_no_value (part (Import l q)) → filed ≡ filed_spoiled none q p asked → IsImportFiled part l (run_of (λ (value : ImportState) (effects : Effects). value) (Spoiled q p asked)) filed
import_spoiled part l none q p asked filed is same = λ path.
    ap meaning_of same ∙ meant_spoiled none q p asked
    ∙ ap (λ (b : Bool). if b then no_value q p (map question_of asked.items) else import_is (run_of (λ (value : ImportState) (effects : Effects). value) (Spoiled q p asked))) is
    ∙ spoiled_by (part (Import l q)) q p (run_of (λ (value : ImportState) (effects : Effects). value) (Spoiled q p asked))

-- and of another one
pub import_kept : (part : Filed) (l : Layer) (executed : Executed ImportState) → ((q : List ℕ) (p : Place) (asked : Vec Asked Global) → executed ≡ Spoiled q p asked → ⊥)
    → IsImportFiled part l (run_of (λ (value : ImportState) (effects : Effects). value) executed) (import_filed executed)
import_kept part l (Left value effects) other = λ path. refl
import_kept part l (Wrong fault asked) other = λ path. refl
import_kept part l (Spoiled q p asked) other = absurd (other q p asked refl)

-- what is asked until an import is needed has what there is at its path
asked_before : (xs : List Question) (q r : Question) → IsAsked ((xs ++ q ∷ []) ++ r ∷ []) q
asked_before [] q r = inl refl
asked_before (x ∷ xs) q r = inr (asked_before xs q r)

content_asked : (l : Layer) (q : Question) (asked all : List Question) (on : Key) → on ≡ key_of l q → all ≡ asked_until q asked → AsksContent on all
content_asked l (content_of path) asked all on is same = subst (λ (k : Key). AsksContent k all) (sym is) tt
content_asked l (import_of path) asked all on is same =
    subst (λ (k : Key). AsksContent k all) (sym is) (subst (λ (qs : List Question). IsAsked qs (content_of path)) (sym same) (asked_before asked (content_of path) (import_of path)))

-- what is needed is asked for last
asked_needed : (l : Layer) (q : Question) (asked : List Question) → asked_for (key_of l q) asked ≡ asked_until q asked
asked_needed l (content_of path) asked = refl
asked_needed l (import_of path) asked = refl

asked_then : (l : Layer) (need : Need) (on : Named) (kept same : Kept) → named_by on ≡ key_of l need.question → same ≡ kept → asked_for (named_by on) (asked_so_far same) ≡ asked_until need.question (asked_so_far kept)
asked_then l need on kept same is equal =
    ap (λ (k : Key). asked_for k (asked_so_far same)) is ∙ asked_needed l need.question (asked_so_far same) ∙ ap (λ (x : Kept). asked_until need.question (asked_so_far x)) equal

-- what is kept of it is its rest
pub lacks_kept : (base : BaseState) (part : Filed) (key : Named) (l : Layer) (need : Need) (kept : Kept) (done : Performed) → KeepsOf base part key kept → IsLacking l need kept done → KeepsFor base part key done
lacks_kept base part key l need kept (Answered filed) keeps lacking = tt
lacks_kept base part key l need kept (Needs on place same) keeps lacking = subst (KeepsOf base part key) (sym lacking.2) keeps

needs_left : {A B : Type 0} (to : End (EndedWith A) → End (Leaving B)) (run : Run (EndedWith A)) (end : End (EndedWith A)) (left : End (Leaving B)) (asked : List Question)
    → run ≡ record { end = end; asked = asked } → to end ≡ left → to run.end ≡ left
needs_left to run end left asked is same = ap (λ (r : Run (EndedWith _)). to r.end) is ∙ same

-- the execution of an import of a layer
pub import_at_layer : (base : BaseState) (w : When) (toolchain path : List ℕ) (a : Answers) → import_execution base (when_of (layer_at w toolchain)) (toolchain_of (layer_at w toolchain)) path a ≡ import_execution base w toolchain path a
import_at_layer base Early toolchain path a = refl
import_at_layer base Usual toolchain path a = refl

-- The work on a claim whose evaluation needs another answer

module _ (start base : BaseState) (part : Filed) (toolchain : List ℕ) (same : base ≡ base_of_layer start part (early toolchain)) where
  pub setup_lacks : (need : Need) (kept : Kept) (done : Performed)
      → setup_execution base toolchain (shown part (early toolchain)) ≡ record { end = needs need.question need.place; asked = asked_until need.question (asked_so_far kept) }
      → IsLacking (early toolchain) need kept done → IsPerformed start part (Unit_of (Setup toolchain)) done
  setup_lacks need kept (Answered filed) is lacking = absurd lacking
  setup_lacks need kept (Needs on place same_kept) is lacking =
      let there = ap (λ (b : BaseState). setup_execution b toolchain (shown part (early toolchain))) (sym same) ∙ is in (
        (
          need.question,
          lacking.0,
          needs_left (unit_end configuration_leaves) (setup_execution (base_of_layer start part (early toolchain)) toolchain (shown part (early toolchain))) (needs need.question need.place) (needs need.question place) (asked_until need.question (asked_so_far kept)) there (ap (needs need.question) (sym lacking.1)),
          ap (λ (r : Run (EndedWith ImportState)). r.asked) there ∙ sym (asked_then (early toolchain) need on kept same_kept lacking.0 lacking.2),
        ),
        content_asked (early toolchain) need.question (asked_so_far kept) (asked_for (named_by on) (asked_so_far same_kept)) (named_by on) lacking.0 (asked_then (early toolchain) need on kept same_kept lacking.0 lacking.2),
      )

module _ (start base : BaseState) (part : Filed) (dir toolchain : List ℕ) (same : base ≡ base_of_layer start part (usual toolchain)) where
  pub load_lacks : (need : Need) (kept : Kept) (done : Performed)
      → found_load_execution base dir toolchain (shown part (usual toolchain)) ≡ record { end = needs need.question need.place; asked = asked_until need.question (asked_so_far kept) }
      → IsLacking (usual toolchain) need kept done → IsPerformed start part (Unit_of (Load dir toolchain)) done
  load_lacks need kept (Answered filed) is lacking = absurd lacking
  load_lacks need kept (Needs on place same_kept) is lacking =
      let there = ap (λ (b : BaseState). found_load_execution b dir toolchain (shown part (usual toolchain))) (sym same) ∙ is in (
        (
          need.question,
          lacking.0,
          needs_left (unit_end file_leaves) (found_load_execution (base_of_layer start part (usual toolchain)) dir toolchain (shown part (usual toolchain))) (needs need.question need.place) (needs need.question place) (asked_until need.question (asked_so_far kept)) there (ap (needs need.question) (sym lacking.1)),
          ap (λ (r : Run (EndedWith (Unit {0}))). r.asked) there ∙ sym (asked_then (usual toolchain) need on kept same_kept lacking.0 lacking.2),
        ),
        content_asked (usual toolchain) need.question (asked_so_far kept) (asked_for (named_by on) (asked_so_far same_kept)) (named_by on) lacking.0 (asked_then (usual toolchain) need on kept same_kept lacking.0 lacking.2),
      )

module _ (start base : BaseState) (part : Filed) (l : Layer) (path : List ℕ) (same : base ≡ base_of_layer start part l) where
  pub import_lacks : (need : Need) (kept : Kept) (done : Performed)
      → import_execution base (when_of l) (toolchain_of l) path (shown part l) ≡ record { end = needs need.question need.place; asked = asked_until need.question (asked_so_far kept) }
      → IsLacking l need kept done → IsPerformed start part (Import l path) done
  import_lacks need kept (Answered filed) is lacking = absurd lacking
  import_lacks need kept (Needs on place same_kept) is lacking =
      let there = ap (λ (b : BaseState). import_execution b (when_of l) (toolchain_of l) path (shown part l)) (sym same) ∙ is in (
        (
          need.question,
          lacking.0,
          needs_left (left_end (λ (value : ImportState). value)) (import_execution (base_of_layer start part l) (when_of l) (toolchain_of l) path (shown part l)) (needs need.question need.place) (needs need.question place) (asked_until need.question (asked_so_far kept)) there (ap (needs need.question) (sym lacking.1)),
          ap (λ (r : Run (EndedWith ImportState)). r.asked) there ∙ sym (asked_then l need on kept same_kept lacking.0 lacking.2),
        ),
        content_asked l need.question (asked_so_far kept) (asked_for (named_by on) (asked_so_far same_kept)) (named_by on) lacking.0 (asked_then l need on kept same_kept lacking.0 lacking.2),
      )

-- the run of an import of a layer is its execution, as what is filed of it
pub import_run_at : (base : BaseState) (w : When) (toolchain path : List ℕ) (a : Answers) (executed : Executed ImportState)
    → run_of (λ (value : ImportState) (effects : Effects). value) executed ≡ left_run (λ (value : ImportState). value) (import_execution base w toolchain path a)
    → run_of (λ (value : ImportState) (effects : Effects). value) executed ≡ import_of_layer base (layer_at w toolchain) path a
import_run_at base w toolchain path a executed is = is ∙ ap (left_run (λ (value : ImportState). value)) (sym (import_at_layer base w toolchain path a))
