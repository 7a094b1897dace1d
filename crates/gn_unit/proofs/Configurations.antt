-- What there is at the path of a file, or at the same path below another source tree, and the tree that it is read as.
use Rattle.std.proofs.Common.{◌≡◌, ℕ, List, Option, Some, None, IfSome, Result, Ok, Err, refl, sym, ◌∙◌, ap, subst, arith}
use Rattle.gn_tree.specs.Tree.{BlockTree}
use Rattle.gn_tree.specs.Depth.{IsShallow}
use Rattle.gn_grammar.specs.declared.fault.SyntaxFault.{SyntaxFault}
use Rattle.gn_faults.specs.declared.code.Code.TheVariants as code
use Rattle.gn_faults.specs.declared.fault.Fault.{Fault}
use Rattle.gn_items.specs.Effects.{Effects, with_asked}
use Rattle.gn_runs.specs.Runs.{content_of, Content, has_bytes, is_absent, is_too_big, Answers, End, ended, wrong, spoiled, needs, Run}
use Rattle.gn_environment.specs.Environment.{Environment, new_environment}
use Rattle.gn_meaning.specs.Steps.{Left, ends, breaks, then_do, content_asked}
use Rattle.gn_eval.specs.Library.{Need, LibraryState, Includes, GoesOn, ContentAnswers}
use Rattle.gn_eval.specs.Ends.{IsFailure, IsRun, Evaluates}
use Rattle.gn_eval.specs.declared.library.Found.{Found}
use Rattle.gn_eval.specs.declared.ending.EvalEnd.{EvalEnd}
use Rattle.gn_eval.specs.declared.ending.EvalEnd.TheVariants.{Stopped}
use Rattle.gn_executions.specs.Base.{BaseState}
use Rattle.gn_executions.specs.Faults.{whole_file_fault, syntax_fault}
use Rattle.gn_executions.specs.Setups.{path_below, other_content_runs, content_in, secondary_tree_runs, setup_begins}
use Rattle.gn_executions.specs.Units.{reading_runs, content_runs, own_place, tree_runs}
use Rattle.gn_syntax.specs.Reading.{reading}
use Rattle.gn_unit.specs.Begun.{BeginsAs, Begins, LeavesTree, Reads}
use Rattle.gn_unit.specs.Found.{content_view}
use Rattle.gn_unit.specs.Configuration.{own_content_runs, placed, found_below, found_in}
use Rattle.gn_eval.specs.Telling.{covered, told_before, goes_on_further, then_failed, covers_error}
use Rattle.gn_unit.proofs.Executions.{content_found}

-- where the execution of a build configuration begins
pub setup_set : (base : BaseState) (toolchain : List ℕ) → (setup_begins base toolchain).setting.file ≡ base.configuration
unfolding new_environment
setup_set base toolchain = refl

-- what there is at a path was told
pub own_content_told : (path : List ℕ) (a : Answers) (env : Environment) (found : Found) (before after : Effects) → ContentAnswers path a found → after ≡ with_asked (content_of path) before → own_content_runs path a env before ≡ ends (content_view found) env after
own_content_told path a env found before after h same =
    ap (λ (x : Option Content). content_asked x path (own_place path) before (λ content out1. ends content env out1)) (content_found path a found h)
    ∙ ap (λ (o : Effects). ends (content_view found) env o) (sym same)

-- the file is read as the content is that is found
below_read : (x : Option Content) (other : List ℕ) (env : Environment) (out : Effects)
    → content_asked x other (own_place other) out (λ content out1. other_content_runs other content env out1)
    ≡ then_do (then_do (content_asked x other (own_place other) out (λ content out1. ends content env out1)) (λ content env1 out1. ends content (placed other content env1) out1)) (λ content env1 out1. content_runs content env1 out1)
below_read None other env out = refl
below_read (Some is_absent) other env out = refl
below_read (Some is_too_big) other env out = refl
below_read (Some (has_bytes bytes)) other env out = refl

pub in_read : (secondary : Option (List ℕ)) (a : Answers) (content : Content) (env : Environment) (out : Effects)
    → content_in secondary a content env out ≡ then_do (found_in secondary a content env out) (λ content1 env1 out1. content_runs content1 env1 out1)
in_read None a content env out = refl
in_read (Some tree) a is_absent env out = let other = path_below tree env.setting.file in below_read (a.contents other) other env out
in_read (Some tree) a is_too_big env out = refl
in_read (Some tree) a (has_bytes bytes) env out = refl

asked_read : (x : Option Content) (path : List ℕ) (secondary : Option (List ℕ)) (a : Answers) (env : Environment) (out : Effects)
    → content_asked x path (own_place path) out (λ content out1. content_in secondary a content env out1)
    ≡ then_do (content_asked x path (own_place path) out (λ content out1. ends content env out1)) (λ content env1 out1. content_in secondary a content env1 out1)
asked_read None path secondary a env out = refl
asked_read (Some content) path secondary a env out = refl

-- and that is asked for at its own path first
found_read : (path : List ℕ) (secondary : Option (List ℕ)) (a : Answers) (env : Environment) (out : Effects)
    → env.setting.file ≡ path → secondary_tree_runs secondary a env out ≡ then_do (own_content_runs path a env out) (λ content env1 out1. content_in secondary a content env1 out1)
unfolding secondary_tree_runs
found_read path secondary a env out is =
    ap (λ (file : List ℕ). content_asked (a.contents file) file (own_place file) out (λ content out1. content_in secondary a content env out1)) is
    ∙ asked_read (a.contents path) path secondary a env out

-- the same where it is looked for at its own path alone
own_asked : (x : Option Content) (path : List ℕ) (env : Environment) (out : Effects)
    → content_asked x path (own_place path) out (λ content out1. content_runs content env out1)
    ≡ then_do (content_asked x path (own_place path) out (λ content out1. ends content env out1)) (λ content env1 out1. content_runs content env1 out1)
own_asked None path env out = refl
own_asked (Some content) path env out = refl

pub own_read : (path : List ℕ) (a : Answers) (env : Environment) (out : Effects) → env.setting.file ≡ path → tree_runs a env out ≡ then_do (own_content_runs path a env out) (λ content env1 out1. content_runs content env1 out1)
unfolding tree_runs
own_read path a env out is =
    ap (λ (file : List ℕ). content_asked (a.contents file) file (own_place file) out (λ content out1. content_runs content env out1)) is
    ∙ own_asked (a.contents path) path env out

-- what is found at its own path is the content of the file, unless nothing is there
pub big_in : (secondary : Option (List ℕ)) (a : Answers) (env : Environment) (out : Effects) → found_in secondary a is_too_big env out ≡ ends is_too_big env out
big_in None a env out = refl
big_in (Some tree) a env out = refl

pub bytes_in : (secondary : Option (List ℕ)) (bytes : List ℕ) (a : Answers) (env : Environment) (out : Effects) → found_in secondary a (has_bytes bytes) env out ≡ ends (has_bytes bytes) env out
bytes_in None bytes a env out = refl
bytes_in (Some tree) bytes a env out = refl

-- and then it is looked for below the secondary source tree, if there is one
pub below_runs : (secondary : Option (List ℕ)) (tree path : List ℕ) (a : Answers) (env : Environment) (out : Effects) → Some tree ≡ secondary → env.setting.file ≡ path → found_in secondary a is_absent env out ≡ found_below (path_below tree path) a env out
below_runs secondary tree path a env out is file =
    ap (λ (s : Option (List ℕ)). found_in s a is_absent env out) (sym is) ∙ ap (λ (f : List ℕ). found_below (path_below tree f) a env out) file

pub nowhere_runs : (secondary : Option (List ℕ)) (a : Answers) (env : Environment) (out : Effects) → None ≡ secondary → found_in secondary a is_absent env out ≡ ends is_absent env out
nowhere_runs secondary a env out is = ap (λ (s : Option (List ℕ)). found_in s a is_absent env out) (sym is)

-- a library goes on that isn't asked
goes_on_still : (state : LibraryState) → GoesOn state state
goes_on_still state = record { told = refl; later = omega arith; references = refl }

pub still : {A T : Type 0} (view : T → A) (state : LibraryState) (x : T) (env : Environment) (out : Effects) (run : Answers → Run (Left A)) → ((a : Answers) → run a ≡ ends (view x) env out) → Evaluates view state state (Ok x) env out run
still view state x env out run h = record { runs = λ a i. h a; goes = goes_on_still state; rose = λ e. cc }

-- the same of a run that is the same
pub same_runs : {A T : Type 0} (view : T → A) (before after : LibraryState) (result : Result T EvalEnd) (env : Environment) (out : Effects) (run other : Answers → Run (Left A)) → ((a : Answers) → run a ≡ other a) → Evaluates view before after result env out other → Evaluates view before after result env out run
same_runs {A = A} view before after result env out run other e h = record {
  runs = λ a covers. subst (λ (r : Run (Left A)). IsRun view after.need result env out r) (sym (e a)) (h.runs a covers);
  goes = h.goes;
  rose = h.rose;
}

-- a step behind what was told of a content, that asks nothing more
module _ (before later : LibraryState) (path : List ℕ) (env : Environment) (out out1 : Effects) (next : Answers → Content → Environment → Effects → Run (Left Content)) where
  pub told_still : (found : Found) → Evaluates {T = Found} content_view before later (Ok found) env out1 (λ a. own_content_runs path a env out)
      → (after : Environment) → ((a : Answers) → next a (content_view found) env out1 ≡ ends (content_view found) after out1)
      → Evaluates {T = Found} content_view before later (Ok found) after out1 (λ a. then_do (own_content_runs path a env out) (next a))
  told_still found told after runs = record {
    runs = λ a i. ap (λ (r : Run (Left Content)). then_do r (next a)) (told.runs a i) ∙ runs a;
    goes = told.goes;
    rose = λ e. cc;
  }

  pub told_fails : (e : EvalEnd) (after : Environment) → Evaluates {T = Found} content_view before later (Err e) env out1 (λ a. own_content_runs path a env out)
      → Evaluates {T = Found} content_view before later (Err e) after out1 (λ a. then_do (own_content_runs path a env out) (next a))
  told_fails e after h = record {
    runs = λ a covers. then_failed later.need e out1 (own_content_runs path a env out) (next a) (h.runs a covers);
    goes = h.goes;
    rose = h.rose;
  }

-- the tree that a run leaves
abbrev left_or : BlockTree → End (Left BlockTree) → BlockTree
left_or tree (ended left) = left.value
left_or tree (wrong fault) = tree
left_or tree (spoiled path place) = tree
left_or tree (needs question place) = tree

abbrev HasLeft : End (Left BlockTree) → Type 0
HasLeft (ended left) = Unit {0}
HasLeft (wrong fault) = ⊥
HasLeft (spoiled path place) = ⊥
HasLeft (needs question place) = ⊥

-- a content that is read as a tree leaves it where the file is to run
broken_leaves : (fault : Fault) (tree : BlockTree) (env : Environment) (out : Effects) → LeavesTree tree (breaks fault out) → breaks fault out ≡ ends tree env out
broken_leaves fault tree env out (e, o, h) = absurd (subst HasLeft (sym (ap (λ (r : Run (Left BlockTree)). r.end) h)) tt)

read_leaves : (bytes : List ℕ) (read : Result BlockTree SyntaxFault) (tree : BlockTree) (env : Environment) (out : Effects) → LeavesTree tree (reading_runs bytes read env out) → reading_runs bytes read env out ≡ ends tree env out
read_leaves bytes (Ok t) tree env out (e, o, h) = ap (λ (t1 : BlockTree). ends t1 env out) (ap (λ (r : Run (Left BlockTree)). left_or t r.end) h)
read_leaves bytes (Err error) tree env out h = broken_leaves (syntax_fault env.setting bytes error) tree env out h

pub content_leaves : (content : Content) (tree : BlockTree) (env : Environment) (out : Effects) → LeavesTree tree (content_runs content env out) → content_runs content env out ≡ ends tree env out
content_leaves is_absent tree env out h = broken_leaves (whole_file_fault env.setting code.NoFile) tree env out h
content_leaves is_too_big tree env out h = broken_leaves (whole_file_fault env.setting code.FileTooBig) tree env out h
content_leaves (has_bytes bytes) tree env out h = read_leaves bytes (reading bytes) tree env out h

-- of a tree that is known before
pub known_shallow : (known : Option BlockTree) (told : Option Answers) (run : Answers → Run (Left BlockTree)) → IfSome known (Reads told run) → IfSome known IsShallow
known_shallow None told run h = tt
known_shallow (Some tree) told run h = h.0

known_leaves : (known : Option BlockTree) (told : Option Answers) (run : Answers → Run (Left BlockTree)) (a : Answers) (same : Run (Left BlockTree)) → Includes told a → run a ≡ same → IfSome known (Reads told run) → IfSome known (λ tree. LeavesTree tree same)
known_leaves None told run a same i is h = tt
known_leaves (Some tree) told run a same i is h = subst (LeavesTree tree) is (h.1 a i)

-- the tree of a file whose content was told, and where it is to run
module _ (before later : LibraryState) (env : Environment) (out : Effects) (found : Answers → Run (Left Content)) (run : Answers → Run (Left BlockTree))
    (reads : (a : Answers) → run a ≡ then_do (found a) (λ content env1 out1. content_runs content env1 out1)) where
  pub begins_told : (content : Found) (result : Result (BlockTree × Environment) EvalEnd) (known : Option BlockTree) → Evaluates {T = Found} content_view before later (Ok content) env out found → IfSome known (Reads before.told run)
      → ((need : Need) (o : Effects) → IfSome known (λ tree. LeavesTree tree (content_runs (content_view content) env o)) → BeginsAs need result o (content_runs (content_view content) env o)) → (result ≡ Err Stopped → ⊥)
      → Begins before later result out run
  begins_told content result known told knows begins never = record {
    runs = λ a covers.
        let i = covered later.told result a covers in
        let same = reads a ∙ ap (λ (r : Run (Left Content)). then_do r (λ content1 env1 out1. content_runs content1 env1 out1)) (told.runs a i) in
        subst (BeginsAs later.need result out) (sym same)
        (begins later.need out (known_leaves known before.told run a (content_runs (content_view content) env out) (told_before told.goes a i) same knows));
    goes = told.goes;
    rose = λ e. absurd (never e);
  }

-- there is none where its content wasn't told
module _ (before later : LibraryState) (env : Environment) (out : Effects) (found : Answers → Run (Left Content)) (run : Answers → Run (Left BlockTree))
    (next : Answers → Content → Environment → Effects → Run (Left BlockTree)) (reads : (a : Answers) → run a ≡ then_do (found a) (next a)) where
  pub begins_fails : (e : EvalEnd) → Evaluates {T = Found} content_view before later (Err e) env out found → Begins before later (Err e) out run
  begins_fails e told = record {
    runs = λ a covers.
        subst (IsFailure later.need e out) (sym (reads a))
        (then_failed later.need e out (found a) (next a) (told.runs a (covers_error (BlockTree × Environment) Found later.told e a covers)));
    goes = told.goes;
    rose = λ k. told.rose (cc);
  }

-- the same of a file of whose content at its own path was told, and that is looked for below the secondary source tree too
module _ (before later : LibraryState) (secondary : Option (List ℕ)) (path : List ℕ) (env : Environment) (file : env.setting.file ≡ path) (out out1 : Effects) where
  abbrev Tells : Result Found EvalEnd → Type 0
  Tells result = Evaluates {T = Found} content_view before later result env out1 (λ a. own_content_runs path a env out)

  in_told : (content : Found) (begins : Environment) → Tells (Ok content) → begins ≡ env → (a : Answers) → Includes later.told a → secondary_tree_runs secondary a env out ≡ content_in secondary a (content_view content) begins out1
  in_told content begins told is a i =
      found_read path secondary a env out file
      ∙ ap (λ (r : Run (Left Content)). then_do r (λ content1 env1 out2. content_in secondary a content1 env1 out2)) (told.runs a i)
      ∙ ap (λ (e : Environment). content_in secondary a (content_view content) e out1) (sym is)

  pub own_known : (content : Found) (begins : Environment) (known : Option BlockTree) → Tells (Ok content) → begins ≡ env → IfSome known (Reads before.told (λ a. secondary_tree_runs secondary a env out))
      → IfSome known (Reads later.told (λ a. content_in secondary a (content_view content) begins out1))
  own_known content begins None told is knows = tt
  own_known content begins (Some tree) told is knows = (knows.0, λ a i. subst (LeavesTree tree) (in_told content begins told is a i) (knows.1 a (told_before told.goes a i)))

  pub own_begins : (content : Found) (begins : Environment) (end : LibraryState) (result : Result (BlockTree × Environment) EvalEnd) (left : Effects) → Tells (Ok content) → begins ≡ env
      → Begins later end result left (λ a. content_in secondary a (content_view content) begins out1) → Begins before end result left (λ a. secondary_tree_runs secondary a env out)
  own_begins content begins end result left told is h = record {
    runs = λ a covers. subst (BeginsAs end.need result left) (sym (in_told content begins told is a (told_before h.goes a (covered end.told result a covers)))) (h.runs a covers);
    goes = goes_on_further before later end told.goes h.goes;
    rose = λ e. omega (arith, told.goes.later, h.rose e);
  }

  pub own_fails : (e : EvalEnd) → Tells (Err e) → Begins before later (Err e) out1 (λ a. secondary_tree_runs secondary a env out)
  own_fails e told =
      begins_fails before later env out1 (λ a. own_content_runs path a env out) (λ a. secondary_tree_runs secondary a env out) (λ a content env1 out2. content_in secondary a content env1 out2)
      (λ a. found_read path secondary a env out file) e told
