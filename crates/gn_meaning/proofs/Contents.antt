-- `read_file` is a tree of questions, where the evaluation of what it reads is, and leaves what stands around the scope in which it stands.
use Rattle.std.proofs.Common.{◌≡◌, ℕ, List, [], ◌∷◌, ◌++◌, Option, Some, None, Result, Ok, Err, refl, sym, ap, ◌∙◌, subst}
use Rattle.gn_paths.specs.declared.error.PathFault.{PathFault}
use Rattle.gn_paths.specs.declared.place.Place.{Place}
use Rattle.gn_paths.specs.Components.{is_system}
use Rattle.gn_paths.specs.Resolve.{path_meant}
use Rattle.gn_tree.specs.declared.tree.Call.{Call}
use Rattle.gn_tree.specs.Tree.{ExprTree}
use Rattle.gn_definitions.specs.Imported.{ImportState}
use Rattle.gn_values.specs.Val.{Val}
use Rattle.gn_faults.specs.declared.fault.Fault.{Fault}
use Rattle.gn_faults.specs.declared.code.Code.TheVariants as code
use Rattle.gn_calls_text.specs.declared.conversions.Conversion.{Conversion}
use Rattle.gn_calls_text.specs.Conversions.{conversion_of}
use Rattle.gn_items.specs.Effects.{with_asked}
use Rattle.gn_runs.specs.Runs.{Question, content_of, import_of, Content, Imported, has_value, is_unusable, Answers, End, ended, wrong, spoiled, needs, Run, asking_content, asking_import, Tree, leaf, fault_leaf, asks_content, asks_import, run_tree}
use Rattle.gn_environment.specs.Environment.{Environment}
use Rattle.gn_environment.specs.Faults.{fault_in}
use Rattle.gn_environment.specs.Surroundings.{surroundings}
use Rattle.gn_meaning.specs.Steps.{Left, Steps}
use Rattle.gn_meaning.specs.Contents.{Read, comes_to, holds, found_read, path_read, is_too_deep, conversion_read, text_at, texts_read, reading_runs, reading_begins, evaluated_end, evaluated_runs, read_ends, read_file_runs}
use Rattle.gn_meaning.proofs.Ends.{Leaves, Keep, keep_do, keep_ends, fails_so, so_if, keep_asks_content}
use Rattle.gn_meaning.proofs.KeptBySteps.{settled_keeps}
use Rattle.gn_meaning.proofs.PlainTrees.{settled_tree}
use Rattle.gn_meaning.proofs.Steps.{asked_before, HasAsked, IsTreeBehind, AreTrees, tree_do, tree_ends, tree_fails, tree_if, tree_asks_content}

-- a tree whose leaves are made anew, and whose faults are this one
abbrev remade : {A B : Type 0} → (A → B) → Fault → Tree A → Tree B
remade k fault (leaf x) = leaf (k x)
remade k fault (fault_leaf other) = fault_leaf fault
remade k fault (asks_content path place next) = asks_content path place (λ y. remade k fault (next y))
remade k fault (asks_import path place next) = asks_import path place (λ y. remade k fault (next y))

abbrev end_remade : {A B : Type 0} → (A → B) → Fault → End A → End B
end_remade k fault (ended x) = ended (k x)
end_remade k fault (wrong other) = wrong fault
end_remade k fault (spoiled path place) = spoiled path place
end_remade k fault (needs question place) = needs question place

abbrev run_remade : {A B : Type 0} → (A → B) → Fault → Run A → Run B
run_remade k fault run = record { end = end_remade k fault run.end; asked = run.asked }

content_remade : {A B : Type 0} (k : A → B) (fault : Fault) (x : Option Content) (path : List ℕ) (place : Place) (m : Content → Run A) (n : Content → Run B) → ((y : Content) → n y ≡ run_remade k fault (m y)) → asking_content x path place n ≡ run_remade k fault (asking_content x path place m)
content_remade k fault None path place m n e = refl
content_remade {B = B} k fault (Some y) path place m n e = ap (λ (r : Run B). record { end = r.end; asked = content_of path ∷ r.asked }) (e y)

import_remade : {A B : Type 0} (k : A → B) (fault : Fault) (x : Option Imported) (path : List ℕ) (place : Place) (m : ImportState → Run A) (n : ImportState → Run B) → ((y : ImportState) → n y ≡ run_remade k fault (m y)) → asking_import x path place n ≡ run_remade k fault (asking_import x path place m)
import_remade k fault None path place m n e = refl
import_remade k fault (Some is_unusable) path place m n e = refl
import_remade {B = B} k fault (Some (has_value y)) path place m n e = ap (λ (r : Run B). record { end = r.end; asked = import_of path ∷ r.asked }) (e y)

run_of_remade : {A B : Type 0} (k : A → B) (fault : Fault) (t : Tree A) (a : Answers) → run_tree (remade k fault t) a ≡ run_remade k fault (run_tree t a)
run_of_remade k fault (leaf x) a = refl
run_of_remade k fault (fault_leaf other) a = refl
run_of_remade k fault (asks_content path place next) a =
    content_remade k fault (a.contents path) path place (λ y. run_tree (next y) a) (λ y. run_tree (remade k fault (next y)) a) (λ y. run_of_remade k fault (next y) a)
run_of_remade k fault (asks_import path place next) a =
    import_remade k fault (a.imports path) path place (λ y. run_tree (next y) a) (λ y. run_tree (remade k fault (next y)) a) (λ y. run_of_remade k fault (next y) a)

-- What an expression comes to that is read, as the call has it

module _ (call : Call) (env : Environment) where
  abbrev left_by : Left Val → Left (Option Val)
  left_by l = record { value = Some l.value; environment = env; effects = l.effects }

  abbrev fault_by : Fault
  fault_by = fault_in env.setting call.position code.BadArguments (call.name ∷ [])

  end_is : (end : End (Left Val)) (asked more : List Question) → HasAsked (asked ++ more) end → evaluated_end end (asked ++ more) call env ≡ asked_before asked (record { end = end_remade left_by fault_by end; asked = more })
  end_is (ended l) asked more h = ap (λ (all : List Question). record { end = ended (left_by l); asked = all }) h
  end_is (wrong fault) asked more h = refl
  end_is (spoiled path place) asked more h = refl
  end_is (needs question place) asked more h = refl

  noted_is : (end : End (Left Val)) (all : List Question) → HasAsked all end → HasAsked all (end_remade left_by fault_by end)
  noted_is (ended l) all h = h
  noted_is (wrong fault) all h = tt
  noted_is (spoiled path place) all h = tt
  noted_is (needs question place) all h = tt

  evaluated_tree : {asked : List Question} (m : Answers → Run (Left Val)) → IsTreeBehind asked m → IsTreeBehind asked (λ a. evaluated_runs (m a) call env)
  evaluated_tree {asked} m t = record {
    tree = remade left_by fault_by t.tree;
    same = λ a.
        ap (λ (r : Run (Left Val)). evaluated_runs r call env) (t.same a)
        ∙ end_is (run_tree t.tree a).end asked (run_tree t.tree a).asked (t.noted a)
        ∙ ap (asked_before asked) (sym (run_of_remade left_by fault_by t.tree a));
    noted = λ a.
        subst (λ (r : Run (Left (Option Val))). HasAsked (asked ++ r.asked) r.end) (sym (run_of_remade left_by fault_by t.tree a))
        (noted_is (run_tree t.tree a).end (asked ++ (run_tree t.tree a).asked) (t.noted a));
  }

  evaluated_leaves : (run : Run (Left Val)) → Leaves (surroundings env) (evaluated_runs run call env)
  evaluated_leaves run = by run.end run.asked
    where
      by : (end : End (Left Val)) (asked : List Question) → Leaves (surroundings env) (evaluated_end end asked call env)
      by (ended l) asked = keep_ends _ env l.effects refl
      by (wrong fault) asked = record { so = tt }
      by (spoiled path place) asked = record { so = tt }
      by (needs question place) asked = record { so = tt }

path_read_tree : (conversion : Conversion) (r : Result (List ℕ) PathFault) (call : Call) → AreTrees (λ a. path_read conversion r a call)
path_read_tree conversion (Err fault) call env out = tree_fails _ out
path_read_tree conversion (Ok path) call env out =
    tree_if (is_system path) _ _ (tree_fails _ out)
    (tree_asks_content path _ out _ (λ content. tree_ends (found_read conversion path content) env (with_asked (content_of path) out)))

conversion_read_tree : (conversion : Option Conversion) (name text : List ℕ) (n : ℕ) (call : Call) → AreTrees (λ a. conversion_read conversion name text a n call)
conversion_read_tree None name text n call env out = tree_fails _ out
conversion_read_tree (Some conversion) name text n call env out =
    tree_if (is_too_deep conversion n env) _ _ (tree_fails _ out) (path_read_tree conversion (path_meant env.setting.directory text) call env out)

texts_read_tree : (text name : Option (List ℕ)) (n : ℕ) (call : Call) → AreTrees (λ a. texts_read text name a n call)
texts_read_tree (Some text) (Some name) n call env out = conversion_read_tree (conversion_of name) name text n call env out
texts_read_tree (Some text) None n call env out = tree_fails _ out
texts_read_tree None name n call env out = tree_fails _ out

reading_tree : (vs : List Val) (n : ℕ) (call : Call) → AreTrees (λ a. reading_runs a vs n call)
unfolding reading_runs
reading_tree [] n call env out = tree_fails _ out
reading_tree (text ∷ []) n call env out = tree_fails _ out
reading_tree (text ∷ name ∷ []) n call env out = texts_read_tree (text_at text) (text_at name) n call env out
reading_tree (text ∷ name ∷ other ∷ vs) n call env out = tree_fails _ out

module _ (reads : Answers → ExprTree → Steps Val) (t : (e : ExprTree) → AreTrees (λ a. reads a e)) where
  read_tree : (read : Read) (n : ℕ) (call : Call) → AreTrees (λ a. read_ends (reads a) read n call)
  unfolding read_ends
  read_tree (comes_to settled) n call env out = settled_tree settled call env out
  read_tree (holds path e) n call env out = evaluated_tree call env _ (t e (reading_begins path n env) out)

  pub read_file_tree : (vs : List Val) (n : ℕ) (call : Call) → AreTrees (λ a. read_file_runs a (reads a) vs n call)
  read_file_tree vs n call env out = tree_do _ _ (reading_tree vs n call env out) (λ read env1 out1. read_tree read n call env1 out1)

-- What it leaves

path_read_keeps : (conversion : Conversion) (r : Result (List ℕ) PathFault) (a : Answers) (call : Call) → Keep (path_read conversion r a call)
path_read_keeps conversion (Err fault) a call env out = fails_so _ out
path_read_keeps conversion (Ok path) a call env out =
    so_if (is_system path) _ _ (fails_so _ out)
    (keep_asks_content (a.contents path) path _ out _ (λ content out1. keep_ends (found_read conversion path content) env out1 refl))

conversion_read_keeps : (conversion : Option Conversion) (name text : List ℕ) (a : Answers) (n : ℕ) (call : Call) → Keep (conversion_read conversion name text a n call)
conversion_read_keeps None name text a n call env out = fails_so _ out
conversion_read_keeps (Some conversion) name text a n call env out =
    so_if (is_too_deep conversion n env) _ _ (fails_so _ out) (path_read_keeps conversion (path_meant env.setting.directory text) a call env out)

texts_read_keeps : (text name : Option (List ℕ)) (a : Answers) (n : ℕ) (call : Call) → Keep (texts_read text name a n call)
texts_read_keeps (Some text) (Some name) a n call env out = conversion_read_keeps (conversion_of name) name text a n call env out
texts_read_keeps (Some text) None a n call env out = fails_so _ out
texts_read_keeps None name a n call env out = fails_so _ out

reading_keeps : (a : Answers) (vs : List Val) (n : ℕ) (call : Call) → Keep (reading_runs a vs n call)
unfolding reading_runs
reading_keeps a [] n call env out = fails_so _ out
reading_keeps a (text ∷ []) n call env out = fails_so _ out
reading_keeps a (text ∷ name ∷ []) n call env out = texts_read_keeps (text_at text) (text_at name) a n call env out
reading_keeps a (text ∷ name ∷ other ∷ vs) n call env out = fails_so _ out

read_keeps : (reads : ExprTree → Steps Val) (read : Read) (n : ℕ) (call : Call) → Keep (read_ends reads read n call)
unfolding read_ends
read_keeps reads (comes_to settled) n call env out = settled_keeps settled call env out
read_keeps reads (holds path e) n call env out = evaluated_leaves call env (reads e (reading_begins path n env) out)

pub read_file_keeps : (a : Answers) (reads : ExprTree → Steps Val) (vs : List Val) (n : ℕ) (call : Call) → Keep (read_file_runs a reads vs n call)
read_file_keeps a reads vs n call env out = keep_do _ _ (reading_keeps a vs n call env out) (λ read env1 out1. read_keeps reads read n call env1 out1)
