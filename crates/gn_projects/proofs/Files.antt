-- Files, and executions as trees of questions.
use Rattle.std.proofs.Common.{◌≡◌, ℕ, List, [], ◌∷◌, Option, Some, None, Bool, true, false, ◌||◌, if◌then◌else◌, refl, sym, ◌∙◌, ap, subst, ◌⊎◌, inl, inr, true≢false}
use Rattle.std.specs.Prelude.{is_some}
use Rattle.std.specs.List.{list_any}
use Rattle.std.proofs.lemmas.Bool.{or_left, or_right}
use Rattle.std.specs.Str.{bytes_eq}
use Rattle.std.proofs.lemmas.Slice.Eq.{bytes_eq-Decides}
use Rattle.std.specs.FinMap.{get, keys, contains_key-keys}
use Rattle.std.proofs.lemmas.List.{append-nil}
use Rattle.gn_outside.specs.Tree.{FileContent, Tree, answer_of, read_of}
use Rattle.gn_definitions.specs.Imported.{ImportState}
use Rattle.gn_runs.specs.Runs.{Question, is_absent, Answers, End, ended, wrong, spoiled, needs, Run, IsTree, after, followed, leaves}
use Rattle.gn_runs.proofs.Trees.{tree_then, tree_leaves, tree_same}
use Rattle.gn_imports.specs.Projects.{IsOneOf, IsWrong}
use Rattle.gn_imports.proofs.PathOrder.{any_one}
use Rattle.gn_meaning.specs.Steps.{Left}
use Rattle.gn_executions.specs.Units.{import_execution, import_meaning}
use Rattle.gn_executions.specs.Base.{BaseState}
use Rattle.gn_executions.proofs.ExecutionTrees.{import_execution_tree, import_meaning_tree, absent_import}
use Rattle.gn_core.specs.Keys.{Layer, Leaving, seen}
use Rattle.gn_projects.specs.Files.{Files, files_of, content_at, content_in, when_of, toolchain_of, left_end, left_run, import_of_layer}

abbrev as_run : {A : Type 0} → End A → List Question → Run A
as_run end asked = record { end = end; asked = asked }

abbrev leaving : {A B : Type 0} → (A → B) → Left A → Leaving B
leaving f left = record { value = f left.value; effects = left.effects }

-- what an execution leaves, as a run behind it
left_followed : {A B : Type 0} (f : A → B) (run : Run (Left A)) → left_run f run ≡ followed run (λ (left : Left A). leaves (leaving f left))
left_followed {A} {B} f run = by run.end run.asked
  where
    by : (end : End (Left A)) (asked : List Question) → as_run (left_end f end) asked ≡ after end asked (λ (left : Left A). leaves (leaving f left))
    by (ended left) asked = ap (as_run (ended (leaving f left))) (sym (append-nil asked))
    by (wrong fault) asked = refl
    by (spoiled path place) asked = refl
    by (needs question place) asked = refl

seen_followed : {A : Type 0} (run : Run (Left A)) → seen (left_run (λ (value : A). value) run) ≡ followed run (λ (left : Left A). leaves left.value)
seen_followed {A} run = by run.end run.asked
  where
    by : (end : End (Left A)) (asked : List Question) → seen (as_run (left_end (λ (value : A). value) end) asked) ≡ after end asked (λ (left : Left A). leaves left.value)
    by (ended left) asked = ap (as_run (ended left.value)) (sym (append-nil asked))
    by (wrong fault) asked = refl
    by (spoiled path place) asked = refl
    by (needs question place) asked = refl

left_tree : {A B : Type 0} (f : A → B) (m : Answers → Run (Left A)) → IsTree m → IsTree (λ (a : Answers). left_run f (m a))
left_tree {A} {B} f m t =
    tree_same (λ (a : Answers). left_run f (m a)) (λ (a : Answers). followed (m a) (λ (left : Left A). leaves (leaving f left))) (λ a. left_followed f (m a))
    (tree_then m (λ (a : Answers) (left : Left A). leaves (leaving f left)) t (λ left. tree_leaves (leaving f left)))

-- the executions of units and of imports are trees of questions
pub import_tree : (base : BaseState) (l : Layer) (path : List ℕ) → IsTree (λ answers. import_of_layer base l path answers)
import_tree base l path = left_tree (λ (value : ImportState). value) (import_execution base (when_of l) (toolchain_of l) path) (import_execution_tree base (when_of l) (toolchain_of l) path)

pub seen_tree : (base : BaseState) (l : Layer) (path : List ℕ) → IsTree (λ answers. seen (import_of_layer base l path answers))
seen_tree base l path =
    tree_same (λ answers. seen (import_of_layer base l path answers)) (import_meaning base (when_of l) (toolchain_of l) path) (λ a. seen_followed (import_execution base (when_of l) (toolchain_of l) path a))
    (import_meaning_tree base (when_of l) (toolchain_of l) path)

pub seen_absent : (base : BaseState) (l : Layer) (path : List ℕ) (a : Answers) → a.contents path ≡ Some is_absent → IsWrong (seen (import_of_layer base l path a)).end
seen_absent base l path a h =
    subst (λ (r : Run ImportState). IsWrong r.end) (sym (seen_followed (import_execution base (when_of l) (toolchain_of l) path a)))
    (subst IsWrong (sym (absent_import base (when_of l) (toolchain_of l) path a h)) tt)

any_path : (ps : List (List ℕ)) (q : List ℕ) → list_any (bytes_eq q) ps ≡ true → IsOneOf q ps
any_path [] q e = absurd (true≢false (sym e))
any_path (p ∷ ps) q e = by (bytes_eq q p) refl e (any_path ps q)
  where
    by : (b : Bool) → bytes_eq q p ≡ b → (b || list_any (bytes_eq q) ps) ≡ true → (list_any (bytes_eq q) ps ≡ true → IsOneOf q ps) → IsOneOf q (p ∷ ps)
    by true s h ih = inl ((bytes_eq-Decides q p).0 s)
    by false s h ih = inr (ih h)

pub path_any : (ps : List (List ℕ)) (q : List ℕ) → IsOneOf q ps → list_any (bytes_eq q) ps ≡ true
path_any [] q i = absurd i
path_any (p ∷ ps) q (inl e) = or_left (bytes_eq q p) (list_any (bytes_eq q) ps) ((bytes_eq-Decides q p).1 e)
path_any (p ∷ ps) q (inr i) = or_right (bytes_eq q p) (list_any (bytes_eq q) ps) (path_any ps q i)

-- a path at which there is something is that of a file
pub listed : (files : Files) (path : List ℕ) → (content_at files path ≡ is_absent) ⊎ IsOneOf path files.paths
listed files path = by (list_any (bytes_eq path) files.paths) refl
  where
    by : (b : Bool) → list_any (bytes_eq path) files.paths ≡ b → ((if b then files.given path else is_absent) ≡ is_absent) ⊎ IsOneOf path files.paths
    by true e = inr (any_path files.paths path e)
    by false e = inl refl

-- what there is at a path among the files of a tree
pub tree_content : (start : BaseState) (tree : Tree) (path : List ℕ) → content_at (files_of start tree) path ≡ content_in (read_of tree path)
tree_content start tree path = by (list_any (bytes_eq path) (keys tree)) refl (get tree path) refl
  where
    by : (b : Bool) → list_any (bytes_eq path) (keys tree) ≡ b → (x : Option FileContent) → get tree path ≡ x → (if b then content_in (read_of tree path) else is_absent) ≡ content_in (read_of tree path)
    by true e x h = refl
    by false e None h = sym (ap (λ (o : Option FileContent). content_in (answer_of o)) h)
    by false e (Some y) h = absurd (true≢false (sym (path_any (keys tree) path (any_one (keys tree) path (sym (contains_key-keys tree path) ∙ ap is_some h))) ∙ e))
