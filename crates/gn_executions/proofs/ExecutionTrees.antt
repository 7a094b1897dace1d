-- An execution is a tree of questions, and one of a path at which there is no file is wrong at once.
use Rattle.std.proofs.Common.{◌≡◌, ℕ, List, Option, Some, None, Result, Ok, Err, ap, refl}
use Rattle.gn_tree.specs.Tree.{BlockTree}
use Rattle.gn_grammar.specs.declared.fault.SyntaxFault.{SyntaxFault}
use Rattle.gn_faults.specs.declared.code.Code.TheVariants as code
use Rattle.gn_faults.specs.declared.fault.Fault.{Fault}
use Rattle.gn_faults.specs.declared.file_kind.FileKind.TheVariants.{Import}
use Rattle.gn_items.specs.Effects.{no_effects, with_asked}
use Rattle.gn_items.specs.declared.key.When.{When}
use Rattle.gn_runs.specs.Runs.{content_of, Content, has_bytes, is_absent, is_too_big, Answers, End, wrong, Run, IsTree, after, followed, leaves}
use Rattle.gn_runs.proofs.Trees.{tree_then, tree_leaves}
use Rattle.gn_environment.specs.Environment.{new_environment}
use Rattle.gn_meaning.specs.Meaning.{import_file_runs}
use Rattle.gn_meaning.proofs.Steps.{AreQuiet, AreTrees, whole_tree, tree_do, tree_ends, tree_fails, tree_asks_content}
use Rattle.gn_meaning.proofs.ImportTrees.{file_tree, import_file_tree, configuration_file_tree}
use Rattle.gn_syntax.specs.Reading.{reading}
use Rattle.gn_executions.specs.Faults.{whole_file_fault}
use Rattle.gn_executions.specs.Units.{reading_runs, content_runs, own_place, tree_runs, import_begins, import_runs, import_execution, import_meaning, build_file_of, load_begins, load_runs, load_execution}
use Rattle.gn_executions.specs.Base.{BaseState, setting_of}
use Rattle.gn_executions.specs.Found.{found_load_runs, found_load_execution}
use Rattle.gn_executions.specs.Setups.{path_below, in_file, other_content_runs, content_or_other, content_in, secondary_tree_runs, setup_begins, setup_runs, setup_execution}

reading_tree : (bytes : List ℕ) (x : Result BlockTree SyntaxFault) → AreQuiet (reading_runs bytes x)
reading_tree bytes (Ok tree) env out = tree_ends tree env out
reading_tree bytes (Err error) env out = tree_fails _ out

pub content_tree : (y : Content) → AreQuiet (content_runs y)
content_tree (has_bytes bytes) env out = reading_tree bytes (reading bytes) env out
content_tree is_absent env out = tree_fails _ out
content_tree is_too_big env out = tree_fails _ out

tree_runs_tree : AreTrees tree_runs
unfolding tree_runs
tree_runs_tree env out =
    tree_asks_content env.setting.file (own_place env.setting.file) out _ (λ y. content_tree y env (with_asked (content_of env.setting.file) out))

-- the execution of an import is a tree of questions
pub import_execution_tree : (base : BaseState) (when : When) (toolchain path : List ℕ) → IsTree (import_execution base when toolchain path)
unfolding import_runs
import_execution_tree base when toolchain path =
    whole_tree _ (tree_do _ _ (tree_runs_tree (import_begins base when toolchain path) no_effects) (λ tree env1 out1. import_file_tree tree env1 out1))

pub import_meaning_tree : (base : BaseState) (when : When) (toolchain path : List ℕ) → IsTree (import_meaning base when toolchain path)
import_meaning_tree base when toolchain path =
    tree_then (import_execution base when toolchain path) (λ a l. leaves l.value) (import_execution_tree base when toolchain path) (λ l. tree_leaves l.value)

-- the execution of a build file is one
pub load_execution_tree : (base : BaseState) (directory toolchain : List ℕ) → IsTree (load_execution base directory toolchain)
unfolding load_runs
load_execution_tree base directory toolchain =
    whole_tree _ (tree_do _ _ (tree_runs_tree (load_begins base directory toolchain (build_file_of directory)) no_effects) (λ tree env1 out1. file_tree tree env1 out1))

-- the execution of a build configuration is one

other_content_tree : (other : List ℕ) (y : Content) → AreQuiet (other_content_runs other y)
other_content_tree other is_absent env out = tree_fails _ out
other_content_tree other (has_bytes bytes) env out = content_tree (has_bytes bytes) (in_file other env) out
other_content_tree other is_too_big env out = content_tree is_too_big (in_file other env) out

content_or_other_tree : (other : List ℕ) (y : Content) → AreTrees (λ a. content_or_other other a y)
content_or_other_tree other is_absent env out =
    tree_asks_content other (own_place other) out _ (λ y. other_content_tree other y env (with_asked (content_of other) out))
content_or_other_tree other (has_bytes bytes) env out = content_tree (has_bytes bytes) env out
content_or_other_tree other is_too_big env out = content_tree is_too_big env out

content_in_tree : (secondary : Option (List ℕ)) (y : Content) → AreTrees (λ a. content_in secondary a y)
content_in_tree None y env out = content_tree y env out
content_in_tree (Some tree) y env out = content_or_other_tree (path_below tree env.setting.file) y env out

secondary_tree_runs_tree : (secondary : Option (List ℕ)) → AreTrees (secondary_tree_runs secondary)
unfolding secondary_tree_runs
secondary_tree_runs_tree secondary env out =
    tree_asks_content env.setting.file (own_place env.setting.file) out _ (λ y. content_in_tree secondary y env (with_asked (content_of env.setting.file) out))

pub setup_execution_tree : (base : BaseState) (toolchain : List ℕ) → IsTree (setup_execution base toolchain)
unfolding setup_runs
setup_execution_tree base toolchain =
    whole_tree _ (tree_do _ _ (secondary_tree_runs_tree base.secondary (setup_begins base toolchain) no_effects) (λ tree env1 out1. configuration_file_tree tree env1 out1))

-- and so is that of a build file that is looked for as it is
pub found_load_execution_tree : (base : BaseState) (directory toolchain : List ℕ) → IsTree (found_load_execution base directory toolchain)
unfolding found_load_runs
found_load_execution_tree base directory toolchain =
    whole_tree _ (tree_do _ _ (secondary_tree_runs_tree base.secondary (load_begins base directory toolchain (build_file_of directory)) no_effects) (λ tree env1 out1. file_tree tree env1 out1))

wrong_after : {A B : Type 0} (run : Run A) (next : A → Run B) (fault : Fault) → run.end ≡ wrong fault → (followed run next).end ≡ wrong fault
wrong_after {A} {B} run next fault h = ap (λ (e : End A). (after {B = B} e run.asked next).end) h

absent_execution : (base : BaseState) (when : When) (toolchain path : List ℕ) (a : Answers) → a.contents path ≡ Some is_absent → (import_execution base when toolchain path a).end ≡ wrong (whole_file_fault (setting_of base Import path) code.NoFile)
unfolding import_runs tree_runs new_environment import_file_runs
absent_execution base when toolchain path a h = rw h refl

-- where there is no file, importing it is wrong
pub absent_import : (base : BaseState) (when : When) (toolchain path : List ℕ) (a : Answers) → a.contents path ≡ Some is_absent → (import_meaning base when toolchain path a).end ≡ wrong (whole_file_fault (setting_of base Import path) code.NoFile)
absent_import base when toolchain path a h =
    wrong_after (import_execution base when toolchain path a) (λ l. leaves l.value) (whole_file_fault (setting_of base Import path) code.NoFile) (absent_execution base when toolchain path a h)
