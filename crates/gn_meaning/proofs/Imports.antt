-- An import is a tree of questions: the content of the file, then what importing it leaves.
use Rattle.std.proofs.Common.{ℕ, List, Result, Ok, Err}
use Rattle.gn_paths.specs.declared.error.PathFault.{PathFault}
use Rattle.gn_paths.specs.Components.{is_system}
use Rattle.gn_paths.specs.Resolve.{path_meant}
use Rattle.gn_tree.specs.declared.position.Position.{Position}
use Rattle.gn_values.specs.Val.{Val, vstr}
use Rattle.gn_items.specs.Effects.{with_asked}
use Rattle.gn_runs.specs.Runs.{content_of, import_of, Content, has_bytes, is_absent, is_too_big}
use Rattle.gn_environment.specs.Environment.{Environment}
use Rattle.gn_environment.specs.Declaring.{import_brought}
use Rattle.gn_meaning.specs.Imports.{merged_to, content_runs, path_runs, imported_runs}
use Rattle.gn_meaning.proofs.Steps.{AreQuiet, AreTrees, tree_ends, tree_fails, tree_if, tree_asks_content, tree_asks_import}

merged_tree : (r : Result Environment (List ℕ)) (p : Position) → AreQuiet (merged_to r p)
merged_tree (Ok after) p env out = tree_ends _ after out
merged_tree (Err name) p env out = tree_fails _ out

content_tree : (content : Content) (path : List ℕ) (at p : Position) → AreTrees (λ a. content_runs content a path at p)
content_tree is_absent path at p env out = tree_fails _ out
content_tree (has_bytes bytes) path at p env out = tree_asks_import path _ out _ (λ value. merged_tree (import_brought p value env) p env (with_asked (import_of path) out))
content_tree is_too_big path at p env out = tree_asks_import path _ out _ (λ value. merged_tree (import_brought p value env) p env (with_asked (import_of path) out))

path_tree : (r : Result (List ℕ) PathFault) (at p : Position) → AreTrees (λ a. path_runs r a at p)
path_tree (Err e) at p env out = tree_fails _ out
path_tree (Ok path) at p env out =
    tree_if (is_system path) _ _ (tree_fails _ out) (tree_asks_content path _ out _ (λ content. content_tree content path at p env (with_asked (content_of path) out)))

pub imported_tree : (v : Val) (at p : Position) → AreTrees (λ a. imported_runs a v at p)
unfolding imported_runs
imported_tree (vstr text) at p env out = path_tree (path_meant env.setting.directory text) at p env out
imported_tree v at p env out = tree_fails _ out
