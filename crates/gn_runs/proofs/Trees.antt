-- Trees of questions one behind another, and the rules by which a definition is a tree.
use Rattle.std.proofs.Common.{◌≡◌, ℕ, Bool, true, false, List, ◌∷◌, ◌++◌, if◌then◌else◌, Option, Some, None, refl, sym, ◌∙◌, ap}
use Rattle.gn_paths.specs.declared.place.Place.{Place}
use Rattle.gn_definitions.specs.Imported.{ImportState}
use Rattle.gn_faults.specs.declared.fault.Fault.{Fault}
use Rattle.gn_runs.specs.Runs.{Question, content_of, import_of, Content, Imported, has_value, is_unusable, Answers, End, ended, wrong, spoiled, needs, Run, after, followed, leaves, fails, asking_content, asking_import, Tree, leaf, fault_leaf, asks_content, asks_import, run_tree, IsTree}

-- a run with one question before those that it asks
abbrev pub asked_first : {A : Type 0} → Question → Run A → Run A
asked_first q run = record { end = run.end; asked = q ∷ run.asked }

-- one tree behind the leaves of another
abbrev pub bind : {A B : Type 0} → Tree A → (A → Tree B) → Tree B
bind (leaf x) f = f x
bind (fault_leaf fault) f = fault_leaf fault
bind (asks_content path place next) f = asks_content path place (λ y. bind (next y) f)
bind (asks_import path place next) f = asks_import path place (λ y. bind (next y) f)

after_cons : {A B : Type 0} (end : End A) (q : Question) (asked : List Question) (f : A → Run B) → after end (q ∷ asked) f ≡ asked_first q (after end asked f)
after_cons (ended x) q asked f = refl
after_cons (wrong fault) q asked f = refl
after_cons (spoiled path place) q asked f = refl
after_cons (needs r place) q asked f = refl

asked_one : {A B : Type 0} (q : Question) (m : Run A) (f : A → Run B) (n : Run B) → n ≡ followed m f → asked_first q n ≡ after m.end (q ∷ m.asked) f
asked_one q m f n e = ap (asked_first q) e ∙ sym (after_cons m.end q m.asked f)

content_then : {A B : Type 0} (x : Option Content) (path : List ℕ) (place : Place) (m : Content → Run A) (f : A → Run B) (n : Content → Run B) → ((y : Content) → n y ≡ followed (m y) f) → asking_content x path place n ≡ followed (asking_content x path place m) f
content_then None path place m f n e = refl
content_then (Some y) path place m f n e = asked_one (content_of path) (m y) f (n y) (e y)

import_then : {A B : Type 0} (x : Option Imported) (path : List ℕ) (place : Place) (m : ImportState → Run A) (f : A → Run B) (n : ImportState → Run B) → ((y : ImportState) → n y ≡ followed (m y) f) → asking_import x path place n ≡ followed (asking_import x path place m) f
import_then None path place m f n e = refl
import_then (Some is_unusable) path place m f n e = refl
import_then (Some (has_value y)) path place m f n e = asked_one (import_of path) (m y) f (n y) (e y)

pub run_bind : {A B : Type 0} (t : Tree A) (f : A → Tree B) (a : Answers) → run_tree (bind t f) a ≡ followed (run_tree t a) (λ x. run_tree (f x) a)
run_bind (leaf x) f a = refl
run_bind (fault_leaf fault) f a = refl
run_bind (asks_content path place next) f a =
    content_then (a.contents path) path place (λ y. run_tree (next y) a) (λ x. run_tree (f x) a) (λ y. run_tree (bind (next y) f) a) (λ y. run_bind (next y) f a)
run_bind (asks_import path place next) f a =
    import_then (a.imports path) path place (λ y. run_tree (next y) a) (λ x. run_tree (f x) a) (λ y. run_tree (bind (next y) f) a) (λ y. run_bind (next y) f a)

after_same : {A B : Type 0} (end : End A) (asked : List Question) (f g : A → Run B) → ((x : A) → f x ≡ g x) → after end asked f ≡ after end asked g
after_same {B = B} (ended x) asked f g e = ap (λ (r : Run B). record { end = r.end; asked = asked ++ r.asked }) (e x)
after_same (wrong fault) asked f g e = refl
after_same (spoiled path place) asked f g e = refl
after_same (needs q place) asked f g e = refl

-- what is done behind a tree
pub tree_then : {A B : Type 0} (m : Answers → Run A) (f : Answers → A → Run B) → IsTree m → ((x : A) → IsTree (λ a. f a x)) → IsTree (λ a. followed (m a) (f a))
tree_then {A} m f t g = (
  bind t.0 (λ x. (g x).0),
  λ a. ap (λ (r : Run A). followed r (f a)) (t.1 a)
      ∙ after_same (run_tree t.0 a).end (run_tree t.0 a).asked (f a) (λ x. run_tree (g x).0 a) (λ x. (g x).1 a)
      ∙ sym (run_bind t.0 (λ x. (g x).0) a),
)

-- what is left, and a fault
pub tree_leaves : {A : Type 0} (x : A) → IsTree (λ a. leaves x)
tree_leaves x = (leaf x, λ a. refl)

pub tree_fails : {A : Type 0} (fault : Fault) → IsTree {A = A} (λ a. fails fault)
tree_fails fault = (fault_leaf fault, λ a. refl)

content_same : {A : Type 0} (x : Option Content) (path : List ℕ) (place : Place) (m n : Content → Run A) → ((y : Content) → m y ≡ n y) → asking_content x path place m ≡ asking_content x path place n
content_same None path place m n e = refl
content_same (Some y) path place m n e = ap (asked_first (content_of path)) (e y)

import_same : {A : Type 0} (x : Option Imported) (path : List ℕ) (place : Place) (m n : ImportState → Run A) → ((y : ImportState) → m y ≡ n y) → asking_import x path place m ≡ asking_import x path place n
import_same None path place m n e = refl
import_same (Some is_unusable) path place m n e = refl
import_same (Some (has_value y)) path place m n e = ap (asked_first (import_of path)) (e y)

-- a question for the content of a file, and one for what an import leaves
pub tree_asks_content : {A : Type 0} (path : List ℕ) (place : Place) (m : Answers → Content → Run A) → ((y : Content) → IsTree (λ a. m a y)) → IsTree (λ a. asking_content (a.contents path) path place (m a))
tree_asks_content path place m t =
    (asks_content path place (λ y. (t y).0), λ a. content_same (a.contents path) path place (m a) (λ y. run_tree (t y).0 a) (λ y. (t y).1 a))

pub tree_asks_import : {A : Type 0} (path : List ℕ) (place : Place) (m : Answers → ImportState → Run A) → ((y : ImportState) → IsTree (λ a. m a y)) → IsTree (λ a. asking_import (a.imports path) path place (m a))
tree_asks_import path place m t =
    (asks_import path place (λ y. (t y).0), λ a. import_same (a.imports path) path place (m a) (λ y. run_tree (t y).0 a) (λ y. (t y).1 a))

-- one of two
pub tree_if : {A : Type 0} (b : Bool) (m n : Answers → Run A) → IsTree m → IsTree n → IsTree (λ a. if b then m a else n a)
tree_if true m n t u = t
tree_if false m n t u = u

-- what does the same as a tree
pub tree_same : {A : Type 0} (m n : Answers → Run A) → ((a : Answers) → m a ≡ n a) → IsTree n → IsTree m
tree_same m n e t = (t.0, λ a. e a ∙ t.1 a)
