-- Steps that are trees of questions, one behind another.
use Rattle.std.proofs.Common.{◌≡◌, ℕ, Bool, true, false, List, [], ◌∷◌, ◌++◌, if◌then◌else◌, Option, Some, None, refl, sym, ◌∙◌, ap, subst}
use Rattle.std.proofs.lemmas.List.{append_assoc, append-nil}
use Rattle.gn_paths.specs.declared.place.Place.{Place}
use Rattle.gn_definitions.specs.Imported.{ImportState}
use Rattle.gn_faults.specs.declared.fault.Fault.{Fault}
use Rattle.gn_items.specs.Effects.{Effects, with_asked}
use Rattle.gn_runs.specs.Runs.{Question, content_of, import_of, Content, Imported, has_value, is_unusable, Answers, End, ended, wrong, spoiled, needs, Run, followed, asking_content, asking_import, Tree, leaf, fault_leaf, asks_content, asks_import, run_tree, IsTree}
use Rattle.gn_runs.proofs.Trees.{bind, run_bind}
use Rattle.gn_environment.specs.Environment.{Environment}
use Rattle.gn_meaning.specs.Steps.{Left, Steps, ends, breaks, onward, then_do, content_asked, import_asked}

-- a run behind questions that were asked before
abbrev pub asked_before : {A : Type 0} → List Question → Run A → Run A
asked_before asked run = record { end = run.end; asked = asked ++ run.asked }

-- what is left has asked all that was asked
abbrev pub HasAsked : {A : Type 0} → List Question → End (Left A) → Type 0
HasAsked asked (ended l) = l.effects.asked ≡ asked
HasAsked asked (wrong fault) = Unit {0}
HasAsked asked (spoiled path place) = Unit {0}
HasAsked asked (needs question place) = Unit {0}

-- a run over known answers is a tree of questions behind those that were asked before
pub record IsTreeBehind {A : Type 0} (asked : List Question) (meaning : Answers → Run (Left A)) : Type 0 where
  pub tree : Tree (Left A)
  pub same : (a : Answers) → meaning a ≡ asked_before asked (run_tree tree a)
  pub noted : (a : Answers) → HasAsked (asked ++ (run_tree tree a).asked) (run_tree tree a).end

-- steps that ask nothing
abbrev pub AreQuiet : {A : Type 0} → Steps A → Type 0
AreQuiet steps = (env : Environment) (out : Effects) → IsTreeBehind out.asked (λ a. steps env out)

-- steps over known answers, each of which is a tree
abbrev pub AreTrees : {A : Type 0} → (Answers → Steps A) → Type 0
AreTrees steps = (env : Environment) (out : Effects) → IsTreeBehind out.asked (λ a. steps a env out)

-- where nothing was asked before, it is a tree
pub whole_tree : {A : Type 0} (meaning : Answers → Run (Left A)) → IsTreeBehind [] meaning → IsTree meaning
whole_tree meaning t = (t.tree, t.same)

-- One behind another

module _ {A B : Type 0} (asked : List Question) (f : A → Environment → Effects → Run (Left B)) (n : Left A → Run (Left B)) (e : (l : Left A) → f l.value l.environment l.effects ≡ asked_before l.effects.asked (n l)) where
  do_same : (end : End (Left A)) (more : List Question) → HasAsked (asked ++ more) end → onward end (asked ++ more) f ≡ asked_before asked (followed (record { end = end; asked = more }) n)
  do_same (ended l) more h =
      e l ∙ ap (λ (before : List Question). record { end = (n l).end; asked = before ++ (n l).asked }) h
      ∙ ap (λ (all : List Question). record { end = (n l).end; asked = all }) (append_assoc asked more (n l).asked)
  do_same (wrong fault) more h = refl
  do_same (spoiled path place) more h = refl
  do_same (needs question place) more h = refl

module _ {A B : Type 0} (asked : List Question) (n : Left A → Run (Left B)) (k : (l : Left A) → HasAsked (l.effects.asked ++ (n l).asked) (n l).end) where
  do_noted : (end : End (Left A)) (more : List Question) → HasAsked (asked ++ more) end → HasAsked (asked ++ (followed (record { end = end; asked = more }) n).asked) (followed (record { end = end; asked = more }) n).end
  do_noted (ended l) more h =
      subst (λ (all : List Question). HasAsked all (n l).end) (ap (λ (before : List Question). before ++ (n l).asked) h ∙ append_assoc asked more (n l).asked) (k l)
  do_noted (wrong fault) more h = tt
  do_noted (spoiled path place) more h = tt
  do_noted (needs question place) more h = tt

-- what is done behind a tree
pub tree_do : {A B : Type 0} {asked : List Question} (m : Answers → Run (Left A)) (f : Answers → A → Environment → Effects → Run (Left B)) → IsTreeBehind asked m → ((x : A) (env : Environment) (out : Effects) → IsTreeBehind out.asked (λ a. f a x env out)) → IsTreeBehind asked (λ a. then_do (m a) (f a))
tree_do {A} {B} {asked} m f t g =
    let next : Left A → Tree (Left B) = λ l. (g l.value l.environment l.effects).tree in
    record {
      tree = bind t.tree next;
      same = λ a.
          ap (λ (r : Run (Left A)). then_do r (f a)) (t.same a)
          ∙ do_same asked (f a) (λ l. run_tree (next l) a) (λ l. (g l.value l.environment l.effects).same a) (run_tree t.tree a).end (run_tree t.tree a).asked (t.noted a)
          ∙ sym (ap (asked_before asked) (run_bind t.tree next a));
      noted = λ a.
          subst (λ (r : Run (Left B)). HasAsked (asked ++ r.asked) r.end) (sym (run_bind t.tree next a))
          (do_noted asked (λ l. run_tree (next l) a) (λ l. (g l.value l.environment l.effects).noted a) (run_tree t.tree a).end (run_tree t.tree a).asked (t.noted a));
    }

-- a value, and a fault
pub tree_ends : {A : Type 0} (x : A) (env : Environment) (out : Effects) → IsTreeBehind out.asked (λ a. ends x env out)
tree_ends x env out = record {
  tree = leaf (record { value = x; environment = env; effects = out });
  same = λ a. ap (λ (all : List Question). record { end = ended (record { value = x; environment = env; effects = out }); asked = all }) (sym (append-nil out.asked));
  noted = λ a. sym (append-nil out.asked);
}

pub tree_fails : {A : Type 0} (fault : Fault) (out : Effects) → IsTreeBehind {A = A} out.asked (λ a. breaks fault out)
tree_fails fault out = record {
  tree = fault_leaf fault;
  same = λ a. ap (λ (all : List Question). record { end = wrong fault; asked = all }) (sym (append-nil out.asked));
  noted = λ a. tt;
}

-- A question for the content of a file, and one for what an import leaves

module _ {A : Type 0} (path : List ℕ) (place : Place) (out : Effects) where
  content_same : (x : Option Content) (m : Content → Effects → Run (Left A)) (n : Content → Run (Left A)) → ((y : Content) → m y (with_asked (content_of path) out) ≡ asked_before (out.asked ++ content_of path ∷ []) (n y)) → content_asked x path place out m ≡ asked_before out.asked (asking_content x path place n)
  content_same None m n e = refl
  content_same (Some y) m n e = e y ∙ ap (λ (all : List Question). record { end = (n y).end; asked = all }) (append_assoc out.asked (content_of path ∷ []) (n y).asked)

  content_noted : (x : Option Content) (n : Content → Run (Left A)) → ((y : Content) → HasAsked ((out.asked ++ content_of path ∷ []) ++ (n y).asked) (n y).end) → HasAsked (out.asked ++ (asking_content x path place n).asked) (asking_content x path place n).end
  content_noted None n e = tt
  content_noted (Some y) n e = subst (λ (all : List Question). HasAsked all (n y).end) (append_assoc out.asked (content_of path ∷ []) (n y).asked) (e y)

  import_same : (x : Option Imported) (m : ImportState → Effects → Run (Left A)) (n : ImportState → Run (Left A)) → ((y : ImportState) → m y (with_asked (import_of path) out) ≡ asked_before (out.asked ++ import_of path ∷ []) (n y)) → import_asked x path place out m ≡ asked_before out.asked (asking_import x path place n)
  import_same None m n e = refl
  import_same (Some is_unusable) m n e = refl
  import_same (Some (has_value y)) m n e = e y ∙ ap (λ (all : List Question). record { end = (n y).end; asked = all }) (append_assoc out.asked (import_of path ∷ []) (n y).asked)

  import_noted : (x : Option Imported) (n : ImportState → Run (Left A)) → ((y : ImportState) → HasAsked ((out.asked ++ import_of path ∷ []) ++ (n y).asked) (n y).end) → HasAsked (out.asked ++ (asking_import x path place n).asked) (asking_import x path place n).end
  import_noted None n e = tt
  import_noted (Some is_unusable) n e = tt
  import_noted (Some (has_value y)) n e = subst (λ (all : List Question). HasAsked all (n y).end) (append_assoc out.asked (import_of path ∷ []) (n y).asked) (e y)

  pub tree_asks_content : (m : Answers → Content → Effects → Run (Left A)) → ((y : Content) → IsTreeBehind (out.asked ++ content_of path ∷ []) (λ a. m a y (with_asked (content_of path) out))) → IsTreeBehind out.asked (λ a. content_asked (a.contents path) path place out (m a))
  tree_asks_content m t = record {
    tree = asks_content path place (λ y. (t y).tree);
    same = λ a. content_same (a.contents path) (m a) (λ y. run_tree (t y).tree a) (λ y. (t y).same a);
    noted = λ a. content_noted (a.contents path) (λ y. run_tree (t y).tree a) (λ y. (t y).noted a);
  }

  pub tree_asks_import : (m : Answers → ImportState → Effects → Run (Left A)) → ((y : ImportState) → IsTreeBehind (out.asked ++ import_of path ∷ []) (λ a. m a y (with_asked (import_of path) out))) → IsTreeBehind out.asked (λ a. import_asked (a.imports path) path place out (m a))
  tree_asks_import m t = record {
    tree = asks_import path place (λ y. (t y).tree);
    same = λ a. import_same (a.imports path) (m a) (λ y. run_tree (t y).tree a) (λ y. (t y).same a);
    noted = λ a. import_noted (a.imports path) (λ y. run_tree (t y).tree a) (λ y. (t y).noted a);
  }

-- one of two
pub tree_if : {A : Type 0} {asked : List Question} (b : Bool) (m n : Answers → Run (Left A)) → IsTreeBehind asked m → IsTreeBehind asked n → IsTreeBehind asked (λ a. if b then m a else n a)
tree_if true m n t u = t
tree_if false m n t u = u
