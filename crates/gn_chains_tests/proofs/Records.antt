-- The records of a graph stay right.
use Rattle.std.proofs.Common.{◌≡◌, List, [], ◌∷◌, ◌++◌, Bool, true, false, ◌||◌, ◌&&◌, cond, Option, Some, None, IfSome, is_some, refl, sym, ◌∙◌, ap, subst}
use Rattle.std.specs.List.{list_all}
use Rattle.std.proofs.lemmas.List.Folds.{list_all-append}
use Rattle.std.proofs.lemmas.Bool.{and_parts}
use Rattle.indexmap.specs.IndexMap.{IndexMap, get, Updates}
use Rattle.gn_labels.specs.declared.label.Label.{Label}
use Rattle.gn_labels.specs.contracts.label.LabelPartialEq.TheImpl.{eq-value}
use Rattle.gn_dependencies.specs.Lists.{same_label, has}
use Rattle.gn_dependencies.specs.Shape.{Shape, all_deps}
use Rattle.gn_dependencies.specs.Configurations.{IsPushed, IsPushedPublic, AreRecorded}
use Rattle.gn_dependencies.proofs.Same.{same}
use Rattle.gn_dependencies.proofs.SameLabel.{tie}
use Rattle.gn_chains_tests.specs.declared.tree.Record.{Record}
use Rattle.gn_chains_tests.specs.declared.tree.Tree.{Tree}
use Rattle.gn_chains_tests.specs.Trees.{record_in, pushed_of, pushed_public_of, shape_in, records_in, IsRight, HoldsRecords}

pub all_of_three : (p : Label → Bool) (xs ys zs : List Label) → list_all p ((xs ++ ys) ++ zs) ≡ (list_all p xs && (list_all p ys && list_all p zs))
all_of_three p xs ys zs = list_all-append p (xs ++ ys) zs ∙ ap (λ b. b && list_all p zs) (list_all-append p xs ys) ∙ joined (list_all p xs) (list_all p ys) (list_all p zs)
  where
    joined : (a b c : Bool) → ((a && b) && c) ≡ (a && (b && c))
    joined true b c = refl
    joined false b c = refl

all_by : (p : Label → Bool) (d x : Label) (xs : List Label) (b : Bool) → same_label d x ≡ b → (p x && list_all p xs) ≡ true → (b || has xs d) ≡ true
    → (list_all p xs ≡ true → has xs d ≡ true → p d ≡ true) → p d ≡ true
all_by p d x xs true e a h onward = let s : d ≡ x = same d x e in ap p s ∙ (and_parts (p x) (list_all p xs) a).0
all_by p d x xs false e a h onward = onward (and_parts (p x) (list_all p xs) a).1 h

each : (p : Label → Bool) (d : Label) (xs : List Label) → list_all p xs ≡ true → has xs d ≡ true → p d ≡ true
each p d [] a h = absurd (cc h)
each p d (x ∷ xs) a h = all_by p d x xs (same_label d x) refl a h (each p d xs)

recorded : (g : Shape) (d : Label) (r : Option Record) → is_some r ≡ true → IfSome r (IsRight g d) → IsPushed g d (pushed_of r) × IsPushedPublic g d (pushed_public_of r)
recorded g d None h right = absurd (cc h)
recorded g d (Some r) h right = right

pub ready : (t : Tree) (target : Label) → HoldsRecords t → list_all (λ label. is_some (record_in t label)) (all_deps (shape_in t) target) ≡ true
    → AreRecorded (shape_in t) (records_in t) target
ready t target holds all d h =
    recorded (shape_in t) d (record_in t d) (each (λ label. is_some (record_in t label)) d (all_deps (shape_in t) target) all h) (holds d)

put_by : (g : Shape) (b : Bool) (t d : Label) (r : Record) (old : Option Record) → eq-value.it t d ≡ b → IsRight g t r → IfSome old (IsRight g d)
    → IfSome (cond b (Some r) old) (IsRight g d)
put_by g true t d r old e right h = subst (λ z. IsRight g z r) (same t d (sym (tie t d) ∙ e)) right
put_by g false t d r old e right h = h

pub put : (g : Shape) (t : Label) (r : Record) {S : Type 0} (old new : IndexMap Label Record S) → Updates eq-value.it old new t (Some r) → IsRight g t r
    → ((d : Label) → IfSome (get eq-value.it old d) (IsRight g d)) → (d : Label) → IfSome (get eq-value.it new d) (IsRight g d)
put g t r old new u right holds d =
    subst (λ z. IfSome z (IsRight g d)) (sym (u.0 d)) (put_by g (eq-value.it t d) t d r (get eq-value.it old d) refl right (holds d))
