-- Maps and sets of references that get one name more.
use Rattle.std.proofs.Common.{◌≡◌, ℕ, List, Bool, true, false, cond, ◌||◌, if◌then◌else◌, Option, Some, None, option_map, Bor, refl, sym, ◌∙◌, ap, subst}
use Rattle.std.specs.Str.{bytes_eq}
use Rattle.std.proofs.lemmas.Slice.Eq.{bytes_eq-Decides}
use Rattle.indexmap.specs.IndexMap.{IndexMap, get_by}
use Rattle.indexmap.specs.IndexSet.{IndexSet, contains_by}
use Rattle.gn_file_faults.specs.declared.uses.NameUse.{NameUse}
use Rattle.gn_file_faults.specs.Uses.{Use, meant, is_name, is_earlier, earlier, first_in}
use Rattle.gn_file_faults.specs.Imports.{has}

-- a use that stands before those of its name is put down
pub put_is : {S : Type 0} (old new : IndexMap (Bor (List ℕ)) NameUse S) (a : NameUse) → is_earlier (first_in old a.name.now) (meant a) ≡ true
    → ((q : List ℕ) → get_by (is_name q) new ≡ cond (bytes_eq a.name.now q) (Some a) (get_by (is_name q) old)) → (name : List ℕ)
    → first_in new name ≡ (if bytes_eq a.name.now name then earlier (first_in old name) (meant a) else first_in old name)
put_is old new a first updates name = ap (option_map meant) (updates name) ∙ by (bytes_eq a.name.now name) refl
  where
    by : (b : Bool) → bytes_eq a.name.now name ≡ b
        → option_map meant (cond b (Some a) (get_by (is_name name) old)) ≡ (if b then earlier (first_in old name) (meant a) else first_in old name)
    by true e =
        subst (λ (n : List ℕ). Some (meant a) ≡ earlier (first_in old n) (meant a)) ((bytes_eq-Decides a.name.now name).0 e)
        (ap (λ (b : Bool). if b then Some (meant a) else first_in old a.name.now) (sym first))
    by false e = refl

-- and one that stands behind one of them isn't
pub kept_is : {S : Type 0} (old : IndexMap (Bor (List ℕ)) NameUse S) (a : NameUse) → is_earlier (first_in old a.name.now) (meant a) ≡ false → (name : List ℕ)
    → first_in old name ≡ (if bytes_eq a.name.now name then earlier (first_in old name) (meant a) else first_in old name)
kept_is old a first name = by (bytes_eq a.name.now name) refl
  where
    by : (b : Bool) → bytes_eq a.name.now name ≡ b → first_in old name ≡ (if b then earlier (first_in old name) (meant a) else first_in old name)
    by true e =
        subst (λ (n : List ℕ). first_in old n ≡ earlier (first_in old n) (meant a)) ((bytes_eq-Decides a.name.now name).0 e)
        (ap (λ (b : Bool). if b then Some (meant a) else first_in old a.name.now) (sym first))
    by false e = refl

-- a set that gets a path
pub set_more : {S : Type 0} (old new : IndexSet (Bor (List ℕ)) S) (path : List ℕ) → ((q : List ℕ) → has new q ≡ cond (bytes_eq path q) true (has old q)) → (other : List ℕ)
    → has new other ≡ (bytes_eq path other || has old other)
set_more old new path updates other = updates other ∙ by (bytes_eq path other)
  where
    by : (b : Bool) → cond b true (has old other) ≡ (b || has old other)
    by true = refl
    by false = refl

-- a set that has the path
pub set_same : {S : Type 0} (old : IndexSet (Bor (List ℕ)) S) (path : List ℕ) → has old path ≡ true → (other : List ℕ) → has old other ≡ (bytes_eq path other || has old other)
set_same old path there other = by (bytes_eq path other) refl
  where
    by : (b : Bool) → bytes_eq path other ≡ b → has old other ≡ (b || has old other)
    by true e = subst (λ (q : List ℕ). has old q ≡ true) ((bytes_eq-Decides path other).0 e) there
    by false e = refl
