-- Paths that stand once each, and the set of those that are known.
use Rattle.std.proofs.Common.{◌≡◌, ℕ, Bool, true, false, cond, ◌||◌, List, [], ◌∷◌, ◌++◌, map, nat_cmp, refl, sym, ap, ◌∙◌}
use Rattle.std.proofs.lemmas.List.Folds.{list_any-append}
use Rattle.std.proofs.lemmas.Map.Keys.{IsDistinct-push}
use Rattle.std.proofs.lemmas.Map.Text.{is_eq-slice_cmp}
use Rattle.std.proofs.lemmas.Slice.Eq.{bytes_eq-Decides}
use Rattle.std.specs.List.{list_any, IsDistinct}
use Rattle.std.specs.Str.{bytes_eq}
use Rattle.std.specs.Cmp.Lexicographic.{slice_cmp, nat_list_eq_equiv}
use Rattle.std.specs.BTreeMap.{is_at}
use Rattle.std.specs.BTreeSet.{BTreeSet, Updates}
use Rattle.gn_substs.specs.declared.subst.Subst.{Subst}
use Rattle.gn_define.specs.Known.{HasPaths}
use Rattle.gn_define.specs.Outputs.{with_new, paths_behind}

-- the order of texts finds no difference exactly between equal ones
tie : (k q : List ℕ) → is_at (slice_cmp nat_cmp k) q ≡ bytes_eq q k
tie k q = is_eq-slice_cmp k q ∙ nat_list_eq_equiv.symm k q

one_more : (b a : Bool) → cond b true a ≡ (a || (b || false))
one_more true true = refl
one_more true false = refl
one_more false true = refl
one_more false false = refl

-- a path more in the set, and behind the others
pub has_one_more : (known new : BTreeSet (List ℕ)) (paths : List (List ℕ)) (path : List ℕ) → Updates (slice_cmp nat_cmp) known new path true → HasPaths known paths
    → HasPaths new (paths ++ path ∷ [])
has_one_more known new paths path u h q =
    u.0 q ∙ (λ i. cond (tie path q i) true (h q i)) ∙ one_more (bytes_eq q path) (list_any (bytes_eq q) paths)
    ∙ sym (list_any-append (bytes_eq q) paths (path ∷ []))

-- one more path keeps the others apart
distinct_with : (made : List (List ℕ)) (path : List ℕ) → IsDistinct bytes_eq made → IsDistinct bytes_eq (with_new made path)
distinct_with made path d = by (list_any (bytes_eq path) made) refl
  where
    by : (b : Bool) → list_any (bytes_eq path) made ≡ b → IsDistinct bytes_eq (cond b made (made ++ path ∷ []))
    by true e = d
    by false e = IsDistinct-push nat_list_eq_equiv made path d e

distinct_behind : (path : Subst → List ℕ) (made : List (List ℕ)) (ss : List Subst) → IsDistinct bytes_eq made → IsDistinct bytes_eq (paths_behind path made ss)
distinct_behind path made [] d = d
distinct_behind path made (s ∷ ss) d = distinct_behind path (with_new made (path s)) ss (distinct_with made (path s) d)

pub stand_once : (path : Subst → List ℕ) (ss : List Subst) → IsDistinct bytes_eq (paths_behind path [] ss)
unfolding IsDistinct
stand_once path ss = distinct_behind path [] ss tt

or_none : (a : Bool) → a ≡ (a || false)
or_none true = refl
or_none false = refl

or_all : (a b c : Bool) → ((a || b) || c) ≡ (a || (b || c))
or_all true b c = refl
or_all false b c = refl

-- a path is among some and one more where it is among those or equals that one
among_with : (p : List ℕ) (made : List (List ℕ)) (path : List ℕ) → list_any (bytes_eq p) (with_new made path) ≡ (list_any (bytes_eq p) made || bytes_eq p path)
among_with p made path = by (list_any (bytes_eq path) made) refl
  where
    known : list_any (bytes_eq path) made ≡ true → (b : Bool) → bytes_eq p path ≡ b → list_any (bytes_eq p) made ≡ (list_any (bytes_eq p) made || b)
    known e true is =
        let here : list_any (bytes_eq p) made ≡ true = ap (λ q. list_any (bytes_eq q) made) ((bytes_eq-Decides p path).0 is) ∙ e in
        here ∙ sym (ap (λ a. a || true) here)
    known e false is = or_none (list_any (bytes_eq p) made)

    by : (b : Bool) → list_any (bytes_eq path) made ≡ b → list_any (bytes_eq p) (cond b made (made ++ path ∷ [])) ≡ (list_any (bytes_eq p) made || bytes_eq p path)
    by true e = known e (bytes_eq p path) refl
    by false e = list_any-append (bytes_eq p) made (path ∷ []) ∙ ap (λ b. list_any (bytes_eq p) made || b) (sym (or_none (bytes_eq p path)))

among_behind : (path : Subst → List ℕ) (p : List ℕ) (made : List (List ℕ)) (ss : List Subst)
    → list_any (bytes_eq p) (paths_behind path made ss) ≡ (list_any (bytes_eq p) made || list_any (bytes_eq p) (map path ss))
among_behind path p made [] = or_none (list_any (bytes_eq p) made)
among_behind path p made (s ∷ ss) =
    among_behind path p (with_new made (path s)) ss ∙ ap (λ b. b || list_any (bytes_eq p) (map path ss)) (among_with p made (path s))
    ∙ or_all (list_any (bytes_eq p) made) (bytes_eq p (path s)) (list_any (bytes_eq p) (map path ss))

pub are_all : (path : Subst → List ℕ) (p : List ℕ) (ss : List Subst) → list_any (bytes_eq p) (paths_behind path [] ss) ≡ list_any (bytes_eq p) (map path ss)
are_all path p ss = among_behind path p [] ss
