-- Paths in the order of their bytes, each once: which they are, and how many.
use Rattle.std.proofs.Common.{◌≡◌, ℕ, ◌≤◌, length, List, [], ◌∷◌, map, Bool, true, false, ◌||◌, ◌&&◌, Option, Some, None, refl, sym, ◌∙◌, ap, subst, inl, inr}
use Rattle.std.specs.Prelude.{◌↔◌, T, is_some, Decides}
use Rattle.std.specs.declared.cmp.Ordering.{Ordering}
use Rattle.std.specs.declared.cmp.Ordering.TheVariants.{Less}
use Rattle.std.specs.Ordering.{is_lt, eq_by_cmp, nat_cmp}
use Rattle.std.specs.Cmp.{Equal-is, both_ways, eq_by_cmp_equiv, tied_itself}
use Rattle.std.specs.Cmp.Lexicographic.{slice_cmp, nat_list_cmp_total}
use Rattle.std.specs.List.{list_any, AllByRecursion, IsDistinct}
use Rattle.std.specs.List.Sorted.{IsStrictlySortedBy}
use Rattle.std.specs.FinMap.{FinMap, get, keys, entries, entries_sorted, from_entries, from_sorted, entries-from_sorted, get-from_sorted, get-from_entries, contains_key-keys, same_map}
use Rattle.std.specs.FinMap.Entries.{find, below_all, is_sorted, is_some-find}
use Rattle.std.proofs.lemmas.Map.Keys.{sorted_head, sorted_tail, IsDistinct-from_sorted}
use Rattle.std.proofs.lemmas.Map.Made.{length-le_from_is_member, length-from_same_keys, AllPairs-from_IsDistinct, IsDistinct-from_AllPairs}
use Rattle.std.proofs.lemmas.Map.Lookups.{exact_bytes}
use Rattle.std.proofs.lemmas.Bool.{or_left, or_right}
use Rattle.gn_basics.proofs.Tests.{second_holds}
use Rattle.gn_basics.proofs.Orders.{less_from_test}
use Rattle.gn_runs.specs.Runs.{Question, content_of, import_of}
use Rattle.gn_runs.specs.Laws.{IsAsked}
use Rattle.gn_imports.specs.Asked.{contents_asked, imports_asked, in_path_order}
use Rattle.gn_imports.specs.Projects.{IsOneOf}
use Rattle.gn_runs.proofs.TreeLaws.{import_path}

-- The order of paths, and whether two are the same by it
abbrev pub path_cmp : List ℕ → List ℕ → Ordering
path_cmp = slice_cmp nat_cmp

abbrev pub path_eq : List ℕ → List ℕ → Bool
path_eq = eq_by_cmp path_cmp

pub path_eq-Decides : (p q : List ℕ) → Decides (path_eq p q) (p ≡ q)
path_eq-Decides p q = (λ e. exact_bytes p q ((Equal-is (path_cmp p q)).0 e), λ e. subst (λ r. path_eq p r ≡ true) e ((Equal-is (path_cmp p p)).1 (tied_itself nat_list_cmp_total p)))

-- Whether a path is one of some paths, as a test

or_cases : (b c : Bool) → (b || c) ≡ true → (b ≡ true → ⊥) → c ≡ true
or_cases true c h none = absurd (none refl)
or_cases false c h none = h

and_both : (b c : Bool) → b ≡ true → T c → T (b && c)
and_both true c e h = h
and_both false c e h = cc

and_first : (b c : Bool) → T (b && c) → b ≡ true
and_first true c h = refl
and_first false c h = absurd h

pub any_one : (ps : List (List ℕ)) (q : List ℕ) → list_any (path_eq q) ps ≡ true → IsOneOf q ps
any_one [] q h = cc
any_one (p ∷ ps) q h = by (path_eq q p) refl (any_one ps q)
  where
    by : (b : Bool) → path_eq q p ≡ b → (list_any (path_eq q) ps ≡ true → IsOneOf q ps) → IsOneOf q (p ∷ ps)
    by true e ih = inl ((path_eq-Decides q p).0 e)
    by false e ih = inr (ih (or_cases (path_eq q p) (list_any (path_eq q) ps) h (λ f. cc)))

pub one_any : (ps : List (List ℕ)) (q : List ℕ) → IsOneOf q ps → list_any (path_eq q) ps ≡ true
one_any [] q h = absurd h
one_any (p ∷ ps) q (inl e) = or_left (path_eq q p) (list_any (path_eq q) ps) ((path_eq-Decides q p).1 e)
one_any (p ∷ ps) q (inr h) = or_right (path_eq q p) (list_any (path_eq q) ps) (one_any ps q h)

any_same : (ps qs : List (List ℕ)) → ((p : List ℕ) → IsOneOf p ps → IsOneOf p qs) → ((p : List ℕ) → IsOneOf p qs → IsOneOf p ps) → (q : List ℕ) → list_any (path_eq q) ps ≡ list_any (path_eq q) qs
any_same ps qs f g q =
    both_ways (list_any (path_eq q) ps) (list_any (path_eq q) qs) (λ h. one_any qs q (f q (any_one ps q h))) (λ h. one_any ps q (g q (any_one qs q h)))

-- Paths as the keys of a map

abbrev marked : List (List ℕ) → List (List ℕ × Unit {0})
marked ps = map (λ path. (path, tt {0})) ps

keys_marked : (ps : List (List ℕ)) → map (λ (e : List ℕ × Unit {0}). e.0) (marked ps) ≡ ps
keys_marked [] = refl
keys_marked (p ∷ ps) = ap (λ rest. p ∷ rest) (keys_marked ps)

found_any : (ps : List (List ℕ)) (q : List ℕ) → is_some (find path_cmp q (marked ps)) ≡ list_any (path_eq q) ps
found_any ps q = is_some-find path_cmp q (marked ps) ∙ ap (list_any (path_eq q)) (keys_marked ps)

unit_same : (x y : Option (Unit {0})) → is_some x ≡ is_some y → x ≡ y
unit_same None None e = refl
unit_same None (Some y) e = cc
unit_same (Some x) None e = cc
unit_same (Some x) (Some y) e = refl

below_marked : (p : List ℕ) (ps : List (List ℕ)) → AllByRecursion (λ y. path_cmp p y ≡ Less) ps → T (below_all path_cmp p (marked ps))
below_marked p [] h = tt
below_marked p (q ∷ ps) h = and_both (is_lt (path_cmp p q)) (below_all path_cmp p (marked ps)) (ap is_lt h.0) (below_marked p ps h.1)

sorted_marked : (ps : List (List ℕ)) → IsStrictlySortedBy path_cmp ps → T (is_sorted path_cmp (marked ps))
sorted_marked [] h = tt
sorted_marked (p ∷ ps) h =
    let below : below_all path_cmp p (marked ps) ≡ true = is_true (below_all path_cmp p (marked ps)) (below_marked p ps (sorted_head path_cmp p ps h)) in
    and_both (below_all path_cmp p (marked ps)) (is_sorted path_cmp (marked ps)) below (sorted_marked ps (sorted_tail path_cmp p ps h))
  where
    is_true : (b : Bool) → T b → b ≡ true
    is_true true h = refl
    is_true false h = absurd h

module _ {X : Type 0} where
  below_keys : (p : List ℕ) (es : List (List ℕ × X)) → T (below_all path_cmp p es) → AllByRecursion (λ y. path_cmp p y ≡ Less) (map (λ e. e.0) es)
  below_keys p [] h = tt
  below_keys p (e ∷ es) h = (less_from_test (path_cmp p e.0) (and_first (is_lt (path_cmp p e.0)) (below_all path_cmp p es) h), below_keys p es (second_holds (is_lt (path_cmp p e.0)) (below_all path_cmp p es) h))

  pub keys_sorted : (es : List (List ℕ × X)) → T (is_sorted path_cmp es) → IsStrictlySortedBy path_cmp (map (λ e. e.0) es)
  unfolding IsStrictlySortedBy
  keys_sorted [] h = tt
  keys_sorted (e ∷ es) h =
      (below_keys e.0 es (subst T (sym (and_first (below_all path_cmp e.0 es) (is_sorted path_cmp es) h)) tt), keys_sorted es (second_holds (below_all path_cmp e.0 es) (is_sorted path_cmp es) h))

-- Paths in their order

pub order_sorted : (qs : List (List ℕ)) → IsStrictlySortedBy path_cmp (in_path_order qs)
order_sorted qs = keys_sorted (entries (from_entries {R = path_cmp} (marked qs))) (entries_sorted (from_entries {R = path_cmp} (marked qs)))

order_any : (qs : List (List ℕ)) (q : List ℕ) → list_any (path_eq q) (in_path_order qs) ≡ list_any (path_eq q) qs
order_any qs q =
    sym (contains_key-keys (from_entries {R = path_cmp} (marked qs)) q)
    ∙ ap is_some (get-from_entries nat_list_cmp_total (marked qs) q)
    ∙ found_any qs q

-- they are those paths
pub order_has : (qs : List (List ℕ)) (q : List ℕ) → IsOneOf q (in_path_order qs) ↔ IsOneOf q qs
order_has qs q = (λ h. any_one qs q (sym (order_any qs q) ∙ one_any (in_path_order qs) q h), λ h. any_one (in_path_order qs) q (order_any qs q ∙ one_any qs q h))

-- a list in order that has those paths and no others is those paths in their order
pub order_same : (ps qs : List (List ℕ)) → IsStrictlySortedBy path_cmp ps → ((p : List ℕ) → IsOneOf p ps → IsOneOf p qs) → ((p : List ℕ) → IsOneOf p qs → IsOneOf p ps) → ps ≡ in_path_order qs
order_same ps qs s f g =
    sym (keys_marked ps)
    ∙ ap (λ es. map (λ (e : List ℕ × Unit {0}). e.0) es) (sym (entries-from_sorted path_cmp (marked ps) (sorted_marked ps s)))
    ∙ ap (λ (m : FinMap path_cmp (Unit {0})). keys m) same
  where
    each : (q : List ℕ) → get (from_sorted {R = path_cmp} (marked ps)) q ≡ get (from_entries {R = path_cmp} (marked qs)) q
    each q =
        get-from_sorted path_cmp (marked ps) q (sorted_marked ps s)
        ∙ unit_same (find path_cmp q (marked ps)) (find path_cmp q (marked qs)) (found_any ps q ∙ any_same ps qs f g q ∙ sym (found_any qs q))
        ∙ sym (get-from_entries nat_list_cmp_total (marked qs) q)

    same : from_sorted {R = path_cmp} (marked ps) ≡ from_entries {R = path_cmp} (marked qs)
    same = same_map nat_list_cmp_total exact_bytes (from_sorted {R = path_cmp} (marked ps)) (from_entries {R = path_cmp} (marked qs)) each

-- two lists in order with the same paths are one
pub sorted_same : (ps qs : List (List ℕ)) → IsStrictlySortedBy path_cmp ps → IsStrictlySortedBy path_cmp qs → ((p : List ℕ) → IsOneOf p ps → IsOneOf p qs) → ((p : List ℕ) → IsOneOf p qs → IsOneOf p ps) → ps ≡ qs
sorted_same ps qs s t f g = order_same ps qs s f g ∙ sym (order_same qs qs t (λ p h. h) (λ p h. h))

-- How many they are

module _ (eq : List ℕ → List ℕ → Bool) (decides : (p q : List ℕ) → Decides (eq p q) (p ≡ q)) where
  distinct_paths : (ps : List (List ℕ)) → IsDistinct eq ps → IsDistinct path_eq ps
  distinct_paths ps d = IsDistinct-from_AllPairs path_eq-Decides ps (AllPairs-from_IsDistinct decides ps d)

  -- no list that has each path once, and no others than these, is longer
  pub distinct_at_most : (ps qs : List (List ℕ)) → IsDistinct eq ps → ((p : List ℕ) → IsOneOf p ps → IsOneOf p qs) → length ps ≤ length (in_path_order qs)
  distinct_at_most ps qs d f =
      length-le_from_is_member (eq_by_cmp_equiv nat_list_cmp_total) ps (in_path_order qs) (distinct_paths ps d) (λ q h. one_any (in_path_order qs) q ((order_has qs q).1 (f q (any_one ps q h))))

  -- and one that has all of them is as long
  pub distinct_all : (ps qs : List (List ℕ)) → IsDistinct eq ps → ((p : List ℕ) → IsOneOf p ps → IsOneOf p qs) → ((p : List ℕ) → IsOneOf p qs → IsOneOf p ps) → length ps ≡ length (in_path_order qs)
  distinct_all ps qs d f g =
      length-from_same_keys (eq_by_cmp_equiv nat_list_cmp_total) ps (in_path_order qs) (distinct_paths ps d) (IsDistinct-from_sorted path_cmp (in_path_order qs) (order_sorted qs)) (λ q. any_same ps qs f g q ∙ sym (order_any qs q))

-- The paths among questions

content_path : (p q : List ℕ) → content_of p ≡ content_of q → p ≡ q
content_path p q e = cc

pub content_one : (qs : List Question) (p : List ℕ) → IsAsked qs (content_of p) → IsOneOf p (contents_asked qs)
content_one [] p h = absurd h
content_one (content_of r ∷ qs) p (inl e) = inl (content_path p r e)
content_one (content_of r ∷ qs) p (inr h) = inr (content_one qs p h)
content_one (import_of r ∷ qs) p (inl e) = cc
content_one (import_of r ∷ qs) p (inr h) = content_one qs p h

pub one_content : (qs : List Question) (p : List ℕ) → IsOneOf p (contents_asked qs) → IsAsked qs (content_of p)
one_content [] p h = absurd h
one_content (content_of r ∷ qs) p (inl e) = inl (ap content_of e)
one_content (content_of r ∷ qs) p (inr h) = inr (one_content qs p h)
one_content (import_of r ∷ qs) p h = inr (one_content qs p h)

pub import_one : (qs : List Question) (p : List ℕ) → IsAsked qs (import_of p) → IsOneOf p (imports_asked qs)
import_one [] p h = absurd h
import_one (content_of r ∷ qs) p (inl e) = cc
import_one (content_of r ∷ qs) p (inr h) = import_one qs p h
import_one (import_of r ∷ qs) p (inl e) = inl (import_path p r e)
import_one (import_of r ∷ qs) p (inr h) = inr (import_one qs p h)

pub one_import : (qs : List Question) (p : List ℕ) → IsOneOf p (imports_asked qs) → IsAsked qs (import_of p)
one_import [] p h = absurd h
one_import (content_of r ∷ qs) p h = inr (one_import qs p h)
one_import (import_of r ∷ qs) p (inl e) = inl (ap import_of e)
one_import (import_of r ∷ qs) p (inr h) = inr (one_import qs p h)
