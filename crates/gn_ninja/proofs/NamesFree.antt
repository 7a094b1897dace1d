-- No name of a phony line is taken.
use Rattle.std.proofs.Common.{◌≡◌, ℕ, Bool, true, false, cond, not, ◌&&◌, List, [], ◌∷◌, refl, ap, Ordering}
use Rattle.std.specs.declared.cmp.Ordering.TheVariants.{Less, Equal, Greater}
use Rattle.std.specs.List.{list_all, list_any}
use Rattle.std.specs.Str.{bytes_eq}
use Rattle.std.specs.Ordering.{nat_cmp, match_ordering}
use Rattle.std.specs.Cmp.Lexicographic.{slice_cmp}
use Rattle.std.specs.BTreeMap.{insert_entry}
use Rattle.gn_ninja.specs.declared.phony.Claim.{Claim}
use Rattle.gn_ninja.specs.Phony.{winners, is_free}

first_holds : (a b : Bool) → (a && b) ≡ true → a ≡ true
first_holds true b e = refl
first_holds false b e = e

rest_holds : (a b : Bool) → (a && b) ≡ true → b ≡ true
rest_holds true b e = e
rest_holds false b e = absurd (cc)

both_hold : (a b : Bool) → a ≡ true → b ≡ true → (a && b) ≡ true
both_hold a b p q = rw (p, q) refl

-- a name that isn't taken keeps all free
insert_free : (taken : List (List ℕ)) (k v : List ℕ) → not (list_any (bytes_eq k) taken) ≡ true → (es : List (List ℕ × List ℕ)) → list_all (is_free taken) es ≡ true → list_all (is_free taken) (insert_entry (slice_cmp nat_cmp) es k v) ≡ true
insert_free taken k v free [] all = both_hold (not (list_any (bytes_eq k) taken)) true free refl
insert_free taken k v free (e ∷ es) all = by (slice_cmp nat_cmp k e.0) (insert_free taken k v free es (rest_holds (is_free taken e) (list_all (is_free taken) es) all))
  where
    by : (r : Ordering) → list_all (is_free taken) (insert_entry (slice_cmp nat_cmp) es k v) ≡ true → list_all (is_free taken) (match_ordering r ((k, v) ∷ e ∷ es) ((e.0, v) ∷ es) (e ∷ insert_entry (slice_cmp nat_cmp) es k v)) ≡ true
    by Less rest = both_hold (not (list_any (bytes_eq k) taken)) (list_all (is_free taken) (e ∷ es)) free all
    by Equal rest = all
    by Greater rest = both_hold (is_free taken e) (list_all (is_free taken) (insert_entry (slice_cmp nat_cmp) es k v)) (first_holds (is_free taken e) (list_all (is_free taken) es) all) rest

pub names_free : (taken : List (List ℕ)) (claims : List Claim) → list_all (is_free taken) (winners taken claims) ≡ true
names_free taken [] = refl
names_free taken (c ∷ more) = by (list_any (bytes_eq c.name) taken) refl (names_free taken more)
  where
    by : (v : Bool) → list_any (bytes_eq c.name) taken ≡ v → list_all (is_free taken) (winners taken more) ≡ true → list_all (is_free taken) (cond v (winners taken more) (insert_entry (slice_cmp nat_cmp) (winners taken more) c.name c.done)) ≡ true
    by true e rest = rest
    by false e rest = insert_free taken c.name c.done (ap not e) (winners taken more) rest
