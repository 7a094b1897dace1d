-- What tables have that note the names of a list one by one.
use Rattle.std.proofs.Common.{◌≡◌, ℕ, Bool, true, false, cond, not, ◌||◌, ◌&&◌, List, [], ◌∷◌, ◌++◌, refl, sym, ap, subst, ◌∙◌}
use Rattle.std.specs.List.{list_any}
use Rattle.std.specs.Str.{bytes_eq}
use Rattle.std.proofs.lemmas.Slice.Eq.{bytes_eq-Decides}
use Rattle.std.proofs.lemmas.List.Folds.{list_any-append}
use Rattle.gn_text.specs.Names.{with_name}
use Rattle.gn_ninja.specs.Claims.{stands_twice, AreNoted}

reordered : (a b c t : Bool) → ((a && (b || (c || false))) || (t || (c && b))) ≡ (((a && b) || t) || (c && (a || b)))
reordered true true true true = refl
reordered true true true false = refl
reordered true true false true = refl
reordered true true false false = refl
reordered true false true true = refl
reordered true false true false = refl
reordered true false false true = refl
reordered true false false false = refl
reordered false true true true = refl
reordered false true true false = refl
reordered false true false true = refl
reordered false true false false = refl
reordered false false true true = refl
reordered false false true false = refl
reordered false false false true = refl
reordered false false false false = refl

-- a name more stands twice where it stands there already
twice_more : (names : List (List ℕ)) (x q : List ℕ) → stands_twice (names ++ x ∷ []) q ≡ (stands_twice names q || (bytes_eq q x && list_any (bytes_eq q) names))
twice_more [] x q = by (bytes_eq q x)
  where
    by : (v : Bool) → ((v && false) || false) ≡ (false || (v && false))
    by true = refl
    by false = refl
twice_more (n ∷ names) x q =
    ap (λ (v : Bool). (bytes_eq q n && v) || stands_twice (names ++ x ∷ []) q) (list_any-append (bytes_eq q) names (x ∷ []))
    ∙ ap (λ (v : Bool). (bytes_eq q n && (list_any (bytes_eq q) names || (bytes_eq q x || false))) || v) (twice_more names x q)
    ∙ reordered (bytes_eq q n) (list_any (bytes_eq q) names) (bytes_eq q x) (stands_twice names q)

-- whether a name of which this is known stands in the list
has_it : (names : List (List ℕ)) (x : List ℕ) (there : Bool) → list_any (bytes_eq x) names ≡ there → (q : List ℕ) → (bytes_eq q x && list_any (bytes_eq q) names) ≡ (bytes_eq q x && there)
has_it names x there h q = by (bytes_eq q x) refl
  where
    by : (v : Bool) → bytes_eq q x ≡ v → (v && list_any (bytes_eq q) names) ≡ (v && there)
    by false e = refl
    by true e = ap (λ (z : List ℕ). list_any (bytes_eq z) names) ((bytes_eq-Decides q x).0 e) ∙ h

absorbed : (a c : Bool) → (c && a) ≡ (c && true) → (a || (c || false)) ≡ a
absorbed true c e = refl
absorbed false true e = sym e
absorbed false false e = refl

with_any : (names : List (List ℕ)) (x q : List ℕ) → list_any (bytes_eq q) (with_name names x) ≡ (list_any (bytes_eq q) names || (bytes_eq q x || false))
with_any names x q = by (list_any (bytes_eq x) names) refl
  where
    by : (v : Bool) → list_any (bytes_eq x) names ≡ v → list_any (bytes_eq q) (cond v names (names ++ x ∷ [])) ≡ (list_any (bytes_eq q) names || (bytes_eq q x || false))
    by true e = sym (absorbed (list_any (bytes_eq q) names) (bytes_eq q x) (has_it names x true e q))
    by false e = list_any-append (bytes_eq q) names (x ∷ [])

name_noted : (names once again : List (List ℕ)) (x : List ℕ) → AreNoted names once again → list_any (bytes_eq x) once ≡ false → AreNoted (names ++ x ∷ []) (with_name once x) again
name_noted names once again x n h = record { stand = first; stand_twice = second }
  where
    first : (q : List ℕ) → list_any (bytes_eq q) (with_name once x) ≡ list_any (bytes_eq q) (names ++ x ∷ [])
    first q = with_any once x q ∙ ap (λ (v : Bool). v || (bytes_eq q x || false)) (n.stand q) ∙ sym (list_any-append (bytes_eq q) names (x ∷ []))

    none : (a c : Bool) → (a || (c && false)) ≡ a
    none true c = refl
    none false true = refl
    none false false = refl

    second : (q : List ℕ) → list_any (bytes_eq q) again ≡ stands_twice (names ++ x ∷ []) q
    second q =
        n.stand_twice q ∙ sym (none (stands_twice names q) (bytes_eq q x))
        ∙ ap (λ (v : Bool). stands_twice names q || v) (sym (has_it names x false (sym (n.stand x) ∙ h) q))
        ∙ sym (twice_more names x q)

repeat_noted : (names once again : List (List ℕ)) (x : List ℕ) → AreNoted names once again → list_any (bytes_eq x) once ≡ true → AreNoted (names ++ x ∷ []) once (with_name again x)
repeat_noted names once again x n h = record { stand = first; stand_twice = second }
  where
    first : (q : List ℕ) → list_any (bytes_eq q) once ≡ list_any (bytes_eq q) (names ++ x ∷ [])
    first q =
        n.stand q ∙ sym (absorbed (list_any (bytes_eq q) names) (bytes_eq q x) (has_it names x true (sym (n.stand x) ∙ h) q))
        ∙ sym (list_any-append (bytes_eq q) names (x ∷ []))

    as_and : (c : Bool) → (c || false) ≡ (c && true)
    as_and true = refl
    as_and false = refl

    second : (q : List ℕ) → list_any (bytes_eq q) (with_name again x) ≡ stands_twice (names ++ x ∷ []) q
    second q =
        with_any again x q ∙ ap (λ (v : Bool). v || (bytes_eq q x || false)) (n.stand_twice q)
        ∙ ap (λ (v : Bool). stands_twice names q || v) (as_and (bytes_eq q x) ∙ sym (has_it names x true (sym (n.stand x) ∙ h) q))
        ∙ sym (twice_more names x q)

pub nothing_noted : AreNoted [] [] []
nothing_noted = record { stand = λ q. refl; stand_twice = λ q. refl }

is_false : (v : Bool) → not v ≡ true → v ≡ false
is_false true e = sym e
is_false false e = refl

is_true : (v : Bool) → not v ≡ false → v ≡ true
is_true true e = refl
is_true false e = sym e

pub noted_new : (names once again later : List (List ℕ)) (x : List ℕ) → AreNoted names once again → not (list_any (bytes_eq x) once) ≡ true → later ≡ with_name once x → AreNoted (names ++ x ∷ []) later again
noted_new names once again later x n h e =
    subst (λ (z : List (List ℕ)). AreNoted (names ++ x ∷ []) z again) (sym e) (name_noted names once again x n (is_false (list_any (bytes_eq x) once) h))

pub noted_old : (names once again later : List (List ℕ)) (x : List ℕ) → AreNoted names once again → not (list_any (bytes_eq x) once) ≡ false → later ≡ with_name again x → AreNoted (names ++ x ∷ []) once later
noted_old names once again later x n h e =
    subst (λ (z : List (List ℕ)). AreNoted (names ++ x ∷ []) once z) (sym e) (repeat_noted names once again x n (is_true (list_any (bytes_eq x) once) h))
