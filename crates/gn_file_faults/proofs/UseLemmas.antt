-- The first use of each name tells the uses that are one too many.
use Rattle.std.proofs.Common.{◌≡◌, ℕ, List, [], ◌∷◌, Bool, true, false, ◌||◌, ◌&&◌, if◌then◌else◌, Option, Some, None, option_map, refl, sym, ◌∙◌, ap, map}
use Rattle.std.specs.List.{filter, list_any}
use Rattle.std.specs.Cmp.{IsTotalOrder, nat_cmp_total, then_total, on_total, upto, both_ways}
use Rattle.std.specs.Cmp.Lexicographic.{nat_list_cmp_total}
use Rattle.std.specs.Str.{bytes_eq}
use Rattle.std.specs.declared.cmp.Ordering.{Ordering}
use Rattle.std.specs.declared.cmp.Ordering.TheVariants.{Less, Equal, Greater}
use Rattle.std.specs.Ordering.{is_lt, is_gt, ordering_reverse}
use Rattle.gn_paths.specs.declared.place.Place.{Place}
use Rattle.gn_imports.specs.Causes.{place_cmp}
use Rattle.gn_faults.specs.declared.code.Code.{Code}
use Rattle.gn_file_faults.specs.Uses.{Use, use_cmp, is_before, stands_behind, is_again, earlier, first_from, stands_after, use_fault, again_faults}

places_total : IsTotalOrder place_cmp
places_total =
    then_total (on_total (λ (p : Place). p.file) nat_list_cmp_total)
    (then_total (on_total (λ (p : Place). p.line) nat_cmp_total) (on_total (λ (p : Place). p.column) nat_cmp_total))

uses_total : IsTotalOrder use_cmp
uses_total =
    then_total (on_total (λ (a : Use). a.toolchain) nat_list_cmp_total)
    (then_total (on_total (λ (a : Use). a.place) places_total) (on_total (λ (a : Use). a.number) nat_cmp_total))

turned : (r : Ordering) → is_lt (ordering_reverse r) ≡ is_gt r
turned Less = refl
turned Equal = refl
turned Greater = refl

-- one stands before another where the other stands behind it
before_is : (a b : Use) → is_before a b ≡ is_gt (use_cmp b a)
before_is a b = ap is_lt (uses_total.antisymm a b) ∙ turned (use_cmp b a)

-- what stands before neither of two in order
not_before : (a b c : Use) → is_before b a ≡ false → is_before c b ≡ false → is_before c a ≡ false
not_before a b c h k = before_is c a ∙ upto uses_total a b c (sym (before_is b a) ∙ h) (sym (before_is c b) ∙ k)

-- of two uses one at most stands before the other
one_way : (a b : Use) → is_before a b ≡ true → is_before b a ≡ false
one_way a b h = before_is b a ∙ by (use_cmp a b) h
  where
    by : (r : Ordering) → is_lt r ≡ true → is_gt r ≡ false
    by Less k = refl
    by Equal k = refl
    by Greater k = absurd (cc k)

or_none : (a : Bool) → a ≡ (a || false)
or_none true = refl
or_none false = refl

or_moved : (a b c : Bool) → ((a || b) || c) ≡ (a || (b || c))
or_moved true b c = refl
or_moved false b c = refl

-- where one test follows from another, they hold together where the first does
covers : (a b : Bool) → (a ≡ false → b ≡ false) → a ≡ (b || a)
covers true true h = refl
covers true false h = refl
covers false true h = sym (h refl)
covers false false h = refl

covered : (a b : Bool) → (a ≡ false → b ≡ false) → a ≡ (a || b)
covered true b h = refl
covered false b h = sym (h refl)

-- the earlier of two uses stands before a third one where one of the two does
earlier_before : (f q p : Use) → is_before (if is_before q f then q else f) p ≡ (is_before f p || is_before q p)
earlier_before f q p = by (is_before q f) refl
  where
    by : (b : Bool) → is_before q f ≡ b → is_before (if b then q else f) p ≡ (is_before f p || is_before q p)
    by true e = covers (is_before q p) (is_before f p) (λ h. not_before p q f h (one_way q f e))
    by false e = covered (is_before f p) (is_before q p) (λ h. not_before p f q h e)

earlier_as : (found : Option Use) (q p : Use) → stands_after (earlier found q) p ≡ (stands_after found p || is_before q p)
earlier_as None q p = refl
earlier_as (Some f) q p = same (is_before q f) ∙ earlier_before f q p
  where
    same : (b : Bool) → stands_after (if b then Some q else Some f) p ≡ is_before (if b then q else f) p
    same true = refl
    same false = refl

-- a use stands behind the first one of a name where a use of that name stands before it
first_stands : (name : List ℕ) (found : Option Use) (p : Use) (us : List Use)
    → stands_after (first_from name found us) p ≡ (stands_after found p || list_any (λ (e : Use). bytes_eq e.name name && is_before e p) us)
first_stands name found p [] = or_none (stands_after found p)
first_stands name found p (a ∷ us) =
    first_stands name (if bytes_eq a.name name then earlier found a else found) p us
    ∙ ap (λ b. b || list_any (λ (e : Use). bytes_eq e.name name && is_before e p) us) (one_more (bytes_eq a.name name))
    ∙ or_moved (stands_after found p) (bytes_eq a.name name && is_before a p) (list_any (λ (e : Use). bytes_eq e.name name && is_before e p) us)
  where
    one_more : (b : Bool) → stands_after (if b then earlier found a else found) p ≡ (stands_after found p || (b && is_before a p))
    one_more true = earlier_as found a p
    one_more false = or_none (stands_after found p)

again_is : (all : List Use) (a : Use) → (a.is_taken || stands_after (first_from a.name None all) a) ≡ is_again all a
again_is all a = ap (λ b. a.is_taken || b) (first_stands a.name None a all)

pub filter_same : {A : Type 0} (f g : A → Bool) (xs : List A) → ((x : A) → f x ≡ g x) → filter f xs ≡ filter g xs
filter_same f g [] h = refl
filter_same f g (x ∷ xs) h = λ i. if h x i then x ∷ filter_same f g xs h i else filter_same f g xs h i

-- the faults by a test that knows the first use of each name
pub faults_by_firsts : (code : Code) (all : List Use) (first : List ℕ → Option Use) → ((name : List ℕ) → first name ≡ first_from name None all)
    → map (use_fault code) (filter (λ (a : Use). a.is_taken || stands_after (first a.name) a) all) ≡ again_faults code all
unfolding again_faults
faults_by_firsts code all first h =
    ap (map (use_fault code)) (filter_same (λ (a : Use). a.is_taken || stands_after (first a.name) a) (is_again all) all
    (λ a. ap (λ (o : Option Use). a.is_taken || stands_after o a) (h a.name) ∙ again_is all a))
