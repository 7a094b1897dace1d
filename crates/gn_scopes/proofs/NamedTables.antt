-- Tables by numbers, and by the names that these are the numbers of.
use Rattle.std.proofs.Common.{◌≡◌, ℕ, zero, suc, ◌+◌, ◌<◌, ◌||◌, Bool, true, false, cond, T, List, [], ◌∷◌, ◌++◌, map, length, slice_get, Option, Some, None, true≢false, refl, sym, ap, ◌∙◌, subst, arith, length-append}
use Rattle.std.specs.declared.cmp.Ordering.TheVariants.{Equal}
use Rattle.std.specs.List.{list_any, AllByRecursion}
use Rattle.std.specs.Option.{unwrap_or, option_or}
use Rattle.std.specs.Str.{bytes_eq}
use Rattle.std.specs.FinMap.{is_sorted, slice_cmp-IsAntisymmetric, nat_cmp-IsAntisymmetric}
use Rattle.std.specs.Ordering.{nat_cmp, is_eq}
use Rattle.std.specs.Cmp.{tied_itself, both_ways, Equal-is}
use Rattle.std.specs.Cmp.Lexicographic.{slice_cmp, nat_list_cmp_total}
use Rattle.std.specs.BTreeMap.{is_at}
use Rattle.std.proofs.lemmas.Option.{slice_get_within, slice_get-get_or, unwrap_or-slice_get}
use Rattle.std.proofs.lemmas.Slice.Eq.{bytes_eq-Decides}
use Rattle.gn_text.specs.Names.{AllDifferent}
use Rattle.gn_values.specs.Tables.{Table, at_name, with_name, without_name, with_names}
use Rattle.gn_environment.proofs.Names.{order, tied, not_lacking}
use Rattle.gn_layers.specs.Named.{key, numbered_name, named, IsNumber, IsNumbered}
use Rattle.gn_basics.proofs.Tests.{second_holds}
use Rattle.gn_scopes.proofs.Entries.{first, insert_entry-all, remove_entry-all, is_sorted-insert_entry, lookup-insert_entry, lookup_behind, is_sorted-remove_entry, lookup-remove_entry, remove_entry_absent, same_by_lookup, is_sorted-map, map-all, insert_entry-map}

-- a name ties with itself
itself : (x : List ℕ) → order x x ≡ Equal
itself x = tied_itself nat_list_cmp_total x

-- what a table has after a name is set
at-with_name : {A : Type 0} (t : Table A) (name : List ℕ) (a : A) (q : List ℕ) → at_name q (with_name name a t) ≡ cond (is_eq (order q name)) (Some a) (at_name q t)
at-with_name t name a q = lookup-insert_entry order nat_list_cmp_total t name a q

-- the text at a number, among names
pub name_at : (names : List (List ℕ)) (n : ℕ) → n < length names → slice_get names n ≡ Some (unwrap_or (slice_get names n) [])
name_at names n l = slice_get-get_or names n [] l ∙ ap Some (sym (unwrap_or-slice_get names n []))

-- a text that is among names stands at a number
record IsAmong (names : List (List ℕ)) (q : List ℕ) : Type 0 where
  pub number : ℕ
  pub found : slice_get names number ≡ Some q

among : (names : List (List ℕ)) (q : List ℕ) → list_any (bytes_eq q) names ≡ true → IsAmong names q
among [] q h = absurd (true≢false (sym h))
among (x ∷ names) q h =
    elim (bytes_eq q x) as (λ b. bytes_eq q x ≡ b → (b || list_any (bytes_eq q) names) ≡ true → IsAmong (x ∷ names) q) [
      | true ↦ λ e _. record { number = zero; found = ap Some (sym ((bytes_eq-Decides q x).0 e)) }
      | false ↦ λ e g. let rest = among names q g in record { number = suc rest.number; found = rest.found }
    ] refl h

-- a table without entries is by numbers
pub IsNumbered-empty : {A : Type 0} (names : List (List ℕ)) → IsNumbered {A = A} names []
IsNumbered-empty names = record { numbers = tt; rise = tt }

-- the table by names is in order
pub named_sorted : {A : Type 0} (names : List (List ℕ)) (t : Table A) → T (is_sorted (slice_cmp nat_cmp) (named names t))
named_sorted names [] = tt
named_sorted names (e ∷ es) = is_sorted-insert_entry order nat_list_cmp_total (named names es) (numbered_name names e.0) e.1 (named_sorted names es)

-- more names behind these change nothing
module _ (names more : List (List ℕ)) where
  get_longer : (xs : List (List ℕ)) (n : ℕ) → n < length xs → slice_get (xs ++ more) n ≡ slice_get xs n
  get_longer [] n l = absurd (omega arith)
  get_longer (x ∷ xs) zero l = refl
  get_longer (x ∷ xs) (suc n) l = get_longer xs n (omega arith)

  pub name_longer : (k : List ℕ) → IsNumber names k → numbered_name (names ++ more) k ≡ numbered_name names k
  name_longer k h =
      ap (numbered_name (names ++ more)) h.1 ∙ ap (λ o. unwrap_or o []) (get_longer names h.0 h.2) ∙ ap (numbered_name names) (sym h.1)

  all_named_longer : {A : Type 0} (t : Table A) → AllByRecursion (λ e. IsNumber names e.0) t → named (names ++ more) t ≡ named names t
  all_named_longer [] h = refl
  all_named_longer (e ∷ es) h = λ i. with_name (name_longer e.0 h.0 i) e.1 (all_named_longer es h.1 i)

  number_longer : (k : List ℕ) → IsNumber names k → IsNumber (names ++ more) k
  number_longer k h =
      let long : length (names ++ more) ≡ length names + length more = length-append names more in
      (h.0, h.1, omega (arith, long, h.2))

  pub all_longer : {A : Type 0} (t : Table A) → AllByRecursion (λ e. IsNumber names e.0) t → AllByRecursion (λ e. IsNumber (names ++ more) e.0) t
  all_longer [] h = tt
  all_longer (e ∷ es) h = (number_longer e.0 h.0, all_longer es h.1)

module _ {A : Type 0} (names more : List (List ℕ)) (t : Table A) (numbered : IsNumbered names t) where
  pub named_longer : named (names ++ more) t ≡ named names t
  named_longer = all_named_longer names more t numbered.numbers

  pub IsNumbered-longer : IsNumbered (names ++ more) t
  IsNumbered-longer = record { numbers = all_longer names more t numbered.numbers; rise = numbered.rise }

-- numbers tie as the names at them do
module _ (names : List (List ℕ)) (different : AllDifferent names) where
  ties : (q : List ℕ) (j : ℕ) → slice_get names j ≡ Some q → (k : List ℕ) → IsNumber names k → is_eq (order q (numbered_name names k)) ≡ is_eq (order (key j) k)
  ties q j found k h =
      let at_k : slice_get names h.0 ≡ Some (numbered_name names (key h.0)) = name_at names h.0 h.2 in
      both_ways _ _
      (λ e.
      let same : q ≡ numbered_name names (key h.0) = tied _ _ ((Equal-is _).0 e) ∙ ap (numbered_name names) h.1 in
      let number : j ≡ h.0 = different j h.0 (slice_get_within names j q found) (found ∙ ap Some same ∙ sym at_k) in
      ap (λ x. is_eq (order (key j) x)) (h.1 ∙ ap key (sym number)) ∙ ap is_eq (itself (key j)))
      (λ e.
      let same : key j ≡ k = tied _ _ ((Equal-is _).0 e) in
      let name : numbered_name names k ≡ q = ap (numbered_name names) (sym same) ∙ ap (λ o. unwrap_or o []) found in
      ap (λ x. is_eq (order q x)) name ∙ ap is_eq (itself q))

  -- what a name has in the table by names, its number has
  at_numbers : {A : Type 0} (q : List ℕ) (j : ℕ) → slice_get names j ≡ Some q → (t : Table A) → AllByRecursion (λ e. IsNumber names e.0) t → at_name q (named names t) ≡ at_name (key j) t
  at_numbers q j found [] h = refl
  at_numbers q j found (e ∷ es) h =
      at-with_name (named names es) (numbered_name names e.0) e.1 q
      ∙ (λ i. cond (ties q j found e.0 h.0 i) (Some e.1) (at_numbers q j found es h.1 i))

-- a text that is no name ties with none
module _ (names : List (List ℕ)) (q : List ℕ) (lacking : list_any (bytes_eq q) names ≡ false) where
  apart : (x : List ℕ) (n : ℕ) → slice_get names n ≡ Some x → is_eq (order q x) ≡ false
  apart x n found =
      elim (is_eq (order q x)) as (λ b. is_eq (order q x) ≡ b → b ≡ false) [
        | true ↦ λ e. absurd (true≢false (sym (not_lacking names q n (found ∙ ap Some (sym (tied q x ((Equal-is _).0 e))))) ∙ lacking))
        | false ↦ λ e. refl
      ] refl

  apart_number : (k : List ℕ) → IsNumber names k → is_eq (order q (numbered_name names k)) ≡ false
  apart_number k h = apart (numbered_name names k) h.0 (name_at names h.0 h.2 ∙ ap Some (ap (numbered_name names) (sym h.1)))

  at_none : {A : Type 0} (t : Table A) → AllByRecursion (λ e. IsNumber names e.0) t → at_name q (named names t) ≡ None
  at_none [] h = refl
  at_none (e ∷ es) h =
      at-with_name (named names es) (numbered_name names e.0) e.1 q
      ∙ (λ i. cond (apart_number e.0 h.0 i) (Some e.1) (at_none es h.1 i))

-- a table in order that has at each name what its number has, and nothing else, is the table by names
module _ {A : Type 0} (names : List (List ℕ)) (different : AllDifferent names) (t : Table A) (numbered : IsNumbered names t) where
  same_named : (s : Table A) → T (is_sorted order s) → ((q : List ℕ) (j : ℕ) → slice_get names j ≡ Some q → at_name q s ≡ at_name (key j) t) → ((q : List ℕ) → list_any (bytes_eq q) names ≡ false → at_name q s ≡ None) → s ≡ named names t
  same_named s sorted known unknown =
      same_by_lookup order nat_list_cmp_total (slice_cmp-IsAntisymmetric nat_cmp-IsAntisymmetric) s (named names t) sorted (named_sorted names t) (λ q.
      elim (list_any (bytes_eq q) names) as (λ b. list_any (bytes_eq q) names ≡ b → at_name q s ≡ at_name q (named names t)) [
        | true ↦ λ h. let n = among names q h in known q n.number n.found ∙ sym (at_numbers names different q n.number n.found t numbered.numbers)
        | false ↦ λ h. unknown q h ∙ sym (at_none names q h t numbered.numbers)
      ] refl)

or_later : {A : Type 0} (b : Bool) (x y : Option A) (a : A) → (b ≡ true → x ≡ None) → option_or x (cond b (Some a) y) ≡ option_or (cond b (Some a) x) y
or_later true x y a h = ap (λ o. option_or o (Some a)) (h refl)
or_later false x y a h = refl

or_none : {A : Type 0} (x : Option A) → option_or x None ≡ x
or_none None = refl
or_none (Some a) = refl

-- what names are given, one by one
module _ {A : Type 0} (names : List (List ℕ)) where
  abbrev pairs : Table A → Table A
  pairs t = map (λ (e : List ℕ × A). (numbered_name names e.0, e.1)) t

  given_sorted : (es s : Table A) → T (is_sorted order s) → T (is_sorted order (with_names es s))
  given_sorted [] s h = h
  given_sorted (e ∷ es) s h = given_sorted es (with_name e.0 e.1 s) (is_sorted-insert_entry order nat_list_cmp_total s e.0 e.1 h)

  given_known : AllDifferent names → (q : List ℕ) (j : ℕ) → slice_get names j ≡ Some q → (t s : Table A) → AllByRecursion (λ e. IsNumber names e.0) t → T (is_sorted order t) → at_name q (with_names (pairs t) s) ≡ option_or (at_name (key j) t) (at_name q s)
  given_known different q j found [] s h g = refl
  given_known different q j found (e ∷ es) s h g =
      given_known different q j found es (with_name (numbered_name names e.0) e.1 s) h.1 (second_holds _ _ g)
      ∙ ap (option_or (at_name (key j) es)) (at-with_name s (numbered_name names e.0) e.1 q ∙ ap (λ b. cond b (Some e.1) (at_name q s)) (ties names different q j found e.0 h.0))
      ∙ or_later (is_eq (order (key j) e.0)) (at_name (key j) es) (at_name q s) e.1 (λ p. lookup_behind order nat_list_cmp_total (key j) e.0 es ((Equal-is _).0 p) (first _ _ g))

  given_unknown : (q : List ℕ) → list_any (bytes_eq q) names ≡ false → (t s : Table A) → AllByRecursion (λ e. IsNumber names e.0) t → at_name q (with_names (pairs t) s) ≡ at_name q s
  given_unknown q lacking [] s h = refl
  given_unknown q lacking (e ∷ es) s h =
      given_unknown q lacking es (with_name (numbered_name names e.0) e.1 s) h.1
      ∙ at-with_name s (numbered_name names e.0) e.1 q
      ∙ ap (λ b. cond b (Some e.1) (at_name q s)) (apart_number names q lacking e.0 h.0)

-- what names are given, one by one, is what the table has by names
pub named-from_pairs : {A : Type 0} (names : List (List ℕ)) (t : Table A) → AllDifferent names → IsNumbered names t → with_names (map (λ e. (numbered_name names e.0, e.1)) t) [] ≡ named names t
named-from_pairs names t different numbered =
    same_named names different t numbered (with_names (pairs names t) []) (given_sorted names (pairs names t) [] tt)
    (λ q j found. given_known names different q j found t [] numbered.numbers numbered.rise ∙ or_none (at_name (key j) t))
    (λ q lacking. given_unknown names q lacking t [] numbered.numbers)

-- what a table has with all names of another one set
given_in_order : {A : Type 0} (q : List ℕ) (es s : Table A) → T (is_sorted order es) → at_name q (with_names es s) ≡ option_or (at_name q es) (at_name q s)
given_in_order q [] s h = refl
given_in_order q (e ∷ es) s h =
    given_in_order q es (with_name e.0 e.1 s) (second_holds _ _ h)
    ∙ ap (option_or (at_name q es)) (at-with_name s e.0 e.1 q)
    ∙ or_later (is_eq (order q e.0)) (at_name q es) (at_name q s) e.1 (λ p. lookup_behind order nat_list_cmp_total q e.0 es ((Equal-is _).0 p) (first _ _ h))

-- a table laid over another one in the order of its numbers is laid over it by names
module _ {A : Type 0} (names : List (List ℕ)) (different : AllDifferent names) (t : Table A) (numbered : IsNumbered names t) (base : Table A) (sorted : T (is_sorted order base)) where
  pub laid_sorted : T (is_sorted (slice_cmp nat_cmp) (with_names (map (λ e. (numbered_name names e.0, e.1)) t) base))
  laid_sorted = given_sorted names (pairs names t) base sorted

  pub named-laid : with_names (map (λ e. (numbered_name names e.0, e.1)) t) base ≡ with_names (named names t) base
  named-laid =
      let es = named names t in
      same_by_lookup order nat_list_cmp_total (slice_cmp-IsAntisymmetric nat_cmp-IsAntisymmetric) (with_names (pairs names t) base) (with_names es base) laid_sorted (given_sorted names es base sorted) (λ q.
      elim (list_any (bytes_eq q) names) as (λ b. list_any (bytes_eq q) names ≡ b → at_name q (with_names (pairs names t) base) ≡ at_name q (with_names es base)) [
        | true ↦ λ h. let n = among names q h in
            given_known names different q n.number n.found t base numbered.numbers numbered.rise
            ∙ ap (λ o. option_or o (at_name q base)) (sym (at_numbers names different q n.number n.found t numbered.numbers))
            ∙ sym (given_in_order q es base (named_sorted names t))
        | false ↦ λ h.
            given_unknown names q h t base numbered.numbers
            ∙ ap (λ o. option_or o (at_name q base)) (sym (at_none names q h t numbered.numbers))
            ∙ sym (given_in_order q es base (named_sorted names t))
      ] refl)

-- what is done to all values, each with its name
module _ {A B : Type 0} (names : List (List ℕ)) (f : List ℕ → A → B) where
  all_named-map : (t : Table A) → named names (map (λ (e : List ℕ × A). (e.0, f (numbered_name names e.0) e.1)) t) ≡ map (λ (e : List ℕ × A). (e.0, f e.0 e.1)) (named names t)
  all_named-map [] = refl
  all_named-map (e ∷ es) =
      ap (with_name (numbered_name names e.0) (f (numbered_name names e.0) e.1)) (all_named-map es)
      ∙ insert_entry-map order (slice_cmp-IsAntisymmetric nat_cmp-IsAntisymmetric) f (named names es) (numbered_name names e.0) e.1

module _ {A B : Type 0} (names : List (List ℕ)) (f : List ℕ → A → B) (t : Table A) where
  pub named-map : named names (map (λ e. (e.0, f (numbered_name names e.0) e.1)) t) ≡ map (λ e. (e.0, f e.0 e.1)) (named names t)
  named-map = all_named-map names f t

  pub IsNumbered-map : IsNumbered names t → IsNumbered names (map (λ e. (e.0, f (numbered_name names e.0) e.1)) t)
  IsNumbered-map numbered =
      let g : List ℕ × A → B = λ e. f (numbered_name names e.0) e.1 in
      record {
        numbers = map-all order g (IsNumber names) t numbered.numbers;
        rise = subst T (sym (is_sorted-map order g t)) numbered.rise;
      }

-- at the number of a name
module _ {A : Type 0} (names : List (List ℕ)) (different : AllDifferent names) (name : List ℕ) (n : ℕ) (found : slice_get names n ≡ Some name) (t : Table A) (numbered : IsNumbered names t) where
  pub at_number : at_name name (named names t) ≡ at_name (key n) t
  at_number = at_numbers names different name n found t numbered.numbers

  is_number : IsNumber names (key n)
  is_number = (n, refl, slice_get_within names n name found)

  pub IsNumbered-with_name : (a : A) → IsNumbered names (with_name (key n) a t)
  IsNumbered-with_name a = record {
    numbers = insert_entry-all order (IsNumber names) t (key n) a numbered.numbers is_number;
    rise = is_sorted-insert_entry order nat_list_cmp_total t (key n) a numbered.rise;
  }

  pub IsNumbered-without_name : IsNumbered names (without_name (key n) t)
  IsNumbered-without_name = record {
    numbers = remove_entry-all order (IsNumber names) (is_at (order (key n))) t numbered.numbers;
    rise = is_sorted-remove_entry order nat_list_cmp_total t (key n) numbered.rise;
  }

  -- the name ties with the names that its number ties with
  ties_number : (q : List ℕ) (j : ℕ) → slice_get names j ≡ Some q → is_eq (order q name) ≡ is_eq (order (key j) (key n))
  ties_number q j at = ap (λ x. is_eq (order q x)) (sym (ap (λ o. unwrap_or o []) found)) ∙ ties names different q j at (key n) is_number

  pub with_number : (a : A) → with_name name a (named names t) ≡ named names (with_name (key n) a t)
  with_number a =
      same_named names different (with_name (key n) a t) (IsNumbered-with_name a) (with_name name a (named names t))
      (is_sorted-insert_entry order nat_list_cmp_total (named names t) name a (named_sorted names t))
      (λ q j at.
      at-with_name (named names t) name a q
      ∙ (λ i. cond (ties_number q j at i) (Some a) (at_numbers names different q j at t numbered.numbers i))
      ∙ sym (at-with_name t (key n) a (key j)))
      (λ q lacking.
      at-with_name (named names t) name a q
      ∙ (λ i. cond (apart names q lacking name n found i) (Some a) (at_none names q lacking t numbered.numbers i)))

  pub without_number : without_name name (named names t) ≡ named names (without_name (key n) t)
  without_number =
      same_named names different (without_name (key n) t) IsNumbered-without_name (without_name name (named names t))
      (is_sorted-remove_entry order nat_list_cmp_total (named names t) name (named_sorted names t))
      (λ q j at.
      lookup-remove_entry order nat_list_cmp_total (named names t) name q (named_sorted names t)
      ∙ (λ i. cond (ties_number q j at i) None (at_numbers names different q j at t numbered.numbers i))
      ∙ sym (lookup-remove_entry order nat_list_cmp_total t (key n) (key j) numbered.rise))
      (λ q lacking.
      lookup-remove_entry order nat_list_cmp_total (named names t) name q (named_sorted names t)
      ∙ (λ i. cond (apart names q lacking name n found i) None (at_none names q lacking t numbered.numbers i)))

-- at a name that has no number
module _ {A : Type 0} (names : List (List ℕ)) (name : List ℕ) (lacking : list_any (bytes_eq name) names ≡ false) (t : Table A) (numbered : IsNumbered names t) where
  pub at_no_number : at_name name (named names t) ≡ None
  at_no_number = at_none names name lacking t numbered.numbers

  pub without_no_number : without_name name (named names t) ≡ named names t
  without_no_number =
      remove_entry_absent order (is_at (order name)) (named names t) at_no_number
