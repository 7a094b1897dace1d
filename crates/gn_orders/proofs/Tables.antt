-- Tables stay in the order of their names when names are set, taken away or left out, and so does what holds of their entries.
use Rattle.std.proofs.Common.{◌≡◌, ℕ, Bool, true, false, cond, List, [], ◌∷◌, ◌++◌, map, filter, Option, Some, None, Ordering, refl, sym, ap, ◌∙◌, subst}
use Rattle.std.specs.Cmp.{IsTotalOrder, nat_cmp_total}
use Rattle.std.specs.Cmp.Lexicographic.{lists_total}
use Rattle.std.specs.Ordering.{match_ordering, ordering_reverse, is_eq}
use Rattle.std.specs.declared.cmp.Ordering.TheVariants.{Less, Equal, Greater}
use Rattle.std.specs.List.{AllByRecursion}
use Rattle.std.specs.List.Sorted.{IsStrictlySortedBy}
use Rattle.std.specs.Map.{keys_of}
use Rattle.gn_basics.proofs.Orders.{order, by_order}
use Rattle.gn_values.specs.Tables.{Table, at_name, with_name, without_name, with_names, with_new_name, with_new_names}
use Rattle.gn_environment.specs.Shown.{IsInOrder}
use Rattle.gn_environment.specs.Templates.{laid_over}
use Rattle.gn_orders.specs.InOrder.{IsTableOf}

pub all_so : {X : Type 0} {P Q : X → Type 0} → ((x : X) → P x → Q x) → (xs : List X) → AllByRecursion P xs → AllByRecursion Q xs
all_so f [] all = tt
all_so f (x ∷ xs) all = (f x all.0, all_so f xs all.1)

pub all_appended : {X : Type 0} (P : X → Type 0) (xs ys : List X) → AllByRecursion P xs → AllByRecursion P ys → AllByRecursion P (xs ++ ys)
all_appended P [] ys a b = b
all_appended P (x ∷ xs) ys a b = (a.0, all_appended P xs ys a.1 b)

order_total : IsTotalOrder order
order_total = lists_total nat_cmp_total

-- What holds of all names, and of all entries

module _ {A : Type 0} (P : List ℕ × A → Type 0) (name : List ℕ) (a : A) where
  pub all_set : ((key : List ℕ) → P (key, a)) → (es : Table A) → AllByRecursion P es → AllByRecursion P (with_name name a es)
  all_set p [] all = (p name, tt)
  all_set p (e ∷ es) all =
      by_order (λ r. AllByRecursion P (match_ordering r ((name, a) ∷ e ∷ es) ((e.0, a) ∷ es) (e ∷ with_name name a es))) (order name e.0) (p name, all) (p e.0, all.1) (all.0, all_set p es all.1)

module _ {A : Type 0} (P : List ℕ → Type 0) where
  names_set : (name : List ℕ) (a : A) (es : Table A) → P name → AllByRecursion P (keys_of es) → AllByRecursion P (keys_of (with_name name a es))
  names_set name a [] p all = (p, tt)
  names_set name a (e ∷ es) p all =
      by_order (λ r. AllByRecursion P (keys_of (match_ordering r ((name, a) ∷ e ∷ es) ((e.0, a) ∷ es) (e ∷ with_name name a es)))) (order name e.0) (p, all) all (all.0, names_set name a es p all.1)

  names_without : (name : List ℕ) (es : Table A) → AllByRecursion P (keys_of es) → AllByRecursion P (keys_of (without_name name es))
  names_without name [] all = tt
  names_without name (e ∷ es) all =
      elim (is_eq (order name e.0)) as (λ b. AllByRecursion P (keys_of (cond b es (e ∷ without_name name es)))) [ true ↦ all.1 | false ↦ (all.0, names_without name es all.1) ]

  names_left : (test : List ℕ × A → Bool) (es : Table A) → AllByRecursion P (keys_of es) → AllByRecursion P (keys_of (filter test es))
  names_left test [] all = tt
  names_left test (e ∷ es) all =
      elim (test e) as (λ b. AllByRecursion P (keys_of (cond b (e ∷ filter test es) (filter test es)))) [ true ↦ (all.0, names_left test es all.1) | false ↦ names_left test es all.1 ]

pub all_left : {X : Type 0} (P : X → Type 0) (test : X → Bool) (xs : List X) → AllByRecursion P xs → AllByRecursion P (filter test xs)
all_left P test [] all = tt
all_left P test (x ∷ xs) all =
    elim (test x) as (λ b. AllByRecursion P (cond b (x ∷ filter test xs) (filter test xs))) [ true ↦ (all.0, all_left P test xs all.1) | false ↦ all_left P test xs all.1 ]

-- Orders

pub empty_in_order : IsStrictlySortedBy order []
unfolding IsStrictlySortedBy
empty_in_order = tt

module _ {A : Type 0} where
  pub set_in_order : (name : List ℕ) (a : A) (es : Table A) → IsInOrder es → IsInOrder (with_name name a es)
  unfolding IsStrictlySortedBy
  set_in_order name a [] s = (tt, tt)
  set_in_order name a (e ∷ es) s = by (order name e.0) refl (set_in_order name a es s.1)
    where
      by : (r : Ordering) → order name e.0 ≡ r → IsInOrder (with_name name a es) → IsInOrder (match_ordering r ((name, a) ∷ e ∷ es) ((e.0, a) ∷ es) (e ∷ with_name name a es))
      by Less h rest = ((h, all_so (λ y. order_total.trans name e.0 y h) (keys_of es) s.0), s)
      by Equal h rest = s
      by Greater h rest = (names_set (λ y. order e.0 y ≡ Less) name a es (order_total.antisymm e.0 name ∙ ap ordering_reverse h) s.0, rest)

  pub without_in_order : (name : List ℕ) (es : Table A) → IsInOrder es → IsInOrder (without_name name es)
  unfolding IsStrictlySortedBy
  without_in_order name [] s = tt
  without_in_order name (e ∷ es) s =
      elim (is_eq (order name e.0)) as (λ b. IsInOrder (cond b es (e ∷ without_name name es))) [ true ↦ s.1 | false ↦ (names_without (λ y. order e.0 y ≡ Less) name es s.0, without_in_order name es s.1) ]

  pub left_in_order : (test : List ℕ × A → Bool) (es : Table A) → IsInOrder es → IsInOrder (filter test es)
  unfolding IsStrictlySortedBy
  left_in_order test [] s = tt
  left_in_order test (e ∷ es) s =
      elim (test e) as (λ b. IsInOrder (cond b (e ∷ filter test es) (filter test es))) [ true ↦ (names_left (λ y. order e.0 y ≡ Less) test es s.0, left_in_order test es s.1) | false ↦ left_in_order test es s.1 ]

  pub all_set_in_order : (es table : Table A) → IsInOrder table → IsInOrder (with_names es table)
  all_set_in_order [] table s = s
  all_set_in_order (e ∷ es) table s = all_set_in_order es (with_name e.0 e.1 table) (set_in_order e.0 e.1 table s)

  pub laid_in_order : (tables : List (Table A)) (base : Table A) → IsInOrder base → IsInOrder (laid_over tables base)
  laid_in_order [] base s = s
  laid_in_order (t ∷ ts) base s = all_set_in_order t (laid_over ts base) (laid_in_order ts base s)

-- other entries at the same names
module _ {A B : Type 0} (f : List ℕ × A → B) where
  same_names : (es : Table A) → keys_of (map (λ (e : List ℕ × A). (e.0, f e)) es) ≡ keys_of es
  same_names [] = refl
  same_names (e ∷ es) = ap (λ ks. e.0 ∷ ks) (same_names es)

  pub changed_in_order : (es : Table A) → IsInOrder es → IsInOrder (map (λ (e : List ℕ × A). (e.0, f e)) es)
  changed_in_order es s = subst (λ ks. IsStrictlySortedBy order ks) (sym (same_names es)) s

-- Tables of entries of which something holds

module _ {A : Type 0} {P : A → Type 0} where
  pub empty_table : IsTableOf P []
  empty_table = record { names = empty_in_order; entries = tt }

  pub table_set : (name : List ℕ) (a : A) (es : Table A) → P a → IsTableOf P es → IsTableOf P (with_name name a es)
  table_set name a es p t = record { names = set_in_order name a es t.names; entries = all_set (λ (e : List ℕ × A). P e.1) name a (λ key. p) es t.entries }

  pub table_left : (test : List ℕ × A → Bool) (es : Table A) → IsTableOf P es → IsTableOf P (filter test es)
  table_left test es t = record { names = left_in_order test es t.names; entries = all_left (λ (e : List ℕ × A). P e.1) test es t.entries }

  pub table_all_set : (es table : Table A) → AllByRecursion (λ (e : List ℕ × A). P e.1) es → IsTableOf P table → IsTableOf P (with_names es table)
  table_all_set [] table all t = t
  table_all_set (e ∷ es) table all t = table_all_set es (with_name e.0 e.1 table) all.1 (table_set e.0 e.1 table all.0 t)

  new_set : (name : List ℕ) (a : A) (o : Option A) (table : Table A) → P a → IsTableOf P table → IsTableOf P (with_new_name name a o table)
  new_set name a None table p t = table_set name a table p t
  new_set name a (Some b) table p t = t

  pub table_new_set : (es table : Table A) → AllByRecursion (λ (e : List ℕ × A). P e.1) es → IsTableOf P table → IsTableOf P (with_new_names es table)
  table_new_set [] table all t = t
  table_new_set (e ∷ es) table all t =
      table_new_set es (with_new_name e.0 e.1 (at_name e.0 table) table) all.1 (new_set e.0 e.1 (at_name e.0 table) table all.0 t)

  pub table_laid : (tables : List (Table A)) (base : Table A) → AllByRecursion (IsTableOf P) tables → IsTableOf P base → IsTableOf P (laid_over tables base)
  table_laid [] base all t = t
  table_laid (es ∷ ts) base all t = table_all_set es (laid_over ts base) all.0.entries (table_laid ts base all.1 t)

-- what stands at a name
module _ {A : Type 0} (P : A → Type 0) where
  abbrev pub IsSo : Option A → Type 0
  IsSo None = Unit {0}
  IsSo (Some a) = P a

  pub found_so : (name : List ℕ) (es : Table A) → AllByRecursion (λ (e : List ℕ × A). P e.1) es → IsSo (at_name name es)
  found_so name [] all = tt
  found_so name (e ∷ es) all = elim (is_eq (order name e.0)) as (λ b. IsSo (cond b (Some e.1) (at_name name es))) [ true ↦ all.0 | false ↦ found_so name es all.1 ]
