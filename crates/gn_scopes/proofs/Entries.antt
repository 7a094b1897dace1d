-- Entries in the order of their keys: setting a key and taking one out, by what is found after.
use Rattle.std.proofs.Common.{◌≡◌, Bool, true, false, cond, not, ◌&&◌, T, List, [], ◌∷◌, map, Some, None, Ordering, refl, sym, ap, ◌∙◌, subst}
use Rattle.std.specs.declared.cmp.Ordering.TheVariants.{Less, Equal, Greater}
use Rattle.std.specs.Ordering.{is_eq, is_lt, eq_by_cmp, match_ordering}
use Rattle.std.specs.Cmp.{IsTotalOrder, alike_right, eq_by_cmp_equiv}
use Rattle.std.specs.List.{AllByRecursion}
use Rattle.std.proofs.lemmas.Option.{none-some}
use Rattle.std.specs.Map.{lookup, remove_entry}
use Rattle.std.specs.BTreeMap.{is_at, insert_entry}
use Rattle.std.specs.FinMap.{find, put, is_sorted, IsAntisymmetric}
use Rattle.std.specs.FinMap.Entries.{by_order as put_by_order, where_key, below_all, is_sorted-put, is_sorted-where_key, find-put, find-where_key, same_entries}
use Rattle.gn_basics.proofs.Orders.{by_order}
use Rattle.gn_basics.proofs.Tests.{second_holds}

pub first : (a b : Bool) → T (a && b) → T a
first true b p = tt
first false b p = p

is_less : (r : Ordering) → T (is_lt r) → r ≡ Less
is_less Less p = refl
is_less Equal p = absurd p
is_less Greater p = absurd p

turned : {A : Type 0} (b : Bool) (x y : A) → cond (not b) x y ≡ cond b y x
turned true x y = refl
turned false x y = refl

module _ {K X : Type 0} (R : K → K → Ordering) where
  insert_entry-put : (es : List (K × X)) (k : K) (v : X) → insert_entry R es k v ≡ put R k v es
  insert_entry-put [] k v = refl
  insert_entry-put (e ∷ es) k v =
      by_order (λ r. match_ordering r ((k, v) ∷ e ∷ es) ((e.0, v) ∷ es) (e ∷ insert_entry R es k v) ≡ put_by_order r ((k, v) ∷ e ∷ es) ((e.0, v) ∷ es) (e ∷ put R k v es)) (R k e.0) refl refl (ap (λ l. e ∷ l) (insert_entry-put es k v))

  lookup-find : (q : K) (es : List (K × X)) → lookup (is_at (R q)) es ≡ find R q es
  lookup-find q [] = refl
  lookup-find q (e ∷ es) = ap (cond (is_eq (R q e.0)) (Some e.1)) (lookup-find q es)

  -- what holds of all keys and of a key that is set holds of all keys after
  pub insert_entry-all : (P : K → Type 0) (es : List (K × X)) (k : K) (v : X) → AllByRecursion (λ e. P e.0) es → P k → AllByRecursion (λ e. P e.0) (insert_entry R es k v)
  insert_entry-all P [] k v h p = (p, tt)
  insert_entry-all P (e ∷ es) k v h p =
      by_order (λ r. AllByRecursion (λ e. P e.0) (match_ordering r ((k, v) ∷ e ∷ es) ((e.0, v) ∷ es) (e ∷ insert_entry R es k v))) (R k e.0) (p, h) h (h.0, insert_entry-all P es k v h.1 p)

  -- what holds of all keys holds of those that are left
  pub remove_entry-all : (P : K → Type 0) (test : K → Bool) (es : List (K × X)) → AllByRecursion (λ e. P e.0) es → AllByRecursion (λ e. P e.0) (remove_entry test es)
  remove_entry-all P test [] h = tt
  remove_entry-all P test (e ∷ es) h =
      elim (test e.0) as (λ b. AllByRecursion (λ e. P e.0) (cond b es (e ∷ remove_entry test es))) [ true ↦ h.1 | false ↦ (h.0, remove_entry-all P test es h.1) ]

  -- a key that isn't found leaves all entries where it is taken out
  pub remove_entry_absent : (test : K → Bool) (es : List (K × X)) → lookup test es ≡ None → remove_entry test es ≡ es
  remove_entry_absent test [] h = refl
  remove_entry_absent test (e ∷ es) h =
      elim (test e.0) as (λ b. cond b (Some e.1) (lookup test es) ≡ None → cond b es (e ∷ remove_entry test es) ≡ e ∷ es) [ true ↦ λ g. absurd (none-some e.1 (sym g)) | false ↦ λ g. ap (λ l. e ∷ l) (remove_entry_absent test es g) ] h

  module _ (o : IsTotalOrder R) where
    pub is_sorted-insert_entry : (es : List (K × X)) (k : K) (v : X) → T (is_sorted R es) → T (is_sorted R (insert_entry R es k v))
    is_sorted-insert_entry es k v h = subst (λ l. T (is_sorted R l)) (sym (insert_entry-put es k v)) (is_sorted-put R o k v es h)

    pub lookup-insert_entry : (es : List (K × X)) (k : K) (v : X) (q : K) → lookup (is_at (R q)) (insert_entry R es k v) ≡ cond (is_eq (R q k)) (Some v) (lookup (is_at (R q)) es)
    lookup-insert_entry es k v q =
        lookup-find q (insert_entry R es k v) ∙ ap (find R q) (insert_entry-put es k v) ∙ find-put R o q k v es ∙ ap (cond (is_eq (R q k)) (Some v)) (sym (lookup-find q es))

    -- below the first key that ties with k, none ties with it
    kept : (k x : K) (es : List (K × X)) → R k x ≡ Equal → T (below_all R x es) → where_key R (λ y. not (eq_by_cmp R k y)) es ≡ es
    kept k x [] p h = refl
    kept k x (e ∷ es) p h =
        let rest = where_key R (λ y. not (eq_by_cmp R k y)) es in
        ap (λ r. cond (not (is_eq r)) (e ∷ rest) rest) (o.congr k x e.0 p ∙ is_less _ (first _ _ h)) ∙ ap (λ l. e ∷ l) (kept k x es p (second_holds _ _ h))

    -- and none is found
    pub lookup_behind : (k x : K) (es : List (K × X)) → R k x ≡ Equal → T (below_all R x es) → lookup (is_at (R k)) es ≡ None
    lookup_behind k x [] p h = refl
    lookup_behind k x (e ∷ es) p h =
        ap (λ r. cond (is_eq r) (Some e.1) (lookup (is_at (R k)) es)) (o.congr k x e.0 p ∙ is_less _ (first _ _ h)) ∙ lookup_behind k x es p (second_holds _ _ h)

    remove_entry-where_key : (k : K) (es : List (K × X)) → T (is_sorted R es) → remove_entry (is_at (R k)) es ≡ where_key R (λ y. not (eq_by_cmp R k y)) es
    remove_entry-where_key k [] h = refl
    remove_entry-where_key k (e ∷ es) h =
        let left = where_key R (λ y. not (eq_by_cmp R k y)) es in
        let rest = ap (λ l. e ∷ l) (remove_entry-where_key k es (second_holds _ _ h)) in
        by_order (λ r. R k e.0 ≡ r → cond (is_eq r) es (e ∷ remove_entry (is_at (R k)) es) ≡ cond (not (is_eq r)) (e ∷ left) left) (R k e.0)
        (λ p. rest)
        (λ p. sym (kept k e.0 es p (first _ _ h)))
        (λ p. rest)
        refl

    pub is_sorted-remove_entry : (es : List (K × X)) (k : K) → T (is_sorted R es) → T (is_sorted R (remove_entry (is_at (R k)) es))
    is_sorted-remove_entry es k h =
        subst (λ l. T (is_sorted R l)) (sym (remove_entry-where_key k es h)) (is_sorted-where_key R (λ y. not (eq_by_cmp R k y)) es h)

    pub lookup-remove_entry : (es : List (K × X)) (k q : K) → T (is_sorted R es) → lookup (is_at (R q)) (remove_entry (is_at (R k)) es) ≡ cond (is_eq (R q k)) None (lookup (is_at (R q)) es)
    lookup-remove_entry es k q h =
        lookup-find q (remove_entry (is_at (R k)) es) ∙ ap (find R q) (remove_entry-where_key k es h)
        ∙ find-where_key R (λ y. not (eq_by_cmp R k y)) q (λ x t. ap (λ r. not (is_eq r)) (sym (alike_right o q x k t))) es
        ∙ turned (eq_by_cmp R k q) (find R q es) None ∙ ap (λ b. cond b None (find R q es)) ((eq_by_cmp_equiv o).symm k q)
        ∙ ap (cond (is_eq (R q k)) None) (sym (lookup-find q es))

    -- entries in order at which the same is found are the same
    pub same_by_lookup : IsAntisymmetric R → (es fs : List (K × X)) → T (is_sorted R es) → T (is_sorted R fs) → ((q : K) → lookup (is_at (R q)) es ≡ lookup (is_at (R q)) fs) → es ≡ fs
    same_by_lookup same es fs g h is =
        same_entries R o same es fs g h (λ q. sym (lookup-find q es) ∙ is q ∙ lookup-find q fs)

module _ {K X Y : Type 0} (R : K → K → Ordering) where
  module _ (g : K × X → Y) where
    below_all-map : (x : K) (es : List (K × X)) → below_all R x (map (λ (e : K × X). (e.0, g e)) es) ≡ below_all R x es
    below_all-map x [] = refl
    below_all-map x (e ∷ es) = ap (λ b. is_lt (R x e.0) && b) (below_all-map x es)

    -- other values leave the keys in order
    pub is_sorted-map : (es : List (K × X)) → is_sorted R (map (λ (e : K × X). (e.0, g e)) es) ≡ is_sorted R es
    is_sorted-map [] = refl
    is_sorted-map (e ∷ es) = λ i. below_all-map e.0 es i && is_sorted-map es i

    pub map-all : (P : K → Type 0) (es : List (K × X)) → AllByRecursion (λ (e : K × X). P e.0) es → AllByRecursion (λ (e : K × Y). P e.0) (map (λ (e : K × X). (e.0, g e)) es)
    map-all P [] h = tt
    map-all P (e ∷ es) h = (h.0, map-all P es h.1)

  -- what is done to all values, each with its key, is done to a value that is set
  pub insert_entry-map : IsAntisymmetric R → (f : K → X → Y) (es : List (K × X)) (k : K) (v : X) → insert_entry R (map (λ (e : K × X). (e.0, f e.0 e.1)) es) k (f k v) ≡ map (λ (e : K × X). (e.0, f e.0 e.1)) (insert_entry R es k v)
  insert_entry-map same f [] k v = refl
  insert_entry-map same f (e ∷ es) k v =
      let seen : List (K × X) → List (K × Y) = map (λ (e : K × X). (e.0, f e.0 e.1)) in
      by_order (λ r. R k e.0 ≡ r → match_ordering r ((k, f k v) ∷ seen (e ∷ es)) ((e.0, f k v) ∷ seen es) ((e.0, f e.0 e.1) ∷ insert_entry R (seen es) k (f k v)) ≡ seen (match_ordering r ((k, v) ∷ e ∷ es) ((e.0, v) ∷ es) (e ∷ insert_entry R es k v))) (R k e.0)
      (λ p. refl)
      (λ p. ap (λ x. (e.0, f x v) ∷ seen es) (same k e.0 p))
      (λ p. ap (λ l. (e.0, f e.0 e.1) ∷ l) (insert_entry-map same f es k v))
      refl
