-- The order in which tasks are given out has no ties.
use Rattle.std.proofs.Common.{◌≡◌, ℕ, List, [], ◌∷◌, refl, sym, ◌∙◌, ap, true, false, true≢false, arith}
use Rattle.std.specs.declared.cmp.Ordering.{Ordering}
use Rattle.std.specs.declared.cmp.Ordering.TheVariants.{Less, Equal, Greater}
use Rattle.std.specs.Ordering.{nat_cmp, is_eq, is_gt, ordering_reverse}
use Rattle.std.specs.Cmp.{IsTotalOrder, nat_cmp_total}
use Rattle.std.specs.Cmp.Lexicographic.{slice_cmp, lists_total, lists_ties, texts_ties, pointwise_decides, bytes_decides}
use Rattle.gn_labels.specs.declared.label.Label.{Label}
use Rattle.gn_closure.specs.Reach.{Setup, Load}
use Rattle.gn_core.specs.Keys.{Key, Read, Import, Unit_of, Resolve}
use Rattle.gn_book.specs.Tasks.{is_task, turn_of, turn_order, IsNoLater}
use Rattle.gn_book.specs.NextLaws.{KindsAreInOrder, TasksHaveNoTies}

pub kinds_ordered : KindsAreInOrder
kinds_ordered toolchain dir other label = (refl, refl)

abbrev texts_cmp : List (List ℕ) → List (List ℕ) → Ordering
texts_cmp = slice_cmp (slice_cmp nat_cmp)

texts_total : IsTotalOrder texts_cmp
texts_total = lists_total (lists_total nat_cmp_total)

texts_same : (xs ys : List (List ℕ)) → texts_cmp xs ys ≡ Equal → xs ≡ ys
texts_same xs ys e = (pointwise_decides bytes_decides xs ys).0 (lists_ties (slice_cmp nat_cmp) texts_ties xs ys ∙ ap is_eq e)

-- what is neither greater nor less is equal
level : (r : Ordering) → is_gt r ≡ false → is_gt (ordering_reverse r) ≡ false → r ≡ Equal
level Less a b = absurd (true≢false b)
level Equal a b = refl
level Greater a b = absurd (true≢false a)

apart : (m n : ℕ) (xs ys : List (List ℕ)) → (m ≡ n → ⊥) → ◌≡◌ {A = List (List ℕ)} ((m ∷ []) ∷ xs) ((n ∷ []) ∷ ys) → ⊥
apart m n xs ys differ e = let same : m ≡ n = cc e in differ same

one_label : (l m : Label) → ◌≡◌ {A = List (List ℕ)} ((2 ∷ []) ∷ l.dir ∷ l.name ∷ l.toolchain ∷ []) ((2 ∷ []) ∷ m.dir ∷ m.name ∷ m.toolchain ∷ []) → l ≡ m
one_label l m e =
    let dir : l.dir ≡ m.dir = cc e in
    let name : l.name ≡ m.name = cc e in
    let toolchain : l.toolchain ≡ m.toolchain = cc e in
    λ i. record { dir = dir i; name = name i; toolchain = toolchain i }

one_task : (k q : Key) → is_task k ≡ true → is_task q ≡ true → turn_of k ≡ turn_of q → k ≡ q
one_task (Read p) q a b e = absurd (true≢false (sym a))
one_task (Import l p) q a b e = absurd (true≢false (sym a))
one_task (Unit_of u) (Read p) a b e = absurd (true≢false (sym b))
one_task (Unit_of u) (Import l p) a b e = absurd (true≢false (sym b))
one_task (Resolve l) (Read p) a b e = absurd (true≢false (sym b))
one_task (Resolve l) (Import m p) a b e = absurd (true≢false (sym b))
one_task (Unit_of (Setup s)) (Unit_of (Setup t)) a b e = let same : s ≡ t = cc e in ap (λ z. Unit_of (Setup z)) same
one_task (Unit_of (Setup s)) (Unit_of (Load d t)) a b e = absurd (apart 0 1 (s ∷ []) (d ∷ t ∷ []) (λ z. omega (arith, z)) e)
one_task (Unit_of (Setup s)) (Resolve m) a b e = absurd (apart 0 2 (s ∷ []) (m.dir ∷ m.name ∷ m.toolchain ∷ []) (λ z. omega (arith, z)) e)
one_task (Unit_of (Load d s)) (Unit_of (Setup t)) a b e = absurd (apart 1 0 (d ∷ s ∷ []) (t ∷ []) (λ z. omega (arith, z)) e)
one_task (Unit_of (Load d s)) (Unit_of (Load f t)) a b e = let dir : d ≡ f = cc e in let same : s ≡ t = cc e in λ i. Unit_of (Load (dir i) (same i))
one_task (Unit_of (Load d s)) (Resolve m) a b e = absurd (apart 1 2 (d ∷ s ∷ []) (m.dir ∷ m.name ∷ m.toolchain ∷ []) (λ z. omega (arith, z)) e)
one_task (Resolve l) (Unit_of (Setup t)) a b e = absurd (apart 2 0 (l.dir ∷ l.name ∷ l.toolchain ∷ []) (t ∷ []) (λ z. omega (arith, z)) e)
one_task (Resolve l) (Unit_of (Load f t)) a b e = absurd (apart 2 1 (l.dir ∷ l.name ∷ l.toolchain ∷ []) (f ∷ t ∷ []) (λ z. omega (arith, z)) e)
one_task (Resolve l) (Resolve m) a b e = ap Resolve (one_label l m e)

pub no_ties : TasksHaveNoTies
no_ties k q a b first second =
    one_task k q a b (texts_same (turn_of k) (turn_of q) (level (turn_order k q) first (sym (ap is_gt (texts_total.antisymm (turn_of q) (turn_of k))) ∙ second)))

-- no key is later than itself, nor than one that is later than it, and of three the last is no sooner than the first
reversed : (r : Ordering) → r ≡ ordering_reverse r → r ≡ Equal
reversed Less e = absurd (cc e)
reversed Equal e = refl
reversed Greater e = absurd (cc e)

pub later_self : (k : Key) → IsNoLater k k
later_self k = ap is_gt (reversed (turn_order k k) (texts_total.antisymm (turn_of k) (turn_of k)))

pub later_back : (k q : Key) → is_gt (turn_order k q) ≡ true → IsNoLater q k
later_back k q e = ap is_gt (texts_total.antisymm (turn_of q) (turn_of k)) ∙ by (turn_order k q) e
  where
    by : (r : Ordering) → is_gt r ≡ true → is_gt (ordering_reverse r) ≡ false
    by Less h = absurd (true≢false (sym h))
    by Equal h = absurd (true≢false (sym h))
    by Greater h = refl

pub later_trans : (k q p : Key) → IsNoLater k q → IsNoLater q p → IsNoLater k p
later_trans k q p a b = by (turn_order k q) (turn_order q p) refl refl a b
  where
    by : (r s : Ordering) → turn_order k q ≡ r → turn_order q p ≡ s → is_gt r ≡ false → is_gt s ≡ false → IsNoLater k p
    by Greater s e f h i = absurd (true≢false h)
    by Equal s e f h i = ap is_gt (texts_total.congr (turn_of k) (turn_of q) (turn_of p) e ∙ f) ∙ i
    by Less Greater e f h i = absurd (true≢false i)
    by Less Less e f h i = ap is_gt (texts_total.trans (turn_of k) (turn_of q) (turn_of p) e f)
    by Less Equal e f h i =
        let back : turn_order p q ≡ Equal = texts_total.antisymm (turn_of p) (turn_of q) ∙ ap ordering_reverse f in
        let same : turn_order p k ≡ turn_order q k = texts_total.congr (turn_of p) (turn_of q) (turn_of k) back in
        let greater : turn_order q k ≡ Greater = texts_total.antisymm (turn_of q) (turn_of k) ∙ ap ordering_reverse e in
        ap is_gt (texts_total.antisymm (turn_of k) (turn_of p) ∙ ap ordering_reverse (same ∙ greater))
