-- Tasks: their keys, and the order in which they are given out.
use Rattle.std.proofs.Common.{◌≡◌, ℕ, ◌<◌, List, [], ◌∷◌, length, Option, Some, None, refl, sym, ◌∙◌, ap, subst, Bool, true, false, cond, ◌&&◌, nat_eq, true≢false, Result, Ok, Err, IfOk, arith}
use Rattle.std.proofs.lemmas.Bool.Decides.{nat_tests}
use Rattle.std.specs.declared.cmp.Ordering.{Ordering}
use Rattle.std.specs.declared.cmp.Ordering.TheVariants.{Less, Equal, Greater}
use Rattle.std.specs.Ordering.{nat_cmp, is_eq, is_gt, ordering_then}
use Rattle.std.specs.BTreeMap.{BTreeMap, is_at, get}
use Rattle.std.specs.Map.{lookup}
use Rattle.std.specs.Str.{bytes_eq}
use Rattle.std.specs.Cmp.Lexicographic.{slice_cmp, texts_ties}
use Rattle.gn_closure.specs.Reach.{Setup, Load}
use Rattle.gn_core.specs.Keys.{Key, Read, Import, Unit_of, Resolve, same_key}
use Rattle.gn_book.specs.declared.task.Task.{Task}
use Rattle.gn_book.specs.declared.task.Task.TheVariants as task
use Rattle.gn_book.specs.declared.task.Turn.{Turn}
use Rattle.gn_book.specs.declared.task.Turn.TheVariants as turn
use Rattle.gn_book.specs.contracts.task.TaskOrd.TheImpl.{cmp-value}
use Rattle.gn_book.specs.contracts.task.TurnOrd.TheImpl as lent
use Rattle.gn_book.specs.Tasks.{is_task, turn_order, texts_in, key_in, Numbers, Seats, IsTaskOf, IsPut, AreKept, IsSeated, IsFirst}

-- a comparison that comes last decides alone
then_equal : (r : Ordering) → r ≡ ordering_then r Equal
then_equal Less = refl
then_equal Equal = refl
then_equal Greater = refl

-- tasks compare as they are in order
pub tasks_ordered : (t u : Task) → cmp-value.it t u ≡ turn_order (key_in t) (key_in u)
tasks_ordered (task.Setup a) (task.Setup b) = then_equal (slice_cmp nat_cmp a b)
tasks_ordered (task.Setup a) (task.Load e b) = refl
tasks_ordered (task.Setup a) (task.Resolve m) = refl
tasks_ordered (task.Load d a) (task.Setup b) = refl
tasks_ordered (task.Load d a) (task.Load e b) = ap (ordering_then (slice_cmp nat_cmp d e)) (then_equal (slice_cmp nat_cmp a b))
tasks_ordered (task.Load d a) (task.Resolve m) = refl
tasks_ordered (task.Resolve l) (task.Setup b) = refl
tasks_ordered (task.Resolve l) (task.Load e b) = refl
tasks_ordered (task.Resolve l) (task.Resolve m) =
    ap (λ (z : Ordering). ordering_then (slice_cmp nat_cmp l.dir m.dir) (ordering_then (slice_cmp nat_cmp l.name m.name) z)) (then_equal (slice_cmp nat_cmp l.toolchain m.toolchain))

-- the same of keys that are lent
pub turns_ordered : (t u : Turn) → lent.cmp-value.it t u ≡ slice_cmp (slice_cmp nat_cmp) (texts_in t) (texts_in u)
turns_ordered turn.NoTask turn.NoTask = refl
turns_ordered turn.NoTask (turn.Setup b) = refl
turns_ordered turn.NoTask (turn.Load e b) = refl
turns_ordered turn.NoTask (turn.Resolve m) = refl
turns_ordered (turn.Setup a) turn.NoTask = refl
turns_ordered (turn.Setup a) (turn.Setup b) = then_equal (slice_cmp nat_cmp a.now b.now)
turns_ordered (turn.Setup a) (turn.Load e b) = refl
turns_ordered (turn.Setup a) (turn.Resolve m) = refl
turns_ordered (turn.Load d a) turn.NoTask = refl
turns_ordered (turn.Load d a) (turn.Setup b) = refl
turns_ordered (turn.Load d a) (turn.Load e b) = ap (ordering_then (slice_cmp nat_cmp d.now e.now)) (then_equal (slice_cmp nat_cmp a.now b.now))
turns_ordered (turn.Load d a) (turn.Resolve m) = refl
turns_ordered (turn.Resolve l) turn.NoTask = refl
turns_ordered (turn.Resolve l) (turn.Setup b) = refl
turns_ordered (turn.Resolve l) (turn.Load e b) = refl
turns_ordered (turn.Resolve l) (turn.Resolve m) =
    ap (λ (z : Ordering). ordering_then (slice_cmp nat_cmp l.now.dir m.now.dir) (ordering_then (slice_cmp nat_cmp l.now.name m.now.name) z)) (then_equal (slice_cmp nat_cmp l.now.toolchain m.now.toolchain))

-- tasks compare equal exactly where their keys are one
equal_then : (r s : Ordering) → is_eq (ordering_then r s) ≡ (is_eq r && is_eq s)
equal_then Less s = refl
equal_then Equal s = refl
equal_then Greater s = refl

text_ties : (a b : List ℕ) → is_eq (slice_cmp nat_cmp a b) ≡ bytes_eq a b
text_ties a b = sym (texts_ties a b)

texts_tied : (a b c d : List ℕ) → is_eq (ordering_then (slice_cmp nat_cmp a b) (slice_cmp nat_cmp c d)) ≡ (bytes_eq a b && bytes_eq c d)
texts_tied a b c d = equal_then (slice_cmp nat_cmp a b) (slice_cmp nat_cmp c d) ∙ (λ i. text_ties a b i && text_ties c d i)

pub tasks_tied : (t u : Task) → is_at (cmp-value.it t) u ≡ same_key (key_in t) (key_in u)
tasks_tied (task.Setup a) (task.Setup b) = text_ties a b
tasks_tied (task.Setup a) (task.Load e b) = refl
tasks_tied (task.Setup a) (task.Resolve m) = refl
tasks_tied (task.Load d a) (task.Setup b) = refl
tasks_tied (task.Load d a) (task.Load e b) = texts_tied d e a b
tasks_tied (task.Load d a) (task.Resolve m) = refl
tasks_tied (task.Resolve l) (task.Setup b) = refl
tasks_tied (task.Resolve l) (task.Load e b) = refl
tasks_tied (task.Resolve l) (task.Resolve m) =
    equal_then (slice_cmp nat_cmp l.dir m.dir) (ordering_then (slice_cmp nat_cmp l.name m.name) (slice_cmp nat_cmp l.toolchain m.toolchain))
    ∙ (λ i. text_ties l.dir m.dir i && texts_tied l.name m.name l.toolchain m.toolchain i)

-- a key that is no task isn't that of one
other_key : (k : Key) (t : Task) → is_task k ≡ false → same_key k (key_in t) ≡ false
other_key (Read p) (task.Setup a) e = refl
other_key (Read p) (task.Load d a) e = refl
other_key (Read p) (task.Resolve l) e = refl
other_key (Import m p) (task.Setup a) e = refl
other_key (Import m p) (task.Load d a) e = refl
other_key (Import m p) (task.Resolve l) e = refl
other_key (Unit_of u) t e = absurd (true≢false e)
other_key (Resolve m) t e = absurd (true≢false e)

pub task_is : (t : Task) → is_task (key_in t) ≡ true
task_is (task.Setup a) = refl
task_is (task.Load d a) = refl
task_is (task.Resolve l) = refl

-- each key that is a task is that of one
pub task_for : (k : Key) → is_task k ≡ true → (t : Task) × (key_in t ≡ k)
task_for (Read p) e = absurd (true≢false (sym e))
task_for (Import m p) e = absurd (true≢false (sym e))
task_for (Unit_of (Setup a)) e = (task.Setup a, refl)
task_for (Unit_of (Load d a)) e = (task.Load d a, refl)
task_for (Resolve l) e = (task.Resolve l, refl)

-- a map after a task was put in or taken out
pub put_task : (old new : Numbers) (t : Task) (k : Key) (n : Option ℕ) → key_in t ≡ k → ((u : Task) → new u ≡ cond (is_at (cmp-value.it t) u) n (old u)) → IsPut old new k n
put_task old new t k n same put u = put u ∙ ap (λ (b : Bool). cond b n (old u)) (tasks_tied t u ∙ ap (λ (z : Key). same_key z (key_in u)) same)

-- a key that is no task leaves it as it is
pub put_other : (old new : Numbers) (k : Key) (n : Option ℕ) → is_task k ≡ false → AreKept old new → IsPut old new k n
put_other old new k n other kept u = kept u ∙ ap (λ (b : Bool). cond b n (old u)) (sym (other_key k u other))

-- the first of a map
pub first_of : (numbers : Numbers) (t : Task) (n : ℕ) → numbers t ≡ Some n → ((u : Task) (m : ℕ) → numbers u ≡ Some m → is_gt (cmp-value.it t u) ≡ false) → IsFirst numbers (Some n)
first_of numbers t n at least = (t, at, λ u m e. ap is_gt (sym (tasks_ordered t u)) ∙ least u m e)

-- numbers compare equal exactly where they are one
pub numbers_tied : (n m : ℕ) → is_eq (nat_cmp n m) ≡ nat_eq n m
numbers_tied n m = grind (arith, nat_tests)

-- a map after a number got a seat or lost it
pub put_seat : (old new : Seats) (n : ℕ) (seat : Option ℕ) → ((m : ℕ) → new m ≡ cond (is_at (nat_cmp n) m) seat (old m)) → IsSeated old new n seat
put_seat old new n seat put m = put m ∙ ap (λ (b : Bool). cond b seat (old m)) (numbers_tied n m)

-- a map with the same entries, and one with none
pub same_entries : {K X : Type 0} (cmp : K → K → Ordering) (m n : BTreeMap K X) → n.entries ≡ m.entries → (k : K) → get cmp n k ≡ get cmp m k
same_entries cmp m n e k = ap (lookup (is_at (cmp k))) e

pub none_at : {K X : Type 0} (cmp : K → K → Ordering) (m : BTreeMap K X) → (0 < length m.entries → ⊥) → (k : K) → get cmp m k ≡ None
none_at {K} {X} cmp m empty k = by m.entries empty
  where
    by : (es : List (K × X)) → (0 < length es → ⊥) → lookup (is_at (cmp k)) es ≡ None
    by [] f = refl
    by (e ∷ es) f = absurd (f (omega arith))

pub no_entries : {K X : Type 0} (cmp : K → K → Ordering) (m : BTreeMap K X) → m.entries ≡ [] → (k : K) → get cmp m k ≡ None
no_entries cmp m e k = ap (lookup (is_at (cmp k))) e

-- the task of a key that was copied
pub task_by : {E : Type 0} (r : Result (Option Task) E) (t : Task) (k : Key) → IfOk r (λ o. o ≡ Some t) → key_in t ≡ k → IfOk r (IsTaskOf k)
task_by (Ok o) t k e same = subst (IsTaskOf k) (sym e) same
task_by (Err x) t k e same = tt
