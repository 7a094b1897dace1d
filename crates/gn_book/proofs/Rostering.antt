-- What a roster keeps while keys get numbers and stand otherwise.
use Rattle.std.proofs.Common.{◌≡◌, ℕ, zero, suc, ◌+◌, ◌<◌, ◌≤◌, List, [], ◌∷◌, ◌++◌, length, map, Option, Some, None, option_map, unwrap_or, slice_get, slice_set, refl, sym, ◌∙◌, ap, subst, inl, inr, ◌||◌, ◌&&◌, Bool, true, false, cond, nat_eq, eq-eqb, eqb-true, true≢false, arith}
use Rattle.std.specs.List.{list_any}
use Rattle.std.proofs.lemmas.Bool.{cases_lt}
use Rattle.std.proofs.lemmas.List.{length-set, length-append, map-append}
use Rattle.std.proofs.lemmas.Option.{slice_get_past, slice_get-map}
use Rattle.gn_core.specs.Keys.{Key, Read, Answer, same_key}
use Rattle.gn_core.proofs.Puts.{same_key_is, key_own}
use Rattle.gn_items.specs.declared.key.Key.{Key as Named}
use Rattle.gn_book.specs.declared.status.Status.{Status}
use Rattle.gn_book.specs.declared.status.Status.TheVariants as status
use Rattle.gn_book.specs.declared.task.Task.{Task}
use Rattle.gn_book.specs.Keys.{key_of}
use Rattle.gn_book.specs.Standings.{Standing, standing_of, stands_open, is_open, is_claimed, is_blocked, is_filed, seat_in, named, standing_at, answer_in}
use Rattle.gn_book.specs.Rosters.{Table, table_of, with_standing, IsHeld, IsReadyAt, IsFirstReady, IsFirstBelow, TellsReady, IsOneHeld, IsRoster}
use Rattle.gn_book.proofs.Orders.{later_self, later_trans, later_back}
use Rattle.std.specs.Ordering.{is_gt}
use Rattle.gn_book.specs.Tasks.{is_task, turn_order, Numbers, Seats, key_in, IsNoLater, IsPut, AreKept, IsSeated, SeatsAreKept, IsFirst, IsOneSeated}
use Rattle.gn_book.proofs.Standing.{named_at, standing_here, get_own, get_other}
use Rattle.gn_book.proofs.Numbering.{get_more, table_more}
use Rattle.gn_book.proofs.Steps.{map_length}
use Rattle.gn_book.proofs.Tasks.{task_for, task_is}

-- other maps of the same numbers and seats
pub roster_same : {f : ℕ} → (ks : List Key) (xs : List Standing) (ready now : Numbers) (held later : Seats) → IsRoster ks xs ready held f → AreKept ready now → SeatsAreKept held later → IsRoster ks xs now later f
roster_same ks xs ready now held later r same kept = record {
  table = r.table;
  sized = r.sized;
  within = r.within;
  sound = λ t n e. r.sound t n (sym (same t) ∙ e);
  whole = λ t n a b l. same t ∙ r.whole t n a b l;
  seated = λ n. kept n ∙ r.seated n;
}

-- a place that has a key is within the list
pub got_within : {A : Type 0} (xs : List A) (n : ℕ) (x : A) → slice_get xs n ≡ Some x → n < length xs
got_within xs n x e = elim (cases_lt n (length xs)) [ inl l ↦ l | inr l ↦ let none : slice_get xs n ≡ None = slice_get_past xs n l in absurd (cc (none, e)) ]

-- the key of another number is another key
apart : (ks : List Key) (n m : ℕ) (q : Key) → n < length ks → slice_get ks m ≡ Some q → same_key (named ks n) q ≡ false → m ≡ n → ⊥
apart ks n m q l at differs same =
    let here : ◌≡◌ {A = Option Key} (Some (named ks n)) (Some q) = sym (named_at ks n l) ∙ subst (λ z. slice_get ks z ≡ Some q) same at in
    let one : named ks n ≡ q = cc here in
    let equal : same_key (named ks n) q ≡ true = subst (λ (z : Key). same_key (named ks n) z ≡ true) one (key_own (named ks n)) in
    true≢false (sym equal ∙ differs)

-- the key of a number stands otherwise, and no longer open
pub roster_set : {f : ℕ} → (ks : List Key) (xs : List Standing) (ready now : Numbers) (held later : Seats) → IsRoster ks xs ready held f
    → (n : ℕ) (y : Standing) → n < length ks → (y ≡ is_open → ⊥)
    → IsPut ready now (named ks n) None → IsSeated held later n (seat_in (Some y)) → IsRoster ks (slice_set xs n y) now later f
roster_set {f = f} ks xs ready now held later r n y l shut taken seats = record {
  table = r.table;
  sized = length-set xs n y ∙ r.sized;
  within = r.within;
  sound = λ t m e. sound_by t m (same_key (named ks n) (key_in t)) refl (sym (taken t) ∙ e);
  whole = λ t m a b k. taken t ∙ whole_by t m a b k (same_key (named ks n) (key_in t)) refl;
  seated = λ m. seats m ∙ seated_by m (nat_eq n m) refl;
}
  where
    inside : n < length xs
    inside = subst (λ z. n < z) (sym r.sized) l

    own : slice_get (slice_set xs n y) n ≡ Some y
    own = get_own xs n y inside

    sound_by : (t : Task) (m : ℕ) (b : Bool) → same_key (named ks n) (key_in t) ≡ b → cond b None (ready t) ≡ Some m
        → (slice_get ks m ≡ Some (key_in t)) × (slice_get (slice_set xs n y) m ≡ Some is_open) × (m < f)
    sound_by t m true e h = absurd (cc h)
    sound_by t m false e h =
        let was = r.sound t m h in
        (was.0, get_other xs n y m (apart ks n m (key_in t) l was.0 e) ∙ was.1, was.2)

    not_own : (m : ℕ) → slice_get (slice_set xs n y) m ≡ Some is_open → m ≡ n → ⊥
    not_own m stands same =
        let both : ◌≡◌ {A = Option Standing} (Some y) (Some is_open) = sym own ∙ subst (λ z. slice_get (slice_set xs n y) z ≡ Some is_open) same stands in
        let one : y ≡ is_open = cc both in
        shut one

    whole_by : (t : Task) (m : ℕ) → slice_get ks m ≡ Some (key_in t) → slice_get (slice_set xs n y) m ≡ Some is_open → m < f
        → (b : Bool) → same_key (named ks n) (key_in t) ≡ b → cond b None (ready t) ≡ Some m
    whole_by t m a stands k true e =
        let same : named ks n ≡ key_in t = same_key_is (named ks n) (key_in t) e in
        absurd (not_own m stands (r.table m n (key_in t) a (named_at ks n l ∙ ap Some same)))
    whole_by t m a stands k false e = r.whole t m a (sym (get_other xs n y m (not_own m stands)) ∙ stands) k

    seated_by : (m : ℕ) (b : Bool) → nat_eq n m ≡ b → cond b (seat_in (Some y)) (held m) ≡ seat_in (slice_get (slice_set xs n y) m)
    seated_by m true e = let same : n ≡ m = eqb-true n m e in ap seat_in (sym (subst (λ z. slice_get (slice_set xs n y) z ≡ Some y) same own))
    seated_by m false e =
        r.seated m ∙ ap seat_in (sym (get_other xs n y m (λ same. let equal : nat_eq n m ≡ true = eq-eqb n m (sym same) in true≢false (sym equal ∙ e))))

-- a key that doesn't stand open isn't ready
pub not_ready : {f : ℕ} → (ks : List Key) (xs : List Standing) (ready : Numbers) (held : Seats) → IsRoster ks xs ready held f
    → (n : ℕ) → n < length ks → (slice_get xs n ≡ Some is_open → ⊥) → IsPut ready ready (named ks n) None
not_ready ks xs ready held r n l shut t = by (same_key (named ks n) (key_in t)) refl (ready t) refl
  where
    by : (b : Bool) → same_key (named ks n) (key_in t) ≡ b → (o : Option ℕ) → ready t ≡ o → ready t ≡ cond b None (ready t)
    by false e o h = refl
    by true e None h = h
    by true e (Some m) h =
        let was = r.sound t m h in
        let same : named ks n ≡ key_in t = same_key_is (named ks n) (key_in t) e in
        let one : m ≡ n = r.table m n (key_in t) was.0 (named_at ks n l ∙ ap Some same) in
        absurd (shut (subst (λ z. slice_get xs z ≡ Some is_open) one was.1))

-- a key that keeps its seat keeps it
pub same_seat : (xs : List Standing) (held : Seats) (n : ℕ) (seat : Option ℕ) → ((m : ℕ) → held m ≡ seat_in (slice_get xs m)) → seat_in (slice_get xs n) ≡ seat → IsSeated held held n seat
same_seat xs held n seat seated here m = by (nat_eq n m) refl
  where
    by : (b : Bool) → nat_eq n m ≡ b → held m ≡ cond b seat (held m)
    by true e = let same : n ≡ m = eqb-true n m e in seated m ∙ subst (λ z. seat_in (slice_get xs z) ≡ seat) same here
    by false e = refl

-- a key that a seat has claimed doesn't stand open
pub not_open : (xs : List Standing) (n seat : ℕ) → seat_in (slice_get xs n) ≡ Some seat → slice_get xs n ≡ Some is_open → ⊥
not_open xs n seat claimed stands = let none : seat_in (slice_get xs n) ≡ None = ap seat_in stands in cc (none, claimed)

-- the last of a list, and the seats of a list to which an open key was added
pub at_end : {A : Type 0} (xs : List A) (x : A) → slice_get (xs ++ x ∷ []) (length xs) ≡ Some x
at_end [] x = refl
at_end (y ∷ xs) x = at_end xs x

seat_more : (xs : List Standing) (n : ℕ) → seat_in (slice_get (xs ++ is_open ∷ []) n) ≡ seat_in (slice_get xs n)
seat_more [] zero = refl
seat_more [] (suc n) = refl
seat_more (x ∷ xs) zero = refl
seat_more (x ∷ xs) (suc n) = seat_more xs n

-- a new key stands open
pub roster_more : {f : ℕ} → (ks : List Key) (xs : List Standing) (ready : Numbers) (held : Seats) → IsRoster ks xs ready held f
    → (k : Key) → list_any (same_key k) ks ≡ false → IsRoster (ks ++ k ∷ []) (xs ++ is_open ∷ []) ready held f
roster_more {f = f} ks xs ready held r k new = record {
  table = table_more ks k new r.table;
  sized = let a : length (xs ++ is_open ∷ []) ≡ length xs + 1 = length-append xs (is_open ∷ []) in let b : length (ks ++ k ∷ []) ≡ length ks + 1 = length-append ks (k ∷ []) in omega (arith, a, b, r.sized);
  within = let b : length (ks ++ k ∷ []) ≡ length ks + 1 = length-append ks (k ∷ []) in omega (arith, b, r.within);
  sound = λ t m e. let was = r.sound t m e in
      (get_more ks (k ∷ []) m (got_within ks m (key_in t) was.0) ∙ was.0, get_more xs (is_open ∷ []) m (got_within xs m is_open was.1) ∙ was.1, was.2);
  whole = λ t m a b l. let inside : m < length ks = omega (arith, l, r.within) in let also : m < length xs = omega (arith, inside, r.sized) in
      r.whole t m (sym (get_more ks (k ∷ []) m inside) ∙ a) (sym (get_more xs (is_open ∷ []) m also) ∙ b) l;
  seated = λ m. r.seated m ∙ sym (seat_more xs m);
}

-- numbers whose keys aren't open are passed
pub roster_skip : {f : ℕ} → (ks : List Key) (xs : List Standing) (ready : Numbers) (held : Seats) → IsRoster ks xs ready held f
    → f < length ks → (slice_get xs f ≡ Some is_open → ⊥) → IsRoster ks xs ready held (f + 1)
roster_skip {f = f} ks xs ready held r l shut = record {
  table = r.table;
  sized = r.sized;
  within = omega (arith, l);
  sound = λ t m e. let was = r.sound t m e in let below : m < f = was.2 in (was.0, was.1, omega (arith, below));
  whole = λ t m a b k. elim (cases_lt m f) [ inl below ↦ r.whole t m a b below | inr above ↦ let same : m ≡ f = omega (arith, above, k) in absurd (shut (subst (λ z. slice_get xs z ≡ Some is_open) same b)) ];
  seated = r.seated;
}

-- the key of a number that stands open is ready by the map
pub roster_pass : {f : ℕ} → (ks : List Key) (xs : List Standing) (ready now : Numbers) (held : Seats) → IsRoster ks xs ready held f
    → (k : Key) → slice_get ks f ≡ Some k → slice_get xs f ≡ Some is_open → IsPut ready now k (Some f) → IsRoster ks xs now held (f + 1)
roster_pass {f = f} ks xs ready now held r k at stands put = record {
  table = r.table;
  sized = r.sized;
  within = let l : f < length ks = got_within ks f k at in omega (arith, l);
  sound = λ t m e. sound_by t m (same_key k (key_in t)) refl (sym (put t) ∙ e);
  whole = λ t m a b l. put t ∙ whole_by t m a b l (same_key k (key_in t)) refl;
  seated = r.seated;
}
  where
    sound_by : (t : Task) (m : ℕ) (b : Bool) → same_key k (key_in t) ≡ b → cond b (Some f) (ready t) ≡ Some m
        → (slice_get ks m ≡ Some (key_in t)) × (slice_get xs m ≡ Some is_open) × (m < f + 1)
    sound_by t m true e h =
        let here : f ≡ m = cc h in (
          subst (λ z. slice_get ks z ≡ Some (key_in t)) here (at ∙ ap Some (same_key_is k (key_in t) e)),
          subst (λ z. slice_get xs z ≡ Some is_open) here stands,
          omega (arith, here),
        )
    sound_by t m false e h = let was = r.sound t m h in let below : m < f = was.2 in (was.0, was.1, omega (arith, below))

    other : (t : Task) (m : ℕ) → slice_get ks m ≡ Some (key_in t) → same_key k (key_in t) ≡ false → m ≡ f → ⊥
    other t m a e same =
        let one : ◌≡◌ {A = Option Key} (Some k) (Some (key_in t)) = sym at ∙ subst (λ z. slice_get ks z ≡ Some (key_in t)) same a in
        let equal : k ≡ key_in t = cc one in
        true≢false (sym (subst (λ (z : Key). same_key k z ≡ true) equal (key_own k)) ∙ e)

    whole_by : (t : Task) (m : ℕ) → slice_get ks m ≡ Some (key_in t) → slice_get xs m ≡ Some is_open → m < f + 1
        → (b : Bool) → same_key k (key_in t) ≡ b → cond b (Some f) (ready t) ≡ Some m
    whole_by t m a b l true e = ap Some (r.table f m k at (a ∙ ap Some (sym (same_key_is k (key_in t) e))))
    whole_by t m a b l false e = elim (cases_lt m f) [ inl below ↦ r.whole t m a b below | inr above ↦ absurd (other t m a e (let same : m ≡ f = omega (arith, above, l) in same)) ]

-- how the key of a number stands
pub standing_by : {A : Type 0} (meaning : A → Answer) (ys : List (Status A)) (n : ℕ) (y : Status A) → slice_get ys n ≡ Some y → slice_get (map (standing_of meaning) ys) n ≡ Some (standing_of meaning y)
standing_by meaning ys n y at = slice_get-map (standing_of meaning) ys n ∙ ap (option_map (standing_of meaning)) at

pub open_is : (x : Standing) → stands_open x ≡ true → x ≡ is_open
open_is is_open e = refl
open_is (is_claimed seat) e = absurd (true≢false (sym e))
open_is (is_blocked seat on) e = absurd (true≢false (sym e))
open_is (is_filed answer) e = absurd (true≢false (sym e))

pub shut_by : (xs : List Standing) (n : ℕ) (x : Standing) → slice_get xs n ≡ Some x → stands_open x ≡ false → slice_get xs n ≡ Some is_open → ⊥
shut_by xs n x at shut stands =
    let one : ◌≡◌ {A = Option Standing} (Some x) (Some is_open) = sym at ∙ stands in
    let same : x ≡ is_open = cc one in
    true≢false (sym (ap stands_open same) ∙ shut)

-- the first task of the map is the first that stands open below a number
pub first_by : {f : ℕ} → (ks : List Key) (xs : List Standing) (ready : Numbers) (held : Seats) → IsRoster ks xs ready held f → (o : Option ℕ) → IsFirst ready o → IsFirstBelow (table_of ks xs) f o
first_by ks xs ready held r None none = λ n k l is. let t = task_for k is.2 in let some : ready t.0 ≡ Some n = r.whole t.0 n (is.0 ∙ ap Some (sym t.1)) is.1 l in let missing : ready t.0 ≡ None = none t.0 in cc (some, missing)
first_by ks xs ready held r (Some n) first =
    let at = r.sound first.0 n first.1 in (
      key_in first.0,
      (at.0, at.1, task_is first.0),
      λ m q l is. let u = task_for q is.2 in
          subst (λ (z : Key). IsNoLater (key_in first.0) z) u.1 (first.2 u.0 m (r.whole u.0 m (is.0 ∙ ap Some (sym u.1)) is.1 l)),
    )

-- the first of all
pub first_of_all : (t : Table) (end : ℕ) (o : Option ℕ) → IsFirstBelow t end o → length t.keys ≤ end → IsFirstReady t o
first_of_all t end None none all = λ n k is. let l : n < length t.keys = got_within t.keys n k is.0 in none n k (omega (arith, l, all)) is
first_of_all t end (Some n) first all = (first.0, first.1, λ m q is. let l : m < length t.keys = got_within t.keys m q is.0 in first.2 m q (omega (arith, l, all)) is)

-- whether a number is that of a key that is ready
pub tells_ready : (t : Table) (n : ℕ) (x : Standing) (k : Key) → slice_get t.keys n ≡ Some k → slice_get t.standings n ≡ Some x → TellsReady t n (stands_open x && is_task k)
tells_ready t n is_open k at stands = by (is_task k) refl
  where
    by : (b : Bool) → is_task k ≡ b → TellsReady t n b
    by true e = (k, (at, stands, e))
    by false e = λ q is. let one : ◌≡◌ {A = Option Key} (Some k) (Some q) = sym at ∙ is.0 in let same : k ≡ q = cc one in absurd (true≢false (sym is.2 ∙ sym (ap is_task same) ∙ e))
tells_ready t n (is_claimed seat) k at stands = λ q is. let one : ◌≡◌ {A = Option Standing} (Some (is_claimed seat)) (Some is_open) = sym stands ∙ is.1 in cc one
tells_ready t n (is_blocked seat on) k at stands = λ q is. let one : ◌≡◌ {A = Option Standing} (Some (is_blocked seat on)) (Some is_open) = sym stands ∙ is.1 in cc one
tells_ready t n (is_filed answer) k at stands = λ q is. let one : ◌≡◌ {A = Option Standing} (Some (is_filed answer)) (Some is_open) = sym stands ∙ is.1 in cc one

-- one more number was looked at: its key isn't ready; is the first; is sooner than the first; or isn't
one_key : (t : Table) (n : ℕ) (k q : Key) → IsReadyAt t n k → IsReadyAt t n q → k ≡ q
one_key t n k q is also = let one : ◌≡◌ {A = Option Key} (Some k) (Some q) = sym is.0 ∙ also.0 in cc one

pub step_closed : (t : Table) (n : ℕ) (o : Option ℕ) → IsFirstBelow t n o → ((k : Key) → IsReadyAt t n k → ⊥) → IsFirstBelow t (n + 1) o
step_closed t n None none shut = λ m k l is. elim (cases_lt m n) [ inl below ↦ none m k below is | inr above ↦ let same : m ≡ n = omega (arith, above, l) in shut k (subst (λ z. IsReadyAt t z k) same is) ]
step_closed t n (Some b) first shut = (
  first.0,
  first.1,
  λ m k l is.
      elim (cases_lt m n) [ inl below ↦ first.2 m k below is | inr above ↦ let same : m ≡ n = omega (arith, above, l) in absurd (shut k (subst (λ z. IsReadyAt t z k) same is)) ],
)

pub step_first : (t : Table) (n : ℕ) (k : Key) → IsFirstBelow t n None → IsReadyAt t n k → IsFirstBelow t (n + 1) (Some n)
step_first t n k none is = (
  k,
  is,
  λ m q l also.
      elim (cases_lt m n) [
        | inl below ↦ absurd (none m q below also)
        | inr above ↦ let same : m ≡ n = omega (arith, above, l) in
            subst (λ (z : Key). IsNoLater k z) (one_key t n k q is (subst (λ z. IsReadyAt t z q) same also)) (later_self k)
      ],
)

pub step_sooner : (t : Table) (n b : ℕ) (k : Key) → (first : IsFirstBelow t n (Some b)) → IsReadyAt t n k → IsNoLater k first.0 → IsFirstBelow t (n + 1) (Some n)
step_sooner t n b k first is before = (
  k,
  is,
  λ m q l also.
      elim (cases_lt m n) [
        | inl below ↦ later_trans k first.0 q before (first.2 m q below also)
        | inr above ↦ let same : m ≡ n = omega (arith, above, l) in
            subst (λ (z : Key). IsNoLater k z) (one_key t n k q is (subst (λ z. IsReadyAt t z q) same also)) (later_self k)
      ],
)

pub step_later : (t : Table) (n b : ℕ) (k : Key) → (first : IsFirstBelow t n (Some b)) → IsReadyAt t n k → IsNoLater first.0 k → IsFirstBelow t (n + 1) (Some b)
step_later t n b k first is behind = (
  first.0,
  first.1,
  λ m q l also.
      elim (cases_lt m n) [
        | inl below ↦ first.2 m q below also
        | inr above ↦ let same : m ≡ n = omega (arith, above, l) in
            subst (λ (z : Key). IsNoLater first.0 z) (one_key t n k q is (subst (λ z. IsReadyAt t z q) same also)) behind
      ],
)

pub sooner_by : (t : Table) (n b : ℕ) (k q : Key) → IsFirstBelow t n (Some b) → TellsReady t n true → slice_get t.keys b ≡ Some q → slice_get t.keys n ≡ Some k → is_gt (turn_order q k) ≡ true → IsFirstBelow t (n + 1) (Some n)
sooner_by t n b k q first is there here e =
    step_sooner t n b k first (subst (λ (z : Key). IsReadyAt t n z) own is.1) (subst (λ (z : Key). IsNoLater k z) same (later_back q k e))
  where
    own : is.0 ≡ k
    own = let one : ◌≡◌ {A = Option Key} (Some is.0) (Some k) = sym is.1.0 ∙ here in cc one

    same : q ≡ first.0
    same = let one : ◌≡◌ {A = Option Key} (Some q) (Some first.0) = sym there ∙ first.1.0 in cc one

-- a seated number is that of a key that a seat has claimed
pub held_by : {f : ℕ} → (ks : List Key) (xs : List Standing) (ready : Numbers) (held : Seats) → IsRoster ks xs ready held f → (o : Option (ℕ × ℕ)) → IsOneSeated held o → IsOneHeld (table_of ks xs) o
held_by ks xs ready held r None none = λ n. sym (r.seated n) ∙ none n
held_by ks xs ready held r (Some p) at = sym (r.seated p.0) ∙ at

-- no key has a number
pub new_roster : (ks : List Key) (xs : List Standing) (ready : Numbers) (held : Seats) → ks ≡ [] → xs ≡ [] → ((t : Task) → ready t ≡ None) → ((n : ℕ) → held n ≡ None) → IsRoster ks xs ready held 0
new_roster ks xs ready held no_keys no_standings none free =
    subst (λ (z : List Key). IsRoster z xs ready held 0) (sym no_keys) (subst (λ (z : List Standing). IsRoster [] z ready held 0) (sym no_standings) empty)
  where
    empty : IsRoster [] [] ready held 0
    empty = record {
      table = λ i j k a b. absurd (cc a);
      sized = refl;
      within = omega arith;
      sound = λ t n e. let missing : ready t ≡ None = none t in absurd (cc (missing, e));
      whole = λ t n a b l. absurd (cc a);
      seated = λ n. free n;
    }

-- the same keys and standings, and other maps of the same numbers and seats
pub roster_also : {f : ℕ} → (ks qs : List Key) (xs zs : List Standing) (ready now : Numbers) (held later : Seats) → IsRoster ks xs ready held f → qs ≡ ks → zs ≡ xs → AreKept ready now → SeatsAreKept held later → IsRoster qs zs now later f
roster_also {f = f} ks qs xs zs ready now held later r e g same kept =
    subst (λ (z : List Key). IsRoster z zs now later f) (sym e) (subst (λ (z : List Standing). IsRoster ks z now later f) (sym g) (roster_same ks xs ready now held later r same kept))

-- the same as a list of standings that was written
pub roster_at : {f : ℕ} → (ks : List Key) (xs zs : List Standing) (ready : Numbers) (held : Seats) → IsRoster ks xs ready held f → zs ≡ xs → IsRoster ks zs ready held f
roster_at {f = f} ks xs zs ready held r e = subst (λ (z : List Standing). IsRoster ks z ready held f) (sym e) r

pub roster_new : {f : ℕ} → (ks qs : List Key) (xs zs : List Standing) (ready : Numbers) (held : Seats) → IsRoster ks xs ready held f
    → (k : Key) → list_any (same_key k) ks ≡ false → qs ≡ ks ++ k ∷ [] → zs ≡ xs ++ is_open ∷ [] → IsRoster qs zs ready held f
roster_new {f = f} ks qs xs zs ready held r k new e g =
    subst (λ (z : List Key). IsRoster z zs ready held f) (sym e) (subst (λ (z : List Standing). IsRoster (ks ++ k ∷ []) z ready held f) (sym g) (roster_more ks xs ready held r k new))

-- the key of a number stands as its status says
pub stands_as : {A : Type 0} (meaning : A → Answer) (keys : List Named) (ys : List (Status A)) (old : Table) → table_of (map key_of keys) (map (standing_of meaning) ys) ≡ old
    → (n : ℕ) (y : Status A) → slice_get ys n ≡ Some y → slice_get old.standings n ≡ Some (standing_of meaning y)
stands_as meaning keys ys old view_is n y at =
    ap (λ (t : Table). slice_get t.standings n) (sym view_is) ∙ slice_get-map (standing_of meaning) ys n ∙ ap (option_map (standing_of meaning)) at

-- there are as many statuses as keys
pub statuses_within : {A : Type 0} {f : ℕ} (meaning : A → Answer) (keys : List Named) (ys : List (Status A)) (ready : Numbers) (held : Seats) (old : Table) → IsRoster (map key_of keys) (map (standing_of meaning) ys) ready held f
    → table_of (map key_of keys) (map (standing_of meaning) ys) ≡ old → (n : ℕ) → n < length old.keys → n < length ys
statuses_within meaning keys ys ready held old r view_is n l =
    let many : length (map (standing_of meaning) ys) ≡ length old.keys = r.sized ∙ ap (λ (t : Table). length t.keys) view_is in
    let same : length (map (standing_of meaning) ys) ≡ length ys = map_length (standing_of meaning) ys in
    omega (arith, many, same, l)

-- a key that has no number has none among the same keys
pub fresh_in : (keys new : List Named) (k : Key) (xs : List Standing) (old : Table) → table_of (map key_of keys) xs ≡ old → list_any (same_key k) old.keys ≡ false → new ≡ keys → list_any (same_key k) (map key_of new) ≡ false
fresh_in keys new k xs old view_is fresh same = ap (λ (z : List Named). list_any (same_key k) (map key_of z)) same ∙ ap (λ (t : Table). list_any (same_key k) t.keys) view_is ∙ fresh

-- the keys and the standings after it
pub keys_behind : (keys new last : List Named) (k : Key) → map key_of last ≡ map key_of new ++ k ∷ [] → new ≡ keys → map key_of last ≡ map key_of keys ++ k ∷ []
keys_behind keys new last k put same = put ∙ ap (λ (z : List Named). map key_of z ++ k ∷ []) same

pub statuses_behind : {A : Type 0} (meaning : A → Answer) (ys zs last : List (Status A)) → last ≡ zs ++ status.Open ∷ [] → zs ≡ ys → map (standing_of meaning) last ≡ map (standing_of meaning) ys ++ is_open ∷ []
statuses_behind {A = A} meaning ys zs last put same =
    ap (map (standing_of meaning)) (put ∙ ap (λ (z : List (Status A)). z ++ status.Open ∷ []) same) ∙ map-append (standing_of meaning) ys (status.Open ∷ [])

-- the number of the last key
pub last_number : (keys : List Named) (last : List Key) (k : Key) (number : ℕ) → last ≡ map key_of keys ++ k ∷ [] → number ≡ length keys → slice_get last number ≡ Some k
last_number keys last k number put long =
    ap (λ (z : List Key). slice_get z number) put ∙ ap (slice_get (map key_of keys ++ k ∷ [])) (long ∙ sym (map_length key_of keys)) ∙ at_end (map key_of keys) k

-- a number of what contracts see
pub within_table : (ks : List Key) (xs : List Standing) (old : Table) → table_of ks xs ≡ old → (n : ℕ) → n < length old.keys → n < length ks
within_table ks xs old view_is n l = subst (λ (t : Table). n < length t.keys) (sym view_is) l

-- the key of a number that was looked up
pub named_as : (old : Table) (ks : List Key) (xs : List Standing) → table_of ks xs ≡ old → (n : ℕ) (k : Key) → slice_get old.keys n ≡ Some k → (ready now : Numbers) → IsPut ready now k None → IsPut ready now (named ks n) None
named_as old ks xs view_is n k at ready now put = subst (λ (z : Key). IsPut ready now z None) (sym same) put
  where
    same : named ks n ≡ k
    same = ap (λ (o : Option Key). unwrap_or o (Read [])) (ap (λ (t : Table). slice_get t.keys n) view_is ∙ at)

-- what contracts see after the key of a number stands otherwise
pub set_table : (ks : List Key) (xs zs : List Standing) (old : Table) → table_of ks xs ≡ old → (n : ℕ) (y : Standing) → zs ≡ slice_set xs n y → table_of ks zs ≡ with_standing old n y
set_table ks xs zs old view_is n y set = ap (table_of ks) set ∙ ap (λ (t : Table). with_standing t n y) view_is

-- a key that a seat has claimed begins to wait
pub roster_wait : {f : ℕ} → (ks : List Key) (xs : List Standing) (ready : Numbers) (held : Seats) → IsRoster ks xs ready held f → (old : Table) → table_of ks xs ≡ old
    → (n seat on : ℕ) → n < length old.keys → seat_in (slice_get old.standings n) ≡ Some seat → IsRoster ks (slice_set xs n (is_blocked seat on)) ready held f
roster_wait ks xs ready held r old view_is n seat on l claimed =
    roster_set ks xs ready ready held held r n (is_blocked seat on) inside (λ e. cc e) (not_ready ks xs ready held r n inside (not_open xs n seat here)) (same_seat xs held n (Some seat) r.seated here)
  where
    inside : n < length ks
    inside = within_table ks xs old view_is n l

    here : seat_in (slice_get xs n) ≡ Some seat
    here = ap (λ (t : Table). seat_in (slice_get t.standings n)) view_is ∙ claimed

-- a key that a seat has claimed gets its answer
pub roster_filed : {f : ℕ} → (ks : List Key) (xs : List Standing) (ready : Numbers) (held later : Seats) → IsRoster ks xs ready held f → (old : Table) → table_of ks xs ≡ old
    → (n : ℕ) (v : Answer) → n < length old.keys → IsHeld old n → IsSeated held later n None → IsRoster ks (slice_set xs n (is_filed v)) ready later f
roster_filed ks xs ready held later r old view_is n v l claimed released =
    roster_set ks xs ready ready held later r n (is_filed v) inside (λ e. cc e) (not_ready ks xs ready held r n inside (not_open xs n claimed.0 here)) released
  where
    inside : n < length ks
    inside = within_table ks xs old view_is n l

    here : seat_in (slice_get xs n) ≡ Some claimed.0
    here = ap (λ (t : Table). seat_in (slice_get t.standings n)) view_is ∙ claimed.1

-- a key that isn't in the list has no standing
pub lacking : (ks : List Key) (xs : List Standing) (k : Key) → list_any (same_key k) ks ≡ false → standing_at ks xs k ≡ None
lacking [] xs k e = refl
lacking (j ∷ ks) [] k e = refl
lacking (j ∷ ks) (x ∷ xs) k e = by (λ h. lacking ks xs k h) (same_key j k) (same_key k j) refl refl e
  where
    by : (list_any (same_key k) ks ≡ false → standing_at ks xs k ≡ None) → (a b : Bool) → same_key j k ≡ a → same_key k j ≡ b → (b || list_any (same_key k) ks) ≡ false → cond a (Some x) (standing_at ks xs k) ≡ None
    by rest true b s t h =
        let same : j ≡ k = same_key_is j k s in
        let own : b ≡ true = sym t ∙ subst (λ (z : Key). same_key k z ≡ true) (sym same) (key_own k) in
        let yes : (b || list_any (same_key k) ks) ≡ true = ap (λ (z : Bool). z || list_any (same_key k) ks) own in
        absurd (true≢false (sym yes ∙ h))
    by rest false true s t h = absurd (cc h)
    by rest false false s t h = rest h

-- the answer of the key of a number
pub answer_of_key : {f : ℕ} → (ks : List Key) (xs : List Standing) (ready : Numbers) (held : Seats) (old : Table) → IsRoster ks xs ready held f → table_of ks xs ≡ old
    → (n : ℕ) (k : Key) → slice_get ks n ≡ Some k → answer_in (slice_get old.standings n) ≡ answer_in (standing_at old.keys old.standings k)
answer_of_key ks xs ready held old r view_is n k at =
    ap answer_in (ap (λ (t : Table). slice_get t.standings n) (sym view_is) ∙ sym (standing_here ks xs n k r.table r.sized at) ∙ ap (λ (t : Table). standing_at t.keys t.standings k) view_is)
