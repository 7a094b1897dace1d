-- How many units are left, and how many build files are claimed or have answers.
use Rattle.std.proofs.Common.{◌≡◌, inl, inr, ℕ, suc, ltb, ◌+◌, ◌-◌, ◌<◌, ◌≤◌, List, [], ◌∷◌, length, Option, Some, None, Bool, true, false, ◌&&◌, ◌||◌, cond, is_some, refl, sym, ◌∙◌, ap, subst, true≢false, arith}
use Rattle.std.proofs.lemmas.Bool.{or_left, or_right, and_parts, ltb-true, ltb-false}
use Rattle.std.specs.List.{IsDistinct, AllByRecursion}
use Rattle.gn_closure.specs.Closure.{In}
use Rattle.gn_closure.specs.Reach.{Unit_key, Setup, Load, Is_reached, Holds}
use Rattle.gn_closure.specs.Computed.{same_unit, load_limit, setup_limit, is_too_large}
use Rattle.gn_closure.specs.Least.{IsLoad, IsSetup, ReachesMore, IsTooLarge}
use Rattle.gn_closure.proofs.Least.{limits_exact}
use Rattle.gn_core.specs.Keys.{Key, Read, Import, Unit_of, Resolve, Answer, Filed, units, same_key, put}
use Rattle.gn_core.specs.Machine.{State, Event, Claim, happens, replay, IsFiled}
use Rattle.gn_core.proofs.Puts.{same_key_is, put_own}
use Rattle.gn_graph.specs.Needs.{home}
use Rattle.gn_executions.specs.Base.{BaseState}
use Rattle.gn_book.specs.Graphs.{is_unit, UnitsHaveNumbers, HasMoreKeys}
use Rattle.gn_book.specs.Logs.{Log, KeysDiffer, opening, state_of, with_event, IsFree}
use Rattle.gn_projects.specs.Loaded.{is_build_file}
use Rattle.gn_builds.specs.Driving.{IsDriven, IsBegun, one_if, count_of, unit_limit, is_finished, units_left, is_begun, is_loaded, files_begun}
use Rattle.gn_builds.proofs.Begins.{no_log}
use Rattle.gn_builds.proofs.Counts.{IsOnce, in_front, count_same, count_less, count_among, count_below}
use Rattle.gn_builds.proofs.Logs.{after_event}
use Rattle.gn_builds.proofs.Named.{number_of, once}
use Rattle.gn_builds.proofs.Stacks.{put_else}

both_hold : (b c : Bool) → b ≡ true → c ≡ true → (b && c) ≡ true
both_hold true c b_holds c_holds = c_holds
both_hold false c b_holds c_holds = absurd (true≢false (sym b_holds))

second_fails : (b c : Bool) → c ≡ false → (b && c) ≡ false
second_fails true c fails = fails
second_fails false c fails = refl

first_fails : (b c d : Bool) → b ≡ false → (b && c) ≡ (b && d)
first_fails true c d fails = absurd (true≢false fails)
first_fails false c d fails = refl

at_most_first : (b c : Bool) → one_if (b && c) ≤ one_if b
at_most_first true true = omega arith
at_most_first true false = omega arith
at_most_first false c = omega arith

some_value : {A : Type 0} (x : Option A) → is_some x ≡ true → (v : A) × (x ≡ Some v)
some_value None e = absurd (true≢false (sym e))
some_value (Some v) e = (v, refl)

-- The units of one kind among keys

abbrev units_by : (Unit_key → Bool) → List Key → List Unit_key
units_by kind [] = []
units_by kind (Read path ∷ ks) = units_by kind ks
units_by kind (Import layer path ∷ ks) = units_by kind ks
units_by kind (Unit_of u ∷ ks) = cond (kind u) (u ∷ units_by kind ks) (units_by kind ks)
units_by kind (Resolve label ∷ ks) = units_by kind ks

abbrev is_load : Unit_key → Bool
is_load (Setup toolchain) = false
is_load (Load dir toolchain) = true

abbrev is_setup : Unit_key → Bool
is_setup (Setup toolchain) = true
is_setup (Load dir toolchain) = false

units_counted : (ks : List Key) → count_of is_unit ks ≡ length (units_by is_load ks) + length (units_by is_setup ks)
units_counted [] = refl
units_counted (Read path ∷ ks) = let rest = units_counted ks in omega (arith, rest)
units_counted (Import layer path ∷ ks) = let rest = units_counted ks in omega (arith, rest)
units_counted (Unit_of (Setup toolchain) ∷ ks) = let rest = units_counted ks in omega (arith, rest)
units_counted (Unit_of (Load dir toolchain) ∷ ks) = let rest = units_counted ks in omega (arith, rest)
units_counted (Resolve label ∷ ks) = let rest = units_counted ks in omega (arith, rest)

distinct_if : (b : Bool) (u : Unit_key) (us : List Unit_key) → AllByRecursion (λ y. same_unit u y ≡ false) us → IsDistinct same_unit us → IsDistinct same_unit (cond b (u ∷ us) us)
unfolding IsDistinct
distinct_if true u us apart distinct = (apart, distinct)
distinct_if false u us apart distinct = distinct

apart_units : (u : Unit_key) (us : List Unit_key) → (In us u → ⊥) → AllByRecursion (λ y. same_unit u y ≡ false) us
apart_units u [] none = tt
apart_units u (q ∷ us) none = (not_same (same_unit u q) refl, apart_units u us (λ i. none (inr i)))
  where
    not_same : (b : Bool) → same_unit u q ≡ b → b ≡ false
    not_same true e = let same : u ≡ q = cc (same_key_is (Unit_of u) (Unit_of q) e) in absurd (none (inl (sym same)))
    not_same false e = refl

module _ (kind : Unit_key → Bool) where
  in_units : (ks : List Key) (u : Unit_key) → In (units_by kind ks) u → In ks (Unit_of u) × (kind u ≡ true)
  in_units [] u i = absurd i
  in_units (Read path ∷ ks) u i = let later = in_units ks u i in (inr later.0, later.1)
  in_units (Import layer path ∷ ks) u i = let later = in_units ks u i in (inr later.0, later.1)
  in_units (Resolve label ∷ ks) u i = let later = in_units ks u i in (inr later.0, later.1)
  in_units (Unit_of q ∷ ks) u i = by (kind q) refl i (in_units ks u)
    where
      by : (b : Bool) → kind q ≡ b → In (cond b (q ∷ units_by kind ks) (units_by kind ks)) u → (In (units_by kind ks) u → In ks (Unit_of u) × (kind u ≡ true))
          → In (Unit_of q ∷ ks) (Unit_of u) × (kind u ≡ true)
      by true e (inl same) ih = (inl (ap Unit_of same), ap kind (sym same) ∙ e)
      by true e (inr j) ih = let later = ih j in (inr later.0, later.1)
      by false e j ih = let later = ih j in (inr later.0, later.1)

  units_distinct : (ks : List Key) → IsOnce ks → IsDistinct same_unit (units_by kind ks)
  unfolding IsDistinct
  units_distinct [] o = tt
  units_distinct (Read path ∷ ks) o = units_distinct ks o.1
  units_distinct (Import layer path ∷ ks) o = units_distinct ks o.1
  units_distinct (Unit_of u ∷ ks) o =
      distinct_if (kind u) u (units_by kind ks) (apart_units u (units_by kind ks) (λ i. o.0 (in_units ks u i).0)) (units_distinct ks o.1)
  units_distinct (Resolve label ∷ ks) o = units_distinct ks o.1

-- where units that have numbers are reached, and no more of one kind are reached than the limit, no more of it have numbers
few_of_kind : (kind : Unit_key → Bool) (IsSo : Unit_key → Type 0) (limit : ℕ) (l : Log) → ((u : Unit_key) → kind u ≡ true → IsSo u) → KeysDiffer l → UnitsHaveNumbers l
    → (ReachesMore IsSo home (units (state_of l).filed) limit → ⊥) → length (units_by kind l.keys) ≤ limit
few_of_kind kind IsSo limit l is differ numbers few = by (ltb limit (length (units_by kind l.keys))) refl
  where
    reached : (u : Unit_key) → In (units_by kind l.keys) u → IsSo u × Holds home (units (state_of l).filed) (Is_reached u)
    reached u i = let at = in_units kind l.keys u i in (is u at.1, (numbers u).0 (number_of l.keys (Unit_of u) at.0))

    by : (b : Bool) → ltb limit (length (units_by kind l.keys)) ≡ b → length (units_by kind l.keys) ≤ limit
    by true e =
        absurd (few (units_by kind l.keys, units_distinct kind l.keys (once l.keys differ), ltb-true limit (length (units_by kind l.keys)) e, reached))
    by false e = ltb-false limit (length (units_by kind l.keys)) e

load_is : (u : Unit_key) → is_load u ≡ true → IsLoad u
load_is (Setup toolchain) e = absurd (true≢false (sym e))
load_is (Load dir toolchain) e = tt

setup_is : (u : Unit_key) → is_setup u ≡ true → IsSetup u
setup_is (Setup toolchain) e = tt
setup_is (Load dir toolchain) e = absurd (true≢false (sym e))

-- no more units have numbers than in a build may be
pub few_units : (l : Log) → KeysDiffer l → UnitsHaveNumbers l → is_too_large home (units (state_of l).filed) ≡ false → count_of is_unit l.keys ≤ unit_limit
unfolding unit_limit
few_units l differ numbers small =
    let loads = few_of_kind is_load IsLoad load_limit l load_is differ numbers (λ more. none (inl more)) in
    let setups = few_of_kind is_setup IsSetup setup_limit l setup_is differ numbers (λ more. none (inr more)) in
    let all = units_counted l.keys in
    omega (arith, loads, setups, all)
  where
    none : IsTooLarge home (units (state_of l).filed) → ⊥
    none large = true≢false (sym ((limits_exact home (units (state_of l).filed)).1 large) ∙ small)

-- Units that are left

finished_few : (filed : Filed) (ks : List Key) → count_of (is_finished filed) ks ≤ count_of is_unit ks
finished_few filed [] = omega arith
finished_few filed (k ∷ ks) = let rest = finished_few filed ks in let here = at_most_first (is_unit k) (is_some (filed k)) in omega (arith, rest, here)

fewer_left : (limit old new : ℕ) → old ≤ limit → old < new → suc limit - new < suc limit - old
fewer_left limit old new within more = omega (arith, within, more)

no_more_left : (limit old new : ℕ) → old ≤ new → suc limit - new ≤ suc limit - old
no_more_left limit old new more = omega (arith, more)

-- an answer that stays
still_finished : (old new : Filed) (q : Key) → (IsFiled old q → IsFiled new q) → is_finished old q ≡ true → IsFiled new q × (is_finished new q ≡ true)
still_finished old new q stays finished =
    let parts = and_parts (is_unit q) (is_some (old q)) finished in
    let there = stays (some_value (old q) parts.1) in
    (there, both_hold (is_unit q) (is_some (new q)) parts.0 (ap is_some there.1))

-- the unit that was claimed has its answer once the seat has no claim
pub finished_fewer : (start : BaseState) (old new : Log) (k : Key) → IsDriven start old (k ∷ []) → IsDriven start new [] → is_unit k ≡ true
    → ((q : Key) → IsBegun (state_of old) q → IsBegun (state_of new) q) → count_of is_unit old.keys ≤ unit_limit → units_left new < units_left old
unfolding units_left
finished_fewer start old new k d done unit stays few =
    let more = count_below (is_finished (state_of old).filed) (is_finished (state_of new).filed) k old.keys new.keys (once old.keys d.apart) named
    (done.named.filed k here) (both_hold (is_unit k) (is_some ((state_of new).filed k)) unit (ap is_some here.1))
    (second_fails (is_unit k) (is_some ((state_of old).filed k)) (ap is_some (d.stacked.unfiled k (inl refl)))) in
    let within = finished_few (state_of old).filed old.keys in
    fewer_left unit_limit (count_of (is_finished (state_of old).filed) old.keys) (count_of (is_finished (state_of new).filed) new.keys) (omega (arith, within, few)) more
  where
    filed : (q : Key) → IsBegun (state_of new) q → IsFiled (state_of new).filed q
    filed q (inl f) = f
    filed q (inr (n, h)) = absurd (done.stacked.alone q n h).1

    here : IsFiled (state_of new).filed k
    here = filed k (stays k (inr (0, d.stacked.held k (inl refl))))

    named : (q : Key) → In old.keys q → is_finished (state_of old).filed q ≡ true → In new.keys q × (is_finished (state_of new).filed q ≡ true)
    named q i t =
        let there = still_finished (state_of old).filed (state_of new).filed q (λ f. filed q (stays q (inl f))) t in
        (done.named.filed q there.0, there.1)

-- units that get numbers have no answers yet
pub numbered_left : (l m : Log) → KeysDiffer l → HasMoreKeys l m → units_left m ≤ units_left l
unfolding units_left
numbered_left l m differ more =
    no_more_left unit_limit (count_of (is_finished (state_of l).filed) l.keys) (count_of (is_finished (state_of m).filed) m.keys)
    (count_among (is_finished (state_of l).filed) (is_finished (state_of m).filed) l.keys m.keys (once l.keys differ) named)
  where
    named : (q : Key) → In l.keys q → is_finished (state_of l).filed q ≡ true → In m.keys q × (is_finished (state_of m).filed q ≡ true)
    named q i t = (
      subst (λ (z : List Key). In z q) (sym more.keys.1) (in_front l.keys more.keys.0 q i),
      subst (λ (es : List Event). is_finished (replay opening es).filed q ≡ true) (sym more.events) t,
    )

-- neither has one that is claimed
pub claimed_left : (l : Log) (k : Key) → units_left (with_event l (Claim 0 k)) ≡ units_left l
unfolding units_left
claimed_left l k = ap (λ (s : State). suc unit_limit - count_of (is_finished s.filed) l.keys) (after_event l (Claim 0 k))

-- Build files

begun_is : (s : State) (q : Key) → is_begun s q ≡ true → IsBegun s q
begun_is s q begun = by (s.filed q) refl (s.claims q) refl begun
  where
    by : (x : Option Answer) → s.filed q ≡ x → (y : Option ℕ) → s.claims q ≡ y → (is_some x || is_some y) ≡ true → IsBegun s q
    by (Some v) e y f h = inl (v, e)
    by None e (Some n) f h = inr (n, f)
    by None e None f h = absurd (true≢false (sym h))

is_begun_so : (s : State) (q : Key) → IsBegun s q → is_begun s q ≡ true
is_begun_so s q (inl filed) = or_left (is_some (s.filed q)) (is_some (s.claims q)) (ap is_some filed.1)
is_begun_so s q (inr claimed) = or_right (is_some (s.filed q)) (is_some (s.claims q)) (ap is_some claimed.1)

-- a key that has begun has a number
begun_named : (start : BaseState) (l : Log) (ks : List Key) → IsDriven start l ks → (q : Key) → IsBegun (state_of l) q → In l.keys q
begun_named start l ks d q (inl filed) = d.named.filed q filed
begun_named start l ks d q (inr claimed) = d.named.claimed q (d.stacked.alone q claimed.0 claimed.1).1

still_loaded : (old new : State) → ((u : Unit_key) → IsBegun old (Unit_of u) → IsBegun new (Unit_of u)) → (q : Key) → is_loaded old q ≡ true → IsBegun new q × (is_loaded new q ≡ true)
still_loaded old new stays (Read path) loaded = absurd (true≢false (sym loaded))
still_loaded old new stays (Import layer path) loaded = absurd (true≢false (sym loaded))
still_loaded old new stays (Unit_of u) loaded =
    let parts = and_parts (is_build_file (Unit_of u)) (is_begun old (Unit_of u)) loaded in
    let there = stays u (begun_is old (Unit_of u) parts.1) in
    (there, both_hold (is_build_file (Unit_of u)) (is_begun new (Unit_of u)) parts.0 (is_begun_so new (Unit_of u) there))
still_loaded old new stays (Resolve label) loaded = absurd (true≢false (sym loaded))

-- where units that have begun have begun in another log
pub files_most : (start : BaseState) (old new : Log) (ks js : List Key) → IsDriven start old ks → IsDriven start new js
    → ((u : Unit_key) → IsBegun (state_of old) (Unit_of u) → IsBegun (state_of new) (Unit_of u)) → files_begun old ≤ files_begun new
unfolding files_begun
files_most start old new ks js d done stays = count_among (is_loaded (state_of old)) (is_loaded (state_of new)) old.keys new.keys (once old.keys d.apart) named
  where
    named : (q : Key) → In old.keys q → is_loaded (state_of old) q ≡ true → In new.keys q × (is_loaded (state_of new) q ≡ true)
    named q i t = let there = still_loaded (state_of old) (state_of new) stays q t in (begun_named start new js done q there.0, there.1)

-- where no unit has begun that hadn't, as many build files have begun: so it is in the work on a unit
pub files_still : (start : BaseState) (old new : Log) (ks js : List Key) → IsDriven start old ks → IsDriven start new js
    → ((q : Key) → IsBegun (state_of old) q → IsBegun (state_of new) q) → ((u : Unit_key) → IsBegun (state_of new) (Unit_of u) → IsBegun (state_of old) (Unit_of u))
    → files_begun new ≡ files_begun old
files_still start old new ks js d done stays back =
    let most = files_most start old new ks js d done (λ u begun. stays (Unit_of u) begun) in
    let least = files_most start new old js ks done d back in
    omega (arith, most, least)

-- units that get numbers haven't begun
pub files_numbered : (start : BaseState) (l m : Log) → IsDriven start l [] → IsDriven start m [] → HasMoreKeys l m → files_begun m ≡ files_begun l
files_numbered start l m d done more =
    files_still start l m [] [] d done (λ q begun. subst (λ (es : List Event). IsBegun (replay opening es) q) (sym more.events) begun)
    (λ u begun. subst (λ (es : List Event). IsBegun (replay opening es) (Unit_of u)) more.events begun)

-- before anything is claimed
pub files_at_first : files_begun no_log ≡ 0
unfolding files_begun
files_at_first = refl

-- a key is claimed
module _ (l : Log) (k : Key) (free : IsFree (state_of l) k) where
  abbrev claimed : State
  claimed = happens (state_of l) (Claim 0 k)

  claimed_loaded : is_build_file k ≡ true → is_loaded claimed k ≡ true
  claimed_loaded file =
      both_hold (is_build_file k) (is_begun claimed k) file
      (or_right (is_some ((state_of l).filed k)) (is_some (put (state_of l).claims k (Some 0) k)) (ap is_some (put_own (state_of l).claims k 0)))

  free_loaded : is_loaded (state_of l) k ≡ false
  free_loaded = second_fails (is_build_file k) (is_begun (state_of l) k) (λ i. is_some (free.unfiled i) || is_some (free.unclaimed i))

  other_loaded : (q : Key) → (k ≡ q → ⊥) → is_loaded claimed q ≡ is_loaded (state_of l) q
  other_loaded q apart = ap (λ (c : Option ℕ). is_build_file q && (is_some ((state_of l).filed q) || is_some c)) (put_else (state_of l).claims k (Some 0) q apart)

  no_file_loaded : is_build_file k ≡ false → (q : Key) → is_loaded claimed q ≡ is_loaded (state_of l) q
  no_file_loaded none q = by (same_key k q) refl
    where
      by : (b : Bool) → same_key k q ≡ b
          → (is_build_file q && (is_some ((state_of l).filed q) || is_some (cond b (Some 0) ((state_of l).claims q)))) ≡ is_loaded (state_of l) q
      by true e = first_fails (is_build_file q) (is_some ((state_of l).filed q) || true) (is_begun (state_of l) q) (ap is_build_file (sym (same_key_is k q e)) ∙ none)
      by false e = refl

  -- it is one more where it is a build file
  pub begun_counted : KeysDiffer l → In l.keys k → files_begun (with_event l (Claim 0 k)) ≡ one_if (is_build_file k) + files_begun l
  unfolding files_begun
  begun_counted differ there = ap (λ (s : State). count_of (is_loaded s) l.keys) (after_event l (Claim 0 k)) ∙ by (is_build_file k) refl
    where
      by : (b : Bool) → is_build_file k ≡ b → count_of (is_loaded claimed) l.keys ≡ one_if b + count_of (is_loaded (state_of l)) l.keys
      by true file =
          let less = count_less (is_loaded claimed) (is_loaded (state_of l)) k (claimed_loaded file) free_loaded other_loaded l.keys (once l.keys differ) there in
          omega (arith, less)
      by false none = let same = count_same (is_loaded claimed) (is_loaded (state_of l)) l.keys (λ q i. no_file_loaded none q) in omega (arith, same)
