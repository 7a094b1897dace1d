-- Loading by one seat, by what its calls do.
use Rattle.std.proofs.Common.{◌≡◌, inl, inr, ℕ, ◌+◌, ◌^◌, ◌<◌, ◌≤◌, List, [], ◌∷◌, Option, Some, None, Bool, true, false, ◌&&◌, ◌||◌, is_some, ◌↔◌, Result, Ok, Err, refl, sym, ◌∙◌, ap, subst, true≢false, arith}
use Rattle.std.specs.Result.{IsErrAnd}
use Rattle.gn_outside.specs.Tree.{Tree}
use Rattle.gn_outside.specs.States.{SourceState}
use Rattle.gn_closure.specs.Closure.{In}
use Rattle.gn_closure.specs.Computed.{load_limit, setup_limit, is_too_large}
use Rattle.gn_closure.specs.Reach.{Unit_key, Setup, Load, Is_reached, Holds}
use Rattle.gn_graph.specs.Needs.{home}
use Rattle.gn_executions.specs.Base.{BaseState}
use Rattle.gn_core.specs.Keys.{early, Key, Read, Import, Unit_of, Resolve, Filed, units}
use Rattle.gn_core.specs.Machine.{State, Cause, Claim as Claims, happens, replay}
use Rattle.gn_core.specs.Layered.{IsPart}
use Rattle.gn_book.specs.Keys.{key_of}
use Rattle.gn_book.specs.Graphs.{is_unit, UnitsHaveNumbers, HasMoreKeys, OnlyUnitsAreNew}
use Rattle.gn_book.specs.Logs.{Log, KeysDiffer, opening, state_of, key_at, with_event, first_cause}
use Rattle.gn_book.specs.Next.{IsReadyNumber, NextIs, HasNoClaim}
use Rattle.gn_book.specs.NextLaws.{HasNumber}
use Rattle.gn_book.specs.declared.book.Claim.{Claim}
use Rattle.gn_book.specs.declared.next.Next.TheVariants.{Quiet}
use Rattle.gn_projects.specs.Loaded.{is_build_file}
use Rattle.gn_builds.specs.Stacks.{MayWait}
use Rattle.gn_builds.specs.Driving.{keys_of as claimed_keys, IsDriven, IsOfLayer, IsGoing, one_if, count_of, unit_limit, units_left, is_begun, is_loaded, files_begun}
use Rattle.gn_builds.specs.Rest.{ReachesFew}
use Rattle.gn_builds.proofs.Counts.{in_front}
use Rattle.gn_builds.proofs.Logs.{after_event}
use Rattle.gn_builds.proofs.Named.{in_at}
use Rattle.gn_builds.proofs.Going.{reaches_too_many}
use Rattle.gn_builds.proofs.Begins.{numbered_going, ready_unit, begun_going, starts_going}
use Rattle.gn_builds.proofs.Seen.{claimed_are_seen}
use Rattle.gn_builds.proofs.Units.{few_units, finished_fewer, numbered_left, claimed_left, files_still, files_numbered, files_at_first, begun_counted}
use Rattle.gn_load.specs.Current.{layer_now, IsCurrent, TurnsToUnit}
use Rattle.gn_load.specs.Turns.{known_paths, KeepsKnown, Goes, IsTurned, IsStop}
use Rattle.gn_load.specs.Plain.{Agrees, IsStarted, HasBegun, AreNumbered, HasNumbered, NumbersUnits, HasClaimed, ClaimsUnit, ComesNext, IsTakenUp, TakesUp, IsDriving, IsWhollyLoaded, IsDrive}
use Rattle.gn_answers.specs.declared.answer.FileContent.{FileContent}
use Rattle.gn_load.specs.declared.current.CurrentBase.{CurrentBase}
use Rattle.gn_load.specs.declared.driver.Driver.{Driver}
use Rattle.gn_load.specs.declared.driver.Stop.{Stop}
use Rattle.gn_load.specs.declared.driver.Stop.TheVariants.{TooLarge, Memory}
use Rattle.gn_load.proofs.CurrentLemmas.{starts_current, unit_current, unit_start, unit_layer}
use Rattle.gn_load.proofs.DriverParts.{GoOn, moved}
use Rattle.gn_load.proofs.TurnLemmas.{goes_memory}

-- before anything is claimed
pub starts_as : (base : BaseState) (known : List (List ℕ × FileContent)) (d : Driver) → d.base.start ≡ base → d.base.other ≡ None → layer_now d.base ≡ early [] → d.book ≡ record { seats = 1; keys = []; events = [] } → d.waiting.items ≡ [] → d.known.entries ≡ known → d.reads ≡ 0
    → IsStarted base known d
starts_as base known d start other layer book waiting left reads = record {
  start = start;
  goes = λ now agrees. record {
    going = subst (λ (n : ℕ). IsGoing d.base.start (known_paths known) now now d.book [] n) (sym reads)
        (subst (λ (l : Log). IsGoing d.base.start (known_paths known) now now l [] 0) (sym book) (starts_going d.base.start (known_paths known) now));
    base = starts_current d.base (state_of d.book).filed other layer;
    layer = λ k i. absurd i;
    kept = subst (λ (es : List (List ℕ × FileContent)). KeepsKnown (known_paths known) now es d.book.keys) (sym left) (record { all = λ path i. inl i; only = λ path i. i; told = agrees });
  };
  waiting = waiting;
  counted = subst (λ (l : Log). files_begun l ≡ 0) (sym book) files_at_first;
}

-- wherever it goes on, its build files are counted
pub has_begun : (known : List (List ℕ)) (before now : SourceState) (d : Driver) (cs : List Claim) (units : ℕ) → Goes known before now d cs → units ≡ files_begun d.book → HasBegun d.base.start before units
has_begun known before now d cs units goes counted = record { log = d.book; keys = claimed_keys cs; driven = goes.going.driven; over = goes.going.source.over; counted = counted }

-- The units that are reached get numbers

module _ (known : List (List ℕ)) (before now : SourceState) (old new : Driver) (goes : Goes known before now old []) (more : HasMoreKeys old.book new.book) (only : OnlyUnitsAreNew old.book new.book) (numbers : UnitsHaveNumbers new.book) (differ : KeysDiffer new.book) (base : new.base ≡ old.base) (waiting : new.waiting ≡ old.waiting) (left : new.known ≡ old.known) (reads : new.reads ≡ old.reads) where
  going : IsGoing old.base.start known before now new.book [] old.reads
  going = numbered_going old.base.start old.book new.book goes.going.driven more only numbers differ known before now old.reads goes.going

  kept : KeepsKnown known before old.known.entries new.book.keys
  kept = record {
    all = λ path i. elim (goes.kept.all path i) [ inl a ↦ inl a | inr a ↦ inr (subst (λ (ks : List Key). In ks (Read path)) (sym more.keys.1) (in_front old.book.keys more.keys.0 (Read path) a)) ];
    only = goes.kept.only;
    told = goes.kept.told;
  }

  numbered_on : GoOn known before now (record { base = old.base; book = new.book; left = old.known.entries; reads = old.reads }) []
  numbered_on = record {
    going = going;
    base = subst (λ (s : State). IsCurrent old.base s.filed) (sym (ap (replay opening) more.events)) goes.base;
    layer = λ k i. absurd i;
    kept = kept;
  }

  pub numbers_units : ReachesFew new.book → HasNumbered known before now old new
  numbers_units few = record {
    goes = moved known before now new (record { base = old.base; book = new.book; left = old.known.entries; reads = old.reads }) [] base refl (ap (λ m. m.entries) left) reads numbered_on;
    base = base;
    waiting = waiting;
    numbered = record { numbers = numbers; few = few };
    begun = files_numbered old.base.start old.book new.book goes.going.driven going.driven more;
    left = numbered_left old.book new.book goes.going.driven.apart more;
    more = subst (λ (s : State). IsPart (state_of old.book).filed s.filed) (sym (ap (replay opening) more.events)) (λ k v h. h);
  }

  -- or too many are reached
  pub numbers_too_many : is_too_large home (units (state_of new.book).filed) ≡ true → IsStop old.base.start known before now TooLarge
  numbers_too_many large = reaches_too_many old.base.start known before now new.book [] old.reads going large

pub numbers_stop : (known : List (List ℕ)) (before now : SourceState) (old new : Driver) (r : Result (Unit {0}) Stop) (s : Stop) → IsErrAnd r (λ e. e ≡ s) → IsStop old.base.start known before now s → NumbersUnits known before now old new r
numbers_stop known before now old new (Ok u) s h stop = absurd h
numbers_stop known before now old new (Err e) s h stop = subst (IsStop old.base.start known before now) (sym h) stop

-- no other seat has a claim, and none has stopped
module _ (known : List (List ℕ)) (before now : SourceState) (d : Driver) (goes : Goes known before now d []) where
  pub none_claimed : HasNoClaim d.book 0
  none_claimed k h = (goes.going.driven.stacked.alone k 0 h).1

  pub none_later : (n other : ℕ) → (state_of d.book).claims (key_at d.book n) ≡ Some other → ⊥
  none_later n other h = (goes.going.driven.stacked.alone (key_at d.book n) other h).1

  pub none_stopped : (cause : Cause) → first_cause (state_of d.book).stops ≡ Some cause → ⊥
  none_stopped cause h = absurd (cc (sym (ap first_cause goes.going.driven.stacked.going) ∙ h))

-- A unit is claimed

-- build files are units
file_unit : (s : State) (k : Key) → one_if (is_loaded s k) ≤ one_if (is_unit k)
file_unit s (Read path) = omega arith
file_unit s (Import layer path) = omega arith
file_unit s (Unit_of (Setup toolchain)) = omega arith
file_unit s (Unit_of (Load dir toolchain)) = by (is_begun s (Unit_of (Load dir toolchain)))
  where
    by : (b : Bool) → one_if b ≤ 1
    by true = omega arith
    by false = omega arith
file_unit s (Resolve label) = omega arith

files_units : (s : State) (ks : List Key) → count_of (is_loaded s) ks ≤ count_of is_unit ks
files_units s [] = omega arith
files_units s (k ∷ ks) = let here = file_unit s k in let rest = files_units s ks in omega (arith, here, rest)

files_few : (l : Log) → KeysDiffer l → AreNumbered l → files_begun l ≤ unit_limit
unfolding files_begun
files_few l differ numbered = let few = few_units l differ numbered.numbers numbered.few in let files = files_units (state_of l) l.keys in omega (arith, few, files)

one_few : (b : Bool) → one_if b ≤ 1
one_few true = omega arith
one_few false = omega arith

-- their count doesn't overflow
pub counts_few : (l : Log) (units more : ℕ) (k : Key) → KeysDiffer l → AreNumbered l → units ≡ files_begun l → more ≡ one_if (is_build_file k) → units + more < 2 ^ 64
unfolding unit_limit load_limit setup_limit
counts_few l units more k differ numbered counted is = let few = files_few l differ numbered in let one = one_few (is_build_file k) in omega (arith, few, one, counted, is)

module _ (known : List (List ℕ)) (before now : SourceState) (old new : Driver) (goes : Goes known before now old []) (numbered : AreNumbered old.book) (n : ℕ) (c : Claim) (ready : IsReadyNumber old.book n) (key : key_of c.key ≡ key_at old.book n) (seat : c.seat ≡ 0) (number : c.number ≡ n) where
  abbrev begun_log : Log
  begun_log = with_event old.book (Claims 0 (key_at old.book n))

  begun_on : IsGoing old.base.start known before now begun_log (c ∷ []) old.reads
  begun_on = begun_going old.base.start known before now old.book n c old.reads goes.going numbered.numbers ready key seat number

  -- a claim files nothing
  same_filed : (state_of begun_log).filed ≡ (state_of old.book).filed
  same_filed = ap (λ (s : State). s.filed) (after_event old.book (Claims 0 (key_at old.book n)))

  begun_numbered : AreNumbered begun_log
  begun_numbered = record {
    numbers = subst (λ (f : Filed). (k : Unit_key) → HasNumber old.book (Unit_of k) ↔ Holds home (units f) (Is_reached k)) (sym same_filed) numbered.numbers;
    few = subst (λ (f : Filed). is_too_large home (units f) ≡ false) (sym same_filed) numbered.few;
  }

  begun_files : (units more : ℕ) → units ≡ files_begun old.book → more ≡ one_if (is_build_file (key_of c.key)) → units + more ≡ files_begun begun_log
  begun_files units more counted is =
      let one = begun_counted old.book (key_at old.book n) ready.free goes.going.driven.apart (in_at old.book.keys n ready.number) in
      let same = ap (λ (k : Key). one_if (is_build_file k)) key in
      omega (arith, one, same, counted, is)

  pub claims_unit : is_unit (key_of c.key) ≡ true
  claims_unit = ap is_unit key ∙ ready_unit old.base.start old.book n goes.going.driven ready

  -- memory was wanting for the base
  pub claim_begun : (units more : ℕ) → units ≡ files_begun old.book → more ≡ one_if (is_build_file (key_of c.key)) → HasBegun old.base.start before (units + more)
  claim_begun units more counted is = record { log = begun_log; keys = key_of c.key ∷ []; driven = begun_on.driven; over = begun_on.source.over; counted = begun_files units more counted is }

  module _ (book : new.book ≡ begun_log) (waiting : new.waiting ≡ old.waiting) (left : new.known ≡ old.known) (reads : new.reads ≡ old.reads) (turns : TurnsToUnit old.base new.base (state_of begun_log).filed (key_of c.key)) where
    claimed_on : GoOn known before now (record { base = new.base; book = begun_log; left = old.known.entries; reads = old.reads }) (c ∷ [])
    claimed_on = record {
      going = subst (λ (b : BaseState). IsGoing b known before now begun_log (c ∷ []) old.reads) (sym (unit_start old.base new.base (state_of begun_log).filed (key_of c.key) turns)) begun_on;
      base = unit_current old.base new.base (state_of begun_log).filed (key_of c.key) (subst (IsCurrent old.base) (sym same_filed) goes.base)
          (claimed_are_seen old.base.start begun_log (key_of c.key ∷ []) begun_on.driven (key_of c.key) (inl refl)) turns;
      layer = λ k i. elim i [
        | inl e ↦ subst (IsOfLayer (layer_now new.base)) e (unit_layer old.base new.base (state_of begun_log).filed (key_of c.key) turns)
        | inr j ↦ absurd j
      ];
      kept = goes.kept;
    }

    pub claims_as : (units more : ℕ) → units ≡ files_begun old.book → more ≡ one_if (is_build_file (key_of c.key)) → HasClaimed known before now old new (units + more) c
    claims_as units more counted is = record {
      goes = moved known before now new (record { base = new.base; book = begun_log; left = old.known.entries; reads = old.reads }) (c ∷ []) refl book (ap (λ m. m.entries) left) reads claimed_on;
      start = unit_start old.base new.base (state_of begun_log).filed (key_of c.key) turns;
      waiting = waiting;
      unit = claims_unit;
      numbered = subst AreNumbered (sym book) begun_numbered;
      counted = begun_files units more counted is ∙ ap files_begun (sym book);
      left = (let same = ap units_left book ∙ claimed_left old.book (key_at old.book n) in omega (arith, same));
      more = subst (λ (l : Log). IsPart (state_of old.book).filed (state_of l).filed) (sym book) (subst (λ (f : Filed). IsPart (state_of old.book).filed f) (sym same_filed) (λ k v h. h));
    }

pub claim_lost : {E : Type 0} (P : E → Type 0) (known : List (List ℕ)) (before now : SourceState) (old new : Driver) (units : ℕ) (r : Result Claim E) → IsErrAnd r P → HasBegun old.base.start before units → ClaimsUnit known before now old new units r
claim_lost P known before now old new units (Ok c) h begun = absurd h
claim_lost P known before now old new units (Err e) h begun = begun

-- The seat takes up what comes next

module _ (known : List (List ℕ)) (before now : SourceState) (old mid : Driver) (numbered : HasNumbered known before now old mid) where
  mid_start : mid.base.start ≡ old.base.start
  mid_start = ap (λ (b : CurrentBase). b.start) numbered.base

  pub mid_counted : (units : ℕ) → units ≡ files_begun old.book → units ≡ files_begun mid.book
  mid_counted units counted = counted ∙ sym numbered.begun

  pub takes_nothing : (units : ℕ) → units ≡ files_begun old.book → NextIs mid.book 0 Quiet → IsTakenUp known before now old mid units None
  takes_nothing units counted next = record {
    goes = numbered.goes;
    start = mid_start;
    waiting = numbered.waiting;
    numbered = numbered.numbered;
    counted = mid_counted units counted;
    left = numbered.left;
    more = numbered.more;
    comes = next;
  }

  pub takes_unit : (new : Driver) (units : ℕ) (c : Claim) → HasClaimed known before now mid new units c → IsTakenUp known before now old new units (Some c)
  takes_unit new units c has = record {
    goes = has.goes;
    start = has.start ∙ mid_start;
    waiting = has.waiting ∙ numbered.waiting;
    numbered = has.numbered;
    counted = has.counted;
    left = (let here = has.left in let before = numbered.left in omega (arith, here, before));
    more = λ k v h. has.more k v (numbered.more k v h);
    comes = has.unit;
  }

  pub takes_lost : (new : Driver) (units : ℕ) (r : Result (Option Claim) Stop) → IsErrAnd r (λ e. e ≡ Memory) → HasBegun mid.base.start before units → TakesUp known before now old new units r
  takes_lost new units (Ok next) h begun = absurd h
  takes_lost new units (Err e) h begun = (
    subst (IsStop old.base.start known before now) (sym h) (subst (λ (b : BaseState). IsStop b known before now Memory) mid_start (goes_memory known before now mid [] numbered.goes)),
    subst (λ (b : BaseState). HasBegun b before units) mid_start begun,
  )

pub takes_stop : (known : List (List ℕ)) (before now : SourceState) (old new : Driver) (units : ℕ) (r : Result (Option Claim) Stop) (s : Stop) → IsErrAnd r (λ e. e ≡ s) → IsStop old.base.start known before now s → HasBegun old.base.start before units → TakesUp known before now old new units r
takes_stop known before now old new units (Ok next) s h stop begun = absurd h
takes_stop known before now old new units (Err e) s h stop begun = (subst (IsStop old.base.start known before now) (sym h) stop, begun)

-- and goes on
pub taken_drives : (known : List (List ℕ)) (before now : SourceState) (old new : Driver) (units : ℕ) (next : Option Claim) → old.waiting.items ≡ [] → IsTakenUp known before now old new units next → IsDriving known before now new units next
taken_drives known before now old new units next none taken = record { goes = taken.goes; waiting = ap (λ w. w.items) taken.waiting ∙ none; numbered = taken.numbered; counted = taken.counted; comes = taken.comes }

-- a unit is done
pub finished_counted : (known : List (List ℕ)) (before was now : SourceState) (old new : Driver) (c : Claim) (units : ℕ) → Goes known before was old (c ∷ []) → IsTurned known before now old new [] → units ≡ files_begun old.book → units ≡ files_begun new.book
finished_counted known before was now old new c units goes turned counted =
    counted ∙ sym (files_still new.base.start old.book new.book (key_of c.key ∷ []) []
    (subst (λ (b : CurrentBase). IsDriven b.start old.book (key_of c.key ∷ [])) (sym turned.base) goes.going.driven) turned.goes.going.driven turned.begun turned.units)

pub finished_less : (known : List (List ℕ)) (before was now : SourceState) (old new : Driver) (c : Claim) → Goes known before was old (c ∷ []) → is_unit (key_of c.key) ≡ true → AreNumbered old.book → IsTurned known before now old new [] → units_left new.book < units_left old.book
finished_less known before was now old new c goes unit numbered turned =
    finished_fewer old.base.start old.book new.book (key_of c.key) goes.going.driven (subst (λ (b : CurrentBase). IsDriven b.start new.book []) turned.base turned.goes.going.driven) unit turned.begun
    (few_units old.book goes.going.driven.apart numbered.numbers numbered.few)

pub unit_waits : (k : Key) → is_unit k ≡ true → MayWait k
unit_waits (Read path) unit = absurd (true≢false (sym unit))
unit_waits (Import layer path) unit = tt
unit_waits (Unit_of u) unit = tt
unit_waits (Resolve label) unit = absurd (true≢false (sym unit))

-- nothing comes next
pub drive_ends : (known : List (List ℕ)) (before now : SourceState) (d : Driver) (units : ℕ) → IsDriving known before now d units None → IsWhollyLoaded known before now d units
drive_ends known before now d units driving = record {
  goes = driving.goes;
  rests = record { driven = driving.goes.going.driven; numbers = driving.numbered.numbers; next = driving.comes };
  few = driving.numbered.few;
  counted = driving.counted;
}

-- what stops it leaves by its error
pub drive_stops : (known : List (List ℕ)) (before now : SourceState) (old mid d : Driver) (units : ℕ) (r : Result (Unit {0}) Stop) (s : Stop) → mid.base.start ≡ old.base.start → IsErrAnd r (λ e. e ≡ s) → IsStop mid.base.start known before now s → HasBegun mid.base.start before units
    → IsDrive known before now old d units r
drive_stops known before now old mid d units (Ok u) s same h stop begun = absurd h
drive_stops known before now old mid d units (Err e) s same h stop begun =
    (subst (λ (b : BaseState). IsStop b known before now e) same (subst (IsStop mid.base.start known before now) (sym h) stop), subst (λ (b : BaseState). HasBegun b before units) same begun)
