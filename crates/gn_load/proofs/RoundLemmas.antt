-- Rounds of looking ahead, by what their calls do.
use Rattle.std.proofs.Common.{◌≡◌, ℕ, ◌+◌, ◌≤◌, List, [], ◌∷◌, ◌++◌, Option, Some, None, true, Result, Ok, Err, IfOk, inl, inr, refl, sym, ◌∙◌, ap, subst, arith}
use Rattle.std.specs.Result.{IsErrAnd}
use Rattle.gn_outside.specs.Lists.{AllDiffer, Each}
use Rattle.gn_outside.specs.States.{SourceState}
use Rattle.gn_executions.specs.Base.{BaseState}
use Rattle.gn_core.specs.Layered.{IsPart}
use Rattle.gn_core.specs.Machine.{read_limit}
use Rattle.gn_book.specs.Graphs.{is_unit}
use Rattle.gn_book.specs.Keys.{key_of}
use Rattle.gn_book.specs.Logs.{state_of}
use Rattle.gn_book.specs.declared.book.Claim.{Claim}
use Rattle.gn_builds.specs.Driving.{with_claim, files_begun}
use Rattle.gn_builds.specs.Rest.{BegunAreReached, ReachedAreCounted}
use Rattle.gn_ahead.specs.Ahead.{HasReadAll}
use Rattle.gn_load.specs.Turns.{Goes, IsTurned, IsFinish, IsStop}
use Rattle.gn_load.specs.Plain.{HasBegun, AreNumbered, HasNumbered, HasClaimed, IsTakenUp, IsEndAt, IsLoadedAs, IsLoad}
use Rattle.gn_load.specs.Ahead.{GoesAhead, IsStopAhead}
use Rattle.gn_prepared.specs.declared.copies.Copies.{Copies}
use Rattle.gn_load.specs.Rounds.{HasGoneOn, IsGivenOut, GivesOut, LoadsMore, WillBeRight, LooksAhead, LoadsNext, IsDrivingAhead, IsWhollyLoadedAhead, IsDriveAhead, IsEndAhead}
use Rattle.gn_load.specs.declared.current.CurrentBase.{CurrentBase}
use Rattle.gn_load.specs.declared.driver.Driver.{Driver}
use Rattle.gn_load.specs.declared.driver.Stop.{Stop}
use Rattle.gn_load.specs.declared.driver.Stop.TheVariants.{Memory}
use Rattle.gn_load.specs.declared.plain.LoadEnd.{LoadEnd}
use Rattle.gn_load.specs.declared.plain.LoadEnd.TheVariants as end
use Rattle.gn_load.specs.declared.ready.Ready.{Ready}
use Rattle.gn_load.proofs.AheadEnds.{begun_before, loaded_ahead, too_many_ahead, stopped_ahead}
use Rattle.gn_load.proofs.PlainLemmas.{has_begun, finished_counted, finished_less}
use Rattle.gn_load.proofs.RebasedDriver.{stop_ahead, ahead_memory}
use Rattle.gn_load.proofs.TurnLemmas.{goes_memory}

-- Where files were read ahead

pub goes_ahead_on : (known : List (List ℕ)) (before was now : SourceState) (old new : Driver) (cs ds : List Claim) (total : ℕ) (g : GoesAhead known before was old cs total) → new.base.start ≡ old.base.start → Goes (known ++ g.all) g.mid now new ds → GoesAhead known before now new ds total
goes_ahead_on known before was now old new cs ds total g start goes = record {
  all = g.all;
  mid = g.mid;
  has = subst (λ (b : BaseState). HasReadAll b known before g.mid g.all) (sym start) g.has;
  goes = goes;
  counted = g.counted;
  few = g.few;
}

pub ahead_stops : (known : List (List ℕ)) (before was now : SourceState) (d : Driver) (cs : List Claim) (total units : ℕ) (g : GoesAhead known before was d cs total) (s : Stop) → IsStop d.base.start (known ++ g.all) g.mid now s × HasBegun d.base.start g.mid units
    → IsStopAhead d.base.start known before now s × HasBegun d.base.start before units
ahead_stops known before was now d cs total units g s stops =
    (stop_ahead d.base.start known before g.mid now g.all g.has s stops.0, begun_before d.base.start before g.mid units g.has.tree stops.1)

pub ahead_begun : (known : List (List ℕ)) (before now : SourceState) (d : Driver) (cs : List Claim) (total units : ℕ) → GoesAhead known before now d cs total → units ≡ files_begun d.book → HasBegun d.base.start before units
ahead_begun known before now d cs total units g counted = begun_before d.base.start before g.mid units g.has.tree (has_begun (known ++ g.all) g.mid now d cs units g.goes counted)

-- A unit is given out

module _ (known : List (List ℕ)) (before now : SourceState) (old mid : Driver) (numbered : HasNumbered known before now old mid) where
  mid_start : mid.base.start ≡ old.base.start
  mid_start = ap (λ (b : CurrentBase). b.start) numbered.base

  pub gives_nothing : (units : ℕ) → units ≡ files_begun old.book → GivesOut known before now old mid units (Ok None)
  gives_nothing units counted = (
    record { goes = numbered.goes; start = mid_start; counted = counted ∙ sym numbered.begun; left = numbered.left; more = numbered.more },
    numbered.waiting,
  )

  pub gives_unit : (new : Driver) (units : ℕ) (c : Claim) → HasClaimed known before now mid new units c → GivesOut known before now old new units (Ok (Some c))
  gives_unit new units c has = record {
    on = record {
      goes = has.goes;
      start = has.start ∙ mid_start;
      counted = has.counted;
      left = (let here = has.left in let before = numbered.left in omega (arith, here, before));
      more = λ k v h. has.more k v (numbered.more k v h);
    };
    waiting = has.waiting ∙ numbered.waiting;
    unit = has.unit;
    numbered = has.numbered;
  }

  pub gives_lost : (new : Driver) (units : ℕ) (r : Result (Option Claim) Stop) → IsErrAnd r (λ e. e ≡ Memory) → HasBegun mid.base.start before units → GivesOut known before now old new units r
  gives_lost new units (Ok next) h begun = absurd h
  gives_lost new units (Err e) h begun = (
    subst (IsStop old.base.start known before now) (sym h) (subst (λ (b : BaseState). IsStop b known before now Memory) mid_start (goes_memory known before now mid [] numbered.goes)),
    subst (λ (b : BaseState). HasBegun b before units) mid_start begun,
  )

pub gives_stop : (known : List (List ℕ)) (before now : SourceState) (old new : Driver) (units : ℕ) (r : Result (Option Claim) Stop) (s : Stop) → IsErrAnd r (λ e. e ≡ s) → IsStop old.base.start known before now s → HasBegun old.base.start before units → GivesOut known before now old new units r
gives_stop known before now old new units (Ok next) s h stop begun = absurd h
gives_stop known before now old new units (Err e) s h stop begun = (subst (IsStop old.base.start known before now) (sym h) stop, begun)

-- It is finished
module _ (known : List (List ℕ)) (before was now : SourceState) (old mid new : Driver) (c : Claim) (units : ℕ) (given : IsGivenOut known before was old mid units c) where
  pub given_goes : old.waiting.items ≡ [] → Goes known before was mid (c ∷ mid.waiting.items)
  given_goes none = subst (λ (cs : List Claim). Goes known before was mid (c ∷ cs)) (sym (ap (λ w. w.items) given.waiting ∙ none)) given.on.goes

  pub given_right : (r : Ready) → WillBeRight old.base.start (state_of old.book).filed r → WillBeRight mid.base.start (state_of mid.book).filed r
  given_right r right = subst (λ (b : BaseState). WillBeRight b (state_of mid.book).filed r) (sym given.on.start) (λ more part there. right more (λ k v h. part k v (given.on.more k v h)) there)

  pub loads_one : (r : Result (Unit {0}) Stop) → IsFinish known before now mid new r → LoadsMore known before now old new units r
  loads_one (Ok u) done = (
    record {
      goes = done.0.goes;
      start = ap (λ (b : CurrentBase). b.start) done.0.base ∙ given.on.start;
      counted = finished_counted known before was now mid new c units given.on.goes done.0 given.on.counted;
      left = (let fewer = finished_less known before was now mid new c given.on.goes given.unit given.numbered done.0 in let before = given.on.left in omega (arith, fewer, before));
      more = λ k v h. done.0.more k v (given.on.more k v h);
    },
    done.1,
  )
  loads_one (Err s) stop = (
    subst (λ (b : BaseState). IsStop b known before now s) given.on.start stop,
    subst (λ (b : BaseState). HasBegun b before units) given.on.start (has_begun known before was mid (c ∷ []) units given.on.goes given.on.counted),
  )

-- Some behind others

pub goes_on_on : (known : List (List ℕ)) (before was now : SourceState) (old mid new : Driver) (units more : ℕ) (cs ds : List Claim) → HasGoneOn known before was old mid units cs → HasGoneOn known before now mid new more ds → HasGoneOn known before now old new more ds
goes_on_on known before was now old mid new units more cs ds one two = record {
  goes = two.goes;
  start = two.start ∙ one.start;
  counted = two.counted;
  left = (let here = one.left in let there = two.left in omega (arith, here, there));
  more = λ k v h. two.more k v (one.more k v h);
}

pub loads_stop : (known : List (List ℕ)) (before now : SourceState) (old mid new : Driver) (units : ℕ) (r : Result (Unit {0}) Stop) (s : Stop) → mid.base.start ≡ old.base.start → IsErrAnd r (λ e. e ≡ s) → IsStop mid.base.start known before now s × HasBegun mid.base.start before units → LoadsMore known before now old new units r
loads_stop known before now old mid new units (Ok u) s start h stops = absurd h
loads_stop known before now old mid new units (Err e) s start h stops =
    (subst (λ (b : BaseState). IsStop b known before now e) start (subst (IsStop mid.base.start known before now) (sym h) stops.0), subst (λ (b : BaseState). HasBegun b before units) start stops.1)

-- what will be right over what is filed will be right later
pub right_later : (old new : Driver) → new.base.start ≡ old.base.start → IsPart (state_of old.book).filed (state_of new.book).filed → (rs : List Ready) → Each (WillBeRight old.base.start (state_of old.book).filed) rs → Each (WillBeRight new.base.start (state_of new.book).filed) rs
right_later old new start more [] each = tt
right_later old new start more (r ∷ rs) each = (
  subst (λ (b : BaseState). WillBeRight b (state_of new.book).filed r) (sym start) (λ later part there. each.0 later (λ k v h. part k v (more k v h)) there),
  right_later old new start more rs each.1,
)

pub right_on : (known : List (List ℕ)) (before now : SourceState) (old new : Driver) (units : ℕ) (cs : List Claim) → HasGoneOn known before now old new units cs → (rs : List Ready) → Each (WillBeRight old.base.start (state_of old.book).filed) rs → Each (WillBeRight new.base.start (state_of new.book).filed) rs
right_on known before now old new units cs gone rs each = right_later old new gone.start gone.more rs each

pub gone_nowhere : (known : List (List ℕ)) (before now : SourceState) (d : Driver) (units : ℕ) → Goes known before now d [] → units ≡ files_begun d.book → HasGoneOn known before now d d units []
gone_nowhere known before now d units goes counted = record { goes = goes; start = refl; counted = counted; left = omega arith; more = λ k v h. h }

-- A unit is loaded, and then others

module _ (known : List (List ℕ)) (before was : SourceState) (old : Driver) (c : Claim) (total : ℕ) (g : GoesAhead known before was old (c ∷ []) total) where
  pub waits_goes : old.waiting.items ≡ [] → Goes (known ++ g.all) g.mid was old (c ∷ old.waiting.items)
  waits_goes none = subst (λ (cs : List Claim). Goes (known ++ g.all) g.mid was old (c ∷ cs)) (sym none) g.goes

module _ (known : List (List ℕ)) (before was now : SourceState) (old mid : Driver) (c : Claim) (total : ℕ) (g : GoesAhead known before was old (c ∷ []) total) where
  pub finished_ahead : IsTurned (known ++ g.all) g.mid now old mid [] → GoesAhead known before now mid [] total
  finished_ahead turned = goes_ahead_on known before was now old mid (c ∷ []) [] total g (ap (λ (b : CurrentBase). b.start) turned.base) turned.goes

  pub next_stops : (units : ℕ) → units ≡ files_begun old.book → (more : ℕ) (copies : Copies) (r : Result (Unit {0}) Stop) (s : Stop) → IsErrAnd r (λ e. e ≡ s) → IsStop old.base.start (known ++ g.all) g.mid now s → LoadsNext known before now old mid units more copies r
  next_stops units counted more copies (Ok u) s h stop = absurd h
  next_stops units counted more copies (Err e) s h stop =
      ahead_stops known before was now old (c ∷ []) total units g e (subst (IsStop old.base.start (known ++ g.all) g.mid now) (sym h) stop, has_begun (known ++ g.all) g.mid was old (c ∷ []) units g.goes counted)

pub next_looked : (known : List (List ℕ)) (before was mid_source now : SourceState) (old mid new : Driver) (c : Claim) (total units more : ℕ) (copies : Copies) (g : GoesAhead known before was old (c ∷ []) total) → is_unit (key_of c.key) ≡ true → AreNumbered old.book → IsTurned (known ++ g.all) g.mid mid_source old mid []
    → (r : Result (Unit {0}) Stop) → LooksAhead known before now mid new units more copies r → LoadsNext known before now old new units more copies r
next_looked known before was mid_source now old mid new c total units more copies g unit numbered turned (Ok u) (looked, copied) =
    let fewer = finished_less (known ++ g.all) g.mid was mid_source old mid c g.goes unit numbered turned in
    let further = looked.left in (
      record {
        goes = looked.goes;
        start = looked.start ∙ ap (λ (b : CurrentBase). b.start) turned.base;
        waiting = looked.waiting;
        counted = looked.counted;
        left = omega (arith, fewer, further);
        more = λ k v h. looked.more k v (turned.more k v h);
      },
      (omega (arith, fewer, further), copied),
    )
next_looked known before was mid_source now old mid new c total units more copies g unit numbered turned (Err s) looked = (
  subst (λ (b : CurrentBase). IsStopAhead b.start known before now s) turned.base looked.0,
  subst (λ (b : CurrentBase). HasBegun b.start before units) turned.base looked.1,
)

-- All units

pub taken_ahead : (known : List (List ℕ)) (before now : SourceState) (old new : Driver) (units total : ℕ) (next : Option Claim) (g : GoesAhead known before now old [] total) → old.waiting.items ≡ [] → IsTakenUp (known ++ g.all) g.mid now old new units next → IsDrivingAhead known before now new units total next
taken_ahead known before now old new units total next g none taken = record {
  goes = goes_ahead_on known before now now old new [] (with_claim next []) total g taken.start taken.goes;
  waiting = ap (λ w. w.items) taken.waiting ∙ none;
  numbered = taken.numbered;
  counted = taken.counted;
  comes = taken.comes;
}

pub drive_ahead_ends : (known : List (List ℕ)) (before now : SourceState) (d : Driver) (units total : ℕ) → IsDrivingAhead known before now d units total None → IsWhollyLoadedAhead known before now d units total
drive_ahead_ends known before now d units total driving = record {
  goes = driving.goes;
  rests = record { driven = driving.goes.goes.going.driven; numbers = driving.numbered.numbers; next = driving.comes };
  few = driving.numbered.few;
  counted = driving.counted;
}

pub drive_ahead_stops : (known : List (List ℕ)) (before now : SourceState) (old mid d : Driver) (units total : ℕ) (r : Result (Unit {0}) Stop) (s : Stop) → mid.base.start ≡ old.base.start → IsErrAnd r (λ e. e ≡ s) → IsStopAhead mid.base.start known before now s × HasBegun mid.base.start before units
    → IsDriveAhead known before now old d units total r
drive_ahead_stops known before now old mid d units total (Ok u) s same h stops = absurd h
drive_ahead_stops known before now old mid d units total (Err e) s same h stops = (
  subst (λ (b : BaseState). IsStopAhead b known before now e) same (subst (IsStopAhead mid.base.start known before now) (sym h) stops.0),
  subst (λ (b : BaseState). HasBegun b before units) same stops.1,
)

-- the end where all is loaded
pub ended_loads : {E : Type 0} → BegunAreReached → ReachedAreCounted → (known : List (List ℕ)) → AllDiffer known → (before now : SourceState) (d : Driver) (units total : ℕ) → IsWhollyLoadedAhead known before now d units total → (r : Result LoadEnd E) → IfOk r (IsEndAhead d total) → IsLoad d.base.start known before now units r
ended_loads begun reached known differ before now d units total whole (Ok e) (inl is) = loaded_ahead begun reached known differ before now d units total whole.goes whole.rests whole.counted {E = Unit {0}} is.0 (Ok e) is.1
ended_loads begun reached known differ before now d units total whole (Ok e) (inr is) =
    subst (IsLoadedAs d.base.start known before now units) (sym is.1) (too_many_ahead begun reached known differ before now d units total whole.goes whole.rests whole.counted is.0)
ended_loads begun reached known differ before now d units total whole (Err e) is =
    stopped_ahead begun reached d.base.start known differ before now units (ahead_begun known before now d [] total units whole.goes whole.counted) Memory end.Memory (ahead_memory known before now d [] total whole.goes) refl

pub ends_within : {E : Type 0} (d : Driver) (total : ℕ) → total + d.reads ≤ read_limit → (r : Result LoadEnd E) → IfOk r (IsEndAt d.book) → IfOk r (IsEndAhead d total)
ends_within d total few (Ok e) is = inl (few, is)
ends_within d total few (Err e) is = tt
