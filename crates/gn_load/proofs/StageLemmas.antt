-- Stages of looking ahead, by what their calls do.
use Rattle.std.proofs.Common.{◌≡◌, ℕ, ◌+◌, ◌≤◌, List, [], ◌++◌, Result, Ok, Err, IfOk, IfErr, refl, sym, ◌∙◌, ap, subst, arith}
use Rattle.std.specs.Result.{IsErrAnd}
use Rattle.gn_outside.specs.Lists.{Each}
use Rattle.gn_outside.specs.States.{SourceState}
use Rattle.gn_executions.specs.Base.{BaseState}
use Rattle.gn_core.specs.Layered.{IsPart}
use Rattle.gn_book.specs.Logs.{Log, state_of}
use Rattle.gn_book.specs.declared.book.Claim.{Claim}
use Rattle.gn_builds.specs.Driving.{units_left, files_begun}
use Rattle.gn_prepared.specs.Copies.{answers_of, HasNoUnits}
use Rattle.gn_prepared.specs.declared.copies.Copies.{Copies}
use Rattle.gn_load.specs.Plain.{HasBegun, HasNumbered}
use Rattle.gn_load.specs.Ahead.{GoesAhead, IsStopAhead}
use Rattle.gn_load.specs.Rebased.{IsRebased}
use Rattle.gn_load.specs.Executed.{IsExecutedOver}
use Rattle.gn_load.specs.Rounds.{HasGoneOn, LoadsMore, IsWanted, FindsFiles, WillBeRight, HasFoundNext, FindsNext, IsLookedAhead, LoadsAndFinds, AreUnderway, GivesStop, GoesStage, LooksAhead}
use Rattle.gn_load.specs.declared.current.CurrentBase.{CurrentBase}
use Rattle.gn_load.specs.declared.driver.Driver.{Driver}
use Rattle.gn_load.specs.declared.driver.Stop.{Stop}
use Rattle.gn_load.specs.declared.driver.Stop.TheVariants.{Memory}
use Rattle.gn_load.specs.declared.found.Found.{Found}
use Rattle.gn_load.specs.declared.stage.Underway.{Underway}
use Rattle.gn_load.proofs.RebasedDriver.{ahead_memory}
use Rattle.gn_load.proofs.RoundLemmas.{goes_ahead_on, ahead_stops, ahead_begun, right_later}

-- The next files are read

rebased_goes : (known : List (List ℕ)) (before now : SourceState) (d : Driver) (cs : List Claim) (total : ℕ) → IsRebased known before now d cs total → GoesAhead known before now d cs total
rebased_goes known before now d cs total is = record { all = is.all; mid = now; has = is.goes_on.has; goes = is.goes; counted = is.counted; few = is.few }

pub next_stops_at : (known : List (List ℕ)) (before now : SourceState) (old new : Driver) (total : ℕ) (r : Result Found Stop) (s : Stop) → IsErrAnd r (λ e. e ≡ s) → IsStopAhead old.base.start known before now s → FindsNext known before now old new total r
next_stops_at known before now old new total (Ok files) s h stop = absurd h
next_stops_at known before now old new total (Err e) s h stop = subst (IsStopAhead old.base.start known before now) (sym h) stop

-- where the reads of the driver begin anew
pub rebased_finds : (known : List (List ℕ)) (before now : SourceState) (old mid new : Driver) (total : ℕ) → mid.base ≡ old.base → mid.book ≡ old.book → mid.waiting ≡ old.waiting → (r : Result Found Stop) → FindsFiles known before now mid new total r → FindsFiles known before now old new total r
rebased_finds known before now old mid new total base book waiting (Ok files) has = record {
  goes = has.goes;
  base = has.base ∙ base;
  book = has.book ∙ book;
  waiting = has.waiting ∙ waiting;
  wanted = subst (λ (b : CurrentBase). Each (IsWanted b) files.wanted.items) base has.wanted;
}
rebased_finds known before now old mid new total base book waiting (Err s) stop = subst (λ (b : CurrentBase). IsStopAhead b.start known before now s) base stop

-- behind units that have got numbers
module _ (known : List (List ℕ)) (before was : SourceState) (old mid : Driver) (total : ℕ) (g : GoesAhead known before was old [] total) (numbered : HasNumbered (known ++ g.all) g.mid was old mid) where
  pub numbered_ahead : GoesAhead known before was mid [] total
  numbered_ahead = goes_ahead_on known before was was old mid [] [] total g (ap (λ (b : CurrentBase). b.start) numbered.base) numbered.goes

  pub finds_next : (now : SourceState) (new : Driver) (more : ℕ) (r : Result Found Stop) → FindsFiles known before now mid new more r → FindsNext known before now old new more r
  finds_next now new more (Ok files) has = record {
    goes = rebased_goes known before now new [] more has.goes;
    base = has.base ∙ numbered.base;
    waiting = has.waiting ∙ numbered.waiting;
    begun = ap files_begun has.book ∙ numbered.begun;
    left = subst (λ (l : Log). units_left l ≤ units_left old.book) (sym has.book) numbered.left;
    more = subst (λ (l : Log). IsPart (state_of old.book).filed (state_of l).filed) (sym has.book) numbered.more;
    wanted = subst (λ (b : CurrentBase). Each (IsWanted b) files.wanted.items) (sym has.base) has.wanted;
  }
  finds_next now new more (Err s) stop = subst (λ (b : CurrentBase). IsStopAhead b.start known before now s) numbered.base stop

  pub finds_none : (files : Found) → files.wanted.items ≡ [] → HasFoundNext known before was old mid total files
  finds_none files none = record {
    goes = numbered_ahead;
    base = numbered.base;
    waiting = numbered.waiting;
    begun = numbered.begun;
    left = numbered.left;
    more = numbered.more;
    wanted = subst (Each (IsWanted mid.base)) (sym none) tt;
  }

-- Units are loaded

pub looked_nowhere : (known : List (List ℕ)) (before now : SourceState) (d : Driver) (units total : ℕ) → GoesAhead known before now d [] total → d.waiting.items ≡ [] → units ≡ files_begun d.book → IsLookedAhead known before now d d units total
looked_nowhere known before now d units total g none counted = record { goes = g; start = refl; waiting = none; counted = counted; left = omega arith; more = λ k v h. h }

pub looked_on : (known : List (List ℕ)) (before was now : SourceState) (old mid new : Driver) (units more total after : ℕ) → IsLookedAhead known before was old mid units total → IsLookedAhead known before now mid new more after → IsLookedAhead known before now old new more after
looked_on known before was now old mid new units more total after one two = record {
  goes = two.goes;
  start = two.start ∙ one.start;
  waiting = two.waiting;
  counted = two.counted;
  left = (let here = one.left in let there = two.left in omega (arith, here, there));
  more = λ k v h. two.more k v (one.more k v h);
}

pub gone_looked : (known : List (List ℕ)) (before was now : SourceState) (old new : Driver) (units total : ℕ) (g : GoesAhead known before was old [] total) → HasGoneOn (known ++ g.all) g.mid now old new units [] → new.waiting.items ≡ [] → IsLookedAhead known before now old new units total
gone_looked known before was now old new units total g gone none = record {
  goes = goes_ahead_on known before was now old new [] [] total g gone.start gone.goes;
  start = gone.start;
  waiting = none;
  counted = gone.counted;
  left = gone.left;
  more = gone.more;
}

-- then memory may lack, or what follows stops
module _ (known : List (List ℕ)) (before was : SourceState) (old mid : Driver) (units total : ℕ) (looked : IsLookedAhead known before was old mid units total) where
  looked_begun : HasBegun old.base.start before units
  looked_begun = subst (λ (b : BaseState). HasBegun b before units) looked.start (ahead_begun known before was mid [] total units looked.goes looked.counted)

  pub looked_memory : IsStopAhead old.base.start known before was Memory × HasBegun old.base.start before units
  looked_memory = (subst (λ (b : BaseState). IsStopAhead b known before was Memory) looked.start (ahead_memory known before was mid [] total looked.goes), looked_begun)

  -- or the next files are read
  pub looked_next : (now : SourceState) (new : Driver) (after : ℕ) (files : Found) → HasFoundNext known before now mid new after files → IsLookedAhead known before now old new units after
  looked_next now new after files has = record {
    goes = has.goes;
    start = ap (λ (b : CurrentBase). b.start) has.base ∙ looked.start;
    waiting = ap (λ w. w.items) has.waiting ∙ looked.waiting;
    counted = looked.counted ∙ sym has.begun;
    left = (let here = looked.left in let there = has.left in omega (arith, here, there));
    more = λ k v h. has.more k v (looked.more k v h);
  }

  pub loads_and_finds : (now : SourceState) (new : Driver) (after : ℕ) (r : Result Found Stop) → FindsNext known before now mid new after r → LoadsAndFinds known before now old new units after r
  loads_and_finds now new after (Ok files) has = (looked_next now new after files has, has.wanted)
  loads_and_finds now new after (Err s) stop = (subst (λ (b : BaseState). IsStopAhead b known before now s) looked.start stop, looked_begun)

  -- or the last ones are loaded
  pub looks_last : (now : SourceState) (new : Driver) (more : ℕ) (copies : Copies) → IsPart (answers_of copies) (state_of mid.book).filed → (r : Result (Unit {0}) Stop) → LoadsMore (known ++ looked.goes.all) looked.goes.mid now mid new more r → LooksAhead known before now old new more total copies r
  looks_last now new more copies copied (Ok u) loads =
      let next : IsLookedAhead known before now mid new more total = gone_looked known before was now mid new more total looked.goes loads.0 loads.1 in
      (looked_on known before was now old mid new units more total total looked next, λ k v h. next.more k v (copied k v h))
  looks_last now new more copies copied (Err s) stops =
      let ends = ahead_stops known before was now mid [] total more looked.goes s stops in
      (subst (λ (b : BaseState). IsStopAhead b known before now s) looked.start ends.0, subst (λ (b : BaseState). HasBegun b before more) looked.start ends.1)

pub loads_stop_ahead : (known : List (List ℕ)) (before now : SourceState) (old new : Driver) (units total : ℕ) (r : Result Found Stop) (s : Stop) → IsErrAnd r (λ e. e ≡ s) → IsStopAhead old.base.start known before now s × HasBegun old.base.start before units → LoadsAndFinds known before now old new units total r
loads_stop_ahead known before now old new units total (Ok files) s h stops = absurd h
loads_stop_ahead known before now old new units total (Err e) s h stops = (subst (IsStopAhead old.base.start known before now) (sym h) stops.0, stops.1)

pub looks_stop : (known : List (List ℕ)) (before now : SourceState) (old mid new : Driver) (units total : ℕ) (copies : Copies) (r : Result (Unit {0}) Stop) (s : Stop) → mid.base.start ≡ old.base.start → IsErrAnd r (λ e. e ≡ s)
    → IsStopAhead mid.base.start known before now s × HasBegun mid.base.start before units → LooksAhead known before now old new units total copies r
looks_stop known before now old mid new units total copies (Ok u) s start h stops = absurd h
looks_stop known before now old mid new units total copies (Err e) s start h stops = (
  subst (λ (b : BaseState). IsStopAhead b known before now e) start (subst (IsStopAhead mid.base.start known before now) (sym h) stops.0),
  subst (λ (b : BaseState). HasBegun b before units) start stops.1,
)

-- A stage, in which build files are executed over copies of what is filed

pub executed_over : (known : List (List ℕ)) (before now : SourceState) (d : Driver) (total : ℕ) (copies : Copies) → GoesAhead known before now d [] total → HasNoUnits (answers_of copies) → IsPart (answers_of copies) (state_of d.book).filed
    → IsExecutedOver d.base (answers_of copies) (state_of d.book).filed
executed_over known before now d total copies g none within = record { current = g.goes.base; no_units = none; within = within }

module _ (known : List (List ℕ)) (before now : SourceState) (old new : Driver) (units total : ℕ) (copies : Copies) (within : IsPart (answers_of copies) (state_of old.book).filed) where
  pub goes_stage : (next : Result Found Stop) → LoadsAndFinds known before now old new units total next
      → (r : Result Underway Stop) → IfOk r (λ files. next ≡ Ok files.found) → IfOk r (λ files. Each (WillBeRight old.base.start (state_of old.book).filed) files.ready.items) → IfErr r (GivesStop next)
      → GoesStage known before now old new units total copies r
  goes_stage next loads (Ok files) is right stop =
      let loaded : LoadsAndFinds known before now old new units total (Ok files.found) = subst (LoadsAndFinds known before now old new units total) is loads in
      record {
        looked = loaded.0;
        copied = λ k v h. loaded.0.more k v (within k v h);
        underway = record { wanted = loaded.1; right = right_later old new loaded.0.start loaded.0.more files.ready.items right };
      }
  goes_stage (Ok found) loads (Err s) is right stop =
      subst (λ (e : Stop). IsStopAhead old.base.start known before now e × HasBegun old.base.start before units) (sym stop) (looked_memory known before now old new units total loads.0)
  goes_stage (Err e) loads (Err s) is right stop = subst (λ (x : Stop). IsStopAhead old.base.start known before now x × HasBegun old.base.start before units) (sym stop) loads

-- no build files are underway that were executed
pub none_ready : (known : List (List ℕ)) (before now : SourceState) (old new : Driver) (total : ℕ) (files : Underway) → HasFoundNext known before now old new total files.found → files.ready.items ≡ [] → AreUnderway new files
none_ready known before now old new total files has none = record { wanted = has.wanted; right = subst (Each (WillBeRight new.base.start (state_of new.book).filed)) (sym none) tt }
