-- Files that are found to be read ahead.
use Rattle.std.proofs.Common.{◌≡◌, ℕ, ◌<◌, List, [], ◌∷◌, ◌++◌, length, Option, Some, None, true, arith, Result, Ok, Err, refl, sym, ◌∙◌, ap, subst}
use Rattle.std.specs.Result.{IsErrAnd}
use Rattle.gn_outside.specs.Tree.{Tree, read_of}
use Rattle.gn_outside.specs.States.{SourceState}
use Rattle.gn_outside.specs.Lists.{Each}
use Rattle.gn_closure.specs.Closure.{In}
use Rattle.gn_runs.specs.Runs.{content_of}
use Rattle.gn_executions.specs.Units.{own_place}
use Rattle.gn_projects.specs.Files.{content_in}
use Rattle.gn_core.specs.Machine.{read_limit}
use Rattle.gn_items.specs.declared.key.Key.{Key as Named}
use Rattle.gn_book.specs.Graphs.{UnitsHaveNumbers}
use Rattle.gn_answers.specs.Answers.{content_view}
use Rattle.gn_answers.specs.Reading.{IsReadBy}
use Rattle.gn_answers.specs.declared.reading.PerformStop.TheVariants as perform
use Rattle.gn_ahead.specs.Ahead.{IsAskedRead}
use Rattle.gn_core.specs.Keys.{Key, Read, Import, Unit_of, Resolve}
use Rattle.gn_book.specs.Keys.{key_of}
use Rattle.gn_book.specs.Logs.{state_of, key_at}
use Rattle.gn_book.specs.Next.{IsReadyNumber}
use Rattle.gn_book.specs.Tasks.{is_task}
use Rattle.gn_projects.specs.Loaded.{is_build_file}
use Rattle.gn_builds.specs.Driving.{IsOfLayer}
use Rattle.gn_answers.specs.declared.answer.FileContent.{FileContent}
use Rattle.gn_builds.specs.Working.{IsInNeed}
use Rattle.gn_load.specs.Current.{layer_now}
use Rattle.gn_load.specs.Turns.{Goes}
use Rattle.gn_load.specs.Own.{NeedsOwn}
use Rattle.gn_load.specs.Rebased.{IsRebased}
use Rattle.gn_load.specs.Ahead.{IsStopAhead}
use Rattle.gn_load.specs.Rounds.{IsWanted, HasFound, FindsFiles}
use Rattle.gn_load.specs.Found.{NeedsUnknown, FindsPath, IsWantedAt, KeepsRead, HasReadOne, ReadsOne, FindsAt}
use Rattle.gn_load.specs.declared.found.Found.{Found}
use Rattle.gn_load.specs.declared.current.CurrentBase.{CurrentBase}
use Rattle.gn_load.specs.declared.driver.Stop.{Stop}
use Rattle.gn_load.specs.declared.driver.Stop.TheVariants.{Failed, Memory}
use Rattle.gn_load.proofs.RebasedDriver.{rebased_memory, asked_ahead, not_numbered, ahead_fails, ahead_lost, ahead_then_lost, ahead_read}
use Rattle.gn_prepared.specs.declared.wanted.Wanted.{Wanted}
use Rattle.gn_load.specs.declared.driver.Driver.{Driver}

each_more : {X : Type 0} (P : X → Type 0) (xs : List X) (x : X) → Each P xs → P x → Each P (xs ++ x ∷ [])
each_more P [] x each here = (here, tt)
each_more P (y ∷ xs) x each here = (each.0, each_more P xs x each.1 here)

-- a build file is a task
file_task : (k : Key) → is_build_file k ≡ true → is_task k ≡ true
file_task (Read path) e = absurd (cc e)
file_task (Import layer path) e = absurd (cc e)
file_task (Unit_of u) e = refl
file_task (Resolve label) e = absurd (cc e)

-- where nothing is claimed, it may be
pub open_ready : (known : List (List ℕ)) (before now : SourceState) (d : Driver) → Goes known before now d [] → (n : ℕ) → n < length d.book.keys → is_build_file (key_at d.book n) ≡ true
    → (state_of d.book).filed (key_at d.book n) ≡ None → IsReadyNumber d.book n
open_ready known before now d goes n number file unfiled = record {
  number = number;
  task = file_task (key_at d.book n) file;
  free = record { unclaimed = none ((state_of d.book).claims (key_at d.book n)) refl; unfiled = unfiled };
}
  where
    none : (x : Option ℕ) → (state_of d.book).claims (key_at d.book n) ≡ x → x ≡ None
    none None e = refl
    none (Some seat) e = absurd ((goes.going.driven.stacked.alone (key_at d.book n) seat e).1)

-- what the work needs first
pub first_found : (d : Driver) (k : Key) → IsOfLayer (layer_now d.base) k → (needed : Option (List ℕ)) → NeedsOwn (state_of d.book).filed k needed
    → (found : Option (List ℕ)) → NeedsUnknown d.known.entries needed found → FindsPath d k found
first_found d k layer needed own None needs = tt
first_found d k layer needed own (Some path) needs = record {
  layer = layer;
  place = own_place path;
  asked = content_of path ∷ [];
  need = (subst (NeedsOwn (state_of d.book).filed k) needs.0 own) d.base.start;
  none = needs.1;
}

-- The file of a build file is read ahead
module _ (known : List (List ℕ)) (before now next : SourceState) (old : Driver) (total n : ℕ) (name : Named) (path : List ℕ) (is : IsRebased known before now old [] total) (numbers : UnitsHaveNumbers old.book) (wanted : IsWantedAt old n name path) where
  need_there : IsInNeed old.base.start (state_of old.book).filed (key_at old.book n) (Read path) wanted.first.place wanted.first.asked
  need_there = subst (λ (k : Key). IsInNeed old.base.start (state_of old.book).filed k (Read path) wanted.first.place wanted.first.asked) wanted.key wanted.first.need

  is_asked : IsAskedRead old.base.start before path
  is_asked = asked_ahead known before now old total n path wanted.first.place wanted.first.asked is need_there numbers wanted.ready

  no_number : In old.book.keys (Read path) → ⊥
  no_number = not_numbered known before now old total n path wanted.first.place wanted.first.asked is need_there

  pub one_fails : IsReadBy path now next (Err perform.Failed) → IsStopAhead old.base.start known before next (Failed path)
  one_fails read = ahead_fails known before now next old total path is no_number wanted.first.none is_asked read

  pub one_lost : IsReadBy path now next (Err perform.Memory) → IsStopAhead old.base.start known before next Memory
  one_lost read = ahead_lost known before now next old total path is no_number wanted.first.none is_asked read

  module _ (content : FileContent) (read : IsReadBy path now next (Ok content)) where
    pub one_then_lost : (new : Driver) (after : ℕ) (r : Result Wanted Stop) → IsErrAnd r (λ e. e ≡ Memory) → ReadsOne known before next old new after r
    one_then_lost new after (Ok w) h = absurd h
    one_then_lost new after (Err s) h = subst (IsStopAhead old.base.start known before next) (sym h) (ahead_then_lost known before now next old total path is no_number wanted.first.none is_asked content read)

    pub one_read : ((tree : Tree) → now.tree ≡ Some tree → content_view content ≡ content_in (read_of tree path)) → total < read_limit → (new : Driver) (after : ℕ) (w : Wanted) → KeepsRead old new total after name path content w → HasReadOne known before next old new after w
    one_read there few new after w keeps = record {
      goes = subst (λ (m : ℕ). IsRebased known before next new [] m) (sym keeps.counted)
          (ahead_read known before now next old total path is no_number wanted.first.none is_asked content read there new keeps.base keeps.book keeps.known keeps.reads (omega (arith, few)));
      base = keeps.base;
      book = keeps.book;
      waiting = keeps.waiting;
      wanted = subst (IsOfLayer (layer_now old.base)) (ap key_of (sym keeps.key)) wanted.first.layer;
    }

-- Whether or not something is found
module _ (known : List (List ℕ)) (before now : SourceState) (old : Driver) (total : ℕ) (is : IsRebased known before now old [] total) (files : Found) (each : Each (IsWanted old.base) files.wanted.items) where
  pub none_found : (next : SourceState) → next ≡ now → HasFound known before next old old total files
  none_found next same = record { goes = subst (λ (s : SourceState). IsRebased known before s old [] total) (sym same) is; base = refl; book = refl; waiting = refl; wanted = each }

  pub found_lost : (next : SourceState) → next ≡ now → (new : Driver) (after : ℕ) (files' : Found) (r : Result (Unit {0}) Stop) → IsErrAnd r (λ e. e ≡ Memory) → FindsAt known before next old new after files' r
  found_lost next same new after files' (Ok u) h = absurd h
  found_lost next same new after files' (Err s) h =
      subst (IsStopAhead old.base.start known before next) (sym h) (subst (λ (x : SourceState). IsStopAhead old.base.start known before x Memory) (sym same) (rebased_memory known before now old [] total is))

  -- one more was found
  pub one_found : (next : SourceState) (new : Driver) (after : ℕ) (w : Wanted) (more : Found) → HasReadOne known before next old new after w → more.wanted.items ≡ files.wanted.items ++ w ∷ [] → HasFound known before next old new after more
  one_found next new after w more one items = record {
    goes = one.goes;
    base = one.base;
    book = one.book;
    waiting = one.waiting;
    wanted = subst (Each (IsWanted old.base)) (sym items) (each_more (IsWanted old.base) files.wanted.items w each one.wanted);
  }

  pub one_found_lost : (next : SourceState) (new : Driver) (after : ℕ) (w : Wanted) (more : Found) (r : Result (Unit {0}) Stop) → HasReadOne known before next old new after w → IsErrAnd r (λ e. e ≡ Memory) → FindsAt known before next old new after more r
  one_found_lost next new after w more (Ok u) one h = absurd h
  one_found_lost next new after w more (Err s) one h =
      subst (IsStopAhead old.base.start known before next) (sym h) (subst (λ (b : CurrentBase). IsStopAhead b.start known before next Memory) one.base (rebased_memory known before next new [] after one.goes))

pub find_stops : (known : List (List ℕ)) (before next : SourceState) (old new : Driver) (after : ℕ) (files : Found) (r : Result (Unit {0}) Stop) (s : Stop) → IsErrAnd r (λ e. e ≡ s) → IsStopAhead old.base.start known before next s → FindsAt known before next old new after files r
find_stops known before next old new after files (Ok u) s h stop = absurd h
find_stops known before next old new after files (Err e) s h stop = subst (IsStopAhead old.base.start known before next) (sym h) stop

-- the same source
pub rebased_still : (known : List (List ℕ)) (before was now : SourceState) (d : Driver) (total : ℕ) → now ≡ was → IsRebased known before was d [] total → IsRebased known before now d [] total
rebased_still known before was now d total same is = subst (λ (s : SourceState). IsRebased known before s d [] total) (sym same) is

-- What was found goes on
module _ (known : List (List ℕ)) (before was : SourceState) (old mid : Driver) (total : ℕ) (files : Found) (has : HasFound known before was old mid total files) where
  pub each_on : Each (IsWanted mid.base) files.wanted.items
  each_on = subst (λ (b : CurrentBase). Each (IsWanted b) files.wanted.items) (sym has.base) has.wanted

  pub found_on : (now : SourceState) (new : Driver) (after : ℕ) (more : Found) → HasFound known before now mid new after more → HasFound known before now old new after more
  found_on now new after more is = record {
    goes = is.goes;
    base = is.base ∙ has.base;
    book = is.book ∙ has.book;
    waiting = is.waiting ∙ has.waiting;
    wanted = subst (λ (b : CurrentBase). Each (IsWanted b) more.wanted.items) has.base is.wanted;
  }

  pub stops_on : (now : SourceState) (new : Driver) (after : ℕ) (r : Result Found Stop) (s : Stop) → IsErrAnd r (λ e. e ≡ s) → IsStopAhead mid.base.start known before now s → FindsFiles known before now old new after r
  stops_on now new after (Ok f) s h stop = absurd h
  stops_on now new after (Err e) s h stop = subst (IsStopAhead old.base.start known before now) (sym h) (subst (λ (b : CurrentBase). IsStopAhead b.start known before now s) has.base stop)

-- nothing was found yet
pub nothing_found : (known : List (List ℕ)) (before now : SourceState) (d : Driver) (total : ℕ) (files : Found) → files.wanted.items ≡ [] → IsRebased known before now d [] total → HasFound known before now d d total files
nothing_found known before now d total files none is = record { goes = is; base = refl; book = refl; waiting = refl; wanted = subst (Each (IsWanted d.base)) (sym none) tt }
