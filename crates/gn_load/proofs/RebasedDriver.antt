-- The driver goes on where all that was read so far, by itself and ahead of it, counts as known before.
use Rattle.std.proofs.Common.{◌≡◌, ◌⊎◌, inl, inr, ℕ, ◌+◌, ◌≤◌, List, [], ◌∷◌, ◌++◌, length, Some, None, Result, Ok, Err, refl, sym, ◌∙◌, ap, subst, append-nil, arith}
use Rattle.std.proofs.lemmas.List.{length-append}
use Rattle.gn_paths.specs.declared.place.Place.{Place}
use Rattle.gn_outside.specs.Tree.{Tree, read_of}
use Rattle.gn_outside.specs.States.{SourceState}
use Rattle.gn_values.specs.Tables.{at_name, with_name}
use Rattle.gn_runs.specs.Runs.{Question}
use Rattle.gn_closure.specs.Closure.{In}
use Rattle.gn_closure.proofs.Opened.{in_append, in_left, in_right}
use Rattle.gn_executions.specs.Base.{BaseState}
use Rattle.gn_core.specs.Keys.{Read}
use Rattle.gn_core.specs.Machine.{read_limit}
use Rattle.gn_book.specs.Graphs.{UnitsHaveNumbers}
use Rattle.gn_book.specs.Logs.{Log, state_of, key_at}
use Rattle.gn_book.specs.Next.{IsReadyNumber}
use Rattle.gn_book.specs.declared.book.Claim.{Claim}
use Rattle.gn_projects.specs.Files.{content_in}
use Rattle.gn_builds.specs.Working.{IsInNeed}
use Rattle.gn_builds.specs.Driving.{paths_read, unknown_of}
use Rattle.gn_builds.proofs.Asked.{unknown_new}
use Rattle.gn_builds.proofs.Members.{in_one}
use Rattle.gn_builds.proofs.ReadPaths.{read_in}
use Rattle.gn_builds.proofs.Stacks.{none_some}
use Rattle.gn_builds.proofs.Steps.{needed_lacks}
use Rattle.gn_answers.specs.Answers.{content_view}
use Rattle.gn_answers.specs.Reading.{IsReadBy}
use Rattle.gn_answers.specs.declared.answer.FileContent.{FileContent}
use Rattle.gn_answers.specs.declared.reading.PerformStop.{PerformStop}
use Rattle.gn_answers.specs.declared.reading.PerformStop.TheVariants as perform
use Rattle.gn_ahead.specs.Ahead.{IsAskedRead, HasReadAll, GoesOnAhead, read_in_all, IsReadAhead}
use Rattle.gn_ahead.proofs.AskedAhead.{none_read, all_asked}
use Rattle.gn_ahead.proofs.Rebased.{seat_reads_on, reads_ahead_go_on}
use Rattle.gn_ahead.proofs.EndsAhead.{seat_ends_asked, seat_fails_on, seat_ends_large}
use Rattle.gn_ahead.proofs.FirstReads.{first_read_is_asked}
use Rattle.gn_load.specs.Turns.{KeepsKnown, Goes, IsStop}
use Rattle.gn_load.specs.Ahead.{GoesAhead, IsStopAhead}
use Rattle.gn_load.specs.Rebased.{IsRebased}
use Rattle.gn_load.specs.declared.driver.Driver.{Driver}
use Rattle.gn_load.specs.declared.driver.Stop.{Stop}
use Rattle.gn_load.specs.declared.driver.Stop.TheVariants.{Failed, TooLarge, Memory}
use Rattle.gn_load.proofs.DriverParts.{moved}
use Rattle.gn_load.proofs.KnownLemmas.{at_no_path}
use Rattle.gn_load.proofs.KnownAhead.{kept_more, kept_put}

-- Paths with others behind them

known_behind : (known all more : List (List ℕ)) (path : List ℕ) → In (known ++ all) path → In (known ++ (all ++ more)) path
known_behind known all more path i = elim (in_append known all path i) [
  | inl j ↦ in_left known (all ++ more) path j
  | inr j ↦ in_right known (all ++ more) path (in_left all more path j)
]

behind_known : (known all more : List (List ℕ)) (path : List ℕ) → In (known ++ (all ++ more)) path → In (known ++ all) path ⊎ In more path
behind_known known all more path i = elim (in_append known (all ++ more) path i) [
  | inl j ↦ inl (in_left known all path j)
  | inr j ↦ elim (in_append all more path j) [ inl k ↦ inl (in_right known all path k) | inr k ↦ inr k ]
]

-- the same base and the same log
goes_on_of : (known : List (List ℕ)) (before now : SourceState) (old new : Driver) (cs : List Claim) (all : List (List ℕ)) → new.base ≡ old.base → new.book ≡ old.book
    → GoesOnAhead old.base.start known before now all old.book cs → GoesOnAhead new.base.start known before now all new.book cs
goes_on_of known before now old new cs all base book on =
    subst (λ (s : BaseState). GoesOnAhead s known before now all new.book cs) (sym (ap (λ b. b.start) base)) (subst (λ (l : Log). GoesOnAhead old.base.start known before now all l cs) (sym book) on)

-- Before anything was read
pub starts_ahead : (known : List (List ℕ)) (now : SourceState) (d : Driver) (cs : List Claim) → Goes known now now d cs → GoesAhead known now now d cs 0
starts_ahead known now d cs goes = record {
  all = [];
  mid = now;
  has = none_read d.base.start known now;
  goes = subst (λ (ps : List (List ℕ)). Goes ps now now d cs) (sym (append-nil known)) goes;
  counted = refl;
  few = omega arith;
}

-- Wherever the seat ends
module _ (start : BaseState) (known : List (List ℕ)) (before mid now : SourceState) (all : List (List ℕ)) (has : HasReadAll start known before mid all) where
  pub stop_ahead : (s : Stop) → IsStop start (known ++ all) mid now s → IsStopAhead start known before now s
  stop_ahead (Failed path) stop = (seat_ends_asked start known before mid now all has stop.0, seat_fails_on start known before mid now all path has stop.1)
  stop_ahead TooLarge stop = seat_ends_large start known before mid now all has stop
  stop_ahead Memory stop = (seat_ends_asked start known before mid now all has stop.0, stop.1 ∙ has.faults)

-- All that was read so far counts as known from now on
module _ (known : List (List ℕ)) (before now : SourceState) (old : Driver) (cs : List Claim) (total : ℕ) (goes : GoesAhead known before now old cs total) where
  abbrev all : List (List ℕ)
  all = read_in_all known goes.all old.book

  reads_on : GoesOnAhead old.base.start known before now all old.book cs × (length all ≡ length goes.all + old.reads)
  reads_on = seat_reads_on old.base.start known before goes.mid now goes.all old.book cs old.reads goes.has goes.goes.going

  pub ahead_memory : IsStopAhead old.base.start known before now Memory
  ahead_memory = (all_asked old.base.start known before now all reads_on.0.has, reads_on.0.has.faults)

  kept_all : KeepsKnown (known ++ all) now old.known.entries old.book.keys
  kept_all = kept_more (known ++ goes.all) (known ++ all) goes.mid now old.known.entries old.book.keys goes.goes.kept goes.goes.going.source.tree
      (known_behind known goes.all (unknown_of (known ++ goes.all) (paths_read old.book.keys)))
      (λ p i. elim (behind_known known goes.all (unknown_of (known ++ goes.all) (paths_read old.book.keys)) p i) [
        | inl j ↦ inl j
        | inr j ↦ inr (read_in old.book.keys p (in_one (paths_read old.book.keys) p (unknown_new (known ++ goes.all) (paths_read old.book.keys) p j).0))
      ])

  module _ (new : Driver) (base : new.base ≡ old.base) (book : new.book ≡ old.book) (left : new.known.entries ≡ old.known.entries) (reads : new.reads ≡ 0) where
    pub rebased : total + old.reads ≤ read_limit → IsRebased known before now new cs (total + old.reads)
    rebased few = record {
      all = all;
      goes_on = goes_on_of known before now old new cs all base book reads_on.0;
      goes = moved (known ++ all) now now new (record { base = old.base; book = old.book; left = old.known.entries; reads = 0 }) cs base book left reads
          (record { going = reads_on.0.going; base = goes.goes.base; layer = goes.goes.layer; kept = kept_all });
      reads = reads;
      counted = omega (arith, reads_on.1, goes.counted);
      few = few;
    }

pub rebased_goes : (known : List (List ℕ)) (before now : SourceState) (d : Driver) (cs : List Claim) (total : ℕ) → IsRebased known before now d cs total → GoesAhead known before now d cs total
rebased_goes known before now d cs total is = record { all = is.all; mid = now; has = is.goes_on.has; goes = is.goes; counted = is.counted; few = is.few }

pub rebased_memory : (known : List (List ℕ)) (before now : SourceState) (d : Driver) (cs : List Claim) (total : ℕ) → IsRebased known before now d cs total → IsStopAhead d.base.start known before now Memory
rebased_memory known before now d cs total is = ahead_memory known before now d cs total (rebased_goes known before now d cs total is)

-- What a unit needs first
module _ (known : List (List ℕ)) (before now : SourceState) (d : Driver) (total n : ℕ) (path : List ℕ) (place : Place) (asked : List Question) (is : IsRebased known before now d [] total) (need : IsInNeed d.base.start (state_of d.book).filed (key_at d.book n) (Read path) place asked) where
  -- it is asked for
  pub asked_ahead : UnitsHaveNumbers d.book → IsReadyNumber d.book n → IsAskedRead d.base.start before path
  asked_ahead numbers ready = first_read_is_asked d.base.start (known ++ is.all) before now now d.book n d.reads path place asked is.goes.going is.goes_on.has.tree numbers ready need

  -- and has no number yet
  pub not_numbered : In d.book.keys (Read path) → ⊥
  not_numbered i = elim (is.goes.going.driven.named.begun (Read path) i refl) [
    | inl none_claimed ↦ absurd none_claimed
    | inr filed ↦ none_some ((state_of d.book).filed (Read path)) filed.0 (needed_lacks d.base.start d.book.keys (state_of d.book) [] is.goes.going.driven.named (key_at d.book n) (Read path) place asked need) filed.1
  ]

-- A path is read ahead
module _ (known : List (List ℕ)) (before now next : SourceState) (old : Driver) (total : ℕ) (path : List ℕ) (is : IsRebased known before now old [] total) (new_path : In old.book.keys (Read path) → ⊥) (none : at_name path old.known.entries ≡ None) (asked : IsAskedRead old.base.start before path) where
  fresh : In (known ++ is.all) path → ⊥
  fresh i = elim (is.goes.kept.all path i) [ inl k ↦ at_no_path old.known.entries path none k | inr k ↦ new_path k ]

  by_result : (r : Result FileContent PerformStop) → IsReadBy path now next r → IsReadAhead old.base.start known before next is.all old.book [] path r
  by_result r read = reads_ahead_go_on old.base.start known before now next is.all old.book [] path r is.goes_on fresh asked read

  -- it has failed, or memory was wanting
  pub ahead_fails : IsReadBy path now next (Err perform.Failed) → IsStopAhead old.base.start known before next (Failed path)
  ahead_fails read = by_result (Err perform.Failed) read

  pub ahead_lost : IsReadBy path now next (Err perform.Memory) → IsStopAhead old.base.start known before next Memory
  ahead_lost read = by_result (Err perform.Memory) read

  -- what there is stands with what was read before
  module _ (content : FileContent) (read : IsReadBy path now next (Ok content)) where
    abbrev more : List (List ℕ)
    more = is.all ++ path ∷ []

    on : GoesOnAhead old.base.start known before next more old.book []
    on = by_result (Ok content) read

    -- memory was wanting then
    pub ahead_then_lost : IsStopAhead old.base.start known before next Memory
    ahead_then_lost = (all_asked old.base.start known before next more on.has, on.has.faults)

    one_path : (p : List ℕ) → In (path ∷ []) p → p ≡ path
    one_path p (inl same) = sym same
    one_path p (inr i) = absurd i

    module _ (there : (tree : Tree) → now.tree ≡ Some tree → content_view content ≡ content_in (read_of tree path)) where
      kept_one : KeepsKnown (known ++ more) next (with_name path content old.known.entries) old.book.keys
      kept_one = kept_put (known ++ is.all) (known ++ more) now next old.known.entries old.book.keys path content is.goes.kept read.tree (known_behind known is.all (path ∷ []))
          (in_right known more path (in_right is.all (path ∷ []) path (inl refl)))
          (λ p i. elim (behind_known known is.all (path ∷ []) p i) [ inl j ↦ inl j | inr j ↦ inr (one_path p j) ]) there

      module _ (new : Driver) (base : new.base ≡ old.base) (book : new.book ≡ old.book) (left : new.known.entries ≡ with_name path content old.known.entries) (reads : new.reads ≡ old.reads) where
        pub ahead_read : total + 1 ≤ read_limit → IsRebased known before next new [] (total + 1)
        ahead_read few = record {
          all = more;
          goes_on = goes_on_of known before next old new [] more base book on;
          goes = moved (known ++ more) next next new (record { base = old.base; book = old.book; left = with_name path content old.known.entries; reads = 0 }) [] base book left (reads ∙ is.reads)
              (record { going = on.going; base = is.goes.base; layer = is.goes.layer; kept = kept_one });
          reads = reads ∙ is.reads;
          counted = let long = length-append is.all (path ∷ []) in omega (arith, long, is.counted);
          few = few;
        }
