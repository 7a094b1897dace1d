-- All that was read so far counts as known before from now on.
use Rattle.std.proofs.Common.{◌≡◌, ◌⊎◌, inl, inr, ℕ, ◌+◌, List, [], ◌∷◌, ◌++◌, length, Bool, true, false, refl, sym, ◌∙◌, ap, subst, arith}
use Rattle.std.specs.Prelude.{Result, Ok, Err}
use Rattle.std.proofs.lemmas.List.{length-append}
use Rattle.gn_outside.specs.States.{SourceState}
use Rattle.gn_outside.specs.Lists.{Extends}
use Rattle.gn_outside.specs.Sources.{plain_reads}
use Rattle.gn_environment.specs.Chains.{is_one_of}
use Rattle.gn_closure.specs.Closure.{In}
use Rattle.gn_closure.proofs.Opened.{in_append, in_left, in_right}
use Rattle.gn_executions.specs.Base.{BaseState}
use Rattle.gn_book.specs.Logs.{Log}
use Rattle.gn_book.specs.declared.book.Claim.{Claim}
use Rattle.gn_builds.specs.Driving.{IsGoing, paths_read, unknown_of}
use Rattle.gn_builds.proofs.Named.{once}
use Rattle.gn_builds.proofs.ReadPaths.{read_in, reads_distinct}
use Rattle.gn_builds.proofs.Unknown.{unknown_distinct, unknown_not_known}
use Rattle.gn_builds.proofs.Asked.{unknown_new, unknown_in}
use Rattle.gn_builds.proofs.Members.{none_in, in_one}
use Rattle.gn_answers.specs.Reading.{IsReadBy}
use Rattle.gn_answers.specs.declared.answer.FileContent.{FileContent}
use Rattle.gn_answers.specs.declared.reading.PerformStop.{PerformStop}
use Rattle.gn_answers.specs.declared.reading.PerformStop.TheVariants.{Failed, Memory}
use Rattle.gn_ahead.specs.Ahead.{IsAskedRead, HasReadAll, GoesOnAhead, IsReadAhead}
use Rattle.gn_ahead.specs.Laws.{SeatReadsOn, ReadsAheadGoOn}
use Rattle.gn_ahead.proofs.Paths.{differ_both, differ_tested, one_in_list, nothing_more, told_behind, plain_both}
use Rattle.gn_ahead.proofs.AskedAhead.{read_more, read_failed, read_lost_ahead}

-- Paths that are known

-- none is unknown where all are known
none_unknown : (known ps : List (List ℕ)) → ((path : List ℕ) → In ps path → In known path) → unknown_of known ps ≡ []
none_unknown known ps all = none_in (unknown_of known ps) (λ path i. unknown_not_known known ps path (in_one (unknown_of known ps) path i) (in_one known path (all path (unknown_new known ps path i).0)))

-- a path is known, or one of those that are unknown
pub known_or_new : (known ps : List (List ℕ)) (path : List ℕ) → In ps path → In known path ⊎ In (unknown_of known ps) path
known_or_new known ps path i = by (is_one_of path known) refl
  where
    by : (b : Bool) → is_one_of path known ≡ b → In known path ⊎ In (unknown_of known ps) path
    by true e = inl (one_in_list path known e)
    by false e = inr (unknown_in known ps path i e)

-- so they are known with these behind
known_with_new : (known all ps : List (List ℕ)) (path : List ℕ) → In ps path → In (known ++ (all ++ unknown_of (known ++ all) ps)) path
known_with_new known all ps path i = elim (known_or_new (known ++ all) ps path i) [
  | inl old ↦ elim (in_append known all path old) [
    | inl j ↦ in_left known (all ++ unknown_of (known ++ all) ps) path j
    | inr j ↦ in_right known (all ++ unknown_of (known ++ all) ps) path (in_left all (unknown_of (known ++ all) ps) path j)
  ]
  | inr new ↦ in_right known (all ++ unknown_of (known ++ all) ps) path (in_right all (unknown_of (known ++ all) ps) path new)
]

-- where as many as none are unknown, all are known
all_known : (known ps : List (List ℕ)) → 0 ≡ length (unknown_of known ps) → (path : List ℕ) → In ps path → In known path
all_known known ps none path i = elim (known_or_new known ps path i) [ inl j ↦ j | inr j ↦ absurd (some (unknown_of known ps) none j) ]
  where
    some : (new : List (List ℕ)) → 0 ≡ length new → In new path → ⊥
    some [] e j = j
    some (p ∷ new) e j = omega (arith, e)

-- the seat goes on where all that has a number is known
pub rebased : (start : BaseState) (known more : List (List ℕ)) (before now next : SourceState) (l : Log) (cs : List Claim) (reads : ℕ) → IsGoing start known before now l cs reads
    → ((path : List ℕ) → In (paths_read l.keys) path → In more path) → next.tree ≡ before.tree → IsGoing start more next next l cs 0
rebased start known more before now next l cs reads going all tree = record {
  driven = going.driven;
  claims = going.claims;
  source = record {
    tree = refl;
    faults = refl;
    reads = subst (λ (ps : List (List ℕ)). Extends next.reads next.reads (plain_reads ps)) (sym none) (nothing_more next.reads);
    over = λ t told. going.source.over t (sym tree ∙ told);
  };
  counted = ap (λ (ps : List (List ℕ)). length ps) (sym none);
  few = omega arith;
}
  where
    none : unknown_of more (paths_read l.keys) ≡ []
    none = none_unknown more (paths_read l.keys) all

-- What the seat has read
module _ (start : BaseState) (known : List (List ℕ)) (before mid now : SourceState) (all : List (List ℕ)) (l : Log) (cs : List Claim) (reads : ℕ) (has : HasReadAll start known before mid all) (going : IsGoing start (known ++ all) mid now l cs reads) where
  abbrev new : List (List ℕ)
  new = unknown_of (known ++ all) (paths_read l.keys)

  new_read : (path : List ℕ) → In new path → In (paths_read l.keys) path × (In (known ++ all) path → ⊥)
  new_read path i = ((unknown_new (known ++ all) (paths_read l.keys) path i).0, λ k. unknown_not_known (known ++ all) (paths_read l.keys) path (in_one new path i) (in_one (known ++ all) path k))

  asked_by_seat : (path : List ℕ) → In new path → IsAskedRead start before path
  asked_by_seat path i = record {
    log = l;
    keys = _;
    driven = going.driven;
    over = λ tree told. going.source.over tree (has.tree ∙ told);
    numbered = read_in l.keys path (in_one (paths_read l.keys) path (new_read path i).0);
  }

  pub read_by_seat : HasReadAll start known before now (all ++ new)
  read_by_seat = record {
    tree = going.source.tree ∙ has.tree;
    faults = going.source.faults ∙ has.faults;
    reads = subst (Extends before.reads now.reads) (sym (plain_both all new)) (told_behind before.reads mid.reads now.reads (plain_reads all) (plain_reads new) has.reads going.source.reads);
    differ = differ_both all new has.differ (differ_tested new (unknown_distinct (known ++ all) (paths_read l.keys) (reads_distinct l.keys (once l.keys going.driven.apart))))
        (λ path i j. (new_read path j).1 (in_right known all path i));
    new = λ path i k. elim (in_append all new path i) [ inl j ↦ has.new path j k | inr j ↦ (new_read path j).1 (in_left known all path k) ];
    asked = λ path i. elim (in_append all new path i) [ inl j ↦ has.asked path j | inr j ↦ asked_by_seat path j ];
  }

  seat_goes : GoesOnAhead start known before now (all ++ new) l cs
  seat_goes = record {
    has = read_by_seat;
    going = rebased start (known ++ all) (known ++ (all ++ new)) mid now now l cs reads going (known_with_new known all (paths_read l.keys)) going.source.tree;
  }

  pub long_in_all : length (all ++ new) ≡ length all + reads
  long_in_all = let long = length-append all new in omega (arith, long, going.counted)

pub seat_reads_on : SeatReadsOn
seat_reads_on start known before mid now all l cs reads has going = (seat_goes start known before mid now all l cs reads has going, long_in_all start known before mid now all l cs reads has going)

-- A path is read ahead
module _ (start : BaseState) (known : List (List ℕ)) (before now next : SourceState) (all : List (List ℕ)) (l : Log) (cs : List Claim) (path : List ℕ) (goes : GoesOnAhead start known before now all l cs) (fresh : In (known ++ all) path → ⊥) (asked : IsAskedRead start before path) where
  not_read : In all path → ⊥
  not_read i = fresh (in_right known all path i)

  not_known : In known path → ⊥
  not_known i = fresh (in_left known all path i)

  known_with_one : (p : List ℕ) → In (paths_read l.keys) p → In (known ++ (all ++ path ∷ [])) p
  known_with_one p i = elim (in_append known all p (all_known (known ++ all) (paths_read l.keys) goes.going.counted p i)) [
    | inl j ↦ in_left known (all ++ path ∷ []) p j
    | inr j ↦ in_right known (all ++ path ∷ []) p (in_left all (path ∷ []) p j)
  ]

  pub read_ahead_goes : (r : Result FileContent PerformStop) → IsReadBy path now next r → IsReadAhead start known before next all l cs path r
  read_ahead_goes (Ok content) is = record {
    has = read_more start known before now next all path goes.has not_read not_known asked is.tree is.faults is.reads;
    going = rebased start (known ++ all) (known ++ (all ++ path ∷ [])) now now next l cs 0 goes.going known_with_one is.tree;
  }
  read_ahead_goes (Err Failed) is = read_failed start known before now next all path goes.has not_read not_known asked is.tree is.faults is.reads
  read_ahead_goes (Err Memory) is = read_lost_ahead start known before now next all path goes.has not_read not_known asked is.tree is.faults is.reads

pub reads_ahead_go_on : ReadsAheadGoOn
reads_ahead_go_on start known before now next all l cs path r goes fresh asked is = read_ahead_goes start known before now next all l cs path goes fresh asked r is
