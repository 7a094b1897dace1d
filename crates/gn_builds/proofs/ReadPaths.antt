-- What a source has read while loading went on.
use Rattle.std.proofs.Common.{◌≡◌, ◌⊎◌, inl, inr, ℕ, ◌<◌, List, [], ◌∷◌, ◌++◌, length, Option, Some, None, Bool, true, false, refl, sym, ◌∙◌, ap, subst, append_assoc, append-nil, arith}
use Rattle.std.specs.Prelude.{option_map, IsSome}
use Rattle.std.specs.List.{IsDistinct, AllByRecursion}
use Rattle.gn_outside.specs.Tree.{Tree}
use Rattle.gn_outside.specs.States.{SourceRead, SourceState}
use Rattle.gn_outside.specs.Lists.{Extends}
use Rattle.gn_outside.specs.Sources.{CountsFailures, plain_reads}
use Rattle.gn_imports.specs.Projects.{IsOneOf}
use Rattle.gn_imports.proofs.PathOrder.{path_eq, path_eq-Decides}
use Rattle.gn_closure.specs.Closure.{In}
use Rattle.gn_executions.specs.Base.{BaseState}
use Rattle.gn_core.specs.Keys.{Key, Read, Import, Unit_of, Resolve}
use Rattle.gn_core.specs.Worlds.{World}
use Rattle.gn_core.specs.Machine.{Event, IsOver, IsOverEvent}
use Rattle.gn_book.specs.Logs.{Log}
use Rattle.gn_projects.specs.Files.{files_of}
use Rattle.gn_projects.specs.Worlds.{world_of}
use Rattle.gn_builds.specs.Driving.{IsDriven, count_of, is_read, paths_read, unknown_of, HasRead, ReadsNumbered, FailsAt}
use Rattle.gn_builds.proofs.Counts.{IsOnce}
use Rattle.gn_builds.proofs.PlainReads.{one_read, ended_by, paths-plain, stops-plain, none-plain, paths-ended, stops-ended, some-ended, plain-ended}

-- what was told goes on
extends_behind : {X : Type 0} (before now after : Option (List X)) (xs ys : List X) → Extends before now xs → Extends now after ys → Extends before after (xs ++ ys)
extends_behind None now after xs ys h i = i ∙ ap (option_map (λ zs. zs ++ ys)) h
extends_behind (Some b) now after xs ys h i = i ∙ ap (option_map (λ zs. zs ++ ys)) h ∙ ap Some (append_assoc b xs ys)

last_read : (before now : Option (List SourceRead)) (reads : List SourceRead) (read : SourceRead) → Extends before now (reads ++ read ∷ []) → IsSome before → (all earlier : List SourceRead) × (before ≡ Some all) × (now ≡ Some (all ++ earlier ++ read ∷ []))
last_read None now reads read more some = cc
last_read (Some all) now reads read more some = (all, reads, refl, more ∙ ap Some (sym (append_assoc all reads (read ∷ []))))

-- the paths of the reads, when there is one more key
pub paths_more : (ks : List Key) (path : List ℕ) → paths_read (ks ++ Read path ∷ []) ≡ paths_read ks ++ path ∷ []
paths_more [] path = refl
paths_more (Read other ∷ ks) path = ap (λ (ps : List (List ℕ)). other ∷ ps) (paths_more ks path)
paths_more (Import layer other ∷ ks) path = paths_more ks path
paths_more (Unit_of unit ∷ ks) path = paths_more ks path
paths_more (Resolve label ∷ ks) path = paths_more ks path

pub paths_same : (ks : List Key) (k : Key) → is_read k ≡ false → paths_read (ks ++ k ∷ []) ≡ paths_read ks
paths_same [] (Read path) e = absurd (cc e)
paths_same [] (Import layer path) e = refl
paths_same [] (Unit_of unit) e = refl
paths_same [] (Resolve label) e = refl
paths_same (Read other ∷ ks) k e = ap (λ (ps : List (List ℕ)). other ∷ ps) (paths_same ks k e)
paths_same (Import layer other ∷ ks) k e = paths_same ks k e
paths_same (Unit_of unit ∷ ks) k e = paths_same ks k e
paths_same (Resolve label ∷ ks) k e = paths_same ks k e

pub paths_counted : (ks : List Key) → length (paths_read ks) ≡ count_of is_read ks
paths_counted [] = refl
paths_counted (Read path ∷ ks) = let rest = paths_counted ks in omega (arith, rest)
paths_counted (Import layer path ∷ ks) = let rest = paths_counted ks in omega (arith, rest)
paths_counted (Unit_of unit ∷ ks) = let rest = paths_counted ks in omega (arith, rest)
paths_counted (Resolve label ∷ ks) = let rest = paths_counted ks in omega (arith, rest)

-- the paths of the reads among keys, each of which stands once

pub read_in : (ks : List Key) (path : List ℕ) → IsOneOf path (paths_read ks) → In ks (Read path)
read_in [] path i = absurd i
read_in (Read other ∷ ks) path (inl e) = inl (ap Read (sym e))
read_in (Read other ∷ ks) path (inr i) = inr (read_in ks path i)
read_in (Import layer other ∷ ks) path i = inr (read_in ks path i)
read_in (Unit_of unit ∷ ks) path i = inr (read_in ks path i)
read_in (Resolve label ∷ ks) path i = inr (read_in ks path i)

pub in_read : (ks : List Key) (path : List ℕ) → In ks (Read path) → IsOneOf path (paths_read ks)
in_read [] path i = absurd i
in_read (Read other ∷ ks) path (inl e) = let same : other ≡ path = cc e in inl (sym same)
in_read (Read other ∷ ks) path (inr i) = inr (in_read ks path i)
in_read (Import layer other ∷ ks) path (inl e) = absurd (cc e)
in_read (Import layer other ∷ ks) path (inr i) = in_read ks path i
in_read (Unit_of unit ∷ ks) path (inl e) = absurd (cc e)
in_read (Unit_of unit ∷ ks) path (inr i) = in_read ks path i
in_read (Resolve label ∷ ks) path (inl e) = absurd (cc e)
in_read (Resolve label ∷ ks) path (inr i) = in_read ks path i

apart_paths : (q : List ℕ) (rs : List (List ℕ)) → (IsOneOf q rs → ⊥) → AllByRecursion (λ y. path_eq q y ≡ false) rs
apart_paths q [] none = tt
apart_paths q (r ∷ rs) none = (not_same (path_eq q r) refl, apart_paths q rs (λ o. none (inr o)))
  where
    not_same : (b : Bool) → path_eq q r ≡ b → b ≡ false
    not_same true e = absurd (none (inl ((path_eq-Decides q r).0 e)))
    not_same false e = refl

pub reads_distinct : (ks : List Key) → IsOnce ks → IsDistinct path_eq (paths_read ks)
unfolding IsDistinct
reads_distinct [] o = tt
reads_distinct (Read path ∷ ks) o = (apart_paths path (paths_read ks) (λ i. o.0 (read_in ks path i)), reads_distinct ks o.1)
reads_distinct (Import layer path ∷ ks) o = reads_distinct ks o.1
reads_distinct (Unit_of unit ∷ ks) o = reads_distinct ks o.1
reads_distinct (Resolve label ∷ ks) o = reads_distinct ks o.1

-- one more event over a tree
pub over_more : (w : World) (es : List Event) (e : Event) → IsOver w es → IsOverEvent w e → IsOver w (es ++ e ∷ [])
over_more w [] e over here = (here, tt)
over_more w (x ∷ es) e over here = (over.0, over_more w es e over.1 here)

-- nothing more was read
pub reads_still : (start : BaseState) (known : List (List ℕ)) (before now : SourceState) (l : Log) (ks : List Key) → IsDriven start l ks → HasRead start known before now l → ReadsNumbered start known before now
reads_still start known before now l ks driven has = record {
  log = l;
  keys = ks;
  driven = driven;
  over = has.over;
  reads = plain_reads (unknown_of known (paths_read l.keys));
  goes = record {
    tree = has.tree;
    joined = has.reads;
    stops = stops-plain (unknown_of known (paths_read l.keys));
    faults = subst (CountsFailures before.faults now.faults) (sym (none-plain (unknown_of known (paths_read l.keys)))) has.faults;
  };
  numbered = ([], sym (append-nil _ ∙ paths-plain (unknown_of known (paths_read l.keys))));
}

-- a path is read that has got a number
module _ (start : BaseState) (known : List (List ℕ)) (before was now : SourceState) (l m : Log) (ks : List Key) (path : List ℕ) (has : HasRead start known before was l) (driven : IsDriven start m ks) (over : (tree : Tree) → before.tree ≡ Some tree → IsOver (world_of (files_of start tree)) m.events)
    (paths : unknown_of known (paths_read m.keys) ≡ unknown_of known (paths_read l.keys) ++ path ∷ []) (tree_same : now.tree ≡ was.tree) where
  more : (failed : Bool) → Extends was.reads now.reads (one_read path failed ∷ []) → Extends before.reads now.reads (ended_by (unknown_of known (paths_read l.keys)) path failed)
  more failed recorded = extends_behind before.reads was.reads now.reads (plain_reads (unknown_of known (paths_read l.keys))) (one_read path failed ∷ []) has.reads recorded

  pub read_numbered : (failed : Bool) → Extends was.reads now.reads (one_read path failed ∷ []) → CountsFailures was.faults now.faults failed → ReadsNumbered start known before now
  read_numbered failed recorded counted = record {
    log = m;
    keys = ks;
    driven = driven;
    over = over;
    reads = ended_by (unknown_of known (paths_read l.keys)) path failed;
    goes = record {
      tree = tree_same ∙ has.tree;
      joined = more failed recorded;
      stops = stops-ended (unknown_of known (paths_read l.keys)) path failed;
      faults = subst (CountsFailures before.faults now.faults) (sym (some-ended (unknown_of known (paths_read l.keys)) path failed)) (subst (λ n. CountsFailures n now.faults failed) has.faults counted);
    };
    numbered = ([], paths ∙ sym (append-nil _ ∙ paths-ended (unknown_of known (paths_read l.keys)) path failed));
  }

  -- nothing was recorded, for want of memory
  read_unrecorded : now.reads ≡ was.reads → now.faults ≡ was.faults → ReadsNumbered start known before now
  read_unrecorded same faults_same = record {
    log = m;
    keys = ks;
    driven = driven;
    over = over;
    reads = plain_reads (unknown_of known (paths_read l.keys));
    goes = record {
      tree = tree_same ∙ has.tree;
      joined = same ∙ has.reads;
      stops = stops-plain (unknown_of known (paths_read l.keys));
      faults = subst (CountsFailures before.faults now.faults) (sym (none-plain (unknown_of known (paths_read l.keys)))) (faults_same ∙ has.faults);
    };
    numbered = (path ∷ [], paths ∙ ap (λ (ps : List (List ℕ)). ps ++ path ∷ []) (sym (paths-plain (unknown_of known (paths_read l.keys)))));
  }

  pub read_lost : Extends was.reads now.reads (plain_reads (path ∷ [])) ⊎ (now.reads ≡ was.reads) → now.faults ≡ was.faults → ReadsNumbered start known before now
  read_lost (inl recorded) same = read_numbered false recorded same
  read_lost (inr still) same = read_unrecorded still same

  pub read_fails : Extends was.reads now.reads (one_read path true ∷ []) → was.faults < now.faults → FailsAt path before now
  read_fails recorded rose = record {
    failed = subst (λ n. n < now.faults) has.faults rose;
    last = λ some. record {
      failed = subst (λ n. n < now.faults) has.faults rose;
      last = last_read before.reads now.reads (plain_reads (unknown_of known (paths_read l.keys))) (one_read path true) (more true recorded) some;
    };
  }

  -- and it is filed
  pub read_known : Extends was.reads now.reads (plain_reads (path ∷ [])) → now.faults ≡ was.faults → (n : Log) → unknown_of known (paths_read n.keys) ≡ unknown_of known (paths_read m.keys) → ((tree : Tree) → before.tree ≡ Some tree → IsOver (world_of (files_of start tree)) n.events) → HasRead start known before now n
  read_known recorded same n keys filed = record {
    tree = tree_same ∙ has.tree;
    faults = same ∙ has.faults;
    reads = subst (λ (ps : List (List ℕ)). Extends before.reads now.reads (plain_reads ps)) (sym (keys ∙ paths)) (subst (Extends before.reads now.reads) (plain-ended (unknown_of known (paths_read l.keys)) path) (more false recorded));
    over = filed;
  }
