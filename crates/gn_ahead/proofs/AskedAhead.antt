-- What a source has read in any order is asked for.
use Rattle.std.proofs.Common.{◌≡◌, ◌⊎◌, inl, inr, ℕ, ◌<◌, List, [], ◌∷◌, ◌++◌, Some, Bool, true, false, refl, sym, ◌∙◌, subst}
use Rattle.gn_outside.specs.Tree.{Tree}
use Rattle.gn_outside.specs.States.{SourceState, paths_of}
use Rattle.gn_outside.specs.Lists.{AllDiffer, Extends}
use Rattle.gn_outside.specs.Sources.{CountsFailures, plain_reads}
use Rattle.gn_closure.specs.Closure.{In}
use Rattle.gn_closure.proofs.Opened.{in_append}
use Rattle.gn_executions.specs.Base.{BaseState}
use Rattle.gn_projects.specs.Files.{files_of}
use Rattle.gn_projects.specs.Loaded.{IsAskedFor}
use Rattle.gn_builds.specs.Driving.{FailsAt}
use Rattle.gn_builds.proofs.Asked.{read_asked}
use Rattle.gn_builds.proofs.ReadPaths.{in_read}
use Rattle.gn_builds.proofs.PlainReads.{one_read, ended_by, paths-plain, stops-plain, none-plain, paths-ended, stops-ended, some-ended, plain-ended}
use Rattle.gn_ahead.specs.Ahead.{IsAskedRead, HasReadAll, ReadsOnlyAsked}
use Rattle.gn_ahead.specs.Laws.{NothingIsRead, OnlyAskedIsRead, AllIsAsked}
use Rattle.gn_ahead.proofs.Paths.{each_in, differ_both, nothing_more, told_behind, last_told}

-- a read that is asked for is wanted by the build of a tree
pub is_asked_for : (start : BaseState) (before : SourceState) (path : List ℕ) → IsAskedRead start before path → (tree : Tree) → before.tree ≡ Some tree → IsAskedFor (files_of start tree) path
is_asked_for start before path asked tree told =
    read_asked (files_of start tree) asked.log asked.keys asked.driven (asked.over tree told) path (in_read asked.log.keys path asked.numbered)

pub reads_asked : OnlyAskedIsRead
reads_asked start known before now differ only = (
  only.reads,
  only.goes,
  differ_both known (paths_of only.reads) differ only.differ (λ path i j. only.new path j i),
  λ tree told. each_in (IsAskedFor (files_of start tree)) (paths_of only.reads) (λ path i. is_asked_for start before path (only.asked path i) tree told),
)

pub none_read : NothingIsRead
none_read start known now = record {
  tree = refl;
  faults = refl;
  reads = nothing_more now.reads;
  differ = tt;
  new = λ path i k. absurd i;
  asked = λ path i. absurd i;
}

pub all_asked : AllIsAsked
all_asked start known before now all has = record {
  reads = plain_reads all;
  goes = record {
    tree = has.tree;
    joined = has.reads;
    stops = stops-plain all;
    faults = subst (CountsFailures before.faults now.faults) (sym (none-plain all)) has.faults;
  };
  differ = subst AllDiffer (sym (paths-plain all)) has.differ;
  new = λ path i. has.new path (subst (λ (ps : List (List ℕ)). In ps path) (paths-plain all) i);
  asked = λ path i. has.asked path (subst (λ (ps : List (List ℕ)). In ps path) (paths-plain all) i);
}

-- nothing more was read
pub all_still : (start : BaseState) (known : List (List ℕ)) (before was now : SourceState) (all : List (List ℕ)) → now.tree ≡ was.tree → now.reads ≡ was.reads → now.faults ≡ was.faults
    → HasReadAll start known before was all → HasReadAll start known before now all
all_still start known before was now all tree reads faults has = record {
  tree = tree ∙ has.tree;
  faults = faults ∙ has.faults;
  reads = reads ∙ has.reads;
  differ = has.differ;
  new = has.new;
  asked = has.asked;
}

-- One more path is read, which wasn't known, and is asked for
module _ (start : BaseState) (known : List (List ℕ)) (before was now : SourceState) (all : List (List ℕ)) (path : List ℕ) (has : HasReadAll start known before was all) (fresh : In all path → ⊥) (unknown : In known path → ⊥) (is : IsAskedRead start before path) (tree : now.tree ≡ was.tree) where
  abbrev more : List (List ℕ)
  more = all ++ path ∷ []

  new_more : (p : List ℕ) → In more p → In known p → ⊥
  new_more p i k = elim (in_append all (path ∷ []) p i) [
    | inl j ↦ has.new p j k
    | inr (inl e) ↦ unknown (subst (In known) (sym e) k)
    | inr (inr j) ↦ absurd j
  ]

  asked_more : (p : List ℕ) → In more p → IsAskedRead start before p
  asked_more p i = elim (in_append all (path ∷ []) p i) [
    | inl j ↦ has.asked p j
    | inr (inl e) ↦ subst (IsAskedRead start before) e is
    | inr (inr j) ↦ absurd j
  ]

  differ_more : AllDiffer more
  differ_more = differ_both all (path ∷ []) has.differ (tt, tt) (λ p i j. elim j [ inl e ↦ fresh (subst (In all) (sym e) i) | inr k ↦ absurd k ])

  told_more : (failed : Bool) → Extends was.reads now.reads (one_read path failed ∷ []) → Extends before.reads now.reads (ended_by all path failed)
  told_more failed recorded = told_behind before.reads was.reads now.reads (plain_reads all) (one_read path failed ∷ []) has.reads recorded

  pub read_more : now.faults ≡ was.faults → Extends was.reads now.reads (plain_reads (path ∷ [])) → HasReadAll start known before now more
  read_more faults recorded = record {
    tree = tree ∙ has.tree;
    faults = faults ∙ has.faults;
    reads = subst (Extends before.reads now.reads) (plain-ended all path) (told_more false recorded);
    differ = differ_more;
    new = new_more;
    asked = asked_more;
  }

  -- whether or not it has failed
  read_ended : (failed : Bool) → CountsFailures before.faults now.faults failed → Extends was.reads now.reads (one_read path failed ∷ []) → ReadsOnlyAsked start known before now
  read_ended failed counted recorded = record {
    reads = ended_by all path failed;
    goes = record {
      tree = tree ∙ has.tree;
      joined = told_more failed recorded;
      stops = stops-ended all path failed;
      faults = subst (CountsFailures before.faults now.faults) (sym (some-ended all path failed)) counted;
    };
    differ = subst AllDiffer (sym (paths-ended all path failed)) differ_more;
    new = λ p i. new_more p (subst (λ (ps : List (List ℕ)). In ps p) (paths-ended all path failed) i);
    asked = λ p i. asked_more p (subst (λ (ps : List (List ℕ)). In ps p) (paths-ended all path failed) i);
  }

  pub read_failed : was.faults < now.faults → Extends was.reads now.reads (record { path = path; failed = true } ∷ []) → ReadsOnlyAsked start known before now × FailsAt path before now
  read_failed rose recorded =
      let risen : before.faults < now.faults = subst (λ n. n < now.faults) has.faults rose in (
        read_ended true risen recorded,
        record {
          failed = risen;
          last = λ some. record { failed = risen; last = last_told before.reads now.reads (plain_reads all) (one_read path true) (told_more true recorded) some };
        },
      )

  -- for want of memory it may not have been recorded
  pub read_lost_ahead : now.faults ≡ was.faults → Extends was.reads now.reads (plain_reads (path ∷ [])) ⊎ (now.reads ≡ was.reads) → ReadsOnlyAsked start known before now × (now.faults ≡ before.faults)
  read_lost_ahead faults (inl recorded) = (read_ended false (faults ∙ has.faults) recorded, faults ∙ has.faults)
  read_lost_ahead faults (inr still) = (all_asked start known before now all (all_still start known before was now all tree still faults has), faults ∙ has.faults)
