-- What the parts of a run have read, by which paths they may read.
use Rattle.std.proofs.Common.{◌≡◌, ◌⊎◌, inl, inr, ℕ, ◌<◌, Bool, true, false, ◌||◌, List, [], ◌∷◌, ◌++◌, Option, Some, None, Result, Ok, Err, OnOk, IsErrAnd, refl, sym, ◌∙◌, ap, subst, append_assoc, append-nil}
use Rattle.std.specs.Prelude.{option_map, IsSome}
use Rattle.std.proofs.lemmas.Option.{same_Some}
use Rattle.gn_outside.specs.Tree.{Tree}
use Rattle.gn_outside.specs.States.{SourceRead, SourceState, paths_of}
use Rattle.gn_outside.specs.Lists.{Extends, OneOf}
use Rattle.gn_outside.specs.Sources.{FailedAt, ReadsOnBy, CountsFailures, plain_reads}
use Rattle.gn_builds.specs.Driving.{FailsAt}
use Rattle.gn_answers.specs.Reading.{IsReadBy}
use Rattle.gn_answers.specs.declared.answer.FileContent.{FileContent}
use Rattle.gn_answers.specs.declared.reading.PerformStop.TheVariants as stop
use Rattle.gn_top.specs.declared.answered.RunStop.{RunStop}
use Rattle.gn_top.specs.declared.answered.RunStop.TheVariants.{CannotRead, Memory}
use Rattle.gn_top.specs.Building.{ReadsAmong, ReadsNew, ReadsOf, ReadsOneOf, ReadsKnown, ReadsFirst, KnowsAlso}
use Rattle.gn_top.specs.Steps.{IfCannotRead, CountsFault}
use Rattle.gn_top.proofs.JoinedReads.{each_maps, unknown_apart, joined_goes, joined_differ, joined_each}
use Rattle.gn_top.proofs.RunLemmas.{nothing_more}

pub no_reads : (s : SourceState) → ReadsOnBy s s []
no_reads s = record { tree = refl; joined = nothing_more s.reads s.reads refl; stops = tt; faults = refl }

pub reads_nothing : (asks : Tree → List ℕ → Type 0) (s : SourceState) → ReadsOf asks s s
reads_nothing asks s = ([], no_reads s, tt, λ tree told. tt)

pub among_nothing : (paths known : List (List ℕ)) (s : SourceState) → ReadsAmong paths known s s
among_nothing paths known s = ([], no_reads s, tt, tt, tt)

-- Failed reads

abbrev one_read : List ℕ → Bool → SourceRead
one_read path failed = record { path = path; failed = failed }

failed_last : (path : List ℕ) (before now : SourceState) → ReadsOnBy before now (one_read path true ∷ []) → before.faults < now.faults → FailsAt path before now
failed_last path before now goes rose = record { failed = rose; last = λ told. by before.reads refl told goes.joined }
  where
    by : (rs : Option (List SourceRead)) → before.reads ≡ rs → IsSome rs → now.reads ≡ option_map (λ xs. xs ++ one_read path true ∷ []) rs → FailedAt path before now
    by None e told joined = cc
    by (Some rs) e told joined = record { failed = rose; last = (rs, [], e, joined ∙ ap (λ xs. Some (xs ++ one_read path true ∷ [])) (sym (append-nil rs))) }

-- a read that has failed behind others
pub fails_behind : (path : List ℕ) (before between after : SourceState) (rs : List SourceRead) → ReadsOnBy before between rs → between.faults ≡ before.faults → FailsAt path between after → FailsAt path before after
fails_behind path before between after rs goes same fails = record { failed = rose; last = λ told. by before.reads refl told goes.joined }
  where
    rose : before.faults < after.faults
    rose = subst (λ n. n < after.faults) same fails.failed

    more : (b : List SourceRead) → before.reads ≡ Some b → between.reads ≡ Some (b ++ rs) → FailedAt path between after → FailedAt path before after
    more b e there failed =
        let has = failed.last in
        let start : has.0 ≡ b ++ rs = same_Some has.0 (b ++ rs) (sym has.2 ∙ there) in
        record {
          failed = rose;
          last = (
            b,
            rs ++ has.1,
            e,
            has.3 ∙ ap (λ xs. Some (xs ++ has.1 ++ one_read path true ∷ [])) start ∙ ap (λ xs. Some (xs ++ one_read path true ∷ [])) (append_assoc b rs has.1),
          );
        }

    by : (b : Option (List SourceRead)) → before.reads ≡ b → IsSome b → between.reads ≡ option_map (λ xs. xs ++ rs) b → FailedAt path before after
    by None e told joined = cc
    by (Some b) e told joined = more b e joined (fails.last (subst IsSome (sym joined) refl))

pub counts_behind : {T : Type 0} (r : Result T RunStop) (before between after : SourceState) → between.faults ≡ before.faults → CountsFault between.faults after.faults r → CountsFault before.faults after.faults r
counts_behind r before between after same counts = subst (λ n. CountsFault n after.faults r) same counts

pub fails_all_behind : {T : Type 0} (r : Result T RunStop) (before between after : SourceState) (rs : List SourceRead) → ReadsOnBy before between rs → between.faults ≡ before.faults
    → IfCannotRead r (λ path. FailsAt path between after) → IfCannotRead r (λ path. FailsAt path before after)
fails_all_behind (Ok x) before between after rs goes same fails = tt
fails_all_behind (Err (CannotRead path)) before between after rs goes same fails = fails_behind path before between after rs goes same fails
fails_all_behind (Err Memory) before between after rs goes same fails = tt

-- One read, of a path that isn't known

-- want of memory is no failed read
pub no_path : {T : Type 0} (r : Result T RunStop) → IsErrAnd r (λ e. e ≡ Memory) → IfCannotRead r (λ path. ⊥)
no_path (Ok x) lost = absurd lost
no_path {T} (Err e) lost = subst (λ (s : RunStop). IfCannotRead {T = T} (Err s) (λ path. ⊥)) (sym lost) tt

-- no read has failed
pub new_done : {T : Type 0} (r : Result T RunStop) (paths known : List (List ℕ)) (before now : SourceState) → IfCannotRead r (λ path. ⊥) → now.faults ≡ before.faults → ReadsAmong paths known before now → ReadsNew paths known before now r
new_done (Ok x) paths known before now none same among = record { among = among; faults = same; failure = tt }
new_done (Err (CannotRead path)) paths known before now none same among = absurd none
new_done (Err Memory) paths known before now none same among = record { among = among; faults = same; failure = tt }

-- the same is read whatever is answered

pub new_ok : {T U : Type 0} (x : T) (y : U) (paths known : List (List ℕ)) (before now : SourceState) → ReadsNew paths known before now (Ok x) → ReadsNew paths known before now (Ok y)
new_ok x y paths known before now new = record { among = new.among; faults = new.faults; failure = tt }

pub new_lost : {T U : Type 0} (x : T) (r : Result U RunStop) (paths known : List (List ℕ)) (before now : SourceState) → IsErrAnd r (λ e. e ≡ Memory) → ReadsNew paths known before now (Ok x) → ReadsNew paths known before now r
new_lost x r paths known before now lost new = new_done r paths known before now (no_path r lost) new.faults new.among

same_stop : (T U : Type 0) (s : RunStop) (paths known : List (List ℕ)) (before now : SourceState) → ReadsNew {T = T} paths known before now (Err s) → ReadsNew {T = U} paths known before now (Err s)
same_stop T U (CannotRead path) paths known before now new = record { among = new.among; faults = new.faults; failure = new.failure }
same_stop T U Memory paths known before now new = record { among = new.among; faults = new.faults; failure = new.failure }

pub new_stops : {T U : Type 0} (s : RunStop) (r : Result U RunStop) (paths known : List (List ℕ)) (before now : SourceState) → IsErrAnd r (λ e. e ≡ s) → ReadsNew {T = T} paths known before now (Err s) → ReadsNew paths known before now r
new_stops s (Ok x) paths known before now stopped new = absurd stopped
new_stops {T} {U} s (Err e) paths known before now stopped new =
    subst (λ (q : RunStop). ReadsNew {T = U} paths known before now (Err q)) (sym stopped) (same_stop T U s paths known before now new)

-- what a stage has read that has stopped
pub first_stops : {T : Type 0} (P : RunStop → Type 0) (r : Result T RunStop) (paths : Tree → List (List ℕ)) (known : List (List ℕ)) (before now : SourceState) → IsErrAnd r P → ReadsOneOf paths before now → ReadsFirst paths known before now r
first_stops P (Ok x) paths known before now stopped read = absurd stopped
first_stops P (Err e) paths known before now stopped read = read

module _ (path : List ℕ) (known : List (List ℕ)) (before now : SourceState) (apart : OneOf known path → ⊥) where
  goes_by : (failed : Bool) → now.tree ≡ before.tree → Extends before.reads now.reads (one_read path failed ∷ []) → CountsFailures before.faults now.faults (failed || false) → ReadsOnBy before now (one_read path failed ∷ [])
  goes_by failed tree reads faults = record { tree = tree; joined = reads; stops = ((λ _. refl), tt); faults = faults }

  among_one : (failed : Bool) → ReadsOnBy before now (one_read path failed ∷ []) → ReadsAmong (path ∷ []) known before now
  among_one failed goes = (one_read path failed ∷ [], goes, (tt, tt), (apart, tt), (inl refl, tt))

  pub read_done : {T : Type 0} (content : FileContent) → IsReadBy path before now (Ok content) → (r : Result T RunStop) → IfCannotRead r (λ p. ⊥) → ReadsNew (path ∷ []) known before now r
  read_done content read r none = new_done r (path ∷ []) known before now none read.faults (among_one false (goes_by false read.tree read.reads read.faults))

  pub read_failed : (T : Type 0) → IsReadBy path before now (Err stop.Failed) → ReadsNew {T = T} (path ∷ []) known before now (Err (CannotRead path))
  read_failed T read =
      let goes = goes_by true read.tree read.reads read.faults in
      record { among = among_one true goes; faults = read.faults; failure = failed_last path before now goes read.faults }

  pub read_lost : (T : Type 0) → IsReadBy path before now (Err stop.Memory) → ReadsNew {T = T} (path ∷ []) known before now (Err Memory)
  read_lost T read = record { among = by read.reads; faults = read.faults; failure = tt }
    where
      by : Extends before.reads now.reads (plain_reads (path ∷ [])) ⊎ (now.reads ≡ before.reads) → ReadsAmong (path ∷ []) known before now
      by (inl one) = among_one false (goes_by false read.tree one read.faults)
      by (inr none) = ([], record { tree = read.tree; joined = nothing_more before.reads now.reads none; stops = tt; faults = read.faults }, tt, tt, tt)

-- The first stage

module _ (paths : Tree → List (List ℕ)) (before now : SourceState) (ps known : List (List ℕ)) (among : ReadsAmong ps known before now) (all : (tree : Tree) → before.tree ≡ Some tree → (p : List ℕ) → OneOf ps p → OneOf (paths tree) p) where
  pub reads_of : ReadsOneOf paths before now
  reads_of = (among.0, among.1, among.2, λ tree told. each_maps (OneOf ps) (OneOf (paths tree)) (all tree told) (paths_of among.0) among.4)

  pub reads_known : (more : List (List ℕ)) → KnowsAlso known ps more → ReadsKnown paths more before now
  reads_known more knows = (
    among.0,
    among.1,
    among.2,
    each_maps (OneOf ps) (OneOf more) (λ p one. (knows p).1 (inr one)) (paths_of among.0) among.4,
    λ tree told. each_maps (OneOf ps) (OneOf (paths tree)) (all tree told) (paths_of among.0) among.4,
  )

-- a first part that has ended, and a second one
module _ {T : Type 0} (paths : Tree → List (List ℕ)) (ps qs known all : List (List ℕ)) (before between after : SourceState) (one : KnowsAlso [] ps known) (same : between.faults ≡ before.faults) (first : ReadsAmong ps [] before between)
    (asked : (tree : Tree) → before.tree ≡ Some tree → (p : List ℕ) → OneOf ps p ⊎ OneOf qs p → OneOf (paths tree) p) where
  both : (r : Result T RunStop) → ReadsNew qs known between after r → ReadsOneOf paths before after
  both r second =
      let rs = first.0 in
      let us = second.among.0 in (
        rs ++ us,
        joined_goes before between after rs us first.1 second.among.1 same,
        joined_differ rs us first.2 second.among.2
            (unknown_apart known (paths_of rs) (paths_of us) (each_maps (OneOf ps) (OneOf known) (λ p h. (one p).1 (inr h)) (paths_of rs) first.4) second.among.3),
        λ tree told.
            joined_each (OneOf (paths tree)) rs us
            (each_maps (OneOf ps) (OneOf (paths tree)) (λ p h. asked tree told p (inl h)) (paths_of rs) first.4)
            (each_maps (OneOf qs) (OneOf (paths tree)) (λ p h. asked tree told p (inr h)) (paths_of us) second.among.4),
      )

  pub first_behind : (r : Result T RunStop) → ReadsNew qs known between after r → OnOk r (KnowsAlso known qs all) → ReadsFirst paths all before after r
  unfolding both
  first_behind (Ok x) second two =
      let whole = both (Ok x) second in
      let rs = first.0 in
      let us = second.among.0 in (
        whole.0,
        whole.1,
        whole.2,
        joined_each (OneOf all) rs us
            (each_maps (OneOf ps) (OneOf all) (λ p h. (two p).1 (inl ((one p).1 (inr h)))) (paths_of rs) first.4)
            (each_maps (OneOf qs) (OneOf all) (λ p h. (two p).1 (inr h)) (paths_of us) second.among.4),
        whole.3,
      )
  first_behind (Err stop) second two = both (Err stop) second
