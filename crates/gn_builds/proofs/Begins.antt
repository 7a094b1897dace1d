-- A seat that has no claim takes up what comes next.
use Rattle.std.proofs.Common.{◌≡◌, ◌⊎◌, inl, inr, ℕ, zero, suc, ◌<◌, List, [], ◌∷◌, ◌++◌, length, slice_get, Option, Some, None, true, false, refl, sym, ◌∙◌, ap, subst, true≢false, arith}
use Rattle.std.proofs.lemmas.List.{append-nil}
use Rattle.gn_outside.specs.States.{SourceRead, SourceState}
use Rattle.gn_outside.specs.Lists.{Extends}
use Rattle.gn_outside.specs.Sources.{plain_reads}
use Rattle.gn_closure.specs.Closure.{In}
use Rattle.gn_core.specs.Keys.{Key, Read, Import, Unit_of, Resolve}
use Rattle.gn_core.specs.Machine.{State, Event, Claim as Claims, IsOver, Runs, replay}
use Rattle.gn_executions.specs.Base.{BaseState}
use Rattle.gn_book.specs.Graphs.{is_unit, UnitsHaveNumbers, HasMoreKeys, OnlyUnitsAreNew}
use Rattle.gn_book.specs.Keys.{key_of}
use Rattle.gn_book.specs.Logs.{Log, KeysDiffer, opening, state_of, key_at, with_event}
use Rattle.gn_book.specs.Next.{IsReadyNumber}
use Rattle.gn_book.specs.Tasks.{is_task}
use Rattle.gn_book.specs.declared.book.Claim.{Claim}
use Rattle.gn_projects.specs.Files.{files_of}
use Rattle.gn_projects.specs.Worlds.{world_of}
use Rattle.gn_builds.specs.Stacks.{IsStacked}
use Rattle.gn_builds.specs.Driving.{AreNamed, IsDriven, IsClaim, IsGoing, HasRead, ReadsNumbered, paths_read, unknown_of}
use Rattle.gn_builds.proofs.ReadPaths.{over_more, reads_still}
use Rattle.gn_builds.proofs.Steps.{step_begun}
use Rattle.gn_builds.proofs.Named.{number_of, found_number, in_at}
use Rattle.gn_builds.proofs.Counts.{in_front}

-- keys behind others that are units
abbrev AllUnits : List Key → Type 0
AllUnits [] = Unit {0}
AllUnits (k ∷ ks) = (is_unit k ≡ true) × AllUnits ks

behind_units : (zs : List Key) → ((i : ℕ) (k : Key) → slice_get zs i ≡ Some k → is_unit k ≡ true) → AllUnits zs
behind_units [] f = tt
behind_units (z ∷ zs) f = (f zero z refl, behind_units zs (λ i k e. f (suc i) k e))

new_units : (xs zs : List Key) → ((i : ℕ) (k : Key) → slice_get (xs ++ zs) i ≡ Some k → (slice_get xs i ≡ Some k) ⊎ (is_unit k ≡ true)) → AllUnits zs
new_units [] zs f = behind_units zs (λ i k e. elim (f i k e) [ inl a ↦ absurd (cc a) | inr a ↦ a ])
new_units (x ∷ xs) zs f = new_units xs zs (λ i k e. f (suc i) k e)

none_read : (zs : List Key) → AllUnits zs → paths_read zs ≡ []
none_read [] u = refl
none_read (Read path ∷ zs) u = absurd (true≢false (sym u.0))
none_read (Import layer path ∷ zs) u = none_read zs u.1
none_read (Unit_of unit ∷ zs) u = none_read zs u.1
none_read (Resolve label ∷ zs) u = none_read zs u.1

same_paths : (xs zs : List Key) → AllUnits zs → paths_read (xs ++ zs) ≡ paths_read xs
same_paths [] zs u = none_read zs u
same_paths (Read path ∷ xs) zs u = ap (λ (ps : List (List ℕ)). path ∷ ps) (same_paths xs zs u)
same_paths (Import layer path ∷ xs) zs u = same_paths xs zs u
same_paths (Unit_of unit ∷ xs) zs u = same_paths xs zs u
same_paths (Resolve label ∷ xs) zs u = same_paths xs zs u

-- units that are reached get numbers
module _ (start : BaseState) (l m : Log) (d : IsDriven start l []) (more : HasMoreKeys l m) (only : OnlyUnitsAreNew l m) (numbers : UnitsHaveNumbers m) (differ : KeysDiffer m) where
  same_state : state_of m ≡ state_of l
  same_state = ap (replay opening) more.events

  old_or_unit : (k : Key) → In m.keys k → In l.keys k ⊎ (is_unit k ≡ true)
  old_or_unit k i = let at = number_of m.keys k i in elim (only at.0 k at.1) [ inl a ↦ inl (found_number l.keys at.0 k a) | inr a ↦ inr a ]

  still_in : (k : Key) → In l.keys k → In m.keys k
  still_in k i = subst (λ (z : List Key). In z k) (sym more.keys.1) (in_front l.keys more.keys.0 k i)

  named_state : AreNamed m.keys (state_of l) []
  named_state = record {
    begun = λ k i unit. elim (old_or_unit k i) [ inl a ↦ d.named.begun k a unit | inr a ↦ absurd (true≢false (sym a ∙ unit)) ];
    imports = λ layer path i. elim (old_or_unit (Import layer path) i) [
      | inl a ↦ still_in (Read path) (d.named.imports layer path a)
      | inr a ↦ absurd (true≢false (sym a))
    ];
    labels = λ label i. elim (old_or_unit (Resolve label) i) [ inl a ↦ d.named.labels label a | inr a ↦ absurd (true≢false (sym a)) ];
    claimed = λ k i. absurd i;
    filed = λ k f. still_in k (d.named.filed k f);
    kinds = d.named.kinds;
  }

  pub numbered_driven : IsDriven start m []
  numbered_driven = record {
    seats = more.seats ∙ d.seats;
    apart = differ;
    runs = λ files same. subst (λ (es : List Event). Runs (world_of files) (λ path. false) opening es) (sym more.events) (d.runs files same);
    stacked = subst (λ (s : State). IsStacked s []) (sym same_state) d.stacked;
    ready = tt;
    named = subst (λ (s : State). AreNamed m.keys s []) (sym same_state) named_state;
  }

  all_units : AllUnits more.keys.0
  all_units = new_units l.keys more.keys.0 (λ i k e. only i k (subst (λ (z : List Key). slice_get z i ≡ Some k) (sym more.keys.1) e))

  same_unknown : (known : List (List ℕ)) → unknown_of known (paths_read m.keys) ≡ unknown_of known (paths_read l.keys)
  same_unknown known = ap (unknown_of known) (ap paths_read more.keys.1 ∙ same_paths l.keys more.keys.0 all_units)

  numbered_source : (known : List (List ℕ)) (before now : SourceState) → HasRead start known before now l → HasRead start known before now m
  numbered_source known before now has = record {
    tree = has.tree;
    faults = has.faults;
    reads = subst (λ (ps : List (List ℕ)). Extends before.reads now.reads (plain_reads ps)) (sym (same_unknown known)) has.reads;
    over = λ tree told. subst (λ (es : List Event). IsOver (world_of (files_of start tree)) es) (sym more.events) (has.over tree told);
  }

  pub numbered_going : (known : List (List ℕ)) (before now : SourceState) (reads : ℕ) → IsGoing start known before now l [] reads → IsGoing start known before now m [] reads
  numbered_going known before now reads going = record {
    driven = numbered_driven;
    claims = tt;
    source = numbered_source known before now going.source;
    counted = going.counted ∙ ap (λ (ps : List (List ℕ)). length ps) (sym (same_unknown known));
    few = going.few;
  }

-- A unit is taken up

-- no label has a number, so what comes next is a unit
pub ready_unit : (start : BaseState) (l : Log) (n : ℕ) → IsDriven start l [] → IsReadyNumber l n → is_unit (key_at l n) ≡ true
ready_unit start l n d ready = by (key_at l n) ready.task (in_at l.keys n ready.number)
  where
    by : (k : Key) → is_task k ≡ true → In l.keys k → is_unit k ≡ true
    by (Read path) task i = task
    by (Import layer path) task i = task
    by (Unit_of unit) task i = refl
    by (Resolve label) task i = absurd (d.named.labels label i)

module _ (start : BaseState) (known : List (List ℕ)) (before now : SourceState) (l : Log) (n : ℕ) (c : Claim) (reads : ℕ) (going : IsGoing start known before now l [] reads) (numbers : UnitsHaveNumbers l) (ready : IsReadyNumber l n) (key : key_of c.key ≡ key_at l n) (seat : c.seat ≡ 0) (number : c.number ≡ n) where
  abbrev begun_log : Log
  begun_log = with_event l (Claims 0 (key_at l n))

  begun_driven : IsDriven start begun_log (key_at l n ∷ [])
  begun_driven = (step_begun start l n going.driven numbers ready (in_at l.keys n ready.number)).0

  begun_claim : IsClaim begun_log c
  begun_claim = record {
    held = record {
      number = subst (λ (m : ℕ). m < length l.keys) (sym number) ready.number;
      claimed = ap (λ (m : ℕ). (state_of begun_log).claims (key_at l m)) number ∙ begun_driven.stacked.held (key_at l n) (inl refl);
    };
    seat = seat;
    key = key ∙ ap (key_at l) (sym number);
  }

  pub begun_going : IsGoing start known before now begun_log (c ∷ []) reads
  begun_going = record {
    driven = subst (λ (k : Key). IsDriven start begun_log (k ∷ [])) (sym key) begun_driven;
    claims = (begun_claim, tt);
    source = record {
      tree = going.source.tree;
      faults = going.source.faults;
      reads = going.source.reads;
      over = λ tree told. over_more (world_of (files_of start tree)) l.events (Claims 0 (key_at l n)) (going.source.over tree told) tt;
    };
    counted = going.counted;
    few = going.few;
  }

-- Before anything is claimed

abbrev pub no_log : Log
no_log = record { seats = 1; keys = []; events = [] }

nothing_named : AreNamed [] opening []
nothing_named = record {
  begun = λ k i unit. absurd i;
  imports = λ layer path i. absurd i;
  labels = λ label i. i;
  claimed = λ k i. i;
  filed = λ k f. absurd (cc f.1);
  kinds = λ k v e. absurd (cc e);
}

nothing_stacked : IsStacked opening []
nothing_stacked = record {
  going = refl;
  held = λ k i. absurd i;
  unfiled = λ k i. absurd i;
  alone = λ k seat e. absurd (cc e);
  chained = tt;
  waiting = λ k i. absurd i;
  waits = λ k b e. absurd (cc e);
}

nothing_driven : (start : BaseState) → IsDriven start no_log []
nothing_driven start = record { seats = refl; apart = λ i j q a b. absurd (cc a); runs = λ files same. tt; stacked = nothing_stacked; ready = tt; named = nothing_named }

pub starts_going : (start : BaseState) (known : List (List ℕ)) (now : SourceState) → IsGoing start known now now no_log [] 0
unfolding unknown_of
starts_going start known now = record {
  driven = nothing_driven start;
  claims = tt;
  source = record { tree = refl; faults = refl; reads = nothing_read; over = λ tree told. tt };
  counted = ap (λ (ps : List (List ℕ)). length ps) (sym none_unknown);
  few = omega arith;
}
  where
    no_more : (reads : Option (List SourceRead)) → Extends reads reads []
    no_more None = refl
    no_more (Some reads) = ap Some (sym (append-nil reads))

    none_unknown : unknown_of known [] ≡ []
    none_unknown = refl

    nothing_read : Extends now.reads now.reads (plain_reads (unknown_of known []))
    nothing_read = subst (λ (ps : List (List ℕ)). Extends now.reads now.reads (plain_reads ps)) (sym none_unknown) (no_more now.reads)

-- and nothing was read
pub nothing_numbered : (start : BaseState) (known : List (List ℕ)) (now : SourceState) → ReadsNumbered start known now now
nothing_numbered start known now = reads_still start known now now no_log [] (nothing_driven start) (starts_going start known now).source
