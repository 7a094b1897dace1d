-- The steps of loading by one seat, with its claims and its reads.
use Rattle.std.proofs.Common.{◌≡◌, ◌⊎◌, inl, inr, ℕ, suc, ◌+◌, ◌<◌, ◌≤◌, List, [], ◌∷◌, ◌++◌, length, Some, None, Bool, true, false, if◌then◌else◌, refl, sym, ◌∙◌, ap, subst, arith}
use Rattle.std.specs.List.{list_any}
use Rattle.std.proofs.lemmas.List.{length-append}
use Rattle.gn_paths.specs.declared.place.Place.{Place}
use Rattle.gn_outside.specs.Tree.{Tree, read_of}
use Rattle.gn_outside.specs.States.{SourceState}
use Rattle.gn_outside.specs.Lists.{Extends}
use Rattle.gn_outside.specs.Sources.{plain_reads}
use Rattle.gn_runs.specs.Runs.{Question, Content}
use Rattle.gn_closure.specs.Closure.{In}
use Rattle.gn_closure.specs.Computed.{is_too_large}
use Rattle.gn_graph.specs.Needs.{home}
use Rattle.gn_environment.specs.Chains.{is_one_of}
use Rattle.gn_executions.specs.Base.{BaseState}
use Rattle.gn_core.specs.Keys.{Layer, Key, Read, Import, Unit_of, Resolve, Answer, found, no_value, same_key, units}
use Rattle.gn_core.specs.Machine.{State, Block, File, Leads, IsOver, IsOverEvent, read_limit}
use Rattle.gn_core.proofs.Puts.{put_other}
use Rattle.gn_book.specs.Keys.{key_of}
use Rattle.gn_book.specs.Logs.{Log, state_of, key_at, with_key, with_event, IsFree}
use Rattle.gn_book.specs.declared.book.Claim.{Claim}
use Rattle.gn_projects.specs.Files.{content_in, files_of}
use Rattle.gn_projects.specs.Worlds.{world_of}
use Rattle.gn_projects.proofs.Files.{tree_content}
use Rattle.gn_builds.specs.Working.{IsRightOver, IsInNeed, AsksContent}
use Rattle.gn_builds.specs.Driving.{IsDriven, keys_of, IsClaim, AreClaims, IsLacked, IsGoing, HasRead, AreOfLayer, is_read, paths_read, unknown_of, left_to_do, ReadsNumbered, FailsAt, IsLarge}
use Rattle.gn_builds.proofs.Counts.{any_in}
use Rattle.gn_builds.proofs.Unknown.{unknown_more, unknown_same}
use Rattle.gn_builds.proofs.PlainReads.{one_read}
use Rattle.gn_builds.proofs.ReadPaths.{over_more, paths_more, paths_same, read_numbered, read_fails, read_lost, read_known}
use Rattle.gn_builds.proofs.Named.{is_new}
use Rattle.gn_builds.proofs.Logs.{after_event, key_still, number_still}
use Rattle.gn_builds.proofs.Stacks.{none_some, first_apart, given_or_kept, leads_first, leads_from}
use Rattle.gn_builds.proofs.Steps.{needed_lacks, step_settled, driven_settled, less_settled, step_waits, driven_waits, less_waits, step_closes}

-- a key of another claim
in_keys : (cs : List Claim) (c : Claim) → In cs c → In (keys_of cs) (key_of c.key)
in_keys (x ∷ cs) c (inl e) = inl (ap (λ (z : Claim). key_of z.key) e)
in_keys (x ∷ cs) c (inr i) = inr (in_keys cs c i)
in_keys [] c i = absurd i

-- claims after one more event, and with one more key
each_claim : (l m : Log) (cs : List Claim) → ((c : Claim) → In cs c → IsClaim l c → IsClaim m c) → AreClaims l cs → AreClaims m cs
each_claim l m [] f claims = tt
each_claim l m (c ∷ cs) f claims = (f c (inl refl) claims.0, each_claim l m cs (λ x i. f x (inr i)) claims.1)

filed_claim : (l : Log) (k : Key) (v : Answer) (c : Claim) → (key_of c.key ≡ k → ⊥) → IsClaim l c → IsClaim (with_event l (File 0 k v)) c
filed_claim l k v c apart is = record {
  held = record {
    number = is.held.number;
    claimed = ap (λ (s : State). s.claims (key_at l c.number)) (after_event l (File 0 k v)) ∙ put_other (state_of l).claims k (key_at l c.number) 0 is.held.claimed (λ e. apart (is.key ∙ sym e));
  };
  seat = is.seat;
  key = is.key;
}

pub named_claim : (l : Log) (k : Key) (c : Claim) → IsClaim l c → IsClaim (with_key l k) c
named_claim l k c is = record {
  held = record { number = number_still l k c.number is.held.number; claimed = ap (state_of l).claims (key_still l k c.number is.held.number) ∙ is.held.claimed };
  seat = is.seat;
  key = is.key ∙ sym (key_still l k c.number is.held.number);
}

pub blocked_claim : (l : Log) (k on : Key) (place : Place) (closes : Bool) (c : Claim) → IsClaim l c → IsClaim (with_event l (Block 0 k on place closes)) c
blocked_claim l k on place closes c is = record {
  held = record {
    number = is.held.number;
    claimed = ap (λ (s : State). s.claims (key_at l c.number)) (after_event l (Block 0 k on place closes)) ∙ given_or_kept (state_of l).claims on (key_at l c.number) 0 0 is.held.claimed;
  };
  seat = is.seat;
  key = is.key;
}

-- what the first claim needs is lacked
pub going_lacks : (start : BaseState) (known : List (List ℕ)) (before now : SourceState) (l : Log) (c : Claim) (cs : List Claim) (reads : ℕ) → IsGoing start known before now l (c ∷ cs) reads
    → (on : Key) (place : Place) (asked : List Question) → IsInNeed start (state_of l).filed (key_of c.key) on place asked → IsLacked l c on
going_lacks start known before now l c cs reads going on place asked need = record {
  unfiled = needed_lacks start l.keys (state_of l) (keys_of (c ∷ cs)) going.driven.named (key_of c.key) on place asked need;
  leads = λ seat e. leads_first (state_of l) (key_of c.key) (keys_of cs) going.driven.stacked.chained on (going.driven.stacked.alone on seat e).1;
}

-- The answer of the first claim is filed
module _ (start : BaseState) (known : List (List ℕ)) (before now : SourceState) (l : Log) (c : Claim) (cs : List Claim) (reads : ℕ) (v : Answer) (going : IsGoing start known before now l (c ∷ cs) reads) where
  abbrev settled_log : Log
  settled_log = with_event l (File 0 (key_of c.key) v)

  others : AreClaims settled_log cs
  others = each_claim l settled_log cs
      (λ x i is. filed_claim l (key_of c.key) v x (λ e. first_apart (state_of l) (key_of c.key) (keys_of cs) going.driven.stacked.chained (subst (λ (z : Key). In (keys_of cs) z) e (in_keys cs x i))) is)
      going.claims.1

  pub going_settled : (layer : Layer) (room : ℕ) → IsRightOver start (state_of l).filed (key_of c.key) v → ((tree : Tree) → before.tree ≡ Some tree → IsOverEvent (world_of (files_of start tree)) (File 0 (key_of c.key) v))
      → IsGoing start known before now settled_log cs reads × (left_to_do layer room settled_log < left_to_do layer room l)
  going_settled layer room right over =
      let step = step_settled start l (key_of c.key) (keys_of cs) v going.driven layer room right in (
        record {
          driven = step.0;
          claims = others;
          source = record {
            tree = going.source.tree;
            faults = going.source.faults;
            reads = going.source.reads;
            over = λ tree told. over_more (world_of (files_of start tree)) l.events (File 0 (key_of c.key) v) (going.source.over tree told) (over tree told);
          };
          counted = going.counted;
          few = going.few;
        },
        step.1,
      )

-- one more key that is no read
not_read_more : (l : Log) (k : Key) → is_read k ≡ false → paths_read (with_key l k).keys ≡ paths_read l.keys
not_read_more l k no_read = by (list_any (same_key k) l.keys)
  where
    by : (b : Bool) → paths_read (if b then l.keys else l.keys ++ k ∷ []) ≡ paths_read l.keys
    by true = refl
    by false = paths_same l.keys k no_read

-- The first claim waits for an import
module _ (start : BaseState) (known : List (List ℕ)) (before now : SourceState) (l : Log) (c other : Claim) (cs : List Claim) (reads : ℕ) (m : Layer) (path : List ℕ) (place : Place) (asked : List Question) (going : IsGoing start known before now l (c ∷ cs) reads) (need : IsInNeed start (state_of l).filed (key_of c.key) (Import m path) place asked) (content : AsksContent (Import m path) asked) where
  abbrev taken : Log
  taken = with_event (with_key l (Import m path)) (Block 0 (key_of c.key) (Import m path) place false)

  pub going_waits : (layer : Layer) (room : ℕ) → AreOfLayer layer (keys_of (c ∷ cs)) → IsFree (state_of l) (Import m path) → IsClaim taken other → key_of other.key ≡ Import m path
      → IsGoing start known before now taken (other ∷ c ∷ cs) reads × (left_to_do layer room taken < left_to_do layer room l)
  going_waits layer room are free claim is =
      let step = step_waits start l (key_of c.key) (Import m path) (keys_of cs) place asked going.driven need content free.unfiled layer room are free in
      let more = not_read_more l (Import m path) refl in (
        record {
          driven = subst (λ (z : Key). IsDriven start taken (z ∷ key_of c.key ∷ keys_of cs)) (sym is) step.0;
          claims = (claim, each_claim l taken (c ∷ cs) (λ x i has. blocked_claim (with_key l (Import m path)) (key_of c.key) (Import m path) place false x (named_claim l (Import m path) x has)) going.claims);
          source = record {
            tree = going.source.tree;
            faults = going.source.faults;
            reads = subst (λ (ps : List (List ℕ)). Extends before.reads now.reads (plain_reads (unknown_of known ps))) (sym more) going.source.reads;
            over = λ tree told. over_more (world_of (files_of start tree)) l.events (Block 0 (key_of c.key) (Import m path) place false) (going.source.over tree told) tt;
          };
          counted = going.counted ∙ ap (λ (ps : List (List ℕ)). length (unknown_of known ps)) (sym more);
          few = going.few;
        },
        step.1,
      )

-- or its wait closes a cycle
module _ (start : BaseState) (known : List (List ℕ)) (before now : SourceState) (l : Log) (c : Claim) (cs : List Claim) (reads : ℕ) (m : Layer) (path : List ℕ) (place : Place) (asked : List Question) (going : IsGoing start known before now l (c ∷ cs) reads) (need : IsInNeed start (state_of l).filed (key_of c.key) (Import m path) place asked) (content : AsksContent (Import m path) asked) (none : (state_of l).filed (Import m path) ≡ None) where
  abbrev shut : Log
  shut = with_event (with_key l (Import m path)) (Block 0 (key_of c.key) (Import m path) place true)

  abbrev closed_log : Log
  closed_log = with_event shut (File 0 (key_of c.key) (no_value path place asked))

  not_read : (z : Key) → IsInNeed start (state_of l).filed z (Import m path) place asked → (tree : Tree) → IsOverEvent (world_of (files_of start tree)) (File 0 z (no_value path place asked))
  not_read (Read p) n tree = absurd n
  not_read (Import layer p) n tree = tt
  not_read (Unit_of u) n tree = tt
  not_read (Resolve label) n tree = tt

  -- the import has a number
  pub closed_keys : Leads (state_of l).blocks (Import m path) (key_of c.key) → (with_key l (Import m path)).keys ≡ l.keys
  closed_keys leads =
      ap (λ b. if b then l.keys else l.keys ++ Import m path ∷ [])
      (any_in l.keys (Import m path) (going.driven.named.claimed (Import m path) (leads_from (state_of l) (key_of c.key) (keys_of cs) going.driven.stacked (Import m path) leads)))

  pub going_closes : (layer : Layer) (room : ℕ) → Leads (state_of l).blocks (Import m path) (key_of c.key)
      → IsGoing start known before now closed_log cs reads × (left_to_do layer room closed_log < left_to_do layer room l)
  going_closes layer room leads =
      let step = step_closes start l (key_of c.key) (Import m path) (keys_of cs) place asked going.driven need content none layer room leads m path refl in
      let more = not_read_more l (Import m path) refl in (
        record {
          driven = step.0;
          claims = each_claim l closed_log cs (λ x i has.
              filed_claim shut (key_of c.key) (no_value path place asked) x
              (λ e. first_apart (state_of l) (key_of c.key) (keys_of cs) going.driven.stacked.chained (subst (λ (z : Key). In (keys_of cs) z) e (in_keys cs x i)))
              (blocked_claim (with_key l (Import m path)) (key_of c.key) (Import m path) place true x (named_claim l (Import m path) x has))) going.claims.1;
          source = record {
            tree = going.source.tree;
            faults = going.source.faults;
            reads = subst (λ (ps : List (List ℕ)). Extends before.reads now.reads (plain_reads (unknown_of known ps))) (sym more) going.source.reads;
            over = λ tree told. over_more (world_of (files_of start tree)) shut.events (File 0 (key_of c.key) (no_value path place asked))
                (over_more (world_of (files_of start tree)) l.events (Block 0 (key_of c.key) (Import m path) place true) (going.source.over tree told) tt) (not_read (key_of c.key) need tree);
          };
          counted = going.counted ∙ ap (λ (ps : List (List ℕ)). length (unknown_of known ps)) (sym more);
          few = going.few;
        },
        step.1,
      )

-- The first claim needs what there is at a path: its file is read
module _ (start : BaseState) (known : List (List ℕ)) (before was now : SourceState) (l : Log) (c : Claim) (cs : List Claim) (reads : ℕ) (path : List ℕ) (place : Place) (asked : List Question) (going : IsGoing start known before was l (c ∷ cs) reads) (need : IsInNeed start (state_of l).filed (key_of c.key) (Read path) place asked) (free : IsFree (state_of l) (Read path)) where
  abbrev named_log : Log
  named_log = with_key l (Read path)

  abbrev reading : Log
  reading = with_event named_log (Block 0 (key_of c.key) (Read path) place false)

  abbrev read_log : Content → Log
  read_log content = with_event reading (File 0 (Read path) (found content))

  is_new_read : list_any (same_key (Read path)) l.keys ≡ false
  is_new_read =
      is_new l (state_of l) (key_of c.key ∷ keys_of cs) (Read path) going.driven.named refl
      (λ i. none_some ((state_of l).claims (Read path)) 0 free.unclaimed (going.driven.stacked.held (Read path) i)) free.unfiled

  grown_keys : named_log.keys ≡ l.keys ++ Read path ∷ []
  grown_keys = ap (λ b. if b then l.keys else l.keys ++ Read path ∷ []) is_new_read

  grown_paths : paths_read named_log.keys ≡ paths_read l.keys ++ path ∷ []
  grown_paths = ap paths_read grown_keys ∙ paths_more l.keys path

  pub driven_reading : IsDriven start reading (Read path ∷ key_of c.key ∷ keys_of cs)
  driven_reading = driven_waits start l (key_of c.key) (Read path) (keys_of cs) place asked going.driven need tt free.unfiled free

  reading_less : (layer : Layer) (room : ℕ) → left_to_do layer room reading < left_to_do layer (suc room) l
  reading_less layer room = less_waits start l (key_of c.key) (Read path) (keys_of cs) place asked going.driven need tt free.unfiled free layer room tt

  over_reading : (tree : Tree) → before.tree ≡ Some tree → IsOver (world_of (files_of start tree)) reading.events
  over_reading tree told = over_more (world_of (files_of start tree)) l.events (Block 0 (key_of c.key) (Read path) place false) (going.source.over tree told) tt

  claims_read : (content : Content) → AreClaims (read_log content) (c ∷ cs)
  claims_read content = each_claim l (read_log content) (c ∷ cs) (λ x i has.
      filed_claim reading (Read path) (found content) x
      (λ e. first_apart (state_of reading) (Read path) (key_of c.key ∷ keys_of cs) driven_reading.stacked.chained (subst (λ (z : Key). In (key_of c.key ∷ keys_of cs) z) e (in_keys (c ∷ cs) x i)))
      (blocked_claim named_log (key_of c.key) (Read path) place false x (named_claim l (Read path) x has))) going.claims

  settled_read : (content : Content) → IsDriven start (read_log content) (key_of c.key ∷ keys_of cs)
  settled_read content = driven_settled start reading (Read path) (key_of c.key ∷ keys_of cs) (found content) driven_reading (content, refl)

  read_less : (content : Content) (layer : Layer) (room : ℕ) → left_to_do layer room (read_log content) < left_to_do layer (suc room) l
  read_less content layer room =
      let settled = less_settled start reading (Read path) (key_of c.key ∷ keys_of cs) (found content) driven_reading layer room in
      let read = reading_less layer room in
      omega (arith, settled, read)

  over_read : (content : Content) → ((tree : Tree) → before.tree ≡ Some tree → content ≡ content_in (read_of tree path)) → (tree : Tree) → before.tree ≡ Some tree → IsOver (world_of (files_of start tree)) (read_log content).events
  over_read content is tree told =
      over_more (world_of (files_of start tree)) reading.events (File 0 (Read path) (found content)) (over_reading tree told) (ap found (is tree told ∙ sym (tree_content start tree path)))

  -- it was read before: nothing is read
  module _ (old : is_one_of path known ≡ true) (same_source : now ≡ was) (content : Content) (is : (tree : Tree) → before.tree ≡ Some tree → content ≡ content_in (read_of tree path)) where
    same_paths : unknown_of known (paths_read (read_log content).keys) ≡ unknown_of known (paths_read l.keys)
    same_paths = ap (unknown_of known) grown_paths ∙ unknown_same known (paths_read l.keys) path old

    pub going_takes : (layer : Layer) (room : ℕ) → IsGoing start known before now (read_log content) (c ∷ cs) reads × (left_to_do layer room (read_log content) < left_to_do layer (suc room) l)
    going_takes layer room = (
      record {
        driven = settled_read content;
        claims = claims_read content;
        source = record {
          tree = ap (λ (s : SourceState). s.tree) same_source ∙ going.source.tree;
          faults = ap (λ (s : SourceState). s.faults) same_source ∙ going.source.faults;
          reads = subst (λ (s : SourceState). Extends before.reads s.reads (plain_reads (unknown_of known (paths_read (read_log content).keys)))) (sym same_source)
              (subst (λ (ps : List (List ℕ)). Extends before.reads was.reads (plain_reads ps)) (sym same_paths) going.source.reads);
          over = over_read content is;
        };
        counted = going.counted ∙ ap (λ (ps : List (List ℕ)). length ps) (sym same_paths);
        few = going.few;
      },
      read_less content layer room,
    )

  -- it wasn't known: what the source has read
  module _ (new : is_one_of path known ≡ false) (tree_same : now.tree ≡ was.tree) where
    grown_unknown : unknown_of known (paths_read reading.keys) ≡ unknown_of known (paths_read l.keys) ++ path ∷ []
    grown_unknown = ap (unknown_of known) grown_paths ∙ unknown_more known (paths_read l.keys) path new

    pub read_fails_at : Extends was.reads now.reads (one_read path true ∷ []) → was.faults < now.faults → ReadsNumbered start known before now × FailsAt path before now
    read_fails_at recorded rose = (
      read_numbered start known before was now l reading (Read path ∷ key_of c.key ∷ keys_of cs) path going.source driven_reading over_reading grown_unknown tree_same true recorded rose,
      read_fails start known before was now l reading (Read path ∷ key_of c.key ∷ keys_of cs) path going.source driven_reading over_reading grown_unknown tree_same recorded rose,
    )

    pub read_is_lost : Extends was.reads now.reads (plain_reads (path ∷ [])) ⊎ (now.reads ≡ was.reads) → now.faults ≡ was.faults → ReadsNumbered start known before now × (now.faults ≡ before.faults)
    read_is_lost recorded same =
        (read_lost start known before was now l reading (Read path ∷ key_of c.key ∷ keys_of cs) path going.source driven_reading over_reading grown_unknown tree_same recorded same, same ∙ going.source.faults)

    module _ (content : Content) (is : (tree : Tree) → before.tree ≡ Some tree → content ≡ content_in (read_of tree path)) (recorded : Extends was.reads now.reads (plain_reads (path ∷ []))) (same : now.faults ≡ was.faults) where
      source_read : HasRead start known before now (read_log content)
      source_read =
          read_known start known before was now l reading (Read path ∷ key_of c.key ∷ keys_of cs) path going.source driven_reading over_reading grown_unknown tree_same recorded same (read_log content) refl (over_read content is)

      counted_read : reads + 1 ≡ length (unknown_of known (paths_read (read_log content).keys))
      counted_read =
          let more = ap (λ (ps : List (List ℕ)). length ps) grown_unknown in
          let long : length (unknown_of known (paths_read l.keys) ++ path ∷ []) ≡ length (unknown_of known (paths_read l.keys)) + 1 = length-append (unknown_of known (paths_read l.keys)) (path ∷ []) in
          omega (arith, more, long, going.counted)

      pub going_reads : (layer : Layer) (room : ℕ) → reads + 1 ≤ read_limit → IsGoing start known before now (read_log content) (c ∷ cs) (reads + 1) × (left_to_do layer room (read_log content) < left_to_do layer (suc room) l)
      going_reads layer room few = (
        record { driven = settled_read content; claims = claims_read content; source = source_read; counted = counted_read; few = few },
        read_less content layer room,
      )

      pub reads_too_many : read_limit < reads + 1 → IsLarge start known before now
      reads_too_many many = (read_log content, key_of c.key ∷ keys_of cs, settled_read content, source_read, inl (omega (arith, many, counted_read)))

-- more units are reached than in a build may be
pub reaches_too_many : (start : BaseState) (known : List (List ℕ)) (before now : SourceState) (l : Log) (cs : List Claim) (reads : ℕ) → IsGoing start known before now l cs reads
    → is_too_large home (units (state_of l).filed) ≡ true → IsLarge start known before now
reaches_too_many start known before now l cs reads going large = (l, keys_of cs, going.driven, going.source, inr large)
