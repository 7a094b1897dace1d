-- One turn of loading, by what its calls do.
use Rattle.std.proofs.Common.{◌≡◌, inl, inr, ℕ, suc, ◌+◌, ◌-◌, ◌<◌, ◌≤◌, List, [], ◌∷◌, length, Option, Some, None, Bool, true, false, Result, Ok, Err, IfOk, OnOk, refl, sym, ◌∙◌, ap, subst, true≢false, arith}
use Rattle.std.specs.List.{list_any}
use Rattle.std.specs.Result.{IsErrAnd}
use Rattle.gn_paths.specs.declared.place.Place.{Place}
use Rattle.gn_outside.specs.Tree.{Tree, read_of}
use Rattle.gn_outside.specs.States.{SourceState}
use Rattle.gn_values.specs.Tables.{at_name, without_name}
use Rattle.gn_runs.specs.Runs.{Question, Content}
use Rattle.gn_closure.specs.Closure.{In}
use Rattle.gn_closure.specs.Reach.{Unit_key}
use Rattle.gn_environment.specs.Chains.{is_one_of}
use Rattle.gn_executions.specs.Base.{BaseState}
use Rattle.gn_core.specs.Keys.{Layer, Key, Read, Import, Unit_of, Resolve, Answer, found, no_value, same_key}
use Rattle.gn_core.specs.Layered.{IsPart}
use Rattle.gn_core.specs.Machine.{State, Block, File, Leads, IsOverEvent, read_limit}
use Rattle.gn_book.specs.Keys.{key_of}
use Rattle.gn_book.specs.Graphs.{is_unit}
use Rattle.gn_book.specs.Logs.{Log, state_of, with_key, with_event}
use Rattle.gn_book.specs.declared.book.Claim.{Claim}
use Rattle.gn_projects.specs.Files.{Files, files_of, content_in}
use Rattle.gn_projects.specs.Worlds.{world_of}
use Rattle.gn_builds.specs.Working.{IsRightOver}
use Rattle.gn_builds.specs.Driving.{keys_of as claimed_keys, IsClaim, IsLacked, with_claim, IsGoing, AreOfLayer, IsBegun, FailsAt, left_to_do}
use Rattle.gn_builds.specs.Stacks.{MayWait}
use Rattle.gn_builds.proofs.Logs.{after_event, begun_stays, begun_before}
use Rattle.gn_builds.proofs.ReadPaths.{reads_still}
use Rattle.gn_builds.proofs.Stacks.{none_some, leads_from}
use Rattle.gn_builds.proofs.Counts.{any_in}
use Rattle.gn_builds.proofs.Named.{is_new}
use Rattle.gn_builds.proofs.Steps.{needed_are_of_layer}
use Rattle.gn_builds.proofs.Going.{going_lacks, going_settled, going_waits, going_closes, closed_keys, going_takes, going_reads, reads_too_many, read_fails_at, read_is_lost}
use Rattle.gn_answers.specs.Answers.{content_view}
use Rattle.gn_load.specs.Current.{layer_now, IsCurrent}
use Rattle.gn_load.specs.Turns.{TakesAs, AwaitsImport, IsNeeded, KeepsKnown, Goes, IsStill, Settles, Waits, IsCounted, IsReadAt, IsReadOf, IsTaken, IsFiledKnown, IsReadKnown, ReadsOnce, room_of, IsTurned, IsLifted, MayGoOn, IsTurn, IsReadFor, IsFinish, IsStop}
use Rattle.gn_answers.specs.declared.answer.FileContent.{FileContent}
use Rattle.gn_load.specs.declared.current.CurrentBase.{CurrentBase}
use Rattle.gn_load.specs.declared.driver.Driver.{Driver}
use Rattle.gn_load.specs.declared.driver.Stop.{Stop}
use Rattle.gn_load.specs.declared.driver.Stop.TheVariants.{Failed, TooLarge, Memory}
use Rattle.gn_load.proofs.CurrentLemmas.{blocked_more, filed_more, current_blocked, current_filed}
use Rattle.gn_load.proofs.DriverParts.{GoOn, moved}
use Rattle.gn_load.proofs.KnownLemmas.{rest_shorter, rest_same, kept_named, kept_rest, taken_known, taken_told, read_unknown}

-- a key that waits is no read
over_waiting : (k : Key) (v : Answer) (files : Files) → MayWait k → IsOverEvent (world_of files) (File 0 k v)
over_waiting (Read path) v files may = absurd may
over_waiting (Import layer path) v files may = tt
over_waiting (Unit_of unit) v files may = tt
over_waiting (Resolve label) v files may = absurd may

less_moved : (layer : Layer) (old new : Log) (was is room : ℕ) (book : Log) → new ≡ book → is ≡ room → left_to_do layer room book < left_to_do layer was old → left_to_do layer is new < left_to_do layer was old
less_moved layer old new was is room book same rooms less =
    subst (λ (l : Log). left_to_do layer is l < left_to_do layer was old) (sym same) (subst (λ (n : ℕ). left_to_do layer n book < left_to_do layer was old) (sym rooms) less)

begun_moved : (old new book : Log) → new ≡ book → ((k : Key) → IsBegun (state_of old) k → IsBegun (state_of book) k) → (k : Key) → IsBegun (state_of old) k → IsBegun (state_of new) k
begun_moved old new book same stays k begun = subst (λ (l : Log). IsBegun (state_of l) k) (sym same) (stays k begun)

more_moved : (old new book : Log) → new ≡ book → IsPart (state_of old).filed (state_of book).filed → IsPart (state_of old).filed (state_of new).filed
more_moved old new book same more = subst (λ (l : Log). IsPart (state_of old).filed (state_of l).filed) (sym same) more

-- no unit is taken up
units_filed : (l : Log) (k : Key) (v : Answer) (u : Unit_key) → is_unit k ≡ false → IsBegun (state_of (with_event l (File 0 k v))) (Unit_of u) → IsBegun (state_of l) (Unit_of u)
units_filed l k v u none begun = elim (begun_before l (File 0 k v) (Unit_of u) begun) [ inl a ↦ a | inr e ↦ absurd (true≢false (sym (ap is_unit e) ∙ none)) ]

units_blocked : (l : Log) (k on : Key) (place : Place) (closes : Bool) (u : Unit_key) → is_unit on ≡ false → IsBegun (state_of (with_event l (Block 0 k on place closes))) (Unit_of u) → IsBegun (state_of l) (Unit_of u)
units_blocked l k on place closes u none begun = elim (begun_before l (Block 0 k on place closes) (Unit_of u) begun) [ inl a ↦ a | inr e ↦ absurd (true≢false (sym (ap is_unit e) ∙ none)) ]

units_settled : (l : Log) (k : Key) (v : Answer) (u : Unit_key) → IsBegun (state_of l) k → IsBegun (state_of (with_event l (File 0 k v))) (Unit_of u) → IsBegun (state_of l) (Unit_of u)
units_settled l k v u held begun = elim (begun_before l (File 0 k v) (Unit_of u) begun) [ inl a ↦ a | inr e ↦ subst (λ (q : Key). IsBegun (state_of l) q) e held ]

units_moved : (old new book : Log) → new ≡ book → ((u : Unit_key) → IsBegun (state_of book) (Unit_of u) → IsBegun (state_of old) (Unit_of u)) → (u : Unit_key) → IsBegun (state_of new) (Unit_of u) → IsBegun (state_of old) (Unit_of u)
units_moved old new book same back u begun = back u (subst (λ (l : Log). IsBegun (state_of l) (Unit_of u)) same begun)

-- want of memory ends it anywhere
pub goes_memory : (known : List (List ℕ)) (before now : SourceState) (d : Driver) (cs : List Claim) → Goes known before now d cs → IsStop d.base.start known before now Memory
goes_memory known before now d cs goes = (reads_still d.base.start known before now d.book (claimed_keys cs) goes.going.driven goes.going.source, goes.going.source.faults)

-- Turns of a driver
module _ (known : List (List ℕ)) (before now : SourceState) (old : Driver) (c : Claim) (goes : Goes known before now old (c ∷ old.waiting.items)) where
  abbrev layer : Layer
  layer = layer_now old.base

  -- the key of the first claim is claimed
  first_begun : IsBegun (state_of old.book) (key_of c.key)
  first_begun = inr (0, goes.going.driven.stacked.held (key_of c.key) (inl refl))

  first_unfiled : (state_of old.book).filed (key_of c.key) ≡ None
  first_unfiled = goes.going.driven.stacked.unfiled (key_of c.key) (inl refl)

  -- what goes on next had waited
  may_next : (new : Driver) (next : Option Claim) → old.waiting.items ≡ with_claim next new.waiting.items → MayGoOn next
  may_next new None waiting = tt
  may_next new (Some n) waiting = goes.going.driven.stacked.waiting (key_of n.key) (subst (λ (cs : List Claim). In (claimed_keys cs) (key_of n.key)) (sym waiting) (inl refl))

  still_room : (new : Driver) → IsStill old new → room_of new ≡ room_of old
  still_room new still = λ i. (suc read_limit - still.reads i) + length (still.known i)

  -- the answer of the first claim is filed
  module _ (new : Driver) (v : Answer) (may : MayWait (key_of c.key)) (right : IsRightOver old.base.start (state_of old.book).filed (key_of c.key) v) where
    abbrev settled : Log
    settled = with_event old.book (File 0 (key_of c.key) v)

    settled_going : IsGoing old.base.start known before now settled old.waiting.items old.reads × (left_to_do layer (room_of old) settled < left_to_do layer (room_of old) old.book)
    settled_going = going_settled old.base.start known before now old.book c old.waiting.items old.reads v goes.going layer (room_of old) right (λ tree told. over_waiting (key_of c.key) v (files_of old.base.start tree) may)

    settled_on : GoOn known before now (record { base = old.base; book = settled; left = old.known.entries; reads = old.reads }) old.waiting.items
    settled_on = record {
      going = settled_going.0;
      base = current_filed old.base old.book (key_of c.key) v first_unfiled goes.base;
      layer = λ k i. goes.layer k (inr i);
      kept = goes.kept;
    }

    turn_settles : (next : Option Claim) → Settles old new c v next → IsTurn known before now old new (Ok next)
    turn_settles next does = (
      record {
        goes = subst (λ (cs : List Claim). Goes known before now new cs) does.waiting
            (moved known before now new (record { base = old.base; book = settled; left = old.known.entries; reads = old.reads }) old.waiting.items does.rest.base does.book does.rest.known does.rest.reads settled_on);
        base = does.rest.base;
        less = less_moved layer old.book new.book (room_of old) (room_of new) (room_of old) settled does.book (still_room new does.rest) settled_going.1;
        begun = begun_moved old.book new.book settled does.book (λ k b. begun_stays old.book (File 0 (key_of c.key) v) k b);
        more = more_moved old.book new.book settled does.book (filed_more old.book (key_of c.key) v first_unfiled);
        units = units_moved old.book new.book settled does.book (λ u b. units_settled old.book (key_of c.key) v u first_begun b);
      },
      does.next,
      may_next new next does.waiting,
    )

    pub settled_turn : {E : Type 0} (r : Result (Option Claim) E) (s : Result (Option Claim) Stop) → IfOk r (Settles old new c v) → IsLifted r s → IsTurn known before now old new s
    settled_turn (Ok next) s does is = subst (IsTurn known before now old new) (sym is) (turn_settles next does)
    settled_turn (Err e) s does is = subst (IsTurn known before now old new) (sym is) (goes_memory known before now old (c ∷ old.waiting.items) goes)

  -- the first claim needs an import of a layer
  module _ (m : Layer) (path : List ℕ) (place : Place) (asked : List Question) (need : IsNeeded old.base.start old.book c (Import m path) place asked) where
    abbrev named : Log
    named = with_key old.book (Import m path)

    abbrev waits : Log
    waits = with_event named (Block 0 (key_of c.key) (Import m path) place false)

    abbrev shut : Log
    shut = with_event named (Block 0 (key_of c.key) (Import m path) place true)

    abbrev closed : Log
    closed = with_event shut (File 0 (key_of c.key) (no_value path place asked))

    -- the seat claims that too
    module _ (mid new : Driver) (other : Claim) (takes : TakesAs old.book mid.book c (Import m path) place (Some other)) (still : IsStill old mid) (waiting : mid.waiting ≡ old.waiting) where
      waits_going : IsGoing old.base.start known before now waits (other ∷ c ∷ old.waiting.items) old.reads × (left_to_do layer (room_of old) waits < left_to_do layer (room_of old) old.book)
      waits_going =
          going_waits old.base.start known before now old.book c other old.waiting.items old.reads m path place asked goes.going need.0 need.1 layer (room_of old) goes.layer takes.1
          (subst (λ (l : Log). IsClaim l other) takes.0 takes.2) takes.3

      waits_on : GoOn known before now (record { base = old.base; book = waits; left = old.known.entries; reads = old.reads }) (other ∷ c ∷ old.waiting.items)
      waits_on = record {
        going = waits_going.0;
        base = current_blocked old.base named (key_of c.key) (Import m path) place false goes.base;
        layer = subst (λ (k : Key). AreOfLayer layer (k ∷ key_of c.key ∷ claimed_keys old.waiting.items)) (sym takes.3)
            (needed_are_of_layer old.base.start (state_of old.book).filed layer (key_of c.key) (Import m path) (claimed_keys old.waiting.items) place asked goes.layer need.0);
        kept = kept_named known before old.known.entries old.book goes.kept (Import m path);
      }

      pub turn_waits : (next : Option Claim) → Waits mid new c other next → IsTurn known before now old new (Ok next)
      turn_waits next does =
          let book : new.book ≡ waits = does.book ∙ takes.0 in
          let base : new.base ≡ old.base = does.rest.base ∙ still.base in
          let left : new.known.entries ≡ old.known.entries = does.rest.known ∙ still.known in
          let reads : new.reads ≡ old.reads = does.rest.reads ∙ still.reads in
          let cs : new.waiting.items ≡ c ∷ old.waiting.items = does.waiting ∙ ap (λ ws. c ∷ ws.items) waiting in
          subst (λ (n : Option Claim). IsTurn known before now old new (Ok n)) (sym does.next) (
            record {
              goes = subst (λ (ws : List Claim). Goes known before now new (other ∷ ws)) (sym cs)
                  (moved known before now new (record { base = old.base; book = waits; left = old.known.entries; reads = old.reads }) (other ∷ c ∷ old.waiting.items) base book left reads waits_on);
              base = base;
              less = less_moved layer old.book new.book (room_of old) (room_of new) (room_of old) waits book (still_room new (record { base = base; known = left; reads = reads })) waits_going.1;
              begun = begun_moved old.book new.book waits book (λ k b. begun_stays named (Block 0 (key_of c.key) (Import m path) place false) k b);
              more = more_moved old.book new.book waits book (blocked_more named (key_of c.key) (Import m path) place false);
              units = units_moved old.book new.book waits book (λ u b. units_blocked named (key_of c.key) (Import m path) place false u refl b);
            },
            tt,
            subst MayWait (sym takes.3) tt,
          )

    -- or its wait closes a cycle
    module _ (mid new : Driver) (none : (state_of old.book).filed (Import m path) ≡ None) (takes : TakesAs old.book mid.book c (Import m path) place None) (still : IsStill old mid) (waiting : mid.waiting ≡ old.waiting) where
      closes_going : IsGoing old.base.start known before now closed old.waiting.items old.reads × (left_to_do layer (room_of old) closed < left_to_do layer (room_of old) old.book)
      closes_going = going_closes old.base.start known before now old.book c old.waiting.items old.reads m path place asked goes.going need.0 need.1 none layer (room_of old) takes.1

      keys_still : named.keys ≡ old.book.keys
      keys_still = closed_keys old.base.start known before now old.book c old.waiting.items old.reads m path place asked goes.going need.0 need.1 none takes.1

      shut_unfiled : (state_of shut).filed (key_of c.key) ≡ None
      shut_unfiled = ap (λ (s : State). s.filed (key_of c.key)) (after_event named (Block 0 (key_of c.key) (Import m path) place true)) ∙ first_unfiled

      closes_on : GoOn known before now (record { base = old.base; book = closed; left = old.known.entries; reads = old.reads }) old.waiting.items
      closes_on = record {
        going = closes_going.0;
        base = current_filed old.base shut (key_of c.key) (no_value path place asked) shut_unfiled (current_blocked old.base named (key_of c.key) (Import m path) place true goes.base);
        layer = λ k i. goes.layer k (inr i);
        kept = subst (λ (ks : List Key). KeepsKnown known before old.known.entries ks) (sym keys_still) goes.kept;
      }

      pub turn_closes : (next : Option Claim) → Settles mid new c (no_value path place asked) next → IsTurn known before now old new (Ok next)
      turn_closes next does =
          let book : new.book ≡ closed = does.book ∙ ap (λ (l : Log). with_event l (File 0 (key_of c.key) (no_value path place asked))) takes.0 in
          let base : new.base ≡ old.base = does.rest.base ∙ still.base in
          let left : new.known.entries ≡ old.known.entries = does.rest.known ∙ still.known in
          let reads : new.reads ≡ old.reads = does.rest.reads ∙ still.reads in
          let cs : old.waiting.items ≡ with_claim next new.waiting.items = sym (ap (λ ws. ws.items) waiting) ∙ does.waiting in (
            record {
              goes = subst (λ (ws : List Claim). Goes known before now new ws) cs
                  (moved known before now new (record { base = old.base; book = closed; left = old.known.entries; reads = old.reads }) old.waiting.items base book left reads closes_on);
              base = base;
              less = less_moved layer old.book new.book (room_of old) (room_of new) (room_of old) closed book (still_room new (record { base = base; known = left; reads = reads })) closes_going.1;
              begun = begun_moved old.book new.book closed book
                  (λ k b. begun_stays shut (File 0 (key_of c.key) (no_value path place asked)) k (begun_stays named (Block 0 (key_of c.key) (Import m path) place true) k b));
              more = more_moved old.book new.book closed book
                  (λ k v h. filed_more shut (key_of c.key) (no_value path place asked) shut_unfiled k v (blocked_more named (key_of c.key) (Import m path) place true k v h));
              units = units_moved old.book new.book closed book
                  (λ u b. units_blocked named (key_of c.key) (Import m path) place true u refl
                  (units_settled shut (key_of c.key) (no_value path place asked) u
                  (begun_stays named (Block 0 (key_of c.key) (Import m path) place true) (key_of c.key) first_begun) b));
            },
            does.next,
            may_next new next cs,
          )

    -- the one or the other
    pub turn_awaits : (mid new : Driver) → (state_of old.book).filed (Import m path) ≡ None → (taken : Option Claim) → TakesAs old.book mid.book c (Import m path) place taken → IsStill old mid → mid.waiting ≡ old.waiting
        → (next : Option Claim) → AwaitsImport mid new c path place asked taken next → IsTurn known before now old new (Ok next)
    turn_awaits mid new none (Some other) takes still waiting next does = turn_waits mid new other takes still waiting next does
    turn_awaits mid new none None takes still waiting next does = turn_closes mid new none takes still waiting next does

  -- what ends a function for want of memory
  pub lifted_turn : {E : Type 0} (new : Driver) (r : Result (Option Claim) E) (s : Result (Option Claim) Stop) → IfOk r (λ next. IsTurn known before now old new (Ok next)) → IsLifted r s → IsTurn known before now old new s
  lifted_turn new (Ok next) s does is = subst (IsTurn known before now old new) (sym is) does
  lifted_turn new (Err e) s does is = subst (IsTurn known before now old new) (sym is) (goes_memory known before now old (c ∷ old.waiting.items) goes)

-- what holds where it has not ended so
pub lifted_ok : {E : Type 0} (P : Type 0) (r : Result (Option Claim) E) (s : Result (Option Claim) Stop) → IsLifted r s → OnOk r P → OnOk s P
lifted_ok P (Ok next) s is h = subst (λ (o : Result (Option Claim) Stop). OnOk o P) (sym is) h
lifted_ok P (Err e) s is h = subst (λ (o : Result (Option Claim) Stop). OnOk o P) (sym is) tt

-- The first claim needs what there is at a path
module _ (known : List (List ℕ)) (before was now : SourceState) (old new : Driver) (c other : Claim) (path : List ℕ) (place : Place) (asked : List Question) (taken : Driver) (goes : Goes known before was old (c ∷ old.waiting.items)) (need : IsNeeded old.base.start old.book c (Read path) place asked) (takes : TakesAs old.book taken.book c (Read path) place (Some other)) (still : IsStill old taken) (waiting : taken.waiting ≡ old.waiting) where
  abbrev named_read : Log
  named_read = with_key old.book (Read path)

  abbrev reading : Log
  reading = with_event named_read (Block 0 (key_of c.key) (Read path) place false)

  abbrev done : Content → Log
  done content = with_event reading (File 0 (Read path) (found content))

  abbrev its_layer : Layer
  its_layer = layer_now old.base

  -- the path has no number yet
  not_there : In old.book.keys (Read path) → ⊥
  not_there i = absurd (true≢false (sym (any_in old.book.keys (Read path) i) ∙ unnumbered))
    where
      unnumbered : list_any (same_key (Read path)) old.book.keys ≡ false
      unnumbered =
          is_new old.book (state_of old.book) (key_of c.key ∷ claimed_keys old.waiting.items) (Read path) goes.going.driven.named refl
          (λ i. none_some ((state_of old.book).claims (Read path)) 0 takes.1.unclaimed (goes.going.driven.stacked.held (Read path) i)) takes.1.unfiled

  reading_unfiled : (state_of reading).filed (Read path) ≡ None
  reading_unfiled = ap (λ (s : State). s.filed (Read path)) (after_event named_read (Block 0 (key_of c.key) (Read path) place false)) ∙ takes.1.unfiled

  done_more : (content : Content) → IsPart (state_of old.book).filed (state_of (done content)).filed
  done_more content k v h = filed_more reading (Read path) (found content) reading_unfiled k v (blocked_more named_read (key_of c.key) (Read path) place false k v h)

  done_base : (content : Content) → IsCurrent old.base (state_of (done content)).filed
  done_base content =
      current_filed old.base reading (Read path) (found content) reading_unfiled
      (current_blocked old.base named_read (key_of c.key) (Read path) place false goes.base)

  done_begun : (content : Content) (k : Key) → IsBegun (state_of old.book) k → IsBegun (state_of (done content)) k
  done_begun content k b = begun_stays reading (File 0 (Read path) (found content)) k (begun_stays named_read (Block 0 (key_of c.key) (Read path) place false) k b)

  done_units : (content : Content) (u : Unit_key) → IsBegun (state_of (done content)) (Unit_of u) → IsBegun (state_of old.book) (Unit_of u)
  done_units content u b = units_blocked named_read (key_of c.key) (Read path) place false u refl (units_filed reading (Read path) (found content) u refl b)

  filed_there : (content : Content) → new.book ≡ with_event taken.book (File 0 (key_of other.key) (found content)) → new.book ≡ done content
  filed_there content book = book ∙ (λ i. with_event (takes.0 i) (File 0 (takes.3 i) (found content)))

  -- it was read before, and is filed
  module _ (content : FileContent) (was_known : at_name path old.known.entries ≡ Some content) (at : IsFiledKnown was now taken new other path content) where
    takes_going : (room : ℕ) → IsGoing old.base.start known before now (done (content_view content)) (c ∷ old.waiting.items) old.reads × (left_to_do its_layer room (done (content_view content)) < left_to_do its_layer (suc room) old.book)
    takes_going room =
        going_takes old.base.start known before was now old.book c old.waiting.items old.reads path place asked goes.going need.0 takes.1
        (taken_known known before old.known.entries old.book goes.kept path content was_known) at.source (content_view content) (taken_told known before old.known.entries old.book goes.kept path content was_known) its_layer room

    takes_on : GoOn known before now (record { base = old.base; book = done (content_view content); left = without_name path old.known.entries; reads = old.reads }) (c ∷ old.waiting.items)
    takes_on = record { going = (takes_going 0).0; base = done_base (content_view content); layer = goes.layer; kept = kept_rest known before old.known.entries old.book goes.kept path }

    left_now : new.known.entries ≡ without_name path old.known.entries
    left_now = ap (λ m. m.entries) at.filed.known ∙ at.taken.0.known ∙ ap (without_name path) still.known

    reads_now : new.reads ≡ old.reads
    reads_now = at.filed.reads ∙ at.taken.0.reads ∙ still.reads

    room_now : suc (room_of new) ≡ room_of old
    room_now =
        let shorter = rest_shorter old.known.entries path content was_known in
        let shown = ap (λ (es : List (List ℕ × FileContent)). length es) left_now in
        let rooms = ap (λ (n : ℕ). suc read_limit - n) reads_now in
        omega (arith, shorter, shown, rooms)

    take_goes : IsReadFor known before now old new c (Ok tt)
    take_goes =
        let same : new.waiting ≡ old.waiting = at.filed.waiting ∙ at.taken.0.waiting ∙ waiting in
        let based : new.base ≡ old.base = at.filed.base ∙ at.taken.0.base ∙ still.base in
        let book : new.book ≡ done (content_view content) = filed_there (content_view content) (at.filed.book ∙ ap (λ (l : Log). with_event l (File 0 (key_of other.key) (found (content_view content)))) at.taken.1) in (
          record {
            goes = subst (λ (ws : List Claim). Goes known before now new (c ∷ ws)) (sym (ap (λ w. w.items) same))
                (moved known before now new (record { base = old.base; book = done (content_view content); left = without_name path old.known.entries; reads = old.reads }) (c ∷ old.waiting.items) based book left_now reads_now takes_on);
            base = based;
            less = subst (λ (n : ℕ). left_to_do its_layer (room_of new) new.book < left_to_do its_layer n old.book) room_now
                (subst (λ (l : Log). left_to_do its_layer (room_of new) l < left_to_do its_layer (suc (room_of new)) old.book) (sym book) (takes_going (room_of new)).1);
            begun = begun_moved old.book new.book (done (content_view content)) book (done_begun (content_view content));
            more = more_moved old.book new.book (done (content_view content)) book (done_more (content_view content));
            units = units_moved old.book new.book (done (content_view content)) book (done_units (content_view content));
          },
          same,
        )

  -- it wasn't
  module _ (unknown : at_name path old.known.entries ≡ None) where
    new_path : is_one_of path known ≡ false
    new_path = read_unknown known before old.known.entries old.book goes.kept path not_there unknown

    -- what was read is filed
    module _ (r : Result (Unit {0}) Stop) (at : IsReadAt was now taken new other path r) (counted : IsCounted taken new other (found at.content)) (few : new.reads ≤ read_limit) where
      told : (tree : Tree) → before.tree ≡ Some tree → at.content ≡ content_in (read_of tree path)
      told tree is = at.is tree (goes.going.source.tree ∙ is)

      more : new.reads ≡ old.reads + 1
      more = counted.reads ∙ ap (λ (n : ℕ). n + 1) still.reads

      read_going : (room : ℕ) → IsGoing old.base.start known before now (done at.content) (c ∷ old.waiting.items) (old.reads + 1) × (left_to_do its_layer room (done at.content) < left_to_do its_layer (suc room) old.book)
      read_going room =
          going_reads old.base.start known before was now old.book c old.waiting.items old.reads path place asked goes.going need.0 takes.1 new_path at.tree at.content told at.reads at.faults its_layer room
          (subst (λ (n : ℕ). n ≤ read_limit) more few)

      read_on : GoOn known before now (record { base = old.base; book = done at.content; left = old.known.entries; reads = old.reads + 1 }) (c ∷ old.waiting.items)
      read_on = record { going = (read_going 0).0; base = done_base at.content; layer = goes.layer; kept = kept_named known before old.known.entries old.book goes.kept (Read path) }

      left_still : new.known.entries ≡ old.known.entries
      left_still = ap (λ m. m.entries) counted.begins.1 ∙ still.known

      room_less : suc (room_of new) ≡ room_of old
      room_less =
          let left : length new.known.entries ≡ length old.known.entries = ap (λ (es : List (List ℕ × FileContent)). length es) left_still in
          omega (arith, left, more, few)

      read_goes : IsReadFor known before now old new c (Ok tt)
      read_goes =
          let same : new.waiting ≡ old.waiting = counted.waiting ∙ waiting in
          let based : new.base ≡ old.base = counted.begins.0 ∙ still.base in
          let book : new.book ≡ done at.content = filed_there at.content counted.book in (
            record {
              goes = subst (λ (ws : List Claim). Goes known before now new (c ∷ ws)) (sym (ap (λ w. w.items) same))
                  (moved known before now new (record { base = old.base; book = done at.content; left = old.known.entries; reads = old.reads + 1 }) (c ∷ old.waiting.items) based book left_still more read_on);
              base = based;
              less = subst (λ (n : ℕ). left_to_do its_layer (room_of new) new.book < left_to_do its_layer n old.book) room_less
                  (subst (λ (l : Log). left_to_do its_layer (room_of new) l < left_to_do its_layer (suc (room_of new)) old.book) (sym book) (read_going (room_of new)).1);
              begun = begun_moved old.book new.book (done at.content) book (done_begun at.content);
              more = more_moved old.book new.book (done at.content) book (done_more at.content);
              units = units_moved old.book new.book (done at.content) book (done_units at.content);
            },
            same,
          )

    -- where loading ends with this read
    read_stops : (s : Stop) → IsReadOf was now taken new other path (Err s) → IsStop old.base.start known before now s
    read_stops (Failed p) (same, at) =
        let stop = read_fails_at old.base.start known before was now old.book c old.waiting.items old.reads path place asked goes.going need.0 takes.1 new_path at.tree at.reads at.faults in
        (stop.0, subst (λ (q : List ℕ). FailsAt q before now) (sym same) stop.1)
    read_stops TooLarge at =
        let more : new.reads ≡ old.reads + 1 = at.filed.0.reads ∙ ap (λ (n : ℕ). n + 1) still.reads in
        reads_too_many old.base.start known before was now old.book c old.waiting.items old.reads path place asked goes.going need.0 takes.1 new_path at.tree at.content (λ tree is. at.is tree (goes.going.source.tree ∙ is)) at.reads at.faults
        (subst (λ (n : ℕ). read_limit < n) more at.filed.1)
    read_stops Memory at = read_is_lost old.base.start known before was now old.book c old.waiting.items old.reads path place asked goes.going need.0 takes.1 new_path at.tree at.reads at.faults

    read_new_for : (r : Result (Unit {0}) Stop) → IsReadOf was now taken new other path r → IsReadFor known before now old new c r
    read_new_for (Ok u) at = read_goes (Ok u) at at.filed.0 at.filed.1
    read_new_for (Err s) at = read_stops s at

  -- memory was wanting for what was read before
  take_lost : now ≡ was → IsStop old.base.start known before now Memory
  take_lost same = subst (λ (s : SourceState). IsStop old.base.start known before s Memory) (sym same) (goes_memory known before was old (c ∷ old.waiting.items) goes)

  take_for : (content : FileContent) → at_name path old.known.entries ≡ Some content → (r : Result (Unit {0}) Stop) → IsReadKnown was now taken new other path content r → IsReadFor known before now old new c r
  take_for content was_known (Ok u) at = take_goes content was_known at
  take_for content was_known (Err s) at = subst (IsStop old.base.start known before now) (sym at.0) (take_lost at.1)

-- it is read, unless it was read before
module _ (known : List (List ℕ)) (before was now : SourceState) (old new : Driver) (c other : Claim) (path : List ℕ) (place : Place) (asked : List Question) (taken : Driver) (goes : Goes known before was old (c ∷ old.waiting.items)) (need : IsNeeded old.base.start old.book c (Read path) place asked) (takes : TakesAs old.book taken.book c (Read path) place (Some other)) (still : IsStill old taken) (waiting : taken.waiting ≡ old.waiting) where
  middle_still : (middle : Driver) → at_name path old.known.entries ≡ None → IsTaken path taken middle → IsStill old middle
  middle_still middle none took = record {
    base = took.0.base ∙ still.base;
    known = took.0.known ∙ ap (without_name path) still.known ∙ rest_same old.known.entries path none;
    reads = took.0.reads ∙ still.reads;
  }

  pub read_for : (r : Result (Unit {0}) Stop) → ReadsOnce was now taken new other path (at_name path taken.known.entries) r → IsReadFor known before now old new c r
  read_for r reads = by (at_name path old.known.entries) refl (subst (λ (es : List (List ℕ × FileContent)). ReadsOnce was now taken new other path (at_name path es) r) still.known reads)
    where
      by : (o : Option FileContent) → at_name path old.known.entries ≡ o → ReadsOnce was now taken new other path o r → IsReadFor known before now old new c r
      by None is at =
          read_new_for known before was now old new c other path place asked at.0 goes need (subst (λ (l : Log). TakesAs old.book l c (Read path) place (Some other)) (sym at.1.1) takes)
          (middle_still at.0 is at.1) (at.1.0.waiting ∙ waiting) is r at.2
      by (Some content) is at = take_for known before was now old new c other path place asked taken goes need takes still waiting content is r at

-- and then it goes on
pub read_turns : (known : List (List ℕ)) (before now : SourceState) (old new : Driver) (c : Claim) → MayWait (key_of c.key) → IsReadFor known before now old new c (Ok tt) → IsTurn known before now old new (Ok (Some c))
read_turns known before now old new c may has = (has.0, tt, may)

-- Other work reads nothing

pub goes_still : (known : List (List ℕ)) (before was now : SourceState) (d : Driver) (cs : List Claim) → now.tree ≡ was.tree → now.reads ≡ was.reads → now.faults ≡ was.faults → Goes known before was d cs → Goes known before now d cs
goes_still known before was now d cs tree reads faults goes = record {
  going = record {
    driven = goes.going.driven;
    claims = goes.going.claims;
    source = record { tree = tree ∙ goes.going.source.tree; faults = faults ∙ goes.going.source.faults; reads = reads ∙ goes.going.source.reads; over = goes.going.source.over };
    counted = goes.going.counted;
    few = goes.going.few;
  };
  base = goes.base;
  layer = goes.layer;
  kept = goes.kept;
}

-- what ends it leaves a function by its error
pub turn_stops : (known : List (List ℕ)) (before now : SourceState) (old new : Driver) (r : Result (Option Claim) Stop) (s : Stop) → IsErrAnd r (λ e. e ≡ s) → IsStop old.base.start known before now s → IsTurn known before now old new r
turn_stops known before now old new (Ok next) s h stop = absurd h
turn_stops known before now old new (Err e) s h stop = subst (IsStop old.base.start known before now) (sym h) stop

pub read_for_stops : (known : List (List ℕ)) (before now : SourceState) (old new : Driver) (c : Claim) (r : Result (Unit {0}) Stop) (s : Stop) → IsErrAnd r (λ e. e ≡ s) → IsStop old.base.start known before now s → IsReadFor known before now old new c r
read_for_stops known before now old new c (Ok u) s h stop = absurd h
read_for_stops known before now old new c (Err e) s h stop = subst (IsStop old.base.start known before now) (sym h) stop

pub finish_stops : (known : List (List ℕ)) (before now : SourceState) (old mid new : Driver) (r : Result (Unit {0}) Stop) (s : Stop) → mid.base ≡ old.base → IsErrAnd r (λ e. e ≡ s) → IsStop mid.base.start known before now s → IsFinish known before now old new r
finish_stops known before now old mid new (Ok u) s same h stop = absurd h
finish_stops known before now old mid new (Err e) s same h stop = subst (λ (b : CurrentBase). IsStop b.start known before now e) same (subst (IsStop mid.base.start known before now) (sym h) stop)

-- One turn behind another

less_less : (a b c : ℕ) → b < a → c < b → c < a
less_less a b c h k = omega (arith, h, k)

pub turned_on : (known : List (List ℕ)) (before was now : SourceState) (old mid new : Driver) (cs ds : List Claim) → IsTurned known before was old mid cs → IsTurned known before now mid new ds → IsTurned known before now old new ds
turned_on known before was now old mid new cs ds one two = record {
  goes = two.goes;
  base = two.base ∙ one.base;
  less = less_less (left_to_do (layer_now old.base) (room_of old) old.book) (left_to_do (layer_now old.base) (room_of mid) mid.book) (left_to_do (layer_now old.base) (room_of new) new.book) one.less
      (subst (λ (b : CurrentBase). left_to_do (layer_now b) (room_of new) new.book < left_to_do (layer_now b) (room_of mid) mid.book) one.base two.less);
  begun = λ k b. two.begun k (one.begun k b);
  more = λ k v h. two.more k v (one.more k v h);
  units = λ u b. one.units u (two.units u b);
}

-- no wait for a read closes a cycle
pub read_closes_none : (known : List (List ℕ)) (before now : SourceState) (d : Driver) (c : Claim) (path : List ℕ) → Goes known before now d (c ∷ d.waiting.items) → MayWait (key_of c.key) → Leads (state_of d.book).blocks (Read path) (key_of c.key) → ⊥
read_closes_none known before now d c path goes may leads = by (leads_from (state_of d.book) (key_of c.key) (claimed_keys d.waiting.items) goes.going.driven.stacked (Read path) leads)
  where
    by : In (key_of c.key ∷ claimed_keys d.waiting.items) (Read path) → ⊥
    by (inl e) = subst MayWait e may
    by (inr i) = goes.going.driven.stacked.waiting (Read path) i

-- what the first claim needs is lacked
pub turn_lacks : (known : List (List ℕ)) (before now : SourceState) (d : Driver) (c : Claim) (on : Key) (place : Place) (asked : List Question) → Goes known before now d (c ∷ d.waiting.items) → IsNeeded d.base.start d.book c on place asked → IsLacked d.book c on
turn_lacks known before now d c on place asked goes need = going_lacks d.base.start known before now d.book c d.waiting.items d.reads goes.going on place asked need.0
