-- The steps of loading by one seat: each is allowed, and leaves less to do on the unit of a layer.
use Rattle.std.proofs.Common.{◌≡◌, inl, inr, ◌↔◌, ℕ, suc, ◌<◌, List, [], ◌∷◌, ◌++◌, slice_get, Option, Some, None, Bool, true, false, if◌then◌else◌, refl, sym, ◌∙◌, ap, subst, true≢false}
use Rattle.std.specs.List.{list_any}
use Rattle.gn_paths.specs.declared.place.Place.{Place}
use Rattle.gn_definitions.specs.Imported.{ImportState}
use Rattle.gn_runs.specs.Runs.{Question, content_of, import_of, Content, Imported, has_value, is_unusable, End, ended, wrong, spoiled, needs, Run}
use Rattle.gn_runs.specs.Laws.{IsUnknown}
use Rattle.gn_runs.proofs.TreeLaws.{tree_needs_unknown}
use Rattle.gn_imports.specs.Rounds.{imported_of}
use Rattle.gn_closure.specs.Closure.{In}
use Rattle.gn_closure.specs.Reach.{Unit_key}
use Rattle.gn_core.specs.Keys.{Layer, Key, Read, Import, Unit_of, Resolve, Answer, found, import_is, no_value, unit_is, record_is, Leaving, Filed, content_in, imported_in, seen_end, key_of, layer_of, shown, put, same_key}
use Rattle.gn_core.specs.Machine.{State, Event, Claim, Block, File, happens, Leads, NeedsAt, Allowed, Runs, IsRight, IsRightImport, spoiled_as, ClosesCycle}
use Rattle.gn_core.proofs.Puts.{put_own}
use Rattle.gn_book.specs.Graphs.{is_unit, UnitsHaveNumbers}
use Rattle.gn_book.specs.Logs.{Log, opening, state_of, with_key, with_event, key_at, IsFree}
use Rattle.gn_book.specs.Next.{IsReadyNumber}
use Rattle.gn_book.specs.Tasks.{is_task}
use Rattle.gn_executions.specs.Base.{BaseState}
use Rattle.gn_projects.specs.Bases.{base_of_layer}
use Rattle.gn_projects.specs.Files.{Files, import_of_layer}
use Rattle.gn_projects.specs.Worlds.{unit_over, world_of}
use Rattle.gn_projects.proofs.Files.{import_tree}
use Rattle.gn_projects.proofs.Layered.{unit_tree}
use Rattle.gn_builds.specs.Working.{evaluator, over, IsRightOver, IsInNeed, AsksContent}
use Rattle.gn_builds.specs.Stacks.{IsAskable, MayWait, IsStacked, TopIsReady}
use Rattle.gn_builds.specs.Driving.{IsOfKind, AreNamed, IsDriven, IsOfLayer, AreOfLayer, remaining, left_to_do}
use Rattle.gn_builds.proofs.Logs.{after_event, event_runs, still_differ}
use Rattle.gn_builds.proofs.Parts.{own_answers, own_needs, needed_imports_are_read, cycles_have_no_value, trees_dont_matter}
use Rattle.gn_builds.proofs.Stacks.{none_some, not_unit, begun, waiting_on, closing, settled, leads_from, unit_closes_none}
use Rattle.gn_builds.proofs.Named.{number_of, once, MayBeNamed, is_new, named_more, named_still, named_settled, named_begun}
use Rattle.gn_builds.proofs.Counts.{any_in, settled_less, import_less, reading_less}

abbrev DifferIn : List Key → Type 0
DifferIn ks = (i j : ℕ) (q : Key) → slice_get ks i ≡ Some q → slice_get ks j ≡ Some q → i ≡ j

-- a right answer is of the kind of its key
spoiled_kind : (x : Option Answer) (q : List ℕ) (p : Place) (run : Run (Leaving ImportState)) → run.end ≡ spoiled q p → imported_in (Some (spoiled_as x q p run)) ≡ Some is_unusable
spoiled_kind None q p run e = ap (λ (z : End (Leaving ImportState)). imported_of (seen_end z)) e
spoiled_kind (Some (found content)) q p run e = ap (λ (z : End (Leaving ImportState)). imported_of (seen_end z)) e
spoiled_kind (Some (import_is other)) q p run e = ap (λ (z : End (Leaving ImportState)). imported_of (seen_end z)) e
spoiled_kind (Some (no_value path place asked)) q p run e = refl
spoiled_kind (Some (unit_is other)) q p run e = ap (λ (z : End (Leaving ImportState)). imported_of (seen_end z)) e
spoiled_kind (Some (record_is bytes)) q p run e = ap (λ (z : End (Leaving ImportState)). imported_of (seen_end z)) e

import_kind : (part : Filed) (l : Layer) (path : List ℕ) (run : Run (Leaving ImportState)) (end : End (Leaving ImportState)) (v : Answer) → run.end ≡ end → IsRightImport (over part) l path run end v → (left : Imported) × (imported_in (Some v) ≡ Some left)
import_kind part l path run (ended x) v e right = (has_value x.value, ap (λ (w : Answer). imported_in (Some w)) right ∙ ap (λ (z : End (Leaving ImportState)). imported_of (seen_end z)) e)
import_kind part l path run (wrong f) v e right = (is_unusable, ap (λ (w : Answer). imported_in (Some w)) right ∙ ap (λ (z : End (Leaving ImportState)). imported_of (seen_end z)) e)
import_kind part l path run (spoiled q p) v e right = (is_unusable, ap (λ (w : Answer). imported_in (Some w)) right ∙ spoiled_kind (part (Import l q)) q p run e)
import_kind part l path run (needs (content_of q) p) v e right = absurd right
import_kind part l path run (needs (import_of q) p) v e right = (is_unusable, ap (λ (w : Answer). imported_in (Some w)) right.0)

right_kind : (start : BaseState) (part : Filed) (k : Key) (v : Answer) → IsRightOver start part k v → IsOfKind k v
right_kind start part (Read path) v right = right
right_kind start part (Import layer path) v right =
    let run : Run (Leaving ImportState) = import_of_layer (base_of_layer start part layer) layer path (shown part layer) in
    import_kind part layer path run run.end v refl right
right_kind start part (Unit_of u) v right = tt
right_kind start part (Resolve label) v right = tt

-- The answer of the first key is filed
module _ (start : BaseState) (l : Log) (k : Key) (ks : List Key) (v : Answer) (d : IsDriven start l (k ∷ ks)) where
  abbrev filed_event : Event
  filed_event = File 0 k v

  abbrev filed_log : Log
  filed_log = with_event l filed_event

  filed_state : (P : State → Type 0) → P (happens (state_of l) filed_event) → P (state_of filed_log)
  filed_state P p = subst P (sym (after_event l filed_event)) p

  pub driven_settled : IsRightOver start (state_of l).filed k v → IsDriven start filed_log ks
  driven_settled right =
      let rest = settled (state_of l) k ks v d.stacked in
      let allowed : (files : Files) → files.start ≡ start → Allowed (world_of files) (λ path. false) (state_of l) filed_event =
      λ files same. (
        d.stacked.held k (inl refl),
        trees_dont_matter files (state_of l) k v (subst (λ (b : BaseState). IsRight (evaluator b) (state_of l).filed (state_of l) k v) (sym same) (own_answers start (state_of l) k v right)),
      ) in
      record {
        seats = d.seats;
        apart = d.apart;
        runs = λ files same. event_runs (world_of files) (λ path. false) l filed_event (d.runs files same) (allowed files same);
        stacked = filed_state (λ s. IsStacked s ks) rest.0;
        ready = filed_state (λ s. TopIsReady s ks) rest.1;
        named = filed_state (λ s. AreNamed l.keys s ks) (named_settled l.keys (state_of l) k ks v d.named (right_kind start (state_of l).filed k v right));
      }

  pub less_settled : (layer : Layer) (room : ℕ) → left_to_do layer room filed_log < left_to_do layer room l
  less_settled layer room =
      filed_state (λ s. remaining layer room l.keys s.filed < left_to_do layer room l)
      (settled_less layer room l.keys (state_of l).filed k v (d.stacked.unfiled k (inl refl)) (once l.keys d.apart) (d.named.claimed k (inl refl)))

  pub step_settled : (layer : Layer) (room : ℕ) → IsRightOver start (state_of l).filed k v → IsDriven start filed_log ks × (left_to_do layer room filed_log < left_to_do layer room l)
  step_settled layer room right = (driven_settled right, less_settled layer room)

-- a unit is taken up
pub step_begun : (start : BaseState) (l : Log) (n : ℕ) → IsDriven start l [] → UnitsHaveNumbers l → IsReadyNumber l n → In l.keys (key_at l n)
    → IsDriven start (with_event l (Claim 0 (key_at l n))) (key_at l n ∷ []) × ((layer : Layer) (room : ℕ) → left_to_do layer room (with_event l (Claim 0 (key_at l n))) ≡ left_to_do layer room l)
step_begun start l n d numbers ready there = by (key_at l n) refl ready.task ready.free there
  where
    by : (k : Key) → key_at l n ≡ k → is_task k ≡ true → IsFree (state_of l) k → In l.keys k → IsDriven start (with_event l (Claim 0 k)) (k ∷ [])
        × ((layer : Layer) (room : ℕ) → left_to_do layer room (with_event l (Claim 0 k)) ≡ left_to_do layer room l)
    by (Read path) e task free i = absurd (true≢false (sym task))
    by (Import layer path) e task free i = absurd (true≢false (sym task))
    by (Resolve label) e task free i = absurd (d.named.labels label i)
    by (Unit_of u) e task free i =
        let claim = Claim 0 (Unit_of u) in
        let one = begun (state_of l) (Unit_of u) d.stacked refl free in
        let state = after_event l claim in (
          record {
            seats = d.seats;
            apart = d.apart;
            runs = λ files same. event_runs (world_of files) (λ path. false) l claim (d.runs files same) (((numbers u).0 (number_of l.keys (Unit_of u) i), free.unclaimed, free.unfiled, d.stacked.going), λ q h. (d.stacked.alone q 0 h).1);
            stacked = subst (λ s. IsStacked s (Unit_of u ∷ [])) (sym state) one.0;
            ready = subst (λ s. TopIsReady s (Unit_of u ∷ [])) (sym state) one.1;
            named = subst (λ s. AreNamed l.keys s (Unit_of u ∷ [])) (sym state) (named_begun l.keys (state_of l) (Unit_of u) d.named i);
          },
          λ layer room. ap (λ (s : State). remaining layer room l.keys s.filed) state,
        )

-- what is needed over what is filed is the same over every tree
needs_tree : (files : Files) (filed : Filed) (k on : Key) (place : Place) → NeedsAt (evaluator files.start) filed filed k on place → NeedsAt (world_of files) filed filed k on place
needs_tree files filed (Read path) on place need = need
needs_tree files filed (Import layer path) on place need = need
needs_tree files filed (Unit_of u) on place need = need
needs_tree files filed (Resolve label) on place need = need

-- What is needed
needed_askable : (start : BaseState) (k on : Key) (part : Filed) (place : Place) (asked : List Question) → IsInNeed start part k on place asked → IsAskable on
needed_askable start (Read path) on part place asked need = absurd need
needed_askable start (Import layer path) on part place asked need = asked_key layer need.0 on need.1
  where
    asked_key : (m : Layer) (q : Question) (z : Key) → z ≡ key_of m q → IsAskable z
    asked_key m (content_of other) z e = subst IsAskable (sym e) tt
    asked_key m (import_of other) z e = subst IsAskable (sym e) tt
needed_askable start (Unit_of u) on part place asked need = asked_key (layer_of u) need.0 on need.1
  where
    asked_key : (m : Layer) (q : Question) (z : Key) → z ≡ key_of m q → IsAskable z
    asked_key m (content_of other) z e = subst IsAskable (sym e) tt
    asked_key m (import_of other) z e = subst IsAskable (sym e) tt
needed_askable start (Resolve label) on part place asked need = absurd need

needing_waits : (start : BaseState) (k on : Key) (part : Filed) (place : Place) (asked : List Question) → IsInNeed start part k on place asked → MayWait k
needing_waits start (Read path) on part place asked need = absurd need
needing_waits start (Import layer path) on part place asked need = tt
needing_waits start (Unit_of u) on part place asked need = tt
needing_waits start (Resolve label) on part place asked need = absurd need

-- the layer of what an import asks
same_layer_asked : (m n : Layer) (q : Question) (path : List ℕ) → Import n path ≡ key_of m q → n ≡ m
same_layer_asked m n (content_of other) path e = absurd (cc e)
same_layer_asked m n (import_of other) path e = let same : n ≡ m = cc e in same

of_layer_asked : (layer m : Layer) (q : Question) → m ≡ layer → IsOfLayer layer (key_of m q)
of_layer_asked layer m (content_of other) same = tt
of_layer_asked layer m (import_of other) same = same

pub needed_of_layer : (start : BaseState) (part : Filed) (layer : Layer) (k on : Key) (place : Place) (asked : List Question) → IsOfLayer layer k → IsInNeed start part k on place asked → IsOfLayer layer on
needed_of_layer start part layer (Read p) on place asked is need = absurd need
needed_of_layer start part layer (Import m p) on place asked is need = subst (IsOfLayer layer) (sym need.1) (of_layer_asked layer m need.0 is)
needed_of_layer start part layer (Unit_of u) on place asked is need = subst (IsOfLayer layer) (sym need.1) (of_layer_asked layer (layer_of u) need.0 is)
needed_of_layer start part layer (Resolve label) on place asked is need = absurd need

-- what the first key needs is of the layer of the keys
pub needed_are_of_layer : (start : BaseState) (part : Filed) (layer : Layer) (k on : Key) (ks : List Key) (place : Place) (asked : List Question) → AreOfLayer layer (k ∷ ks)
    → IsInNeed start part k on place asked → AreOfLayer layer (on ∷ k ∷ ks)
needed_are_of_layer start part layer k on ks place asked are need = λ q i. elim i [
  | inl e ↦ subst (IsOfLayer layer) e (needed_of_layer start part layer k on place asked (are k (inl refl)) need)
  | inr j ↦ are q j
]

-- a unit is of its layer
pub unit_of_layer : (u : Unit_key) → AreOfLayer (layer_of u) (Unit_of u ∷ [])
unit_of_layer u = λ q i. elim i [ inl e ↦ subst (IsOfLayer (layer_of u)) e refl | inr j ↦ absurd j ]

may_be_named : (start : BaseState) (names : List Key) (s : State) (ks : List Key) (k on : Key) (place : Place) (asked : List Question)
    → AreNamed names s ks → In names k → IsInNeed start s.filed k on place asked → AsksContent on asked → MayBeNamed names on
may_be_named start names s ks k (Read path) place asked named i need content = tt
may_be_named start names s ks k (Import n path) place asked named i need content = named.filed (Read path) (needed_imports_are_read start s.filed k n path place asked need content)
may_be_named start names s ks k (Unit_of u) place asked named i need content = needed_askable start k (Unit_of u) s.filed place asked need
may_be_named start names s ks k (Resolve label) place asked named i need content = needed_askable start k (Resolve label) s.filed place asked need

-- what is needed has no answer
content_lacks : (x : Option Answer) → ((v : Answer) → x ≡ Some v → (content : Content) × (v ≡ found content)) → content_in x ≡ None → x ≡ None
content_lacks None kind none = refl
content_lacks (Some v) kind none =
    let is = kind v refl in
    let there : content_in (Some v) ≡ Some is.0 = ap (λ (w : Answer). content_in (Some w)) is.1 in
    absurd (cc (sym none ∙ there))

import_lacks : (x : Option Answer) → ((v : Answer) → x ≡ Some v → (left : Imported) × (imported_in (Some v) ≡ Some left)) → imported_in x ≡ None → x ≡ None
import_lacks None kind none = refl
import_lacks (Some v) kind none = let is = kind v refl in absurd (cc (sym none ∙ is.1))

lacks_by : (names : List Key) (s : State) (ks : List Key) → AreNamed names s ks → (m : Layer) (q : Question) → IsUnknown (shown s.filed m) q → s.filed (key_of m q) ≡ None
lacks_by names s ks named m (content_of path) none = content_lacks (s.filed (Read path)) (λ v e. named.kinds (Read path) v e) none
lacks_by names s ks named m (import_of path) none = import_lacks (s.filed (Import m path)) (λ v e. named.kinds (Import m path) v e) none

pub needed_lacks : (start : BaseState) (names : List Key) (s : State) (ks : List Key) → AreNamed names s ks → (k on : Key) (place : Place) (asked : List Question) → IsInNeed start s.filed k on place asked → s.filed on ≡ None
needed_lacks start names s ks named (Read path) on place asked need = absurd need
needed_lacks start names s ks named (Import m path) on place asked need =
    let base : BaseState = base_of_layer start s.filed m in
    subst (λ (z : Key). s.filed z ≡ None) (sym need.1)
    (lacks_by names s ks named m need.0 (tree_needs_unknown (λ a. import_of_layer base m path a) (import_tree base m path) (shown s.filed m) need.0 place need.2).0)
needed_lacks start names s ks named (Unit_of u) on place asked need =
    let base : BaseState = base_of_layer start s.filed (layer_of u) in
    subst (λ (z : Key). s.filed z ≡ None) (sym need.1)
    (lacks_by names s ks named (layer_of u) need.0 (tree_needs_unknown (λ a. unit_over base u a) (unit_tree base u) (shown s.filed (layer_of u)) need.0 place need.2).0)
needed_lacks start names s ks named (Resolve label) on place asked need = absurd need

-- how many files can still be read and taken before a key is claimed, if it is so many afterwards
abbrev pub room_before : Key → ℕ → ℕ
room_before (Read path) room = suc room
room_before (Import layer path) room = room
room_before (Unit_of u) room = room
room_before (Resolve label) room = room

-- The first key needs another one
module _ (start : BaseState) (l : Log) (k on : Key) (ks : List Key) (place : Place) (asked : List Question) (d : IsDriven start l (k ∷ ks)) (need : IsInNeed start (state_of l).filed k on place asked) (content : AsksContent on asked) (none : (state_of l).filed on ≡ None) where
  askable : IsAskable on
  askable = needed_askable start k on (state_of l).filed place asked need

  allowed_block : (closes : Bool) → (closes ≡ true) ↔ Leads (state_of l).blocks on k → (files : Files) → files.start ≡ start → Allowed (world_of files) (λ path. false) (state_of l) (Block 0 k on place closes)
  allowed_block closes is files same = (
    d.stacked.held k (inl refl),
    λ b e lacks. (let f = d.ready b e in absurd (cc (sym lacks ∙ f.1))),
    needs_tree files (state_of l).filed k on place
        (subst (λ (b : BaseState). NeedsAt (evaluator b) (state_of l).filed (state_of l).filed k on place) (sym same) (own_needs start (state_of l).filed k on place asked need)),
    is,
  )

  abbrev more : Log
  more = with_key l on

  abbrev wait_event : Event
  wait_event = Block 0 k on place false

  abbrev waiting_log : Log
  waiting_log = with_event more wait_event

  waiting_state : (P : State → Type 0) → P (happens (state_of l) wait_event) → P (state_of waiting_log)
  waiting_state P p = subst P (sym (after_event more wait_event)) p

  grown : list_any (same_key on) l.keys ≡ false → more.keys ≡ l.keys ++ on ∷ []
  grown new = ap (λ b. if b then l.keys else l.keys ++ on ∷ []) new

  less_by : (layer : Layer) (room : ℕ) (q : Key) → IsOfLayer layer q → MayBeNamed l.keys q → list_any (same_key q) l.keys ≡ false
      → remaining layer room (l.keys ++ q ∷ []) (state_of l).filed < remaining layer (room_before q room) l.keys (state_of l).filed
  less_by layer room (Read path) is may new = reading_less l.keys path layer room (state_of l).filed
  less_by layer room (Import n path) is may new =
      subst (λ (m : Layer). remaining m room (l.keys ++ Import n path ∷ []) (state_of l).filed < remaining m room l.keys (state_of l).filed) is
      (import_less n room l.keys path new (once l.keys d.apart) may (state_of l).filed)
  less_by layer room (Unit_of u) is may new = absurd may
  less_by layer room (Resolve label) is may new = absurd may

  module _ (free : IsFree (state_of l) on) where
    on_apart : In (k ∷ ks) on → ⊥
    on_apart i = none_some ((state_of l).claims on) 0 free.unclaimed (d.stacked.held on i)

    on_may : MayBeNamed l.keys on
    on_may = may_be_named start l.keys (state_of l) (k ∷ ks) k on place asked d.named (d.named.claimed k (inl refl)) need content

    on_new : list_any (same_key on) l.keys ≡ false
    on_new = is_new l (state_of l) (k ∷ ks) on d.named (not_unit on askable) on_apart none

    pub driven_waits : IsDriven start waiting_log (on ∷ k ∷ ks)
    driven_waits =
        let next = waiting_on (state_of l) k on ks place d.stacked (needing_waits start k on (state_of l).filed place asked need) askable free in
        record {
          seats = d.seats;
          apart = subst (λ (z : List Key). DifferIn z) (sym (grown on_new)) (still_differ l.keys on on_new d.apart);
          runs = λ files same. event_runs (world_of files) (λ path. false) more wait_event (d.runs files same)
              (allowed_block false ((λ e. absurd (true≢false (sym e))), (λ leads. absurd (on_apart (leads_from (state_of l) k ks d.stacked on leads)))) files same);
          stacked = waiting_state (λ s. IsStacked s (on ∷ k ∷ ks)) next.0;
          ready = waiting_state (λ s. TopIsReady s (on ∷ k ∷ ks)) next.1;
          named = waiting_state (λ s. AreNamed more.keys s (on ∷ k ∷ ks)) (named_more l (state_of l) (happens (state_of l) wait_event) (k ∷ ks) on d.named on_may refl);
        }

    pub less_waits : (layer : Layer) (room : ℕ) → IsOfLayer layer on → left_to_do layer room waiting_log < left_to_do layer (room_before on room) l
    less_waits layer room is =
        waiting_state (λ s. remaining layer room more.keys s.filed < left_to_do layer (room_before on room) l)
        (subst (λ (z : List Key). remaining layer room z (state_of l).filed < left_to_do layer (room_before on room) l) (sym (grown on_new)) (less_by layer room on is on_may on_new))

  pub step_waits : (layer : Layer) (room : ℕ) → AreOfLayer layer (k ∷ ks) → IsFree (state_of l) on → IsDriven start waiting_log (on ∷ k ∷ ks) × (left_to_do layer room waiting_log < left_to_do layer (room_before on room) l)
  step_waits layer room are free = (driven_waits free, less_waits free layer room (needed_of_layer start (state_of l).filed layer k on place asked (are k (inl refl)) need))

  -- or its wait closes a cycle, and it has no value
  abbrev close_event : Event
  close_event = Block 0 k on place true

  abbrev closed : Log
  closed = with_event more close_event

  closed_state : (P : State → Type 0) → P (happens (state_of l) close_event) → P (state_of closed)
  closed_state P p = subst P (sym (after_event more close_event)) p

  abbrev end_event : List ℕ → Event
  end_event q = File 0 k (no_value q place asked)

  abbrev ended_log : List ℕ → Log
  ended_log q = with_event closed (end_event q)

  ended_state : (q : List ℕ) (P : State → Type 0) → P (happens (happens (state_of l) close_event) (end_event q)) → P (state_of (ended_log q))
  ended_state q P p = subst P (sym (after_event closed (end_event q) ∙ ap (λ (s : State). happens s (end_event q)) (after_event more close_event))) p

  closes : ClosesCycle (happens (state_of l) close_event) k
  closes = (record { on = on; place = place; closes = true }, put_own (state_of l).blocks k (record { on = on; place = place; closes = true }), refl)

  import_by : (z : Key) → k ≡ z → is_unit z ≡ false → IsInNeed start (state_of l).filed z on place asked → (m : Layer) × (path : List ℕ) × (k ≡ Import m path)
  import_by (Read path) e unit n = absurd n
  import_by (Import m path) e unit n = (m, path, e)
  import_by (Unit_of u) e unit n = absurd (true≢false unit)
  import_by (Resolve label) e unit n = absurd n

  not_a_unit : In (k ∷ ks) on → is_unit k ≡ false
  not_a_unit there = by (is_unit k) refl
    where
      by : (b : Bool) → is_unit k ≡ b → b ≡ false
      by true e = absurd (unit_closes_none (state_of l) k on ks d.stacked askable e there)
      by false e = refl

  no_value_right : (n : Layer) (q : List ℕ) → on ≡ Import n q → (m : Layer) (path : List ℕ) → k ≡ Import m path → IsRight (evaluator start) (happens (state_of l) close_event).filed (happens (state_of l) close_event) k (no_value q place asked)
  no_value_right n q is m path e =
      cycles_have_no_value start (happens (state_of l) close_event) k path q place asked m e
      (subst (λ (z : Key). IsInNeed start (state_of l).filed k z place asked) (is ∙ ap (λ (w : Layer). Import w q) (layers n q is m path e)) need) closes
    where
      layers : (n1 : Layer) (q1 : List ℕ) → on ≡ Import n1 q1 → (m1 : Layer) (p1 : List ℕ) → k ≡ Import m1 p1 → n1 ≡ m1
      layers n1 q1 i1 m1 p1 e1 =
          let there : IsInNeed start (state_of l).filed (Import m1 p1) (Import n1 q1) place asked = subst (λ (z : Key). IsInNeed start (state_of l).filed z (Import n1 q1) place asked) e1 (subst (λ (z : Key). IsInNeed start (state_of l).filed k z place asked) i1 need) in
          same_layer_asked m1 n1 there.0 q1 there.1

  pub step_closes : (layer : Layer) (room : ℕ) → Leads (state_of l).blocks on k → (n : Layer) (q : List ℕ) → on ≡ Import n q → IsDriven start (ended_log q) ks × (left_to_do layer room (ended_log q) < left_to_do layer room l)
  step_closes layer room leads n q is =
      let there = leads_from (state_of l) k ks d.stacked on leads in
      let unit = not_a_unit there in
      let imported = import_by k refl unit need in
      let right = no_value_right n q is imported.0 imported.1 imported.2 in
      let shut = closing (state_of l) k on ks place d.stacked askable there in
      let rest = settled (happens (state_of l) close_event) k ks (no_value q place asked) shut in
      let named = named_still l (state_of l) (happens (state_of l) close_event) (k ∷ ks) on d.named there refl in
      let runs : (files : Files) → files.start ≡ start → Runs (world_of files) (λ path. false) opening closed.events =
      λ files same. event_runs (world_of files) (λ path. false) more close_event (d.runs files same) (allowed_block true ((λ e. leads), (λ x. refl)) files same) in
      let keys : more.keys ≡ l.keys = ap (λ b. if b then l.keys else l.keys ++ on ∷ []) (any_in l.keys on (d.named.claimed on there)) in (
        record {
          seats = d.seats;
          apart = subst (λ (z : List Key). DifferIn z) (sym keys) d.apart;
          runs = λ files same. event_runs (world_of files) (λ path. false) closed (end_event q) (runs files same)
              (closed_state (λ s. Allowed (world_of files) (λ path. false) s (end_event q)) (
                shut.held k (inl refl),
                trees_dont_matter files (happens (state_of l) close_event) k (no_value q place asked)
                    (subst (λ (b : BaseState). IsRight (evaluator b) (happens (state_of l) close_event).filed (happens (state_of l) close_event) k (no_value q place asked)) (sym same) right),
              ));
          stacked = ended_state q (λ s. IsStacked s ks) rest.0;
          ready = ended_state q (λ s. TopIsReady s ks) rest.1;
          named = ended_state q (λ s. AreNamed more.keys s ks) (named_settled more.keys (happens (state_of l) close_event) k ks (no_value q place asked) named
              (subst (λ (z : Key). IsOfKind z (no_value q place asked)) (sym imported.2) (is_unusable, refl)));
        },
        ended_state q (λ s. remaining layer room more.keys s.filed < left_to_do layer room l)
            (subst (λ (z : List Key). remaining layer room z (put (state_of l).filed k (Some (no_value q place asked))) < left_to_do layer room l) (sym keys)
            (settled_less layer room l.keys (state_of l).filed k (no_value q place asked) (d.stacked.unfiled k (inl refl)) (once l.keys d.apart) (d.named.claimed k (inl refl)))),
      )
