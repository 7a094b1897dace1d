-- The state of the loader, its events, and what may happen.
use Rattle.std.specs.Prelude.{◌≡◌, ℕ, ◌<◌, List, [], ◌∷◌, length, Option, Some, None, ◌⊎◌, ◌↔◌, Bool, true, false, cond, unwrap_or}
use Rattle.std.specs.List.{IsDistinct}
use Rattle.gn_paths.specs.declared.place.Place.{Place}
use Rattle.gn_definitions.specs.Imported.{ImportState}
use Rattle.gn_runs.specs.Runs.{Question, content_of, import_of, Content, End, ended, wrong, spoiled, needs, Run}
use Rattle.gn_runs.specs.Laws.{IsSettled, IsAsked}
use Rattle.gn_closure.specs.Closure.{In}
use Rattle.gn_labels.specs.declared.label.Label.{Label}
use Rattle.gn_closure.specs.Reach.{Unit_key, Setup, Load, Target, Toolchain, Done, Units, Is_reached, Is_generated, needed, Holds}
use Rattle.gn_closure.specs.Least.{IsTooLarge}
use Rattle.gn_core.specs.Keys.{Layer, Key, Read, Import, Unit_of, Resolve, Answer, found, import_is, no_value, unit_is, record_is, Filed, layer_of, key_of, shown, units, same_key, put, Leaving}
use Rattle.gn_core.specs.Worlds.{World}

-- a key waits for another, which a call at this place asked for; and whether that closes a cycle
pub record Blocked : Type 0 where
  pub on : Key
  pub place : Place
  pub closes : Bool

-- why loading stops: a read has failed, the build is too large, or there is no memory
pub data Cause : Type 0 where
  failed : Key → Cause
  too_large : Cause
  no_memory : Cause

-- the answers that are filed, the seats that have claimed keys, the keys that wait, and what stopped the loading
pub record State : Type 0 where
  pub filed : Filed
  pub claims : Key → Option ℕ
  pub blocks : Key → Option Blocked
  pub stops : List Cause

-- a seat claims a key, finds that a key which it has claimed needs another, files an answer, or stops
pub data Event : Type 0 where
  Claim : (seat : ℕ) (key : Key) → Event
  Block : (seat : ℕ) (key on : Key) (place : Place) (closes : Bool) → Event
  File : (seat : ℕ) (key : Key) (answer : Answer) → Event
  Stop : (seat : ℕ) (cause : Cause) → Event

-- What an event does. A key that is needed and that nobody has claimed is claimed by the seat that needs it
abbrev pub happens : State → Event → State
happens s (Claim seat k) = record { filed = s.filed; claims = put s.claims k (Some seat); blocks = s.blocks; stops = s.stops }
happens s (Block seat k on p c) = record {
  filed = s.filed;
  claims = put s.claims on (Some (unwrap_or (s.claims on) seat));
  blocks = put s.blocks k (Some (record { on = on; place = p; closes = c }));
  stops = s.stops;
}
happens s (File seat k v) = record { filed = put s.filed k (Some v); claims = put s.claims k None; blocks = put s.blocks k None; stops = s.stops }
happens s (Stop seat c) = record { filed = s.filed; claims = s.claims; blocks = s.blocks; stops = c ∷ s.stops }

-- the state after a list of events
abbrev pub replay : State → List Event → State
replay s [] = s
replay s (e ∷ es) = replay (happens s e) es

-- the chain of blocks from a key leads to a key
pub data Leads (blocks : Key → Option Blocked) : Key → Key → Type 0 where
  here : {k : Key} → Leads blocks k k
  onward : {q k : Key} (b : Blocked) → blocks q ≡ Some b → Leads blocks b.on k → Leads blocks q k

-- what a key's evaluation needs, over a base and what is filed
abbrev pub NeedsAt : World → Filed → Filed → Key → Key → Place → Type 0
NeedsAt w base filed (Read path) on p = ⊥
NeedsAt w base filed (Import l path) on p = (q : Question) × (on ≡ key_of l q) × ((w.import_run l base path (shown filed l)).end ≡ needs q p)
NeedsAt w base filed (Unit_of k) on p = (q : Question) × (on ≡ key_of (layer_of k) q) × ((w.unit_run k base (shown filed (layer_of k))).end ≡ needs q p)
NeedsAt w base filed (Resolve l) on p = ⊥

-- an import that is spoiled at an import without value has no value itself
abbrev pub spoiled_as : Option Answer → List ℕ → Place → Run (Leaving ImportState) → Answer
spoiled_as (Some (no_value f r m)) q p run = no_value q p run.asked
spoiled_as _ q p run = import_is run

-- a key waits, and that closes a cycle
abbrev pub ClosesCycle : State → Key → Type 0
ClosesCycle s k = (b : Blocked) × (s.blocks k ≡ Some b) × (b.closes ≡ true)

-- The right answer of an import, by how its run over what is filed ends. One that needs another import has no value only where its own block closes a
-- cycle
abbrev pub IsRightImport : State → Layer → List ℕ → Run (Leaving ImportState) → End (Leaving ImportState) → Answer → Type 0
IsRightImport s l path run (ended x) v = v ≡ import_is run
IsRightImport s l path run (wrong f) v = v ≡ import_is run
IsRightImport s l path run (spoiled q p) v = v ≡ spoiled_as (s.filed (Import l q)) q p run
IsRightImport s l path run (needs (content_of q) p) v = ⊥
IsRightImport s l path run (needs (import_of q) p) v = (v ≡ no_value q p run.asked) × ClosesCycle s (Import l path)

-- right over a base; of a file any content is
abbrev pub IsRight : World → Filed → State → Key → Answer → Type 0
IsRight w base s (Read path) v = (c : Content) × (v ≡ found c)
IsRight w base s (Import l path) v = IsRightImport s l path (w.import_run l base path (shown s.filed l)) (w.import_run l base path (shown s.filed l)).end v
IsRight w base s (Unit_of k) v = IsSettled (w.unit_run k base (shown s.filed (layer_of k))).end × (v ≡ unit_is (w.unit_run k base (shown s.filed (layer_of k))))
IsRight w base s (Resolve l) v = v ≡ record_is (w.record_of l base)

-- Ready

-- the build file of a directory is reached under a toolchain, and it is done: a unit that isn't reached doesn't count, whatever its answer is
abbrev pub IsLoaded : World → Units → List ℕ → List ℕ → Done → Type 0
IsLoaded w a dir toolchain d = Holds w.home a (Is_reached (Load dir toolchain)) × (a (Load dir toolchain) ≡ Some (Some d))

-- that of a label is, and it defines the label's target
abbrev pub IsDone : World → Units → Label → Done → Type 0
IsDone w a l d = IsLoaded w a l.dir l.toolchain d

abbrev pub Defines : World → Units → Label → Target → Type 0
Defines w a l t = (d : Done) × IsDone w a l d × In d.targets t × (t.name ≡ l.name)

-- the file that defines a label's toolchain is done, and so are those of the pools of its tools
abbrev pub HasTools : World → Units → Label → Type 0
HasTools w a l =
    (d : Done) × (v : Done) × (a (Setup []) ≡ Some (Some d)) × IsLoaded w a (w.home l.toolchain) d.default v
    × ((c : Toolchain) → In v.toolchains c → c.name ≡ l.toolchain → (m : Label) → In c.pools m → (e : Done) × IsDone w a m e)

-- all units are done that a label wants
abbrev pub UnitsAreDone : World → Units → Label → Type 0
UnitsAreDone w a l = ((t : Target) → Defines w a l t → (m : Label) → In (needed t) m → (d : Done) × IsDone w a m d) × HasTools w a l

-- a generated label whose units are done and whose dependencies are defined targets, of which P holds
abbrev pub CanResolve : World → Units → (Label → Type 0) → Label → Type 0
CanResolve w a P l =
    Holds w.home a (Is_generated l) × UnitsAreDone w a l
    × ((t : Target) → Defines w a l t → (m : Label) → In t.deps m → ((u : Target) × Defines w a m u) × P m)

-- there is an answer
abbrev pub IsFiled : Filed → Key → Type 0
IsFiled filed k = (v : Answer) × (filed k ≡ Some v)

-- A unit may be claimed where it is reached, and a label where it can be resolved and the records of its dependencies are filed. Reads and imports
-- are claimed only by what needs them
abbrev pub IsReachedKey : World → Filed → Key → Type 0
IsReachedKey w filed (Read path) = ⊥
IsReachedKey w filed (Import l path) = ⊥
IsReachedKey w filed (Unit_of k) = Holds w.home (units filed) (Is_reached k)
IsReachedKey w filed (Resolve l) = CanResolve w (units filed) (λ m. IsFiled filed (Resolve m)) l

-- it is neither claimed nor filed, and nothing has stopped
abbrev pub IsReady : World → State → Key → Type 0
IsReady w s k = IsReachedKey w s.filed k × (s.claims k ≡ None) × (s.filed k ≡ None) × (s.stops ≡ [])

-- Limits

-- the greatest number of imports that one may need, itself among them, and of files that may be read beside those that the setup knows
abbrev pub import_limit : ℕ
import_limit = 200

unfoldable pub read_limit : ℕ
read_limit = 2097152

-- what the answer of a key asked
abbrev pub asked_in : Option Answer → List Question
asked_in None = []
asked_in (Some (found c)) = []
asked_in (Some (import_is run)) = run.asked
asked_in (Some (no_value q p asked)) = asked
asked_in (Some (unit_is run)) = run.asked
asked_in (Some (record_is r)) = []

-- a key that reached units ask, directly or through imports, over these answers
pub data IsNeeded (w : World) (a : Filed) : Key → Type 0 where
  by_unit : (u : Unit_key) (q : Question) → Holds w.home (units a) (Is_reached u) → IsAsked (asked_in (a (Unit_of u))) q → IsNeeded w a (key_of (layer_of u) q)
  by_import : (l : Layer) (path : List ℕ) (q : Question) → IsNeeded w a (Import l path) → IsAsked (asked_in (a (Import l path))) q → IsNeeded w a (key_of l q)

-- what an import needs, itself among it
pub data NeededBy (a : Filed) (l : Layer) (path : List ℕ) : Key → Type 0 where
  itself : NeededBy a l path (Import l path)
  through : (other : List ℕ) (q : Question) → NeededBy a l path (Import l other) → IsAsked (asked_in (a (Import l other))) q → NeededBy a l path (key_of l q)

-- there are more different keys of which P holds than the limit
abbrev pub HasMore : (Key → Type 0) → ℕ → Type 0
HasMore P limit = (ks : List Key) × IsDistinct same_key ks × (limit < length ks) × ((k : Key) → In ks k → P k)

abbrev pub IsImport : Key → Type 0
IsImport (Import l path) = Unit {0}
IsImport _ = ⊥

-- The build exceeds a limit, over these answers; known: the files that the setup knows; counted: the reads that count
abbrev pub ExceedsBy : World → (List ℕ → Bool) → Filed → (Key → Type 0) → Type 0
ExceedsBy w known a counted =
    IsTooLarge w.home (units a)
    ⊎ (((l : Layer) × (path : List ℕ) × IsNeeded w a (Import l path) × HasMore (λ q. IsImport q × NeededBy a l path q) import_limit)
    ⊎ HasMore (λ q. (path : List ℕ) × (q ≡ Read path) × (known path ≡ false) × counted q) read_limit)

-- over the meanings the reads that are needed count, and over what is filed those that are filed
abbrev pub Exceeds : World → (List ℕ → Bool) → Filed → Type 0
Exceeds w known a = ExceedsBy w known a (IsNeeded w a)

abbrev pub FiledExceeds : World → (List ℕ → Bool) → Filed → Type 0
FiledExceeds w known filed = ExceedsBy w known filed (IsFiled filed)

-- Events

-- a seat stops at a read that it has claimed, where what is filed exceeds a limit, and for want of memory at any time
abbrev pub MayStop : World → (List ℕ → Bool) → State → ℕ → Cause → Type 0
MayStop w known s seat (failed k) = (s.claims k ≡ Some seat) × ((path : List ℕ) × (k ≡ Read path))
MayStop w known s seat too_large = FiledExceeds w known s.filed
MayStop w known s seat no_memory = Unit {0}

-- what may happen, where evaluations see a base
abbrev pub AllowedOver : World → Filed → (List ℕ → Bool) → State → Event → Type 0
AllowedOver w base known s (Claim seat k) = IsReady w s k × ((q : Key) → s.claims q ≡ Some seat → ⊥)
AllowedOver w base known s (Block seat k on p c) =
    (s.claims k ≡ Some seat)
    × ((b : Blocked) → s.blocks k ≡ Some b → s.filed b.on ≡ None → ⊥)
    × NeedsAt w base s.filed k on p
    × ((c ≡ true) ↔ Leads s.blocks on k)
AllowedOver w base known s (File seat k v) = (s.claims k ≡ Some seat) × IsRight w base s k v
AllowedOver w base known s (Stop seat c) = MayStop w known s seat c

-- the base is what is filed
abbrev pub Allowed : World → (List ℕ → Bool) → State → Event → Type 0
Allowed w known s e = AllowedOver w s.filed known s e

-- each event is allowed over the state before it
abbrev pub Runs : World → (List ℕ → Bool) → State → List Event → Type 0
Runs w known s [] = Unit {0}
Runs w known s (e ∷ es) = Allowed w known s e × Runs w known (happens s e) es

-- the reads that are filed have the answers of the tree
abbrev pub IsOverEvent : World → Event → Type 0
IsOverEvent w (File seat (Read path) v) = v ≡ found (w.content path)
IsOverEvent w _ = Unit {0}

abbrev pub IsOver : World → List Event → Type 0
IsOver w [] = Unit {0}
IsOver w (e ∷ es) = IsOverEvent w e × IsOver w es

-- no unit is ready, nothing is claimed, nothing stopped: all is loaded, whether or not labels are resolved
abbrev pub HasLoaded : World → State → Type 0
HasLoaded w s = ((u : Unit_key) → IsReady w s (Unit_of u) → ⊥) × ((k : Key) → s.claims k ≡ None) × (s.stops ≡ [])

-- nothing is ready, nothing is claimed, nothing stopped
abbrev pub IsQuiet : World → State → Type 0
IsQuiet w s = ((k : Key) → IsReady w s k → ⊥) × ((k : Key) → s.claims k ≡ None) × (s.stops ≡ [])

-- the opening state has filed the files that the setup knows
pub record IsOpening (w : World) (known : List ℕ → Bool) (s : State) : Type 0 where
  pub reads : (path : List ℕ) → s.filed (Read path) ≡ cond (known path) (Some (found (w.content path))) None
  pub imports : (l : Layer) (path : List ℕ) → s.filed (Import l path) ≡ None
  pub units : (k : Unit_key) → s.filed (Unit_of k) ≡ None
  pub records : (l : Label) → s.filed (Resolve l) ≡ None
  pub claims : (k : Key) → s.claims k ≡ None
  pub blocks : (k : Key) → s.blocks k ≡ None
  pub stops : s.stops ≡ []
