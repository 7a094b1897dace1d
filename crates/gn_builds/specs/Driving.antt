-- The log of loading by one seat, and how far it has come.
use Rattle.std.specs.Prelude.{◌≡◌, ◌⊎◌, ℕ, suc, ◌+◌, ◌-◌, ◌*◌, ◌<◌, ◌≤◌, List, [], ◌∷◌, map, length, Option, Some, None, Bool, true, false, not, ◌&&◌, ◌||◌, is_some, IsSome}
use Rattle.std.specs.List.{filter, list_any}
use Rattle.gn_outside.specs.Tree.{Tree}
use Rattle.gn_outside.specs.States.{SourceRead, SourceState, paths_of}
use Rattle.gn_outside.specs.Lists.{Extends, Each}
use Rattle.gn_outside.specs.Sources.{FailedAt, ReadsOnBy, plain_reads}
use Rattle.gn_runs.specs.Runs.{Content, Imported}
use Rattle.gn_labels.specs.declared.label.Label.{Label}
use Rattle.gn_closure.specs.Closure.{In}
use Rattle.gn_closure.specs.Computed.{load_limit, setup_limit, is_too_large}
use Rattle.gn_graph.specs.Needs.{home}
use Rattle.gn_graph.specs.Numbers.{IsMore}
use Rattle.gn_environment.specs.Chains.{is_one_of}
use Rattle.gn_executions.specs.Base.{BaseState}
use Rattle.gn_core.specs.Keys.{Layer, Key, Read, Import, Unit_of, Resolve, Answer, found, Filed, imported_in, layer_of, units, same_key}
use Rattle.gn_core.specs.Machine.{State, Runs, Leads, IsOver, IsFiled, read_limit}
use Rattle.gn_book.specs.Keys.{key_of}
use Rattle.gn_book.specs.Graphs.{is_unit}
use Rattle.gn_book.specs.Logs.{Log, KeysDiffer, opening, state_of, key_at}
use Rattle.gn_book.specs.Claims.{HasClaim}
use Rattle.gn_book.specs.declared.book.Claim.{Claim}
use Rattle.gn_projects.specs.Files.{Files, files_of}
use Rattle.gn_projects.specs.Worlds.{world_of}
use Rattle.gn_projects.specs.Loaded.{is_build_file}
use Rattle.gn_builds.specs.Stacks.{IsStacked, TopIsReady}

-- an answer is of the kind of its key: what there is at a path, or what an import leaves
abbrev pub IsOfKind : Key → Answer → Type 0
IsOfKind (Read path) v = (content : Content) × (v ≡ found content)
IsOfKind (Import layer path) v = (left : Imported) × (imported_in (Some v) ≡ Some left)
IsOfKind (Unit_of unit) v = Unit {0}
IsOfKind (Resolve label) v = Unit {0}

-- The keys that have numbers: units, what they ask, directly or through imports, and no import whose file isn't read first. Each that is no unit is claimed
-- or filed
pub record AreNamed (names : List Key) (s : State) (ks : List Key) : Type 0 where
  pub begun : (k : Key) → In names k → is_unit k ≡ false → In ks k ⊎ IsFiled s.filed k
  pub imports : (layer : Layer) (path : List ℕ) → In names (Import layer path) → In names (Read path)
  pub labels : (label : Label) → In names (Resolve label) → ⊥
  pub claimed : (k : Key) → In ks k → In names k
  pub filed : (k : Key) → IsFiled s.filed k → In names k
  pub kinds : (k : Key) (v : Answer) → s.filed k ≡ Some v → IsOfKind k v

-- the log of loading by one seat a build that starts with this base, which has claimed these keys, the last one first
pub record IsDriven (start : BaseState) (l : Log) (ks : List Key) : Type 0 where
  pub seats : l.seats ≡ 1
  pub apart : KeysDiffer l
  pub runs : (files : Files) → files.start ≡ start → Runs (world_of files) (λ path. false) opening l.events
  pub stacked : IsStacked (state_of l) ks
  pub ready : TopIsReady (state_of l) ks
  pub named : AreNamed l.keys (state_of l) ks

-- a key has its answer, or is claimed
abbrev pub IsBegun : State → Key → Type 0
IsBegun s k = IsFiled s.filed k ⊎ ((seat : ℕ) × (s.claims k ≡ Some seat))

-- the keys of claims
abbrev pub keys_of : List Claim → List Key
keys_of cs = map (λ (c : Claim). key_of c.key) cs

-- a claim is of the key of its number
pub record IsClaim (l : Log) (c : Claim) : Type 0 where
  pub held : HasClaim l c.number 0
  pub seat : c.seat ≡ 0
  pub key : key_of c.key ≡ key_at l c.number

abbrev pub AreClaims : Log → List Claim → Type 0
AreClaims l cs = Each (IsClaim l) cs

-- another key is needed that has no answer, and where it is claimed the chain of keys that wait leads from it to the key of the claim
pub record IsLacked (l : Log) (c : Claim) (on : Key) : Type 0 where
  pub unfiled : (state_of l).filed on ≡ None
  pub leads : (seat : ℕ) → (state_of l).claims on ≡ Some seat → Leads (state_of l).blocks on (key_of c.key)

-- one more claim
abbrev pub with_claim : Option Claim → List Claim → List Claim
with_claim None cs = cs
with_claim (Some c) cs = c ∷ cs

-- Layers: a seat that works on a unit claims imports of the unit's layer alone

abbrev pub IsOfLayer : Layer → Key → Type 0
IsOfLayer layer (Read path) = Unit {0}
IsOfLayer layer (Import l path) = l ≡ layer
IsOfLayer layer (Unit_of unit) = layer_of unit ≡ layer
IsOfLayer layer (Resolve label) = ⊥

abbrev pub AreOfLayer : Layer → List Key → Type 0
AreOfLayer layer ks = (k : Key) → In ks k → IsOfLayer layer k

-- The measure of the work on one unit: how many files can still be read, how many imports of its layer can still be claimed of files that were read, and how
-- many keys have no answer

abbrev pub one_if : Bool → ℕ
one_if true = 1
one_if false = 0

abbrev pub count_of : (Key → Bool) → List Key → ℕ
count_of test [] = 0
count_of test (k ∷ ks) = one_if (test k) + count_of test ks

abbrev pub is_read : Key → Bool
is_read (Read path) = true
is_read _ = false

-- a file was read that isn't imported yet
abbrev pub is_awaited : Layer → List Key → Key → Bool
is_awaited layer names (Read path) = not (list_any (same_key (Import layer path)) names)
is_awaited layer names _ = false

abbrev pub is_open : Filed → Key → Bool
is_open filed k = not (is_some (filed k))

-- `room`: how many files can still be read, and taken of those that were read before
unfoldable pub remaining : Layer → ℕ → List Key → Filed → ℕ
remaining layer room names filed = 5 * room + (2 * count_of (is_awaited layer names) names + count_of (is_open filed) names)

abbrev pub left_to_do : Layer → ℕ → Log → ℕ
left_to_do layer room l = remaining layer room l.keys (state_of l).filed

-- The measure of the work on all units: how many can still get their answers where no limit on units is exceeded

unfoldable pub unit_limit : ℕ
unit_limit = load_limit + setup_limit

abbrev pub is_finished : Filed → Key → Bool
is_finished filed k = is_unit k && is_some (filed k)

unfoldable pub units_left : Log → ℕ
units_left l = suc unit_limit - count_of (is_finished (state_of l).filed) l.keys

-- Build files

-- it is claimed or has its answer
abbrev pub is_begun : State → Key → Bool
is_begun s k = is_some (s.filed k) || is_some (s.claims k)

abbrev pub is_loaded : State → Key → Bool
is_loaded s k = is_build_file k && is_begun s k

-- how many build files are claimed or have answers
unfoldable pub files_begun : Log → ℕ
files_begun l = count_of (is_loaded (state_of l)) l.keys

-- Reads

-- the paths of the reads among keys, in their order
abbrev pub paths_read : List Key → List (List ℕ)
paths_read [] = []
paths_read (Read path ∷ ks) = path ∷ paths_read ks
paths_read (Import layer path ∷ ks) = paths_read ks
paths_read (Unit_of unit ∷ ks) = paths_read ks
paths_read (Resolve label ∷ ks) = paths_read ks

-- those that weren't known before
unfoldable pub unknown_of : List (List ℕ) → List (List ℕ) → List (List ℕ)
unknown_of known paths = filter (λ path. not (is_one_of path known)) paths

-- the source has read just the paths that have numbers and weren't known before, in their order, and what is filed is what its tree has there
pub record HasRead (start : BaseState) (known : List (List ℕ)) (before now : SourceState) (l : Log) : Type 0 where
  pub tree : now.tree ≡ before.tree
  pub faults : now.faults ≡ before.faults
  pub reads : Extends before.reads now.reads (plain_reads (unknown_of known (paths_read l.keys)))
  pub over : (tree : Tree) → before.tree ≡ Some tree → IsOver (world_of (files_of start tree)) l.events

-- the seat's claims, its reads, and a number of reads that is below the limit
pub record IsGoing (start : BaseState) (known : List (List ℕ)) (before now : SourceState) (l : Log) (cs : List Claim) (reads : ℕ) : Type 0 where
  pub driven : IsDriven start l (keys_of cs)
  pub claims : AreClaims l cs
  pub source : HasRead start known before now l
  pub counted : reads ≡ length (unknown_of known (paths_read l.keys))
  pub few : reads ≤ read_limit

-- Where loading ends before all is loaded

-- whatever has become of it, the source has read paths that have numbers, in their order, and none behind a read that has failed
pub record ReadsNumbered (start : BaseState) (known : List (List ℕ)) (before now : SourceState) : Type 0 where
  pub log : Log
  pub keys : List Key
  pub driven : IsDriven start log keys
  pub over : (tree : Tree) → before.tree ≡ Some tree → IsOver (world_of (files_of start tree)) log.events
  pub reads : List SourceRead
  pub goes : ReadsOnBy before now reads
  pub numbered : IsMore (paths_of reads) (unknown_of known (paths_read log.keys))

-- it has failed at this path, which it has read last
pub record FailsAt (path : List ℕ) (before now : SourceState) : Type 0 where
  pub failed : before.faults < now.faults
  pub last : IsSome before.reads → FailedAt path before now

-- more files were read than a build may ask for, or more units are reached than in a build may be
abbrev pub HasTooMany : List (List ℕ) → Log → Type 0
HasTooMany known l = (read_limit < length (unknown_of known (paths_read l.keys))) ⊎ (is_too_large home (units (state_of l).filed) ≡ true)

abbrev pub IsLarge : BaseState → List (List ℕ) → SourceState → SourceState → Type 0
IsLarge start known before now = (l : Log) × (ks : List Key) × IsDriven start l ks × HasRead start known before now l × HasTooMany known l
