-- What the turns of loading by one seat do.
use Rattle.std.specs.Prelude.{◌≡◌, ◌⊎◌, ℕ, suc, ◌+◌, ◌-◌, ◌<◌, ◌≤◌, List, [], ◌∷◌, map, length, Option, Some, None, true, false, Result, Ok, Err}
use Rattle.gn_paths.specs.declared.place.Place.{Place}
use Rattle.gn_outside.specs.Tree.{Tree, read_of}
use Rattle.gn_outside.specs.States.{SourceState}
use Rattle.gn_outside.specs.Lists.{Extends, Each}
use Rattle.gn_outside.specs.Sources.{plain_reads}
use Rattle.gn_runs.specs.Runs.{Question, Content}
use Rattle.gn_values.specs.Tables.{at_name, without_name}
use Rattle.gn_closure.specs.Closure.{In}
use Rattle.gn_closure.specs.Reach.{Unit_key}
use Rattle.gn_executions.specs.Base.{BaseState}
use Rattle.gn_core.specs.Keys.{Key, Read, Unit_of, Answer, found, no_value}
use Rattle.gn_core.specs.Machine.{Block, File, Leads, read_limit}
use Rattle.gn_core.specs.Layered.{IsPart}
use Rattle.gn_book.specs.Keys.{key_of}
use Rattle.gn_book.specs.Logs.{Log, state_of, with_key, with_event, IsFree}
use Rattle.gn_book.specs.declared.book.Claim.{Claim}
use Rattle.gn_projects.specs.Files.{content_in}
use Rattle.gn_builds.specs.Stacks.{MayWait}
use Rattle.gn_builds.specs.Working.{IsInNeed, AsksContent}
use Rattle.gn_builds.specs.Driving.{keys_of as claimed_keys, IsClaim, with_claim, IsGoing, AreOfLayer, ReadsNumbered, FailsAt, IsLarge, left_to_do, IsBegun}
use Rattle.gn_answers.specs.Answers.{content_view}
use Rattle.gn_load.specs.Current.{layer_now, IsCurrent}
use Rattle.gn_answers.specs.declared.answer.FileContent.{FileContent}
use Rattle.gn_load.specs.declared.driver.Driver.{Driver}
use Rattle.gn_load.specs.declared.driver.Stop.{Stop}
use Rattle.gn_load.specs.declared.driver.Stop.TheVariants.{Failed, TooLarge, Memory}

-- the key of a claim waits for another, which the seat claims too; or that closes a cycle
abbrev pub TakesAs : Log → Log → Claim → Key → Place → Option Claim → Type 0
TakesAs old new c on place (Some other) =
    (new ≡ with_event (with_key old on) (Block 0 (key_of c.key) on place false)) × IsFree (state_of old) on × IsClaim new other × (key_of other.key ≡ on)
TakesAs old new c on place None =
    (new ≡ with_event (with_key old on) (Block 0 (key_of c.key) on place true)) × Leads (state_of old).blocks on (key_of c.key)

-- over what is filed the evaluation of the key of a claim needs another key, for a call at a place
abbrev pub IsNeeded : BaseState → Log → Claim → Key → Place → List Question → Type 0
IsNeeded start l c on place asked = IsInNeed start (state_of l).filed (key_of c.key) on place asked × AsksContent on asked

-- what was read before a build is loaded, as it is told
abbrev pub known_paths : List (List ℕ × FileContent) → List (List ℕ)
known_paths known = map (λ (e : List ℕ × FileContent). e.0) known

-- of what was read before, this is left that isn't filed; where the source tells its tree, it is what stands there
pub record KeepsKnown (known : List (List ℕ)) (before : SourceState) (left : List (List ℕ × FileContent)) (keys : List Key) : Type 0 where
  pub all : (path : List ℕ) → In known path → In (known_paths left) path ⊎ In keys (Read path)
  pub only : (path : List ℕ) → In (known_paths left) path → In known path
  pub told : (tree : Tree) → before.tree ≡ Some tree → Each (λ (e : List ℕ × FileContent). content_view e.1 ≡ content_in (read_of tree e.0)) left

-- The driver goes on with these claims. It has the base of their layer, and what was read before and isn't filed; what is filed was read, or was read before
pub record Goes (known : List (List ℕ)) (before now : SourceState) (d : Driver) (cs : List Claim) : Type 0 where
  pub going : IsGoing d.base.start known before now d.book cs d.reads
  pub base : IsCurrent d.base (state_of d.book).filed
  pub layer : AreOfLayer (layer_now d.base) (claimed_keys cs)
  pub kept : KeepsKnown known before d.known.entries d.book.keys

-- the rest of the driver stays
pub record IsStill (old new : Driver) : Type 0 where
  pub base : new.base ≡ old.base
  pub known : new.known.entries ≡ old.known.entries
  pub reads : new.reads ≡ old.reads

-- Where loading ends before all is loaded

-- a read has failed, the build is too large, or memory was wanting
abbrev pub IsStop : BaseState → List (List ℕ) → SourceState → SourceState → Stop → Type 0
IsStop start known before now (Failed path) = ReadsNumbered start known before now × FailsAt path before now
IsStop start known before now TooLarge = IsLarge start known before now
IsStop start known before now Memory = ReadsNumbered start known before now × (now.faults ≡ before.faults)

-- Turns

-- the answer of a read is filed, and counted
pub record IsCounted (old new : Driver) (c : Claim) (v : Answer) : Type 0 where
  pub book : new.book ≡ with_event old.book (File 0 (key_of c.key) v)
  pub waiting : new.waiting ≡ old.waiting
  pub begins : (new.base ≡ old.base) × (new.known ≡ old.known)
  pub reads : new.reads ≡ old.reads + 1

abbrev pub ReadsAs : Driver → Driver → Claim → Answer → Result (Unit {0}) Stop → Type 0
ReadsAs old new c v (Ok u) = IsCounted old new c v × (new.reads ≤ read_limit)
ReadsAs old new c v (Err (Failed path)) = ⊥
ReadsAs old new c v (Err TooLarge) = IsCounted old new c v × (read_limit < new.reads)
ReadsAs old new c v (Err Memory) = Unit {0}

-- the source has read this path, and what it has there is filed
pub record IsReadAt (before after : SourceState) (old new : Driver) (c : Claim) (path : List ℕ) (r : Result (Unit {0}) Stop) : Type 0 where
  pub content : Content
  pub is : (tree : Tree) → before.tree ≡ Some tree → content ≡ content_in (read_of tree path)
  pub filed : ReadsAs old new c (found content) r
  pub tree : after.tree ≡ before.tree
  pub faults : after.faults ≡ before.faults
  pub reads : Extends before.reads after.reads (plain_reads (path ∷ []))

-- it has failed there
pub record IsFailedRead (before after : SourceState) (path : List ℕ) : Type 0 where
  pub tree : after.tree ≡ before.tree
  pub faults : before.faults < after.faults
  pub reads : Extends before.reads after.reads (record { path = path; failed = true } ∷ [])

-- memory was wanting, before the read or after it
pub record IsLostRead (before after : SourceState) (path : List ℕ) : Type 0 where
  pub tree : after.tree ≡ before.tree
  pub faults : after.faults ≡ before.faults
  pub reads : Extends before.reads after.reads (plain_reads (path ∷ [])) ⊎ (after.reads ≡ before.reads)

abbrev pub IsReadOf : SourceState → SourceState → Driver → Driver → Claim → List ℕ → Result (Unit {0}) Stop → Type 0
IsReadOf before after old new c path (Ok u) = IsReadAt before after old new c path (Ok u)
IsReadOf before after old new c path (Err (Failed p)) = (p ≡ path) × IsFailedRead before after path
IsReadOf before after old new c path (Err TooLarge) = IsReadAt before after old new c path (Err TooLarge)
IsReadOf before after old new c path (Err Memory) = IsLostRead before after path

-- what the work on the claim of a read comes to
abbrev pub IsRead : SourceState → SourceState → Driver → Driver → Claim → Result (Unit {0}) Stop → Type 0
IsRead before after old new c r = (path : List ℕ) → key_of c.key ≡ Read path → IsReadOf before after old new c path r

-- what was read before at a path is taken out
pub record IsTakenFrom (path : List ℕ) (old new : Driver) : Type 0 where
  pub known : new.known.entries ≡ without_name path old.known.entries
  pub base : new.base ≡ old.base
  pub waiting : new.waiting ≡ old.waiting
  pub reads : new.reads ≡ old.reads

abbrev pub IsTaken : List ℕ → Driver → Driver → Type 0
IsTaken path old new = IsTakenFrom path old new × (new.book ≡ old.book)

-- what was read before at the path of a key, if it was, and the rest of that
abbrev pub IsKnownAt : Driver → Driver → Key → Option FileContent → Type 0
IsKnownAt old new (Read path) content = (content ≡ at_name path old.known.entries) × IsTaken path old new
IsKnownAt old new k content = (content ≡ None) × (new ≡ old)

-- what was read before is filed
pub record IsFiledFrom (old new : Driver) (c : Claim) (content : FileContent) : Type 0 where
  pub book : new.book ≡ with_event old.book (File 0 (key_of c.key) (found (content_view content)))
  pub base : new.base ≡ old.base
  pub known : new.known ≡ old.known
  pub waiting : new.waiting ≡ old.waiting
  pub reads : new.reads ≡ old.reads

-- the answer of a read that was known before is filed, and the source isn't asked
pub record IsFiledKnown (before after : SourceState) (old new : Driver) (c : Claim) (path : List ℕ) (content : FileContent) : Type 0 where
  pub middle : Driver
  pub taken : IsTaken path old middle
  pub filed : IsFiledFrom middle new c content
  pub source : after ≡ before

abbrev pub IsReadKnown : SourceState → SourceState → Driver → Driver → Claim → List ℕ → FileContent → Result (Unit {0}) Stop → Type 0
IsReadKnown before after old new c path content (Ok u) = IsFiledKnown before after old new c path content
IsReadKnown before after old new c path content (Err stop) = (stop ≡ Memory) × (after ≡ before)

-- what the source has there is filed, which wasn't known before
abbrev pub IsReadNew : SourceState → SourceState → Driver → Driver → Claim → List ℕ → Result (Unit {0}) Stop → Type 0
IsReadNew before after old new c path r = (middle : Driver) × IsTaken path old middle × IsReadOf before after middle new c path r

abbrev pub ReadsOnce : SourceState → SourceState → Driver → Driver → Claim → List ℕ → Option FileContent → Result (Unit {0}) Stop → Type 0
ReadsOnce before after old new c path None r = IsReadNew before after old new c path r
ReadsOnce before after old new c path (Some content) r = IsReadKnown before after old new c path content r

abbrev pub IsReadOnce : SourceState → SourceState → Driver → Driver → Claim → Result (Unit {0}) Stop → Type 0
IsReadOnce before after old new c r = (path : List ℕ) → key_of c.key ≡ Read path → ReadsOnce before after old new c path (at_name path old.known.entries) r

-- nothing is left to go on with only where no claim waits
abbrev pub IsNextOf : Option Claim → List Claim → Type 0
IsNextOf None cs = cs ≡ []
IsNextOf (Some c) cs = Unit {0}

-- the answer of a claim is filed, and the seat goes on with the one behind it
pub record Settles (old new : Driver) (c : Claim) (v : Answer) (first : Option Claim) : Type 0 where
  pub book : new.book ≡ with_event old.book (File 0 (key_of c.key) v)
  pub waiting : old.waiting.items ≡ with_claim first new.waiting.items
  pub next : IsNextOf first new.waiting.items
  pub rest : IsStill old new

-- a claim waits for another one, with which the seat goes on
pub record Waits (old new : Driver) (c other : Claim) (first : Option Claim) : Type 0 where
  pub next : first ≡ Some other
  pub waiting : new.waiting.items ≡ c ∷ old.waiting.items
  pub book : new.book ≡ old.book
  pub rest : IsStill old new

-- a claim waits for the import that was taken for it, or it has no value, where its wait has closed a cycle
abbrev pub AwaitsImport : Driver → Driver → Claim → List ℕ → Place → List Question → Option Claim → Option Claim → Type 0
AwaitsImport old new c path place asked (Some other) next = Waits old new c other next
AwaitsImport old new c path place asked None next = Settles old new c (no_value path place asked) next

-- how many files it can still read, and take of those that were read before
abbrev pub room_of : Driver → ℕ
room_of d = (suc read_limit - d.reads) + length d.known.entries

-- the driver goes on, and less is left to do; no key and no answer goes, and no unit is taken up
pub record IsTurned (known : List (List ℕ)) (before now : SourceState) (old new : Driver) (cs : List Claim) : Type 0 where
  pub goes : Goes known before now new cs
  pub base : new.base ≡ old.base
  pub less : left_to_do (layer_now old.base) (room_of new) new.book < left_to_do (layer_now old.base) (room_of old) old.book
  pub begun : (k : Key) → IsBegun (state_of old.book) k → IsBegun (state_of new.book) k
  pub more : IsPart (state_of old.book).filed (state_of new.book).filed
  pub units : (u : Unit_key) → IsBegun (state_of new.book) (Unit_of u) → IsBegun (state_of old.book) (Unit_of u)

-- want of memory ends loading
abbrev pub IsLifted : {E : Type 0} → Result (Option Claim) E → Result (Option Claim) Stop → Type 0
IsLifted (Ok next) r = r ≡ Ok next
IsLifted (Err e) r = r ≡ Err Memory

-- no read goes on: it is done in the turn in which it is claimed
abbrev pub MayGoOn : Option Claim → Type 0
MayGoOn None = Unit {0}
MayGoOn (Some c) = MayWait (key_of c.key)

-- what one turn comes to
abbrev pub IsTurn : List (List ℕ) → SourceState → SourceState → Driver → Driver → Result (Option Claim) Stop → Type 0
IsTurn known before now old new (Ok next) = IsTurned known before now old new (with_claim next new.waiting.items) × IsNextOf next new.waiting.items × MayGoOn next
IsTurn known before now old new (Err stop) = IsStop old.base.start known before now stop

-- what the read of a file comes to, for which the key of a claim waits
abbrev pub IsReadFor : List (List ℕ) → SourceState → SourceState → Driver → Driver → Claim → Result (Unit {0}) Stop → Type 0
IsReadFor known before now old new c (Ok u) = IsTurned known before now old new (c ∷ new.waiting.items) × (new.waiting ≡ old.waiting)
IsReadFor known before now old new c (Err stop) = IsStop old.base.start known before now stop

-- what the work on a unit and on all that it needs comes to
abbrev pub IsFinish : List (List ℕ) → SourceState → SourceState → Driver → Driver → Result (Unit {0}) Stop → Type 0
IsFinish known before now old new (Ok u) = IsTurned known before now old new [] × (new.waiting.items ≡ [])
IsFinish known before now old new (Err stop) = IsStop old.base.start known before now stop
