-- The fault to which an import leads that can't be used.
use Rattle.std.specs.Prelude.{◌≡◌, ℕ, zero, suc, Bool, false, if◌then◌else◌, List, [], ◌∷◌, length, Option, Some, None}
use Rattle.std.specs.declared.cmp.Ordering.{Ordering}
use Rattle.std.specs.Ordering.{nat_cmp, ordering_then, is_lt}
use Rattle.std.specs.Cmp.Lexicographic.{slice_cmp}
use Rattle.gn_paths.specs.declared.place.Place.{Place}
use Rattle.gn_definitions.specs.Imported.{ImportState}
use Rattle.gn_faults.specs.declared.code.Code.TheVariants as code
use Rattle.gn_faults.specs.declared.fault.Fault.{Fault}
use Rattle.gn_faults.specs.declared.stage.Stage.TheVariants.{Loading}
use Rattle.gn_runs.specs.Runs.{content_of, import_of, End, ended, wrong, spoiled, needs, Run}
use Rattle.gn_imports.specs.Rounds.{Project, knowing, values}

-- the execution of an import over the last round
unfoldable pub outcome : Project → List ℕ → Run ImportState
outcome project path = project.execute path (knowing project (values project))

-- an import that an execution asks for, and the place of the call
pub record Link : Type 0 where
  pub path : List ℕ
  pub place : Place

-- the first import that spoils an execution, or without whose value it has none
abbrev pub link_of : {A : Type 0} → End A → Option Link
link_of (ended x) = None
link_of (wrong fault) = None
link_of (spoiled path place) = Some (record { path = path; place = place })
link_of (needs (content_of path) place) = None
link_of (needs (import_of path) place) = Some (record { path = path; place = place })

abbrev pub link : Project → List ℕ → Option Link
link project path = link_of (outcome project path).end

-- places go by file, then line, then column
abbrev pub place_cmp : Place → Place → Ordering
place_cmp p q = ordering_then (slice_cmp nat_cmp p.file q.file) (ordering_then (nat_cmp p.line q.line) (nat_cmp p.column q.column))

-- whether a place stands before another
abbrev pub is_before : Place → Place → Bool
is_before p q = is_lt (place_cmp p q)

-- the earlier of two places
abbrev pub earlier : Place → Place → Place
earlier p q = if is_before q p then q else p

-- the least of a place and the places of these calls
abbrev pub least_among : Place → List Link → Place
least_among p [] = p
least_among p (l ∷ ls) = least_among (earlier p l.place) ls

-- the least place of these calls
abbrev pub least_place : List Link → Option Place
least_place [] = None
least_place (l ∷ ls) = Some (least_among l.place ls)

abbrev pub linked_on : Option Link → (List ℕ → List Link) → List Link
linked_on None next = []
linked_on (Some l) next = l ∷ next l.path

-- so many links from an import, each from the import to which the one before it leads
abbrev pub links_from : Project → ℕ → List ℕ → List Link
links_from project zero path = []
links_from project (suc n) path = linked_on (link project path) (links_from project n)

-- an import cycle, at a place
abbrev pub cycle_fault : Option Place → Fault
cycle_fault place = record { stage = Loading; place = place; toolchain = []; code = code.ImportCycle; detail = [] }

abbrev pub linked_cause : End ImportState → Option Link → (List ℕ → Fault) → Fault → Fault
linked_cause (wrong fault) l next cycle = fault
linked_cause end None next cycle = cycle
linked_cause end (Some l) next cycle = next l.path

-- The links from an import lead to a wrong import, or go round a cycle. After as many links as there are files they go round, and as many and one more
-- go all round it: the least place among their calls is that of the cycle.
abbrev pub cause_within : Project → ℕ → List ℕ → Fault
cause_within project zero path = cycle_fault (least_place (links_from project (suc (length project.paths)) path))
cause_within project (suc n) path =
    linked_cause (outcome project path).end (link project path) (cause_within project n) (cycle_fault (least_place (links_from project (suc (length project.paths)) path)))

-- the fault to which an import leads that can't be used
unfoldable pub cause : Project → List ℕ → Fault
cause project path = cause_within project (suc (length project.paths)) path

-- What the links of a project say of it.

abbrev pub led_by : Option Link → (List ℕ → Option (List ℕ)) → Option (List ℕ)
led_by None next = None
led_by (Some l) next = next l.path

-- where so many links lead, if there are so many
abbrev pub led : (List ℕ → Option Link) → ℕ → List ℕ → Option (List ℕ)
led next zero path = Some path
led next (suc n) path = led_by (next path) (led next n)

-- links lead from an import to another, or it is that one
abbrev pub LeadsTo : Project → List ℕ → List ℕ → Type 0
LeadsTo project path q = (n : ℕ) × (led (link project) n path ≡ Some q)

-- links lead from an import to one with this link, or it has the link itself
abbrev pub LeadsToCall : Project → List ℕ → Link → Type 0
LeadsToCall project path l = (q : List ℕ) × LeadsTo project path q × (link project q ≡ Some l)

-- the link of an import leads back to it
abbrev pub IsOnCycle : Project → List ℕ → Type 0
IsOnCycle project path = (l : Link) × (link project path ≡ Some l) × LeadsTo project l.path path

-- the least place of the calls to which links lead from an import
pub record IsLeastPlace (project : Project) (path : List ℕ) (place : Place) : Type 0 where
  pub found : (l : Link) × LeadsToCall project path l × (l.place ≡ place)
  pub least : (l : Link) → LeadsToCall project path l → is_before l.place place ≡ false
