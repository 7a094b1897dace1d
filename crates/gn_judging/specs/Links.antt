-- Where the links of imports lead that can't be used.
use Rattle.std.specs.Prelude.{◌≡◌, ℕ, List, Option, Some, None}
use Rattle.gn_definitions.specs.Imported.{ImportState}
use Rattle.gn_runs.specs.Runs.{is_unusable, wrong, Run}
use Rattle.gn_imports.specs.Causes.{led}
use Rattle.gn_core.specs.Keys.{Layer, Leaving, Import, Answer, import_is, imported_in}
use Rattle.gn_core.specs.Machine.{import_limit}
use Rattle.gn_book.specs.Logs.{Log, state_of}
use Rattle.gn_projects.specs.Errors.{link_filed}
use Rattle.gn_builds.specs.Causes.{link_at}
use Rattle.gn_judging.specs.declared.causes.Led.{Led}
use Rattle.gn_judging.specs.declared.causes.Led.TheVariants as to

-- what an answer leads to
abbrev pub IsLedBy : Option Answer → Led → Type 0
IsLedBy v (to.Fault fault) = (run : Run (Leaving ImportState)) × (v ≡ Some (import_is run)) × (run.end ≡ wrong fault.now)
IsLedBy v (to.Import path place) = link_filed v ≡ Some (record { path = path.now; place = place.now })
IsLedBy v to.Nothing = (link_filed v ≡ None) × (imported_in v ≡ Some is_unusable → ⊥)

-- links of a layer lead to an import with a fault, or after as many as an import may need imports to one that has a link
abbrev pub IsFollowed : Layer → Log → List ℕ → Led → Type 0
IsFollowed layer l path (to.Fault fault) =
    (n : ℕ) × (q : List ℕ) × (run : Run (Leaving ImportState)) × (led (link_at layer l) n path ≡ Some q) × ((state_of l).filed (Import layer q) ≡ Some (import_is run)) × (run.end ≡ wrong fault.now)
IsFollowed layer l path (to.Import next place) =
    (q : List ℕ) × (led (link_at layer l) import_limit path ≡ Some q) × (link_at layer l q ≡ Some (record { path = next.now; place = place.now }))
IsFollowed layer l path to.Nothing = ⊥
