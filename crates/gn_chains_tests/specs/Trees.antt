-- What a graph in memory says of its items.
use Rattle.std.specs.Prelude.{List, [], Option, Some, None, Bool, false, IfSome, option_map}
use Rattle.indexmap.specs.IndexMap.{get}
use Rattle.gn_paths.specs.declared.place.Place.{Place}
use Rattle.gn_labels.specs.declared.label.Label.{Label}
use Rattle.gn_labels.specs.declared.pattern.Pattern.{Pattern}
use Rattle.gn_labels.specs.contracts.label.LabelPartialEq.TheImpl.{eq-value}
use Rattle.gn_rows.specs.declared.variable.Variable.{Variable}
use Rattle.gn_rows.specs.declared.variable.Variable.TheVariants.{PublicDeps, Deps, DataDeps, Configs, AllDependentConfigs, PublicConfigs, Pool}
use Rattle.gn_dependencies.specs.Shape.{Shape}
use Rattle.gn_dependencies.specs.Configurations.{Records, IsPushed, IsPushedPublic}
use Rattle.gn_chains_tests.specs.declared.tree.Item.{Item}
use Rattle.gn_chains_tests.specs.declared.tree.Record.{Record}
use Rattle.gn_chains_tests.specs.declared.tree.Tree.{Tree}

abbrev pub item_in : Tree → Label → Option Item
item_in t label = get eq-value.it t.items label

abbrev pub record_in : Tree → Label → Option Record
record_in t label = get eq-value.it t.records label

abbrev pub list_at : Item → Variable → List Label
list_at item PublicDeps = item.public_deps.items
list_at item Deps = item.deps.items
list_at item DataDeps = item.data_deps.items
list_at item Configs = item.configs.items
list_at item AllDependentConfigs = item.all_dependent_configs.items
list_at item PublicConfigs = item.public_configs.items
list_at item Pool = item.pool.items
list_at item _ = []

abbrev pub list_of : Option Item → Variable → List Label
list_of None variable = []
list_of (Some item) variable = list_at item variable

abbrev pub shape_in : Tree → Shape
shape_in t = record { lists = λ label. list_of (item_in t label); kind = λ label. option_map (λ (item : Item). item.kind) (item_in t label) }

abbrev pub pushed_of : Option Record → List Label
pushed_of None = []
pushed_of (Some r) = r.pushed.items

abbrev pub pushed_public_of : Option Record → List Label
pushed_public_of None = []
pushed_public_of (Some r) = r.pushed_public.items

abbrev pub records_in : Tree → Records
records_in t = record { pushed = λ label. pushed_of (record_in t label); pushed_public = λ label. pushed_public_of (record_in t label) }

abbrev pub visibility_of : Option Item → Option (List Pattern)
visibility_of None = None
visibility_of (Some item) = option_map (λ patterns. patterns.items) item.visibility

abbrev pub visibility_in : Tree → Label → Option (List Pattern)
visibility_in t label = visibility_of (item_in t label)

abbrev pub testonly_of : Option Item → Bool
testonly_of None = false
testonly_of (Some item) = item.testonly

abbrev pub testonly_in : Tree → Label → Bool
testonly_in t label = testonly_of (item_in t label)

abbrev pub forbidden_of : Option Item → List Pattern
forbidden_of None = []
forbidden_of (Some item) = item.assert_no_deps.items

abbrev pub forbidden_in : Tree → Label → List Pattern
forbidden_in t label = forbidden_of (item_in t label)

abbrev pub place_of : Option Item → Option Place
place_of item = option_map (λ (item : Item). item.place) item

abbrev pub places_in : Tree → Label → Option Place
places_in t label = place_of (item_in t label)

-- a record says what its target hands on
abbrev pub IsRight : Shape → Label → Record → Type 0
IsRight g label r = IsPushed g label r.pushed.items × IsPushedPublic g label r.pushed_public.items

-- each record that is there says so
abbrev pub HoldsRecords : Tree → Type 0
HoldsRecords t = (label : Label) → IfSome (record_in t label) (IsRight (shape_in t) label)
