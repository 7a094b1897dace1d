-- What a unit that is done needs of others, as its items say it: the labels of targets, and the pools of the tools of toolchains.
use Rattle.std.specs.Prelude.{ℕ, Bool, true, false, List, [], ◌∷◌, ◌++◌, Option, if◌then◌else◌}
use Rattle.std.specs.List.{flat_map}
use Rattle.gn_labels.specs.declared.label.Label.{Label}
use Rattle.gn_labels.specs.Labels.{spelling}
use Rattle.gn_rows.specs.declared.kinds.ItemKind.{ItemKind}
use Rattle.gn_rows.specs.declared.kinds.ItemKind.TheVariants as kinds
use Rattle.gn_rows.specs.declared.variable.Variable.{Variable}
use Rattle.gn_rows.specs.declared.variable.Variable.TheVariants.{PublicDeps, Deps, DataDeps, Configs, PublicConfigs, AllDependentConfigs, Pool}
use Rattle.gn_rows.specs.Names.{is_target}
use Rattle.gn_define.specs.Fields.{field_at, labels_of}
use Rattle.gn_items.specs.declared.item.Item.{Item}
use Rattle.gn_items.specs.declared.tool.Tool.{Tool}
use Rattle.gn_items.specs.declared.default_toolchain.DefaultToolchain.{DefaultToolchain}
use Rattle.gn_closure.specs.Reach.{Target, Toolchain, Done}
use Rattle.gn_projects.specs.Files.{toolchain_text}

-- the labels that an item has at a variable
abbrev pub labels_at : Item → Variable → List Label
labels_at item variable = labels_of (field_at item.fields variable)

-- the dependencies of a target, in dependency order, and what else it needs: its configurations and its pool
abbrev pub dependencies_of : Item → List Label
dependencies_of item = labels_at item PublicDeps ++ (labels_at item Deps ++ labels_at item DataDeps)

abbrev pub others_of : Item → List Label
others_of item = labels_at item Configs ++ (labels_at item PublicConfigs ++ (labels_at item AllDependentConfigs ++ labels_at item Pool))

abbrev pub target_of : Item → Target
target_of item = record { name = item.label.name; deps = dependencies_of item; others = others_of item }

-- the text by which labels name a toolchain, and the pools of its tools
abbrev pub toolchain_name : Item → List ℕ
toolchain_name item = spelling item.label.dir item.label.name

abbrev pub pools_of : Tool → List Label
pools_of tool = labels_of (field_at tool.fields Pool)

abbrev pub toolchain_of : Item → Toolchain
toolchain_of item = record { name = toolchain_name item; pools = flat_map pools_of item.tools }

abbrev pub is_toolchain : ItemKind → Bool
is_toolchain kinds.Toolchain = true
is_toolchain _ = false

-- the targets and the toolchains among items, in their order
abbrev pub target_in : Item → List Target
target_in item = if is_target item.kind then target_of item ∷ [] else []

abbrev pub toolchain_in : Item → List Toolchain
toolchain_in item = if is_toolchain item.kind then toolchain_of item ∷ [] else []

-- what a build file needs that has these items
abbrev pub file_needs : List Item → Done
file_needs items = record { default = []; targets = flat_map target_in items; toolchains = flat_map toolchain_in items }

-- what a build configuration needs that has named this default toolchain
abbrev pub configuration_needs : Option DefaultToolchain → Done
configuration_needs named = record { default = toolchain_text named; targets = []; toolchains = [] }
