-- The toolchains of a build: the items that define them, and what never changes for the targets of each.
use Rattle.std.specs.Prelude.{ℕ, Bool, true, false, List, [], ◌∷◌, ◌&&◌, Option, Some, None, map, option_map, codes, if◌then◌else◌}
use Rattle.std.specs.Borrow.{Bor}
use Rattle.std.specs.Str.{bytes_eq}
use Rattle.gn_paths.specs.Directory.{gen_directory_of}
use Rattle.gn_calls_path.specs.Directories.{out_directory}
use Rattle.gn_labels.specs.Labels.{spelling}
use Rattle.gn_labels.specs.Toolchains.{toolchain_named}
use Rattle.gn_labels.specs.declared.named.Named.{Named}
use Rattle.gn_rows.specs.declared.kinds.ItemKind.{ItemKind}
use Rattle.gn_rows.specs.declared.kinds.ItemKind.TheVariants as kinds
use Rattle.gn_items.specs.declared.item.Item.{Item}
use Rattle.gn_items.specs.declared.tool.Tool.{Tool}
use Rattle.gn_writing.specs.Names.{rule_prefix}
use Rattle.gn_records.specs.Around.{Around}
use Rattle.gn_records.specs.Bound.{bound_names}

-- what never changes in a build: its directory, its default toolchain by the text of its label, and the program that runs scripts
pub record Surroundings : Type 0 where
  pub build : List ℕ
  pub default : List ℕ
  pub program : List ℕ

-- the items behind references
abbrev pub lent : List (Bor Item) → List Item
lent items = map (λ (item : Bor Item). item.now) items

abbrev pub is_toolchain : ItemKind → Bool
is_toolchain kinds.Toolchain = true
is_toolchain _ = false

-- whether an item defines the toolchain of this text: toolchains are defined under the default one, and named by directory and name alone
abbrev pub is_definition : (default text : List ℕ) → Item → Bool
is_definition default text item =
    is_toolchain item.kind && (bytes_eq item.label.toolchain default && bytes_eq (spelling item.label.dir item.label.name) text)

-- the first of these items that defines it
abbrev pub toolchain_at : (default text : List ℕ) → List Item → Option Item
toolchain_at default text [] = None
toolchain_at default text (item ∷ items) = if is_definition default text item then Some item else toolchain_at default text items

-- its tools; none where no item defines it
abbrev pub tools_in : Option Item → List Tool
tools_in None = []
tools_in (Some item) = item.tools

abbrev pub tools_of : (default text : List ℕ) → List Item → List Tool
tools_of default text items = tools_in (toolchain_at default text items)

-- the name that stands before the names of its tools in rules; the default toolchain has none
abbrev pub prefix_name : (default text : List ℕ) → Option (List ℕ)
prefix_name default text = if bytes_eq text default then None else option_map (λ (n : Named). n.name) (toolchain_named text)

-- what never changes for the targets of a toolchain with these tools
abbrev pub around_with : Surroundings → (text : List ℕ) → List Tool → Around
around_with s text tools = record {
  build = s.build;
  default = s.default;
  program = s.program;
  out = out_directory s.build s.default text;
  generated = gen_directory_of (out_directory s.build s.default text) (codes "//");
  prefix = rule_prefix (prefix_name s.default text);
  tools = tools;
  bound = bound_names tools;
}

-- what never changes for the targets of a toolchain
unfoldable pub around_of : Surroundings → List Item → (text : List ℕ) → Around
around_of s items text = around_with s text (tools_of s.default text items)
