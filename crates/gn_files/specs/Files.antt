-- The Ninja files of a build: build.ninja, those of toolchains and those of targets.
use Rattle.std.specs.Prelude.{ℕ, ℤ, pos, Bool, true, false, List, [], ◌∷◌, ◌++◌, ◌&&◌, not, Option, Some, None, Result, Ok, Err, map, filter, codes, if◌then◌else◌}
use Rattle.std.specs.List.{flat_map, list_any, fold}
use Rattle.std.specs.BTreeMap.{insert_entry}
use Rattle.std.specs.Ordering.{nat_cmp}
use Rattle.std.specs.Cmp.Lexicographic.{slice_cmp}
use Rattle.std.specs.Str.{bytes_eq}
use Rattle.gn_paths.specs.Directory.{obj_directory_of}
use Rattle.gn_paths.specs.Rebase.{seen_from}
use Rattle.gn_paths.specs.Resolve.{path_meant}
use Rattle.gn_paths.specs.declared.error.PathFault.{PathFault}
use Rattle.gn_labels.specs.declared.label.Label.{Label}
use Rattle.gn_labels.specs.declared.key.LabelKey.{LabelKey}
use Rattle.gn_labels.specs.contracts.key.LabelKeyOrd.TheImpl.{cmp-value}
use Rattle.gn_labels.specs.Keys.{key_of}
use Rattle.gn_rows.specs.declared.kinds.ItemKind.{ItemKind}
use Rattle.gn_rows.specs.declared.kinds.ItemKind.TheVariants as kinds
use Rattle.gn_rows.specs.declared.variable.Variable.TheVariants.{Pool as PoolOf, Depth}
use Rattle.gn_define.specs.Fields.{field_at, labels_of, count_of}
use Rattle.gn_items.specs.declared.item.Item.{Item}
use Rattle.gn_items.specs.declared.tool.Tool.{Tool as ItemTool}
use Rattle.gn_writing.specs.declared.records.Tool.{Tool}
use Rattle.gn_items.specs.Effects.{item_at}
use Rattle.gn_writing.specs.Kinds.{target_blocks, toolchain_blocks}
use Rattle.gn_writing.specs.Lines.{Line}
use Rattle.gn_writing.specs.Names.{pool_name}
use Rattle.gn_writing.specs.declared.records.Written.{Written}
use Rattle.gn_records.specs.Around.{Around}
use Rattle.gn_records.specs.ToolTexts.{tools_written}
use Rattle.gn_toolchains.specs.Toolchains.{Surroundings, around_of}
use Rattle.gn_resolve.specs.Resolved.{record_at}
use Rattle.gn_ninja.specs.Format.{text_of_file}
use Rattle.gn_ninja.specs.Root.{Root, root_blocks}
use Rattle.gn_ninja.specs.Claims.{Claimant, claims_of}
use Rattle.gn_ninja.specs.Taken.{taken_by}
use Rattle.gn_ninja.specs.declared.root.Pool.{Pool}
use Rattle.gn_labelled.specs.Graphs.{kind_at}
use Rattle.gn_records.specs.declared.records.Record.{Record}
use Rattle.gn_outside.specs.States.{PutFile}

-- Where files stand

-- a path that was found, and else another
abbrev pub or_other : List ℕ → Result (List ℕ) PathFault → List ℕ
or_other other (Ok path) = path
or_other other (Err fault) = other

-- the path that a name means in a directory; where it is no path, the directory stands for it
unfoldable pub path_in : (directory name : List ℕ) → List ℕ
path_in directory name = or_other directory (path_meant directory name)

-- what is known when files are written: what never changes for the targets of a toolchain, by its text, and the records of targets
pub record Knowledge : Type 0 where
  pub around : (toolchain : List ℕ) → Option Around
  pub target : Label → Option Record

-- the output directory of a toolchain; where it isn't known, the build directory
abbrev pub out_in : (build : List ℕ) → Option Around → List ℕ
out_in build None = build
out_in build (Some a) = a.out

abbrev pub out_of : Surroundings → Knowledge → (toolchain : List ℕ) → List ℕ
out_of s k toolchain = out_in s.build (k.around toolchain)

-- build.ninja in the build directory; toolchain.ninja in the output directory of a toolchain; the file of a target in the directory of its stamp
abbrev pub root_path : Surroundings → List ℕ
root_path s = path_in s.build (codes "build.ninja")

abbrev pub toolchain_path : Surroundings → Knowledge → (toolchain : List ℕ) → List ℕ
toolchain_path s k toolchain = path_in (out_of s k toolchain) (codes "toolchain.ninja")

abbrev pub target_path : Surroundings → Knowledge → Label → List ℕ
target_path s k t = path_in (obj_directory_of (out_of s k t.toolchain) t.dir) (t.name ++ codes ".ninja")

-- a path as a line of build.ninja or toolchain.ninja names it
abbrev pub seen : Surroundings → List ℕ → List ℕ
seen s path = seen_from s.build path

-- What is used

-- the toolchains of some targets, in the order of the bytes of their texts, each once
abbrev pub with_member : List (List ℕ × Unit {0}) → List ℕ → List (List ℕ × Unit {0})
with_member es text = insert_entry (slice_cmp nat_cmp) es text tt

unfoldable pub toolchains_of : List Label → List (List ℕ)
toolchains_of ts = map (λ e. e.0) (fold with_member [] (map (λ (t : Label). t.toolchain) ts))

abbrev pub is_other : (default : List ℕ) → List ℕ → Bool
is_other default text = not (bytes_eq text default)

-- the toolchains that have a file: the default one always and first, and the others of some targets
unfoldable pub toolchains_used : (default : List ℕ) → List Label → List (List ℕ)
toolchains_used default ts = default ∷ filter (is_other default) (toolchains_of ts)

-- the targets of a toolchain, in their order
abbrev pub is_under : (toolchain : List ℕ) → Label → Bool
is_under toolchain t = bytes_eq t.toolchain toolchain

abbrev pub under : (toolchain : List ℕ) → List Label → List Label
under toolchain ts = filter (is_under toolchain) ts

-- a pool that is Ninja's own isn't among those that are used
abbrev pub is_own_of_ninja : (default : List ℕ) → Label → Bool
is_own_of_ninja default pool = bytes_eq (pool_name default pool) (codes "console")

-- pools by their keys, which are in label order, and one more, and several more
abbrev pub with_pool : (default : List ℕ) → List (LabelKey × Label) → Label → List (LabelKey × Label)
with_pool default es pool = if is_own_of_ninja default pool then es else insert_entry cmp-value.it es (key_of default pool) pool

abbrev pub with_pools : (default : List ℕ) → List (LabelKey × Label) → List Label → List (LabelKey × Label)
with_pools default es pools = fold (with_pool default) es pools

-- the pools that an item names, and those that tools name
abbrev pub pools_named : Option Item → List Label
pools_named None = []
pools_named (Some item) = labels_of (field_at item.fields PoolOf)

abbrev pub with_pools_of_target : (default : List ℕ) → List Item → List (LabelKey × Label) → Label → List (LabelKey × Label)
with_pools_of_target default items es t = with_pools default es (pools_named (item_at t items))

abbrev pub with_pools_of_tool : (default : List ℕ) → List (LabelKey × Label) → ItemTool → List (LabelKey × Label)
with_pools_of_tool default es t = with_pools default es (labels_of (field_at t.fields PoolOf))

abbrev pub item_tools : Option Around → List ItemTool
item_tools None = []
item_tools (Some a) = a.tools

abbrev pub with_pools_of_tools : (default : List ℕ) → Knowledge → List (LabelKey × Label) → (toolchain : List ℕ) → List (LabelKey × Label)
with_pools_of_tools default k es toolchain = fold (with_pools_of_tool default) es (item_tools (k.around toolchain))

-- the pools that targets and the tools of their toolchains name, by their keys
abbrev pub pool_table : (default : List ℕ) → Knowledge → List Item → List Label → List (LabelKey × Label)
pool_table default k items ts = fold (with_pools_of_tools default k) (fold (with_pools_of_target default items) [] ts) (toolchains_of ts)

-- the same in label order, each once
unfoldable pub pools_used : (default : List ℕ) → Knowledge → List Item → List Label → List Label
pools_used default k items ts = map (λ e. e.1) (pool_table default k items ts)

-- Files

abbrev pub file : (path bytes : List ℕ) → PutFile
file path bytes = (path, bytes)

-- what is written of a target, and its done file; nothing where it has no record
abbrev pub written_in : Option Record → List Written
written_in None = []
written_in (Some r) = r.written ∷ []

abbrev pub done_in : Option Record → List ℕ
done_in None = []
done_in (Some r) = r.exports.done

abbrev pub done_of : Knowledge → Label → List ℕ
done_of k t = done_in (k.target t)

-- the file of a target
abbrev pub target_text : Option Record → List ℕ
target_text None = []
target_text (Some r) = text_of_file (target_blocks r.written)

abbrev pub target_out : Surroundings → Knowledge → Label → PutFile
target_out s k t = file (target_path s k t) (target_text (k.target t))

-- the file of a toolchain: its tools, and the files of its targets
abbrev pub tools_in : Option Around → List Tool
tools_in None = []
tools_in (Some a) = tools_written a

abbrev pub files_under : Surroundings → Knowledge → List Label → (toolchain : List ℕ) → List (List ℕ)
files_under s k ts toolchain = map (λ t. seen s (target_path s k t)) (under toolchain ts)

abbrev pub toolchain_out : Surroundings → Knowledge → List Label → (toolchain : List ℕ) → PutFile
toolchain_out s k ts toolchain =
    file (toolchain_path s k toolchain) (text_of_file (toolchain_blocks (tools_in (k.around toolchain)) (files_under s k ts toolchain)))

-- build.ninja: the pools that are used with their depths,
abbrev pub depth_or_none : Option ℤ → ℤ
depth_or_none None = pos 0
depth_or_none (Some n) = n

abbrev pub depth_in : Option Item → ℤ
depth_in None = pos 0
depth_in (Some item) = depth_or_none (count_of (field_at item.fields Depth))

abbrev pub pool_out : (default : List ℕ) → List Item → Label → Pool
pool_out default items pool = record { name = pool_name default pool; depth = depth_in (item_at pool items) }

abbrev pub pools_out : (default : List ℕ) → Knowledge → List Item → List Label → List Pool
pools_out default k items ts = map (pool_out default items) (pools_used default k items ts)

-- the targets of the default toolchain with their done files,
abbrev pub is_executable : Option ItemKind → Bool
is_executable (Some kinds.Executable) = true
is_executable _ = false

abbrev pub claimant_with : List Item → Label → (done : List ℕ) → Claimant
claimant_with items t done = record { label = t; is_executable = is_executable (kind_at (item_at t items)); done = done }

abbrev pub claimant_of : Knowledge → List Item → Label → Claimant
claimant_of k items t = claimant_with items t (done_of k t)

abbrev pub claimants_of : (default : List ℕ) → Knowledge → List Item → List Label → List Claimant
claimants_of default k items ts = map (claimant_of k items) (under default ts)

-- whether a target is `//:default`,
abbrev pub is_default : (default : List ℕ) → Label → Bool
is_default default t = is_under default t && (bytes_eq t.dir (codes "//") && bytes_eq t.name (codes "default"))

abbrev pub root_with : Surroundings → List Label → List Pool → (toolchains dones : List (List ℕ)) → Root
root_with s ts pools toolchains dones = record { pools = pools; toolchains = toolchains; dones = dones; has_default = list_any (is_default s.default) ts }

abbrev pub root_of : Surroundings → Knowledge → List Item → List Label → Root
root_of s k items ts =
    root_with s ts (pools_out s.default k items ts) (map (λ toolchain. seen s (toolchain_path s k toolchain)) (toolchains_used s.default ts))
    (map (done_of k) (under s.default ts))

-- and what is written of all targets, since no name that a target has besides its done file is one that a build line makes
abbrev pub all_written : Knowledge → List Label → List Written
all_written k ts = flat_map (λ t. written_in (k.target t)) ts

abbrev pub blocks_of_root : (default : List ℕ) → Knowledge → List Item → List Label → Root → List (List Line)
blocks_of_root default k items ts root = root_blocks root (taken_by (all_written k ts)) (claims_of (claimants_of default k items ts))

abbrev pub root_out : Surroundings → Knowledge → List Item → List Label → PutFile
root_out s k items ts = file (root_path s) (text_of_file (blocks_of_root s.default k items ts (root_of s k items ts)))

-- all Ninja files of a build that generates these targets, which stand in label order, by what is known: build.ninja, those of its toolchains, those of its
-- targets
unfoldable pub files_by : Surroundings → Knowledge → List Item → List Label → List PutFile
files_by s k items ts =
    root_out s k items ts ∷ map (toolchain_out s k ts) (toolchains_used s.default ts) ++ map (target_out s k) ts

-- what is known of a build: all
abbrev pub meant : Surroundings → List Item → Knowledge
meant s items = record { around = λ toolchain. Some (around_of s items toolchain); target = record_at s items }

-- the Ninja files of a build
unfoldable pub files_of_build : Surroundings → List Item → List Label → List PutFile
files_of_build s items ts = files_by s (meant s items) items ts
