-- What the Ninja files of a build make: the left sides of the build lines of their blocks.
use Rattle.std.specs.Prelude.{◌≡◌, ℕ, List, [], ◌∷◌, ◌++◌, Option, None, Some, map}
use Rattle.std.specs.List.{flat_map}
use Rattle.gn_labels.specs.declared.label.Label.{Label}
use Rattle.gn_items.specs.declared.item.Item.{Item}
use Rattle.gn_writing.specs.Kinds.{target_blocks, toolchain_blocks}
use Rattle.gn_writing.specs.Lines.{Line, made}
use Rattle.gn_records.specs.declared.records.Record.{Record}
use Rattle.gn_toolchains.specs.Toolchains.{Surroundings}
use Rattle.gn_build_faults.specs.Labels.{fault_of_labels}
use Rattle.gn_build_faults.specs.Reaching.{targets_of}
use Rattle.gn_resolve.specs.Resolved.{record_at}
use Rattle.gn_files.specs.Files.{toolchains_used, tools_in, files_under, root_of, blocks_of_root, meant}

-- the blocks of the file of a target: none where it has no record
abbrev pub blocks_in : Option Record → List (List Line)
blocks_in None = []
blocks_in (Some r) = target_blocks r.written

abbrev pub blocks_of_target : Surroundings → List Item → Label → List (List Line)
blocks_of_target s items t = blocks_in (record_at s items t)

-- what the file of a target makes, and what those of several make, one after the other
abbrev pub made_of_target : Surroundings → List Item → Label → List (List ℕ)
made_of_target s items t = made (blocks_of_target s items t)

abbrev pub made_of_targets : Surroundings → List Item → List Label → List (List ℕ)
made_of_targets s items ts = flat_map (made_of_target s items) ts

-- the blocks of the file of a toolchain
abbrev pub blocks_of_toolchain : Surroundings → List Item → List Label → (toolchain : List ℕ) → List (List Line)
blocks_of_toolchain s items ts toolchain =
    toolchain_blocks (tools_in ((meant s items).around toolchain)) (files_under s (meant s items) ts toolchain)

-- the blocks of the files of a build that generates these targets, file by file: build.ninja, those of its toolchains, those of its targets
unfoldable pub blocks_of_build : Surroundings → List Item → List Label → List (List (List Line))
blocks_of_build s items ts =
    blocks_of_root s.default (meant s items) items ts (root_of s (meant s items) items ts)
    ∷ map (blocks_of_toolchain s items ts) (toolchains_used s.default ts)
    ++ map (blocks_of_target s items) ts

-- what they make, file by file
abbrev pub made_of_build : Surroundings → List Item → List Label → List (List ℕ)
made_of_build s items ts = flat_map made (blocks_of_build s items ts)

-- no fault is told of a build that generates these targets
abbrev pub IsFaultless : Surroundings → List Item → (generated : List Label) → Type 0
IsFaultless s items generated = fault_of_labels s items (targets_of s.default items generated) ≡ None
