-- What holds of the Ninja files of a build.
use Rattle.std.specs.Prelude.{◌≡◌, ℕ, List, true, false, map, codes}
use Rattle.std.specs.List.{IsDistinct}
use Rattle.std.specs.Str.{bytes_eq}
use Rattle.gn_labels.specs.declared.label.Label.{Label}
use Rattle.gn_dependencies.specs.Lists.{same_label, has}
use Rattle.gn_items.specs.declared.item.Item.{Item}
use Rattle.gn_outside.specs.States.{PutFile}
use Rattle.gn_ninja.specs.Format.{text_of_file}
use Rattle.gn_toolchains.specs.Toolchains.{Surroundings}
use Rattle.gn_toolchains.specs.Frames.{has_text}
use Rattle.gn_files.specs.Files.{files_of_build}
use Rattle.gn_file_laws.specs.Made.{made_of_target, made_of_targets, blocks_of_build, made_of_build, IsFaultless}

-- the texts of the files of a build are those of its blocks
abbrev pub FilesArePrinted : Type 0
FilesArePrinted = (s : Surroundings) (items : List Item) (ts : List Label)
    → map (λ (f : PutFile). f.1) (files_of_build s items ts) ≡ map text_of_file (blocks_of_build s items ts)

-- where no fault is told of a build, the file of a target that it generates makes nothing twice,
abbrev pub TargetsMakeOnce : Type 0
TargetsMakeOnce = (s : Surroundings) (items : List Item) (generated : List Label) → IsFaultless s items generated
    → (t : Label) → has generated t ≡ true → IsDistinct bytes_eq (made_of_target s items t)

-- two targets whose files make one output are one,
abbrev pub MakersAreOne : Type 0
MakersAreOne = (s : Surroundings) (items : List Item) (generated : List Label) → IsFaultless s items generated
    → (t u : Label) → has generated t ≡ true → has generated u ≡ true
    → (p : List ℕ) → has_text (made_of_target s items t) p ≡ true → has_text (made_of_target s items u) p ≡ true → t ≡ u

-- what the files of its targets make has no repeats, where each of these is named once,
abbrev pub OutputsAreMadeOnce : Type 0
OutputsAreMadeOnce = (s : Surroundings) (items : List Item) (generated : List Label) → IsFaultless s items generated
    → IsDistinct same_label generated → IsDistinct bytes_eq (made_of_targets s items generated)

-- and so has what all its files make, the names of phony lines with it, where no target makes an output of the name `all`
abbrev pub LeftSidesStandOnce : Type 0
LeftSidesStandOnce = (s : Surroundings) (items : List Item) (generated : List Label) → IsFaultless s items generated
    → IsDistinct same_label generated → has_text (made_of_targets s items generated) (codes "all") ≡ false
    → IsDistinct bytes_eq (made_of_build s items generated)
