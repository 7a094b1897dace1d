-- The toolchains that targets use.
use Rattle.std.specs.Prelude.{ℕ, Bool, List, [], filter}
use Rattle.std.specs.List.{filter_map}
use Rattle.gn_labels.specs.declared.label.Label.{Label}
use Rattle.gn_items.specs.declared.item.Item.{Item}
use Rattle.gn_toolchains.specs.Toolchains.{is_toolchain, toolchain_at}
use Rattle.gn_toolchains.specs.Frames.{with_toolchains}

-- the toolchains of targets, each once: of each that a target has in its label the first item that defines it. A toolchain that no item
-- defines isn't there
unfoldable pub used : (default : List ℕ) → List Item → List Label → List Item
used default items targets = filter_map (λ text. toolchain_at default text items) (with_toolchains [] targets)

-- the items that define toolchains
abbrev pub defines_one : Item → Bool
defines_one item = is_toolchain item.kind

abbrev pub definitions : List Item → List Item
definitions items = filter defines_one items
