-- How a label is spelled, and the order of labels.
use Rattle.std.specs.Prelude.{ℕ, Bool, List, [], ◌∷◌, ◌++◌, if◌then◌else◌}
use Rattle.std.specs.declared.cmp.Ordering.{Ordering}
use Rattle.std.specs.Ordering.{nat_cmp, is_lt}
use Rattle.std.specs.Str.{bytes_eq}
use Rattle.std.specs.Cmp.Lexicographic.{slice_cmp}
use Rattle.gn_labels.specs.declared.label.Label.{Label}

-- a directory, a colon and a name
abbrev pub spelling : List ℕ → List ℕ → List ℕ
spelling dir name = dir ++ 58 ∷ name

-- how a toolchain stands behind a name: not at all where it is the default one, else in parentheses
abbrev pub toolchain_suffix : List ℕ → List ℕ → List ℕ
toolchain_suffix default toolchain = if bytes_eq toolchain default then [] else 40 ∷ (toolchain ++ 41 ∷ [])

-- the label as it is printed
abbrev pub printed : List ℕ → Label → List ℕ
printed default label = spelling label.dir label.name ++ toolchain_suffix default label.toolchain

-- what toolchains are ordered by: the default one comes before all, the others go by their text
abbrev pub toolchain_key : List ℕ → List ℕ → List ℕ
toolchain_key default toolchain = if bytes_eq toolchain default then [] else 0 ∷ toolchain

-- the order of toolchains: the default one first, then by text
abbrev pub toolchain_order : List ℕ → List ℕ → List ℕ → Ordering
toolchain_order default s t = slice_cmp nat_cmp (toolchain_key default s) (toolchain_key default t)

-- what labels are ordered by: the directory, then the name, then the toolchain
abbrev pub order_key : List ℕ → Label → List (List ℕ)
order_key default label = label.dir ∷ label.name ∷ toolchain_key default label.toolchain ∷ []

-- label order
abbrev pub label_order : List ℕ → Label → Label → Ordering
label_order default a b = slice_cmp (slice_cmp nat_cmp) (order_key default a) (order_key default b)

-- whether a label comes before another in label order
abbrev pub is_before : List ℕ → Label → Label → Bool
is_before default a b = is_lt (label_order default a b)
