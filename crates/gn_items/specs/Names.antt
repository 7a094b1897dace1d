-- The names of executions: a text for each key that is executed. The definitions that an execution makes are known by its name.
use Rattle.std.specs.Prelude.{ℕ, List, [], ◌∷◌, ◌++◌, Option, Some, None, length, replicate}
use Rattle.gn_items.specs.declared.key.Key.{Key}
use Rattle.gn_items.specs.declared.key.Key.TheVariants.{Read, Import, Setup, Load, Resolve}
use Rattle.gn_items.specs.declared.key.When.{When}
use Rattle.gn_items.specs.declared.key.When.TheVariants.{Early, Usual}

-- as many dots as the text of the toolchain has bytes, a letter that says what is executed, the text of the toolchain, and then the path. The dots say
-- where that text ends, whatever bytes it has
abbrev pub name_spelled : ℕ → List ℕ → List ℕ → List ℕ
name_spelled letter toolchain path = replicate (length toolchain) 46 ++ letter ∷ (toolchain ++ path)

-- the build configuration under a toolchain: `S`
unfoldable pub setup_name : List ℕ → List ℕ
setup_name toolchain = name_spelled 83 toolchain []

-- the build file of a directory under a toolchain: `L`
unfoldable pub load_name : List ℕ → List ℕ → List ℕ
load_name directory toolchain = name_spelled 76 toolchain directory

-- a file that is imported under a toolchain: `E` for early, `U` for usual imports
abbrev pub import_letter : When → ℕ
import_letter Early = 69
import_letter Usual = 85

unfoldable pub import_name : When → List ℕ → List ℕ → List ℕ
import_name when toolchain path = name_spelled (import_letter when) toolchain path

-- the name of the execution of what a key names. What is read, and what is made of known items, isn't executed
abbrev pub execution_name : Key → Option (List ℕ)
execution_name (Read path) = None
execution_name (Import when toolchain path) = Some (import_name when toolchain path)
execution_name (Setup toolchain) = Some (setup_name toolchain)
execution_name (Load directory toolchain) = Some (load_name directory toolchain)
execution_name (Resolve label) = None
