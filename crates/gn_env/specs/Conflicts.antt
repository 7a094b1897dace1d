-- At which name merging an import is refused: want of memory stands for none.
use Rattle.std.specs.Prelude.{ℕ, List, Option, Some, None}
use Rattle.gn_env.specs.declared.imports.MergeError.{MergeError}
use Rattle.gn_env.specs.declared.imports.MergeError.TheVariants.{Conflict, Memory}

abbrev pub conflict_of : MergeError → Option (List ℕ)
conflict_of (Conflict name) = Some name
conflict_of Memory = None
