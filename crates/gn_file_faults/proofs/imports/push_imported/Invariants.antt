use Rattle.std.proofs.Common.{◌≡◌, ◌++◌, drop, map}
use Rattle.std.specs.List.{filter}
use Rattle.gn_file_faults.specs.Imports.{has, import_fault}
use Rattle.gn_file_faults.proofs.imports.push_imported.Given as goal

abbrev pub invariant-loop-path : goal.invariant-loop-path
invariant-loop-path l =
    l.faults.items ++ map import_fault (filter (has l.loaded) (map (λ p. p.now) (drop l.path-index l.imported)))
    ≡ l.fn.faults.items ++ map import_fault (filter (has l.loaded) (map (λ p. p.now) l.imported))
