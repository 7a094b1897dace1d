use Rattle.std.proofs.Common.{◌≡◌, map}
use Rattle.gn_calls_text.specs.Views.{bytes_in}
use Rattle.gn_calls_path.specs.Found.{each}
use Rattle.gn_calls_path.specs.Directories.{path_at}
use Rattle.gn_calls_path.proofs.EachLemmas.{onto, each_from}
use Rattle.gn_calls_path.proofs.reading.read_paths.Given as goal

abbrev pub invariant-loop-text : goal.invariant-loop-text
invariant-loop-text l = onto l.paths.items (each_from (path_at l.directory) l.texts l.text-index) ≡ each (path_at l.directory) (map bytes_in l.texts)
