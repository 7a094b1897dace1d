-- What the program hands to the top call.
use Rattle.std.specs.Prelude.{string_bytes}
use Rattle.gn_top.specs.Hosts.{IsRoot}
use Rattle.gn.specs.declared.start.Start.{Start}
use Rattle.gn.specs.declared.start.Start.TheVariants.{Run, NoForm, NoMemory}

-- a run has a source root
abbrev pub HasRoot : Start → Type 0
HasRoot (Run words host) = IsRoot (string_bytes host.root)
HasRoot NoForm = Unit {0}
HasRoot NoMemory = Unit {0}
