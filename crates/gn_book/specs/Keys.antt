-- Keys of the code, as the core of loading has them.
use Rattle.gn_closure.specs.Reach.{Setup, Load}
use Rattle.gn_core.specs.Keys.{Layer, early, usual, Key, Read, Import, Unit_of, Resolve}
use Rattle.gn_items.specs.declared.key.Key.{Key as Named}
use Rattle.gn_items.specs.declared.key.Key.TheVariants.{Read as read_key, Import as import_key, Setup as setup_key, Load as load_key, Resolve as resolve_key}
use Rattle.gn_items.specs.declared.key.When.{When}
use Rattle.gn_items.specs.declared.key.When.TheVariants.{Early, Usual}
use Rattle.std.specs.Prelude.{ℕ, List}

abbrev pub layer_at : When → List ℕ → Layer
layer_at Early toolchain = early toolchain
layer_at Usual toolchain = usual toolchain

abbrev pub key_of : Named → Key
key_of (read_key path) = Read path
key_of (import_key time toolchain path) = Import (layer_at time toolchain) path
key_of (setup_key toolchain) = Unit_of (Setup toolchain)
key_of (load_key dir toolchain) = Unit_of (Load dir toolchain)
key_of (resolve_key label) = Resolve label
