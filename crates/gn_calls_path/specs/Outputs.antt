-- The names of the directories of outputs.
use Rattle.std.specs.Prelude.{ℕ, List}
use Rattle.gn_paths.specs.Directory.{obj, gen}
use Rattle.gn_calls_path.specs.declared.making.Outputs.{Outputs}
use Rattle.gn_calls_path.specs.declared.making.Outputs.TheVariants.{Obj, Gen}

abbrev pub name_of : Outputs → List ℕ
name_of Obj = obj
name_of Gen = gen
