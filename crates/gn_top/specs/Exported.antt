-- What contracts see of an exporter that is handed in.
use Rattle.std.specs.Prelude.{ℕ, List}

-- its kind, its name and the bytes that it holds
pub record Exported : Type 0 where
  pub kind : ℕ
  pub name : List ℕ
  pub held : List ℕ
