-- What is known around a target, as values.
use Rattle.std.specs.Prelude.{ℕ, List, map}
use Rattle.std.specs.Borrow.{Bor}
use Rattle.gn_define.specs.declared.fields.Fields.{Fields}
use Rattle.gn_items.specs.declared.tool.Tool.{Tool}
use Rattle.gn_records.specs.declared.context.BoundNames.{BoundNames}
use Rattle.gn_records.specs.declared.context.Context.{Context}

-- what never changes for the targets of a toolchain: the build directory; the default toolchain, by the text of its label; the
-- program that runs scripts; the roots of the toolchain's outputs and of its generated files; what stands before the names of its
-- tools in its rules; its tools; and the names that their texts have
pub record Around : Type 0 where
  pub build : List ℕ
  pub default : List ℕ
  pub program : List ℕ
  pub out : List ℕ
  pub generated : List ℕ
  pub prefix : List ℕ
  pub tools : List Tool
  pub bound : BoundNames

-- the same, where it is lent
abbrev pub around : Context → Around
around c = record {
  build = c.build.now;
  default = c.default.now;
  program = c.program.now;
  out = c.out.now;
  generated = c.generated.now;
  prefix = c.prefix.now;
  tools = c.tools.now;
  bound = c.bound;
}

-- the fields of configurations, where they are lent
abbrev pub fields_of : List (Bor Fields) → List Fields
fields_of configs = map (λ f. f.now) configs
