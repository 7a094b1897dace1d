-- The faults of an evaluation.
use Rattle.std.specs.Prelude.{ℕ, List, Some}
use Rattle.gn_tree.specs.declared.position.Position.{Position}
use Rattle.gn_faults.specs.declared.code.Code.{Code}
use Rattle.gn_faults.specs.declared.fault.Fault.{Fault}
use Rattle.gn_environment.specs.Environment.{Setting}

-- the fault with this code and these details at a position of the file that is evaluated
abbrev pub fault_in : Setting → Position → Code → List (List ℕ) → Fault
fault_in setting position code detail = record {
  stage = setting.context.stage;
  place = Some (record { file = setting.file; line = position.line; column = position.column });
  toolchain = setting.context.fault_toolchain;
  code = code;
  detail = detail;
}
