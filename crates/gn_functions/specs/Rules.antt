-- What is judged of a call before its arguments: a row for each function.
use Rattle.std.specs.Prelude.{ℕ, Bool, true, false, ◌&&◌, not, nat_le, Option, Some, None}
use Rattle.gn_calls_text.specs.declared.call.TextCall.TheVariants.{FilterInclude, FilterExclude, SplitList, StringJoin, StringReplace, StringSplit}
use Rattle.gn_calls_path.specs.declared.call.PathCall.TheVariants.{GetLabelInfo, GetPathInfo, LabelMatches, ProcessFileTemplate, RebasePath}
use Rattle.gn_functions.specs.declared.rule.Rule.{Rule}
use Rattle.gn_functions.specs.declared.rule.Allowed.TheVariants.{Everywhere, WhereItems, WhereFiles, WhereArguments, InBuildConfiguration}
use Rattle.gn_functions.specs.declared.function.Function.{Function}
use Rattle.gn_functions.specs.declared.function.Function.TheVariants.{Plain, Changing, Opening, Defined, Foreach, ReadFile}
use Rattle.gn_functions.specs.declared.function.Plain.TheVariants.{Assert, Print, WriteFile, Text, Path, TargetOutputs}
use Rattle.gn_functions.specs.declared.function.Changing.TheVariants.{Import, Template, ForwardVariablesFrom, NotNeeded, SetDefaultToolchain}
use Rattle.gn_functions.specs.declared.function.Opening.TheVariants.{Item, Target, SetDefaults, DeclareArguments}

-- so many arguments at least and at most, and no block, or one
abbrev pub without_block : ℕ → Option ℕ → Rule
without_block least most = record { least = least; most = most; block = false; imports = false; allowed = Everywhere }

abbrev pub with_block : ℕ → Rule
with_block count = record { least = count; most = Some count; block = true; imports = false; allowed = Everywhere }

-- the row of each function
unfoldable pub rule_of : Function → Rule
rule_of (Plain Assert) = without_block 1 (Some 2)
rule_of (Plain Print) = without_block 1 None
rule_of (Plain WriteFile) = record (without_block 2 (Some 2)) { allowed = WhereFiles }
rule_of (Plain (Text FilterExclude)) = without_block 2 (Some 2)
rule_of (Plain (Text FilterInclude)) = without_block 2 (Some 2)
rule_of (Plain (Text SplitList)) = without_block 2 (Some 2)
rule_of (Plain (Text StringJoin)) = without_block 2 (Some 2)
rule_of (Plain (Text StringReplace)) = without_block 3 (Some 4)
rule_of (Plain (Text StringSplit)) = without_block 1 (Some 2)
rule_of (Plain (Path GetLabelInfo)) = without_block 2 (Some 2)
rule_of (Plain (Path GetPathInfo)) = without_block 2 (Some 2)
rule_of (Plain (Path LabelMatches)) = without_block 2 (Some 2)
rule_of (Plain (Path ProcessFileTemplate)) = without_block 2 (Some 2)
rule_of (Plain (Path RebasePath)) = without_block 1 (Some 3)
rule_of (Plain TargetOutputs) = without_block 1 (Some 1)
rule_of (Changing Import) = record (without_block 1 (Some 1)) { imports = true; allowed = WhereFiles }
rule_of (Changing Template) = with_block 1
rule_of (Changing ForwardVariablesFrom) = without_block 2 (Some 3)
rule_of (Changing NotNeeded) = without_block 1 (Some 3)
rule_of (Changing SetDefaultToolchain) = record (without_block 1 (Some 1)) { allowed = InBuildConfiguration }
rule_of (Opening (Item kind)) = record (with_block 1) { allowed = WhereItems kind }
rule_of (Opening Target) = with_block 2
rule_of (Opening SetDefaults) = with_block 1
rule_of (Opening DeclareArguments) = record (with_block 0) { allowed = WhereArguments }
rule_of Defined = without_block 1 (Some 1)
rule_of Foreach = with_block 2
rule_of ReadFile = record (without_block 2 (Some 2)) { allowed = WhereFiles }

-- the row of the calls of templates
abbrev pub template_rule : Rule
template_rule = with_block 1

-- whether a call takes so many arguments, with a block or without
abbrev pub at_most : ℕ → Option ℕ → Bool
at_most count None = true
at_most count (Some most) = nat_le count most

abbrev pub as_ruled : Bool → Bool → Bool
as_ruled true has_block = has_block
as_ruled false has_block = not has_block

unfoldable pub takes : Rule → ℕ → Bool → Bool
takes rule count has_block = nat_le rule.least count && (at_most count rule.most && as_ruled rule.block has_block)
