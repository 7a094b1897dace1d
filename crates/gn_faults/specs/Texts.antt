-- The texts of faults.
use Rattle.std.specs.Prelude.{ℕ, List, [], ◌∷◌, ◌++◌, codes, ◌==◌, if◌then◌else◌}
use Rattle.std.specs.List.{join_by}
use Rattle.gn_faults.specs.declared.code.Code.{Code}
use Rattle.gn_faults.specs.declared.code.Code.TheVariants.{BadByte, BadNumber, OpenString, BadDollar, AboveRoot, BadPath, Unexpected, TooDeep, BadLabel, BadPattern, UnknownSubstitution, BadTypes, Overflow, NotInList, BadIndex, TooLong, Undefined, Overwrite, Conflict, NoEffect, AlreadySet, DuplicateArgument, NotBoolean, UnknownFunction, BadArguments, Nesting, AssertFailed, Excluded, WrongType, Missing, DuplicateItem, NotAllowedHere, Unresolved, WrongKind, Cycle, Invisible, TestOnly, AssertNoDeps, SameOutput, ImportedBuildFile, UnknownLabel, NoPath, BadInclude, NoSourceFile, ImportCycle, TooLarge, NoFile, FileTooBig}

-- the text of a code, where each `%` stands for a detail
unfoldable pub template : Code → List ℕ
template BadByte = codes "Invalid token."
template BadNumber = codes "Invalid number."
template OpenString = codes "Unterminated string literal."
template BadDollar = codes "Invalid expansion in string."
template AboveRoot = codes "Path is above the source root."
template BadPath = codes "Invalid path."
template Unexpected = codes "Unexpected token."
template TooDeep = codes "Nesting is too deep."
template BadLabel = codes "Invalid label."
template BadPattern = codes "Invalid pattern."
template UnknownSubstitution = codes "Unknown substitution."
template BadTypes = codes "Wrong type of value."
template Overflow = codes "Integer overflow."
template NotInList = codes "Item not found in the list."
template BadIndex = codes "Index out of range."
template TooLong = codes "Value is too long."
template Undefined = codes "Undefined identifier \"%\"."
template Overwrite = codes "Replacing nonempty list or scope \"%\"."
template Conflict = codes "Value collision on import: \"%\"."
template NoEffect = codes "Assignment had no effect: \"%\"."
template AlreadySet = codes "\"%\" is already set."
template DuplicateArgument = codes "Duplicate build argument \"%\"."
template NotBoolean = codes "Condition is not a boolean."
template UnknownFunction = codes "Unknown function \"%\"."
template BadArguments = codes "Wrong arguments to \"%\"."
template Nesting = codes "Evaluation is nested too deeply."
template AssertFailed = codes "Assertion failed."
template Excluded = codes "\"%\" is not in this profile."
template WrongType = codes "Wrong type for \"%\"."
template Missing = codes "\"%\" is missing."
template DuplicateItem = codes "Duplicate item \"%\"."
template NotAllowedHere = codes "\"%\" is not allowed here."
template Unresolved = codes "\"%\" needs \"%\", which is not defined."
template WrongKind = codes "\"%\" names \"%\", which is of another kind."
template Cycle = codes "Dependency cycle: "
template Invisible = codes "\"%\" may not depend on \"%\" (visibility)."
template TestOnly = codes "\"%\" may not depend on \"%\" (testonly)."
template AssertNoDeps = codes "\"%\" must not reach \"%\"."
template SameOutput = codes "Output \"%\" is made twice."
template ImportedBuildFile = codes "\"%\" is both loaded and imported."
template UnknownLabel = codes "No such item: %"
template NoPath = codes "No path between % and %"
template BadInclude = codes "Include of \"%\" is not allowed from \"%\"."
template NoSourceFile = codes "Source file \"%\" is missing."
template ImportCycle = codes "Import cycle."
template TooLarge = codes "The build is larger than a limit."
template NoFile = codes "No such file \"%\"."
template FileTooBig = codes "File \"%\" is too big."

-- a template with the details in it, the first at the first `%` and so on: one that isn't there is the empty text, and
-- those that no `%` is left for are left out
abbrev pub filled : List ℕ → List (List ℕ) → List ℕ
filled [] details = []
filled (byte ∷ template) [] = if byte == 37 then filled template [] else byte ∷ filled template []
filled (byte ∷ template) (detail ∷ details) =
    if byte == 37 then detail ++ filled template details else byte ∷ filled template (detail ∷ details)

-- a space and the message of an assert, if it has one
abbrev pub message_behind : List (List ℕ) → List ℕ
message_behind [] = []
message_behind (message ∷ rest) = 32 ∷ message

-- what stands behind the template: of a cycle its labels in order, with an arrow between two, and of an assert its
-- message
unfoldable pub tail : Code → List (List ℕ) → List ℕ
tail Cycle labels = join_by (λ label. label) (codes " -> ") labels
tail AssertFailed details = message_behind details
tail code details = []

-- the text of a code with these details
unfoldable pub text_of : Code → List (List ℕ) → List ℕ
text_of code details = filled (template code) details ++ tail code details
