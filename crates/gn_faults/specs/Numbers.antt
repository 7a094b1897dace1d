-- The numbers of codes and of stages.
use Rattle.std.specs.Prelude.{ℕ}
use Rattle.gn_faults.specs.declared.code.Code.{Code}
use Rattle.gn_faults.specs.declared.code.Code.TheVariants.{BadByte, BadNumber, OpenString, BadDollar, AboveRoot, BadPath, Unexpected, TooDeep, BadLabel, BadPattern, UnknownSubstitution, BadTypes, Overflow, NotInList, BadIndex, TooLong, Undefined, Overwrite, Conflict, NoEffect, AlreadySet, DuplicateArgument, NotBoolean, UnknownFunction, BadArguments, Nesting, AssertFailed, Excluded, WrongType, Missing, DuplicateItem, NotAllowedHere, Unresolved, WrongKind, Cycle, Invisible, TestOnly, AssertNoDeps, SameOutput, ImportedBuildFile, UnknownLabel, NoPath, BadInclude, NoSourceFile, ImportCycle, TooLarge, NoFile, FileTooBig}
use Rattle.gn_faults.specs.declared.stage.Stage.{Stage}
use Rattle.gn_faults.specs.declared.stage.Stage.TheVariants.{Arguments, Loading, Graph, Question, Includes}

-- the number of a code
unfoldable pub code_number : Code → ℕ
code_number BadByte = 1
code_number BadNumber = 2
code_number OpenString = 3
code_number BadDollar = 4
code_number AboveRoot = 5
code_number BadPath = 6
code_number Unexpected = 7
code_number TooDeep = 8
code_number BadLabel = 9
code_number BadPattern = 10
code_number UnknownSubstitution = 11
code_number BadTypes = 12
code_number Overflow = 13
code_number NotInList = 14
code_number BadIndex = 15
code_number TooLong = 16
code_number Undefined = 17
code_number Overwrite = 18
code_number Conflict = 19
code_number NoEffect = 20
code_number AlreadySet = 21
code_number DuplicateArgument = 22
code_number NotBoolean = 23
code_number UnknownFunction = 24
code_number BadArguments = 25
code_number Nesting = 26
code_number AssertFailed = 27
code_number Excluded = 28
code_number WrongType = 29
code_number Missing = 30
code_number DuplicateItem = 31
code_number NotAllowedHere = 32
code_number Unresolved = 33
code_number WrongKind = 34
code_number Cycle = 35
code_number Invisible = 36
code_number TestOnly = 37
code_number AssertNoDeps = 38
code_number SameOutput = 39
code_number ImportedBuildFile = 40
code_number UnknownLabel = 41
code_number NoPath = 42
code_number BadInclude = 43
code_number NoSourceFile = 44
code_number ImportCycle = 45
code_number TooLarge = 46
code_number NoFile = 47
code_number FileTooBig = 48

-- the number of a stage: the run goes through the stages in this order
unfoldable pub stage_number : Stage → ℕ
stage_number Arguments = 1
stage_number Loading = 2
stage_number Graph = 3
stage_number Question = 4
stage_number Includes = 5
