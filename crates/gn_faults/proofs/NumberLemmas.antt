-- A number has one code, and one stage.
use Rattle.std.proofs.Common.{◌≡◌, ℕ, ◌-◌, List, [], ◌∷◌, get_or, refl, sym, ap, ◌∙◌}
use Rattle.gn_faults.specs.declared.code.Code.{Code}
use Rattle.gn_faults.specs.declared.code.Code.TheVariants.{BadByte, BadNumber, OpenString, BadDollar, AboveRoot, BadPath, Unexpected, TooDeep, BadLabel, BadPattern, UnknownSubstitution, BadTypes, Overflow, NotInList, BadIndex, TooLong, Undefined, Overwrite, Conflict, NoEffect, AlreadySet, DuplicateArgument, NotBoolean, UnknownFunction, BadArguments, Nesting, AssertFailed, Excluded, WrongType, Missing, DuplicateItem, NotAllowedHere, Unresolved, WrongKind, Cycle, Invisible, TestOnly, AssertNoDeps, SameOutput, ImportedBuildFile, UnknownLabel, NoPath, BadInclude, NoSourceFile, ImportCycle, TooLarge, NoFile, FileTooBig}
use Rattle.gn_faults.specs.declared.stage.Stage.{Stage}
use Rattle.gn_faults.specs.declared.stage.Stage.TheVariants.{Arguments, Loading, Graph, Question, Includes}
use Rattle.gn_faults.specs.Numbers.{code_number, stage_number}

-- the codes by their numbers
abbrev codes : List Code
codes =
    BadByte ∷ BadNumber ∷ OpenString ∷ BadDollar ∷ AboveRoot ∷ BadPath ∷ Unexpected ∷ TooDeep ∷ BadLabel ∷
    BadPattern ∷ UnknownSubstitution ∷ BadTypes ∷ Overflow ∷ NotInList ∷ BadIndex ∷ TooLong ∷ Undefined ∷
    Overwrite ∷ Conflict ∷ NoEffect ∷ AlreadySet ∷ DuplicateArgument ∷ NotBoolean ∷ UnknownFunction ∷ BadArguments
    ∷ Nesting ∷ AssertFailed ∷ Excluded ∷ WrongType ∷ Missing ∷ DuplicateItem ∷ NotAllowedHere ∷ Unresolved ∷
    WrongKind ∷ Cycle ∷ Invisible ∷ TestOnly ∷ AssertNoDeps ∷ SameOutput ∷ ImportedBuildFile ∷ UnknownLabel ∷
    NoPath ∷ BadInclude ∷ NoSourceFile ∷ ImportCycle ∷ TooLarge ∷ NoFile ∷ FileTooBig ∷ []

-- the code of a number
abbrev code_of : ℕ → Code
code_of number = get_or codes (number - 1) BadByte

code_back : (c : Code) → code_of (code_number c) ≡ c
unfolding code_number
code_back BadByte = refl
code_back c = refl

-- codes of one number are one
pub code_same : (a b : Code) → code_number a ≡ code_number b → a ≡ b
code_same a b e = sym (code_back a) ∙ (ap code_of e ∙ code_back b)

-- the stage of a number
abbrev stage_of : ℕ → Stage
stage_of number = get_or (Arguments ∷ Loading ∷ Graph ∷ Question ∷ Includes ∷ []) (number - 1) Arguments

stage_back : (s : Stage) → stage_of (stage_number s) ≡ s
unfolding stage_number
stage_back Arguments = refl
stage_back s = refl

-- stages of one number are one
pub stage_same : (a b : Stage) → stage_number a ≡ stage_number b → a ≡ b
stage_same a b e = sym (stage_back a) ∙ (ap stage_of e ∙ stage_back b)
