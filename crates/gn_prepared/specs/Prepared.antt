-- The answers of build files that are wanted before they are claimed.
use Rattle.std.specs.Prelude.{List, Option}
use Rattle.std.specs.List.{AllZip}
use Rattle.gn_executions.specs.Base.{BaseState}
use Rattle.gn_core.specs.Keys.{Filed as Answers}
use Rattle.gn_book.specs.Keys.{key_of}
use Rattle.gn_answers.specs.Answers.{content_view}
use Rattle.gn_answers.specs.declared.answer.Filed.{Filed}
use Rattle.gn_perform.specs.Performing.{IsAnsweredOver}
use Rattle.gn_prepared.specs.Contents.{with_content}
use Rattle.gn_prepared.specs.declared.wanted.Wanted.{Wanted}

-- what the work on the claim of a build file answers over what is filed and the content of its file, where it needs nothing else
abbrev pub IsPrepared : BaseState → Answers → Wanted → Option Filed → Type 0
IsPrepared base filed wanted answer = IsAnsweredOver base (with_content filed wanted.path (content_view wanted.content)) (key_of wanted.key) answer

-- each of these, in their order
abbrev pub ArePrepared : BaseState → Answers → List Wanted → List (Option Filed) → Type 0
ArePrepared base filed = AllZip (IsPrepared base filed)
