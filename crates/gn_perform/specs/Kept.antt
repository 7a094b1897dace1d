-- What is kept of executions that need another answer first.
use Rattle.std.specs.Prelude.{ℕ, List, [], ◌∷◌, ◌++◌, map, Option, Some, None}
use Rattle.gn_items.specs.Questions.{question_of}
use Rattle.gn_items.specs.declared.key.Key.{Key as Named}
use Rattle.gn_items.specs.declared.key.Key.TheVariants.{Read as ReadKey, Import as ImportKey, Setup as SetupKey, Load as LoadKey, Resolve as ResolveKey}
use Rattle.gn_runs.specs.Runs.{Question, content_of, import_of, Answers}
use Rattle.gn_eval.specs.Ends.{asked_until}
use Rattle.gn_executions.specs.Base.{BaseState}
use Rattle.gn_core.specs.Keys.{early, usual, Key, Read, Import, Unit_of, Resolve, Filed, shown}
use Rattle.gn_book.specs.Keys.{layer_at}
use Rattle.gn_unit.specs.Ends.{IsKept, IsRead}
use Rattle.gn_perform.specs.declared.kept.Kept.{Kept}
use Rattle.gn_perform.specs.declared.kept.Kept.TheVariants.{Asked, Rest, Tree}
use Rattle.gn_perform.specs.declared.kept.Rest.{Rest as WhereTo}
use Rattle.gn_perform.specs.declared.kept.Rest.TheVariants as left
use Rattle.gn_perform.specs.declared.kept.KeyRest.{KeyRest}

-- the questions asked so far
abbrev pub asked_so_far : Kept → List Question
asked_so_far (Asked asked) = map question_of asked.items
asked_so_far (Rest p) = p.out.asked
asked_so_far (Tree tree asked) = map question_of asked.items

-- what has been asked where another key is needed, behind what was asked before
abbrev pub asked_for : Key → List Question → List Question
asked_for (Read path) asked = asked_until (content_of path) asked
asked_for (Import l path) asked = asked_until (import_of path) asked
asked_for (Unit_of u) asked = asked
asked_for (Resolve label) asked = asked

-- what is told to the execution of a key over some part of what is filed
abbrev pub told_to : Filed → Named → Option Answers
told_to filed (ReadKey path) = None
told_to filed (ImportKey when toolchain path) = Some (shown filed (layer_at when toolchain))
told_to filed (SetupKey toolchain) = Some (shown filed (early toolchain))
told_to filed (LoadKey dir toolchain) = Some (shown filed (usual toolchain))
told_to filed (ResolveKey label) = None

-- where an execution goes on over all answers that include those told: it is the rest of it, and the tree is that of its file
abbrev pub GoesOnAt : BaseState → Named → Option Answers → WhereTo → Type 0
GoesOnAt base key told (left.Paused p) = IsKept base key told p × IsRead base key told p.tree
GoesOnAt base key told (left.Tree tree) = IsRead base key told tree

-- what is kept is where an execution goes on, as far as it doesn't begin anew
abbrev pub KeepsOver : BaseState → Named → Option Answers → Kept → Type 0
KeepsOver base key told (Asked asked) = Unit {0}
KeepsOver base key told (Rest p) = GoesOnAt base key told (left.Paused p)
KeepsOver base key told (Tree tree asked) = GoesOnAt base key told (left.Tree tree)

-- over some part of what is filed it is that of the execution of a key
abbrev pub IsKeptOf : BaseState → Filed → Named → WhereTo → Type 0
IsKeptOf base filed key rest = GoesOnAt base key (told_to filed key) rest

abbrev pub KeepsOf : BaseState → Filed → Named → Kept → Type 0
KeepsOf base filed key kept = KeepsOver base key (told_to filed key) kept

-- these are, each of its key
abbrev pub AreKept : BaseState → Filed → List KeyRest → Type 0
AreKept base filed [] = Unit {0}
AreKept base filed (e ∷ es) = IsKeptOf base filed e.key e.rest × AreKept base filed es

-- what is kept of the execution of a key is stored
abbrev pub Stores : Named → Kept → List KeyRest → List KeyRest → Type 0
Stores key kept old new = (base : BaseState) (filed : Filed) → KeepsOf base filed key kept → AreKept base filed old → AreKept base filed new
