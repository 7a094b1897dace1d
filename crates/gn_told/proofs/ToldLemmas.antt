-- What the library over a part tells.
use Rattle.std.proofs.Common.{◌≡◌, inl, inr, ℕ, List, Option, Some, None, Result, Ok, Err, IfOk, sym, ◌∙◌, ap, subst}
use Rattle.std.proofs.lemmas.Option.{same_Some}
use Rattle.gn_paths.specs.declared.place.Place.{Place}
use Rattle.gn_runs.specs.Runs.{content_of, import_of, Content, has_value, is_unusable, Answers}
use Rattle.gn_runs.specs.Laws.{Below}
use Rattle.gn_runs.proofs.TreeLaws.{below_itself}
use Rattle.gn_eval.specs.Library.{Need, Includes, IsThere, ImportAnswers, ImportLacks, ContentLacks}
use Rattle.gn_eval.specs.declared.library.Imported.{Imported as Answered}
use Rattle.gn_eval.specs.declared.library.Imported.TheVariants.{Value, Absent, Spoiled}
use Rattle.gn_core.specs.Keys.{Layer, Read, Import, Filed, content_in, imported_in, shown}
use Rattle.gn_told.specs.Told.{ImportedAs}

module _ (part : Filed) (l : Layer) (path : List ℕ) where
  -- what the part has stands in larger answers
  pub content_above : (a : Answers) → Below (shown part l) a → (content : Content) → content_in (part (Read path)) ≡ Some content → a.contents path ≡ Some content
  content_above a below content is = below.contents path content is

  pub import_above : (a : Answers) → Below (shown part l) a → (x : Answered) → ImportedAs (Some x) (imported_in (part (Import l path))) → IsThere (a.contents path) → ImportAnswers path a x
  import_above a below (Value value) is here = (here, below.imports path (has_value value) is)
  import_above a below Absent is here = absurd is
  import_above a below Spoiled is here = (here, below.imports path is_unusable is)

  there_above : (told : Option Answers) → told ≡ Some (shown part l) → (a : Answers) → Includes told a → (content : Content) → content_in (part (Read path)) ≡ Some content → IsThere (Some content) → IsThere (a.contents path)
  there_above told same a below content is here = subst IsThere (sym (content_above a (subst (λ (o : Option Answers). Includes o a) same below) content is)) here

  -- what an import answers of a file that is there
  pub answers_there : {E : Type 0} (told : Option Answers) → told ≡ Some (shown part l) → (content : Content) → content_in (part (Read path)) ≡ Some content → IsThere (Some content)
      → (r : Result Answered E) → IfOk r (λ x. (a : Answers) → Includes told a → IsThere (a.contents path) → ImportAnswers path a x) → IfOk r (λ x. (a : Answers) → Includes told a → ImportAnswers path a x)
  answers_there told same content is here (Ok x) answers = λ a below. answers a below (there_above told same a below content is here)
  answers_there told same content is here (Err f) answers = tt

  -- what it lacks of such a file
  pub lacks_there : (told : Option Answers) → told ≡ Some (shown part l) → (content : Content) → content_in (part (Read path)) ≡ Some content → IsThere (Some content) → (place : Place) (need : Need)
      → ((a : Answers) → told ≡ Some a → IsThere (a.contents path) → ImportLacks path place a need) → (a : Answers) → told ≡ Some a → ImportLacks path place a need
  lacks_there told same content is here place need lacks a h =
      lacks a h (there_above told same a (subst (λ (o : Option Answers). Includes o a) (sym h) (below_itself a)) content is here)

  -- what it lacks it has noted
  told_is : (told : Option Answers) → told ≡ Some (shown part l) → (a : Answers) → told ≡ Some a → shown part l ≡ a
  told_is told same a h = same_Some (shown part l) a (sym same ∙ h)

  pub lacks_content : (told : Option Answers) → told ≡ Some (shown part l) → content_in (part (Read path)) ≡ None → (place : Place) (need : Need) → need ≡ record { question = content_of path; place = place }
      → (a : Answers) → told ≡ Some a → ContentLacks path place a need
  lacks_content told same none place need is a h = (ap (λ (x : Answers). x.contents path) (sym (told_is told same a h)) ∙ none, is)

  pub import_lacks_content : (told : Option Answers) → told ≡ Some (shown part l) → content_in (part (Read path)) ≡ None → (place : Place) (need : Need) → need ≡ record { question = content_of path; place = place }
      → (a : Answers) → told ≡ Some a → ImportLacks path place a need
  import_lacks_content told same none place need is a h = inl (lacks_content told same none place need is a h)

  pub import_lacks_value : (told : Option Answers) → told ≡ Some (shown part l) → imported_in (part (Import l path)) ≡ None → (place : Place) (need : Need) → need ≡ record { question = import_of path; place = place }
      → (a : Answers) → told ≡ Some a → IsThere (a.contents path) → ImportLacks path place a need
  import_lacks_value told same none place need is a h here = inr (here, ap (λ (x : Answers). x.imports path) (sym (told_is told same a h)) ∙ none, is)
