use Rattle.std.proofs.Common.{Some, sym, ◌∙◌, ap, subst}
use Rattle.gn_runs.specs.Runs.{is_absent}
use Rattle.gn_book.specs.Keys.{layer_at}
use Rattle.gn_eval.specs.Library.{IsThere}
use Rattle.gn_answers.specs.Answers.{content_view}
use Rattle.gn_answers.specs.declared.answer.FileContent.{FileContent}
use Rattle.gn_told.proofs.ToldLemmas.{content_above, answers_there, lacks_there}
use Rattle.gn_told.proofs.told.Told.imported_of.Goals as goal

pub returns-in-Absent-clause-answers : goal.returns-in-Absent-clause-answers
returns-in-Absent-clause-answers g c = λ a below.
    content_above (g.P.Part.answers c.args.self.now.part.now) (layer_at c.args.self.now.when c.args.self.now.toolchain.now) c.args.path.now a below is_absent (c.requires ∙ ap (λ (x : FileContent). Some (content_view x)) c.in-Absent.is)

pub returns-in-Bytes-clause-answers : goal.returns-in-Bytes-clause-answers
returns-in-Bytes-clause-answers g c = answers_there (g.P.Part.answers c.args.self.now.part.now) (layer_at c.args.self.now.when c.args.self.now.toolchain.now) c.args.path.now _ c.imported.ensures.goes.told _ c.requires (subst (λ (x : FileContent). IsThere (Some (content_view x))) (sym c.in-Bytes.is) tt) _ c.imported.ensures.answers

pub returns-in-Bytes-clause-lacks : goal.returns-in-Bytes-clause-lacks
returns-in-Bytes-clause-lacks g c = λ stopped. lacks_there (g.P.Part.answers c.args.self.now.part.now) (layer_at c.args.self.now.when c.args.self.now.toolchain.now) c.args.path.now _ c.imported.ensures.goes.told _ c.requires (subst (λ (x : FileContent). IsThere (Some (content_view x))) (sym c.in-Bytes.is) tt) c.args.place.now _ (c.imported.ensures.lacks stopped)

pub returns-in-TooBig-clause-answers : goal.returns-in-TooBig-clause-answers
returns-in-TooBig-clause-answers g c = answers_there (g.P.Part.answers c.args.self.now.part.now) (layer_at c.args.self.now.when c.args.self.now.toolchain.now) c.args.path.now _ c.imported-in-TooBig.ensures.goes.told _ c.requires (subst (λ (x : FileContent). IsThere (Some (content_view x))) (sym c.in-TooBig.is) tt) _ c.imported-in-TooBig.ensures.answers

pub returns-in-TooBig-clause-lacks : goal.returns-in-TooBig-clause-lacks
returns-in-TooBig-clause-lacks g c = λ stopped. lacks_there (g.P.Part.answers c.args.self.now.part.now) (layer_at c.args.self.now.when c.args.self.now.toolchain.now) c.args.path.now _ c.imported-in-TooBig.ensures.goes.told _ c.requires (subst (λ (x : FileContent). IsThere (Some (content_view x))) (sym c.in-TooBig.is) tt) c.args.place.now _ (c.imported-in-TooBig.ensures.lacks stopped)
