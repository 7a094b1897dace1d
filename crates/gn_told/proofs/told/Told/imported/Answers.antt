use Rattle.gn_book.specs.Keys.{layer_at}
use Rattle.gn_told.proofs.ToldLemmas.{import_above, import_lacks_value}
use Rattle.gn_told.proofs.told.Told.imported.Goals as goal

pub returns-in-Ok-Some-clause-answers : goal.returns-in-Ok-Some-clause-answers
returns-in-Ok-Some-clause-answers g c = λ a below here.
    import_above (g.P.Part.answers c.args.self.now.part.now) (layer_at c.args.self.now.when c.args.self.now.toolchain.now) c.args.path.now a below c.in-Ok-Some.imported (rw c.in-Ok-Some.field-0-is at c.in-Ok-Some.ensures) here

pub returns-in-Ok-None-clause-lacks : goal.returns-in-Ok-None-clause-lacks
returns-in-Ok-None-clause-lacks g c = λ stopped.
    import_lacks_value (g.P.Part.answers c.args.self.now.part.now) (layer_at c.args.self.now.when c.args.self.now.toolchain.now) c.args.path.now _ c.lacks_import.ensures.goes.told
    (rw c.in-Ok-None.field-0-is at c.in-Ok-None.ensures) c.args.place.now _ (c.lacks_import.ensures.need (cc))
