use Rattle.std.proofs.Common.{sym}
use Rattle.gn_book.specs.Keys.{layer_at}
use Rattle.gn_told.proofs.ToldLemmas.{import_lacks_content}
use Rattle.gn_told.proofs.told.ToldLibrary.import.Goals as goal

pub imported_of-requires : goal.imported_of-requires
imported_of-requires g c = sym (rw c.in-Ok-Some.field-0-is at c.in-Ok-Some.ensures)

pub returns-in-Ok-None-clause-lacks : goal.returns-in-Ok-None-clause-lacks
returns-in-Ok-None-clause-lacks g c = λ stopped.
    import_lacks_content (g.P.Part.answers c.args.self.now.part.now) (layer_at c.args.self.now.when c.args.self.now.toolchain.now) c.args.path.now _ c.lacks_content.ensures.goes.told
    (sym (rw c.in-Ok-None.field-0-is at c.in-Ok-None.ensures)) c.args.place.now _ (c.lacks_content.ensures.need (cc))
