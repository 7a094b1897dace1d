use Rattle.std.proofs.Common.{length, sym, ◌∙◌, ap}
use Rattle.std.proofs.lemmas.List.{length-map}
use Rattle.gn_book.specs.Keys.{key_of}
use Rattle.gn_book.specs.Rosters.{Table}
use Rattle.gn_book.proofs.roster.Roster.len.Goals as goal

pub returns : goal.returns
returns g c = c.len.ensures.len ∙ sym (length-map c.self.inside.keys.keys key_of) ∙ ap (λ (t : Table). length t.keys) c.self.view_is
