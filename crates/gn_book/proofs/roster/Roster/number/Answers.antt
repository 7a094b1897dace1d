use Rattle.std.proofs.Common.{slice_get, sym, ◌∙◌, ap}
use Rattle.std.specs.List.{list_any}
use Rattle.gn_core.specs.Keys.{same_key}
use Rattle.gn_book.specs.Keys.{key_of}
use Rattle.gn_book.specs.Rosters.{Table}
use Rattle.gn_book.proofs.Numbering.{number_same, number_after}
use Rattle.gn_book.proofs.roster.Roster.number.Goals as goal

pub add-requires : goal.add-requires
add-requires g c = ap (λ (t : Table). list_any (same_key (key_of c.args.key)) t.keys) (sym c.self.view_is) ∙ c.in-None.ensures

pub returns-in-Some-clause-number : goal.returns-in-Some-clause-number
returns-in-Some-clause-number g c = ap (λ (t : Table). slice_get t.keys c.in-Some.number) (sym c.self.view_is) ∙ c.in-Some.ensures

pub returns-in-Some-clause-ok : goal.returns-in-Some-clause-ok
returns-in-Some-clause-ok g c =
    number_same c.args.self.now (key_of c.args.key) c.in-Some.number (ap (λ (t : Table). slice_get t.keys c.in-Some.number) (sym c.self.view_is) ∙ c.in-Some.ensures)

pub returns-in-None-clause-ok : goal.returns-in-None-clause-ok
returns-in-None-clause-ok g c =
    number_after c.args.self.now c.add.new.self (key_of c.args.key) (ap (λ (t : Table). list_any (same_key (key_of c.args.key)) t.keys) (sym c.self.view_is) ∙ c.in-None.ensures) c.add.result c.add.ensures.ok
