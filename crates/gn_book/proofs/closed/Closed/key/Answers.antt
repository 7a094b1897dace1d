use Rattle.std.proofs.Common.{slice_get, vec_len, vec_capacity, sym, ◌∙◌, ap}
use Rattle.gn_book.specs.Logs.{Log}
use Rattle.gn_book.proofs.Steps.{within}
use Rattle.gn_book.proofs.closed.Closed.key.Goals as goal

pub key-requires : goal.key-requires
key-requires g c = within c.self.inside.seats c.self.inside.left c.self.inside.stop c.self.inside.roster.keys c.self.inside.roster.standings c.self.inside.log.items (vec_len c.self.inside.log) (vec_capacity c.self.inside.log) c.args.self.now (record { whole = c.self.invariant; view_is = c.self.view_is }) c.args.key c.requires

pub returns : goal.returns
returns g c = ap (λ (l : Log). slice_get l.keys c.args.key) (sym c.self.view_is) ∙ c.key.ensures
