use Rattle.std.proofs.Common.{vec_len, vec_capacity, ◌∙◌}
use Rattle.gn_book.proofs.Steps.{within, answer_here}
use Rattle.gn_book.proofs.closed.Closed.answer.Goals as goal

pub answer-requires : goal.answer-requires
answer-requires g c = within c.self.inside.seats c.self.inside.left c.self.inside.stop c.self.inside.roster.keys c.self.inside.roster.standings c.self.inside.log.items (vec_len c.self.inside.log) (vec_capacity c.self.inside.log) c.args.self.now (record { whole = c.self.invariant; view_is = c.self.view_is }) c.args.key c.requires

pub returns : goal.returns
returns g c = c.answer.ensures ∙ answer_here c.self.inside.seats c.self.inside.left c.self.inside.stop c.self.inside.roster.keys c.self.inside.roster.standings c.self.inside.log.items (vec_len c.self.inside.log) (vec_capacity c.self.inside.log) c.args.self.now (record { whole = c.self.invariant; view_is = c.self.view_is }) c.args.key c.requires
