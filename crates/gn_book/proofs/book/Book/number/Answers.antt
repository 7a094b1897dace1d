use Rattle.std.proofs.Common.{vec_len, vec_capacity}
use Rattle.gn_book.specs.Keys.{key_of}
use Rattle.gn_book.proofs.Numbering.{number_kept, number_seen, number_lost}
use Rattle.gn_book.proofs.Graphing.{graphed_key}
use Rattle.gn_book.proofs.book.Book.number.Goals as goal

pub invariant_of-self : goal.invariant_of-self
invariant_of-self g c = (
  number_kept c.self.inside.seats c.self.inside.left c.self.inside.stop c.self.inside.roster c.self.inside.log.items (vec_len c.self.inside.log) (vec_capacity c.self.inside.log) c.args.self.now c.self.invariant.0 c.self.view_is (key_of c.args.key) c.number.new.self c.number.result c.number.ensures.ok c.number.ensures.err,
  graphed_key _ _ _ _ _ _ c.number.result c.self.view_is
      (number_seen c.self.inside.seats c.self.inside.left c.self.inside.stop c.self.inside.roster c.self.inside.log.items (vec_len c.self.inside.log) (vec_capacity c.self.inside.log) c.args.self.now c.self.invariant.0 c.self.view_is (key_of c.args.key) c.number.new.self c.number.result c.number.ensures.ok)
      (number_lost c.self.inside.seats c.self.inside.roster c.self.inside.log.items c.args.self.now c.self.view_is c.number.new.self c.number.result c.number.ensures.err)
      c.requires c.self.invariant.1,
)

pub returns-clause-ok : goal.returns-clause-ok
returns-clause-ok g c = number_seen c.self.inside.seats c.self.inside.left c.self.inside.stop c.self.inside.roster c.self.inside.log.items (vec_len c.self.inside.log) (vec_capacity c.self.inside.log) c.args.self.now c.self.invariant.0 c.self.view_is (key_of c.args.key) c.number.new.self c.number.result c.number.ensures.ok

pub returns-clause-err : goal.returns-clause-err
returns-clause-err g c = number_lost c.self.inside.seats c.self.inside.roster c.self.inside.log.items c.args.self.now c.self.view_is c.number.new.self c.number.result c.number.ensures.err
