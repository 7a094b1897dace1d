use Rattle.std.proofs.Common.{vec_len, vec_capacity}
use Rattle.gn_book.specs.Books.{log_in}
use Rattle.gn_book.proofs.Graphing.{looked_at, numbered_all}
use Rattle.gn_book.proofs.book.Book.number_reached.Goals as goal

pub number_facts-requires : goal.number_facts-requires
number_facts-requires g c = c.self.invariant.1.1.within

pub invariant_of-self : goal.invariant_of-self
invariant_of-self g c =
    let done = looked_at c.self.inside.seats c.self.inside.left c.self.inside.stop c.self.inside.log.items (vec_len c.self.inside.log) (vec_capacity c.self.inside.log) c.args.self.now c.self.inside.graph c.number_facts.ensures.whole
    c.self.inside.roster c.number_facts.new.roster c.self.inside.seen c.number_facts.new.seen c.self.invariant.0 c.self.view_is c.self.invariant.1 c.number_facts.ensures.looked in
    (done.0, done.1)

pub returns-clause-keys : goal.returns-clause-keys
returns-clause-keys g c =
    (looked_at c.self.inside.seats c.self.inside.left c.self.inside.stop c.self.inside.log.items (vec_len c.self.inside.log) (vec_capacity c.self.inside.log) c.args.self.now c.self.inside.graph c.number_facts.ensures.whole
    c.self.inside.roster c.number_facts.new.roster c.self.inside.seen c.number_facts.new.seen c.self.invariant.0 c.self.view_is c.self.invariant.1 c.number_facts.ensures.looked).2

pub returns-clause-units : goal.returns-clause-units
returns-clause-units g c =
    (looked_at c.self.inside.seats c.self.inside.left c.self.inside.stop c.self.inside.log.items (vec_len c.self.inside.log) (vec_capacity c.self.inside.log) c.args.self.now c.self.inside.graph c.number_facts.ensures.whole
    c.self.inside.roster c.number_facts.new.roster c.self.inside.seen c.number_facts.new.seen c.self.invariant.0 c.self.view_is c.self.invariant.1 c.number_facts.ensures.looked).3

pub returns-clause-ok : goal.returns-clause-ok
returns-clause-ok g c =
    let done = looked_at c.self.inside.seats c.self.inside.left c.self.inside.stop c.self.inside.log.items (vec_len c.self.inside.log) (vec_capacity c.self.inside.log) c.args.self.now c.self.inside.graph c.number_facts.ensures.whole
    c.self.inside.roster c.number_facts.new.roster c.self.inside.seen c.number_facts.new.seen c.self.invariant.0 c.self.view_is c.self.invariant.1 c.number_facts.ensures.looked in
    numbered_all c.self.inside.seats c.self.inside.left c.self.inside.stop c.self.inside.log.items (vec_len c.self.inside.log) (vec_capacity c.self.inside.log) c.args.self.now c.self.inside.graph c.number_facts.ensures.whole
    (log_in c.self.inside.seats c.number_facts.new.roster.keys c.number_facts.new.roster.standings c.self.inside.log.items) c.number_facts.new.seen c.number_facts.result done.1 c.number_facts.ensures.all
