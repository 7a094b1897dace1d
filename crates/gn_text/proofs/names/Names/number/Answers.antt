use Rattle.std.proofs.Common.{rules}
use Rattle.gn_text.proofs.MarksLemmas.{lacking_unmarked}
use Rattle.gn_text.proofs.NamesLemmas.{index_found, index_numbered, index_lacking, different}
use Rattle.gn_text.proofs.names.Names.number.Goals as goal

pub returns-then-not-has-clause-lacking : goal.returns-then-not-has-clause-lacking
returns-then-not-has-clause-lacking c =
    rw (← c.self.view_is) (lacking_unmarked c.self.inside.marks c.args.name.now (λ m. let t = c.has.ensures.1 m in search rules) _ c.self.invariant.marked)

pub returns-then-not-has-clause-different : goal.returns-then-not-has-clause-different
returns-then-not-has-clause-different c = rw (← c.self.view_is) (different c.self.inside c.self.invariant.distinct)

pub returns-clause-found : goal.returns-clause-found
returns-clause-found c = rw (← c.self.view_is) (index_found c.self.inside c.args.name.now c.get_index_of.result c.get_index_of.ensures.index)

pub returns-clause-number : goal.returns-clause-number
returns-clause-number c = rw (← c.self.view_is) (index_numbered c.self.inside c.args.name.now c.get_index_of.result c.get_index_of.ensures.index)

pub returns-clause-lacking : goal.returns-clause-lacking
returns-clause-lacking c = rw (← c.self.view_is) (index_lacking c.self.inside c.args.name.now c.get_index_of.result c.get_index_of.ensures.found)

pub returns-clause-different : goal.returns-clause-different
returns-clause-different c = rw (← c.self.view_is) (different c.self.inside c.self.invariant.distinct)
