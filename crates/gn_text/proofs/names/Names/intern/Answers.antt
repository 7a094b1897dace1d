use Rattle.std.proofs.Common.{sym, ◌∙◌}
use Rattle.gn_text.specs.declared.names.Names.TheInside.{Inside}
use Rattle.gn_text.proofs.NamesLemmas.{stays_found, different, texts_of-insert, number_of-key, found_stored}
use Rattle.gn_text.proofs.names.Names.intern.Goals as goal

pub returns-in-Some-clause-names : goal.returns-in-Some-clause-names
returns-in-Some-clause-names c = stays_found _ c.args.name.now c.in-Some.number c.in-Some.ensures.found

pub returns-in_err-text-clause-different : goal.returns-in_err-text-clause-different
returns-in_err-text-clause-different c = rw (← c.self.view_is) (different c.self.inside c.self.invariant.distinct)

pub returns-in_err-number-clause-different : goal.returns-in_err-number-clause-different
returns-in_err-number-clause-different c =
    different (record { alloc = c.self.inside.alloc; texts = c.insert_full.new.self; marks = c.self.inside.marks }) c.in_err-number.ensures.unique

pub returns-clause-found : goal.returns-clause-found
returns-clause-found c =
    let after : Inside = record { alloc = c.self.inside.alloc; texts = c.insert_full.new.self; marks = c.self.inside.marks } in
    let s = c.in_ok-number.ensures.stored in
    found_stored after c.args.name.now c.in_ok-number.number s.0 s.1 (rw (← c.in_ok-text.ensures.items) s.2)

pub returns-clause-number : goal.returns-clause-number
returns-clause-number c =
    rw (← c.self.view_is, ← c.in_ok-text.ensures.items)
    (c.in_ok-number.ensures.index ∙ sym (number_of-key c.self.inside c.in_ok-text.text.items))

pub returns-clause-names : goal.returns-clause-names
returns-clause-names c =
    let after : Inside = record { alloc = c.self.inside.alloc; texts = c.insert_full.new.self; marks = c.self.inside.marks } in
    rw (← c.self.view_is, ← c.in_ok-text.ensures.items)
    (texts_of-insert c.self.inside after c.in_ok-text.text c.in_ok-number.ensures.keys)

pub returns-clause-different : goal.returns-clause-different
returns-clause-different c =
    different (record { alloc = c.self.inside.alloc; texts = c.insert_full.new.self; marks = c.self.inside.marks }) c.in_ok-number.ensures.unique
