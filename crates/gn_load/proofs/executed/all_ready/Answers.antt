use Rattle.std.proofs.Common.{◌∷◌, [], length, ap, sym, subst, arith}
use Rattle.std.proofs.lemmas.List.{length-append}
use Rattle.gn_outside.specs.Lists.{Each}
use Rattle.gn_load.specs.Rounds.{WillBeRight}
use Rattle.gn_load.proofs.ExecutedLemmas.{one_ready}
use Rattle.gn_load.proofs.executed.all_ready.Goals as goal

pub files-init : goal.files-init
files-init c = λ b part filed over wanted prepared. (wanted, (prepared, subst (Each (WillBeRight b.start filed)) (sym c.new-all.ensures.items) tt))

pub files-preserved : goal.files-preserved
files-preserved c = λ b part filed over wanted prepared.
    let laws = c.contents_are_included.ensures in
    let taken = c.in-Some.ensures in
    one_ready laws.later laws.content laws.base b part filed over c.files.found.wanted.items c.take_last.new.found.wanted.items c.files.answers.items c.take_last.new.answers.items c.in-Some.last.1.0 c.in-Some.last.1.1 c.files.all.items c.add_ready.new.all.items taken.0 taken.1
    c.in_ok-add_ready.ensures (c.files.invariant b part filed over wanted prepared)

pub files-smaller : goal.files-smaller
files-smaller c =
    let items = ap length c.in-Some.ensures.0 in
    let long = length-append c.take_last.new.found.wanted.items (c.in-Some.last.1.0 ∷ []) in
    omega (arith, items, long)

pub returns : goal.returns
returns c = λ b part filed over wanted prepared. (c.files.invariant b part filed over wanted prepared).1.1
