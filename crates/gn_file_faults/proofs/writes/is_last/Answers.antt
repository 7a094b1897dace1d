use Rattle.std.proofs.Common.{◌∙◌, sym}
use Rattle.gn_file_faults.proofs.Sets.{set_more, set_same}
use Rattle.gn_file_faults.proofs.writes.is_last.Goals as goal

pub returns-then-contains-clause-later : goal.returns-then-contains-clause-later
returns-then-contains-clause-later c = λ other. set_same c.args.later.now c.args.path.now (sym c.contains.ensures ∙ c.if-contains.true) other

pub returns-clause-later : goal.returns-clause-later
returns-clause-later c = λ other.
    set_more c.args.later.now c.insert.new.self c.args.path.now (λ q. c.in_ok-insert.ensures.updates.0 (record { ref_ptr = (0, 0); now = q })) other
