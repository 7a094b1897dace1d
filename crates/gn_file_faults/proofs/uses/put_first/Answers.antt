use Rattle.std.proofs.Common.{◌∙◌, sym}
use Rattle.gn_file_faults.proofs.Sets.{put_is}
use Rattle.gn_file_faults.proofs.uses.put_first.Goals as goal

pub returns-in_ok-insert : goal.returns-in_ok-insert
returns-in_ok-insert c = λ name.
    put_is c.args.firsts.now c.insert.new.self c.args.one.now (sym c.is_first.ensures ∙ c.if-is_first.true) (λ q. c.in_ok-insert.ensures.updates.0 (record { ref_ptr = (0, 0); now = q })) name
