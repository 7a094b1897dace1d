use Rattle.gn_file_faults.proofs.Sets.{set_more}
use Rattle.gn_file_faults.proofs.imports.put_path.Goals as goal

pub returns : goal.returns
returns c = λ other.
    set_more c.args.set.now c.insert.new.self c.args.path.now (λ q. c.in_ok-insert.ensures.updates.0 (record { ref_ptr = (0, 0); now = q })) other
