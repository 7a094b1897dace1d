use Rattle.gn_build_faults.proofs.Seen.{seen_more, seen_before}
use Rattle.gn_build_faults.proofs.outputs.see.Goals as goal

pub returns-clause-seen : goal.returns-clause-seen
returns-clause-seen c = seen_more c.args.output c.args.seen.now.keys c.insert.new.self.keys c.in_ok-is_new.ensures.keys

pub returns-clause-before : goal.returns-clause-before
returns-clause-before c = seen_before c.args.output c.args.seen.now.keys c.in_ok-is_new.is_new c.in_ok-is_new.ensures.added
