use Rattle.gn_graph.proofs.Uses.{kept_at, added_at}
use Rattle.gn_graph.proofs.clause.note_use.Goals as goal

pub returns-clause-kept : goal.returns-clause-kept
returns-clause-kept c = kept_at c.index_mut.result.now c.push.new.self c.args.i c.in_ok-push.ensures.items c.args.uses.now.items c.args.p c.requires c.index_mut.ensures.value

pub returns-clause-added : goal.returns-clause-added
returns-clause-added c = added_at c.index_mut.result.now c.push.new.self c.args.i c.in_ok-push.ensures.items c.args.uses.now.items c.args.p c.requires
