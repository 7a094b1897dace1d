use Rattle.gn_executions.proofs.BuildFiles.{refused_for_memory}
use Rattle.gn_load.proofs.own_file.own_path.Goals as goal

pub unreachable-requires : goal.unreachable-requires
unreachable-requires c = cc (refused_for_memory c.args.directory.now c.in-Err-AboveRoot.field-0 c.in-Err-AboveRoot.ensures.err, c.in-Err-AboveRoot.field-0-is)

pub unreachable-requires-in-Err-BadPath : goal.unreachable-requires-in-Err-BadPath
unreachable-requires-in-Err-BadPath c = cc (refused_for_memory c.args.directory.now c.in-Err-BadPath.field-0 c.in-Err-BadPath.ensures.err, c.in-Err-BadPath.field-0-is)
