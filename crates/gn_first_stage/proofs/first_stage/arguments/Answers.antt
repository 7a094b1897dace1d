use Rattle.gn_faults.specs.declared.file_kind.FileKind.TheVariants.{Arguments}
use Rattle.gn_executions.specs.Alone.{first_context}
use Rattle.gn_first_stage.proofs.FilesAlone.{begins_alone}
use Rattle.gn_first_stage.proofs.FirstStage.{arguments_set}
use Rattle.gn_first_stage.proofs.first_stage.arguments.Goals as goal

pub run_arguments-entries-requires-clause-alone : goal.run_arguments-entries-requires-clause-alone
run_arguments-entries-requires-clause-alone c =
    rw (c.in_ok-env.ensures, c.new-out.ensures) (begins_alone c.files_that_stand_alone_end.ensures (record { os = c.args.os.now; cpu = c.args.cpu.now }) (first_context c.args.build.now c.args.root.now) Arguments c.args.file.now c.args.bytes.now)

pub returns : goal.returns
returns c =
    arguments_set (record { os = c.args.os.now; cpu = c.args.cpu.now }) (first_context c.args.build.now c.args.root.now) c.args.bytes.now c.in_ok-env.env c.new-out.result c.new-out.ensures c.args.file.now c.run_arguments-entries.new.env c.run_arguments-entries.new.out c.run_arguments-entries.result c.set_with.result
    c.in_ok-env.ensures c.run_arguments-entries.ensures c.set_with.ensures
