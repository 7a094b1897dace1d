use Rattle.std.proofs.Common.{codes}
use Rattle.gn_faults.specs.declared.file_kind.FileKind.TheVariants.{Dotfile}
use Rattle.gn_executions.specs.Alone.{first_context}
use Rattle.gn_first_stage.proofs.FilesAlone.{begins_alone}
use Rattle.gn_first_stage.proofs.FirstStage.{dotfile_said}
use Rattle.gn_first_stage.proofs.first_stage.dotfile.Goals as goal

pub run_dotfile-said-requires-clause-alone : goal.run_dotfile-said-requires-clause-alone
run_dotfile-said-requires-clause-alone c =
    rw (c.in_ok-env.ensures, c.new-out.ensures) (begins_alone c.files_that_stand_alone_end.ensures (record { os = c.args.os.now; cpu = c.args.cpu.now }) (first_context c.args.build.now c.args.root.now) Dotfile (codes "//.gn") c.args.bytes.now)

pub returns : goal.returns
returns c =
    dotfile_said (record { os = c.args.os.now; cpu = c.args.cpu.now }) (first_context c.args.build.now c.args.root.now) c.args.bytes.now c.in_ok-env.env c.new-out.result c.new-out.ensures c.run_dotfile-said.new.env c.run_dotfile-said.new.out c.run_dotfile-said.result c.said_with.result
    c.in_ok-env.ensures c.run_dotfile-said.ensures c.said_with.ensures
