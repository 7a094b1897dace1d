use Rattle.std.proofs.Common.{◌≡◌, map, ◌∙◌}
use Rattle.std.proofs.lemmas.Result.{IfOk-weaker}
use Rattle.gn_toolchains.specs.Frames.{surroundings}
use Rattle.gn_out_files.specs.Files.{put_of}
use Rattle.gn_files.specs.Files.{files_by, files_of_build}
use Rattle.gn_files.specs.Known.{surroundings_in, known}
use Rattle.gn_files.proofs.Agreeing.{project_files}
use Rattle.gn_files.proofs.build.ninja_files.Goals as goal

pub returns : goal.returns
returns g c =
    let s = surroundings c.args.surroundings in
    let items = c.args.items.now in
    let ts = c.args.targets.now in
    let p = c.in_ok-project.project in
    IfOk-weaker c.known_files-files.result (λ files. map put_of files.items ≡ files_by (surroundings_in p) (known p) p.items.now p.targets.now)
    (λ files. map put_of files.items ≡ files_of_build s items ts)
    (λ files e. e ∙ project_files s items c.args.reached.now ts p c.in_ok-project.ensures c.requires.among) c.known_files-files.ensures
