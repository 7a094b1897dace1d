use Rattle.std.proofs.Common.{map, ◌∙◌}
use Rattle.gn_basics.proofs.Results.{if_ok}
use Rattle.gn_ninja.specs.Claims.{claimant}
use Rattle.gn_ninja.specs.Root.{root_of as root_held}
use Rattle.gn_files.specs.Known.{surroundings_in, known}
use Rattle.gn_files.specs.Making.{file_of}
use Rattle.gn_files.proofs.Made.{files_are}
use Rattle.gn_files.proofs.files.files_gathered.Goals as goal

pub returns : goal.returns
returns g c =
    let p = c.args.project.now in
    let got = c.args.gathered.now in
    let targets = c.requires.gathered.targets in
    if_ok c.files_beside-files.result (λ made is.
    is ∙ files_are (surroundings_in p) (known p) p.items.now p.targets.now (root_held c.in_ok-root.root) (map (λ w. w.now) got.written.items) (map claimant got.claimants.items)
    c.args.toolchains.now (map file_of got.files.items) c.in_ok-root.ensures targets.written targets.claimants c.requires.toolchains targets.files)
    c.files_beside-files.ensures
