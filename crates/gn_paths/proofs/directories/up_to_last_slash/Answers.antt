use Rattle.std.proofs.Common.{ap, length, ◌-◌, take, sym, subst}
use Rattle.gn_paths.specs.Normal.{IsNormal}
use Rattle.gn_paths.proofs.DirectoryLemmas.{up_to_last_slash-normal}
use Rattle.gn_paths.proofs.directories.up_to_last_slash.Goals as goal

pub returns-clause-normal : goal.returns-clause-normal
returns-clause-normal c =
    subst IsNormal (ap (λ n. take (length c.args.path.now - n) c.args.path.now) (sym c.len_after.ensures.value)) (up_to_last_slash-normal c.args.path.now c.requires)
