use Rattle.std.proofs.Common.{ap, sym, ◌∙◌, subst, List, ℕ}
use Rattle.gn_out_files.specs.declared.out_files.FileKey.{FileKey}
use Rattle.gn_out_files.specs.Keys.{files_of, AreFrom}
use Rattle.gn_out_files.proofs.FileLemmas.{put_files, put_numbers}
use Rattle.gn_out_files.proofs.out_files.put_among.Goals as goal

pub returns-clause-files : goal.returns-clause-files
returns-clause-files c =
    ap files_of c.in_ok-_former.ensures.entries ∙ put_files c.args.file.path c.args.number c.args.file.bytes c.args.files.now.entries c.requires

pub returns-clause-numbers : goal.returns-clause-numbers
returns-clause-numbers c =
    subst (λ (es : List (FileKey × List ℕ)). AreFrom c.args.number es) (sym c.in_ok-_former.ensures.entries) (put_numbers c.args.file.path c.args.number c.args.file.bytes c.args.files.now.entries c.requires)
