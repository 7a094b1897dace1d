use Rattle.std.proofs.Common.{ℕ, List, ◌++◌, map, ap, ◌∙◌}
use Rattle.std.proofs.lemmas.Result.{on_ok_weaker}
use Rattle.gn_file_faults.specs.Imports.{has, is_among, import_fault}
use Rattle.gn_file_faults.proofs.UseLemmas.{filter_same}
use Rattle.gn_file_faults.proofs.imports.add_import_faults.Goals as goal

pub returns : goal.returns
returns c =
    let loaded = map (λ p. p.now) c.args.loaded.now in
    let imported = map (λ p. p.now) c.args.imported.now in
    on_ok_weaker c.push_imported.result
    (λ e. e ∙ ap (λ (zs : List (List ℕ)). c.args.faults.now.items ++ map import_fault zs) (filter_same (has c.in_ok-set.set) (is_among loaded) imported c.in_ok-set.ensures))
    c.push_imported.ensures
