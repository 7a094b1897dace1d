use Rattle.std.proofs.Common.{sym, subst}
use Rattle.gn_core.specs.Keys.{Read}
use Rattle.gn_items.specs.declared.key.Key.{Key}
use Rattle.gn_book.specs.Keys.{key_of}
use Rattle.gn_builds.specs.Stacks.{MayWait}
use Rattle.gn_perform.proofs.Performs.{read_over, read_keeps, evaluated_done, evaluated_tree, evaluated_work}
use Rattle.gn_perform.proofs.work.perform.Goals as goal

pub returns-in-Read-clause-done : goal.returns-in-Read-clause-done
returns-in-Read-clause-done g c = rw c.in-Read.is (read_over c.args.base.now (g.P.Part.answers c.args.part.now) (Read c.in-Read.path) c.perform_read.result c.perform_read.ensures.done)

pub returns-in-Read-clause-tree : goal.returns-in-Read-clause-tree
returns-in-Read-clause-tree g c = rw c.in-Read.is c.perform_read.ensures.tree

pub returns-in-Read-clause-reads : goal.returns-in-Read-clause-reads
returns-in-Read-clause-reads g c = rw c.in-Read.is c.perform_read.ensures.reads

pub returns-in-Import-clause-done : goal.returns-in-Import-clause-done
returns-in-Import-clause-done g c = rw c.in-Import.is (evaluated_done _ c.perform_import.result c.evaluated.result c.perform_import.ensures.done c.evaluated.ensures)

pub returns-in-Import-clause-tree : goal.returns-in-Import-clause-tree
returns-in-Import-clause-tree g c = evaluated_tree (key_of c.args.key.now) (g.S.Source.state c.args.source.now).tree c.evaluated.result (subst (λ (k : Key). MayWait (key_of k)) (sym c.in-Import.is) tt)

pub returns-in-Import-clause-reads : goal.returns-in-Import-clause-reads
returns-in-Import-clause-reads g c =
    evaluated_work (key_of c.args.key.now) (g.S.Source.state c.args.source.now) c.perform_import.result c.evaluated.result (subst (λ (k : Key). MayWait (key_of k)) (sym c.in-Import.is) tt) c.evaluated.ensures

pub returns-in-Setup-clause-done : goal.returns-in-Setup-clause-done
returns-in-Setup-clause-done g c = rw c.in-Setup.is (evaluated_done _ c.perform_setup.result c.evaluated-in-Setup.result c.perform_setup.ensures.done c.evaluated-in-Setup.ensures)

pub returns-in-Setup-clause-tree : goal.returns-in-Setup-clause-tree
returns-in-Setup-clause-tree g c = evaluated_tree (key_of c.args.key.now) (g.S.Source.state c.args.source.now).tree c.evaluated-in-Setup.result (subst (λ (k : Key). MayWait (key_of k)) (sym c.in-Setup.is) tt)

pub returns-in-Setup-clause-reads : goal.returns-in-Setup-clause-reads
returns-in-Setup-clause-reads g c =
    evaluated_work (key_of c.args.key.now) (g.S.Source.state c.args.source.now) c.perform_setup.result c.evaluated-in-Setup.result (subst (λ (k : Key). MayWait (key_of k)) (sym c.in-Setup.is) tt) c.evaluated-in-Setup.ensures

pub returns-in-Load-clause-done : goal.returns-in-Load-clause-done
returns-in-Load-clause-done g c = rw c.in-Load.is (evaluated_done _ c.perform_load.result c.evaluated-in-Load.result c.perform_load.ensures.done c.evaluated-in-Load.ensures)

pub returns-in-Load-clause-tree : goal.returns-in-Load-clause-tree
returns-in-Load-clause-tree g c = evaluated_tree (key_of c.args.key.now) (g.S.Source.state c.args.source.now).tree c.evaluated-in-Load.result (subst (λ (k : Key). MayWait (key_of k)) (sym c.in-Load.is) tt)

pub returns-in-Load-clause-reads : goal.returns-in-Load-clause-reads
returns-in-Load-clause-reads g c =
    evaluated_work (key_of c.args.key.now) (g.S.Source.state c.args.source.now) c.perform_load.result c.evaluated-in-Load.result (subst (λ (k : Key). MayWait (key_of k)) (sym c.in-Load.is) tt) c.evaluated-in-Load.ensures

pub unreachable-requires : goal.unreachable-requires
unreachable-requires g c = rw c.in-Resolve.is at c.requires.work

pub perform_import-requires : goal.perform_import-requires
perform_import-requires g c = rw c.in-Import.is at c.requires.rest

pub returns-in-Import-clause-kept : goal.returns-in-Import-clause-kept
returns-in-Import-clause-kept g c = rw c.in-Import.is (evaluated_done _ c.perform_import.result c.evaluated.result c.perform_import.ensures.kept c.evaluated.ensures)

pub perform_setup-requires : goal.perform_setup-requires
perform_setup-requires g c = rw c.in-Setup.is at c.requires.rest

pub returns-in-Setup-clause-kept : goal.returns-in-Setup-clause-kept
returns-in-Setup-clause-kept g c = rw c.in-Setup.is (evaluated_done _ c.perform_setup.result c.evaluated-in-Setup.result c.perform_setup.ensures.kept c.evaluated-in-Setup.ensures)

pub perform_load-requires : goal.perform_load-requires
perform_load-requires g c = rw c.in-Load.is at c.requires.rest

pub returns-in-Load-clause-kept : goal.returns-in-Load-clause-kept
returns-in-Load-clause-kept g c = rw c.in-Load.is (evaluated_done _ c.perform_load.result c.evaluated-in-Load.result c.perform_load.ensures.kept c.evaluated-in-Load.ensures)

pub returns-in-Read-clause-kept : goal.returns-in-Read-clause-kept
returns-in-Read-clause-kept g c = read_keeps c.args.base.now (g.P.Part.answers c.args.part.now) c.args.key.now c.in-Read.path c.perform_read.result c.perform_read.ensures.done
