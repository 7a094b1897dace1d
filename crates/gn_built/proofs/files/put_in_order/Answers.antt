use Rattle.std.proofs.Common.{List, ℕ}
use Rattle.std.specs.Borrow.{Bor}
use Rattle.std.specs.Cmp.Lexicographic.{texts_ties, nat_list_eq_equiv}
use Rattle.std.proofs.lemmas.Cmp.{on_equiv}
use Rattle.std.proofs.lemmas.List.Filters.{dedup_is}
use Rattle.std.proofs.lemmas.Slice.Eq.{bytes_eq-Decides}
use Rattle.gn_built.proofs.FileLemmas.{paths_in_order}
use Rattle.gn_built.proofs.files.put_in_order.Goals as goal

pub returns : goal.returns
returns c =
    paths_in_order _ (on_equiv (λ (p : Bor (List ℕ)). p.now) nat_list_eq_equiv) (λ x y. texts_ties x.now y.now) (λ x y e. (bytes_eq-Decides x.now y.now).0 e) c.args.paths.now.items c.sort_unstable.new.self.items c.dedup.new.self.items
    c.sort_unstable.ensures.permutation c.sort_unstable.ensures.sorted (dedup_is _ _ _ c.dedup.ensures.filtered)
