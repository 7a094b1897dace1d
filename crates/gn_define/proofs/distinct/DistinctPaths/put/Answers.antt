use Rattle.std.proofs.Common.{◌≡◌, ℕ, true, List, [], ◌∷◌, ◌++◌, nat_cmp, sym, subst}
use Rattle.std.specs.BTreeSet.{Updates}
use Rattle.std.specs.Cmp.Lexicographic.{slice_cmp}
use Rattle.gn_define.specs.Known.{HasPaths}
use Rattle.gn_define.proofs.OnceLemmas.{has_one_more}
use Rattle.gn_define.proofs.distinct.DistinctPaths.put.Goals as goal

pub invariant_of-self-2 : goal.invariant_of-self-2
invariant_of-self-2 c =
    let pushed : c.push.new.self.items ≡ c.self.inside.paths.items ++ c.args.path ∷ [] = cc (c.in_ok-push.ensures.items, c.in_ok-reserve.ensures.items) in
    let added : Updates (slice_cmp nat_cmp) c.self.inside.known c.insert.new.self c.args.path true
    = subst (λ (p : List ℕ). Updates (slice_cmp nat_cmp) c.self.inside.known c.insert.new.self p true) c.in_ok-key.ensures c.in_ok-insert.ensures.updates in
    subst (λ (paths : List (List ℕ)). HasPaths c.insert.new.self paths) (sym pushed)
    (has_one_more _ _ _ _ added c.self.invariant)
