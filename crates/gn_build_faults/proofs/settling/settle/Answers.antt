use Rattle.std.proofs.Common.{List, ap, refl, sym, ◌∙◌}
use Rattle.std.specs.List.{list_all}
use Rattle.gn_build_faults.specs.Settling.{is_marked}
use Rattle.gn_build_faults.specs.Links.{links_at}
use Rattle.std.proofs.Common.{slice_get, Some, Option, ℕ}
use Rattle.gn_build_faults.proofs.Linked.{settled_by}
use Rattle.gn_build_faults.proofs.Marked.{marked_more}
use Rattle.gn_build_faults.proofs.settling.settle.Goals as goal

pub returns-then-has_settled : goal.returns-then-has_settled
returns-then-has_settled c items are marked =
    let marks = c.args.marks.now in
    let all = sym (settled_by items marks c.args.place) ∙ ap (λ (ls : List (List (Option ℕ))). list_all (is_marked marks) (links_at ls (Some c.args.place))) (sym are)
    ∙ sym c.has_settled.ensures ∙ c.if-has_settled.true in
    marked_more items marks c.mark.new.marks c.args.place (slice_get items c.args.place) marked refl all c.mark.ensures
