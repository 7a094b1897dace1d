use Rattle.std.proofs.Common.{refl, sym, ap, ◌∙◌}
use Rattle.std.specs.Ordering.{is_lt, is_some_and}
use Rattle.std.specs.Cmp.Lexicographic.{lists_agrees}
use Rattle.std.specs.Cmp.Derive.{then_next}
use Rattle.gn_layers.proofs.unread.name_stands_before.Goals as goal

pub returns-in-Equal : goal.returns-in-Equal
returns-in-Equal c =
    let name = c.args.name.now in
    let other = c.args.other.0.now in
    c.lt.ensures ∙ ap (is_some_and is_lt) (lists_agrees (λ _ _. refl) name other) ∙ ap is_lt (sym (then_next _ _ _ c.in-Equal.ensures refl))
