use Rattle.std.proofs.Common.{sym, ap, ◌∙◌}
use Rattle.gn_layers.specs.Undoing.{put_back}
use Rattle.gn_layers.proofs.Undone.{set_value_nowhere}
use Rattle.gn_layers.proofs.undo.put_back.Goals as goal

pub returns-in_default-get_mut : goal.returns-in_default-get_mut
returns-in_default-get_mut g c =
    ap (λ m. m.entries) c.get_mut.follows.holds-at-none ∙ sym (set_value_nowhere _ c.args.map.now.entries c.in-Some.value (sym c.in_default-get_mut.ensures.value)) ∙ ap (λ o. put_back g.K.Ord.cmp c.args.name.now o c.args.map.now.entries) (sym c.in-Some.is)
