-- A part of the targets is enough that has all dependencies of its targets and of one more.
use Rattle.std.proofs.Common.{◌≡◌, List, refl, sym, ◌∙◌}
use Rattle.gn_labels.specs.declared.label.Label.{Label}
use Rattle.gn_dependencies.specs.Configurations.{IsPushed, IsPushedPublic}
use Rattle.gn_dependencies.specs.Shape.{Shape}
use Rattle.gn_labelled.specs.Graphs.{shape_of}
use Rattle.gn_resolved_meant.specs.Along.{pushed_in, pushed_public_in}
use Rattle.gn_resolved_meant.specs.Laws.{IsTheOne}
use Rattle.gn_resolve.specs.Resolved.{labels_in}
use Rattle.gn_resolve.specs.Laws.{MakesRight, PartIsEnough}
use Rattle.gn_resolve.proofs.Items.{only_items}
use Rattle.gn_resolve.proofs.Right.{Known, made_right}

pub makes_right : Known → MakesRight
makes_right laws s items t r enough a around e made = made_right laws s items r enough.held t enough.ready a around s.default refl e made

pub part_is_enough : MakesRight → IsTheOne pushed_in IsPushed → IsTheOne pushed_public_in IsPushedPublic → PartIsEnough
part_is_enough right pushed public s items t part all is are a around one other made too =
    let x = right s items t part is a around one made in
    let y = right s items t all are a around other too in
    record {
      pushed = the_same pushed_in IsPushed pushed one.pushed.items other.pushed.items x.pushed y.pushed;
      pushed_public = the_same pushed_public_in IsPushedPublic public one.pushed_public.items other.pushed_public.items x.pushed_public y.pushed_public;
      hard = x.hard ∙ sym y.hard;
      known = x.known ∙ sym y.known;
    }
  where
    the_same : (list : List Label → Shape → Label → List Label) (says : Shape → Label → List Label → Type 0) → IsTheOne list says → (xs ys : List Label)
        → says (shape_of items) t xs → says (shape_of items) t ys → xs ≡ ys
    the_same list says one xs ys p q = one (labels_in items) (shape_of items) (only_items items) t xs p ∙ sym (one (labels_in items) (shape_of items) (only_items items) t ys q)
