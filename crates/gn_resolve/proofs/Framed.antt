-- What never changes is known for each target of whose toolchain there is a frame.
use Rattle.std.proofs.Common.{◌≡◌, ℕ, List, [], ◌∷◌, Bool, true, false, cond, Option, Some, None, IfSome, IsSome, is_some, option_map, refl, sym, ◌∙◌, ap, subst}
use Rattle.std.specs.Map.{lookup}
use Rattle.std.specs.Str.{bytes_eq}
use Rattle.std.proofs.lemmas.Slice.Eq.{bytes_eq-Decides}
use Rattle.gn_labels.specs.declared.label.Label.{Label}
use Rattle.gn_labels.specs.contracts.label.LabelPartialEq.TheImpl.{eq-value}
use Rattle.gn_dependencies.specs.Lists.{same_label, has}
use Rattle.gn_dependencies.proofs.Same.{own, same}
use Rattle.gn_dependencies.proofs.OrderLaws.{place_of}
use Rattle.gn_items.specs.declared.item.Item.{Item}
use Rattle.gn_labelled.specs.Graphs.{shape_of}
use Rattle.gn_resolved_meant.specs.Laws.{IsClosed}
use Rattle.gn_toolchains.specs.declared.frame.Frame.{Frame}
use Rattle.gn_toolchains.specs.declared.frames.Frames.{Frames}
use Rattle.gn_toolchains.specs.Toolchains.{Surroundings, around_of}
use Rattle.gn_toolchains.specs.Frames.{around_in, frame_at, AreRight, known_of, IsOver}
use Rattle.gn_toolchains.specs.Laws.{is_around, its_toolchain_is_there}
use Rattle.gn_resolve.specs.declared.table.Resolved.{Resolved}
use Rattle.gn_resolve.specs.declared.table.Entry.{Entry}
use Rattle.gn_resolve.specs.Table.{entry_in}
use Rattle.gn_resolve.specs.Steps.{surroundings_of, IsFit, IsHeld, IsRight}
use Rattle.gn_resolve.specs.Whole.{AllEnd, CanBeResolved, AreResolved}

frame_by : (s : Surroundings) (items : List Item) (f : Frame) (q : List ℕ) (rest : Option Frame) (b : Bool) → bytes_eq q f.text ≡ b → around_in s f ≡ around_of s items f.text
    → IfSome (option_map (around_in s) rest) (λ a. a ≡ around_of s items q) → IfSome (option_map (around_in s) (cond b (Some f) rest)) (λ a. a ≡ around_of s items q)
frame_by s items f q rest true e right onward = right ∙ ap (around_of s items) (sym ((bytes_eq-Decides q f.text).0 e))
frame_by s items f q rest false e right onward = onward

-- each frame that is there is right
frame_right : (s : Surroundings) (items : List Item) (fs : List Frame) (q : List ℕ) → AreRight s items fs
    → IfSome (option_map (around_in s) (frame_at q fs)) (λ a. a ≡ around_of s items q)
frame_right s items [] q h = tt
frame_right s items (f ∷ fs) q h = frame_by s items f q (frame_at q fs) (bytes_eq q f.text) refl h.0 (frame_right s items fs q h.1)

module _ (s : Surroundings) (items : List Item) (ts : List Label) (frames : Frames) (over : IsOver s items ts frames) where
  pub fit_over : IsFit frames s.default items
  fit_over = record {
    same = ap (λ (z : Surroundings). z.default) over.given;
    right = λ text. frame_right (surroundings_of frames) items frames.list.items text (subst (λ (z : Surroundings). AreRight z items frames.list.items) (sym over.given) over.right);
  }

  framed : (t : Label) → has ts t ≡ true → IsSome (known_of frames t.toolchain)
  framed t h =
      let p = place_of same_label own same t ts h in
      ap is_some (is_around s items ts frames over t.toolchain (its_toolchain_is_there s.default ts p.0 t p.1))

  pub can_over : IsClosed (shape_of items) ts → AllEnd items ts → CanBeResolved frames items ts
  can_over closed ends = record { closed = closed; ends = ends; framed = framed }

  pub resolved_over : (r : Resolved) → AreResolved (surroundings_of frames) items ts r → AreResolved s items ts r
  resolved_over r all = subst (λ (z : Surroundings). AreResolved z items ts r) over.given all

-- nothing is kept yet
pub nothing_held : (s : Surroundings) (items : List Item) (r : Resolved) → ((q : Label) → entry_in r q ≡ None) → IsHeld s items r
nothing_held s items r none = record {
  right = λ q. subst (λ (o : Option Entry). IfSome o (IsRight s items q)) (sym (none q)) tt;
  closed = λ q h. absurd (cc (sym (ap is_some (none q)) ∙ h));
}

-- nor where no label has an entry
pub empty_held : (s : Surroundings) (items : List Item) (r : Resolved) → r.entries.entries ≡ [] → IsHeld s items r
empty_held s items r none = nothing_held s items r (λ q. ap (lookup (eq-value.it q)) none)
