-- What never changes for a target is known where there is a frame of its toolchain.
use Rattle.std.proofs.Common.{◌≡◌, ℕ, List, Option, Some, IfSome, refl, sym, ◌∙◌, ap, subst}
use Rattle.gn_labels.specs.declared.label.Label.{Label}
use Rattle.gn_items.specs.declared.item.Item.{Item}
use Rattle.gn_records.specs.Around.{Around}
use Rattle.gn_toolchains.specs.declared.frames.Frames.{Frames}
use Rattle.gn_toolchains.specs.Toolchains.{Surroundings, around_of}
use Rattle.gn_toolchains.specs.Frames.{known_of}
use Rattle.gn_resolve.specs.declared.table.Resolved.{Resolved}
use Rattle.gn_resolve.specs.Steps.{surroundings_of, surroundings_in, IsFit, IsAround, IsHeld}

surroundings_of_around : (s : Surroundings) (items : List Item) (text : List ℕ) → surroundings_in (around_of s items text) ≡ s
unfolding around_of
surroundings_of_around s items text = refl

module _ (frames : Frames) (default : List ℕ) (items : List Item) (fit : IsFit frames default items) (t : Label) (a : Around) (known : known_of frames t.toolchain ≡ Some a) where
  is_right : a ≡ around_of (surroundings_of frames) items t.toolchain
  is_right = subst (λ (o : Option Around). IfSome o (λ a. a ≡ around_of (surroundings_of frames) items t.toolchain)) known (fit.right t.toolchain)

  pub same_surroundings : surroundings_in a ≡ surroundings_of frames
  same_surroundings = ap surroundings_in is_right ∙ surroundings_of_around (surroundings_of frames) items t.toolchain

  pub is_around : IsAround default items t.toolchain a
  is_around = record {
    same = ap (λ (s : Surroundings). s.default) same_surroundings ∙ fit.same;
    right = is_right ∙ ap (λ (s : Surroundings). around_of s items t.toolchain) (sym same_surroundings);
  }

  pub held_around : (r : Resolved) → IsHeld (surroundings_of frames) items r → IsHeld (surroundings_in a) items r
  held_around r held = subst (λ (s : Surroundings). IsHeld s items r) (sym same_surroundings) held
