-- Frames with one more frame.
use Rattle.std.proofs.Common.{◌≡◌, ℕ, List, [], ◌∷◌, ◌++◌, map, ◌∙◌, ap}
use Rattle.std.proofs.lemmas.List.{map-append}
use Rattle.gn_items.specs.declared.item.Item.{Item}
use Rattle.gn_toolchains.specs.declared.frame.Frame.{Frame}
use Rattle.gn_toolchains.specs.Toolchains.{Surroundings, around_of}
use Rattle.gn_toolchains.specs.Frames.{around_in, AreRight, texts_in}

pub right_more : (s : Surroundings) (items : List Item) (fs : List Frame) (f : Frame) → AreRight s items fs → around_in s f ≡ around_of s items f.text → AreRight s items (fs ++ f ∷ [])
right_more s items [] f right e = (e, tt)
right_more s items (x ∷ fs) f right e = (right.0, right_more s items fs f right.1 e)

pub texts_more : (fs : List Frame) (f : Frame) (text : List ℕ) → f.text ≡ text → texts_in (fs ++ f ∷ []) ≡ texts_in fs ++ text ∷ []
texts_more fs f text e = map-append (λ (z : Frame). z.text) fs (f ∷ []) ∙ ap (λ (z : List ℕ). texts_in fs ++ z ∷ []) e
