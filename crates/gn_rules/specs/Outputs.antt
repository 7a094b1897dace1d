-- Outputs that are made twice over the whole build.
use Rattle.std.specs.Prelude.{◌≡◌, ◌⊎◌, ℕ, ◌<◌, List, [], ◌∷◌, ◌++◌, Some, map, slice_get, Bool, true, cond}
use Rattle.std.specs.List.{flat_map, list_any}
use Rattle.std.specs.Str.{bytes_eq}
use Rattle.gn_labels.specs.declared.label.Label.{Label}
use Rattle.gn_rules.specs.declared.outputs.MadeOutput.{MadeOutput}

-- the list has the text
abbrev pub has_text : List (List ℕ) → List ℕ → Bool
has_text texts p = list_any (bytes_eq p) texts

-- an output with the target that makes it
abbrev pub output_of : Label → List ℕ → MadeOutput
output_of t p = record { label = t; output = p }

-- the outputs that a target makes, each with the target; and those of several targets, one after the other
abbrev pub made_by : Label → List (List ℕ) → List MadeOutput
made_by t outputs = map (output_of t) outputs

abbrev pub all_made : (Label → List (List ℕ)) → List Label → List MadeOutput
all_made made ts = flat_map (λ t. made_by t (made t)) ts

-- those whose output was seen before, or stands at an earlier place of the list
abbrev pub made_again : List (List ℕ) → List MadeOutput → List MadeOutput
made_again seen [] = []
made_again seen (m ∷ ms) = cond (has_text seen m.output) (m ∷ made_again seen ms) (made_again (seen ++ m.output ∷ []) ms)

-- the outputs that are made again over the whole build: those that stand in the list of all outputs, by targets in label order, at an earlier place too
abbrev pub repeated_outputs : (Label → List (List ℕ)) → List Label → List MadeOutput
repeated_outputs made ts = made_again [] (all_made made ts)

-- a target makes an output again: it makes it at one of its places, and a target before it makes it too, or it itself at an earlier place
pub record IsMadeAgain (made : Label → List (List ℕ)) (ts : List Label) (t : Label) (p : List ℕ) : Type 0 where
  pub place : ℕ
  pub here : slice_get ts place ≡ Some t
  pub at : ℕ
  pub makes : slice_get (made t) at ≡ Some p
  pub again : ((j : ℕ) × (s : Label) × (j < place) × (slice_get ts j ≡ Some s) × (has_text (made s) p ≡ true)) ⊎ ((i : ℕ) × (i < at) × (slice_get (made t) i ≡ Some p))

-- it is told
abbrev pub IsRepeated : (Label → List (List ℕ)) → List Label → Label → List ℕ → Type 0
IsRepeated made ts t p = (k : ℕ) × (slice_get (repeated_outputs made ts) k ≡ Some (output_of t p))
