-- What never changes for the targets of each of some toolchains, where it is made once for all of them.
use Rattle.std.specs.Prelude.{◌≡◌, ℕ, Bool, List, [], ◌∷◌, ◌++◌, Option, Some, None, map, option_map, if◌then◌else◌}
use Rattle.std.specs.List.{AllByRecursion, list_any}
use Rattle.std.specs.Str.{bytes_eq}
use Rattle.gn_labels.specs.declared.label.Label.{Label}
use Rattle.gn_items.specs.declared.item.Item.{Item}
use Rattle.gn_records.specs.Around.{Around}
use Rattle.gn_toolchains.specs.declared.surroundings.Surroundings.{Surroundings as Lent}
use Rattle.gn_toolchains.specs.declared.frame.Frame.{Frame}
use Rattle.gn_toolchains.specs.declared.frames.Frames.{Frames}
use Rattle.gn_toolchains.specs.Toolchains.{Surroundings, around_of}

-- what never changes in a build, where it is lent
abbrev pub surroundings : Lent → Surroundings
surroundings s = record { build = s.build.now; default = s.default.now; program = s.program.now }

-- what a frame says
abbrev pub around_in : Surroundings → Frame → Around
around_in s f = record {
  build = s.build;
  default = s.default;
  program = s.program;
  out = f.out;
  generated = f.generated;
  prefix = f.prefix;
  tools = f.tools;
  bound = f.bound;
}

-- the frame of the toolchain of a text
abbrev pub frame_at : (text : List ℕ) → List Frame → Option Frame
frame_at text [] = None
frame_at text (f ∷ fs) = if bytes_eq text f.text then Some f else frame_at text fs

abbrev pub texts_in : List Frame → List (List ℕ)
texts_in frames = map (λ (f : Frame). f.text) frames

-- each frame says what never changes for the targets of its toolchain
abbrev pub AreRight : Surroundings → List Item → List Frame → Type 0
AreRight s items frames = AllByRecursion (λ (f : Frame). around_in s f ≡ around_of s items f.text) frames

-- texts with one more, each once
abbrev pub has_text : List (List ℕ) → List ℕ → Bool
has_text texts text = list_any (bytes_eq text) texts

abbrev pub with_text : List (List ℕ) → List ℕ → List (List ℕ)
with_text texts text = if has_text texts text then texts else texts ++ text ∷ []

-- texts with the toolchains of these targets
abbrev pub with_toolchains : List (List ℕ) → List Label → List (List ℕ)
with_toolchains texts [] = texts
with_toolchains texts (t ∷ ts) = with_toolchains (with_text texts t.toolchain) ts

-- the default toolchain, and then those of these targets
abbrev pub toolchains_of : (default : List ℕ) → List Label → List (List ℕ)
toolchains_of default targets = with_toolchains (default ∷ []) targets

-- what is known around the targets of the toolchain of a text, where it has a frame
abbrev pub known_of : Frames → (text : List ℕ) → Option Around
known_of frames text = option_map (around_in (surroundings frames.surroundings)) (frame_at text frames.list.items)

-- the frames are those of the default toolchain and of the toolchains of these targets
pub record IsOver (s : Surroundings) (items : List Item) (targets : List Label) (frames : Frames) : Type 0 where
  pub given : surroundings frames.surroundings ≡ s
  pub right : AreRight s items frames.list.items
  pub texts : texts_in frames.list.items ≡ toolchains_of s.default targets
