-- What is known around the targets of a toolchain for which a frame was made.
use Rattle.std.proofs.Common.{◌≡◌, ℕ, zero, suc, List, [], ◌∷◌, ◌++◌, Bool, true, false, cond, ◌||◌, Option, Some, None, option_map, map, slice_get, refl, sym, ◌∙◌, ap}
use Rattle.std.specs.List.{list_any}
use Rattle.std.specs.Str.{bytes_eq}
use Rattle.std.proofs.lemmas.Slice.Eq.{bytes_eq-Decides}
use Rattle.std.proofs.lemmas.List.Folds.{list_any-append}
use Rattle.gn_basics.proofs.Texts.{bytes_eq-itself}
use Rattle.gn_labels.specs.declared.label.Label.{Label}
use Rattle.gn_items.specs.declared.item.Item.{Item}
use Rattle.gn_records.specs.Around.{Around}
use Rattle.gn_toolchains.specs.declared.frame.Frame.{Frame}
use Rattle.gn_toolchains.specs.declared.frames.Frames.{Frames}
use Rattle.gn_toolchains.specs.Toolchains.{Surroundings, around_of}
use Rattle.gn_toolchains.specs.Frames.{surroundings, around_in, frame_at, texts_in, AreRight, has_text, with_text, with_toolchains, toolchains_of, known_of, IsOver}

found_by : (s : Surroundings) (items : List Item) (f : Frame) (q : List ℕ) (rest : Option Frame) (later : Bool) (b : Bool) → bytes_eq q f.text ≡ b
    → around_in s f ≡ around_of s items f.text → (later ≡ true → option_map (around_in s) rest ≡ Some (around_of s items q)) → (b || later) ≡ true
    → option_map (around_in s) (cond b (Some f) rest) ≡ Some (around_of s items q)
found_by s items f q rest later true e right onward h = ap Some (right ∙ ap (around_of s items) (sym ((bytes_eq-Decides q f.text).0 e)))
found_by s items f q rest later false e right onward h = onward h

found : (s : Surroundings) (items : List Item) (fs : List Frame) → AreRight s items fs → (q : List ℕ) → has_text (texts_in fs) q ≡ true
    → option_map (around_in s) (frame_at q fs) ≡ Some (around_of s items q)
found s items [] right q h = absurd (cc h)
found s items (f ∷ fs) right q h =
    found_by s items f q (frame_at q fs) (has_text (texts_in fs) q) (bytes_eq q f.text) refl right.0 (found s items fs right.1 q) h

-- what is found for a toolchain that has a frame is what never changes for its targets
pub is_around : (s : Surroundings) (items : List Item) (ts : List Label) (frames : Frames) → IsOver s items ts frames → (q : List ℕ) → has_text (toolchains_of s.default ts) q ≡ true
    → known_of frames q ≡ Some (around_of s items q)
is_around s items ts frames over q h =
    ap (λ (z : Surroundings). option_map (around_in z) (frame_at q frames.list.items)) over.given
    ∙ found s items frames.list.items over.right q (ap (λ (z : List (List ℕ)). has_text z q) over.texts ∙ h)

-- a text that is there stays, and one that is added is there
kept_by : (texts : List (List ℕ)) (p q : List ℕ) (b : Bool) → has_text texts q ≡ true → has_text (cond b texts (texts ++ p ∷ [])) q ≡ true
kept_by texts p q true h = h
kept_by texts p q false h = list_any-append (bytes_eq q) texts (p ∷ []) ∙ ap (λ b. b || has_text (p ∷ []) q) h

added_by : (texts : List (List ℕ)) (q : List ℕ) (b : Bool) → has_text texts q ≡ b → has_text (cond b texts (texts ++ q ∷ [])) q ≡ true
added_by texts q true h = h
added_by texts q false h = list_any-append (bytes_eq q) texts (q ∷ []) ∙ ap (λ b. b || (bytes_eq q q || false)) h ∙ ap (λ b. b || false) (bytes_eq-itself q)

kept : (texts : List (List ℕ)) (ts : List Label) (q : List ℕ) → has_text texts q ≡ true → has_text (with_toolchains texts ts) q ≡ true
kept texts [] q h = h
kept texts (t ∷ ts) q h = kept (with_text texts t.toolchain) ts q (kept_by texts t.toolchain q (has_text texts t.toolchain) h)

there : (texts : List (List ℕ)) (ts : List Label) (k : ℕ) (t : Label) → slice_get ts k ≡ Some t → has_text (with_toolchains texts ts) t.toolchain ≡ true
there texts [] k t e = absurd (cc e)
there texts (u ∷ ts) zero t e =
    kept (with_text texts u.toolchain) ts t.toolchain (ap (λ (z : List ℕ). has_text (with_text texts z) t.toolchain) (same_first e) ∙ added_by texts t.toolchain (has_text texts t.toolchain) refl)
  where
    same_first : Some u ≡ Some t → u.toolchain ≡ t.toolchain
    same_first e = ap (λ (z : Option Label). toolchain_or z) e
      where
        toolchain_or : Option Label → List ℕ
        toolchain_or None = []
        toolchain_or (Some z) = z.toolchain
there texts (u ∷ ts) (suc k) t e = there (with_text texts u.toolchain) ts k t e

-- each target's toolchain is among those of the targets, and so is the default one
pub its_toolchain_is_there : (default : List ℕ) (ts : List Label) (k : ℕ) (t : Label) → slice_get ts k ≡ Some t → has_text (toolchains_of default ts) t.toolchain ≡ true
its_toolchain_is_there default ts k t e = there (default ∷ []) ts k t e

pub the_default_one_is_there : (default : List ℕ) (ts : List Label) → has_text (toolchains_of default ts) default ≡ true
the_default_one_is_there default ts = kept (default ∷ []) ts default (ap (λ b. b || false) (bytes_eq-itself default))
