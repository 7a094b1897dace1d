-- What was told, with one thing more.
use Rattle.std.proofs.Common.{◌≡◌, ℕ, ◌<◌, ◌+◌, List, [], ◌∷◌, ◌++◌, map, length, ap, ◌∙◌, refl, sym, append-nil, arith}
use Rattle.std.specs.Prelude.{Option, Some, None, slice_get, slice_index_or, drop, zero, suc, ◌-◌, string_bytes}
use Rattle.std.proofs.lemmas.List.{at_drop_more}
use Rattle.std.proofs.Math.Seq.{drop-length}
use Rattle.std.specs.declared.string.String.{String}
use Rattle.std.specs.declared.vec.Vec.{Vec}
use Rattle.std.specs.declared.alloc.Global.{Global}
use Rattle.std.proofs.lemmas.List.{map-append}
use Rattle.std.proofs.lemmas.Grind.{flat_map-append}
use Rattle.gn_outside.specs.declared.tree_sink.Event.{Event}
use Rattle.gn_outside.specs.declared.tree_sink.Event.TheVariants.{Said, Kept}
use Rattle.gn_outside.specs.States.{PutFile, bytes_of_event, bytes_said, files_put}
use Rattle.gn_outside.specs.TreeSinks.{event_view}

-- one call more says its own bytes behind the others
pub said_more : (events : List Event) (event : Event) → bytes_said (map event_view (events ++ event ∷ [])) ≡ bytes_said (map event_view events) ++ bytes_of_event (event_view event)
said_more events event =
    ap bytes_said (map-append event_view events (event ∷ []))
    ∙ flat_map-append bytes_of_event (map event_view events) (event_view event ∷ [])
    ∙ ap (λ (bytes : List ℕ). bytes_said (map event_view events) ++ bytes) (append-nil (bytes_of_event (event_view event)))

-- the file of this number among these events
abbrev pub file_in : List Event → ℕ → Option PutFile
file_in events n = slice_get (files_put (map event_view events)) n

module _ (events : List Event) (i : ℕ) (event : Event) (here : i < length events) (is : event ≡ slice_index_or events i event) where
  next_is : (n : ℕ) → file_in (drop i events) n ≡ file_in (event ∷ drop (i + 1) events) n
  next_is n = at_drop_more (λ rest. file_in rest n) events i event here ∙ ap (λ (e : Event). file_in (e ∷ drop (i + 1) events) n) (sym is)

  -- a piece is no file
  pub piece_passed : (bytes : Vec ℕ Global) (n : ℕ) → event ≡ Said bytes → file_in (drop i events) n ≡ file_in (drop (i + 1) events) n
  piece_passed bytes n said = next_is n ∙ ap (λ (e : Event). file_in (e ∷ drop (i + 1) events) n) said

  -- the first file is number 0
  pub file_found : (path : String Global) (bytes : Vec ℕ Global) → event ≡ Kept path bytes → file_in (drop i events) 0 ≡ Some (string_bytes path, bytes.items)
  file_found path bytes kept = next_is 0 ∙ ap (λ (e : Event). file_in (e ∷ drop (i + 1) events) 0) kept

  -- behind a file the numbers are one lower
  pub file_passed : (path : String Global) (bytes : Vec ℕ Global) (n : ℕ) → (n ≡ 0 → ⊥) → event ≡ Kept path bytes → file_in (drop i events) n ≡ file_in (drop (i + 1) events) (n - 1)
  file_passed path bytes zero some kept = absurd (some refl)
  file_passed path bytes (suc n) some kept =
      let less : n ≡ suc n - 1 = omega arith in
      next_is (suc n) ∙ ap (λ (e : Event). file_in (e ∷ drop (i + 1) events) (suc n)) kept ∙ ap (λ m. file_in (drop (i + 1) events) m) less
  -- behind the last event there is no file

pub none_left : (events : List Event) (n : ℕ) → file_in (drop (length events) events) n ≡ None
none_left events n = ap (λ rest. file_in rest n) (drop-length events)

-- a file, as a look-up gives it
abbrev pub file_given : List ℕ → List ℕ → Option PutFile
file_given path bytes = Some (path, bytes)

pub same_file : {path kept_path bytes kept : List ℕ} → path ≡ kept_path → bytes ≡ kept → file_given path bytes ≡ file_given kept_path kept
same_file {path} {kept_path} {bytes} {kept} same_path same_bytes = ap (λ (p : List ℕ). file_given p bytes) same_path ∙ ap (λ (b : List ℕ). file_given kept_path b) same_bytes
