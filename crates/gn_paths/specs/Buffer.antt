-- How a path grows in a buffer: `top` bytes, and then the components so far, each behind a slash.
use Rattle.std.specs.Prelude.{ℕ, Bool, List, [], ◌∷◌, ◌++◌, ◌==◌, ◌||◌, Option, None, Some, if◌then◌else◌, length, option_and_then, option_map}
use Rattle.std.specs.List.{before_last}
use Rattle.std.specs.Str.{bytes_eq}
use Rattle.gn_paths.specs.Components.{is_slash, slash, two_dots, pieces, top_of, without_final_slash, ends_in_slash}
use Rattle.gn_paths.specs.Resolve.{stays_there}

-- the buffer after one piece of a text, or None where it leads above the top
unfoldable pub buffer_stepped : ℕ → List ℕ → List ℕ → Option (List ℕ)
buffer_stepped top buffer piece =
    if stays_there piece then Some buffer
    else (if bytes_eq piece two_dots then (if length buffer == top then None else Some (before_last is_slash buffer)) else Some (buffer ++ 47 ∷ piece))

-- the buffer after all pieces
abbrev pub buffer_walked : ℕ → List ℕ → List (List ℕ) → Option (List ℕ)
buffer_walked top buffer [] = Some buffer
buffer_walked top buffer (piece ∷ more) =
    option_and_then (λ after. buffer_walked top after more) (buffer_stepped top buffer piece)

-- the buffer with its last slash, which a root has, and the path of a text that ends in one
abbrev pub buffer_closed : ℕ → Bool → List ℕ → List ℕ
buffer_closed top final buffer = if (length buffer == top) || final then buffer ++ slash else buffer

-- the buffer after a text that starts at a directory
abbrev pub buffer_led : List ℕ → List ℕ → Option (List ℕ)
buffer_led start text =
    option_map (buffer_closed (length (top_of start)) (ends_in_slash text)) (buffer_walked (length (top_of start)) (without_final_slash start) (pieces text))
