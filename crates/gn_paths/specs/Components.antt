-- The parts of a path between its slashes.
use Rattle.std.specs.Prelude.{ℕ, Bool, List, [], ◌∷◌, ◌++◌, ◌-◌, ◌==◌, ◌≡◌, false, not, if◌then◌else◌, nat_eq, drop, length, take}
use Rattle.std.specs.List.{All, slice_split, starts_with, ends_with, suffix_len}

-- the texts `/`, `//`, `.` and `..`
abbrev pub slash : List ℕ
slash = 47 ∷ []

abbrev pub two_slashes : List ℕ
two_slashes = 47 ∷ 47 ∷ []

abbrev pub dot : List ℕ
dot = 46 ∷ []

abbrev pub two_dots : List ℕ
two_dots = 46 ∷ 46 ∷ []

-- the byte that separates components, `/`
abbrev pub is_slash : ℕ → Bool
is_slash b = b == 47

-- a text without a slash
abbrev pub HasNoSlash : List ℕ → Type 0
HasNoSlash c = All (λ b. is_slash b ≡ false) c

-- the pieces of a text between its slashes, in order; a text without a slash is one piece
abbrev pub pieces : List ℕ → List (List ℕ)
pieces t = slice_split is_slash t

-- components joined, each behind a slash
abbrev pub trail : List (List ℕ) → List ℕ
trail [] = []
trail (c ∷ cs) = 47 ∷ (c ++ trail cs)

-- a path of the source tree begins with two slashes
abbrev pub is_source : List ℕ → Bool
is_source p = starts_with nat_eq p (two_slashes)

-- a text that begins with a slash doesn't start at the current directory
abbrev pub is_absolute : List ℕ → Bool
is_absolute p = starts_with nat_eq p (slash)

-- a system path begins with one slash, and not with two
abbrev pub is_system : List ℕ → Bool
is_system p = if is_source p then false else is_absolute p

-- a text that ends in a slash
abbrev pub ends_in_slash : List ℕ → Bool
ends_in_slash p = ends_with nat_eq p (slash)

-- the text without its final slash, if it has one
abbrev pub without_final_slash : List ℕ → List ℕ
without_final_slash p = if ends_in_slash p then take (length p - 1) p else p

-- the text without all its final slashes
abbrev pub without_final_slashes : List ℕ → List ℕ
without_final_slashes p = take (length p - suffix_len is_slash p) p

-- the text up to its last slash and with it, and nothing where it has none
abbrev pub up_to_last_slash : List ℕ → List ℕ
up_to_last_slash p = take (length p - suffix_len (λ b. not (is_slash b)) p) p

-- what stands before the slash of the first component: `/` at the source root, nothing at the system's
abbrev pub top_of : List ℕ → List ℕ
top_of p = if is_source p then slash else []

-- the components of an absolute path as they stand: cut at every slash, one final slash off, nothing
-- else dropped; none for the roots `//` and `/`
unfoldable pub components : List ℕ → List (List ℕ)
components p = drop 1 (pieces (drop (length (top_of p)) (without_final_slash p)))

-- the path of these components, with a final slash where `final` says so: below the source root where
-- `top` is `/`, below the system's where it is empty. A root is one slash behind `top`
abbrev pub spelled : List ℕ → List (List ℕ) → Bool → List ℕ
spelled top [] final = top ++ slash
spelled top (c ∷ cs) final = top ++ trail (c ∷ cs) ++ (if final then slash else [])
