-- Texts in which some bytes stand behind a mark.
use Rattle.std.specs.Prelude.{ℕ, Bool, true, false, List, [], ◌∷◌, ◌==◌, Option, None, Some, if◌then◌else◌, option_map}
use Rattle.std.specs.List.{list_any, flat_map}

-- whether a byte is one of these
abbrev pub is_one_of : List ℕ → ℕ → Bool
is_one_of special b = list_any (λ s. s == b) special

-- a byte, behind the mark where it is one of `special`
abbrev pub with_mark : ℕ → List ℕ → ℕ → List ℕ
with_mark mark special b = if is_one_of special b then mark ∷ b ∷ [] else b ∷ []

-- each byte, behind the mark where it is one of `special`
abbrev pub all_marked : ℕ → List ℕ → List ℕ → List ℕ
all_marked mark special bytes = flat_map (with_mark mark special) bytes

-- what a text says whose marks are read: the byte behind a mark, which must be one of `special`, stands for itself, and
-- so does every byte without one. None is for a mark before another byte or at the end. The flag says that a mark has
-- just been read
abbrev pub unmarked : ℕ → List ℕ → Bool → List ℕ → Option (List ℕ)
unmarked mark special false [] = Some []
unmarked mark special true [] = None
unmarked mark special true (b ∷ more) =
    if is_one_of special b then option_map (λ said. b ∷ said) (unmarked mark special false more) else None
unmarked mark special false (b ∷ more) =
    if b == mark then unmarked mark special true more else option_map (λ said. b ∷ said) (unmarked mark special false more)
