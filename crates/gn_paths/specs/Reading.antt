-- How a text that may name a path is read, byte by byte.
use Rattle.std.specs.Prelude.{ℕ, Bool, true, false, List, [], ◌∷◌, ◌-◌, ◌==◌, ◌&&◌, ◌≡◌, ◌⊎◌, Option, None, Some, if◌then◌else◌, nat_lt, nat_le}
use Rattle.std.specs.List.{list_all}
use Rattle.std.specs.Str.{is_utf8}
use Rattle.simdutf8.specs.Steps.{least_after, most_after}
use Rattle.gn_paths.specs.declared.error.PathError.{PathError}
use Rattle.gn_paths.specs.declared.error.PathError.TheVariants.{AboveRoot, BadPath, Memory}
use Rattle.gn_paths.specs.declared.reading.Pending.{Pending}
use Rattle.gn_paths.specs.Components.{is_slash}
use Rattle.gn_paths.specs.Normal.{is_path_byte}

-- a text without NUL and newline that is UTF-8
unfoldable pub is_clean : List ℕ → Bool
is_clean t = list_all is_path_byte t && is_utf8 t

-- why a text gives no path, where `path` is None if it leads above the root: the text isn't clean, or
-- else memory was wanting or it leads there
abbrev pub IsFault : {X : Type 0} → List ℕ → Option X → PathError → Type 0
IsFault text path e =
    ((is_clean text ≡ false) × (e ≡ BadPath)) ⊎ ((is_clean text ≡ true) × ((e ≡ Memory) ⊎ ((e ≡ AboveRoot) × (path ≡ None))))

-- so many bytes of a character are still to come, and the next one is in this range
abbrev pub pending : ℕ → ℕ → ℕ → Pending
pending left least most = record { left = left; least = least; most = most }

-- between two characters
abbrev pub between : Pending
between = pending 0 0x80 0xBF

-- after the first byte of a character, or None where none begins with it
abbrev pub begun : ℕ → Option Pending
begun b =
    if nat_lt b 0x80 then Some between else
    (if nat_lt b 0xC2 then None else
    (if nat_lt b 0xE0 then Some (pending 1 0x80 0xBF) else
    (if nat_lt b 0xF0 then Some (pending 2 (least_after b) (most_after b)) else
    (if nat_lt b 0xF5 then Some (pending 3 (least_after b) (most_after b)) else None))))

-- after one more byte, or None where it may not come next
abbrev pub next : Pending → ℕ → Option Pending
next p b =
    if p.left == 0 then begun b else
    (if nat_le p.least b && nat_le b p.most then Some (pending (p.left - 1) 0x80 0xBF) else None)

-- the first piece of a text is clean, as it is read
abbrev pub is_clean_from : Option Pending → List ℕ → Bool
is_clean_from None t = false
is_clean_from (Some p) [] = p.left == 0
is_clean_from (Some p) (b ∷ bs) =
    if is_slash b then p.left == 0 else (is_path_byte b && is_clean_from (next p b) bs)
