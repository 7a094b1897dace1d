-- The paths of some lists that stand in none of others.
use Rattle.std.specs.Prelude.{ℕ, Bool, not, List}
use Rattle.std.specs.List.{list_any, flat_map, filter}
use Rattle.std.specs.Str.{bytes_eq}
use Rattle.std.specs.Borrow.{Bor}
use Rattle.gn_paths.specs.declared.texts.Texts.{Texts}

-- whether a path is none of these
abbrev pub is_missing : List (List ℕ) → List ℕ → Bool
is_missing paths path = not (list_any (bytes_eq path) paths)

-- lists that are lent, one behind the other
abbrev pub joined : List (Bor Texts) → List (List ℕ)
joined lists = flat_map (λ l. l.now) lists

-- the paths of some lists that stand in none of the others
abbrev pub rest : List (Bor Texts) → List (Bor Texts) → List (List ℕ)
rest lists others = filter (is_missing (joined others)) (joined lists)
