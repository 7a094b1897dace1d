-- The phony lines of build.ninja.
use Rattle.std.specs.Prelude.{ℕ, Bool, not, if◌then◌else◌, List, [], ◌∷◌, codes, map}
use Rattle.std.specs.List.{list_any}
use Rattle.std.specs.Str.{bytes_eq}
use Rattle.std.specs.Ordering.{nat_cmp}
use Rattle.std.specs.Cmp.Lexicographic.{slice_cmp}
use Rattle.std.specs.BTreeMap.{insert_entry}
use Rattle.gn_ninja.specs.declared.phony.Claim.{Claim}
use Rattle.gn_writing.specs.Lines.{Line, a_build}

-- the names that are given, and a claim before them: it has its name unless that is taken
abbrev pub with_claim : List (List ℕ) → Claim → List (List ℕ × List ℕ) → List (List ℕ × List ℕ)
with_claim taken claim given =
    if list_any (bytes_eq claim.name) taken then given else insert_entry (slice_cmp nat_cmp) given claim.name claim.done

-- who has a name that isn't taken: the first claim of it. Each name stands once, and the names are sorted
abbrev pub winners : List (List ℕ) → List Claim → List (List ℕ × List ℕ)
winners taken [] = []
winners taken (claim ∷ more) = with_claim taken claim (winners taken more)

-- `build NAME: phony DONE`
abbrev pub phony_line : List ℕ × List ℕ → Line
phony_line e = a_build (record { outs = e.0 ∷ []; rule = codes "phony"; ins = e.1 ∷ []; implicit = []; order = [] })

-- the phony lines of claims, which stand by class, and in a class in label order
abbrev pub phony_block : List (List ℕ) → List Claim → List Line
phony_block taken claims = map phony_line (winners taken claims)

-- whether a name that is given isn't taken
abbrev pub is_free : List (List ℕ) → List ℕ × List ℕ → Bool
is_free taken e = not (list_any (bytes_eq e.0) taken)
