-- The order of faults.
use Rattle.std.specs.Prelude.{ℕ, Bool, List, option_map}
use Rattle.std.specs.declared.cmp.Ordering.{Ordering}
use Rattle.std.specs.declared.option.Option.{Option}
use Rattle.std.specs.Ordering.{nat_cmp, ordering_then, is_lt}
use Rattle.std.specs.Option.{option_cmp}
use Rattle.std.specs.Cmp.Lexicographic.{slice_cmp}
use Rattle.gn_faults.specs.declared.fault.Fault.{Fault}
use Rattle.gn_faults.specs.Numbers.{code_number, stage_number}

-- texts go by their bytes
abbrev pub text_cmp : List ℕ → List ℕ → Ordering
text_cmp = slice_cmp nat_cmp

-- the file of a fault's place, if it has a place
abbrev pub file_of : Fault → Option (List ℕ)
file_of fault = option_map (λ place. place.file) fault.place

-- the line and column of a fault's place, if it has a place
abbrev pub position_of : Fault → Option (ℕ × ℕ)
position_of fault = option_map (λ place. (place.line, place.column)) fault.place

-- positions go by line, then column
abbrev pub position_cmp : ℕ × ℕ → ℕ × ℕ → Ordering
position_cmp p q = ordering_then (nat_cmp p.0 q.0) (nat_cmp p.1 q.1)

-- faults by stage, then file, toolchain, line, column, number of the code, and details. One without a place stands
-- before those of its stage with one
unfoldable pub fault_cmp : Fault → Fault → Ordering
fault_cmp a b =
    ordering_then (nat_cmp (stage_number a.stage) (stage_number b.stage))
    (ordering_then (option_cmp text_cmp (file_of a) (file_of b))
    (ordering_then (text_cmp a.toolchain b.toolchain)
    (ordering_then (option_cmp position_cmp (position_of a) (position_of b))
    (ordering_then (nat_cmp (code_number a.code) (code_number b.code))
    (slice_cmp text_cmp a.detail b.detail)))))

-- whether a fault stands before another
abbrev pub is_before : Fault → Fault → Bool
is_before a b = is_lt (fault_cmp a b)
