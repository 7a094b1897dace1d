-- Values without variables.
use Rattle.std.proofs.Common.{◌≡◌, ℕ, Bool, true, false, cond, List, [], ◌∷◌, ◌==◌, Option, None, Some, option_map, map, refl, ◌∙◌, ap}
use Rattle.gn_ninja_text.specs.Marks.{is_one_of, unmarked}
use Rattle.gn_ninja_text.specs.Escapes.{value_read, without_first_spaces}
use Rattle.gn_ninja_text.specs.Values.{ValuePart, Byte, ReadingAt, Bytes, Dollar, Name, with_byte, parts_from, value_parts_read}

-- where a reading is once a mark has or hasn't just been read
abbrev reading_behind : Bool → ReadingAt
reading_behind false = Bytes
reading_behind true = Dollar

-- a byte before what is read
said_first : (b : ℕ) (said : Option (List ℕ)) (read : Option (List ValuePart)) (value : List ℕ) → ((v : List ℕ) → said ≡ Some v → read ≡ Some (map Byte v)) → option_map (λ more. b ∷ more) said ≡ Some value → with_byte b read ≡ Some (map Byte value)
said_first b None read value again h = absurd cc
said_first b (Some v) read value again h =
    let e : b ∷ v ≡ value = cc in
    ap (with_byte b) (again v refl) ∙ ap (λ v. Some (map Byte v)) e

same_from : (marked : Bool) (text value : List ℕ) → unmarked 36 (36 ∷ 32 ∷ []) marked text ≡ Some value → parts_from (reading_behind marked) text ≡ Some (map Byte value)
same_from false [] value h = let e : [] ≡ value = cc in ap (λ v. Some (map Byte v)) e
same_from true [] value h = absurd cc
same_from false (b ∷ more) value h = by (b == 36) h (same_from true more value) (same_from false more)
  where
    by : (v : Bool) → cond v (unmarked 36 (36 ∷ 32 ∷ []) true more) (option_map (λ said. b ∷ said) (unmarked 36 (36 ∷ 32 ∷ []) false more)) ≡ Some value →
        (unmarked 36 (36 ∷ 32 ∷ []) true more ≡ Some value → parts_from Dollar more ≡ Some (map Byte value)) →
        ((w : List ℕ) → unmarked 36 (36 ∷ 32 ∷ []) false more ≡ Some w → parts_from Bytes more ≡ Some (map Byte w)) →
        cond v (parts_from Dollar more) (with_byte b (parts_from Bytes more)) ≡ Some (map Byte value)
    by true h marked plain = marked h
    by false h marked plain = said_first b (unmarked 36 (36 ∷ 32 ∷ []) false more) (parts_from Bytes more) value plain h
same_from true (b ∷ more) value h = by (is_one_of (36 ∷ 32 ∷ []) b) h (same_from false more)
  where
    by : (v : Bool) → cond v (option_map (λ said. b ∷ said) (unmarked 36 (36 ∷ 32 ∷ []) false more)) None ≡ Some value →
        ((w : List ℕ) → unmarked 36 (36 ∷ 32 ∷ []) false more ≡ Some w → parts_from Bytes more ≡ Some (map Byte w)) →
        cond v (with_byte b (parts_from Bytes more)) (cond (b == 123) (parts_from (Name []) more) None) ≡ Some (map Byte value)
    by true h plain = said_first b (unmarked 36 (36 ∷ 32 ∷ []) false more) (parts_from Bytes more) value plain h
    by false h plain = absurd cc

pub same_without_variables : (text value : List ℕ) → value_read text ≡ Some value → value_parts_read text ≡ Some (map Byte value)
unfolding value_read value_parts_read
same_without_variables text value h = same_from false (without_first_spaces text) value h
