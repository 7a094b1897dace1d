-- Which bytes are an integer, and its value.
use Rattle.std.specs.Prelude.{◌≡◌, ◌≢◌, ℕ, suc, ◌+◌, ◌-◌, ◌*◌, ◌≤◌, ◌<◌, ◌^◌, ℤ, pos, neg_ℤ, ◌⊎◌, Bool, true, false, not, ◌&&◌, ◌||◌, ◌==◌, nat_le, if◌then◌else◌, List, [], ◌∷◌, length, take, drop, Option, Some, None, All, IsTrue}
use Rattle.std.specs.List.{prefix_len}
use Rattle.gn_tokens.specs.Bytes.{is_letter, is_digit, begins, begins_with}

-- the number that the digits are, behind this one
abbrev pub decimal_from : ℕ → List ℕ → ℕ
decimal_from n [] = n
decimal_from n (d ∷ ds) = decimal_from (n * 10 + (d - 48)) ds

-- the number that the digits are
abbrev pub decimal : List ℕ → ℕ
decimal ds = decimal_from 0 ds

-- one digit or more
abbrev pub IsDigits : List ℕ → Type 0
IsDigits [] = ⊥
IsDigits (d ∷ ds) = All (λ c. IsTrue (is_digit c)) (d ∷ ds)

-- digits, of which the first is no 0 unless it stands alone
abbrev pub IsNumeral : List ℕ → Type 0
IsNumeral [] = ⊥
IsNumeral (d ∷ ds) = IsDigits (d ∷ ds) × (d ≡ 48 → ds ≡ [])

-- a numeral, or `-` and one other than 0, within signed 64 bits
abbrev pub IsInteger : List ℕ → Type 0
IsInteger bs = (IsNumeral bs × (decimal bs < 2 ^ 63)) ⊎ ((ds : List ℕ) × (bs ≡ 45 ∷ ds) × IsNumeral ds × (ds ≢ 48 ∷ []) × (decimal ds ≤ 2 ^ 63))

-- the value of an integer
abbrev pub integer_value : List ℕ → ℤ
integer_value [] = pos 0
integer_value (b ∷ bs) = if b == 45 then neg_ℤ (pos (decimal bs)) else pos (decimal (b ∷ bs))

-- digits, which a `-` may stand before
abbrev pub IsDigitRun : List ℕ → Type 0
IsDigitRun bs = IsDigits bs ⊎ ((ds : List ℕ) × (bs ≡ 45 ∷ ds) × IsDigits ds)

-- The bytes begin with a run of digits of this length that is no integer, or that a letter or `_` follows directly.
pub record IsBadRun (bs : List ℕ) (len : ℕ) : Type 0 where
  pub within : len ≤ length bs
  pub run : IsDigitRun (take len bs)
  pub whole : begins is_digit (drop len bs) ≡ false
  pub bad : (¬ IsInteger (take len bs)) ⊎ (begins is_letter (drop len bs) ≡ true)

-- The same as functions.

-- A run of digits, or of `-` and digits, begins here.
abbrev pub begins_run : List ℕ → Bool
begins_run [] = false
begins_run (b ∷ bs) = is_digit b || (b == 45 && begins is_digit bs)

-- how many bytes that run has
abbrev pub run_len : List ℕ → ℕ
run_len [] = 0
run_len (b ∷ bs) = if b == 45 then suc (prefix_len is_digit bs) else prefix_len is_digit (b ∷ bs)

-- The digits of an integer, where a `-` stands before them or not.
abbrev pub is_magnitude : Bool → List ℕ → Bool
is_magnitude is_negative ds =
    if begins_with 48 ds then nat_le (length ds) 1 && not is_negative
    else nat_le (decimal ds) (if is_negative then 2 ^ 63 else 2 ^ 63 - 1)

-- A run is an integer.
abbrev pub is_integer : List ℕ → Bool
is_integer [] = false
is_integer (b ∷ bs) = if b == 45 then is_magnitude true bs else is_magnitude false (b ∷ bs)

-- how many bytes the integer at the front has
abbrev pub integer_len : List ℕ → Option ℕ
integer_len bs =
    if begins_run bs && (is_integer (take (run_len bs) bs) && not (begins is_letter (drop (run_len bs) bs))) then Some (run_len bs) else None
