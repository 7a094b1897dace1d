-- Positions, counted a byte at a time, are those of the bytes before.
use Rattle.std.proofs.Common.{◌≡◌, ℕ, zero, suc, ◌+◌, ◌-◌, ◌≤◌, ◌==◌, Bool, true, false, not, cond, if◌then◌else◌, List, [], ◌∷◌, ◌++◌, length, take, drop, reverse, refl, sym, ◌∙◌, ap, arith, append_assoc}
use Rattle.std.specs.List.{prefix_len, count_by, slice_range}
use Rattle.std.proofs.lemmas.List.{reverse-append, length-reverse, append-nil}
use Rattle.std.proofs.lemmas.List.Sums.{sum_by-append, count_by-le-length, prefix_len-le-length}
use Rattle.gn_value_model.specs.Limits.{max_bytes}
use Rattle.gn_tree.specs.declared.position.Position.{Position}
use Rattle.gn_grammar.specs.Position.{counted, line_behind, column_behind, position_of}
use Rattle.gn_grammar.proofs.Standing.{at, same_place}
use Rattle.gn_syntax.specs.Counting.{behind_byte, behind_bytes, behind_first}

-- one byte more, by whether it is a newline
step : (v : Bool) (lines run l c : ℕ) → l ≡ lines + cond v 1 0 → c ≡ cond (not v) (1 + run) 0 →
    (if v then at (counted (counted (lines + 1) + 1)) 1 else at (counted (lines + 1)) (counted (counted (run + 1) + 1))) ≡ at (counted (l + 1)) (counted (c + 1))
step true lines run l c e f = same_place (counted (counted (lines + 1) + 1)) 1 (counted (l + 1)) (counted (c + 1)) (omega arith) (omega arith)
step false lines run l c e f = same_place (counted (lines + 1)) (counted (counted (run + 1) + 1)) (counted (l + 1)) (counted (c + 1)) (omega arith) (omega arith)

abbrev is_newline : ℕ → Bool
is_newline b = b == 10

abbrev no_newline : ℕ → Bool
no_newline b = not (b == 10)

lines_push : (bs : List ℕ) (b : ℕ) → count_by is_newline (bs ++ b ∷ []) ≡ count_by is_newline bs + cond (b == 10) 1 0
lines_push bs b = sum_by-append (λ x. cond (is_newline x) 1 0) bs (b ∷ []) ∙ ap (λ n. count_by is_newline bs + n) (omega arith)

run_push : (bs : List ℕ) (b : ℕ) → prefix_len no_newline (reverse (bs ++ b ∷ [])) ≡ cond (not (b == 10)) (1 + prefix_len no_newline (reverse bs)) 0
run_push bs b = ap (prefix_len no_newline) (reverse-append bs (b ∷ []))

behind_push : (before : List ℕ) (b : ℕ) → behind_byte (behind_first before) b ≡ behind_first (before ++ b ∷ [])
behind_push before b =
    step (b == 10) (count_by is_newline before) (prefix_len no_newline (reverse before)) (count_by is_newline (before ++ b ∷ []))
    (prefix_len no_newline (reverse (before ++ b ∷ []))) (lines_push before b) (run_push before b)

pub behind_from : (before bs : List ℕ) → behind_bytes (behind_first before) bs ≡ behind_first (before ++ bs)
behind_from before [] = ap behind_first (sym (append-nil before))
behind_from before (b ∷ bs) =
    ap (λ p. behind_bytes p bs) (behind_push before b) ∙ behind_from (before ++ b ∷ []) bs ∙ ap behind_first (append_assoc before (b ∷ []) bs)

abbrev none : List ℕ
none = []

take_nothing : (n : ℕ) → none ≡ take n none
take_nothing zero = refl
take_nothing (suc n) = refl

take_range : (i j : ℕ) (bs : List ℕ) → i ≤ j → take j bs ≡ take i bs ++ take (j - i) (drop i bs)
take_range zero j bs h = let e : j - 0 ≡ j = omega arith in rw e refl
take_range (suc i) zero bs h = absurd (omega arith)
take_range (suc i) (suc j) [] h = take_nothing (suc j - suc i)
take_range (suc i) (suc j) (b ∷ bs) h = let e : suc j - suc i ≡ j - i = omega arith in rw e (ap (λ x. b ∷ x) (take_range i j bs (omega arith)))

-- from one offset to a later one
pub position_between : (bytes : List ℕ) (i j : ℕ) → i ≤ j → behind_bytes (position_of bytes i) (slice_range bytes i j) ≡ position_of bytes j
position_between bytes i j h = behind_from (take i bytes) (slice_range bytes i j) ∙ ap behind_first (sym (take_range i j bytes h))

-- from the beginning
pub position_behind : (bytes : List ℕ) (n : ℕ) → behind_bytes (at 1 1) (take n bytes) ≡ position_of bytes n
position_behind bytes n = behind_from [] (take n bytes)

length_take : (n : ℕ) (bs : List ℕ) → length (take n bs) ≤ length bs
length_take zero bs = omega arith
length_take (suc n) [] = omega arith
length_take (suc n) (b ∷ bs) = omega (arith, length_take n bs)

pub line_of : (bytes : List ℕ) (n : ℕ) (p : Position) → length bytes ≤ max_bytes → p ≡ behind_bytes (at 1 1) (take n bytes) → p.line ≡ line_behind (take n bytes)
line_of bytes n p small e =
    let same : p.line ≡ counted (line_behind (take n bytes)) = ap (λ (q : Position). q.line) (e ∙ position_behind bytes n) in
    omega (arith, same, count_by-le-length is_newline (take n bytes), length_take n bytes)

pub column_of : (bytes : List ℕ) (n : ℕ) (p : Position) → length bytes ≤ max_bytes → p ≡ behind_bytes (at 1 1) (take n bytes) → p.column ≡ column_behind (take n bytes)
column_of bytes n p small e =
    let same : p.column ≡ counted (column_behind (take n bytes)) = ap (λ (q : Position). q.column) (e ∙ position_behind bytes n) in
    omega (arith, same, prefix_len-le-length no_newline (reverse (take n bytes)), length-reverse (take n bytes), length_take n bytes)
