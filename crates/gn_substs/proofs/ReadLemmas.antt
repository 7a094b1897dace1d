-- A text has just one reading.
use Rattle.std.proofs.Common.{◌≡◌, ℕ, zero, suc, ◌+◌, ◌-◌, ◌<◌, ◌≤◌, Bool, true, false, ◌&&◌, ◌==◌, cond, List, [], ◌∷◌, ◌++◌, length, take, drop, Option, None, Some, Result, Ok, Err, nat_lt, if◌then◌else◌, option_map, refl, sym, ◌∙◌, ap, subst, length-drop, arith}
use Rattle.std.proofs.lemmas.Bool.{lt-ltb, le-ltb, ltb-true, ltb-false}
use Rattle.gn_substs.specs.declared.names.Substitution.{Substitution}
use Rattle.gn_substs.specs.declared.positions.Position.{Position}
use Rattle.gn_substs.specs.declared.pieces.SubstPiece.{SubstPiece}
use Rattle.gn_substs.specs.declared.subst.Subst.{Subst}
use Rattle.gn_substs.specs.declared.subst.BracedName.{BracedName}
use Rattle.gn_substs.specs.Positions.{substitution_at}
use Rattle.gn_substs.specs.Pieces.{first_is, pair_at, found_at, name_from, piece_of}
use Rattle.gn_substs.specs.Reading.{LeadsTo, IsReadAs, IsFirstBad, with_first, read_behind, read_within, subst_read}
use Rattle.gn_substs.specs.Laws.{HasOneReading}
use Rattle.gn_substs.proofs.PieceLemmas.{pair_room}

-- What is found stands where its name says.
pub record FoundIn (position : Position) (inside : List ℕ) (start close : ℕ) (found : BracedName) : Type 0 where
  pub starts : found.start ≡ start
  pub within : close < length inside
  pub named : substitution_at position (take close inside) ≡ Some found.substitution
  pub ends : found.end ≡ start + 2 + close + 2

found_by : (position : Position) (inside : List ℕ) (start close : ℕ) (found : BracedName) (b : Bool) (o : Option Substitution) → nat_lt close (length inside) ≡ b →
    substitution_at position (take close inside) ≡ o → (if b then option_map (found_at start close) o else None) ≡ Some found → FoundIn position inside start close found
found_by position inside start close found false o e n h = absurd cc
found_by position inside start close found true None e n h = absurd cc
found_by position inside start close found true (Some s) e n h =
    let same : found_at start close s ≡ found = cc in
    record {
      starts = sym (ap (λ (f : BracedName). f.start) same);
      within = ltb-true close (length inside) e;
      named = n ∙ ap (λ (f : BracedName). Some f.substitution) same;
      ends = sym (ap (λ (f : BracedName). f.end) same);
    }

pub is_found : (position : Position) (text : List ℕ) (start : ℕ) (found : BracedName) → name_from position text start ≡ Some found →
    FoundIn position (drop (start + 2) text) start (pair_at 125 (drop (start + 2) text)) found
unfolding name_from
is_found position text start found h =
    found_by position (drop (start + 2) text) start (pair_at 125 (drop (start + 2) text)) found (nat_lt (pair_at 125 (drop (start + 2) text)) (length (drop (start + 2) text)))
    (substitution_at position (take (pair_at 125 (drop (start + 2) text)) (drop (start + 2) text))) refl refl h

pub pair_within : (b : ℕ) (t : List ℕ) → pair_at b t ≤ length t
pair_within b [] = omega arith
pair_within b (x ∷ more) = by ((x == b) && first_is b more) (pair_within b more)
  where
    by : (v : Bool) → pair_at b more ≤ length more → cond v 0 (1 + pair_at b more) ≤ length (x ∷ more)
    by true h = omega arith
    by false h = omega (arith, h)

-- Where something is found, a `{{` stands, and the text goes on at least to its end.
pub found_room : (position : Position) (text : List ℕ) (start : ℕ) (found : BracedName) → name_from position text start ≡ Some found →
    (start < length text) × (start + 4 ≤ found.end) × (found.end ≤ length text)
found_room position text start found h =
    let f = is_found position text start found h in
    let room = pair_room 125 (drop (start + 2) text) f.within in
    let l = length-drop (start + 2) text in
    (omega (arith, f.within, l), omega (arith, f.ends), omega (arith, f.ends, room, l))

pub pieces_read : (n : ℕ) (position : Position) (before : ℕ) (text : List ℕ) (ps : List SubstPiece) (last : List ℕ) → length text ≤ n → LeadsTo position text ps last →
    pair_at 123 last ≡ length last → read_within n position before text ≡ Ok (record { pieces = ps; last = last })
pieces_read zero position before text [] last le h none = ap (λ x. Ok (record { pieces = []; last = x })) h
pieces_read zero position before text (p ∷ ps) last le h none = absurd (omega (arith, le, (found_room position text (pair_at 123 text) h.0 h.1).0))
pieces_read (suc n) position before text [] last le h none =
    let e : length text ≤ pair_at 123 text = omega (arith, ap (pair_at 123) h, ap length h, none) in
    rw (le-ltb (pair_at 123 text) (length text) e) (ap (λ x. Ok (record { pieces = []; last = x })) h)
pieces_read (suc n) position before text (p ∷ ps) last le h none =
    let room = found_room position text (pair_at 123 text) h.0 h.1 in
    let rest : length (drop h.0.end text) ≤ n = omega (arith, le, room.0, room.1, room.2, length-drop h.0.end text) in
    rw (lt-ltb (pair_at 123 text) (length text) room.0, h.1)
    (ap (with_first (piece_of text h.0)) (pieces_read n position (before + h.0.end) (drop h.0.end text) ps last rest h.3 none)
    ∙ ap (λ q. Ok (record { pieces = q ∷ ps; last = last })) (sym h.2))

pub bad_read : (n : ℕ) (position : Position) (before : ℕ) (text : List ℕ) (ps : List SubstPiece) (rest : List ℕ) (offset : ℕ) → length text ≤ n → LeadsTo position text ps rest →
    pair_at 123 rest < length rest → name_from position rest (pair_at 123 rest) ≡ None → offset + length rest ≡ before + length text + pair_at 123 rest →
    read_within n position before text ≡ Err offset
bad_read zero position before text [] rest offset le h lt none at = absurd (omega (arith, le, ap length h, lt))
bad_read zero position before text (p ∷ ps) rest offset le h lt none at = absurd (omega (arith, le, (found_room position text (pair_at 123 text) h.0 h.1).0))
bad_read (suc n) position before text [] rest offset le h lt none at =
    let here : pair_at 123 text < length text = omega (arith, lt, ap length h, ap (pair_at 123) h) in
    let nothing : name_from position text (pair_at 123 text) ≡ None = ap (λ x. name_from position x (pair_at 123 x)) h ∙ none in
    let same : before + pair_at 123 text ≡ offset = omega (arith, at, ap length h, ap (pair_at 123) h) in
    rw (lt-ltb (pair_at 123 text) (length text) here, nothing) (ap Err same)
bad_read (suc n) position before text (p ∷ ps) rest offset le h lt none at =
    let room = found_room position text (pair_at 123 text) h.0 h.1 in
    let l = length-drop h.0.end text in
    let less : length (drop h.0.end text) ≤ n = omega (arith, le, room.0, room.1, room.2, l) in
    rw (lt-ltb (pair_at 123 text) (length text) room.0, h.1)
    (ap (with_first (piece_of text h.0)) (bad_read n position (before + h.0.end) (drop h.0.end text) ps rest offset less h.3 lt none (omega (arith, at, room.2, l))))

-- The reading is right, where so many bytes stand before the text.
abbrev IsRightAt : Position → ℕ → List ℕ → Result Subst ℕ → Type 0
IsRightAt position before text (Ok s) = IsReadAs position text s.pieces s.last
IsRightAt position before text (Err offset) =
    (pieces : List SubstPiece) × (rest : List ℕ) × LeadsTo position text pieces rest × (pair_at 123 rest < length rest) × (name_from position rest (pair_at 123 rest) ≡ None) × (offset + length rest ≡ before + length text + pair_at 123 rest)

prepended : (position : Position) (before : ℕ) (text : List ℕ) (found : BracedName) (r : Result Subst ℕ) → name_from position text (pair_at 123 text) ≡ Some found →
    IsRightAt position (before + found.end) (drop found.end text) r → IsRightAt position before text (with_first (piece_of text found) r)
prepended position before text found (Ok s) e h = ((found, e, refl, h.0), h.1)
prepended position before text found (Err offset) e h = (
  piece_of text found ∷ h.0,
  h.1,
  (found, e, refl, h.2),
  h.3,
  h.4,
  omega (arith, h.5, length-drop found.end text, (found_room position text (pair_at 123 text) found e).2),
)

right_step : (position : Position) (before : ℕ) (text : List ℕ) (go : BracedName → Result Subst ℕ) (b : Bool) (o : Option BracedName) → nat_lt (pair_at 123 text) (length text) ≡ b →
    name_from position text (pair_at 123 text) ≡ o → ((found : BracedName) → o ≡ Some found → IsRightAt position (before + found.end) (drop found.end text) (go found)) →
    IsRightAt position before text (if b then read_behind o (before + pair_at 123 text) text go else Ok (record { pieces = []; last = text }))
right_step position before text go false o e n again = (refl, omega (arith, pair_within 123 text, ltb-false (pair_at 123 text) (length text) e))
right_step position before text go true None e n again = ([], text, refl, ltb-true (pair_at 123 text) (length text) e, n, omega arith)
right_step position before text go true (Some found) e n again = prepended position before text found (go found) n (again found refl)

is_right : (n : ℕ) (position : Position) (before : ℕ) (text : List ℕ) → length text ≤ n → IsRightAt position before text (read_within n position before text)
is_right zero position before [] le = (refl, refl)
is_right zero position before (x ∷ text) le = absurd (omega (arith, le))
is_right (suc n) position before text le =
    right_step position before text (λ found. read_within n position (before + found.end) (drop found.end text)) (nat_lt (pair_at 123 text) (length text))
    (name_from position text (pair_at 123 text)) refl refl
    (λ found e.
    let room = found_room position text (pair_at 123 text) found e in
    is_right n position (before + found.end) (drop found.end text) (omega (arith, le, room.0, room.1, room.2, length-drop found.end text)))

are_right : (position : Position) (text : List ℕ) (s : Subst) (r : Result Subst ℕ) → IsRightAt position 0 text r → r ≡ Ok s → IsReadAs position text s.pieces s.last
are_right position text s (Ok x) h e = let same : x ≡ s = cc in subst (λ (y : Subst). IsReadAs position text y.pieces y.last) same h
are_right position text s (Err offset) h e = absurd cc

bad_right : (position : Position) (text : List ℕ) (offset : ℕ) (r : Result Subst ℕ) → IsRightAt position 0 text r → r ≡ Err offset → IsFirstBad position text offset
bad_right position text offset (Ok s) h e = absurd cc
bad_right position text offset (Err at) h e = let same : at ≡ offset = cc in (h.0, h.1, h.2, h.3, h.4, omega (arith, h.5, same))

-- the same of a whole text
pub read_of_pieces : (position : Position) (text : List ℕ) (ps : List SubstPiece) (last : List ℕ) → LeadsTo position text ps last → pair_at 123 last ≡ length last →
    subst_read position text ≡ Ok (record { pieces = ps; last = last })
unfolding subst_read
read_of_pieces position text ps last h none = pieces_read (length text) position 0 text ps last (omega arith) h none

pub read_of_bad : (position : Position) (text : List ℕ) (ps : List SubstPiece) (rest : List ℕ) (offset : ℕ) → LeadsTo position text ps rest → pair_at 123 rest < length rest →
    name_from position rest (pair_at 123 rest) ≡ None → offset + length rest ≡ length text + pair_at 123 rest → subst_read position text ≡ Err offset
unfolding subst_read
read_of_bad position text ps rest offset h lt none at = bad_read (length text) position 0 text ps rest offset (omega arith) h lt none (omega (arith, at))

pub one_reading : (position : Position) (text : List ℕ) → HasOneReading position text (subst_read position text)
unfolding subst_read
one_reading position text =
    let right = is_right (length text) position 0 text (omega arith) in
    record {
      pieces = λ s h. pieces_read (length text) position 0 text s.pieces s.last (omega arith) h.0 h.1;
      are_pieces = λ s e. are_right position text s (read_within (length text) position 0 text) right e;
      error = λ offset h. bad_read (length text) position 0 text h.0 h.1 offset (omega arith) h.2 h.3 h.4 (omega (arith, h.5));
      is_error = λ offset e. bad_right position text offset (read_within (length text) position 0 text) right e;
    }

-- the offset of a bad `{{`, as code counts it
pub read_bad_at : (position : Position) (text : List ℕ) (ps : List SubstPiece) (rest : List ℕ) (start : ℕ) → LeadsTo position text ps rest → start ≡ pair_at 123 rest →
    start < length rest → length rest ≤ length text → name_from position rest start ≡ None → subst_read position text ≡ Err (length text - length rest + start)
read_bad_at position text ps rest start h at lt within none =
    read_of_bad position text ps rest (length text - length rest + start) h (omega (arith, lt, at)) (ap (name_from position rest) (sym at) ∙ none) (omega (arith, within, at))
