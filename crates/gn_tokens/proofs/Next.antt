-- The function `next_token` gives the right answer.
use Rattle.std.proofs.Common.{◌≡◌, ◌≢◌, ℕ, ◌+◌, ◌-◌, ◌<◌, ◌≤◌, false, List, [], ◌∷◌, length, take, drop, slice_index, refl, sym, ◌∙◌, ap, subst, arith, length-drop, get_or-drop, drop-drop}
use Rattle.gn_tokens.specs.declared.token.TokenKind.{TokenKind}
use Rattle.gn_tokens.specs.Bytes.{is_white}
use Rattle.gn_tokens.specs.Number.{IsBadRun, run_len}
use Rattle.gn_tokens.specs.Text.{IsOpen, IsBadDollarBehind}
use Rattle.gn_tokens.specs.Token.{IsGap, IsToken}
use Rattle.gn_tokens.specs.Front.{Front, Found, WrongByte, WrongNumber, NotClosed, WrongDollar, gap_len, front_of}
use Rattle.gn_tokens.specs.Next.{Reader, IsNext, front_answer, answer, next_token}
use Rattle.gn_tokens.proofs.Gaps.{gap_front, gap_whole, gap_stops}
use Rattle.gn_tokens.proofs.Longest.{IsFront, front_is, IsAtMost, at_most, NoToken, bad_run_no_token}

-- A place behind a gap, and what stands there.
record IsPlace (bytes : List ℕ) (at start b : ℕ) (bs : List ℕ) : Type 0 where
  starts : at ≤ start
  gap : IsGap (take (start - at) (drop at bytes))
  rest : drop start bytes ≡ b ∷ bs
  not_white : is_white b ≡ false
  not_comment : b ≢ 35

-- No token is longer than what was found.
abbrev NoneLonger : Front → List ℕ → Type 0
NoneLonger found bs = (kind : TokenKind) (m : ℕ) → m ≤ length bs → IsToken kind (take m bs) → IsAtMost m found

answer_right : (bytes : List ℕ) (at start b : ℕ) (bs : List ℕ) (found : Front) → IsPlace bytes at start b bs → IsFront b bs found → NoneLonger found (b ∷ bs) →
    ((len : ℕ) → IsBadRun (b ∷ bs) len → NoToken found) → IsNext (record { bytes = bytes; at = at }) (front_answer start found)
answer_right bytes at start b bs WrongByte place front longest not_cut =
    let first : slice_index bytes start ≡ b = ap (slice_index bytes) (omega arith) ∙ sym (get_or-drop start bytes 0 0) ∙ ap (λ x. slice_index x 0) place.rest in
    record {
      starts = place.starts;
      within = omega (arith, length-drop start bytes, ap length place.rest);
      gap = place.gap;
      not_white = rw first place.not_white;
      not_comment = rw first place.not_comment;
      not_quote = rw first front;
      no_token = λ kind end le fits t.
          let short : end - start ≤ length (b ∷ bs) = omega (arith, length-drop start bytes, ap length place.rest) in
          longest kind (end - start) short (subst (λ x. IsToken kind (take (end - start) x)) place.rest t);
    }
answer_right bytes at start b bs WrongNumber place front longest not_cut =
    record { starts = place.starts; gap = place.gap; len = run_len (b ∷ bs); is_bad = subst (λ x. IsBadRun x (run_len (b ∷ bs))) (sym place.rest) front }
answer_right bytes at start b bs NotClosed place front longest not_cut =
    record { starts = place.starts; gap = place.gap; is_open = subst IsOpen (sym place.rest) front }
answer_right bytes at start b bs (WrongDollar len) place front longest not_cut =
    record { start = start; len = len; starts = place.starts; gap = place.gap; is_bad = subst (λ x. IsBadDollarBehind x len) (sym place.rest) front; offset_is = refl }
answer_right bytes at start b bs (Found kind len) place front longest not_cut =
    record {
      starts = place.starts;
      ends = omega (arith, front.0);
      within = omega (arith, front.1, length-drop start bytes, ap length place.rest);
      gap = place.gap;
      is_token = let n : start + len - start ≡ len = omega arith in rw (n, place.rest) front.2;
      longest = λ other end le fits t.
          let short : end - start ≤ length (b ∷ bs) = omega (arith, length-drop start bytes, ap length place.rest) in
          let none = longest other (end - start) short (subst (λ x. IsToken other (take (end - start) x)) place.rest t) in
          absurd (omega (arith, none.0, none.1));
      not_cut = λ run bad. not_cut run (subst (λ x. IsBadRun x run) place.rest bad);
    }

right_at : (bytes rest : List ℕ) (at : ℕ) → at ≤ length bytes → drop (at + gap_len false (drop at bytes)) bytes ≡ rest →
    IsNext (record { bytes = bytes; at = at }) (answer (at + gap_len false (drop at bytes)) rest)
right_at bytes [] at h e = gap_whole false (drop at bytes) (omega (arith, length-drop at bytes, length-drop (at + gap_len false (drop at bytes)) bytes, ap length e))
right_at bytes (b ∷ bs) at h e =
    let n = gap_len false (drop at bytes) in
    let behind_gap : drop n (drop at bytes) ≡ b ∷ bs = drop-drop n at bytes ∙ e in
    let stops = gap_stops false (drop at bytes) b bs behind_gap in
    let short : n < length (drop at bytes) = omega (arith, length-drop n (drop at bytes), ap length behind_gap) in
    let same : at + n - at ≡ n = omega arith in
    answer_right bytes at (at + n) b bs (front_of b bs)
    (record { starts = omega arith; gap = rw same (gap_front false (drop at bytes) short); rest = e; not_white = stops.0; not_comment = stops.1 })
    (front_is b bs) (λ kind m le t. at_most kind m b bs le t) (bad_run_no_token b bs)

pub next_token_is_next : (r : Reader) → r.at ≤ length r.bytes → IsNext r (next_token r.bytes r.at)
next_token_is_next r h = right_at r.bytes (drop (r.at + gap_len false (drop r.at r.bytes)) r.bytes) r.at h refl
