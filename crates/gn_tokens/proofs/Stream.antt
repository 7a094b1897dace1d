-- A stream is the next answer, and then what comes behind it.
use Rattle.std.proofs.Common.{◌≡◌, ℕ, zero, suc, ◌+◌, ◌-◌, ◌<◌, ◌≤◌, List, length, Option, Some, None, Result, Ok, Err, refl, sym, ◌∙◌, ap, subst, arith}
use Rattle.gn_tokens.specs.declared.token.Token.{Token}
use Rattle.gn_tokens.specs.declared.token.TokenError.{TokenError}
use Rattle.gn_tokens.specs.Next.{Reader, IsNext, IsNextToken, next_token, offset_behind}
use Rattle.gn_tokens.specs.Stream.{Stream, Gives, stream_with, stream_behind, stream_within, stream_of}
use Rattle.gn_tokens.proofs.Next.{next_token_is_next}

-- A token is behind the offset and within the bytes.
moves_on : (bytes : List ℕ) (at : ℕ) (token : Token) → at ≤ length bytes → next_token bytes at ≡ Ok (Some token) → IsNextToken bytes at token
moves_on bytes at token h e = subst (IsNext (record { bytes = bytes; at = at })) e (next_token_is_next (record { bytes = bytes; at = at }) h)

-- The same answer and the same stream behind it.
same_behind : (f g : ℕ → Stream) (answer : Result (Option Token) TokenError) → ((token : Token) → answer ≡ Ok (Some token) → f token.end ≡ g token.end) → stream_behind f answer ≡ stream_behind g answer
same_behind f g (Ok (Some token)) h = ap (Gives token) (h token refl)
same_behind f g (Ok None) h = refl
same_behind f g (Err error) h = refl

-- Every count that is large enough gives the same.
same_within : (n m : ℕ) (bytes : List ℕ) (at : ℕ) → at ≤ length bytes → length bytes - at < n → length bytes - at < m → stream_within n bytes at ≡ stream_within m bytes at
same_within zero m bytes at h below_n below_m = absurd (omega arith)
same_within (suc n) zero bytes at h below_n below_m = absurd (omega arith)
same_within (suc n) (suc m) bytes at h below_n below_m =
    same_behind (stream_within n bytes) (stream_within m bytes) (next_token bytes at) (λ token e.
    let fact = moves_on bytes at token h e in
    same_within n m bytes token.end fact.within (omega (arith, fact.starts, fact.ends)) (omega (arith, fact.starts, fact.ends)))

with_behind : (f : ℕ → Stream) (at : ℕ) (answer : Result (Option Token) TokenError) → stream_behind f answer ≡ stream_with answer (f (offset_behind at answer))
with_behind f at (Ok (Some token)) = refl
with_behind f at (Ok None) = refl
with_behind f at (Err error) = refl

at_reader : (bytes : List ℕ) (at : ℕ) → stream_of (record { bytes = bytes; at = at }) ≡ stream_within (suc (length bytes - at)) bytes at
unfolding stream_of
at_reader bytes at = let e : length bytes - at + 1 ≡ suc (length bytes - at) = omega arith in ap (λ n. stream_within n bytes at) e

unfolds : (bytes : List ℕ) (at : ℕ) → at ≤ length bytes → stream_of (record { bytes = bytes; at = at }) ≡ stream_behind (λ start. stream_of (record { bytes = bytes; at = start })) (next_token bytes at)
unfolds bytes at h = at_reader bytes at ∙ same_behind (stream_within (length bytes - at) bytes) (λ start. stream_of (record { bytes = bytes; at = start })) (next_token bytes at) (λ token e.
    let fact = moves_on bytes at token h e in
    same_within (length bytes - at) (suc (length bytes - token.end)) bytes token.end fact.within (omega (arith, fact.starts, fact.ends)) (omega arith)
    ∙ sym (at_reader bytes token.end))

-- What is left is the next answer, and then what is left behind it.
pub stream_next : (old new : Reader) (answer : Result (Option Token) TokenError) → old.at ≤ length old.bytes → answer ≡ next_token old.bytes old.at → new.bytes ≡ old.bytes → new.at ≡ offset_behind old.at answer →
    stream_of old ≡ stream_with answer (stream_of new)
stream_next old new answer h value bytes at =
    unfolds old.bytes old.at h ∙ ap (stream_behind (λ start. stream_of (record { bytes = old.bytes; at = start }))) (sym value)
    ∙ with_behind (λ start. stream_of (record { bytes = old.bytes; at = start })) old.at answer
    ∙ ap (stream_with answer) (ap (λ x. stream_of (record { bytes = x; at = offset_behind old.at answer })) (sym bytes) ∙ ap (λ x. stream_of (record { bytes = new.bytes; at = x })) (sym at))
