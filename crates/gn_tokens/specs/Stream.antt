-- The tokens of a file, one after the other.
use Rattle.std.specs.Prelude.{ℕ, zero, suc, ◌+◌, ◌-◌, List, [], ◌∷◌, length, Option, Some, None, Result, Ok, Err}
use Rattle.gn_tokens.specs.declared.token.Token.{Token}
use Rattle.gn_tokens.specs.declared.token.TokenError.{TokenError}
use Rattle.gn_tokens.specs.Next.{Reader, next_token}

-- tokens, and then the end of the file or the first error
pub data Stream : Type 0 where
  Ends : Stream
  Fails : (error : TokenError) → Stream
  Gives : (token : Token) → (later : Stream) → Stream

-- its tokens
abbrev pub stream_tokens : Stream → List Token
stream_tokens Ends = []
stream_tokens (Fails error) = []
stream_tokens (Gives token later) = token ∷ stream_tokens later

-- the error behind its tokens, or none where the file ends there
abbrev pub stream_error : Stream → Option TokenError
stream_error Ends = None
stream_error (Fails error) = Some error
stream_error (Gives token later) = stream_error later

-- the answer of a reader, and what comes behind it
abbrev pub stream_with : Result (Option Token) TokenError → Stream → Stream
stream_with (Ok (Some token)) later = Gives token later
stream_with (Ok None) later = Ends
stream_with (Err error) later = Fails error

-- where the answer is a token, what comes behind its end
abbrev pub stream_behind : (ℕ → Stream) → Result (Option Token) TokenError → Stream
stream_behind from (Ok (Some token)) = stream_with (Ok (Some token)) (from token.end)
stream_behind from (Ok None) = Ends
stream_behind from (Err error) = Fails error

-- the tokens from an offset on, of which there are fewer than `count`
abbrev pub stream_within : ℕ → List ℕ → ℕ → Stream
stream_within zero bytes at = Ends
stream_within (suc count) bytes at = stream_behind (stream_within count bytes) (next_token bytes at)

-- the tokens that are left; each has a byte at least, so there are no more tokens than bytes
unfoldable pub stream_of : Reader → Stream
stream_of reader = stream_within (length reader.bytes - reader.at + 1) reader.bytes reader.at
