-- What is in hand, and what is behind it.
use Rattle.std.proofs.Common.{◌≡◌, ℕ, ◌≤◌, List, length, slice_range, Option, Some, None, Result, Ok, Err, sym, ◌∙◌, ap, subst, arith}
use Rattle.gn_tree.specs.declared.position.Position.{Position}
use Rattle.gn_tokens.specs.declared.token.Token.{Token}
use Rattle.gn_tokens.specs.declared.token.TokenError.{TokenError}
use Rattle.gn_tokens.specs.Token as tokens
use Rattle.gn_tokens.specs.Next.{Reader, IsNext, offset_behind}
use Rattle.gn_grammar.specs.Position.{position_of}
use Rattle.gn_syntax.specs.Counting.{behind_bytes}
use Rattle.gn_syntax.specs.Parsing.{Follows, StandsAt, IsInHand}
use Rattle.gn_syntax.proofs.Positions.{position_between}

-- the next token begins behind the offset from which it was looked for
pub follows : (reader : Reader) (bytes : List ℕ) (from : ℕ) (hand : Result (Option Token) TokenError) → reader.bytes ≡ bytes → from ≤ reader.at → IsNext reader hand → Follows bytes from hand
follows reader bytes from (Ok (Some token)) same le h = (omega (arith, h.starts), omega (arith, h.ends), omega (arith, h.within, ap length same))
follows reader bytes from (Ok None) same le h = tt
follows reader bytes from (Err error) same le h = tt

pub in_hand : (reader : Reader) (bytes : List ℕ) (at : ℕ) (position : Position) (hand : Result (Option Token) TokenError) → reader.bytes ≡ bytes → at ≡ offset_behind reader.at hand →
    IsNext reader hand → StandsAt bytes position hand → IsInHand bytes at position hand
in_hand reader bytes at position (Ok (Some token)) same e h stands =
    (e, omega (arith, h.ends), omega (arith, h.within, ap length same), stands, subst (λ (b : List ℕ). tokens.IsToken token.kind (slice_range b token.start token.end)) same h.is_token)
in_hand reader bytes at position (Ok None) same e h stands = tt
in_hand reader bytes at position (Err error) same e h stands = tt

pub stands_at : (bytes : List ℕ) (from : ℕ) (position p : Position) (token : Token) (hand : Result (Option Token) TokenError) → hand ≡ Ok (Some token) →
    position ≡ position_of bytes from → Follows bytes from hand → p ≡ behind_bytes position (slice_range bytes from token.start) → StandsAt bytes p hand
stands_at bytes from position p token hand is e follows q =
    let le : from ≤ token.start = (subst (λ x. Follows bytes from x) is follows).0 in
    subst (λ x. StandsAt bytes p x) (sym is) (q ∙ ap (λ x. behind_bytes x (slice_range bytes from token.start)) e ∙ position_between bytes from token.start le)
