-- What comes of a wait, for the claims that there are.
use Rattle.std.specs.Prelude.{Option, Some, None}
use Rattle.gn_book.specs.declared.book.Claim.{Claim}
use Rattle.gn_book.specs.declared.book.Blocked.{Blocked}
use Rattle.gn_book.specs.declared.book.Blocked.TheVariants.{Ready, Work, Wait, Cyclic}
use Rattle.gn_book.specs.Logs.{Log}
use Rattle.gn_book_tests.specs.Seats.{KeepsClaims, IsGiven}

abbrev pub IsWaiting : Log → Log → Blocked → Type 0
IsWaiting old new Ready = KeepsClaims old new
IsWaiting old new (Work claim) = KeepsClaims old new × IsGiven old new claim
IsWaiting old new (Wait seat) = KeepsClaims old new
IsWaiting old new Cyclic = KeepsClaims old new

-- the claim that is given out, if one is
abbrev pub given_by : Blocked → Option Claim
given_by Ready = None
given_by (Work claim) = Some claim
given_by (Wait seat) = None
given_by Cyclic = None
