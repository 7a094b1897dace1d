-- Reads that haven't failed, and one behind them that may have.
use Rattle.std.proofs.Common.{◌≡◌, ℕ, Bool, true, false, List, [], ◌∷◌, ◌++◌, refl, ap}
use Rattle.std.specs.List.{list_any}
use Rattle.gn_outside.specs.States.{SourceRead, paths_of}
use Rattle.gn_outside.specs.Sources.{StopsAtFailure, plain_reads}

abbrev pub one_read : List ℕ → Bool → SourceRead
one_read path failed = record { path = path; failed = failed }

-- these haven't failed, and then this one
abbrev pub ended_by : List (List ℕ) → List ℕ → Bool → List SourceRead
ended_by paths path failed = plain_reads paths ++ one_read path failed ∷ []

-- whether one of them has failed
abbrev pub some_failed : List SourceRead → Bool
some_failed reads = list_any (λ (read : SourceRead). read.failed) reads

pub paths-plain : (paths : List (List ℕ)) → paths_of (plain_reads paths) ≡ paths
paths-plain [] = refl
paths-plain (p ∷ ps) = ap (λ (qs : List (List ℕ)). p ∷ qs) (paths-plain ps)

pub stops-plain : (paths : List (List ℕ)) → StopsAtFailure (plain_reads paths)
stops-plain [] = tt
stops-plain (p ∷ ps) = ((λ failed. cc), stops-plain ps)

pub none-plain : (paths : List (List ℕ)) → some_failed (plain_reads paths) ≡ false
none-plain [] = refl
none-plain (p ∷ ps) = none-plain ps

pub paths-ended : (paths : List (List ℕ)) (path : List ℕ) (failed : Bool) → paths_of (ended_by paths path failed) ≡ paths ++ path ∷ []
paths-ended [] path failed = refl
paths-ended (p ∷ ps) path failed = ap (λ (qs : List (List ℕ)). p ∷ qs) (paths-ended ps path failed)

pub stops-ended : (paths : List (List ℕ)) (path : List ℕ) (failed : Bool) → StopsAtFailure (ended_by paths path failed)
stops-ended [] path failed = ((λ has. refl), tt)
stops-ended (p ∷ ps) path failed = ((λ has. cc), stops-ended ps path failed)

pub some-ended : (paths : List (List ℕ)) (path : List ℕ) (failed : Bool) → some_failed (ended_by paths path failed) ≡ failed
some-ended [] path true = refl
some-ended [] path false = refl
some-ended (p ∷ ps) path failed = some-ended ps path failed

pub plain-ended : (paths : List (List ℕ)) (path : List ℕ) → ended_by paths path false ≡ plain_reads (paths ++ path ∷ [])
plain-ended [] path = refl
plain-ended (p ∷ ps) path = ap (λ (reads : List SourceRead). one_read p false ∷ reads) (plain-ended ps path)
