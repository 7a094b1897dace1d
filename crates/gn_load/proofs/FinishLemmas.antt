-- A unit is finished behind some turns.
use Rattle.std.proofs.Common.{ℕ, List, [], None, Result, Ok, Err, sym, subst}
use Rattle.gn_outside.specs.States.{SourceState}
use Rattle.gn_book.specs.Logs.{state_of}
use Rattle.gn_book.specs.declared.book.Claim.{Claim}
use Rattle.gn_load.specs.Turns.{IsTurned, IsTurn, IsFinish, IsStop}
use Rattle.gn_load.specs.Rounds.{WillBeRight}
use Rattle.gn_load.specs.declared.current.CurrentBase.{CurrentBase}
use Rattle.gn_load.specs.declared.driver.Driver.{Driver}
use Rattle.gn_load.specs.declared.driver.Stop.{Stop}
use Rattle.gn_load.specs.declared.ready.Ready.{Ready}
use Rattle.gn_load.proofs.TurnLemmas.{turned_on}

-- with one more turn before
pub finish_on : (known : List (List ℕ)) (before was now : SourceState) (old mid new : Driver) (cs : List Claim) (r : Result (Unit {0}) Stop) → IsTurned known before was old mid cs → IsFinish known before now mid new r → IsFinish known before now old new r
finish_on known before was now old mid new cs (Ok u) turned finish = (turned_on known before was now old mid new cs [] turned finish.0, finish.1)
finish_on known before was now old mid new cs (Err s) turned finish = subst (λ (b : CurrentBase). IsStop b.start known before now s) turned.base finish

-- nothing is left to go on with
pub finish_none : (known : List (List ℕ)) (before now : SourceState) (old new : Driver) → IsTurn known before now old new (Ok None) → IsFinish known before now old new (Ok tt)
finish_none known before now old new turn = (subst (λ (cs : List Claim). IsTurned known before now old new cs) turn.1 turn.0, turn.1)

-- what will be right over what is filed will be right later
pub right_behind : (known : List (List ℕ)) (before now : SourceState) (old new : Driver) (cs : List Claim) (r : Ready) → IsTurned known before now old new cs → WillBeRight old.base.start (state_of old.book).filed r → WillBeRight new.base.start (state_of new.book).filed r
right_behind known before now old new cs r turned right =
    subst (λ (b : CurrentBase). WillBeRight b.start (state_of new.book).filed r) (sym turned.base) (λ more part there. right more (λ k v h. part k v (turned.more k v h)) there)
