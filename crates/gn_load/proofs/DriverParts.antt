-- A driver goes on by its parts.
use Rattle.std.proofs.Common.{◌≡◌, ℕ, List, sym, subst}
use Rattle.gn_outside.specs.States.{SourceState}
use Rattle.gn_book.specs.Logs.{Log, state_of}
use Rattle.gn_book.specs.declared.book.Claim.{Claim}
use Rattle.gn_builds.specs.Driving.{keys_of as claimed_keys, IsGoing, AreOfLayer}
use Rattle.gn_load.specs.Current.{layer_now, IsCurrent}
use Rattle.gn_load.specs.Turns.{KeepsKnown, Goes}
use Rattle.gn_answers.specs.declared.answer.FileContent.{FileContent}
use Rattle.gn_load.specs.declared.current.CurrentBase.{CurrentBase}
use Rattle.gn_load.specs.declared.driver.Driver.{Driver}

-- what goes on of a driver
pub record Parts : Type 0 where
  pub base : CurrentBase
  pub book : Log
  pub left : List (List ℕ × FileContent)
  pub reads : ℕ

pub record GoOn (known : List (List ℕ)) (before now : SourceState) (p : Parts) (cs : List Claim) : Type 0 where
  pub going : IsGoing p.base.start known before now p.book cs p.reads
  pub base : IsCurrent p.base (state_of p.book).filed
  pub layer : AreOfLayer (layer_now p.base) (claimed_keys cs)
  pub kept : KeepsKnown known before p.left p.book.keys

abbrev pub parts_of : Driver → Parts
parts_of d = record { base = d.base; book = d.book; left = d.known.entries; reads = d.reads }

goes_as : (known : List (List ℕ)) (before now : SourceState) (d : Driver) (cs : List Claim) → GoOn known before now (parts_of d) cs → Goes known before now d cs
goes_as known before now d cs on = record { going = on.going; base = on.base; layer = on.layer; kept = on.kept }

-- a driver of these parts goes on
pub moved : (known : List (List ℕ)) (before now : SourceState) (d : Driver) (p : Parts) (cs : List Claim)
    → d.base ≡ p.base → d.book ≡ p.book → d.known.entries ≡ p.left → d.reads ≡ p.reads
    → GoOn known before now p cs → Goes known before now d cs
moved known before now d p cs base book left reads on =
    let same : p ≡ parts_of d = λ i. record { base = sym base i; book = sym book i; left = sym left i; reads = sym reads i } in
    goes_as known before now d cs (subst (λ (q : Parts). GoOn known before now q cs) same on)
