-- A file is read, or what was read before is filed.
use Rattle.std.proofs.Common.{◌≡◌, ℕ, ◌≤◌, List, Option, Some, None, Result, Ok, Err, refl, sym, subst}
use Rattle.std.specs.Result.{IsErrAnd}
use Rattle.gn_outside.specs.States.{SourceState}
use Rattle.gn_values.specs.Tables.{at_name}
use Rattle.gn_core.specs.Keys.{Key, Read}
use Rattle.gn_core.specs.Machine.{read_limit}
use Rattle.gn_book.specs.Keys.{key_of}
use Rattle.gn_book.specs.Logs.{Log}
use Rattle.gn_book.specs.declared.book.Claim.{Claim}
use Rattle.gn_builds.specs.Driving.{IsClaim}
use Rattle.gn_load.specs.Turns.{IsTaken, IsKnownAt, IsFiledFrom, IsRead, ReadsOnce, IsReadOnce}
use Rattle.gn_answers.specs.declared.answer.FileContent.{FileContent}
use Rattle.gn_load.specs.declared.driver.Driver.{Driver}
use Rattle.gn_load.specs.declared.driver.Stop.{Stop}
use Rattle.gn_load.specs.declared.driver.Stop.TheVariants.{Memory}

module _ (old mid : Driver) (c : Claim) (found : Option FileContent) (is : IsKnownAt old mid (key_of c.key) found) where
  -- what was known at the path of the claim
  at : (path : List ℕ) → key_of c.key ≡ Read path → (found ≡ at_name path old.known.entries) × IsTaken path old mid
  at path key = subst (λ (k : Key). IsKnownAt old mid k found) key is

  -- the rest of the driver is as it was
  module _ (read : (path : List ℕ) × (key_of c.key ≡ Read path)) where
    pub same_claim : IsClaim old.book c → IsClaim mid.book c
    same_claim claim = subst (λ (l : Log). IsClaim l c) (sym (at read.0 read.1).1.1) claim

    pub same_reads : old.reads ≤ read_limit → mid.reads ≤ read_limit
    same_reads few = subst (λ (n : ℕ). n ≤ read_limit) (sym (at read.0 read.1).1.0.reads) few

-- what was read before is filed
module _ (now : SourceState) (old mid : Driver) (c : Claim) (content : FileContent) (is : IsKnownAt old mid (key_of c.key) (Some content)) where
  pub filed_once : (new : Driver) → IsFiledFrom mid new c content → IsReadOnce now now old new c (Ok tt)
  filed_once new filed path key =
      let there = at old mid c (Some content) is path key in
      subst (λ (o : Option FileContent). ReadsOnce now now old new c path o (Ok tt)) there.0 (record { middle = mid; taken = there.1; filed = filed; source = refl })

  -- or memory was wanting
  pub lost_once : (new : Driver) (r : Result (Unit {0}) Stop) → IsErrAnd r (λ e. e ≡ Memory) → IsReadOnce now now old new c r
  lost_once new (Ok u) h = absurd h
  lost_once new (Err s) h = λ path key.
      let there = at old mid c (Some content) is path key in
      subst (λ (o : Option FileContent). ReadsOnce now now old new c path o (Err s)) there.0 (h, refl)

-- the file is read
pub new_once : (before now : SourceState) (old mid new : Driver) (c : Claim) (r : Result (Unit {0}) Stop) → IsKnownAt old mid (key_of c.key) None → IsRead before now mid new c r → IsReadOnce before now old new c r
new_once before now old mid new c r is read path key =
    let there = at old mid c None is path key in
    subst (λ (o : Option FileContent). ReadsOnce before now old new c path o r) there.0 (mid, there.1, read path key)
