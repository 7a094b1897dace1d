-- What comes of a key's waiting for another.
use Rattle.std.specs.Prelude.{◌≡◌, ℕ, Some, true, false}
use Rattle.gn_paths.specs.declared.place.Place.{Place}
use Rattle.gn_core.specs.Keys.{Answer}
use Rattle.gn_core.specs.Machine.{Leads}
use Rattle.gn_book.specs.declared.book.Blocked.{Blocked}
use Rattle.gn_book.specs.declared.book.Blocked.TheVariants.{Ready, Work, Wait, Cyclic}
use Rattle.gn_book.specs.Keys.{key_of}
use Rattle.gn_book.specs.Logs.{Log, state_of, key_at, with_event, block_event, IsFree}

-- the chain of keys that wait, from the one on, leads back to the one that begins to wait
abbrev pub LeadsBack : Log → ℕ → ℕ → Type 0
LeadsBack l on n = Leads (state_of l).blocks (key_at l on) (key_at l n)

-- The seat's key begins to wait for another. Where that is filed nothing happens. Where it is neither filed nor claimed the seat claims it too; else another
-- seat has it, or the chain leads back
abbrev pub BlocksAs : Log → Log → ℕ → ℕ → ℕ → Place → Blocked → Type 0
BlocksAs old new seat n on place Ready = (new ≡ old) × ((v : Answer) × ((state_of old).filed (key_at old on) ≡ Some v))
BlocksAs old new seat n on place (Work claim) =
    (new ≡ with_event old (block_event old seat n on place false)) × IsFree (state_of old) (key_at old on) × (LeadsBack old on n → ⊥)
    × (key_of claim.key ≡ key_at old on) × (claim.seat ≡ seat) × (claim.number ≡ on)
BlocksAs old new seat n on place (Wait other) =
    (new ≡ with_event old (block_event old seat n on place false)) × ((state_of old).claims (key_at old on) ≡ Some other) × (LeadsBack old on n → ⊥)
BlocksAs old new seat n on place Cyclic = (new ≡ with_event old (block_event old seat n on place true)) × LeadsBack old on n
