-- What comes of a key's waiting for another, case by case.
use Rattle.std.proofs.Common.{◌≡◌, ◌↔◌, ℕ, Some, Bool, true, false, if◌then◌else◌, Result, Ok, Err, IfOk, OnOk, refl, sym, subst}
use Rattle.gn_paths.specs.declared.place.Place.{Place}
use Rattle.gn_book.specs.declared.book.Claim.{Claim}
use Rattle.gn_book.specs.declared.book.Blocked.{Blocked}
use Rattle.gn_book.specs.declared.book.Blocked.TheVariants.{Work, Wait, Cyclic}
use Rattle.gn_book.specs.Keys.{key_of}
use Rattle.gn_book.specs.Logs.{Log, state_of, key_at, with_event, block_event, IsFree}
use Rattle.gn_book.specs.Blocks.{LeadsBack, BlocksAs}

pub free_blocks : {E : Type 0} (old new : Log) (seat n on : ℕ) (place : Place) (r : Result Blocked E)
    → IfOk r (λ b. (c : Claim) × (b ≡ Work c) × (key_of c.key ≡ key_at old on) × (c.seat ≡ seat) × (c.number ≡ on))
    → OnOk r (new ≡ with_event old (block_event old seat n on place false)) → IsFree (state_of old) (key_at old on) → (LeadsBack old on n → ⊥)
    → IfOk r (BlocksAs old new seat n on place)
free_blocks old new seat n on place (Ok b) claim is free apart = subst (BlocksAs old new seat n on place) (sym claim.1) (is, free, apart, claim.2, claim.3, claim.4)
free_blocks old new seat n on place (Err e) claim is free apart = tt

held_one : (old new : Log) (seat n on other : ℕ) (place : Place) (b : Blocked) (closes : Bool) → b ≡ (if closes then Cyclic else Wait other) → (closes ≡ true) ↔ LeadsBack old on n
    → new ≡ with_event old (block_event old seat n on place closes) → (state_of old).claims (key_at old on) ≡ Some other → BlocksAs old new seat n on place b
held_one old new seat n on other place b true e both is held = subst (BlocksAs old new seat n on place) (sym e) (is, both.0 refl)
held_one old new seat n on other place b false e both is held = subst (BlocksAs old new seat n on place) (sym e) (is, held, (λ l. let never : false ≡ true = both.1 l in absurd (cc never)))

pub held_blocks : {E : Type 0} (old new : Log) (seat n on other : ℕ) (place : Place) (r : Result Blocked E)
    → IfOk r (λ b. (closes : Bool) × (b ≡ (if closes then Cyclic else Wait other)) × ((closes ≡ true) ↔ LeadsBack old on n)
    × (new ≡ with_event old (block_event old seat n on place closes)))
    → (state_of old).claims (key_at old on) ≡ Some other → IfOk r (BlocksAs old new seat n on place)
held_blocks old new seat n on other place (Ok b) done held = held_one old new seat n on other place b done.0 done.1 done.2 done.3 held
held_blocks old new seat n on other place (Err e) done held = tt
