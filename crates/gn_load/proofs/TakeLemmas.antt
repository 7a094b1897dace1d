-- The key of a claim needs another one: what becomes of that, by its key.
use Rattle.std.proofs.Common.{◌≡◌, ℕ, zero, suc, ◌<◌, List, [], ◌∷◌, length, slice_get, unwrap_or, Option, Some, None, Bool, true, false, sym, ◌∙◌, ap, subst, arith}
use Rattle.std.proofs.lemmas.Option.{slice_get_within}
use Rattle.gn_paths.specs.declared.place.Place.{Place}
use Rattle.gn_core.specs.Keys.{Key, Read, Answer}
use Rattle.gn_core.specs.Machine.{State, Block, File, Leads}
use Rattle.gn_core.proofs.Puts.{put_own}
use Rattle.gn_book.specs.Keys.{key_of}
use Rattle.gn_book.specs.Blocks.{BlocksAs}
use Rattle.gn_book.specs.Logs.{Log, state_of, key_at, with_key, with_event, block_event, IsFree}
use Rattle.gn_book.specs.declared.book.Claim.{Claim}
use Rattle.gn_book.specs.declared.book.Blocked.{Blocked}
use Rattle.gn_book.specs.declared.book.Blocked.TheVariants.{Ready, Work, Wait, Cyclic}
use Rattle.gn_builds.specs.Driving.{IsClaim, IsLacked}
use Rattle.gn_builds.proofs.Logs.{after_event}
use Rattle.gn_builds.proofs.Going.{named_claim, blocked_claim}
use Rattle.gn_load.specs.Turns.{TakesAs}

-- an answer is filed by the seat of a claim, for its key
pub filed_as : (old new : Log) (c : Claim) (v : Answer) → IsClaim old c → new ≡ with_event old (File c.seat (key_at old c.number) v) → new ≡ with_event old (File 0 (key_of c.key) v)
filed_as old new c v is h = h ∙ (λ i. with_event old (File (is.seat i) (sym is.key i) v))

pub claimed_by : (l : Log) (c : Claim) → IsClaim l c → (state_of l).claims (key_at l c.number) ≡ Some c.seat
claimed_by l c is = is.held.claimed ∙ ap Some (sym is.seat)

-- the claim stays where its wait closes a cycle
pub closed_claim : (old new : Log) (c : Claim) (on : Key) (place : Place) → IsClaim old c → TakesAs old new c on place None → IsClaim new c
closed_claim old new c on place is takes =
    subst (λ (l : Log). IsClaim l c) (sym takes.0) (blocked_claim (with_key old on) (key_of c.key) on place true c (named_claim old on c is))

module _ (old : Log) (c : Claim) (on : Key) (n : ℕ) (place : Place) (is : IsClaim old c) (at : slice_get (with_key old on).keys n ≡ Some on) where
  abbrev named : Log
  named = with_key old on

  pub kept : IsClaim named c
  kept = named_claim old on c is

  key : key_at named n ≡ on
  key = ap (λ (o : Option Key). unwrap_or o (Read [])) at

  event : (closes : Bool) → block_event named c.seat c.number n place closes ≡ Block 0 (key_of c.key) on place closes
  event closes = λ i. Block (kept.seat i) (sym kept.key i) (key i) place closes

  leads_back : Leads (state_of old).blocks (key_at named n) (key_at named c.number) → Leads (state_of old).blocks on (key_of c.key)
  leads_back leads = subst (λ (k : Key). Leads (state_of old).blocks on k) (sym kept.key) (subst (λ (k : Key). Leads (state_of old).blocks k (key_at named c.number)) key leads)

  leads_there : Leads (state_of old).blocks on (key_of c.key) → Leads (state_of old).blocks (key_at named n) (key_at named c.number)
  leads_there leads = subst (λ (k : Key). Leads (state_of old).blocks k (key_at named c.number)) (sym key) (subst (λ (k : Key). Leads (state_of old).blocks on k) kept.key leads)

  module _ (new : Log) where
    -- the seat claims it
    pub takes_work : (b : Blocked) (other : Claim) → b ≡ Work other → BlocksAs named new c.seat c.number n place b → TakesAs old new c on place (Some other)
    takes_work b other same has = by (subst (BlocksAs named new c.seat c.number n place) same has)
      where
        log : Log
        log = with_event named (Block 0 (key_of c.key) on place false)

        given : IsFree (state_of old) on → (state_of log).claims on ≡ Some 0
        given free =
            ap (λ (s : State). s.claims on) (after_event named (Block 0 (key_of c.key) on place false))
            ∙ put_own (state_of old).claims on (unwrap_or ((state_of old).claims on) 0) ∙ ap (λ (o : Option ℕ). Some (unwrap_or o 0)) free.unclaimed

        by : BlocksAs named new c.seat c.number n place (Work other) → TakesAs old new c on place (Some other)
        by h =
            let free : IsFree (state_of old) on = subst (IsFree (state_of old)) key h.1 in
            let there : new ≡ log = h.0 ∙ ap (with_event named) (event false) in
            let names : key_at log other.number ≡ on = ap (key_at named) h.5 ∙ key in (
              there,
              free,
              subst (λ (l : Log). IsClaim l other) (sym there)
                  (record {
                    held = record { number = subst (λ (m : ℕ). m < length named.keys) (sym h.5) (slice_get_within named.keys n on at); claimed = ap (state_of log).claims names ∙ given free };
                    seat = h.4 ∙ kept.seat;
                    key = h.3 ∙ key ∙ sym names;
                  }),
              h.3 ∙ key,
            )

    -- or its wait closes a cycle
    pub takes_none : (b : Blocked) → b ≡ Cyclic → BlocksAs named new c.seat c.number n place b → TakesAs old new c on place None
    takes_none b same has = by (subst (BlocksAs named new c.seat c.number n place) same has)
      where
        by : BlocksAs named new c.seat c.number n place Cyclic → TakesAs old new c on place None
        by h = (h.0 ∙ ap (with_event named) (event true), leads_back h.1)

    -- it has no answer, and no other seat has it
    pub not_ready : IsLacked old c on → (b : Blocked) → b ≡ Ready → BlocksAs named new c.seat c.number n place b → ⊥
    not_ready lacked b same has = by (subst (BlocksAs named new c.seat c.number n place) same has)
      where
        by : BlocksAs named new c.seat c.number n place Ready → ⊥
        by h = absurd (cc (sym lacked.unfiled ∙ ap (state_of old).filed (sym key) ∙ h.1.1))

    pub no_wait : IsLacked old c on → (b : Blocked) (other : ℕ) → b ≡ Wait other → BlocksAs named new c.seat c.number n place b → ⊥
    no_wait lacked b other same has = by (subst (BlocksAs named new c.seat c.number n place) same has)
      where
        by : BlocksAs named new c.seat c.number n place (Wait other) → ⊥
        by h = h.2 (leads_there (lacked.leads other (ap (state_of old).claims (sym key) ∙ h.1)))
