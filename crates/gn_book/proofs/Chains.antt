-- The chain of blocks from a key, and the chain of numbers.
use Rattle.std.proofs.Common.{◌≡◌, ◌↔◌, ℕ, zero, suc, ◌<◌, List, length, Option, Some, None, option_map, slice_get, inl, inr, refl, sym, ◌∙◌, ap, subst}
use Rattle.std.proofs.lemmas.Bool.{cases_lt}
use Rattle.std.proofs.lemmas.Option.{slice_get_past}
use Rattle.gn_core.specs.Keys.{Key}
use Rattle.gn_core.specs.Machine.{State, Blocked, Leads, here, onward}
use Rattle.gn_book.specs.Standings.{Standing, on_in, standing_at, named, next_of, on_of, Tied, IsTable}
use Rattle.gn_book.specs.Chains.{walk_by, walk, LeadsTo}
use Rattle.gn_book.proofs.Standing.{named_at, standing_here}
use Rattle.gn_book.proofs.Walks.{Listed}
use Rattle.gn_book.proofs.Back.{numbers, numbers_in}

pub next_listed : (xs : List Standing) → Listed (next_of xs) (numbers (length xs))
next_listed xs q r e = elim (cases_lt q (length xs)) [
  | inl l ↦ numbers_in (length xs) q l
  | inr l ↦ let none : on_in (slice_get xs q) ≡ None = ap on_in (slice_get_past xs q l) in absurd (cc (none, e))
]

-- what a chain of blocks goes through has numbers
record Standings (ks : List Key) (xs : List Standing) (s : State) : Type 0 where
  pub table : IsTable ks
  pub sized : length xs ≡ length ks
  pub tied : Tied ks xs s
  pub waits : (k : Key) (on : ℕ) → on_in (standing_at ks xs k) ≡ Some on → on < length ks

-- the block of the key of a number is on the key of the number for which it waits
block_at : (ks : List Key) (xs : List Standing) (s : State) → Standings ks xs s → (n : ℕ) → n < length ks → option_map (named ks) (next_of xs n) ≡ on_of (s.blocks (named ks n))
block_at ks xs s h n l = ap (λ (o : Option Standing). option_map (named ks) (on_in o)) (sym (standing_here ks xs n (named ks n) h.table h.sized (named_at ks n l))) ∙ h.tied.blocks (named ks n)

next_within : (ks : List Key) (xs : List Standing) (s : State) → Standings ks xs s → (n on : ℕ) → n < length ks → next_of xs n ≡ Some on → on < length ks
next_within ks xs s h n on l e = h.waits (named ks n) on (ap on_in (standing_here ks xs n (named ks n) h.table h.sized (named_at ks n l)) ∙ e)

numbered : (ks : List Key) (i j : ℕ) → IsTable ks → i < length ks → j < length ks → named ks i ≡ named ks j → i ≡ j
numbered ks i j table a b e = table i j (named ks j) (named_at ks i a ∙ ap Some e) (named_at ks j b)

-- a walk is a chain of blocks
step_walked : (ks : List Key) (xs : List Standing) (s : State) → Standings ks xs s → (n q k : ℕ) → q < length ks
    → ((r : ℕ) → r < length ks → walk (next_of xs) n r ≡ Some k → Leads s.blocks (named ks r) (named ks k))
    → (o : Option ℕ) → next_of xs q ≡ o → (b : Option Blocked) → s.blocks (named ks q) ≡ b → walk_by o (λ r. walk (next_of xs) n r) ≡ Some k → Leads s.blocks (named ks q) (named ks k)
step_walked ks xs s h n q k l rest None f b g w = absurd (cc w)
step_walked ks xs s h n q k l rest (Some r) f None g w = let there : option_map (named ks) (Some r) ≡ on_of None = ap (option_map (named ks)) (sym f) ∙ block_at ks xs s h q l ∙ ap on_of g in absurd (cc there)
step_walked ks xs s h n q k l rest (Some r) f (Some b) g w =
    let there : ◌≡◌ {A = Option Key} (Some (named ks r)) (Some b.on) = ap (option_map (named ks)) (sym f) ∙ block_at ks xs s h q l ∙ ap on_of g in
    let on : named ks r ≡ b.on = cc there in
    onward b g (subst (λ (z : Key). Leads s.blocks z (named ks k)) on (rest r (next_within ks xs s h q r l f) w))

walked : (ks : List Key) (xs : List Standing) (s : State) → Standings ks xs s → (n q k : ℕ) → q < length ks → walk (next_of xs) n q ≡ Some k → Leads s.blocks (named ks q) (named ks k)
walked ks xs s h zero q k l e = let same : q ≡ k = cc e in subst (λ z. Leads s.blocks (named ks q) (named ks z)) same here
walked ks xs s h (suc n) q k l e = step_walked ks xs s h n q k l (λ r m w. walked ks xs s h n r k m w) (next_of xs q) refl (s.blocks (named ks q)) refl e

-- a chain of blocks is a walk
step_chained : (ks : List Key) (xs : List Standing) (s : State) → Standings ks xs s → (x : Blocked) (q k : ℕ) → q < length ks → option_map (named ks) (next_of xs q) ≡ Some x.on
    → ((r : ℕ) → r < length ks → x.on ≡ named ks r → LeadsTo (next_of xs) r k) → (o : Option ℕ) → next_of xs q ≡ o → LeadsTo (next_of xs) q k
step_chained ks xs s h x q k l there rest None i = let none : ◌≡◌ {A = Option Key} None (Some x.on) = ap (option_map (named ks)) (sym i) ∙ there in absurd (cc none)
step_chained ks xs s h x q k l there rest (Some r) i =
    let same : ◌≡◌ {A = Option Key} (Some (named ks r)) (Some x.on) = ap (option_map (named ks)) (sym i) ∙ there in
    let on : x.on ≡ named ks r = cc same in
    let w = rest r (next_within ks xs s h q r l i) on in
    (suc w.0, ap (λ (o : Option ℕ). walk_by o (λ z. walk (next_of xs) w.0 z)) i ∙ w.1)

chained : (ks : List Key) (xs : List Standing) (s : State) → Standings ks xs s → (a b : Key) → Leads s.blocks a b → (q k : ℕ) → q < length ks → k < length ks → a ≡ named ks q → b ≡ named ks k → LeadsTo (next_of xs) q k
chained ks xs s h a b here q k l m e f = (zero, ap Some (numbered ks q k h.table l m (sym e ∙ f)))
chained ks xs s h a b (onward x g rest) q k l m e f =
    step_chained ks xs s h x q k l (block_at ks xs s h q l ∙ ap on_of (ap s.blocks (sym e) ∙ g)) (λ r n on. chained ks xs s h x.on b rest r k n m on f) (next_of xs q) refl

pub leads_same : (ks : List Key) (xs : List Standing) (s : State) → IsTable ks → length xs ≡ length ks → Tied ks xs s → ((k : Key) (on : ℕ) → on_in (standing_at ks xs k) ≡ Some on → on < length ks)
    → (q k : ℕ) → q < length ks → k < length ks → LeadsTo (next_of xs) q k ↔ Leads s.blocks (named ks q) (named ks k)
leads_same ks xs s table sized tied waits q k l m =
    ((λ w. walked ks xs s all w.0 q k l w.1), (λ c. chained ks xs s all (named ks q) (named ks k) c q k l m refl refl))
  where
    all : Standings ks xs s
    all = record { table = table; sized = sized; tied = tied; waits = waits }
