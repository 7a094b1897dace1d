-- Claims, while keys get numbers and wait.
use Rattle.std.proofs.Common.{◌≡◌, ℕ, zero, suc, ◌<◌, ◌+◌, List, [], ◌∷◌, ◌++◌, length, Option, Some, None, unwrap_or, slice_get, if◌then◌else◌, Bool, true, false, Result, Ok, Err, OnOk, IfOk, refl, sym, ◌∙◌, ap, subst, inl, inr, arith}
use Rattle.std.specs.List.{list_any}
use Rattle.std.proofs.lemmas.List.{length-append, append-nil}
use Rattle.gn_paths.specs.declared.place.Place.{Place}
use Rattle.gn_core.specs.Keys.{Key, Read, Answer, same_key}
use Rattle.gn_core.specs.Machine.{State, Event, Claim as claimed, File, happens, replay}
use Rattle.gn_core.proofs.Puts.{put_some}
use Rattle.gn_graph.specs.Numbers.{IsMore}
use Rattle.gn_book.specs.declared.book.Claim.{Claim}
use Rattle.gn_book.specs.declared.book.Blocked.{Blocked}
use Rattle.gn_book.specs.declared.book.Blocked.TheVariants.{Ready, Work, Wait, Cyclic}
use Rattle.gn_book.specs.Keys.{key_of}
use Rattle.gn_book.specs.Logs.{Log, opening, state_of, key_at, with_key, with_event, block_event, IsFree}
use Rattle.gn_book.specs.Blocks.{BlocksAs}
use Rattle.gn_book.specs.Claims.{HasClaim, ClaimsAreGiven, ClaimsStay}
use Rattle.gn_book.specs.Graphs.{HasMoreKeys}
use Rattle.gn_book.specs.Next.{HasNoClaim}
use Rattle.gn_book_tests.specs.Seats.{KeepsClaims, IsGiven, IfTaken, KeepsOthers, HasAll}
use Rattle.gn_book_tests.specs.Waiting.{IsWaiting, given_by}

-- what stands in a list stands there still with more behind it
get_more : {A : Type 0} (xs ys : List A) (n : ℕ) → n < length xs → slice_get (xs ++ ys) n ≡ slice_get xs n
get_more [] ys n l = absurd (omega (arith, l))
get_more (x ∷ xs) ys zero l = refl
get_more (x ∷ xs) ys (suc n) l = get_more xs ys n (omega (arith, l))

-- more keys
key_more : (old new : Log) → HasMoreKeys old new → (n : ℕ) → n < length old.keys → key_at new n ≡ key_at old n
key_more old new more n within = ap (λ (o : Option Key). unwrap_or o (Read [])) (ap (λ (ks : List Key). slice_get ks n) more.keys.1 ∙ get_more old.keys more.keys.0 n within)

pub state_more : (old new : Log) → HasMoreKeys old new → state_of new ≡ state_of old
state_more old new more = ap (λ (es : List Event). replay opening es) more.events

pub keeps_more : (old new : Log) → HasMoreKeys old new → KeepsClaims old new
keeps_more old new more n seat has =
    let same = key_more old new more n has.number in (
      record {
        number = let long : length new.keys ≡ length old.keys + length more.keys.0 = ap length more.keys.1 ∙ length-append old.keys more.keys.0 in omega (arith, long, has.number);
        claimed = ap (λ (s : State). s.claims (key_at new n)) (state_more old new more) ∙ ap (state_of old).claims same ∙ has.claimed;
      },
      same,
    )

pub still_unclaimed : (old new : Log) (seat : ℕ) → HasMoreKeys old new → HasNoClaim old seat → HasNoClaim new seat
still_unclaimed old new seat more none k e = none k (sym (ap (λ (s : State). s.claims k) (state_more old new more)) ∙ e)

one_more : (old : Log) (k : Key) → HasMoreKeys old (with_key old k)
one_more old k = record { seats = refl; keys = by (list_any (same_key k) old.keys); events = refl }
  where
    by : (b : Bool) → IsMore old.keys (if b then old.keys else old.keys ++ k ∷ [])
    by true = ([], sym (append-nil old.keys))
    by false = (k ∷ [], refl)

then_keeps : (a b c : Log) → KeepsClaims a b → KeepsClaims b c → KeepsClaims a c
then_keeps a b c f g n seat has =
    let x = f n seat has in
    let y = g n seat x.0 in
    (y.0, y.1 ∙ x.1)

-- a key that was claimed isn't one that is free
apart_free : (l : Log) (n m seat : ℕ) → HasClaim l n seat → IsFree (state_of l) (key_at l m) → key_at l n ≡ key_at l m → ⊥
apart_free l n m seat has free same =
    let none : (state_of l).claims (key_at l n) ≡ None = ap (state_of l).claims same ∙ free.unclaimed in
    let some : (state_of l).claims (key_at l n) ≡ Some seat = has.claimed in
    cc (none, some)

-- an event of a seat
keeps_claim : ClaimsStay → (l : Log) (other m : ℕ) → IsFree (state_of l) (key_at l m) → KeepsClaims l (with_event l (claimed other (key_at l m)))
keeps_claim stay l other m free n seat has = ((stay l n seat has).1 other (key_at l m) free, refl)

keeps_block : ClaimsStay → (l : Log) (other m on : ℕ) (place : Place) (closes : Bool) → KeepsClaims l (with_event l (block_event l other m on place closes))
keeps_block stay l other m on place closes n seat has = ((stay l n seat has).2 other m on place closes, refl)

-- a seat claims a key that is free
pub claim_given : ClaimsAreGiven → ClaimsStay → (old mid new : Log) (c : Claim) (seat m : ℕ) → HasMoreKeys old mid → m < length mid.keys → IsFree (state_of mid) (key_at mid m)
    → new ≡ with_event mid (claimed seat (key_at mid m)) → c.seat ≡ seat → c.number ≡ m → IsGiven old new c × KeepsClaims old new
claim_given given stay old mid new c seat m more within free is s e = (
  record {
    has = subst (λ (l : Log). HasClaim l c.number c.seat) (sym is) (subst (λ z. HasClaim (with_event mid (claimed seat (key_at mid m))) z c.seat) (sym e)
        (subst (λ z. HasClaim (with_event mid (claimed seat (key_at mid m))) m z) (sym s) (given mid seat m within).0));
    apart = λ n other has same.
        let before = keeps_more old mid more n other has in
        let keys : key_at mid n ≡ key_at mid m = subst (λ (l : Log). key_at l n ≡ key_at l c.number) is same ∙ ap (key_at mid) e in
        apart_free mid n m other before.0 free keys;
  },
  then_keeps old mid new (keeps_more old mid more) (subst (λ (l : Log). KeepsClaims mid l) (sym is) (keeps_claim stay mid seat m free)),
)

-- a key waits for one that got a number
pub is_waiting : ClaimsAreGiven → ClaimsStay → (old mid new : Log) (k : Key) (seat n on : ℕ) (place : Place) (b : Blocked) → mid ≡ with_key old k → on < length mid.keys
    → BlocksAs mid new seat n on place b → IsWaiting old new b
is_waiting given stay old mid new k seat n on place b made within is = by b is
  where
    more : HasMoreKeys old mid
    more = subst (λ (l : Log). HasMoreKeys old l) (sym made) (one_more old k)

    kept : (closes : Bool) → new ≡ with_event mid (block_event mid seat n on place closes) → KeepsClaims old new
    kept closes e = then_keeps old mid new (keeps_more old mid more) (subst (λ (l : Log). KeepsClaims mid l) (sym e) (keeps_block stay mid seat n on place closes))

    by : (x : Blocked) → BlocksAs mid new seat n on place x → IsWaiting old new x
    by Ready h = subst (λ (l : Log). KeepsClaims old l) (sym h.0) (keeps_more old mid more)
    by (Work c) h =
        let now : Log = with_event mid (block_event mid seat n on place false) in (
          kept false h.0,
          record {
            has = subst (λ (l : Log). HasClaim l c.number c.seat) (sym h.0) (subst (λ z. HasClaim now z c.seat) (sym h.5) (subst (λ z. HasClaim now on z) (sym h.4) ((given mid seat on within).1 n place false h.1)));
            apart = λ m other has same.
                let before = keeps_more old mid more m other has in
                let keys : key_at mid m ≡ key_at mid on = subst (λ (l : Log). key_at l m ≡ key_at l c.number) h.0 same ∙ ap (key_at mid) h.5 in
                apart_free mid m on other before.0 h.1 keys;
          },
        )
    by (Wait other) h = kept false h.0
    by Cyclic h = kept true h.0

pub waiting_keeps : (old new : Log) (b : Blocked) → IsWaiting old new b → KeepsClaims old new
waiting_keeps old new Ready h = h
waiting_keeps old new (Work c) h = h.0
waiting_keeps old new (Wait other) h = h
waiting_keeps old new Cyclic h = h

pub one_kept : (old mid : Log) (k : Key) → mid ≡ with_key old k → (n seat : ℕ) → HasClaim old n seat → HasClaim mid n seat
one_kept old mid k made n seat has = (keeps_more old mid (subst (λ (l : Log). HasMoreKeys old l) (sym made) (one_more old k)) n seat has).0

-- an answer is filed
pub others_kept : ClaimsStay → (old new : Log) (m seat : ℕ) (v : Answer) → new ≡ with_event old (File seat (key_at old m) v) → KeepsOthers old new m
others_kept stay old new m seat v is n other has apart = subst (λ (l : Log). HasClaim l n other) (sym is) ((stay old n other has).3 seat (key_at old m) v apart)

-- two claims of different keys stay so
pub still_apart : (old new : Log) (n m seat other : ℕ) → KeepsClaims old new → HasClaim old n seat → HasClaim old m other → (key_at old n ≡ key_at old m → ⊥) → key_at new n ≡ key_at new m → ⊥
still_apart old new n m seat other keeps a b apart same = apart (sym (keeps n seat a).1 ∙ same ∙ (keeps m other b).1)

-- the first claim in a book without events
pub first_claim : ClaimsAreGiven → (old mid new : Log) (k : Key) (c : Claim) (m : ℕ) → old.events ≡ [] → mid ≡ with_key old k → m < length mid.keys
    → new ≡ with_event mid (claimed 0 (key_at mid m)) → c.seat ≡ 0 → c.number ≡ m → HasAll new c 0
first_claim given old mid new k c m none made within is s e = record {
  has = subst (λ (l : Log). HasClaim l c.number c.seat) (sym is) (subst (λ z. HasClaim now z c.seat) (sym e) (subst (λ z. HasClaim now m z) (sym s) (given mid 0 m within).0));
  is = s;
  alone = λ q other h. alone_by q other (subst (λ (l : Log). (state_of l).claims q ≡ Some other) is h);
}
  where
    now : Log
    now = with_event mid (claimed 0 (key_at mid m))

    no_events : mid.events ≡ []
    no_events = ap (λ (l : Log). l.events) made ∙ none

    alone_by : (q : Key) (other : ℕ) → (state_of now).claims q ≡ Some other → other ≡ 0
    alone_by q other h =
        let here : (happens opening (claimed 0 (key_at mid m))).claims q ≡ Some other = ap (λ (es : List Event). (replay opening (es ++ claimed 0 (key_at mid m) ∷ [])).claims q) (sym no_events) ∙ h in
        elim (put_some opening.claims (key_at mid m) 0 q other here) [ inl p ↦ sym p.1 | inr p ↦ absurd (cc p) ]

pub free_at_first : (old mid : Log) (k : Key) (m : ℕ) → old.events ≡ [] → mid ≡ with_key old k → IsFree (state_of mid) (key_at mid m)
free_at_first old mid k m none made =
    let no_events : mid.events ≡ [] = ap (λ (l : Log). l.events) made ∙ none in
    subst (λ (es : List Event). IsFree (replay opening es) (key_at mid m)) (sym no_events) (record { unclaimed = refl; unfiled = refl })

pub waiting_result : {E : Type 0} → ClaimsAreGiven → ClaimsStay → (old mid new : Log) (k : Key) (seat n on : ℕ) (place : Place) → mid ≡ with_key old k → on < length mid.keys
    → (r : Result Blocked E) → IfOk r (BlocksAs mid new seat n on place) → IfOk r (IsWaiting old new)
waiting_result given stay old mid new k seat n on place made within (Ok b) is = is_waiting given stay old mid new k seat n on place b made within is
waiting_result given stay old mid new k seat n on place made within (Err e) is = tt

pub waiting_taken : (old new : Log) (b : Blocked) → IsWaiting old new b → IfTaken old new (given_by b)
waiting_taken old new Ready h = h
waiting_taken old new (Work c) h = h
waiting_taken old new (Wait other) h = h
waiting_taken old new Cyclic h = h

pub all_result : {E : Type 0} → ClaimsAreGiven → (old mid new : Log) (k : Key) (m : ℕ) → old.events ≡ [] → mid ≡ with_key old k → m < length mid.keys
    → (r : Result Claim E) → OnOk r (new ≡ with_event mid (claimed 0 (key_at mid m))) → IfOk r (λ c. (key_of c.key ≡ key_at mid m) × (c.seat ≡ 0) × (c.number ≡ m)) → IfOk r (λ c. HasAll new c 0)
all_result given old mid new k m none made within (Ok c) is claim = first_claim given old mid new k c m none made within is claim.1 claim.2
all_result given old mid new k m none made within (Err e) is claim = tt

-- a seat other than the first has no claim
pub other_has_none : (l : Log) (c : Claim) → HasAll l c 0 → HasNoClaim l 1
other_has_none l c all k e = let one : 1 ≡ 0 = all.alone k 1 e in omega (arith, one)

pub none_at_first : (l : Log) (seat : ℕ) → l.events ≡ [] → HasNoClaim l seat
none_at_first l seat none k e = let nothing : (state_of l).claims k ≡ None = ap (λ (es : List Event). (replay opening es).claims k) none in cc (nothing, e)

pub taken_some : (old new : Log) (o : Option Claim) (c : Claim) → o ≡ Some c → IfTaken old new o → KeepsClaims old new × IsGiven old new c
taken_some old new o c e h = subst (λ (z : Option Claim). IfTaken old new z) e h
