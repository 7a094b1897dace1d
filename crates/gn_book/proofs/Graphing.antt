-- The graph of a book, after each event and as units get numbers.
use Rattle.std.proofs.Common.{◌≡◌, ◌↔◌, ℕ, zero, suc, ◌<◌, ◌≤◌, ◌+◌, List, [], ◌∷◌, ◌++◌, length, Option, Some, None, slice_get, if◌then◌else◌, ◌⊎◌, inl, inr, ◌||◌, Bool, true, false, cond, Result, Ok, Err, OnOk, OnErr, refl, sym, ◌∙◌, ap, subst, arith}
use mathlib.Core.Path.{fun_ext}
use Rattle.std.specs.List.{list_any}
use Rattle.std.proofs.lemmas.Bool.{cases_lt}
use Rattle.std.proofs.lemmas.List.{length-append, append_assoc, append-nil}
use Rattle.gn_closure.specs.Closure.{In}
use Rattle.gn_closure.specs.Reach.{Unit_key, Done, Fact, Is_reached, Is_wanted, Is_generated, Units, Holds}
use Rattle.gn_closure.specs.Ground.{Step, Holding, Asked, Used, Defined, Set_up}
use Rattle.gn_closure.specs.Computed.{is_reached, same_unit, is_too_large}
use Rattle.gn_graph.specs.Needs.{home}
use Rattle.gn_graph.specs.Numbers.{IsMore}
use Rattle.gn_graph.specs.Graphs.{Answers}
use Rattle.gn_graph.specs.Replies.{Reply, reply, units_in}
use Rattle.gn_graph.specs.Laws.{MoreReachMore}
use Rattle.gn_core.specs.Keys.{Key, Read, Import, Unit_of, Resolve, Answer, Filed, units, unit_in, same_key, put}
use Rattle.gn_core.specs.Machine.{State, Event, File, happens, replay}
use Rattle.gn_book.specs.declared.event.Event.{Event as Logged}
use Rattle.gn_book.specs.declared.event.Cause.{Cause as Reason}
use Rattle.gn_book.specs.Logs.{Log, opening, state_of, with_event, with_key}
use Rattle.gn_book.specs.Books.{log_in, IsWhole}
use Rattle.gn_book.specs.Rosters.{Table, with_number, with_key as with_more}
use Rattle.gn_book.specs.Graphs.{is_unit, with_told, with_answer, IsNew, IsGraphOf, UnitsHaveNumbers, HasMoreKeys, OnlyUnitsAreNew, with_fact, Looked, none, more, AreNumbered, IsGraphed}
use Rattle.gn_book.proofs.Keeping.{replay_push}
use Rattle.gn_book.proofs.Numbering.{get_more, get_last, number_step}
use Rattle.gn_book.proofs.Rostering.{got_within, at_end}
use Rattle.gn_core.proofs.Puts.{same_key_is}

unit_is : (k q : Unit_key) → same_unit k q ≡ true → k ≡ q
unit_is k q e = let one : Unit_of k ≡ Unit_of q = same_key_is (Unit_of k) (Unit_of q) e in cc one

abbrev or_else : {A : Type 0} → Option A → Option A → Option A
or_else None y = y
or_else (Some x) y = Some x

units_in-append : (rs qs : List Reply) (k : Unit_key) → units_in (rs ++ qs) k ≡ or_else (units_in rs k) (units_in qs k)
units_in-append [] qs k = refl
units_in-append (r ∷ rs) qs k = by (units_in-append rs qs k) (same_unit r.unit k)
  where
    by : units_in (rs ++ qs) k ≡ or_else (units_in rs k) (units_in qs k) → (b : Bool) → cond b (Some r.done) (units_in (rs ++ qs) k) ≡ or_else (cond b (Some r.done) (units_in rs k)) (units_in qs k)
    by rest true = refl
    by rest false = rest

-- a book that is seen as before keeps its graph
pub graphed_same : (a old b : Log) (g : Answers) (seen : ℕ) → a ≡ old → b ≡ old → IsGraphed a g seen → IsGraphed b g seen
graphed_same a old b g seen e f is = subst (λ (z : Log). IsGraphed z g seen) (e ∙ sym f) is

-- so does one with one more event that files nothing
pub graphed_event : (a old b : Log) (e : Event) (g : Answers) (seen : ℕ) → a ≡ old → b ≡ with_event old e → (happens (state_of old) e).filed ≡ (state_of old).filed
    → IsGraphed a g seen → IsGraphed b g seen
graphed_event a old b e g seen is_old is_new same is =
    subst (λ (z : Log). IsGraphed z g seen) (sym is_new) (with_one (subst (λ (z : Log). IsGraphed z g seen) is_old is))
  where
    with_one : IsGraphed old g seen → IsGraphed (with_event old e) g seen
    with_one h = ((λ k. h.0 k ∙ ap (λ (f : Filed). units f k) (sym same ∙ ap (λ (s : State). s.filed) (sym (replay_push opening old.events e)))), h.1)

-- and one with one more key that isn't a unit
numbered_key : (ks : List Key) (k : Key) (g : Answers) (seen : ℕ) → is_unit k ≡ false → AreNumbered ks g seen → AreNumbered (ks ++ k ∷ []) g seen
numbered_key ks k g seen no_unit is = record {
  within = is.within;
  sound = λ u i at. elim (get_last ks k (Unit_of u) i at) [ inl a ↦ is.sound u i a | inr a ↦ let yes : true ≡ is_unit k = ap is_unit a.1 in absurd (cc (yes, no_unit)) ];
  taken = λ n u l at. let has = is.taken n u l at in (has.0, get_more ks (k ∷ []) has.0 (got_within ks has.0 (Unit_of u) has.1) ∙ has.1);
}

numbered_with : (b : Bool) (ks : List Key) (k : Key) (g : Answers) (seen : ℕ) → is_unit k ≡ false → AreNumbered ks g seen → AreNumbered (if b then ks else ks ++ k ∷ []) g seen
numbered_with true ks k g seen no_unit is = is
numbered_with false ks k g seen no_unit is = numbered_key ks k g seen no_unit is

pub graphed_key : {E : Type 0} (a old b : Log) (k : Key) (g : Answers) (seen : ℕ) (r : Result ℕ E) → a ≡ old → OnOk r (b ≡ with_key old k) → OnErr r (b ≡ old) → is_unit k ≡ false
    → IsGraphed a g seen → IsGraphed b g seen
graphed_key a old b k g seen (Ok n) is_old ok err no_unit is =
    let h : IsGraphed old g seen = subst (λ (z : Log). IsGraphed z g seen) is_old is in
    subst (λ (z : Log). IsGraphed z g seen) (sym ok) (h.0, numbered_with (list_any (same_key k) old.keys) old.keys k g seen no_unit h.1)
graphed_key a old b k g seen (Err e) is_old ok err no_unit is = graphed_same a old b g seen is_old err is

-- a new book has an empty graph
pub graphed_new : (a : Log) (seats : ℕ) (g : Answers) → a ≡ record { seats = seats; keys = []; events = [] } → g.replies ≡ [] → IsGraphed a g 0
graphed_new a seats g is empty = subst (λ (z : Log). IsGraphed z g 0) (sym is) (
  (λ k. ap (λ (rs : List Reply). units_in rs k) empty),
  record {
    within = omega arith;
    sound = λ k i at. absurd (cc at);
    taken = λ n k l at. absurd (omega (arith, l));
  },
)

-- One more answer

told_more : (rs : List Reply) (filed : Filed) (w : Unit_key) (v : Answer) → IsGraphOf rs filed → units_in rs w ≡ None
    → (x : Option (Option Done)) → unit_in (Some v) ≡ x → IsGraphOf (with_told rs w x) (put filed (Unit_of w) (Some v))
told_more rs filed w v is fresh None e u = by (same_unit w u) refl
  where
    by : (b : Bool) → same_unit w u ≡ b → units_in rs u ≡ unit_in (cond b (Some v) (filed (Unit_of u)))
    by true s = ap (units_in rs) (sym (unit_is w u s)) ∙ fresh ∙ sym e
    by false s = is u
told_more rs filed w v is fresh (Some d) e u = units_in-append rs (reply w d ∷ []) u ∙ by (same_unit w u) refl
  where
    by : (b : Bool) → same_unit w u ≡ b → or_else (units_in rs u) (cond b (Some d) None) ≡ unit_in (cond b (Some v) (filed (Unit_of u)))
    by true s = ap (λ (z : Option (Option Done)). or_else z (Some d)) (ap (units_in rs) (sym (unit_is w u s)) ∙ fresh) ∙ sym e
    by false s = nothing_more (units_in rs u) ∙ is u
      where
        nothing_more : (z : Option (Option Done)) → or_else z None ≡ z
        nothing_more None = refl
        nothing_more (Some y) = refl

over_more : (rs : List Reply) (filed : Filed) (k : Key) (v : Answer) → IsGraphOf rs filed → IsNew rs k → IsGraphOf (with_answer rs k v) (put filed k (Some v))
over_more rs filed (Read path) v is fresh u = is u
over_more rs filed (Import layer path) v is fresh u = is u
over_more rs filed (Unit_of w) v is fresh u = told_more rs filed w v is fresh (unit_in (Some v)) refl u
over_more rs filed (Resolve label) v is fresh u = is u

holds_told : MoreReachMore → (rs : List Reply) (w : Unit_key) (x : Option (Option Done)) (f : Fact) → Holds home (units_in rs) f → Holds home (units_in (with_told rs w x)) f
holds_told reach rs w None f h = h
holds_told reach rs w (Some d) f h = reach rs (reply w d) f h

holds_more : MoreReachMore → (rs : List Reply) (k : Key) (v : Answer) (f : Fact) → Holds home (units_in rs) f → Holds home (units_in (with_answer rs k v)) f
holds_more reach rs (Read path) v f h = h
holds_more reach rs (Import layer path) v f h = h
holds_more reach rs (Unit_of w) v f h = holds_told reach rs w (unit_in (Some v)) f h
holds_more reach rs (Resolve label) v f h = h

numbered_more : (ks : List Key) (g h : Answers) (seen : ℕ) → IsMore g.found h.found → ((f : Fact) → Holds home (units_in g.replies) f → Holds home (units_in h.replies) f)
    → AreNumbered ks g seen → AreNumbered ks h seen
numbered_more ks g h seen grown reaches is = record {
  within = let long : length h.found ≡ length g.found + length grown.0 = ap length grown.1 ∙ length-append g.found grown.0 in omega (arith, long, is.within);
  sound = λ k i at. reaches (Is_reached k) (is.sound k i at);
  taken = λ n k l at. is.taken n k l (sym (ap (λ (z : List Step). slice_get z n) grown.1 ∙ get_more g.found grown.0 n (omega (arith, l, is.within))) ∙ at);
}

pub graphed_file : MoreReachMore → (a old b : Log) (seat : ℕ) (k : Key) (v : Answer) (g h : Answers) (seen : ℕ) → a ≡ old → b ≡ with_event old (File seat k v) → IsNew g.replies k
    → h.replies ≡ with_answer g.replies k v → IsMore g.found h.found → IsGraphed a g seen → IsGraphed b h seen
graphed_file reach a old b seat k v g h seen is_old is_new fresh added grown is =
    subst (λ (z : Log). IsGraphed z h seen) (sym is_new) (with_one (subst (λ (z : Log). IsGraphed z g seen) is_old is))
  where
    with_one : IsGraphed old g seen → IsGraphed (with_event old (File seat k v)) h seen
    with_one p = (
      λ u. ap (λ (rs : List Reply). units_in rs u) added ∙ over_more g.replies (state_of old).filed k v p.0 fresh u
          ∙ ap (λ (s : State). units s.filed u) (sym (replay_push opening old.events (File seat k v))),
      numbered_more old.keys g h seen grown (λ f q. subst (λ (rs : List Reply). Holds home (units_in rs) f) (sym added) (holds_more reach g.replies k v f q)) p.1,
    )

-- a key without answer is new to the graph
new_by : (rs : List Reply) (filed : Filed) (k : Key) → IsGraphOf rs filed → filed k ≡ None → IsNew rs k
new_by rs filed (Read path) is lacks = tt
new_by rs filed (Import layer path) is lacks = tt
new_by rs filed (Unit_of u) is lacks = is u ∙ ap unit_in lacks
new_by rs filed (Resolve label) is lacks = tt

pub new_key : (a old : Log) (g : Answers) (seen : ℕ) (k : Key) → a ≡ old → IsGraphed a g seen → (state_of old).filed k ≡ None → IsNew g.replies k
new_key a old g seen k is_old is lacks = new_by g.replies (state_of old).filed k (subst (λ (z : Log). IsGraphed z g seen) is_old is).0 lacks

-- What is reached over what is filed

same_units : (rs : List Reply) (filed : Filed) → IsGraphOf rs filed → units_in rs ≡ units filed
same_units rs filed is = fun_ext is

pub too_large_same : (a old : Log) (g : Answers) (seen : ℕ) → a ≡ old → IsGraphed a g seen → is_too_large home (units_in g.replies) ≡ is_too_large home (units (state_of old).filed)
too_large_same a old g seen is_old is =
    ap (λ (u : Units). is_too_large home u) (same_units g.replies (state_of a).filed is.0) ∙ ap (λ (z : Log). is_too_large home (units (state_of z).filed)) is_old

-- Units get numbers

more_none : {A : Type 0} (xs : List A) → IsMore xs xs
more_none xs = ([], sym (append-nil xs))

more_then : {A : Type 0} (xs ys zs : List A) → IsMore xs ys → IsMore ys zs → IsMore xs zs
more_then xs ys zs a b = (a.0 ++ b.0, b.1 ∙ ap (λ z. z ++ b.0) a.1 ∙ append_assoc xs a.0 b.0)

-- a key that a list has stands at some number
among : (ks : List Key) (k : Key) → list_any (same_key k) ks ≡ true → (i : ℕ) × (slice_get ks i ≡ Some k)
among [] k e = absurd (cc e)
among (x ∷ ks) k e = by (λ h. among ks k h) (same_key k x) refl e
  where
    by : (list_any (same_key k) ks ≡ true → (i : ℕ) × (slice_get ks i ≡ Some k)) → (b : Bool) → same_key k x ≡ b → (b || list_any (same_key k) ks) ≡ true
        → (i : ℕ) × (slice_get (x ∷ ks) i ≡ Some k)
    by rest true s h = (0, ap Some (sym (same_key_is k x s)))
    by rest false s h = let at = rest h in (suc at.0, at.1)

-- one more fact was looked at, which gave its unit a number
numbered_fact : (ks : List Key) (g : Answers) (n : ℕ) (u : Unit_key) → n < length g.found → slice_get g.found n ≡ Some (is_reached u) → Holds home (units_in g.replies) (Is_reached u)
    → AreNumbered ks g n → (b : Bool) → list_any (same_key (Unit_of u)) ks ≡ b → AreNumbered (if b then ks else ks ++ Unit_of u ∷ []) g (n + 1)
numbered_fact ks g n u l at holds is true e = record {
  within = omega (arith, l);
  sound = is.sound;
  taken = λ m k less there. elim (cases_lt m n) [ inl x ↦ is.taken m k x there | inr x ↦ last m k less x there ];
}
  where
    last : (m : ℕ) (k : Unit_key) → m < n + 1 → n ≤ m → slice_get g.found m ≡ Some (is_reached k) → (i : ℕ) × (slice_get ks i ≡ Some (Unit_of k))
    last m k less x there =
        let here : m ≡ n = omega (arith, less, x) in
        let one : Some (is_reached u) ≡ Some (is_reached k) = sym at ∙ ap (slice_get g.found) (sym here) ∙ there in
        let same : u ≡ k = cc one in
        subst (λ (z : Unit_key). (i : ℕ) × (slice_get ks i ≡ Some (Unit_of z))) same (among ks (Unit_of u) e)
numbered_fact ks g n u l at holds is false e = record {
  within = omega (arith, l);
  sound = λ k i there. elim (get_last ks (Unit_of u) (Unit_of k) i there) [ inl a ↦ is.sound k i a | inr a ↦ let same : k ≡ u = cc a.1 in subst (λ (z : Unit_key). Holds home (units_in g.replies) (Is_reached z)) (sym same) holds ];
  taken = λ m k less there. elim (cases_lt m n) [ inl x ↦ (let has = is.taken m k x there in (has.0, get_more ks (Unit_of u ∷ []) has.0 (got_within ks has.0 (Unit_of k) has.1) ∙ has.1)) | inr x ↦ last m k less x there ];
}
  where
    last : (m : ℕ) (k : Unit_key) → m < n + 1 → n ≤ m → slice_get g.found m ≡ Some (is_reached k) → (i : ℕ) × (slice_get (ks ++ Unit_of u ∷ []) i ≡ Some (Unit_of k))
    last m k less x there =
        let here : m ≡ n = omega (arith, less, x) in
        let one : Some (is_reached u) ≡ Some (is_reached k) = sym at ∙ ap (slice_get g.found) (sym here) ∙ there in
        let same : u ≡ k = cc one in
        subst (λ (z : Unit_key). (i : ℕ) × (slice_get (ks ++ Unit_of u ∷ []) i ≡ Some (Unit_of z))) same (length ks, at_end ks (Unit_of u))

-- a fact that isn't about a unit gives none
numbered_other : (ks : List Key) (g : Answers) (n : ℕ) → n < length g.found → ((u : Unit_key) → slice_get g.found n ≡ Some (is_reached u) → ⊥) → AreNumbered ks g n → AreNumbered ks g (n + 1)
numbered_other ks g n l apart is = record {
  within = omega (arith, l);
  sound = is.sound;
  taken = λ m k less there. elim (cases_lt m n) [ inl x ↦ is.taken m k x there | inr x ↦ let here : m ≡ n = omega (arith, less, x) in absurd (apart k (ap (slice_get g.found) (sym here) ∙ there)) ];
}

in_list : {A : Type 0} (xs : List A) (n : ℕ) (x : A) → slice_get xs n ≡ Some x → In xs x
in_list [] n x e = absurd (cc e)
in_list (y ∷ xs) zero x e = inl (cc e)
in_list (y ∷ xs) (suc n) x e = inr (in_list xs n x e)

list_in : {A : Type 0} (xs : List A) (x : A) → In xs x → (n : ℕ) × (slice_get xs n ≡ Some x)
list_in [] x i = absurd i
list_in (y ∷ xs) x (inl e) = (0, ap Some e)
list_in (y ∷ xs) x (inr i) = let rest = list_in xs x i in (suc rest.0, rest.1)

module _ (seats remaining : ℕ) (stop : Option Reason) (es : List Logged) (used capacity : ℕ) (old : Log) (g : Answers) (whole : (f : Fact) → In g.found (Holding f) ↔ Holds home (units_in g.replies) f) where
  -- the keys after some facts were looked at
  record KeysAfter (n : ℕ) (t : Table) : Type 0 where
    is_whole : IsWhole seats remaining stop t.keys t.standings es used capacity
    now : Log
    view_is : log_in seats t.keys t.standings es ≡ now
    more_keys : HasMoreKeys old now
    only : OnlyUnitsAreNew old now
    numbered : AreNumbered t.keys g n

  kept_other : (n m : ℕ) (t u : Table) (s : Step) → slice_get g.found n ≡ Some s → ((k : Unit_key) → s ≡ is_reached k → ⊥) → m ≡ n + 1 → u ≡ t → KeysAfter n t → KeysAfter m u
  kept_other n m t u s at apart next same kept =
      subst (λ (z : ℕ). KeysAfter z u) (sym next) (subst (λ (z : Table). KeysAfter (n + 1) z) (sym same) (record {
        is_whole = kept.is_whole;
        now = kept.now;
        view_is = kept.view_is;
        more_keys = kept.more_keys;
        only = kept.only;
        numbered = numbered_other t.keys g n (got_within g.found n s at) (λ k e. let one : Some s ≡ Some (is_reached k) = sym at ∙ e in apart k (cc one)) kept.numbered;
      }))

  kept_unit : (n m : ℕ) (t u : Table) (k : Unit_key) → slice_get g.found n ≡ Some (is_reached k) → m ≡ n + 1 → u ≡ with_number t (Unit_of k) → KeysAfter n t → KeysAfter m u
  kept_unit n m t u k at next set kept =
      let done = number_step seats remaining stop t es used capacity kept.now kept.is_whole kept.view_is (Unit_of k) u set in
      let keys : u.keys ≡ (if list_any (same_key (Unit_of k)) t.keys then t.keys else t.keys ++ Unit_of k ∷ []) = ap (λ (z : Table). z.keys) set ∙ keys_of (list_any (same_key (Unit_of k)) t.keys) in
      subst (λ (z : ℕ). KeysAfter z u) (sym next) (record {
        is_whole = done.0;
        now = with_key kept.now (Unit_of k);
        view_is = done.1;
        more_keys = record {
          seats = kept.more_keys.seats;
          keys = more_then old.keys kept.now.keys (with_key kept.now (Unit_of k)).keys kept.more_keys.keys (one_more (list_any (same_key (Unit_of k)) kept.now.keys) kept.now.keys);
          events = kept.more_keys.events;
        };
        only = λ i q e. only_one (list_any (same_key (Unit_of k)) kept.now.keys) kept.now.keys i q kept.only e;
        numbered = subst (λ (z : List Key). AreNumbered z g (n + 1)) (sym keys)
            (numbered_fact t.keys g n k (got_within g.found n (is_reached k) at) at ((whole (Is_reached k)).0 (in_list g.found n (is_reached k) at)) kept.numbered (list_any (same_key (Unit_of k)) t.keys) refl);
      })
    where
      keys_of : (b : Bool) → (if b then t else with_more t (Unit_of k)).keys ≡ (if b then t.keys else t.keys ++ Unit_of k ∷ [])
      keys_of true = refl
      keys_of false = refl

      only_one : (b : Bool) (ks : List Key) (i : ℕ) (q : Key) → ((j : ℕ) (r : Key) → slice_get ks j ≡ Some r → (slice_get old.keys j ≡ Some r) ⊎ (is_unit r ≡ true)) → slice_get (if b then ks else ks ++ Unit_of k ∷ []) i ≡ Some q → (slice_get old.keys i ≡ Some q) ⊎ (is_unit q ≡ true)
      only_one true ks i q only e = only i q e
      only_one false ks i q only e = elim (get_last ks (Unit_of k) q i e) [ inl a ↦ only i q a | inr a ↦ inr (ap is_unit a.1) ]

      one_more : (b : Bool) (ks : List Key) → IsMore ks (if b then ks else ks ++ Unit_of k ∷ [])
      one_more true ks = more_none ks
      one_more false ks = (Unit_of k ∷ [], refl)

  kept_fact : (n m : ℕ) (t u : Table) (s : Step) → slice_get g.found n ≡ Some s → m ≡ n + 1 → u ≡ with_fact t s → KeysAfter n t → KeysAfter m u
  kept_fact n m t u (Holding (Is_reached k)) at next set kept = kept_unit n m t u k at next set kept
  kept_fact n m t u (Holding (Is_wanted dir toolchain)) at next set kept = kept_other n m t u (Holding (Is_wanted dir toolchain)) at (λ k e. cc e) next set kept
  kept_fact n m t u (Holding (Is_generated label)) at next set kept = kept_other n m t u (Holding (Is_generated label)) at (λ k e. cc e) next set kept
  kept_fact n m t u (Asked label) at next set kept = kept_other n m t u (Asked label) at (λ k e. cc e) next set kept
  kept_fact n m t u (Used toolchain) at next set kept = kept_other n m t u (Used toolchain) at (λ k e. cc e) next set kept
  kept_fact n m t u (Defined toolchain) at next set kept = kept_other n m t u (Defined toolchain) at (λ k e. cc e) next set kept
  kept_fact n m t u (Set_up toolchain) at next set kept = kept_other n m t u (Set_up toolchain) at (λ k e. cc e) next set kept

  kept_looked : (from : ℕ) (t0 : Table) → KeysAfter from t0 → (n : ℕ) (t : Table) → Looked g.found from t0 n t → KeysAfter n t
  kept_looked from t0 kept n t (none e f) = subst (λ (z : ℕ). KeysAfter z t) (sym e) (subst (λ (z : Table). KeysAfter from z) (sym f) kept)
  kept_looked from t0 kept m u (more n t s looked at next set) = kept_fact n m t u s at next set (kept_looked from t0 kept n t looked)

  -- a book whose facts were looked at
  pub looked_at : (t0 t : Table) (from n : ℕ) → IsWhole seats remaining stop t0.keys t0.standings es used capacity → log_in seats t0.keys t0.standings es ≡ old
      → IsGraphed (log_in seats t0.keys t0.standings es) g from → Looked g.found from t0 n t
      → IsWhole seats remaining stop t.keys t.standings es used capacity × IsGraphed (log_in seats t.keys t.standings es) g n × HasMoreKeys old (log_in seats t.keys t.standings es)
      × OnlyUnitsAreNew old (log_in seats t.keys t.standings es)
  looked_at t0 t from n is_whole view_is graphed looked =
      let kept = kept_looked from t0 (record {
        is_whole = is_whole;
        now = old;
        view_is = view_is;
        more_keys = record { seats = refl; keys = more_none old.keys; events = refl };
        only = λ i k e. inl e;
        numbered = graphed.1;
      }) n t looked in
      let more : HasMoreKeys old (log_in seats t.keys t.standings es) = subst (λ (z : Log). HasMoreKeys old z) (sym kept.view_is) kept.more_keys in
      let over : IsGraphOf g.replies (state_of old).filed = subst (λ (z : Log). IsGraphOf g.replies (state_of z).filed) view_is graphed.0 in (
        kept.is_whole,
        (subst (λ (z : List Event). IsGraphOf g.replies (replay opening z).filed) (sym more.events) over, kept.numbered),
        more,
        subst (λ (z : Log). OnlyUnitsAreNew old z) (sym kept.view_is) kept.only,
      )

  -- and all of them
  pub all_looked_at : (l : Log) (n : ℕ) → IsGraphed l g n → n ≡ length g.found → UnitsHaveNumbers l
  all_looked_at l n graphed all k =
      let same : units_in g.replies ≡ units (state_of l).filed = same_units g.replies (state_of l).filed graphed.0 in (
        λ has. subst (λ (u : Units). Holds home u (Is_reached k)) same (graphed.1.sound k has.0 has.1),
        λ holds. let at = list_in g.found (is_reached k) ((whole (Is_reached k)).1 (subst (λ (u : Units). Holds home u (Is_reached k)) (sym same) holds)) in
            graphed.1.taken at.0 k (subst (λ z. at.0 < z) (sym all) (got_within g.found at.0 (is_reached k) at.1)) at.1,
      )

  -- where that didn't fail
  pub numbered_all : {A E : Type 0} (l : Log) (n : ℕ) (r : Result A E) → IsGraphed l g n → OnOk r (n ≡ length g.found) → OnOk r (UnitsHaveNumbers l)
  numbered_all l n (Ok a) graphed all = all_looked_at l n graphed all
  numbered_all l n (Err e) graphed all = tt
