-- What is claimed is wanted, and a quiet state has filed what is wanted.
use Rattle.std.proofs.Common.{◌≡◌, ℕ, List, [], ◌∷◌, Option, Some, None, refl, sym, ◌∙◌, ap, subst, ◌⊎◌, inl, inr, ◌↔◌, Bool, true, false, cond, unwrap_or}
use Rattle.gn_paths.specs.declared.place.Place.{Place}
use Rattle.gn_definitions.specs.Imported.{ImportState}
use Rattle.gn_runs.specs.Runs.{Question, content_of, import_of, Answers, End, ended, wrong, spoiled, needs, Run, IsTree}
use Rattle.gn_runs.specs.Laws.{IsSettled, IsAsked, IsUnknown}
use Rattle.gn_runs.proofs.TreeLaws.{tree_asks_known, tree_asks_more}
use Rattle.gn_imports.specs.Rounds.{final}
use Rattle.gn_imports.specs.Laws.{spoiled_at_need}
use Rattle.gn_imports.proofs.Final.{final_run, same_need}
use Rattle.gn_labels.specs.declared.label.Label.{Label}
use Rattle.gn_closure.specs.Reach.{Unit_key, Setup, Load, Target, Done, Fact, Is_reached, Is_generated, Holds}
use Rattle.gn_closure.proofs.GroundRules.{holds_grows, holds_back}
use Rattle.gn_closure.proofs.Least.{first_held}
use Rattle.gn_core.specs.Keys.{Layer, Key, Read, Import, Unit_of, Resolve, Answer, found, import_is, no_value, unit_is, record_is, Filed, layer_of, key_of, shown, unit_in, units, same_key, put, Leaving}
use Rattle.gn_core.specs.Worlds.{World, project, last_run, import_as, import_answer, all_meanings}
use Rattle.gn_core.specs.Machine.{Blocked, State, Event, Claim, Block, File, Stop, happens, replay, NeedsAt, spoiled_as, ClosesCycle, IsRightImport, IsRight, IsLoaded, IsDone, Defines, HasTools, IsFiled, IsReachedKey, IsReady, asked_in, IsNeeded, by_unit, by_import, AllowedOver, Allowed, Runs, IsOverEvent, IsOver, HasLoaded, IsQuiet, IsOpening}
use Rattle.gn_core.specs.Layered.{IsPart, IsLayered}
use Rattle.gn_core.specs.Statements.{Resolvable, resolvable, Wanted, ClaimedAreWanted, QuietIsWhole, QuietAgree}
use Rattle.gn_core.proofs.Puts.{put_some, put_none, put_has, put_own}
use Rattle.gn_core.proofs.Right.{shown_below}
use Rattle.gn_core.proofs.Kept.{Inv, AsksAt, import_tree, needs_asks, closing_on, event_kept}
use Rattle.gn_core.proofs.Based.{generated_done}
use Rattle.gn_core.proofs.Lowered.{true_fixed, AllBased, lowered, based_kept, opening_inv, opening_based, filed_are_meanings}

-- filed or claimed
abbrev pub IsKnown : State → Key → Type 0
IsKnown s k = IsFiled s.filed k ⊎ ((seat : ℕ) × (s.claims k ≡ Some seat))

-- what the answer of a key asks
abbrev pub Asks : Filed → Key → Key → Type 0
Asks a (Read path) on = ⊥
Asks a (Import l path) on = (q : Question) × (on ≡ key_of l q) × IsAsked (asked_in (a (Import l path))) q
Asks a (Unit_of k) on = (q : Question) × (on ≡ key_of (layer_of k) q) × IsAsked (asked_in (a (Unit_of k))) q
Asks a (Resolve l) on = ⊥

pub record Scope (w : World) (first s : State) : Type 0 where
  pub claimed : (k : Key) (seat : ℕ) → s.claims k ≡ Some seat → Wanted w k
  pub filed : (k : Key) (v : Answer) → s.filed k ≡ Some v → Wanted w k ⊎ IsFiled first.filed k
  pub stays : (k : Key) → IsFiled first.filed k → IsFiled s.filed k
  pub blocked : (k : Key) (b : Blocked) → s.blocks k ≡ Some b → IsKnown s b.on
  pub asked : (k on : Key) → IsFiled s.filed k → Asks s.filed k on → IsKnown s on

-- what is known stays known
pub known_stays : (s : State) (e : Event) (k : Key) → IsKnown s k → IsKnown (happens s e) k
known_stays s (Claim seat q) k (inl h) = inl h
known_stays s (Claim seat q) k (inr h) = inr (put_has s.claims q seat k h.0 h.1)
known_stays s (Block seat q on p c) k (inl h) = inl h
known_stays s (Block seat q on p c) k (inr h) = inr (put_has s.claims on (unwrap_or (s.claims on) seat) k h.0 h.1)
known_stays s (File seat q v) k (inl h) = inl (put_has s.filed q v k h.0 h.1)
known_stays s (File seat q v) k (inr h) = go (same_key q k)
  where
    go : (b : Bool) → ((u : Answer) × (cond b (Some v) (s.filed k) ≡ Some u)) ⊎ ((m : ℕ) × (cond b None (s.claims k) ≡ Some m))
    go true = inl (v, refl)
    go false = inr h
known_stays s (Stop seat c) k (inl h) = inl h
known_stays s (Stop seat c) k (inr h) = inr h

-- What answers ask

spoiled_asked : (x : Option Answer) (q : List ℕ) (p : Place) (run : Run (Leaving ImportState)) → asked_in (Some (spoiled_as x q p run)) ≡ run.asked
spoiled_asked None q p run = refl
spoiled_asked (Some (found c)) q p run = refl
spoiled_asked (Some (import_is r)) q p run = refl
spoiled_asked (Some (no_value f r m)) q p run = refl
spoiled_asked (Some (unit_is r)) q p run = refl
spoiled_asked (Some (record_is r)) q p run = refl

settled_not : {A : Type 0} (end : End A) (q : Question) (p : Place) → IsSettled end → end ≡ needs q p → ⊥
settled_not (ended x) q p s h = cc
settled_not (wrong f) q p s h = cc
settled_not (spoiled path place) q p s h = cc
settled_not (needs r place) q p s h = absurd s

module _ (w : World) (l : IsLayered w) (first s : State) (inv : Inv w (all_meanings w) s) (bases : AllBased w s) (sc : Scope w first s)
    (none_resolved : (m : Label) → first.filed (Resolve m) ≡ None) (none_units : (k : Unit_key) → first.filed (Unit_of k) ≡ None) where
  pub above : IsPart s.filed (all_meanings w)
  above k v h = ap Some (true_fixed w l k ∙ sym (inv.right k v h))

  units_above : (k : Unit_key) (x : Option Answer) → s.filed (Unit_of k) ≡ x → (d : Done) → unit_in x ≡ Some (Some d) → units (all_meanings w) k ≡ Some (Some d)
  units_above k None e d h = cc
  units_above k (Some v) e d h = subst (λ (z : Option Answer). unit_in z ≡ Some (Some d)) (sym (above (Unit_of k) v e)) h

  units_grow : (k : Unit_key) (d : Done) → units s.filed k ≡ Some (Some d) → units (all_meanings w) k ≡ Some (Some d)
  units_grow k d h = units_above k (s.filed (Unit_of k)) refl d h

  pub holds_above : (f : Fact) → Holds w.home (units s.filed) f → Holds w.home (units (all_meanings w)) f
  holds_above f h = holds_grows w.home (units s.filed) (units (all_meanings w)) units_grow f h

  loaded_above : (dir toolchain : List ℕ) (d : Done) → IsLoaded w (units s.filed) dir toolchain d → IsLoaded w (units (all_meanings w)) dir toolchain d
  loaded_above dir toolchain d h = (holds_above (Is_reached (Load dir toolchain)) h.0, units_grow (Load dir toolchain) d h.1)

  done_above : (m : Label) (d : Done) → IsDone w (units s.filed) m d → IsDone w (units (all_meanings w)) m d
  done_above m d h = loaded_above m.dir m.toolchain d h

  tools_above : (m : Label) → HasTools w (units s.filed) m → HasTools w (units (all_meanings w)) m
  tools_above m (d, v, x, y, f) =
      (d, v, units_grow (Setup []) d x, loaded_above (w.home m.toolchain) d.default v y, λ t i e p j. let z = f t i e p j in (z.0, done_above p z.0 z.1))

  defines_above : (m : Label) (t : Target) → Defines w (units s.filed) m t → Defines w (units (all_meanings w)) m t
  defines_above m t h = (h.0, done_above m h.0 h.1, h.2, h.3)

  -- a target that a unit with a filed answer defines
  defines_below : (m : Label) → Holds w.home (units s.filed) (Is_generated m) → (t : Target) → Defines w (units (all_meanings w)) m t → Defines w (units s.filed) m t
  defines_below m g t h =
      let u = generated_done w.home (units s.filed) m g in
      let same : Some (Some u.0) ≡ Some (Some h.0) = sym (units_grow (Load m.dir m.toolchain) u.0 u.2) ∙ h.1.1 in
      (h.0, (u.1, u.2 ∙ same), h.2, h.3)

  wanted_resolve : (m : Label) → IsFiled s.filed (Resolve m) → Resolvable w (units (all_meanings w)) m
  wanted_resolve m h = go (sc.filed (Resolve m) h.0 h.1)
    where
      go : Wanted w (Resolve m) ⊎ IsFiled first.filed (Resolve m) → Resolvable w (units (all_meanings w)) m
      go (inl x) = x
      go (inr x) = let none : first.filed (Resolve m) ≡ None = none_resolved m in let some : first.filed (Resolve m) ≡ Some x.0 = x.1 in absurd (cc)

  reached_wanted : (k : Key) → IsReachedKey w s.filed k → Wanted w k
  reached_wanted (Read path) h = absurd h
  reached_wanted (Import m path) h = absurd h
  reached_wanted (Unit_of k) h = holds_above (Is_reached k) h
  reached_wanted (Resolve m) h =
      resolvable m (holds_above (Is_generated m) h.0)
      ((λ t d n i. let x = h.1.0 t (defines_below m h.0 t d) n i in (x.0, done_above n x.0 x.1)), tools_above m h.1.1)
      (λ t d n i. let x = h.2 t (defines_below m h.0 t d) n i in (x.0.0, defines_above n x.0.0 x.0.1))
      (λ t d n i. let x = h.2 t (defines_below m h.0 t d) n i in wanted_resolve n x.1)

  -- what an evaluation over what is filed asks is wanted where the evaluation is
  import_wanted : (m : Layer) (path : List ℕ) (q : Question) → IsNeeded w (all_meanings w) (key_of m q) → Wanted w (key_of m q)
  import_wanted m path (content_of r) h = h
  import_wanted m path (import_of r) h = h

  -- What a filed answer asks is known

  filed_or_needs : (m : Layer) (q : Question) → IsFiled s.filed (key_of m q) ⊎ (s.filed (key_of m q) ≡ None)
  filed_or_needs m q = go (s.filed (key_of m q)) refl
    where
      go : (x : Option Answer) → s.filed (key_of m q) ≡ x → IsFiled s.filed (key_of m q) ⊎ (s.filed (key_of m q) ≡ None)
      go None e = inr e
      go (Some v) e = inl (v, e)

  unknown_here : (m : Layer) (q : Question) → s.filed (key_of m q) ≡ None → IsUnknown (shown s.filed m) q
  unknown_here m (content_of path) h = rw h refl
  unknown_here m (import_of path) h = rw h refl

  settled_known : {A : Type 0} (m : Layer) (f : Answers → Run A) → IsTree f → IsSettled (f (shown s.filed m)).end → (q : Question) → IsAsked (f (shown s.filed m)).asked q → IsKnown s (key_of m q)
  settled_known m f t set q i = go (filed_or_needs m q)
    where
      go : IsFiled s.filed (key_of m q) ⊎ (s.filed (key_of m q) ≡ None) → IsKnown s (key_of m q)
      go (inl h) = inl h
      go (inr h) =
          let n = tree_asks_known f t (shown s.filed m) q i (unknown_here m q h) in
          absurd (settled_not (f (shown s.filed m)).end q n.0 set n.1)

  closed_known : (m : Layer) (path r : List ℕ) (p : Place) → (w.import_run m (all_meanings w) path (shown s.filed m)).end ≡ needs (import_of r) p → ClosesCycle s (Import m path)
      → (q : Question) → IsAsked (w.import_run m (all_meanings w) path (shown s.filed m)).asked q → IsKnown s (key_of m q)
  closed_known m path r p e b q i = go (filed_or_needs m q)
    where
      go : IsFiled s.filed (key_of m q) ⊎ (s.filed (key_of m q) ≡ None) → IsKnown s (key_of m q)
      go (inl h) = inl h
      go (inr h) =
          let n = tree_asks_known (w.import_run m (all_meanings w) path) (import_tree w l.is (all_meanings w) m path) (shown s.filed m) q i (unknown_here m q h) in
          let same : import_of r ≡ q = same_need (w.import_run m (all_meanings w) path (shown s.filed m)).end (import_of r) q p n.0 e n.1 in
          let on : b.0.on ≡ Import m r = closing_on w l.is (all_meanings w) s inv m path r p e b.0 b.1 b.2 in
          subst (IsKnown s) (on ∙ ap (key_of m) same) (sc.blocked (Import m path) b.0 b.1)

  import_known : (m : Layer) (path : List ℕ) (v : Answer) (end : End (Leaving ImportState)) → (w.import_run m (all_meanings w) path (shown s.filed m)).end ≡ end
      → IsRightImport s m path (w.import_run m (all_meanings w) path (shown s.filed m)) end v → (q : Question) → IsAsked (asked_in (Some v)) q → IsKnown s (key_of m q)
  import_known m path v (ended x) e r q i =
      settled_known m (w.import_run m (all_meanings w) path) (import_tree w l.is (all_meanings w) m path) (subst IsSettled (sym e) tt) q (subst (λ (z : Answer). IsAsked (asked_in (Some z)) q) r i)
  import_known m path v (wrong x) e r q i =
      settled_known m (w.import_run m (all_meanings w) path) (import_tree w l.is (all_meanings w) m path) (subst IsSettled (sym e) tt) q (subst (λ (z : Answer). IsAsked (asked_in (Some z)) q) r i)
  import_known m path v (spoiled x p) e r q i =
      settled_known m (w.import_run m (all_meanings w) path) (import_tree w l.is (all_meanings w) m path) (subst IsSettled (sym e) tt) q
      (subst (λ (z : List Question). IsAsked z q) (spoiled_asked (s.filed (Import m x)) x p (w.import_run m (all_meanings w) path (shown s.filed m))) (subst (λ (z : Answer). IsAsked (asked_in (Some z)) q) r i))
  import_known m path v (needs (content_of x) p) e r q i = absurd r
  import_known m path v (needs (import_of x) p) e r q i = closed_known m path x p e r.1 q (subst (λ (z : Answer). IsAsked (asked_in (Some z)) q) r.0 i)

  -- the answer that is filed now
  asks_known : (k on : Key) (v : Answer) → IsRight w (all_meanings w) s k v → Asks (put s.filed k (Some v)) k on → IsKnown s on
  asks_known (Read path) on v r h = absurd h
  asks_known (Import m path) on v r h =
      subst (IsKnown s) (sym h.1)
      (import_known m path v (w.import_run m (all_meanings w) path (shown s.filed m)).end refl r h.0 (subst (λ (z : Option Answer). IsAsked (asked_in z) h.0) (put_own s.filed (Import m path) v) h.2))
  asks_known (Unit_of k) on v r h =
      subst (IsKnown s) (sym h.1)
      (settled_known (layer_of k) (w.unit_run k (all_meanings w)) (l.is.trees (all_meanings w) k) r.0 h.0
      (subst (λ (z : Answer). IsAsked (asked_in (Some z)) h.0) r.1 (subst (λ (z : Option Answer). IsAsked (asked_in z) h.0) (put_own s.filed (Unit_of k) v) h.2)))
  asks_known (Resolve m) on v r h = absurd h

  asks_same : (a b : Filed) (k on : Key) → a k ≡ b k → Asks a k on → Asks b k on
  asks_same a b (Read path) on e h = h
  asks_same a b (Import m path) on e h = (h.0, h.1, subst (λ (z : Option Answer). IsAsked (asked_in z) h.0) e h.2)
  asks_same a b (Unit_of k) on e h = (h.0, h.1, subst (λ (z : Option Answer). IsAsked (asked_in z) h.0) e h.2)
  asks_same a b (Resolve m) on e h = h

  -- what is asked over what is filed is asked by the meaning
  meaning_asked : (run : Run (Leaving ImportState)) → asked_in (Some (import_answer run)) ≡ run.asked
  meaning_asked run = go run.end
    where
      go : (end : End (Leaving ImportState)) → asked_in (Some (import_as end run.asked)) ≡ run.asked
      go (ended x) = refl
      go (wrong x) = refl
      go (spoiled path place) = refl
      go (needs (content_of path) place) = refl
      go (needs (import_of path) place) = refl

  asks_above : (k on : Key) → AsksAt w (all_meanings w) s.filed k on → Asks (all_meanings w) k on
  unfolding last_run
  asks_above (Read path) on h = h
  asks_above (Import m path) on h =
      let more = tree_asks_more (w.import_run m (all_meanings w) path) (import_tree w l.is (all_meanings w) m path) (shown s.filed m) (final (project w (all_meanings w) m)) h.0 (shown_below w l.is (all_meanings w) s.filed inv.right m) h.2 in
      let last : w.import_run m (all_meanings w) path (final (project w (all_meanings w) m)) ≡ spoiled_at_need (last_run w (all_meanings w) m path) = final_run (project w (all_meanings w) m) (w.import_run m (all_meanings w) path) (import_tree w l.is (all_meanings w) m path) in
      let asked : IsAsked (last_run w (all_meanings w) m path).asked h.0 = subst (λ (r : Run (Leaving ImportState)). IsAsked r.asked h.0) last more in
      (h.0, h.1, subst (λ (v : Answer). IsAsked (asked_in (Some v)) h.0) (sym (true_fixed w l (Import m path))) (subst (λ (z : List Question). IsAsked z h.0) (sym (meaning_asked (last_run w (all_meanings w) m path))) asked))
  asks_above (Unit_of k) on h =
      let more = tree_asks_more (w.unit_run k (all_meanings w)) (l.is.trees (all_meanings w) k) (shown s.filed (layer_of k)) (final (project w (all_meanings w) (layer_of k))) h.0 (shown_below w l.is (all_meanings w) s.filed inv.right (layer_of k)) h.2 in
      (h.0, h.1, subst (λ (v : Answer). IsAsked (asked_in (Some v)) h.0) (sym (true_fixed w l (Unit_of k))) more)
  asks_above (Resolve m) on h = h

  need_above : (k on : Key) (p : Place) → Wanted w k → NeedsAt w (all_meanings w) s.filed k on p → Wanted w on
  need_above (Read path) on p wk h = absurd h
  need_above (Import m path) on p wk h =
      let x = asks_above (Import m path) on (needs_asks w l.is (all_meanings w) s.filed (Import m path) on p h) in
      subst (Wanted w) (sym x.1) (import_wanted m path x.0 (by_import m path x.0 wk x.2))
  need_above (Unit_of k) on p wk h =
      let x = asks_above (Unit_of k) on (needs_asks w l.is (all_meanings w) s.filed (Unit_of k) on p h) in
      subst (Wanted w) (sym x.1) (import_wanted (layer_of k) [] x.0 (by_unit k x.0 wk x.2))
  need_above (Resolve m) on p wk h = absurd h

  -- Events

  scope_claim : (seat : ℕ) (k : Key) → IsReady w s k → Scope w first (happens s (Claim seat k))
  scope_claim seat k ready = record {
    claimed = λ q m h. claimed_by q m (put_some s.claims k seat q m h);
    filed = sc.filed;
    stays = sc.stays;
    blocked = λ q b h. known_stays s (Claim seat k) b.on (sc.blocked q b h);
    asked = λ q on f h. known_stays s (Claim seat k) on (sc.asked q on f h);
  }
    where
      claimed_by : (q : Key) (m : ℕ) → ((k ≡ q) × (seat ≡ m)) ⊎ (s.claims q ≡ Some m) → Wanted w q
      claimed_by q m (inl e) = subst (Wanted w) e.0 (reached_wanted k ready.0)
      claimed_by q m (inr h) = sc.claimed q m h

  scope_block : (seat : ℕ) (k on : Key) (p : Place) (c : Bool) → s.claims k ≡ Some seat → NeedsAt w (all_meanings w) s.filed k on p → Scope w first (happens s (Block seat k on p c))
  scope_block seat k on p c claimed h = record {
    claimed = λ q m h. claimed_by q m (put_some s.claims on (unwrap_or (s.claims on) seat) q m h);
    filed = sc.filed;
    stays = sc.stays;
    blocked = λ q b h. blocked_by q b (put_some s.blocks k new q b h);
    asked = λ q r f h. known_stays s (Block seat k on p c) r (sc.asked q r f h);
  }
    where
      new : Blocked
      new = record { on = on; place = p; closes = c }

      claimed_by : (q : Key) (m : ℕ) → ((on ≡ q) × (unwrap_or (s.claims on) seat ≡ m)) ⊎ (s.claims q ≡ Some m) → Wanted w q
      claimed_by q m (inl e) = subst (Wanted w) e.0 (need_above k on p (sc.claimed k seat claimed) h)
      claimed_by q m (inr h) = sc.claimed q m h

      blocked_by : (q : Key) (b : Blocked) → ((k ≡ q) × (new ≡ b)) ⊎ (s.blocks q ≡ Some b) → IsKnown (happens s (Block seat k on p c)) b.on
      blocked_by q b (inl e) =
          subst (λ (z : Blocked). IsKnown (happens s (Block seat k on p c)) z.on) e.1 (inr (unwrap_or (s.claims on) seat, put_own s.claims on (unwrap_or (s.claims on) seat)))
      blocked_by q b (inr h) = known_stays s (Block seat k on p c) b.on (sc.blocked q b h)

  scope_file : (seat : ℕ) (k : Key) (v : Answer) → s.claims k ≡ Some seat → IsRight w (all_meanings w) s k v → Scope w first (happens s (File seat k v))
  scope_file seat k v claimed r = record {
    claimed = λ q m h. sc.claimed q m (put_none s.claims k q m h);
    filed = λ q u h. filed_by q u (put_some s.filed k v q u h);
    stays = λ q h. let x = sc.stays q h in put_has s.filed k v q x.0 x.1;
    blocked = λ q b h. known_stays s (File seat k v) b.on (sc.blocked q b (put_none s.blocks k q b h));
    asked = λ q on f h. known_stays s (File seat k v) on (asked_of q on f h);
  }
    where
      filed_by : (q : Key) (u : Answer) → ((k ≡ q) × (v ≡ u)) ⊎ (s.filed q ≡ Some u) → Wanted w q ⊎ IsFiled first.filed q
      filed_by q u (inl e) = inl (subst (Wanted w) e.0 (sc.claimed k seat claimed))
      filed_by q u (inr h) = sc.filed q u h

      asked_of : (q on : Key) → IsFiled (put s.filed k (Some v)) q → Asks (put s.filed k (Some v)) q on → IsKnown s on
      asked_of q on f h = by (put_some s.filed k v q f.0 f.1)
        where
          by : ((k ≡ q) × (v ≡ f.0)) ⊎ (s.filed q ≡ Some f.0) → IsKnown s on
          by (inl e) = asks_known k on v r (subst (λ z. Asks (put s.filed k (Some v)) z on) (sym e.0) h)
          by (inr e) = sc.asked q on (f.0, e) (asks_same (put s.filed k (Some v)) s.filed q on (f.1 ∙ sym e) h)

  pub scope_event : (known : List ℕ → Bool) (e : Event) → AllowedOver w (all_meanings w) known s e → Scope w first (happens s e)
  scope_event known (Claim seat k) ok = scope_claim seat k ok.0
  scope_event known (Block seat k on p c) ok = scope_block seat k on p c ok.0 ok.2
  scope_event known (File seat k v) ok = scope_file seat k v ok.0 ok.1
  scope_event known (Stop seat c) ok = record { claimed = sc.claimed; filed = sc.filed; stays = sc.stays; blocked = sc.blocked; asked = sc.asked }

  -- Where all is loaded

  module _ (loaded : HasLoaded w s) where
    pub known_filed : (k : Key) → IsKnown s k → IsFiled s.filed k
    known_filed k (inl h) = h
    known_filed k (inr c) = let none : s.claims k ≡ None = loaded.1 k in let some : s.claims k ≡ Some c.0 = c.1 in absurd (cc)

    unit_filed : (k : Unit_key) → Holds w.home (units s.filed) (Is_reached k) → IsFiled s.filed (Unit_of k)
    unit_filed k h = go (s.filed (Unit_of k)) refl
      where
        go : (x : Option Answer) → s.filed (Unit_of k) ≡ x → IsFiled s.filed (Unit_of k)
        go None e = absurd (loaded.0 k (h, loaded.1 (Unit_of k), e, loaded.2))
        go (Some v) e = (v, e)

    units_same : (k : Unit_key) → Holds w.home (units s.filed) (Is_reached k) → units s.filed k ≡ units (all_meanings w) k
    units_same k h = let f = unit_filed k h in ap unit_in (f.1 ∙ sym (above (Unit_of k) f.0 f.1))

    pub back : (f : Fact) → Holds w.home (units (all_meanings w)) f → Holds w.home (units s.filed) f
    back f h = holds_back w.home (units s.filed) (units (all_meanings w)) units_same f h

    loaded_below : (dir toolchain : List ℕ) (d : Done) → IsLoaded w (units (all_meanings w)) dir toolchain d → IsLoaded w (units s.filed) dir toolchain d
    loaded_below dir toolchain d h = let b = back (Is_reached (Load dir toolchain)) h.0 in (b, units_same (Load dir toolchain) b ∙ h.1)

    done_below : (m : Label) (d : Done) → IsDone w (units (all_meanings w)) m d → IsDone w (units s.filed) m d
    done_below m d h = loaded_below m.dir m.toolchain d h

    tools_below : (m : Label) → HasTools w (units (all_meanings w)) m → HasTools w (units s.filed) m
    tools_below m (d, v, x, y, f) = (
      d,
      v,
      units_same (Setup []) (first_held w.home (units s.filed)) ∙ x,
      loaded_below (w.home m.toolchain) d.default v y,
      λ t i e p j. let z = f t i e p j in (z.0, done_below p z.0 z.1),
    )

    pub reached_filed_unit : (u : Unit_key) → Holds w.home (units (all_meanings w)) (Is_reached u) → IsFiled s.filed (Unit_of u)
    reached_filed_unit u h = unit_filed u (back (Is_reached u) h)

    pub needed_filed : (k : Key) → IsNeeded w (all_meanings w) k → IsFiled s.filed k
    needed_filed k (by_unit u q h i) =
        let f = unit_filed u (back (Is_reached u) h) in
        known_filed (key_of (layer_of u) q) (sc.asked (Unit_of u) (key_of (layer_of u) q) f (q, refl, subst (λ (z : Option Answer). IsAsked (asked_in z) q) (above (Unit_of u) f.0 f.1 ∙ sym f.1) i))
    needed_filed k (by_import m path q h i) =
        let f = needed_filed (Import m path) h in
        known_filed (key_of m q) (sc.asked (Import m path) (key_of m q) f (q, refl, subst (λ (z : Option Answer). IsAsked (asked_in z) q) (above (Import m path) f.0 f.1 ∙ sym f.1) i))

  -- Over a quiet state

  module _ (quiet : IsQuiet w s) where
    loaded_there : HasLoaded w s
    loaded_there = (λ u h. quiet.0 (Unit_of u) h, quiet.1, quiet.2)

    reached_filed : (k : Key) → IsReachedKey w s.filed k → IsFiled s.filed k
    reached_filed k h = go (s.filed k) refl
      where
        go : (x : Option Answer) → s.filed k ≡ x → IsFiled s.filed k
        go None e = absurd (quiet.0 k (h, quiet.1 k, e, quiet.2))
        go (Some v) e = (v, e)

    resolvable_filed : (m : Label) → Resolvable w (units (all_meanings w)) m → IsFiled s.filed (Resolve m)
    resolvable_filed m (resolvable m' g done defined ih) =
        reached_filed (Resolve m) (
          back loaded_there (Is_generated m) g,
          ((λ t d n i. let x = done.0 t (defines_above m t d) n i in (x.0, done_below loaded_there n x.0 x.1)), tools_below loaded_there m done.1),
          λ t d n i. let x = defined t (defines_above m t d) n i in ((x.0, (x.1.0, done_below loaded_there n x.1.0 x.1.1, x.1.2, x.1.3)), resolvable_filed n (ih t (defines_above m t d) n i)),
        )

    pub wanted_filed : (k : Key) → Wanted w k → IsFiled s.filed k
    wanted_filed (Read path) h = needed_filed loaded_there (Read path) h
    wanted_filed (Import m path) h = needed_filed loaded_there (Import m path) h
    wanted_filed (Unit_of k) h = reached_filed_unit loaded_there k h
    wanted_filed (Resolve m) h = resolvable_filed m h

-- Whole runs

module _ (w : World) (l : IsLayered w) (known : List ℕ → Bool) (first : State) (op : IsOpening w known first) where
  -- what is kept
  pub record Both (s : State) : Type 0 where
    pub inv : Inv w (all_meanings w) s
    pub bases : AllBased w s
    pub scope : Scope w first s

  pub both_step : (s : State) → Both s → (e : Event) → Allowed w known s e → IsOverEvent w e → Both (happens s e)
  both_step s b e ok over =
      let low = lowered w l s b.inv b.bases known e ok in
      record {
        inv = event_kept w l.is (all_meanings w) s b.inv known e low over;
        bases = based_kept w l s b.inv b.bases known e ok;
        scope = scope_event w l first s b.inv b.bases b.scope op.records op.units known e low;
      }

  both_run : (s : State) (es : List Event) → Both s → Runs w known s es → IsOver w es → Both (replay s es)
  both_run s [] b ok over = b
  both_run s (e ∷ es) b ok over = both_run (happens s e) es (both_step s b e ok.0 over.0) ok.1 over.1

  opening_asks : (k on : Key) → IsFiled first.filed k → Asks first.filed k on → IsKnown first on
  opening_asks (Read path) on f h = absurd h
  opening_asks (Import m path) on f h = let none : first.filed (Import m path) ≡ None = op.imports m path in let some : first.filed (Import m path) ≡ Some f.0 = f.1 in absurd (cc)
  opening_asks (Unit_of k) on f h = let none : first.filed (Unit_of k) ≡ None = op.units k in let some : first.filed (Unit_of k) ≡ Some f.0 = f.1 in absurd (cc)
  opening_asks (Resolve m) on f h = absurd h

  pub opening_both : Both first
  opening_both = record {
    inv = opening_inv w (all_meanings w) known first op;
    bases = opening_based w known first op;
    scope = record {
      claimed = λ k m h. let none : first.claims k ≡ None = op.claims k in absurd (cc);
      filed = λ k v h. inr (v, h);
      stays = λ k h. h;
      blocked = λ k b h. let none : first.blocks k ≡ None = op.blocks k in absurd (cc);
      asked = opening_asks;
    };
  }

  pub run_both : (es : List Event) → Runs w known first es → IsOver w es → Both (replay first es)
  run_both es ok over = both_run first es opening_both ok over

pub claimed_are_wanted : ClaimedAreWanted
claimed_are_wanted w known s es is k seat h = (run_both w is.layered known s is.opening es is.runs is.over).scope.claimed k seat h

pub quiet_is_whole : QuietIsWhole
quiet_is_whole w known s es is quiet k = (λ h. b.scope.filed k h.0 h.1, go)
  where
    b : Both w is.layered known s is.opening (replay s es)
    b = run_both w is.layered known s is.opening es is.runs is.over

    go : Wanted w k ⊎ IsFiled s.filed k → IsFiled (replay s es).filed k
    go (inl h) = wanted_filed w is.layered s (replay s es) b.inv b.bases b.scope is.opening.records is.opening.units quiet k h
    go (inr h) = b.scope.stays k h

pub quiet_agree : QuietAgree
quiet_agree w known s es fs is_e is_f quiet_e quiet_f k = go ((replay s es).filed k) refl ((replay s fs).filed k) refl
  where
    one : IsFiled (replay s es).filed k ↔ (Wanted w k ⊎ IsFiled s.filed k)
    one = quiet_is_whole w known s es is_e quiet_e k

    two : IsFiled (replay s fs).filed k ↔ (Wanted w k ⊎ IsFiled s.filed k)
    two = quiet_is_whole w known s fs is_f quiet_f k

    go : (x : Option Answer) → (replay s es).filed k ≡ x → (y : Option Answer) → (replay s fs).filed k ≡ y → x ≡ y
    go None e None f = refl
    go None e (Some v) f = let other = one.1 (two.0 (v, f)) in let h : (replay s es).filed k ≡ Some other.0 = other.1 in cc
    go (Some v) e None f = let other = two.1 (one.0 (v, e)) in let h : (replay s fs).filed k ≡ Some other.0 = other.1 in cc
    go (Some v) e (Some u) f = ap Some (filed_are_meanings w known s es is_e k v e ∙ sym (filed_are_meanings w known s fs is_f k u f))
