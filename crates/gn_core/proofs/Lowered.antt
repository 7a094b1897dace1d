-- The meanings of all keys are those over one base, and a run is a run over that base.
use Rattle.std.proofs.Common.{◌≡◌, ℕ, zero, suc, ◌≤◌, ◌<◌, List, [], ◌∷◌, Some, None, refl, sym, ◌∙◌, ap, subst, ◌⊎◌, inl, inr, Bool, true, false, cond, unwrap_or, arith}
use mathlib.Core.Path.{fun_ext}
use Rattle.gn_paths.specs.declared.place.Place.{Place}
use Rattle.gn_definitions.specs.Imported.{ImportState}
use Rattle.gn_runs.specs.Runs.{Answers, needs, Run}
use Rattle.gn_runs.specs.Laws.{IsSettled}
use Rattle.gn_imports.specs.Rounds.{Project, knowing, values, final}
use Rattle.gn_labels.specs.declared.label.Label.{Label}
use Rattle.gn_core.specs.Keys.{Layer, Key, Read, Import, Unit_of, Resolve, Answer, found, unit_is, record_is, Filed, layer_of, shown, put, Leaving, UnitLeft, seen}
use Rattle.gn_core.specs.Worlds.{World, project, last_run, import_answer, meaning, below, true_meaning, all_meanings}
use Rattle.gn_core.specs.Machine.{State, Event, Claim, Block, File, Stop, happens, replay, NeedsAt, IsRightImport, IsRight, IsFiled, AllowedOver, Allowed, Runs, IsOver, IsOpening}
use Rattle.gn_core.specs.Layered.{IsPart, IsBased, IsLayered}
use Rattle.gn_core.proofs.Based.{based_grows, reached_based, layer_based, import_layer, unit_layer}
use Rattle.gn_core.specs.Statements.{FiledAreMeanings}
use Rattle.gn_core.proofs.Puts.{put_some, put_none, put_grows}
use Rattle.gn_core.proofs.Kept.{Inv, event_kept}

-- two bases that have the meanings of all keys below a stage
module _ (w : World) (l : IsLayered w) (b c : Filed) (s : ℕ) (left : (q : Key) → w.stage q < s → b q ≡ Some (true_meaning w q)) (right : (q : Key) → w.stage q < s → c q ≡ Some (true_meaning w q)) where
  layer_same : (m : Layer) → ((path : List ℕ) → w.stage (Import m path) ≤ s) → project w b m ≡ project w c m
  layer_same m low =
      ap (λ (f : List ℕ → Answers → Run (Leaving ImportState)). record { content = w.content; paths = w.paths; execute = λ path answers. seen (f path answers) })
      (fun_ext (λ path. l.imports_see m path b c (λ q h. left q (omega (arith, h, low path))) (λ q h. right q (omega (arith, h, low path)))))

  meaning_same : (k : Key) → w.stage k ≤ s → meaning w b k ≡ meaning w c k
  unfolding last_run
  meaning_same (Read path) low = refl
  meaning_same (Import m path) low =
      let same_project : project w b m ≡ project w c m = layer_same m (λ q. omega (arith, l.one_stage m q path, low)) in
      ap import_answer (λ i. l.imports_see m path b c (λ q h. left q (omega (arith, h, low))) (λ q h. right q (omega (arith, h, low))) i (knowing (same_project i) (values (same_project i))))
  meaning_same (Unit_of k) low =
      ap (λ (p : Project). unit_is (w.unit_run k b (final p))) (layer_same (layer_of k) (λ q. omega (arith, l.asks_low k q, low)))
      ∙ ap (λ (f : Answers → Run (Leaving UnitLeft)). unit_is (f (final (project w c (layer_of k))))) (l.units_see k b c (λ q h. left q (omega (arith, h, low))) (λ q h. right q (omega (arith, h, low))))
  meaning_same (Resolve m) low = ap record_is (l.records_see m b c (λ q h. left q (omega (arith, h, low))) (λ q h. right q (omega (arith, h, low))))

-- the meanings below a number have those of all keys of lower stages
below_within : (w : World) → IsLayered w → (n m : ℕ) → m ≤ n → (q : Key) → w.stage q < m → below w m q ≡ Some (true_meaning w q)
below_within w l zero m le q h = absurd (omega (arith, le, h))
below_within w l (suc n) zero le q h = absurd (omega (arith, h))
below_within w l (suc n) (suc m) le q h =
    ap Some (meaning_same w l (below w m) (below w (w.stage q)) (w.stage q)
    (λ z low. below_within w l n m (omega (arith, le)) z (omega (arith, low, h)))
    (λ z low. below_within w l n (w.stage q) (omega (arith, le, h)) z low) q (omega arith))

pub below_true : (w : World) → IsLayered w → (n : ℕ) (q : Key) → w.stage q < n → below w n q ≡ Some (true_meaning w q)
below_true w l n q h = below_within w l n n (omega arith) q h

pub true_fixed : (w : World) → IsLayered w → (k : Key) → true_meaning w k ≡ meaning w (all_meanings w) k
true_fixed w l k =
    meaning_same w l (below w (w.stage k)) (all_meanings w) (w.stage k) (λ z low. below_true w l (w.stage k) z low) (λ z low. refl) k (omega arith)

-- what is claimed or filed has its base
pub record AllBased (w : World) (s : State) : Type 0 where
  pub claimed : (k : Key) (seat : ℕ) → s.claims k ≡ Some seat → IsBased w s.filed k
  pub labels : (m : Label) → IsFiled s.filed (Resolve m) → IsBased w s.filed (Resolve m)

module _ (w : World) (l : IsLayered w) (s : State) (inv : Inv w (all_meanings w) s) (bases : AllBased w s) where
  under : IsPart s.filed (all_meanings w)
  under k v h = ap Some (true_fixed w l k ∙ sym (inv.right k v h))

  needs_lowered : (k on : Key) (p : Place) (seat : ℕ) → s.claims k ≡ Some seat → NeedsAt w s.filed s.filed k on p → NeedsAt w (all_meanings w) s.filed k on p
  needs_lowered (Read path) on p seat claimed h = h
  needs_lowered (Import m path) on p seat claimed h =
      (h.0, h.1, subst (λ (f : Answers → Run (Leaving ImportState)). (f (shown s.filed m)).end ≡ needs h.0 p) (sym (l.imports_based m path s.filed (all_meanings w) (import_layer w s.filed m path (bases.claimed (Import m path) seat claimed)) under)) h.2)
  needs_lowered (Unit_of k) on p seat claimed h =
      (h.0, h.1, subst (λ (f : Answers → Run (Leaving UnitLeft)). (f (shown s.filed (layer_of k))).end ≡ needs h.0 p) (sym (l.units_based k s.filed (all_meanings w) (unit_layer w s.filed k (bases.claimed (Unit_of k) seat claimed)) under)) h.2)
  needs_lowered (Resolve m) on p seat claimed h = h

  right_lowered : (k : Key) (seat : ℕ) (v : Answer) → s.claims k ≡ Some seat → IsRight w s.filed s k v → IsRight w (all_meanings w) s k v
  right_lowered (Read path) seat v claimed r = r
  right_lowered (Import m path) seat v claimed r =
      subst (λ (f : Answers → Run (Leaving ImportState)). IsRightImport s m path (f (shown s.filed m)) (f (shown s.filed m)).end v) (sym (l.imports_based m path s.filed (all_meanings w) (import_layer w s.filed m path (bases.claimed (Import m path) seat claimed)) under)) r
  right_lowered (Unit_of k) seat v claimed r =
      subst (λ (f : Answers → Run (Leaving UnitLeft)). IsSettled (f (shown s.filed (layer_of k))).end × (v ≡ unit_is (f (shown s.filed (layer_of k))))) (sym (l.units_based k s.filed (all_meanings w) (unit_layer w s.filed k (bases.claimed (Unit_of k) seat claimed)) under)) r
  right_lowered (Resolve m) seat v claimed r = r ∙ ap record_is (sym (l.records_based m s.filed (all_meanings w) (bases.claimed (Resolve m) seat claimed) under))

  pub lowered : (known : List ℕ → Bool) (e : Event) → Allowed w known s e → AllowedOver w (all_meanings w) known s e
  lowered known (Claim seat k) ok = ok
  lowered known (Block seat k on p closes) ok = (ok.0, ok.1, needs_lowered k on p seat ok.0 ok.2, ok.3)
  lowered known (File seat k v) ok = (ok.0, right_lowered k seat v ok.0 ok.1)
  lowered known (Stop seat c) ok = ok

  asked_based : (k on : Key) (p : Place) → IsBased w s.filed k → NeedsAt w s.filed s.filed k on p → IsBased w s.filed on
  asked_based (Read path) on p e h = absurd h
  asked_based (Import m path) on p e h = subst (IsBased w s.filed) (sym h.1) (layer_based w s.filed m h.0 (import_layer w s.filed m path e))
  asked_based (Unit_of k) on p e h = subst (IsBased w s.filed) (sym h.1) (layer_based w s.filed (layer_of k) h.0 (unit_layer w s.filed k e))
  asked_based (Resolve m) on p e h = absurd h

  pub based_kept : (known : List ℕ → Bool) (e : Event) → Allowed w known s e → AllBased w (happens s e)
  based_kept known (Claim seat k) ok = record { claimed = λ q m h. go q m (put_some s.claims k seat q m h); labels = bases.labels }
    where
      go : (q : Key) (m : ℕ) → ((k ≡ q) × (seat ≡ m)) ⊎ (s.claims q ≡ Some m) → IsBased w s.filed q
      go q m (inl e) = subst (IsBased w s.filed) e.0 (reached_based w s.filed bases.labels k ok.0.0)
      go q m (inr c) = bases.claimed q m c
  based_kept known (Block seat k on p closes) ok = record { claimed = λ q m h. go q m (put_some s.claims on (unwrap_or (s.claims on) seat) q m h); labels = bases.labels }
    where
      go : (q : Key) (m : ℕ) → ((on ≡ q) × (unwrap_or (s.claims on) seat ≡ m)) ⊎ (s.claims q ≡ Some m) → IsBased w s.filed q
      go q m (inl e) = subst (IsBased w s.filed) e.0 (asked_based k on p (bases.claimed k seat ok.0) ok.2)
      go q m (inr c) = bases.claimed q m c
  based_kept known (File seat k v) ok = record {
    claimed = λ q m h. based_grows w s.filed (put s.filed k (Some v)) more q (bases.claimed q m (put_none s.claims k q m h));
    labels = λ m h. based_grows w s.filed (put s.filed k (Some v)) more (Resolve m) (go m h.0 (put_some s.filed k v (Resolve m) h.0 h.1));
  }
    where
      more : IsPart s.filed (put s.filed k (Some v))
      more = put_grows s.filed k v (inv.unfiled k seat ok.0)

      go : (m : Label) (u : Answer) → ((k ≡ Resolve m) × (v ≡ u)) ⊎ (s.filed (Resolve m) ≡ Some u) → IsBased w s.filed (Resolve m)
      go m u (inl e) = subst (IsBased w s.filed) e.0 (bases.claimed k seat ok.0)
      go m u (inr h) = bases.labels m (u, h)
  based_kept known (Stop seat c) ok = record { claimed = bases.claimed; labels = bases.labels }

pub run_inv : (w : World) → IsLayered w → (known : List ℕ → Bool) (s : State) (es : List Event) → Inv w (all_meanings w) s → AllBased w s → Runs w known s es → IsOver w es → Inv w (all_meanings w) (replay s es)
run_inv w l known s [] inv bases ok over = inv
run_inv w l known s (e ∷ es) inv bases ok over =
    run_inv w l known (happens s e) es (event_kept w l.is (all_meanings w) s inv known e (lowered w l s inv bases known e ok.0) over.0) (based_kept w l s inv bases known e ok.0) ok.1 over.1

opening_right : (w : World) (base : Filed) (known : List ℕ → Bool) (s : State) → IsOpening w known s → (k : Key) (v : Answer) → s.filed k ≡ Some v → v ≡ meaning w base k
opening_right w base known s op (Read path) v h = go (known path) (sym (op.reads path) ∙ h)
  where
    go : (b : Bool) → cond b (Some (found (w.content path))) None ≡ Some v → v ≡ found (w.content path)
    go true e = cc
    go false e = cc
opening_right w base known s op (Import m path) v h = let none : s.filed (Import m path) ≡ None = op.imports m path in cc
opening_right w base known s op (Unit_of k) v h = let none : s.filed (Unit_of k) ≡ None = op.units k in cc
opening_right w base known s op (Resolve m) v h = let none : s.filed (Resolve m) ≡ None = op.records m in cc

pub opening_inv : (w : World) (base : Filed) (known : List ℕ → Bool) (s : State) → IsOpening w known s → Inv w base s
opening_inv w base known s op = record {
  right = opening_right w base known s op;
  unfiled = λ k seat h. let none : s.claims k ≡ None = op.claims k in absurd (cc);
  held = λ k b h. let none : s.blocks k ≡ None = op.blocks k in absurd (cc);
  asks = λ k b h. let none : s.blocks k ≡ None = op.blocks k in absurd (cc);
  hopeless = λ k b h c. let none : s.blocks k ≡ None = op.blocks k in absurd (cc);
}

pub opening_based : (w : World) (known : List ℕ → Bool) (s : State) → IsOpening w known s → AllBased w s
opening_based w known s op = record {
  claimed = λ k seat h. let none : s.claims k ≡ None = op.claims k in absurd (cc);
  labels = λ m h. let none : s.filed (Resolve m) ≡ None = op.records m in let some : s.filed (Resolve m) ≡ Some h.0 = h.1 in absurd (cc);
}

pub filed_are_meanings : FiledAreMeanings
filed_are_meanings w known s es is k v h =
    (run_inv w is.layered known s es (opening_inv w (all_meanings w) known s is.opening) (opening_based w known s is.opening) is.runs is.over).right k v h ∙ sym (true_fixed w is.layered k)
