-- A log is over the files that it has read: no path is read twice.
use Rattle.std.proofs.Common.{◌≡◌, ℕ, List, [], ◌∷◌, Some, None, Bool, false, cond, unwrap_or, if◌then◌else◌, refl, sym, ◌∙◌, ap, subst}
use Rattle.gn_paths.specs.declared.place.Place.{Place}
use Rattle.gn_runs.specs.Runs.{Question, content_of, import_of, Content, is_absent, needs}
use Rattle.gn_runs.proofs.TreeLaws.{tree_needs_unknown}
use Rattle.gn_core.specs.Keys.{Key, Read, Import, Unit_of, Resolve, found, Filed, key_of, layer_of, content_in, shown, put}
use Rattle.gn_core.specs.Machine.{State, Event, Claim, Block, File, Stop, happens, replay, NeedsAt, Allowed, Runs, IsOver, IsOverEvent}
use Rattle.gn_core.proofs.Puts.{key_own, put_own}
use Rattle.gn_book.specs.Logs.{opening, state_of}
use Rattle.gn_projects.specs.Bases.{base_of_layer}
use Rattle.gn_projects.specs.Files.{Files, content_at, import_of_layer}
use Rattle.gn_projects.specs.Worlds.{world_of}
use Rattle.gn_projects.proofs.Files.{import_tree, path_any}
use Rattle.gn_projects.proofs.Layered.{unit_tree}
use Rattle.gn_builds.specs.Working.{unit_of_key}
use Rattle.gn_builds.specs.Driving.{paths_read}
use Rattle.gn_builds.specs.Own.{content_found, read_by, FilesWereRead}
use Rattle.gn_builds.proofs.Stacks.{put_else}
use Rattle.gn_builds.proofs.ReadPaths.{in_read}

-- a file that was read is needed no more
unread : (filed : Filed) (path other : List ℕ) (c : Content) → Read path ≡ Read other → content_in (filed (Read other)) ≡ None → filed (Read path) ≡ Some (found c) → ⊥
unread filed path other c same none h =
    let shows : content_in (filed (Read other)) ≡ Some c = ap (λ (k : Key). content_in (filed k)) (sym same) ∙ ap content_in h in
    absurd (cc (sym shows ∙ none))

needs_unread : (files : Files) (filed : Filed) (k : Key) (path : List ℕ) (c : Content) (place : Place) → NeedsAt (world_of files) filed filed k (Read path) place → filed (Read path) ≡ Some (found c) → ⊥
needs_unread files filed (Read other) path c place need h = need
needs_unread files filed (Import l other) path c place need h = by need.0 need.1 need.2
  where
    by : (q : Question) → Read path ≡ key_of l q → (import_of_layer (base_of_layer files.start filed l) l other (shown filed l)).end ≡ needs q place → ⊥
    by (content_of r) e n = unread filed path r c e (tree_needs_unknown (λ answers. import_of_layer (base_of_layer files.start filed l) l other answers) (import_tree (base_of_layer files.start filed l) l other) (shown filed l) (content_of r) place n).0 h
    by (import_of r) e n = absurd (cc e)
needs_unread files filed (Unit_of u) path c place need h = by need.0 need.1 need.2
  where
    by : (q : Question) → Read path ≡ key_of (layer_of u) q → (unit_of_key files.start filed u (shown filed (layer_of u))).end ≡ needs q place → ⊥
    by (content_of r) e n = unread filed path r c e (tree_needs_unknown (λ answers. unit_of_key files.start filed u answers) (unit_tree (base_of_layer files.start filed (layer_of u)) u) (shown filed (layer_of u)) (content_of r) place n).0 h
    by (import_of r) e n = absurd (cc e)
needs_unread files filed (Resolve label) path c place need h = need

module _ (files : Files) (path : List ℕ) (c : Content) where
  -- it was read, and nobody reads it
  abbrev IsKept : State → Type 0
  IsKept s = (s.filed (Read path) ≡ Some (found c)) × (s.claims (Read path) ≡ None)

  kept : (s : State) (e : Event) → Allowed (world_of files) (λ p. false) s e → IsKept s → IsKept (happens s e)
  kept s (Claim seat q) allowed k =
      (k.0, put_else s.claims q (Some seat) (Read path) (λ e. absurd (cc (sym k.0 ∙ subst (λ (z : Key). s.filed z ≡ None) e allowed.0.2))) ∙ k.1)
  kept s (Block seat q on place closes) allowed k =
      (k.0, put_else s.claims on (Some (unwrap_or (s.claims on) seat)) (Read path) (λ e. needs_unread files s.filed q path c place (subst (λ (z : Key). NeedsAt (world_of files) s.filed s.filed q z place) e allowed.2) k.0) ∙ k.1)
  kept s (File seat q v) allowed k =
      let apart : q ≡ Read path → ⊥ = λ e. absurd (cc (sym (subst (λ (z : Key). s.claims z ≡ Some seat) e allowed.0) ∙ k.1)) in
      (put_else s.filed q (Some v) (Read path) apart ∙ k.0, put_else s.claims q None (Read path) apart ∙ k.1)
  kept s (Stop seat cause) allowed k = k

  stays : (s : State) (es : List Event) → Runs (world_of files) (λ p. false) s es → IsKept s → IsKept (replay s es)
  stays s [] runs k = k
  stays s (e ∷ es) runs k = stays (happens s e) es runs.1 (kept s e runs.0 k)

-- events are over what is filed in the end
module _ (files own : Files) where
  abbrev Agrees : State → Type 0
  Agrees s = (path : List ℕ) (c : Content) → s.filed (Read path) ≡ Some (found c) → content_at own path ≡ c

  own_event : (s : State) (e : Event) (es : List Event) → Allowed (world_of files) (λ p. false) s e → Runs (world_of files) (λ p. false) (happens s e) es → Agrees (replay (happens s e) es) → IsOverEvent (world_of own) e
  own_event s (Claim seat q) es allowed runs agrees = tt
  own_event s (Block seat q on place closes) es allowed runs agrees = tt
  own_event s (File seat (Read path) v) es allowed runs agrees =
      let c : Content = allowed.1.0 in
      let filed : put s.filed (Read path) (Some v) (Read path) ≡ Some (found c) = put_own s.filed (Read path) v ∙ ap Some allowed.1.1 in
      let free : put s.claims (Read path) None (Read path) ≡ None = ap (λ (b : Bool). cond b None (s.claims (Read path))) (key_own (Read path)) in
      allowed.1.1 ∙ ap found (sym (agrees path c (stays files path c (happens s (File 0 (Read path) v)) es runs (filed, free)).0))
  own_event s (File seat (Import layer path) v) es allowed runs agrees = tt
  own_event s (File seat (Unit_of unit) v) es allowed runs agrees = tt
  own_event s (File seat (Resolve label) v) es allowed runs agrees = tt
  own_event s (Stop seat cause) es allowed runs agrees = tt

  own_events : (s : State) (es : List Event) → Runs (world_of files) (λ p. false) s es → Agrees (replay s es) → IsOver (world_of own) es
  own_events s [] runs agrees = tt
  own_events s (e ∷ es) runs agrees = (own_event s e es runs.0 runs.1 agrees, own_events (happens s e) es runs.1 agrees)

pub files_were_read : FilesWereRead
files_were_read start l ks d = own_events (read_by start l) (read_by start l) opening l.events (d.runs (read_by start l) refl) agrees
  where
    agrees : (path : List ℕ) (c : Content) → (state_of l).filed (Read path) ≡ Some (found c) → content_at (read_by start l) path ≡ c
    agrees path c h =
        ap (λ (b : Bool). if b then content_found ((state_of l).filed (Read path)) else is_absent) (path_any (paths_read l.keys) path (in_read l.keys path (d.named.filed (Read path) (found c, h))))
        ∙ ap content_found h
