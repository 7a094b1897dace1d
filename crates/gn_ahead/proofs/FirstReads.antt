-- What the work on a unit needs first is asked for, before the unit is claimed too.
use Rattle.std.proofs.Common.{◌≡◌, inl, inr, ℕ, List, [], ◌∷◌, Option, Some, None, false, refl, sym, ◌∙◌, subst}
use Rattle.gn_paths.specs.declared.place.Place.{Place}
use Rattle.gn_outside.specs.Tree.{Tree}
use Rattle.gn_outside.specs.States.{SourceState}
use Rattle.gn_runs.specs.Runs.{Question}
use Rattle.gn_closure.specs.Closure.{In}
use Rattle.gn_executions.specs.Base.{BaseState}
use Rattle.gn_core.specs.Keys.{Key, Read}
use Rattle.gn_core.specs.Machine.{State, Claim as Claims, Block, IsOver}
use Rattle.gn_book.specs.Keys.{key_of}
use Rattle.gn_book.specs.Logs.{Log, state_of, key_at, with_key, with_event, IsFree}
use Rattle.gn_projects.specs.Files.{files_of}
use Rattle.gn_projects.specs.Worlds.{world_of}
use Rattle.gn_builds.specs.Working.{IsInNeed}
use Rattle.gn_builds.specs.Driving.{IsDriven, keys_of}
use Rattle.gn_builds.proofs.Logs.{after_event}
use Rattle.gn_builds.proofs.Named.{in_at}
use Rattle.gn_builds.proofs.ReadPaths.{over_more}
use Rattle.gn_builds.proofs.Steps.{step_begun, needed_lacks, driven_waits}
use Rattle.gn_ahead.specs.Ahead.{IsAskedRead}
use Rattle.gn_ahead.specs.Laws.{FirstReadIsAsked, NeededReadIsAsked}

-- the log in which the first claim waits for the read
module _ (start : BaseState) (before : SourceState) (l : Log) (k : Key) (ks : List Key) (path : List ℕ) (place : Place) (asked : List Question) (driven : IsDriven start l (k ∷ ks)) (over : (tree : Tree) → before.tree ≡ Some tree → IsOver (world_of (files_of start tree)) l.events) (need : IsInNeed start (state_of l).filed k (Read path) place asked) where
  abbrev reading : Log
  reading = with_event (with_key l (Read path)) (Block 0 k (Read path) place false)

  pub read_is_asked : IsFree (state_of l) (Read path) → IsAskedRead start before path
  read_is_asked free = record {
    log = reading;
    keys = Read path ∷ k ∷ ks;
    driven = waits;
    over = λ tree told. over_more (world_of (files_of start tree)) l.events (Block 0 k (Read path) place false) (over tree told) tt;
    numbered = waits.named.claimed (Read path) (inl refl);
  }
    where
      waits : IsDriven start reading (Read path ∷ k ∷ ks)
      waits = driven_waits start l k (Read path) ks place asked driven need tt free.unfiled free

  -- nothing else is claimed
  pub first_is_asked : ks ≡ [] → IsAskedRead start before path
  first_is_asked alone = read_is_asked (record {
    unclaimed = none ((state_of l).claims (Read path)) refl;
    unfiled = needed_lacks start l.keys (state_of l) (k ∷ ks) driven.named k (Read path) place asked need;
  })
    where
      no_read : (q : Key) → IsInNeed start (state_of l).filed q (Read path) place asked → q ≡ Read path → ⊥
      no_read q needed e = subst (λ (z : Key). IsInNeed start (state_of l).filed z (Read path) place asked) e needed

      none : (x : Option ℕ) → (state_of l).claims (Read path) ≡ x → x ≡ None
      none None e = refl
      none (Some seat) e = elim (driven.stacked.alone (Read path) seat e).1 [
        | inl first ↦ absurd (no_read k need first)
        | inr other ↦ absurd (subst (λ (qs : List Key). In qs (Read path)) alone other)
      ]

pub needed_is_asked : NeededReadIsAsked
needed_is_asked start known before mid now l c cs reads path place asked going same need free =
    read_is_asked start before l (key_of c.key) (keys_of cs) path place asked going.driven (λ tree told. going.source.over tree (same ∙ told)) need free

-- A unit that may be claimed
pub first_read_is_asked : FirstReadIsAsked
first_read_is_asked start known before mid now l n reads path place asked going same numbers ready need =
    first_is_asked start before begun (key_at l n) [] path place asked (step_begun start l n going.driven numbers ready (in_at l.keys n ready.number)).0
    (λ tree told. over_more (world_of (files_of start tree)) l.events (Claims 0 (key_at l n)) (going.source.over tree (same ∙ told)) tt)
    (subst (λ (s : State). IsInNeed start s.filed (key_at l n) (Read path) place asked) (sym (after_event l (Claims 0 (key_at l n)))) need)
    refl
  where
    begun : Log
    begun = with_event l (Claims 0 (key_at l n))
