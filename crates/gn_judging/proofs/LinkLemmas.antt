-- Following the links of imports that can't be used, by what its calls do.
use Rattle.std.proofs.Common.{◌≡◌, ℕ, zero, suc, ◌+◌, ◌<◌, ◌≤◌, List, [], Option, Some, None, Result, Ok, Err, IfOk, refl, sym, ◌∙◌, ap, subst, arith}
use Rattle.std.specs.declared.vec.Vec.{Vec}
use Rattle.std.specs.declared.alloc.Global.{Global}
use Rattle.gn_paths.specs.declared.place.Place.{Place}
use Rattle.gn_items.specs.Effects.{Effects}
use Rattle.gn_items.specs.declared.question.Question.{Question as Asked}
use Rattle.gn_faults.specs.declared.fault.Fault.{Fault}
use Rattle.gn_definitions.specs.Imported.{ImportState}
use Rattle.gn_runs.specs.Runs.{has_value, is_unusable, End, wrong, Run}
use Rattle.gn_imports.specs.Causes.{Link, link_of, earlier, least_among, linked_on, led}
use Rattle.gn_executions.specs.Base.{BaseState}
use Rattle.gn_core.specs.Keys.{Layer, Leaving, seen_end, Import, Answer, import_is, imported_in}
use Rattle.gn_core.specs.Machine.{import_limit}
use Rattle.gn_book.specs.Logs.{Log, state_of}
use Rattle.gn_projects.specs.Files.{Files}
use Rattle.gn_projects.specs.Errors.{link_filed, cycle_under}
use Rattle.gn_projects.specs.Computed.{cause_under}
use Rattle.gn_builds.specs.Own.{read_by, FilesWereRead}
use Rattle.gn_builds.specs.Rest.{IsAtRest, Rests, HasLargeImport}
use Rattle.gn_builds.specs.Causes.{link_at, links_by, IsUnusable, layer_project, LinksAreUnusable, WrongIsCause, RoundIsCause}
use Rattle.gn_builds.proofs.Causes.{led_one}
use Rattle.gn_answers.specs.Answers.{run_of}
use Rattle.gn_judging.specs.Links.{IsLedBy, IsFollowed}
use Rattle.gn_answers.specs.declared.answer.Executed.{Executed}
use Rattle.gn_answers.specs.declared.answer.Executed.TheVariants.{Left, Wrong, Spoiled}
use Rattle.gn_judging.specs.declared.causes.Led.{Led}
use Rattle.gn_judging.specs.declared.causes.Led.TheVariants as to

-- where the execution of an import leads
module _ (executed : Executed ImportState) where
  abbrev run : Run (Leaving ImportState)
  run = run_of (λ (value : ImportState) (effects : Effects). value) executed

  pub led_left : (value : ImportState) (effects : Effects) → executed ≡ Left value effects → (link_filed (Some (import_is run)) ≡ None) × (imported_in (Some (import_is run)) ≡ Some is_unusable → ⊥)
  led_left value effects is = (
    ap (λ (e : Executed ImportState). link_filed (Some (import_is (run_of (λ (v : ImportState) (f : Effects). v) e)))) is,
    λ h.
        let same : Some (has_value value) ≡ Some is_unusable = sym (ap (λ (e : Executed ImportState). imported_in (Some (import_is (run_of (λ (v : ImportState) (f : Effects). v) e)))) is) ∙ h in
        absurd (cc same),
  )

  pub led_wrong : (fault : Fault) (asked : Vec Asked Global) → executed ≡ Wrong fault asked → (r : Run (Leaving ImportState)) × (◌≡◌ {A = Option Answer} (Some (import_is run)) (Some (import_is r))) × (r.end ≡ wrong fault)
  led_wrong fault asked is = (run, refl, ap (λ (e : Executed ImportState). (run_of (λ (v : ImportState) (f : Effects). v) e).end) is)

  pub led_spoiled : (path : List ℕ) (place : Place) (asked : Vec Asked Global) → executed ≡ Spoiled path place asked → link_filed (Some (import_is run)) ≡ Some (record { path = path; place = place })
  led_spoiled path place asked is = ap (λ (e : Executed ImportState). link_filed (Some (import_is (run_of (λ (v : ImportState) (f : Effects). v) e)))) is

-- an import that can't be used leads somewhere
pub leads_somewhere : (layer : Layer) (l : Log) (at : List ℕ) → IsUnusable layer l at → IsLedBy ((state_of l).filed (Import layer at)) to.Nothing → ⊥
leads_somewhere layer l at unusable none = none.1 (ap imported_in unusable.1 ∙ unusable.2)

-- over the files that were read
abbrev own_rest : FilesWereRead → (start : BaseState) (l : Log) → Rests start l → IsAtRest (read_by start l) l
own_rest read start l rests = record { driven = rests.driven; over = read start l [] rests.driven; numbers = rests.numbers; next = rests.next }

-- one link more
module _ (links : LinksAreUnusable) (read : FilesWereRead) (start : BaseState) (layer : Layer) (l : Log) (rests : Rests start l) (path at next : List ℕ) (place : Place) (leads : link_at layer l at ≡ Some (record { path = next; place = place })) where
  pub next_unusable : IsUnusable layer l next
  next_unusable = links (read_by start l) layer l at (record { path = next; place = place }) (own_rest read start l rests) leads

  pub next_led : (n : ℕ) → led (link_at layer l) n path ≡ Some at → led (link_at layer l) (n + 1) path ≡ Some next
  next_led n there =
      let more : suc n ≡ n + 1 = omega arith in
      subst (λ (m : ℕ). led (link_at layer l) m path ≡ Some next) more (led_one (link_at layer l) n path at (record { path = next; place = place }) there leads)

-- where links have led
pub followed : (layer : Layer) (l : Log) (path at : List ℕ) → IsUnusable layer l at → led (link_at layer l) import_limit path ≡ Some at → (d : Led) → IsLedBy ((state_of l).filed (Import layer at)) d → IsFollowed layer l path d
followed layer l path at unusable there (to.Fault fault) is = (import_limit, at, is.0, there, is.1, is.2)
followed layer l path at unusable there (to.Import next place) is = (at, there, is)
followed layer l path at unusable there to.Nothing is = leads_somewhere layer l at unusable is

pub followed_on : {E : Type 0} (layer : Layer) (l : Log) (path at : List ℕ) → IsUnusable layer l at → led (link_at layer l) import_limit path ≡ Some at → (r : Result Led E) → IfOk r (IsLedBy ((state_of l).filed (Import layer at))) → IfOk r (IsFollowed layer l path)
followed_on layer l path at unusable there (Ok d) is = followed layer l path at unusable there d is
followed_on layer l path at unusable there (Err e) is = tt

-- an answer that has a fault has no link
pub fault_no_link : (v : Option Answer) (fault : Fault) → ((run : Run (Leaving ImportState)) × (v ≡ Some (import_is run)) × (run.end ≡ wrong fault)) → link_filed v ≡ None
fault_no_link v fault has = ap link_filed has.1 ∙ ap (λ (e : End (Leaving ImportState)). link_of (seen_end e)) has.2

-- The fault

module _ (files : Files) (layer : Layer) (l : Log) (rest : IsAtRest files l) (shown path : List ℕ) where
  pub fault_is_cause : WrongIsCause → (fault : Fault) → ((n : ℕ) × (q : List ℕ) × (run : Run (Leaving ImportState)) × (led (link_at layer l) n path ≡ Some q) × ((state_of l).filed (Import layer q) ≡ Some (import_is run)) × (run.end ≡ wrong fault))
      → fault ≡ cause_under shown (layer_project files layer) path
  fault_is_cause causes fault h = sym (causes files layer l shown h.0 path h.1 rest h.3 h.2 fault h.4 h.5)

  pub cycle_is_cause : RoundIsCause → (HasLargeImport l → ⊥) → IsUnusable layer l path → (q next : List ℕ) (place : Place) → led (link_at layer l) import_limit path ≡ Some q → link_at layer l q ≡ Some (record { path = next; place = place })
      → cycle_under shown (least_among place (links_by (link_at layer l) import_limit next)) ≡ cause_under shown (layer_project files layer) path
  cycle_is_cause causes small unusable q next place there leads = sym (causes files layer l shown path q (record { path = next; place = place }) rest small unusable there leads)

-- The least place

-- so many links from here
abbrev pub least_from : Layer → Log → Place → ℕ → List ℕ → Place
least_from layer l least n at = least_among least (links_by (link_at layer l) n at)

pub least_next : (layer : Layer) (l : Log) (least place : Place) (n : ℕ) (at next : List ℕ) → link_at layer l at ≡ Some (record { path = next; place = place }) → least_from layer l (earlier least place) n next ≡ least_from layer l least (suc n) at
least_next layer l least place n at next leads = sym (ap (λ (o : Option Link). least_among least (linked_on o (links_by (link_at layer l) n))) leads)

pub least_last : (layer : Layer) (l : Log) (least : Place) (n : ℕ) (at : List ℕ) → link_at layer l at ≡ None → least_from layer l least n at ≡ least
least_last layer l least zero at none = refl
least_last layer l least (suc n) at none = ap (λ (o : Option Link). least_among least (linked_on o (links_by (link_at layer l) n))) none

-- so many steps were taken, and so many calls are left
abbrev pub IsLeftOver : Layer → Log → ℕ → ℕ → Place → List ℕ → Place → List ℕ → Type 0
IsLeftOver layer l step calls least at place path = (n : ℕ) × (step + n ≡ calls) × (least_from layer l least n at ≡ least_from layer l place calls path)

module _ (layer : Layer) (l : Log) (step calls : ℕ) (least place : Place) (at path : List ℕ) where
  pub one_left_less : (next : List ℕ) (call new : Place) → step < calls → link_at layer l at ≡ Some (record { path = next; place = call }) → new ≡ earlier least call → IsLeftOver layer l step calls least at place path → IsLeftOver layer l (step + 1) calls new next place path
  one_left_less next call new less leads same left = by left.0 left.1 left.2
    where
      by : (n : ℕ) → step + n ≡ calls → least_from layer l least n at ≡ least_from layer l place calls path → IsLeftOver layer l (step + 1) calls new next place path
      by zero sum is = absurd (omega (arith, less, sum))
      by (suc n) sum is = (n, omega (arith, sum), ap (λ (p : Place). least_from layer l p n next) same ∙ least_next layer l least call n at next leads ∙ is)

  pub none_linked : link_at layer l at ≡ None → IsLeftOver layer l step calls least at place path → least ≡ least_from layer l place calls path
  none_linked none left = sym (least_last layer l least left.0 at none) ∙ left.2

  pub none_left_over : calls ≤ step → IsLeftOver layer l step calls least at place path → least ≡ least_from layer l place calls path
  none_left_over all left = by left.0 left.1 left.2
    where
      by : (n : ℕ) → step + n ≡ calls → least_from layer l least n at ≡ least_from layer l place calls path → least ≡ least_from layer l place calls path
      by zero sum is = is
      by (suc n) sum is = absurd (omega (arith, all, sum))
