-- Where links lead, and the fault to which they lead.
use Rattle.std.proofs.Common.{◌≡◌, ℕ, suc, zero, ◌+◌, ◌-◌, ◌≤◌, ◌<◌, length, List, ◌∷◌, Option, Some, None, refl, sym, ◌∙◌, ap, subst, ◌⊎◌, inl, inr, arith, false, zero-add, suc-add}
use Rattle.std.proofs.lemmas.Option.{same_Some}
use Rattle.gn_paths.specs.declared.place.Place.{Place}
use Rattle.gn_definitions.specs.Imported.{ImportState}
use Rattle.gn_faults.specs.declared.fault.Fault.{Fault}
use Rattle.gn_runs.specs.Runs.{content_of, import_of, is_absent, is_unusable, End, ended, wrong, spoiled, needs}
use Rattle.gn_runs.proofs.TreeLaws.{tree_spoiled_by_unusable}
use Rattle.gn_imports.specs.Rounds.{Project, knowing, values, final}
use Rattle.gn_imports.specs.Causes.{Link, outcome, link_of, link, is_before, least_among, least_place, linked_on, links_from, cycle_fault, linked_cause, cause_within, cause, led_by, led, LeadsTo, LeadsToCall, IsOnCycle, IsLeastPlace}
use Rattle.gn_imports.specs.Projects.{IsOneOf, IsWrong, IsProject}
use Rattle.gn_imports.specs.Laws.{LeadsOn, LeadsToWrong, LeadsToCycle, LinksEnd, LinksKeepCause}
use Rattle.gn_imports.proofs.Final.{unusable_leads}
use Rattle.gn_imports.proofs.Links.{wrong_outcome, outcome_wrong, spoiled_link, link_spoils}
use Rattle.gn_imports.proofs.Places.{neither_before, IsAmong, least_found, least_first, least_each}
use Rattle.gn_imports.proofs.Walks.{Listed, led_step, led_add, short_walk}

-- a wrong end has no link
wrong_no_link : (end : End ImportState) (l : Link) → IsWrong end → link_of end ≡ Some l → ⊥
wrong_no_link (ended x) l h e = absurd h
wrong_no_link (wrong fault) l h e = cc
wrong_no_link (spoiled path place) l h e = absurd h
wrong_no_link (needs question place) l h e = absurd h

wrong_fault : (end : End ImportState) → IsWrong end → (fault : Fault) × (end ≡ wrong fault)
wrong_fault (ended x) h = absurd h
wrong_fault (wrong fault) h = (fault, refl)
wrong_fault (spoiled path place) h = absurd h
wrong_fault (needs question place) h = absurd h

-- the cause of an end with a link
linked_next : (end : End ImportState) (l : Link) (next : List ℕ → Fault) (cycle : Fault) → link_of end ≡ Some l → linked_cause end (link_of end) next cycle ≡ next l.path
linked_next (ended x) l next cycle h = cc
linked_next (wrong fault) l next cycle h = cc
linked_next (spoiled path place) l next cycle h = ap (λ (x : Link). next x.path) (same_Some _ l h)
linked_next (needs (content_of path) place) l next cycle h = cc
linked_next (needs (import_of path) place) l next cycle h = ap (λ (x : Link). next x.path) (same_Some _ l h)

module _ (project : Project) where
  pub leads_step : (path q : List ℕ) (l : Link) → link project path ≡ Some l → LeadsTo project l.path q → LeadsTo project path q
  leads_step path q l e (n, h) = (suc n, led_step (link project) n path l (Some q) e h)

  pub leads_on : (a b c : List ℕ) → LeadsTo project a b → LeadsTo project b c → LeadsTo project a c
  leads_on a b c (m, h) (n, k) = (m + n, led_add (link project) m n a b h ∙ k)

  pub leads_link : (a b : List ℕ) (l : Link) → LeadsTo project a b → link project b ≡ Some l → LeadsTo project a l.path
  leads_link a b l h e = leads_on a b l.path h (leads_step b l.path l e (zero, refl))

  -- the import to which the link of one on a cycle leads is on it too
  pub cycle_next : (z : List ℕ) (l : Link) → link project z ≡ Some l → IsOnCycle project z → IsOnCycle project l.path
  cycle_next z l e (k, f, r) =
      let same : k ≡ l = same_Some k l (sym f ∙ e) in
      by (subst (λ (x : Link). LeadsTo project x.path z) same r)
    where
      go : (n : ℕ) (x : Option Link) → link project l.path ≡ x → led_by x (led (link project) n) ≡ Some z → IsOnCycle project l.path
      go n None g h = cc
      go n (Some m) g h = (m, g, leads_link m.path z l (n, h) e)

      by : LeadsTo project l.path z → IsOnCycle project l.path
      by (zero, h) = let there : z ≡ l.path = cc in subst (IsOnCycle project) there (k, f, r)
      by (suc n, h) = go n (link project l.path) refl h

  -- links from one on a cycle lead on for ever, and back
  pub cycle_far : (n : ℕ) (z : List ℕ) → IsOnCycle project z → (y : List ℕ) × (led (link project) n z ≡ Some y) × IsOnCycle project y × LeadsTo project y z
  cycle_far zero z c = (z, refl, c, (zero, refl))
  cycle_far (suc n) z c =
      let far = cycle_far n c.0.path (cycle_next z c.0 c.1 c) in
      (far.0, led_step (link project) n z c.0 (Some far.0) c.1 far.1, far.2, leads_on far.0 c.0.path z far.3 c.2)

  pub call_on : (a b : List ℕ) (l : Link) → LeadsTo project a b → LeadsToCall project b l → LeadsToCall project a l
  call_on a b l h (q, r, e) = (q, leads_on a b q h r, e)

  -- there is one least place
  pub least_one : (path : List ℕ) (p q : Place) → IsLeastPlace project path p → IsLeastPlace project path q → p ≡ q
  least_one path p q h k =
      neither_before p q
      (subst (λ x. is_before x q ≡ false) h.found.2 (k.least h.found.0 h.found.1))
      (subst (λ x. is_before x p ≡ false) k.found.2 (h.least k.found.0 k.found.1))

  -- imports that lead to each other have the same least place
  pub least_moves : (a b : List ℕ) (p : Place) → LeadsTo project a b → LeadsTo project b a → IsLeastPlace project a p → IsLeastPlace project b p
  least_moves a b p there back h = record {
    found = (h.found.0, call_on b a h.found.0 back h.found.1, h.found.2);
    least = λ l c. h.least l (call_on a b l there c);
  }

  -- the links from an import are those of the imports to which they lead
  from_calls : (n : ℕ) (path : List ℕ) (x : Link) → IsAmong x (links_from project n path) → LeadsToCall project path x
  from_calls zero path x i = absurd i
  from_calls (suc n) path x i = by (link project path) refl (λ q. from_calls n q x) i
    where
      by : (y : Option Link) → link project path ≡ y → ((q : List ℕ) → IsAmong x (links_from project n q) → LeadsToCall project q x) → IsAmong x (linked_on y (links_from project n)) → LeadsToCall project path x
      by None e ih i = absurd i
      by (Some l) e ih (inl f) = (path, (zero, refl), e ∙ ap Some (sym f))
      by (Some l) e ih (inr i) = call_on path l.path x (leads_step path l.path l e (zero, refl)) (ih l.path i)

  calls_from : (n m : ℕ) (path y : List ℕ) (x : Link) → m < n → led (link project) m path ≡ Some y → link project y ≡ Some x → IsAmong x (links_from project n path)
  calls_from zero m path y x lt h e = omega (arith, lt)
  calls_from (suc n) zero path y x lt h e =
      let same : path ≡ y = cc in
      subst (λ z. IsAmong x (linked_on z (links_from project n))) (sym (ap (link project) same ∙ e)) (inl refl)
  calls_from (suc n) (suc m) path y x lt h e = by (link project path) (λ q k. calls_from n m q y x (omega (arith, lt)) k e) h
    where
      by : (z : Option Link) → ((q : List ℕ) → led (link project) m q ≡ Some y → IsAmong x (links_from project n q)) → led_by z (led (link project) m) ≡ Some y → IsAmong x (linked_on z (links_from project n))
      by None ih h = cc
      by (Some l) ih h = inr (ih l.path h)

  linked_step : (n : ℕ) (path : List ℕ) (l : Link) → link project path ≡ Some l → cause_within project (suc n) path ≡ cause_within project n l.path
  linked_step n path l e = linked_next (outcome project path).end l (cause_within project n) _ e

  -- what is found behind some links
  led_cause : (m n : ℕ) (path y : List ℕ) → led (link project) m path ≡ Some y → cause_within project (m + n) path ≡ cause_within project n y
  led_cause zero n path y h = rw zero-add (let same : path ≡ y = cc in ap (cause_within project n) same)
  led_cause (suc m) n path y h = rw suc-add (by (link project path) refl h (λ q. led_cause m n q y))
    where
      by : (x : Option Link) → link project path ≡ x → led_by x (led (link project) m) ≡ Some y → ((q : List ℕ) → led (link project) m q ≡ Some y → cause_within project (m + n) q ≡ cause_within project n y) → cause_within project (suc (m + n)) path ≡ cause_within project n y
      by None e h ih = cc
      by (Some l) e h ih = linked_step (m + n) path l e ∙ ih l.path h

  wrong_within : (n : ℕ) (path : List ℕ) (fault : Fault) → (outcome project path).end ≡ wrong fault → cause_within project (suc n) path ≡ fault
  wrong_within n path fault e =
      ap (λ (end : End ImportState). linked_cause end (link project path) (cause_within project n) (cycle_fault (least_place (links_from project (suc (length project.paths)) path)))) e

  -- how many files there are
  abbrev count : ℕ
  count = length project.paths

  -- what an import that can't be used leads to: a wrong one, or one on a cycle
  abbrev pub EndsWrong : List ℕ → Type 0
  EndsWrong path = (q : List ℕ) × (fault : Fault) × LeadsTo project path q × ((outcome project q).end ≡ wrong fault)

  abbrev pub EndsRound : List ℕ → Type 0
  EndsRound path = (q : List ℕ) × (place : Place) × LeadsTo project path q × IsOnCycle project q × IsLeastPlace project q place

  module _ (is : IsProject project) where
    -- an import that has a link is a file
    link_listed : Listed (link project) project.paths
    unfolding outcome
    link_listed path l e = by (is.listed path)
      where
        by : ((project.content path ≡ is_absent) ⊎ IsOneOf path project.paths) → IsOneOf path project.paths
        by (inl a) =
            absurd (wrong_no_link (project.execute path (knowing project (values project))).end l (is.absent path (knowing project (values project)) (ap Some a)) e)
        by (inr h) = h

    -- where links lead, they lead in at most as many steps as there are files
    pub leads_shortly : (path q : List ℕ) → LeadsTo project path q → (m : ℕ) × (m ≤ count) × (led (link project) m path ≡ Some q)
    leads_shortly path q (n, h) = short_walk (link project) project.paths link_listed n path q h

    -- as many links as there are files, and one, hold all to which links lead
    all_least : (z : List ℕ) (l : Link) (ls : List Link) → links_from project (suc count) z ≡ l ∷ ls → IsLeastPlace project z (least_among l.place ls)
    all_least z l ls same = record { found = by (least_found l.place ls); least = all }
      where
        call : (x : Link) → IsAmong x (l ∷ ls) → LeadsToCall project z x
        call x i = from_calls (suc count) z x (subst (IsAmong x) (sym same) i)

        by : (l.place ≡ least_among l.place ls) ⊎ ((x : Link) × IsAmong x ls × (x.place ≡ least_among l.place ls)) → (x : Link) × LeadsToCall project z x × (x.place ≡ least_among l.place ls)
        by (inl e) = (l, call l (inl refl), e)
        by (inr (x, i, e)) = (x, call x (inr i), e)

        each : (x : Link) → IsAmong x (l ∷ ls) → is_before x.place (least_among l.place ls) ≡ false
        each x (inl e) = ap (λ (y : Link). is_before y.place (least_among l.place ls)) e ∙ least_first l.place ls
        each x (inr i) = least_each l.place ls x i

        all : (x : Link) → LeadsToCall project z x → is_before x.place (least_among l.place ls) ≡ false
        all x (y, h, e) =
            let found = leads_shortly z y h in
            each x (subst (IsAmong x) same (calls_from (suc count) found.0 z y x (omega (arith, found.1)) found.2 e))

    -- an import with a link has a least place
    pub least_there : (z : List ℕ) (l : Link) → link project z ≡ Some l → IsLeastPlace project z (least_among l.place (links_from project count l.path))
    least_there z l e = all_least z l (links_from project count l.path) (ap (λ x. linked_on x (links_from project count)) e)

    round_place : (z : List ℕ) (p : Place) → IsOnCycle project z → IsLeastPlace project z p → least_place (links_from project (suc count) z) ≡ Some p
    round_place z p (l, e, r) h =
        ap (λ x. least_place (linked_on x (links_from project count))) e ∙ ap Some (least_one z _ p (least_there z l e) h)

    -- the cause of an import that leads to a wrong one is that one's fault
    pub cause_of_wrong : (path q : List ℕ) (fault : Fault) → LeadsTo project path q → (outcome project q).end ≡ wrong fault → cause project path ≡ fault
    unfolding cause
    cause_of_wrong path q fault h w =
        let near = leads_shortly path q h in
        let rest : ℕ = count - near.0 in
        let sum : near.0 + suc rest ≡ suc count = omega (arith, near.1) in
        subst (λ n. cause_within project n path ≡ fault) sum (led_cause near.0 (suc rest) path q near.2 ∙ wrong_within rest q fault w)

    -- that of one that leads to a cycle is the cycle, at its least place
    pub cause_of_cycle : (path q : List ℕ) (p : Place) → LeadsTo project path q → IsOnCycle project q → IsLeastPlace project q p → cause project path ≡ cycle_fault (Some p)
    unfolding cause
    cause_of_cycle path q p h c least =
        let near = leads_shortly path q h in
        let rest : ℕ = suc count - near.0 in
        let far = cycle_far rest q c in
        let sum : (near.0 + rest) + 0 ≡ suc count = omega (arith, near.1) in
        let on : led (link project) (near.0 + rest) path ≡ Some far.0 = led_add (link project) near.0 rest path q near.2 ∙ far.1 in
        subst (λ n. cause_within project n path ≡ cycle_fault (Some p)) sum
        (led_cause (near.0 + rest) zero path far.0 on
        ∙ ap cycle_fault (round_place far.0 p far.2 (least_moves q far.0 p (rest, far.1) far.3 least)))

    -- the link of an import leads to one that can't be used
    pub link_unusable : (path : List ℕ) (l : Link) → link project path ≡ Some l → (final project).imports l.path ≡ Some is_unusable
    link_unusable path l e =
        (tree_spoiled_by_unusable (project.execute path) (is.trees path) (final project) l.path l.place (link_spoils project is path l e)).0

    -- one that can't be used is wrong, or has a link
    pub unusable_step : (path : List ℕ) → (final project).imports path ≡ Some is_unusable → ((fault : Fault) × ((outcome project path).end ≡ wrong fault)) ⊎ ((l : Link) × (link project path ≡ Some l))
    unusable_step path u = by (unusable_leads project is path u)
      where
        by : IsWrong (project.execute path (final project)).end ⊎ LeadsOn project path → ((fault : Fault) × ((outcome project path).end ≡ wrong fault)) ⊎ ((l : Link) × (link project path ≡ Some l))
        by (inl w) =
            let f = wrong_fault (project.execute path (final project)).end w in
            inl (f.0, wrong_outcome project is path f.0 f.1)
        by (inr (q, place, e, v)) = inr (record { path = q; place = place }, spoiled_link project is path q place e)

    -- so many links lead to a wrong one, or lead on
    far_or_wrong : (n : ℕ) (path : List ℕ) → (final project).imports path ≡ Some is_unusable → EndsWrong path ⊎ ((y : List ℕ) × (led (link project) n path ≡ Some y))
    far_or_wrong zero path u = inr (path, refl)
    far_or_wrong (suc n) path u = by (unusable_step path u) (far_or_wrong n)
      where
        on : (l : Link) → link project path ≡ Some l → EndsWrong l.path ⊎ ((y : List ℕ) × (led (link project) n l.path ≡ Some y)) → EndsWrong path ⊎ ((y : List ℕ) × (led (link project) (suc n) path ≡ Some y))
        on l e (inl (q, fault, h, w)) = inl (q, fault, leads_step path q l e h, w)
        on l e (inr (y, h)) = inr (y, led_step (link project) n path l (Some y) e h)

        by : ((fault : Fault) × ((outcome project path).end ≡ wrong fault)) ⊎ ((l : Link) × (link project path ≡ Some l))
            → ((q : List ℕ) → (final project).imports q ≡ Some is_unusable → EndsWrong q ⊎ ((y : List ℕ) × (led (link project) n q ≡ Some y)))
            → EndsWrong path ⊎ ((y : List ℕ) × (led (link project) (suc n) path ≡ Some y))
        by (inl (fault, w)) ih = inl (path, fault, (zero, refl), w)
        by (inr (l, e)) ih = on l e (ih l.path (link_unusable path l e))

    -- an import that can't be used leads to a wrong one, or to a cycle
    pub links_end : (path : List ℕ) → (final project).imports path ≡ Some is_unusable → EndsWrong path ⊎ EndsRound path
    links_end path u = by (far_or_wrong (suc count) path u)
      where
        round : (y : List ℕ) (n : ℕ) (x : Option Link) → LeadsTo project path y → link project y ≡ x → led_by x (led (link project) n) ≡ Some y → EndsRound path
        round y n None r e h = cc
        round y n (Some l) r e h = (y, least_among l.place (links_from project count l.path), r, (l, e, (n, h)), least_there y l e)

        by : EndsWrong path ⊎ ((y : List ℕ) × (led (link project) (suc count) path ≡ Some y)) → EndsWrong path ⊎ EndsRound path
        by (inl w) = inl w
        by (inr (y, h)) =
            let near = leads_shortly path y (suc count, h) in
            let rest : ℕ = count - near.0 in
            let sum : near.0 + suc rest ≡ suc count = omega (arith, near.1) in
            let back : led (link project) (suc rest) y ≡ Some y =
            sym (led_add (link project) near.0 (suc rest) path y near.2) ∙ ap (λ n. led (link project) n path) sum ∙ h in
            inr (round y rest (link project y) (near.0, near.2) refl back)

    -- the cause of a wrong import is its fault
    pub cause_wrong : (path : List ℕ) (fault : Fault) → (outcome project path).end ≡ wrong fault → cause project path ≡ fault
    cause_wrong path fault w = cause_of_wrong path path fault (zero, refl) w

    pub cause_wrong_final : (path : List ℕ) (fault : Fault) → (project.execute path (final project)).end ≡ wrong fault → cause project path ≡ fault
    cause_wrong_final path fault w = cause_wrong path fault (wrong_outcome project is path fault w)

    -- an import has the cause of the one to which its link leads
    pub cause_link : (path : List ℕ) (l : Link) → link project path ≡ Some l → cause project path ≡ cause project l.path
    cause_link path l e = by (links_end l.path (link_unusable path l e))
      where
        by : EndsWrong l.path ⊎ EndsRound l.path → cause project path ≡ cause project l.path
        by (inl (q, fault, h, w)) = cause_of_wrong path q fault (leads_step path q l e h) w ∙ sym (cause_of_wrong l.path q fault h w)
        by (inr (q, p, h, c, least)) = cause_of_cycle path q p (leads_step path q l e h) c least ∙ sym (cause_of_cycle l.path q p h c least)

    led_same : (n : ℕ) (path q : List ℕ) → led (link project) n path ≡ Some q → cause project path ≡ cause project q
    led_same zero path q h = let same : path ≡ q = cc in ap (cause project) same
    led_same (suc n) path q h = by (link project path) refl h (λ r k. led_same n r q k)
      where
        by : (x : Option Link) → link project path ≡ x → led_by x (led (link project) n) ≡ Some q → ((r : List ℕ) → led (link project) n r ≡ Some q → cause project r ≡ cause project q) → cause project path ≡ cause project q
        by None e h ih = cc
        by (Some l) e h ih = cause_link path l e ∙ ih l.path h

    -- and of each to which links lead
    pub cause_led : LinksKeepCause project
    cause_led path q (n, h) = led_same n path q h

    -- what spoils an import over the answers that everything gets has its cause
    pub cause_spoiled : (path q : List ℕ) (place : Place) → (project.execute path (final project)).end ≡ spoiled q place → cause project path ≡ cause project q
    cause_spoiled path q place e = cause_link path (record { path = q; place = place }) (spoiled_link project is path q place e)

    -- an import that can't be used leads to a wrong one or to a cycle, and that is its cause
    pub ends_at_cause : LinksEnd project
    ends_at_cause path u = by (links_end path u)
      where
        by : EndsWrong path ⊎ EndsRound path → LeadsToWrong project path ⊎ LeadsToCycle project path
        by (inl (q, fault, h, w)) = inl (q, fault, h, outcome_wrong project is q fault w, cause_of_wrong path q fault h w)
        by (inr (q, p, h, c, least)) = inr (q, p, h, c, least, cause_of_cycle path q p h c least)
