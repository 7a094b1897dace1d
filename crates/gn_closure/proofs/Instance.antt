-- The computed rules of each answer are the ground rules, so what is computed is the least set.
use Rattle.std.proofs.Common.{◌≡◌, ℕ, List, [], ◌∷◌, ◌++◌, Option, Some, None, ◌⊎◌, inl, inr, refl, sym, ◌∙◌, ap, subst, Bool, true, false, not, ◌&&◌}
use Rattle.std.specs.Str.{bytes_eq}
use Rattle.std.proofs.lemmas.Slice.Eq.{bytes_eq-Decides}
use Rattle.std.specs.List.{flat_map}
use Rattle.std.proofs.lemmas.Bool.{and_parts}
use Rattle.gn_closure.specs.Closure.{Horn, In, Holds as Derived, by_base, by_rule}
use Rattle.gn_labels.specs.declared.label.Label.{Label}
use Rattle.gn_closure.specs.Reach.{source_root, Unit_key, Setup, Load, Target, Toolchain, Done, Units, Is_reached, Is_wanted, Is_generated, label, needed}
use Rattle.gn_closure.specs.Ground.{Step, Holding, Asked, Used, Defined, Set_up, Ground, start, roots, owns, defines, asks, finds, wants_it, uses, has_tool, has_pool, sets_up, used_home, load_it, home_it, set_it, other_it, Follows, by_ground}
use Rattle.gn_closure.specs.Computed.{when, rule_of, is_wanted, is_reached, is_generated, default_rules, other_rules, wanted_rules, own_rules, ask_rules, find_rules, one_want, want_rules, home_rules, use_rules, target_rules, one_pool, own_tool, one_tool, tool_rules, root_rules, unit_rules, opens_rules, rules_over, known_system}
use Rattle.gn_closure.proofs.Opened.{in_append, in_left, in_right, in_flat, flat_in}
use Rattle.gn_basics.proofs.Texts.{bytes_eq-itself}

in_when : {A : Type 0} (b : Bool) (xs : List A) (x : A) → In (when b xs) x → (b ≡ true) × In xs x
in_when true xs x i = (refl, i)
in_when false xs x i = absurd i

when_in : {A : Type 0} (b : Bool) (xs : List A) (x : A) → b ≡ true → In xs x → In (when b xs) x
when_in true xs x e i = i
when_in false xs x e i = cc

not_same : (a b : List ℕ) → not (bytes_eq a b) ≡ true → a ≡ b → ⊥
not_same a b h e = let t : bytes_eq a b ≡ true = (bytes_eq-Decides a b).1 e in cc

same_not : (a b : List ℕ) → (a ≡ b → ⊥) → not (bytes_eq a b) ≡ true
same_not a b h = go (bytes_eq a b) refl
  where
    go : (c : Bool) → bytes_eq a b ≡ c → not c ≡ true
    go true e = absurd (h ((bytes_eq-Decides a b).0 e))
    go false e = refl

module _ (home : List ℕ → List ℕ) (T : List ℕ) (a : Units) where
  -- a rule that is a ground rule, where the unit that gives it is reached
  record IsGround (k : Unit_key) (h : Horn Step) : Type 0 where
    pub premises : List Step
    pub ground : Ground home T a premises h.gives
    pub given : (p : Step) → In premises p → (p ≡ is_reached k) ⊎ In h.needs p

  by_needs : (k : Unit_key) (h : Horn Step) → Ground home T a h.needs h.gives → IsGround k h
  by_needs k h g = record { premises = h.needs; ground = g; given = λ p i. inr i }

  one_of : (k : Unit_key) (g h : Horn Step) → IsGround k g → In (g ∷ []) h → IsGround k h
  one_of k g h is (inl e) = subst (IsGround k) e is
  one_of k g h is (inr i) = absurd i

  other_ground : (k : Unit_key) (dir tc : List ℕ) → (tc ≡ T → ⊥) → (h : Horn Step) → In (other_rules home T dir tc) h → IsGround k h
  other_ground k dir tc ne h (inl e) = subst (IsGround k) e (by_needs k _ (home_it dir tc ne))
  other_ground k dir tc ne h (inr (inl e)) = subst (IsGround k) e (by_needs k _ (load_it (home tc)))
  other_ground k dir tc ne h (inr (inr (inl e))) = subst (IsGround k) e (by_needs k _ (set_it dir tc ne))
  other_ground k dir tc ne h (inr (inr (inr (inl e)))) = subst (IsGround k) e (by_needs k _ (other_it dir tc ne))
  other_ground k dir tc ne h (inr (inr (inr (inr i)))) = absurd i

  wanted_ground : (k : Unit_key) (dir tc : List ℕ) (h : Horn Step) → In (wanted_rules home T dir tc) h → IsGround k h
  wanted_ground k dir tc h i = go (in_append (when (bytes_eq tc T) (default_rules T dir)) (when (not (bytes_eq tc T)) (other_rules home T dir tc)) h i)
    where
      go : In (when (bytes_eq tc T) (default_rules T dir)) h ⊎ In (when (not (bytes_eq tc T)) (other_rules home T dir tc)) h → IsGround k h
      go (inl j) = one_of k _ h (by_needs k _ (load_it dir)) (in_when (bytes_eq tc T) (default_rules T dir) h j).1
      go (inr j) = let w = in_when (not (bytes_eq tc T)) (other_rules home T dir tc) h j in other_ground k dir tc (not_same tc T w.0) h w.1

  module _ (dir tc : List ℕ) (u : Done) (is : a (Load dir tc) ≡ Some (Some u)) where
    define_ground : (t : Target) → In u.targets t → tc ≡ T → IsGround (Load dir tc) (rule_of (Set_up [] ∷ []) (is_generated (label dir t.name T)))
    define_ground t i e = record {
      premises = Set_up [] ∷ is_reached (Load dir T) ∷ [];
      ground = defines u dir t (subst (λ z. a (Load dir z) ≡ Some (Some u)) e is) i;
      given = given;
    }
      where
        given : (p : Step) → In (Set_up [] ∷ is_reached (Load dir T) ∷ []) p → (p ≡ is_reached (Load dir tc)) ⊎ In (Set_up [] ∷ []) p
        given p (inl q) = inr (inl q)
        given p (inr (inl q)) = inl (sym q ∙ ap (λ z. is_reached (Load dir z)) (sym e))
        given p (inr (inr j)) = absurd j

    ask_ground : (t : Target) → In u.targets t → (l : Label) → In t.deps l → IsGround (Load dir tc) (rule_of (is_generated (label dir t.name tc) ∷ []) (Asked l))
    ask_ground t i l j = record { premises = is_generated (label dir t.name tc) ∷ is_reached (Load dir tc) ∷ []; ground = asks u (label dir t.name tc) l t is i refl j; given = given }
      where
        given : (p : Step) → In (is_generated (label dir t.name tc) ∷ is_reached (Load dir tc) ∷ []) p → (p ≡ is_reached (Load dir tc)) ⊎ In (is_generated (label dir t.name tc) ∷ []) p
        given p (inl q) = inr (inl q)
        given p (inr (inl q)) = inl (sym q)
        given p (inr (inr j)) = absurd j

    find_ground : (t : Target) → In u.targets t → IsGround (Load dir tc) (rule_of (Asked (label dir t.name tc) ∷ []) (is_generated (label dir t.name tc)))
    find_ground t i = record { premises = Asked (label dir t.name tc) ∷ is_reached (Load dir tc) ∷ []; ground = finds u (label dir t.name tc) t is i refl; given = given }
      where
        given : (p : Step) → In (Asked (label dir t.name tc) ∷ is_reached (Load dir tc) ∷ []) p → (p ≡ is_reached (Load dir tc)) ⊎ In (Asked (label dir t.name tc) ∷ []) p
        given p (inl q) = inr (inl q)
        given p (inr (inl q)) = inl (sym q)
        given p (inr (inr j)) = absurd j

    want_ground : (t : Target) → In u.targets t → (l : Label) → In (needed t) l → IsGround (Load dir tc) (rule_of (is_generated (label dir t.name tc) ∷ []) (is_wanted l.dir l.toolchain))
    want_ground t i l j = record { premises = is_generated (label dir t.name tc) ∷ is_reached (Load dir tc) ∷ []; ground = wants_it u (label dir t.name tc) l t is i refl j; given = given }
      where
        given : (p : Step) → In (is_generated (label dir t.name tc) ∷ is_reached (Load dir tc) ∷ []) p → (p ≡ is_reached (Load dir tc)) ⊎ In (is_generated (label dir t.name tc) ∷ []) p
        given p (inl q) = inr (inl q)
        given p (inr (inl q)) = inl (sym q)
        given p (inr (inr j)) = absurd j

    use_ground : (t : Target) → In u.targets t → IsGround (Load dir tc) (rule_of (is_generated (label dir t.name tc) ∷ []) (Used tc))
    use_ground t i = record { premises = is_generated (label dir t.name tc) ∷ is_reached (Load dir tc) ∷ []; ground = uses u (label dir t.name tc) t is i refl; given = given }
      where
        given : (p : Step) → In (is_generated (label dir t.name tc) ∷ is_reached (Load dir tc) ∷ []) p → (p ≡ is_reached (Load dir tc)) ⊎ In (is_generated (label dir t.name tc) ∷ []) p
        given p (inl q) = inr (inl q)
        given p (inr (inl q)) = inl (sym q)
        given p (inr (inr j)) = absurd j

    module _ (c : Toolchain) (i : In u.toolchains c) (e : tc ≡ T) (f : dir ≡ home c.name) where
      answer_here : a (Load (home c.name) T) ≡ Some (Some u)
      answer_here = subst (λ z. a (Load z T) ≡ Some (Some u)) f (subst (λ z. a (Load dir z) ≡ Some (Some u)) e is)

      unit_here : is_reached (Load (home c.name) T) ≡ is_reached (Load dir tc)
      unit_here = ap (λ z. is_reached (Load z T)) (sym f) ∙ ap (λ z. is_reached (Load dir z)) (sym e)

      tool_ground : IsGround (Load dir tc) (rule_of [] (Defined c.name))
      tool_ground = record { premises = is_reached (Load (home c.name) T) ∷ []; ground = has_tool u c answer_here i; given = given }
        where
          given : (p : Step) → In (is_reached (Load (home c.name) T) ∷ []) p → (p ≡ is_reached (Load dir tc)) ⊎ In [] p
          given p (inl q) = inl (sym q ∙ unit_here)
          given p (inr j) = absurd j

      pool_ground : (l : Label) → In c.pools l → IsGround (Load dir tc) (rule_of (Set_up [] ∷ Used c.name ∷ []) (is_wanted l.dir l.toolchain))
      pool_ground l j = record { premises = Set_up [] ∷ Used c.name ∷ is_reached (Load (home c.name) T) ∷ []; ground = has_pool u c l answer_here i j; given = given }
        where
          given : (p : Step) → In (Set_up [] ∷ Used c.name ∷ is_reached (Load (home c.name) T) ∷ []) p → (p ≡ is_reached (Load dir tc)) ⊎ In (Set_up [] ∷ Used c.name ∷ []) p
          given p (inl q) = inr (inl q)
          given p (inr (inl q)) = inr (inr (inl q))
          given p (inr (inr (inl q))) = inl (sym q ∙ unit_here)
          given p (inr (inr (inr k))) = absurd k

      own_tool_of : (h : Horn Step) → In (own_tool home T c) h → IsGround (Load dir tc) h
      own_tool_of h (inl q) = subst (IsGround (Load dir tc)) q tool_ground
      own_tool_of h (inr j) = let k = in_flat (one_pool home T c.name) c.pools h j in go k.0 k.1 k.2
        where
          go : (l : Label) → In c.pools l → In (one_pool home T c.name l) h → IsGround (Load dir tc) h
          go l q (inl r) = subst (IsGround (Load dir tc)) r (pool_ground l q)
          go l q (inr r) = wanted_ground (Load dir tc) l.dir l.toolchain h r

    dep_of : (t : Target) → In u.targets t → (h : Horn Step) → In (ask_rules dir tc t) h → IsGround (Load dir tc) h
    dep_of t i h j =
        let k = in_flat (λ l. rule_of (is_generated (label dir t.name tc) ∷ []) (Asked l) ∷ []) t.deps h j in
        one_of (Load dir tc) _ h (ask_ground t i k.0 k.1) k.2

    want_of : (t : Target) → In u.targets t → (h : Horn Step) → In (want_rules home T dir tc t) h → IsGround (Load dir tc) h
    want_of t i h j = let k = in_flat (one_want home T (label dir t.name tc)) (needed t) h j in go k.0 k.1 k.2
      where
        go : (l : Label) → In (needed t) l → In (one_want home T (label dir t.name tc) l) h → IsGround (Load dir tc) h
        go l q (inl e) = subst (IsGround (Load dir tc)) e (want_ground t i l q)
        go l q (inr r) = wanted_ground (Load dir tc) l.dir l.toolchain h r

    use_of : (t : Target) → In u.targets t → (h : Horn Step) → In (use_rules home T dir tc t) h → IsGround (Load dir tc) h
    use_of t i h (inl e) = subst (IsGround (Load dir tc)) e (use_ground t i)
    use_of t i h (inr (inl e)) = subst (IsGround (Load dir tc)) e (by_needs (Load dir tc) _ (used_home tc))
    use_of t i h (inr (inr j)) = wanted_ground (Load dir tc) (home tc) T h j

    target_ground : (t : Target) → In u.targets t → (h : Horn Step) → In (target_rules home T dir tc t) h → IsGround (Load dir tc) h
    target_ground t i h j = go (in_append (own_rules T dir tc t) (ask_rules dir tc t ++ (find_rules dir tc t ++ (use_rules home T dir tc t ++ want_rules home T dir tc t))) h j)
      where
        fourth : In (use_rules home T dir tc t) h ⊎ In (want_rules home T dir tc t) h → IsGround (Load dir tc) h
        fourth (inl k) = use_of t i h k
        fourth (inr k) = want_of t i h k

        third : In (find_rules dir tc t) h ⊎ In (use_rules home T dir tc t ++ want_rules home T dir tc t) h → IsGround (Load dir tc) h
        third (inl k) = one_of (Load dir tc) _ h (find_ground t i) k
        third (inr k) = fourth (in_append (use_rules home T dir tc t) (want_rules home T dir tc t) h k)

        second : In (ask_rules dir tc t) h ⊎ In (find_rules dir tc t ++ (use_rules home T dir tc t ++ want_rules home T dir tc t)) h → IsGround (Load dir tc) h
        second (inl k) = dep_of t i h k
        second (inr k) = third (in_append (find_rules dir tc t) (use_rules home T dir tc t ++ want_rules home T dir tc t) h k)

        go : In (own_rules T dir tc t) h ⊎ In (ask_rules dir tc t ++ (find_rules dir tc t ++ (use_rules home T dir tc t ++ want_rules home T dir tc t))) h → IsGround (Load dir tc) h
        go (inl k) =
            let w = in_when (bytes_eq tc T) (rule_of (Set_up [] ∷ []) (is_generated (label dir t.name T)) ∷ []) h k in
            one_of (Load dir tc) _ h (define_ground t i ((bytes_eq-Decides tc T).0 w.0)) w.1
        go (inr k) = second (in_append (ask_rules dir tc t) (find_rules dir tc t ++ (use_rules home T dir tc t ++ want_rules home T dir tc t)) h k)

    tools_of : (h : Horn Step) → In (tool_rules home T dir tc u.toolchains) h → IsGround (Load dir tc) h
    tools_of h j =
        let k = in_flat (one_tool home T dir tc) u.toolchains h j in
        let w = in_when (bytes_eq tc T && bytes_eq dir (home k.0.name)) (own_tool home T k.0) h k.2 in
        let e = and_parts (bytes_eq tc T) (bytes_eq dir (home k.0.name)) w.0 in
        own_tool_of k.0 k.1 ((bytes_eq-Decides tc T).0 e.0) ((bytes_eq-Decides dir (home k.0.name)).0 e.1) h w.1

    load_ground : (h : Horn Step) → In (unit_rules home T (Some (Some u)) (Load dir tc)) h → IsGround (Load dir tc) h
    load_ground h j = go (in_append (flat_map (target_rules home T dir tc) u.targets) (tool_rules home T dir tc u.toolchains) h j)
      where
        go : In (flat_map (target_rules home T dir tc) u.targets) h ⊎ In (tool_rules home T dir tc u.toolchains) h → IsGround (Load dir tc) h
        go (inl i) = let k = in_flat (target_rules home T dir tc) u.targets h i in target_ground k.0 k.1 h k.2
        go (inr i) = tools_of h i

  module _ (tc : List ℕ) (s : Done) (is : a (Setup tc) ≡ Some (Some s)) where
    set_up_ground : IsGround (Setup tc) (rule_of [] (Set_up tc))
    set_up_ground = record { premises = is_reached (Setup tc) ∷ []; ground = sets_up s tc is; given = given }
      where
        given : (p : Step) → In (is_reached (Setup tc) ∷ []) p → (p ≡ is_reached (Setup tc)) ⊎ In [] p
        given p (inl q) = inl (sym q)
        given p (inr j) = absurd j

    setup_ground : (h : Horn Step) → In (unit_rules home T (Some (Some s)) (Setup tc)) h → IsGround (Setup tc) h
    setup_ground h (inl e) = subst (IsGround (Setup tc)) e set_up_ground
    setup_ground h (inr i) = go (in_append (root_rules home T source_root) (root_rules home T (home T)) h (in_when (bytes_eq tc []) (root_rules home T source_root ++ root_rules home T (home T)) h i).1)
      where
        go : In (root_rules home T source_root) h ⊎ In (root_rules home T (home T)) h → IsGround (Setup tc) h
        go (inl (inl e)) = subst (IsGround (Setup tc)) e (by_needs (Setup tc) _ roots)
        go (inl (inr j)) = wanted_ground (Setup tc) source_root T h j
        go (inr (inl e)) = subst (IsGround (Setup tc)) e (by_needs (Setup tc) _ owns)
        go (inr (inr j)) = wanted_ground (Setup tc) (home T) T h j

  rules_ground : (k : Unit_key) (x : Option (Option Done)) → a k ≡ x → (h : Horn Step) → In (unit_rules home T x k) h → IsGround k h
  rules_ground k None e h i = absurd i
  rules_ground k (Some None) e h i = absurd i
  rules_ground (Load dir tc) (Some (Some u)) e h i = load_ground dir tc u e h i
  rules_ground (Setup tc) (Some (Some s)) e h i = setup_ground tc s e h i

  -- What the computed rules give follows

  opened_ground : (t : Step) (h : Horn Step) → opens_rules t ≡ true → In (rules_over home T a t) h → (k : Unit_key) × (t ≡ is_reached k) × IsGround k h
  opened_ground (Holding (Is_reached k)) h o i = (k, refl, rules_ground k (a k) refl h i)
  opened_ground (Holding (Is_wanted d t)) h o i = absurd i
  opened_ground (Holding (Is_generated l)) h o i = absurd i
  opened_ground (Asked l) h o i = absurd i
  opened_ground (Used t) h o i = absurd i
  opened_ground (Defined t) h o i = absurd i
  opened_ground (Set_up t) h o i = absurd i

  pub derived_follows : (s : Step) → Derived (known_system home T a) s → Follows home T a s
  derived_follows s (by_base h f e (inl i) k) = subst (Follows home T a) (ap (λ (r : Horn Step). r.gives) i ∙ e) (by_ground [] _ start (λ p j. absurd j))
  derived_follows s (by_base h f e (inr i) k) = absurd i
  derived_follows s (by_rule t h f e o ht i k) =
      let g = opened_ground t h o i in
      subst (Follows home T a) e (by_ground g.2.premises h.gives g.2.ground (λ p j. by p (g.2.given p j) (subst (Follows home T a) g.1 (derived_follows t ht)) (λ j. derived_follows p (k p j))))
    where
      by : {k : Unit_key} (p : Step) → (p ≡ is_reached k) ⊎ In h.needs p → Follows home T a (is_reached k) → (In h.needs p → Follows home T a p) → Follows home T a p
      by p (inl q) up down = subst (Follows home T a) (sym q) up
      by p (inr j) up down = down j

  -- And back

  -- what is wanted has its rules
  abbrev HasRules : Step → Type 0
  HasRules (Holding (Is_wanted dir tc)) = (k : Unit_key) × Derived (known_system home T a) (is_reached k) × ((h : Horn Step) → In (wanted_rules home T dir tc) h → In (unit_rules home T (a k) k) h)
  HasRules (Used tc) = (k : Unit_key) × Derived (known_system home T a) (is_reached k) × ((h : Horn Step) → In (home_rules home T tc) h → In (unit_rules home T (a k) k) h)
  HasRules _ = Unit {0}

  abbrev IsDerived : Step → Type 0
  IsDerived s = Derived (known_system home T a) s × HasRules s

  none_needed : (P : Step → Type 0) (p : Step) → In [] p → P p
  none_needed P p i = absurd i

  one_needed : (P : Step → Type 0) (x : Step) → P x → (p : Step) → In (x ∷ []) p → P p
  one_needed P x h p (inl e) = subst P e h
  one_needed P x h p (inr i) = absurd i

  two_needed : (P : Step → Type 0) (x y : Step) → P x → P y → (p : Step) → In (x ∷ y ∷ []) p → P p
  two_needed P x y h k p (inl e) = subst P e h
  two_needed P x y h k p (inr i) = one_needed P y k p i

  three_needed : (P : Step → Type 0) (x y z : Step) → P x → P y → P z → (p : Step) → In (x ∷ y ∷ z ∷ []) p → P p
  three_needed P x y z h k m p (inl e) = subst P e h
  three_needed P x y z h k m p (inr i) = two_needed P y z k m p i

  abbrev D : Step → Type 0
  D = Derived (known_system home T a)

  -- by a rule that a reached unit gives
  given_by : (k : Unit_key) (x : Option (Option Done)) → a k ≡ x → D (is_reached k) → (h : Horn Step) → In (unit_rules home T x k) h → ((p : Step) → In h.needs p → D p) → D h.gives
  given_by k x e d h i n = by_rule (is_reached k) h h.gives refl refl d (subst (λ z. In (unit_rules home T z k) h) (sym e) i) n

  -- a rule of a wanted directory
  wanted_by : (dir tc : List ℕ) → HasRules (is_wanted dir tc) → (h : Horn Step) → In (wanted_rules home T dir tc) h → ((p : Step) → In h.needs p → D p) → D h.gives
  wanted_by dir tc w h i n = by_rule (is_reached w.0) h h.gives refl refl w.1 (w.2 h i) n

  others_in : (dir tc : List ℕ) → (tc ≡ T → ⊥) → (h : Horn Step) → In (other_rules home T dir tc) h → In (wanted_rules home T dir tc) h
  others_in dir tc ne h i =
      in_right (when (bytes_eq tc T) (default_rules T dir)) (when (not (bytes_eq tc T)) (other_rules home T dir tc)) h (when_in (not (bytes_eq tc T)) (other_rules home T dir tc) h (same_not tc T ne) i)

  -- of the default toolchain there is one such rule
  default_rule : (dir : List ℕ) (h : Horn Step) → In (wanted_rules home T dir T) h → rule_of (Set_up [] ∷ is_wanted dir T ∷ []) (is_reached (Load dir T)) ≡ h
  default_rule dir h i = go (in_append (when (bytes_eq T T) (default_rules T dir)) (when (not (bytes_eq T T)) (other_rules home T dir T)) h i)
    where
      single : In (default_rules T dir) h → rule_of (Set_up [] ∷ is_wanted dir T ∷ []) (is_reached (Load dir T)) ≡ h
      single (inl e) = e
      single (inr j) = absurd j

      go : In (when (bytes_eq T T) (default_rules T dir)) h ⊎ In (when (not (bytes_eq T T)) (other_rules home T dir T)) h → rule_of (Set_up [] ∷ is_wanted dir T ∷ []) (is_reached (Load dir T)) ≡ h
      go (inl j) = single (in_when (bytes_eq T T) (default_rules T dir) h j).1
      go (inr j) = absurd (not_same T T (in_when (not (bytes_eq T T)) (other_rules home T dir T) h j).0 refl)

  default_in : (dir : List ℕ) → In (wanted_rules home T dir T) (rule_of (Set_up [] ∷ is_wanted dir T ∷ []) (is_reached (Load dir T)))
  default_in dir =
      in_left (when (bytes_eq T T) (default_rules T dir)) (when (not (bytes_eq T T)) (other_rules home T dir T)) (rule_of (Set_up [] ∷ is_wanted dir T ∷ []) (is_reached (Load dir T)))
      (when_in (bytes_eq T T) (default_rules T dir) (rule_of (Set_up [] ∷ is_wanted dir T ∷ []) (is_reached (Load dir T))) (bytes_eq-itself T) (inl refl))

  start_derived : D (is_reached (Setup []))
  start_derived = by_base (rule_of [] (is_reached (Setup []))) (is_reached (Setup [])) refl (inl refl) (none_needed D)

  module _ (d0 : Done) (a0 : a (Setup []) ≡ Some (Some d0)) where
    setup_in : (h : Horn Step) → In (root_rules home T source_root ++ root_rules home T (home T)) h → In (unit_rules home T (Some (Some d0)) (Setup [])) h
    setup_in h i = inr (when_in (bytes_eq [] []) (root_rules home T source_root ++ root_rules home T (home T)) h (bytes_eq-itself []) i)

    root_in : (h : Horn Step) → In (root_rules home T source_root) h → In (unit_rules home T (Some (Some d0)) (Setup [])) h
    root_in h i = setup_in h (in_left (root_rules home T source_root) (root_rules home T (home T)) h i)

    home_in : (h : Horn Step) → In (root_rules home T (home T)) h → In (unit_rules home T (Some (Some d0)) (Setup [])) h
    home_in h i = setup_in h (in_right (root_rules home T source_root) (root_rules home T (home T)) h i)

    in_answer : (k : Unit_key) (x : Option (Option Done)) → a k ≡ x → (h : Horn Step) → In (unit_rules home T x k) h → In (unit_rules home T (a k) k) h
    in_answer k x e h i = subst (λ z. In (unit_rules home T z k) h) (sym e) i

    set_up_zero : (n : (p : Step) → In (Set_up [] ∷ []) p → IsDerived p) → (p : Step) → In (Set_up [] ∷ []) p → D p
    set_up_zero n p i = (n p i).0

    module _ (u : Done) (dir tc : List ℕ) (au : a (Load dir tc) ≡ Some (Some u)) where
      of_target : (t : Target) → In u.targets t → (h : Horn Step) → In (target_rules home T dir tc t) h → In (unit_rules home T (Some (Some u)) (Load dir tc)) h
      of_target t i h j = in_left (flat_map (target_rules home T dir tc) u.targets) (tool_rules home T dir tc u.toolchains) h (flat_in (target_rules home T dir tc) u.targets t h i j)

      of_tool : (c : Toolchain) → In u.toolchains c → bytes_eq tc T ≡ true → bytes_eq dir (home c.name) ≡ true → (h : Horn Step) → In (own_tool home T c) h → In (unit_rules home T (Some (Some u)) (Load dir tc)) h
      of_tool c i e f h j =
          in_right (flat_map (target_rules home T dir tc) u.targets) (tool_rules home T dir tc u.toolchains) h
          (flat_in (one_tool home T dir tc) u.toolchains c h i (when_in (bytes_eq tc T && bytes_eq dir (home c.name)) (own_tool home T c) h (rw e f) j))

      of_own : (t : Target) → bytes_eq tc T ≡ true → In (target_rules home T dir tc t) (rule_of (Set_up [] ∷ []) (is_generated (label dir t.name T)))
      of_own t e =
          in_left (own_rules T dir tc t) (ask_rules dir tc t ++ (find_rules dir tc t ++ (use_rules home T dir tc t ++ want_rules home T dir tc t))) (rule_of (Set_up [] ∷ []) (is_generated (label dir t.name T)))
          (when_in (bytes_eq tc T) (rule_of (Set_up [] ∷ []) (is_generated (label dir t.name T)) ∷ []) (rule_of (Set_up [] ∷ []) (is_generated (label dir t.name T))) e (inl refl))

      not_own : (t : Target) (h : Horn Step) → In (ask_rules dir tc t ++ (find_rules dir tc t ++ (use_rules home T dir tc t ++ want_rules home T dir tc t))) h → In (target_rules home T dir tc t) h
      not_own t h i = in_right (own_rules T dir tc t) (ask_rules dir tc t ++ (find_rules dir tc t ++ (use_rules home T dir tc t ++ want_rules home T dir tc t))) h i

      of_deps : (t : Target) (l : Label) → In t.deps l → In (target_rules home T dir tc t) (rule_of (is_generated (label dir t.name tc) ∷ []) (Asked l))
      of_deps t l j =
          not_own t (rule_of (is_generated (label dir t.name tc) ∷ []) (Asked l))
          (in_left (ask_rules dir tc t) (find_rules dir tc t ++ (use_rules home T dir tc t ++ want_rules home T dir tc t)) (rule_of (is_generated (label dir t.name tc) ∷ []) (Asked l))
          (flat_in (λ z. rule_of (is_generated (label dir t.name tc) ∷ []) (Asked z) ∷ []) t.deps l (rule_of (is_generated (label dir t.name tc) ∷ []) (Asked l)) j (inl refl)))

      of_found : (t : Target) → In (target_rules home T dir tc t) (rule_of (Asked (label dir t.name tc) ∷ []) (is_generated (label dir t.name tc)))
      of_found t =
          not_own t (rule_of (Asked (label dir t.name tc) ∷ []) (is_generated (label dir t.name tc)))
          (in_right (ask_rules dir tc t) (find_rules dir tc t ++ (use_rules home T dir tc t ++ want_rules home T dir tc t)) (rule_of (Asked (label dir t.name tc) ∷ []) (is_generated (label dir t.name tc))) (inl refl))

      not_found : (t : Target) (h : Horn Step) → In (use_rules home T dir tc t ++ want_rules home T dir tc t) h → In (target_rules home T dir tc t) h
      not_found t h i = not_own t h (in_right (ask_rules dir tc t) (find_rules dir tc t ++ (use_rules home T dir tc t ++ want_rules home T dir tc t)) h (inr i))

      of_uses : (t : Target) (h : Horn Step) → In (use_rules home T dir tc t) h → In (target_rules home T dir tc t) h
      of_uses t h i = not_found t h (in_left (use_rules home T dir tc t) (want_rules home T dir tc t) h i)

      of_wants : (t : Target) (l : Label) → In (needed t) l → (h : Horn Step) → In (one_want home T (label dir t.name tc) l) h → In (target_rules home T dir tc t) h
      of_wants t l j h i =
          not_found t h (in_right (use_rules home T dir tc t) (want_rules home T dir tc t) h (flat_in (one_want home T (label dir t.name tc)) (needed t) l h j i))

      load_by : D (is_reached (Load dir tc)) → (h : Horn Step) → In (unit_rules home T (Some (Some u)) (Load dir tc)) h → ((p : Step) → In h.needs p → D p) → D h.gives
      load_by d h i n = given_by (Load dir tc) (Some (Some u)) au d h i n

    of_pool : (u : Done) (c : Toolchain) → a (Load (home c.name) T) ≡ Some (Some u) → In u.toolchains c → (l : Label) → In c.pools l → (h : Horn Step) → In (one_pool home T c.name l) h → In (unit_rules home T (Some (Some u)) (Load (home c.name) T)) h
    of_pool u c au i l j h k = of_tool u (home c.name) T au c i (bytes_eq-itself T) (bytes_eq-itself (home c.name)) h (inr (flat_in (one_pool home T c.name) c.pools l h j k))

    renamed : (m : Label) (t : Target) → t.name ≡ m.name → D (is_generated m) → D (is_generated (label m.dir t.name m.toolchain))
    renamed m t n d = subst (λ z. D (is_generated (label m.dir z m.toolchain))) (sym n) d

    back_case : (ss : List Step) (s : Step) → Ground home T a ss s → ((p : Step) → In ss p → IsDerived p) → IsDerived s
    back_case ss s start n = (start_derived, tt)
    back_case ss s roots n = (
      given_by (Setup []) (Some (Some d0)) a0 start_derived (rule_of (Set_up [] ∷ []) (is_wanted source_root T)) (root_in (rule_of (Set_up [] ∷ []) (is_wanted source_root T)) (inl refl)) (set_up_zero n),
      (Setup [], start_derived, λ h i. in_answer (Setup []) (Some (Some d0)) a0 h (root_in h (inr i))),
    )
    back_case ss s owns n = (
      given_by (Setup []) (Some (Some d0)) a0 start_derived (rule_of (Set_up [] ∷ []) (is_wanted (home T) T)) (home_in (rule_of (Set_up [] ∷ []) (is_wanted (home T) T)) (inl refl)) (set_up_zero n),
      (Setup [], start_derived, λ h i. in_answer (Setup []) (Some (Some d0)) a0 h (home_in h (inr i))),
    )
    back_case ss s (defines u dir t au i) n = (
      load_by u dir T au (n _ (inr (inl refl))).0 (rule_of (Set_up [] ∷ []) (is_generated (label dir t.name T)))
          (of_target u dir T au t i (rule_of (Set_up [] ∷ []) (is_generated (label dir t.name T))) (of_own u dir T au t (bytes_eq-itself T)))
          (one_needed D (Set_up []) (n _ (inl refl)).0),
      tt,
    )
    back_case ss s (asks u m l t au i e j) n = (
      load_by u m.dir m.toolchain au (n _ (inr (inl refl))).0 (rule_of (is_generated (label m.dir t.name m.toolchain) ∷ []) (Asked l))
          (of_target u m.dir m.toolchain au t i (rule_of (is_generated (label m.dir t.name m.toolchain) ∷ []) (Asked l)) (of_deps u m.dir m.toolchain au t l j))
          (one_needed D _ (renamed m t e (n _ (inl refl)).0)),
      tt,
    )
    back_case ss s (finds v l t av i e) n = (
      subst (λ z. D (is_generated (label l.dir z l.toolchain))) e
          (load_by v l.dir l.toolchain av (n _ (inr (inl refl))).0 (rule_of (Asked (label l.dir t.name l.toolchain) ∷ []) (is_generated (label l.dir t.name l.toolchain)))
          (of_target v l.dir l.toolchain av t i (rule_of (Asked (label l.dir t.name l.toolchain) ∷ []) (is_generated (label l.dir t.name l.toolchain))) (of_found v l.dir l.toolchain av t))
          (one_needed D _ (subst (λ z. D (Asked (label l.dir z l.toolchain))) (sym e) (n _ (inl refl)).0))),
      tt,
    )
    back_case ss s (wants_it u m l t au i e j) n = (
      load_by u m.dir m.toolchain au (n _ (inr (inl refl))).0 (rule_of (is_generated (label m.dir t.name m.toolchain) ∷ []) (is_wanted l.dir l.toolchain))
          (of_target u m.dir m.toolchain au t i (rule_of (is_generated (label m.dir t.name m.toolchain) ∷ []) (is_wanted l.dir l.toolchain)) (of_wants u m.dir m.toolchain au t l j (rule_of (is_generated (label m.dir t.name m.toolchain) ∷ []) (is_wanted l.dir l.toolchain)) (inl refl)))
          (one_needed D _ (renamed m t e (n _ (inl refl)).0)),
      (
        Load m.dir m.toolchain,
        (n _ (inr (inl refl))).0,
        λ h k. in_answer (Load m.dir m.toolchain) (Some (Some u)) au h (of_target u m.dir m.toolchain au t i h (of_wants u m.dir m.toolchain au t l j h (inr k))),
      ),
    )
    back_case ss s (uses u m t au i e) n = (
      load_by u m.dir m.toolchain au (n _ (inr (inl refl))).0 (rule_of (is_generated (label m.dir t.name m.toolchain) ∷ []) (Used m.toolchain))
          (of_target u m.dir m.toolchain au t i (rule_of (is_generated (label m.dir t.name m.toolchain) ∷ []) (Used m.toolchain)) (of_uses u m.dir m.toolchain au t (rule_of (is_generated (label m.dir t.name m.toolchain) ∷ []) (Used m.toolchain)) (inl refl)))
          (one_needed D _ (renamed m t e (n _ (inl refl)).0)),
      (
        Load m.dir m.toolchain,
        (n _ (inr (inl refl))).0,
        λ h k. in_answer (Load m.dir m.toolchain) (Some (Some u)) au h (of_target u m.dir m.toolchain au t i h (of_uses u m.dir m.toolchain au t h (inr k))),
      ),
    )
    back_case ss s (has_tool u c au i) n = (
      load_by u (home c.name) T au (n _ (inl refl)).0 (rule_of [] (Defined c.name))
          (of_tool u (home c.name) T au c i (bytes_eq-itself T) (bytes_eq-itself (home c.name)) (rule_of [] (Defined c.name)) (inl refl))
          (none_needed D),
      tt,
    )
    back_case ss s (has_pool u c l au i j) n = (
      load_by u (home c.name) T au (n _ (inr (inr (inl refl)))).0 (rule_of (Set_up [] ∷ Used c.name ∷ []) (is_wanted l.dir l.toolchain))
          (of_pool u c au i l j (rule_of (Set_up [] ∷ Used c.name ∷ []) (is_wanted l.dir l.toolchain)) (inl refl))
          (two_needed D (Set_up []) (Used c.name) (n _ (inl refl)).0 (n _ (inr (inl refl))).0),
      (
        Load (home c.name) T,
        (n _ (inr (inr (inl refl)))).0,
        λ h k. in_answer (Load (home c.name) T) (Some (Some u)) au h (of_pool u c au i l j h (inr k)),
      ),
    )
    back_case ss s (sets_up d tc ad) n = (given_by (Setup tc) (Some (Some d)) ad (n _ (inl refl)).0 (rule_of [] (Set_up tc)) (inl refl) (none_needed D), tt)
    back_case ss s (used_home tc) n =
        let w : HasRules (Used tc) = (n _ (inr (inl refl))).1 in (
          by_rule (is_reached w.0) (rule_of (Set_up [] ∷ Used tc ∷ []) (is_wanted (home tc) T)) (is_wanted (home tc) T) refl refl w.1 (w.2 _ (inl refl))
              (two_needed D (Set_up []) (Used tc) (n _ (inl refl)).0 (n _ (inr (inl refl))).0),
          (w.0, w.1, λ h i. w.2 h (inr i)),
        )
    back_case ss s (load_it dir) n =
        (wanted_by dir T (n _ (inr (inl refl))).1 _ (default_in dir) (two_needed D (Set_up []) (is_wanted dir T) (n _ (inl refl)).0 (n _ (inr (inl refl))).0), tt)
    back_case ss s (home_it dir tc ne) n =
        let w : HasRules (is_wanted dir tc) = (n _ (inr (inl refl))).1 in (
          wanted_by dir tc w _ (others_in dir tc ne _ (inl refl)) (two_needed D (Set_up []) (is_wanted dir tc) (n _ (inl refl)).0 (n _ (inr (inl refl))).0),
          (w.0, w.1, λ h i. w.2 h (others_in dir tc ne h (inr (inl (default_rule (home tc) h i))))),
        )
    back_case ss s (set_it dir tc ne) n = (
      wanted_by dir tc (n _ (inr (inl refl))).1 _ (others_in dir tc ne _ (inr (inr (inl refl))))
          (three_needed D (Set_up []) (is_wanted dir tc) (Defined tc) (n _ (inl refl)).0 (n _ (inr (inl refl))).0 (n _ (inr (inr (inl refl)))).0),
      tt,
    )
    back_case ss s (other_it dir tc ne) n = (
      wanted_by dir tc (n _ (inr (inl refl))).1 _ (others_in dir tc ne _ (inr (inr (inr (inl refl)))))
          (three_needed D (Set_up []) (is_wanted dir tc) (Set_up tc) (n _ (inl refl)).0 (n _ (inr (inl refl))).0 (n _ (inr (inr (inl refl)))).0),
      tt,
    )

    follows_both : (s : Step) → Follows home T a s → IsDerived s
    follows_both s (by_ground ss s' r k) = back_case ss s' r (λ p i. follows_both p (k p i))

    pub follows_derived : (s : Step) → Follows home T a s → D s
    follows_derived s h = (follows_both s h).0
