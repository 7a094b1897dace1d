-- Reached and generated, by rules that join answers and by ground rules.
use Rattle.std.proofs.Common.{◌≡◌, ℕ, List, [], ◌∷◌, Some, inl, inr, refl, sym, ◌∙◌, ap, subst}
use Rattle.gn_closure.specs.Closure.{In}
use Rattle.gn_labels.specs.declared.label.Label.{Label}
use Rattle.gn_closure.specs.Reach.{source_root, Unit_key, Setup, Load, Target, Toolchain, Done, Units, Fact, Is_reached, Is_wanted, Is_generated, Told, told, label, Rule, first, root, own, target, dependency, want, want_toolchain, want_pool, load, want_home, setup, other_load, Holds, by_rule}
use Rattle.gn_closure.specs.Ground.{Step, Holding, Asked, Used, Defined, Set_up, Ground, start, roots, owns, defines, asks, finds, wants_it, uses, has_tool, has_pool, sets_up, used_home, load_it, home_it, set_it, other_it, Follows, by_ground}

-- The laws of the least set

pub holds_grows : (home : List ℕ → List ℕ) (a b : Units) → ((k : Unit_key) (d : Done) → a k ≡ Some (Some d) → b k ≡ Some (Some d)) → (f : Fact) → Holds home a f → Holds home b f
holds_grows home a b le f (by_rule fs ts f' r hf ht e) =
    by_rule fs ts f' r (λ g i. holds_grows home a b le g (hf g i)) (λ t i. holds_grows home a b le (Is_reached t.unit) (ht t i)) (λ t i. le t.unit t.done (e t i))

pub holds_back : (home : List ℕ → List ℕ) (a b : Units) → ((k : Unit_key) → Holds home a (Is_reached k) → a k ≡ b k) → (f : Fact) → Holds home b f → Holds home a f
holds_back home a b same f (by_rule fs ts f' r hf ht e) =
    by_rule fs ts f' r (λ g i. holds_back home a b same g (hf g i)) (λ t i. holds_back home a b same (Is_reached t.unit) (ht t i))
    (λ t i. same t.unit (holds_back home a b same (Is_reached t.unit) (ht t i)) ∙ e t i)

-- From the rules to the ground rules

pub none : {A : Type 0} (P : A → Type 0) (p : A) → In {A = A} [] p → P p
none P p i = absurd i

pub one : {A : Type 0} (P : A → Type 0) (x : A) → P x → (p : A) → In (x ∷ []) p → P p
one P x h p (inl e) = subst P e h
one P x h p (inr i) = absurd i

pub two : {A : Type 0} (P : A → Type 0) (x y : A) → P x → P y → (p : A) → In (x ∷ y ∷ []) p → P p
two P x y h k p (inl e) = subst P e h
two P x y h k p (inr i) = one P y k p i

pub three : {A : Type 0} (P : A → Type 0) (x y z : A) → P x → P y → P z → (p : A) → In (x ∷ y ∷ z ∷ []) p → P p
three P x y z h k m p (inl e) = subst P e h
three P x y z h k m p (inr i) = two P y z k m p i

-- what is known of the premises of a rule
record Knows (home : List ℕ → List ℕ) (T : List ℕ) (a : Units) (fs : List Fact) (ts : List Told) : Type 0 where
  facts : (g : Fact) → In fs g → Follows home T a (Holding g)
  reached : (t : Told) → In ts t → Follows home T a (Holding (Is_reached t.unit))
  answered : (t : Told) → In ts t → a t.unit ≡ Some (Some t.done)

same_default : (T : List ℕ) (a : Units) (d0 d : Done) → d0.default ≡ T → a (Setup []) ≡ Some (Some d0) → a (Setup []) ≡ Some (Some d) → d.default ≡ T
same_default T a d0 d e p q = let s : d0 ≡ d = cc (p, q) in ap (λ (x : Done). x.default) (sym s) ∙ e

by_case : (home : List ℕ → List ℕ) (T : List ℕ) (a : Units) (d0 : Done) → d0.default ≡ T → a (Setup []) ≡ Some (Some d0)
    → (fs : List Fact) (ts : List Told) (f : Fact) → Rule home fs ts f → Knows home T a fs ts → Follows home T a (Holding f)
by_case home T a d0 e0 a0 fs ts f first k = by_ground [] _ start (λ p i. absurd i)
by_case home T a d0 e0 a0 fs ts f (root d) k =
    let e : d.default ≡ T = same_default T a d0 d e0 a0 (k.answered _ (inl refl)) in
    let up = by_ground _ _ (sets_up d [] (k.answered _ (inl refl))) (one (Follows home T a) _ (k.reached _ (inl refl))) in
    let P : List ℕ → Type 0 = λ z. Follows home T a (Holding (Is_wanted source_root z)) in
    subst P (sym e) (by_ground _ _ roots (one (Follows home T a) _ up))
by_case home T a d0 e0 a0 fs ts f (own d) k =
    let e : d.default ≡ T = same_default T a d0 d e0 a0 (k.answered _ (inl refl)) in
    let up = by_ground _ _ (sets_up d [] (k.answered _ (inl refl))) (one (Follows home T a) _ (k.reached _ (inl refl))) in
    let P : List ℕ → Type 0 = λ z. Follows home T a (Holding (Is_wanted (home z) z)) in
    subst P (sym e) (by_ground _ _ owns (one (Follows home T a) _ up))
by_case home T a d0 e0 a0 fs ts f (target d u dir t i) k =
    let e : d.default ≡ T = same_default T a d0 d e0 a0 (k.answered _ (inl refl)) in
    let up = by_ground _ _ (sets_up d [] (k.answered _ (inl refl))) (one (Follows home T a) _ (k.reached _ (inl refl))) in
    let P : List ℕ → Type 0 = λ z. Follows home T a (Holding (Is_generated (label dir t.name z))) in
    let R : List ℕ → Type 0 = λ z. Follows home T a (Holding (Is_reached (Load dir z))) in
    let Q : List ℕ → Type 0 = λ z. a (Load dir z) ≡ Some (Some u) in
    subst P (sym e) (by_ground _ _ (defines u dir t (subst Q e (k.answered _ (inr (inl refl)))) i)
    (two (Follows home T a) _ _ up (subst R e (k.reached _ (inr (inl refl))))))
by_case home T a d0 e0 a0 fs ts f (dependency u v l m t s i n j o q) k =
    let asked = by_ground _ _ (asks u m l t (k.answered _ (inl refl)) i n j) (two (Follows home T a) _ _ (k.facts _ (inl refl)) (k.reached _ (inl refl))) in
    by_ground _ _ (finds v l s (k.answered _ (inr (inl refl))) o q) (two (Follows home T a) _ _ asked (k.reached _ (inr (inl refl))))
by_case home T a d0 e0 a0 fs ts f (want u m l t i n j) k =
    by_ground _ _ (wants_it u m l t (k.answered _ (inl refl)) i n j) (two (Follows home T a) _ _ (k.facts _ (inl refl)) (k.reached _ (inl refl)))
by_case home T a d0 e0 a0 fs ts f (want_toolchain d u m t i n) k =
    let e : d.default ≡ T = same_default T a d0 d e0 a0 (k.answered _ (inl refl)) in
    let up = by_ground _ _ (sets_up d [] (k.answered _ (inl refl))) (one (Follows home T a) _ (k.reached _ (inl refl))) in
    let used = by_ground _ _ (uses u m t (k.answered _ (inr (inl refl))) i n) (two (Follows home T a) _ _ (k.facts _ (inl refl)) (k.reached _ (inr (inl refl)))) in
    let P : List ℕ → Type 0 = λ z. Follows home T a (Holding (Is_wanted (home m.toolchain) z)) in
    subst P (sym e) (by_ground _ _ (used_home m.toolchain) (two (Follows home T a) _ _ up used))
by_case home T a d0 e0 a0 fs ts f (want_pool d u v m l t c i n j o q) k =
    let e : d.default ≡ T = same_default T a d0 d e0 a0 (k.answered _ (inl refl)) in
    let up = by_ground _ _ (sets_up d [] (k.answered _ (inl refl))) (one (Follows home T a) _ (k.reached _ (inl refl))) in
    let used = by_ground _ _ (uses u m t (k.answered _ (inr (inl refl))) i n) (two (Follows home T a) _ _ (k.facts _ (inl refl)) (k.reached _ (inr (inl refl)))) in
    let R : List ℕ → Type 0 = λ z. Follows home T a (Holding (Is_reached (Load (home m.toolchain) z))) in
    let Q : List ℕ → Type 0 = λ z. a (Load (home m.toolchain) z) ≡ Some (Some v) in
    let S : List ℕ → Type 0 = λ z. Follows home T a (Holding (Is_reached (Load (home z) T))) in
    let U : List ℕ → Type 0 = λ z. a (Load (home z) T) ≡ Some (Some v) in
    by_ground _ _ (has_pool v c l (subst U (sym o) (subst Q e (k.answered _ (inr (inr (inl refl)))))) j q)
    (three (Follows home T a) _ _ _ up (subst (λ z. Follows home T a (Used z)) (sym o) used) (subst S (sym o) (subst R e (k.reached _ (inr (inr (inl refl)))))))
by_case home T a d0 e0 a0 fs ts f (load d dir) k =
    let e : d.default ≡ T = same_default T a d0 d e0 a0 (k.answered _ (inl refl)) in
    let up = by_ground _ _ (sets_up d [] (k.answered _ (inl refl))) (one (Follows home T a) _ (k.reached _ (inl refl))) in
    let P : List ℕ → Type 0 = λ z. Follows home T a (Holding (Is_reached (Load dir z))) in
    let W : List ℕ → Type 0 = λ z. Follows home T a (Holding (Is_wanted dir z)) in
    subst P (sym e) (by_ground _ _ (load_it dir) (two (Follows home T a) _ _ up (subst W e (k.facts _ (inl refl)))))
by_case home T a d0 e0 a0 fs ts f (want_home d dir tc ne) k =
    let e : d.default ≡ T = same_default T a d0 d e0 a0 (k.answered _ (inl refl)) in
    let up = by_ground _ _ (sets_up d [] (k.answered _ (inl refl))) (one (Follows home T a) _ (k.reached _ (inl refl))) in
    let P : List ℕ → Type 0 = λ z. Follows home T a (Holding (Is_wanted (home tc) z)) in
    subst P (sym e) (by_ground _ _ (home_it dir tc (λ x. ne (x ∙ sym e))) (two (Follows home T a) _ _ up (k.facts _ (inl refl))))
by_case home T a d0 e0 a0 fs ts f (setup d u dir c ne i) k =
    let e : d.default ≡ T = same_default T a d0 d e0 a0 (k.answered _ (inl refl)) in
    let up = by_ground _ _ (sets_up d [] (k.answered _ (inl refl))) (one (Follows home T a) _ (k.reached _ (inl refl))) in
    let R : List ℕ → Type 0 = λ z. Follows home T a (Holding (Is_reached (Load (home c.name) z))) in
    let Q : List ℕ → Type 0 = λ z. a (Load (home c.name) z) ≡ Some (Some u) in
    let has_it = by_ground _ _ (has_tool u c (subst Q e (k.answered _ (inr (inl refl)))) i) (one (Follows home T a) _ (subst R e (k.reached _ (inr (inl refl))))) in
    by_ground _ _ (set_it dir c.name (λ x. ne (x ∙ sym e))) (three (Follows home T a) _ _ _ up (k.facts _ (inl refl)) has_it)
by_case home T a d0 e0 a0 fs ts f (other_load d s dir tc ne) k =
    let e : d.default ≡ T = same_default T a d0 d e0 a0 (k.answered _ (inl refl)) in
    let up = by_ground _ _ (sets_up d [] (k.answered _ (inl refl))) (one (Follows home T a) _ (k.reached _ (inl refl))) in
    let there = by_ground _ _ (sets_up s tc (k.answered _ (inr (inl refl)))) (one (Follows home T a) _ (k.reached _ (inr (inl refl)))) in
    by_ground _ _ (other_it dir tc (λ x. ne (x ∙ sym e))) (three (Follows home T a) _ _ _ up (k.facts _ (inl refl)) there)

pub holds_follows : (home : List ℕ → List ℕ) (T : List ℕ) (a : Units) (d0 : Done) → d0.default ≡ T → a (Setup []) ≡ Some (Some d0) → (f : Fact) → Holds home a f → Follows home T a (Holding f)
holds_follows home T a d0 e0 a0 f (by_rule fs ts f' r hf ht e) =
    by_case home T a d0 e0 a0 fs ts f' r (record {
      facts = λ g i. holds_follows home T a d0 e0 a0 g (hf g i);
      reached = λ t i. holds_follows home T a d0 e0 a0 (Is_reached t.unit) (ht t i);
      answered = e;
    })

-- And back

abbrev Means : (home : List ℕ → List ℕ) (T : List ℕ) (a : Units) → Step → Type 0
Means home T a (Holding f) = Holds home a f
Means home T a (Asked l) = (u : Done) × (m : Label) × (t : Target) × Holds home a (Is_generated m) × Holds home a (Is_reached (Load m.dir m.toolchain))
    × (a (Load m.dir m.toolchain) ≡ Some (Some u)) × In u.targets t × (t.name ≡ m.name) × In t.deps l
Means home T a (Used tc) = (u : Done) × (m : Label) × (t : Target) × Holds home a (Is_generated m) × Holds home a (Is_reached (Load m.dir m.toolchain))
    × (a (Load m.dir m.toolchain) ≡ Some (Some u)) × In u.targets t × (t.name ≡ m.name) × (m.toolchain ≡ tc)
Means home T a (Defined tc) = (u : Done) × (c : Toolchain) × Holds home a (Is_reached (Load (home tc) T)) × (a (Load (home tc) T) ≡ Some (Some u)) × In u.toolchains c × (c.name ≡ tc)
Means home T a (Set_up tc) = (s : Done) × Holds home a (Is_reached (Setup tc)) × (a (Setup tc) ≡ Some (Some s))

-- a rule from what is known of each premise
abbrev Reaches : (home : List ℕ → List ℕ) (a : Units) → Told → Type 0
Reaches home a t = Holds home a (Is_reached t.unit) × (a t.unit ≡ Some (Some t.done))

by_told : (home : List ℕ → List ℕ) (a : Units) (fs : List Fact) (ts : List Told) (f : Fact) → Rule home fs ts f
    → ((g : Fact) → In fs g → Holds home a g) → ((t : Told) → In ts t → Reaches home a t) → Holds home a f
by_told home a fs ts f r hf ht = by_rule fs ts f r hf (λ t i. (ht t i).0) (λ t i. (ht t i).1)

back_case : (home : List ℕ → List ℕ) (T : List ℕ) (a : Units) (d0 : Done) → d0.default ≡ T → a (Setup []) ≡ Some (Some d0)
    → (ss : List Step) (s : Step) → Ground home T a ss s → ((p : Step) → In ss p → Means home T a p) → Means home T a s
back_case home T a d0 e0 a0 ss s start k = by_told home a [] [] _ first (λ g i. absurd i) (λ t i. absurd i)
back_case home T a d0 e0 a0 ss s roots k =
    let u = k _ (inl refl) in
    let P : List ℕ → Type 0 = λ z. Holds home a (Is_wanted source_root z) in
    subst P (same_default T a d0 u.0 e0 a0 u.2) (by_told home a [] _ _ (root u.0) (λ g i. absurd i) (one (Reaches home a) (told (Setup []) u.0) (u.1, u.2)))
back_case home T a d0 e0 a0 ss s owns k =
    let u = k _ (inl refl) in
    let P : List ℕ → Type 0 = λ z. Holds home a (Is_wanted (home z) z) in
    subst P (same_default T a d0 u.0 e0 a0 u.2) (by_told home a [] _ _ (own u.0) (λ g i. absurd i) (one (Reaches home a) (told (Setup []) u.0) (u.1, u.2)))
back_case home T a d0 e0 a0 ss s (defines v dir t av i) k =
    let u = k _ (inl refl) in
    let e = same_default T a d0 u.0 e0 a0 u.2 in
    let P : List ℕ → Type 0 = λ z. Holds home a (Is_generated (label dir t.name z)) in
    let R : List ℕ → Type 0 = λ z. Reaches home a (told (Load dir z) v) in
    subst P e (by_told home a [] _ _ (target u.0 v dir t i) (λ g i. absurd i)
    (two (Reaches home a) (told (Setup []) u.0) (told (Load dir u.0.default) v) (u.1, u.2) (subst R (sym e) (k _ (inr (inl refl)), av))))
back_case home T a d0 e0 a0 ss s (asks u m l t au i n j) k = (u, m, t, k _ (inl refl), k _ (inr (inl refl)), au, i, n, j)
back_case home T a d0 e0 a0 ss s (finds v l t av i n) k =
    let q = k _ (inl refl) in
    by_told home a _ _ _ (dependency q.0 v l q.1 q.2 t q.6 q.7 q.8 i n) (one (Holds home a) (Is_generated q.1) q.3)
    (two (Reaches home a) (told (Load q.1.dir q.1.toolchain) q.0) (told (Load l.dir l.toolchain) v) (q.4, q.5) (k _ (inr (inl refl)), av))
back_case home T a d0 e0 a0 ss s (wants_it u m l t au i n j) k =
    by_told home a _ _ _ (want u m l t i n j) (one (Holds home a) (Is_generated m) (k _ (inl refl))) (one (Reaches home a) (told (Load m.dir m.toolchain) u) (k _ (inr (inl refl)), au))
back_case home T a d0 e0 a0 ss s (uses u m t au i n) k = (u, m, t, k _ (inl refl), k _ (inr (inl refl)), au, i, n, refl)
back_case home T a d0 e0 a0 ss s (has_tool u c au i) k = (u, c, k _ (inl refl), au, i, refl)
back_case home T a d0 e0 a0 ss s (has_pool v c l av j q) k =
    let up = k _ (inl refl) in
    let e = same_default T a d0 up.0 e0 a0 up.2 in
    let g = k _ (inr (inl refl)) in
    let S : List ℕ → Type 0 = λ z. Reaches home a (told (Load (home z) T) v) in
    let R : List ℕ → Type 0 = λ z. Reaches home a (told (Load (home g.1.toolchain) z) v) in
    by_told home a _ _ _ (want_pool up.0 g.0 v g.1 l g.2 c g.6 g.7 j (sym g.8) q) (one (Holds home a) (Is_generated g.1) g.3)
    (three (Reaches home a) (told (Setup []) up.0) (told (Load g.1.dir g.1.toolchain) g.0) (told (Load (home g.1.toolchain) up.0.default) v) (up.1, up.2) (g.4, g.5) (subst R (sym e) (subst S (sym g.8) (k _ (inr (inr (inl refl))), av))))
back_case home T a d0 e0 a0 ss s (sets_up d tc ad) k = (d, k _ (inl refl), ad)
back_case home T a d0 e0 a0 ss s (used_home tc) k =
    let u = k _ (inl refl) in
    let e = same_default T a d0 u.0 e0 a0 u.2 in
    let g = k _ (inr (inl refl)) in
    let P : List ℕ → Type 0 = λ z. Holds home a (Is_wanted (home tc) z) in
    let H : List ℕ → Type 0 = λ z. Holds home a (Is_wanted (home z) u.0.default) in
    subst P e
    (subst H g.8
    (by_told home a _ _ _ (want_toolchain u.0 g.0 g.1 g.2 g.6 g.7) (one (Holds home a) (Is_generated g.1) g.3)
    (two (Reaches home a) (told (Setup []) u.0) (told (Load g.1.dir g.1.toolchain) g.0) (u.1, u.2) (g.4, g.5))))
back_case home T a d0 e0 a0 ss s (load_it dir) k =
    let u = k _ (inl refl) in
    let e = same_default T a d0 u.0 e0 a0 u.2 in
    let P : List ℕ → Type 0 = λ z. Holds home a (Is_reached (Load dir z)) in
    let W : List ℕ → Type 0 = λ z. Holds home a (Is_wanted dir z) in
    subst P e (by_told home a _ _ _ (load u.0 dir) (one (Holds home a) (Is_wanted dir u.0.default) (subst W (sym e) (k _ (inr (inl refl))))) (one (Reaches home a) (told (Setup []) u.0) (u.1, u.2)))
back_case home T a d0 e0 a0 ss s (home_it dir tc ne) k =
    let u = k _ (inl refl) in
    let e = same_default T a d0 u.0 e0 a0 u.2 in
    let P : List ℕ → Type 0 = λ z. Holds home a (Is_wanted (home tc) z) in
    subst P e (by_told home a _ _ _ (want_home u.0 dir tc (λ x. ne (x ∙ e))) (one (Holds home a) (Is_wanted dir tc) (k _ (inr (inl refl)))) (one (Reaches home a) (told (Setup []) u.0) (u.1, u.2)))
back_case home T a d0 e0 a0 ss s (set_it dir tc ne) k =
    let u = k _ (inl refl) in
    let e = same_default T a d0 u.0 e0 a0 u.2 in
    let v = k _ (inr (inr (inl refl))) in
    let c = v.1 in
    let R : List ℕ → Type 0 = λ z. Reaches home a (told (Load (home tc) z) v.0) in
    let S : List ℕ → Type 0 = λ z. Reaches home a (told (Load (home z) u.0.default) v.0) in
    let W : List ℕ → Type 0 = λ z. Holds home a (Is_wanted dir z) in
    let P : List ℕ → Type 0 = λ z. Holds home a (Is_reached (Setup z)) in
    subst P v.5
    (by_told home a _ _ _ (setup u.0 v.0 dir c (λ x. ne (sym v.5 ∙ x ∙ e)) v.4) (one (Holds home a) (Is_wanted dir c.name) (subst W (sym v.5) (k _ (inr (inl refl)))))
    (two (Reaches home a) (told (Setup []) u.0) (told (Load (home c.name) u.0.default) v.0) (u.1, u.2) (subst S (sym v.5) (subst R (sym e) (v.2, v.3)))))
back_case home T a d0 e0 a0 ss s (other_it dir tc ne) k =
    let u = k _ (inl refl) in
    let e = same_default T a d0 u.0 e0 a0 u.2 in
    let v = k _ (inr (inr (inl refl))) in
    by_told home a _ _ _ (other_load u.0 v.0 dir tc (λ x. ne (x ∙ e))) (one (Holds home a) (Is_wanted dir tc) (k _ (inr (inl refl))))
    (two (Reaches home a) (told (Setup []) u.0) (told (Setup tc) v.0) (u.1, u.2) (v.1, v.2))

means : (home : List ℕ → List ℕ) (T : List ℕ) (a : Units) (d0 : Done) → d0.default ≡ T → a (Setup []) ≡ Some (Some d0) → (s : Step) → Follows home T a s → Means home T a s
means home T a d0 e0 a0 s (by_ground ss s' r k) = back_case home T a d0 e0 a0 ss s' r (λ p i. means home T a d0 e0 a0 p (k p i))

pub follows_holds : (home : List ℕ → List ℕ) (T : List ℕ) (a : Units) (d0 : Done) → d0.default ≡ T → a (Setup []) ≡ Some (Some d0) → (f : Fact) → Follows home T a (Holding f) → Holds home a f
follows_holds home T a d0 e0 a0 f h = means home T a d0 e0 a0 (Holding f) h
