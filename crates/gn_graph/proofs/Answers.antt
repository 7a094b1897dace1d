-- One more answer.
use Rattle.std.proofs.Common.{◌≡◌, ℕ, List, [], ◌∷◌, ◌++◌, Option, Some, None, ◌⊎◌, inl, inr, refl, sym, ◌∙◌, ap, subst, Bool, true, false, cond}
use Rattle.std.specs.List.{flat_map}
use Rattle.std.proofs.lemmas.List.{append_assoc, append-nil}
use Rattle.gn_closure.specs.Closure.{Horn, In}
use Rattle.gn_closure.specs.Reach.{Unit_key, Setup, Done}
use Rattle.gn_closure.specs.Ground.{Step}
use Rattle.gn_closure.specs.Computed.{same_unit, start_rules}
use Rattle.gn_closure.proofs.SameStep.{unit_is, unit_own}
use Rattle.gn_closure.proofs.Opened.{in_append}
use Rattle.gn_graph.specs.Replies.{Reply, units_in, AreSingle, default_in, named, reply_rules, rules_by, all_rules, more_rules, after}

abbrev pub or_else : {A : Type 0} → Option A → Option A → Option A
or_else None y = y
or_else (Some x) y = Some x

pub units_in-append : (rs qs : List Reply) (k : Unit_key) → units_in (rs ++ qs) k ≡ or_else (units_in rs k) (units_in qs k)
units_in-append [] qs k = refl
units_in-append (r ∷ rs) qs k = by (units_in-append rs qs k) (same_unit r.unit k)
  where
    by : units_in (rs ++ qs) k ≡ or_else (units_in rs k) (units_in qs k) → (b : Bool) → cond b (Some r.done) (units_in (rs ++ qs) k) ≡ or_else (cond b (Some r.done) (units_in rs k)) (units_in qs k)
    by rest true = refl
    by rest false = rest

own_in : (r : Reply) → units_in (r ∷ []) r.unit ≡ Some r.done
own_in r = ap (λ b. cond b (Some r.done) None) (unit_own r.unit)

pub single_more : (rs : List Reply) (r : Reply) → AreSingle rs → units_in rs r.unit ≡ None → AreSingle (rs ++ r ∷ [])
single_more rs r s n q i = units_in-append rs (r ∷ []) q.unit ∙ go (in_append rs (r ∷ []) q i)
  where
    go : In rs q ⊎ In (r ∷ []) q → or_else (units_in rs q.unit) (units_in (r ∷ []) q.unit) ≡ Some q.done
    go (inl a) = ap (λ z. or_else z (units_in (r ∷ []) q.unit)) (s q a)
    go (inr (inl e)) = subst (λ (z : Reply). or_else (units_in rs z.unit) (units_in (r ∷ []) z.unit) ≡ Some z.done) e (ap (λ z. or_else z (units_in (r ∷ []) r.unit)) n ∙ own_in r)
    go (inr (inr b)) = absurd b

not_named : (rs : List Reply) (r : Reply) (x : Option Done) → units_in rs r.unit ≡ None → units_in rs (Setup []) ≡ Some x → named r ≡ None
not_named rs r x n e = by (same_unit r.unit (Setup [])) refl
  where
    by : (b : Bool) → same_unit r.unit (Setup []) ≡ b → default_in (cond b (Some r.done) None) ≡ None
    by true s = let f : units_in rs r.unit ≡ Some x = ap (units_in rs) (unit_is r.unit (Setup []) s) ∙ e in absurd (cc (n, f))
    by false s = refl

pub default_more : (rs : List Reply) (r : Reply) → units_in rs r.unit ≡ None → default_in (units_in (rs ++ r ∷ []) (Setup [])) ≡ after (default_in (units_in rs (Setup []))) (named r)
default_more rs r n = ap default_in (units_in-append rs (r ∷ []) (Setup [])) ∙ by (units_in rs (Setup [])) refl
  where
    by : (x : Option (Option Done)) → units_in rs (Setup []) ≡ x → default_in (or_else x (units_in (r ∷ []) (Setup []))) ≡ after (default_in x) (named r)
    by None e = refl
    by (Some None) e = sym (not_named rs r None n e)
    by (Some (Some d)) e = refl

flat_more : (f : Reply → List (Horn Step)) (rs : List Reply) (r : Reply) → flat_map f (rs ++ r ∷ []) ≡ flat_map f rs ++ f r
flat_more f [] r = append-nil (f r)
flat_more f (q ∷ rs) r = ap (λ z. f q ++ z) (flat_more f rs r) ∙ sym (append_assoc (f q) (flat_map f rs) (f r))

pub rules_more : (rs : List Reply) (r : Reply) → units_in rs r.unit ≡ None → all_rules rs ++ more_rules (default_in (units_in rs (Setup []))) (named r) rs r ≡ all_rules (rs ++ r ∷ [])
rules_more rs r n = by (default_in (units_in rs (Setup []))) ∙ ap (λ z. start_rules ++ rules_by z (rs ++ r ∷ [])) (sym (default_more rs r n))
  where
    by : (o : Option (List ℕ)) → (start_rules ++ rules_by o rs) ++ more_rules o (named r) rs r ≡ start_rules ++ rules_by (after o (named r)) (rs ++ r ∷ [])
    by None = refl
    by (Some t) = append_assoc start_rules (rules_by (Some t) rs) (reply_rules t r) ∙ ap (λ z. start_rules ++ z) (sym (flat_more (reply_rules t) rs r))

-- where the default toolchain is known, the rules of one more answer don't hang on the answers before
pub early_more : (o q : Option (List ℕ)) (es rs : List Reply) (r : Reply) → (o ≡ None → es ≡ rs) → more_rules o q es r ≡ more_rules o q rs r
early_more None q es rs r same = ap (λ (z : List Reply). rules_by q (z ++ r ∷ [])) (same refl)
early_more (Some t) q es rs r same = refl

pub after_none : (o q : Option (List ℕ)) → after o q ≡ None → o ≡ None
after_none None q e = refl
after_none (Some t) q e = e
