-- Candidates by their numbers.
use Rattle.std.proofs.Common.{◌≡◌, ℕ, List, [], ◌∷◌, Bool, true, false, cond, ◌||◌, ◌&&◌, Option, Some, None, slice_get, refl, sym, ◌∙◌, ap, subst, nat_eq, nat_cmp, eqb-true, arith, true≢false, is_eq}
use Rattle.std.specs.declared.cmp.Ordering.{Ordering}
use Rattle.std.specs.declared.cmp.Ordering.TheVariants.{Less, Equal, Greater}
use Rattle.std.specs.Ordering.{is_gt, ordering_then, ordering_reverse, match_ordering}
use Rattle.std.specs.BTreeSet.{BTreeSet, contains, insert_key}
use Rattle.std.specs.Cmp.{tied_itself}
use Rattle.std.proofs.lemmas.Bool.Decides.{nat_tests}
use Rattle.gn_basics.proofs.Orders.{texts_total, less_from_test}
use Rattle.gn_labels.specs.declared.label.Label.{Label}
use Rattle.gn_labels.specs.contracts.key.LabelKeyOrd.TheImpl.{cmp-value as key-cmp}
use Rattle.gn_labels.specs.Keys.{key_of}
use Rattle.gn_labels.specs.Labels.{order_key, label_order, is_before}
use Rattle.gn_chains.specs.declared.candidates.Candidate.{Candidate}
use Rattle.gn_chains.specs.contracts.candidates.CandidateOrd.TheImpl.{cmp-value}
use Rattle.gn_chains.specs.Numbers.{one_before, number_before}
use Rattle.gn_chains.specs.Candidates.{key_at, candidate_at, AreCandidates, IsOffered}
use Rattle.gn_chains.proofs.Among.{or_false, or_true}

-- keys of labels are in label order
abbrev pub InLabelOrder : Type 0
InLabelOrder = (default : List ℕ) (a b : Label) → key-cmp.it (key_of default a) (key_of default b) ≡ label_order default a b

key_itself : InLabelOrder → (default : List ℕ) (o : Option Label) → key-cmp.it (key_at default o) (key_at default o) ≡ Equal
key_itself ordered default None = refl
key_itself ordered default (Some a) = ordered default a a ∙ tied_itself texts_total (order_key default a)

tested_by : (r : Ordering) (m n : ℕ) → (nat_eq n m ≡ true → r ≡ Equal) → is_eq (ordering_then r (nat_cmp m n)) ≡ nat_eq n m
tested_by Equal m n h = test m n
  where
    test : (m n : ℕ) → is_eq (nat_cmp m n) ≡ nat_eq n m
    test m n = grind (arith, nat_tests)
tested_by Less m n h = other (nat_eq n m) refl
  where
    other : (b : Bool) → nat_eq n m ≡ b → false ≡ nat_eq n m
    other true e = absurd (cc (h e))
    other false e = sym e
tested_by Greater m n h = other (nat_eq n m) refl
  where
    other : (b : Bool) → nat_eq n m ≡ b → false ≡ nat_eq n m
    other true e = absurd (cc (h e))
    other false e = sym e

-- two candidates are equal exactly where they have one number
pub one_candidate : InLabelOrder → (default : List ℕ) (ws : List Label) (m n : ℕ) → is_eq (cmp-value.it (candidate_at default ws m) (candidate_at default ws n)) ≡ nat_eq n m
one_candidate ordered default ws m n =
    tested_by (key-cmp.it (key_at default (slice_get ws m)) (key_at default (slice_get ws n))) m n
    (λ e. ap (λ k. key-cmp.it (key_at default (slice_get ws m)) (key_at default (slice_get ws k))) (eqb-true n m e) ∙ key_itself ordered default (slice_get ws m))

-- what isn't greater doesn't stand behind
pub in_order : InLabelOrder → (default : List ℕ) (ws : List Label) (x y : ℕ) → is_gt (cmp-value.it (candidate_at default ws x) (candidate_at default ws y)) ≡ false → number_before default ws y x ≡ false
in_order ordered default ws x y h = by (slice_get ws x) (slice_get ws y) h
  where
    greater : (r : Ordering) → r ≡ Greater → is_gt (ordering_then r (nat_cmp x y)) ≡ true
    greater r e = ap (λ z. is_gt (ordering_then z (nat_cmp x y))) e

    by : (o p : Option Label) → is_gt (ordering_then (key-cmp.it (key_at default o) (key_at default p)) (nat_cmp x y)) ≡ false → one_before default p o ≡ false
    by None None h = refl
    by None (Some b) h = refl
    by (Some a) None h = refl
    by (Some a) (Some b) h = test (is_before default b a) refl
      where
        test : (t : Bool) → is_before default b a ≡ t → is_before default b a ≡ false
        test false e = e
        test true e =
            let l : label_order default b a ≡ Less = less_from_test _ e in
            let g : label_order default a b ≡ Greater = texts_total.antisymm (order_key default a) (order_key default b) ∙ ap ordering_reverse l in
            absurd (true≢false (sym (greater (key-cmp.it (key_of default a) (key_of default b)) (ordered default a b ∙ g)) ∙ h))

-- ---- one candidate more
kept_put : (default : List ℕ) (ws : List Label) (k : Candidate) (ks : List Candidate) → k ≡ candidate_at default ws k.number → AreCandidates default ws ks → AreCandidates default ws (insert_key cmp-value.it ks k)
kept_put default ws k [] e h = (e, tt)
kept_put default ws k (x ∷ xs) e h = by (cmp-value.it k x) (kept_put default ws k xs e h.1)
  where
    by : (r : Ordering) → AreCandidates default ws (insert_key cmp-value.it xs k) → AreCandidates default ws (match_ordering r (k ∷ x ∷ xs) (x ∷ xs) (x ∷ insert_key cmp-value.it xs k))
    by Less i = (e, h)
    by Equal i = h
    by Greater i = (h.0, i)

or_cond : (b r : Bool) → cond b true r ≡ (r || b)
or_cond true r = sym (or_true r)
or_cond false r = sym (or_false r)

pub offered_one : InLabelOrder → (default : List ℕ) (ws : List Label) (old new : BTreeSet Candidate) (k : Candidate) (n : ℕ) → k ≡ candidate_at default ws n
    → ((q : Candidate) → contains cmp-value.it new q ≡ cond (is_eq (cmp-value.it k q)) true (contains cmp-value.it old q))
    → new.keys ≡ insert_key cmp-value.it old.keys k
    → IsOffered cmp-value.it default ws (λ q. nat_eq q n) old new
offered_one ordered default ws old new k n e updates keys = record {
  has = λ q. updates (candidate_at default ws q)
      ∙ ap (λ (z : Candidate). cond (is_eq (cmp-value.it z (candidate_at default ws q))) true (contains cmp-value.it old (candidate_at default ws q))) e
      ∙ ap (λ b. cond b true (contains cmp-value.it old (candidate_at default ws q))) (one_candidate ordered default ws n q)
      ∙ or_cond (nat_eq q n) (contains cmp-value.it old (candidate_at default ws q));
  kept = λ h. subst (λ (z : List Candidate). AreCandidates default ws z) (sym keys) (kept_put default ws k old.keys own h);
}
  where
    own : k ≡ candidate_at default ws k.number
    own = e ∙ sym (ap (λ (z : Candidate). candidate_at default ws z.number) e)

-- ---- offers, one after the other
module _ (cmp : Candidate → Candidate → Ordering) (default : List ℕ) (ws : List Label) where
  pub none_offered : (test : ℕ → Bool) (old : BTreeSet Candidate) → ((q : ℕ) → test q ≡ false) → IsOffered cmp default ws test old old
  none_offered test old none = record {
    has = λ q. sym (ap (λ b. contains cmp old (candidate_at default ws q) || b) (none q) ∙ or_false (contains cmp old (candidate_at default ws q)));
    kept = λ h. h;
  }

  pub offered_as : (test test' : ℕ → Bool) (old new : BTreeSet Candidate) → ((q : ℕ) → test q ≡ test' q) → IsOffered cmp default ws test old new → IsOffered cmp default ws test' old new
  offered_as test test' old new same o = record {
    has = λ q. o.has q ∙ ap (λ b. contains cmp old (candidate_at default ws q) || b) (same q);
    kept = o.kept;
  }

  or_assoc : (a b c : Bool) → ((a || b) || c) ≡ (a || (b || c))
  or_assoc true b c = refl
  or_assoc false b c = refl

  pub offered_then : (one two all : ℕ → Bool) (old mid new : BTreeSet Candidate) → ((q : ℕ) → (one q || two q) ≡ all q)
      → IsOffered cmp default ws one old mid → IsOffered cmp default ws two mid new → IsOffered cmp default ws all old new
  offered_then one two all old mid new same a b = record {
    has = λ q. b.has q ∙ ap (λ c. c || two q) (a.has q) ∙ or_assoc (contains cmp old (candidate_at default ws q)) (one q) (two q)
        ∙ ap (λ c. contains cmp old (candidate_at default ws q) || c) (same q);
    kept = λ h. b.kept (a.kept h);
  }

-- ---- tests
pub with_both : (a e z : Bool) → ((a && z) || (e && z)) ≡ ((a || e) && z)
with_both true e true = refl
with_both true e false = with_false e
  where
    with_false : (e : Bool) → (e && false) ≡ false
    with_false true = refl
    with_false false = refl
with_both false e z = refl

-- a test that holds at one number alone
pub at_number : (z : ℕ → Bool) (n q : ℕ) → z n ≡ true → nat_eq q n ≡ (nat_eq q n && z q)
at_number z n q h = by (nat_eq q n) refl
  where
    by : (b : Bool) → nat_eq q n ≡ b → nat_eq q n ≡ (nat_eq q n && z q)
    by true e = e ∙ sym (ap (λ c. c && z q) e ∙ ap z (eqb-true q n e) ∙ h)
    by false e = e ∙ sym (ap (λ c. c && z q) e)

pub not_at_number : (z : ℕ → Bool) (n q : ℕ) → z n ≡ false → (nat_eq q n && z q) ≡ false
not_at_number z n q h = by (nat_eq q n) refl
  where
    by : (b : Bool) → nat_eq q n ≡ b → (nat_eq q n && z q) ≡ false
    by true e = ap (λ c. c && z q) e ∙ ap z (eqb-true q n e) ∙ h
    by false e = ap (λ c. c && z q) e

-- ---- the first candidate
pub first_number : (default : List ℕ) (ws : List Label) (old new : BTreeSet Candidate) (c : Candidate) → AreCandidates default ws old.keys → old.keys ≡ c ∷ new.keys
    → (c ≡ candidate_at default ws c.number) × AreCandidates default ws new.keys
first_number default ws old new c h e = subst (λ (z : List Candidate). AreCandidates default ws z) e h
