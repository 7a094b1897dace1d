-- Facts by number, and rules over numbers that stand for rules over facts.
use Rattle.std.proofs.Common.{◌≡◌, ℕ, zero, suc, List, [], ◌∷◌, ◌++◌, true}
use Rattle.std.proofs.Common.{◌||◌, Option, Some, slice_get, unwrap_or, refl, sym, ◌∙◌, ap, subst, inl, inr, nat_eq, eqb-true}
use Rattle.gn_closure.specs.Closure.{Horn, In}
use Rattle.gn_closure.specs.Ground.{Step, Set_up}
use Rattle.gn_graph.specs.Clauses.{has}
use Rattle.gn_graph.specs.Numbers.{Extends, Grows, AreAt, StandsFor, StandFor, fact_of, facts_of, horn_at, horns_at}
use Rattle.gn_graph.proofs.Has.{or_true, either, has_own}

pub grows_more : (ss ts : List Step) → Grows ss (ss ++ ts)
grows_more [] ts n s e = absurd (cc e)
grows_more (x ∷ ss) ts zero s e = e
grows_more (x ∷ ss) ts (suc n) s e = grows_more ss ts n s e

pub grows_on : (a b c : List Step) → Grows a b → Grows b c → Grows a c
grows_on a b c f g n s e = g n s (f n s e)

pub extends_on : (a b c : List Step) → Extends a b → Extends b c → Extends a c
extends_on a b c f g = (grows_on a b c f.0 g.0, λ t. g.1 (f.1 t))

pub at_grows : (ss new : List Step) → Grows ss new → (ns : List ℕ) (ts : List Step) → AreAt ss ns ts → AreAt new ns ts
at_grows ss new g [] [] a = tt
at_grows ss new g [] (t ∷ ts) a = absurd a
at_grows ss new g (n ∷ ns) [] a = absurd a
at_grows ss new g (n ∷ ns) (t ∷ ts) a = (g n t a.0, at_grows ss new g ns ts a.1)

pub stands_grows : (ss new : List Step) → Grows ss new → (r : Horn ℕ) (h : Horn Step) → StandsFor ss r h → StandsFor new r h
stands_grows ss new g r h a = (at_grows ss new g r.needs h.needs a.0, g r.gives h.gives a.1)

pub stand_grows : (ss new : List Step) → Grows ss new → (rs : List (Horn ℕ)) (hs : List (Horn Step)) → StandFor ss rs hs → StandFor new rs hs
stand_grows ss new g [] [] a = tt
stand_grows ss new g [] (h ∷ hs) a = absurd a
stand_grows ss new g (r ∷ rs) [] a = absurd a
stand_grows ss new g (r ∷ rs) (h ∷ hs) a = (stands_grows ss new g r h a.0, stand_grows ss new g rs hs a.1)

pub at_push : (ss : List Step) (ns : List ℕ) (ts : List Step) (n : ℕ) (t : Step) → AreAt ss ns ts → slice_get ss n ≡ Some t → AreAt ss (ns ++ n ∷ []) (ts ++ t ∷ [])
at_push ss [] [] n t a e = (e, tt)
at_push ss [] (u ∷ ts) n t a e = absurd a
at_push ss (m ∷ ns) [] n t a e = absurd a
at_push ss (m ∷ ns) (u ∷ ts) n t a e = (a.0, at_push ss ns ts n t a.1 e)

pub stand_more : (ss : List Step) (rs : List (Horn ℕ)) (hs : List (Horn Step)) (qs : List (Horn ℕ)) (gs : List (Horn Step)) → StandFor ss rs hs → StandFor ss qs gs → StandFor ss (rs ++ qs) (hs ++ gs)
stand_more ss [] [] qs gs a b = b
stand_more ss [] (h ∷ hs) qs gs a b = absurd a
stand_more ss (r ∷ rs) [] qs gs a b = absurd a
stand_more ss (r ∷ rs) (h ∷ hs) qs gs a b = (a.0, stand_more ss rs hs qs gs a.1 b)

pub fact_is : (ss : List Step) (n : ℕ) (t : Step) → slice_get ss n ≡ Some t → fact_of ss n ≡ t
fact_is ss n t e = ap (λ (z : Option Step). unwrap_or z (Set_up [])) e

pub at_is : (ss : List Step) (ns : List ℕ) (ts : List Step) → AreAt ss ns ts → facts_of ss ns ≡ ts
at_is ss [] [] a = refl
at_is ss [] (t ∷ ts) a = absurd a
at_is ss (n ∷ ns) [] a = absurd a
at_is ss (n ∷ ns) (t ∷ ts) a = (λ i. fact_is ss n t a.0 i ∷ at_is ss ns ts a.1 i)

pub horn_is : (ss : List Step) (r : Horn ℕ) (h : Horn Step) → StandsFor ss r h → horn_at ss r ≡ h
horn_is ss r h a = (λ i. record { needs = at_is ss r.needs h.needs a.0 i; gives = fact_is ss r.gives h.gives a.1 i })

pub horns_is : (ss : List Step) (rs : List (Horn ℕ)) (hs : List (Horn Step)) → StandFor ss rs hs → horns_at ss rs ≡ hs
horns_is ss [] [] a = refl
horns_is ss [] (h ∷ hs) a = absurd a
horns_is ss (r ∷ rs) [] a = absurd a
horns_is ss (r ∷ rs) (h ∷ hs) a = (λ i. horn_is ss r h a.0 i ∷ horns_is ss rs hs a.1 i)

-- what is there stays itself
pub own_at : (ss : List Step) (ns : List ℕ) → ((n : ℕ) → has ns n ≡ true → slice_get ss n ≡ Some (fact_of ss n)) → AreAt ss ns (facts_of ss ns)
own_at ss [] f = tt
own_at ss (n ∷ ns) f = (f n (has_own n ns), own_at ss ns (λ m e. f m (ap (λ b. nat_eq m n || b) e ∙ or_true (nat_eq m n))))

pub at_has : (ss : List Step) (ns : List ℕ) (ts : List Step) → AreAt ss ns ts → (n : ℕ) → has ns n ≡ true → slice_get ss n ≡ Some (fact_of ss n)
at_has ss [] ts a n e = absurd (cc e)
at_has ss (m ∷ ns) [] a n e = absurd a
at_has ss (m ∷ ns) (t ∷ ts) a n e = elim (either (nat_eq n m) (has ns n) e) [
  | inl b ↦ let k : n ≡ m = eqb-true n m b in let g : slice_get ss n ≡ Some t = ap (slice_get ss) k ∙ a.0 in g ∙ ap Some (sym (fact_is ss n t g))
  | inr b ↦ at_has ss ns ts a.1 n b
]

pub stand_at : (ss : List Step) (rs : List (Horn ℕ)) → StandFor ss rs (horns_at ss rs) → (i : ℕ) (r : Horn ℕ) → slice_get rs i ≡ Some r → StandsFor ss r (horn_at ss r)
stand_at ss [] a i r e = absurd (cc e)
stand_at ss (x ∷ rs) a zero r e = let s : x ≡ r = cc e in subst (λ (z : Horn ℕ). StandsFor ss z (horn_at ss z)) s a.0
stand_at ss (x ∷ rs) a (suc i) r e = stand_at ss rs a.1 i r e

-- members
pub in_facts : (ss : List Step) (ns : List ℕ) (s : Step) → In (facts_of ss ns) s → (n : ℕ) × (has ns n ≡ true) × (fact_of ss n ≡ s)
in_facts ss [] s i = absurd i
in_facts ss (n ∷ ns) s (inl e) = (n, has_own n ns, e)
in_facts ss (n ∷ ns) s (inr i) = let q = in_facts ss ns s i in (q.0, ap (λ b. nat_eq q.0 n || b) q.1 ∙ or_true (nat_eq q.0 n), q.2)

pub facts_in : (ss : List Step) (ns : List ℕ) (n : ℕ) → has ns n ≡ true → In (facts_of ss ns) (fact_of ss n)
facts_in ss [] n e = absurd (cc e)
facts_in ss (m ∷ ns) n e = elim (either (nat_eq n m) (has ns n) e) [
  | inl b ↦ inl (ap (fact_of ss) (sym (eqb-true n m b)))
  | inr b ↦ inr (facts_in ss ns n b)
]

pub in_horns : (ss : List Step) (rs : List (Horn ℕ)) (h : Horn Step) → In (horns_at ss rs) h → (i : ℕ) × (r : Horn ℕ) × (slice_get rs i ≡ Some r) × (horn_at ss r ≡ h)
in_horns ss [] h i = absurd i
in_horns ss (r ∷ rs) h (inl e) = (0, r, refl, e)
in_horns ss (r ∷ rs) h (inr i) = let q = in_horns ss rs h i in (suc q.0, q.1, q.2, q.3)

pub horns_in : (ss : List Step) (rs : List (Horn ℕ)) (i : ℕ) (r : Horn ℕ) → slice_get rs i ≡ Some r → In (horns_at ss rs) (horn_at ss r)
horns_in ss [] i r e = absurd (cc e)
horns_in ss (x ∷ rs) zero r e = let s : x ≡ r = cc e in inl (ap (horn_at ss) s)
horns_in ss (x ∷ rs) (suc i) r e = inr (horns_in ss rs i r e)
