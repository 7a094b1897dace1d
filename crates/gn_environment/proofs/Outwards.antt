-- The first layer that has a name: where it is found, what a read does to it, and that the read changes no value.
use Rattle.std.proofs.Common.{◌≡◌, ℕ, zero, suc, ◌+◌, ◌<◌, true, false, cond, List, [], ◌∷◌, length, take, get_or, Option, Some, None, is_some, Ordering, refl, sym, ap, ◌∙◌, subst, arith}
use Rattle.std.specs.Prelude.{slice_set}
use Rattle.std.specs.Ordering.{is_eq, match_ordering}
use Rattle.std.specs.declared.cmp.Ordering.TheVariants.{Less, Equal, Greater}
use Rattle.std.specs.Cmp.Lexicographic.{nat_list_cmp_total}
use Rattle.std.specs.Cmp.{tied_itself}
use Rattle.gn_values.specs.Val.{Val}
use Rattle.gn_environment.proofs.Names.{order, by_answer}
use Rattle.gn_values.specs.Tables.{Table, at_name, with_name}
use Rattle.gn_environment.specs.Layers.{VariableState, LayerState, ChainState}
use Rattle.gn_environment.specs.Environment.{Environment, fixed_value, behind, value_of, after_read}
use Rattle.gn_environment.specs.Chains.{variable_in, nearest, variable_of, read_variable, read_of, read_in, read_through, marked, IsFirstAt, shown_or, chain_variable, chain_value, chain_read, chain_read_of}

nothing_there : {A : Type 0} (o : Option A) → is_some o ≡ false → o ≡ None
nothing_there None h = refl
nothing_there (Some a) h = cc

nearest_here : {A : Type 0} (o p : Option A) → is_some o ≡ true → nearest o p ≡ o
nearest_here None p h = cc
nearest_here (Some a) p h = refl

nearest_none : {A : Type 0} (o p : Option A) → nearest o p ≡ None → (o ≡ None) × (p ≡ None)
nearest_none None p h = (refl, h)
nearest_none (Some a) p h = (h, cc)

module _ (name : List ℕ) where
  read_here : (l : LayerState) (ls further : List LayerState) (o : Option VariableState) → is_some o ≡ true → read_of name l o ∷ ls ≡ read_through name l ls o further
  read_here l ls further None h = cc
  read_here l ls further (Some v) h = refl

  -- one more layer looked at
  pub lacks_more : (ls : List LayerState) (i : ℕ) (x : LayerState) → i < length ls → x ≡ get_or ls i x → variable_of name (take i ls) ≡ None → is_some (variable_in name x) ≡ false → variable_of name (take (i + 1) ls) ≡ None
  lacks_more [] i x l is h n = absurd (omega arith)
  lacks_more (y ∷ ls) zero x l is h n =
      ap (λ l. nearest (variable_in name l) None) (sym is) ∙ ap (λ o. nearest o None) (nothing_there _ n)
  lacks_more (y ∷ ls) (suc i) x l is h n =
      let p : (variable_in name y ≡ None) × (variable_of name (take i ls) ≡ None) = nearest_none _ _ h in
      let e : suc i + 1 ≡ suc (i + 1) = omega arith in
      ap (λ k. variable_of name (take k (y ∷ ls))) e ∙ ap (λ o. nearest o (variable_of name (take (i + 1) ls))) p.0 ∙ lacks_more ls i x (omega arith) is p.1 n

  pub found_at : (ls : List LayerState) (i : ℕ) (x : LayerState) → i < length ls → x ≡ get_or ls i x → variable_of name (take i ls) ≡ None → is_some (variable_in name x) ≡ true → IsFirstAt name ls i
  found_at [] i x l is h n = absurd (omega arith)
  found_at (y ∷ ls) zero x l is h n = ap (λ l. is_some (variable_in name l)) (sym is) ∙ n
  found_at (y ∷ ls) (suc i) x l is h n = let p = nearest_none _ _ h in (p.0, found_at ls i x (omega arith) is p.1 n)

  pub below_length : (ls : List LayerState) (i : ℕ) → IsFirstAt name ls i → i < length ls
  below_length [] i f = absurd f
  below_length (y ∷ ls) zero f = omega arith
  below_length (y ∷ ls) (suc i) f = omega (arith, below_length ls i f.1)

  pub value_at_first : (ls : List LayerState) (i : ℕ) (x : LayerState) → IsFirstAt name ls i → x ≡ get_or ls i x → variable_of name ls ≡ variable_in name x
  value_at_first [] i x f is = absurd f
  value_at_first (y ∷ ls) zero x f is = nearest_here _ _ f ∙ ap (variable_in name) (sym is)
  value_at_first (y ∷ ls) (suc i) x f is = ap (λ v. nearest v (variable_of name ls)) f.0 ∙ value_at_first ls i x f.1 is

  pub marked_at_first : (ls : List LayerState) (i : ℕ) (x : LayerState) → IsFirstAt name ls i → x ≡ get_or ls i x → slice_set ls i (read_in name x) ≡ marked name ls
  marked_at_first [] i x f is = absurd f
  marked_at_first (y ∷ ls) zero x f is =
      ap (λ l. read_in name l ∷ ls) is ∙ read_here y ls (marked name ls) (variable_in name y) f
  marked_at_first (y ∷ ls) (suc i) x f is =
      ap (λ ms. y ∷ ms) (marked_at_first ls i x f.1 is) ∙ ap (λ o. read_through name y ls o (marked name ls)) (sym f.0)

  pub marked_nowhere : (ls : List LayerState) → variable_of name ls ≡ None → ls ≡ marked name ls
  marked_nowhere [] h = refl
  marked_nowhere (y ∷ ls) h =
      let p = nearest_none _ _ h in
      ap (λ ms. y ∷ ms) (marked_nowhere ls p.1) ∙ ap (λ o. read_through name y ls o (marked name ls)) (sym p.0)

  -- a name that was set is there
  found_step : {A : Type 0} (e : List ℕ × A) (es : Table A) (r : Ordering) → order name e.0 ≡ r → at_name name (e ∷ es) ≡ cond (is_eq r) (Some e.1) (at_name name es)
  found_step e es r h = ap (λ o. cond (is_eq o) (Some e.1) (at_name name es)) h

  set_step : {A : Type 0} (a : A) (e : List ℕ × A) (es : Table A) (r : Ordering) → order name e.0 ≡ r → with_name name a (e ∷ es) ≡ match_ordering r ((name, a) ∷ e ∷ es) ((e.0, a) ∷ es) (e ∷ with_name name a es)
  set_step a e es r h = ap (λ o. match_ordering o ((name, a) ∷ e ∷ es) ((e.0, a) ∷ es) (e ∷ with_name name a es)) h

  own_name : {A : Type 0} (a : A) (es : Table A) → at_name name ((name, a) ∷ es) ≡ Some a
  own_name a es = found_step (name, a) es Equal (tied_itself nat_list_cmp_total name)

  pub at_name-with_name : {A : Type 0} (a : A) (es : Table A) → at_name name (with_name name a es) ≡ Some a
  at_name-with_name a [] = own_name a []
  at_name-with_name a (e ∷ es) = by_answer (order name e.0)
      (λ h. ap (at_name name) (set_step a e es Less h) ∙ own_name a (e ∷ es))
      (λ h. ap (at_name name) (set_step a e es Equal h) ∙ found_step (e.0, a) es Equal h)
      (λ h. ap (at_name name) (set_step a e es Greater h) ∙ found_step e (with_name name a es) Greater h ∙ at_name-with_name a es)

  -- a read leaves a name where it is
  reads_there : (l : LayerState) (o : Option VariableState) → variable_in name l ≡ o → is_some o ≡ is_some (variable_in name (read_of name l o))
  reads_there l (Some v) h = ap is_some (sym (at_name-with_name (read_variable v) l.variables))
  reads_there l None h = ap is_some (sym h)

  pub stays_there : (l : LayerState) → is_some (variable_in name l) ≡ is_some (variable_in name (read_in name l))
  stays_there l = reads_there l (variable_in name l) refl

  first_there : (l : LayerState) (ls further : List LayerState) (o : Option VariableState) → is_some o ≡ true → IsFirstAt name (read_through name l ls o further) 0
  first_there l ls further None h = cc
  first_there l ls further (Some v) h = ap is_some (at_name-with_name (read_variable v) l.variables)

  pub stays_first : (ls : List LayerState) (i : ℕ) → IsFirstAt name ls i → IsFirstAt name (marked name ls) i
  stays_first [] i f = absurd f
  stays_first (l ∷ ls) zero f = first_there l ls (marked name ls) (variable_in name l) f
  stays_first (l ∷ ls) (suc i) f =
      subst (λ (o : Option VariableState). IsFirstAt name (read_through name l ls o (marked name ls)) (suc i)) (sym f.0) (f.0, stays_first ls i f.1)

  -- what a read finds at the place where a name is found
  pub found_outer : (chain : ChainState) (i : ℕ) (x : LayerState) → (variable_in name chain.inner ≡ None) × IsFirstAt name chain.outer i → x ≡ get_or chain.outer i x → shown_or (variable_in name x) None ≡ chain_value name chain
  unfolding chain_variable
  found_outer chain i x f is =
      ap (λ o. shown_or o None) (sym (value_at_first chain.outer i x f.1 is) ∙ ap (λ o. nearest o (variable_of name chain.outer)) (sym f.0))

  -- a read changes nothing of what a read finds
  module _ (beneath : Option Val) where
    value_kept : (l : LayerState) (ls : List LayerState) (o : Option VariableState) → variable_in name l ≡ o → shown_or (variable_of name (marked name ls)) beneath ≡ shown_or (variable_of name ls) beneath → shown_or (variable_of name (read_through name l ls o (marked name ls))) beneath ≡ shown_or (nearest o (variable_of name ls)) beneath
    value_kept l ls (Some v) h rest =
        ap (λ o. shown_or (nearest o (variable_of name ls)) beneath) (at_name-with_name (read_variable v) l.variables)
    value_kept l ls None h rest = ap (λ o. shown_or (nearest o (variable_of name (marked name ls))) beneath) h ∙ rest

    values_kept : (ls : List LayerState) → shown_or (variable_of name (marked name ls)) beneath ≡ shown_or (variable_of name ls) beneath
    values_kept [] = refl
    values_kept (l ∷ ls) = value_kept l ls (variable_in name l) refl (values_kept ls)

    chain_kept : (chain : ChainState) (o : Option VariableState) → variable_in name chain.inner ≡ o → shown_or (variable_of name ((chain_read_of name chain o).inner ∷ (chain_read_of name chain o).outer)) beneath ≡ shown_or (nearest o (variable_of name chain.outer)) beneath
    chain_kept chain (Some v) h = value_kept chain.inner chain.outer (Some v) h (values_kept chain.outer)
    chain_kept chain None h = value_kept chain.inner chain.outer None h (values_kept chain.outer)

    pub shown-chain_read : (chain : ChainState) → shown_or (chain_variable name (chain_read name chain)) beneath ≡ shown_or (chain_variable name chain) beneath
    unfolding chain_variable chain_read
    shown-chain_read chain = chain_kept chain (variable_in name chain.inner) refl

  pub chain_value-chain_read : (chain : ChainState) → chain_value name (chain_read name chain) ≡ chain_value name chain
  chain_value-chain_read chain = shown-chain_read None chain

  pub value_of-after_read : (env : Environment) → value_of name (after_read name env) ≡ value_of name env
  unfolding value_of after_read
  value_of-after_read env = shown-chain_read (fixed_value name (behind env)) env.chain
