-- Values as trees of numbers, one to one, so that a value is told from every other.
use Rattle.std.specs.Prelude.{◌≡◌, ℕ, zero, suc, pos, negsuc, List, [], ◌∷◌, true, false, refl}
use Rattle.std.proofs.Common.{sym, ◌∙◌, ap}
use Rattle.std.specs.Coded.{Coded}
use base.Stored.{Gv, gnil, gnum, gcons}
use Rattle.gn_values.specs.Val.{Val, vbool, vint, vstr, vlist, vscope, Vals, no_vals, val_then, Binds, no_binds, bind_then}

abbrev text_g : List ℕ → Gv
text_g [] = gnil
text_g (b ∷ bs) = gcons (gnum b) (text_g bs)

abbrev num_back : Gv → ℕ
num_back (gnum n) = n
num_back gnil = 0
num_back (gcons a b) = 0

abbrev text_back : Gv → List ℕ
text_back gnil = []
text_back (gnum n) = []
text_back (gcons a b) = num_back a ∷ text_back b

abbrev mutual
  pub val_g : Val → Gv
  val_g (vbool false) = gnum 0
  val_g (vbool true) = gnum 1
  val_g (vint (pos n)) = gcons (gnum 0) (gnum n)
  val_g (vint (negsuc n)) = gcons (gnum 1) (gnum n)
  val_g (vstr bs) = gcons (gnum 2) (text_g bs)
  val_g (vlist vs) = gcons (gnum 3) (vals_g vs)
  val_g (vscope bs) = gcons (gnum 4) (binds_g bs)

  pub vals_g : Vals → Gv
  vals_g no_vals = gnil
  vals_g (val_then v vs) = gcons (val_g v) (vals_g vs)

  pub binds_g : Binds → Gv
  binds_g no_binds = gnil
  binds_g (bind_then n v bs) = gcons (gcons (text_g n) (val_g v)) (binds_g bs)

-- by the tag in front
abbrev tagged : ℕ → ℕ → List ℕ → Vals → Binds → Val
tagged zero n t vs bs = vint (pos n)
tagged (suc zero) n t vs bs = vint (negsuc n)
tagged (suc (suc zero)) n t vs bs = vstr t
tagged (suc (suc (suc zero))) n t vs bs = vlist vs
tagged (suc (suc (suc (suc k)))) n t vs bs = vscope bs

abbrev bool_back : ℕ → Val
bool_back zero = vbool false
bool_back (suc n) = vbool true

abbrev mutual
  val_back : Gv → Val
  val_back gnil = vbool false
  val_back (gnum n) = bool_back n
  val_back (gcons a b) = tagged (num_back a) (num_back b) (text_back b) (vals_back b) (binds_back b)

  vals_back : Gv → Vals
  vals_back gnil = no_vals
  vals_back (gnum n) = no_vals
  vals_back (gcons a b) = val_then (val_back a) (vals_back b)

  binds_back : Gv → Binds
  binds_back gnil = no_binds
  binds_back (gnum n) = no_binds
  binds_back (gcons (gcons n v) b) = bind_then (text_back n) (val_back v) (binds_back b)
  binds_back (gcons gnil b) = no_binds
  binds_back (gcons (gnum n) b) = no_binds

text_there : (bs : List ℕ) → text_back (text_g bs) ≡ bs
text_there [] = refl
text_there (b ∷ bs) = ap (λ r. b ∷ r) (text_there bs)

mutual
  val_there : (v : Val) → val_back (val_g v) ≡ v
  val_there (vbool false) = refl
  val_there (vbool true) = refl
  val_there (vint (pos n)) = refl
  val_there (vint (negsuc n)) = refl
  val_there (vstr bs) = ap vstr (text_there bs)
  val_there (vlist vs) = ap vlist (vals_there vs)
  val_there (vscope bs) = ap vscope (binds_there bs)

  vals_there : (vs : Vals) → vals_back (vals_g vs) ≡ vs
  vals_there no_vals = refl
  vals_there (val_then v vs) = λ i. val_then (val_there v i) (vals_there vs i)

  binds_there : (bs : Binds) → binds_back (binds_g bs) ≡ bs
  binds_there no_binds = refl
  binds_there (bind_then n v bs) = λ i. bind_then (text_there n i) (val_there v i) (binds_there bs i)

pub val_inj : (x y : Val) → val_g x ≡ val_g y → x ≡ y
val_inj x y p = sym (val_there x) ∙ ap val_back p ∙ val_there y

abbrev pub val_code : Coded Val
val_code = record { code = val_g; inj = val_inj }
