-- What follows from what holds of a call's answer.
use Rattle.std.proofs.Common.{Result, Ok, Err, OnOk, OnErr, IfErr}
pub use Rattle.gn_basics.proofs.Results.{on_err_too}

module _ {T E : Type 0} where
  pub on_ok : (r : Result T E) (P Q : Type 0) → (P → Q) → OnOk r P → OnOk r Q
  on_ok (Ok x) P Q f p = f p
  on_ok (Err e) P Q f p = tt

  pub on_ok_both : (r : Result T E) (P Q R : Type 0) → (P → Q → R) → OnOk r P → OnOk r Q → OnOk r R
  on_ok_both (Ok x) P Q R f p q = f p q
  on_ok_both (Err e) P Q R f p q = tt

  pub on_ok_three : (r : Result T E) (P Q R S : Type 0) → (P → Q → R → S) → OnOk r P → OnOk r Q → OnOk r R → OnOk r S
  on_ok_three (Ok x) P Q R S f p q s = f p q s
  on_ok_three (Err e) P Q R S f p q s = tt

  pub on_err : (r : Result T E) (P Q : Type 0) → (P → Q) → OnErr r P → OnErr r Q
  on_err (Ok x) P Q f p = tt
  on_err (Err e) P Q f p = f p

  pub if_err : (r : Result T E) (P Q : E → Type 0) → ((e : E) → P e → Q e) → IfErr r P → IfErr r Q
  if_err (Ok x) P Q f p = tt
  if_err (Err e) P Q f p = f e p

  pub if_err_both : (r : Result T E) (P Q : E → Type 0) (R : Type 0) → ((e : E) → P e → R → Q e) → IfErr r P → OnErr r R → IfErr r Q
  if_err_both (Ok x) P Q R f p q = tt
  if_err_both (Err e) P Q R f p q = f e p q

  pub always : (r : Result T E) (P : Type 0) → OnOk r P → OnErr r P → P
  always (Ok x) P p q = p
  always (Err e) P p q = q
