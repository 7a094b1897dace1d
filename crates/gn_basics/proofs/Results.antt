-- What follows from what a call answers, and what a reference shows.
use Rattle.std.specs.Prelude.{IfOk}
use Rattle.std.proofs.Common.{◌≡◌, Result, Ok, Err, OnErr, Option, Some, None, option_map, option_copied, Bor, refl}

pub on_err_too : {T E : Type 0} (r : Result T E) (P : Type 0) → P → OnErr r P
on_err_too (Ok x) P p = tt
on_err_too (Err e) P p = p

-- what follows from what is said of a good end
pub if_ok : {A E : Type 0} {P Q : A → Type 0} (r : Result A E) → ((x : A) → P x → Q x) → IfOk r P → IfOk r Q
if_ok (Ok x) more h = more x h
if_ok (Err e) more h = tt

-- what a reference shows
pub shown : {X Y : Type 0} (g : X → Y) (r : Option (Bor X)) → option_map (λ v. g v.now) r ≡ option_map g (option_copied r)
shown g None = refl
shown g (Some v) = refl
