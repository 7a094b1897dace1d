-- The test of facts decides whether they are one.
use Rattle.std.proofs.Common.{◌≡◌, ◌∙◌, ap, subst, true, ◌&&◌}
use Rattle.std.specs.Str.{bytes_eq}
use Rattle.std.proofs.lemmas.Slice.Eq.{bytes_eq-Decides}
use Rattle.std.specs.Bool.{Decides}
use Rattle.std.proofs.lemmas.Bool.{and_parts}
use Rattle.gn_basics.proofs.Texts.{bytes_eq-itself}
use Rattle.gn_labels.specs.declared.label.Label.{Label}
use Rattle.gn_closure.specs.Reach.{Unit_key, Setup, Load, Fact, Is_reached, Is_wanted, Is_generated, label}
use Rattle.gn_closure.specs.Ground.{Step, Holding, Asked, Used, Defined, Set_up}
use Rattle.gn_closure.specs.Computed.{same_unit, same_label, same_fact, same_step}

pub unit_is : (k q : Unit_key) → same_unit k q ≡ true → k ≡ q
unit_is (Setup a) (Setup b) h = ap Setup ((bytes_eq-Decides a b).0 h)
unit_is (Setup a) (Load d t) h = cc
unit_is (Load d t) (Setup b) h = cc
unit_is (Load d t) (Load e u) h = let p = and_parts (bytes_eq d e) (bytes_eq t u) h in let q = (bytes_eq-Decides d e).0 p.0 in let r = (bytes_eq-Decides t u).0 p.1 in cc (q, r)

pub unit_own : (k : Unit_key) → same_unit k k ≡ true
unit_own (Setup a) = bytes_eq-itself a
unit_own (Load d t) = rw (bytes_eq-itself d) (bytes_eq-itself t)

label_is : (l m : Label) → same_label l m ≡ true → l ≡ m
label_is l m h =
    let p = and_parts (bytes_eq l.dir m.dir) (bytes_eq l.name m.name && bytes_eq l.toolchain m.toolchain) h in
    let q = and_parts (bytes_eq l.name m.name) (bytes_eq l.toolchain m.toolchain) p.1 in
    let a : l.dir ≡ m.dir = (bytes_eq-Decides l.dir m.dir).0 p.0 in
    let b : l.name ≡ m.name = (bytes_eq-Decides l.name m.name).0 q.0 in
    let c : l.toolchain ≡ m.toolchain = (bytes_eq-Decides l.toolchain m.toolchain).0 q.1 in
    ap (λ z. label z l.name l.toolchain) a ∙ ap (λ z. label m.dir z l.toolchain) b ∙ ap (λ z. label m.dir m.name z) c

label_own : (l : Label) → same_label l l ≡ true
label_own l = rw (bytes_eq-itself l.dir, bytes_eq-itself l.name) (bytes_eq-itself l.toolchain)

fact_is : (f g : Fact) → same_fact f g ≡ true → f ≡ g
fact_is (Is_reached k) (Is_reached q) h = ap Is_reached (unit_is k q h)
fact_is (Is_reached k) (Is_wanted d t) h = cc
fact_is (Is_reached k) (Is_generated l) h = cc
fact_is (Is_wanted d t) (Is_reached k) h = cc
fact_is (Is_wanted d t) (Is_wanted e u) h = let p = and_parts (bytes_eq d e) (bytes_eq t u) h in let q = (bytes_eq-Decides d e).0 p.0 in let r = (bytes_eq-Decides t u).0 p.1 in cc (q, r)
fact_is (Is_wanted d t) (Is_generated l) h = cc
fact_is (Is_generated l) (Is_reached k) h = cc
fact_is (Is_generated l) (Is_wanted d t) h = cc
fact_is (Is_generated l) (Is_generated m) h = ap Is_generated (label_is l m h)

fact_own : (f : Fact) → same_fact f f ≡ true
fact_own (Is_reached k) = unit_own k
fact_own (Is_wanted d t) = rw (bytes_eq-itself d) (bytes_eq-itself t)
fact_own (Is_generated l) = label_own l

pub step_is : (s r : Step) → same_step s r ≡ true → s ≡ r
step_is (Holding f) (Holding g) h = ap Holding (fact_is f g h)
step_is (Holding f) (Asked l) h = cc
step_is (Holding f) (Used t) h = cc
step_is (Holding f) (Defined t) h = cc
step_is (Holding f) (Set_up t) h = cc
step_is (Asked l) (Holding f) h = cc
step_is (Asked l) (Asked m) h = ap Asked (label_is l m h)
step_is (Asked l) (Used t) h = cc
step_is (Asked l) (Defined t) h = cc
step_is (Asked l) (Set_up t) h = cc
step_is (Used t) (Holding f) h = cc
step_is (Used t) (Asked l) h = cc
step_is (Used t) (Used u) h = ap Used ((bytes_eq-Decides t u).0 h)
step_is (Used t) (Defined u) h = cc
step_is (Used t) (Set_up u) h = cc
step_is (Defined t) (Holding f) h = cc
step_is (Defined t) (Asked l) h = cc
step_is (Defined t) (Used u) h = cc
step_is (Defined t) (Defined u) h = ap Defined ((bytes_eq-Decides t u).0 h)
step_is (Defined t) (Set_up u) h = cc
step_is (Set_up t) (Holding f) h = cc
step_is (Set_up t) (Asked l) h = cc
step_is (Set_up t) (Used u) h = cc
step_is (Set_up t) (Defined u) h = cc
step_is (Set_up t) (Set_up u) h = ap Set_up ((bytes_eq-Decides t u).0 h)

step_own : (s : Step) → same_step s s ≡ true
step_own (Holding f) = fact_own f
step_own (Asked l) = label_own l
step_own (Used t) = bytes_eq-itself t
step_own (Defined t) = bytes_eq-itself t
step_own (Set_up t) = bytes_eq-itself t

pub step_tested : (s r : Step) → Decides (same_step s r) (s ≡ r)
step_tested s r = (step_is s r, λ e. subst (λ z. same_step s z ≡ true) e (step_own s))
