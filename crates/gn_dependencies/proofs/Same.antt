-- Two labels are equal exactly where they are one label.
use Rattle.std.proofs.Common.{◌≡◌, Bool, true, false, ◌&&◌, ap, ◌∙◌, sym, refl}
use Rattle.std.specs.Str.{bytes_eq}
use Rattle.std.specs.Cmp.{IsEquivalence}
use Rattle.std.proofs.lemmas.Slice.Eq.{bytes_eq-Decides}
use Rattle.std.proofs.lemmas.Bool.{and_parts}
use Rattle.gn_basics.proofs.Texts.{bytes_eq-itself}
use Rattle.gn_labels.specs.declared.label.Label.{Label}
use Rattle.gn_dependencies.specs.Lists.{same_label}

pub own : (a : Label) → same_label a a ≡ true
unfolding same_label
own a = rw (bytes_eq-itself a.dir, bytes_eq-itself a.name) (bytes_eq-itself a.toolchain)

pub same : (a b : Label) → same_label a b ≡ true → a ≡ b
unfolding same_label
same a b h =
    let p = and_parts (bytes_eq a.dir b.dir) (bytes_eq a.name b.name && bytes_eq a.toolchain b.toolchain) h in
    let q = and_parts (bytes_eq a.name b.name) (bytes_eq a.toolchain b.toolchain) p.1 in
    let dir : a.dir ≡ b.dir = (bytes_eq-Decides a.dir b.dir).0 p.0 in
    let name : a.name ≡ b.name = (bytes_eq-Decides a.name b.name).0 q.0 in
    let toolchain : a.toolchain ≡ b.toolchain = (bytes_eq-Decides a.toolchain b.toolchain).0 q.1 in
    λ i. record { dir = dir i; name = name i; toolchain = toolchain i }

symmetric_by : (a b : Label) (p q : Bool) → same_label a b ≡ p → same_label b a ≡ q → same_label a b ≡ same_label b a
symmetric_by a b true q e f = let s : a ≡ b = same a b e in ap (λ z. same_label z b) s ∙ ap (same_label b) (sym s)
symmetric_by a b false true e f = let s : b ≡ a = same b a f in ap (λ z. same_label z b) (sym s) ∙ ap (same_label b) s
symmetric_by a b false false e f = e ∙ sym f

pub symmetric : (a b : Label) → same_label a b ≡ same_label b a
symmetric a b = symmetric_by a b (same_label a b) (same_label b a) refl refl

pub label_equiv : IsEquivalence same_label
label_equiv = record { refl = own; symm = symmetric; congr = λ a b c h. ap (λ z. same_label z c) (same a b h) }
