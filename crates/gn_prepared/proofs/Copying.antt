-- Copies of some of what is filed, as a part of it.
use Rattle.std.proofs.Common.{◌≡◌, Bool, true, false, cond, Option, Some, option_map, refl, sym, ◌∙◌, ap, subst, List, [], ℕ, slice_get, unwrap_or}
use Rattle.std.specs.Map.{lookup}
use Rattle.indexmap.specs.IndexMap.{IndexMap, get_by, Updates}
use Rattle.gn_core.specs.Keys.{Key, Read, Import, Unit_of, Resolve, Answer, Filed, early, usual, same_key}
use Rattle.gn_core.specs.Layered.{IsPart}
use Rattle.gn_core.proofs.Puts.{same_key_is}
use Rattle.gn_items.specs.declared.key.Key.{Key as Named}
use Rattle.gn_items.specs.declared.key.Key.TheVariants.{Read as read_key, Import as import_key, Setup as setup_key, Load as load_key, Resolve as resolve_key}
use Rattle.gn_items.specs.declared.key.When.TheVariants.{Early, Usual}
use Rattle.gn_items.specs.contracts.key.KeyPartialEq.TheImpl.{eq-value}
use Rattle.gn_book.specs.Keys.{key_of}
use Rattle.gn_answers.specs.Answers.{meaning_of}
use Rattle.gn_answers.specs.declared.answer.Filed.{Filed as Kept}
use Rattle.gn_prepared.specs.Copies.{is_key, copied, answers_in}

-- keys of the code are equal exactly where they are one key
same_named : (a b : Named) → eq-value.it a b ≡ same_key (key_of a) (key_of b)
same_named (read_key p) (read_key q) = refl
same_named (read_key p) (import_key w t q) = refl
same_named (read_key p) (setup_key t) = refl
same_named (read_key p) (load_key d t) = refl
same_named (read_key p) (resolve_key l) = refl
same_named (import_key w t p) (read_key q) = refl
same_named (import_key Early t p) (import_key Early u q) = refl
same_named (import_key Early t p) (import_key Usual u q) = refl
same_named (import_key Usual t p) (import_key Early u q) = refl
same_named (import_key Usual t p) (import_key Usual u q) = refl
same_named (import_key w t p) (setup_key u) = refl
same_named (import_key w t p) (load_key d u) = refl
same_named (import_key w t p) (resolve_key l) = refl
same_named (setup_key t) (read_key q) = refl
same_named (setup_key t) (import_key w u q) = refl
same_named (setup_key t) (setup_key u) = refl
same_named (setup_key t) (load_key d u) = refl
same_named (setup_key t) (resolve_key l) = refl
same_named (load_key d t) (read_key q) = refl
same_named (load_key d t) (import_key w u q) = refl
same_named (load_key d t) (setup_key u) = refl
same_named (load_key d t) (load_key e u) = refl
same_named (load_key d t) (resolve_key l) = refl
same_named (resolve_key l) (read_key q) = refl
same_named (resolve_key l) (import_key w u q) = refl
same_named (resolve_key l) (setup_key u) = refl
same_named (resolve_key l) (load_key d u) = refl
same_named (resolve_key l) (resolve_key m) = refl

looked : {S : Type 0} (answers : IndexMap Named Kept S) (q : Named) → get_by (eq-value.it q) answers ≡ get_by (is_key (key_of q)) answers
looked answers q = λ i. get_by (λ x. same_named q x i) answers

-- what is found for a key is what was copied for it
pub found_copy : {S : Type 0} (answers : IndexMap Named Kept S) (q : Named) (r : Option Kept) → r ≡ get_by (eq-value.it q) answers → option_map meaning_of r ≡ copied answers (key_of q)
found_copy answers q r e = ap (option_map meaning_of) (e ∙ looked answers q)

-- with the answer that is filed for one more key they are a part of what is filed, too
pub put_part : {S : Type 0} (m n : IndexMap Named Kept S) (key : Named) (a : Kept) (filed : Filed) → Updates eq-value.it m n key (Some a)
    → filed (key_of key) ≡ Some (meaning_of a) → IsPart (answers_in m) filed → IsPart (answers_in n) filed
put_part m n key a filed u there part = each
  where
    at : (q : Named) (v : Answer) (b : Bool) → eq-value.it key q ≡ b → get_by (eq-value.it q) n ≡ cond b (Some a) (get_by (eq-value.it q) m)
        → (copied m (key_of q) ≡ Some v → filed (key_of q) ≡ Some v) → copied n (key_of q) ≡ Some v → filed (key_of q) ≡ Some v
    at q v true e g had h =
        let same : key_of key ≡ key_of q = same_key_is (key_of key) (key_of q) (sym (same_named key q) ∙ e) in
        subst (λ (k : Key). filed k ≡ Some v) same (there ∙ (found_copy n q (Some a) (sym g) ∙ h))
    at q v false e g had h = had (sym (found_copy m q (get_by (eq-value.it q) n) g) ∙ (found_copy n q (get_by (eq-value.it q) n) refl ∙ h))

    each : IsPart (answers_in n) filed
    each (Read p) v h = at (read_key p) v (eq-value.it key (read_key p)) refl (u.0 (read_key p)) (part (Read p) v) h
    each (Import (early t) p) v h = at (import_key Early t p) v (eq-value.it key (import_key Early t p)) refl (u.0 (import_key Early t p)) (part (Import (early t) p) v) h
    each (Import (usual t) p) v h = at (import_key Usual t p) v (eq-value.it key (import_key Usual t p)) refl (u.0 (import_key Usual t p)) (part (Import (usual t) p) v) h
    each (Unit_of w) v h = absurd (cc h)
    each (Resolve l) v h = absurd (cc h)

-- with the same entries they are a part of it still
pub same_part : {S : Type 0} (m n : IndexMap Named Kept S) (filed : Filed) → n.entries ≡ m.entries → IsPart (answers_in m) filed → IsPart (answers_in n) filed
same_part m n filed e part = each
  where
    each : IsPart (answers_in n) filed
    each (Read p) v h = part (Read p) v (ap (λ es. option_map meaning_of (lookup (is_key (Read p)) es)) (sym e) ∙ h)
    each (Import l p) v h = part (Import l p) v (ap (λ es. option_map meaning_of (lookup (is_key (Import l p)) es)) (sym e) ∙ h)
    each (Unit_of w) v h = absurd (cc h)
    each (Resolve l) v h = absurd (cc h)

-- an answer that is filed for the key of a number
pub filed_there : (keys : List Key) (n : ℕ) (k : Key) (filed : Filed) (v : Answer) → slice_get keys n ≡ Some k → filed (unwrap_or (slice_get keys n) (Read [])) ≡ Some v → filed k ≡ Some v
filed_there keys n k filed v e h = subst (λ (r : Option Key). filed (unwrap_or r (Read [])) ≡ Some v) e h
