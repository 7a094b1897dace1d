-- What is told is needed and missing, and the other way round; and names in the order of their bytes.
use Rattle.std.proofs.Common.{◌≡◌, ◌↔◌, ℕ, zero, suc, Bool, true, false, cond, not, List, [], ◌∷◌, Some, option_map, slice_get, map, filter, refl, ap, sym, ◌∙◌}
use Rattle.std.specs.List.{list_all}
use Rattle.std.proofs.lemmas.Bool.{and_from, and_parts}
use Rattle.std.proofs.lemmas.Option.{slice_get-map}
use Rattle.gn_rows.specs.declared.kinds.ToolName.{ToolName}
use Rattle.gn_rows.specs.declared.kinds.ToolName.TheVariants as named
use Rattle.gn_rows.specs.Names.{tool_name}
use Rattle.gn_items.specs.declared.item.Item.{Item}
use Rattle.gn_items.specs.declared.tool.Tool.{Tool}
use Rattle.gn_items.specs.Tools.{has_name}
use Rattle.gn_needed_tools.specs.declared.missing.TheConstants.{TOOLS}
use Rattle.gn_needed_tools.specs.Needed.{needs, is_lacking, needed_among, missing_tools}
use Rattle.gn_needed_tools.specs.Laws.{IsNeeded, IsTold, is_less, ascends}

-- ---- what stands in a list that is filtered
module _ {A : Type 0} (p : A → Bool) where
  pub in_filter : (xs : List A) (k : ℕ) (x : A) → slice_get (filter p xs) k ≡ Some x → (j : ℕ) × (slice_get xs j ≡ Some x) × (p x ≡ true)
  in_filter [] k x h = absurd (cc h)
  in_filter (y ∷ ys) k x h = by (p y) refl k (λ j. in_filter ys j x) h
    where
      behind : (j : ℕ) × (slice_get ys j ≡ Some x) × (p x ≡ true) → (j : ℕ) × (slice_get (y ∷ ys) j ≡ Some x) × (p x ≡ true)
      behind r = (suc r.0, r.1, r.2)

      by : (b : Bool) → p y ≡ b → (k : ℕ) → ((j : ℕ) → slice_get (filter p ys) j ≡ Some x → (j : ℕ) × (slice_get ys j ≡ Some x) × (p x ≡ true)) → slice_get (cond b (y ∷ filter p ys) (filter p ys)) k ≡ Some x → (j : ℕ) × (slice_get (y ∷ ys) j ≡ Some x) × (p x ≡ true)
      by true e zero ih g = let s : y ≡ x = cc g in (0, g, sym (ap p s) ∙ e)
      by true e (suc j) ih g = behind (ih j g)
      by false e j ih g = behind (ih j g)

  pub filter_in : (xs : List A) (k : ℕ) (x : A) → slice_get xs k ≡ Some x → p x ≡ true → (j : ℕ) × (slice_get (filter p xs) j ≡ Some x)
  filter_in [] k x h e = absurd (cc h)
  filter_in (y ∷ ys) zero x h e = let s : y ≡ x = cc h in (0, ap (λ b. slice_get (cond b (y ∷ filter p ys) (filter p ys)) 0) (ap p s ∙ e) ∙ h)
  filter_in (y ∷ ys) (suc k) x h e = by (p y) (filter_in ys k x h e)
    where
      by : (b : Bool) → (j : ℕ) × (slice_get (filter p ys) j ≡ Some x) → (j : ℕ) × (slice_get (cond b (y ∷ filter p ys) (filter p ys)) j ≡ Some x)
      by true r = (suc r.0, r.1)
      by false r = r

-- a name that stands among those of some tools is that of one
in_names : (ts : List ToolName) (k : ℕ) (name : List ℕ) → slice_get (map tool_name ts) k ≡ Some name → (tool : ToolName) × (name ≡ tool_name tool) × (slice_get ts k ≡ Some tool)
in_names [] k name h = absurd (cc h)
in_names (t ∷ ts) zero name h = let s : tool_name t ≡ name = cc h in (t, sym s, refl)
in_names (t ∷ ts) (suc k) name h = in_names ts k name h

-- each tool stands among all
place_of : (tool : ToolName) → (k : ℕ) × (slice_get TOOLS k ≡ Some tool)
place_of named.Alink = (0, refl)
place_of named.Asm = (1, refl)
place_of named.Cc = (2, refl)
place_of named.Copy = (3, refl)
place_of named.Cxx = (4, refl)
place_of named.Link = (5, refl)
place_of named.Solink = (6, refl)
place_of named.SolinkModule = (7, refl)
place_of named.Stamp = (8, refl)

-- ---- what is told
not_true : (b : Bool) → not b ≡ true → b ≡ false
not_true true e = sym e
not_true false e = refl

needed : (item : Item) (k : ℕ) (name : List ℕ) → slice_get (needed_among item TOOLS) k ≡ Some name → IsNeeded item name
needed item k name h =
    let r = in_names (filter (needs item) TOOLS) k name h in
    let q = in_filter (needs item) TOOLS k r.0 r.2 in
    (r.0, r.1, q.2)

told : (item : Item) (had : List Tool) (name : List ℕ) → IsTold item had name → IsNeeded item name × (has_name name had ≡ false)
told item had name h =
    let r = in_filter (is_lacking had) (needed_among item TOOLS) h.0 name h.1 in
    (needed item r.0 name r.1, not_true (has_name name had) r.2)

of_tool : (item : Item) (had : List Tool) (tool : ToolName) → needs item tool ≡ true → has_name (tool_name tool) had ≡ false → IsTold item had (tool_name tool)
of_tool item had tool n m =
    let p = place_of tool in
    let q = filter_in (needs item) TOOLS p.0 tool p.1 n in
    filter_in (is_lacking had) (needed_among item TOOLS) q.0 (tool_name tool) (slice_get-map tool_name (filter (needs item) TOOLS) q.0 ∙ ap (option_map tool_name) q.1) (ap not m)

missing : (item : Item) (had : List Tool) (name : List ℕ) → IsNeeded item name × (has_name name had ≡ false) → IsTold item had name
missing item had name h =
    let r = of_tool item had h.0.0 h.0.2 (ap (λ z. has_name z had) (sym h.0.1) ∙ h.1) in
    (r.0, r.1 ∙ ap Some (sym h.0.1))

pub told_exactly : (item : Item) (had : List Tool) (name : List ℕ) → IsTold item had name ↔ (IsNeeded item name × (has_name name had ≡ false))
told_exactly item had name = (told item had name, missing item had name)

-- ---- the order of names
module _ (p : List ℕ → Bool) where
  all_kept : (q : List ℕ → Bool) (names : List (List ℕ)) → list_all q names ≡ true → list_all q (filter p names) ≡ true
  all_kept q [] h = refl
  all_kept q (n ∷ ns) h = let r = and_parts (q n) (list_all q ns) h in by (p n) r.0 (all_kept q ns r.1)
    where
      by : (b : Bool) → q n ≡ true → list_all q (filter p ns) ≡ true → list_all q (cond b (n ∷ filter p ns) (filter p ns)) ≡ true
      by true e ih = and_from (q n) (list_all q (filter p ns)) e ih
      by false e ih = ih

  -- where names ascend, so do some of them
  pub some_ascend : (names : List (List ℕ)) → ascends names ≡ true → ascends (filter p names) ≡ true
  some_ascend [] h = refl
  some_ascend (n ∷ ns) h = let r = and_parts (list_all (is_less n) ns) (ascends ns) h in by (p n) (all_kept (is_less n) ns r.0) (some_ascend ns r.1)
    where
      by : (b : Bool) → list_all (is_less n) (filter p ns) ≡ true → ascends (filter p ns) ≡ true → ascends (cond b (n ∷ filter p ns) (filter p ns)) ≡ true
      by true e ih = and_from (list_all (is_less n) (filter p ns)) (ascends (filter p ns)) e ih
      by false e ih = ih

-- the names of some tools are some of the names of all, since a tool is known by its name
module _ {A : Type 0} (p : A → Bool) (name : A → List ℕ) where
  names_all : (q : List ℕ → Bool) (xs : List A) → list_all q (map name xs) ≡ true → list_all q (map name (filter p xs)) ≡ true
  names_all q [] h = refl
  names_all q (x ∷ xs) h = let r = and_parts (q (name x)) (list_all q (map name xs)) h in by (p x) r.0 (names_all q xs r.1)
    where
      by : (b : Bool) → q (name x) ≡ true → list_all q (map name (filter p xs)) ≡ true → list_all q (map name (cond b (x ∷ filter p xs) (filter p xs))) ≡ true
      by true e ih = and_from (q (name x)) (list_all q (map name (filter p xs))) e ih
      by false e ih = ih

  pub names_ascend : (xs : List A) → ascends (map name xs) ≡ true → ascends (map name (filter p xs)) ≡ true
  names_ascend [] h = refl
  names_ascend (x ∷ xs) h =
      let r = and_parts (list_all (is_less (name x)) (map name xs)) (ascends (map name xs)) h in
      by (p x) (names_all (is_less (name x)) xs r.0) (names_ascend xs r.1)
    where
      by : (b : Bool) → list_all (is_less (name x)) (map name (filter p xs)) ≡ true → ascends (map name (filter p xs)) ≡ true → ascends (map name (cond b (x ∷ filter p xs) (filter p xs))) ≡ true
      by true e ih = and_from (list_all (is_less (name x)) (map name (filter p xs))) (ascends (map name (filter p xs))) e ih
      by false e ih = ih

pub missing_ascend : (item : Item) (had : List Tool) → ascends (missing_tools item had) ≡ true
missing_ascend item had = some_ascend (is_lacking had) (needed_among item TOOLS) (names_ascend (needs item) tool_name TOOLS refl)
