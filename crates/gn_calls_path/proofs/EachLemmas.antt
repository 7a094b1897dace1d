-- What is read of each text in turn, and what a call answers to it.
use Rattle.std.proofs.Common.{◌≡◌, ℕ, ◌+◌, ◌<◌, ◌≤◌, List, [], ◌∷◌, ◌++◌, length, map, drop, get_or, Option, Some, None, Result, Ok, Err, refl, sym, ap, ◌∙◌, subst, append_assoc}
use Rattle.std.proofs.lemmas.List.{append-nil, drop_more, drop_all}
use Rattle.gn_faults.specs.declared.code.Code.{Code}
use Rattle.gn_values.specs.Val.{Val}
use Rattle.gn_values.specs.declared.value.Value.{Value}
use Rattle.gn_calls_text.specs.Answers.{Settled, refuses}
use Rattle.gn_calls_text.specs.Views.{Settles, bytes_in}
use Rattle.gn_calls_text.specs.declared.error.CallError.{CallError}
use Rattle.gn_calls_text.specs.declared.error.CallError.TheVariants.{Refused, Memory}
use Rattle.gn_paths.specs.declared.error.PathFault.{PathFault}
use Rattle.gn_calls_path.specs.Found.{path_code, with_next, each, read_at}
use Rattle.gn_calls_path.specs.Rebase.{or_later, fault_from, first_fault, unless_faulty}
use Rattle.gn_calls_path.specs.Views.{IsFound, IsSound}

-- what is read of some texts behind what was read before
abbrev pub onto : {A : Type 0} → List A → Result (List A) Code → Result (List A) Code
onto xs (Ok ys) = Ok (xs ++ ys)
onto xs (Err code) = Err code

-- what is left to be read of the strings of a list
abbrev pub each_from : {A : Type 0} → (List ℕ → Result A Code) → List Value → ℕ → Result (List A) Code
each_from read values i = each read (map bytes_in (drop i values))

onto_none : {A : Type 0} (r : Result (List A) Code) → onto [] r ≡ r
onto_none (Ok ys) = refl
onto_none (Err code) = refl

onto_more : {A : Type 0} (done : List A) (y : A) (rest : Result (List A) Code) → onto done (with_next (Ok y) rest) ≡ onto (done ++ y ∷ []) rest
onto_more done y (Ok ys) = ap Ok (sym (append_assoc done (y ∷ []) ys))
onto_more done y (Err code) = refl

pub each_begun : {A : Type 0} (read : List ℕ → Result A Code) (values : List Value) (done : List A) → done ≡ [] → onto done (each_from read values 0) ≡ each read (map bytes_in values)
each_begun read values done none = ap (λ d. onto d (each_from read values 0)) none ∙ onto_none (each read (map bytes_in values))

next_read : {A : Type 0} (read : List ℕ → Result A Code) (values : List Value) (i : ℕ) (x : Value) (bytes : List ℕ) → i < length values → x ≡ get_or values i x → bytes ≡ bytes_in x → each_from read values i ≡ with_next (read bytes) (each_from read values (i + 1))
next_read read values i x bytes h is same =
    ap (λ vs. each read (map bytes_in vs)) (drop_more values i x h)
    ∙ ap (λ v. with_next (read (bytes_in v)) (each_from read values (i + 1))) (sym is)
    ∙ ap (λ b. with_next (read b) (each_from read values (i + 1))) (sym same)

pub each_more : {A : Type 0} (read : List ℕ → Result A Code) (values : List Value) (i : ℕ) (x : Value) (bytes : List ℕ) (done grown : List A) (y : A) → i < length values → x ≡ get_or values i x → bytes ≡ bytes_in x → read bytes ≡ Ok y → grown ≡ done ++ y ∷ [] → onto grown (each_from read values (i + 1)) ≡ onto done (each_from read values i)
each_more read values i x bytes done grown y h is same found more =
    ap (λ d. onto d (each_from read values (i + 1))) more
    ∙ sym (onto_more done y (each_from read values (i + 1)))
    ∙ ap (λ f. onto done (with_next f (each_from read values (i + 1)))) (sym found)
    ∙ ap (onto done) (sym (next_read read values i x bytes h is same))

pub each_failed : {A : Type 0} (read : List ℕ → Result A Code) (values : List Value) (i : ℕ) (x : Value) (bytes : List ℕ) (done : List A) (whole : Result (List A) Code) → i < length values → x ≡ get_or values i x → bytes ≡ bytes_in x → onto done (each_from read values i) ≡ whole → (code : Code) → read bytes ≡ Err code → whole ≡ Err code
each_failed read values i x bytes done whole h is same inv code found =
    sym inv ∙ ap (onto done) (next_read read values i x bytes h is same) ∙ ap (λ f. onto done (with_next f (each_from read values (i + 1)))) found

pub each_ended : {A : Type 0} (read : List ℕ → Result A Code) (values : List Value) (i : ℕ) (done : List A) (whole : Result (List A) Code) → length values ≤ i → onto done (each_from read values i) ≡ whole → whole ≡ Ok done
each_ended read values i done whole h inv =
    sym inv ∙ ap (λ vs. onto done (each read (map bytes_in vs))) (drop_all i values h) ∙ ap Ok (append-nil done)

-- the same of what a `?` returns: a fault of what is read is a fault of all
pub found_fails : {T U A B : Type 0} (view : T → B) (part : U → A) (argument : ℕ) (r : Result T CallError) (x e : CallError) (found : Result A Code) (whole : Result B Code) → r ≡ Err x → x ≡ e → IsFound part argument (Err e) found → ((code : Code) → found ≡ Err code → whole ≡ Err code) → IsFound view argument r whole
found_fails {T} {U} {A} {B} view part argument r x e found whole is same h k = subst (λ q. IsFound view argument q whole) (sym (is ∙ ap Err same)) (by e h)
  where
    by : (e : CallError) → IsFound part argument (Err e) found → IsFound view argument (Err e) whole
    by (Refused code at) g = (k code g.0, g.1)
    by Memory g = tt

-- a call refuses a fault of what it reads
pub read_fails : {T U A : Type 0} (view : T → Val) (part : U → A) (argument : ℕ) (r : Result T CallError) (x e : CallError) (found : Result A Code) (answer : A → Settled) → r ≡ Err x → x ≡ e → IsFound part argument (Err e) found → Settles view r (read_at argument found answer)
read_fails {T} {U} {A} view part argument r x e found answer is same h = subst (λ q. Settles view q (read_at argument found answer)) (sym (is ∙ ap Err same)) (by e h)
  where
    by : (e : CallError) → IsFound part argument (Err e) found → Settles view (Err e) (read_at argument found answer)
    by (Refused code at) g = ap (λ f. read_at argument f answer) g.0 ∙ ap (refuses code) (sym g.1)
    by Memory g = tt

pub read_goes : {T A : Type 0} (view : T → Val) (argument : ℕ) (r : Result T CallError) (found : Result A Code) (x : A) (answer : A → Settled) → found ≡ Ok x → Settles view r (answer x) → Settles view r (read_at argument found answer)
read_goes view argument r found x answer is h = subst (λ f. Settles view r (read_at argument f answer)) (sym is) h

-- a call refuses the first fault of its texts
pub sound_fails : {T : Type 0} (view : T → Val) (r : Result T CallError) (x e : CallError) (fault : Option PathFault) (answer : Settled) → r ≡ Err x → x ≡ e → IsSound (Err e) fault → Settles view r (unless_faulty fault answer)
sound_fails {T} view r x e fault answer is same h = subst (λ q. Settles view q (unless_faulty fault answer)) (sym (is ∙ ap Err same)) (by e h)
  where
    by : (e : CallError) → IsSound (Err e) fault → Settles view (Err e) (unless_faulty fault answer)
    by (Refused code at) g = ap (λ f. unless_faulty f answer) g.1.0 ∙ (λ i. refuses (sym g.1.1.0 i) (sym g.1.1.1 i))
    by Memory g = tt

pub first_fails : {T : Type 0} (view : T → Val) (r : Result T CallError) (x e : CallError) (directory : Option (List ℕ)) (texts given : List (List ℕ)) (answer : Settled) → r ≡ Err x → x ≡ e → IsSound (Err e) (first_fault directory texts) → texts ≡ given → Settles view r (unless_faulty (first_fault directory given) answer)
first_fails view r x e directory texts given answer is same h on =
    sound_fails view r x e (first_fault directory given) answer is same (subst (λ ts. IsSound (Err e) (first_fault directory ts)) on h)

pub sound_goes : {T : Type 0} (view : T → Val) (r : Result T CallError) (fault : Option PathFault) (answer : Settled) → fault ≡ None → Settles view r answer → Settles view r (unless_faulty fault answer)
sound_goes view r fault answer is h = subst (λ f. Settles view r (unless_faulty f answer)) (sym is) h

pub sound_refused : (e : CallError) (code : Code) (fault : PathFault) (whole : Option PathFault) → e ≡ Refused code (Some 0) → code ≡ path_code fault → whole ≡ Some fault → IsSound (Err e) whole
sound_refused e code fault whole is same found = subst (λ q. IsSound (Err q) whole) (sym is) (fault, (found, (same, refl)))

-- a call refuses what this says
pub refused_settles : {T : Type 0} (view : T → Val) (e : CallError) (code : Code) (argument : ℕ) (answer : Settled) → e ≡ Refused code (Some argument) → answer ≡ refuses code (Some argument) → Settles view (Err e) answer
refused_settles view e code argument answer is h = subst (λ q. Settles view (Err q) answer) (sym is) h

pub fault_more : (directory : Option (List ℕ)) (values : List Value) (i : ℕ) (x : Value) (bytes : List ℕ) → i < length values → x ≡ get_or values i x → bytes ≡ bytes_in x → first_fault directory (map bytes_in (drop i values)) ≡ or_later (fault_from directory bytes) (first_fault directory (map bytes_in (drop (i + 1) values)))
fault_more directory values i x bytes h is same =
    ap (λ vs. first_fault directory (map bytes_in vs)) (drop_more values i x h)
    ∙ ap (λ v. or_later (fault_from directory (bytes_in v)) (first_fault directory (map bytes_in (drop (i + 1) values)))) (sym is)
    ∙ ap (λ b. or_later (fault_from directory b) (first_fault directory (map bytes_in (drop (i + 1) values)))) (sym same)
