-- How the end of a run follows from its steps.
use Rattle.std.proofs.Common.{◌≡◌, ◌⊎◌, inl, inr, ⊎_elim, ℕ, zero, suc, ◌<◌, ◌≤◌, ◌+◌, List, [], ◌∷◌, ◌++◌, take, refl, sym, ap, ◌∙◌, subst, arith, append-nil, append_assoc, map, length, drop}
use Rattle.std.specs.Prelude.{Option, None, Some, option_map}
use Rattle.std.proofs.Math.Seq.{drop-length, take-length}
use Rattle.std.specs.Prelude.{slice_set, slice_index_or}
use Rattle.gn_outside.specs.States.{SourceRead, SourceState, SinkState, SinkEvent, PutFile, SaidPiece, Put, piece_of, paths_of}
use Rattle.gn_top.specs.Said.{Said, usage_said}
use Rattle.gn_top.specs.Steps.{IsSaying, SaysUnder, TellsUnder}
use Rattle.gn_top.specs.declared.answered.Answered.{Answered}
use Rattle.gn_outside.specs.Lists.{EachPair, SomePair, Extends}
use Rattle.gn_outside.specs.Sources.{AllTellReads, total_faults, FailedAt, IsLeastFailure, reads_since, joined_reads, ReadsOn}
use Rattle.gn_top.specs.Texts.{usage_line, cannot_read_line}
use Rattle.gn_top.specs.Run.{EndsAs, SaysPart, TellsPartOf, TellsPart, IsCutShort, CutsFailure, CannotRead, EndsWithUsage}

pub nothing_more : {X : Type 0} (before after : Option (List X)) → after ≡ before → Extends before after []
nothing_more None after same = same
nothing_more (Some xs) after same = same ∙ ap (λ (ys : List _). Some ys) (sym (append-nil xs))

-- a meaning tells its files and then its text
pub ends_as : (meaning : Said) (files : List PutFile) (text : List ℕ) (status wanted : ℕ) (sink after : SinkState) → text ≡ meaning.text → files ≡ meaning.files → wanted ≡ meaning.status → status ≡ wanted
    → Extends sink.events after.events (map Put files ++ piece_of text) → EndsAs meaning sink after status
ends_as meaning files text status wanted sink after same put at under told = record {
  same_status = under ∙ at;
  events = told ∙ ap (λ (t : List ℕ). option_map (λ xs. xs ++ (map Put files ++ piece_of t)) sink.events) same
      ∙ ap (λ (fs : List PutFile). option_map (λ xs. xs ++ (map Put fs ++ piece_of meaning.text)) sink.events) put;
}

pub cut_answer : (meaning : Said) (files : List PutFile) (text : List ℕ) (sources now : List SourceState) (sink after : SinkState) → text ≡ meaning.text → files ≡ meaning.files
    → TellsPartOf files text sink after → IsCutShort meaning sources now sink after
cut_answer meaning files text sources now sink after same put part = record {
  told = inl (subst (λ (fs : List PutFile). TellsPartOf fs meaning.text sink after) put (subst (λ (t : List ℕ). TellsPartOf files t sink after) same part));
}

-- Files, and then a text

extends_more : {X : Type 0} (before after last : Option (List X)) (xs ys : List X) → Extends before after xs → Extends after last ys → Extends before last (xs ++ ys)
extends_more None after last xs ys first second = second ∙ ap (λ (o : Option (List _)). option_map (λ zs. zs ++ ys) o) first
extends_more (Some zs) after last xs ys first second = second ∙ ap (λ (o : Option (List _)). option_map (λ zs. zs ++ ys) o) first ∙ ap (λ (ws : List _). Some ws) (append_assoc zs xs ys)

part_behind : (before mid after : SinkState) (files : List PutFile) (text : List ℕ) → Extends before.events mid.events (map Put files) → SaysPart mid after text → TellsPartOf files text before after
part_behind before mid after files text put (inl nothing) = inl (length files, nothing ∙ put ∙ ap (λ (fs : List PutFile). option_map (λ xs. xs ++ map Put fs) before.events) (sym (take-length files)))
part_behind before mid after files text put (inr (n, part)) = inr (n, extends_more before.events mid.events after.events (map Put files) (SaidPiece (take n text) ∷ []) put part)

-- all files were put before the text
pub told_behind : (before mid after : SinkState) (files : List PutFile) (text : List ℕ) (wanted status : ℕ) → Extends before.events mid.events (map Put files) → mid.faults ≡ before.faults
    → SaysUnder mid after text wanted status → TellsUnder before after files text wanted status
told_behind before mid after files text wanted status put same says = record {
  range = says.range;
  whole = λ few. let whole = says.whole few in (whole.0, extends_more before.events mid.events after.events (map Put files) (piece_of text) put whole.1, whole.2 ∙ same);
  failed = λ four. subst (λ (n : ℕ). n < after.faults) same (says.failed four);
  part = λ stopped. part_behind before mid after files text put (says.part stopped);
}

-- some couldn't be put
pub not_put : (before after : SinkState) (files : List PutFile) (text : List ℕ) (wanted status : ℕ) → 4 ≤ status → status ≤ 5 → (n : ℕ) × Extends before.events after.events (map Put (take n files))
    → (status ≡ 4 → before.faults < after.faults) → TellsUnder before after files text wanted status
not_put before after files text wanted status stopped range part failed = record {
  range = range;
  whole = λ few. absurd (omega (arith, few, stopped));
  failed = failed;
  part = λ _. inl part;
}

-- The usage line

as_before : {X : Type 0} (events : Option (List X)) → option_map (λ xs. xs ++ []) events ≡ events
as_before None = refl
as_before (Some xs) = ap (λ (ys : List _). Some ys) (append-nil xs)

none_of_none : (n : ℕ) → map Put (take n []) ≡ []
none_of_none zero = refl
none_of_none (suc n) = refl

usage_part : (before after : SinkState) (text : List ℕ) → TellsPartOf [] text before after → SaysPart before after text
usage_part before after text (inl (n, part)) = inl (part ∙ ap (λ (es : List SinkEvent). option_map (λ xs. xs ++ es) before.events) (none_of_none n) ∙ as_before before.events)
usage_part before after text (inr (n, part)) = inr (n, part)

-- an answer that is the usage line was told
pub ends_with_usage : (s t : SourceState) (sink after : SinkState) (a : Answered) (status : ℕ) → t ≡ s → IsSaying a usage_said → TellsUnder sink after a.files a.text.items a.status status
    → EndsWithUsage (s ∷ []) (t ∷ []) sink after status a.units
ends_with_usage s t sink after a status same says told =
    let plain : TellsUnder sink after [] usage_line a.status status =
    subst (λ (fs : List PutFile). TellsUnder sink after fs usage_line a.status status) says.files (subst (λ (text : List ℕ). TellsUnder sink after a.files text a.status status) says.text told) in
    record {
      nothing_read = ap (λ (u : SourceState). u ∷ []) same;
      no_units = says.units;
      whole = λ few. let whole = plain.whole few in (whole.0 ∙ says.status, whole.1);
      part = λ stopped. usage_part sink after usage_line (plain.part stopped);
    }

-- nothing has been told
pub cut_at_once : (meaning : Said) (sources now : List SourceState) (sink : SinkState) → IsCutShort meaning sources now sink sink
cut_at_once meaning sources now sink = record { told = inl (inl (0, nothing_more sink.events sink.events refl)) }

pub cut_failure : (meaning : Said) (path : List ℕ) (before now : SourceState) (sink after : SinkState) → before.faults < now.faults
    → SaysPart sink after (cannot_read_line path) → (AllTellReads (before ∷ []) → IsLeastFailure (before ∷ []) (now ∷ []) path) → IsCutShort meaning (before ∷ []) (now ∷ []) sink after
cut_failure meaning path before now sink after rose part least = record {
  told = inr (path, record { failed = let both : before.faults + 0 < now.faults + 0 = omega arith in both; text = part; least = least });
}

pub one_failed : (path : List ℕ) (before now : SourceState) (sink after : SinkState) → before.faults < now.faults
    → Extends sink.events after.events (piece_of (cannot_read_line path)) → (AllTellReads (before ∷ []) → IsLeastFailure (before ∷ []) (now ∷ []) path)
    → CannotRead (before ∷ []) (now ∷ []) sink after
one_failed path before now sink after rose text least = record {
  failed = omega arith;
  last = λ told. ((λ _. (path, ⊎_elim (λ here. here) (λ none. absurd none) ((least told).some))), tt);
  text = (path, record { text = text; least = least });
}

-- Sources beside the first that stay as they are add nothing.

goes_on_same : (s : SourceState) → ReadsOn s s
goes_on_same s = ([], record { tree = refl; joined = nothing_more s.reads s.reads refl; stops = tt; faults = refl })

all_go_on_same : (rest : List SourceState) → EachPair ReadsOn rest rest
all_go_on_same [] = tt
all_go_on_same (s ∷ rest) = (goes_on_same s, all_go_on_same rest)

none_since : (reads : Option (List SourceRead)) → reads_since reads reads ≡ []
none_since None = refl
none_since (Some paths) = drop-length paths

joined_same : (rest : List SourceState) → joined_reads rest rest ≡ []
joined_same [] = refl
joined_same (s ∷ rest) = ap (λ (reads : List SourceRead). paths_of reads ++ joined_reads rest rest) (none_since s.reads) ∙ joined_same rest

none_failed : (path : List ℕ) (rest : List SourceState) → SomePair (FailedAt path) rest rest → ⊥
none_failed path [] failed = failed
none_failed path (s ∷ rest) (inl here) = let rose : s.faults < s.faults = here.failed in absurd (omega arith)
none_failed path (s ∷ rest) (inr there) = none_failed path rest there

last_same : (rest : List SourceState) → EachPair (λ (s t : SourceState). s.faults < t.faults → (path : List ℕ) × FailedAt path s t) rest rest
last_same [] = tt
last_same (s ∷ rest) = ((λ rose. absurd (omega arith)), last_same rest)

module _ (s t : SourceState) (rest : List SourceState) where
  least_more : (path : List ℕ) → IsLeastFailure (s ∷ []) (t ∷ []) path → IsLeastFailure (s ∷ rest) (t ∷ rest) path
  least_more path least = record {
    some = ⊎_elim (λ here. inl here) (λ none. absurd none) least.some;
    least = λ other failed. least.least other (⊎_elim (λ here. inl here) (λ there. absurd (none_failed other rest there)) failed);
  }

  rose_more : total_faults (s ∷ []) < total_faults (t ∷ []) → total_faults (s ∷ rest) < total_faults (t ∷ rest)
  rose_more rose = let one_rose : s.faults + 0 < t.faults + 0 = rose in let both : s.faults + total_faults rest < t.faults + total_faults rest = omega arith in both

  pub cannot_read_more : (sink after : SinkState) → CannotRead (s ∷ []) (t ∷ []) sink after → CannotRead (s ∷ rest) (t ∷ rest) sink after
  cannot_read_more sink after one = record {
    failed = rose_more one.failed;
    last = λ told. ((one.last (told.0, tt)).0, last_same rest);
    text = ((one.text).0, record { text = ((one.text).1).text; least = λ told. least_more _ (((one.text).1).least (told.0, tt)) });
  }

  cuts_more : (sink after : SinkState) (path : List ℕ) → CutsFailure (s ∷ []) (t ∷ []) sink after path → CutsFailure (s ∷ rest) (t ∷ rest) sink after path
  cuts_more sink after path one = record { failed = rose_more one.failed; text = one.text; least = λ told. least_more _ (one.least (told.0, tt)) }

  cut_more : (meaning : Said) (sink after : SinkState) → TellsPart meaning sink after ⊎ ((path : List ℕ) × CutsFailure (s ∷ []) (t ∷ []) sink after path)
      → TellsPart meaning sink after ⊎ ((path : List ℕ) × CutsFailure (s ∷ rest) (t ∷ rest) sink after path)
  cut_more meaning sink after (inl part) = inl part
  cut_more meaning sink after (inr (path, failure)) = inr (path, cuts_more sink after path failure)

  pub cut_short_more : (meaning : Said) (sink after : SinkState) → IsCutShort meaning (s ∷ []) (t ∷ []) sink after → IsCutShort meaning (s ∷ rest) (t ∷ rest) sink after
  cut_short_more meaning sink after one = record { told = cut_more meaning sink after one.told }

  pub usage_more : (sink after : SinkState) (status units : ℕ) → EndsWithUsage (s ∷ []) (t ∷ []) sink after status units → EndsWithUsage (s ∷ rest) (t ∷ rest) sink after status units
  usage_more sink after status units one = record {
    nothing_read = ap (λ (states : List SourceState). states ++ rest) one.nothing_read;
    no_units = one.no_units;
    whole = one.whole;
    part = one.part;
  }

  pub joined_more : joined_reads (s ∷ rest) (t ∷ rest) ≡ joined_reads (s ∷ []) (t ∷ [])
  joined_more = ap (λ (paths : List (List ℕ)). paths_of (reads_since s.reads t.reads) ++ paths) (joined_same rest)

  pub goes_on_more : EachPair ReadsOn (s ∷ []) (t ∷ []) → EachPair ReadsOn (s ∷ rest) (t ∷ rest)
  goes_on_more one = (one.0, all_go_on_same rest)

-- The first of a list, and the list with another first.

pub map_split : {X : Type 0} (state : X → SourceState) (xs : List X) (x : X) → 1 ≤ length xs → x ≡ slice_index_or xs 0 x → map state xs ≡ state x ∷ map state (drop 1 xs)
map_split state [] x some is = absurd (omega arith)
map_split state (y ∷ xs) x some is = ap (λ (z : _). state z ∷ map state xs) (sym is)

pub map_set : {X : Type 0} (state : X → SourceState) (xs : List X) (x : X) → 1 ≤ length xs → map state (slice_set xs 0 x) ≡ state x ∷ map state (drop 1 xs)
map_set state [] x some = absurd (omega arith)
map_set state (y ∷ xs) x some = refl

pub drop_set : {X : Type 0} (xs : List X) (x : X) → drop 1 (slice_set xs 0 x) ≡ drop 1 xs
drop_set [] x = refl
drop_set (y ∷ xs) x = refl
