-- What a source has at a path.
use Rattle.std.proofs.Common.{◌≡◌, ◌⊎◌, inl, inr, ℕ, List, ◌∷◌, [], Option, Some, Result, Ok, Err, IfOk, true, sym, ◌∙◌, ap}
use Rattle.std.specs.declared.vec.Vec.{Vec}
use Rattle.std.specs.declared.alloc.Global.{Global}
use Rattle.gn_outside.specs.Tree.{Tree, Bytes, read_of}
use Rattle.gn_outside.specs.States.{SourceRead, SourceState}
use Rattle.gn_outside.specs.Calls.{RecordsRead, Reads}
use Rattle.gn_outside.specs.declared.stops.ReadStop.TheVariants.{Failed as ReadFailed, TooBig as ReadTooBig, Memory as NoMemory}
use Rattle.gn_outside.specs.Lists.{Extends}
use Rattle.gn_outside.specs.Sources.{plain_reads}
use Rattle.gn_projects.specs.Files.{content_in}
use Rattle.gn_answers.specs.Answers.{content_view}
use Rattle.gn_answers.specs.Reading.{IsContent, IsReadBy}
use Rattle.gn_answers.specs.declared.answer.FileContent.{FileContent}
use Rattle.gn_answers.specs.declared.reading.PerformStop.{PerformStop}
use Rattle.gn_answers.specs.declared.reading.PerformStop.TheVariants.{Failed, Memory}

-- what a read has recorded that has an answer
answered_reads : (before after : Option (List SourceRead)) (path : List ℕ) (x : Option (Vec ℕ Global)) → RecordsRead before after path (Ok x) → Extends before after (plain_reads (path ∷ []))
answered_reads before after path x (inl reads) = reads
answered_reads before after path x (inr none) = absurd (cc none.0)

-- the bytes of a file
pub bytes_content : (before : Option Tree) (bytes path : List ℕ) (r : Result FileContent PerformStop) → IsContent bytes r → ((tree : Tree) → before ≡ Some tree → read_of tree path ≡ Bytes bytes)
    → IfOk r (λ content. (tree : Tree) → before ≡ Some tree → content_view content ≡ content_in (read_of tree path))
bytes_content before bytes path (Ok content) is tells = λ tree told. is ∙ ap content_in (sym (tells tree told))
bytes_content before bytes path (Err stop) is tells = tt

module _ (before after : SourceState) (path : List ℕ) where
  pub bytes_read : (bytes : Vec ℕ Global) (r : Result FileContent PerformStop) → IsContent bytes.items r → Reads before after path (Ok (Some bytes)) → IsReadBy path before after r
  bytes_read bytes (Ok content) is read = record { tree = read.tree; reads = answered_reads before.reads after.reads path (Some bytes) read.reads; faults = read.faults }
  bytes_read bytes (Err Failed) is read = absurd is
  bytes_read bytes (Err Memory) is read = record { tree = read.tree; reads = inl (answered_reads before.reads after.reads path (Some bytes) read.reads); faults = read.faults }

  -- no file, or none that is small enough
  pub answered_read : (x : Option (Vec ℕ Global)) (content : FileContent) → Reads before after path (Ok x) → IsReadBy path before after (Ok content)
  answered_read x content read = record { tree = read.tree; reads = answered_reads before.reads after.reads path x read.reads; faults = read.faults }

  pub big_read : (n : ℕ) (content : FileContent) → Reads before after path (Err (ReadTooBig n)) → IsReadBy path before after (Ok content)
  big_read n content read = record { tree = read.tree; reads = by read.reads; faults = read.faults }
    where
      by : RecordsRead before.reads after.reads path (Err (ReadTooBig n)) → Extends before.reads after.reads (plain_reads (path ∷ []))
      by (inl reads) = reads
      by (inr none) = absurd (cc none.0)

  -- nothing was told
  pub failed_read : Reads before after path (Err ReadFailed) → IsReadBy path before after (Err Failed)
  failed_read read = record { tree = read.tree; reads = by read.reads; faults = read.faults }
    where
      by : RecordsRead before.reads after.reads path (Err ReadFailed) → Extends before.reads after.reads (record { path = path; failed = true } ∷ [])
      by (inl reads) = reads
      by (inr none) = absurd (cc none.0)

  pub lost_read : Reads before after path (Err NoMemory) → IsReadBy path before after (Err Memory)
  lost_read read = record { tree = read.tree; reads = by read.reads; faults = read.faults }
    where
      by : RecordsRead before.reads after.reads path (Err NoMemory) → Extends before.reads after.reads (plain_reads (path ∷ [])) ⊎ (after.reads ≡ before.reads)
      by (inl reads) = inl reads
      by (inr none) = inr none.1
