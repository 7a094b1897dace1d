-- What the graph is over, and what was found.
use Rattle.std.specs.Prelude.{List}
use Rattle.std.specs.declared.snapshot.Snapshot.{Snapshot}
use Rattle.gn_closure.specs.Ground.{Step}
use Rattle.gn_graph.specs.declared.graph.Answered.{Answered}
use Rattle.gn_graph.specs.Facts.{unit_of}
use Rattle.gn_graph.specs.Needs.{done_in}
use Rattle.gn_graph.specs.Replies.{Reply, reply}

-- the answers, in the order in which they were added, and the facts that hold over them, in the order in which they were found
pub record Answers : Type 0 where
  pub replies : List Reply
  pub found : List Step

abbrev pub reply_of : Answered → Reply
reply_of a = reply (unit_of a.unit) (done_in a.needs)

-- the same of an answer that contracts alone see
abbrev pub told_by : Snapshot Answered → Reply
told_by s = reply_of s.value
