use Rattle.std.proofs.Common.{◌≡◌, ℕ, List, Err, map, rules, sym, ◌∙◌, subst}
use Rattle.std.specs.Map.Iter.{deref_pair}
use Rattle.std.proofs.lemmas.Map.Iter.{iter_end, rest_so_far}
use Rattle.gn_outside.specs.Calls.{CountsWriteFault}
use Rattle.gn_outside.specs.Lists.{Extends}
use Rattle.gn_outside.specs.States.{Put}
use Rattle.gn_out_files.specs.declared.out_files.FileKey.{FileKey}
use Rattle.gn_out_files.specs.Keys.{files_of}
use Rattle.gn_out_files.proofs.FileLemmas.{first_put}
use Rattle.gn_out_files.proofs.putting.put_each.Goals as goal

pub returns-in-Err : goal.returns-in-Err
returns-in-Err g c =
    let start : c.into_iter-key-iterator.result ≡ c.args.files.now.entries = search rules in
    record {
      events = first_put _ _ _ (map deref_pair c.loop-key.yielded) c.loop-key.key-iterator (sym start ∙ rest_so_far deref_pair c.loop-key.yielded _ _ c.loop-key.yielded_by) (c.in-Err.ensures.events ∙ c.loop-key.invariant.events);
      faults = subst (λ (n : ℕ). CountsWriteFault n (g.K.Sink.state c.put.new.self).faults (Err c.in-Err.stop)) c.loop-key.invariant.faults c.in-Err.ensures.faults;
    }

pub returns : goal.returns
returns g c =
    let all : map deref_pair c.loop-key.yielded ≡ c.args.files.now.entries = search (rules, iter_end) in
    record {
      events = subst (λ (es : List (FileKey × List ℕ)). Extends (g.K.Sink.state c.args.sink.now).events (g.K.Sink.state c.loop-key.sink).events (map Put (files_of es))) all c.loop-key.invariant.events;
      faults = c.loop-key.invariant.faults;
    }
