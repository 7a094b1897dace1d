use Rattle.gn_labelled.proofs.Places.{finds, found, lacks, absent}
use Rattle.gn_labelled.proofs.laws.the_first_item_is_found.Goals as goal

pub returns : goal.returns
returns c = record {
  first = λ items q x. (finds items q x, λ f. found items q x f.place f.here f.its f.first);
  absent = λ items q. (lacks items q, absent items q);
}
