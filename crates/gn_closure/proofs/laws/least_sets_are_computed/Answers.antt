use Rattle.gn_closure.proofs.Opened.{is_sound, whole_within, exceeds_exactly}
use Rattle.gn_closure.proofs.laws.least_sets_are_computed.Goals as goal

pub returns-clause-sound : goal.returns-clause-sound
returns-clause-sound c start = λ s tested n. is_sound s tested n

pub returns-clause-whole : goal.returns-clause-whole
returns-clause-whole c start = λ s tested n kind limit other bound kinds room. whole_within s tested n kind limit other bound kinds room

pub returns-clause-limits : goal.returns-clause-limits
returns-clause-limits c start = λ s tested n kind limit other bound kinds room. exceeds_exactly s tested n kind limit other bound kinds room
