-- What plain calls answer, seen as the meaning has it.
use Rattle.gn_values.specs.View.{val_of}
use Rattle.gn_meaning.specs.PlainCalls.{Settled, gives, gives_nothing, prints, writes, refuses, refuses_values}
use Rattle.gn_calls_plain.specs.declared.plain.Settled.{Settled as Answer}
use Rattle.gn_calls_plain.specs.declared.plain.Settled.TheVariants.{Value, Nothing, Line, File, Refused, RefusedValues}

-- what the call answers
abbrev pub settled_view : Answer → Settled
settled_view (Value v) = gives (val_of v)
settled_view Nothing = gives_nothing
settled_view (Line text) = prints text
settled_view (File path bytes) = writes path bytes
settled_view (Refused code argument details) = refuses code argument details
settled_view RefusedValues = refuses_values
