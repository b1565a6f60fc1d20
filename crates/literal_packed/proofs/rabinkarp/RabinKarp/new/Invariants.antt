use Rattle.std.proofs.Common.{◌≡◌, ◌+◌, ◌*◌, ◌++◌, length, map}
use Rattle.literal_packed.specs.PatternsValue.{in_order}
use Rattle.literal_packed.proofs.lemmas.Entries.{entry_of}
use Rattle.literal_packed.proofs.rabinkarp.RabinKarp.new.Given as goal

-- the patterns so far have their entries, and the first bytes of each were hashed
abbrev pub invariant-loop-id : goal.invariant-loop-id
invariant-loop-id l = record {
  split : l.yielded ++ l.id-iterator ≡ in_order l.patterns;
  filled : l.list.items ≡ map (entry_of l.patterns) l.yielded;
  counted : l.tally ≡ record l.initial.tally { hashed = l.initial.tally.hashed + length l.yielded * l.minimum_len };
}
