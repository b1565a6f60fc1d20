use Rattle.std.proofs.Common.{◌≡◌, flat_map}
use Rattle.literal_words.specs.WordText.{sides_of_char}
use Rattle.literal_words.proofs.word_text.new_sides.Given as goal

abbrev pub invariant-loop-c : goal.invariant-loop-c
invariant-loop-c l = l.all.items ≡ flat_map sides_of_char l.yielded
