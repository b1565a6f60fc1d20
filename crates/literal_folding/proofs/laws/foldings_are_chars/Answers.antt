use Rattle.literal_folding.proofs.lemmas.Table.{folded_char_len, folded_char_scalar, folded_char_twice}
use Rattle.literal_folding.proofs.laws.foldings_are_chars.Goals as goal

pub returns : goal.returns
returns c = record { scalar = folded_char_scalar; len = folded_char_len; twice = folded_char_twice }
