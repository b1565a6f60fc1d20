use Rattle.literal_ids.proofs.lemmas.Bits.{bits_of-number_of}
use Rattle.literal_ids.proofs.laws.a_number_gives_its_bits_back.Goals as goal

pub returns : goal.returns
returns c = bits_of-number_of
