use Rattle.literal_ids.proofs.lemmas.Bits.{number_of-bits_of}
use Rattle.literal_ids.proofs.laws.bits_give_their_number_back.Goals as goal

pub returns : goal.returns
returns c = number_of-bits_of
