use Rattle.std.proofs.Common.{◌≤◌, ◌-◌, length, arith}
use Rattle.std.proofs.lemmas.List.FromFn.{length-range_with_len}
use Rattle.literal_base.specs.Classes.{alphabet_len_of}
use Rattle.literal_base.specs.Inside.Classes.{classes_from}
use Rattle.literal_base.proofs.alphabet.ByteClasses.iter.Goals as goal

pub returns-clause-few : goal.returns-clause-few
returns-clause-few c =
    let classes = c.args.self.now in
    let few : length (classes_from classes 0) ≤ 256 = omega (
      arith,
      length-range_with_len 0 (alphabet_len_of classes - 0),
      c.alphabet_len.ensures.len,
      c.alphabet_len.ensures.few,
    ) in
    few
