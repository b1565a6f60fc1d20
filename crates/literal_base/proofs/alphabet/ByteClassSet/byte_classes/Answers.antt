use Rattle.std.proofs.Common.{rules}
use Rattle.literal_base.specs.Classes.{class_of}
use Rattle.literal_base.proofs.lemmas.Callers.{by_byte_is}
use Rattle.literal_base.proofs.alphabet.ByteClassSet.byte_classes.Goals as goal

pub returns-after-contains : goal.returns-after-contains
returns-after-contains c = by_byte_is (class_of c.args.self.now) _ 0 (search rules) (search rules)
