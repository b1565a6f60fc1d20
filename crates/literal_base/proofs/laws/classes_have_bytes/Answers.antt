use Rattle.literal_base.proofs.lemmas.Marks.{class_has_byte, class_has_elements}
use Rattle.literal_base.proofs.laws.classes_have_bytes.Goals as goal

pub returns-clause-byte : goal.returns-clause-byte
returns-clause-byte c = class_has_byte

pub returns-clause-elements : goal.returns-clause-elements
returns-clause-elements c = class_has_elements
