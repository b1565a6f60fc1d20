use Rattle.std.proofs.Common.{ap}
use Rattle.literal_base.specs.declared.search.Span.{Span}
use Rattle.literal_leftmost.specs.declared.backward.Marks.{Marks}
use Rattle.literal_leftmost.proofs.lemmas.Cursor.{none_far}
use Rattle.literal_leftmost.proofs.cursor.Cursor.make_room.Goals as goal

pub returns-then-span-short-clause-none : goal.returns-then-span-short-clause-none
returns-then-span-short-clause-none c =
    none_far c.args.longest c.args.span c.new.result c.args.self.now.marks c.requires.ordered
    (ap (λ (b : Span). b.end) c.new.ensures) (ap (λ (m : Marks). m.known) c.requires.begins.marks)
