use Rattle.std.proofs.Common.{subst, sym}
use Rattle.literal_pieces.specs.Stream.{ScansMore}
use Rattle.literal_pieces.specs.Inside.Stream.{looked_in_block}
use Rattle.literal_pieces.specs.declared.sought.BlockSearch.{BlockSearch}
use Rattle.literal_pieces.specs.declared.sought.SoughtKind.{SoughtKind}
use Rattle.literal_pieces.specs.Inside.Sought.{IsOfKind, SoughtValue}
use Rattle.literal_pieces.proofs.lemmas.StreamCounts.{few_in_block, words_in_block}
use Rattle.literal_pieces.proofs.sought.BlockSearch.next_in.Goals as goal

pub returns-in-Ok-next-clause-scans : goal.returns-in-Ok-next-clause-scans
returns-in-Ok-next-clause-scans g c =
    let is = subst (λ (k : SoughtKind). IsOfKind k c.args.sought.now) c.in-Words.is c.kind.ensures in
    let old = c.args.self.now in
    let starts = c.next_word-next.new.starts in
    let new : BlockSearch = record old { cursor = starts } in
    subst (λ (s : SoughtValue). ScansMore (looked_in_block s old) (looked_in_block s new) c.args.tally.now
    c.next_word-next.new.tally) (sym is.1)
    (words_in_block old.words.backward.table.longest old.span old.cursor starts c.args.tally.now
    c.next_word-next.new.tally c.requires.through.cursor c.in-Ok-next.ensures.starts.cursor c.in-Ok-next.ensures.scans)

pub returns-in-Ok-next-clause-few : goal.returns-in-Ok-next-clause-few
returns-in-Ok-next-clause-few g c =
    let new : BlockSearch = record c.args.self.now { cursor = c.next_word-next.new.starts } in
    few_in_block c.args.sought.now new c.requires.tables c.in-Ok-next.ensures.starts.cursor
