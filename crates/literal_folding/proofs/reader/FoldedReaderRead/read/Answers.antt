-- The ready bytes come first, and none is ready only at the end.
use Rattle.std.proofs.Common.{◌≡◌, [], ap, arith, drop, subst, ◌∙◌}
use Rattle.std.specs.Io.KnownBytes.{Keeps}
use Rattle.literal_folding.specs.Inside.Blocks.{ready, rest_of}
use Rattle.literal_folding.proofs.lemmas.Blocks.{end_stays, gives}
use Rattle.literal_folding.proofs.lemmas.Texts.{none_left}
use Rattle.literal_folding.proofs.reader.FoldedReaderRead.read.Goals as goal

pub returns-clause-bytes : goal.returns-clause-bytes
returns-clause-bytes g c =
    let old = c.fill.new.self in
    let new = c.give.new.self in
    let unread = g.R.Read.remaining c.fill.new.reader in (
      gives c.args.self.now unread old new _ c.give.result
          (subst (λ known. Keeps known (rest_of old unread)) c.self.view_is c.in_ok-fill.ensures.keeps)
          c.give.ensures.given c.give.ensures.ready c.give.ensures.held,
      λ none room.
          let nothing : ready old ≡ [] = none_left (ready old) (omega (arith, c.give.ensures.count, none)) in
          end_stays unread old new (c.give.ensures.ready ∙ ap (λ n. drop n (ready old)) none) c.give.ensures.held
          (c.in_ok-fill.ensures.filled nothing),
    )
