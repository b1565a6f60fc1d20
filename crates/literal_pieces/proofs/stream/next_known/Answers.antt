use Rattle.std.proofs.Common.{◌≡◌, ◌+◌, ◌-◌, ◌++◌, ◌∙◌, List, ap, arith, length, length-append, refl, subst, sym, true}
use Rattle.std.proofs.Common.{ℕ, ◌*◌, ◌≤◌}
use Rattle.literal_base.specs.MatchValue.{MatchValue}
use Rattle.literal_base.specs.declared.search.Span.{Span}
use Rattle.literal_pieces.specs.Inside.Sought.{AnswersAhead, margin_of, most_in_block, AreTablesOf, reach_of}
use Rattle.literal_pieces.specs.Inside.Stream.{AreHeldFrom, done_to, held, IsThrough, block, shifted}
use Rattle.literal_pieces.specs.declared.sought.BlockSearch.{BlockSearch}
use Rattle.literal_leftmost.specs.declared.so_far.SoFar.TheVariants.{Found, NoneBefore}
use Rattle.literal_pieces.specs.declared.window.Window.{Window}
use Rattle.literal_pieces.proofs.lemmas.Sought.{answers_in_block}
use Rattle.literal_pieces.proofs.lemmas.StreamCounts.{IsPast, begun_so_far, block_passed, idle_so_far, past_block}
use Rattle.literal_pieces.proofs.lemmas.Streams.{block_long}
use Rattle.literal_pieces.proofs.stream.next_known.Goals as goal

-- the held bytes begin where they did, and are no fewer
held_on : {margin at : ℕ} {w v : Window} (piece : List ℕ) → v.offset ≡ w.offset → held v ≡ held w ++ piece
    → AreHeldFrom margin at w → AreHeldFrom margin at v
held_on {margin} {at} {w} {v} piece same more from = record {
  begin = same ∙ from.begin;
  reach = omega (
    arith,
    from.reach,
    same,
    ap (λ (l : List ℕ). length l) more,
    length-append (held w) piece,
  );
}

pub returns-in-Found-clause-answers : goal.returns-in-Found-clause-answers
returns-in-Found-clause-answers g c = λ more over.
    let sought = c.args.sought.now in
    let w = c.go_on.new.window in
    let same : c.offset.result ≡ shifted c.block_offset-base.result c.in-Found.found = grind arith in
    subst (λ (m : MatchValue). AnswersAhead sought c.args.at (held w ++ more) (Found m)) (sym same)
    (answers_in_block sought w c.args.at c.block_offset-base.result c.block.result.now more (Found c.in-Found.found)
    c.go_on.ensures.sound.window (held_on _ c.go_on.ensures.offset c.go_on.ensures.read.2 c.requires.held)
    c.block_offset-base.ensures c.block.ensures
    (c.in-Found.ensures.answers more (λ is. over (sym c.is_whole-is_whole.ensures ∙ is))))

pub returns-in-NoneBefore-clause-scans : goal.returns-in-NoneBefore-clause-scans
returns-in-NoneBefore-clause-scans g c =
    let s = c.args.sought.now in
    let w = c.go_on.new.window in
    let r = c.go_on.new.reading in
    let b = c.go_on.new.ahead in
    let one = c.in-NoneBefore.ensures in
    let on = c.go_on.ensures in
    let base = c.block_offset-base.result in
    let base_is = c.block_offset-base.ensures in
    let end = w.offset + length (held w) in
    let from : AreHeldFrom (margin_of s) c.args.at w = held_on _ on.offset on.read.2 c.requires.held in
    let begins = on.sound.window.begins in
    let to = done_to w r (NoneBefore (c.in-NoneBefore.offset + base)) in
    let past : IsPast (reach_of s) r end to =
    past_block (reach_of s) c.args.at base (length c.block.result.now) c.in-NoneBefore.offset end r r.is_whole r.error
    refl refl (grind arith) (grind (arith, block_long)) (grind arith) from.reach in
    record {
      others = one.scans.others;
      most = omega (
        arith,
        one.scans.most,
        on.paid,
        begun_so_far s w c.args.at b on.begun,
        ap (λ (a : BlockSearch). most_in_block s (a.span.end - a.span.start)) one.same,
        one.few,
        block_passed s w r c.args.at to b on.sound.window on.search on.begun past,
        idle_so_far s w to c.end.new.self (ap (λ (a : BlockSearch). a.is_begun) c.end.ensures),
      );
    }

pub returns-in-NoneBefore-clause-answers : goal.returns-in-NoneBefore-clause-answers
returns-in-NoneBefore-clause-answers g c = λ more over.
    let sought = c.args.sought.now in
    let w = c.go_on.new.window in
    answers_in_block sought w c.args.at c.block_offset-base.result c.block.result.now more
    (NoneBefore c.in-NoneBefore.offset) c.go_on.ensures.sound.window
    (held_on _ c.go_on.ensures.offset c.go_on.ensures.read.2 c.requires.held) c.block_offset-base.ensures
    c.block.ensures
    (c.in-NoneBefore.ensures.answers more (λ is. over (sym c.is_whole-is_whole.ensures ∙ is)))

pub returns-in-Found-clause-scans : goal.returns-in-Found-clause-scans
returns-in-Found-clause-scans g c =
    let s = c.args.sought.now in
    let w = c.go_on.new.window in
    let b = c.go_on.new.ahead in
    let one = c.in-Found.ensures in
    let found = c.offset.result in
    let new = c.first_known.new.ahead in
    let begun : new.is_begun ≡ true = ap (λ (a : BlockSearch). a.is_begun) one.same ∙ c.go_on.ensures.begun in
    let start = ap (λ (a : BlockSearch). most_in_block s ((w.offset - w.passed) + a.span.start)) one.same in
    record {
      others = one.scans.others;
      most = omega (
        arith,
        one.scans.most,
        c.go_on.ensures.paid,
        begun_so_far s w c.args.at b c.go_on.ensures.begun,
        begun_so_far s w found.end new begun,
        start,
      );
    }

pub returns-in-Found-clause-search : goal.returns-in-Found-clause-search
returns-in-Found-clause-search g c =
    let s = c.args.sought.now in
    let w = c.go_on.new.window in
    let new = c.first_known.new.ahead in
    let found = c.in-Found.found in
    let one = c.in-Found.ensures in
    let before = c.go_on.ensures.search in
    let same : c.offset.result ≡ shifted c.block_offset-base.result found = grind arith in
    let end : c.offset.result.end - (w.offset - w.passed) ≡ found.end =
    omega (arith, ap (λ (m : MatchValue). m.end) same, c.block_offset-base.ensures) in
    record {
      tables = subst (AreTablesOf s) (sym (ap (λ (a : BlockSearch). a.words) one.same)) before.tables;
      through = λ begun. subst (λ (n : ℕ). IsThrough s (block w) n new) (sym end)
          (subst (λ (l : List ℕ). IsThrough s l found.end new) c.block.ensures one.through);
      long = λ begun more. subst (λ (p : Span). 2 * reach_of s ≤ (p.end - p.start) + margin_of s)
          (sym (ap (λ (a : BlockSearch). a.span) one.same)) (before.long c.go_on.ensures.begun more);
    }
