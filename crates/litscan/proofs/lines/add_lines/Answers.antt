use Rattle.std.proofs.Common.{◌++◌, ◌∷◌, [], map, sym, ap, ◌∙◌, append_assoc}
use Rattle.std.proofs.lemmas.Grind.{flat_map-append}
use Rattle.std.proofs.lemmas.List.{flat_map_more}
use Rattle.std.proofs.lemmas.List.Elements.{All-push}
use Rattle.std.proofs.lemmas.Result.{on_ok_weaker}
use Rattle.std.specs.List.{flat_map}
use Rattle.litscan.specs.Lines.{HasNoEnd, last_line, with_end}
use Rattle.litscan.specs.Words.{words_of_line}
use Rattle.litscan.proofs.lemmas.Lines.{lines_of-split}
use Rattle.litscan.proofs.lemmas.Reading.{read_all, read_more}
use Rattle.litscan.proofs.lines.add_lines.Goals as goal

pub loop-preserved : goal.loop-preserved
loop-preserved g c =
    let so_far = c.loop.invariant in
    let words_in = words_of_line c.args.options in
    let line = c.read_line.new.line in
    record {
      seen = so_far.seen ++ line.items ∷ [];
      whole = All-push (HasNoEnd 10) so_far.seen line.items so_far.whole c.in_ok-read_line.ensures.whole;
      read = read_more 10 _ _ _ so_far.seen line.items _ c.if-not-branch.false so_far.read
          c.in_ok-read_line.ensures.bytes;
      added =
          c.in_ok-add_word.ensures.added ∙ ap (λ words. words ++ words_in line.items) so_far.added
          ∙ flat_map_more words_in (map (λ word. word.items) c.args.words.now.items) so_far.seen line.items;
    }

pub returns-then-not-branch-clause-read : goal.returns-then-not-branch-clause-read
returns-then-not-branch-clause-read g c =
    let so_far = c.loop.invariant in
    let words_in = words_of_line c.args.options in
    let last = c.read_line.new.line.items in
    let had = map (λ word. word.items) c.args.words.now.items in
    let whole = c.in_ok-read_line.ensures.whole in
    on_ok_weaker c.add_last.result
    (λ added. (
      flat_map (with_end 10) so_far.seen ++ last,
      read_all 10 _ _ _ (flat_map (with_end 10) so_far.seen) last _ c.if-not-branch.true so_far.read
          c.in_ok-read_line.ensures.bytes c.in_ok-read_line.ensures.ended,
      added ∙ ap (λ words. words ++ flat_map words_in (last_line last)) so_far.added
          ∙ append_assoc had (flat_map words_in so_far.seen) (flat_map words_in (last_line last))
          ∙ ap (λ words. had ++ words) (sym (flat_map-append words_in so_far.seen (last_line last)))
          ∙ ap (λ lines. had ++ flat_map words_in lines) (sym (lines_of-split 10 so_far.seen last so_far.whole whole)),
    ))
    c.add_last.ensures.added
