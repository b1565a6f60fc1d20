use Rattle.std.proofs.Common.{◌≡◌, ◌+◌, ◌++◌, ◌∷◌, [], append-nil, append_assoc, ap, arith, refl, subst, sym}
use Rattle.std.proofs.Common.{ℕ, slice_range}
use Rattle.std.proofs.KnownBytes.{Appends-nil, Appends-trans}
use Rattle.std.proofs.lemmas.List.{flat_map_more, length_push}
use Rattle.std.specs.Io.KnownBytes.{Appends}
use Rattle.literal_base.specs.MatchValue.{MatchValue}
use Rattle.litscan.specs.Asked.{AreMatches}
use Rattle.litscan.specs.Inside.Asked.{IsAlong}
use Rattle.litscan.specs.Printed.{printed_match, printed_matches, printed_part}
use Rattle.litscan.proofs.lemmas.Asked.{along_first}
use Rattle.litscan.proofs.printing.print_matches.Goals as goal

pub loop-found-init : goal.loop-found-init
loop-found-init g c = record {
  all = [];
  inside = omega arith;
  along = along_first c.args.search.now c.args.options c.args.line.now c.starts-starts.result
      c.starts-starts.ensures;
  goes_on = λ more are. are;
  written = Appends-nil _;
  counted = refl;
}

pub loop-found-preserved : goal.loop-found-preserved
loop-found-preserved g c =
    let search = c.args.search.now in
    let options = c.args.options in
    let name = c.args.name.now in
    let number = c.args.number in
    let line = c.args.line.now in
    let found = c.in-Some.found in
    let so_far = c.loop-found.invariant in
    let first = c.in-Some.ensures.first in
    let place : c.args.offset + c.start.result ≡ c.args.offset + found.start = ap (λ n. c.args.offset + n)
    c.start.ensures.start in
    let part = λ (at : ℕ) (it : MatchValue). printed_part options name number at (slice_range line it.start it.end)
    (printed_match options line it) in
    let longer = length_push so_far.all found in
    let here = Appends (g.W.Write.contents c.loop-found.writer.inner)
    (g.W.Write.contents c.print_match.new.writer.inner) in
    record {
      all = so_far.all ++ found ∷ [];
      inside = omega (arith, c.end-from.ensures.end, first.whole, first.occurs.occurs.before_end);
      along = subst (λ at. IsAlong search line at c.next_asked.new.starts) (sym c.end-from.ensures.end)
          c.in-Some.ensures.along;
      goes_on = λ more are.
          subst (AreMatches search options line 0) (sym (append_assoc so_far.all (found ∷ []) more))
          (so_far.goes_on (found ∷ more) (
            first,
            subst (λ at. AreMatches search options line at more) c.end-from.ensures.end are,
          ));
      written =
          subst (Appends _ _)
          (flat_map_more (λ it. part (c.args.offset + it.start) it) [] so_far.all found)
          (Appends-trans _ _ _ (printed_matches options name number c.args.offset line so_far.all) _ so_far.written
          (subst (λ at. here (part at found)) place c.in_ok-print_match.ensures.printed));
      counted = omega (arith, longer);
    }

pub returns-clause-printed : goal.returns-clause-printed
returns-clause-printed g c =
    let so_far = c.loop-found.invariant in (
      so_far.all,
      subst (AreMatches c.args.search.now c.args.options c.args.line.now 0) (append-nil so_far.all)
          (so_far.goes_on [] c.in_default.ensures.first),
      so_far.written,
      so_far.counted,
    )
