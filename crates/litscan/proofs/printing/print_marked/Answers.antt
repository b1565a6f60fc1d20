use Rattle.std.proofs.Common.{◌≡◌, ◌++◌, ◌∷◌, ◌∙◌, [], List, ℕ, ap, append-nil, append_assoc, arith, length, refl}
use Rattle.std.proofs.Common.{slice_range, subst, sym}
use Rattle.std.proofs.KnownBytes.{Appends-nil, Appends-trans}
use Rattle.std.proofs.lemmas.Result.{on_ok_weaker}
use Rattle.std.specs.Io.KnownBytes.{Appends}
use Rattle.litscan.specs.Asked.{AreMatches}
use Rattle.litscan.specs.Inside.Asked.{IsAlong}
use Rattle.litscan.specs.Printed.{marked_from, printed_match}
use Rattle.litscan.proofs.lemmas.Asked.{along_first}
use Rattle.litscan.proofs.printing.print_marked.Goals as goal

-- what is printed up to a match, and that, and what is behind
behind : (out before shown rest : List ℕ)
    → ((out ++ before) ++ shown) ++ rest ≡ out ++ (before ++ shown ++ rest)
behind out before shown rest = simp append_assoc

pub loop-found-init : goal.loop-found-init
loop-found-init g c = record {
  all = [];
  out = [];
  inside = omega arith;
  along = along_first c.args.search.now c.args.options c.args.line.now c.starts-starts.result
      c.starts-starts.ensures;
  goes_on = λ more are. are;
  written = Appends-nil _;
  marked = λ more. refl;
}

pub loop-found-preserved : goal.loop-found-preserved
loop-found-preserved g c =
    let search = c.args.search.now in
    let options = c.args.options in
    let line = c.args.line.now in
    let from = c.loop-found.from in
    let found = c.in-Some.found in
    let so_far = c.loop-found.invariant in
    let first = c.in-Some.ensures.first in
    let before = slice_range line from found.start in
    let shown = printed_match options line found in
    let here = Appends (g.W.Write.contents c.loop-found.writer.inner) (g.W.Write.contents c.write_all.new.self.inner) in
    let front : Appends (g.W.Write.contents c.args.writer.now.inner) (g.W.Write.contents c.write_all.new.self.inner)
    (so_far.out ++ before) =
    Appends-trans _ _ _ so_far.out before so_far.written
    (subst (λ start. here (slice_range line from start)) c.start.ensures.start c.in_ok-write_all.ensures.written) in
    record {
      all = so_far.all ++ found ∷ [];
      out = (so_far.out ++ before) ++ shown;
      inside = omega (arith, c.end-from.ensures.end, first.whole, first.occurs.occurs.before_end);
      along = subst (λ at. IsAlong search line at c.next_asked.new.starts) (sym c.end-from.ensures.end)
          c.in-Some.ensures.along;
      goes_on = λ more are.
          subst (AreMatches search options line 0) (sym (append_assoc so_far.all (found ∷ []) more))
          (so_far.goes_on (found ∷ more) (
            first,
            subst (λ at. AreMatches search options line at more) c.end-from.ensures.end are,
          ));
      written =
          Appends-trans _ _ _ (so_far.out ++ before) shown front c.in_ok-print_shown.ensures.printed;
      marked = λ more.
          let rest = marked_from options line found.end more in
          ap (λ at. ((so_far.out ++ before) ++ shown) ++ marked_from options line at more) c.end-from.ensures.end
          ∙ behind so_far.out before shown rest ∙ so_far.marked (found ∷ more)
          ∙ ap (marked_from options line 0) (sym (append_assoc so_far.all (found ∷ []) more));
    }

pub returns-clause-printed : goal.returns-clause-printed
returns-clause-printed g c =
    let options = c.args.options in
    let line = c.args.line.now in
    let so_far = c.loop-found.invariant in
    let last = slice_range line c.loop-found.from (length line) in
    let all_of : so_far.out ++ last ≡ marked_from options line 0 so_far.all =
    so_far.marked [] ∙ ap (marked_from options line 0) (append-nil so_far.all) in
    on_ok_weaker c.write_all-2.result
    (λ written. (
      so_far.all,
      subst (AreMatches c.args.search.now options line 0) (append-nil so_far.all)
          (so_far.goes_on [] c.in_default.ensures.first),
      subst (Appends _ _) all_of (Appends-trans _ _ _ so_far.out last so_far.written written),
    ))
    c.write_all-2.ensures.written
