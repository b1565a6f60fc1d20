use Rattle.std.proofs.Common.{◌++◌, ◌∷◌, [], append-nil, arith, refl, subst, sym}
use Rattle.std.proofs.lemmas.List.{length-append}
use Rattle.literal_base.specs.Occurs.{between}
use Rattle.literal_search.specs.PreparedWords.{PreparedWordMatchesBySidesValue, words_for}
use Rattle.literal_search.specs.WholeWords.{AreWholeWordsBy}
use Rattle.literal_c.specs.Words.{ContinueWordsBy}
use Rattle.literal_c.proofs.lemmas.Words.{continue_on, first_by}
use Rattle.literal_c.proofs.words.count_words.Goals as goal

pub loop-count-init : goal.loop-count-init
loop-count-init c = record {
  words = grind arith;
  in_haystack = grind arith;
  sides = grind arith;
  in_span = grind arith;
  few = grind arith;
  inside = grind arith;
  counted = λ search is longest. (
    [],
    λ more rest.
        subst (λ (m : PreparedWordMatchesBySidesValue). AreWholeWordsBy (words_for search c.args.words.now)
        c.args.haystack.now
        c.args.sides.now (between m.matches.at c.args.span.end) more → AreWholeWordsBy (words_for search
        c.args.words.now) c.args.haystack.now c.args.sides.now
        c.args.span more) (sym c.find_iter_in_by_sides-matches.ensures) (λ all. all) rest,
    refl,
  );
}

pub loop-count-preserved : goal.loop-count-preserved
loop-count-preserved c =
    let so_far = c.loop-count.invariant in
    let it = c.in-Some.field-0 in
    let told = c.in_ok-next_match.ensures.gives in
    let lies = rw c.in-Some.is at told.inside in
    let at = rw c.in-Some.is at told.goes_on.0 in
    record {
      words = grind arith;
      in_haystack = grind arith;
      sides = grind arith;
      in_span = grind arith;
      few = grind arith;
      inside = grind arith;
      counted = λ search is longest.
          let words = words_for search c.args.words.now in
          let (done, continue, count) = so_far.counted search is longest in
          let first = rw c.in-Some.is at (first_by c.loop-count.matches c.next_match.new.self c.args.words.now
          c.args.haystack.now c.args.sides.now c.args.span c.loop-count.matches.matches.at c.in_ok-next_match.field-0
          so_far.words
          so_far.in_haystack so_far.sides so_far.in_span refl told.prepared search is longest) in (
            done ++ it ∷ [],
            subst (ContinueWordsBy words c.args.haystack.now c.args.sides.now c.args.span (done ++ it ∷ [])) (sym at)
                (continue_on words c.args.haystack.now c.args.sides.now c.args.span done
                c.loop-count.matches.matches.at it continue first),
            omega (arith, count, length-append done (it ∷ [])),
          );
    }

pub returns-clause-count : goal.returns-clause-count
returns-clause-count c = λ search is longest.
    let so_far = c.loop-count.invariant in
    let words = words_for search c.args.words.now in
    let (done, continue, count) = so_far.counted search is longest in
    let none = rw c.in_default.is at (first_by c.loop-count.matches c.next_match.new.self c.args.words.now
    c.args.haystack.now c.args.sides.now c.args.span c.loop-count.matches.matches.at c.in_ok-next_match.field-0
    so_far.words so_far.in_haystack so_far.sides so_far.in_span refl c.in_ok-next_match.ensures.gives.prepared search is
    longest) in (
      done,
      subst (AreWholeWordsBy words c.args.haystack.now c.args.sides.now c.args.span) (append-nil done) (continue []
          none),
      count,
    )
