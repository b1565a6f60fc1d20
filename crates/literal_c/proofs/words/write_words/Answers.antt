use Rattle.std.proofs.Common.{◌≡◌, ◌∙◌, ◌+◌, List, ap, arith, drop, slice_index, subst, sym}
use Rattle.std.proofs.lemmas.List.{drop-drop, drop-set-lt, set-get_or}
use Rattle.literal_base.specs.Occurs.{between}
use Rattle.literal_search.specs.PreparedWords.{words_for}
use Rattle.literal_search.specs.WholeWords.{IsLeftmostAloneBy}
use Rattle.literal_c.specs.Answers.{MayBeFound, match_of}
use Rattle.literal_c.specs.Words.{ContinueWordsBy, IsWordPageBy}
use Rattle.literal_c.specs.declared.LiteralMatch.{LiteralMatch}
use Rattle.literal_c.proofs.lemmas.Pages.{all_more, last_written}
use Rattle.literal_c.proofs.lemmas.Words.{first_by, full_page, last_page, written_on}
use Rattle.literal_c.proofs.words.write_words.Goals as goal

pub returns-in_default-clause-page : goal.returns-in_default-clause-page
returns-in_default-clause-page c = λ search is longest.
    let so_far = c.loop-place.invariant in
    let words = words_for search c.args.words.now in
    let none = rw c.in_default.is at (first_by c.loop-place.matches c.next_match.new.self c.args.words.now
    c.args.haystack.now c.args.sides.now c.args.span c.loop-place.page.next c.in_ok-it.field-0 so_far.words
    so_far.in_haystack so_far.sides
    so_far.in_span so_far.at c.in_ok-it.ensures.gives.prepared search is longest) in
    subst (λ (new : List LiteralMatch). IsWordPageBy words c.args.haystack.now c.args.sides.now c.args.span
    c.args.found.now new
    c.loop-place.page) (sym (set-get_or c.loop-place.found c.loop-place.place-index _))
    (last_page words c.args.haystack.now c.args.sides.now c.args.span c.args.found.now c.loop-place.found
    c.loop-place.place-index
    c.loop-place.page so_far.count so_far.last (omega arith) (omega arith) (so_far.continue search is longest)
    so_far.others so_far.ends none)

pub loop-place-preserved : goal.loop-place-preserved
loop-place-preserved c =
    let so_far = c.loop-place.invariant in
    let i = c.loop-place.place-index in
    let found = c.loop-place.found in
    let it = c.in-Some.it in
    let new = c.match_for_c.result in
    let told = c.in_ok-it.ensures.gives in
    let lies = rw c.in-Some.is at told.inside in
    let pattern = rw c.in-Some.is at told.pattern in
    let at = rw c.in-Some.is at told.goes_on.0 in
    let end : new.end ≡ c.end.result = ap (λ m. m.end) c.match_for_c.ensures ∙ sym c.end.ensures.end in
    record {
      count = omega arith;
      last = so_far.last;
      words = grind arith;
      in_haystack = grind arith;
      sides = grind arith;
      in_span = grind arith;
      at = grind arith;
      after = grind arith;
      ends = sym end ∙ sym (last_written c.args.span.start i found new (omega arith));
      before = grind arith;
      continue = λ search is longest.
          let words = words_for search c.args.words.now in
          let first = rw c.in-Some.is at (first_by c.loop-place.matches c.next_match.new.self c.args.words.now
          c.args.haystack.now c.args.sides.now c.args.span c.loop-place.page.next c.in_ok-it.field-0 so_far.words
          so_far.in_haystack so_far.sides
          so_far.in_span so_far.at told.prepared search is longest) in
          subst (ContinueWordsBy words c.args.haystack.now c.args.sides.now c.args.span _) end
          (written_on words c.args.haystack.now c.args.sides.now c.args.span i c.loop-place.page.next found new (omega
          arith)
          (so_far.continue search is longest)
          (subst (λ m. IsLeftmostAloneBy words.search.query words.search.ignore_case words.word_bytes
          c.args.haystack.now c.args.sides.now
          (between c.loop-place.page.next c.args.span.end) (match_of m)) (sym c.match_for_c.ensures) first));
      inside = all_more (λ m. MayBeFound c.args.span (slice_index c.args.words.now.numbers 3) (match_of m)) i found new
          (omega arith) so_far.inside (grind arith);
      others = drop-set-lt (i + 1) found i new (omega arith)
          ∙ (sym (drop-drop 1 i found) ∙ (ap (drop 1) so_far.others ∙ drop-drop 1 i c.args.found.now));
    }

pub returns-in-Some-2-clause-page : goal.returns-in-Some-2-clause-page
returns-in-Some-2-clause-page c = λ search is longest.
    let so_far = c.loop-place.invariant in
    let words = words_for search c.args.words.now in
    let first = rw c.in-Some-2.is at (first_by c.loop-place.matches c.next_match-2.new.self c.args.words.now
    c.args.haystack.now c.args.sides.now c.args.span c.loop-place.page.next c.in_ok-it-2.field-0 so_far.words
    so_far.in_haystack so_far.sides
    so_far.in_span so_far.at c.in_ok-it-2.ensures.gives.prepared search is longest) in
    subst (λ at. IsWordPageBy words c.args.haystack.now c.args.sides.now c.args.span c.args.found.now c.loop-place.found
    (record { written = c.loop-place.page.written; next = at; is_last = 0 })) (sym c.start.ensures.start)
    (full_page words c.args.haystack.now c.args.sides.now c.args.span c.args.found.now c.loop-place.found
    c.loop-place.place-index
    c.loop-place.page.written c.loop-place.page.next c.in-Some-2.it so_far.count (omega arith) (omega arith)
    (so_far.continue search is longest) so_far.others first)

pub returns-clause-page : goal.returns-clause-page
returns-clause-page c = λ search is longest.
    let so_far = c.loop-place.invariant in
    let words = words_for search c.args.words.now in
    let none = rw c.in_default-2.is at (first_by c.loop-place.matches c.next_match-2.new.self c.args.words.now
    c.args.haystack.now c.args.sides.now c.args.span c.loop-place.page.next c.in_ok-it-2.field-0 so_far.words
    so_far.in_haystack so_far.sides
    so_far.in_span so_far.at c.in_ok-it-2.ensures.gives.prepared search is longest) in
    last_page words c.args.haystack.now c.args.sides.now c.args.span c.args.found.now c.loop-place.found
    c.loop-place.place-index
    c.loop-place.page so_far.count so_far.last (omega arith) (omega arith) (so_far.continue search is longest)
    so_far.others so_far.ends none
