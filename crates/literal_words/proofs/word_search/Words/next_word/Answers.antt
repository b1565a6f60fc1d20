use Rattle.std.proofs.Common.{◌+◌, arith}
use Rattle.literal_words.specs.Inside.WholeWords.{starts_looked_up, word_parts}
use Rattle.literal_words.proofs.lemmas.WholeWords.{best_here, best_is_leftmost, none_further, words_damaged, words_end}
use Rattle.literal_leftmost.proofs.lemmas.Cursor.{fits}
use Rattle.literal_leftmost.proofs.lemmas.GreedyIn.{on_err}
use Rattle.literal_words.proofs.lemmas.WholeWords.{words_most, words_on, words_there}
use Rattle.literal_words.proofs.word_search.Words.next_word.Goals as goal

pub returns-in-Some-2-clause-leftmost : goal.returns-in-Some-2-clause-leftmost
returns-in-Some-2-clause-leftmost c = λ search is parts.
    let found = c.in-Some.found in
    let so_far = c.loop-found.invariant in
    let leftmost = rw c.in-Some.is at (c.in_ok-found.ensures.steps.leftmost search is (so_far.starts.knows search is))
    in
    let here = best_here (word_parts c.args.self.now search) parts c.args.haystack.now c.args.sides.now c.args.at
    c.loop-found.starts.at c.args.span.end found leftmost in
    best_is_leftmost (word_parts c.args.self.now search) parts c.args.haystack.now c.args.sides.now c.args.at
    c.loop-found.starts.at c.args.span.end found leftmost
    (so_far.none search is parts) (grind arith) c.in-Some-2.word
    (rw c.in-Some-2.is at (c.in_ok-word.ensures.best search is parts here))

pub returns-in-Some-2-clause-scans : goal.returns-in-Some-2-clause-scans
returns-in-Some-2-clause-scans c =
    let so_far = c.loop-found.invariant in
    let told = c.in_ok-found.ensures.steps in
    let found = c.in-Some.found in
    let lies = rw c.in-Some.is at told.lies in
    let at = rw c.in-Some.is at told.at in
    rw at (words_on c.args.self.now.backward.table.longest c.args.starts.now.at c.loop-found.starts.at
    (starts_looked_up c.args.self.now c.args.span c.args.starts.now)
    (starts_looked_up c.args.self.now c.args.span c.loop-found.starts)
    (starts_looked_up c.args.self.now c.args.span c.next_in.new.cursor) found c.args.tally.now c.loop-found.tally
    c.next_in.new.tally c.best_word.new.tally so_far.scans told.scans c.in_ok-word.ensures.scans
    c.in_ok-word.ensures.least lies.short lies.after)

pub returns-clause-leftmost : goal.returns-clause-leftmost
returns-clause-leftmost c = λ search is parts i k word.
    let told = c.loop-found.invariant in
    let so_far = told.none search is parts in
    let none = rw c.in_default.is at (c.in_ok-found.ensures.steps.leftmost search is (told.starts.knows search is)) in
    grind arith

pub returns-clause-scans : goal.returns-clause-scans
returns-clause-scans c =
    let so_far = c.loop-found.invariant in
    let told = c.in_ok-found.ensures.steps in
    let at = rw c.in_default.is at told.at in
    rw at (words_end c.args.self.now.backward.table.longest c.args.starts.now.at c.loop-found.starts.at c.args.span.end
    (starts_looked_up c.args.self.now c.args.span c.args.starts.now)
    (starts_looked_up c.args.self.now c.args.span c.loop-found.starts)
    (starts_looked_up c.args.self.now c.args.span c.next_in.new.cursor) c.args.tally.now c.loop-found.tally
    c.next_in.new.tally so_far.scans told.scans so_far.inside)

pub loop-found-preserved : goal.loop-found-preserved
loop-found-preserved c =
    let longest = c.args.self.now.backward.table.longest in
    let so_far = c.loop-found.invariant in
    let told = c.in_ok-found.ensures.steps in
    let found = c.in-Some.found in
    let lies = rw c.in-Some.is at told.lies in
    let at = rw c.in-Some.is at told.at in
    record {
      starts = record {
        safe = so_far.starts.safe;
        valid = so_far.starts.valid;
        cursor = told.cursor;
        knows = λ search is. told.knows search is (so_far.starts.knows search is);
      };
      none = λ search is parts.
          let leftmost = rw c.in-Some.is at (told.leftmost search is (so_far.starts.knows search is)) in
          let here = best_here (word_parts c.args.self.now search) parts c.args.haystack.now c.args.sides.now c.args.at
          c.loop-found.starts.at c.args.span.end found leftmost in
          let best = rw c.in_default-2.is at (c.in_ok-word.ensures.best search is parts here) in
          rw at (none_further (word_parts c.args.self.now search) parts c.args.haystack.now c.args.sides.now c.args.at
          c.loop-found.starts.at c.args.span.end found leftmost (so_far.none search is parts) best);
      later = omega (arith, so_far.later, lies.after, at);
      inside = omega (arith, lies.some, lies.inside, at);
      least = omega (arith, so_far.least, told.looks.least_grows);
      most = omega (arith, so_far.most, told.looks.most_grows);
      scans = rw at (words_on longest c.args.starts.now.at c.loop-found.starts.at
          (starts_looked_up c.args.self.now c.args.span c.args.starts.now)
          (starts_looked_up c.args.self.now c.args.span c.loop-found.starts)
          (starts_looked_up c.args.self.now c.args.span c.next_in.new.cursor) found c.args.tally.now
          c.loop-found.tally c.next_in.new.tally c.best_word.new.tally so_far.scans told.scans
          c.in_ok-word.ensures.scans c.in_ok-word.ensures.least lies.short lies.after);
    }

pub returns-in_err-found-clause-rest : goal.returns-in_err-found-clause-rest
returns-in_err-found-clause-rest c =
    let so_far = c.loop-found.invariant in
    words_damaged c.args.self.now.backward.table.longest c.args.span c.args.starts.now.at c.loop-found.starts.at
    (starts_looked_up c.args.self.now c.args.span c.args.starts.now)
    (starts_looked_up c.args.self.now c.args.span c.loop-found.starts) c.args.tally.now c.loop-found.tally
    c.next_in.new.tally so_far.scans c.in_err-found.ensures.rest so_far.inside

pub returns-in_err-word-clause-rest : goal.returns-in_err-word-clause-rest
returns-in_err-word-clause-rest c =
    let so_far = c.loop-found.invariant in
    let told = c.in_ok-found.ensures.steps in
    let found = c.in-Some.found in
    let lies = rw c.in-Some.is at told.lies in
    words_most c.args.self.now.backward.table.longest c.args.span c.args.starts.now.at (found.start + 1)
    (starts_looked_up c.args.self.now c.args.span c.args.starts.now)
    (starts_looked_up c.args.self.now c.args.span c.next_in.new.cursor) c.args.tally.now c.best_word.new.tally
    (words_there c.args.self.now.backward.table.longest c.args.starts.now.at c.loop-found.starts.at _ _ _ found
    c.args.tally.now c.loop-found.tally c.next_in.new.tally c.best_word.new.tally so_far.scans told.scans
    c.in_err-word.ensures.scans lies.short lies.after) (omega (arith, lies.some, lies.inside)) told.looks.few

pub returns-in_err-word-clause-fits : goal.returns-in_err-word-clause-fits
returns-in_err-word-clause-fits c =
    let starts = c.next_in.new.cursor in
    on_err c.from_residual-in_err-word.result _ (fits c.args.self.now.backward.table.longest c.args.span starts.at
    starts.marks starts.room c.in_ok-found.ensures.steps.cursor)
