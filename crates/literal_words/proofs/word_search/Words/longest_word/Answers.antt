use Rattle.std.proofs.Common.{arith, ◌≡◌, true}
use Rattle.std.proofs.lemmas.Bool.{cases_Bool, false≢true}
use Rattle.literal_words.specs.Inside.WholeWords.{word_parts}
use Rattle.literal_words.specs.WholeWords.{is_word_at}
use Rattle.literal_words.proofs.lemmas.ShorterWords.{ends_on_next, next_best}
use Rattle.literal_words.proofs.word_search.Words.longest_word.Goals as goal

pub loop-next-preserved : goal.loop-next-preserved
loop-next-preserved c =
    let here = c.in-Some.here in
    let so_far = c.loop-next.invariant in
    let lies = rw c.in-Some.is at so_far.lies in
    let told = c.in_ok-next.ensures in
    let not : is_word_at c.args.self.now.word_bytes c.args.sides.now here.end ≡ true =
    grind (arith, cases_Bool, false≢true) in
    record {
      lies = grind arith;
      here = λ search is parts best.
          let this = rw c.in-Some.is at (so_far.here search is parts best) in
          next_best (word_parts c.args.self.now search) parts c.args.haystack.now c.args.sides.now c.args.found.start
          c.args.found.end here lies.1 lies.0.some lies.2 this c.in_ok-next.next (told.next search is parts this);
      ends = λ search is parts best i word.
          let this = rw c.in-Some.is at (so_far.here search is parts best) in
          let upto = rw c.in-Some.is at (so_far.ends search is parts best i word) in
          ends_on_next (word_parts c.args.self.now search) parts c.args.haystack.now c.args.sides.now c.args.found.start
          c.args.found.end here lies.1 lies.0.some lies.2 this c.in_ok-next.next (told.next search is parts this)
          not i word upto;
      scans = grind arith;
      least = grind arith;
    }
