use Rattle.std.proofs.Common.{arith, false, ◌≡◌, subst, sym, true, Option, IfSome}
use Rattle.std.proofs.lemmas.Bool.{cases_Bool, false≢true}
use Rattle.literal_base.specs.MatchValue.{MatchValue}
use Rattle.literal_base.specs.Occurs.{between}
use Rattle.literal_words.specs.Inside.WholeWords.{IsFirstUpTo, IsMatchAtStart, end_or, word_parts}
use Rattle.literal_words.specs.WholeWords.{is_word_at}
use Rattle.literal_words.proofs.lemmas.ShorterWords.{first_on_next, first_with_this, lies_on, next_best}
use Rattle.literal_words.proofs.word_search.Words.first_word.Goals as goal
use Rattle.literal_words.proofs.word_search.Words.first_word.Goals.{then-not-is_word_at, else-not-is_word_at}

pub loop-next-preserved : goal.loop-next-preserved
loop-next-preserved c =
    let here = c.in-Some.here in
    let so_far = c.loop-next.invariant in
    let lies = rw c.in-Some.is at so_far.next in
    let told = c.in_ok-next.ensures in
    let start = c.args.found.start in
    let end = c.args.found.end in
    record {
      next = grind arith;
      here = λ search is parts best.
          let this = rw c.in-Some.is at (so_far.here search is parts best) in
          next_best (word_parts c.args.self.now search) parts c.args.haystack.now c.args.sides.now start end here lies.1
          lies.0.some lies.2 this c.in_ok-next.next (told.next search is parts this);
      first = λ search is parts best.
          let p = word_parts c.args.self.now search in
          let this = rw c.in-Some.is at (so_far.here search is parts best) in
          let first = rw c.in-Some.is at (so_far.first search is parts best) in
          elim c.if-not-is_word_at.branch [
            | then-not-is_word_at w ↦
                let after : is_word_at c.args.self.now.word_bytes c.args.sides.now here.end ≡ false =
                grind (arith, cases_Bool, false≢true) in
                subst (λ (f : Option MatchValue). IsFirstUpTo p c.args.haystack.now c.args.sides.now
                (between start end) (end_or start c.in_ok-next.next) f) (sym w.first-is)
                (first_with_this p parts c.args.haystack.now c.args.sides.now start end here lies.1 lies.0.some lies.2
                this c.in_ok-next.next (told.next search is parts this) c.requires.before after c.loop-next.first
                w.earlier.result first w.earlier.ensures)
            | else-not-is_word_at w ↦
                let not : is_word_at c.args.self.now.word_bytes c.args.sides.now here.end ≡ true =
                grind (arith, cases_Bool, false≢true) in
                subst (λ (f : Option MatchValue). IsFirstUpTo p c.args.haystack.now c.args.sides.now
                (between start end) (end_or start c.in_ok-next.next) f) (sym w.first-is)
                (first_on_next p parts c.args.haystack.now c.args.sides.now start end here lies.1 lies.0.some lies.2
                this c.in_ok-next.next (told.next search is parts this) not c.loop-next.first first)
          ];
      lies = elim c.if-not-is_word_at.branch [
        | then-not-is_word_at w ↦
            subst (λ (f : Option MatchValue). IfSome f (IsMatchAtStart c.args.self.now (between start end)))
            (sym w.first-is) (lies_on c.args.self.now start end here (grind arith) c.loop-next.first
            w.earlier.result so_far.lies w.earlier.ensures)
        | else-not-is_word_at w ↦
            subst (λ (f : Option MatchValue). IfSome f (IsMatchAtStart c.args.self.now (between start end)))
            (sym w.first-is) so_far.lies
      ];
      scans = grind arith;
      least = grind arith;
    }
