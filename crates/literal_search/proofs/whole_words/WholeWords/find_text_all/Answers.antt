use Rattle.std.proofs.Common.{append-nil, arith, subst}
use Rattle.literal_base.specs.Occurs.{whole_of}
use Rattle.literal_search.specs.WordText.{sides_of}
use Rattle.literal_search.specs.WholeWords.{AreWholeWordsBy}
use Rattle.literal_search.proofs.whole_words.WholeWords.find_text_all.Goals as goal

pub returns-clause-all : goal.returns-clause-all
returns-clause-all c =
    subst (AreWholeWordsBy c.args.self.now c.args.text.now (sides_of c.args.text.now) (whole_of c.args.text.now))
    (append-nil c.loop-found.all.items) (c.loop-found.invariant.so_far.goes_on _ (grind arith))
