use Rattle.literal_prefilters.proofs.lemmas.Exact.{answered}
use Rattle.literal_prefilters.proofs.prefilter.Prefilter.find_in.Goals as goal

pub returns-clause-answer : goal.returns-clause-answer
returns-clause-answer c =
    answered c.args.self.now c.args.haystack.now c.args.span c.find_in_counted.result c.new.result
    c.find_in_counted.new.tally c.find_in_counted.ensures.answer
