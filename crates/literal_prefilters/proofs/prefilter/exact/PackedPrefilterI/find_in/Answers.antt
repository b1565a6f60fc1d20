use Rattle.literal_prefilters.proofs.lemmas.Exact.{found_step, none_step}
use Rattle.literal_prefilters.proofs.prefilter.exact.PackedPrefilterI.find_in.Goals as goal

pub returns-in-Some-clause-answer : goal.returns-in-Some-clause-answer
returns-in-Some-clause-answer c =
    rw (← c.self.view_is) (found_step c.self.inside.searcher c.args.haystack.now c.args.span c.find_in_counted.result
    c.in-Some.found
    c.args.tally.now c.find_in_counted.new.tally c.in-Some.is c.find_in_counted.ensures.leftmost
    c.find_in_counted.ensures.exact)

pub returns-in-None-clause-answer : goal.returns-in-None-clause-answer
returns-in-None-clause-answer c =
    rw (← c.self.view_is) (none_step c.self.inside.searcher c.args.haystack.now c.args.span c.find_in_counted.result
    c.args.tally.now c.find_in_counted.new.tally c.in-None.is c.find_in_counted.ensures.leftmost
    c.find_in_counted.ensures.exact)
