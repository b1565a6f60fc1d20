use Rattle.literal_prefilters.proofs.prefilter.running.Running.new.Goals as goal

pub returns : goal.returns
returns c ignore_case =
    record { start = c.new.ensures ignore_case; rare = c.new-2.ensures ignore_case }
