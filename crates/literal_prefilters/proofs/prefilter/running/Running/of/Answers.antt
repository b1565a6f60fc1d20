use Rattle.literal_prefilters.proofs.prefilter.running.Running.of.Goals as goal

pub loop-id-init : goal.loop-id-init
loop-id-init c = c.new-running.ensures c.args.ignore_case
