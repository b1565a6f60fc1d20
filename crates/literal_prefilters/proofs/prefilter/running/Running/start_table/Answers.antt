use Rattle.std.proofs.Common.{◌∙◌}
use Rattle.literal_base.specs.Bytes.{contains}
use Rattle.literal_prefilters.proofs.lemmas.Running.{start_table-up_to}
use Rattle.literal_prefilters.proofs.prefilter.running.Running.start_table.Goals as goal

pub returns : goal.returns
returns c ignore_case patterns r =
    c.of_start_bytes.ensures
    ∙ start_table-up_to ignore_case patterns (contains c.args.self.now.start.set) r.start.set
