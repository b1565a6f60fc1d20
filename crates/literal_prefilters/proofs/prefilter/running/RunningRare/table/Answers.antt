use Rattle.std.proofs.Common.{slice_index, sym, ◌∙◌}
use Rattle.literal_base.specs.Bytes.{contains}
use Rattle.literal_prefilters.proofs.lemmas.Running.{rare_table-up_to}
use Rattle.literal_prefilters.proofs.prefilter.running.RunningRare.table.Goals as goal

pub returns : goal.returns
returns c ignore_case patterns r =
    let no = c.if-self.false in
    c.if_small.ensures ∙ rare_table-up_to ignore_case patterns (contains c.args.self.now.set)
    (slice_index c.args.self.now.offsets) (sym no ∙ r.long) (r.set no) (r.some no) (r.offsets no)
