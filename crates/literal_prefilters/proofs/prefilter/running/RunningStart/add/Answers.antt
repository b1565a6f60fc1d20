use Rattle.std.proofs.Common.{◌||◌, slice_index, sym, ap, ◌∙◌}
use Rattle.literal_base.specs.Bytes.{contains}
use Rattle.literal_base.specs.Occurs.{same_byte}
use Rattle.literal_prefilters.specs.Tables.{is_start_byte}
use Rattle.literal_prefilters.proofs.lemmas.Running.{fits, is_start_byte-push, start_left, start_more}
use Rattle.literal_prefilters.proofs.lemmas.BuilderSets.{taken_more, taken_past}
use Rattle.literal_prefilters.specs.Inside.Running.{start_taken}
use Rattle.literal_prefilters.proofs.prefilter.running.RunningStart.add.Goals as goal

pub returns-then-not-is_past_a_table : goal.returns-then-not-is_past_a_table
returns-then-not-is_past_a_table c patterns r =
    let ic = c.args.ignore_case in
    let p = c.args.pattern.now in
    let set = contains c.args.self.now.set in
    let few = fits _ _ c.is_past_a_table.ensures c.if-not-is_past_a_table.true in
    let more = taken_more (is_start_byte ic) set patterns r.taken p few in
    record {
      taken = λ b. c.add_start.ensures b ∙ (ap (λ t. t || same_byte ic b (slice_index p 0)) (r.taken b)
          ∙ (sym (is_start_byte-push ic (start_taken ic patterns) p b)
          ∙ ap (λ taken. is_start_byte ic taken b) (sym more)));
      set = start_more ic patterns p set (contains c.add_start.new.set) r.set few c.add_start.ensures;
    }

pub returns-else-not-is_past_a_table : goal.returns-else-not-is_past_a_table
returns-else-not-is_past_a_table c patterns r =
    let ic = c.args.ignore_case in
    let p = c.args.pattern.now in
    let set = contains c.args.self.now.set in
    let many = c.is_past_a_table.ensures.0 c.if-not-is_past_a_table.false in
    record {
      taken = λ b. r.taken b ∙ ap (λ taken. is_start_byte ic taken b)
          (sym (taken_past (is_start_byte ic) set patterns r.taken p many));
      set = start_left ic patterns p set r.set many;
    }
