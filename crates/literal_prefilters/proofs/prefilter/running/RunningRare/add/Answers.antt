use Rattle.std.proofs.Common.{◌<◌, not, max, length, sym, ap, ◌∙◌, arith}
use Rattle.std.proofs.lemmas.Bool.{lt-leb}
use Rattle.literal_packed.proofs.lemmas.Lists.{and_right_false}
use Rattle.literal_base.specs.Bytes.{contains}
use Rattle.literal_prefilters.specs.Tables.{is_rare_byte, largest_offset, offset_below}
use Rattle.literal_prefilters.proofs.lemmas.Offsets.{offset_below-lt}
use Rattle.literal_prefilters.proofs.lemmas.Running.{fits, largest_offset-push, rare_left, rare_more, short_more}
use Rattle.literal_prefilters.proofs.lemmas.Running.{are_short-push, some_more}
use Rattle.literal_prefilters.proofs.lemmas.RareSetSteps.{is_rare_byte-push, with_rarest-agree}
use Rattle.literal_prefilters.proofs.lemmas.BuilderSets.{rare_taken-behind, rare_taken-long, rare_taken-more}
use Rattle.literal_prefilters.proofs.lemmas.BuilderSets.{rare_taken-past}
use Rattle.literal_prefilters.specs.Inside.Running.{rare_taken}
use Rattle.literal_prefilters.proofs.prefilter.running.RunningRare.add.Goals as goal
use Rattle.literal_prefilters.proofs.prefilter.running.RunningRare.add.Goals.{
  else-not-self-via-then-not-self+else-not-is_past_a_table,
}
use Rattle.literal_prefilters.proofs.prefilter.running.RunningRare.add.Goals.{else-not-self-via-else-not-self}

pub returns-then-pattern-gt-LONGEST : goal.returns-then-pattern-gt-LONGEST
returns-then-pattern-gt-LONGEST c patterns r =
    let ic = c.args.ignore_case in
    let p = c.args.pattern.now in
    let long : 255 < length p = omega (arith, c.if-pattern-gt-LONGEST.true) in
    let still = rare_taken-long ic patterns p long in
    record {
      taken = λ b. r.taken b ∙ ap (λ taken. is_rare_byte ic taken b) (sym still);
      raised = λ b. r.raised b ∙ ap (λ taken. largest_offset ic taken b) (sym still);
      long = sym (ap not (are_short-push patterns p ∙ and_right_false _ _ (lt-leb (length p) 255 long)));
      set = λ none. absurd cc;
      some = λ none. absurd cc;
      offsets = λ none. absurd cc;
      near = r.near;
    }

pub returns-then-not-is_past_a_table : goal.returns-then-not-is_past_a_table
returns-then-not-is_past_a_table c patterns r =
    let ic = c.args.ignore_case in
    let p = c.args.pattern.now in
    let few = fits _ _ c.is_past_a_table.ensures c.if-not-is_past_a_table.true in
    let before = r.offsets c.if-not-self.true few in
    let more = rare_taken-more ic patterns p (contains c.args.self.now.set) r.taken c.args.self.now.has_long r.long
    c.if-not-self.true (omega arith) few in
    record {
      taken = λ b. c.add_rarest.ensures.each b
          ∙ (with_rarest-agree ic (contains c.args.self.now.set) (is_rare_byte ic (rare_taken ic patterns)) r.taken p b
          ∙ (sym (is_rare_byte-push ic (rare_taken ic patterns) p b)
          ∙ ap (λ taken. is_rare_byte ic taken b) (sym more)));
      raised = λ b. c.raise_all.ensures b ∙ (ap (λ n. max n (offset_below ic b p (length p))) (r.raised b)
          ∙ (sym (largest_offset-push ic (rare_taken ic patterns) p b)
          ∙ ap (λ taken. largest_offset ic taken b) (sym more)));
      long = short_more patterns p c.args.self.now.has_long r.long (omega arith);
      set = λ no. rare_more ic patterns p (contains c.args.self.now.set) (contains c.add_rarest.new.set) (r.set no) few
          c.add_rarest.ensures.each;
      some = λ _. some_more patterns p _ c.add_rarest.ensures.some;
      offsets = λ _ _ b. c.raise_all.ensures b ∙ (ap (λ n. max n (offset_below ic b p (length p))) (before b)
          ∙ sym (largest_offset-push ic patterns p b));
      near = λ b. omega (arith, c.raise_all.ensures b, r.near b, offset_below-lt ic b p (length p));
    }

pub returns-else-not-self : goal.returns-else-not-self
returns-else-not-self c patterns r =
    let ic = c.args.ignore_case in
    let p = c.args.pattern.now in
    let set = contains c.args.self.now.set in
    let long = short_more patterns p c.args.self.now.has_long r.long (omega arith) in
    elim c.else-not-self.branch [
      | else-not-self-via-then-not-self+else-not-is_past_a_table w ↦
          let many = w.is_past_a_table.ensures.0 w.if-not-is_past_a_table.false in
          let still = rare_taken-past ic patterns p set r.taken many in record {
            taken = λ b. r.taken b ∙ ap (λ taken. is_rare_byte ic taken b) (sym still);
            raised = λ b. r.raised b ∙ ap (λ taken. largest_offset ic taken b) (sym still);
            long = long;
            set = λ no. rare_left ic patterns p set (r.set no) many;
            some = λ _. some_more patterns p _ (omega arith);
            offsets = λ _ few. absurd (omega arith);
            near = r.near;
          }
      | else-not-self-via-else-not-self w ↦
          let yes = w.if-not-self.false in
          let still = rare_taken-behind ic patterns p c.args.self.now.has_long r.long yes in record {
            taken = λ b. r.taken b ∙ ap (λ taken. is_rare_byte ic taken b) (sym still);
            raised = λ b. r.raised b ∙ ap (λ taken. largest_offset ic taken b) (sym still);
            long = long;
            set = λ no. absurd cc;
            some = λ no. absurd cc;
            offsets = λ no. absurd cc;
            near = r.near;
          }
    ]
