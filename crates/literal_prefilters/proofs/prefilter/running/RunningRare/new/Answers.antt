use Rattle.std.proofs.Common.{ℕ, nat_le, refl, sym, ap, arith}
use Rattle.literal_base.specs.Bytes.{contains}
use Rattle.literal_base.proofs.lemmas.Callers.{get_or-replicate_same}
use Rattle.literal_prefilters.proofs.lemmas.Running.{up_to-none}
use Rattle.literal_prefilters.proofs.lemmas.Sets.{size-none}
use Rattle.literal_prefilters.proofs.prefilter.running.RunningRare.new.Goals as goal

pub returns : goal.returns
returns c ignore_case =
    let set = contains c.empty.result in
    record {
      taken = c.empty.ensures;
      raised = λ b. get_or-replicate_same 256 0 b;
      long = refl;
      set = λ _. up_to-none set c.empty.ensures;
      some = λ _. sym (ap (λ n. nat_le 1 n) (size-none set c.empty.ensures));
      offsets = λ _ _ b. get_or-replicate_same 256 0 b;
      near = λ b. omega (arith, get_or-replicate_same {X = ℕ} 256 0 b);
    }
