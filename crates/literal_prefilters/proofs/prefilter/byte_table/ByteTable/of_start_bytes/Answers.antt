use Rattle.std.proofs.Common.{◌≡◌, true, ℕ, slice_index, replicate, refl, sym, ap, ◌∙◌, arith}
use Rattle.std.proofs.lemmas.Bool.{false_from_ne_true}
use Rattle.literal_base.specs.Bytes.{contains}
use Rattle.literal_base.proofs.lemmas.Callers.{get_or-replicate_same}
use Rattle.literal_prefilters.specs.Tables.{if_small}
use Rattle.literal_prefilters.proofs.lemmas.TableOf.{table_of_agree, if_low_none, if_low_some}
use Rattle.literal_prefilters.proofs.prefilter.byte_table.ByteTable.of_start_bytes.Goals as goal

pub returns-then-holds_high : goal.returns-then-holds_high
returns-then-holds_high c =
    let high = c.holds_high.ensures.0 c.if-holds_high.true in
    sym (if_low_none (contains c.args.set.now) high.0 high.1 high.2 high.3)

pub returns : goal.returns
returns c =
    let set = contains c.args.set.now in
    c.if_small.ensures ∙ (ap if_small (table_of_agree set set (slice_index (replicate 256 0)) (λ _. 0) (λ b. refl)
    (get_or-replicate_same 256 0))
    ∙ sym (if_low_some set (λ b high below. false_from_ne_true (set b)
    (λ here. let no : c.holds_high.result ≡ true = c.holds_high.ensures.1 (b, high, below, here) in cc))))

pub if_small-requires : goal.if_small-requires
if_small-requires c = λ b. omega (arith, get_or-replicate_same {X = ℕ} 256 0 b)
