use Rattle.std.proofs.Common.{is_some, map, sym, ap, ◌∙◌}
use Rattle.literal_base.proofs.lemmas.Callers.{slice_gives}
use Rattle.literal_prefilters.specs.ConfirmingValue.{prefilter_builder}
use Rattle.literal_prefilters.proofs.lemmas.Callers.{confirming_built_of, confirming_searches_for}
use Rattle.literal_prefilters.proofs.lemmas.Callers.{confirms_where_picked}
use Rattle.test_contracts.proofs.given.first_confirmed.Goals as goal

pub returns-in_default-clause-built : goal.returns-in_default-clause-built
returns-in_default-clause-built c =
    sym (ap is_some c.in_default.is)
    ∙ (ap is_some (confirming_built_of (slice_gives c.args.words.now (cc)) c.args.kind c.args.ignore_case _
    c.in_ok-built.ensures.ok)
    ∙ confirms_where_picked c.args.kind
    (prefilter_builder c.args.kind c.args.ignore_case (map (λ p. p.now) c.args.words.now)))

pub returns-clause-built : goal.returns-clause-built
returns-clause-built c =
    sym (ap is_some c.in-Some.is)
    ∙ (ap is_some (confirming_built_of (slice_gives c.args.words.now (cc)) c.args.kind c.args.ignore_case _
    c.in_ok-built.ensures.ok)
    ∙ confirms_where_picked c.args.kind
    (prefilter_builder c.args.kind c.args.ignore_case (map (λ p. p.now) c.args.words.now)))

pub returns-clause-leftmost : goal.returns-clause-leftmost
returns-clause-leftmost c =
    let same = rw c.in-Some.is at
    (confirming_searches_for (slice_gives c.args.words.now (cc)) c.args.kind c.args.ignore_case _
    c.in_ok-built.ensures.ok) in
    rw (same.0, same.1) at c.find_in-first.ensures
