use Rattle.std.proofs.Common.{ap}
use Rattle.literal_prefilters.proofs.lemmas.Choice.{kept_not_empty}
use Rattle.literal_prefilters.proofs.lemmas.Strategies.{covers_search}
use Rattle.literal_prefilters.specs.PrefilterValue.{by_table}
use Rattle.literal_prefilters.proofs.prefilter.confirming.Strategy.by_table.Goals as goal

pub returns-clause-keeps : goal.returns-clause-keeps
returns-clause-keeps c =
    let patterns = c.in_ok-patterns.ensures.patterns in
    record {
      covered = rw (patterns, ap (λ b. b.ignore_case) c.builder.view_is)
          (covers_search c.args.kind c.args.builder c.requires.kind (by_table c.args.table) c.requires.built);
      not_empty = rw patterns (kept_not_empty c.builder.inside c.args.builder c.builder.invariant c.builder.view_is);
      in_order = c.in_ok-patterns.ensures.in_order;
    }
