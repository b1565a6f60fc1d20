use Rattle.literal_prefilters.proofs.lemmas.Choice.{refused_where_picked}
use Rattle.literal_prefilters.proofs.prefilter.confirming.ConfirmingSearch.of_builder.Goals as goal

pub returns-in_err-prefilter-clause-no_memory : goal.returns-in_err-prefilter-clause-no_memory
returns-in_err-prefilter-clause-no_memory c =
    refused_where_picked _ c.from_residual.result c.in_err-prefilter.ensures.no_memory
