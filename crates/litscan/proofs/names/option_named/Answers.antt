use Rattle.std.proofs.Common.{◌∙◌, ap}
use Rattle.litscan.specs.Names.{long_names, option_or_shortened}
use Rattle.litscan.proofs.names.option_named.Goals as goal

pub returns-in-None : goal.returns-in-None
unfolding long_names
returns-in-None c =
    c.shortened_in.ensures
    ∙ ap (λ found. option_or_shortened found c.args.at c.args.name.now) c.in-None.ensures
