use Rattle.literal_search.proofs.lemmas.Texts.{occurs_between}
use Rattle.literal_search.proofs.laws.matches_of_texts_lie_between_characters.Goals as goal

pub returns : goal.returns
returns c = λ patterns ignore_case text span i at texts not_empty is_text inside occurs.
    occurs_between patterns ignore_case text span i at texts not_empty is_text inside occurs
