use Rattle.std.proofs.Common.{◌≡◌, ◌∷◌, ◌++◌, []}
use Rattle.literal_search.proofs.lemmas.Callers.{AreMatchesFrom}
use Rattle.literal_examples.specs.Tokens.{GapsAreWhole, Tiles, matched}
use Rattle.literal_examples.specs.declared.tokens.Token.{Token}
use Rattle.literal_examples.proofs.tokens.tokens.Given as goal

abbrev pub invariant-loop-found : goal.invariant-loop-found
invariant-loop-found l = record {
  from : AreMatchesFrom l.search l.haystack l.at l.found-iterator;
  tiles : Tiles 0 l.at l.all.items;
  matched_are : matched l.all.items ≡ l.yielded;
  whole : (next : Token) → GapsAreWhole (l.all.items ++ next ∷ []);
}
