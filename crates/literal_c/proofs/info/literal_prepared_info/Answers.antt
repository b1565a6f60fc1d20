use Rattle.std.proofs.Common.{◌∙◌, ap, arith, inl, inr, sym}
use Rattle.literal_c.specs.Inside.Info.{shortest_in}
use Rattle.literal_c.specs.Arguments.{number_of}
use Rattle.literal_c.proofs.lemmas.Info.{many_lengths, shortest-lengths}
use Rattle.literal_c.proofs.info.literal_prepared_info.Goals as goal

pub returns-clause-leftmost : goal.returns-clause-leftmost
returns-clause-leftmost c = λ search is. record {
  number = sym (many_lengths c.args.prepared.now search.query.patterns is.whole.parts.parts.fits is.lengths);
  shortest = c.shortest.ensures ∙ (ap shortest_in is.lengths ∙ shortest-lengths search.query.patterns);
  longest = is.tables.longest;
  overlapping = elim c.in-Ok.ensures [
    | inl leftmost ↦ leftmost.0
    | inr lists ↦ absurd (omega (arith, lists.2.parts.version_is, is.whole.parts.parts.version_is))
  ];
  kind = elim c.in-Ok.ensures [
    | inl leftmost ↦ leftmost.1 ∙ ap number_of is.kind
    | inr lists ↦ absurd (omega (arith, lists.2.parts.version_is, is.whole.parts.parts.version_is))
  ];
}

pub returns-clause-overlapping : goal.returns-clause-overlapping
returns-clause-overlapping c = λ search is. record {
  number = sym (many_lengths c.args.prepared.now search.patterns is.whole.lists.parts.fits is.lengths);
  shortest = c.shortest.ensures ∙ (ap shortest_in is.lengths ∙ shortest-lengths search.patterns);
  longest = is.longest;
  overlapping = elim c.in-Ok.ensures [
    | inl leftmost ↦ absurd (omega (arith, leftmost.2.parts.version_is, is.whole.lists.parts.version_is))
    | inr lists ↦ lists.0
  ];
  kind = elim c.in-Ok.ensures [
    | inl leftmost ↦ absurd (omega (arith, leftmost.2.parts.version_is, is.whole.lists.parts.version_is))
    | inr lists ↦ lists.1
  ];
}
