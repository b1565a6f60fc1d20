use Rattle.std.proofs.Common.{◌<◌, arith, subst, sym}
use Rattle.literal_base.specs.Leftmost.{IsLeftmostMatch}
use Rattle.literal_leftmost.proofs.lemmas.ByteMatches.{leftmost_byte}
use Rattle.literal_leftmost.proofs.backward.Backward.find_byte.Goals as goal

pub returns-clause-leftmost : goal.returns-clause-leftmost
returns-clause-leftmost c = λ search is.
    let start = c.find_byte-start.result in
    let before : start < c.args.span.end = omega (arith, c.if-start-span.false, c.find_byte-start.ensures.inside.1) in
    subst (IsLeftmostMatch search.query search.ignore_case c.args.haystack.now c.args.span) (sym c.must.ensures)
    (leftmost_byte search.query search.ignore_case c.args.haystack.now c.args.span c.args.short.now
    (c.requires.only.only search is) c.requires.one c.requires.valid start c.find_byte-start.ensures.inside.0 before
    c.find_byte-start.ensures.none (c.find_byte-start.ensures.found before))
