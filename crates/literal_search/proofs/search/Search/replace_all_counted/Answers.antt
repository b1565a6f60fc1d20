use Rattle.std.proofs.Common.{◌∙◌, ◌++◌, ◌∷◌, [], ap, arith, refl, rules}
use Rattle.std.proofs.iter.Next.{Yields-more}
use Rattle.std.specs.List.{slice_range}
use Rattle.literal_search.specs.MatchesValue.{GivesCounted}
use Rattle.literal_search.proofs.lemmas.Callers.{matches_of, scans_whole}
use Rattle.literal_leftmost.proofs.lemmas.Iterations.{gives_from_counted, scans_each_from_yields}
use Rattle.literal_leftmost.proofs.lemmas.Iterations.{scans_part_from_yields}
use Rattle.literal_leftmost.proofs.lemmas.Iterations.{scans_rest_from_yields}
use Rattle.literal_search.proofs.lemmas.Replaced.{all_written, refused_at, refused_behind, replacement_at, written_on}
use Rattle.literal_search.proofs.search.Search.replace_all_counted.Goals as goal

pub returns-in_err-extend_from_slice-clause-error : goal.returns-in_err-extend_from_slice-clause-error
returns-in_err-extend_from_slice-clause-error c =
    let so_far = c.loop-found.invariant in
    let refused = refused_at so_far.written
    (omega (arith, c.if-replacements-patterns_len.false, c.patterns_len.ensures.len)) refl
    (gives_from_counted _ _ _ so_far.run)
    c.patterns_len.ensures.patterns.some c.in-Some.ensures.gives (grind arith) in
    search (rules, refused)

pub returns-in_err-extend_from_slice-2-clause-error : goal.returns-in_err-extend_from_slice-2-clause-error
returns-in_err-extend_from_slice-2-clause-error c =
    let so_far = c.loop-found.invariant in
    let refused = refused_at so_far.written
    (omega (arith, c.if-replacements-patterns_len.false, c.patterns_len.ensures.len)) refl
    (gives_from_counted _ _ _ so_far.run)
    c.patterns_len.ensures.patterns.some c.in-Some.ensures.gives (grind (arith, replacement_at)) in
    search (rules, refused)

pub returns-in_err-extend_from_slice-3-clause-error : goal.returns-in_err-extend_from_slice-3-clause-error
returns-in_err-extend_from_slice-3-clause-error c =
    let so_far = c.loop-found.invariant in
    let refused = refused_behind so_far.written
    (omega (arith, c.if-replacements-patterns_len.false, c.patterns_len.ensures.len)) refl
    (gives_from_counted _ _ _ so_far.run)
    c.in_default.ensures.gives
    (omega (arith, c.in_err-extend_from_slice-3.ensures.full, c.loop-found.text.ok)) in
    search (rules, refused)

pub loop-found-preserved : goal.loop-found-preserved
loop-found-preserved c =
    let so_far = c.loop-found.invariant in
    let step = c.in-Some.ensures.gives in
    let found = c.in-Some.found in
    record {
      done = so_far.done ++ found ∷ [];
      run = grind (arith, Yields-more, matches_of);
      written = written_on so_far.written step _ _ _ _ _ c.in_ok-extend_from_slice.ensures.items
          c.in_ok-extend_from_slice-2.ensures.items
          (ap (slice_range c.args.haystack.now c.loop-found.at) c.start.ensures.start)
          (replacement_at c.args.replacements.now _ _ (c.as_usize.ensures.value ∙ c.pattern.ensures))
          c.end-at.ensures.end;
    }

pub returns-clause-ok : goal.returns-clause-ok
returns-clause-ok c =
    let so_far = c.loop-found.invariant in
    let last = c.in_default.ensures in
    let (is, matches_are) = all_written so_far.written
    (omega (arith, c.if-replacements-patterns_len.false, c.patterns_len.ensures.len)) refl
    (gives_from_counted _ _ _ so_far.run) last.gives _ c.in_ok-extend_from_slice-3.ensures.items in
    let each = scans_each_from_yields _ so_far.done _ _ so_far.run
    (record { gives = last.gives; scans = last.scans }) in
    (is, omega (arith, each))

pub returns-clause-bounded : goal.returns-clause-bounded
returns-clause-bounded c =
    let last = c.in_default.ensures in
    scans_whole c.args.self.now.query.patterns c.args.haystack.now c.args.tally.now c.next_counted.new.tally
    (scans_rest_from_yields _ c.loop-found.invariant.done _ (c.next_counted.new.self, c.next_counted.new.tally)
    c.loop-found.invariant.run (record { gives = last.gives; scans = last.scans }))

pub returns-in_err-extend_from_slice-clause-bounded : goal.returns-in_err-extend_from_slice-clause-bounded
returns-in_err-extend_from_slice-clause-bounded c =
    let step = c.in-Some.ensures in
    scans_whole c.args.self.now.query.patterns c.args.haystack.now c.args.tally.now c.next_counted.new.tally
    (scans_part_from_yields (matches_of c.args.self.now c.args.haystack.now, c.args.tally.now)
    (c.loop-found.invariant.done ++ c.in-Some.found ∷ []) (c.next_counted.new.self, c.next_counted.new.tally)
    (omega arith)
    (Yields-more GivesCounted _ _ _ c.in-Some.found _ c.loop-found.invariant.run
    (record { gives = step.gives; scans = step.scans })))

pub returns-in_err-extend_from_slice-2-clause-bounded : goal.returns-in_err-extend_from_slice-2-clause-bounded
returns-in_err-extend_from_slice-2-clause-bounded c =
    let step = c.in-Some.ensures in
    scans_whole c.args.self.now.query.patterns c.args.haystack.now c.args.tally.now c.next_counted.new.tally
    (scans_part_from_yields (matches_of c.args.self.now c.args.haystack.now, c.args.tally.now)
    (c.loop-found.invariant.done ++ c.in-Some.found ∷ []) (c.next_counted.new.self, c.next_counted.new.tally)
    (omega arith)
    (Yields-more GivesCounted _ _ _ c.in-Some.found _ c.loop-found.invariant.run
    (record { gives = step.gives; scans = step.scans })))

pub returns-in_err-extend_from_slice-3-clause-bounded : goal.returns-in_err-extend_from_slice-3-clause-bounded
returns-in_err-extend_from_slice-3-clause-bounded c =
    let last = c.in_default.ensures in
    scans_whole c.args.self.now.query.patterns c.args.haystack.now c.args.tally.now c.next_counted.new.tally
    (scans_rest_from_yields _ c.loop-found.invariant.done _ (c.next_counted.new.self, c.next_counted.new.tally)
    c.loop-found.invariant.run (record { gives = last.gives; scans = last.scans }))
