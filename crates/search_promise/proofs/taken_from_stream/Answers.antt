use Rattle.std.proofs.Common.{◌*◌, ◌∙◌, Ok, Option, List, Some, ap, map, refl, subst, sym, ℕ}
use Rattle.std.proofs.lemmas.List.{map_push}
use Rattle.std.specs.Iterator.{Yields}
use Rattle.literal_search.specs.SearchValue.{ScansListAtMost}
use Rattle.literal_search.specs.Stream.{GivesStreamed, GivesStreamedCounted, stream_of}
use Rattle.search_promise.proofs.taken_from_stream.Goals as goal

pub loop-found-preserved : goal.loop-found-preserved
loop-found-preserved g c =
    let first = stream_of c.args.search.now (g.R.Read.remaining c.args.reader) in
    let items = c.loop-found.matches.items in
    let found = c.in_ok-found.field-0 in
    let next = c.next_counted.new in
    let step = subst (λ it. GivesStreamedCounted (c.loop-found.iteration, c.loop-found.streamed) (Some it)
    (next.self, next.tally)) c.in_ok-found.was
    (record { gives = c.in-Some.ensures.gives; scans = c.in-Some.ensures.scans }) in
    record {
      run = subst (λ all. Yields GivesStreamedCounted (first, c.args.streamed.now) all (next.self, next.tally))
          (sym (map_push _ items found) ∙ ap (map _) (sym c.in_ok-push.ensures.items))
          (c.streams_scan_at_most.ensures.more _ _ _ _ (Ok found) c.loop-found.invariant.run step);
    }

pub returns-clause-bounded : goal.returns-clause-bounded
returns-clause-bounded g c = λ text is.
    let search = c.args.search.now in
    let run = c.loop-found.invariant.run in
    let ended = c.streams_scan_at_most.ensures.ended search (g.R.Read.remaining c.args.reader) _ _ _ _ refl run
    (record { gives = c.in_default.ensures.gives; scans = c.in_default.ensures.scans }) in
    let streamed = subst (λ (u : Option (List ℕ)). Yields GivesStreamed (stream_of search u)
    (map Ok c.loop-found.matches.items) c.loop-found.iteration) is
    (c.streams_scan_at_most.ensures.streamed _ _ _ run) in
    let read = c.streams_are_greedy.ensures.read search text _ _ c.loop-found.matches.items streamed
    c.in_default.ensures.gives in
    subst (λ (n : ℕ). ScansListAtMost search.query.patterns (2 * n) c.args.streamed.now c.next_counted.new.tally) read
    ended
