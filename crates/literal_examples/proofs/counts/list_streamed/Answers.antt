use Rattle.std.proofs.Common.{Ok, Some, map, ap, subst, sym, ◌∙◌}
use Rattle.std.proofs.iter.Next.{Yields-more}
use Rattle.std.proofs.lemmas.List.{map_push}
use Rattle.std.specs.Iterator.{Yields}
use Rattle.literal_search.specs.Stream.{GivesStreamed, stream_of}
use Rattle.literal_examples.proofs.counts.list_streamed.Goals as goal

pub loop-found-preserved : goal.loop-found-preserved
loop-found-preserved c =
    let first = stream_of c.args.search.now (Some c.args.text.now) in
    let found = c.in_ok-found.field-0 in
    let step = subst (λ it. GivesStreamed c.loop-found.found-iterator (Some it) c.next.new.self) c.in_ok-found.was
    c.in-Some.ensures.steps in
    record {
      run = subst (λ all. Yields GivesStreamed first all c.next.new.self)
          (sym (map_push _ c.loop-found.all.items found) ∙ ap (map _) (sym c.in_ok-push.ensures.items))
          (Yields-more GivesStreamed first (map Ok c.loop-found.all.items) c.loop-found.found-iterator (Ok found)
          c.next.new.self c.loop-found.invariant.run step);
    }

pub returns : goal.returns
returns c = record {
  all = c.streams_are_greedy.ensures.whole c.args.search.now c.args.text.now c.loop-found.found-iterator
      c.next.new.self c.loop-found.all.items c.loop-found.invariant.run c.in-None.ensures.steps;
}
