use Rattle.std.proofs.Common.{sym, ap, is_some, arith}
use Rattle.literal_prefilters.proofs.lemmas.Callers.{first_is, first_none}
use Rattle.literal_prefilters.proofs.prefilter.byte_table.ByteTable.find.Goals as goal

pub returns-in-Some-clause-place : goal.returns-in-Some-clause-place
returns-in-Some-clause-place c =
    sym (first_is c.args.self.now c.args.haystack.now c.args.span c.requires c.loop-place.place (record {
      after_start = omega arith;
      before_end = omega arith;
      here = rw (← c.self.view_is) (ap is_some c.in-Some.is);
      none_before = c.loop-place.invariant.free.none;
    }))

pub returns-clause-place : goal.returns-clause-place
returns-clause-place c =
    sym (first_none c.args.self.now c.args.haystack.now c.args.span c.requires (record {
      none = λ k after below. c.loop-place.invariant.free.none k after (omega arith);
    }))
