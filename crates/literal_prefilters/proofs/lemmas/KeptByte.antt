-- The byte that a confirming search keeps.
-- For `next_byte`.
use Rattle.std.proofs.Common.{◌≡◌, ℕ, ◌≤◌, List, Option, Some, is_some, ap, subst, arith}
use Rattle.literal_base.specs.declared.search.Span.{Span}
use Rattle.literal_prefilters.specs.declared.prefilter.byte_table.TableByte.{TableByte}
use Rattle.literal_prefilters.specs.Inside.Confirming.{IsKept}
use Rattle.literal_prefilters.specs.Table.{IsFirst}

pub kept_first : (table : List (Option ℕ)) (haystack : List ℕ) (start : ℕ) (rest : Span) (kept : Option TableByte)
    (found : TableByte) → IsKept table haystack start rest.start rest.end kept → kept ≡ Some found
    → rest.start ≤ found.place → IsFirst table haystack rest found.place
kept_first table haystack start rest kept found k e after =
    let K : Option TableByte → Type 0 = λ o. IsKept table haystack start rest.start rest.end o in
    let here = subst K e k in record {
      after_start = after;
      before_end = omega (arith, here.within);
      here = ap is_some here.distance;
      none_before = λ j from before. here.free j from (omega arith);
    }
