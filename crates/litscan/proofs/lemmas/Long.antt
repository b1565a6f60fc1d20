-- With `-x`: lines that are too long to be a word. For `passed`.
use Rattle.std.proofs.Common.{◌≡◌, ◌≢◌, ◌+◌, ◌-◌, ◌<◌, ◌≤◌, ◌==◌, ◌&&◌, ◌∙◌, [], Some, List, ℕ, true, ap}
use Rattle.std.proofs.Common.{arith, drop, get_or, inl, inr, length, slice_range, sym, take}
use Rattle.std.proofs.lemmas.Bool.{and_parts, both_ways, cases_Bool, cond-true, eqb-true, or_cases}
use Rattle.std.proofs.lemmas.List.{flat_map_more, length-drop, length-take-le}
use Rattle.std.specs.List.{All, flat_map}
use Rattle.literal_base.specs.Occurs.{pattern_at}
use Rattle.literal_search.specs.SearchValue.{SearchValue, longest_of}
use Rattle.literal_search.proofs.lemmas.Callers.{within_longest}
use Rattle.litscan.specs.Asked.{ends_line, one_asked}
use Rattle.litscan.specs.Inside.Passed.{HasNoMatch, IsAhead}
use Rattle.litscan.specs.Lines.{with_end}
use Rattle.litscan.specs.declared.options.Options.{Options}
use Rattle.litscan.proofs.lemmas.Asked.{asked_if}
use Rattle.litscan.proofs.lemmas.Whole.{Makes, makes_behind, no_end}

module _ (search : SearchValue) (options : Options) (whole : options.whole ≡ true) where
  -- a line that is longer than each word with a carriage return has no match
  pub too_long : (line : List ℕ) → longest_of search.query.patterns + 1 < length line
      → HasNoMatch search options line
  too_long line long =
      elim (cases_Bool (one_asked search options line)) [
        | inl told ↦
            let o = asked_if search options line told in
            let end = o.1 + length (pattern_at search.query.patterns o.0) in
            let most = within_longest search.query.patterns o.0 in
            let parts = and_parts (o.1 == 0) (ends_line options line end)
            (sym (cond-true options.whole _ _ whole) ∙ o.2.asked) in
            let start = eqb-true o.1 0 parts.0 in
            elim (or_cases (end == length line) _ parts.1) [
              | inl all ↦ absurd (omega (arith, eqb-true end (length line) all, start, most, long))
              | inr return ↦
                  let sides = and_parts (options.crlf && end + 1 == length line) _ return in
                  let one = and_parts options.crlf (end + 1 == length line) sides.0 in
                  absurd (omega (arith, eqb-true (end + 1) (length line) one.1, start, most, long))
            ]
        | inr other ↦ other
      ]

  module _ (bytes : List ℕ) (at lines : ℕ) (seen : List (List ℕ))
      (makes : Makes options.line_end (take at bytes) seen) (none : All (HasNoMatch search options) seen)
      (count : lines ≡ length seen) (inside : at ≤ length bytes)
    where
      size : at ≡ length (flat_map (with_end options.line_end) seen)
      size = sym (length-take-le at bytes inside) ∙ ap (λ (l : List ℕ). length l) makes.are

      -- such lines are passed over, and another line comes next
      pub passes_to : (end : ℕ) → at ≤ end → end < length bytes
          → ((k : ℕ) → at ≤ k → k < end → get_or bytes k 0 ≢ options.line_end) → get_or bytes end 0 ≡ options.line_end
          → IsAhead options.line_end search options bytes
          (record { lines = lines; bytes = at; next = Some (end - at) })
      passes_to end after within apart feed =
          let line = slice_range bytes at end in
          let all = makes_behind options.line_end bytes at end seen after within apart feed makes in (
            line,
            record {
              lines = seen;
              are = record { whole = makes.whole; none = none };
              count = count;
              bytes = size;
              next = (
                sym (length-take-le (end - at) (drop at bytes) (omega (arith, length-drop at bytes, within))),
                no_end options.line_end bytes at end after (omega (arith, within)) apart,
                λ part. absurd (both_ways options.whole part whole),
              );
              text_is =
                  ap (λ n. take n bytes) (omega (arith, after)) ∙ all.are
                  ∙ sym (flat_map_more (with_end options.line_end) [] seen line);
            },
            omega (arith, after, within),
          )
