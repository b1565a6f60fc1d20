-- Every occurrence in a text with one byte more. For callers.
use Rattle.std.proofs.Common.{◌≡◌, ◌==◌, ◌+◌, ◌-◌, ◌<◌, ◌≤◌, ◌++◌, ◌∷◌, [], ◌∙◌, ℕ, Bool, List, ap, arith, sym, subst}
use Rattle.std.proofs.Common.{cond, count_by, drop, get_or, inl, inr, length, length-append, map, take, refl}
use Rattle.std.specs.List.{AllPairs, IsAmong}
use Rattle.std.proofs.lemmas.Bool.{cases_lt}
use Rattle.std.proofs.lemmas.List.{drop-append-le, length-drop, length-map, take-append-le, get_or-map}
use Rattle.std.proofs.lemmas.List.{get_or-append-add, get_or-append_right, get_or_append_left}
use Rattle.std.proofs.lemmas.List.Elements.{All-append, All-map}
use Rattle.std.proofs.lemmas.List.Sums.{sum_by-append}
use Rattle.literal_base.specs.MatchValue.{MatchValue}
use Rattle.literal_base.proofs.lemmas.Unique.{MatchValue-ext}
use Rattle.literal_base.specs.Occurs.{AreEqualBytes, Occurs, pattern_at, whole_of}
use Rattle.literal_occurrences.specs.Automaton.{AreAtEnd, OccursAtEnd}
use Rattle.literal_occurrences.specs.Overlapping.{ComesBefore, IsOccurrence, IsOverlapping}

module _ (patterns : List (List ℕ)) (ignore_case : Bool) (text : List ℕ) (byte : ℕ) where
  -- the match of a pattern that ends with the longer text
  abbrev pub match_at_end : ℕ → MatchValue
  match_at_end i =
      record { pattern = i; start = length text + 1 - length (pattern_at patterns i); end = length text + 1 }

  part_same : (at len : ℕ) → at + len ≤ length text → take len (drop at (text ++ byte ∷ [])) ≡ take len (drop at text)
  part_same at len inside =
      ap (take len) (drop-append-le at text (byte ∷ []) (omega arith))
      ∙ take-append-le len (drop at text) (byte ∷ []) (omega (arith, length-drop at text))

  length_longer : length (text ++ byte ∷ []) ≡ length text + 1
  length_longer = length-append text (byte ∷ [])

  extend : (found : MatchValue) → IsOccurrence patterns ignore_case text (whole_of text) found
      → IsOccurrence patterns ignore_case (text ++ byte ∷ []) (whole_of (text ++ byte ∷ [])) found
  extend found is =
      let n = length (pattern_at patterns found.pattern) in
      let inside : found.start + n ≤ length text = is.occurs.before_end in
      record {
        occurs = record {
          is_pattern = is.occurs.is_pattern;
          after_start = is.occurs.after_start;
          before_end = omega (arith, inside, length_longer);
          same = subst (λ part. AreEqualBytes ignore_case part (pattern_at patterns found.pattern))
              (sym (part_same found.start (found.start + n - found.start) (omega arith))) is.occurs.same;
        };
        whole = is.whole;
      }

  back : (found : MatchValue) → found.end ≤ length text
      → IsOccurrence patterns ignore_case (text ++ byte ∷ []) (whole_of (text ++ byte ∷ [])) found
      → IsOccurrence patterns ignore_case text (whole_of text) found
  back found inside is =
      let n = length (pattern_at patterns found.pattern) in
      let ends : found.start + n ≤ length text = omega (arith, is.whole) in
      record {
        occurs = record {
          is_pattern = is.occurs.is_pattern;
          after_start = is.occurs.after_start;
          before_end = ends;
          same = subst (λ part. AreEqualBytes ignore_case part (pattern_at patterns found.pattern))
              (part_same found.start (found.start + n - found.start) (omega arith)) is.occurs.same;
        };
        whole = is.whole;
      }

  is_ending : (i : ℕ) → OccursAtEnd patterns ignore_case (text ++ byte ∷ []) (whole_of (text ++ byte ∷ [])) i
      → IsOccurrence patterns ignore_case (text ++ byte ∷ []) (whole_of (text ++ byte ∷ [])) (match_at_end i)
  is_ending i (start, occurs, end) =
      let same : start ≡ length text + 1 - length (pattern_at patterns i) = omega (arith, end, length_longer) in
      record {
        occurs = subst (λ at. Occurs patterns ignore_case (text ++ byte ∷ []) (whole_of (text ++ byte ∷ [])) i at) same
            occurs;
        whole = omega (arith, end, length_longer);
      }

  among_left : (xs ys : List MatchValue) (v : MatchValue) → IsAmong xs v → IsAmong (xs ++ ys) v
  among_left xs ys v (k, (below, is)) =
      (k, (omega (arith, length-append xs ys), is ∙ sym (get_or_append_left xs ys v k below)))

  among_right : (xs ys : List MatchValue) (v : MatchValue) → IsAmong ys v → IsAmong (xs ++ ys) v
  among_right xs ys v (k, (below, is)) =
      (length xs + k, (omega (arith, length-append xs ys), is ∙ sym (get_or-append-add xs ys k v)))

  -- the occurrences that end with the byte, behind every one that ended before, are all
  pub pushed : (all : List MatchValue) (ends : List ℕ)
      → IsOverlapping patterns ignore_case text (whole_of text) all
      → AreAtEnd patterns ignore_case (text ++ byte ∷ []) (whole_of (text ++ byte ∷ [])) ends
      → IsOverlapping patterns ignore_case (text ++ byte ∷ []) (whole_of (text ++ byte ∷ []))
      (all ++ map match_at_end ends)
  pushed all ends old new = record {
    each =
        All-append (IsOccurrence patterns ignore_case (text ++ byte ∷ []) (whole_of (text ++ byte ∷ []))) all
        (map match_at_end ends) (λ k d below. extend _ (old.each k d below))
        (All-map (IsOccurrence patterns ignore_case (text ++ byte ∷ []) (whole_of (text ++ byte ∷ []))) match_at_end
        ends (λ k d below. is_ending _ (new.each k d below)));
    ordered = ordered;
    every = every;
  }
    where
      ordered : AllPairs ComesBefore (all ++ map match_at_end ends)
      ordered i j d before below =
          let few = length-append all (map match_at_end ends) in
          let same_len = length-map ends match_at_end in
          elim (cases_lt j (length all)) [
            | inl left ↦
                subst (λ m. ComesBefore m (get_or (all ++ map match_at_end ends) j d))
                (sym (get_or_append_left all (map match_at_end ends) d i (omega arith)))
                (subst (ComesBefore (get_or all i d)) (sym (get_or_append_left all (map match_at_end ends) d j left))
                (old.ordered i j d before left))
            | inr right ↦
                let at_j = get_or-append_right all (map match_at_end ends) (length all) j d refl right in
                let inside : j - length all < length ends = omega (arith, few, same_len) in
                let is_j = at_j ∙ get_or-map match_at_end ends (j - length all) 0 d inside in
                elim (cases_lt i (length all)) [
                  | inl left ↦
                      let one = old.each i d left in
                      subst (ComesBefore (get_or (all ++ map match_at_end ends) i d)) (sym is_j)
                      (subst (λ (m : MatchValue). ComesBefore m (match_at_end (get_or ends (j - length all) 0)))
                      (sym (get_or_append_left all (map match_at_end ends) d i left))
                      (inl (omega (arith, one.whole, one.occurs.before_end))))
                  | inr also ↦
                      let is_i = get_or-append_right all (map match_at_end ends) (length all) i d refl also
                      ∙ get_or-map match_at_end ends (i - length all) 0 d (omega arith) in
                      let less = new.ascend (i - length all) (j - length all) 0 (omega arith) inside in
                      subst (ComesBefore (get_or (all ++ map match_at_end ends) i d)) (sym is_j)
                      (subst (λ (m : MatchValue). ComesBefore m (match_at_end (get_or ends (j - length all) 0)))
                      (sym is_i) (inr (refl, less)))
                ]
          ]

      every : (found : MatchValue)
          → IsOccurrence patterns ignore_case (text ++ byte ∷ []) (whole_of (text ++ byte ∷ [])) found
          → IsAmong (all ++ map match_at_end ends) found
      every found is =
          elim (cases_lt (length text) found.end) [
            | inl last ↦
                let end_is : found.end ≡ length text + 1 =
                omega (arith, is.whole, is.occurs.before_end, length_longer) in
                let (k, below, at_k) = new.every found.pattern (
                  found.start,
                  is.occurs,
                  omega (arith, is.whole, end_is, length_longer),
                ) in
                let same : found ≡ match_at_end found.pattern =
                MatchValue-ext found (match_at_end found.pattern) refl (omega (arith, is.whole, end_is)) end_is in
                among_right all (map match_at_end ends) found (
                  k,
                  (
                    omega (arith, length-map ends match_at_end),
                    same
                        ∙ (ap match_at_end (sym at_k)
                        ∙ sym (get_or-map match_at_end ends k found.pattern found below)),
                  ),
                )
            | inr earlier ↦ among_left all (map match_at_end ends) found (old.every found (back found earlier is))
          ]

  count_ending : (i : ℕ) (ends : List ℕ)
      → count_by (λ (m : MatchValue). m.pattern == i) (map match_at_end ends) ≡ count_by (λ number. number == i) ends
  count_ending i [] = refl
  count_ending i (number ∷ more) =
      sum_by-append (λ (m : MatchValue). cond (m.pattern == i) 1 0) (match_at_end number ∷ []) (map match_at_end more)
      ∙ (ap (λ n. count_by (λ number. number == i) (number ∷ []) + n) (count_ending i more)
      ∙ sym (sum_by-append (λ number. cond (number == i) 1 0) (number ∷ []) more))

  -- so for each pattern the number of those that end with the byte is added
  pub counts_pushed : (all : List MatchValue) (ends : List ℕ) (i : ℕ)
      → count_by (λ (m : MatchValue). m.pattern == i) (all ++ map match_at_end ends)
      ≡ count_by (λ (m : MatchValue). m.pattern == i) all + count_by (λ number. number == i) ends
  counts_pushed all ends i =
      sum_by-append (λ (m : MatchValue). cond (m.pattern == i) 1 0) all (map match_at_end ends)
      ∙ ap (λ n. count_by (λ (m : MatchValue). m.pattern == i) all + n) (count_ending i ends)
