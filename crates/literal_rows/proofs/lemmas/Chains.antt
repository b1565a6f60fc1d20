-- The patterns that are a suffix of a pattern, from one to the next.
use Rattle.std.proofs.lemmas.Grind.{common_steps}
use Rattle.std.proofs.Common.{◌≡◌, ◌≢◌, ℕ, ◌+◌, ◌-◌, ◌<◌, ◌≤◌, ◌^◌, List, [], ◌∷◌, ◌++◌, length, get_or, take, drop}
use Rattle.std.proofs.Common.{eqb, set, Option, Some, None, inl, inr, refl, sym, subst, ◌∙◌, arith}
use Rattle.std.proofs.lemmas.Bool.{cases_lt}
use Rattle.std.proofs.lemmas.Bool.Decides.{Decides-eqb}
use Rattle.std.proofs.lemmas.List.{get_or-set_other, get_or-set_same, get_or_default, get_or_past, length-drop}
use Rattle.std.proofs.lemmas.List.{length-set, take-append-drop}
use Rattle.std.proofs.lemmas.List.Elements.{All-push, All-weaker, Contains-append_left, Contains-push}
use Rattle.std.proofs.lemmas.List.Kept.{AllPairs-from_increasing}
use Rattle.std.proofs.lemmas.List.Quantifiers.{all_pairs_push}
use Rattle.std.proofs.lemmas.List.Sorted.{All-permutation, Contains-permutation, IsNonDecreasingBy-from_sort}
use Rattle.std.proofs.lemmas.Map.Keys.{IsDistinct-IsPermutation, IsStrictlyIncreasing-from_distinct}
use Rattle.std.proofs.lemmas.Map.Made.{IsDistinct-from_AllPairs}
use Rattle.std.specs.List.{Contains}
use Rattle.std.specs.List.Sorted.{IsPermutation, IsSorted}
use Rattle.std.specs.Ordering.{nat_cmp}
use Rattle.std.specs.Option.{unwrap_or}
use Rattle.literal_base.specs.Occurs.{NoneIsEmpty, pattern_at}
use Rattle.literal_rows.specs.Inside.Suffixes.{AreSuffixes, ComesLater, HasSuffix, HasUpTo, IsSuffix, IsOutputLink}
use Rattle.literal_rows.specs.Inside.Suffixes.{IsNextEqual, left_from}
use Rattle.literal_rows.specs.Inside.Lists.{AreNextEquals, AreOutputLinks}
use Rattle.literal_rows.specs.Table.{nothing}
use Rattle.literal_rows.specs.Words.{ending}
use Rattle.literal_rows.proofs.lemmas.FirstSuffix.{end_of_itself, ends_length, ends_on, ends_same, ends_within}
use Rattle.literal_rows.proofs.lemmas.FirstSuffix.{first_ends, none_ends}

module _ (patterns : List (List ℕ)) (some : NoneIsEmpty patterns) (few : length patterns ≤ 2 ^ 31 - 1) where
  -- a pattern is the first of the equals of another
  pub record IsFirstEqual (pattern first : ℕ) : Type 0 where
    pub below : first < length patterns
    pub same : pattern_at patterns first ≡ pattern_at patterns pattern
    pub first_is : ending patterns (pattern_at patterns first) ≡ Some first

  pub first_equal_of : (pattern first : ℕ) → pattern < length patterns
      → first ≡ unwrap_or (ending patterns (pattern_at patterns pattern)) nothing → IsFirstEqual pattern first
  first_equal_of pattern first below is =
      by (ending patterns (pattern_at patterns pattern)) refl is
    where
      text : List ℕ
      text = pattern_at patterns pattern

      by : (o : Option ℕ) → ending patterns (pattern_at patterns pattern) ≡ o → first ≡ unwrap_or o nothing
          → IsFirstEqual pattern first
      by None ends at = absurd (none_ends patterns some (pattern_at patterns pattern) ends pattern
          (end_of_itself patterns pattern below))
      by (Some i) ends at =
          let all = first_ends patterns some (pattern_at patterns pattern) i ends in
          let itself = end_of_itself patterns pattern below in
          let size = ends_length (pattern_at patterns pattern) (pattern_at patterns i) all.is.ends in
          let long : length (pattern_at patterns pattern) ≤ length (pattern_at patterns i) = grind arith in
          let same : pattern_at patterns i ≡ pattern_at patterns pattern = grind (arith, ends_same) in
          grind arith

  pub behind_first : (text : List ℕ) → HasSuffix text (drop 1 text)
  behind_first text = record { prefix = take 1 text; split = sym (take-append-drop 1 text) }

  -- a shorter end of a pattern is one of what is behind its first symbol
  pub shorter_end : (text : List ℕ) (i : ℕ) → IsSuffix patterns text i → length (pattern_at patterns i) < length text
      → IsSuffix patterns (drop 1 text) i
  shorter_end text i is shorter = grind (arith, ends_within, behind_first)

  module _ (pattern head equal : ℕ) (below : pattern < length patterns)
      (next : IsNextEqual patterns head (pattern + 1) equal)
      (same : pattern_at patterns head ≡ pattern_at patterns pattern)
    where
      itself : IsSuffix patterns (pattern_at patterns pattern) pattern
      itself = end_of_itself patterns pattern below

      -- as long as the pattern, and later: an equal
      as_long : (i : ℕ) → IsSuffix patterns (pattern_at patterns pattern) i
          → length (pattern_at patterns i) ≡ length (pattern_at patterns pattern) → pattern < i
          → (equal ≢ nothing) × (equal ≤ i)
      as_long i end long later = grind (arith, common_steps, ends_same, itself)

      pub link_to_equal : equal ≢ nothing → IsOutputLink patterns pattern equal
      link_to_equal found = grind (arith, common_steps, as_long, cases_lt)

      pub link_to_shorter : equal ≡ nothing → (link : ℕ)
          → link ≡ unwrap_or (ending patterns (drop 1 (pattern_at patterns pattern))) nothing
          → IsOutputLink patterns pattern link
      link_to_shorter none link is =
          by (ending patterns (drop 1 (pattern_at patterns pattern))) refl is
        where
          only_shorter : (i : ℕ) → IsSuffix patterns (pattern_at patterns pattern) i → ComesLater patterns pattern i
              → IsSuffix patterns (drop 1 (pattern_at patterns pattern)) i
          only_shorter i end (inl shorter) = shorter_end (pattern_at patterns pattern) i end shorter
          only_shorter i end (inr later) = absurd ((as_long i end later.0 later.1).0 none)

          by : (o : Option ℕ) → ending patterns (drop 1 (pattern_at patterns pattern)) ≡ o
              → link ≡ unwrap_or o nothing → IsOutputLink patterns pattern link
          by None ends at = record {
            next = inl at;
            others = λ i end later. grind (arith, none_ends, only_shorter);
          }
          by (Some first) ends at =
              let all = first_ends patterns some (drop 1 (pattern_at patterns pattern)) first ends in
              let within = ends_length (drop 1 (pattern_at patterns pattern)) (pattern_at patterns first) all.is.ends in
              let long = some pattern [] below in
              let is_pattern = all.is.is_pattern in
              subst (IsOutputLink patterns pattern) (sym at)
              (record {
                next = inr (
                  record {
                    is_pattern = all.is.is_pattern;
                    ends = ends_on (pattern_at patterns pattern) (drop 1 (pattern_at patterns pattern))
                        (pattern_at patterns first) (behind_first (pattern_at patterns pattern)) all.is.ends;
                  },
                  inl (omega (arith, within, long, length-drop 1 (pattern_at patterns pattern))),
                );
                others = λ i end later. (λ no. omega (arith, no), all.others i (only_shorter i end later));
              })

  -- the heads and links from one pattern more on
  pub heads_on : (heads : List ℕ) (pattern first : ℕ) → AreNextEquals patterns heads (pattern + 1)
      → pattern < length patterns → IsFirstEqual pattern first
      → AreNextEquals patterns (set heads first pattern) pattern
  heads_on heads pattern first are below is = grind (arith, length-set, get_or-set_same, get_or-set_other)

  pub links_on : (links : List ℕ) (pattern link : ℕ) → AreOutputLinks patterns links (pattern + 1)
      → pattern < length patterns → IsOutputLink patterns pattern link
      → AreOutputLinks patterns (set links pattern link) pattern
  links_on links pattern link are below is = record {
    long = length-set links pattern link ∙ are.long;
    each = λ i from inside. elim (cases_lt pattern i) [
      | inl later ↦ subst (IsOutputLink patterns i)
          (sym (get_or-set_other links pattern i link 0 (λ same. omega arith)))
          (are.each i (omega arith) inside)
      | inr not ↦
          let here : pattern ≡ i = omega arith in
          subst (λ k. IsOutputLink patterns k (get_or (set links pattern link) k 0)) here
          (subst (IsOutputLink patterns pattern)
          (sym (get_or-set_same links pattern link 0 (omega (arith, are.long)))) is)
    ];
  }

module _ (patterns : List (List ℕ)) (some : NoneIsEmpty patterns) (few : length patterns ≤ 2 ^ 31 - 1) where
  -- a list of the ends of a pattern, from the first of its equals on
  pub up_to_first : (first : ℕ) → ending patterns (pattern_at patterns first) ≡ Some first
      → HasUpTo patterns (pattern_at patterns first) [] first
  up_to_first first is =
      let all = first_ends patterns some (pattern_at patterns first) first is in
      grind arith

  later_still : (i next link : ℕ) → ComesLater patterns i next → ComesLater patterns next link
      → ComesLater patterns i link
  later_still i next link one is = grind arith

  -- with the next of them it goes on with what that one's link leads to
  pub up_to_more : (text list : List ℕ) (next link : ℕ) → HasUpTo patterns text list next → next ≢ nothing
      → IsOutputLink patterns next link → HasUpTo patterns text (list ++ next ∷ []) link
  up_to_more text list next link has go_on is = elim has.next_is [
    | inl none ↦ absurd (go_on none)
    | inr here ↦ record {
      each = All-push (IsSuffix patterns text) list next has.each here;
      order = all_pairs_push (ComesLater patterns) list next has.order (has.earlier go_on);
      earlier = λ found. elim is.next [
        | inl none ↦ absurd (found none)
        | inr one ↦ All-push (λ i. ComesLater patterns i link) list next
            (All-weaker (λ i. ComesLater patterns i next) (λ i. ComesLater patterns i link)
            (λ i sooner. later_still i next link sooner one.1) list (has.earlier go_on)) one.1
      ];
      others = λ i end. elim (has.others i end) [
        | inl in_list ↦ inl (Contains-append_left list (next ∷ []) i in_list)
        | inr rest ↦ elim rest.1 [
          | inl same ↦ inl (subst (Contains (list ++ next ∷ [])) same (Contains-push list next))
          | inr later ↦ inr (is.others i (within i here end later) later)
        ]
      ];
      next_is = grind (arith, ends_on, text);
    }
  ]
    where
      within : (i : ℕ) → IsSuffix patterns text next → IsSuffix patterns text i → ComesLater patterns next i
          → IsSuffix patterns (pattern_at patterns next) i
      within i here end (inl shorter) = grind (arith, ends_within, text)
      within i here end (inr as_long) = grind (arith, as_long, ends_within, text)

  -- and at the end it has all: sorted, they ascend
  pub up_to_all : (text list sorted : List ℕ) (next : ℕ) → HasUpTo patterns text list next → next ≡ nothing
      → IsPermutation list sorted → IsSorted nat_cmp sorted → AreSuffixes patterns text 0 sorted 0 (length sorted)
  up_to_all text list sorted next has none moved rises =
      let apart = IsDistinct-from_AllPairs Decides-eqb list
      (grind arith) in
      let increases = IsStrictlyIncreasing-from_distinct sorted (IsNonDecreasingBy-from_sort (λ n. n) sorted rises)
      (IsDistinct-IsPermutation eqb (λ x y. grind arith) list sorted moved apart) in
      record {
        ascends = λ j k from before inside. AllPairs-from_increasing sorted increases j k 0 before inside;
        each = λ k from inside.
            (All-permutation (IsSuffix patterns text) list sorted moved has.each k 0 inside, omega arith);
        every = λ i end from. elim (has.others i end) [
          | inl in_list ↦
              let one = Contains-permutation list sorted i moved in_list in
              (one.0, omega arith, one.1, sym (get_or_default sorted one.0 i 0 one.1) ∙ one.2)
          | inr rest ↦ absurd (rest.0 none)
        ];
      }

  -- a chain ends
  pub left_falls : (next link : ℕ) → next < length patterns → IsOutputLink patterns next link
      → left_from patterns link < left_from patterns next
  left_falls next link below is = grind (arith, get_or_past)
