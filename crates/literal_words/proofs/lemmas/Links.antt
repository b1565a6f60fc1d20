-- The link of a match: the longest pattern that begins where it does and ends before it.
use Rattle.std.proofs.Common.{◌≡◌, ◌≢◌, ◌∙◌, ◌+◌, ◌-◌, ◌<◌, ◌⊎◌, ℕ, List, [], ap, arith, get_or, inl, inr, length}
use Rattle.std.proofs.lemmas.List.{get_or-map, length-map}
use Rattle.literal_base.specs.Leftmost.{IsLeftmostMatch}
use Rattle.literal_base.specs.MatchValue.{MatchValue}
use Rattle.literal_base.specs.Occurs.{between, pattern_at}
use Rattle.literal_leftmost.specs.Inside.Backward.{AreBackFor, BeginsBest, NoneBeginsAt, back_tables_by}
use Rattle.literal_words.specs.Inside.WholeWords.{AreWordParts, IsBestHere, IsMatchWithin, word_parts}
use Rattle.literal_leftmost.specs.SearchValue.{SearchValue}
use Rattle.literal_rows.specs.Table.{nothing}
use Rattle.literal_words.specs.declared.word_search.Words.{Words}
use Rattle.literal_leftmost.proofs.lemmas.Backward.{linked_there}

module _ (w : Words) (haystack : List ℕ) (bytes : (i : ℕ) → get_or haystack i 0 < 256) (search : SearchValue)
    (is : AreBackFor search w.backward) (parts : AreWordParts (word_parts w search)) (found : MatchValue)
    (lies : IsMatchWithin w haystack found) (here : IsBestHere search haystack found)
  where
    abbrev link : ℕ
    link = get_or w.backward.links.now found.pattern 0

    linked : ((link ≡ nothing)
        × NoneBeginsAt (back_tables_by search w.backward) haystack (found.end - 1) found.start)
        ⊎ ((link < nothing)
        × BeginsBest (back_tables_by search w.backward) haystack (found.end - 1) found.start link)
    linked =
        linked_there (back_tables_by search w.backward) is.tables haystack bytes parts.longest w.backward.links.now
        (is.links parts.longest) found.start found.end found.pattern lies.inside here.occurs here.whole

    -- without a link nothing is there
    pub no_link : link ≡ nothing
        → NoneBeginsAt (back_tables_by search w.backward) haystack (found.end - 1) found.start
    no_link none = elim linked [
      | inl is ↦ is.1
      | inr is ↦ absurd (omega (arith, none, is.0))
    ]

    -- else it leads to the best pattern
    pub by_link : link ≢ nothing
        → BeginsBest (back_tables_by search w.backward) haystack (found.end - 1) found.start link
    by_link some = elim linked [
      | inl is ↦ absurd (some is.0)
      | inr is ↦ is.1
    ]

    -- whose length is known
    pub link_long : link ≢ nothing → (link < length w.backward.lens.now)
        × (get_or w.backward.lens.now link 0 ≡ length (pattern_at search.query.patterns link))
        × (0 < get_or w.backward.lens.now link 0)
        × (found.start + get_or w.backward.lens.now link 0 < found.end)
    link_long some =
        let best = by_link some in
        let long : get_or w.backward.lens.now link 0 ≡ length (pattern_at search.query.patterns link) =
        ap (λ (l : List ℕ). get_or l link 0) is.lens
        ∙ get_or-map (λ (bytes : List ℕ). length bytes) search.query.patterns link [] 0 best.occurs.is_pattern in
        let size = parts.some link [] best.occurs.is_pattern in
        let count = ap (λ (l : List ℕ). length l) is.lens
        ∙ length-map search.query.patterns (λ (bytes : List ℕ). length bytes) in (
          omega (arith, count, best.occurs.is_pattern),
          long,
          omega (arith, long, size),
          omega (arith, long, best.occurs.before_end, lies.some),
        )

    pub link_leftmost : (pattern len : ℕ) → link ≢ nothing → pattern ≡ link → len ≡ get_or w.backward.lens.now pattern 0
        → IsLeftmostMatch search.query search.ignore_case haystack (between found.start (found.end - 1))
        (record { pattern = pattern; start = found.start; end = found.start + len })
    link_leftmost pattern len some pattern_is len_is =
        let best = by_link some in
        let long = link_long some in
        grind arith
