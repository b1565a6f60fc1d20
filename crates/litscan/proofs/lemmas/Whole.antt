-- Bytes that consist of whole lines. For `passed` and `context`.
use Rattle.std.proofs.Common.{◌≡◌, ◌≢◌, ◌⊎◌, ◌+◌, ◌-◌, ◌<◌, ◌≤◌, ◌∙◌, ◌++◌, ◌∷◌, [], ℕ, List}
use Rattle.std.proofs.Common.{ap, append-nil, append_assoc, arith, drop, get_or, inl, inr, length, length-append}
use Rattle.std.proofs.Common.{refl, slice_range, subst, sym, take}
use Rattle.std.proofs.lemmas.Bool.{cases_lt}
use Rattle.std.proofs.lemmas.List.{drop_more, flat_map_more, get_or-append-add, get_or-drop, get_or-take}
use Rattle.std.proofs.lemmas.List.{get_or_default, length-drop}
use Rattle.std.proofs.lemmas.List.{length-take-le, take_more}
use Rattle.std.proofs.lemmas.List.Elements.{All-append, All-cons, All-push}
use Rattle.std.proofs.lemmas.List.Folds.{drop_split}
use Rattle.std.proofs.Math.Seq.{take-add}
use Rattle.std.proofs.Common.{take-append-drop}
use Rattle.std.proofs.lemmas.Grind.{flat_map-append}
use Rattle.std.specs.List.{All, flat_map}
use Rattle.litscan.specs.Inside.Passed.{EndsLine}
use Rattle.litscan.specs.Lines.{HasNoEnd, lines_of, with_end}
use Rattle.litscan.proofs.lemmas.Lines.{lines_are, lines_of-feeds}
use Rattle.litscan.proofs.lemmas.Printing.{length-feeds}
use Rattle.litscan.proofs.lemmas.Reading.{length-feeds_most}

-- these lines, each with its end, are the bytes
pub record Makes (line_end : ℕ) (bytes : List ℕ) (lines : List (List ℕ)) : Type 0 where
  pub whole : All (HasNoEnd line_end) lines
  pub are : bytes ≡ flat_map (with_end line_end) lines

module _ (line_end : ℕ) where
  -- no other lines are
  pub makes_lines : {bytes : List ℕ} {lines : List (List ℕ)} → Makes line_end bytes lines
      → lines_of line_end bytes ≡ lines
  makes_lines {bytes} {lines} makes = ap (lines_of line_end) makes.are ∙ lines_of-feeds line_end lines makes.whole

  -- the lines of bytes that end a line
  pub made : (bytes : List ℕ) → EndsLine line_end bytes → Makes line_end bytes (lines_of line_end bytes)
  made bytes ends =
      let are = lines_are line_end bytes in
      by are.before are.last are.text_is are.before_whole are.last_whole
    where
      by : (front : List (List ℕ)) (last : List ℕ) → bytes ≡ flat_map (with_end line_end) front ++ last
          → All (HasNoEnd line_end) front → HasNoEnd line_end last → Makes line_end bytes (lines_of line_end bytes)
      by front [] is whole last_whole =
          let makes : Makes line_end bytes front =
          record { whole = whole; are = is ∙ append-nil (flat_map (with_end line_end) front) } in
          subst (Makes line_end bytes) (sym (makes_lines makes)) makes
      by front (byte ∷ more) is whole last_whole =
          let text = flat_map (with_end line_end) front in
          let long = ap (λ (l : List ℕ). length l) is ∙ length-append text (byte ∷ more) in
          elim ends [
            | inl empty ↦ absurd (omega (arith, long, empty))
            | inr feed ↦
                let place : length bytes - 1 ≡ length text + length more = omega (arith, long) in
                absurd (last_whole (length more) 0 (omega arith)
                (sym (get_or-append-add text (byte ∷ more) (length more) 0)
                ∙ ap (λ l. get_or l (length text + length more) 0) (sym is)
                ∙ ap (λ n. get_or bytes n 0) (sym place) ∙ feed.1))
          ]

  -- the bytes up to the end of a line
  pub ends_front : (bytes : List ℕ) (at : ℕ) → at ≤ length bytes
      → (at ≡ 0) ⊎ ((0 < at) × (get_or bytes (at - 1) 0 ≡ line_end)) → EndsLine line_end (take at bytes)
  ends_front bytes at inside feed =
      let size = length-take-le at bytes inside in
      elim feed [
        | inl zero ↦ inl (omega (arith, size, zero))
        | inr last ↦ inr (
          omega (arith, size, last.0),
          ap (λ n. get_or (take at bytes) (n - 1) 0) size ∙ get_or-take at bytes (at - 1) 0 (omega (arith, last.0))
              ∙ last.1,
        )
      ]

  -- and those behind any place
  pub ends_behind : (bytes : List ℕ) (at : ℕ) → EndsLine line_end bytes → EndsLine line_end (drop at bytes)
  ends_behind bytes at ends =
      let size = length-drop at bytes in
      elim (cases_lt at (length bytes)) [
        | inr over ↦ inl (omega (arith, size, over))
        | inl inside ↦
            elim ends [
              | inl empty ↦ absurd (omega (arith, inside, empty))
              | inr last ↦
                  let place : at + (length (drop at bytes) - 1) ≡ length bytes - 1 =
                  omega (arith, size, inside) in inr (
                    omega (arith, size, inside),
                    get_or-drop at bytes (length (drop at bytes) - 1) 0 ∙ ap (λ n. get_or bytes n 0) place ∙ last.1,
                  )
            ]
      ]

  -- a part of bytes where no byte ends a line
  pub no_end : (bytes : List ℕ) (at end : ℕ) → at ≤ end → end ≤ length bytes
      → ((k : ℕ) → at ≤ k → k < end → get_or bytes k 0 ≢ line_end) → HasNoEnd line_end (slice_range bytes at end)
  no_end bytes at end after inside none k d below =
      let size : length (slice_range bytes at end) ≡ end - at =
      length-take-le (end - at) (drop at bytes) (omega (arith, length-drop at bytes, inside)) in
      let within : k < end - at = omega (arith, below, size) in
      subst (λ b. b ≢ line_end)
      (sym (get_or-take (end - at) (drop at bytes) k d within ∙ get_or-drop at bytes k d
      ∙ get_or_default bytes (at + k) d 0 (omega (arith, within, inside))))
      (none (at + k) (omega arith) (omega (arith, within)))

  -- one line more in front
  pub makes_before : (bytes : List ℕ) (at end : ℕ) (lines : List (List ℕ)) → at ≤ end → end < length bytes
      → ((k : ℕ) → at ≤ k → k < end → get_or bytes k 0 ≢ line_end) → get_or bytes end 0 ≡ line_end
      → Makes line_end (drop (end + 1) bytes) lines
      → Makes line_end (drop at bytes) (slice_range bytes at end ∷ lines)
  makes_before bytes at end lines after inside none feed makes =
      let line = slice_range bytes at end in
      record {
        whole = All-cons (HasNoEnd line_end) line lines (no_end bytes at end after (omega (arith, inside)) none)
            makes.whole;
        are =
            drop_split bytes at end after
            ∙ ap (λ l. line ++ l) (drop_more bytes end 0 inside ∙ ap (λ b. b ∷ drop (end + 1) bytes) feed
            ∙ ap (λ l. line_end ∷ l) makes.are)
            ∙ sym (append_assoc line (line_end ∷ []) (flat_map (with_end line_end) lines));
      }

  -- or behind
  pub makes_behind : (bytes : List ℕ) (at end : ℕ) (lines : List (List ℕ)) → at ≤ end → end < length bytes
      → ((k : ℕ) → at ≤ k → k < end → get_or bytes k 0 ≢ line_end) → get_or bytes end 0 ≡ line_end
      → Makes line_end (take at bytes) lines
      → Makes line_end (take (end + 1) bytes) (lines ++ slice_range bytes at end ∷ [])
  makes_behind bytes at end lines after inside none feed makes =
      let line = slice_range bytes at end in
      let place : end ≡ at + (end - at) = omega (arith, after) in
      record {
        whole = All-push (HasNoEnd line_end) lines line makes.whole
            (no_end bytes at end after (omega (arith, inside)) none);
        are =
            take_more bytes end 0 inside ∙ ap (λ b. take end bytes ++ b ∷ []) feed
            ∙ ap (λ l. l ++ line_end ∷ []) (ap (λ n. take n bytes) place ∙ take-add at (end - at) bytes)
            ∙ append_assoc (take at bytes) line (line_end ∷ [])
            ∙ ap (λ l. l ++ with_end line_end line) makes.are
            ∙ flat_map_more (with_end line_end) [] lines line;
      }

  -- whole lines in two parts
  pub lines_of_parts : (bytes : List ℕ) (at : ℕ) → EndsLine line_end (take at bytes) → EndsLine line_end (drop at bytes)
      → lines_of line_end bytes ≡ lines_of line_end (take at bytes) ++ lines_of line_end (drop at bytes)
  lines_of_parts bytes at front back =
      let first = made (take at bytes) front in
      let last = made (drop at bytes) back in
      let these = lines_of line_end (take at bytes) in
      let those = lines_of line_end (drop at bytes) in
      makes_lines (record {
        whole = All-append (HasNoEnd line_end) these those first.whole last.whole;
        are =
            sym (take-append-drop at bytes) ∙ ap (λ l. l ++ drop at bytes) first.are
            ∙ ap (λ l. flat_map (with_end line_end) these ++ l) last.are
            ∙ sym (flat_map-append (with_end line_end) these those);
      })

  -- are no more than the bytes
  pub few_lines : {bytes : List ℕ} {lines : List (List ℕ)} → Makes line_end bytes lines → length lines ≤ length bytes
  few_lines {bytes} {lines} makes =
      omega (arith, length-feeds_most line_end lines, ap (λ (l : List ℕ). length l) makes.are)

  -- a place before the end, from which no end of a line comes before another place
  pub ends_inside : (bytes : List ℕ) (at end : ℕ) → EndsLine line_end bytes → at < length bytes → at ≤ end
      → end ≤ length bytes → ((k : ℕ) → at ≤ k → k < end → get_or bytes k 0 ≢ line_end) → end < length bytes
  ends_inside bytes at end (inl empty) some after inside none = absurd (omega (arith, empty, some))
  ends_inside bytes at end (inr last) some after inside none =
      elim (cases_lt end (length bytes)) [
        | inl below ↦ below
        | inr over ↦ absurd (none (length bytes - 1) (omega (arith, some)) (omega (arith, some, over)) last.1)
      ]

  -- bytes that are made of lines end a line
  pub ends_of : (lines : List (List ℕ)) → EndsLine line_end (flat_map (with_end line_end) lines)
  ends_of [] = inl refl
  ends_of (line ∷ more) =
      let rest = flat_map (with_end line_end) more in
      let all = with_end line_end line ++ rest in
      let size = length-feeds line_end line more in
      elim (ends_of more) [
        | inl empty ↦
            let place : length all - 1 ≡ length line + 0 = omega (arith, size, empty) in inr (
              omega (arith, size),
              ap (λ n. get_or all n 0) place
                  ∙ ap (λ l. get_or l (length line + 0) 0) (append_assoc line (line_end ∷ []) rest)
                  ∙ get_or-append-add line (line_end ∷ rest) 0 0,
            )
        | inr last ↦
            let place : length all - 1 ≡ length (with_end line_end line) + (length rest - 1) =
            omega (arith, size, last.0, length-append line (line_end ∷ [])) in inr (
              omega (arith, size),
              ap (λ n. get_or all n 0) place ∙ get_or-append-add (with_end line_end line) rest (length rest - 1) 0
                  ∙ last.1,
            )
      ]
