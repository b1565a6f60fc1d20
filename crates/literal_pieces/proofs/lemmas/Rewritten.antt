-- A text that is read piece by piece, and written with its matches rewritten.
use Rattle.std.proofs.Common.{◌≡◌, ℕ, ◌+◌, ◌-◌, ◌<◌, ◌≤◌, ◌++◌, [], ◌∷◌, ◌∙◌, Bool, List, Ok, Option, Result, ap, Some}
use Rattle.std.proofs.Common.{true, append-nil, append_assoc, arith, drop, length, length-append, refl, subst, sym}
use Rattle.std.proofs.Common.{slice_range, take}
use Rattle.std.proofs.KnownBytes.{Appends-nil, Appends-trans, Consumes-nil, Consumes-trans}
use Rattle.std.proofs.lemmas.Fn.{FoldsTo-push}
use Rattle.std.proofs.lemmas.List.{drop-append-le, drop-drop, length-drop, length-take-le, take-append-drop}
use Rattle.std.proofs.lemmas.List.{take-append-le}
use Rattle.std.specs.Bool.{⊤}
use Rattle.std.specs.Borrow.{Bor, MutBor}
use Rattle.std.specs.Io.KnownBytes.{Appends, Consumes, IsAtEnd}
use Rattle.std.specs.List.{FoldsTo}
use Rattle.std.specs.declared.io.Error.{Error}
use Rattle.literal_base.specs.MatchValue.{MatchValue}
use Rattle.literal_base.specs.Occurs.{NoneIsEmpty}
use Rattle.literal_pieces.specs.ReplacedStream.{RewritesAllOf, RewritesMatch, RewritingValue}
use Rattle.literal_pieces.specs.Inside.Rewriting.{HasRewritten}
use Rattle.literal_pieces.specs.Inside.Sought.{AnswersAhead, AreMatches, IsFirst, margin_of, reach_of, search_of}
use Rattle.literal_pieces.specs.Inside.Sought.{SoughtValue}
use Rattle.literal_leftmost.specs.declared.so_far.SoFar.TheVariants.{Found, NoneBefore}
use Rattle.literal_pieces.proofs.lemmas.Sought.{goes_after, goes_none, goes_some, matches_later, nothing_last}
use Rattle.literal_rows.proofs.lemmas.Walk.{slice_halves}

-- a part of a text is the same part of a longer one
pub part_longer : (text piece : List ℕ) (from to : ℕ) → to ≤ length text → from ≤ to
    → slice_range (text ++ piece) from to ≡ slice_range text from to
part_longer text piece from to inside ordered = grind (arith, drop-append-le, length-drop, take-append-le)

-- a part of what is ahead is a part of the text
part_within : (text : List ℕ) (at from to : ℕ) → from ≤ to
    → slice_range (drop at text) from to ≡ slice_range text (from + at) (to + at)
part_within text at from to ordered = grind (arith, drop-drop)

module _ {F W : Type 0} (contents : W → Option (List ℕ))
    (step : F → MatchValue → Bor (List ℕ) → MutBor W → Result ⊤ Error → MutBor W → F → Type 0)
  where
    -- calls for the matches of a text are calls for those of a longer one
    calls_longer : (text piece : List ℕ) (first : RewritingValue F) (matches : List MatchValue) (last :
        RewritingValue F)
        → FoldsTo (RewritesMatch contents step text) first matches last
        → FoldsTo (RewritesMatch contents step (text ++ piece)) first matches last
    calls_longer text piece first [] last stays = stays
    calls_longer text piece first (found ∷ more) last run =
        let one = run.1 in
        let ordered = one.after in
        let some = one.some in
        let long = length-append text piece in (
          run.0,
          record {
            bytes = one.bytes;
            before = one.before;
            behind = one.behind;
            after = one.after;
            some = one.some;
            inside = omega (arith, one.inside);
            are_matched = grind (arith, part_longer);
            between = grind (arith, part_longer);
            calls = one.calls;
            leaves = one.leaves;
            goes_on = one.goes_on;
          },
          calls_longer text piece run.0 more last run.2,
        )

    module _ (sought : SoughtValue) (unread : Option (List ℕ)) (replace : F) (held : Option (List ℕ)) where
      abbrev margin : ℕ
      margin = margin_of sought

      -- at first nothing is read or written
      pub none_rewritten : (is_whole : Bool) (at : ℕ) (ahead : List ℕ) → at ≡ 0 → ahead ≡ []
          → HasRewritten contents step sought is_whole at ahead unread unread replace held replace held
      none_rewritten is_whole at ahead first empty =
          let begin : at - margin ≡ 0 = omega (arith, first) in
          record {
            text = [];
            matches = [];
            reads = Consumes-nil unread;
            ahead_is = empty ∙ sym (ap (λ n. drop n []) begin);
            are_rewritten = record {
              last = record { replace = replace; written = held; at = 0 };
              calls = refl;
              upto = omega arith;
              inside = omega (arith, first);
              rest = subst (λ (n : ℕ). Appends held held (slice_range [] 0 n)) (sym first) (Appends-nil held);
            };
            replace_is = refl;
            come_first = λ more behind over list. grind arith;
          }

      -- a piece is read
      pub read_further : (was is : Bool) (at : ℕ) (ahead piece : List ℕ) (left last : Option (List ℕ)) (now : F)
          (written : Option (List ℕ)) → (was ≡ true → (is ≡ true) × (piece ≡ [])) → Consumes left last piece
          → HasRewritten contents step sought was at ahead unread left replace held now written
          → HasRewritten contents step sought is at (ahead ++ piece) unread last replace held now written
      read_further was is at ahead piece left last now written over consumed old =
          let done = old.are_rewritten in
          let long = length-append old.text piece in
          record {
            text = old.text ++ piece;
            matches = old.matches;
            reads = Consumes-trans unread left last old.text piece old.reads consumed;
            ahead_is = grind (arith, drop-append-le);
            are_rewritten = record {
              last = done.last;
              calls = calls_longer old.text piece _ old.matches done.last done.calls;
              upto = done.upto;
              inside = omega (arith, done.inside);
              rest = grind (arith, part_longer);
            };
            replace_is = old.replace_is;
            come_first = λ more behind ended. grind (arith, append_assoc);
          }

      module _ (is_whole : Bool) (at : ℕ) (ahead : List ℕ) (left : Option (List ℕ)) (now : F)
          (written : Option (List ℕ))
          (old : HasRewritten contents step sought is_whole at ahead unread left replace held now written)
        where
          abbrev text : List ℕ
          text = old.text

          -- the offset at which the bytes ahead begin
          abbrev base : ℕ
          base = at - margin

          abbrev before : List ℕ
          before = take base text

          -- the text, cut where the bytes ahead begin
          here : (more : List ℕ) → before ++ (ahead ++ more) ≡ text ++ more
          here more =
              ap (λ l. before ++ (l ++ more)) old.ahead_is
              ∙ (sym (append_assoc before (drop base text) more)
              ∙ ap (λ l. l ++ more) (take-append-drop base text))

          here_len : length before ≡ at - margin
          here_len = length-take-le base text (omega (arith, old.are_rewritten.inside))

          ahead_len : base + length ahead ≡ length text
          ahead_len = grind (arith, length-drop)

          -- a part of the bytes ahead is a part of the text
          part_is : (from to : ℕ) → base ≤ from → from ≤ to
              → slice_range ahead (from - base) (to - base) ≡ slice_range text from to
          part_is from to after ordered = grind (arith, part_within)

          -- the bytes up to a later offset follow those that are written
          up_to : (to : ℕ) (out : Option (List ℕ)) → at ≤ to
              → Appends written out (slice_range ahead (at - base) (to - base))
              → Appends old.are_rewritten.last.written out (slice_range text old.are_rewritten.last.at to)
          up_to to out later writes = grind (arith, Appends-trans, part_is, slice_halves)

          -- the bytes ahead of a later offset
          ahead_later : (to : ℕ) → at ≤ to
              → drop ((to - margin) - base) ahead ≡ drop (to - margin) text
          ahead_later to later = grind (arith, drop-drop)

          -- bytes in which no match begins are written
          pub passed_by : (to : ℕ) (out : Option (List ℕ)) → at ≤ to → to ≤ base + length ahead
              → ((more : List ℕ) → (is_whole ≡ true → more ≡ [])
              → AnswersAhead sought at (ahead ++ more) (NoneBefore to))
              → Appends written out (slice_range ahead (at - base) (to - base))
              → HasRewritten contents step sought is_whole to (drop ((to - margin) - base) ahead) unread left replace
              held now out
          passed_by to out later within none writes =
              let done = old.are_rewritten in
              record {
                text = text;
                matches = old.matches;
                reads = old.reads;
                ahead_is = ahead_later to later;
                are_rewritten = record {
                  last = done.last;
                  calls = done.calls;
                  upto = omega (arith, done.upto, later);
                  inside = omega (arith, within, ahead_len);
                  rest = up_to to out later writes;
                };
                replace_is = old.replace_is;
                come_first = λ more behind over list.
                    old.come_first more behind over
                    (subst (λ (t : List ℕ). AreMatches sought t at behind) (here more)
                    (matches_later sought (before ++ (ahead ++ more)) at to behind later
                    (none more over before here_len)
                    (subst (λ (t : List ℕ). AreMatches sought t to behind) (sym (here more)) list)));
              }

          -- the bytes up to a match are written, and a call is made for it
          pub match_by : (found : MatchValue) (bytes : Bor (List ℕ)) (mid end : MutBor W) (next : F)
              → at ≤ found.start → found.start < found.end → found.end ≤ base + length ahead
              → ((more : List ℕ) → (is_whole ≡ true → more ≡ [])
              → AnswersAhead sought at (ahead ++ more) (Found found))
              → Appends written (contents mid.now) (slice_range ahead (at - base) (found.start - base))
              → bytes.now ≡ slice_range ahead (found.start - base) (found.end - base)
              → step now found bytes mid (Ok tt) end next
              → HasRewritten contents step sought is_whole found.end (drop ((found.end - margin) - base) ahead) unread
              left replace held next (contents end.now)
          match_by found bytes mid end next after some within first writes matched called =
              let done = old.are_rewritten in
              let to : RewritingValue F =
              record { replace = next; written = contents end.now; at = found.end } in
              record {
                text = text;
                matches = old.matches ++ found ∷ [];
                reads = old.reads;
                ahead_is = ahead_later found.end (omega (arith, after, some));
                are_rewritten = record {
                  last = to;
                  calls = FoldsTo-push (RewritesMatch contents step text) _ old.matches done.last found to
                      done.calls (record {
                        bytes = bytes;
                        before = mid;
                        behind = end;
                        after = omega (arith, done.upto, after);
                        some = some;
                        inside = omega (arith, within, ahead_len);
                        are_matched = grind (arith, part_is);
                        between = up_to found.start (contents mid.now) after writes;
                        calls = subst (λ f. step f found bytes mid (Ok tt) end next) (sym old.replace_is) called;
                        leaves = refl;
                        goes_on = refl;
                      });
                  upto = omega arith;
                  inside = omega (arith, within, ahead_len);
                  rest = none_between found.end;
                };
                replace_is = refl;
                come_first = λ more behind over list.
                    subst (AreMatches sought (text ++ more) 0)
                    (sym (append_assoc old.matches (found ∷ []) behind))
                    (old.come_first more (found ∷ behind) over
                    (goes_some sought (text ++ more) at found behind
                    (subst (λ (t : List ℕ). IsFirst sought t at (Some found)) (here more)
                    (first more over before here_len)) list));
              }
            where
              none_between : (n : ℕ) → Appends (contents end.now) (contents end.now) (slice_range text n n)
              none_between n = grind (arith, Appends-nil)

      -- a turn: a piece is read, and what is known of the bytes ahead then is written
      module _ (was is : Bool) (at to : ℕ) (ahead piece seen rest : List ℕ) (left last : Option (List ℕ)) (now : F)
          (written : Option (List ℕ)) (still : was ≡ true → (is ≡ true) × (piece ≡ [])) (consumed : Consumes left last
          piece)
          (seen_is : seen ≡ ahead ++ piece)
          (old : HasRewritten contents step sought was at ahead unread left replace held now written)
          (rest_is : rest ≡ drop ((to - margin) - (at - margin)) seen)
        where
          has_read : HasRewritten contents step sought is at seen unread last replace held now written
          has_read = grind (arith, read_further)

          pub turn_passed : (out : Option (List ℕ)) (next : F) → next ≡ now → at ≤ to
              → to ≤ (at - margin) + length seen
              → ((more : List ℕ) → (is ≡ true → more ≡ [])
              → AnswersAhead sought at (seen ++ more) (NoneBefore to))
              → Appends written out (slice_range seen (at - (at - margin)) (to - (at - margin)))
              → HasRewritten contents step sought is to rest unread last replace held next out
          turn_passed out next next_is later within none writes = grind (arith, has_read, passed_by)

          pub turn_matched : (found : MatchValue) (bytes : Bor (List ℕ)) (mid end : MutBor W)
              (answer : Result ⊤ Error) (next after : F) (out : Option (List ℕ)) → to ≡ found.end
              → step now found bytes mid answer end next
              → after ≡ next → out ≡ contents end.now → at ≤ found.start → found.start < found.end
              → found.end ≤ (at - margin) + length seen
              → ((more : List ℕ) → (is ≡ true → more ≡ [])
              → AnswersAhead sought at (seen ++ more) (Found found))
              → Appends written (contents mid.now)
              (slice_range seen (at - (at - margin)) (found.start - (at - margin)))
              → bytes.now ≡ slice_range seen (found.start - (at - margin)) (found.end - (at - margin))
              → answer ≡ Ok tt → HasRewritten contents step sought is to rest unread last replace held after out
          turn_matched found bytes mid end answer next after out to_is called after_is out_is later some within first
              writes matched ok =
              grind (arith, has_read, match_by)

      -- once a text has ended, and no byte is ahead
      pub all_rewritten : (is_whole : Bool) (at : ℕ) (ahead : List ℕ) (left : Option (List ℕ)) (now : F)
          (written : Option (List ℕ)) → is_whole ≡ true → (at - margin) + length ahead ≤ at
          → NoneIsEmpty (search_of sought).query.patterns → IsAtEnd left
          → HasRewritten contents step sought is_whole at ahead unread left replace held now written
          → RewritesAllOf contents step (AreMatches sought) (reach_of sought) replace unread left held written
      all_rewritten is_whole at ahead left now written whole none some end old =
          let long = ahead_len is_whole at ahead left now written old in
          let all : at ≡ length old.text = omega (arith, long, none, old.are_rewritten.inside) in
          let nothing : AreMatches sought (old.text ++ []) at [] =
          grind (arith, goes_after, goes_none, length-append, nothing_last) in
          grind (arith, append-nil)
