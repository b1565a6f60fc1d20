-- A text whose matches are rewritten by calls that write what a function of the match gives. For callers.
use Rattle.std.proofs.Common.{◌≡◌, ℕ, ◌<◌, ◌≤◌, ◌++◌, [], ◌∷◌, ◌∙◌, Err, IfErr, List, Ok, OnOk, Option, Result, ap}
use Rattle.std.proofs.Common.{append-nil, append_assoc, arith, length, length-append, slice_range, subst, sym}
use Rattle.std.proofs.KnownBytes.{Appends-trans}
use Rattle.std.specs.Bool.{⊤}
use Rattle.std.specs.Borrow.{Bor, MutBor}
use Rattle.std.specs.Io.KnownBytes.{Appends}
use Rattle.std.specs.List.{FoldsTo}
use Rattle.std.specs.declared.io.Error.{Error}
use Rattle.literal_base.specs.Greedy.{IsGreedy}
use Rattle.literal_base.specs.MatchValue.{MatchValue}
use Rattle.literal_base.specs.Occurs.{pattern_at}
use Rattle.literal_pieces.specs.Replaced.{ReplacesAll, ReplacesPart, StopsReplacing, replaced_by}
use Rattle.literal_pieces.specs.ReplacedStream.{RewritesAllOf, RewritesMatch, RewritesPartOf, RewritingValue}
use Rattle.literal_pieces.specs.ReplacedStream.{StopsRewritingOf}
use Rattle.literal_leftmost.specs.SearchValue.{SearchValue}
use Rattle.literal_words.specs.WholeWords.{AreWordsFrom, WholeWordsValue}
use Rattle.literal_pieces.specs.Inside.Sought.{AreMatches, SoughtValue, by_matches, by_words}
use Rattle.literal_pieces.specs.declared.replace_stream.ReplaceStreamError.{ReplaceStreamError}
use Rattle.literal_pieces.specs.declared.replace_stream.ReplaceStreamError.TheVariants.{NotOneForEach, OutOfMemory}
use Rattle.literal_pieces.specs.declared.replace_stream.ReplaceStreamError.TheVariants.{ReadFailed, WriteFailed}
use Rattle.literal_pieces.proofs.lemmas.Rewritten.{part_longer}
use Rattle.literal_rows.proofs.lemmas.Walk.{slice_halves}

-- a list begins at an offset or later
abbrev pub BeginsFrom : ℕ → List MatchValue → Type 0
BeginsFrom at [] = Unit {0}
BeginsFrom at (found ∷ more) = at ≤ found.start

-- what begins at a later offset is replaced in the same way from an earlier one on
replaced_later : (bytes_for : MatchValue → List ℕ) (text : List ℕ) (from to : ℕ) (matches : List MatchValue)
    → from ≤ to → to ≤ length text → BeginsFrom to matches
    → slice_range text from to ++ replaced_by bytes_for text to matches ≡ replaced_by bytes_for text from matches
replaced_later bytes_for text from to [] later within begins = grind (arith, slice_halves)
replaced_later bytes_for text from to (found ∷ more) later within begins =
    let rest = bytes_for found ++ replaced_by bytes_for text found.end more in
    sym (ap (λ l. l ++ rest) (slice_halves text from to found.start later begins)
    ∙ append_assoc (slice_range text from to) (slice_range text to found.start) rest)

-- A text is written from one offset to another, with what a function gives for each match. Whatever follows: this,
-- followed by the rest with its matches replaced, is the whole with its matches replaced
pub record AreWritten (bytes_for : MatchValue → List ℕ) (text : List ℕ) (at : ℕ) (held written : Option (List ℕ))
    (from : ℕ) (matches : List MatchValue) : Type 0 where
  pub out : List ℕ
  pub appended : Appends held written out
  pub is_replaced : (more : List ℕ) (behind : List MatchValue) → BeginsFrom at behind
      → out ++ replaced_by bytes_for (text ++ more) at behind
      ≡ replaced_by bytes_for (text ++ more) from (matches ++ behind)

module _ {F W : Type 0} (contents : W → Option (List ℕ))
    (step : F → MatchValue → Bor (List ℕ) → MutBor W → Result ⊤ Error → MutBor W → F → Type 0)
    (bytes_for : MatchValue → List ℕ) (holds : F → Type 0) (text : List ℕ)
    (writes : (f : F) (found : MatchValue) (bytes : Bor (List ℕ)) (before behind : MutBor W) (next : F) → holds f
    → found.start < found.end → found.end ≤ length text → bytes.now ≡ slice_range text found.start found.end
    → step f found bytes before (Ok tt) behind next
    → holds next × Appends (contents before.now) (contents behind.now) (bytes_for found))
    (at : ℕ) (written : Option (List ℕ))
  where
    -- what the calls wrote
    are_written : (first : RewritingValue F) (matches : List MatchValue) (last : RewritingValue F) → holds first.replace
        → FoldsTo (RewritesMatch contents step text) first matches last → last.at ≤ at → at ≤ length text
        → Appends last.written written (slice_range text last.at at)
        → AreWritten bytes_for text at first.written written first.at matches
    are_written first [] last held stays upto inside rest =
        let first_is : last ≡ first = sym stays in
        let (upto_first, rest_first) = subst
        (λ (v : RewritingValue F). (v.at ≤ at) × Appends v.written written (slice_range text v.at at)) first_is
        (upto, rest) in
        record {
          out = slice_range text first.at at;
          appended = rest_first;
          is_replaced = λ more behind begins.
              ap (λ l. l ++ replaced_by bytes_for (text ++ more) at behind)
              (sym (part_longer text more first.at at inside upto_first))
              ∙ replaced_later bytes_for (text ++ more) first.at at behind upto_first
              (omega (arith, inside, length-append text more)) begins;
        }
    are_written first (found ∷ more) last held run upto inside rest =
        let one = run.1 in
        let called = writes first.replace found one.bytes one.before one.behind run.0.replace held one.some
        one.inside one.are_matched one.calls in
        let next = are_written run.0 more last called.0 run.2 upto inside rest in
        let between = slice_range text first.at found.start in
        let some = one.some in
        record {
          out = between ++ (bytes_for found ++ next.out);
          appended = grind (arith, Appends-trans);
          is_replaced = λ behind after begins. grind (arith, append_assoc, part_longer);
        }

-- calls that write what a function gives for each match write the text with each match replaced by this
module _ {F W : Type 0} {contents : W → Option (List ℕ)}
    {step : F → MatchValue → Bor (List ℕ) → MutBor W → Result ⊤ Error → MutBor W → F → Type 0}
    {AreMatches : List ℕ → ℕ → List MatchValue → Type 0} {reach : ℕ} {replace : F}
    {unread left held written : Option (List ℕ)} where
  pub all_written : (all : RewritesAllOf contents step AreMatches reach replace unread left held written)
      → (bytes_for : MatchValue → List ℕ) → (holds : F → Type 0) → holds replace
      → ((f : F) (found : MatchValue) (bytes : Bor (List ℕ)) (before behind : MutBor W) (next : F) → holds f
      → found.start < found.end → found.end ≤ length all.text
      → bytes.now ≡ slice_range all.text found.start found.end
      → step f found bytes before (Ok tt) behind next
      → holds next × Appends (contents before.now) (contents behind.now) (bytes_for found))
      → Appends held written (replaced_by bytes_for all.text 0 all.matches)
  all_written all bytes_for holds holds_first writes =
      let done = all.are_rewritten in
      let made = are_written contents step bytes_for holds all.text writes (length all.text) written _ all.matches
      done.last holds_first done.calls done.upto done.inside done.rest in
      subst (Appends held written) (whole all.text all.matches made.out (made.is_replaced [] [] tt)) made.appended
    where
      whole : (text : List ℕ) (matches : List MatchValue) (out : List ℕ)
          → out ++ replaced_by bytes_for (text ++ []) (length text) []
          ≡ replaced_by bytes_for (text ++ []) 0 (matches ++ []) → out ≡ replaced_by bytes_for text 0 matches
      whole text matches out is = grind (arith, append-nil)

  -- and after a failed read the known part of it
  pub part_written : (part : RewritesPartOf contents step AreMatches reach replace unread left held written)
      → (bytes_for : MatchValue → List ℕ) → (holds : F → Type 0) → holds replace
      → ((f : F) (found : MatchValue) (bytes : Bor (List ℕ)) (before behind : MutBor W) (next : F) → holds f
      → found.start < found.end → found.end ≤ length part.text
      → bytes.now ≡ slice_range part.text found.start found.end
      → step f found bytes before (Ok tt) behind next
      → holds next × Appends (contents before.now) (contents behind.now) (bytes_for found))
      → AreWritten bytes_for part.text part.at held written 0 part.matches
  part_written part bytes_for holds holds_first writes =
      let done = part.are_rewritten in
      are_written contents step bytes_for holds part.text writes part.at written _ part.matches
      done.last holds_first done.calls done.upto done.inside done.rest

module _ {F W : Type 0} (contents : W → Option (List ℕ))
    (step : F → MatchValue → Bor (List ℕ) → MutBor W → Result ⊤ Error → MutBor W → F → Type 0)
    (replacements : List (List ℕ)) (holds : F → Type 0)
    (writes : (f : F) (found : MatchValue) (bytes : Bor (List ℕ)) (before behind : MutBor W) (next : F) → holds f
    → step f found bytes before (Ok tt) behind next
    → holds next × Appends (contents before.now) (contents behind.now) (pattern_at replacements found.pattern))
    (AreMatches : List ℕ → ℕ → List MatchValue → Type 0)
    (begins : (text : List ℕ) (at : ℕ) (matches : List MatchValue) → AreMatches text at matches
    → BeginsFrom at matches)
    (patterns reach : ℕ) (one_for_each : length replacements ≡ patterns) (replace : F)
    (held_first : holds replace) (unread left held written : Option (List ℕ))
  where
    abbrev replacement : MatchValue → List ℕ
    replacement found = pattern_at replacements found.pattern

    -- calls that write the replacement of the match's pattern replace each match
    pub all_replaced : RewritesAllOf contents step AreMatches reach replace unread left held written
        → ReplacesAll AreMatches patterns reach replacements unread left held written
    all_replaced all = record {
      text = all.text;
      answer = replaced_by replacement all.text 0 all.matches;
      reads = all.reads;
      end = all.end;
      is_replaced = grind arith;
      writes = all_written all replacement holds held_first
          (λ f found bytes before behind next held _ _ _. writes f found bytes before behind next held);
    }

    pub part_replaced : RewritesPartOf contents step AreMatches reach replace unread left held written
        → ReplacesPart AreMatches patterns reach replacements unread left held written
    part_replaced part =
        let made = part_written part replacement holds held_first
        (λ f found bytes before behind next held _ _ _. writes f found bytes before behind next held) in
        grind arith

    -- and the errors are the same
    stops_replacing : (error : ReplaceStreamError)
        → StopsRewritingOf contents step AreMatches reach replace unread left held written error
        → StopsReplacing AreMatches patterns reach replacements unread left held written error
    stops_replacing NotOneForEach stops = absurd stops
    stops_replacing OutOfMemory stops = (one_for_each, stops.0, stops.1)
    stops_replacing (ReadFailed error) stops = (one_for_each, part_replaced stops)
    stops_replacing (WriteFailed error) stops = (one_for_each, stops)

    pub replaces_each : {A : Type 0} (result : Result A ReplaceStreamError)
        → OnOk result (RewritesAllOf contents step AreMatches reach replace unread left held written)
        → OnOk result (ReplacesAll AreMatches patterns reach replacements unread left held written)
    replaces_each (Ok done) all = all_replaced all
    replaces_each (Err error) all = all

    pub stops_each : {A : Type 0} (result : Result A ReplaceStreamError)
        → IfErr result (StopsRewritingOf contents step AreMatches reach replace unread left held written)
        → IfErr result (StopsReplacing AreMatches patterns reach replacements unread left held written)
    stops_each (Ok done) stops = stops
    stops_each (Err error) stops = stops_replacing error stops

pub greedy_begins : (search : SearchValue) (text : List ℕ) (at : ℕ) (matches : List MatchValue)
    → IsGreedy search.query search.ignore_case text at matches → BeginsFrom at matches
greedy_begins search text at [] list = tt
greedy_begins search text at (found ∷ more) list = list.0.occurs.after_start

pub words_begin : (words : WholeWordsValue) (text : List ℕ) (at : ℕ) (matches : List MatchValue)
    → AreWordsFrom words text at matches → BeginsFrom at matches
words_begin words text at [] list = tt
words_begin words text at (found ∷ more) list = list.0.occurs.occurs.after_start

pub matches_begin : (s : SoughtValue) (text : List ℕ) (at : ℕ) (matches : List MatchValue)
    → AreMatches s text at matches → BeginsFrom at matches
matches_begin (by_matches search) = greedy_begins search
matches_begin (by_words words) = words_begin words
