use Rattle.std.proofs.Common.{◌++◌, ◌-◌, ◌<◌, ◌≡◌, ◌≤◌, ◌∙◌, Err, IfErr, Ok, OnOk, Option, Result, ap, arith, length}
use Rattle.std.proofs.Common.{List, replicate, rules, subst, ℕ}
use Rattle.std.specs.Bool.{⊤}
use Rattle.std.specs.Borrow.{Bor, MutBor}
use Rattle.std.specs.Io.KnownBytes.{Appends}
use Rattle.std.specs.List.{slice_range}
use Rattle.std.specs.declared.io.Error.{Error}
use Rattle.literal_base.specs.MatchValue.{MatchValue}
use Rattle.literal_search.specs.ReplacedStream.{RewritesAllBy, StopsRewritingBy}
use Rattle.literal_search.specs.SearchValue.{SearchValue}
use Rattle.literal_pieces.specs.declared.replace_stream.ReplaceStreamError.{ReplaceStreamError}
use Rattle.literal_pieces.specs.declared.replace_stream.ReplaceStreamError.TheVariants.{NotOneForEach, OutOfMemory}
use Rattle.literal_pieces.specs.declared.replace_stream.ReplaceStreamError.TheVariants.{ReadFailed, WriteFailed}
use Rattle.literal_examples.specs.Redacted.{Redacts, StopsRedacting}
use Rattle.literal_search.proofs.lemmas.Callers.{length_part}
use Rattle.literal_search.proofs.lemmas.RewrittenBy.{all_written, greedy_begins, part_written}
use Rattle.literal_examples.proofs.redact.redact_stream.Goals as goal

on_ok : {A E : Type 0} (P Q : Type 0) (result : Result A E) → (P → Q) → OnOk result P → OnOk result Q
on_ok P Q (Ok value) f is = f is
on_ok P Q (Err error) f is = is

on_err : {A E : Type 0} (P Q : E → Type 0) (result : Result A E) → ((error : E) → P error → Q error)
    → IfErr result P → IfErr result Q
on_err P Q (Ok value) f is = is
on_err P Q (Err error) f is = f error is

abbrev asterisks : MatchValue → List ℕ
asterisks found = replicate (found.end - found.start) 42

module _ {F W : Type 0} (contents : W → Option (List ℕ))
    (step : F → MatchValue → Bor (List ℕ) → MutBor W → Result ⊤ Error → MutBor W → F → Type 0)
    (writes : (f : F) (found : MatchValue) (bytes : Bor (List ℕ)) (before behind : MutBor W) (next : F)
    → step f found bytes before (Ok tt) behind next
    → Appends (contents before.now) (contents behind.now) (replicate (length bytes.now) 42))
  where
    -- each call writes an asterisk for each byte of its match
    each : (text : List ℕ) (f : F) (found : MatchValue) (bytes : Bor (List ℕ)) (before behind : MutBor W) (next : F)
        → Unit {0} → found.start < found.end → found.end ≤ length text
        → bytes.now ≡ slice_range text found.start found.end → step f found bytes before (Ok tt) behind next
        → Unit {0} × Appends (contents before.now) (contents behind.now) (asterisks found)
    each text f found bytes before behind next held some inside same called =
        let len : length bytes.now ≡ found.end - found.start = ap (λ (l : List ℕ). length l) same
        ∙ length_part text found.start found.end (omega (arith, some)) inside in (
          tt,
          subst (λ n. Appends (contents before.now) (contents behind.now) (replicate {A = ℕ} n 42)) len
              (writes f found bytes before behind next called),
        )

    stops : (search : SearchValue) (replace : F) (unread left held written : Option (List ℕ))
        (error : ReplaceStreamError) → StopsRewritingBy contents step search replace unread left held written error
        → StopsRedacting search unread left held written error
    stops search replace unread left held written NotOneForEach is = is
    stops search replace unread left held written OutOfMemory is = is
    stops search replace unread left held written (ReadFailed error) part =
        let made = part_written part asterisks (λ _. Unit {0}) tt (each part.text) in record {
          text = part.text;
          at = part.at;
          answer = made.out;
          reads = part.reads;
          within = part.are_rewritten.inside;
          far = part.far;
          writes = made.appended;
          goes_on = λ more behind list. (
            part.matches ++ behind,
            part.come_first more behind list,
            made.is_replaced more behind (greedy_begins search (part.text ++ more) part.at behind list),
          );
        }
    stops search replace unread left held written (WriteFailed error) is = is

    redacts : {search : SearchValue} {replace : F} {unread left held written : Option (List ℕ)}
        → RewritesAllBy contents step search replace unread left held written
        → Redacts search unread left held written
    redacts all = record {
      text = all.text;
      matches = all.matches;
      reads = all.reads;
      end = all.end;
      are_greedy = all.are_matches;
      writes = all_written all asterisks (λ _. Unit {0}) tt (each all.text);
    }

pub returns-clause-error : goal.returns-clause-error
returns-clause-error g c =
    on_err _ _ c.replace_stream_with.result
    (stops _ _ (λ f found bytes before behind next called. search (rules, called.met)) _ _ _ _ _ _)
    c.replace_stream_with.ensures.error

pub returns-clause-written : goal.returns-clause-written
returns-clause-written g c =
    on_ok _ _ c.replace_stream_with.result
    (redacts _ _ (λ f found bytes before behind next called. search (rules, called.met)))
    c.replace_stream_with.ensures.ok
