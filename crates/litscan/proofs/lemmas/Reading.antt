-- What is read line by line is the text, and its lines are those that were read. For `lines` and `scan`.
use Rattle.std.proofs.Common.{◌≡◌, ◌==◌, ℕ, Bool, true, false, List, [], ◌∷◌, ◌++◌, cond}
use Rattle.std.proofs.Common.{◌+◌, ◌≤◌, ◌^◌, Option, None, Some, Result, Ok, Err, IfOk, MatchResult, arith, length}
use Rattle.std.proofs.Common.{length-append, take}
use Rattle.std.proofs.Common.{refl, sym, ap, ◌∙◌, inl, inr, subst}
use Rattle.std.specs.Io.BufRead.{DropsThrough, drop_through, take_through}
use Rattle.std.specs.Io.KnownBytes.{Consumes, IsAtEnd}
use Rattle.std.specs.List.{count_by, flat_map}
use Rattle.std.specs.Option.{IfSome, IsSome, OnSome}
use Rattle.std.specs.declared.io.ErrorKind.{ErrorKind}
use Rattle.std.proofs.KnownBytes.{Consumes-trans}
use Rattle.std.proofs.lemmas.Bool.{cases_eq, cases_lt, cond-false, cond-true, eq-eqb, ne_eqb}
use Rattle.std.proofs.lemmas.List.{append-nil, flat_map_more, take-append-le}
use Rattle.std.proofs.Math.Seq.{take-append_seam}
use Rattle.std.proofs.lemmas.List.Elements.{All-head, All-tail}
use Rattle.std.specs.declared.io.ErrorKind.TheVariants as kind
use Rattle.litscan.specs.Fault.{IsReadFault, StopsRead}
use Rattle.litscan.specs.Lines.{HasNoEnd, last_line, with_end}
use Rattle.litscan.specs.Inside.Passed.{lines_read}
use Rattle.litscan.specs.Options.{is_enough}
use Rattle.litscan.specs.Printed.{BeginsWith, Reads, ReadsAll, ReadsTooMany, StopsAtEnough}
use Rattle.litscan.specs.declared.fault.Fault.TheVariants.{ReadFailed}
use Rattle.litscan.specs.declared.fault.Fault.{Fault}
use Rattle.litscan.proofs.lemmas.Lines.{Other}

-- bytes that are read up to the end of a line, and have none, are all
through_all : (line_end : ℕ) (bytes : List ℕ) → HasNoEnd line_end (take_through line_end bytes)
    → drop_through line_end bytes ≡ []
through_all line_end [] whole = refl
through_all line_end (byte ∷ more) whole =
    elim (cases_eq byte line_end) [
      | inl feed ↦
          let taken = cond-true (byte == line_end) (byte ∷ []) (byte ∷ take_through line_end more)
          (eq-eqb byte line_end feed) in
          absurd (All-head (Other line_end) byte [] (subst (HasNoEnd line_end) taken whole) feed)
      | inr other ↦
          let test = ne_eqb byte line_end other in
          let taken = cond-false (byte == line_end) (byte ∷ []) (byte ∷ take_through line_end more) test in
          cond-false (byte == line_end) more (drop_through line_end more) test
          ∙ through_all line_end more (All-tail (Other line_end) byte (take_through line_end more)
          (subst (HasNoEnd line_end) taken whole))
    ]

-- bytes that were read into an empty buffer, and do not end a line, are all
pub at_end : (line_end : ℕ) (old new : Option (List ℕ)) (had has line : List ℕ) (fed : Bool) → had ≡ []
    → IfSome old (λ bytes. has ≡ had ++ take_through line_end bytes) → DropsThrough old new line_end
    → has ≡ cond fed (with_end line_end line) line → fed ≡ false → HasNoEnd line_end line → OnSome old (IsAtEnd new)
at_end line_end None new had has line fed empty is drops split unfed whole = tt
at_end line_end (Some bytes) new had has line fed empty is drops split unfed whole =
    let same : line ≡ take_through line_end bytes =
    sym (cond-false fed (with_end line_end line) line unfed) ∙ sym split ∙ is
    ∙ ap (λ front. front ++ take_through line_end bytes) empty in
    let none : new ≡ Some [] = drops ∙ ap Some (through_all line_end bytes (subst (HasNoEnd line_end) same whole)) in
    subst IsAtEnd (sym none) refl

-- what was read is a front of what is there
pub begins_with : (old new : Option (List ℕ)) (text : List ℕ) → Consumes old new text → BeginsWith old text
begins_with None new text read = tt
begins_with (Some bytes) None text read = absurd read
begins_with (Some bytes) (Some left) text read = (left, read)

-- a text that was read up to where no more could be read
pub reads_front : (failure : Option ErrorKind) (enough : Bool) (old mid new : Option (List ℕ)) (text : List ℕ)
    → IsSome failure → Consumes old mid text → Reads failure enough old new text
reads_front (Some error) enough old mid new text some read = begins_with old mid text read
reads_front None enough old mid new text some read = absurd (cc)

-- a read that failed left its error behind
pub read_failed : (failure : Option ErrorKind) (fault : Fault) → IsReadFault failure fault → IsSome failure
read_failed (Some error) fault is = refl
read_failed None fault is = absurd (cc)

-- where a read failed, and not a write, its error is left behind
pub read_failed_if : (read write : Option ErrorKind) (fault : Fault) → StopsRead read write fault → fault ≡ ReadFailed
    → IsSome read
read_failed_if read write fault (inl is) failed = read_failed read fault is
read_failed_if read None fault (inr is) failed = absurd (cc)
read_failed_if read (Some kind.BrokenPipe) fault (inr is) failed = absurd (cc)
read_failed_if read (Some _) fault (inr is) failed = absurd (cc)

-- a text that was read until enough lines count
pub reads_enough : (enough : Bool) (old new : Option (List ℕ)) (text : List ℕ) → enough ≡ true
    → Consumes old new text → Reads None enough old new text
reads_enough true old new text is read = read
reads_enough false old new text is read = absurd (cc)

-- a text that was read to its end, whether enough lines count or not
pub reads_any : (enough : Bool) (old new : Option (List ℕ)) (text : List ℕ) → ReadsAll old new text
    → Reads None enough old new text
reads_any false old new text all = all
reads_any true None new text all = tt
reads_any true (Some bytes) new text all =
    subst (λ left. Consumes (Some bytes) left text) (sym all.1) (all.0 ∙ sym (append-nil text))

-- one line more at most was read where the lines before are not enough
pub stops_later : (limit : Option ℕ) (test : List ℕ → Bool) (seen more : List (List ℕ)) → length more ≤ 1
    → StopsAtEnough limit test seen → is_enough limit (count_by test seen) ≡ false
    → StopsAtEnough limit test (seen ++ more)
stops_later limit test seen more few before not_yet n below =
    let enough = λ (lines : List (List ℕ)). is_enough limit (count_by test lines) in
    elim (cases_lt n (length seen)) [
      | inl front ↦ ap enough (take-append-le n seen more (omega (arith, front))) ∙ before n front
      | inr behind ↦
          let same : n ≡ length seen = omega (arith, behind, below, few, length-append seen more) in
          ap enough (ap (λ k. take k (seen ++ more)) same ∙ take-append_seam seen more) ∙ not_yet
    ]

-- the text after the last end of a line is at most one line
length-last_line : (last : List ℕ) → length (last_line last) ≤ 1
length-last_line [] = omega arith
length-last_line (byte ∷ more) = omega arith

pub length-lines_read : (fed : Bool) (line : List ℕ) → length (lines_read fed line) ≤ 1
length-lines_read true line = omega arith
length-lines_read false line = length-last_line line

-- one line more
pub read_more : (line_end : ℕ) (a b c : Option (List ℕ)) (seen : List (List ℕ)) (line : List ℕ) (fed : Bool)
    → fed ≡ true
    → Consumes a b (flat_map (with_end line_end) seen) → Consumes b c (cond fed (with_end line_end line) line)
    → Consumes a c (flat_map (with_end line_end) (seen ++ line ∷ []))
read_more line_end a b c seen line fed is before more =
    let next = subst (Consumes b c) (cond-true fed (with_end line_end line) line is) more in
    subst (Consumes a c) (flat_map_more (with_end line_end) [] seen line) (Consumes-trans a b c _ _ before next)

-- the text after the last end of a line ends the text
pub read_all : (line_end : ℕ) (a b c : Option (List ℕ)) (front last : List ℕ) (fed : Bool) → fed ≡ false
    → Consumes a b front
    → Consumes b c (cond fed (with_end line_end last) last) → (fed ≡ false → OnSome b (IsAtEnd c))
    → ReadsAll a c (front ++ last)
read_all line_end None b c front last fed is before more end = tt
read_all line_end (Some xs) None c front last fed is before more end = absurd before
read_all line_end (Some xs) (Some ys) None front last fed is before more end = absurd more
read_all line_end (Some xs) (Some ys) (Some zs) front last fed is before more end =
    let rest : ys ≡ last =
    more ∙ ap (λ bytes. bytes ++ zs) (cond-false fed (with_end line_end last) last is)
    ∙ ap (λ bytes. last ++ bytes) (end is) ∙ append-nil last in
    (before ∙ ap (λ bytes. front ++ bytes) rest, ap Some (end is))

-- what is read line by line is at least as long as there are lines
pub length-feeds_most : (line_end : ℕ) (seen : List (List ℕ)) → length seen ≤ length (flat_map (with_end line_end) seen)
length-feeds_most line_end [] = omega arith
length-feeds_most line_end (line ∷ more) =
    let rest = length-feeds_most line_end more in
    let first = length-append line (line_end ∷ []) in
    let all = length-append (with_end line_end line) (flat_map (with_end line_end) more) in
    omega (arith, rest, first, all)

-- too much was read, with the line that was read last
pub too_many_with : (line_end : ℕ) (a b c : Option (List ℕ)) (front line : List ℕ) (fed : Bool) → Consumes a b front
    → Consumes b c (cond fed (with_end line_end line) line) → 2 ^ 64 ≤ length front + length line + 2 → ReadsTooMany a c
too_many_with line_end a b c front line fed before last many = (
  front ++ cond fed (with_end line_end line) line,
  Consumes-trans a b c front (cond fed (with_end line_end line) line) before last,
  omega (arith, many, length-append front (cond fed (with_end line_end line) line), by fed),
)
  where
    by : (fed : Bool) → length line ≤ length (cond fed (with_end line_end line) line)
    by true = omega (arith, length-append line (line_end ∷ []))
    by false = omega arith

-- what holds of a result that is handed on
pub ok_gives : {A E : Type 0} (P Q : A → Type 0) (F : E → Type 0) (result : Result A E) → MatchResult result P F
    → ((a : A) → P a → Q a) → IfOk result Q
ok_gives P Q F (Ok a) has gives = gives a has
ok_gives P Q F (Err e) has gives = tt
