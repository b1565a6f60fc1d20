use Rattle.std.proofs.Common.{◌≡◌, ◌≢◌, ◌+◌, ◌++◌, ◌∷◌, [], ◌∙◌, ℕ, List, Result, Ok, Err, IfOk, Some, None}
use Rattle.std.proofs.Common.{Option}
use Rattle.std.proofs.Common.{append-nil, append_assoc, ap, arith, false, length, nat_lt, refl, subst}
use Rattle.std.proofs.Common.{sym, true}
use Rattle.std.proofs.lemmas.Result.{IfOk-weaker}
use Rattle.std.proofs.lemmas.Bool.{cond-false, lt-ltb, ne_eqb}
use Rattle.std.specs.Char.{is_ascii_digit}
use Rattle.std.specs.Option.{ok_or, option_map}
use Rattle.litscan.specs.Options.{behind_number, takes_argument, with_letter}
use Rattle.litscan.specs.Options.{with_plain_letter}
use Rattle.litscan.specs.Request.{Asked, RequestValue, asked_from, at_front, result_and_then, with_any, with_file}
use Rattle.litscan.specs.Request.{with_letters, with_next, with_option}
use Rattle.litscan.specs.declared.fault.Fault.{Fault}
use Rattle.litscan.specs.declared.fault.Fault.TheVariants.{UnknownLetter}
use Rattle.litscan.specs.declared.options.Options.{Options}
use Rattle.litscan.specs.declared.request.Next.TheVariants as next
use Rattle.litscan.proofs.laws.options_are_asked_for.Goals as goal

-- letters behind one that takes no argument
module _ (letter : ℕ) (request : RequestValue) (none : takes_argument letter ≡ false) where
  abbrev with_rest : List ℕ → Options → Asked
  with_rest rest options = with_letters rest (record request { options = options })

  unfolded : (rest : List ℕ) → with_letters (letter ∷ rest) request
      ≡ result_and_then (with_rest rest) (ok_or (with_letter request.options letter) (UnknownLetter letter))
  unfolded rest = cond-false (takes_argument letter) _ _ none

  letters_more : (more : List ℕ)
      → with_letters (letter ∷ more) request ≡ result_and_then (with_letters more) (with_letters (letter ∷ []) request)
  letters_more more =
      unfolded more ∙ one (ok_or (with_letter request.options letter) (UnknownLetter letter))
      ∙ ap (result_and_then (with_letters more)) (sym (unfolded []))
    where
      one : (options : Result Options Fault) → result_and_then (with_rest more) options
          ≡ result_and_then (with_letters more) (result_and_then (with_rest []) options)
      one (Ok options) = refl
      one (Err fault) = refl

  -- behind a letter that is no digit no number goes on
  abbrev behind_letter : Option Options → Asked
  behind_letter options =
      result_and_then (with_rest []) (ok_or (option_map behind_number options) (UnknownLetter letter))

  one_letter : is_ascii_digit letter ≡ false
      → with_letters (letter ∷ []) request ≡ behind_letter (with_plain_letter request.options letter)
  one_letter plain =
      unfolded []
      ∙ ap (λ options. result_and_then (with_rest []) (ok_or options (UnknownLetter letter)))
      (cond-false (is_ascii_digit letter) _ _ plain)

-- a word that begins with one dash has letters
letters_of : (letter : ℕ) (more : List ℕ) (request : RequestValue) → letter ≢ 45
    → with_any (45 ∷ letter ∷ more) request ≡ with_letters (letter ∷ more) (at_front request)
letters_of letter more request other =
    let several : nat_lt 1 (length (45 ∷ letter ∷ more)) ≡ true =
    lt-ltb 1 (length (45 ∷ letter ∷ more)) (omega arith) in
    rw (ne_eqb letter 45 other, several) refl

pub returns-clause-joined : goal.returns-clause-joined
returns-clause-joined c = λ letter second more request none plain other others.
    let here = at_front request in
    let one = one_letter letter here none plain in
    letters_of letter (second ∷ more) request other ∙ letters_more letter here none (second ∷ more)
    ∙ ap (result_and_then (with_letters (second ∷ more))) one
    ∙ in_a_word letter here none second more others (with_plain_letter here.options letter)
    ∙ ap (result_and_then (with_any (45 ∷ second ∷ more))) (sym (letters_of letter [] request other ∙ one))
  where
    in_a_word : (letter : ℕ) (here : RequestValue) (none : takes_argument letter ≡ false) (second : ℕ) (more : List ℕ)
        → second ≢ 45 → (options : Option Options)
        → result_and_then (with_letters (second ∷ more)) (behind_letter letter here none options)
        ≡ result_and_then (with_any (45 ∷ second ∷ more)) (behind_letter letter here none options)
    in_a_word letter here none second more other (Some options) =
        sym (letters_of second more (record here { options = behind_number options }) other)
    in_a_word letter here none second more other None = refl

pub returns-clause-named : goal.returns-clause-named
returns-clause-named c = λ name letter request is.
    ap (result_and_then (λ option. with_option option request)) is

-- the files behind two dashes
files_from : (at : ℕ) (words : List (List ℕ)) (request : RequestValue) → request.next ≡ next.File
    → IfOk (asked_from at words request)
    (λ asked. (asked.files ≡ request.files ++ words) × (asked.options ≡ request.options)
    × (asked.sources ≡ request.sources))
files_from at [] request is = (sym (append-nil request.files), refl, refl)
files_from at (word ∷ more) request is =
    let here = record request { at = at } in
    subst (λ asked. IfOk asked
    (λ asked. (asked.files ≡ request.files ++ word ∷ more) × (asked.options ≡ request.options)
    × (asked.sources ≡ request.sources)))
    (sym (ap (λ n. result_and_then (asked_from (at + 1) more) (with_next n word here)) is))
    (IfOk-weaker (asked_from (at + 1) more (with_file word here)) _ _
    (λ asked has. (has.0 ∙ append_assoc request.files (word ∷ []) more, has.1, has.2))
    (files_from (at + 1) more (with_file word here) is))

pub returns-clause-files : goal.returns-clause-files
returns-clause-files c = files_from
