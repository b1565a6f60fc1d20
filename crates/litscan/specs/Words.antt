-- The words to search for, by their sources.
use Rattle.std.specs.Prelude.{◌≡◌, ◌⊎◌, ℕ, ◌-◌, ◌==◌, ◌&&◌, Bool, List, [], ◌∷◌, ⊤, if◌then◌else◌, length}
use Rattle.std.specs.Prelude.{nat_lt, slice_index, take}
use Rattle.std.specs.List.{flat_map}
use Rattle.litscan.specs.Lines.{lines_of, with_feed}
use Rattle.litscan.specs.declared.fault.Fault.{Fault}
use Rattle.litscan.specs.declared.fault.Fault.TheVariants.{OutOfMemory, ReadFailed, Told}
use Rattle.litscan.specs.declared.options.Options.{Options}
use Rattle.litscan.specs.Request.{SourceValue, words_in, words_of_file}

-- whether a line ends in a carriage return
abbrev pub ends_in_return : List ℕ → Bool
ends_in_return line = nat_lt 0 (length line) && slice_index line (length line - 1) == 13

-- the word in a line: with `--crlf` without a carriage return at its end
abbrev pub word_of_line : Options → List ℕ → List ℕ
word_of_line options line = if options.crlf && ends_in_return line then take (length line - 1) line else line

-- the words in a line, one or none: with `--skip-blank` an empty word is left out
abbrev pub words_of_line : Options → List ℕ → List (List ℕ)
words_of_line options line =
    if options.skip_blank && length (word_of_line options line) == 0 then [] else word_of_line options line ∷ []

-- the words in the lines of a text
abbrev pub words_of_text : Options → List ℕ → List (List ℕ)
words_of_text options text = flat_map (words_of_line options) (lines_of 10 text)

-- the lines of this text are the words of a source. For a file it is some text. For an argument it is its bytes and a
-- line feed, so that an empty argument is the empty word
abbrev pub IsTextOf : SourceValue → List ℕ → Type 0
IsTextOf (words_in bytes) text = text ≡ with_feed bytes
IsTextOf (words_of_file name) text = ⊤

-- the lines of these texts are the words of several sources in turn
abbrev pub AreTextsOf : List SourceValue → List (List ℕ) → Type 0
AreTextsOf [] [] = ⊤
AreTextsOf (source ∷ others) (text ∷ more) = IsTextOf source text × AreTextsOf others more
AreTextsOf _ _ = ⊥

-- the fault is a reason why there are no words: memory is refused, a read failed, or a file cannot be opened or read,
-- which was already reported
abbrev pub StopsWords : Fault → Type 0
StopsWords fault = (fault ≡ OutOfMemory) ⊎ (fault ≡ ReadFailed) ⊎ (fault ≡ Told)
