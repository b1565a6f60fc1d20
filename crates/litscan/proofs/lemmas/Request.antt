-- Words of the command line that are taken one after another. For `request`.
use Rattle.std.proofs.Common.{◌≡◌, ◌<◌, ◌+◌, ◌++◌, ◌∷◌, [], ℕ, List, Ok, Err, drop, length, take, get_or, arith}
use Rattle.std.proofs.Common.{◌⊎◌, refl, sym, ap, ◌∙◌, inl, inr, length-take, subst}
use Rattle.std.proofs.lemmas.List.{drop_more, take_more}
use Rattle.std.specs.Result.{IsOk}
use Rattle.litscan.specs.Request.{Asked, RequestValue, SomeAreRight, asked_from, result_and_then, with_word}
use Rattle.litscan.specs.declared.fault.Fault.{Fault}
use Rattle.litscan.specs.declared.fault.Fault.TheVariants.{OutOfMemory}

-- the words behind others, once the first word is taken
behind_first : (at : ℕ) (more back : List (List ℕ))
    → ((next : RequestValue) → asked_from (at + 1) (more ++ back) next
    ≡ result_and_then (asked_from (at + 1 + length more) back) (asked_from (at + 1) more next))
    → (first : Asked) (n : ℕ) → n ≡ at + 1 + length more → result_and_then (asked_from (at + 1) (more ++ back)) first
    ≡ result_and_then (asked_from n back) (result_and_then (asked_from (at + 1) more) first)
behind_first at more back next_is (Ok next) n is =
    next_is next ∙ ap (λ n. result_and_then (asked_from n back) (asked_from (at + 1) more next)) (sym is)
behind_first at more back next_is (Err fault) n is = refl

-- the words behind others
asked-append : (at : ℕ) (front back : List (List ℕ)) (request : RequestValue)
    → asked_from at (front ++ back) request
    ≡ result_and_then (asked_from (at + length front) back) (asked_from at front request)
asked-append at [] back request = ap (λ n. asked_from n back request) (omega arith)
asked-append at (word ∷ more) back request =
    behind_first at more back (λ next. asked-append (at + 1) more back next)
    (with_word word (record request { at = at })) (at + length (word ∷ more)) (omega arith)

-- nothing more
asked_no_more : (at : ℕ) (asked : Asked) → result_and_then (asked_from at []) asked ≡ asked
asked_no_more at (Ok request) = refl
asked_no_more at (Err fault) = refl

module _ (words : List (List ℕ)) (i : ℕ) (word : List ℕ) (below : i < length words)
    (is : get_or words i [] ≡ word) where
  -- with one word more
  pub front_more : (old self : RequestValue) → asked_from 0 (take i words) old ≡ Ok self
      → asked_from 0 (take (i + 1) words) old ≡ with_word word (record self { at = i })
  front_more old self front =
      let more : take (i + 1) words ≡ take i words ++ word ∷ [] =
      take_more words i [] below ∙ ap (λ w. take i words ++ w ∷ []) is in
      let at : 0 + length (take i words) ≡ i = omega (arith, length-take i words, below) in
      ap (λ l. asked_from 0 l old) more ∙ asked-append 0 (take i words) (word ∷ []) old
      ∙ ap (result_and_then (asked_from (0 + length (take i words)) (word ∷ []))) front
      ∙ ap (λ n. asked_from n (word ∷ []) self) at
      ∙ asked_no_more (i + 1) (with_word word (record self { at = i }))

  -- without the first word
  pub rest_more : (self : RequestValue) → asked_from i (drop i words) self
      ≡ result_and_then (asked_from (i + 1) (drop (i + 1) words)) (with_word word (record self { at = i }))
  rest_more self =
      ap (λ l. asked_from i l self) (drop_more words i [] below ∙ ap (λ w. w ∷ drop (i + 1) words) is)

  -- where no more is taken, the words are wrong, or some of them, from the first on, are right
  pub fails_at : (old self : RequestValue) (fault : Fault) → asked_from 0 (take i words) old ≡ Ok self
      → asked_from i (drop i words) self ≡ asked_from 0 words old
      → (with_word word (record self { at = i }) ≡ Err fault)
      ⊎ ((fault ≡ OutOfMemory) × IsOk (with_word word (record self { at = i })))
      → (asked_from 0 words old ≡ Err fault) ⊎ ((fault ≡ OutOfMemory) × SomeAreRight words old)
  fails_at old self fault front rest (inl wrong) =
      inl (sym rest ∙ rest_more self ∙ ap (result_and_then (asked_from (i + 1) (drop (i + 1) words))) wrong)
  fails_at old self fault front rest (inr refused) =
      inr (refused.0, (i, below, subst IsOk (sym (front_more old self front)) refused.1))
