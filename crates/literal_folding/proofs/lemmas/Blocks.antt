-- Parts of a block, and where a text may be cut before it is known what follows.
use borrow.Rule.Slice.PartMut.{post_of}
use Rattle.std.proofs.Common.{◌≡◌, ℕ, ◌+◌, ◌-◌, ◌<◌, ◌≤◌, List, [], ◌∷◌, ◌++◌, ap, sym, ◌∙◌, subst, inl, inr, arith}
use Rattle.std.proofs.Common.{drop, get_or, length, length-append, slice_range, take, length-drop, length-take, refl}
use Rattle.std.proofs.Common.{append_assoc, Option, Some, None}
use Rattle.std.proofs.Common.{nat_lt, take-append-drop}
use Rattle.std.proofs.lemmas.Bool.{cases_lt, le-ltb, lt-ltb}
use Rattle.std.proofs.lemmas.Bool.Decides.{nat_tests}
use Rattle.std.proofs.lemmas.List.{drop-append-le, drop-take, take-append-le, take_all}
use Rattle.std.proofs.Math.Seq.{drop-cons, take-append-add}
use Rattle.std.proofs.lemmas.Slice.{drop-put_mid}
use Rattle.std.specs.Bool.{MatchBool}
use Rattle.std.specs.Io.KnownBytes.{Consumes, IsAtEnd, Keeps}
use Rattle.literal_fingerprints.proofs.lemmas.Skipped.{part_behind}
use Rattle.literal_rows.proofs.lemmas.Arrays.{length_part}
use Rattle.literal_folding.specs.Folding.{NoneGoesOver, folded}
use Rattle.literal_folding.specs.Inside.Blocks.{bytes_behind_of, held, ready, rest_of}
use Rattle.literal_folding.specs.declared.block.Block.{Block}
use Rattle.literal_folding.proofs.lemmas.Chars.{shape}
use Rattle.literal_folding.proofs.lemmas.Texts.{folded-append, folded-nil, length-folded, none_left, none_over}

-- a part without its first bytes, once these were written
pub part_written : (xs written : List ℕ) (start end n : ℕ) → start + n ≤ end → end ≤ length xs → length written ≡ n
    → slice_range (take start xs ++ (written ++ post_of start (start + n - start) xs)) (start + n) end
    ≡ drop n (slice_range xs start end)
part_written xs written start end n p q len =
    let k : start + n - start ≡ n = omega arith in
    ap (take (end - (start + n))) (drop-put_mid start (start + n - start) xs written (start + n) (omega arith)
    (omega arith) (len ∙ sym k))
    ∙ part_behind xs start end n p

-- a text may be cut at the end if each of its last bytes begins no character that goes on
pub none_over_end : (text more : List ℕ)
    → ((k : ℕ) → 0 < k → k ≤ 3 → k ≤ length text → bytes_behind_of (get_or text (length text - k) 0) < k)
    → NoneGoesOver text more
none_over_end text more few c front [] right rest is e p q r f = absurd (omega arith)
none_over_end text more few c front (x ∷ left) right rest is e p q r f =
    let s = shape c is in
    let k = length (x ∷ left) in
    let whole : s.lead ∷ s.conts ≡ (x ∷ left) ++ right = sym s.is ∙ e in
    let lead : s.lead ≡ x = ap (λ t. get_or t 0 0) whole in
    let len : length s.conts ≡ length left + length right =
    ap (λ t. length (drop 1 t)) whole ∙ length-append left right in
    let most : bytes_behind_of s.lead ≤ 3 = grind (arith, nat_tests) in
    let at : length text - k ≡ length front = omega (arith, ap (λ t. length t) r, length-append front (x ∷ left)) in
    let here : get_or text (length text - k) 0 ≡ x =
    ap (λ n. get_or text n 0) at ∙ ap (λ t. get_or t (length front) 0) r ∙ get_seam front (x ∷ left) in
    let same : bytes_behind_of (get_or text (length text - k) 0) ≡ length s.conts =
    ap bytes_behind_of (here ∙ sym lead) ∙ sym s.count in
    let inside : k ≤ length text = omega (arith, ap (λ t. length t) r, length-append front (x ∷ left)) in
    omega (arith, few k (omega arith) (omega (arith, s.count)) inside)
  where
    get_seam : (xs ys : List ℕ) → get_or (xs ++ ys) (length xs) 0 ≡ get_or ys 0 0
    get_seam [] ys = refl
    get_seam (x ∷ xs) ys = get_seam xs ys

pub none_over_whole : (text more : List ℕ)
    → ((k : ℕ) → 0 < k → k ≤ 3 → k ≤ length text → bytes_behind_of (get_or text (length text - k) 0) < k)
    → NoneGoesOver (take (length text) text) (drop (length text) text ++ more)
none_over_whole text more few =
    subst (λ (t : List ℕ). NoneGoesOver t (drop (length text) text ++ more))
    (sym (take_all (length text) text (omega arith)))
    (none_over_end text (drop (length text) text ++ more) few)

-- a text may be cut before a byte that begins a character
pub none_over_lead : (text more : List ℕ) (at back : ℕ) → at < length text → 0 < back
    → back ≤ bytes_behind_of (get_or text at 0) → NoneGoesOver (take at text) (drop at text ++ more)
none_over_lead text more at back p q r =
    let high : 192 ≤ get_or text at 0 = grind (arith, nat_tests) in
    let here : get_or (drop at text ++ more) 0 0 ≡ get_or text at 0 =
    ap (λ t. get_or (t ++ more) 0 0) (drop-cons text at 0 p) in
    none_over (take at text) (drop at text ++ more) (inr (omega (arith, here)))

-- no character goes over the end of a text
pub none_over_nothing : (text : List ℕ) → NoneGoesOver text []
none_over_nothing text c front left [] rest is e p q r f = absurd (omega arith)
none_over_nothing text c front left (x ∷ right) rest is e p q r f = cc

-- once a piece was read, and the first bytes are folded, the same bytes are still to be given
pub kept : (old new : Block) (mid piece : List ℕ) (n : ℕ) (unread after : Option (List ℕ)) → ready old ≡ []
    → Consumes unread after piece → mid ≡ held old ++ piece → ready new ≡ folded (take n mid) → held new ≡ drop n mid
    → ((more : List ℕ) → after ≡ Some more → NoneGoesOver (take n mid) (drop n mid ++ more))
    → Keeps (rest_of old unread) (rest_of new after)
kept old new mid piece n None after given read split first rest none = tt
kept old new mid piece n (Some xs) None given read split first rest none = absurd read
kept old new mid piece n (Some xs) (Some ys) given read split first rest none =
    ap (λ t. t ++ folded (held new ++ ys)) first ∙ ap (λ t. folded (take n mid) ++ folded (t ++ ys)) rest
    ∙ sym (folded-append (take n mid) (drop n mid ++ ys) (none ys refl))
    ∙ ap folded (sym (append_assoc (take n mid) (drop n mid) ys) ∙ ap (λ t. t ++ ys) (take-append-drop n mid ∙ split)
    ∙ append_assoc (held old) piece ys ∙ ap (λ t. held old ++ t) (sym read))
    ∙ ap (λ t. t ++ folded (held old ++ xs)) (sym given)

nothing_behind : (text : List ℕ) → drop (length text) text ≡ []
nothing_behind text = none_left (drop (length text) text) (omega (arith, length-drop (length text) text))

-- at the end of a text all is folded
pub none_over_last : (text : List ℕ) (after : Option (List ℕ)) → IsAtEnd after → (more : List ℕ) → after ≡ Some more
    → NoneGoesOver (take (length text) text) (drop (length text) text ++ more)
none_over_last text after end more is =
    let none : more ≡ [] = subst IsAtEnd is end in
    subst (NoneGoesOver (take (length text) text))
    (sym (ap (λ t. t ++ more) (nothing_behind text) ∙ none))
    (none_over_nothing (take (length text) text))

pub at_end : (new : Block) (mid : List ℕ) (after : Option (List ℕ)) → IsAtEnd after
    → held new ≡ drop (length mid) mid → ready new ≡ [] → IsAtEnd (rest_of new after)
at_end new mid None end rest first = tt
at_end new mid (Some xs) end rest first =
    let none : held new ≡ [] = rest ∙ nothing_behind mid in
    ap (λ t. t ++ folded (held new ++ xs)) first ∙ ap folded (ap (λ t. t ++ xs) none ∙ end) ∙ folded-nil

abbrev length_of : List ℕ → ℕ
length_of t = length t

-- once the first bytes are folded, some are ready, or more are held than before a piece was read
pub filled : (old new : Block) (mid piece : List ℕ) (n : ℕ) (End : Type 0) → mid ≡ held old ++ piece → 0 < length piece
    → n ≤ length mid → ready new ≡ folded (take n mid) → held new ≡ drop n mid
    → MatchBool (nat_lt 0 n) (ready new ≡ [] → End)
    ((ready new ≡ []) × (length (held old) < length (held new)))
filled old new mid piece n End split some within first rest = elim (cases_lt 0 n) [
  | inl p ↦ subst (λ b. MatchBool b (ready new ≡ [] → End) ((ready new ≡ []) × (length (held old) < length (held new))))
      (sym (lt-ltb 0 n p))
      (λ none. absurd (omega (
        arith,
        ap length_of first,
        ap length_of none,
        length-folded (take n mid),
        length-take n mid,
      )))
  | inr q ↦
      let zero' : n ≡ 0 = omega arith in
      let is : ready new ≡ [] = first ∙ ap (λ k. folded (take k mid)) zero' ∙ folded-nil in
      let all : held new ≡ mid = rest ∙ ap (λ k. drop k mid) zero' in
      subst (λ b. MatchBool b (ready new ≡ [] → End) ((ready new ≡ []) × (length (held old) < length (held new))))
      (sym (le-ltb 0 n q))
      (is, omega (arith, ap length_of all, ap length_of split, length-append (held old) piece))
]

-- a part, and what was written behind it
pub part_and_read : (xs written behind : List ℕ) (start end n : ℕ) → start ≤ end → end ≤ length xs
    → n ≤ length written
    → slice_range (take end xs ++ (written ++ behind)) start (end + n) ≡ slice_range xs start end ++ take n written
part_and_read xs written behind start end n p q r =
    let len : length (take end xs) ≡ end = omega (arith, length-take end xs) in
    let first : drop start (take end xs) ≡ slice_range xs start end =
    ap (λ k. drop start (take k xs)) (let e : end ≡ start + (end - start) = omega arith in e)
    ∙ drop-take start (end - start) xs in
    let rest : drop start (take end xs ++ (written ++ behind)) ≡ slice_range xs start end ++ (written ++ behind) =
    drop-append-le start (take end xs) (written ++ behind) (omega arith) ∙ ap (λ t. t ++ (written ++ behind)) first in
    let size : (end + n) - start ≡ length (slice_range xs start end) + n =
    omega (arith, length_part xs start end p q) in
    ap (take ((end + n) - start)) rest
    ∙ ap (λ k. take k (slice_range xs start end ++ (written ++ behind))) size
    ∙ take-append-add (slice_range xs start end) (written ++ behind) n
    ∙ ap (λ t. slice_range xs start end ++ t) (take-append-le n written behind r)

-- what is given is consumed
pub gives : (known unread : Option (List ℕ)) (old new : Block) (given : List ℕ) (n : ℕ)
    → Keeps known (rest_of old unread)
    → given ≡ take n (ready old) → ready new ≡ drop n (ready old) → held new ≡ held old
    → Consumes known (rest_of new unread) given
gives None unread old new given n keeps is first rest = tt
gives (Some xs) None old new given n keeps is first rest = keeps
gives (Some xs) (Some ys) old new given n keeps is first rest =
    sym (ap (λ t. t ++ (ready new ++ folded (held new ++ ys))) is
    ∙ ap (λ t. take n (ready old) ++ (t ++ folded (held new ++ ys))) first
    ∙ sym (append_assoc (take n (ready old)) (drop n (ready old)) (folded (held new ++ ys)))
    ∙ ap (λ t. t ++ folded (held new ++ ys)) (take-append-drop n (ready old))
    ∙ ap (λ t. ready old ++ folded (t ++ ys)) rest ∙ keeps)

-- a text that is over stays so
pub end_stays : (unread : Option (List ℕ)) (old new : Block) → ready new ≡ ready old → held new ≡ held old
    → IsAtEnd (rest_of old unread) → IsAtEnd (rest_of new unread)
end_stays None old new first rest end = tt
end_stays (Some ys) old new first rest end =
    ap (λ t. t ++ folded (held new ++ ys)) first ∙ ap (λ t. ready old ++ folded (t ++ ys)) rest ∙ end
