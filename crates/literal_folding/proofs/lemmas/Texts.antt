-- The folding of a text.
use lib.Utf8.{low_scalar, scalar}
use borrow.Rule.Slice.PartMut.{post_of, put_mid}
use Rattle.std.proofs.Common.{◌≡◌, refl, ℕ, suc, ◌+◌, ◌-◌, ◌<◌, ◌≤◌, true, List, [], ◌∷◌, ◌++◌, Option, Some, None}
use Rattle.std.proofs.Common.{append-nil, append_assoc, arith, ap, sym, ◌∙◌, subst, ◌⊎◌, ⊎_elim, inl, inr, length, map}
use Rattle.std.proofs.Common.{take, drop, get_or, slice_set, take-append-drop, length-append, length-take, length-drop}
use Rattle.std.proofs.lemmas.Bool.{and_parts, cases_lt}
use Rattle.std.proofs.lemmas.Bool.Decides.{nat_tests}
use Rattle.std.proofs.lemmas.List.{append_cancel_left, take_all, drop-append-le, take-append-le}
use Rattle.std.proofs.Math.Seq.{drop-append_seam, drop-cons, take-append_seam, take-suc}
use Rattle.std.proofs.lemmas.Str.{encode_ascii, length-encode}
use Rattle.std.specs.Char.{IsScalar, encode_utf8, len_utf8, to_ascii_lowercase}
use Rattle.std.specs.Str.{IsAscii, StartsWithNoChar, all_scalars, encode_utf8_all}
use Rattle.literal_folding.specs.Folding.{NoneGoesOver, first_char_of, first_code_of, folded, folded_char, with_first}
use Rattle.literal_folding.specs.Folding.{with_first_folded}
use Rattle.literal_folding.proofs.lemmas.Chars.{first_char_of-code}
use Rattle.literal_folding.proofs.lemmas.Chars.{AreConts, IsCont, begins_with, cont_begins_none, first_char_of-encode}
use Rattle.literal_folding.proofs.lemmas.Chars.{shape}
use Rattle.literal_folding.proofs.lemmas.Table.{folded_char_ascii, folded_char_len, folded_char_scalar}
use Rattle.literal_folding.proofs.lemmas.Table.{folded_char_twice}

-- ---- the first character folded

pub with_first_folded-none : (text : List ℕ) → first_char_of text ≡ None → with_first_folded text ≡ text
unfolding with_first_folded
with_first_folded-none text e = ap (λ o. with_first o text) e

pub with_first_folded-char : (c : ℕ) (rest : List ℕ) → IsScalar c
    → with_first_folded (encode_utf8 c ++ rest) ≡ encode_utf8 (folded_char c) ++ rest
unfolding with_first_folded
with_first_folded-char c rest is =
    ap (λ o. with_first o (encode_utf8 c ++ rest)) (first_char_of-encode c rest is)
    ∙ ap (λ bs. encode_utf8 (folded_char c) ++ bs)
    (ap (λ n. drop n (encode_utf8 c ++ rest)) (sym (length-encode c)) ∙ drop-append_seam (encode_utf8 c) rest)

-- a text begins with a character, or with none
pub data First (text : List ℕ) : Type 0 where
  char : (c : ℕ) (rest : List ℕ) → IsScalar c → text ≡ encode_utf8 c ++ rest → First text
  no_char : first_char_of text ≡ None → First text

pub first : (text : List ℕ) → First text
first text = by_answer (first_char_of text) refl
  where
    by_answer : (o : Option ℕ) → first_char_of text ≡ o → First text
    by_answer None e = no_char e
    by_answer (Some c) e = let b = begins_with text c e in char c (drop (len_utf8 c) text) b.is b.split

pub with_first_folded-some : (text : List ℕ) (c : ℕ) → first_char_of text ≡ Some c
    → with_first_folded text ≡ encode_utf8 (folded_char c) ++ drop (len_utf8 (folded_char c)) text
unfolding with_first_folded
with_first_folded-some text c e =
    ap (λ o. with_first o text) e ∙ ap (λ n. encode_utf8 (folded_char c) ++ drop n text) (sym (folded_char_len c))

-- a text stays if the number that its first bytes spell is its own folding
pub with_first_folded-same : (text : List ℕ) → folded_char (first_code_of text) ≡ first_code_of text
    → with_first_folded text ≡ text
with_first_folded-same text same = by_answer (first_char_of text) refl
  where
    by_answer : (o : Option ℕ) → first_char_of text ≡ o → with_first_folded text ≡ text
    by_answer None e = with_first_folded-none text e
    by_answer (Some c) e =
        let stays : folded_char c ≡ c =
        ap folded_char (first_char_of-code text c e) ∙ same ∙ sym (first_char_of-code text c e) in
        with_first_folded-some text c e ∙ ap (λ d. encode_utf8 d ++ drop (len_utf8 d) text) stays
        ∙ sym (begins_with text c e).split

-- a first byte that is ASCII is folded alone
pub first_ascii : (text : List ℕ) (b : ℕ) → 0 < length text → get_or text 0 0 ≡ b → b < 128
    → slice_set text 0 (to_ascii_lowercase b) ≡ with_first_folded text
first_ascii [] b p e is = absurd (omega arith)
first_ascii (x ∷ text) b p e is =
    let scalar : IsScalar b = low_scalar b (omega arith) in
    let small : to_ascii_lowercase b < 128 = grind (arith, nat_tests) in
    sym (ap (λ y. with_first_folded (y ∷ text)) e ∙ ap (λ bs. with_first_folded (bs ++ text)) (sym (encode_ascii b is))
    ∙ with_first_folded-char b text scalar
    ∙ ap (λ bs. bs ++ text) (ap encode_utf8 (folded_char_ascii b is) ∙ encode_ascii (to_ascii_lowercase b) small))

-- one that stands in a character stays
pub first_cont : (text : List ℕ) (b : ℕ) → 0 < length text → get_or text 0 0 ≡ b → IsCont b
    → with_first_folded text ≡ text
first_cont [] b p e is = absurd (omega arith)
first_cont (x ∷ text) b p e is =
    with_first_folded-none (x ∷ text) (cont_begins_none x text (subst IsCont (sym e) is))

-- the folding has room where the character stands
pub room_for_folding : (text : List ℕ) (c : ℕ) → first_char_of text ≡ Some c → len_utf8 (folded_char c) ≤ length text
room_for_folding text c e =
    let b = begins_with text c e in
    let bytes = encode_utf8 c in
    omega (arith, folded_char_len c, length-encode c, ap length b.split, length-append bytes (drop (len_utf8 c) text))

pub length-with_first_folded : (text : List ℕ) → length (with_first_folded text) ≡ length text
length-with_first_folded text = elim (first text) [
  | char c rest is e ↦
      ap (λ t. length (with_first_folded t)) e ∙ ap length (with_first_folded-char c rest is)
      ∙ length-append (encode_utf8 (folded_char c)) rest
      ∙ ap (λ n. n + length rest) (length-encode (folded_char c) ∙ folded_char_len c ∙ sym (length-encode c))
      ∙ sym (length-append (encode_utf8 c) rest) ∙ ap length (sym e)
  | no_char e ↦ ap length (with_first_folded-none text e)
]

-- ---- the bytes in a character

folded-cons : (b : ℕ) (text : List ℕ) → folded (b ∷ text) ≡ with_first_folded (b ∷ folded text)
unfolding folded
folded-cons b text = refl

pub folded-nil : folded [] ≡ []
unfolding folded
folded-nil = refl

folded-cont : (b : ℕ) (text : List ℕ) → IsCont b → folded (b ∷ text) ≡ b ∷ folded text
folded-cont b text is =
    folded-cons b text ∙ with_first_folded-none (b ∷ folded text) (cont_begins_none b (folded text) is)

folded-conts : (bytes text : List ℕ) → AreConts bytes → folded (bytes ++ text) ≡ bytes ++ folded text
folded-conts [] text are = refl
folded-conts (b ∷ bytes) text are =
    folded-cont b (bytes ++ text) are.0 ∙ ap (λ t. b ∷ t) (folded-conts bytes text are.1)

pub folded-char : (c : ℕ) (text : List ℕ) → IsScalar c
    → folded (encode_utf8 c ++ text) ≡ encode_utf8 (folded_char c) ++ folded text
folded-char c text is =
    let s = shape c is in
    ap (λ bs. folded (bs ++ text)) s.is ∙ folded-cons s.lead (s.conts ++ text)
    ∙ ap (λ t. with_first_folded (s.lead ∷ t)) (folded-conts s.conts text s.go_on)
    ∙ ap (λ bs. with_first_folded (bs ++ folded text)) (sym s.is)
    ∙ with_first_folded-char c (folded text) is

-- a folded text begins with such bytes only if the text does
pub record Conts (bytes text rest : List ℕ) : Type 0 where
  pub behind : List ℕ
  pub split : text ≡ bytes ++ behind
  pub same : folded behind ≡ rest

pub conts_stay : (bytes text rest : List ℕ) → AreConts bytes → folded text ≡ bytes ++ rest → Conts bytes text rest
unfolding folded
conts_stay [] text rest are e = record { behind = text; split = refl; same = e }
conts_stay (b ∷ bytes) [] rest are e = cc
conts_stay (b ∷ bytes) (x ∷ text) rest are e = elim (first (x ∷ folded text)) [
  | char c more is begun ↦
      let s = shape (folded_char c) (folded_char_scalar c is) in
      let head : b ≡ s.lead = ap (λ bs. get_or bs 0 0) (sym e ∙ ap with_first_folded begun
      ∙ with_first_folded-char c more is ∙ ap (λ bs. bs ++ more) s.is) in
      absurd (⊎_elim (λ low. omega arith) (λ high. omega arith) s.begins)
  | no_char none ↦
      let same : x ∷ folded text ≡ b ∷ (bytes ++ rest) = sym (with_first_folded-none (x ∷ folded text) none) ∙ e in
      let next = conts_stay bytes text rest are.1 (ap (drop 1) same) in
      let head : x ≡ b = ap (λ bs. get_or bs 0 0) same in
      record {
        behind = next.behind;
        split = ap (λ y. y ∷ text) head ∙ ap (λ t. b ∷ t) next.split;
        same = next.same;
      }
]

-- where no character begins, none does once the rest is folded
pub none_stays : (b : ℕ) (text : List ℕ) → StartsWithNoChar (b ∷ text) → first_char_of (b ∷ folded text) ≡ None
none_stays b text none = elim (first (b ∷ folded text)) [
  | char c rest is begun ↦
      let s = shape c is in
      let all : b ∷ folded text ≡ s.lead ∷ (s.conts ++ rest) = begun ∙ ap (λ bs. bs ++ rest) s.is in
      let kept = conts_stay s.conts text rest s.go_on (ap (drop 1) all) in
      absurd (none c kept.behind is (ap (λ t. b ∷ t) kept.split
      ∙ ap (λ y. y ∷ (s.conts ++ kept.behind)) (ap (λ bs. get_or bs 0 0) all)
      ∙ ap (λ bs. bs ++ kept.behind) (sym s.is)))
  | no_char e ↦ e
]

pub folded-other : (b : ℕ) (text : List ℕ) → StartsWithNoChar (b ∷ text) → folded (b ∷ text) ≡ b ∷ folded text
folded-other b text none =
    folded-cons b text ∙ with_first_folded-none (b ∷ folded text) (none_stays b text none)

-- ---- laws

pub length-folded : (text : List ℕ) → length (folded text) ≡ length text
unfolding folded
length-folded [] = refl
length-folded (b ∷ text) = length-with_first_folded (b ∷ folded text) ∙ ap suc (length-folded text)

pub folded-ascii : (text : List ℕ) → IsAscii text → folded text ≡ map to_ascii_lowercase text
folded-ascii [] are = folded-nil
folded-ascii (b ∷ text) are =
    let is : b < 128 = are 0 in
    let scalar : IsScalar b = low_scalar b (omega arith) in
    let small : to_ascii_lowercase b < 128 = grind (arith, nat_tests) in
    let folding : encode_utf8 (folded_char b) ≡ to_ascii_lowercase b ∷ [] =
    ap encode_utf8 (folded_char_ascii b is) ∙ encode_ascii (to_ascii_lowercase b) small in
    ap (λ bs. folded (bs ++ text)) (sym (encode_ascii b is)) ∙ folded-char b text scalar
    ∙ ap (λ bs. bs ++ folded text) folding
    ∙ ap (λ t. to_ascii_lowercase b ∷ t) (folded-ascii text (λ i. are (suc i)))

pub folded-chars : (cs : List ℕ) → all_scalars cs ≡ true
    → folded (encode_utf8_all cs) ≡ encode_utf8_all (map folded_char cs)
folded-chars [] are = folded-nil
folded-chars (c ∷ cs) are =
    let both = and_parts (scalar c) (all_scalars cs) are in
    folded-char c (encode_utf8_all cs) both.0
    ∙ ap (λ bs. encode_utf8 (folded_char c) ++ bs) (folded-chars cs both.1)

pub folded-twice : (text : List ℕ) → folded (folded text) ≡ folded text
folded-twice [] = ap folded folded-nil
folded-twice (b ∷ text) = elim (first (b ∷ folded text)) [
  | char c rest is begun ↦
      let s = shape c is in
      let tail : folded text ≡ s.conts ++ rest = ap (drop 1) (begun ∙ ap (λ bs. bs ++ rest) s.is) in
      let again : folded rest ≡ rest = append_cancel_left s.conts (folded rest) rest
      (sym (folded-conts s.conts rest s.go_on) ∙ ap folded (sym tail) ∙ folded-twice text ∙ tail) in
      let once : folded (b ∷ text) ≡ encode_utf8 (folded_char c) ++ rest =
      folded-cons b text ∙ ap with_first_folded begun ∙ with_first_folded-char c rest is in
      ap folded once ∙ folded-char (folded_char c) rest (folded_char_scalar c is)
      ∙ ap (λ d. encode_utf8 d ++ folded rest) (folded_char_twice c)
      ∙ ap (λ t. encode_utf8 (folded_char c) ++ t) again ∙ sym once
  | no_char none ↦
      let once : folded (b ∷ text) ≡ b ∷ folded text =
      folded-cons b text ∙ with_first_folded-none (b ∷ folded text) none in
      ap folded once ∙ folded-cons b (folded text) ∙ ap (λ t. with_first_folded (b ∷ t)) (folded-twice text)
      ∙ sym (folded-cons b text)
]

-- ---- two parts of a text

-- the shorter one of two first parts of a text
front : (xs ys us vs : List ℕ) → xs ++ ys ≡ us ++ vs → length us ≤ length xs
    → (xs ≡ us ++ drop (length us) xs) × (drop (length us) xs ++ ys ≡ vs)
front xs ys us vs e p = (
  sym (take-append-drop (length us) xs)
      ∙ ap (λ t. t ++ drop (length us) xs)
      (sym (take-append-le (length us) xs ys p) ∙ ap (take (length us)) e ∙ take-append_seam us vs),
  sym (drop-append-le (length us) xs ys p) ∙ ap (drop (length us)) e ∙ drop-append_seam us vs,
)

pub none_left : (xs : List ℕ) → length xs ≡ 0 → xs ≡ []
none_left [] e = refl
none_left (x ∷ xs) e = absurd (omega arith)

-- bytes that all stand in a character are not folded
stays : (text : List ℕ) → AreConts (folded text) → text ≡ folded text
stays text are =
    let kept = conts_stay (folded text) text [] are (sym (append-nil (folded text))) in
    let none : kept.behind ≡ [] = none_left kept.behind (omega (
      arith,
      length-folded text,
      ap length kept.split,
      length-append (folded text) kept.behind,
    )) in
    kept.split ∙ ap (λ t. folded text ++ t) none ∙ append-nil (folded text)

conts_left : (xs ys : List ℕ) → AreConts (xs ++ ys) → AreConts xs
conts_left [] ys are = tt
conts_left (x ∷ xs) ys are = (are.0, conts_left xs ys are.1)

conts_right : (xs ys : List ℕ) → AreConts (xs ++ ys) → AreConts ys
conts_right [] ys are = are
conts_right (x ∷ xs) ys are = conts_right xs ys are.1

none_alone : (text more : List ℕ) → first_char_of (text ++ more) ≡ None → first_char_of text ≡ None
none_alone text more none = elim (first text) [
  | char c rest is e ↦
      let begun : first_char_of (text ++ more) ≡ Some c =
      ap first_char_of (ap (λ t. t ++ more) e ∙ append_assoc (encode_utf8 c) rest more)
      ∙ first_char_of-encode c (rest ++ more) is in
      cc
  | no_char nothing ↦ nothing
]

none_later : (b : ℕ) (before behind : List ℕ) → NoneGoesOver (b ∷ before) behind → NoneGoesOver before behind
none_later b before behind none c front left right rest is e p q r =
    none c (b ∷ front) left right rest is e p q (ap (λ t. b ∷ t) r)

-- if no character goes over, one that begins in the first part, once the rest is folded, ends there
ends_there : (b : ℕ) (before behind : List ℕ) (c : ℕ) (rest : List ℕ) → NoneGoesOver (b ∷ before) behind → IsScalar c
    → (b ∷ folded before) ++ folded behind ≡ encode_utf8 c ++ rest
    → length (encode_utf8 c) ≤ length (b ∷ folded before)
ends_there b before behind c rest none is e = elim (cases_lt (length (b ∷ folded before)) (length (encode_utf8 c))) [
  | inr le ↦ le
  | inl lt ↦
      let s = shape c is in
      let left = b ∷ folded before in
      let right = drop (length left) (encode_utf8 c) in
      let parts = front (encode_utf8 c) rest left (folded behind) (sym e) (omega arith) in
      let conts : s.conts ≡ folded before ++ right = ap (drop 1) (sym s.is ∙ parts.0) in
      let all : AreConts (folded before ++ right) = subst AreConts conts s.go_on in
      let same : before ≡ folded before = stays before (conts_left (folded before) right all) in
      let next = conts_stay right behind rest (conts_right (folded before) right all) (sym parts.1) in
      absurd (none c [] (b ∷ before) right next.behind is (parts.0 ∙ ap (λ t. b ∷ (t ++ right)) (sym same))
      (omega arith) (omega (arith, length-drop (length left) (encode_utf8 c))) refl next.split)
]

with_first_folded-append : (b : ℕ) (before behind : List ℕ) → NoneGoesOver (b ∷ before) behind
    → with_first_folded ((b ∷ folded before) ++ folded behind) ≡ with_first_folded (b ∷ folded before) ++ folded behind
with_first_folded-append b before behind none = elim (first ((b ∷ folded before) ++ folded behind)) [
  | char c rest is begun ↦
      let left = b ∷ folded before in
      let end = ends_there b before behind c rest none is begun in
      let parts = front left (folded behind) (encode_utf8 c) rest begun end in
      let more = drop (length (encode_utf8 c)) left in
      ap with_first_folded begun ∙ with_first_folded-char c rest is
      ∙ ap (λ t. encode_utf8 (folded_char c) ++ t) (sym parts.1)
      ∙ sym (append_assoc (encode_utf8 (folded_char c)) more (folded behind))
      ∙ ap (λ t. t ++ folded behind) (sym (with_first_folded-char c more is) ∙ ap with_first_folded (sym parts.0))
  | no_char nothing ↦
      let alone : first_char_of (b ∷ folded before) ≡ None = none_alone (b ∷ folded before) (folded behind) nothing in
      with_first_folded-none ((b ∷ folded before) ++ folded behind) nothing
      ∙ ap (λ t. t ++ folded behind) (sym (with_first_folded-none (b ∷ folded before) alone))
]

pub folded-append : (before behind : List ℕ) → NoneGoesOver before behind
    → folded (before ++ behind) ≡ folded before ++ folded behind
folded-append [] behind none = ap (λ t. t ++ folded behind) (sym folded-nil)
folded-append (b ∷ before) behind none =
    let rest = folded-append before behind (none_later b before behind none) in
    folded-cons b (before ++ behind) ∙ ap (λ t. with_first_folded (b ∷ t)) rest
    ∙ with_first_folded-append b before behind none
    ∙ ap (λ t. t ++ folded behind) (sym (folded-cons b before))

-- no character goes over to a text that begins with no byte of those that stand in a character
pub none_over : (before behind : List ℕ) → (get_or behind 0 0 < 128) ⊎ (192 ≤ get_or behind 0 0)
    → NoneGoesOver before behind
none_over before behind starts c before' [] right rest is e p q r f = absurd (omega arith)
none_over before behind starts c before' (x ∷ left) [] rest is e p q r f = absurd (omega arith)
none_over before behind starts c before' (x ∷ left) (y ∷ right) rest is e p q r f =
    let s = shape c is in
    let conts : s.conts ≡ left ++ (y ∷ right) = ap (drop 1) (sym s.is ∙ e) in
    let cont : IsCont y = (conts_right left (y ∷ right) (subst AreConts conts s.go_on)).0 in
    let same : get_or behind 0 0 ≡ y = ap (λ t. get_or t 0 0) f in
    ⊎_elim (λ low. omega arith) (λ high. omega arith) starts

-- ---- from the end to the start

pub loop_starts : (text : List ℕ) → text ≡ take (length text) text ++ folded (drop (length text) text)
loop_starts text =
    let n = length text in
    let none : drop n text ≡ [] = none_left (drop n text) (omega (arith, length-drop n text)) in
    sym (take-append-drop n text) ∙ ap (λ t. take n text ++ t) (none ∙ sym folded-nil ∙ ap folded (sym none))

-- the byte before the folded ones is folded with them
pub loop_goes_on : (old text new : List ℕ) (at m : ℕ) → at ≡ suc m → at ≤ length old
    → text ≡ take at old ++ folded (drop at old)
    → new ≡ with_first_folded (take (length text - m) (drop m text))
    → put_mid m (length text - m) text new ≡ take m old ++ folded (drop m old)
loop_goes_on old text new at m e p kept done =
    let b = get_or old m 0 in
    let more = folded (drop (suc m) old) in
    let split : text ≡ take m old ++ (b ∷ more) =
    kept ∙ ap (λ n. take n old ++ folded (drop n old)) e ∙ ap (λ t. t ++ more) (take-suc old m 0 (omega arith))
    ∙ append_assoc (take m old) (b ∷ []) more in
    let len : length (take m old) ≡ m = omega (arith, length-take m old) in
    let whole : drop m text ≡ b ∷ more =
    ap (drop m) split ∙ ap (λ n. drop n (take m old ++ (b ∷ more))) (sym len)
    ∙ drop-append_seam (take m old) (b ∷ more) in
    let first : take m text ≡ take m old =
    ap (take m) split ∙ ap (λ n. take n (take m old ++ (b ∷ more))) (sym len)
    ∙ take-append_seam (take m old) (b ∷ more) in
    let all : take (length text - m) (drop m text) ≡ drop m text =
    take_all (length text - m) (drop m text) (omega (arith, length-drop m text)) in
    let folding : new ≡ folded (drop m old) =
    done ∙ ap with_first_folded (all ∙ whole) ∙ sym (folded-cons b (drop (suc m) old))
    ∙ ap folded (sym (drop-cons old m 0 (omega arith))) in
    let none : post_of m (length text - m) text ≡ [] =
    none_left (drop (length text - m) (drop m text))
    (omega (arith, length-drop (length text - m) (drop m text), length-drop m text)) in
    ap (λ t. t ++ (new ++ post_of m (length text - m) text)) first
    ∙ ap (λ t. take m old ++ (new ++ t)) none ∙ ap (λ t. take m old ++ t) (append-nil new ∙ folding)
