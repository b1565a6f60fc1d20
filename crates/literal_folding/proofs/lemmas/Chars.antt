-- The character with which a text begins.
use lib.Utf8.{scalar}
use Rattle.std.proofs.Common.{◌≡◌, refl, ℕ, ◌+◌, ◌/◌, ◌%◌, ◌<◌, ◌≤◌, ◌&&◌, Bool, true, false, List, [], ◌∷◌, ◌++◌}
use Rattle.std.proofs.Common.{Option, Some, None, arith, ap, sym, ◌∙◌, subst, ◌⊎◌, ⊎_elim, inl, inr, length, take}
use Rattle.std.proofs.Common.{drop, get_or, take-append-drop, nat_eq}
use Rattle.std.proofs.lemmas.Bool.{and_from, and_parts, cases_lt}
use Rattle.std.proofs.lemmas.Bool.Decides.{nat_tests}
use Rattle.std.proofs.Math.Seq.{take-append_seam}
use Rattle.std.proofs.lemmas.Slice.Eq.{bytes_eq-Decides}
use Rattle.std.proofs.lemmas.Str.{encode_ascii, length-encode}
use Rattle.std.specs.Prelude.{⊤, IsSome}
use Rattle.std.specs.Option.{SomeIff}
use Rattle.std.specs.Bool.{then_some}
use Rattle.std.specs.Char.{IsScalar, encode_utf8, len_utf8}
use Rattle.std.specs.List.{starts_with}
use Rattle.std.specs.Str.{StartsWithNoChar, all_scalars}
use Rattle.literal_folding.specs.Folding.{first_char_of, first_code_of}
use Rattle.literal_folding.specs.Inside.Blocks.{bytes_behind_of}

-- ---- the bytes of a character

-- a byte that does not begin a character, but may stand in one
abbrev pub IsCont : ℕ → Type 0
IsCont b = (128 ≤ b) × (b < 192)

abbrev pub AreConts : List ℕ → Type 0
AreConts [] = ⊤
AreConts (b ∷ bs) = IsCont b × AreConts bs

-- the bytes of a character: the first one, and the others
pub record Shape (c : ℕ) : Type 0 where
  pub lead : ℕ
  pub conts : List ℕ
  pub is : encode_utf8 c ≡ lead ∷ conts
  pub begins : (lead < 128) ⊎ (192 ≤ lead)
  pub go_on : AreConts conts
  pub count : length conts ≡ bytes_behind_of lead

one : (c : ℕ) → c < 128 → encode_utf8 c ≡ c ∷ []
one c p = encode_ascii c p

two : (c : ℕ) → 128 ≤ c → c < 2048 → encode_utf8 c ≡ (192 + c / 64) ∷ (128 + c % 64) ∷ []
unfolding encode_utf8
two c p q = grind (arith, nat_tests)

three : (c : ℕ) → 2048 ≤ c → c < 65536
    → encode_utf8 c ≡ (224 + c / 4096) ∷ (128 + (c / 64) % 64) ∷ (128 + c % 64) ∷ []
unfolding encode_utf8
three c p q = grind (arith, nat_tests)

four : (c : ℕ) → 65536 ≤ c
    → encode_utf8 c ≡ (240 + c / 262144) ∷ (128 + (c / 4096) % 64) ∷ (128 + (c / 64) % 64) ∷ (128 + c % 64) ∷ []
unfolding encode_utf8
four c p = grind (arith, nat_tests)

pub below : (c : ℕ) → IsScalar c → c < 0x11_0000
below c is = grind (arith, nat_tests)

cont : (n : ℕ) → IsCont (128 + n % 64)
cont n = (omega arith, omega arith)

behind_two : (c : ℕ) → 128 ≤ c → c < 2048 → bytes_behind_of (192 + c / 64) ≡ 1
behind_two c p q = grind (arith, nat_tests)

behind_three : (c : ℕ) → 2048 ≤ c → c < 65536 → bytes_behind_of (224 + c / 4096) ≡ 2
behind_three c p q = grind (arith, nat_tests)

behind_four : (c : ℕ) → 65536 ≤ c → bytes_behind_of (240 + c / 262144) ≡ 3
behind_four c p = grind (arith, nat_tests)

pub shape : (c : ℕ) → IsScalar c → Shape c
shape c is = elim (cases_lt c 128) [
  | inl p ↦ record { lead = c; conts = []; is = one c p; begins = inl p; go_on = tt; count = grind (arith, nat_tests) }
  | inr p ↦ elim (cases_lt c 2048) [
    | inl q ↦ record {
      lead = 192 + c / 64;
      conts = _;
      is = two c p q;
      begins = inr (omega arith);
      go_on = (cont c, tt);
      count = sym (behind_two c p q);
    }
    | inr q ↦ elim (cases_lt c 65536) [
      | inl r ↦ record {
        lead = 224 + c / 4096;
        conts = _;
        is = three c q r;
        begins = inr (omega arith);
        go_on = (cont (c / 64), (cont c, tt));
        count = sym (behind_three c q r);
      }
      | inr r ↦ record {
        lead = 240 + c / 262144;
        conts = _;
        is = four c r;
        begins = inr (omega arith);
        go_on = (cont (c / 4096), (cont (c / 64), (cont c, tt)));
        count = sym (behind_four c r);
      }
    ]
  ]
]

code_two : (c : ℕ) (rest : List ℕ) → 128 ≤ c → c < 2048 → first_code_of ((192 + c / 64) ∷ (128 + c % 64) ∷ rest) ≡ c
code_two c rest p q = grind (arith, nat_tests)

code_three : (c : ℕ) (rest : List ℕ) → 2048 ≤ c → c < 65536
    → first_code_of ((224 + c / 4096) ∷ (128 + (c / 64) % 64) ∷ (128 + c % 64) ∷ rest) ≡ c
code_three c rest p q = grind (arith, nat_tests)

code_four : (c : ℕ) (rest : List ℕ) → 65536 ≤ c → c < 0x11_0000
    → first_code_of ((240 + c / 262144) ∷ (128 + (c / 4096) % 64) ∷ (128 + (c / 64) % 64) ∷ (128 + c % 64) ∷ rest) ≡ c
code_four c rest p q = grind (arith, nat_tests)

code_encode : (c : ℕ) (rest : List ℕ) → IsScalar c → first_code_of (encode_utf8 c ++ rest) ≡ c
code_encode c rest is = elim (cases_lt c 128) [
  | inl p ↦ subst (λ (bs : List ℕ). first_code_of (bs ++ rest) ≡ c) (sym (one c p)) (grind (arith, nat_tests))
  | inr p ↦ elim (cases_lt c 2048) [
    | inl q ↦ subst (λ (bs : List ℕ). first_code_of (bs ++ rest) ≡ c) (sym (two c p q)) (code_two c rest p q)
    | inr q ↦ elim (cases_lt c 65536) [
      | inl r ↦ subst (λ (bs : List ℕ). first_code_of (bs ++ rest) ≡ c) (sym (three c q r)) (code_three c rest q r)
      | inr r ↦ subst (λ (bs : List ℕ). first_code_of (bs ++ rest) ≡ c) (sym (four c r))
          (code_four c rest r (below c is))
    ]
  ]
]

-- ---- the first character

-- a text begins with a character
pub record BeginsWith (c : ℕ) (text : List ℕ) : Type 0 where
  pub is : IsScalar c
  pub split : text ≡ encode_utf8 c ++ drop (len_utf8 c) text

tested : (b : Bool) (c d : ℕ) → then_some b c ≡ Some d → (b ≡ true) × (c ≡ d)
tested true c d e = (refl, cc)
tested false c d e = cc

single : (c : ℕ) → all_scalars (c ∷ []) ≡ true → IsScalar c
single c e = (and_parts (scalar c) true e).0

pub begins_with : (text : List ℕ) (c : ℕ) → first_char_of text ≡ Some c → BeginsWith c text
unfolding first_char_of
begins_with text c e =
    let code = first_code_of text in
    let told = tested (all_scalars (code ∷ []) && starts_with nat_eq text (encode_utf8 code)) code c e in
    let both = and_parts (all_scalars (code ∷ [])) (starts_with nat_eq text (encode_utf8 code)) told.0 in
    let same : encode_utf8 code ≡ take (length (encode_utf8 code)) text =
    (bytes_eq-Decides (encode_utf8 code) (take (length (encode_utf8 code)) text)).0 both.1 in
    let split : text ≡ encode_utf8 code ++ drop (len_utf8 code) text =
    subst (λ (n : ℕ). text ≡ encode_utf8 code ++ drop n text) (length-encode code)
    (sym (take-append-drop (length (encode_utf8 code)) text)
    ∙ ap (λ bs. bs ++ drop (length (encode_utf8 code)) text) (sym same)) in
    subst (λ d. BeginsWith d text) told.1 (record { is = single code both.0; split = split })

pub first_char_of-code : (text : List ℕ) (c : ℕ) → first_char_of text ≡ Some c → c ≡ first_code_of text
unfolding first_char_of
first_char_of-code text c e =
    let code = first_code_of text in
    sym (tested (all_scalars (code ∷ []) && starts_with nat_eq text (encode_utf8 code)) code c e).1

pub first_char_of-encode : (c : ℕ) (rest : List ℕ) → IsScalar c → first_char_of (encode_utf8 c ++ rest) ≡ Some c
unfolding first_char_of
first_char_of-encode c rest is =
    let bytes = encode_utf8 c in
    let same : starts_with nat_eq (bytes ++ rest) bytes ≡ true =
    (bytes_eq-Decides bytes (take (length bytes) (bytes ++ rest))).1 (sym (take-append_seam bytes rest)) in
    rw (code_encode c rest is) (ap (λ b. then_some b c) (and_from (all_scalars (c ∷ []))
    (starts_with nat_eq (bytes ++ rest) bytes) (and_from (scalar c) true is refl) same))

-- a text begins with a character exactly if one stands there
pub begun : (text : List ℕ) (c : ℕ) → BeginsWith c text → first_char_of text ≡ Some c
begun text c b = ap first_char_of b.split ∙ first_char_of-encode c (drop (len_utf8 c) text) b.is

pub none_begins : (text : List ℕ) → StartsWithNoChar text → first_char_of text ≡ None
none_begins text none = by_answer (first_char_of text) refl
  where
    by_answer : (o : Option ℕ) → first_char_of text ≡ o → first_char_of text ≡ None
    by_answer None e = e
    by_answer (Some c) e =
        let b = begins_with text c e in absurd (none c (drop (len_utf8 c) text) b.is b.split)

-- a byte in a character begins none
pub cont_begins_none : (b : ℕ) (text : List ℕ) → IsCont b → first_char_of (b ∷ text) ≡ None
cont_begins_none b text is = none_begins (b ∷ text) (λ c rest scalar e.
    let s = shape c scalar in
    let first : b ≡ s.lead = ap (λ bs. get_or bs 0 0) (e ∙ ap (λ bs. bs ++ rest) s.is) in
    ⊎_elim (λ low. omega arith) (λ high. omega arith) s.begins)

-- ---- for the decoder

-- a number is converted if it is a character
pub some_char : (o : Option ℕ) (c : ℕ) → IsScalar c → SomeIff o (IsScalar c) c → IsSome o
some_char None c is not = absurd (not is)
some_char (Some d) c is told = refl

not_both : (b d : Bool) (c : ℕ) → (b ≡ true → ⊥) → then_some ((b && true) && d) c ≡ None
not_both true d c not = absurd (not refl)
not_both false d c not = refl

pub no_scalar : (text : List ℕ) → (IsScalar (first_code_of text) → ⊥) → first_char_of text ≡ None
unfolding first_char_of
no_scalar text not =
    let code = first_code_of text in
    not_both (scalar code) (starts_with nat_eq text (encode_utf8 code)) code not

by_test : (b d e : Bool) (c : ℕ) → b ≡ true → d ≡ e → then_some ((b && true) && d) c ≡ then_some e c
by_test true d e c is same = ap (λ t. then_some t c) same
by_test false d e c is same = cc

pub first_char_of-by_code : (text : List ℕ) (c : ℕ) (starts : Bool) → c ≡ first_code_of text → IsScalar c
    → starts ≡ starts_with nat_eq text (encode_utf8 c) → first_char_of text ≡ then_some starts c
unfolding first_char_of
first_char_of-by_code text c starts e is told =
    subst (λ d. then_some ((scalar d && true) && starts_with nat_eq text (encode_utf8 d)) d ≡ then_some starts c) e
    (by_test (scalar c) (starts_with nat_eq text (encode_utf8 c)) starts c is (sym told))
