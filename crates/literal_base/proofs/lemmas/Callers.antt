-- What is known of lists with a value for each byte, of marks and classes, of each byte that a `for` takes of a class,
-- of what was given as a slice, an array or a vector, and of what occurs.
-- For callers: their proofs cite this file, and no other of this crate's proofs.
use Rattle.std.proofs.Common.{◌≡◌, ◌==◌, ℕ, ◌+◌, ◌-◌, ◌<◌, ◌≤◌, ◌||◌, ◌↔◌, Bool, true, false, List, [], ◌∷◌, ◌++◌}
use Rattle.std.proofs.Common.{length, get_or, slice_index, take, zero, suc, cond, sym, refl, ap, subst, ⊎_elim, ◌∙◌}
use Rattle.std.proofs.Common.{arith, drop, inl}
use Rattle.std.proofs.Common.{◌^◌, Option}
use Rattle.std.specs.Array.Iter.{array_into_iter_items, array_steps, array_steps_back}
use Rattle.std.specs.declared.array.IntoIter.{IntoIter}
use Rattle.std.specs.declared.iter.Copied.{Copied}
use Rattle.std.specs.declared.slice.Iter.{Iter}
use Rattle.std.specs.declared.vec.IntoIter.{IntoIter as VecIntoIter}
use Rattle.std.specs.declared.vec.Vec.{Vec}
use Rattle.std.specs.Iterator.{Drains}
use Rattle.std.specs.Iterator.Adapters.{copied_source, copied_steps}
use Rattle.std.specs.Iterator.Runs.{EveryRun, ItemsAre, ItemsAreReversed}
use Rattle.std.specs.List.{All, list_any}
use Rattle.std.specs.Slice.Iter.{iter_rest, iter_steps}
use Rattle.std.specs.Vec.Iter.{into_iter_items, into_iter_len, into_iter_steps}
use Rattle.std.specs.Prelude.{count_by, replicate}
use Rattle.std.proofs.lemmas.Bool.{cases_Bool, cases_lt, both_ways, eqb-true}
use Rattle.std.proofs.lemmas.Bool.Decides.{nat_tests}
use Rattle.std.proofs.lemmas.Iterator.{YieldsList, YieldsList-from_slice, items_from_drains}
use Rattle.std.proofs.lemmas.Iterator.Adapters.{YieldsList-from_vec}
use Rattle.std.proofs.lemmas.Iterator.Consumers.{YieldsList-from_copied, YieldsList-from_shown}
use Rattle.std.proofs.lemmas.List.{get_or-replicate, length-replicate, get_or_past, length-append, map-id}
use Rattle.std.proofs.lemmas.List.Elements.{filter_passes}
use Rattle.std.proofs.lemmas.List.Folds.{list_any-append, list_any_at, list_any_none}
use Rattle.std.proofs.lemmas.List.FromFn.{length-map-range_with_len, get_or-map-range_with_len, fill_by_all}
use Rattle.std.proofs.lemmas.List.Sums.{count_by_more_no, count_by_more_yes, sum_by-take-le}
use Rattle.std.proofs.Math.Seq.{get_or-append_seam}
use Rattle.literal_base.specs.Bytes.{all_bytes, by_byte, contains}
use Rattle.literal_base.specs.Classes.{NonePart, alphabet_len_of, class_of, elements_of, holds, is_marked_by, marks_of}
use Rattle.literal_base.specs.Classes.{with_range_marked}
use Rattle.std.specs.Char.{to_ascii_lowercase}
use Rattle.std.specs.List.{slice_range}
use Rattle.std.proofs.lemmas.Bool.{eq-eqb}
use Rattle.std.proofs.lemmas.List.{get_or-drop, get_or-map, get_or-take, length-drop, length-map, length-take}
use Rattle.literal_base.specs.declared.packed.MatchKind.TheVariants.{LeftmostLongest}
use Rattle.literal_base.specs.declared.search.Span.{Span}
use Rattle.literal_base.specs.Leftmost.{IsBetter, IsLeftmostMatch}
use Rattle.literal_base.specs.MatchValue.{MatchValue}
use Rattle.literal_base.specs.Occurs.{AreEqualBytes, IsValidSpan, Occurs, StandsAt, pattern_at, same_byte}
use Rattle.literal_base.specs.Query.{Query}

-- a list with a value for each byte has 256 of them, and at a byte its value
pub length-by_byte : {X : Type 0} (f : ℕ → X) → length (by_byte f) ≡ 256
unfolding by_byte
length-by_byte f = length-map-range_with_len f 0 256

pub get_or-by_byte : {X : Type 0} (f : ℕ → X) (b : ℕ) (d : X) → b < 256 → get_or (by_byte f) b d ≡ f b
unfolding by_byte
get_or-by_byte f b d below = get_or-map-range_with_len f 0 256 b b d below (omega arith)

-- a list of 256 with these values is that list
pub by_byte_is : {X : Type 0} (f : ℕ → X) (xs : List X) (d : X) → length xs ≡ 256
    → ((k : ℕ) → k < 256 → get_or xs k d ≡ f k) → xs ≡ by_byte f
unfolding by_byte
by_byte_is f xs d whole each = fill_by_all f xs 256 d whole each

-- one value for every byte
pub replicate_is : {X : Type 0} (x : X) (n : ℕ) → n ≡ 256 → replicate n x ≡ by_byte (λ _. x)
replicate_is x n e =
    by_byte_is (λ _. x) (replicate n x) x (length-replicate n x ∙ e) (λ k below. get_or-replicate n k x x (omega arith))

-- the same value at every place, also past the end
pub get_or-by_byte_same : {X : Type 0} (x : X) (b : ℕ) → get_or (by_byte (λ _. x)) b x ≡ x
get_or-by_byte_same x b =
    ⊎_elim (λ below. get_or-by_byte (λ _. x) b x below)
    (λ past. get_or_past (by_byte (λ _. x)) b x (omega (arith, length-by_byte (λ (_ : ℕ). x)))) (cases_lt b 256)

-- the values of bytes alone tell the list
pub by_byte_agree : {X : Type 0} (f g : ℕ → X) → ((b : ℕ) → b < 256 → f b ≡ g b) → by_byte f ≡ by_byte g
by_byte_agree f g same =
    by_byte_is g (by_byte f) (f 0) (length-by_byte f) (λ k below. get_or-by_byte f k (f 0) below ∙ same k below)

-- the same of any list of one value
pub get_or-replicate_same : {X : Type 0} (n : ℕ) (x : X) (b : ℕ) → get_or (replicate n x) b x ≡ x
get_or-replicate_same n x b =
    ⊎_elim (λ below. get_or-replicate n b x x below)
    (λ past. get_or_past (replicate n x) b x (omega (arith, length-replicate n x))) (cases_lt b n)

or_false : (a : Bool) → a ≡ (a || false)
or_false true = refl
or_false false = refl

-- the marks of one range more
pub marks_of-push : (ranges : List (ℕ × ℕ)) (start end : ℕ)
    → marks_of (ranges ++ (start, end) ∷ []) ≡ with_range_marked (marks_of ranges) start end
marks_of-push ranges start end = by_byte_agree _ _ (λ b below.
    list_any-append (λ range. is_marked_by range b) ranges ((start, end) ∷ [])
    ∙ (ap (λ t. list_any (λ range. is_marked_by range b) ranges || t)
    (sym (or_false (is_marked_by (start, end) b)))
    ∙ ap (λ t. t || is_marked_by (start, end) b)
    (sym (get_or-by_byte (λ b. list_any (λ range. is_marked_by range b) ranges) b false below))))

marked_parts : (first last b : ℕ) → first ≤ last → is_marked_by (first, last) b ≡ false
    → holds (first, last) b ≡ holds (first, last) (b + 1)
marked_parts first last b ordered unmarked = grind (arith, nat_tests)

parts_marked : (first last b : ℕ) → first ≤ last → holds (first, last) b ≡ holds (first, last) (b + 1)
    → is_marked_by (first, last) b ≡ false
parts_marked first last b ordered same = grind (arith, nat_tests)

-- a byte tells itself from the next exactly if it is marked
class_of-more : (marked : List Bool) (b : ℕ) → length marked ≡ 256 → b < 256
    → (class_of marked b ≡ class_of marked (b + 1)) ↔ (contains marked b ≡ false)
class_of-more marked b whole below = (
  λ same. ⊎_elim
      (λ here. let more = count_by_more_yes (λ m. m) marked b false (omega arith) here in absurd (omega arith))
      (λ none. none)
      (cases_Bool (contains marked b)),
  λ none. sym (count_by_more_no (λ m. m) marked b false (omega arith) none),
)

none_marks : (ranges : List (ℕ × ℕ)) (b : ℕ) → All (λ range. range.0 ≤ range.1) ranges
    → list_any (λ range. is_marked_by range b) ranges ≡ false → NonePart ranges b
none_marks ranges b ordered none k d below =
    let range = get_or ranges k d in
    marked_parts range.0 range.1 b (ordered k d below) (⊎_elim
    (λ one. absurd (both_ways (list_any (λ range. is_marked_by range b) ranges) none
    (list_any_at (λ range. is_marked_by range b) ranges k d below one)))
    (λ not. not)
    (cases_Bool (is_marked_by range b)))

none_part : (ranges : List (ℕ × ℕ)) (b : ℕ) → All (λ range. range.0 ≤ range.1) ranges → NonePart ranges b
    → list_any (λ range. is_marked_by range b) ranges ≡ false
none_part ranges b ordered none =
    list_any_none (λ range. is_marked_by range b) ranges (λ k d below.
    let range = get_or ranges k d in
    parts_marked range.0 range.1 b (ordered k d below) (none k d below))

-- neighbouring bytes share a class exactly if no range holds just one of them
pub share_a_class : (ranges : List (ℕ × ℕ)) (b : ℕ) → All (λ range. range.0 ≤ range.1) ranges → b < 255
    → (class_of (marks_of ranges) b ≡ class_of (marks_of ranges) (b + 1)) ↔ NonePart ranges b
share_a_class ranges b ordered below =
    let is : contains (marks_of ranges) b ≡ list_any (λ range. is_marked_by range b) ranges = get_or-by_byte
    (λ b. list_any (λ range. is_marked_by range b) ranges) b false (omega arith) in
    let told = class_of-more (marks_of ranges) b (length-by_byte (λ b. list_any (λ range. is_marked_by range b) ranges))
    (omega arith) in (
      λ same. none_marks ranges b ordered (sym is ∙ told.0 same),
      λ none. told.1 (is ∙ none_part ranges b ordered none),
    )

take_of_take : (b c : ℕ) (marked : List Bool) → b ≤ c → take b (take c marked) ≡ take b marked
take_of_take zero c marked ordered = refl
take_of_take (suc b) zero marked ordered = absurd (omega arith)
take_of_take (suc b) (suc c) [] ordered = refl
take_of_take (suc b) (suc c) (m ∷ more) ordered = ap (λ ms. m ∷ ms) (take_of_take b c more (omega arith))

-- a later byte has no smaller class
class_of-le : (marked : List Bool) (b c : ℕ) → b ≤ c → class_of marked b ≤ class_of marked c
class_of-le marked b c ordered =
    subst (λ ms. count_by (λ m. m) ms ≤ class_of marked c) (take_of_take b c marked ordered)
    (sum_by-take-le (λ m. cond m 1 0) (take c marked) b)

same_ranges_up : (ranges : List (ℕ × ℕ)) (b n : ℕ) → All (λ range. range.0 ≤ range.1) ranges → b + n < 256
    → class_of (marks_of ranges) b ≡ class_of (marks_of ranges) (b + n)
    → All (λ range. holds range b ≡ holds range (b + n)) ranges
same_ranges_up ranges b zero ordered below same k d inside =
    let e : b ≡ b + 0 = omega arith in ap (holds (get_or ranges k d)) e
same_ranges_up ranges b (suc n) ordered below same k d inside =
    let marked = marks_of ranges in
    let e : b + n + 1 ≡ b + suc n = omega arith in
    let here : class_of marked (b + n + 1) ≡ class_of marked (b + suc n) = ap (class_of marked) e in
    let first : class_of marked b ≤ class_of marked (b + n) = class_of-le marked b (b + n) (omega arith) in
    let last : class_of marked (b + n) ≤ class_of marked (b + n + 1) =
    class_of-le marked (b + n) (b + n + 1) (omega arith) in
    same_ranges_up ranges b n ordered (omega arith) (omega arith) k d inside
    ∙ ((share_a_class ranges (b + n) ordered (omega arith)).0 (omega arith) k d inside
    ∙ ap (holds (get_or ranges k d)) e)

-- bytes of one class are in the same ranges
pub same_ranges : (ranges : List (ℕ × ℕ)) (b c : ℕ) → All (λ range. range.0 ≤ range.1) ranges → b < 256 → c < 256
    → class_of (marks_of ranges) b ≡ class_of (marks_of ranges) c → All (λ range. holds range b ≡ holds range c) ranges
same_ranges ranges b c ordered below_b below_c same =
    ⊎_elim
    (λ less.
    let e : b + (c - b) ≡ c = omega arith in
    subst (λ k. All (λ range. holds range b ≡ holds range k) ranges) e
    (same_ranges_up ranges b (c - b) ordered (omega arith) (same ∙ sym (ap (class_of (marks_of ranges)) e))))
    (λ more k d inside.
    let e : c + (b - c) ≡ b = omega arith in
    sym (subst (λ n. All (λ range. holds range c ≡ holds range n) ranges) e
    (same_ranges_up ranges c (b - c) ordered (omega arith) (sym same ∙ sym (ap (class_of (marks_of ranges)) e)))
    k d inside))
    (cases_lt b c)

-- a byte's class is below the number of classes: byte 255 has the greatest
pub class_below_len : (marked : List Bool) (b : ℕ) → b < 256
    → slice_index (by_byte (class_of marked)) b < alphabet_len_of (by_byte (class_of marked))
class_below_len marked b below =
    omega (
      arith,
      get_or-by_byte (class_of marked) b 0 below,
      get_or-by_byte (class_of marked) 255 0 (omega arith),
      class_of-le marked b 255 (omega arith),
    )

-- Of the bytes of a class some were taken, and of the rest the next one is given: it has that class.
pub element_has_class : (classes : List ℕ) (class : ℕ) (taken rest : List ℕ) (byte : ℕ) (left : List ℕ)
    → taken ++ rest ≡ elements_of classes class → rest ≡ byte ∷ left → slice_index classes byte ≡ class
element_has_class classes class taken rest byte left split next =
    let whole : taken ++ byte ∷ left ≡ elements_of classes class = ap (λ more. taken ++ more) (sym next) ∙ split in
    let within : length taken < length (elements_of classes class) = omega (
      arith,
      ap length whole,
      length-append taken (byte ∷ left),
    ) in
    let here : get_or (elements_of classes class) (length taken) 0 ≡ byte = sym
    (ap (λ bytes. get_or bytes (length taken) 0) whole) ∙ get_or-append_seam taken byte left 0 in
    eqb-true (slice_index classes byte) class
    (subst (λ b. (slice_index classes b == class) ≡ true) here
    (filter_passes (λ b. slice_index classes b == class) all_bytes (length taken) 0 within))

-- whichever iterator the given value becomes, that gives this list and ends
pub record GivesList {U T A : Type 0} (becomes : U → T → Type 0) (steps : T → Option A → T → Type 0) (given : U)
    (list : List A) : Type 0 where
  pub each : (it : T) → becomes given it → YieldsList steps (λ x. x) it list

-- `list.iter().copied()` gives the slice's list: what `copied` and `iter` ensure says of which list it is
pub slice_gives : {A : Type 0} {given : Copied (Iter A)} (list : List A) → iter_rest (copied_source given) ≡ list
    → GivesList (λ s r. r ≡ s) (copied_steps (iter_steps {A = A})) given list
slice_gives list is = record {
  each = λ it same.
      YieldsList-from_copied {s = it} (YieldsList-from_slice {s = copied_source it} list
      (ap (λ i. iter_rest (copied_source i)) same ∙ is));
}

-- an array by value gives its list
pub array_gives : {A : Type 0} {n : ℕ} (list : List A)
    → GivesList
    (λ (xs : List A) (r : IntoIter A n). (array_into_iter_items r ≡ xs) × (length (array_into_iter_items r) ≡ n)
    × EveryRun (array_steps {A = A} {n = n}) (λ p. ItemsAre p (array_into_iter_items p.from))
    × EveryRun (array_steps_back {A = A} {n = n}) (λ p. ItemsAreReversed p (array_into_iter_items p.from)))
    (array_steps {A = A} {n = n}) list list
array_gives {A} {n} list = record {
  each = λ it becomes.
      subst (YieldsList (array_steps {A = A} {n = n}) (λ x. x) it) becomes.0
      (YieldsList-from_shown (array_steps {A = A} {n = n}) (λ x. x) array_into_iter_items (λ s t h. h.0)
      (λ s x t h. h) it);
}

-- a vector by value gives its list
pub vec_gives : {A Z : Type 0} (vec : Vec A Z)
    → GivesList
    (λ (v : Vec A Z) (r : VecIntoIter A Z). (into_iter_items r ≡ v.items) × (into_iter_len r ≡ v.len)
    × (into_iter_len r < 2 ^ 64)
    × EveryRun (into_iter_steps {X = A} {Z = Z}) (λ p. ItemsAre p (into_iter_items p.from)))
    (into_iter_steps {X = A} {Z = Z}) vec vec.items
vec_gives vec = record { each = λ it becomes. YieldsList-from_vec vec.items becomes.0 (becomes.1 ∙ vec.ok.0) }

-- What a call says of all items of an iterator it says of the list that is given, as by `array_gives`.
module _ {U T A : Type 0} {becomes : U → T → Type 0} {steps : T → Option A → T → Type 0} {given : U} {list : List A}
    (gives : GivesList becomes steps given list) where
  -- the items are the list
  pub items_are : (it : T) (items : List A) → becomes given it → Drains steps it items → items ≡ list
  items_are it items is_iterator drains =
      sym (map-id items)
      ∙ items_from_drains items (drains.1.0, drains.1.1, λ _. (drains.0, drains.1.2)) (gives.each it is_iterator)

same_at : (c : Bool) (a b : List ℕ) → AreEqualBytes c a b → (k : ℕ) → k < length a
    → same_byte c (get_or a k 0) (get_or b k 0) ≡ true
same_at true a b s k below =
    let long = ap (λ (l : List ℕ). length l) s in
    eq-eqb _ _ (sym (get_or-map to_ascii_lowercase a k 0 0 below)
    ∙ (ap (λ l. get_or l k 0) s ∙ get_or-map to_ascii_lowercase b k 0 0
    (omega (arith, length-map a to_ascii_lowercase, length-map b to_ascii_lowercase))))
same_at false a b s k below = eq-eqb _ _ (ap (λ l. get_or l k 0) s)

-- the bytes where a pattern occurs are those of the pattern
pub bytes_at : (patterns : List (List ℕ)) (ignore_case : Bool) (haystack : List ℕ) (span : Span)
    → IsValidSpan haystack span → (i at : ℕ) → Occurs patterns ignore_case haystack span i at
    → (k : ℕ) → k < length (pattern_at patterns i)
    → same_byte ignore_case (get_or haystack (at + k) 0) (get_or (pattern_at patterns i) k 0) ≡ true
bytes_at patterns ignore_case haystack span valid i at occurs k below =
    let p = pattern_at patterns i in
    let part = slice_range haystack at (at + length p) in
    let inside = valid.in_haystack in
    let before = occurs.before_end in
    let long : length part ≡ length p =
    omega (arith, length-take (at + length p - at) (drop at haystack), length-drop at haystack) in
    let is : get_or part k 0 ≡ get_or haystack (at + k) 0 =
    get_or-take (at + length p - at) (drop at haystack) k 0 (omega arith) ∙ get_or-drop at haystack k 0 in
    subst (λ b. same_byte ignore_case b (get_or p k 0) ≡ true) is
    (same_at ignore_case part p occurs.same k (omega arith))

-- with case kept they are the same
pub bytes_are : (patterns : List (List ℕ)) (haystack : List ℕ) (span : Span) → IsValidSpan haystack span → (i at : ℕ)
    → Occurs patterns false haystack span i at → (k : ℕ) → k < length (pattern_at patterns i)
    → get_or haystack (at + k) 0 ≡ get_or (pattern_at patterns i) k 0
bytes_are patterns haystack span valid i at occurs k below =
    eqb-true _ _ (bytes_at patterns false haystack span valid i at occurs k below)

-- what occurs in a span stands in the haystack
pub stands : (patterns : List (List ℕ)) (ignore_case : Bool) (haystack : List ℕ) (span : Span)
    → IsValidSpan haystack span → (i at : ℕ) → Occurs patterns ignore_case haystack span i at
    → StandsAt ignore_case (pattern_at patterns i) haystack at
stands patterns ignore_case haystack span valid i at occurs =
    record { fits = omega (arith, valid.in_haystack, occurs.before_end); same = occurs.same }

-- a pattern that stands in the haystack occurs in each span that contains it
pub occurs_in : (patterns : List (List ℕ)) (ignore_case : Bool) (haystack : List ℕ) (span : Span) (i at : ℕ)
    → i < length patterns → span.start ≤ at → at + length (pattern_at patterns i) ≤ span.end
    → StandsAt ignore_case (pattern_at patterns i) haystack at → Occurs patterns ignore_case haystack span i at
occurs_in patterns ignore_case haystack span i at below after before there =
    record { is_pattern = below; after_start = after; before_end = before; same = there.same }

-- if the longest pattern is preferred, none is longer that occurs where the match begins
pub none_longer : (query : Query) (ignore_case : Bool) (haystack : List ℕ) (span : Span) (found : MatchValue)
    → query.kind ≡ LeftmostLongest → IsLeftmostMatch query ignore_case haystack span found → (i : ℕ)
    → Occurs query.patterns ignore_case haystack span i found.start
    → found.start + length (pattern_at query.patterns i) ≤ found.end
none_longer query ignore_case haystack span found kind leftmost i occurs =
    let p = found.pattern in
    ⊎_elim
    (λ longer. absurd (leftmost.best i
    (subst (λ k. IsBetter k query.patterns i p) (sym kind) (inl longer)) occurs))
    (λ not. omega (arith, leftmost.whole))
    (cases_lt (length (pattern_at query.patterns p)) (length (pattern_at query.patterns i)))
