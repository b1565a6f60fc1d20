-- Lists of the patterns that are a suffix of one, one list behind another.
use Rattle.std.proofs.Common.{◌≡◌, ℕ, ◌+◌, ◌-◌, ◌<◌, ◌≤◌, List, [], ◌∷◌, ◌++◌, length, get_or, Some, inl, inr}
use Rattle.std.proofs.Common.{length-append, sym, ap, subst, ◌∙◌, arith}
use Rattle.std.proofs.Math.Seq.{get_or-append_right, get_or-append_seam}
use Rattle.std.proofs.lemmas.Bool.{cases_lt}
use Rattle.std.proofs.lemmas.List.{get_or_append_left}
use Rattle.literal_base.specs.Occurs.{pattern_at}
use Rattle.literal_rows.specs.Inside.Suffixes.{AreSuffixes, IsSuffix}
use Rattle.literal_rows.specs.Inside.Lists.{AreLists, symbols_of}
use Rattle.literal_rows.specs.Words.{ending}
use Rattle.literal_rows.proofs.suffixes.Recognised.lists.Goals as goal

module _ (patterns : List (List ℕ)) where
  -- the same numbers in another list
  ends_moved : (text : List ℕ) (from : ℕ) (list other : List ℕ) (begin end at first last : ℕ)
      → first ≡ at + begin → last ≡ at + end
      → ((k : ℕ) → begin ≤ k → k < end → get_or other (at + k) 0 ≡ get_or list k 0)
      → AreSuffixes patterns text from list begin end → AreSuffixes patterns text from other first last
  ends_moved text from list other begin end at first last first_is last_is same are =
      record {
        ascends = λ j k after before inside.
            let j_at : at + (j - at) ≡ j = omega arith in
            let k_at : at + (k - at) ≡ k = omega arith in
            let less = are.ascends (j - at) (k - at) (omega arith) (omega arith) (omega arith) in
            omega (arith, ap (λ n. get_or other n 0) j_at, ap (λ n. get_or other n 0) k_at);
        each = λ k after inside.
            let is = same (k - at) (omega arith) (omega arith) in
            let index_is : at + (k - at) ≡ k = omega arith in
            let read : get_or list (k - at) 0 ≡ get_or other k 0 = sym is ∙ ap (λ n. get_or other n 0) index_is in
            subst (λ n. IsSuffix patterns text n × (from ≤ n)) read (are.each (k - at) (omega arith) (omega arith));
        every = grind arith;
      }

  -- where lists begin, with one more
  abbrev started : List ℕ → List ℕ → List ℕ → List ℕ
  started ends starts list = starts ++ length (ends ++ list) ∷ []

  -- one list more
  lists_more : (ends starts list : List ℕ) (count : ℕ) → AreLists patterns ends starts count
      → (ending patterns (pattern_at patterns count) ≡ Some count
      → AreSuffixes patterns (pattern_at patterns count) 0 list 0 (length list))
      → (¬ (ending patterns (pattern_at patterns count) ≡ Some count) → list ≡ [])
      → AreLists patterns (ends ++ list) (starts ++ length (ends ++ list) ∷ []) (count + 1)
  lists_more ends starts list count are here none =
      record {
        long = omega (arith, length-append starts (length (ends ++ list) ∷ []));
        ordered = λ i below.
            let split = cases_lt i count in
            let now = old i in
            let next = old (i + 1) in
            let before = are.ordered i in
            let len = size in
            let end = last in
            grind arith;
        inside = λ i below.
            let split = cases_lt i (count + 1) in
            let now = old i in
            let before = are.inside i in
            let len = size in
            let end = last in
            grind arith;
        last = last;
        each = λ i below first. elim (cases_lt i count) [
          | inl before ↦
              let start = old i (omega arith) in
              let stop = old (i + 1) (omega arith) in
              let within = are.inside (i + 1) (omega arith) in
              subst (λ n. AreSuffixes patterns (pattern_at patterns i) 0 (ends ++ list) n
              (get_or (started ends starts list) (i + 1) 0)) (sym start)
              (subst (λ n. AreSuffixes patterns (pattern_at patterns i) 0 (ends ++ list) (get_or starts i 0) n)
              (sym stop)
              (ends_moved (pattern_at patterns i) 0 ends (ends ++ list) (get_or starts i 0) (get_or starts (i + 1) 0) 0
              (get_or starts i 0) (get_or starts (i + 1) 0) (omega arith) (omega arith)
              (λ k after inside.
              let index_is : 0 + k ≡ k = omega arith in
              ap (λ n. get_or (ends ++ list) n 0) index_is ∙ get_or_append_left ends list 0 k (omega arith))
              (are.each i before first)))
          | inr past ↦
              let is : count ≡ i = omega arith in
              subst (λ n. AreSuffixes patterns (pattern_at patterns n) 0 (ends ++ list)
              (get_or (started ends starts list) n 0)
              (get_or (started ends starts list) (n + 1) 0)) is
              (added (subst (λ n. ending patterns (pattern_at patterns n) ≡ Some n) (sym is) first))
        ];
        others = λ i below other.
            let split = cases_lt i count in
            let now = old i in
            let next = old (i + 1) in
            let before = are.others i in
            let len = size in
            let end = last in
            grind arith;
      }
    where
      size : length (ends ++ list) ≡ length ends + length list
      size = length-append ends list

      old : (i : ℕ) → i < count + 1 → get_or (started ends starts list) i 0 ≡ get_or starts i 0
      old i below = get_or_append_left starts (length (ends ++ list) ∷ []) 0 i (omega (arith, are.long))

      last : get_or (started ends starts list) (count + 1) 0 ≡ length (ends ++ list)
      last = ap (λ n. get_or (started ends starts list) n 0) (sym are.long) ∙ get_or-append_seam starts (length (ends
          ++ list)) [] 0

      added : ending patterns (pattern_at patterns count) ≡ Some count
          → AreSuffixes patterns (pattern_at patterns count) 0 (ends ++ list)
          (get_or (started ends starts list) count 0)
          (get_or (started ends starts list) (count + 1) 0)
      added first =
          ends_moved (pattern_at patterns count) 0 list (ends ++ list) 0 (length list) (length ends)
          (get_or (started ends starts list) count 0) (get_or (started ends starts list) (count + 1) 0)
          (omega (arith, old count (omega arith), are.last)) (omega (arith, last, size))
          (grind (arith, get_or-append_right))
          (here first)

pub loop-pattern-preserved : goal.loop-pattern-preserved
loop-pattern-preserved c =
    let texts = symbols_of c.args.self.now in
    let ends = c.loop-pattern.lists.ends.items in
    let starts = c.loop-pattern.lists.starts.items in
    let list = c.in_ok-list.list.items in
    let count = c.loop-pattern.pattern in
    let ends_are : c.push.new.self.ends.items ≡ ends ++ list = grind arith in
    let starts_are : c.push.new.self.starts.items ≡ starts ++ length (ends ++ list) ∷ [] = grind arith in
    subst (λ (l : List ℕ). AreLists texts l c.push.new.self.starts.items (count + 1)) (sym ends_are)
    (subst (λ (l : List ℕ). AreLists texts (ends ++ list) l (count + 1)) (sym starts_are)
    (lists_more texts ends starts list count c.loop-pattern.invariant c.in_ok-list.ensures.ends
    c.in_ok-list.ensures.none))
