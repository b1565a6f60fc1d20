-- Where a pattern that passes begins, four bytes share a bucket.
use Rattle.std.proofs.Common.{◌≡◌, ℕ, ◌+◌, ◌<◌, ◌≤◌, ◌∙◌, true, List, length, get_or, take}
use Rattle.std.proofs.Common.{sym, subst, arith, inl, inr, [], ◌∷◌, map}
use Rattle.std.proofs.lemmas.Bool.{cases_lt}
use Rattle.std.proofs.lemmas.List.{get_or-map, get_or-take, get_or_default, length-map}
use Rattle.std.specs.Global.{Vec}
use Rattle.std.specs.List.{All}
use Rattle.literal_base.specs.declared.search.Span.{Span}
use Rattle.literal_base.specs.Occurs.{IsValidSpan, pattern_at, same_byte}
use Rattle.literal_base.proofs.lemmas.Callers.{bytes_at}
use Rattle.literal_fingerprints.specs.FingerprintsValue.{FingerprintsValue, NoneBegins, shared_buckets}

-- where four bytes before the end of a span share no bucket, no pattern begins that lies in the span
pub none_begins : (f : FingerprintsValue) (haystack : List ℕ) (span : Span) → IsValidSpan haystack span → (place : ℕ)
    → ((at : ℕ) → span.start ≤ at → at < place
    → shared_buckets f (λ k. get_or (take span.end haystack) (at + k) 0) ≡ 0)
    → NoneBegins f haystack span place
none_begins f haystack span valid place none patterns ignore_case all i at before occurs =
    let p = pattern_at patterns i in
    let inside = occurs.before_end in
    (all i [] occurs.is_pattern).each (λ k. get_or (take span.end haystack) (at + k) 0)
    (λ k below. subst (λ b. same_byte ignore_case b (get_or p k 0) ≡ true)
    (sym (get_or-take span.end haystack (at + k) 0 (omega arith)))
    (bytes_at patterns ignore_case haystack span valid i at occurs k below)) (none at occurs.after_start before)

module _ (P : List ℕ → Type 0) (patterns : List (Vec ℕ)) where
  -- what holds of the first patterns holds of one more
  pub one_more : (n : ℕ) (here : Vec ℕ) → ((k : ℕ) (d : Vec ℕ) → k < n → P (get_or patterns k d).items)
      → n < length patterns → here ≡ get_or patterns n here → P here.items
      → (k : ℕ) (d : Vec ℕ) → k < n + 1 → P (get_or patterns k d).items
  one_more n here before below is holds k d within = elim (cases_lt k n) [
    | inl earlier ↦ before k d earlier
    | inr not ↦
        let same : n ≡ k = omega arith in
        subst (λ j. P (get_or patterns j d).items) same
        (subst (λ (v : Vec ℕ). P v.items) (is ∙ get_or_default patterns n here d below) holds)
  ]

  -- and of all in the end
  pub of_all : ((k : ℕ) (d : Vec ℕ) → k < length patterns → P (get_or patterns k d).items)
      → All P (map (λ (p : Vec ℕ). p.items) patterns)
  of_all each k d below =
      let inside : k < length patterns = omega (arith, length-map patterns (λ (p : Vec ℕ). p.items)) in
      subst P (sym (get_or-map (λ (p : Vec ℕ). p.items) patterns k (element patterns k inside) d inside))
      (each k (element patterns k inside) inside)
    where
      element : (vs : List (Vec ℕ)) (k : ℕ) → k < length vs → Vec ℕ
      element [] k below = absurd (omega arith)
      element (v ∷ rest) k below = v
