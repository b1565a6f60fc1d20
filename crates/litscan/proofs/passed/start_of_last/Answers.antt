use Rattle.std.proofs.Common.{◌≡◌, ◌⊎◌, ◌+◌, ◌-◌, ◌<◌, ◌≤◌, [], ℕ, List, ap, arith, drop, get_or, inl, inr, length}
use Rattle.std.proofs.Common.{refl, slice_range, subst, ◌∷◌}
use Rattle.std.proofs.Math.Seq.{drop-length}
use Rattle.std.proofs.lemmas.List.Elements.{All-nil}
use Rattle.litscan.specs.Lines.{HasNoEnd, lines_of}
use Rattle.litscan.proofs.lemmas.Whole.{Makes, ends_behind, ends_front, makes_before, makes_lines}
use Rattle.litscan.proofs.passed.start_of_last.Goals as goal

pub loop-init : goal.loop-init
loop-init c = record {
  back = [];
  makes = record { whole = All-nil (HasNoEnd c.args.line_end); are = drop-length c.args.bytes.now };
  many = refl;
  inside = omega arith;
  feed = c.requires.whole;
}

-- a place with fewer lines behind it is not the front
inside : (line_end : ℕ) (bytes : List ℕ) (at count : ℕ) (back : List (List ℕ)) → Makes line_end (drop at bytes) back
    → length back < count → count ≤ length (lines_of line_end bytes)
    → (at ≡ 0) ⊎ ((0 < at) × (get_or bytes (at - 1) 0 ≡ line_end))
    → (0 < at) × (get_or bytes (at - 1) 0 ≡ line_end)
inside line_end bytes at count back makes few many (inl zero) =
    let all = makes_lines line_end (subst (λ n. Makes line_end (drop n bytes) back) zero makes) in
    absurd (omega (arith, few, many, ap (λ (l : List (List ℕ)). length l) all))
inside line_end bytes at count back makes few many (inr behind) = behind

pub overflow_sub-start : goal.overflow_sub-start
overflow_sub-start c =
    let so_far = c.loop.invariant in
    omega (
      arith,
      (inside c.args.line_end c.args.bytes.now c.loop.start c.args.count so_far.back so_far.makes
          (omega (arith, so_far.many, c.loop-test.true)) c.requires.enough so_far.feed).0,
    )

pub loop-preserved : goal.loop-preserved
loop-preserved c =
    let so_far = c.loop.invariant in
    let new = c.end_of_lines-start in
    let bytes = c.args.bytes.now in
    let line_end = c.args.line_end in
    let behind = inside line_end bytes c.loop.start c.args.count so_far.back so_far.makes
    (omega (arith, so_far.many, c.loop-test.true)) c.requires.enough so_far.feed in
    let place : c.loop.start ≡ c.loop.start - 1 + 1 = omega (arith, behind.0) in
    record {
      back = slice_range bytes new.result (c.loop.start - 1) ∷ so_far.back;
      makes = makes_before line_end bytes new.result (c.loop.start - 1) so_far.back new.ensures.before
          (omega (arith, behind.0, so_far.inside)) new.ensures.last behind.1
          (subst (λ n. Makes line_end (drop n bytes) so_far.back) place so_far.makes);
      many = omega (arith, so_far.many);
      inside = omega (arith, new.ensures.before, so_far.inside);
      feed = new.ensures.feed;
    }

pub returns-clause-front : goal.returns-clause-front
returns-clause-front c =
    ends_front c.args.line_end c.args.bytes.now c.loop.start c.loop.invariant.inside c.loop.invariant.feed

pub returns-clause-last : goal.returns-clause-last
returns-clause-last c = ends_behind c.args.line_end c.args.bytes.now c.loop.start c.requires.whole

pub returns-clause-count : goal.returns-clause-count
returns-clause-count c =
    let so_far = c.loop.invariant in
    let lines = makes_lines c.args.line_end so_far.makes in
    omega (arith, ap (λ (l : List (List ℕ)). length l) lines, so_far.many, c.loop-test.false, c.loop.auto.counter-end)
