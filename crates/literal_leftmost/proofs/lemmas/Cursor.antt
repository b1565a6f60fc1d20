-- The bytes that an iteration looks up, by its state.
use Rattle.std.proofs.Common.{Err, IfOk, Ok, Result, ◌≡◌, ◌+◌, ◌-◌, ◌≤◌, ℕ, arith, ◌∙◌, ap}
use Rattle.literal_base.specs.Counts.{Counts}
use Rattle.literal_base.specs.Occurs.{between}
use Rattle.literal_base.specs.declared.search.Span.{Span}
use Rattle.literal_leftmost.specs.Inside.Backward.{IsPlaced}
use Rattle.literal_leftmost.specs.Inside.Cursor.{FitsIn, IsIn, looked_far, looked_short}
use Rattle.literal_leftmost.specs.declared.cursor.Room.{Room}
use Rattle.literal_leftmost.specs.declared.cursor.Room.TheVariants.{Block, Trailed}
use Rattle.literal_leftmost.specs.Inside.Trail.{IsFar, led_to, paid_by}
use Rattle.literal_leftmost.specs.LookUps.{LookUps, LooksOn, ScansNext, ScansRest, no_look_ups}
use Rattle.literal_leftmost.specs.SearchValue.{ScansThrice}
use Rattle.literal_leftmost.specs.declared.backward.Marks.{Marks}
use Rattle.literal_leftmost.specs.declared.trail.Trail.{Trail}
use Rattle.literal_leftmost.proofs.lemmas.Passes.{paid_and_marked, paid_from, paid_on, thrice}

-- facts of a value, if there is one, give another
pub ok_on : {T E : Type 0} (P Q : T → Type 0) (r : Result T E) → ((x : T) → P x → Q x) → IfOk r P → IfOk r Q
ok_on P Q (Ok x) on p = on x p
ok_on P Q (Err e) on p = tt

pub ok_both : {T E : Type 0} (P Q : T → Type 0) (r : Result T E) → IfOk r P → IfOk r Q → IfOk r (λ x. P x × Q x)
ok_both P Q (Ok x) p q = (p, q)
ok_both P Q (Err e) p q = tt

module _ (longest : ℕ) (span : Span) where
  -- by marks alone
  pub short_looks : (at next : ℕ) (m new : Marks) → IsPlaced longest span at m → IsPlaced longest span next new
      → m.known ≤ new.known → LooksOn longest span next (looked_short longest span m) (looked_short longest span new)
  short_looks at next m new before after further = record {
    least_grows = omega (arith, before.known_after, further);
    most_grows = omega (arith, further);
    looked = omega (arith, after.looked, after.known_after, after.known_inside);
    inside = omega (arith, after.known_inside);
    few = omega (arith, after.known_inside, thrice longest (span.end - span.start));
  }

  pub short_rest : (at : ℕ) (m : Marks) (known : ℕ) (t0 t1 : Counts) → IsPlaced longest span at m → m.known ≤ known
      → known ≤ span.end → ScansThrice (between m.known known) t0 t1
      → ScansRest longest span (looked_short longest span m) t0 t1
  short_rest at m known t0 t1 before further inside scans = record {
    others = scans.others;
    most = omega (arith, scans.most, before.known_after, further, inside, thrice longest (span.end - span.start));
  }

  -- by trails
  pub far_looks : (at next : ℕ) (t u : Trail) (m new : Marks) → IsFar longest span at t m
      → IsFar longest span next u new → t.block.end ≤ u.block.end → m.known ≤ new.known
      → LooksOn longest span next (looked_far longest span t m) (looked_far longest span u new)
  far_looks at next t u m new before after laid further = record {
    least_grows = omega (arith, before.known_after, before.known, laid);
    most_grows = omega (
      arith,
      further,
      laid,
      paid_on longest (t.block.end - span.start) (u.block.end - span.start) (omega (arith, laid)),
    );
    looked = omega (arith, after.looked, after.known_after, after.known);
    inside = omega (arith, after.known_after, after.known);
    few = omega (
      arith,
      after.known,
      after.part.inside,
      paid_and_marked longest (span.end - span.start),
      paid_on longest (u.block.end - span.start) (span.end - span.start) (omega (arith, after.part.inside)),
    );
  }

  pub far_scans : (at : ℕ) (t u : Trail) (m new : Marks) (t0 t1 : Counts) → IsFar longest span at t m
      → t.block.end ≤ u.block.end → m.known ≤ new.known → t1 ≡ record t0 { scanned = t1.scanned }
      → t1.scanned + paid_by longest t.block.end + m.known ≤ t0.scanned + paid_by longest u.block.end + new.known
      → t0.scanned + led_to longest span u.block.end ≤ t1.scanned + led_to longest span t.block.end
      → ScansNext (looked_far longest span t m) (looked_far longest span u new) t0 t1
  far_scans at t u m new t0 t1 before laid further others most least = record {
    others = others;
    least = omega (arith, least, before.known_after, before.known, before.part.inside);
    most = omega (
      arith,
      most,
      further,
      before.known_after,
      before.known,
      paid_from longest span.start t.block.end (omega (arith, before.known_after, before.known)),
      paid_from longest span.start u.block.end (omega (arith, before.known_after, before.known, laid)),
    );
  }

  pub far_rest : (at : ℕ) (t : Trail) (m : Marks) (t0 t1 : Counts) → IsFar longest span at t m
      → span.start ≤ span.end → t1 ≡ record t0 { scanned = t1.scanned }
      → t1.scanned + paid_by longest t.block.end + m.known ≤ t0.scanned + paid_by longest span.end + span.end
      → ScansRest longest span (looked_far longest span t m) t0 t1
  far_rest at t m t0 t1 before ordered others most = record {
    others = others;
    most = omega (
      arith,
      most,
      before.known_after,
      before.known,
      ordered,
      paid_from longest span.start t.block.end (omega (arith, before.known_after, before.known)),
      paid_from longest span.start span.end ordered,
      paid_and_marked longest (span.end - span.start),
    );
  }

  -- a trail that has not begun
  pub none_far : (t : Trail) (m : Marks) → span.start ≤ span.end → t.block.end ≡ span.start → m.known ≡ span.start
      → looked_far longest span t m ≡ no_look_ups
  none_far t m ordered block known =
      let none : t.block.end - span.start ≡ 0 = omega (arith, block) in
      let paid = ap (paid_by longest) none in
      let least : led_to longest span t.block.end - span.start ≡ 0 = omega (arith, block, ordered) in
      let most : (looked_far longest span t m).most ≡ 0 =
      omega (arith, paid, known, paid_from longest 0 0 (omega arith)) in
      ap (λ n. let l : LookUps = record { least = n; most = (looked_far longest span t m).most } in l) least
      ∙ ap (λ n. let l : LookUps = record { least = 0; most = n } in l) most

-- an iteration has the room that its span needs
pub fits : (longest : ℕ) (span : Span) (at : ℕ) (m : Marks) (room : Room) → IsIn longest span at m room
    → FitsIn longest span room
fits longest span at m (Block numbers) is = is.room
fits longest span at m (Trailed trail) is = tt
