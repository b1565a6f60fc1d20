use Rattle.std.proofs.Common.{◌∙◌, ap, bit_or, cond, eqb, get_or, replicate, subst, sym, w8}
use Rattle.std.proofs.lemmas.Simd.{tops_compared}
use Rattle.std.specs.Simd.Lanes.{sel_l, zip2}
use Rattle.literal_fingerprints.specs.Inside.Lanes.{HasWide}
use Rattle.literal_fingerprints.proofs.lemmas.Lanes.{lanes_of_choice, lanes_of_splat}
use Rattle.literal_fingerprints.proofs.wide.wanted_wide.Goals as goal

pub returns : goal.returns
returns c =
    let masked = lanes_of_splat bit_or c.args.bytes c.args.mask c.fits-bytes.0 in
    let set = zip2 bit_or c.args.bytes (replicate 32 c.args.mask) in
    let chosen = subst
    (λ tests. HasWide (sel_l tests (replicate 32 255) (replicate 32 0))
    (λ k. cond (eqb (get_or set k 0) c.args.rare) 255 0))
    (sym (tops_compared w8 eqb set (replicate 32 c.args.rare)))
    (lanes_of_choice 32 eqb set c.args.rare 255 0 masked.long) in
    record {
      long = chosen.long;
      each = λ k below. chosen.each k below ∙ ap (λ b. cond (eqb b c.args.rare) 255 0) (masked.each k below);
    }
