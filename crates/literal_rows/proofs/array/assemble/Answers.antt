use Rattle.std.proofs.Common.{◌≡◌, ◌++◌, ◌∷◌, ◌∙◌, ℕ, List, ap, length, map, sym}
use Rattle.std.proofs.lemmas.Iterator.{items_from_drains}
use Rattle.std.proofs.lemmas.Iterator.Adapters.{YieldsList-from_vec}
use Rattle.std.proofs.lemmas.List.{length-map, map-id}
use Rattle.std.proofs.lemmas.Simd.{map-map}
use Rattle.std.specs.Global.{Vec}
use Rattle.literal_rows.specs.Inside.Arrays.{checked, kind_number, version_for}
use Rattle.literal_rows.specs.Inside.Rows.{packed_classes}
use Rattle.literal_rows.specs.Arrays.{check_of}
use Rattle.literal_rows.specs.Patterns.{longest_of}
use Rattle.std.specs.List.{slice_range}
use Rattle.literal_rows.proofs.lemmas.Written.{assembled}
use Rattle.literal_rows.proofs.array.assemble.Goals as goal

pub returns : goal.returns
returns c =
    let header = c.in_ok-header.header in
    let spliced = c.in_ok-none.ensures.items in
    let drained = spliced.3 in
    let put : spliced.1 ≡ header.items =
    sym (map-id spliced.1) ∙ items_from_drains spliced.1 (drained.1.0, drained.1.1, λ _. (drained.0, drained.1.2))
    (YieldsList-from_vec header.items spliced.2.0 (spliced.2.1 ∙ header.ok.0)) in
    let all : c.shrink_to_fit.new.self.items
    ≡ ((((header.items ++ c.args.rows.items) ++ packed_classes c.args.classes.now.table) ++ c.args.starts.now)
    ++ c.args.ends.now) ++ c.args.prints.now =
    cc (
      put,
      spliced.4,
      c.in_ok-reserve_exact.ensures.items,
      c.in_ok-push_classes.ensures,
      c.in_ok-push_starts.ensures,
      c.in_ok-extend_from_slice.ensures.items,
      c.in_ok-extend_from_slice-2.ensures.items,
      c.shrink_to_fit.ensures.items,
    )
    in
    let patterns = c.args.patterns.now in
    let bytes = map (λ (p : Vec ℕ). p.items) patterns in
    let lengths = map (λ (p : Vec ℕ). length p.items) patterns in
    let rows = c.args.rows.items in
    let classes = packed_classes c.args.classes.now.table in
    let starts = c.args.starts.now in
    let behind = c.args.ends.now ++ c.args.prints.now in
    let width = c.args.classes.now.width in
    let version = version_for c.args.kind in
    let kind = kind_number c.args.kind in
    let body = λ (n rows_len : ℕ) (l : List ℕ).
    checked version (width ∷ n ∷ rows_len ∷ longest_of bytes ∷ kind ∷ l ++ (rows ++ classes) ++ starts ++ behind) in
    assembled version width (length patterns) c.len.result (longest_of bytes) kind c.check_over.result lengths rows
    classes starts c.args.ends.now c.args.prints.now c.shrink_to_fit.new.self.items
    (all ∙ ap (λ l. ((((l ++ rows) ++ classes) ++ starts) ++ c.args.ends.now) ++ c.args.prints.now)
    c.in_ok-header.ensures)
    (c.check_over.ensures ∙ ap (λ l. check_of (slice_range l 2 (length l))) c.deref.ensures.value)
    ∙ (ap (λ n. body n c.len.result lengths) (sym (length-map patterns (λ (p : Vec ℕ). p.items)))
    ∙ (ap (λ n. body (length bytes) n lengths) (c.len.ensures ∙ c.args.rows.ok.0)
    ∙ ap (body (length bytes) (length rows)) (sym (map-map (λ (b : List ℕ). length b) _ patterns))))
