use Rattle.std.proofs.Common.{◌≡◌, ◌∙◌, ◌++◌, ◌∷◌, ◌||◌, [], Bool, List, Option, ℕ, true, false, ap, drop, map}
use Rattle.std.proofs.Common.{nat_lt, refl}
use Rattle.std.proofs.Common.{subst, sym, take}
use Rattle.std.proofs.Common.{take-append-drop}
use Rattle.std.proofs.KnownBytes.{Appends-trans}
use Rattle.std.proofs.lemmas.List.{flat_map_more, map-append, map_more, map_push}
use Rattle.std.proofs.lemmas.List.Folds.{list_any-append}
use Rattle.std.specs.Io.KnownBytes.{Appends}
use Rattle.std.specs.List.{flat_map, list_any}
use Rattle.std.specs.Option.{is_some}
use Rattle.literal_search.specs.SearchValue.{SearchValue}
use Rattle.litscan.specs.Files.{PrintsFile, PrintsFiles, Searched}
use Rattle.litscan.specs.declared.input.FileId.{FileId}
use Rattle.litscan.specs.declared.options.Options.{Options}
use Rattle.litscan.proofs.files.scan_each.Goals as goal

or_none : (b : Bool) → (b || false) ≡ b
or_none true = refl
or_none false = refl

-- one element more
any_more : (test : Searched → Bool) (xs : List Searched) (x : Searched) (b : Bool) → b ≡ list_any test xs
    → (b || test x) ≡ list_any test (xs ++ x ∷ [])
any_more test xs x b is =
    ap (λ first. first || test x) is ∙ ap (λ last. list_any test xs || last) (sym (alone (test x)))
    ∙ sym (list_any-append test xs (x ∷ []))
  where
    alone : (b : Bool) → (b || false) ≡ b
    alone true = refl
    alone false = refl

-- one file more
module _ (search : SearchValue) (options : Options) (separator label : List ℕ)
    (output : Option FileId) where
  prints_push : (any last : Bool) (all : List Searched) (one : Searched)
      → last ≡ (any || list_any (λ one. nat_lt 0 one.scanned.count) all)
      → PrintsFiles search options separator label output any all
      → PrintsFile search options separator label last output one.name one.text one.scanned one.out
      → PrintsFiles search options separator label output any (all ++ one ∷ [])
  prints_push any last [] one is printed more = (
    subst (λ b. PrintsFile search options separator label b output one.name one.text one.scanned one.out)
        (is ∙ or_none any) more,
    tt,
  )
  prints_push any last (first ∷ rest) one is printed more =
      let some = nat_lt 0 first.scanned.count in (
        printed.0,
        prints_push (any || some) last rest one
            (is ∙ or_assoc any some (list_any (λ one. nat_lt 0 one.scanned.count) rest)) printed.1 more,
      )
    where
      or_assoc : (a b c : Bool) → (a || (b || c)) ≡ ((a || b) || c)
      or_assoc true b c = refl
      or_assoc false b c = refl

pub returns-then-found-clause-searched : goal.returns-then-found-clause-searched
returns-then-found-clause-searched g c =
    let so_far = c.loop-name.invariant in
    let names = c.args.names.now in
    let at = c.loop-name.name-index in (
      so_far.all,
      record {
        others = map (λ name. name.items) (drop at names);
        names_are =
            ap (map (λ name. name.items)) (sym (take-append-drop at names))
            ∙ map-append (λ name. name.items) (take at names) (drop at names)
            ∙ ap (λ front. front ++ map (λ name. name.items) (drop at names)) so_far.names;
        enough = λ some. rw (c.if-options.true, c.if-found.true) refl;
        each = so_far.each;
        any = so_far.any;
        failed = so_far.failed;
      },
      so_far.written,
    )

pub loop-name-preserved : goal.loop-name-preserved
loop-name-preserved g c =
    let so_far = c.loop-name.invariant in
    let got = c.in_ok-scanned.ensures.printed in
    let names = c.args.names.now in
    let item = c.name-item.result in
    let prints = PrintsFile c.args.search.now c.args.options c.args.separator.now c.args.label.now
    c.loop-name.found.any c.args.output in
    let one : Searched =
    record { name = item.items; text = got.0; scanned = c.in_ok-scanned.scanned; out = got.1 } in
    record {
      all = so_far.all ++ one ∷ [];
      names =
          map_more (λ name. name.items) names c.loop-name.name-index item c.loop-name-test.true
          ∙ ap (λ name. map (λ name. name.items) (take c.loop-name.name-index names) ++ name.items ∷ [])
          (sym c.name-item.is) ∙ ap (λ front. front ++ item.items ∷ []) so_far.names
          ∙ sym (map_push (λ one. one.name) so_far.all one);
      each =
          prints_push c.args.search.now c.args.options c.args.separator.now c.args.label.now c.args.output false
          c.loop-name.found.any so_far.all one so_far.any so_far.each
          (subst (λ name. prints name got.0 c.in_ok-scanned.scanned got.1)
          c.as_slice.ensures.value got.2);
      any =
          ap (λ found. found.any) c.with-found.ensures
          ∙ any_more (λ one. nat_lt 0 one.scanned.count) so_far.all one c.loop-name.found.any so_far.any;
      failed =
          ap (λ found. found.failed) c.with-found.ensures
          ∙ any_more (λ one. is_some one.scanned.failure) so_far.all one c.loop-name.found.failed so_far.failed;
      written =
          subst (Appends _ _) (flat_map_more (λ one. one.out) [] so_far.all one)
          (Appends-trans _ _ _ (flat_map (λ one. one.out) so_far.all) got.1 so_far.written got.3);
    }
