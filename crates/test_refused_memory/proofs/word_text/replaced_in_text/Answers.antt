use Rattle.std.proofs.Common.{◌∷◌, [], List, arith, false, map, rules}
use Rattle.std.proofs.Common.{string_bytes, suc, sym, subst, tests, zero, IsUtf8, String}
use Rattle.std.proofs.lemmas.Str.{IsUtf8-string_bytes}
use Rattle.std.specs.List.{All}
use Rattle.literal_base.specs.declared.packed.MatchKind.TheVariants.{LeftmostFirst}
use Rattle.literal_search.specs.SearchValue.{SearchValue}
use Rattle.literal_search.proofs.lemmas.Callers.{search_is_for_bytes, mapped_gives}
use Rattle.test_refused_memory.proofs.word_text.replaced_in_text.Goals as goal

-- the bytes of texts are UTF-8
all_utf8 : {Z : Type 0} (words : List (String Z)) → All IsUtf8 (map string_bytes words)
all_utf8 [] i d below = absurd (omega (arith, below))
all_utf8 (word ∷ more) zero d below = IsUtf8-string_bytes word
all_utf8 (word ∷ more) (suc i) d below = all_utf8 more i d (omega (arith, below))

pub replace_text_all_str-requires : goal.replace_text_all_str-requires
replace_text_all_str-requires c =
    let same = search_is_for_bytes
    (mapped_gives _ string_bytes c.args.words.now (cc) c.map-patterns.ensures.closure
    (λ x r q k. search (rules, tests)))
    LeftmostFirst false _ c.in_ok-search.ensures.ok in
    subst (λ (s : SearchValue). All IsUtf8 s.query.patterns) (sym same) (all_utf8 c.args.words.now)

pub replace_all_str-requires : goal.replace_all_str-requires
replace_all_str-requires c =
    let same = search_is_for_bytes
    (mapped_gives _ string_bytes c.args.words.now (cc) c.map-patterns.ensures.closure
    (λ x r q k. search (rules, tests)))
    LeftmostFirst false _ c.in_ok-search.ensures.ok in
    subst (λ (s : SearchValue). All IsUtf8 s.query.patterns) (sym same) (all_utf8 c.args.words.now)
