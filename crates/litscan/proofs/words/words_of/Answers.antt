use Rattle.std.proofs.Common.{◌∙◌, ◌++◌, ◌∷◌, [], ℕ, List, ap, map, subst, sym, take}
use Rattle.std.proofs.lemmas.List.{flat_map_more, map_more}
use Rattle.litscan.specs.Request.{SourceValue, value_of_source}
use Rattle.litscan.specs.Words.{AreTextsOf, IsTextOf, words_of_text}
use Rattle.litscan.proofs.words.words_of.Goals as goal

-- the text of one source more
texts_more : (sources : List SourceValue) (texts : List (List ℕ)) (source : SourceValue) (text : List ℕ)
    → AreTextsOf sources texts → IsTextOf source text → AreTextsOf (sources ++ source ∷ []) (texts ++ text ∷ [])
texts_more [] [] source text are is = (is, tt)
texts_more [] (first ∷ texts) source text are is = absurd are
texts_more (first ∷ sources) [] source text are is = absurd are
texts_more (first ∷ sources) (one ∷ texts) source text are is = (are.0, texts_more sources texts source text are.1 is)

pub loop-source-preserved : goal.loop-source-preserved
loop-source-preserved c =
    let so_far = c.loop-source.invariant in
    let added = c.in_ok-add_words.ensures.added in
    let sources = c.args.sources.now in
    let front = map value_of_source (take c.loop-source.source-index sources) in
    let next = map_more value_of_source sources c.loop-source.source-index c.source-item.result
    c.loop-source-test.true in
    record {
      texts = so_far.texts ++ added.0 ∷ [];
      are =
          subst (λ these. AreTextsOf these (so_far.texts ++ added.0 ∷ []))
          (sym (next ∙ ap (λ source. front ++ value_of_source source ∷ []) (sym c.source-item.is)))
          (texts_more front so_far.texts (value_of_source c.source-item.result) added.0 so_far.are added.1);
      words =
          added.2 ∙ ap (λ words. words ++ words_of_text c.args.options added.0) so_far.words
          ∙ flat_map_more (words_of_text c.args.options) [] so_far.texts added.0;
    }
