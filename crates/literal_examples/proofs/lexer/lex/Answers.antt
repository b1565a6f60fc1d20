use Rattle.std.proofs.Common.{◌≡◌, ◌+◌, ◌*◌, ◌++◌, ◌∷◌, ◌∙◌, [], ℕ, List, ap, append-nil, append_assoc, arith, length}
use Rattle.std.proofs.Common.{refl, subst, sym}
use Rattle.std.proofs.lemmas.List.{length_push}
use Rattle.literal_base.specs.MatchValue.{MatchValue}
use Rattle.literal_search.specs.SearchValue.{longest_of}
use Rattle.literal_search.proofs.lemmas.Callers.{scanned_on}
use Rattle.literal_examples.specs.Lexed.{IsLexed}
use Rattle.literal_examples.proofs.lexer.lex.Goals as goal

one_more : (n longest : ℕ) → (n + 1) * longest ≡ n * longest + longest
one_more n longest = grind arith

pub loop-found-preserved : goal.loop-found-preserved
loop-found-preserved c =
    let words = c.args.words.now in
    let text = c.args.text.now in
    let so_far = c.loop-found.invariant in
    let tokens = c.loop-found.tokens.items in
    let found = c.in-Some.found in
    let leftmost = c.in-Some.ensures.at.1 in
    let longest = longest_of words.query.patterns in
    let end_is = c.end-end.ensures.end in
    let count : length c.push.new.self.items ≡ length tokens + 1 =
    ap (λ (l : List MatchValue). length l) c.in_ok-push.ensures.items ∙ length_push tokens found in
    record {
      within = omega (arith, leftmost.occurs.before_end, leftmost.whole, end_is);
      few = omega (arith, so_far.few, count, leftmost.occurs.after_start, c.in-Some.ensures.not_empty, end_is);
      lexed = λ more last is.
          subst (λ (l : List MatchValue). IsLexed words text 0 (l ++ more) last) (sym c.in_ok-push.ensures.items)
          (subst (λ (l : List MatchValue). IsLexed words text 0 l last) (sym (append_assoc tokens (found ∷ []) more))
          (so_far.lexed (found ∷ more) last (
            c.in-Some.ensures.at,
            subst (λ at. IsLexed words text at more last) end_is is,
          )));
      each = omega (
        arith,
        so_far.each,
        c.in-Some.ensures.bounded.least,
        end_is,
        leftmost.occurs.after_start,
      );
      others = scanned_on c.args.tally.now c.loop-found.tally c.match_at_counted.new.tally so_far.others
          c.in-Some.ensures.bounded.others;
      linear = omega (
        arith,
        so_far.linear,
        c.in-Some.ensures.bounded.most,
        ap (λ n. n * longest) count,
        one_more (length tokens) longest,
      );
    }

pub returns-clause-lexed : goal.returns-clause-lexed
returns-clause-lexed c =
    subst (λ (l : List MatchValue). IsLexed c.args.words.now c.args.text.now 0 l c.loop-found.end)
    (append-nil c.loop-found.tokens.items)
    (c.loop-found.invariant.lexed [] c.loop-found.end (refl, c.in_default.ensures.at))

pub returns-clause-linear : goal.returns-clause-linear
returns-clause-linear c =
    omega (
      arith,
      c.loop-found.invariant.linear,
      c.in_default.ensures.bounded.most,
      one_more (length c.loop-found.tokens.items) (longest_of c.args.words.now.query.patterns),
    )

pub returns-clause-each : goal.returns-clause-each
returns-clause-each c = omega (arith, c.loop-found.invariant.each, c.in_default.ensures.bounded.least)
