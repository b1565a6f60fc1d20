use Rattle.std.proofs.Common.{◌≡◌, ◌-◌, ◌∙◌, List, ap, arith, length, subst, sym, ℕ}
use Rattle.std.specs.List.{slice_range}
use Rattle.literal_pieces.specs.Inside.Sought.{AreTablesOf}
use Rattle.literal_pieces.specs.Inside.Stream.{IsThrough, block, held}
use Rattle.literal_words.specs.declared.word_search.Words.{Words}
use Rattle.literal_pieces.proofs.lemmas.StreamCounts.{paid_on_going_on}
use Rattle.literal_pieces.proofs.stream.go_on.Goals as goal

pub returns-clause-search : goal.returns-clause-search
returns-clause-search g c =
    let sought = c.args.sought.now in
    let v = c.fill.new.self in
    let begins = c.fill.ensures.begins in
    let start_is : v.start - v.passed ≡ v.start = omega (arith, begins) in
    let block_is : block v ≡ held v = ap (λ n. slice_range v.bytes.items n v.end) start_is in
    let here : c.args.at - (v.offset - v.passed) ≡ c.args.at - v.offset = omega (arith, begins) in
    record {
      tables = subst (λ (w : Words). AreTablesOf sought w) (sym c.begin.ensures.words) c.requires.search.tables;
      through = λ _. subst (λ (n : ℕ). IsThrough sought (block v) n c.begin.new.self) (sym here)
          (c.begin.ensures.through sought (block v)
          (ap (λ (l : List ℕ). length l) (c.held-2.ensures ∙ sym block_is)));
      long = λ _ is_open.
          let enough = c.fill.ensures.enough is_open in
          let begin = c.requires.held.begin in
          let room = c.requires.sound.room in
          grind arith;
    }

pub returns-clause-paid : goal.returns-clause-paid
returns-clause-paid g c =
    paid_on_going_on c.args.sought.now c.args.window.now c.fill.new.self c.args.reading.now c.args.at c.args.ahead.now
    c.begin.new.self c.requires.sound.window c.requires.held c.requires.search
    (λ begun. grind arith) c.fill.ensures.offset
    c.fill.ensures.begins c.begin.ensures.begun (grind arith)
