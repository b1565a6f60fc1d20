use Rattle.std.proofs.Common.{◌<◌, arith, length}
use Rattle.literal_rows.specs.Inside.Construction.{words_of}
use Rattle.literal_rows.proofs.lemmas.Construction.{put_back, put_on, words_length}
use Rattle.literal_rows.proofs.grow.Construction.put_next.Goals as goal

pub returns-clause-on : goal.returns-clause-on
returns-clause-on c =
    let g = c.args.self.now in
    let said = c.in_ok-row.ensures in
    let is_state : c.args.state < length (words_of g) =
    omega (arith, c.requires.is_state, words_length g.texts g.states.items) in
    let inside : c.args.class < length c.args.row.now = omega arith in
    put_on g c.next.new.self c.args.state c.args.class c.in_ok-row.field-0 c.args.row.now said.same.0 said.kept
    is_state inside said.leads c.requires.on

pub returns-clause-back : goal.returns-clause-back
returns-clause-back c =
    let g = c.args.self.now in
    let said = c.in_ok-row.ensures in
    let is_state : c.args.state < length (words_of g) =
    omega (arith, c.requires.is_state, words_length g.texts g.states.items) in
    let inside : c.args.class < length c.args.row.now = omega arith in
    put_back g c.next.new.self c.args.state c.args.class c.in_ok-row.field-0 c.args.row.now said.same.0 said.kept
    is_state inside c.requires.back
