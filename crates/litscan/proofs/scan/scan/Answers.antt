use Rattle.std.proofs.Common.{◌≡◌, ◌==◌, ◌&&◌, ◌++◌, ◌∙◌, [], ap, append-nil, arith, false, refl}
use Rattle.std.proofs.Common.{subst, sym, true, Bool}
use Rattle.std.proofs.lemmas.Bool.{cond-false}
use Rattle.std.proofs.KnownBytes.{Appends-kept, Appends-trans}
use Rattle.litscan.specs.Context.{has_context, lines_behind}
use Rattle.litscan.specs.Lines.{lines_of}
use Rattle.litscan.specs.Printed.{Reads, are_enough, printed_behind}
use Rattle.litscan.specs.Scans.{PrintsRead, is_all}
use Rattle.litscan.proofs.scan.scan.Goals as goal

-- where no line behind is read, all was read if enough lines count
alone : (enough : Bool) → enough ≡ (enough && true)
alone true = refl
alone false = refl

pub returns-clause-scanned : goal.returns-clause-scanned
returns-clause-scanned g c =
    let read = c.in_ok-scanned.ensures.scanned in
    let options = c.args.options in
    let scanned = c.in_ok-scanned.scanned in
    let behind = printed_behind options.listed options c.args.name.now scanned.count in
    let plain : has_context options ≡ false = sym c.has_context.ensures ∙ c.if-has_context.false in
    let none : lines_behind options ≡ 0 = cond-false (has_context options) _ _ plain in
    let all : are_enough options scanned ≡ is_all options scanned [] =
    alone (are_enough options scanned) ∙ ap (λ n. are_enough options scanned && (0 == n)) (sym none) in (
      read.0,
      read.1 ++ behind,
      record {
        front = lines_of c.args.options.line_end read.0;
        behind = [];
        lines_are = sym (append-nil (lines_of c.args.options.line_end read.0));
        stops = read.3;
        counted = read.6;
        few = omega (arith, none);
        near = λ few. refl;
        printed = (
          read.1,
          subst (λ b. PrintsRead b c.args.search.now options c.args.separator.now c.args.any c.args.name.now
              (lines_of c.args.options.line_end read.0) [] read.1) (sym plain) read.5,
          ap (λ count. read.1 ++ printed_behind options.listed options c.args.name.now count) read.6,
        );
      },
      subst (λ b. Reads scanned.failure b (g.R.Read.remaining c.args.reader.now.inner)
          (g.R.Read.remaining c.scan_lines.new.reader.inner) read.0) all read.2,
      Appends-kept _ _ _ (read.1 ++ behind)
          (Appends-trans _ _ _ read.1 behind read.4 c.in_ok-print_behind.ensures.printed)
          c.in_ok-flush_line.ensures.kept,
    )
