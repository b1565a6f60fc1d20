use Rattle.std.proofs.Common.{string_bytes, arith, rules}
use Rattle.std.proofs.lemmas.Grind.{common_steps}
use Rattle.litfind.proofs.engine.run.Goals as goal

pub returns-in-Ok-clause-ok : goal.returns-in-Ok-clause-ok
returns-in-Ok-clause-ok g c =
    record {
      input = c.in_ok-text.ensures.lines.input;
      text = string_bytes c.in_ok-text.text;
      read = c.in_ok-text.ensures.lines.read;
      lines = c.in_ok-text.ensures.lines.lines;
      written = search (rules, c.in-Ok.ensures.ok, c.as_bytes-bytes.ensures.value);
      answer = grind (arith, common_steps, c.is_empty.ensures, c.as_bytes-bytes.ensures.value);
    }

pub returns-clause-front : goal.returns-clause-front
returns-clause-front g c = λ _.
    record {
      input = c.in_ok-text.ensures.lines.input;
      text = string_bytes c.in_ok-text.text;
      read = c.in_ok-text.ensures.lines.read;
      lines = c.in_ok-text.ensures.lines.lines;
      written = search (rules, c.in-Err.ensures.err, c.as_bytes-bytes.ensures.value);
    }
