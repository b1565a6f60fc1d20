-- The tables of a backward walk.
use Rattle.std.proofs.Common.{◌≡◌, ℕ, List}
use Rattle.literal_leftmost.specs.SearchValue.{SearchValue}
use Rattle.literal_leftmost.specs.Prepared.{BackTables}

-- tables whose parts are equal
pub same_tables : (search : SearchValue) (classes classes' : List ℕ) (width width' : ℕ)
    (rows rows' : List ℕ) (longest longest' : ℕ) → classes ≡ classes' → width ≡ width' → rows ≡ rows'
    → longest ≡ longest' → (let t : BackTables = record {
      search = search;
      classes = classes;
      width = width;
      rows = rows;
      longest = longest;
    } in t) ≡ record {
      search = search;
      classes = classes';
      width = width';
      rows = rows';
      longest = longest';
    }
same_tables search classes classes' width width' rows rows' longest longest' a b c d = cc
