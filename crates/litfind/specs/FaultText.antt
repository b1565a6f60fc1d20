-- The messages of faults.
use Rattle.std.specs.Prelude.{ℕ, List, ◌++◌, codes}
use Rattle.litfind.specs.declared.fault.Fault.{Fault}
use Rattle.litfind.specs.declared.fault.Fault.TheVariants.{Usage, NoSearcher, OutOfMemory, ReadFailed, WriteFailed}

-- the message of a fault, without a line feed
abbrev pub fault_text : Fault → List ℕ
fault_text Usage = codes "litfind: usage: litfind MODE PATTERN..."
fault_text NoSearcher = codes "litfind: no searcher for these patterns"
fault_text OutOfMemory = codes "litfind: out of memory"
fault_text ReadFailed = codes "litfind: read failed"
fault_text WriteFailed = codes "litfind: write failed"

-- the message of a fault, with a line feed
abbrev pub fault_line : Fault → List ℕ
fault_line fault = fault_text fault ++ codes "\n"
