use Rattle.std.proofs.Common.{◌≡◌, map, take}
use Rattle.std.specs.String.{string_bytes}
use Rattle.literal_packed.specs.BuilderValue.{builder_of}
use Rattle.literal_packed.specs.ConfigValue.{default_config}
use Rattle.test_contracts.proofs.uses.built_of_words.Given as goal

abbrev pub invariant-loop-word : goal.invariant-loop-word
invariant-loop-word l =
    l.builder ≡ builder_of default_config (map string_bytes (take l.word-index l.words))
