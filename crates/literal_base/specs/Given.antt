-- Patterns that are given as an iterator, or as a value that becomes one.
use Rattle.std.specs.Iterator.{Count, IsFinite}

-- the patterns can be read to their end: whatever iterator the value becomes, `next` may be called on it, and it ends
abbrev pub CanBeTaken : {U T : Type 0} → (U → T → Type 0) → (T → Type 0) → (T → Count) → U → Type 0
CanBeTaken {U} {T} becomes can_next remaining patterns =
    (it : T) → becomes patterns it → can_next it × IsFinite (remaining it)
