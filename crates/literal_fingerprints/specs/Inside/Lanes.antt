-- Vectors of 16 and of 32 bytes.
use Rattle.std.specs.Prelude.{◌≡◌, ℕ, ◌+◌, ◌<◌, List, length, slice_index}

-- a vector has n lanes, each with this value
pub record AreLanes (n : ℕ) (lanes : List ℕ) (value : ℕ → ℕ) : Type 0 where
  pub long : length lanes ≡ n
  pub each : (k : ℕ) → k < n → slice_index lanes k ≡ value k

-- a vector has 16 lanes, each with this value
abbrev pub HasLanes : List ℕ → (ℕ → ℕ) → Type 0
HasLanes lanes value = AreLanes 16 lanes value

-- the same for a vector of 32
abbrev pub HasWide : List ℕ → (ℕ → ℕ) → Type 0
HasWide lanes value = AreLanes 32 lanes value

-- a vector has 32 lanes, the last 16 of them with this value
pub record HasBack (lanes : List ℕ) (value : ℕ → ℕ) : Type 0 where
  pub long : length lanes ≡ 32
  pub each : (k : ℕ) → k < 16 → slice_index lanes (16 + k) ≡ value k

-- a vector has 32 lanes, the first 16 and the last 16 of them with these values
pub record HasHalves (lanes : List ℕ) (one other : ℕ → ℕ) : Type 0 where
  pub long : length lanes ≡ 32
  pub front : (k : ℕ) → k < 16 → slice_index lanes k ≡ one k
  pub back : (k : ℕ) → k < 16 → slice_index lanes (16 + k) ≡ other k
