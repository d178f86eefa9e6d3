-- How the code mixes numbers to spread them over places: each round multiplies and folds. Nothing depends on what it comes to. Definitions
-- only. Assumes nothing.
use Rattle.std.specs.Prelude.{ℕ, ◌+◌, ◌*◌, ◌/◌, ◌%◌}
use Rattle.theory_reading.specs.Limits.{table_limit}

-- Cells side by side in one number: so many values for a number, for an edge (a number, turned about or not) and for a level.
abbrev pub number_span : ℕ
number_span = 2048

abbrev pub edge_span : ℕ
edge_span = 2 * number_span

abbrev pub level_span : ℕ
level_span = 64

-- the upper and the lower 32 bits together
abbrev pub fold : ℕ → ℕ
fold p = p / 4294967296 + p % 4294967296

-- one round: the lower 32 bits of v times themselves plus k. (Times k alone would be linear: an even row of nodes would come to few places.)
unfoldable pub stir : ℕ → ℕ → ℕ
stir k v =
    let x = v % 4294967296 in
    fold (x * ((x + k) % 4294967296))

-- a node's level, children and complement, mixed
abbrev pub mix_of : ℕ → ℕ → ℕ → ℕ → ℕ
mix_of i a b c = stir 2246822519 (stir 2654435769 (((a * number_span + b) * level_span + i) * 2 + c))

-- its bucket, 1 .. table_limit: the lower 32 bits of the mix as a share of 2^32. (The rest by the limit would leave a third of the buckets empty where
-- 3 divides it, since it divides 2^32 - 1.)
abbrev pub bucket_of : ℕ → ℕ → ℕ → ℕ → ℕ
bucket_of i a b c = mix_of i a b c % 4294967296 * table_limit / 4294967296 + 1
