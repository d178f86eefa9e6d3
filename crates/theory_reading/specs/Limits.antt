-- The limits of document 01, each named once. What laws need of their values stands in LimitLaws. Assumes nothing.
use Rattle.std.specs.Prelude.{ℕ, ◌+◌, ◌^◌}

-- "The option count n is 0 to 32."
abbrev pub option_limit : ℕ
option_limit = 32

-- "At most 32 nodes are open at one time"
abbrev pub open_limit : ℕ
open_limit = 32

-- "declared size above", "size to write above", "a work table under" so many "records"; document 02, R-2: "The largest size declared by any rule in our
-- modules is 768. That becomes the limit: causes 3, 4 and 8 now say 768"
abbrev pub table_limit : ℕ
table_limit = 768

-- "Truth tables: n from 3 to 16"
abbrev pub truth_table_least : ℕ
truth_table_least = 3

abbrev pub truth_table_most : ℕ
truth_table_most = 16

-- ---- What they make

-- the level of a word, below the most options
abbrev pub level_limit : ℕ
level_limit = option_limit + 1

-- no number of a table has more digits
abbrev pub digit_limit : ℕ
digit_limit = 4

-- the words of the most options
abbrev pub word_limit : ℕ
word_limit = 2 ^ option_limit

-- the words of the largest truth table
abbrev pub truth_limit : ℕ
truth_limit = 2 ^ truth_table_most
