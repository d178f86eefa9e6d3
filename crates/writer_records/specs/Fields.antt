-- The fields of the writer's records by number. Assumes nothing.
use Rattle.std.specs.Prelude.{◌≡◌, refl, List, [], ◌∷◌, ℕ, ◌+◌, length, get_or, set}
use Rattle.std.proofs.Common.{ap, arith, length-set}
use Rattle.node_records.specs.declared.WriterRecord.{WriterRecord}

-- A field's number: the level, the children, whether the edge to the second is complemented
abbrev pub level_field : ℕ
level_field = 0

abbrev pub first_field : ℕ
first_field = 1

abbrev pub second_field : ℕ
second_field = 2

abbrev pub complement_field : ℕ
complement_field = 3

-- how often the number was given out, and how many nodes have it as a child
abbrev pub stamp_field : ℕ
stamp_field = 4

abbrev pub parents_field : ℕ
parents_field = 5

-- the number after it in the recycling queue; the field after this one has the number before it
abbrev pub queue_field : ℕ
queue_field = 6

-- the number after it in its bucket; the field after this one has the number before it
abbrev pub bucket_field : ℕ
bucket_field = 8

-- the first and the last number of the bucket that has this place
abbrev pub head_field : ℕ
head_field = 10

abbrev pub tail_field : ℕ
tail_field = 11

-- by these numbers
abbrev pub fields_of : WriterRecord → List ℕ
fields_of x = x.level ∷ x.first ∷ x.second ∷ x.complement ∷ x.stamp ∷ x.parents ∷ x.after
    ∷ x.before ∷ x.next ∷ x.previous ∷ x.head ∷ x.tail ∷ []

abbrev pub record_with : List ℕ → WriterRecord
record_with a = record {
  level = get_or a level_field 0;
  first = get_or a first_field 0;
  second = get_or a second_field 0;
  complement = get_or a complement_field 0;
  stamp = get_or a stamp_field 0;
  parents = get_or a parents_field 0;
  after = get_or a queue_field 0;
  before = get_or a (queue_field + 1) 0;
  next = get_or a bucket_field 0;
  previous = get_or a (bucket_field + 1) 0;
  head = get_or a head_field 0;
  tail = get_or a tail_field 0;
}

-- v is put in the field j
abbrev pub with_field : WriterRecord → ℕ → ℕ → WriterRecord
with_field x j v = record_with (set (fields_of x) j v)

-- twelve of them make a record
pub fields-with : (a : List ℕ) → length a ≡ 12 → fields_of (record_with a) ≡ a
fields-with [] s = absurd (omega (arith, s))
fields-with (a ∷ []) s = absurd (omega (arith, s))
fields-with (a ∷ b ∷ []) s = absurd (omega (arith, s))
fields-with (a ∷ b ∷ c ∷ []) s = absurd (omega (arith, s))
fields-with (a ∷ b ∷ c ∷ d ∷ []) s = absurd (omega (arith, s))
fields-with (a ∷ b ∷ c ∷ d ∷ e ∷ []) s = absurd (omega (arith, s))
fields-with (a ∷ b ∷ c ∷ d ∷ e ∷ f ∷ []) s = absurd (omega (arith, s))
fields-with (a ∷ b ∷ c ∷ d ∷ e ∷ f ∷ g ∷ []) s = absurd (omega (arith, s))
fields-with (a ∷ b ∷ c ∷ d ∷ e ∷ f ∷ g ∷ h ∷ []) s = absurd (omega (arith, s))
fields-with (a ∷ b ∷ c ∷ d ∷ e ∷ f ∷ g ∷ h ∷ i ∷ []) s = absurd (omega (arith, s))
fields-with (a ∷ b ∷ c ∷ d ∷ e ∷ f ∷ g ∷ h ∷ i ∷ j ∷ []) s = absurd (omega (arith, s))
fields-with (a ∷ b ∷ c ∷ d ∷ e ∷ f ∷ g ∷ h ∷ i ∷ j ∷ k ∷ []) s = absurd (omega (arith, s))
fields-with (a ∷ b ∷ c ∷ d ∷ e ∷ f ∷ g ∷ h ∷ i ∷ j ∷ k ∷ l ∷ []) s = refl
fields-with (a ∷ b ∷ c ∷ d ∷ e ∷ f ∷ g ∷ h ∷ i ∷ j ∷ k ∷ l ∷ m ∷ o) s = absurd (omega (arith, s))

-- a field after v was put in the field j
pub field-with : (x : WriterRecord) (j v i : ℕ) → get_or (fields_of (with_field x j v)) i 0 ≡ get_or (set (fields_of x) j v) i 0
field-with x j v i = ap (λ (a : List ℕ). get_or a i 0) (fields-with (set (fields_of x) j v) (length-set (fields_of x) j v))
