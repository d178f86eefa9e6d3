-- One element more, as code takes it: the cases of `with_element` on the records that code holds. Assumes nothing.
use Rattle.std.specs.Prelude.{◌≡◌, refl, Bool, true, false, cond, ◌||◌, not, ℕ, ◌+◌, ◌-◌, ◌^◌, ◌≤◌, ltb, eqb, Result, Ok, Err}
use Rattle.theory_reading.specs.Limits.{option_limit, open_limit, table_limit, word_limit}
use Rattle.theory_reading.specs.Reading.{is_start, is_lead}
use Rattle.elements.specs.Abstraction.{context_of, terminal_ref, temporary_ref, entry_ref}
use Rattle.elements.specs.declared.Cause.{Cause}
use Rattle.elements.specs.declared.Cause.TheVariants.{WrongByte, DeclaredSize, TooDeep, NotInTable, OtherLevel, NotStorable, BadNumber}
use Rattle.elements.specs.declared.Element.{Element}
use Rattle.elements.specs.declared.Fault.{Fault}
use Rattle.elements.specs.declared.Element.TheVariants.{Opening, Number, Constant, Turn, Closing, Storing, End}
use Rattle.elements.specs.declared.Context.{Context}
use Rattle.elements.specs.declared.Open.{Open}
use Rattle.elements.specs.declared.Ref.{Ref}
use Rattle.cursors.specs.Cursors.{is_kept_of}
use Rattle.cursors.specs.declared.Run.{Run}
use Rattle.node_records.specs.declared.NodeRecord.{NodeRecord}
use Rattle.reader.specs.declared.Change.{Change}
use Rattle.reader.specs.declared.Change.TheVariants.{Nothing, Size, Node}
use Rattle.reader.specs.declared.Taken.{Taken}

-- options, covered words and open nodes are no more than any reading has
abbrev pub WithinLimits : ℕ → Run → ℕ → Type 0
WithinLimits n r d = (n ≤ option_limit) × ((r.covered ≤ word_limit) × (d ≤ open_limit))

-- an element taken: whether it is a fault, and which; whether its number is the size, or is stored
pub record TakenView : Type 0 where
  pub run : Run
  pub faulty : Bool
  pub cause : Cause
  pub byte : ℕ
  pub sizes : Bool
  pub stores : Bool

abbrev pub sizes_in : Change → Bool
sizes_in Nothing = false
sizes_in Size = true
sizes_in Node = false

abbrev pub stores_in : Change → Bool
stores_in Nothing = false
stores_in Size = false
stores_in Node = true

-- as code has it; at a fault the run r stays
abbrev pub taken_view : Run → Result Taken Fault → TakenView
taken_view r (Ok y) = record { run = y.run; faulty = false; cause = WrongByte; byte = 0; sizes = sizes_in y.change; stores = stores_in y.change }
taken_view r (Err f) = record { run = r; faulty = true; cause = f.cause; byte = f.byte; sizes = false; stores = false }

abbrev pub goes_of : Run → TakenView
goes_of r = record { run = r; faulty = false; cause = WrongByte; byte = 0; sizes = false; stores = false }

abbrev pub fails_of : Run → Cause → ℕ → TakenView
fails_of r c b = record { run = r; faulty = true; cause = c; byte = b; sizes = false; stores = false }

abbrev pub moved_to : Run → ℕ → Context → Run
moved_to r at m = record { at = at; context = m; last = r.last; size = r.size; covered = r.covered; complement = r.complement; pair = r.pair }

abbrev pub passed_to : ℕ → Run → ℕ → Ref → ℕ → Context → Run
passed_to n r d x at m = record {
  at = at;
  context = m;
  last = x;
  size = r.size;
  covered = r.covered + 2 ^ (n - d);
  complement = r.complement;
  pair
      = r.pair;
}

abbrev pub turned_to : Run → ℕ → Context → Run
turned_to r at m = record {
  at = at;
  context = m;
  last = r.last;
  size = r.size;
  covered = r.covered;
  complement = is_lead (context_of r.context) ||
      r.complement;
  pair = r.pair;
}

abbrev pub sized_to : Run → ℕ → ℕ → ℕ → Context → TakenView
sized_to r g v at m =
    cond (ltb table_limit v) (fails_of r DeclaredSize g)
    (record {
      run = record { at = at; context = m; last = r.last; size = v; covered = r.covered; complement = r.complement; pair = r.pair };
      faulty = false;
      cause = WrongByte;
      byte = 0;
      sizes = true;
      stores = false;
    })

abbrev pub found_to : ℕ → Run → ℕ → ℕ → ℕ → NodeRecord → ℕ → Context → TakenView
found_to n r d g v x at m =
    cond (eqb x.level 0) (fails_of r NotInTable g)
    (cond (eqb x.level (d + 1)) (goes_of (passed_to n r d (entry_ref v x.stamp) at m)) (fails_of r OtherLevel g))

-- `)` of two children
abbrev pub closed_two : Run → Open → ℕ → Context → Run
closed_two r o at m = record {
  at = at;
  context = m;
  last = temporary_ref;
  size = r.size;
  covered = r.covered;
  complement = r.complement;
  pair =
      record { first = o.first; complement = o.complement; second = r.last };
}

abbrev pub closed_to : ℕ → Run → ℕ → Open → ℕ → Context → TakenView
closed_to n r d o at m = cond (eqb d 0) (goes_of (moved_to r at m)) (cond o.second (goes_of (closed_two r o at m))
    (cond (is_kept_of r.last) (goes_of (passed_to n r d r.last at m)) (fails_of r NotStorable r.at)))

abbrev pub is_bad_of : Run → ℕ → NodeRecord → Bool
is_bad_of r k x = (eqb k 0 || ltb r.size k) || (not (eqb x.parents 0) || (eqb r.pair.first.number k || eqb r.pair.second.number k))

-- a stamp that does not fit stays at the largest (none comes so far: `at-stamp`)
abbrev pub next_stamp : ℕ → ℕ
next_stamp g = cond (ltb g 4294967295) (g + 1) g

abbrev pub stored_run : Run → ℕ → NodeRecord → ℕ → Context → Run
stored_run r k x at m = record {
  at = at;
  context = m;
  last = entry_ref k (next_stamp x.stamp);
  size = r.size;
  covered = r.covered;
  complement = r.complement;
  pair = r.pair;
}

abbrev pub stored_to : Run → ℕ → NodeRecord → ℕ → Context → TakenView
stored_to r k x at m = cond (is_bad_of r k x) (fails_of r BadNumber (r.at + 1))
    (record { run = stored_run r k x at m; faulty = false; cause = WrongByte; byte = 0; sizes = false; stores = true })

abbrev pub taken_of : ℕ → Run → ℕ → Open → ℕ → Element → NodeRecord → ℕ → Context → TakenView
taken_of n r d o g Opening x at m = cond (ltb n (d + 1)) (fails_of r TooDeep r.at) (goes_of (moved_to r at m))
taken_of n r d o g (Number v) x at m = cond (is_start (context_of r.context)) (sized_to r g v at m) (found_to n r d g v x at m)
taken_of n r d o g Constant x at m = goes_of (passed_to n r d terminal_ref at m)
taken_of n r d o g Turn x at m = goes_of (turned_to r at m)
taken_of n r d o g Closing x at m = closed_to n r d o at m
taken_of n r d o g (Storing k) x at m = stored_to r k x at m
taken_of n r d o g End x at m = goes_of (moved_to r at m)

-- ---- The place -------------------------------------------------------------------------------

-- the place of what is taken moves on, unless it is a fault
abbrev pub placed_at : ℕ → Context → TakenView → TakenView
placed_at at m y = record {
  run = cond y.faulty y.run (moved_to y.run at m);
  faulty = y.faulty;
  cause = y.cause;
  byte = y.byte;
  sizes = y.sizes;
  stores = y.stores;
}

module _ (n : ℕ) (r : Run) (d : ℕ) (o : Open) (g : ℕ) (x : NodeRecord) (at : ℕ) (m : Context) where
  placed-cond : (b : Bool) (y z u v : TakenView) → placed_at at m y ≡ u → placed_at at m z ≡ v → placed_at at m (cond b y z) ≡ cond b u v
  placed-cond true y z u v h k = h
  placed-cond false y z u v h k = k

  -- What is taken is the same where the place moves on last.
  pub taken-placed : (e : Element) → placed_at at m (taken_of n r d o g e x r.at r.context) ≡ taken_of n r d o g e x at m
  taken-placed Opening = placed-cond (ltb n (d + 1)) _ _ _ _ refl refl
  taken-placed (Number v) =
      placed-cond (is_start (context_of r.context)) _ _ _ _
      (placed-cond (ltb table_limit v) _ _ _ _ refl refl)
      (placed-cond (eqb x.level 0) _ _ _ _ refl (placed-cond (eqb x.level (d + 1)) _ _ _ _ refl refl))
  taken-placed Constant = refl
  taken-placed Turn = refl
  taken-placed Closing = placed-cond (eqb d 0) _ _ _ _ refl (placed-cond o.second _ _ _ _ refl
      (placed-cond (is_kept_of r.last) _ _ _ _ refl refl))
  taken-placed (Storing k) = placed-cond (is_bad_of r k x) _ _ _ _ refl refl
  taken-placed End = refl
