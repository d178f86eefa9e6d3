-- "At one, or when the bytes run out, it says which and moves no further" (document 01, of the reader). Assumes nothing.
use Rattle.std.specs.Prelude.{◌≡◌, refl, List, ℕ, drop}
use Rattle.std.proofs.Common.{ap}
use Prim.{Unit}
use Rattle.theory_reading.specs.Element.{Place, Outcome, got, fault, ran_out, step}
use Rattle.theory_reading.proofs.StepRest.{Fits, takes, wrong, deep, stops, rests, step_fits}
use Rattle.scanner.specs.Capped.{cap_outcome}
use Rattle.held_reader.specs.Held.{ReaderView, reader_at, read_next}

-- a fault, or that the bytes ran out
abbrev pub Stops : Outcome → Type 0
Stops (got e) = ⊥
Stops (fault c b) = Unit {0}
Stops ran_out = Unit {0}

place-stays : (p : Place) (xs : List ℕ) (o : Outcome) (q : Place) → Fits p xs o q → Stops (cap_outcome o) → q ≡ p
place-stays p xs o q (takes w ys e q' a b c d f g) h = absurd h
place-stays p xs o q (wrong w ys c b e f g h) s = refl
place-stays p xs o q (deep b) h = refl
place-stays p xs o q (stops a b c) h = refl
place-stays p xs o q (rests a b) h = refl

-- IT MOVES NO FURTHER: the reader after a fault, or when the bytes ran out, is the one before.
pub read_stays : (r : ReaderView) → Stops (read_next r).outcome → (read_next r).reader ≡ r
read_stays r h = ap (reader_at r.bytes) (place-stays r.place (drop r.place.at r.bytes.now) (step r.place r.bytes.now).outcome
    (step r.place r.bytes.now).place (step_fits r.bytes.now r.place (drop r.place.at r.bytes.now) refl) h)
