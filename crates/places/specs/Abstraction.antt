-- How code holds a place and a step. Assumes nothing.
use Rattle.theory_reading.specs.Element as T
use Rattle.places.specs.declared.Place.{Place}
use Rattle.places.specs.declared.Stepped.{Stepped}
use Rattle.elements.specs.Abstraction.{context_of, ref_of, outcome_of, open_list}

abbrev pub place_of : Place → T.Place
place_of p = T.place p.at (context_of p.context) (open_list p.opens) (ref_of p.last)

abbrev pub stepped_of : Stepped → T.Step
stepped_of r = record { outcome = outcome_of r.outcome; place = place_of r.place }
