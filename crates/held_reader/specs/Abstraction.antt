-- How code holds a reader, and what one element on comes to. Assumes nothing.
use Rattle.elements.specs.Abstraction.{outcome_of}
use Rattle.places.specs.Abstraction.{place_of}
use Rattle.held_reader.specs.Held.{ReaderView, ReadView, reader_at}
use Rattle.held_reader.specs.declared.Reader.{Reader}
use Rattle.held_reader.specs.declared.Read.{Read}

abbrev pub reader_of : Reader → ReaderView
reader_of r = reader_at r.bytes (place_of r.place)

abbrev pub read_of : Read → ReadView
read_of r = record { outcome = outcome_of r.outcome; reader = reader_of r.reader }
