-- Loading a stream and searching it at once: what is answered for every input, and how code comes to it. Assumes nothing.
use Rattle.std.specs.Prelude.{◌≡◌, refl, Bool, List, ℕ, ◌<◌, ◌≤◌, ◌^◌, length, Option, Some, None, is_none}
use Rattle.std.proofs.Common.{sym, ap, ap₂, ◌∙◌}
use Rattle.theory_reading.specs.Limits.{option_limit, table_limit, word_limit}
use Rattle.node_records.specs.Records.{no_record}
use Rattle.node_records.specs.declared.NodeRecord.{NodeRecord}
use Rattle.record_tables.specs.Entries.{clear_to}
use Rattle.cursors.specs.declared.Cursor.{Cursor}
use Rattle.elements.specs.declared.Open.{Open}
use Rattle.reader.specs.declared.Reached.{Reached}
use Rattle.reader.specs.OpenNodes.{ReadReached, reached_in, cursor_in}
use Rattle.reader.specs.ReadOn.{read_from}
use Rattle.blocks.specs.Load.{LoadTo, load_of, load, load-on, load-bare}
use Rattle.finder.specs.SeekLegs.{to_end, rest-way}
use Rattle.finder.specs.Seeking.{Finds}
use Rattle.finder.specs.TextSearch.{SearchTo, searched, search_text, word_of, text-correct}

-- ---- Definitions -----------------------------------------------------------------------------

-- what loading comes to, and a word
pub record LoadFromTo : Type 0 where
  pub loaded : LoadTo
  pub word : ℕ

abbrev pub loaded_from : LoadTo → ℕ → LoadFromTo
loaded_from x w = record { loaded = x; word = w }

-- LOADING A STREAM AND SEARCHING IT: what loading comes to, with the table as it leaves it, and the word that the search comes to
abbrev pub load_from : ℕ → List ℕ → ℕ → Bool → List NodeRecord → LoadFromTo
load_from n bytes w v t = loaded_from (load n bytes t) (search_text n bytes w v t).word

-- ---- The ways through code -------------------------------------------------------------------

module _ (n : ℕ) (bytes : List ℕ) (w : ℕ) (v : Bool) (t : List NodeRecord) where
  -- Where nothing is searched.
  pub from-loaded : (x : LoadTo) → x ≡ load n bytes t → searched w t ≡ search_text n bytes w v t → loaded_from x w ≡ load_from n bytes w v t
  from-loaded x e k = ap₂ loaded_from e (ap (λ (y : SearchTo). y.word) k)

  -- q, os, u: what the search reaches, the open nodes and the table then; o: its word; a: the word that is answered, as code has it
  module _ (few : n ≤ option_limit) (room : table_limit ≤ length t) (l : w < 2 ^ n) (q : Reached) (os : List Open) (o : Option ℕ) (u : List NodeRecord)
      (h : Finds n bytes w v (reached_in q os) o u t) (a : ℕ) (ae : a ≡ word_of q.run.covered o w) where
    word : a ≡ (search_text n bytes w v t).word
    word = ap (λ (y : SearchTo). y.word)
        (text-correct n bytes w v t few room l (reached_in q os) o u h a ae (clear_to no_record u (length u)) refl)

    -- The search has read the stream to its end. x: what is loaded then
    pub from-ended : o ≡ None → (x : LoadTo) → x ≡ load_of (record { reached = reached_in q os; table = u })
        → loaded_from x a ≡ load_from n bytes w v t
    from-ended e x xe = ap₂ loaded_from
        (xe
        ∙ load-bare (record { reached = reached_in q os; table = u }) (to_end n bytes t) (h.seeks.way.halts (h.halts ∙ ap is_none e))
        ∙ sym (load-on n bytes t few room)) word

    -- The rest is read. c: where it begins; y, z: what is reached then, and the table
    pub from-rest : (k : ℕ) → o ≡ Some k → (c : Cursor) → c ≡ record { run = q.run; depth = q.depth } → (y : ReadReached) (z : List NodeRecord)
        → record { reached = y; table = z } ≡ read_from n bytes word_limit (cursor_in c os) u → (x : LoadTo) → x ≡ load_of (record { reached = y; table = z })
        → loaded_from x a ≡ load_from n bytes w v t
    from-rest k e c ce y z called x xe = ap₂ loaded_from
        (xe
        ∙ load-bare (record { reached = y; table = z }) (to_end n bytes t)
        (rest-way n bytes few t (reached_in q os) u h.seeks.way (h.halts ∙ ap is_none e) h.seeks.reached.stands y z
        (called ∙ ap (λ (c : Cursor). read_from n bytes word_limit (cursor_in c os) u) ce))
        ∙ sym (load-on n bytes t few room)) word
