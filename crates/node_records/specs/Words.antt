-- What a record says of the words below its node: whether some is yes, and whether some is no. Assumes nothing.
use Rattle.std.specs.Prelude.{Bool, true, false, cond, not, ◌||◌, eqb}
use Rattle.theory_lists.specs.Lists.{differ}
use Rattle.node_records.specs.declared.Edge.{Edge}
use Rattle.node_records.specs.declared.NodeRecord.{NodeRecord}

-- some word below what e stands for is yes; x: the record of its number. The terminal is no, turned about or not
abbrev pub some_yes : NodeRecord → Edge → Bool
some_yes x e = cond (eqb e.number 0) e.complement (cond e.complement (not (eqb x.refuses 0)) (not (eqb x.admits 0)))

-- the children of the node of x, turned about if c
abbrev pub first_child : NodeRecord → Bool → Edge
first_child x c = record { number = x.first; complement = c }

abbrev pub second_child : NodeRecord → Bool → Edge
second_child x c = record { number = x.second; complement = differ (not (eqb x.complement 0)) c }

-- some word below the node of x is yes, turned about if c; a, b: the records of its children
abbrev pub some_below : NodeRecord → NodeRecord → NodeRecord → Bool → Bool
some_below x a b c = some_yes a (first_child x c) || some_yes b (second_child x c)

-- the record x with what the records a and b of its children say
abbrev pub with_words : NodeRecord → NodeRecord → NodeRecord → NodeRecord
with_words x a b = record {
  level = x.level;
  first = x.first;
  second = x.second;
  complement = x.complement;
  stamp = x.stamp;
  parents = x.parents;
  admits = cond (some_below x a b false) 1 0;
  refuses = cond (some_below x a b true) 1 0;
}
