-- What a node refers to, and the table of stored nodes, as reading and writing both have them
-- (document 01, "The stream", the paragraphs on stored and kept nodes). Assumes nothing.
use Rattle.std.specs.Prelude.{Bool, true, false, not, ◌||◌, List, [], ◌∷◌, ℕ, eqb, get_or}

-- ---- What a node refers to -------------------------------------------------------------------

-- "A is *kept* if it is `0`, a number, a node that was given a number, or `(A)` around a kept one. Any other node is *temporary*."
--   terminal: the constant
--   entry k g: the number k, with its stamp: how often it had been given out when the node got it
pub data Ref : Type 0 where
  terminal : Ref
  entry : ℕ → ℕ → Ref
  temporary : Ref

abbrev pub is_kept : Ref → Bool
is_kept terminal = true
is_kept (entry k g) = true
is_kept temporary = false

-- A child as a record of the table has it: its number, 0 for the terminal.
abbrev pub child : Ref → ℕ
child terminal = 0
child (entry k g) = k
child temporary = 0

-- ---- The table of stored nodes ---------------------------------------------------------------

-- A record of the table: the level of the node that is stored (0: none), its children, whether the edge to the second is complemented
-- (document 01: `~`), and the stamp: how often its number has been given out.
pub record Node : Type 0 where
  pub level : ℕ
  pub first : ℕ
  pub second : ℕ
  pub complement : Bool
  pub stamp : ℕ

abbrev pub new_node : ℕ → ℕ → ℕ → Bool → ℕ → Node
new_node i a b t g = record { level = i; first = a; second = b; complement = t; stamp = g }

abbrev pub no_node : Node
no_node = new_node 0 0 0 false 0

-- Number k stands at place k of the table; place 0 has no node.
abbrev pub node : List Node → ℕ → Node
node t k = get_or t k no_node

abbrev pub stamp : List Node → ℕ → ℕ
stamp t k = (node t k).stamp

-- k is a child of this node
abbrev pub is_child : ℕ → Node → Bool
is_child k x = eqb x.first k || eqb x.second k

-- k is "a child of a stored node"
unfoldable pub has_parent : List Node → ℕ → Bool
has_parent [] k = false
has_parent (x ∷ t) k = is_child k x || has_parent t k

-- A child bars its parent from storing if it is temporary or "its number given out again since".
abbrev pub bars : List Node → Ref → Bool
bars t terminal = false
bars t (entry k g) = not (eqb (stamp t k) g)
bars t temporary = true
