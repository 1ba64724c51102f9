-- The same of a term's nodes in prefix order.
use Rattle.std.specs.Prelude.{ℕ, ◌+◌, ◌-◌, ◌&&◌, ◌==◌, List, [], ◌∷◌, ◌++◌, Bool, false, codes, Option, Some, None, if◌then◌else◌}
use Rattle.prolog_terms.specs.Clauses.{is_named, is_connective}
use Rattle.prolog_terms.specs.declared.node.Node.{Node}
use Rattle.prolog_terms.specs.declared.node.Node.TheVariants.{Var, Int, Atom, Functor}
use Rattle.prolog_clauses.specs.Renaming.{with_variable, place_of}

-- how many nodes the first k trees have
abbrev pub span : ℕ → List Node → ℕ
span k [] = 0
span k (Var n ∷ ns) = if k == 0 then 0 else 1 + span (k - 1) ns
span k (Int z ∷ ns) = if k == 0 then 0 else 1 + span (k - 1) ns
span k (Atom a ∷ ns) = if k == 0 then 0 else 1 + span (k - 1) ns
span k (Functor f n ∷ ns) = if k == 0 then 0 else 1 + span (k - 1 + n) ns

-- whether they are those of a rule
abbrev pub begins_rule : List Node → Bool
begins_rule (Functor f n ∷ ns) = is_named (codes ":-") f && n == 2
begins_rule _ = false

-- whether they are those of a compound of this name and so many arguments
abbrev pub begins_with : List ℕ → ℕ → List Node → Bool
begins_with name k (Functor f n ∷ ns) = is_named name f && n == k
begins_with name k _ = false

-- how many nodes of a goal stand before the next goal; none where it can be no goal
abbrev pub goal_len : List Node → Option ℕ
goal_len [] = None
goal_len (Var n ∷ ns) = None
goal_len (Int z ∷ ns) = None
goal_len (Atom a ∷ ns) = Some 1
goal_len (Functor f n ∷ ns) = Some (if is_connective f && n == 2 then 1 else span 1 (Functor f n ∷ ns))

-- how many trees stand behind a node before its own tree ends
abbrev pub arity_of : Node → ℕ
arity_of (Var n) = 0
arity_of (Int z) = 0
arity_of (Atom a) = 0
arity_of (Functor f n) = n

-- how many trees stand behind the first node of a goal before the next goal
abbrev pub trees_behind : Node → ℕ
trees_behind (Var n) = 0
trees_behind (Int z) = 0
trees_behind (Atom a) = 0
trees_behind (Functor f n) = if is_connective f && n == 2 then 0 else n

-- the nodes that stand for the first node of a goal; none for an integer
abbrev pub goal_nodes : Node → Option (List Node)
goal_nodes (Var n) = Some (Functor (codes "call") 1 ∷ Var n ∷ [])
goal_nodes (Int z) = None
goal_nodes (Atom a) = Some (Atom a ∷ [])
goal_nodes (Functor f n) = Some (Functor f n ∷ [])

abbrev pub and_nodes : Option (List Node) → Option (List Node) → Option (List Node)
and_nodes None ms = None
and_nodes (Some ns) None = None
and_nodes (Some ns) (Some ms) = Some (ns ++ ms)

-- the nodes of a body, of which so many trees are left before the next goal; none where an integer stands as a goal
abbrev pub body_nodes : ℕ → List Node → Option (List Node)
body_nodes k [] = Some []
body_nodes k (n ∷ ns) = if k == 0 then and_nodes (goal_nodes n) (body_nodes (trees_behind n) ns) else and_nodes (Some (n ∷ [])) (body_nodes (k - 1 + arity_of n) ns)

-- a list of variables after one of the node
abbrev pub met_with : List ℕ → Node → List ℕ
met_with met (Var n) = with_variable met n
met_with met (Int z) = met
met_with met (Atom a) = met
met_with met (Functor f n) = met

abbrev pub node_numbered : List ℕ → Node → Node
node_numbered met (Var n) = Var (place_of n met)
node_numbered met (Int z) = Int z
node_numbered met (Atom a) = Atom a
node_numbered met (Functor f n) = Functor f n

-- a list of variables after those of nodes
abbrev pub met_after_nodes : List ℕ → List Node → List ℕ
met_after_nodes met [] = met
met_after_nodes met (n ∷ ns) = met_after_nodes (met_with met n) ns

-- nodes whose variables are numbered by place, each new one behind the list
abbrev pub numbered_nodes : List ℕ → List Node → List Node
numbered_nodes met [] = []
numbered_nodes met (n ∷ ns) = node_numbered met n ∷ numbered_nodes (met_with met n) ns
