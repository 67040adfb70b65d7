-- What a node is to the steps of a frame: which statement, or how an expression takes its operands.
use Rattle.std.specs.Prelude.{ℕ, ◌==◌, Bool, true, false, if◌then◌else◌, List, [], ◌∷◌, Option, Some, None, take}
use Rattle.core_tree.specs.declared.node.NodeKind.{NodeKind}
use Rattle.ref_blocks.specs.Loops.{after_at, after_of, body_of}
use Rattle.ref_statements.specs.declared.forms.Form.{Form}

abbrev pub form_of : NodeKind → Form
form_of NodeKind.Choose = Form.Choose
form_of NodeKind.Sequence = Form.Sequence
form_of NodeKind.Expression = Form.Plain
form_of NodeKind.Skip = Form.Plain
form_of (NodeKind.Initialise e paths) = Form.Initialise
form_of (NodeKind.Case n) = Form.Label
form_of NodeKind.Default = Form.Label
form_of (NodeKind.Label name) = Form.Label
form_of (NodeKind.Block entities) = Form.Compound
form_of NodeKind.If = Form.If
form_of NodeKind.While = Form.While
form_of NodeKind.DoWhile = Form.DoWhile
form_of (NodeKind.For entities condition after) = Form.For condition after
form_of NodeKind.Switch = Form.Switch
form_of NodeKind.Break = Form.Break
form_of NodeKind.Continue = Form.Continue
form_of (NodeKind.Goto name) = Form.Goto
form_of NodeKind.Return = Form.Return
form_of kind = Form.Value

-- the label to which a goto goes
abbrev pub goto_name : NodeKind → List ℕ
goto_name (NodeKind.Goto name) = name
goto_name kind = []

-- a statement that is a block
abbrev pub opens : Form → Bool
opens Form.Compound = true
opens Form.If = true
opens Form.While = true
opens Form.DoWhile = true
opens (Form.For condition after) = true
opens Form.Switch = true
opens form = false

abbrev pub first_only : List ℕ → List ℕ
first_only children = take 1 children

-- what a statement waits for when it is begun: a For for its first statements and its condition
abbrev pub awaited : Form → List ℕ → List ℕ
awaited Form.If children = first_only children
awaited Form.While children = first_only children
awaited Form.Switch children = first_only children
awaited (Form.For condition after) children = take (after_at after children) children
awaited form children = children

-- the two branches that are left to a Choose
abbrev pub branches : Form → List ℕ → Option (ℕ × ℕ)
branches Form.Choose (a ∷ b ∷ []) = Some (a, b)
branches form operands = None

-- the body of a For is left before what it does after a turn is taken
abbrev pub part_after : List ℕ → List ℕ → ℕ → Option ℕ
part_after (v ∷ []) (part ∷ []) next = if v == next then Some part else None
part_after after body next = None

-- the body that a statement leaves before it takes an operand: that of a `do`, or of a For, after a turn
abbrev pub part_before : Form → List ℕ → ℕ → Option ℕ
part_before Form.DoWhile (part ∷ c ∷ []) next = Some part
part_before (Form.For condition after) children next = part_after (after_of after children) (body_of children) next
part_before form children next = None
