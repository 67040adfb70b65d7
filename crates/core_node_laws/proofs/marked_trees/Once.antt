-- One statement that is marked makes one node.
use Rattle.std.proofs.Common.{arith, ◌≡◌, ◌<◌, ◌≤◌, ℕ, Bool, true, false, ◌||◌, List, length, get_or, zero, suc, [], ◌∷◌, refl, sym, ap, ◌∙◌, subst}
use Rattle.core_tree.specs.declared.node.NodeKind.{NodeKind}
use Rattle.core_tree.specs.declared.node.NodeKind.TheVariants.{Named, FunctionName, Literal, VarArgs, Block, For, Initialise}
use Rattle.c_grammar.specs.Productions.{p_block, p_statement}
use Rattle.c_consts.specs.Core.{Core}
use Rattle.core_nodes.specs.passed.c_senses.Tree.{is_a}
use Rattle.core_nodes.specs.passed.c_senses.Sense.{Sense, Nothing, IsCore}
use Rattle.parsed_tree_laws.specs.ordered_parts.Ordered.{Beneath, itself, under}
use Rattle.core_node_laws.proofs.standing_laws.Walking.{Blind}
use Rattle.core_node_laws.specs.marked_trees.Marked.{MarksOnly, MarkedOnce}
use Rattle.core_node_laws.proofs.marked_trees.Marks.{number, marking, IsPlain, marks, marks_of}
use Rattle.core_node_laws.proofs.marked_trees.Trees.{few_marks}
use Rattle.core_node_laws.proofs.marked_trees.Nodes.{every_way, one_mark}

abbrev pub never : NodeKind → Bool
never kind = false

pub blind_never : Blind never
blind_never kind = refl

pub marks_plain : (marked : NodeKind → Bool) → MarksOnly marked → IsPlain (marking marked)
marks_plain marked only kind parts e = ap number (only kind e)

-- a test of marks looks at no number of an entity
pub marks_blind : (marked : NodeKind → Bool) → MarksOnly marked → Blind marked
marks_blind marked only (Named e) = only (Named e) refl ∙ sym (only (Named 0) refl)
marks_blind marked only (FunctionName e) = only (FunctionName e) refl ∙ sym (only (FunctionName 0) refl)
marks_blind marked only (Literal e) = only (Literal e) refl ∙ sym (only (Literal 0) refl)
marks_blind marked only (VarArgs e) = only (VarArgs e) refl ∙ sym (only (VarArgs 0) refl)
marks_blind marked only (Initialise e paths) = only (Initialise e paths) refl ∙ sym (only (Initialise 0 paths) refl)
marks_blind marked only (Block es) = only (Block es) refl ∙ sym (only (Block []) refl)
marks_blind marked only (For es c a) = only (For es c a) refl ∙ sym (only (For [] c a) refl)
marks_blind marked only kind = refl

right_on : (a b : Bool) → b ≡ true → (a || b) ≡ true
right_on true b e = refl
right_on false b e = e

sense_there : (list : List Sense) (i : ℕ) (c : Core) → get_or list i Nothing ≡ IsCore c → i < length list
sense_there [] i c e = cc
sense_there (y ∷ list) zero c e = omega arith
sense_there (y ∷ list) (suc i) c e = let more = sense_there list i c e in omega (arith, more)

pub marked_once : MarkedOnce
marked_once s senses numbering u grown counted made runs rows marked only block b p core is sensed stands sole x y m n at_x at_y mark_x mark_y under_x under_y =
    let plain = marks_plain marked only in
    let few =
    few_marks s senses grown made.are_senses made.whole counted runs marked never plain (Beneath s block) p (λ i c beneath st se mk. sole i c beneath st se mk) (λ i d c beneath inner se goes child. under child beneath) (λ es. refl) block
    (sense_there senses block core sensed) itself (right_on (is_a s p_statement block) (is_a s p_block block) is) in
    let value : marks (marking marked) never core ≤ 1 = subst (λ (z : Sense). marks_of (marking marked) never z ≤ 1) sensed few.0 in
    one_mark marked never plain (marks_blind marked only) blind_never numbering u rows core b x y stands value (every_way u never (λ kind. refl) b x under_x) (every_way u never (λ kind. refl) b y under_y) (m, at_x, mark_x) (n, at_y, mark_y)
