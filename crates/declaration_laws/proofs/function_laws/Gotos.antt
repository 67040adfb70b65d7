-- Each goto of a function's body has its label there, once.
use Rattle.std.proofs.Common.{arith, ◌≡◌, ◌<◌, ◌≤◌, ℕ, zero, suc, nat_eq, Bool, true, false, ◌&&◌, ◌||◌, List, [], ◌∷◌, length, get_or, Some, slice_get, refl, sym, ap, ◌∙◌, subst, inl, inr}
use Rattle.std.specs.Cmp.Lexicographic.{pointwise}
use Rattle.std.proofs.lemmas.Bool.{eqb-true}
use Rattle.c_lexer.specs.declared.TokenKind.{TokenKind}
use Rattle.c_lexer.specs.declared.TokenKind.TheVariants.{Identifier, Keyword, Punctuator, Integer, Floating, Character, Text, End}
use Rattle.core_tree.specs.declared.node.Unit.{Unit}
use Rattle.core_tree.specs.declared.node.Node.{Node}
use Rattle.core_tree.specs.declared.node.NodeKind.{NodeKind}
use Rattle.core_tree.specs.declared.node.NodeKind.TheVariants.{Label, Goto}
use Rattle.core_tree.specs.Typed.{trees_of}
use Rattle.core_tree.specs.Range.{Under}
use Rattle.core_tree.specs.Valid.{InRows, IsLabel, LabelOnce}
use Rattle.c_grammar.specs.Productions.{p_block, p_statement}
use Rattle.c_grammar.specs.Words.{sign_semicolon}
use Rattle.c_consts.specs.Core.{Core, Of, kind_of}
use Rattle.c_senses.specs.Tree.{Source, is_a, is_leaf, is_name, is_identifier, is_number, has_sign, sign_of_kind, kind_at, spelling_at, children_at, first_where}
use Rattle.c_senses.specs.Sense.{Sense, Nothing, IsCore, sense_in}
use Rattle.c_senses.specs.Right.{Numbering}
use Rattle.parsed_tree_laws.specs.counted_parts.Counted.{CountedParts}
use Rattle.parsed_tree_laws.specs.ordered_parts.Ordered.{Beneath, itself, under}
use Rattle.parsed_tree_laws.specs.statement_shapes.Shaped.{ShapedStatements}
use Rattle.declaration_laws.specs.label_names.Labels.{IsBody, IsLabelled, LabelsBound}
use Rattle.declaration_laws.specs.passed.core_node_laws.standing_laws.Standing.{IsGrown, IsMade, RunsInitialise}
use Rattle.declaration_laws.proofs.passed.core_node_laws.standing_laws.Bodies.{FunctionBlock}
use Rattle.declaration_laws.proofs.passed.core_node_laws.standing_laws.Descending.{F, W}
use Rattle.declaration_laws.specs.passed.core_node_laws.marked_trees.Marked.{MarksOnly}
use Rattle.declaration_laws.proofs.passed.core_node_laws.marked_trees.Marks.{number, marking, marks, marks_of}
use Rattle.declaration_laws.proofs.passed.core_node_laws.marked_trees.Trees.{found_mark}
use Rattle.declaration_laws.proofs.passed.core_node_laws.marked_trees.Nodes.{every_way, some_mark, node_found}
use Rattle.declaration_laws.proofs.passed.core_node_laws.marked_trees.Once.{never, blind_never, marks_plain, marks_blind, marked_once}
use Rattle.declaration_laws.proofs.function_laws.Says.{SaysOf, is_jump, label_core}
use Rattle.declaration_laws.proofs.function_laws.Parts.{Begun, begun, body_holds}

both : (a b : Bool) → (a && b) ≡ true → (a ≡ true) × (b ≡ true)
both true b e = (refl, e)
both false b e = cc

both_on : (a b : Bool) → a ≡ true → b ≡ true → (a && b) ≡ true
both_on true b e f = f
both_on false b e f = cc

left_on : (a b : Bool) → a ≡ true → (a || b) ≡ true
left_on true b e = refl
left_on false b e = cc

right_on : (a b : Bool) → b ≡ true → (a || b) ≡ true
right_on true b e = refl
right_on false b e = e

-- ---- names as lists of bytes

same_bytes : (xs ys : List ℕ) → pointwise nat_eq xs ys ≡ true → xs ≡ ys
same_bytes [] [] e = refl
same_bytes [] (y ∷ ys) e = cc
same_bytes (x ∷ xs) [] e = cc
same_bytes (x ∷ xs) (y ∷ ys) e =
    let parts = both (nat_eq x y) (pointwise nat_eq xs ys) e in
    ap (λ (n : ℕ). n ∷ xs) (eqb-true x y parts.0) ∙ ap (λ (l : List ℕ). y ∷ l) (same_bytes xs ys parts.1)

bytes_same : (xs : List ℕ) → pointwise nat_eq xs xs ≡ true
bytes_same [] = refl
bytes_same (x ∷ xs) = both_on (nat_eq x x) (pointwise nat_eq xs xs) (same x) (bytes_same xs)
  where
    same : (n : ℕ) → nat_eq n n ≡ true
    same n = grind (arith)

abbrev is_label : List ℕ → NodeKind → Bool
is_label name (Label other) = pointwise nat_eq other name
is_label name kind = false

abbrev is_goto : List ℕ → NodeKind → Bool
is_goto name (Goto other) = pointwise nat_eq other name
is_goto name kind = false

labels_only : (name : List ℕ) → MarksOnly (is_label name)
labels_only name (Label other) e = cc
labels_only name kind e = refl

gotos_only : (name : List ℕ) → MarksOnly (is_goto name)
gotos_only name (Goto other) e = cc
gotos_only name kind e = refl

label_is : (name : List ℕ) (kind : NodeKind) → is_label name kind ≡ true → kind ≡ Label name
label_is name (Label other) e = ap Label (same_bytes other name e)
label_is name kind e = cc

goto_is : (name : List ℕ) (kind : NodeKind) → is_goto name kind ≡ true → kind ≡ Goto name
goto_is name (Goto other) e = ap Goto (same_bytes other name e)
goto_is name kind e = cc

is_label_of : (name : List ℕ) (kind : NodeKind) → IsLabel name kind → is_label name kind ≡ true
is_label_of name (Label other) h = subst (λ (x : List ℕ). pointwise nat_eq other x ≡ true) h (bytes_same other)
is_label_of name kind h = absurd h

of_label : (name : List ℕ) (kind : NodeKind) → is_label name kind ≡ true → IsLabel name kind
of_label name (Label other) h = same_bytes other name h
of_label name kind h = cc

sense_there : (list : List Sense) (i : ℕ) (c : Core) → get_or list i Nothing ≡ IsCore c → i < length list
sense_there [] i c e = cc
sense_there (y ∷ list) zero c e = omega arith
sense_there (y ∷ list) (suc i) c e = let more = sense_there list i c e in omega (arith, more)

core_same : (a b : Core) → IsCore a ≡ IsCore b → a ≡ b
core_same a b e = cc

-- a label of that name
pub record HasNamed (s : Source) (block : ℕ) (spelling : List ℕ) : Type 0 where
  pub statement : ℕ
  pub name : ℕ
  pub labelled : IsLabelled s block statement name
  pub spelled : spelling_at s name ≡ spelling

module _
    (s : Source) (senses : List Sense) (numbering : Numbering) (u : Unit) (grown : IsGrown s) (made : IsMade s senses numbering u) (counted : CountedParts s) (runs : RunsInitialise senses) (shaped : ShapedStatements s) (labels : LabelsBound s)
    (rows : InRows (trees_of u))
  where
    abbrev sense : ℕ → Sense
    sense i = sense_in senses i

    -- a statement that stands for a label or a goto is begun by a leaf
    record Jump (i : ℕ) (kind : NodeKind) : Type 0 where
      first : ℕ
      rest : List ℕ
      children : children_at s i ≡ first ∷ rest
      says : SaysOf s (first ∷ rest) kind

    jump : (i : ℕ) (c : Core) → is_a s p_statement i ≡ true → sense i ≡ IsCore c → is_jump (kind_of c) ≡ true → Jump i (kind_of c)
    jump i c is sensed jumps = by (begun s senses grown made.are_senses made.whole counted runs shaped (marking (is_label [])) never (marks_plain (is_label []) (labels_only [])) i (sense_there senses i c sensed) is)
      where
        by : Begun s senses grown made.are_senses made.whole counted runs shaped (marking (is_label [])) never (marks_plain (is_label []) (labels_only [])) i → Jump i (kind_of c)
        by (inl b) =
            let same = core_same b.core c (sym b.sensed ∙ sensed) in
            record { first = b.first; rest = b.rest; children = b.children; says = subst (λ (y : Core). SaysOf s (b.first ∷ b.rest) (kind_of y)) same b.says.1 }
        by (inr (inl b)) =
            let same = core_same b.core c (sym b.sensed ∙ sensed) in
            let never_is : true ≡ false = sym jumps ∙ (ap (λ (y : Core). is_jump (kind_of y)) (sym same) ∙ b.quiet) in
            cc
        by (inr (inr b)) =
            let same = core_same b.core c (sym (b.same ∙ b.sensed) ∙ sensed) in
            let never_is : true ≡ false = sym jumps ∙ (ap (λ (y : Core). is_jump (kind_of y)) (sym same) ∙ ap is_jump b.kind) in
            cc

    -- the body of a function
    module _ (b : ℕ) (block : FunctionBlock s senses numbering u grown made b) where
      body : IsBody s block.block
      body = record { external = block.external; is_external = block.is_external; is_block = block.is_block; part = block.part }

      -- a label beneath stands for its name
      labelled_sense : (p a : ℕ) → IsLabelled s block.block p a → p < length senses → (c : Core) × (sense p ≡ IsCore c) × (kind_of c ≡ Label (spelling_at s a))
      labelled_sense p a l inside = by (begun s senses grown made.are_senses made.whole counted runs shaped (marking (is_label [])) never (marks_plain (is_label []) (labels_only [])) p inside l.statement)
        where
          heads : (x y : ℕ) (xs ys : List ℕ) → x ∷ xs ≡ y ∷ ys → x ≡ y
          heads x y xs ys e = cc

          lf_name : is_leaf s a ≡ true
          lf_name = (both (is_leaf s a) (is_identifier (kind_at s a)) l.named).0

          no_sign : has_sign s sign_semicolon a ≡ false
          no_sign = sign (is_leaf s a) (kind_at s a) (both (is_leaf s a) (is_identifier (kind_at s a)) l.named).1
            where
              sign : (x : Bool) (k : TokenKind) → is_identifier k ≡ true → (x && is_number (sign_of_kind k) sign_semicolon) ≡ false
              sign true Identifier e = refl
              sign false Identifier e = refl
              sign x (Keyword k) e = cc
              sign x (Punctuator k) e = cc
              sign x Integer e = cc
              sign x Floating e = cc
              sign x Character e = cc
              sign x Text e = cc
              sign x End e = cc

          by : Begun s senses grown made.are_senses made.whole counted runs shaped (marking (is_label [])) never (marks_plain (is_label []) (labels_only [])) p → (c : Core) × (sense p ≡ IsCore c) × (kind_of c ≡ Label (spelling_at s a))
          by (inl y) =
              let same = heads y.first a y.rest l.rest (sym y.children ∙ l.children) in (
                y.core,
                y.sensed,
                label_core (W s senses grown made.are_senses made.whole p) s (F s senses grown made.are_senses made.whole p) p (y.first ∷ y.rest) y.core (subst (λ (z : ℕ). has_sign s sign_semicolon z ≡ false) (sym same) no_sign) (subst (λ (z : ℕ). is_name s z ≡ true) (sym same) l.named) y.row
                    ∙ ap (λ (z : ℕ). Label (spelling_at s z)) same,
              )
          by (inr (inl y)) =
              let same = heads y.first a y.rest l.rest (sym y.children ∙ l.children) in
              let no : is_leaf s a ≡ false = subst (λ (z : ℕ). is_leaf s z ≡ false) same y.no_leaf in
              let never_is : true ≡ false = sym lf_name ∙ no in
              cc
          by (inr (inr y)) =
              let same = heads y.first a y.rest l.rest (sym y.children ∙ l.children) in
              let no : is_leaf s a ≡ false = subst (λ (z : ℕ). is_leaf s z ≡ false) same y.no_leaf in
              let never_is : true ≡ false = sym lf_name ∙ no in
              cc

      block_within : (is_a s p_statement block.block || is_a s p_block block.block) ≡ true
      block_within = right_on (is_a s p_statement block.block) (is_a s p_block block.block) block.is_block

      -- the goto of a node
      pub goto_there : (n : ℕ) (node : Node) (name : List ℕ) → slice_get u.nodes.items n ≡ Some node → node.kind ≡ Goto name → Under (trees_of u) b n → HasNamed s block.block name
      goto_there n node name at is up =
          let mark : is_goto name node.kind ≡ true = ap (is_goto name) is ∙ bytes_same name in
          let some = some_mark (is_goto name) never (marks_plain (is_goto name) (gotos_only name)) (marks_blind (is_goto name) (gotos_only name)) blind_never numbering u rows block.core b n block.stands (every_way u never (λ kind. refl) b n up) (node, at, mark) in
          let tree : 1 ≤ marks_of (marking (is_goto name)) never (sense block.block) = subst (λ (y : Sense). 1 ≤ marks_of (marking (is_goto name)) never y) (sym block.sensed) some in
          let found = found_mark s senses grown made.are_senses made.whole counted runs (is_goto name) never (marks_plain (is_goto name) (gotos_only name)) block.block block.inside block_within tree in
          let kind = goto_is name (kind_of found.core) found.mark in
          let told = jump found.statement found.core found.is found.sensed (ap is_jump kind) in
          let says : SaysOf s (told.first ∷ told.rest) (Goto name) = subst (λ (k : NodeKind). SaysOf s (told.first ∷ told.rest) k) kind told.says in
          let c = says.1.0 in
          let has = labels.there block.block found.statement told.first c told.rest body found.beneath found.is told.children says.0 (ap (first_where (is_name s)) told.children ∙ says.1.1) in
          record { statement = has.statement; name = has.name; labelled = has.labelled; spelled = has.spelled ∙ sym says.1.2 }

      -- the label of a name
      pub label_once : (name : List ℕ) → HasNamed s block.block name → LabelOnce (trees_of u) b name
      label_once name has =
          let p = has.statement in
          let inside : p < length senses = beneath_inside p has.labelled.beneath in
          let told = labelled_sense p has.name has.labelled inside in
          let kind : kind_of told.0 ≡ Label name = told.2 ∙ ap Label has.spelled in
          let mark : is_label name (kind_of told.0) ≡ true = ap (is_label name) kind ∙ bytes_same name in
          let own : 1 ≤ marks (marking (is_label name)) never told.0 = marked_core (is_label name) told.0 mark in
          let tree : 1 ≤ marks_of (marking (is_label name)) never (sense p) = subst (λ (y : Sense). 1 ≤ marks_of (marking (is_label name)) never y) (sym told.1) own in
          let holds = body_holds s senses grown made.are_senses made.whole counted runs shaped (marking (is_label name)) never (marks_plain (is_label name) (labels_only name)) (λ kind. refl) block.block block.is_block block.inside p (left_on (is_a s p_statement p) (is_a s p_block p) has.labelled.statement) has.labelled.beneath in
          let value : marks_of (marking (is_label name)) never (sense block.block) ≡ marks (marking (is_label name)) never block.core = ap (marks_of (marking (is_label name)) never) block.sensed in
          let found = node_found (is_label name) never (marks_blind (is_label name) (labels_only name)) numbering u block.core b block.stands (omega (arith, tree, holds, value)) in
          let once = marked_once s senses numbering u grown counted made runs rows (is_label name) (labels_only name) block.block b p block.core block.is_block block.sensed block.stands (λ i c beneath st se mk. sole name has i c beneath st se mk) in
          record {
            some = (
              found.place,
              found.node,
              found.there,
              (
                (of_label name found.node.kind found.mark, found.beneath),
                record { each = λ m other at h. once found.place m found.node other found.there at found.mark (is_label_of name other.kind h.0) found.beneath h.1 },
              ),
            );
          }
        where
          marked_core : (marked : NodeKind → Bool) (c : Core) → marked (kind_of c) ≡ true → 1 ≤ marks (marking marked) never c
          marked_core marked (Of kind place type parts) e = let value : number (marked kind) ≡ 1 = ap number e in omega (arith, value)

          small : (top p : ℕ) → Beneath s top p → p ≤ top
          small top p itself = omega arith
          small top p (under {q = q} part above) = let lt = grown.first q part.0 p part.1 in let le = small top q above in omega (arith, lt, le)

          beneath_inside : (p : ℕ) → Beneath s block.block p → p < length senses
          beneath_inside p above = let le = small block.block p above in let lt = block.inside in omega (arith, le, lt)

          sole : (name : List ℕ) (has : HasNamed s block.block name) (i : ℕ) (c : Core) → Beneath s block.block i → is_a s p_statement i ≡ true → sense i ≡ IsCore c → is_label name (kind_of c) ≡ true → i ≡ has.statement
          sole name has i c beneath st se mk =
              let kind = label_is name (kind_of c) mk in
              let told = jump i c st se (ap is_jump kind) in
              let says : SaysOf s (told.first ∷ told.rest) (Label name) = subst (λ (k : NodeKind). SaysOf s (told.first ∷ told.rest) k) kind told.says in
              labels.once block.block i has.statement told.first has.name body (record { beneath = beneath; statement = st; rest = told.rest; children = told.children; named = says.0 }) has.labelled (sym says.1 ∙ sym has.spelled)
