-- The unit of a text that is read alone, and its refusal by a row.
use Rattle.std.proofs.Common.{◌≡◌, ℕ, List, [], inr, refl, sym, subst}
use Rattle.pta_base.specs.declared.kind.Kind.{Kind}
use Rattle.pta_base.specs.declared.kind.Kind.TheVariants.{Operand}
use Rattle.c_lexer.specs.declared.Tokens.{Tokens}
use Rattle.c_lexer.specs.Cut.{IsTokens}
use Rattle.c_grammar.specs.declared.trees.Tree.{Tree}
use Rattle.core_nodes.specs.declared.fault.CheckFault.{CheckFault}
use Rattle.core_nodes.specs.declared.fault.CheckFault.TheVariants as check
use Rattle.core_tree.specs.declared.node.Unit.{Unit}
use Rattle.c_senses.specs.Tree.{Source}
use Rattle.c_senses.specs.Names.{source_of, numbered}
use Rattle.c_senses.specs.Rows.{RefusedAt}
use Rattle.c_senses.specs.Right.{Right}
use Rattle.c_lower.specs.passed.unit_walk.Walked.{AreDense, RefusedIn}
use Rattle.c_lower.specs.PassedOn.{IsLowered}
use Rattle.text_units.specs.declared.fault.UnitsFault.{UnitsFault}
use Rattle.text_units.specs.declared.fault.UnitsFault.TheVariants.{Memory}
use Rattle.text_units.specs.Answers.{NamedText, Answer}
use Rattle.text_units.specs.Alone.{IsReadAs}
use Rattle.text_units.specs.Lowered.{IsParsed, IsRightText, kind_refusal}
use Rattle.text_units.specs.Refused.{IsRefusedText}
use Rattle.text_units.specs.Faults.{fault_of, IsFaultIn, IsKindRefusal}

-- a refusal of a text
refused_in : (number : ℕ) (text : NamedText) (answer : Answer) (fault : UnitsFault) → fault ≡ fault_of answer → answer.out ≡ [] → IsRefusedText number text answer → IsFaultIn number text fault
refused_in number text answer fault is nothing refused =
    let P : UnitsFault → Type 0 = λ f. IsFaultIn number text f in
    let Q : List ℕ → Type 0 = λ out. IsRefusedText number text (record { status = answer.status; out = out; err = answer.err }) in
    subst P (sym is) (subst Q nothing refused)

memory_in : (number : ℕ) (text : NamedText) (fault : UnitsFault) → fault ≡ Memory → IsFaultIn number text fault
memory_in number text fault is = let P : UnitsFault → Type 0 = λ f. IsFaultIn number text f in subst P (sym is) tt

-- the first node, in order, whose row doesn't fit
FirstRow : Source → Kind → ℕ → Type 0
FirstRow s kind node = (tag_number : ℕ → ℕ) × AreDense (numbered tag_number s) × RefusedAt (numbered tag_number s) kind node

module _ (number : ℕ) (text : NamedText) (tokens : Tokens) (tree : Tree) (parsed : IsParsed number text tokens tree) where
  refusal_at : Kind → ℕ → Answer
  refusal_at kind node = kind_refusal text.0 tokens tree kind node

  row_refused : (kind : Kind) (node : ℕ) → FirstRow (source_of tokens tree) kind node → IsRefusedText number text (refusal_at kind node)
  unfolding refusal_at FirstRow
  row_refused kind node h =
      inr (record { tokens = tokens; tree = tree; parsed = parsed; tag_number = h.0; dense = h.1; kind = kind; node = node; refused = h.2; answer_is = refl })

  -- the fault of a node refuses a text
  pub node_refused : (cause : CheckFault) (fault : UnitsFault) → RefusedIn (source_of tokens tree) cause → IsKindRefusal text.0 tokens tree cause fault → IsFaultIn number text fault
  unfolding refusal_at FirstRow
  node_refused (check.BadOperand node) fault h is = refused_in number text (refusal_at Operand node) fault is refl (row_refused Operand node h)
  node_refused (check.Unsupported kind node) fault h is = refused_in number text (refusal_at kind node) fault is refl (row_refused kind node h)
  node_refused check.OutOfMemory fault h is = memory_in number text fault is

  -- its tokens are those of the text that they hold
  pub cut_tokens : IsTokens tokens.text.now tokens.list.items
  unfolding IsReadAs
  cut_tokens = let P : List ℕ → Type 0 = λ t. IsTokens t tokens.list.items in subst P (sym parsed.text_is) parsed.read.0

  -- the unit that a source is lowered to is that of its text
  pub lowered_right : (name : List ℕ) (u : Unit) → name ≡ text.0 → IsLowered (source_of tokens tree) name u → IsRightText number text u
  lowered_right name u is h =
      let P : List ℕ → Type 0 = λ n. Right (numbered h.tag_number (source_of tokens tree)) n u in
      record { tokens = tokens; tree = tree; parsed = parsed; tag_number = h.tag_number; dense = h.dense; right = subst P is h.right; tags = h.tags }
