use Rattle.std.proofs.Common.{◌≡◌, ℕ, Option, Some, None, Ok, List, refl, sym, ap, ◌∙◌, subst}
use Rattle.c_lexer.specs.declared.Token.{Token}
use Rattle.c_lexer.specs.declared.Tokens.{Tokens}
use Rattle.c_grammar.specs.declared.trees.Tree.{Tree}
use Rattle.c_grammar.specs.Reads.{Node}
use Rattle.c_parser.specs.Parse.{Faults}
use Rattle.c_scope.specs.declared.kinds.NameFault.{NameFault}
use Rattle.c_scope.specs.declared.kinds.NameFault.TheVariants as names
use Rattle.c_mentions.specs.Syntax.{nodes_of}
use Rattle.c_scope.specs.Resolves.{IsNameFault, first_of, fault_of}
use Rattle.text_units.specs.Alone.{IsReadAs, Reading}
use Rattle.text_units.specs.Faults.{IsSyntactic, IsNominal}
use Rattle.text_units.proofs.Refused.{lexically, syntactically, nominally}
use Rattle.text_units.proofs.alone.read_alone.Goals as goal

told : (tokens : Tokens) (tree : Tree) (fault : NameFault) → (fault ≡ names.OutOfMemory → ⊥) → IsNameFault tokens tree fault → fault_of tokens tree ≡ Some fault
told tokens tree (names.Undeclared n) r e = e
told tokens tree (names.Redeclared n) r e = e
told tokens tree names.OutOfMemory r e = absurd (r refl)

-- a fault of names of the text and of the nodes that were read
of_read : (text own : List ℕ) (list : List Token) (nodes read : List Node) (fault : Option NameFault) → own ≡ text → read ≡ nodes → first_of own list nodes ≡ fault → first_of text list read ≡ fault
of_read text own list nodes read fault e f h =
    let P : List ℕ → Type 0 = λ t. first_of t list read ≡ fault in
    let Q : List Node → Type 0 = λ ns. first_of own list ns ≡ fault in
    subst P e (subst Q (sym f) h)

pub returns-in-Err-clause-refused : goal.returns-in-Err-clause-refused
returns-in-Err-clause-refused c = lexically (c.args.name.now, c.args.text.now) c.in-Err.fault _ c.in_ok-lexical-in-Err.ensures c.in-Err.ensures.tokens

pub returns-in-Err-parse_unit-clause-refused : goal.returns-in-Err-parse_unit-clause-refused
returns-in-Err-parse_unit-clause-refused c =
    let text = c.in-Ok.ensures.tokens.0 in
    let P : List ℕ → Type 0 = λ t. Faults (Reading t c.in-Ok.tokens.list.items) c.in-Err-parse_unit.fault in
    let Q : List Token → Type 0 = λ list. IsSyntactic c.args.name.now list c.in-Err-parse_unit.fault c.in_ok-syntactic-in-Err-parse_unit.field-0 in
    syntactically (c.args.name.now, c.args.text.now) c.in-Ok.tokens.list.items c.in-Err-parse_unit.fault _ c.in-Ok.ensures.tokens.1
    (subst Q c.as_slice.ensures.value c.in_ok-syntactic-in-Err-parse_unit.ensures) (subst P text c.in-Err-parse_unit.ensures)

pub returns-in-Ok-resolve-clause-parsed : goal.returns-in-Ok-resolve-clause-parsed
unfolding IsReadAs
returns-in-Ok-resolve-clause-parsed c =
    let text = c.in-Ok.ensures.tokens.0 in
    let list = c.in-Ok.tokens.list.items in
    let unit = c.in-Ok-parse_unit.ensures.0 in
    let P : List ℕ → Type 0 = λ t. Reading t list (Ok unit.0) in
    let right = of_read c.args.text.now c.in-Ok.tokens.text.now list (nodes_of c.in-Ok-parse_unit.tree.nodes.items) unit.0.nodes None text unit.2 c.in-Ok-resolve.ensures.right in
    record {
      text_is = text;
      read = (c.in-Ok.ensures.tokens.1, (unit.0, subst P text unit.1, right));
      tree_is = c.in-Ok-parse_unit.ensures;
    }

pub returns-clause-refused : goal.returns-clause-refused
returns-clause-refused c =
    let text = c.in-Ok.ensures.tokens.0 in
    let list = c.in-Ok.tokens.list.items in
    let unit = c.in-Ok-parse_unit.ensures.0 in
    let tree = c.in-Ok-parse_unit.tree in
    let cause = c.in-Err-resolve.fault in
    let fault = c.in_ok-nominal-in-Err-resolve.field-0 in
    let P : List ℕ → Type 0 = λ t. Reading t list (Ok unit.0) in
    let L : List Token → Type 0 = λ l. IsNominal c.args.name.now l unit.0.nodes cause fault in
    let N : List Node → Type 0 = λ ns. IsNominal c.args.name.now c.as_slice-in-Err-resolve.result.now ns cause fault in
    let seen : nodes_of c.as_slice-in-Err-resolve-2.result.now ≡ unit.0.nodes = ap nodes_of c.as_slice-in-Err-resolve-2.ensures.value ∙ sym unit.2 in
    nominally (c.args.name.now, c.args.text.now) list unit.0 cause fault c.in-Ok.ensures.tokens.1 (subst P text unit.1)
    (subst L c.as_slice-in-Err-resolve.ensures.value (subst N seen c.in_ok-nominal-in-Err-resolve.ensures))
    (λ real. of_read c.args.text.now c.in-Ok.tokens.text.now list (nodes_of tree.nodes.items) unit.0.nodes (Some cause) text unit.2 (told c.in-Ok.tokens tree cause real c.in-Err-resolve.ensures))
