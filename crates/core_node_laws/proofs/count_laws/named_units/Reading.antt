-- The names and places of a unit that is right for a parsed tree.
use Rattle.std.proofs.Common.{◌≡◌, ◌≤◌, ◌<◌, ℕ, ◌==◌, ◌⊎◌, inl, inr, length, Option, Some, slice_get, sym, ap, ◌∙◌}
use Rattle.std.specs.List.{find}
use Rattle.c_lexer.specs.declared.Tokens.{Tokens}
use Rattle.c_lexer.specs.Cut.{IsTokens}
use Rattle.c_grammar.specs.declared.trees.Tree.{Tree}
use Rattle.c_grammar.specs.declared.trees.SyntaxNode.{SyntaxNode}
use Rattle.c_grammar.specs.Terminals.{spelled}
use Rattle.c_mentions.specs.Syntax.{nodes_of}
use Rattle.c_mentions.specs.Symbols.{symbol_of}
use Rattle.c_scope.specs.declared.kinds.Declared.{Declared}
use Rattle.c_scope.specs.Resolves.{bindings}
use Rattle.c_parser.specs.c_units.Units.{IsUnit}
use Rattle.c_senses.specs.Names.{source_of, names_of, numbered}
use Rattle.c_senses.specs.Tree.{Source, spelling_at, spelling_of, token_of}
use Rattle.std.proofs.Common.{List, [], map, subst}
use Rattle.std.proofs.lemmas.Option.{slice_get_within, get_or_from_slice_get}
use Rattle.c_lexer.specs.declared.Token.{Token}
use Rattle.c_lexer.specs.Laws.{Stands}
use Rattle.c_lexer.proofs.OneCut.{stand}
use Rattle.c_grammar.specs.Names.{no_names}
use Rattle.c_grammar.specs.Productions.{p_unit}
use Rattle.c_grammar.specs.Reads.{Node, node_of}
use Rattle.c_parser.specs.Parse.{begin}
use Rattle.core_node_laws.proofs.count_laws.named_units.Openings.{AllOpened, all_opened}
use Rattle.core_node_laws.proofs.count_laws.named_units.Openers.{opener}
use Rattle.c_types.specs.declared.term.Term.TheVariants.{Structure, Union}
use Rattle.c_types.specs.Made.{StandsAsStructure, StandsAsUnion}
use Rattle.c_inits.specs.Made.{Part}
use Rattle.c_senses.specs.Sense.{Sense, sense_in}
use Rattle.c_senses.specs.Tags.{completed_from, members_under}
use Rattle.c_senses.specs.Rows.{AreSenses}
use Rattle.parsed_tree_laws.proofs.member_names.Members.{units_members}
use Rattle.parsed_tree_laws.proofs.member_names.Few.{units_few}
use Rattle.core_node_laws.specs.count_laws.named_units.Named.{UnitsAreNamed, TagsAreKnown}
use Rattle.core_node_laws.proofs.count_laws.named_units.Tokens.{located}
use Rattle.core_node_laws.proofs.count_laws.named_units.Leaves.{own_leaves, one_leaf}
use Rattle.core_node_laws.proofs.count_laws.named_units.Parts.{IsCut, HasToken, name_token}
use Rattle.core_node_laws.proofs.count_laws.named_units.Symbols.{symbol_named, one_symbol, there_token}
use Rattle.core_node_laws.proofs.count_laws.named_units.Whole.{named_unit}

spelling_is : (s : Source) (i : ℕ) (h : HasToken s i) → spelling_at s i ≡ spelled s.text h.token
spelling_is s i h = ap (λ (o : Option SyntaxNode). spelling_of s (token_of s o)) h.there ∙ ap (spelling_of s) h.taken

symbol_is : (tokens : Tokens) (tree : Tree) (i : ℕ) (d : Declared) (n : SyntaxNode) → slice_get tree.nodes.items i ≡ Some n → find (λ (d : Declared). d.node == i) (bindings tokens.text.now tokens.list.items (nodes_of tree.nodes.items)).names ≡ Some d
    → d.symbol ≡ symbol_of tokens.text.now tokens.list.items n.token
symbol_is tokens tree i d n at found =
    symbol_named tokens.text.now tokens.list.items (nodes_of tree.nodes.items) i d found ∙ ap (symbol_of tokens.text.now tokens.list.items) (there_token tree.nodes.items i n at)

tokens_stand : (tokens : Tokens) → IsTokens tokens.text.now tokens.list.items → (k : ℕ) (t : Token) → slice_get tokens.list.items k ≡ Some t → Stands tokens.text.now t
tokens_stand tokens cut k t e =
    let all = stand tokens.text.now tokens.list.items cut in
    subst (λ (x : Token). Stands tokens.text.now x) (get_or_from_slice_get tokens.list.items k t t e) (all k t (slice_get_within tokens.list.items k t e))

opened : (tokens : Tokens) (unit : ℕ) (tree : Tree) (cut : IsTokens tokens.text.now tokens.list.items) → IsUnit tokens unit tree → AllOpened tokens.text.now tokens.list.items (tokens_stand tokens cut) (map node_of tree.nodes.items)
opened tokens unit tree cut read =
    let (st, reads, nodes) = read.0 in
    subst (λ (l : List Node). AllOpened tokens.text.now tokens.list.items (tokens_stand tokens cut) l) nodes
    (all_opened tokens.text.now tokens.list.items (tokens_stand tokens cut) p_unit 0 (begin 0 no_names []) st reads (λ i n e is. cc))

is_cut : (tokens : Tokens) (unit : ℕ) (tree : Tree) (tag_number : ℕ → ℕ) → IsTokens tokens.text.now tokens.list.items → IsUnit tokens unit tree → IsCut (numbered tag_number (source_of tokens tree))
unfolding source_of names_of
is_cut tokens unit tree tag_number cut read =
    let own = own_leaves tokens unit tree read in
    record {
      few = cut.0;
      located = located tokens.text.now tokens.list.items cut;
      symbols = λ i j d e p q same f g.
          let s : Source = numbered tag_number (source_of tokens tree) in
          let a = name_token s i p in
          let b = name_token s j q in
          let spelling : spelled tokens.text.now a.0.token ≡ spelled tokens.text.now b.0.token = sym (spelling_is s i a.0) ∙ (same ∙ spelling_is s j b.0) in
          let one = one_symbol tokens.text.now tokens.list.items a.0.node.token b.0.node.token a.0.token b.0.token a.0.taken b.0.taken a.1 b.1 spelling in
          symbol_is tokens tree i d a.0.node a.0.there f ∙ (one ∙ sym (symbol_is tokens tree j e b.0.node b.0.there g));
      openings = opener (numbered tag_number (source_of tokens tree)) (tokens_stand tokens cut) (opened tokens unit tree cut read);
      leaves = λ i j n m e f p q same. one_leaf tree.nodes.items own.0 own.1 i j n m e f p q same;
    }

is_tokens : (tokens : Tokens) (tree : Tree) (tag_number : ℕ → ℕ) → IsTokens tokens.text.now tokens.list.items → IsTokens (numbered tag_number (source_of tokens tree)).text (numbered tag_number (source_of tokens tree)).tokens
unfolding source_of
is_tokens tokens tree tag_number cut = cut

few_members : (tokens : Tokens) (unit : ℕ) (tree : Tree) (tag_number : ℕ → ℕ) → IsTokens tokens.text.now tokens.list.items → IsUnit tokens unit tree → (senses : List Sense) → AreSenses (numbered tag_number (source_of tokens tree)) senses
    → (tag : ℕ) (parts : List Part) → members_under (completed_from (numbered tag_number (source_of tokens tree)) senses (sense_in senses) 0) tag ≡ Some parts → length parts ≤ length (numbered tag_number (source_of tokens tree)).tokens
unfolding source_of
few_members tokens unit tree tag_number cut read senses are tag parts e = units_few tokens unit tree tag_number senses tag parts cut read are e

-- a tag that has members stands in a term
pub tags_known : TagsAreKnown
tags_known table tag members made named e = by (made.stands tag members e)
  where
    by : StandsAsStructure table.terms tag ⊎ StandsAsUnion table.terms tag → tag < table.tags
    by (inl h) = (named h.0 (Structure tag) h.1).1
    by (inr h) = (named h.0 (Union tag) h.1).1

pub units_named : UnitsAreNamed
units_named tokens unit tree tag_number name u cut read right bytes =
    let s : Source = numbered tag_number (source_of tokens tree) in
    let senses = right.senses in
    let are = right.are_senses in
    named_unit s name u (is_cut tokens unit tree tag_number cut read) (is_tokens tokens tree tag_number cut) right
    (λ tag parts e. units_members tokens unit tree tag_number senses tag parts cut read are e)
    (few_members tokens unit tree tag_number cut read senses are) bytes
