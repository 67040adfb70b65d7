-- The types of all senses of a parsed unit are within the limits, one node after another.
use Rattle.std.proofs.Common.{arith, ◌≡◌, ◌==◌, ◌<◌, ◌≤◌, ℕ, zero, suc, Bool, true, false, ◌&&◌, List, [], ◌∷◌, map, All, Option, Some, None, length, slice_get, refl, sym, ap, subst, ◌⊎◌, inl, inr}
use Rattle.std.specs.Prelude.{option_map, if◌then◌else◌}
use Rattle.std.proofs.lemmas.Option.{slice_get-map}
use Rattle.std.proofs.lemmas.List.Elements.{All-nil, All-cons}
use Rattle.c_types.specs.Trees.{StructureOf, UnionOf}
use Rattle.c_lexer.specs.declared.Tokens.{Tokens}
use Rattle.c_lexer.specs.declared.TokenKind.{TokenKind}
use Rattle.c_lexer.specs.declared.TokenKind.TheVariants.{End}
use Rattle.c_grammar.specs.declared.trees.SyntaxNode.{SyntaxNode}
use Rattle.c_grammar.specs.declared.trees.Tree.{Tree}
use Rattle.c_grammar.specs.Names.{no_names}
use Rattle.c_grammar.specs.Productions.{p_struct}
use Rattle.c_grammar.specs.Terminals.{contains}
use Rattle.c_grammar.specs.Reads.{Node, node_of, leaf}
use Rattle.c_parser.specs.Parse.{begin}
use Rattle.c_parser.specs.c_units.Units.{IsUnit}
use Rattle.c_mentions.specs.Syntax as syntax
use Rattle.c_senses.specs.Names.{source_of, names_of, numbered}
use Rattle.c_senses.specs.Tree.{Source, is_name, is_identifier, kind_of_token, token_of, production_of, children_of, production_at, children_at}
use Rattle.c_senses.specs.World.{World, extent}
use Rattle.c_senses.specs.Limits.{is_small, within_limits}
use Rattle.c_senses.specs.Tags.{aggregate_type, tag_of, is_union}
use Rattle.c_senses.specs.Right.{TagsDiffer}
use Rattle.c_senses.specs.Sense.{Sense, Nothing, IsCore, IsType, IsSpecified, IsDeclarator, IsDerivation, IsParameter, IsMembers, IsValue, IsRun, IsInitial, Derivation, Pointing, Elements, Returning, sense_in}
use Rattle.c_senses.specs.Rows.{world_at, AreSenses}
use Rattle.parsed_tree_laws.specs.sense_laws.Senses.{ChildrenFirst}
use Rattle.parsed_tree_laws.specs.sense_laws.Sound.{Gives}
use Rattle.parsed_tree_laws.specs.family_laws.Families.{Families}
use Rattle.parsed_tree_laws.proofs.family_laws.Reading.{units_families}
use Rattle.parsed_tree_laws.proofs.placed_laws.Rows.{declarators}
use Rattle.parsed_tree_laws.proofs.placed_laws.Climbing.{Grown, IsNamedPart}
use Rattle.parsed_tree_laws.proofs.placed_laws.Growing.{grown_read}
use Rattle.parsed_tree_laws.proofs.placed_laws.Names as names
use Rattle.c_declarators.specs.Limited.{parameters_limited, IsLimited, AreLimited}
use Rattle.limit_laws.specs.Limits.{UnitsAreLimited}
use Rattle.limit_laws.proofs.Reading.{list_in, side_of, taken_sense, taken_past, before, around, row_whole}
use Rattle.limit_laws.proofs.Deriving.{step_within, StepsWithin, Within}
use Rattle.limit_laws.proofs.Completed.{aggregate_small}
use Rattle.limit_laws.proofs.Rows.{Asks, row_within}
use Rattle.limit_laws.proofs.Meanings.{TypedefsNamed, named_within, named_whole}
use Rattle.limit_laws.proofs.Typedefs.{typedef_named}

-- ---- one node after another

module _ (s : Source) (first : ChildrenFirst s) (families : Families s) (differ : TagsDiffer s) (grown : Grown s) (named : TypedefsNamed s) (senses : List Sense) (are : AreSenses s senses) where
  abbrev w : World
  w = world_at s senses (length senses)

  abbrev f : ℕ → Sense
  f = sense_in senses

  aggregate_within : (i : ℕ) → is_small (extent w (aggregate_type s i)) ≡ true → within_limits w (aggregate_type s i) ≡ true
  aggregate_within i h = by (is_union s i) h
    where
      by : (b : Bool) → is_small (extent w (if b then UnionOf (tag_of s i) else StructureOf (tag_of s i))) ≡ true → within_limits w (if b then UnionOf (tag_of s i) else StructureOf (tag_of s i)) ≡ true
      by true h = h
      by false h = h

  module _ (n : ℕ) (inside : n < length senses) (all : (i : ℕ) → i < n → Within w (f i)) where
    seen_within : (i : ℕ) → Within w (before senses n i)
    seen_within i = by (side_of i n)
      where
        by : (i < n) ⊎ (n ≤ i) → Within w (before senses n i)
        by (inl less) = subst (Within w) (sym (taken_sense senses n i less)) (all i less)
        by (inr past) = subst (Within w) (sym (taken_past senses n i past)) tt

    asks_here : Asks (around s senses n) w s (before senses n) (production_at s n) n
    asks_here = record {
      senses = seen_within;
      names = λ leaf t e. named_within s senses are first n (omega (arith, inside)) all grown named leaf t e;
      tagged = λ is fits. aggregate_within n (aggregate_small s senses are first families differ n inside (ap (λ (p : ℕ). p == p_struct) is));
      whole = named_whole s senses are first n (omega (arith, inside)) all families;
    }

    row_here : Within w (f n)
    row_here =
        subst (Gives (Within w)) (row_whole s senses are n inside) (row_within (around s senses n) w s (before senses n) (production_at s n) n asks_here (children_at s n))

  one_more : (n : ℕ) → n < length senses → ((k : ℕ) → k < n → Within w (f k)) → (i : ℕ) → i < suc n → Within w (f i)
  one_more n inside deeper i less = by (side_of i n)
    where
      by : (i < n) ⊎ (n ≤ i) → Within w (f i)
      by (inl h) = deeper i h
      by (inr h) = subst (λ (k : ℕ). Within w (f k)) (let same : n ≡ i = omega (arith, h, less) in same) (row_here n inside deeper)

  up_to : (n : ℕ) → n ≤ length senses → (i : ℕ) → i < n → Within w (f i)
  up_to zero le i less = absurd (omega (arith, less))
  up_to (suc n) le i less = one_more n (omega (arith, le)) (λ k h. up_to n (omega (arith, le)) k h) i less

  step_limited : (d : Derivation) → step_within w d ≡ true → parameters_limited w d ≡ true
  step_limited Pointing h = h
  step_limited (Elements n) h = h
  step_limited (Returning ps form) h = h

  steps_limited : (ds : List Derivation) → StepsWithin w ds → All (λ d. parameters_limited w d ≡ true) ds
  steps_limited [] h = All-nil (λ d. parameters_limited w d ≡ true)
  steps_limited (d ∷ ds) h = All-cons (λ d. parameters_limited w d ≡ true) d ds (step_limited d h.0) (steps_limited ds h.1)

  sense_limited : (x : Sense) → Within w x → IsLimited w x
  sense_limited Nothing h = tt
  sense_limited (IsCore c) h = tt
  sense_limited (IsType t) h = h
  sense_limited (IsSpecified x) h = h
  sense_limited (IsDeclarator name ds) h = steps_limited ds h
  sense_limited (IsDerivation d) h = step_limited d h
  sense_limited (IsParameter p) h = h
  sense_limited (IsMembers parts) h = tt
  sense_limited (IsValue k) h = tt
  sense_limited (IsRun cs) h = tt
  sense_limited (IsInitial c k) h = tt

  senses_limited : (xs : List Sense) → ((i : ℕ) → i < length xs → Within w (sense_in xs i)) → AreLimited w xs
  senses_limited [] h = All-nil (IsLimited w)
  senses_limited (x ∷ xs) h = All-cons (IsLimited w) x xs (sense_limited x (h 0 (omega arith))) (senses_limited xs (λ i less. h (suc i) (omega (arith, less))))

  all_limited : AreLimited w senses
  all_limited = senses_limited senses (up_to (length senses) (omega arith))

-- ---- parsed units

module _ (s : Source) where
  abbrev nodes : List Node
  nodes = map node_of s.nodes

  abbrev named_by : Option Node → Bool
  named_by o = syntax.is_identifier (if syntax.production_of o == leaf then syntax.token_kind s.tokens (syntax.token_of o) else End)

  -- a name in a declarator, as the rows see it
  name_is : (r : ℕ) → syntax.is_name s.tokens nodes r ≡ true → is_name s r ≡ true
  name_is r h = by (slice_get s.nodes r) (subst (λ (o : Option Node). named_by o ≡ true) (slice_get-map node_of s.nodes r) h)
    where
      seen : (b : Bool) (k : TokenKind) → is_identifier (if b then k else End) ≡ true → (b && is_identifier k) ≡ true
      seen true k h = h
      seen false k h = cc

      by : (o : Option SyntaxNode) → named_by (option_map node_of o) ≡ true → ((production_of o == leaf) && is_identifier (kind_of_token (token_of s o))) ≡ true
      by None h = cc
      by (Some n) h = seen (n.production == leaf) (syntax.token_kind s.tokens n.token) h

  part_is : (r : ℕ) → names.IsNamedPart s.tokens nodes r → IsNamedPart s r
  part_is r (i, is, child, name) =
      let at = by (slice_get s.nodes i) (subst (λ (o : Option Node). contains declarators (syntax.production_of o) ≡ true) (slice_get-map node_of s.nodes i) is) (subst (λ (o : Option Node). contains (syntax.children_of o) r ≡ true) (slice_get-map node_of s.nodes i) child) in
      (i, at.0, at.1, name_is r name)
    where
      by : (o : Option SyntaxNode) → contains declarators (syntax.production_of (option_map node_of o)) ≡ true → contains (syntax.children_of (option_map node_of o)) r ≡ true → (contains declarators (production_of o) ≡ true) × (contains (children_of o) r ≡ true)
      by None h c = cc
      by (Some n) h c = (h, c)

typedefs_read : (tokens : Tokens) (tree : Tree) (tag_number : ℕ → ℕ) → TypedefsNamed (numbered tag_number (source_of tokens tree))
unfolding source_of names_of
typedefs_read tokens tree tag_number r y at typed =
    part_is (numbered tag_number (source_of tokens tree)) r (typedef_named tokens.text.now tokens.list.items (map node_of tree.nodes.items) r y at typed)

grown_unit : (tokens : Tokens) (unit : ℕ) (tree : Tree) (tag_number : ℕ → ℕ) → IsUnit tokens unit tree → Grown (numbered tag_number (source_of tokens tree))
grown_unit tokens unit tree tag_number is = let read = is.0 in grown_read tokens tree tag_number (begin 0 no_names []) read.0 refl refl read.1 read.2

-- children stand first
first_of : (s : Source) → Grown s → ChildrenFirst s
first_of s grown i k c h = grown.before i c (list_in (children_at s i) k c h)

pub units_limited : UnitsAreLimited
units_limited tokens unit tree tag_number cut read differ senses are =
    let s : Source = numbered tag_number (source_of tokens tree) in
    let grown : Grown (numbered tag_number (source_of tokens tree)) = grown_unit tokens unit tree tag_number read in
    all_limited s (first_of s grown) (units_families tokens unit tree tag_number cut read) differ grown (typedefs_read tokens tree tag_number) senses are
