-- What makes objects in a right unit stands at different places.
use Rattle.std.proofs.Common.{◌≡◌, ◌∙◌, ◌⊎◌, ◌==◌, ℕ, zero, suc, true, List, [], map, Option, Some, None, slice_get, refl, sym, ap, subst, inl, inr}
use Rattle.std.specs.Prelude.{is_some, option_and_then}
use Rattle.std.proofs.lemmas.Bool.{and_parts, eq-eqb}
use Rattle.std.proofs.lemmas.Option.{slice_get_within, get_or_from_slice_get}
use Rattle.pta_base.specs.declared.place.Place.{Place}
use Rattle.c_lexer.specs.declared.Token.{Token}
use Rattle.c_lexer.specs.declared.Tokens.{Tokens}
use Rattle.c_lexer.specs.Cut.{IsTokens}
use Rattle.c_grammar.specs.declared.trees.Tree.{Tree}
use Rattle.c_parser.specs.c_units.Units.{IsUnit}
use Rattle.core_tree.specs.declared.node.Entity.{Entity}
use Rattle.core_tree.specs.declared.node.NodeKind.{NodeKind}
use Rattle.core_tree.specs.declared.node.NodeKind.TheVariants.{Literal}
use Rattle.core_tree.specs.declared.node.Unit.{Unit}
use Rattle.core_tree.specs.Typed.{trees_of}
use Rattle.core_tree.specs.Valid.{entity_at}
use Rattle.c_consts.specs.Core.{Core, Cores, Of, NoCores, MoreCores, kind_of, cores_under, core_in}
use Rattle.c_senses.specs.Names.{source_of, numbered}
use Rattle.c_grammar.specs.declared.trees.SyntaxNode.{SyntaxNode}
use Rattle.c_grammar.specs.Reads.{leaf, Node as GrammarNode, node_of}
use Rattle.c_grammar.specs.Names.{no_names}
use Rattle.c_grammar.specs.Productions.{p_unit}
use Rattle.c_parser.specs.Parse.{begin}
use Rattle.c_lexer.specs.Laws.{Stands}
use Rattle.c_lexer.proofs.OneCut.{stand}
use Rattle.core_node_laws.proofs.count_laws.named_units.Openings.{AllOpened, all_opened}
use Rattle.c_senses.specs.Tree.{Source, production_of, token_of, is_leaf, is_name, is_identifier, kind_at, kind_of_token, token_at, place_at}
use Rattle.c_senses.specs.Entities.{entity_of, is_internal, is_defined, initialiser_for}
use Rattle.c_senses.specs.Rows.{AreSenses}
use Rattle.c_senses.specs.Sense.{Sense, IsCore, IsInitial, sense_in}
use Rattle.c_senses.specs.Right.{Declared, sense_of, representative, core_of_sense, block_for, body_at, declared_name, Within, Itself, Below, IsLiteralOf, IsDeclaredAt, Right}
use Rattle.core_node_laws.proofs.count_laws.named_units.Standing.{IsOpening, Fine, OfSource, AllOfSource}
use Rattle.core_node_laws.proofs.count_laws.named_units.Giving.{if_holds}
use Rattle.core_node_laws.proofs.count_laws.named_units.Values.{SomeOf}
use Rattle.core_node_laws.proofs.count_laws.named_units.Expressions.{OfSense}
use Rattle.core_node_laws.proofs.count_laws.named_units.All.{all_kept}
use Rattle.core_node_laws.proofs.count_laws.named_units.Parts.{HasToken}
use Rattle.core_node_laws.proofs.count_laws.named_units.Openers.{opener}
use Rattle.valid_unit_laws.specs.object_initialiser_laws.internal_name_laws.representative_names.Representatives.{IsKnown}
use Rattle.valid_unit_laws.proofs.object_initialiser_laws.internal_name_laws.representative_names.Standing.{representatives_known}
use Rattle.declaration_laws.proofs.definition_laws.block_laws.Whole.{blocks_differ}
use Rattle.declaration_laws.proofs.declared_type_laws.right_nodes.Whole.{right_laid}
use Rattle.core_node_laws.proofs.count_laws.single_nodes.Places.{IsPlaced, is_placed, one_place}
use Rattle.twin_report_laws.specs.apart.Apart.{RightApart}
use Rattle.twin_report_laws.proofs.apart.Makers.{makers_once}
use Rattle.twin_report_laws.proofs.apart.Spots.{none_some, some_one, named_by, at_name, no_name}

-- ---- the leaf of a literal is an opening parenthesis
part_kept : (s : Source) (cs : Cores) (k : ℕ) → AllOfSource s cs → SomeOf s (core_in cs k)
part_kept s NoCores k h = tt
part_kept s (MoreCores c rest) zero h = h.0
part_kept s (MoreCores c rest) (suc k) h = part_kept s rest k h.1

under_kept : (s : Source) (c : Core) → OfSource s c → AllOfSource s (cores_under c)
under_kept s (Of kind place type under) h = h.1

some_kept : (s : Source) (o : Option Core) (c : Core) → o ≡ Some c → SomeOf s o → OfSource s c
some_kept s None c e h = absurd (none_some e)
some_kept s (Some x) c e h = subst (λ (y : Core). OfSource s y) (some_one e) h

opening_is : (s : Source) (c : Core) (d : ℕ) → kind_of c ≡ Literal d → OfSource s c → IsOpening s d
opening_is s (Of kind place type under) d is h = (subst (λ (k : NodeKind). Fine s k place) is h.0).1

module _ (s : Source) (senses : List Sense) (are : AreSenses s senses) where
  core_kept : (x : Sense) → OfSense s x → SomeOf s (core_of_sense s senses x)
  core_kept (IsCore c) h = h
  core_kept (IsInitial c n) h = h
  core_kept x h = tt

  found_kept : (o : Option ℕ) → SomeOf s (option_and_then (λ b. core_of_sense s senses (sense_of s senses b)) o)
  found_kept None = tt
  found_kept (Some b) = core_kept (sense_in senses b) (all_kept s senses are b)

  body_kept : (i : ℕ) → SomeOf s (body_at s senses i)
  body_kept i = if_holds (SomeOf s) (is_defined s (sense_of s senses) i) _ _ (found_kept (block_for s senses i)) (found_kept (initialiser_for s (sense_of s senses) i))

  within_kept : {c d : Core} → Within s senses c d → OfSource s d → OfSource s c
  within_kept Itself h = h
  within_kept (Below {c = c} {part = part} k h) whole = within_kept h (some_kept s (core_in (cores_under c) k.0) part k.1 (part_kept s (cores_under c) k.0 (under_kept s c whole)))

  name_body : (i : ℕ) (what : Declared) → declared_name s senses i ≡ Some what → SomeOf s what.body
  name_body i what e = subst (λ (w : Declared). SomeOf s w.body) (sym (named_by s senses i what e).what_is) (body_kept (representative s senses i))

  literal_opens : (d : ℕ) (c : Core) → IsLiteralOf s senses d c → IsOpening s d
  literal_opens d c l =
      let (i, other, body, named, is, inside) = l.1 in
      opening_is s c d l.0 (within_kept inside (some_kept s other.body body is (name_body i other named)))

-- a leaf with its token
leaf_is : (s : Source) (d : ℕ) → HasToken s d → (is_leaf s d ≡ true) × (is_some (token_at s d) ≡ true)
leaf_is s d h = (
  ap (λ (o : Option SyntaxNode). production_of o == leaf) h.there ∙ eq-eqb h.node.production leaf h.leafy,
  ap (λ (o : Option SyntaxNode). is_some (token_of s o)) h.there ∙ ap (λ (o : Option Token). is_some o) h.taken,
)

tokens_stand : (tokens : Tokens) → IsTokens tokens.text.now tokens.list.items → (k : ℕ) (t : Token) → slice_get tokens.list.items k ≡ Some t → Stands tokens.text.now t
tokens_stand tokens cut k t e =
    let all = stand tokens.text.now tokens.list.items cut in
    subst (λ (x : Token). Stands tokens.text.now x) (get_or_from_slice_get tokens.list.items k t t e) (all k t (slice_get_within tokens.list.items k t e))

opened : (tokens : Tokens) (unit : ℕ) (tree : Tree) (cut : IsTokens tokens.text.now tokens.list.items) → IsUnit tokens unit tree → AllOpened tokens.text.now tokens.list.items (tokens_stand tokens cut) (map node_of tree.nodes.items)
opened tokens unit tree cut read =
    let (st, reads, nodes) = read.0 in
    subst (λ (l : List GrammarNode). AllOpened tokens.text.now tokens.list.items (tokens_stand tokens cut) l) nodes
    (all_opened tokens.text.now tokens.list.items (tokens_stand tokens cut) p_unit 0 (begin 0 no_names []) st reads (λ i n e is. cc))

opening_leaf : (tokens : Tokens) (unit : ℕ) (tree : Tree) (tag_number : ℕ → ℕ) → IsTokens tokens.text.now tokens.list.items → IsUnit tokens unit tree → (d : ℕ) → IsOpening (numbered tag_number (source_of tokens tree)) d
    → (is_leaf (numbered tag_number (source_of tokens tree)) d ≡ true) × (is_some (token_at (numbered tag_number (source_of tokens tree)) d) ≡ true)
unfolding source_of
opening_leaf tokens unit tree tag_number cut read d o =
    leaf_is (numbered tag_number (source_of tokens tree)) d (opener (numbered tag_number (source_of tokens tree)) (tokens_stand tokens cut) (opened tokens unit tree cut read) d o)

token_there : (o : Option Token) → is_identifier (kind_of_token o) ≡ true → is_some o ≡ true
token_there None h = cc
token_there (Some t) h = refl

module _ (s : Source) (placed : IsPlaced s) (openings : (d : ℕ) → IsOpening s d → (is_leaf s d ≡ true) × (is_some (token_at s d) ≡ true)) (name : List ℕ) (u : Unit) (r : Right s name u)
    (known : (i : ℕ) → is_internal s (sense_in r.senses) i ≡ true → IsKnown s r.senses i) where
  -- an entity: the number by which it is known, and the leaf at which it stands, which is a name or an opening parenthesis
  record HasSpot (e : ℕ) (y : Entity) : Type 0 where
    number : ℕ
    number_is : r.numbering number ≡ Some e
    spot : ℕ
    leafy : is_leaf s spot ≡ true
    token : is_some (token_at s spot) ≡ true
    place : y.place ≡ place_at s spot
    by : ((is_name s spot ≡ true) × (entity_of s (sense_in r.senses) spot ≡ number)) ⊎ (IsOpening s spot × (spot ≡ number))

  spot_of : (e : ℕ) (y : Entity) → entity_at (trees_of u) e ≡ Some y → HasSpot e y
  spot_of e y at =
      let (d, what, declared, number) = r.no_other_entity e (slice_get_within u.entities.items e y at) in
      let (f, entity, again, there, is) = r.each_declared d what declared in
      let same : f ≡ e = some_one (sym again ∙ number) in
      let one : entity ≡ y = some_one (sym there ∙ (ap (λ (k : ℕ). slice_get u.entities.items k) same ∙ at)) in
      let place : y.place ≡ what.place = ap (λ (z : Entity). z.place) (sym one) ∙ is.place in
      by_kind d what declared number place
    where
      by_kind : (d : ℕ) (what : Declared) → IsDeclaredAt s r.senses d what → r.numbering d ≡ Some e → y.place ≡ what.place → HasSpot e y
      by_kind d what (inl named) number place =
          let told = named_by s r.senses d what named in
          let a = at_name s r.senses known d told.declares in
          let its_name : is_name s (representative s r.senses d) ≡ true = (and_parts (is_name s (representative s r.senses d)) _ a.declaring).0 in
          record {
            number = d;
            number_is = number;
            spot = representative s r.senses d;
            leafy = (and_parts (is_leaf s (representative s r.senses d)) (is_identifier (kind_at s (representative s r.senses d))) its_name).0;
            token = token_there (token_at s (representative s r.senses d)) (and_parts (is_leaf s (representative s r.senses d)) (is_identifier (kind_at s (representative s r.senses d))) its_name).1;
            place = place ∙ ap (λ (w : Declared). w.place) told.what_is;
            by = inl (its_name, a.entity);
          }
      by_kind d what (inr (c, literal, same)) number place =
          let opens = literal_opens s r.senses r.are_senses d c literal in
          let its = openings d opens in
          record { number = d; number_is = number; spot = d; leafy = its.0; token = its.1; place = place ∙ ap (λ (w : Declared). w.place) same; by = inr (opens, refl) }

  entities_apart : (e f : ℕ) (y z : Entity) → entity_at (trees_of u) e ≡ Some y → entity_at (trees_of u) f ≡ Some z → y.place.line ≡ z.place.line → y.place.column ≡ z.place.column → e ≡ f
  entities_apart e f y z ey ez line column = joined (spot_of e y ey) (spot_of f z ez)
    where
      joined : HasSpot e y → HasSpot f z → e ≡ f
      joined a b =
          let lines : (place_at s a.spot).line ≡ (place_at s b.spot).line = sym (ap (λ (p : Place). p.line) a.place) ∙ (line ∙ ap (λ (p : Place). p.line) b.place) in
          let columns : (place_at s a.spot).column ≡ (place_at s b.spot).column = sym (ap (λ (p : Place). p.column) a.place) ∙ (column ∙ ap (λ (p : Place). p.column) b.place) in
          let same : a.spot ≡ b.spot = one_place s placed a.spot b.spot a.leafy b.leafy a.token b.token lines columns in
          numbered_by (numbers a.by b.by same)
        where
          numbered_by : a.number ≡ b.number → e ≡ f
          numbered_by one = some_one (sym a.number_is ∙ (ap r.numbering one ∙ b.number_is))

          numbers : ((is_name s a.spot ≡ true) × (entity_of s (sense_in r.senses) a.spot ≡ a.number)) ⊎ (IsOpening s a.spot × (a.spot ≡ a.number))
              → ((is_name s b.spot ≡ true) × (entity_of s (sense_in r.senses) b.spot ≡ b.number)) ⊎ (IsOpening s b.spot × (b.spot ≡ b.number)) → a.spot ≡ b.spot → a.number ≡ b.number
          numbers (inl x) (inl w) one = sym x.1 ∙ (ap (entity_of s (sense_in r.senses)) one ∙ w.1)
          numbers (inl x) (inr w) one = absurd (no_name s r.senses a.spot (subst (IsOpening s) (sym one) w.0) x.0)
          numbers (inr x) (inl w) one = absurd (no_name s r.senses b.spot (subst (IsOpening s) one x.0) w.0)
          numbers (inr x) (inr w) one = sym x.1 ∙ (one ∙ w.1)

pub right_apart : RightApart
right_apart tokens unit tree tag_number name u cut read r =
    let s : Source = numbered tag_number (source_of tokens tree) in
    let placed : IsPlaced s = is_placed tokens unit tree tag_number cut read in
    record {
      entities = λ e f y z ey ez line column.
          entities_apart s placed (opening_leaf tokens unit tree tag_number cut read) name u r (λ i is. representatives_known tokens unit tree tag_number r.senses cut read r.are_senses r.whole i is) e f y z ey ez line column;
      nodes = λ n m a b at there ka kb line column.
          makers_once tokens unit tree tag_number r.senses r.numbering u cut read (right_laid s name u r (blocks_differ tokens unit tree tag_number r.senses read r.are_senses r.whole)) n m a b at there ka kb line column;
    }
