-- The lists of blocks hold automatic objects of the function around.
use Rattle.std.proofs.Common.{◌≡◌, ◌<◌, ◌&&◌, ℕ, Bool, true, false, List, [], ◌∷◌, Option, Some, None, All, length, slice_get, refl, sym, ap, ◌∙◌, subst, inl, inr}
use Rattle.std.specs.Prelude.{option_map, if◌then◌else◌}
use Rattle.std.proofs.lemmas.Option.{slice_get_within}
use Rattle.std.proofs.lemmas.List.Elements.{All-nil, All-cons}
use Rattle.pta_base.specs.declared.place.Place.{Place}
use Rattle.c_lexer.specs.declared.Tokens.{Tokens}
use Rattle.c_grammar.specs.declared.trees.Tree.{Tree}
use Rattle.c_types.specs.Trees.{Ctype}
use Rattle.core_tree.specs.declared.node.Unit.{Unit}
use Rattle.core_tree.specs.declared.node.Node.{Node}
use Rattle.core_tree.specs.declared.node.Entity.{Entity}
use Rattle.core_tree.specs.declared.node.NodeKind.{NodeKind}
use Rattle.core_tree.specs.declared.node.NodeKind.TheVariants.{Named, FunctionName, Literal, Initialise, Block, For}
use Rattle.core_tree.specs.declared.node.Storage.TheVariants.{Automatic, FunctionBody}
use Rattle.core_tree.specs.Typed.{trees_of}
use Rattle.core_tree.specs.Range.{Under, node_at, entity_at, listed_by}
use Rattle.core_tree.specs.Valid.{IsLocal, IsLiteralOf, NoLiteral, InOwnersBody, IsListable, IsListableIn, ListsRight, LivesForTheRun}
use Rattle.c_consts.specs.Core.{Core, Cores, Of, NoCores, MoreCores}
use Rattle.c_senses.specs.Names.{source_of, numbered}
use Rattle.c_senses.specs.Tree.{Source, is_name}
use Rattle.c_senses.specs.Sense.{Sense, IsCore, sense_in}
use Rattle.c_senses.specs.Right.{Numbering, SameEntities, SameKind, SameBody, Declared as Declares, IsDeclaredAt, declares_entity, declared_as, entity_type, stands_in_declaration, is_declaring}
use Rattle.core_node_laws.specs.literal_nodes.Holding as literal
use Rattle.core_node_laws.specs.literal_nodes.Unnamed.{IsUnnamed}
use Rattle.core_node_laws.specs.near_nodes.Holding.{Asks, Holds, AllHold, OfSense}
use Rattle.core_node_laws.proofs.near_nodes.Nearness.{AllNear}
use Rattle.declaration_laws.specs.definition_laws.scope_laws.Beneath.{part}
use Rattle.declaration_laws.specs.definition_laws.scope_laws.Scoped.{ParametersListed}
use Rattle.core_node_laws.specs.standing_laws.Standing.{IsGrown, IsMade}
use Rattle.core_node_laws.proofs.standing_laws.Bodies.{Above, above}
use Rattle.declaration_laws.proofs.definition_laws.passed.built_unit_laws.lasting_literals.Lasting.{literals_last}
use Rattle.declaration_laws.specs.declared_type_laws.owner_laws.Owners.{LeftsStand, DefinitionsNamed, FurtherKnown, IsOwnable}
use Rattle.declaration_laws.proofs.declared_type_laws.owner_laws.Defined.{FunctionTree, EntityOf, entity_of_leaf, some_same}
use Rattle.declaration_laws.proofs.declared_type_laws.owner_laws.Naming.{clash}
use Rattle.declaration_laws.proofs.declared_type_laws.owner_laws.Unnamed.{declared_held, literal_unnamed}
use Rattle.declaration_laws.proofs.declared_type_laws.owner_laws.Walk.{Stood, stood, literal_is}
use Rattle.declaration_laws.proofs.declared_type_laws.owner_laws.Fixed.{no_list}
use Rattle.declaration_laws.proofs.declared_type_laws.owner_laws.Whole as owners
use Rattle.declaration_laws.specs.declared_type_laws.owner_laws.list_laws.Lists.{ListsBuilt}
use Rattle.declaration_laws.proofs.declared_type_laws.owner_laws.list_laws.Storage.{storage_is}
use Rattle.declaration_laws.proofs.declared_type_laws.owner_laws.list_laws.Objects.{RowListed, IsListedThere, Lists, trees_list}

-- ---- lists of leaves and of numbers

each_of : (m : Numbering) (P Q : ℕ → Type 0) (ds es : List ℕ) → SameEntities m ds es → AllNear P ds → ((d e : ℕ) → P d → m d ≡ Some e → Q e) → All Q es
each_of m P Q [] [] h k f = All-nil Q
each_of m P Q (d ∷ ds) (e ∷ es) h k f = All-cons Q e es (f d e k.0 h.0) (each_of m P Q ds es h.1 k.1 f)
each_of m P Q [] (e ∷ es) h k f = absurd h
each_of m P Q (d ∷ ds) [] h k f = absurd h

module _ (m : Numbering) (P Q : ℕ → Type 0) (f : (d e : ℕ) → P d → m d ≡ Some e → Q e) where
  of_block : (kind : NodeKind) (es : List ℕ) → SameKind m kind (Block es) → AllNear P (listed_by kind) → All Q es
  of_block (Block ds) es h k = each_of m P Q ds es h k f
  of_block (For ds c a) es h k = absurd (let g : For ds c a ≡ Block es = h in cc)
  of_block (Named d) es h k = absurd (let g : Named d ≡ Block es = h in cc)
  of_block (FunctionName d) es h k = absurd (let g : FunctionName d ≡ Block es = h in cc)
  of_block (Literal d) es h k = absurd (let g : Literal d ≡ Block es = h in cc)
  of_block (Initialise d paths) es h k = absurd (let g : Initialise d paths ≡ Block es = h in cc)
  of_block kind es h k = absurd (let g : kind ≡ Block es = h in cc)

  of_for : (kind : NodeKind) (es : List ℕ) (x y : Bool) → SameKind m kind (For es x y) → AllNear P (listed_by kind) → All Q es
  of_for (For ds c a) es x y h k = each_of m P Q ds es h.0 k f
  of_for (Block ds) es x y h k = absurd (let g : Block ds ≡ For es x y = h in cc)
  of_for (Named d) es x y h k = absurd (let g : Named d ≡ For es x y = h in cc)
  of_for (FunctionName d) es x y h k = absurd (let g : FunctionName d ≡ For es x y = h in cc)
  of_for (Literal d) es x y h k = absurd (let g : Literal d ≡ For es x y = h in cc)
  of_for (Initialise d paths) es x y h k = absurd (let g : Initialise d paths ≡ For es x y = h in cc)
  of_for kind es x y h k = absurd (let g : kind ≡ For es x y = h in cc)

  of_kind : (kind other : NodeKind) → SameKind m kind other → AllNear P (listed_by kind) → All Q (listed_by other)
  of_kind kind (Block es) h k = of_block kind es h k
  of_kind kind (For es x y) h k = of_for kind es x y h k
  of_kind kind other h k = All-nil Q

-- ---- trees without the leaves of literals

module _ (s : Source) where
  kind_free : (kind : NodeKind) (place : Place) (type : Ctype) (under : Cores) → literal.Asks (IsUnnamed s) kind place type under → Asks (IsUnnamed s) kind place type under
  kind_free (Block es) place type under h = tt
  kind_free (For es c a) place type under h = tt
  kind_free kind place type under h = h

  mutual
    held_free : (c : Core) → literal.Holds (IsUnnamed s) c → Holds (IsUnnamed s) c
    held_free (Of kind place type under) h = (kind_free kind place type under h.0, all_free under h.1)

    all_free : (cs : Cores) → literal.AllHold (IsUnnamed s) cs → AllHold (IsUnnamed s) cs
    all_free NoCores h = tt
    all_free (MoreCores c rest) h = (held_free c h.0, all_free rest h.1)

left_true : (a b : Bool) → (a && b) ≡ true → a ≡ true
left_true true b e = refl
left_true false b e = cc

right_true : (a b : Bool) → (a && b) ≡ true → b ≡ true
right_true true b e = e
right_true false b e = cc

module _
    (tokens : Tokens) (tree : Tree) (tag_number : ℕ → ℕ) (senses : List Sense) (numbering : Numbering) (u : Unit) (grown : IsGrown (numbered tag_number (source_of tokens tree))) (made : IsMade (numbered tag_number (source_of tokens tree)) senses numbering u)
    (once : (c d e : ℕ) → numbering c ≡ Some e → numbering d ≡ Some e → c ≡ d) (listed : ParametersListed tokens tree (numbered tag_number (source_of tokens tree))) (lefts : LeftsStand (numbered tag_number (source_of tokens tree)))
    (names : DefinitionsNamed (numbered tag_number (source_of tokens tree)) senses) (further : FurtherKnown (numbered tag_number (source_of tokens tree)) senses) (ownable : IsOwnable u) (within : (d e : ℕ) → numbering d ≡ Some e → e < length u.entities.items)
  where
    abbrev s : Source
    s = numbered tag_number (source_of tokens tree)

    abbrev sense : ℕ → Sense
    sense = sense_in senses

    -- the leaf of each literal in the unit is no name
    unnamed_node : (n : ℕ) (node : Node) (e : ℕ) → node_at (trees_of u) n ≡ Some node → node.kind ≡ Literal e → (d : ℕ) × (numbering d ≡ Some e) × (is_name s d ≡ false)
    unnamed_node n node e there is = of_body (entity_of_leaf s senses numbering u grown made names up.number up.entity up.stands)
      where
        up : Above s senses numbering u grown made n
        up = above s senses numbering u grown made n (slice_get_within u.nodes.items n node there)

        of_node : Stood (IsUnnamed s) numbering u n → (d : ℕ) × (numbering d ≡ Some e) × (is_name s d ≡ false)
        of_node (Of kind place type children, (x, own, same, place_is, type_is, under_are), hold) =
            let one : x ≡ node = some_same (sym own ∙ there) in
            let told = literal_is numbering kind x.kind e same (ap (λ (y : Node). y.kind) one ∙ is) in
            (told.0, told.2, (subst (λ (k : NodeKind). Holds (IsUnnamed s) (Of k place type children)) told.1 hold).0)

        of_core : (leaf : ℕ) (what : Declares) → IsDeclaredAt s senses leaf what → (o : Option Core) → what.body ≡ o → SameBody numbering u o (Some up.top) → (d : ℕ) × (numbering d ≡ Some e) × (is_name s d ≡ false)
        of_core leaf what declared None at body = absurd body
        of_core leaf what declared (Some c) at body = of_node (stood (IsUnnamed s) numbering u up.top n up.under (c, body, held_free s c (declared_held s senses made.are_senses leaf what c declared at)))

        of_body : EntityOf s senses numbering u grown made names up.number up.entity → (d : ℕ) × (numbering d ≡ Some e) × (is_name s d ≡ false)
        of_body own = of_core own.leaf own.what own.declared own.what.body refl (subst (λ (o : Option ℕ). SameBody numbering u own.what.body o) up.body own.is.body)

    no_literal : (d e : ℕ) → numbering d ≡ Some e → is_name s d ≡ true → NoLiteral (trees_of u) e
    no_literal d e number name = record { each = λ n node there is. by n node there node.kind refl is }
      where
        by : (n : ℕ) (node : Node) → node_at (trees_of u) n ≡ Some node → (kind : NodeKind) → node.kind ≡ kind → IsLiteralOf kind e → ⊥
        by n node there (Literal o) is same =
            let own = unnamed_node n node e there (is ∙ ap (λ (k : ℕ). Literal k) same) in
            clash (is_name s d) name (subst (λ (k : ℕ). is_name s k ≡ false) (once own.0 d e own.1 number) own.2)
        by n node there kind is same = absurd same

    -- the entity of a leaf that has a number
    entity_there : (d e : ℕ) → numbering d ≡ Some e → (entity : Entity) × (entity_at (trees_of u) e ≡ Some entity)
    entity_there d e number =
        let (c, what, declared, own) = made.no_other_entity e (within d e number) in
        let (e2, x2, number2, at2, is) = made.each_declared c what declared in
        let same : e2 ≡ e = some_same (sym number2 ∙ own) in
        (x2, sym (ap (λ (k : ℕ). slice_get u.entities.items k) same) ∙ at2)

    and_then : {A : Type 0} (x : Bool) (o : Option A) (y : A) → (if x then o else None) ≡ Some y → (x ≡ true) × (o ≡ Some y)
    and_then true o y e = (refl, e)
    and_then false o y e = cc

    -- an object that is listed has automatic storage
    automatic_at : (d : ℕ) (what : Declares) → IsDeclaredAt s senses d what → is_name s d ≡ true → RowListed s grown lefts senses made.are_senses made.whole d → what.storage ≡ Automatic
    automatic_at d what (inr (c, literal, is)) name row = clash (is_name s d) name (literal_unnamed s senses made.are_senses d c literal)
    automatic_at d what (inl is) name row = by (entity_type s senses d) own.1
      where
        own : (declares_entity s senses d ≡ true) × (option_map (declared_as s senses d) (entity_type s senses d) ≡ Some what)
        own = and_then (declares_entity s senses d) (option_map (declared_as s senses d) (entity_type s senses d)) what is

        stands : stands_in_declaration s senses d ≡ true
        stands = left_true (stands_in_declaration s senses d) _ (right_true (is_declaring s senses d) _ own.0)

        by : (t : Option Ctype) → option_map (declared_as s senses d) t ≡ Some what → what.storage ≡ Automatic
        by None e = cc
        by (Some t) e =
            let same : declared_as s senses d t ≡ what = some_same e in
            sym (ap (λ (x : Declares). x.storage) same) ∙ storage_is s grown senses made.are_senses made.whole row.node d row.blockish row.below row.world row.automatic stands

    listable : (f b n : ℕ) (entity : Entity) (at : entity_at (trees_of u) f ≡ Some entity) (storage : entity.storage ≡ FunctionBody) (body : entity.body ≡ Some b) (under : Under (trees_of u) b n) (node : Node) (there : node_at (trees_of u) n ≡ Some node)
        → (t : FunctionTree s senses numbering u grown made names f b) → owners.t tokens tree tag_number senses numbering u grown made once listed lefts names further ownable f b n entity at storage body under node there ≡ t
        → (d e : ℕ) → IsListedThere s grown lefts senses made.are_senses made.whole t.external d → numbering d ≡ Some e → IsListable (trees_of u) n e
    listable f b n entity at storage body under node there t same d e (near, name, row) number = by (entity_there d e number)
      where
        by : (x : Entity) × (entity_at (trees_of u) e ≡ Some x) → IsListable (trees_of u) n e
        by (x, stands) = subst (λ (o : Option Entity). IsListableIn (trees_of u) n e o) (sym stands) (automatic, no_literal d e number name, owned)
          where
            own : EntityOf s senses numbering u grown made names e x
            own = entity_of_leaf s senses numbering u grown made names e x stands

            leaf : own.leaf ≡ d
            leaf = once own.leaf d e own.number number

            automatic : x.storage ≡ Automatic
            automatic = own.is.storage ∙ automatic_at d own.what (subst (λ (k : ℕ). IsDeclaredAt s senses k own.what) leaf own.declared) name row

            owned : InOwnersBody (trees_of u) x.owner n
            owned =
                owners.local_at tokens tree tag_number senses numbering u grown made once listed lefts names further ownable f b n entity at storage body under node there e d x number stands (subst IsLocal (sym automatic) tt)
                (λ off. subst (λ (y : FunctionTree s senses numbering u grown made names f b). owners.N_of tokens tree tag_number senses numbering u grown made once listed lefts names further ownable f b y d) (sym same) near)

    in_function : (f b n : ℕ) (entity : Entity) (at : entity_at (trees_of u) f ≡ Some entity) (storage : entity.storage ≡ FunctionBody) (body : entity.body ≡ Some b) (under : Under (trees_of u) b n) (node : Node) (there : node_at (trees_of u) n ≡ Some node)
        → All (λ e. IsListable (trees_of u) n e) (listed_by node.kind)
    in_function f b n entity at storage body under node there = by (stood (L t.external) numbering u b n under (t.core, t.stands, tree_held))
      where
        t : FunctionTree s senses numbering u grown made names f b
        t = owners.t tokens tree tag_number senses numbering u grown made once listed lefts names further ownable f b n entity at storage body under node there

        L : ℕ → Core → Type 0
        L p = Lists s grown lefts senses made.are_senses made.whole p

        tree_held : Holds (L t.external) t.core
        tree_held = core_held (subst (λ (x : Sense). OfSense s (λ i. owners.N_of tokens tree tag_number senses numbering u grown made once listed lefts names further ownable f b t i) (L t.external) x) t.sensed
            (trees_list s grown lefts senses made.are_senses made.whole t.external t.block (part t.part)))
          where
            core_held : OfSense s (λ i. owners.N_of tokens tree tag_number senses numbering u grown made once listed lefts names further ownable f b t i) (L t.external) (IsCore t.core) → Holds (L t.external) t.core
            core_held h = h

        lists : (kind : NodeKind) (place : Place) (type : Ctype) (children : Cores) → Asks (L t.external) kind place type children → AllNear (IsListedThere s grown lefts senses made.are_senses made.whole t.external) (listed_by kind)
        lists (Block ds) place type children h = h
        lists (For ds c a) place type children h = h
        lists kind place type children h = tt

        by : Stood (L t.external) numbering u n → All (λ e. IsListable (trees_of u) n e) (listed_by node.kind)
        by (Of kind place type children, (x, own, same, place_is, type_is, under_are), hold) =
            let one : x ≡ node = some_same (sym own ∙ there) in
            subst (λ (y : Node). All (λ e. IsListable (trees_of u) n e) (listed_by y.kind)) one
            (of_kind numbering (IsListedThere s grown lefts senses made.are_senses made.whole t.external) (λ e. IsListable (trees_of u) n e)
            (listable f b n entity at storage body under node there t refl) kind x.kind same (lists kind place type children hold.0))

    lists_right : ListsRight (trees_of u)
    lists_right n node there = by (owners.place_of tokens tree tag_number senses numbering u grown made once listed lefts names further ownable n (slice_get_within u.nodes.items n node there))
      where
        by : owners.Place tokens tree tag_number senses numbering u grown made once listed lefts names further ownable n → All (λ e. IsListable (trees_of u) n e) (listed_by node.kind)
        by (owners.in_function f b entity at storage body under) = in_function f b n entity at storage body under node there
        by (owners.in_static e b entity at storage init under) =
            let none = no_list (trees_of u) ownable.rows ownable.fixed (literals_last s senses numbering u grown made) b n node under (e, init, subst LivesForTheRun (sym at) storage) there in
            subst (λ (l : List ℕ). All (λ e. IsListable (trees_of u) n e) l) (sym none) (All-nil (λ e. IsListable (trees_of u) n e))

pub lists_built : ListsBuilt
lists_built tokens unit tree tag_number name u cut is built listed lefts names further ownable =
    let s : Source = numbered tag_number (source_of tokens tree) in
    lists_right tokens tree tag_number built.senses built.numbering u (owners.grown_of tokens unit tree tag_number cut is) (owners.made_of s name u built) built.entity_once listed lefts names further ownable built.numbered
