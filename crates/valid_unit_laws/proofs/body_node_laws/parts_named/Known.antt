-- Each entity that a node names is declared, where that is so of the trees in bodies.
use Rattle.std.proofs.Common.{◌≡◌, ◌∙◌, ℕ, zero, suc, ◌⊎◌, inl, inr, Bool, true, false, List, [], ◌∷◌, get_or, slice_get, Option, Some, None, refl, sym, ap, subst, IsTrue}
use Rattle.std.specs.Prelude.{◌&&◌, option_map, option_and_then, is_some}
use Rattle.std.proofs.lemmas.Option.{slice_get_within, get_or_from_slice_get, slice_get-get_or}
use Rattle.c_lexer.specs.declared.Tokens.{Tokens}
use Rattle.c_lexer.specs.Cut.{IsTokens}
use Rattle.c_grammar.specs.declared.trees.Tree.{Tree}
use Rattle.c_parser.specs.c_units.Units.{IsUnit}
use Rattle.core_tree.specs.declared.node.Node.{Node}
use Rattle.core_tree.specs.declared.node.NodeKind.{NodeKind}
use Rattle.core_tree.specs.declared.node.NodeKind.TheVariants.{Named, FunctionName, Literal, VarArgs, Initialise, Block, For}
use Rattle.core_tree.specs.declared.node.Unit.{Unit}
use Rattle.c_consts.specs.Core.{Core, kind_of}
use Rattle.core_nodes.specs.Standing.{core_at}
use Rattle.core_nodes.proofs.Reading.{kind_is}
use Rattle.core_nodes.specs.kept_nodes.Marked.{marked}
use Rattle.c_senses.specs.Names.{source_of, numbered}
use Rattle.c_senses.specs.Tree.{Source}
use Rattle.c_senses.specs.Sense.{sense_in}
use Rattle.c_senses.specs.Entities.{is_linked, is_internal}
use Rattle.c_senses.specs.Right.{Within, declared_name}
use Rattle.c_senses.specs.Right as right
use Rattle.core_node_laws.specs.built_unit_laws.built_laws.Placed.{IsInBody}
use Rattle.unit_finish.specs.declared.unit_parts.declared.Declared.{Declared}
use Rattle.unit_finish.specs.own_bodies.Own.{is_automatic, lasting_bodies}
use Rattle.declaration_laws.proofs.function_laws.passed.definition_laws.linkage_laws.Seen.{no_both}
use Rattle.c_inits.specs.Shapes.{Path}
use Rattle.core_tree.specs.declared.node.Storage.TheVariants.{Automatic}
use Rattle.unit_finish.specs.unit_parts.Numbered.{moved, new_number}
use Rattle.unit_finish.specs.unit_parts.Renamed.{is_known, all_known}
use Rattle.unit_finish.specs.unit_parts.Entities.{numbering_of, bodies_of}
use Rattle.unit_finish.specs.planted_nodes.Copied.{no_node, node_of}
use Rattle.unit_finish.specs.Walked.{declared_seen}
use Rattle.unit_finish.proofs.Lists.{kept_from, literal_there, body_there}
use Rattle.unit_finish.proofs.Standing.{marked_node, within_there, within_top, kept_there}
use Rattle.valid_unit_laws.specs.body_node_laws.parts_named.Named.{AreParts, IsDeclared, IsLiteralThere, AreDeclared, AreKnown, PartsKnown}
use Rattle.valid_unit_laws.proofs.body_node_laws.parts_named.Listing.{numbers, all_of, name_there, literal_there as listed_literal}
use Rattle.valid_unit_laws.proofs.body_node_laws.parts_named.Owners.{parts_owned}
use Rattle.valid_unit_laws.proofs.body_node_laws.parts_named.Apart.{IsLasting, lasting_back, names_there, lasts, in_body, parts_apart}
use Rattle.valid_unit_laws.proofs.body_node_laws.parts_named.Roots.{key_of}
use Rattle.valid_unit_laws.proofs.body_node_laws.parts_named.Initials.{initials_declared}
use Rattle.valid_unit_laws.proofs.body_node_laws.parts_named.Objects.{listed_declared, further_declared}
use Rattle.valid_unit_laws.proofs.body_node_laws.parts_named.Firsts.{internals_first}
use Rattle.valid_unit_laws.proofs.body_node_laws.parts_named.Linked.{internal_declared, external_declared, linked_name}

module _ (tokens : Tokens) (unit : ℕ) (tree : Tree) (tag_number : ℕ → ℕ) (cut : IsTokens tokens.text.now tokens.list.items) (read : IsUnit tokens unit tree) (p : AreParts (numbered tag_number (source_of tokens tree)))
    (known : AreKnown (numbered tag_number (source_of tokens tree)) p.senses)
  where
    abbrev s : Source
    s = numbered tag_number (source_of tokens tree)

    abbrev u : Unit
    u = p.walked

    abbrev n : ℕ → Option ℕ
    n = numbering_of p.planted.list.items

    both : (a b : Bool) → a ≡ true → b ≡ true → (a && b) ≡ true
    both true b e f = f
    both false b e f = cc

    declared_known : (d : ℕ) → IsDeclared s p.senses d → is_some (n d) ≡ true
    declared_known d (what, e) = name_there s p d what e

    all_declared : (ds : List ℕ) → AreDeclared s p.senses ds → all_known n ds ≡ true
    all_declared [] h = refl
    all_declared (d ∷ ds) h = both (is_some (n d)) (all_known n ds) (declared_known d h.0) (all_declared ds h.1)

    -- a literal of the nodes that stay
    kept_known : (d m : ℕ) (y : Node) → slice_get p.kept.nodes.items m ≡ Some y → y.kind ≡ Literal d → is_some (n d) ≡ true
    kept_known d m y there kind = let r = literal_there p.kept.nodes.items m y d there kind in listed_literal s p r.0 (record { leaf = d; ty = y.ty; body = slice_get y.children 0 }) r.1

    body_of : (o : Option ℕ) (c : Core) → option_map (core_at u) o ≡ Some c → (b : ℕ) × (o ≡ Some b) × (core_at u b ≡ c)
    body_of None c e = cc
    body_of (Some b) c e = let same : core_at u b ≡ c = cc in (b, refl, same)

    marked_known : (d m : ℕ) (x : Node) → marked p.stay.marks m → slice_get u.nodes.items m ≡ Some x → x.kind ≡ Literal d → is_some (n d) ≡ true
    marked_known d m x on at kind =
        kept_known d (new_number (numbers s p) m) (moved (numbers s p) x)
        (ap (λ (l : List Node). slice_get l (new_number (numbers s p) m)) p.stay.nodes_are ∙ kept_there s p.senses u p.stay.marks (bodies_of p.names) p.ready p.stay.are_marked m x on at) kind

    -- a tree in a body is that of a node under the bodies
    below_body : (c top : Core) (k b : ℕ) (x : Declared) → Within s p.senses c top → slice_get p.names k ≡ Some x → x.body ≡ Some b → core_at u b ≡ top → (m : ℕ) × marked p.stay.marks m × (core_at u m ≡ c)
    below_body c top k b x within at body core =
        let (q, listed) = body_there p.names k x b at body in
        let mark : marked p.stay.marks b = subst (marked p.stay.marks) (get_or_from_slice_get (bodies_of p.names) q b 0 listed) (p.stay.are_marked.tops q (slice_get_within (bodies_of p.names) q b listed)) in
        within_there s p.senses u p.stay.marks (bodies_of p.names) p.ready p.stay.are_marked c top within b mark core

    named_body : (leaf k : ℕ) (x : Declared) (what : right.Declared) (top : Core) → slice_get p.names k ≡ Some x → x.leaf ≡ leaf → right.declared_name s p.senses leaf ≡ Some what → what.body ≡ Some top → (b : ℕ) × (x.body ≡ Some b) × (core_at u b ≡ top)
    named_body leaf k x what top at same told has =
        let seen : Some (declared_seen u x) ≡ Some what = sym (p.made.are_names.each k x at) ∙ (ap (right.declared_name s p.senses) same ∙ told) in
        body_of x.body top (ap (λ (o : Option right.Declared). option_and_then (λ w. w.body) o) seen ∙ has)

    tree_there : (c : Core) → IsInBody s p.senses c → (m : ℕ) × marked p.stay.marks m × (core_at u m ≡ c)
    tree_there c h =
        let (k, x, at, leaf) = p.made.are_names.all h.leaf h.what h.declared in
        let (b, body, core) = named_body h.leaf k x h.what h.body at leaf h.declared h.has in
        below_body c h.body k b x h.within at body core

    literal_known : (d : ℕ) → IsLiteralThere s p.senses d → is_some (n d) ≡ true
    literal_known d l = by (tree_there l.tree l.in_body)
      where
        by : (m : ℕ) × marked p.stay.marks m × (core_at u m ≡ l.tree) → is_some (n d) ≡ true
        by (m, on, core) =
            let node = marked_node s p.senses u p.stay.marks (bodies_of p.names) p.ready p.stay.are_marked m on in
            marked_known d m node.0 on node.1 (kind_is u p.ready m node.0 node.1 ∙ (ap kind_of core ∙ l.kind))

    name_declared : (c : Core) (d : ℕ) → IsInBody s p.senses c → (kind_of c ≡ Named d) ⊎ (kind_of c ≡ FunctionName d) → IsDeclared s p.senses d
    name_declared c d h e = by (is_linked s (sense_in p.senses) d) refl (is_internal s (sense_in p.senses) d) refl
      where
        by : (a : Bool) → is_linked s (sense_in p.senses) d ≡ a → (b : Bool) → is_internal s (sense_in p.senses) d ≡ b → IsDeclared s p.senses d
        by false f b g = known.unlinked c d h e f
        by true f true g = internal_declared tokens unit tree tag_number p.senses cut read p.made.are_senses p.made.whole d g (internals_first tokens unit tree tag_number p.senses cut read p.made.are_senses p.made.whole c d h e g)
        by true f false g = external_declared tokens unit tree tag_number p.senses cut read p.made.are_senses p.made.whole d f g

    -- a tree below a body that lasts
    record IsUnderLasting (c : Core) : Type 0 where
      top : ℕ
      lasting : IsLasting p.listed top
      inside : Within s p.senses c (core_at u top)

    under_lasting : (j : ℕ) → marked p.owned.marks j → IsUnderLasting (core_at u j)
    under_lasting j on =
        let top = within_top s p.senses u p.owned.marks (lasting_bodies p.listed) p.ready p.owned.are_marked j on in
        let b = get_or (lasting_bodies p.listed) top.0 0 in
        record { top = b; lasting = lasting_back p.listed top.0 b (slice_get-get_or (lasting_bodies p.listed) top.0 0 top.1); inside = top.2 }

    initial_known : (c : Core) (d : ℕ) (paths : List Path) → IsInBody s p.senses c → kind_of c ≡ Initialise d paths → IsUnderLasting c → IsDeclared s p.senses d ⊎ IsLiteralThere s p.senses d
    initial_known c d paths h e l = by (is_linked s (sense_in p.senses) d) refl
      where
        told : declared_name s p.senses l.lasting.object.leaf ≡ Some (declared_seen u l.lasting.object)
        told = p.made.are_names.each l.lasting.place l.lasting.object (names_there tokens unit tree tag_number cut read p l.lasting.place l.lasting.object l.lasting.there l.lasting.lasts)

        lasting : l.lasting.object.storage ≡ Automatic → ⊥
        lasting k = no_both (is_automatic l.lasting.object.storage) (ap is_automatic k) l.lasting.lasts

        by : (b : Bool) → is_linked s (sense_in p.senses) d ≡ b → IsDeclared s p.senses d ⊎ IsLiteralThere s p.senses d
        by false f = known.initials c d paths h e f
        by true f =
            let k = key_of tokens unit tree tag_number p.senses cut read p.made.are_senses p.made.whole l.lasting.object.leaf (declared_seen u l.lasting.object) (core_at u l.top) told lasting (ap (option_map (core_at u)) l.lasting.body) in
            inl (initials_declared tokens unit tree tag_number p.senses cut read p.made.are_senses p.made.whole d k.0 c (core_at u l.top) paths f (linked_name tokens unit tree tag_number p.senses cut read p.made.are_senses p.made.whole d f) e l.inside k.1.root)

    -- a tree in a body, and what a copy of its node names
    kind_known : (m : ℕ) (y : Node) → slice_get p.kept.nodes.items m ≡ Some y → (c : Core) → IsInBody s p.senses c → IsUnderLasting c → (kind : NodeKind) → y.kind ≡ kind → kind_of c ≡ kind → is_known n kind ≡ true
    kind_known m y there c h on (Named d) is e = declared_known d (name_declared c d h (inl e))
    kind_known m y there c h on (FunctionName d) is e = declared_known d (name_declared c d h (inr e))
    kind_known m y there c h on (VarArgs d) is e = declared_known d (further_declared tokens unit tree tag_number p.senses cut read p.made.are_senses p.made.whole c h d e)
    kind_known m y there c h on (Literal d) is e = kept_known d m y there is
    kind_known m y there c h on (Initialise d paths) is e = by (initial_known c d paths h e on)
      where
        by : IsDeclared s p.senses d ⊎ IsLiteralThere s p.senses d → is_some (n d) ≡ true
        by (inl k) = declared_known d k
        by (inr k) = literal_known d k
    kind_known m y there c h on (Block ds) is e = all_declared ds (listed_declared tokens unit tree tag_number p.senses cut read p.made.are_senses p.made.whole c h ds (inl e))
    kind_known m y there c h on (For ds a b) is e = all_declared ds (listed_declared tokens unit tree tag_number p.senses cut read p.made.are_senses p.made.whole c h ds (inr (a, b, e)))
    kind_known m y there c h on kind is e = refl

    kept_node : (m : ℕ) (y : Node) → slice_get p.kept.nodes.items m ≡ Some y → is_known n y.kind ≡ true
    kept_node m y there =
        let (j, x, on, at, number, is) = kept_from (moved (numbers s p)) 0 p.stay.marks u.nodes.items m y (sym (ap (λ (l : List Node). slice_get l m) p.stay.nodes_are) ∙ there) in
        let kind : kind_of (core_at u j) ≡ y.kind = sym (kind_is u p.ready j x at) ∙ sym (ap (λ (z : Node). z.kind) is) in
        kind_known m y there (core_at u j) (in_body tokens unit tree tag_number cut read p j on) (under_lasting j (lasts tokens unit tree tag_number cut read p j on)) y.kind refl kind

    node_known : (i : ℕ) (y : Node) → slice_get p.planted.nodes.items i ≡ Some y → is_known n y.kind ≡ true
    node_known i y there =
        let c = p.are_planted.copies i y there in
        let o = p.are_planted.origin i in
        let kind : y.kind ≡ (node_of p.kept.nodes.items o).kind = ap (λ (z : Node). z.kind) c.same in
        ap (is_known n) kind ∙ by o (slice_get p.kept.nodes.items o) refl
      where
        none_there : (list : List Node) (o : ℕ) → slice_get list o ≡ None → get_or list o no_node ≡ no_node
        none_there [] o e = refl
        none_there (x ∷ list) zero e = cc
        none_there (x ∷ list) (suc o) e = none_there list o e

        by : (o : ℕ) (found : Option Node) → slice_get p.kept.nodes.items o ≡ found → is_known n (node_of p.kept.nodes.items o).kind ≡ true
        by o None e = ap (λ (z : Node). is_known n z.kind) (none_there p.kept.nodes.items o e)
        by o (Some x) e = ap (λ (z : Node). is_known n z.kind) (get_or_from_slice_get p.kept.nodes.items o x no_node e) ∙ kept_node o x e

pub parts_known : PartsKnown
parts_known tokens unit tree tag_number cut read p known = record {
  apart = parts_apart tokens unit tree tag_number cut read p;
  owners = parts_owned tokens unit tree tag_number cut read p;
  known = all_of (λ (y : Node). IsTrue (is_known (numbering_of p.planted.list.items) y.kind)) p.planted.nodes.items (node_known tokens unit tree tag_number cut read p known);
}
