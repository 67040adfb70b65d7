-- Each initialiser of a unit that is put together of parts is its entity's body.
use Rattle.std.proofs.Common.{arith, ◌≡◌, ◌∙◌, ℕ, ◌+◌, ◌<◌, nat_eq, nat_lt, ◌⊎◌, inl, inr, Bool, true, false, List, length, get_or, map, slice_get, Option, Some, None, refl, sym, ap, subst}
use Rattle.std.specs.Prelude.{is_some, option_map, if◌then◌else◌}
use Rattle.std.proofs.lemmas.Bool.{eqb-true, eqb-false, ltb-true}
use Rattle.std.proofs.lemmas.List.{length-map}
use Rattle.std.proofs.lemmas.Option.{slice_get-get_or, slice_get_within, get_or_from_slice_get}
use Rattle.c_lexer.specs.declared.Tokens.{Tokens}
use Rattle.c_lexer.specs.Cut.{IsTokens}
use Rattle.c_grammar.specs.declared.trees.Tree.{Tree}
use Rattle.c_parser.specs.c_units.Units.{IsUnit}
use Rattle.c_types.specs.Trees.{VoidType}
use Rattle.c_grammar.specs.Productions.{p_block}
use Rattle.core_tree.specs.declared.node.Node.{Node}
use Rattle.core_tree.specs.declared.node.NodeKind.{NodeKind}
use Rattle.core_tree.specs.declared.node.NodeKind.TheVariants.{Initialise, Block}
use Rattle.core_tree.specs.declared.node.Entity.{Entity}
use Rattle.core_tree.specs.declared.node.Unit.{Unit}
use Rattle.core_tree.specs.declared.node.Storage.{Storage}
use Rattle.core_tree.specs.declared.node.Storage.TheVariants.{Static, Automatic, FunctionBody}
use Rattle.core_tree.specs.Typed.{trees_of}
use Rattle.core_tree.specs.Range.{IsChild, child_in, entity_at}
use Rattle.core_tree.specs.Rows.{Initialises}
use Rattle.c_consts.specs.Core.{Core, Of, kind_of}
use Rattle.c_inits.specs.Shapes.{Path}
use Rattle.core_nodes.specs.Standing.{core_at}
use Rattle.core_nodes.proofs.Reading.{kind_is}
use Rattle.core_nodes.specs.kept_nodes.Marked.{ChildIn, marked}
use Rattle.c_senses.specs.Names.{source_of, numbered}
use Rattle.c_senses.specs.Tree.{Source, is_a, children_at, place_at, paired}
use Rattle.c_senses.specs.Given.{Given, Fits}
use Rattle.c_senses.specs.Sense.{Sense, IsCore, sense_in}
use Rattle.c_senses.specs.Rows.{AreSenses}
use Rattle.c_senses.specs.Statements.{objects_in, cores_in}
use Rattle.c_senses.specs.Entities.{function_around}
use Rattle.c_senses.specs.Right.{literal_storage, core_of_sense}
use Rattle.unit_finish.specs.declared.unit_parts.declared.Declared.{Declared}
use Rattle.unit_finish.specs.unit_parts.Numbered.{numbered_from, new_number, moved}
use Rattle.unit_finish.specs.unit_parts.Renamed.{renamed, renamed_node, is_known, entity_number}
use Rattle.unit_finish.specs.unit_parts.Entities.{numbering_of, bodies_of, with_moved_body}
use Rattle.unit_finish.specs.planted_nodes.Planted.{IsBodyCopy, IsMoved, IsPlanted, IsUnder, here, below}
use Rattle.unit_finish.specs.own_bodies.Own.{is_automatic, lasting_bodies, initialises_from, with_own_body, HaveOwnBodies}
use Rattle.unit_finish.proofs.own_bodies.Found.{IsFoundAt, found_at}
use Rattle.unit_finish.specs.Walked.{declared_seen, literal_entry}
use Rattle.unit_finish.proofs.Lists.{literal_back, kept_from, body_back, get_map, map_back}
use Rattle.unit_finish.proofs.Standing.{at_within, number_same, marked_node, kept_there, copy_of}
use Rattle.core_node_laws.proofs.count_laws.once_nodes.Rooted.{found_where}
use Rattle.core_node_laws.proofs.built_unit_laws.run_laws.Times.{known_at, world_of, row_as}
use Rattle.declaration_laws.proofs.function_laws.passed.definition_laws.linkage_laws.Seen.{node_within}
use Rattle.valid_unit_laws.proofs.body_node_laws.parts_initialise.PassedOn.{IsBlock}
use Rattle.core_node_laws.specs.built_unit_laws.built_parts.Parts.{ArePut}
use Rattle.core_node_laws.proofs.built_unit_laws.built_parts.Building as building
use Rattle.valid_unit_laws.specs.body_node_laws.parts_initialise.Initialise.{IsRaised, IsLasting}
use Rattle.valid_unit_laws.proofs.body_node_laws.parts_initialise.Stored.{BlockAt, StaysAt, lasting_root}
use Rattle.valid_unit_laws.proofs.body_node_laws.parts_initialise.Forest.{node_initialises}
use Rattle.valid_unit_laws.proofs.body_node_laws.parts_initialise.Once.{units_initialise_once}
use Rattle.valid_unit_laws.specs.body_node_laws.raised_parts.Raised.{HoldersFirst, PartsInitialiseOnce}
use Rattle.valid_unit_laws.proofs.body_node_laws.raised_parts.Holders.{holders_first}
use Rattle.valid_unit_laws.proofs.body_node_laws.raised_parts.Chains.{child_of_some, below_at, child_or_none, twin, lasting_back, under_top, under_within}

some_one : {X : Type 0} → {x y : X} → ◌≡◌ {A = Option X} (Some x) (Some y) → x ≡ y
some_one h = cc

one_leaf : {d f : ℕ} {paths others : List Path} → Initialise d paths ≡ Initialise f others → d ≡ f
one_leaf h = cc

turned : (j e : ℕ) → (j ≡ e → ⊥) → nat_lt j e ≡ false → e < j
turned j e differ off = grind (arith, differ, off)

storages_apart : Automatic ≡ FunctionBody → ⊥
storages_apart e = cc

automatic_is : (x : Storage) → is_automatic x ≡ true → x ≡ Automatic
automatic_is Automatic e = refl
automatic_is x e = cc

no_automatic : (x : Storage) → is_automatic x ≡ false → x ≡ Automatic → ⊥
no_automatic x e same = let on : is_automatic x ≡ true = ap is_automatic same in let never : true ≡ false = sym on ∙ e in cc

-- a kind that initialises, before its entity had a number
renamed_initialises : (n : ℕ → Option ℕ) (kind : NodeKind) (e : ℕ) (paths : List Path) → renamed n kind ≡ Initialise e paths → (d : ℕ) × (kind ≡ Initialise d paths) × (entity_number n d ≡ e)
renamed_initialises n (Initialise d own) e paths h =
    let number : entity_number n d ≡ e = one_leaf h in
    let same : own ≡ paths = cc in
    (d, ap (λ (p : List Path). Initialise d p) same, number)
renamed_initialises n kind e paths h = absurd (cc)

module _ (tokens : Tokens) (unit : ℕ) (tree : Tree) (tag_number : ℕ → ℕ) (name : List ℕ) (u : Unit) (cut : IsTokens tokens.text.now tokens.list.items) (read : IsUnit tokens unit tree)
    (put : ArePut (numbered tag_number (source_of tokens tree)) name u) (first_list : List Declared) (owned : HaveOwnBodies put.walked.nodes.items first_list put.names)
    (holders : HoldersFirst (numbered tag_number (source_of tokens tree)) put.senses)
  where
    abbrev s : Source
    s = numbered tag_number (source_of tokens tree)

    abbrev senses : List Sense
    senses = put.senses

    abbrev sense : ℕ → Sense
    sense i = sense_in put.senses i

    abbrev old : Unit
    old = put.walked

    abbrev names : List Declared
    names = put.names

    abbrev marks : List Bool
    marks = put.stay.marks

    abbrev numbers : List (Option ℕ)
    numbers = numbered_from 0 put.stay.marks

    abbrev planted : List Declared
    planted = put.planted.list.items

    abbrev ps : List Node
    ps = put.planted.nodes.items

    abbrev n : ℕ → Option ℕ
    n = numbering_of put.planted.list.items

    abbrev made : IsPlanted put.kept.nodes.items put.list put.planted
    made = put.are_planted

    abbrev are : AreSenses s senses
    are = put.made.are_senses

    abbrev whole : length senses ≡ length s.nodes
    whole = put.made.whole

    -- ---- copies under copies
    record IsStand (a w : ℕ) : Type 0 where
      node : ℕ
      under : IsUnder ps a node
      from : made.origin node ≡ new_number numbers w
      within : node < length ps
      on : marked marks w

    child_stands : (a p w : ℕ) → IsStand a p → ChildIn old.nodes.items p w → (c : ℕ) × (q : ℕ) × ChildIn ps q c × IsUnder ps a c × (made.origin c ≡ new_number numbers w) × (c < length ps) × marked marks w
    child_stands a p w h child =
        let (x, at) = marked_node s senses old marks (bodies_of names) put.ready put.stay.are_marked p h.on in
        let (z, z_at, has) = child_of_some (slice_get old.nodes.items p) child.0 w child.1 in
        let same : z ≡ x = some_one (sym z_at ∙ at) in
        let inside : slice_get x.children child.0 ≡ Some w = subst (λ (k : Node). slice_get k.children child.0 ≡ Some w) same has in
        let (y, there) = at_within ps h.node h.within in
        let copy = copy_of s senses old marks (bodies_of names) put.ready put.stay.are_marked put.kept.nodes.items put.stay.nodes_are ps made.origin made.copies h.node p x y h.on at there h.from in
        let (c, c_at, from) = twin made.origin (new_number numbers) x.children y.children child.0 w copy.children inside in
        let less = below_at y.children h.node child.0 c copy.first c_at in
        let is_child : ChildIn ps h.node c = (child.0, ap (λ (o : Option Node). child_in o child.0) there ∙ c_at) in
        let few = slice_get_within x.children child.0 w inside in
        let on = subst (marked marks) (get_or_from_slice_get x.children child.0 w 0 inside) (put.stay.are_marked.closed p x at h.on child.0 few) in
        (c, h.node, is_child, below h.under is_child, from, (let lt = h.within in omega (arith, less, lt)), on)

    stand : {t w : ℕ} (a : ℕ) → a < length ps → made.origin a ≡ new_number numbers t → marked marks t → IsUnder old.nodes.items t w → IsStand a w
    stand a lt from on here = record { node = a; under = here; from = from; within = lt; on = on }
    stand {w = w} a lt from on (below {parent = p} under child) =
        let (c, q, is_child, below_it, origin, within, mark) = child_stands a p w (stand a lt from on under) child in
        record { node = c; under = below_it; from = origin; within = within; on = mark }

    -- ---- what is declared
    kept_long : length put.kept.names.items ≡ length names
    kept_long = ap length put.stay.names_are ∙ length-map names (with_moved_body numbers)

    -- the number of a name's entry, and its body
    record IsPlace (j : ℕ) (x : Declared) : Type 0 where
      item : Declared
      at : slice_get planted j ≡ Some item
      moved_is : IsMoved made.origin (length ps) (with_moved_body numbers x) item
      number : n x.leaf ≡ Some j

    place_of : (j : ℕ) (x : Declared) → slice_get names j ≡ Some x → IsPlace j x
    place_of j x at =
        let entry = building.entry_name s name u put j x at in
        let (z, there, m) = building.planted_entry s name u put j (with_moved_body numbers x) entry in
        record { item = z; at = there; moved_is = m; number = building.number_for s name u put j (with_moved_body numbers x) z there m }

    copy_some : (o c : Option ℕ) (k : ℕ) → IsBodyCopy made.origin (length ps) o c → o ≡ Some k → (a : ℕ) × (c ≡ Some a) × (a < length ps) × (made.origin a ≡ k)
    copy_some None c k h e = cc
    copy_some (Some b) None k h e = absurd h
    copy_some (Some b) (Some a) k h e = (a, refl, h.0, h.1 ∙ some_one e)

    body_of : (j t : ℕ) (x : Declared) (p : IsPlace j x) → x.body ≡ Some t → (a : ℕ) × (p.item.body ≡ Some a) × (a < length ps) × (made.origin a ≡ new_number numbers t)
    body_of j t x p body = copy_some (option_map (new_number numbers) x.body) p.item.body (new_number numbers t) p.moved_is.body (ap (option_map (new_number numbers)) body)

    top_marked : (j t : ℕ) (x : Declared) → slice_get names j ≡ Some x → x.body ≡ Some t → marked marks t
    top_marked j t x at body = building.marked_body s name u put j x t at body

    kept_at : (w : ℕ) → marked marks w → new_number numbers w < length put.kept.nodes.items
    kept_at w on =
        let (x, at) = marked_node s senses old marks (bodies_of names) put.ready put.stay.are_marked w on in
        slice_get_within put.kept.nodes.items (new_number numbers w) (moved numbers x)
        (ap (λ (ns : List Node). slice_get ns (new_number numbers w)) put.stay.nodes_are ∙ kept_there s senses old marks (bodies_of names) put.ready put.stay.are_marked w x on at)

    -- a body of which an earlier entry has a copy as a child is one
    late_never : (j e a b c q w : ℕ) (x z : Declared) → j < e → slice_get planted j ≡ Some x → slice_get planted e ≡ Some z → x.body ≡ Some a → z.body ≡ Some b → (z.storage ≡ FunctionBody → ⊥)
        → made.origin b ≡ new_number numbers w → ((p : ℕ) → ChildIn ps p b → ⊥) → ChildIn ps q c → IsUnder ps a c → made.origin c ≡ new_number numbers w → marked marks w → ⊥
    late_never j e a b c q w x z lt at there first own other from free child under same on =
        let few : made.origin b < length put.kept.nodes.items = subst (λ (k : ℕ). k < length put.kept.nodes.items) (sym from) (kept_at w on) in
        let less = made.late e z b there other own few free q c child (same ∙ sym from) in
        let more = made.earlier j e a b c x z lt at there first own free under in
        omega (arith, less, more)

    -- ---- literals
    literal_lasts : (d : ℕ) → literal_storage s senses d ≡ FunctionBody → ⊥
    literal_lasts d e = by (is_some (function_around s (λ (i : ℕ). sense_in put.senses i) d)) e
      where
        by : (b : Bool) → (if b then Automatic else Static) ≡ FunctionBody → ⊥
        by true e = cc
        by false e = cc

    literal_child : (e b : ℕ) (y z : Declared) → slice_get put.list e ≡ Some y → slice_get planted e ≡ Some z → IsMoved made.origin (length ps) y z → z.body ≡ Some b → building.IsLiteralEntry s name u put y → ((p : ℕ) → ChildIn ps p b → ⊥) → ⊥
    literal_child e b y z at there m own (i, l, is, same) free =
        let (k, node, node_at, literal) = literal_back put.kept.nodes.items i l is in
        let (w, x, on, x_at, number, moved_is) = kept_from (moved numbers) 0 marks old.nodes.items k node (sym (ap (λ (ns : List Node). slice_get ns k) put.stay.nodes_are) ∙ node_at) in
        let (kb, body_is, from) = building.body_from s name u put y.body z.body b m.body own in
        let child_is : slice_get (map (new_number numbers) x.children) 0 ≡ Some kb = sym (ap (λ (q : Node). slice_get q.children 0) moved_is) ∙ (sym literal.body ∙ (sym (ap (λ (q : Declared). q.body) same) ∙ body_is)) in
        let (v, v_at, v_is) = map_back (new_number numbers) x.children 0 kb child_is in
        let (q, lt, under) = under_top old put.ready marks (bodies_of names) put.stay.are_marked w on in
        let t = get_or (bodies_of names) q 0 in
        let (j, f, f_at, f_body) = body_back names q t (slice_get-get_or (bodies_of names) q 0 lt) in
        let p = place_of j f f_at in
        let (a, a_body, a_lt, a_from) = body_of j t f p f_body in
        let st = stand a a_lt a_from (top_marked j t f f_at f_body) under in
        let (c, above, is_child, below_it, c_from, c_lt, c_on) = child_stands a w v st (0, ap (λ (o : Option Node). child_in o 0) x_at ∙ v_at) in
        let entry = building.entry_literal s name u put i l is in
        let (z_too, z_at, z_moved) = building.planted_entry s name u put (length put.kept.names.items + i) (literal_entry s senses l) entry in
        let first = building.number_for s name u put e y z there m in
        let second = building.number_for s name u put (length put.kept.names.items + i) (literal_entry s senses l) z_too z_at z_moved in
        let place : e ≡ length put.kept.names.items + i = some_one (sym first ∙ (ap (λ (q : Declared). n q.leaf) same ∙ second)) in
        let j_lt = slice_get_within names j f f_at in
        let long = kept_long in
        let stored : z.storage ≡ literal_storage s senses l.leaf = ap (λ (q : Declared). q.storage) m.same ∙ ap (λ (q : Declared). q.storage) same in
        late_never j e a b c above v p.item z (omega (arith, place, j_lt, long)) p.at there a_body own (λ f. literal_lasts l.leaf (sym stored ∙ f)) (from ∙ v_is) free is_child below_it c_from c_on

    -- ---- automatic objects
    block_kind : (i : ℕ) (c : Core) (d : ℕ) (paths : List Path) → IsBlock tokens unit tree tag_number senses cut read are whole i c → kind_of c ≡ Initialise d paths → ⊥
    block_kind i c d paths h is =
        let found = (found_where (is_a s p_block) (children_at s i) h.block h.child).0 in
        let lt = subst (λ (k : ℕ). h.block < k) (sym whole) (node_within s p_block h.block found refl) in
        let row = row_as s senses are p_block h.block lt found in
        let sensed : sense h.block ≡ IsCore (blocked h.block) = sym (fits_one row) in
        let same : blocked h.block ≡ c = some_one (sym (ap (core_of_sense s senses) sensed) ∙ h.core) in
        apart_kinds (ap kind_of same ∙ is)
      where
        blocked : ℕ → Core
        blocked b = Of (Block (objects_in (world_of s senses b) s (known_at s senses b) (children_at s b))) (place_at s b) VoidType (cores_in (world_of s senses b) s (known_at s senses b) (children_at s b))

        fits_one : {x y : Sense} → ◌≡◌ {A = Given Sense} (Fits x) (Fits y) → x ≡ y
        fits_one h = cc

        apart_kinds : {es : List ℕ} {d : ℕ} {own : List Path} → ◌≡◌ {A = NodeKind} (Block es) (Initialise d own) → ⊥
        apart_kinds h = cc

    abbrev at : ℕ → Option ℕ
    at = paired (initialises_from 0 owned.marks put.walked.nodes.items)

    stored_same : (x : Declared) → (with_own_body at x).storage ≡ x.storage
    stored_same x = by (is_automatic x.storage)
      where
        by : (a : Bool) → (if a then record x { body = at x.leaf } else x).storage ≡ x.storage
        by true = refl
        by false = refl

    leaf_same : (x : Declared) → (with_own_body at x).leaf ≡ x.leaf
    leaf_same x = by (is_automatic x.storage)
      where
        by : (a : Bool) → (if a then record x { body = at x.leaf } else x).leaf ≡ x.leaf
        by true = refl
        by false = refl

    -- the node that is found for an automatic object
    record IsInitialised (x : Declared) (w : ℕ) : Type 0 where
      paths : List Path
      kind : kind_of (core_at old w) ≡ Initialise x.leaf paths
      mark : marked owned.marks w

    initialised : (e w : ℕ) (x : Declared) → slice_get names e ≡ Some x → x.storage ≡ Automatic → x.body ≡ Some w → IsInitialised x w
    initialised e w x at_e auto body =
        let (x0, x0_at, x_is) = map_back (with_own_body at) first_list e x (sym (ap (λ (l : List Declared). slice_get l e) owned.owned_are) ∙ at_e) in
        of_first x0 x_is
      where
        of_first : (x0 : Declared) → x ≡ with_own_body at x0 → IsInitialised x w
        of_first x0 x_is = found (found_at 0 owned.marks old.nodes.items x0.leaf w (sym own_body ∙ body))
          where
            auto0 : is_automatic x0.storage ≡ true
            auto0 = ap is_automatic (sym (stored_same x0) ∙ (sym (ap (λ (q : Declared). q.storage) x_is) ∙ auto))

            leaf : x.leaf ≡ x0.leaf
            leaf = ap (λ (q : Declared). q.leaf) x_is ∙ leaf_same x0

            own_body : x.body ≡ at x0.leaf
            own_body = ap (λ (q : Declared). q.body) x_is ∙ ap (λ (a : Bool). (if a then record x0 { body = at x0.leaf } else x0).body) auto0

            found : IsFoundAt 0 owned.marks old.nodes.items x0.leaf w → IsInitialised x w
            found f =
                let same : f.place ≡ w = omega (arith, f.number) in
                let node : slice_get old.nodes.items w ≡ Some f.node = subst (λ (i : ℕ). slice_get old.nodes.items i ≡ Some f.node) same f.there in
                record {
                  paths = f.paths;
                  kind = sym (kind_is old put.ready w f.node node) ∙ (f.kind ∙ ap (λ (k : ℕ). Initialise k f.paths) (sym leaf));
                  mark = subst (marked owned.marks) same f.mark;
                }

    -- a name that lasts, under whose body a node stands
    record IsHeld (w : ℕ) : Type 0 where
      j : ℕ
      t : ℕ
      holder : Declared
      here_at : slice_get names j ≡ Some holder
      off : is_automatic holder.storage ≡ false
      body : holder.body ≡ Some t
      under : IsUnder old.nodes.items t w

    held : (w : ℕ) → marked owned.marks w → IsHeld w
    held w mark =
        let (q, lt, under) = under_top old put.ready owned.marks (lasting_bodies first_list) owned.are_marked w mark in
        of_top (get_or (lasting_bodies first_list) q 0) under (lasting_back first_list q (get_or (lasting_bodies first_list) q 0) (slice_get-get_or (lasting_bodies first_list) q 0 lt))
      where
        of_top : (t : ℕ) → IsUnder old.nodes.items t w → (k : ℕ) × (x : Declared) × (slice_get first_list k ≡ Some x) × (is_automatic x.storage ≡ false) × (x.body ≡ Some t) → IsHeld w
        of_top t under (j, h, h_at, off, h_body) =
            let h_is : with_own_body at h ≡ h = ap (λ (a : Bool). if a then record h { body = at h.leaf } else h) off in
            record {
              j = j;
              t = t;
              holder = h;
              here_at = ap (λ (l : List Declared). slice_get l j) owned.owned_are ∙ (get_map (with_own_body at) first_list j h h_at ∙ ap (λ (q : Declared). Some q) h_is);
              off = off;
              body = h_body;
              under = under;
            }

    -- it stands in the list before the object
    before_it : (e w : ℕ) (x : Declared) → slice_get names e ≡ Some x → x.storage ≡ Automatic → x.body ≡ Some w → (h : IsHeld w) → h.holder.leaf < x.leaf
    before_it e w x at_e auto body h =
        holders x.leaf h.holder.leaf (declared_seen old x) (declared_seen old h.holder) (core_at old w) (core_at old h.t) (put.made.are_names.each e x at_e) auto (ap (option_map (core_at old)) body)
        (put.made.are_names.each h.j h.holder h.here_at) (no_automatic h.holder.storage h.off) (ap (option_map (core_at old)) h.body) (under_within old put.ready s senses h.under)

    in_order : (j e : ℕ) (h x : Declared) → slice_get names j ≡ Some h → slice_get names e ≡ Some x → h.leaf < x.leaf → j < e
    in_order j e h x j_at e_at less = by (nat_lt j e) refl (nat_eq j e) refl
      where
        by : (a : Bool) → nat_lt j e ≡ a → (c : Bool) → nat_eq j e ≡ c → j < e
        by true lt c same = ltb-true j e lt
        by false lt true same =
            let one : h ≡ x = some_one (sym j_at ∙ (ap (slice_get names) (eqb-true j e same) ∙ e_at)) in
            let leaf : h.leaf ≡ x.leaf = ap (λ (q : Declared). q.leaf) one in
            absurd (omega (arith, less, leaf))
        by false lt false same =
            let back = put.made.are_names.ascend e j x h (turned j e (eqb-false j e same) lt) e_at j_at in
            absurd (omega (arith, less, back))

    -- it isn't its body itself, so that has a copy of it under its own copy, as a child
    copy_of_it : (w a : ℕ) (x : Declared) → IsInitialised x w → (h : IsHeld w) → h.holder.leaf < x.leaf → a < length ps → made.origin a ≡ new_number numbers h.t
        → (c : ℕ) × (q : ℕ) × ChildIn ps q c × IsUnder ps a c × (made.origin c ≡ new_number numbers w) × marked marks w
    copy_of_it w a x i h before lt from = by h.under i.kind refl
      where
        on : marked marks h.t
        on = top_marked h.j h.t h.holder h.here_at h.body

        itself : kind_of (core_at old h.t) ≡ Initialise x.leaf i.paths → ⊥
        itself kind =
            let (r, root) = lasting_root tokens unit tree tag_number senses cut read are whole h.holder.leaf (declared_seen old h.holder) (core_at old h.t) (put.made.are_names.each h.j h.holder h.here_at) (ap (option_map (core_at old)) h.body) (no_automatic h.holder.storage h.off) in
            of_root r root
          where
            of_root : (r : ℕ) → BlockAt tokens unit tree tag_number senses cut read are whole h.holder.leaf r (core_at old h.t) ⊎ StaysAt tokens unit tree tag_number senses cut read are whole h.holder.leaf r (core_at old h.t) → ⊥
            of_root r (inl k) = block_kind r (core_at old h.t) x.leaf i.paths k.block kind
            of_root r (inr k) = let same : h.holder.leaf ≡ x.leaf = one_leaf (sym k.kind ∙ kind) in omega (arith, same, before)

        by : {v : ℕ} → IsUnder old.nodes.items h.t v → kind_of (core_at old v) ≡ Initialise x.leaf i.paths → v ≡ w → (c : ℕ) × (q : ℕ) × ChildIn ps q c × IsUnder ps a c × (made.origin c ≡ new_number numbers w) × marked marks w
        by here kind same = absurd (itself kind)
        by {v = v} (below {parent = p} under child) kind same =
            let (c, q, is_child, below_it, origin, within, mark) = child_stands a p v (stand a lt from on under) child in
            (c, q, is_child, below_it, origin ∙ ap (new_number numbers) same, subst (marked marks) same mark)

    body_back_to : (o : Option ℕ) (c : Option ℕ) (b : ℕ) → IsBodyCopy made.origin (length ps) (option_map (new_number numbers) o) c → c ≡ Some b → (w : ℕ) × (o ≡ Some w) × (made.origin b ≡ new_number numbers w)
    body_back_to None None b h e = cc
    body_back_to None (Some c) b h e = absurd h
    body_back_to (Some w) None b h e = cc
    body_back_to (Some w) (Some c) b h e = let same : c ≡ b = some_one e in (w, refl, subst (λ (k : ℕ). made.origin k ≡ new_number numbers w) same h.1)

    automatic_child : (e b : ℕ) (x z : Declared) → slice_get names e ≡ Some x → slice_get planted e ≡ Some z → IsMoved made.origin (length ps) (with_moved_body numbers x) z → z.body ≡ Some b → x.storage ≡ Automatic → ((p : ℕ) → ChildIn ps p b → ⊥) → ⊥
    automatic_child e b x z at_e there m own auto free = of_body (body_back_to x.body z.body b m.body own)
      where
        other : z.storage ≡ FunctionBody → ⊥
        other fun = storages_apart (sym (ap (λ (q : Declared). q.storage) m.same ∙ auto) ∙ fun)

        of_body : (w : ℕ) × (x.body ≡ Some w) × (made.origin b ≡ new_number numbers w) → ⊥
        of_body (w, body, from) = of_held (initialised e w x at_e auto body)
          where
            of_place : (i : IsInitialised x w) (h : IsHeld w) → h.holder.leaf < x.leaf → (p : IsPlace h.j h.holder) → (a : ℕ) × (p.item.body ≡ Some a) × (a < length ps) × (made.origin a ≡ new_number numbers h.t) → ⊥
            of_place i h before p (a, a_body, a_lt, a_from) =
                let (c, q, is_child, below_it, origin, mark) = copy_of_it w a x i h before a_lt a_from in
                late_never h.j e a b c q w p.item z (in_order h.j e h.holder x h.here_at at_e before) p.at there a_body own other from free is_child below_it origin mark

            with_holder : IsInitialised x w → (h : IsHeld w) → ⊥
            with_holder i h =
                let p = place_of h.j h.holder h.here_at in
                of_place i h (before_it e w x at_e auto body h) p (body_of h.j h.t h.holder p h.body)

            of_held : IsInitialised x w → ⊥
            of_held i = with_holder i (held w i.mark)

    -- ---- the unit
    tops : (e b : ℕ) (entity : Entity) → entity_at (trees_of u) e ≡ Some entity → entity.body ≡ Some b → ((p : ℕ) × IsChild (trees_of u) p b) ⊎ IsLasting s senses n e
    tops e b entity there body =
        let (z, z_at, is) = building.item_for s name u put e entity there in
        let own : z.body ≡ Some b = ap (λ (q : Entity). q.body) is ∙ body in
        by z z_at own (child_or_none ps b)
      where
        named : (z y : Declared) → slice_get planted e ≡ Some z → z.body ≡ Some b → IsMoved made.origin (length ps) y z → building.IsNameEntry s name u put y → ((p : ℕ) → ChildIn ps p b → ⊥) → IsLasting s senses n e
        named z y z_at own m (i, x, x_at, same) free = pick (is_automatic x.storage) refl
          where
            p : IsPlace i x
            p = place_of i x x_at

            number : n x.leaf ≡ Some e
            number = subst (λ (q : Declared). n q.leaf ≡ Some e) same (building.number_for s name u put e y z z_at m)

            place : i ≡ e
            place = some_one (sym p.number ∙ number)

            pick : (t : Bool) → is_automatic x.storage ≡ t → IsLasting s senses n e
            pick false off = (x.leaf, declared_seen old x, put.made.are_names.each i x x_at, number, no_automatic x.storage off)
            pick true on =
                absurd (automatic_child e b x z (subst (λ (k : ℕ). slice_get names k ≡ Some x) place x_at) z_at (subst (λ (q : Declared). IsMoved made.origin (length ps) q z) same m) own (automatic_is x.storage on) free)

        entry : (z y : Declared) → slice_get planted e ≡ Some z → slice_get put.list e ≡ Some y → z.body ≡ Some b → IsMoved made.origin (length ps) y z → ((p : ℕ) → ChildIn ps p b → ⊥)
            → building.IsNameEntry s name u put y ⊎ building.IsLiteralEntry s name u put y → IsLasting s senses n e
        entry z y z_at y_at own m free (inl h) = named z y z_at own m h free
        entry z y z_at y_at own m free (inr h) = absurd (literal_child e b y z y_at z_at m own h free)

        by : (z : Declared) → slice_get planted e ≡ Some z → z.body ≡ Some b → ((p : ℕ) × ChildIn ps p b) ⊎ ((p : ℕ) → ChildIn ps p b → ⊥) → ((p : ℕ) × IsChild (trees_of u) p b) ⊎ IsLasting s senses n e
        by z z_at own (inl h) = inl (h.0, building.child_is s name u put h.0 b h.1)
        by z z_at own (inr free) =
            let (y, y_at, m) = building.entry_back s name u put e z z_at in
            inr (entry z y z_at y_at own m free (building.entry_cases s name u put e y y_at))

    known : (i e : ℕ) → Initialises (trees_of u) i e → e < length u.entities.items
    known i e h =
        let (node, paths, node_at, is) = node_initialises (slice_get u.nodes.items i) e h in
        let (y, y_at, y_is) = map_back (renamed_node n) ps i node (sym (ap (λ (ns : List Node). slice_get ns i) put.is_made.nodes_are) ∙ node_at) in
        let (d, kind, number) = renamed_initialises n y.kind e paths (sym (ap (λ (q : Node). q.kind) y_is) ∙ is) in
        let known_is : is_known n y.kind ≡ true = subst (λ (q : Node). is_known n q.kind ≡ true) (get_or_from_slice_get ps i y y y_at) (put.names_whole.known i y (slice_get_within ps i y y_at)) in
        let some : is_some (n d) ≡ true = sym (ap (is_known n) kind) ∙ known_is in
        building.numbered s name u put d e (number_same (n d) some ∙ ap (λ (k : ℕ). Some k) number)

    pub raised : IsRaised s senses n u
    raised = record {
      entity_once = building.entity_once s name u put;
      each_declared = building.each_declared s name u put;
      no_other_entity = building.no_other_entity s name u put;
      known = known;
      no_other_node = building.no_other_node s name u put;
      children_first = building.children_in s name u put;
      tops = tops;
    }

pub parts_once : PartsInitialiseOnce
parts_once tokens unit tree tag_number name u cut read put list owned fit =
    units_initialise_once tokens unit tree tag_number put.senses cut read put.made.are_senses put.made.whole fit (numbering_of put.planted.list.items) u
    (raised tokens unit tree tag_number name u cut read put list owned (holders_first tokens unit tree tag_number put.senses cut read put.made.are_senses put.made.whole))
