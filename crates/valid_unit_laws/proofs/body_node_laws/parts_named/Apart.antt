-- No two of what is declared by names and compound literals have one leaf.
use Rattle.std.proofs.Common.{arith, ◌≡◌, ◌∙◌, ℕ, zero, suc, nat_eq, ◌+◌, ◌≤◌, ◌⊎◌, inl, inr, Bool, true, false, List, [], ◌∷◌, length, get_or, slice_get, Option, Some, None, refl, sym, ap, subst}
use Rattle.std.specs.Prelude.{option_map, unwrap_or, if◌then◌else◌}
use Rattle.std.proofs.lemmas.Bool.{eqb-true, eqb-false, false≢true}
use Rattle.std.proofs.lemmas.Option.{slice_get_within, slice_get-get_or, get_or_from_slice_get}
use Rattle.c_lexer.specs.declared.Tokens.{Tokens}
use Rattle.c_lexer.specs.Cut.{IsTokens}
use Rattle.c_grammar.specs.declared.trees.Tree.{Tree}
use Rattle.c_parser.specs.c_units.Units.{IsUnit}
use Rattle.c_types.specs.Trees.{Ctype}
use Rattle.core_tree.specs.declared.node.Node.{Node}
use Rattle.core_tree.specs.declared.node.NodeKind.{NodeKind}
use Rattle.core_tree.specs.declared.node.NodeKind.TheVariants.{Literal}
use Rattle.core_tree.specs.declared.node.Storage.{Storage}
use Rattle.core_tree.specs.declared.node.Storage.TheVariants.{Static, Automatic, FunctionBody, Parameter, Declared as DeclaredStorage}
use Rattle.core_tree.specs.declared.node.Unit.{Unit}
use Rattle.core_tree.specs.Range.{child_in}
use Rattle.c_consts.specs.Core.{Core, Of, kind_of}
use Rattle.core_nodes.specs.Standing.{core_at}
use Rattle.core_nodes.proofs.Reading.{kind_is}
use Rattle.core_nodes.specs.kept_nodes.Marked.{marked}
use Rattle.core_nodes.proofs.kept_nodes.Copying.{child_before}
use Rattle.c_senses.specs.Names.{source_of, numbered}
use Rattle.c_senses.specs.Tree.{Source, is_name, paired}
use Rattle.c_senses.specs.Right.{declared_name, declared_as, declares_entity, is_declaring, entity_type}
use Rattle.c_senses.specs.Right as right
use Rattle.declaration_laws.proofs.function_laws.passed.definition_laws.linkage_laws.Seen.{some_same, none_some, no_both}
use Rattle.core_node_laws.specs.literal_nodes.Holding.{Holds}
use Rattle.core_node_laws.specs.literal_nodes.Unnamed.{IsUnnamed}
use Rattle.core_node_laws.proofs.literal_nodes.Unnamed.{unnamed}
use Rattle.core_node_laws.specs.built_unit_laws.built_laws.Placed.{IsInBody}
use Rattle.core_node_laws.proofs.built_unit_laws.unlinked_laws.Inside.{in_body_holds}
use Rattle.unit_finish.specs.declared.unit_parts.declared.Declared.{Declared}
use Rattle.unit_finish.specs.declared.unit_parts.literals.LiteralAt.{LiteralAt}
use Rattle.unit_finish.specs.unit_parts.Numbered.{moved}
use Rattle.unit_finish.specs.unit_parts.Renamed.{with_literal, literals_in}
use Rattle.unit_finish.specs.unit_parts.Entities.{numbering_of, EachApart, bodies_of, with_body}
use Rattle.unit_finish.specs.own_bodies.Own.{is_automatic, lasting_bodies, initialises_from, with_own_body}
use Rattle.unit_finish.proofs.own_bodies.Found.{found_at}
use Rattle.unit_finish.specs.Walked.{declared_seen}
use Rattle.unit_finish.proofs.Lists.{kept_from, found, literal_back, body_back, map_back, get_map}
use Rattle.unit_finish.proofs.Standing.{marked_within, number_same, within_top}
use Rattle.valid_unit_laws.specs.body_node_laws.parts_named.Named.{AreParts, PartsApart}
use Rattle.valid_unit_laws.proofs.body_node_laws.parts_named.Listing.{numbers, planted_back, number_there, entry, IsOfName, IsOfLiteral}
use Rattle.valid_unit_laws.proofs.body_node_laws.parts_named.Counts.{literals_of, Down, Here, further, IsLiteralAt, counted, one_down, two_down}
use Rattle.valid_unit_laws.proofs.body_node_laws.parts_named.Roots.{KeyOf, key_of, one_key, sum_few, one_few, two_few}
use Rattle.valid_unit_laws.proofs.body_node_laws.parts_named.Owners.{both}

automatic_is : (st : Storage) → is_automatic st ≡ true → st ≡ Automatic
automatic_is Automatic e = refl
automatic_is Static e = absurd (false≢true e)
automatic_is FunctionBody e = absurd (false≢true e)
automatic_is Parameter e = absurd (false≢true e)
automatic_is DeclaredStorage e = absurd (false≢true e)

-- a body that lasts is in the list, and what is there is one
lasting_there : (list : List Declared) (k b : ℕ) (x : Declared) → slice_get list k ≡ Some x → is_automatic x.storage ≡ false → x.body ≡ Some b → (q : ℕ) × (slice_get (lasting_bodies list) q ≡ Some b)
lasting_there [] zero b x at lasts body = cc
lasting_there [] (suc k) b x at lasts body = cc
lasting_there (y ∷ list) zero b x at lasts body =
    let same : y ≡ x = cc in
    let here : lasting_bodies (y ∷ list) ≡ b ∷ lasting_bodies list
    = ap (λ (a : Bool). if a then lasting_bodies list else with_body y.body (lasting_bodies list)) (ap (λ (z : Declared). is_automatic z.storage) same ∙ lasts)
    ∙ ap (λ (o : Option ℕ). with_body o (lasting_bodies list)) (ap (λ (z : Declared). z.body) same ∙ body) in
    (0, ap (λ (l : List ℕ). slice_get l 0) here)
lasting_there (y ∷ list) (suc k) b x at lasts body = by (lasting_there list k b x at lasts body) (is_automatic y.storage) y.body
  where
    by : (q : ℕ) × (slice_get (lasting_bodies list) q ≡ Some b) → (a : Bool) (o : Option ℕ) → (q : ℕ) × (slice_get (if a then lasting_bodies list else with_body o (lasting_bodies list)) q ≡ Some b)
    by r true o = r
    by r false None = r
    by r false (Some c) = (suc r.0, r.1)

pub record IsLasting (list : List Declared) (b : ℕ) : Type 0 where
  pub place : ℕ
  pub object : Declared
  pub there : slice_get list place ≡ Some object
  pub lasts : is_automatic object.storage ≡ false
  pub body : object.body ≡ Some b

pub lasting_back : (list : List Declared) (q b : ℕ) → slice_get (lasting_bodies list) q ≡ Some b → IsLasting list b
lasting_back [] zero b at = cc
lasting_back [] (suc q) b at = cc
lasting_back (y ∷ list) q b at = by (is_automatic y.storage) refl y.body q refl at (λ j e. lasting_back list j b e)
  where
    later : IsLasting list b → IsLasting (y ∷ list) b
    later r = record { place = suc r.place; object = r.object; there = r.there; lasts = r.lasts; body = r.body }

    by : (a : Bool) → is_automatic y.storage ≡ a → (o : Option ℕ) (j : ℕ) → y.body ≡ o → slice_get (if a then lasting_bodies list else with_body o (lasting_bodies list)) j ≡ Some b → ((j : ℕ) → slice_get (lasting_bodies list) j ≡ Some b → IsLasting list b) → IsLasting (y ∷ list) b
    by true is o j body e rest = later (rest j e)
    by false is None j body e rest = later (rest j e)
    by false is (Some c) zero body e rest = let same : c ≡ b = cc in record { place = 0; object = y; there = refl; lasts = is; body = body ∙ ap Some same }
    by false is (Some c) (suc j) body e rest = later (rest j e)

-- two literals of one leaf are those of two nodes
record AreTwo (nodes : List Node) (d : ℕ) : Type 0 where
  first : ℕ
  second : ℕ
  node : Node
  other : Node
  at_first : slice_get nodes first ≡ Some node
  at_second : slice_get nodes second ≡ Some other
  kind : node.kind ≡ Literal d
  same : other.kind ≡ Literal d
  differ : first ≡ second → ⊥

two_literals : (nodes : List Node) (d a b : ℕ) (l m : LiteralAt) → slice_get (literals_in nodes) a ≡ Some l → slice_get (literals_in nodes) b ≡ Some m → l.leaf ≡ d → m.leaf ≡ d → (a ≡ b → ⊥) → AreTwo nodes d
two_literals [] d a b l m at there one two differ = cc
two_literals (x ∷ rest) d a b l m at there one two differ = by x.kind refl a b at there differ (λ i j e f g. two_literals rest d i j l m e f one two g)
  where
    later : AreTwo rest d → AreTwo (x ∷ rest) d
    later r = record { first = suc r.first; second = suc r.second; node = r.node; other = r.other; at_first = r.at_first; at_second = r.at_second; kind = r.kind; same = r.same; differ = λ e. r.differ (omega (arith, e)) }

    here : (e k : ℕ) (z o : LiteralAt) → x.kind ≡ Literal e → record { leaf = e; ty = x.ty; body = slice_get x.children 0 } ≡ z → z.leaf ≡ d → slice_get (literals_in rest) k ≡ Some o → o.leaf ≡ d → AreTwo (x ∷ rest) d
    here e k z o is made leaf at leaf_too =
        let (i, y, there, lit) = literal_back rest k o at in
        record {
          first = 0;
          second = suc i;
          node = x;
          other = y;
          at_first = refl;
          at_second = there;
          kind = is ∙ ap Literal (ap (λ (w : LiteralAt). w.leaf) made ∙ leaf);
          same = lit.kind ∙ ap Literal leaf_too;
          differ = λ e. let n : 0 ≡ suc i = e in omega (arith, n);
        }

    turned : AreTwo (x ∷ rest) d → AreTwo (x ∷ rest) d
    turned r = record { first = r.second; second = r.first; node = r.other; other = r.node; at_first = r.at_second; at_second = r.at_first; kind = r.same; same = r.kind; differ = λ e. r.differ (sym e) }

    by : (kind : NodeKind) → x.kind ≡ kind → (i j : ℕ) → slice_get (with_literal x kind (literals_in rest)) i ≡ Some l → slice_get (with_literal x kind (literals_in rest)) j ≡ Some m → (i ≡ j → ⊥)
        → ((i j : ℕ) → slice_get (literals_in rest) i ≡ Some l → slice_get (literals_in rest) j ≡ Some m → (i ≡ j → ⊥) → AreTwo rest d) → AreTwo (x ∷ rest) d
    by (Literal e) is zero zero f g unlike more = absurd (unlike refl)
    by (Literal e) is zero (suc j) f g unlike more = here e j l m is (some_same f) one g two
    by (Literal e) is (suc i) zero f g unlike more = turned (here e i m l is (some_same g) two f one)
    by (Literal e) is (suc i) (suc j) f g unlike more = later (more i j f g (λ q. unlike (ap suc q)))
    by kind is i j f g unlike more = later (more i j f g unlike)

module _ (tokens : Tokens) (unit : ℕ) (tree : Tree) (tag_number : ℕ → ℕ) (cut : IsTokens tokens.text.now tokens.list.items) (read : IsUnit tokens unit tree) (p : AreParts (numbered tag_number (source_of tokens tree))) where
  abbrev s : Source
  s = numbered tag_number (source_of tokens tree)

  abbrev u : Unit
  u = p.walked

  abbrev nodes : List Node
  nodes = p.walked.nodes.items

  abbrev at : ℕ → Option ℕ
  at = paired (initialises_from 0 p.owned.marks nodes)

  -- what the names declare, before and after automatic objects have their own bodies
  listed_back : (k : ℕ) (y : Declared) → slice_get p.names k ≡ Some y → (x : Declared) × (slice_get p.listed k ≡ Some x) × (y ≡ with_own_body at x)
  listed_back k y there = map_back (with_own_body at) p.listed k y (sym (ap (λ (l : List Declared). slice_get l k) p.owned.owned_are) ∙ there)

  pub names_there : (k : ℕ) (x : Declared) → slice_get p.listed k ≡ Some x → is_automatic x.storage ≡ false → slice_get p.names k ≡ Some x
  names_there k x there lasts =
      ap (λ (l : List Declared). slice_get l k) p.owned.owned_are
      ∙ (get_map (with_own_body at) p.listed k x there ∙ ap (λ (a : Bool). Some (if a then record x { body = at x.leaf } else x)) lasts)

  -- each body stands under those that last
  body_marked : (k b : ℕ) (y : Declared) → slice_get p.names k ≡ Some y → y.body ≡ Some b → marked p.owned.marks b
  body_marked k b y there body = by (listed_back k y there)
    where
      by : (x : Declared) × (slice_get p.listed k ≡ Some x) × (y ≡ with_own_body at x) → marked p.owned.marks b
      by (x, listed, is) = pick (is_automatic x.storage) refl
        where
          pick : (a : Bool) → is_automatic x.storage ≡ a → marked p.owned.marks b
          pick true e =
              let own : at x.leaf ≡ Some b = sym (ap (λ (z : Declared). z.body) is ∙ ap (λ (a : Bool). (if a then record x { body = at x.leaf } else x).body) e) ∙ body in
              let f = found_at 0 p.owned.marks nodes x.leaf b own in
              let same : f.place ≡ b = (let n = f.number in omega (arith, n)) in
              subst (marked p.owned.marks) same f.mark
          pick false e =
              let own : x.body ≡ Some b = sym (ap (λ (z : Declared). z.body) is ∙ ap (λ (a : Bool). (if a then record x { body = at x.leaf } else x).body) e) ∙ body in
              let q = lasting_there p.listed k b x listed e own in
              subst (marked p.owned.marks) (get_or_from_slice_get (lasting_bodies p.listed) q.0 b 0 q.1) (p.owned.are_marked.tops q.0 (slice_get_within (lasting_bodies p.listed) q.0 b q.1))

  child_there : (i k c : ℕ) → child_in (slice_get nodes i) k ≡ Some c → (x : Node) × (slice_get nodes i ≡ Some x) × (slice_get x.children k ≡ Some c)
  child_there i k c e = by (slice_get nodes i) refl e
    where
      by : (o : Option Node) → slice_get nodes i ≡ o → child_in o k ≡ Some c → (x : Node) × (slice_get nodes i ≡ Some x) × (slice_get x.children k ≡ Some c)
      by None is h = cc
      by (Some x) is h = (x, is, h)

  lasts_below : (fuel j : ℕ) → length nodes ≤ j + fuel → marked p.stay.marks j → marked p.owned.marks j
  lasts_below zero j le on = let lt = marked_within p.stay.marks j on in let long = p.stay.are_marked.long in absurd (omega (arith, lt, long, le))
  lasts_below (suc fuel) j le on =
      elim (p.stay.are_marked.reached j on) [
        | inl q ↦
            let there = slice_get-get_or (bodies_of p.names) q.0 0 q.1 in
            let r = body_back p.names q.0 (get_or (bodies_of p.names) q.0 0) there in
            subst (marked p.owned.marks) q.2 (body_marked r.0 (get_or (bodies_of p.names) q.0 0) r.1 r.2 r.3)
        | inr h ↦
            let above = child_before u.types nodes p.ready h.0 j h.2 in
            let over = lasts_below fuel h.0 (omega (arith, above, le)) h.1 in
            let (x, there, child) = child_there h.0 h.2.0 j h.2.1 in
            subst (marked p.owned.marks) (get_or_from_slice_get x.children h.2.0 j 0 child) (p.owned.are_marked.closed h.0 x there over h.2.0 (slice_get_within x.children h.2.0 j child))
      ]

  pub lasts : (j : ℕ) → marked p.stay.marks j → marked p.owned.marks j
  lasts j on = lasts_below (length nodes) j (omega arith) on

  -- and each node there is below one of them
  record IsBelow (j : ℕ) : Type 0 where
    top : ℕ
    lasting : IsLasting p.listed top
    down : Down nodes top j

  below_at : (fuel j : ℕ) → length nodes ≤ j + fuel → marked p.owned.marks j → IsBelow j
  below_at zero j le on = let lt = marked_within p.owned.marks j on in let long = p.owned.are_marked.long in absurd (omega (arith, lt, long, le))
  below_at (suc fuel) j le on =
      elim (p.owned.are_marked.reached j on) [
        | inl q ↦
            let there = slice_get-get_or (lasting_bodies p.listed) q.0 0 q.1 in
            record { top = j; lasting = subst (IsLasting p.listed) q.2 (lasting_back p.listed q.0 (get_or (lasting_bodies p.listed) q.0 0) there); down = Here }
        | inr h ↦
            let above = child_before u.types nodes p.ready h.0 j h.2 in
            let over = below_at fuel h.0 (omega (arith, above, le)) h.1 in
            record { top = over.top; lasting = over.lasting; down = further nodes over.down h.2 }
      ]

  below : (j : ℕ) → marked p.owned.marks j → IsBelow j
  below j on = below_at (length nodes) j (omega arith) on

  -- one literal of a leaf at most
  one_literal : (d i j : ℕ) → marked p.owned.marks i → marked p.owned.marks j → IsLiteralAt u p.ready d i → IsLiteralAt u p.ready d j → (i ≡ j → ⊥) → ⊥
  one_literal d i j on also l m differ = by (nat_eq a.lasting.place b.lasting.place) refl
    where
      a : IsBelow i
      a = below i on

      b : IsBelow j
      b = below j also

      named : (x : ℕ) (h : IsLasting p.listed x) → declared_name s p.senses h.object.leaf ≡ Some (declared_seen u h.object)
      named x h = p.made.are_names.each h.place h.object (names_there h.place h.object h.there h.lasts)

      lasting : (x : ℕ) (h : IsLasting p.listed x) → h.object.storage ≡ Automatic → ⊥
      lasting x h e = no_both (is_automatic h.object.storage) (ap is_automatic e) h.lasts

      seen : (x : ℕ) (h : IsLasting p.listed x) → (declared_seen u h.object).body ≡ Some (core_at u x)
      seen x h = ap (option_map (core_at u)) h.body

      key : (x : ℕ) (h : IsLasting p.listed x) → (k : ℕ) × KeyOf tokens unit tree tag_number p.senses cut read p.made.are_senses p.made.whole h.object.leaf k (declared_seen u h.object) (core_at u x)
      key x h = key_of tokens unit tree tag_number p.senses cut read p.made.are_senses p.made.whole h.object.leaf (declared_seen u h.object) (core_at u x) (named x h) (lasting x h) (seen x h)

      first : 1 ≤ counted u p.ready d a.top
      first = one_down u p.ready d a.down l

      second : 1 ≤ counted u p.ready d b.top
      second = one_down u p.ready d b.down m

      by : (c : Bool) → nat_eq a.lasting.place b.lasting.place ≡ c → ⊥
      by true e =
          let place = eqb-true a.lasting.place b.lasting.place e in
          let object : a.lasting.object ≡ b.lasting.object = some_same (sym a.lasting.there ∙ (ap (slice_get p.listed) place ∙ b.lasting.there)) in
          let top : b.top ≡ a.top = some_same (sym b.lasting.body ∙ (ap (λ (z : Declared). z.body) (sym object) ∙ a.lasting.body)) in
          let two = two_down u p.ready d a.down (subst (λ (z : ℕ). Down nodes z j) top b.down) l m differ in
          let k = key a.top a.lasting in
          let few = one_few tokens unit tree tag_number p.senses cut read p.made.are_senses p.made.whole (literals_of d) (sum_few tokens unit tree tag_number p.senses cut read p.made.are_senses p.made.whole d) k.0 (core_at u a.top) k.1.root in
          omega (arith, two, few)
      by false e =
          let k = key a.top a.lasting in
          let q = key b.top b.lasting in
          let few =
          two_few tokens unit tree tag_number p.senses cut read p.made.are_senses p.made.whole (literals_of d) (sum_few tokens unit tree tag_number p.senses cut read p.made.are_senses p.made.whole d) k.0 q.0 (core_at u a.top) (core_at u b.top) k.1.root q.1.root
          (λ same. let leaf = one_key tokens unit tree tag_number p.senses cut read p.made.are_senses p.made.whole a.lasting.object.leaf b.lasting.object.leaf q.0 (declared_seen u a.lasting.object) (declared_seen u b.lasting.object) (core_at u a.top) (core_at u b.top)
          (named a.top a.lasting) (named b.top b.lasting) (subst (λ (z : ℕ). KeyOf tokens unit tree tag_number p.senses cut read p.made.are_senses p.made.whole a.lasting.object.leaf z (declared_seen u a.lasting.object) (core_at u a.top)) same k.1) q.1 in
          eqb-false a.lasting.place b.lasting.place e
          (p.made.are_names.once a.lasting.place b.lasting.place a.lasting.object b.lasting.object (names_there a.lasting.place a.lasting.object a.lasting.there a.lasting.lasts) (names_there b.lasting.place b.lasting.object b.lasting.there b.lasting.lasts) leaf)) in
          let one = first in
          let other = second in
          omega (arith, one, other, few)

  -- a literal of the nodes that stay, among those that were walked
  record IsKeptLiteral (d i : ℕ) : Type 0 where
    place : ℕ
    mark : marked p.stay.marks place
    literal : IsLiteralAt u p.ready d place
    number : get_or (numbers s p) place None ≡ Some (0 + i)

  kept_literal : (d i : ℕ) (y : Node) → slice_get p.kept.nodes.items i ≡ Some y → y.kind ≡ Literal d → IsKeptLiteral d i
  kept_literal d i y there kind =
      let (j, x, on, at_j, number, is) = kept_from (moved (numbers s p)) 0 p.stay.marks nodes i y (sym (ap (λ (l : List Node). slice_get l i) p.stay.nodes_are) ∙ there) in
      record { place = j; mark = on; literal = record { node = x; there = at_j; kind = sym (ap (λ (n : Node). n.kind) is) ∙ kind }; number = number }

  literals_apart : (d a b : ℕ) (l m : LiteralAt) → slice_get (literals_in p.kept.nodes.items) a ≡ Some l → slice_get (literals_in p.kept.nodes.items) b ≡ Some m → l.leaf ≡ d → m.leaf ≡ d → a ≡ b
  literals_apart d a b l m at_a at_b one two = by (nat_eq a b) refl
    where
      by : (c : Bool) → nat_eq a b ≡ c → a ≡ b
      by true e = eqb-true a b e
      by false e =
          let r = two_literals p.kept.nodes.items d a b l m at_a at_b one two (eqb-false a b e) in
          let x = kept_literal d r.first r.node r.at_first r.kind in
          let y = kept_literal d r.second r.other r.at_second r.same in
          absurd (one_literal d x.place y.place (lasts x.place x.mark) (lasts y.place y.mark) x.literal y.literal
          (λ same. let numbers_same : 0 + r.first ≡ 0 + r.second = some_same (sym x.number ∙ (ap (λ (k : ℕ). get_or (numbers s p) k None) same ∙ y.number)) in r.differ (omega (arith, numbers_same))))

  -- its leaf is no name
  pub in_body : (j : ℕ) → marked p.stay.marks j → IsInBody s p.senses (core_at u j)
  in_body j on =
      let top = within_top s p.senses u p.stay.marks (bodies_of p.names) p.ready p.stay.are_marked j on in
      let b = get_or (bodies_of p.names) top.0 0 in
      let r = body_back p.names top.0 b (slice_get-get_or (bodies_of p.names) top.0 0 top.1) in
      record { leaf = r.1.leaf; what = declared_seen u r.1; body = core_at u b; declared = p.made.are_names.each r.0 r.1 r.2; has = ap (option_map (core_at u)) r.3; within = top.2 }

  literal_unnamed : (k : ℕ) (l : LiteralAt) → slice_get (literals_in p.kept.nodes.items) k ≡ Some l → is_name s l.leaf ≡ false
  literal_unnamed k l at_k =
      let (i, y, there, lit) = literal_back p.kept.nodes.items k l at_k in
      let h = kept_literal l.leaf i y there lit.kind in
      by (core_at u h.place) (sym (kind_is u p.ready h.place h.literal.node h.literal.there) ∙ h.literal.kind) (in_body_holds (IsUnnamed s) s p.senses (λ i. unnamed s p.senses p.made.are_senses i) (core_at u h.place) (in_body h.place h.mark))
    where
      by : (c : Core) → kind_of c ≡ Literal l.leaf → Holds (IsUnnamed s) c → is_name s l.leaf ≡ false
      by (Of (Literal j) place type under) e h = let same : j ≡ l.leaf = cc in subst (λ (k : ℕ). is_name s k ≡ false) same h.0
      by (Of kind place type under) e h = cc

  declares_name : (d : ℕ) (what : right.Declared) → declared_name s p.senses d ≡ Some what → is_name s d ≡ true
  declares_name d what e = pick (declares_entity s p.senses d) refl (entity_type s p.senses d) e
    where
      pick : (a : Bool) → declares_entity s p.senses d ≡ a → (o : Option Ctype) → (if a then option_map (declared_as s p.senses d) o else None) ≡ Some what → is_name s d ≡ true
      pick false h o k = absurd (none_some k)
      pick true h o k = (both (is_name s d) _ (both (is_declaring s p.senses d) _ h).0).0

  apart_mixed : (i j : ℕ) (x y : Declared) → IsOfName s p i x → IsOfLiteral s p j y → x.leaf ≡ y.leaf → ⊥
  apart_mixed i j x y a b e =
      let name = declares_name x.leaf (declared_seen u a.named) a.declares in
      let none = literal_unnamed b.place b.literal b.listed in
      no_both (is_name s x.leaf) name (subst (λ (d : ℕ). is_name s d ≡ false) (sym (e ∙ ap (λ (z : Declared). z.leaf) b.is)) none)

  -- so entries with one leaf are one
  one_entry : (i j : ℕ) (x y : Declared) → IsOfName s p i x ⊎ IsOfLiteral s p i x → IsOfName s p j y ⊎ IsOfLiteral s p j y → x.leaf ≡ y.leaf → i ≡ j
  one_entry i j x y (inl a) (inl b) e =
      p.made.are_names.once i j a.named b.named a.listed b.listed (sym (ap (λ (z : Declared). z.leaf) a.is) ∙ (e ∙ ap (λ (z : Declared). z.leaf) b.is))
  one_entry i j x y (inl a) (inr b) e = absurd (apart_mixed i j x y a b e)
  one_entry i j x y (inr a) (inl b) e = absurd (apart_mixed j i y x b a (sym e))
  one_entry i j x y (inr a) (inr b) e =
      let same = literals_apart x.leaf a.place b.place a.literal b.literal a.listed b.listed (sym (ap (λ (z : Declared). z.leaf) a.is)) (sym (e ∙ ap (λ (z : Declared). z.leaf) b.is)) in
      let first = a.behind in
      let second = b.behind in
      omega (arith, first, second, same)

  each_apart : EachApart p.planted.list.items
  each_apart k x there =
      let there_is = number_same (numbering_of p.planted.list.items x.leaf) (number_there p.planted.list.items k x there) in
      let (y, other, leaf) = found p.planted.list.items x.leaf (unwrap_or (numbering_of p.planted.list.items x.leaf) 0) there_is in
      let (a, at_a, leaf_a, owner_a) = planted_back s p (unwrap_or (numbering_of p.planted.list.items x.leaf) 0) y other in
      let (b, at_b, leaf_b, owner_b) = planted_back s p k x there in
      there_is
      ∙ ap Some (one_entry (unwrap_or (numbering_of p.planted.list.items x.leaf) 0) k a b (entry s p (unwrap_or (numbering_of p.planted.list.items x.leaf) 0) a at_a) (entry s p k b at_b) (sym leaf_a ∙ (leaf ∙ leaf_b)))

pub parts_apart : PartsApart
parts_apart tokens unit tree tag_number cut read p = each_apart tokens unit tree tag_number cut read p
