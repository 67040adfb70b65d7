-- The nodes of programs that are linked from units which are alike, pair by pair.
use Rattle.std.proofs.Common.{arith, ◌≡◌, ◌∙◌, ◌<◌, ℕ, zero, suc, List, [], ◌∷◌, Option, Some, None, length, map, take, refl, sym, ap, subst}
use Rattle.std.specs.List.{slice_get}
use Rattle.std.proofs.lemmas.List.Sums.{sum_by-cons}
use Rattle.std.proofs.lemmas.Option.{slice_get_within}
use Rattle.c_types.specs.Table.{type_of}
use Rattle.core_tree.specs.declared.node.NodeKind.{NodeKind}
use Rattle.core_tree.specs.declared.node.NodeKind.TheVariants.{Named, Literal, VarArgs, FunctionName, Block, For, Initialise}
use Rattle.core_tree.specs.declared.node.Node.{Node}
use Rattle.core_tree.specs.declared.node.Unit.{Unit}
use Rattle.core_tree.specs.declared.node.Program.{Program}
use Rattle.core_tree.specs.Typed.{trees_of, trees_in}
use Rattle.core_tree.specs.Valid.{child_in, child_at, ChildOnce, ValidUnit}
use Rattle.core_tree.proofs.Climb.{child_before}
use Rattle.link_model.specs.Units.{types_if}
use Rattle.link_model.specs.Renamed.{renamed}
use Rattle.link_model.specs.Merged.{moved}
use Rattle.link_merge.proofs.Own.{type_tags}
use Rattle.link_names.specs.Externals.{entities_if}
use Rattle.linked_laws.proofs.Origins.{node_from}
use Rattle.unit_link.specs.Places.{node_place, kind_renamed}
use Rattle.unit_link.specs.Linked.{LinkedAt}
use Rattle.twin_report_laws.specs.outcome_laws.fault_laws.Twins.{AreAllTwins}
use Rattle.twin_report_laws.specs.outcome_laws.twin_programs.One.{Numbers, SameNode}
use Rattle.twin_report_laws.proofs.outcome_laws.twin_programs.Lists.{some_one, none_some, some_at, paired_maps}
use Rattle.twin_report_laws.proofs.outcome_laws.twin_programs.Units.{KindsPaired}
use Rattle.twin_report_laws.proofs.outcome_laws.twin_programs.Matching.{Matching}
use Rattle.twin_report_laws.proofs.outcome_laws.twin_programs.Entities.{EntityPair}
use Rattle.twin_report_laws.proofs.outcome_laws.fault_laws.Declared.{to}
use Rattle.twin_report_laws.proofs.outcome_laws.twin_programs.Numbering.{type_carried}

-- no two nodes of units have one place in the program
places_apart : (units : List Unit) (u v i j : ℕ) (x y : Unit) → slice_get units u ≡ Some x → slice_get units v ≡ Some y → i < length x.nodes.items → j < length y.nodes.items
    → node_place units u i ≡ node_place units v j → (u ≡ v) × (i ≡ j)
places_apart [] u v i j x y at there li lj e = absurd (none_some at)
places_apart (z ∷ zs) zero zero i j x y at there li lj e = (refl, omega arith)
places_apart (z ∷ zs) zero (suc v) i j x y at there li lj e =
    let more = sum_by-cons (λ (w : Unit). length w.nodes.items) z (take v zs) in
    let same : length z.nodes.items ≡ length x.nodes.items = ap (λ (w : Unit). length w.nodes.items) (some_one at) in
    absurd (omega arith)
places_apart (z ∷ zs) (suc u) zero i j x y at there li lj e =
    let more = sum_by-cons (λ (w : Unit). length w.nodes.items) z (take u zs) in
    let same : length z.nodes.items ≡ length y.nodes.items = ap (λ (w : Unit). length w.nodes.items) (some_one there) in
    absurd (omega arith)
places_apart (z ∷ zs) (suc u) (suc v) i j x y at there li lj e =
    let one = sum_by-cons (λ (w : Unit). length w.nodes.items) z (take u zs) in
    let other = sum_by-cons (λ (w : Unit). length w.nodes.items) z (take v zs) in
    let r = places_apart zs u v i j x y at there li lj (omega arith) in
    (ap suc r.0, r.1)

child_of : (o : Option Node) (k c : ℕ) → child_in o k ≡ Some c → (node : Node) × (o ≡ Some node) × (slice_get node.children k ≡ Some c)
child_of None k c e = absurd (none_some e)
child_of (Some node) k c e = (node, refl, e)

unmapped : (f : ℕ → ℕ) (xs : List ℕ) (k c : ℕ) → slice_get (map f xs) k ≡ Some c → (x : ℕ) × (slice_get xs k ≡ Some x) × (f x ≡ c)
unmapped f [] k c at = absurd (none_some at)
unmapped f (x ∷ xs) zero c at = (x, refl, some_one at)
unmapped f (x ∷ xs) (suc k) c at = unmapped f xs k c at

-- a node is a child once at most in a program, since it is in its unit
module _ {entered : List (List ℕ)} (units : List Unit) (p : Program) (h : LinkedAt entered units p) (valid : (u : ℕ) (x : Unit) → slice_get units u ≡ Some x → ValidUnit x) where
  -- a child of the program's node is one of the unit's
  record ChildFrom (a k c : ℕ) : Type 0 where
    unit : ℕ
    of : Unit
    number : ℕ
    child : ℕ
    of_is : slice_get units unit ≡ Some of
    place : node_place units unit number ≡ a
    child_is : child_at (trees_of of) number k ≡ Some child
    within : child < length of.nodes.items
    child_place : node_place units unit child ≡ c

  child_from : (a k c : ℕ) → child_at (trees_in p) a k ≡ Some c → ChildFrom a k c
  child_from a k c e =
      let (node, node_at, child) = child_of (slice_get p.nodes.items a) k c e in
      let f = node_from units p h a node node_at in
      let (own, own_at, own_is) = unmapped (node_place units f.unit) f.own.children k c (sym (ap (λ (l : List ℕ). slice_get l k) f.moved.children) ∙ child) in
      let is : child_at (trees_of f.of) f.number k ≡ Some own = ap (λ (o : Option Node). child_in o k) f.own_is ∙ own_at in
      let less : own < f.number = child_before (trees_of f.of) (valid f.unit f.of f.of_is).trees.in_range f.number own (k, is) in
      let within : f.number < length f.of.nodes.items = slice_get_within f.of.nodes.items f.number f.own f.own_is in
      record { unit = f.unit; of = f.of; number = f.number; child = own; of_is = f.of_is; place = f.place; child_is = is; within = omega (arith, less, within); child_place = own_is }

  pub child_once : ChildOnce (trees_in p)
  child_once a b i j c at there =
      let f = child_from a i c at in
      let g = child_from b j c there in
      let (units_are, children_are) = places_apart units f.unit g.unit f.child g.child f.of g.of f.of_is g.of_is f.within g.within (f.child_place ∙ sym g.child_place) in
      let same : g.of ≡ f.of = some_one (sym g.of_is ∙ (ap (slice_get units) (sym units_are) ∙ f.of_is)) in
      let other : child_at (trees_of f.of) g.number j ≡ Some f.child = subst (λ (w : Unit). child_at (trees_of w) g.number j ≡ Some f.child) same (g.child_is ∙ ap Some (sym children_are)) in
      let r = (valid f.unit f.of f.of_is).trees.child_once f.number g.number i j f.child f.child_is other in
      (sym f.place ∙ (ap (node_place units f.unit) r.0 ∙ (ap (λ (n : ℕ). node_place units n g.number) units_are ∙ g.place)), r.1)

-- kinds of paired nodes, in two programs
kinds_there : (P : ℕ → ℕ → Type 0) (f g to : ℕ → ℕ) → ((a b : ℕ) → P a b → g b ≡ to (f a)) → (x y : NodeKind) → KindsPaired P x y → kind_renamed g y ≡ kind_renamed to (kind_renamed f x)
kinds_there P f g to same (Named d) (Named e) h = ap Named (same d e h)
kinds_there P f g to same (Named d) y h = absurd (cc)
kinds_there P f g to same (FunctionName d) (FunctionName e) h = ap FunctionName (same d e h)
kinds_there P f g to same (FunctionName d) y h = absurd (cc)
kinds_there P f g to same (Literal d) (Literal e) h = ap Literal (same d e h)
kinds_there P f g to same (Literal d) y h = absurd (cc)
kinds_there P f g to same (VarArgs d) (VarArgs e) h = ap VarArgs (same d e h)
kinds_there P f g to same (VarArgs d) y h = absurd (cc)
kinds_there P f g to same (Initialise d paths) (Initialise e others) h = ap (λ (n : ℕ). Initialise n others) (same d e h.0) ∙ ap (λ ps. Initialise (to (f d)) ps) (sym h.1)
kinds_there P f g to same (Initialise d paths) y h = absurd (cc)
kinds_there P f g to same (Block ds) (Block es) h = ap Block (paired_maps P f g to same ds es h)
kinds_there P f g to same (Block ds) y h = absurd (cc)
kinds_there P f g to same (For ds c a) (For es d b) h =
    ap (λ (ns : List ℕ). For ns d b) (paired_maps P f g to same ds es h.0) ∙ (ap (λ x. For (map to (map f ds)) x b) (sym h.1) ∙ ap (λ x. For (map to (map f ds)) c x) (sym h.2))
kinds_there P f g to same (For ds c a) y h = absurd (cc)
kinds_there P f g to same x y h = ap (kind_renamed g) (sym h)

-- nodes of two programs that are paired in the units
pub record NodePair (us vs : List Unit) (Q : ℕ → ℕ → ℕ → Type 0) (n m : ℕ) : Type 0 where
  pub unit : ℕ
  pub here : ℕ
  pub there : ℕ
  pub paired : Q unit here there
  pub u : Unit
  pub v : Unit
  pub u_is : slice_get us unit ≡ Some u
  pub v_is : slice_get vs unit ≡ Some v
  pub x : Node
  pub y : Node
  pub x_is : slice_get u.nodes.items here ≡ Some x
  pub y_is : slice_get v.nodes.items there ≡ Some y
  pub number : node_place us unit here ≡ n
  pub other_number : node_place vs unit there ≡ m

pub turned_node : (us vs : List Unit) (Q : ℕ → ℕ → ℕ → Type 0) (n m : ℕ) → NodePair us vs Q n m → NodePair vs us (λ k j i. Q k i j) m n
turned_node us vs Q n m h = record {
  unit = h.unit;
  here = h.there;
  there = h.here;
  paired = h.paired;
  u = h.v;
  v = h.u;
  u_is = h.v_is;
  v_is = h.u_is;
  x = h.y;
  y = h.x;
  x_is = h.y_is;
  y_is = h.x_is;
  number = h.other_number;
  other_number = h.number;
}

module _ {entered : List (List ℕ)} (us vs : List Unit) (P Q : ℕ → ℕ → ℕ → Type 0) (match : Matching us vs P Q) (p q : Program) (h : LinkedAt entered us p) (k : LinkedAt entered vs q) where
  pub node_pair : (n : ℕ) (x : Node) → slice_get p.nodes.items n ≡ Some x → (m : ℕ) × NodePair us vs Q n m
  node_pair n x at =
      let f = node_from us p h n x at in
      let (v, v_at, leads) = match.units f.unit f.of f.of_is in
      let (j, y, pair, stands) = leads.node f.number f.own f.own_is in (
        node_place vs f.unit j,
        record {
          unit = f.unit;
          here = f.number;
          there = j;
          paired = pair;
          u = f.of;
          v = v;
          u_is = f.of_is;
          v_is = v_at;
          x = f.own;
          y = y;
          x_is = f.own_is;
          y_is = stands;
          number = f.place;
          other_number = refl;
        },
      )

  pub node_stands : (n m : ℕ) → NodePair us vs Q n m → (y : Node) × (slice_get q.nodes.items m ≡ Some y)
  node_stands n m r = let there = k.nodes.each r.unit r.there r.v r.y r.v_is r.y_is in (there.node, ap (slice_get q.nodes.items) (sym r.other_number) ∙ there.node_is)

  pub node_once : (n l m : ℕ) → NodePair us vs Q n m → NodePair us vs Q l m → n ≡ l
  node_once n l m r s =
      let (units, numbers) = places_apart vs r.unit s.unit r.there s.there r.v s.v r.v_is s.v_is (slice_get_within r.v.nodes.items r.there r.y r.y_is) (slice_get_within s.v.nodes.items s.there s.y s.y_is)
      (r.other_number ∙ sym s.other_number) in
      let (v, v_at, leads) = match.units r.unit r.u r.u_is in
      let here : r.here ≡ s.here = leads.node_once r.here s.here r.there r.paired
      (subst (λ (b : ℕ). Q r.unit s.here b) (sym numbers) (subst (λ (a : ℕ). Q a s.here s.there) (sym units) s.paired)) in
      sym r.number ∙ (ap (λ (a : ℕ). node_place us a r.here) units ∙ (ap (node_place us s.unit) here ∙ s.number))

  module _ (match_back : Matching vs us (λ c f e. P c e f) (λ c j i. Q c i j)) (all : AreAllTwins us vs) (into : Numbers)
      (tag_is : into.tag ≡ to us vs h.numbers k.numbers p.types q.types all h.types k.types)
      (entity_is : (e f : ℕ) → EntityPair us vs P h.entity_numbers k.entity_numbers e f → into.entity e ≡ f) (node_is : (n m : ℕ) → NodePair us vs Q n m → into.node n ≡ m) where
    abbrev tag : ℕ → ℕ
    tag = to us vs h.numbers k.numbers p.types q.types all h.types k.types

    module _ (c : ℕ) (u v : Unit) (u_is : slice_get us c ≡ Some u) (v_is : slice_get vs c ≡ Some v) where
      pub entity_number : (e f : ℕ) → P c e f → k.entity_numbers c f ≡ into.entity (h.entity_numbers c e)
      entity_number e f pair =
          let (w, w_at, leads) = match.units c u u_is in
          let (z, z_at, back) = match_back.units c v v_is in
          let (x, at) = some_at u.entities.items e (leads.entity_within e f pair) in
          let (g, y, other, stands) = leads.entity e x at in
          let g_is : g ≡ f = back.entity_once g f e other pair in
          sym (entity_is (h.entity_numbers c e) (k.entity_numbers c f)
          (record {
            unit = c;
            here = e;
            there = f;
            paired = pair;
            x = x;
            y = y;
            x_is = ap (λ (o : Option Unit). slice_get (entities_if o) e) u_is ∙ at;
            y_is = ap (λ (o : Option Unit). slice_get (entities_if o) f) w_at ∙ (ap (slice_get w.entities.items) (sym g_is) ∙ stands);
            number = refl;
            other_number = refl;
          }))

      pub node_number : (i j : ℕ) → Q c i j → node_place vs c j ≡ into.node (node_place us c i)
      node_number i j pair =
          let (w, w_at, leads) = match.units c u u_is in
          let (z, z_at, back) = match_back.units c v v_is in
          let (x, at) = some_at u.nodes.items i (leads.node_within i j pair) in
          let (g, y, other, stands) = leads.node i x at in
          let g_is : g ≡ j = back.node_once g j i other pair in
          sym (node_is (node_place us c i) (node_place vs c j)
          (record {
            unit = c;
            here = i;
            there = j;
            paired = pair;
            u = u;
            v = w;
            u_is = u_is;
            v_is = w_at;
            x = x;
            y = y;
            x_is = at;
            y_is = ap (slice_get w.nodes.items) (sym g_is) ∙ stands;
            number = refl;
            other_number = refl;
          }))

    pub node_same : (n m : ℕ) (x y : Node) → NodePair us vs Q n m → slice_get p.nodes.items n ≡ Some x → slice_get q.nodes.items m ≡ Some y → SameNode p.types q.types into x y
    node_same n m x y r at there =
        let (w, w_at, leads) = match.units r.unit r.u r.u_is in
        let stands : slice_get w.nodes.items r.there ≡ Some r.y = ap (λ (z : Unit). slice_get z.nodes.items r.there) (some_one (sym w_at ∙ r.v_is)) ∙ r.y_is in
        let meet = leads.node_meets r.here r.there r.x r.y r.paired r.x_is stands in
        let one = h.nodes.each r.unit r.here r.u r.x r.u_is r.x_is in
        let two = k.nodes.each r.unit r.there r.v r.y r.v_is r.y_is in
        let x_is : one.node ≡ x = some_one (sym one.node_is ∙ (ap (slice_get p.nodes.items) r.number ∙ at)) in
        let y_is : two.node ≡ y = some_one (sym two.node_is ∙ (ap (slice_get q.nodes.items) r.other_number ∙ there)) in
        let t = type_of r.u.types r.x.ty.0 in
        let other : w ≡ r.v = some_one (sym w_at ∙ r.v_is) in
        let first : type_of p.types one.node.ty.0 ≡ moved h.numbers r.unit t = one.moved.type ∙ ap (λ (o : Option Unit). moved h.numbers r.unit (type_of (types_if o) r.x.ty.0)) r.u_is in
        let second : type_of q.types two.node.ty.0 ≡ moved k.numbers r.unit (type_of w.types r.y.ty.0) = two.moved.type ∙ ap (λ (o : Option Unit). moved k.numbers r.unit (type_of (types_if o) r.y.ty.0)) w_at in
        let carried : moved k.numbers r.unit t ≡ renamed tag (moved h.numbers r.unit t) =
        type_carried us vs h.numbers k.numbers p.types q.types all h.types k.types r.unit r.u t r.u_is (type_tags r.u.types r.x.ty.0 leads.named) in
        let same : SameNode p.types q.types into one.node two.node = record {
          kind = two.moved.kind
              ∙ (kinds_there (P r.unit) (h.entity_numbers r.unit) (k.entity_numbers r.unit) into.entity (entity_number r.unit r.u r.v r.u_is r.v_is) r.x.kind r.y.kind meet.kind
              ∙ ap (kind_renamed into.entity) (sym one.moved.kind));
          place = two.moved.place ∙ (meet.place ∙ sym one.moved.place);
          type = second ∙ (ap (moved k.numbers r.unit) (sym meet.type) ∙ (carried ∙ (ap (renamed tag) (sym first) ∙ ap (λ (f : ℕ → ℕ). renamed f (type_of p.types one.node.ty.0)) (sym tag_is))));
          children = two.moved.children
              ∙ (paired_maps (Q r.unit) (node_place us r.unit) (node_place vs r.unit) into.node (node_number r.unit r.u r.v r.u_is r.v_is) r.x.children r.y.children meet.children
              ∙ ap (map into.node) (sym one.moved.children));
        } in
        subst (λ (z : Node). SameNode p.types q.types into x z) y_is (subst (λ (z : Node). SameNode p.types q.types into z two.node) x_is same)
