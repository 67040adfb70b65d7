-- What is right for one source is alike.
use Rattle.std.proofs.Common.{arith, ◌≡◌, ◌<◌, ◌≤◌, ◌+◌, ◌⊎◌, inl, inr, ℕ, zero, suc, List, [], ◌∷◌, Option, Some, None, length, slice_get, refl, sym, ap, ◌∙◌, subst}
use Rattle.std.proofs.lemmas.Option.{slice_get_within, same_Some}
use Rattle.std.proofs.lemmas.List.{take_all}
use Rattle.pta_base.specs.declared.place.Place.{Place}
use Rattle.c_types.specs.Table.{type_of, members_in}
use Rattle.core_tree.specs.declared.node.NodeKind.{NodeKind}
use Rattle.core_tree.specs.declared.node.NodeKind.TheVariants.{Named, FunctionName}
use Rattle.core_tree.specs.declared.node.Node.{Node}
use Rattle.core_tree.specs.declared.node.Entity.{Entity}
use Rattle.core_tree.specs.declared.node.Unit.{Unit}
use Rattle.core_tree.specs.Typed.{trees_of}
use Rattle.core_tree.proofs.Climb.{child_before, parent_within}
use Rattle.core_tree.specs.Valid.{entity_at, child_in, IsChild, IsUseOf, IsUseAt, UsedAt, IsUsed, PlaceAtMost}
use Rattle.c_consts.specs.Core.{Core, Cores, Of, NoCores, MoreCores}
use Rattle.c_inits.specs.Tables.{parts_in}
use Rattle.c_senses.specs.Tree.{Source}
use Rattle.c_senses.specs.Sense.{Sense, sense_in}
use Rattle.c_senses.specs.Tags.{completed_from, members_under}
use Rattle.c_senses.specs.Rows.{AreSenses}
use Rattle.c_senses.specs.Right.{Numbering, SameKind, StandsBy, AllStandBy, Declared, SameOwner, SameBody, IsDeclaredAt, IsEntityOf, Right}
use Rattle.parsed_tree_laws.proofs.reading_laws.source_laws.Reading.{same_begin}
use Rattle.parsed_tree_laws.specs.reading_laws.right_laws.Alike.{ArePaired, SameOwners, AreTrees, SameBodies, NumbersOnce, HasLike, HasTree, HasAll}

-- places in both orders are one
made_place : ℕ → ℕ → ℕ → Place
made_place unit line column = record { unit = unit; line = line; column = column }

is_place : (p : Place) → p ≡ made_place p.unit p.line p.column
unfolding made_place
is_place p = refl

within_line : (l c k d : ℕ) → (l < k) ⊎ ((l ≡ k) × (c ≤ d)) → (k < l) ⊎ ((k ≡ l) × (d ≤ c)) → (l ≡ k) × (c ≡ d)
within_line l c k d (inl a) (inl b) = absurd (omega arith)
within_line l c k d (inl a) (inr b) = absurd (let e = b.0 in omega arith)
within_line l c k d (inr a) (inl b) = absurd (let e = a.0 in omega arith)
within_line l c k d (inr a) (inr b) = let le = a.1 in let ge = b.1 in (a.0, omega arith)

in_unit : (p q : Place) → PlaceAtMost p q → PlaceAtMost q p → (p.unit ≡ q.unit) × ((p.line ≡ q.line) × (p.column ≡ q.column))
in_unit p q (inl a) (inl b) = absurd (omega arith)
in_unit p q (inl a) (inr b) = absurd (let e = b.0 in omega arith)
in_unit p q (inr a) (inl b) = absurd (let e = a.0 in omega arith)
in_unit p q (inr a) (inr b) = (a.0, within_line p.line p.column q.line q.column a.1 b.1)

one_place : (p q : Place) → PlaceAtMost p q → PlaceAtMost q p → p ≡ q
one_place p q a b =
    let same = in_unit p q a b in
    is_place p
    ∙ (ap (λ (x : ℕ). made_place x p.line p.column) same.0
    ∙ (ap (λ (x : ℕ). made_place q.unit x p.column) same.1.0
    ∙ (ap (made_place q.unit q.line) same.1.1 ∙ sym (is_place q))))

-- which entity a node names, by the leaf that its tree names
names_leaf : (n : Numbering) (a kind : NodeKind) (e : ℕ) → SameKind n kind a → IsUseOf a e → (d : ℕ) × IsUseOf kind d × (n d ≡ Some e)
names_leaf n (Named x) (Named d) e same named = (d, refl, same ∙ ap (λ (k : ℕ). Some k) named)
names_leaf n (Named x) kind e same named = absurd (cc)
names_leaf n (FunctionName x) (FunctionName d) e same named = (d, refl, same ∙ ap (λ (k : ℕ). Some k) named)
names_leaf n (FunctionName x) kind e same named = absurd (cc)
names_leaf n a kind e same named = absurd named

names_number : (n : Numbering) (kind a : NodeKind) (d f : ℕ) → SameKind n kind a → IsUseOf kind d → n d ≡ Some f → IsUseOf a f
names_number n (Named x) (Named y) d f same named is =
    let there : n x ≡ Some f = ap n named ∙ is in same_Some y f (sym same ∙ there)
names_number n (Named x) a d f same named is = absurd (cc)
names_number n (FunctionName x) (FunctionName y) d f same named is =
    let there : n x ≡ Some f = ap n named ∙ is in same_Some y f (sym same ∙ there)
names_number n (FunctionName x) a d f same named is = absurd (cc)
names_number n kind a d f same named is = absurd named

-- parts of nodes that stand for one tree
module _ (one other : Numbering) (u v : Unit) where
  part_trees : (is js : List ℕ) (under : Cores) (k i : ℕ) → AllStandBy one u is under → AllStandBy other v js under → slice_get is k ≡ Some i → HasTree one other u v i
  part_trees is js NoCores k i a b at =
      let none : slice_get [] k ≡ Some i = subst (λ (l : List ℕ). slice_get l k ≡ Some i) a at in absurd (cc)
  part_trees is js (MoreCores c rest) zero i a b at =
      let here : slice_get (a.0 ∷ a.1) zero ≡ Some i = subst (λ (l : List ℕ). slice_get l zero ≡ Some i) a.2 at in
      let same : a.0 ≡ i = same_Some a.0 i here in
      record {
        number = b.0;
        trees = record { tree = c; first = subst (λ (n : ℕ). StandsBy one u n c) same a.3; second = b.3 };
      }
  part_trees is js (MoreCores c rest) (suc k) i a b at =
      let there : slice_get (a.0 ∷ a.1) (suc k) ≡ Some i = subst (λ (l : List ℕ). slice_get l (suc k) ≡ Some i) a.2 at in
      part_trees a.1 b.1 rest k i a.4 b.4 there

  child_trees : (p q : ℕ) (tree : Core) (i : ℕ) → StandsBy one u p tree → StandsBy other v q tree → IsChild (trees_of u) p i → HasTree one other u v i
  child_trees p q (Of kind place type under) i a b (k, e) =
      let at : slice_get a.0.children k ≡ Some i = sym (ap (λ (o : Option Node). child_in o k) a.1) ∙ e in
      part_trees a.0.children b.0.children under k i a.5 b.5 at

  -- a node that names an entity, and its like
  tree_uses : (i j e f d : ℕ) (p : Place) (node : Node) → NumbersOnce one → one d ≡ Some e → other d ≡ Some f → AreTrees one other u v i j → slice_get u.nodes.items i ≡ Some node → IsUseAt e p node → UsedAt (trees_of v) f p
  tree_uses i j e f d p node once first second trees at named = uses_tree trees.tree trees.first trees.second
    where
      uses_tree : (tree : Core) → StandsBy one u i tree → StandsBy other v j tree → UsedAt (trees_of v) f p
      uses_tree (Of kind place type under) a b =
          let same : a.0 ≡ node = same_Some a.0 node (sym a.1 ∙ at) in
          let kinds : SameKind one kind node.kind = subst (λ (x : Node). SameKind one kind x.kind) same a.2 in
          let placed : node.place ≡ place = sym (ap (λ (x : Node). x.place) same) ∙ a.3 in
          let leaf = names_leaf one node.kind kind e kinds named.0 in
          let is_leaf : leaf.0 ≡ d = once leaf.0 d e leaf.2 first in
          let names : IsUseOf kind d = subst (IsUseOf kind) is_leaf leaf.1 in
          record { some = (j, b.0, b.1, (names_number other kind b.0.kind d f b.2 names second, b.3 ∙ (sym placed ∙ named.1))) }

-- one entity's uses
used_places : (u v : Unit) (e f : ℕ) (x y : Option Place) → IsUsed (trees_of u) e x → IsUsed (trees_of v) f y
    → ((p : Place) → UsedAt (trees_of u) e p → UsedAt (trees_of v) f p) → ((p : Place) → UsedAt (trees_of v) f p → UsedAt (trees_of u) e p) → x ≡ y
used_places u v e f None None a b forth back = refl
used_places u v e f (Some p) None a b forth back = let w = (forth p a.0).some in absurd (b w.0 w.1 w.2 w.3.0)
used_places u v e f None (Some q) a b forth back = let w = (back q b.0).some in absurd (a w.0 w.1 w.2 w.3.0)
used_places u v e f (Some p) (Some q) a b forth back =
    let w = (forth p a.0).some in
    let z = (back q b.0).some in
    let le : PlaceAtMost q p = subst (PlaceAtMost q) w.3.1 (b.1.each w.0 w.1 w.2 w.3.0) in
    let ge : PlaceAtMost p q = subst (PlaceAtMost p) z.3.1 (a.1.each z.0 z.1 z.2 z.3.0) in
    ap (λ (place : Place). Some place) (one_place p q ge le)

-- what is declared, seen in both units
same_owners : (one other : Numbering) (what a b : Option ℕ) → SameOwner one what a → SameOwner other what b → SameOwners one other a b
same_owners one other None None None h k = tt
same_owners one other None None (Some f) h k = absurd k
same_owners one other None (Some e) b h k = absurd h
same_owners one other (Some d) (Some e) (Some f) h k = record { leaf = d; first = h; second = k }
same_owners one other (Some d) (Some e) None h k = absurd k
same_owners one other (Some d) None b h k = absurd h

same_bodies : (one other : Numbering) (u v : Unit) (what : Option Core) (a b : Option ℕ) → SameBody one u what a → SameBody other v what b → SameBodies one other u v a b
same_bodies one other u v None None None h k = tt
same_bodies one other u v None None (Some j) h k = absurd k
same_bodies one other u v None (Some i) b h k = absurd h
same_bodies one other u v (Some c) (Some i) (Some j) h k = record { tree = c; first = h; second = k }
same_bodies one other u v (Some c) (Some i) None h k = absurd k
same_bodies one other u v (Some c) None b h k = absurd h

body_trees : (one other : Numbering) (u v : Unit) (i : ℕ) (b : Option ℕ) → SameBodies one other u v (Some i) b → HasTree one other u v i
body_trees one other u v i None h = absurd h
body_trees one other u v i (Some j) h = record { number = j; trees = h }

-- the senses of a source are one
same_senses : (s : Source) (xs ys : List Sense) (a : AreSenses s xs) (b : AreSenses s ys) → length xs ≡ length s.nodes → length ys ≡ length s.nodes → xs ≡ ys
same_senses s xs ys a b whole also =
    let le : length xs ≤ length ys = omega arith in
    let ge : length ys ≤ length xs = omega arith in
    sym (same_begin s xs ys a b le) ∙ take_all (length xs) ys ge

-- the like of an entity but for its first named
record IsLike (one other : Numbering) (u v : Unit) (e : ℕ) (x : Entity) : Type 0 where
  number : ℕ
  entity : Entity
  paired : ArePaired one other e number
  stands : entity_at (trees_of v) number ≡ Some entity
  name : x.name ≡ entity.name
  unit_is : x.unit ≡ entity.unit
  place : x.place ≡ entity.place
  type : type_of u.types x.ty.0 ≡ type_of v.types entity.ty.0
  linkage : x.linkage ≡ entity.linkage
  storage : x.storage ≡ entity.storage
  owner : SameOwners one other x.owner entity.owner
  body : SameBodies one other u v x.body entity.body

module _ (s : Source) (name : List ℕ) (u v : Unit) (h : Right s name u) (k : Right s name v) where
  pub senses_same : h.senses ≡ k.senses
  senses_same = same_senses s h.senses k.senses h.are_senses k.are_senses h.whole k.whole

  like : (e : ℕ) (x : Entity) → entity_at (trees_of u) e ≡ Some x → IsLike h.numbering k.numbering u v e x
  like e x at =
      let given = h.no_other_entity e (slice_get_within u.entities.items e x at) in
      let d : ℕ = given.0 in
      let what : Declared = given.1 in
      let mine = h.each_declared d what given.2 in
      let there = k.each_declared d what (subst (λ (senses : List Sense). IsDeclaredAt s senses d what) senses_same given.2) in
      let number : mine.0 ≡ e = same_Some mine.0 e (sym mine.2 ∙ given.3) in
      let entity : mine.1 ≡ x = same_Some mine.1 x (sym mine.3 ∙ (ap (slice_get u.entities.items) number ∙ at)) in
      let is : IsEntityOf h.numbering u s.unit what x = subst (IsEntityOf h.numbering u s.unit what) entity mine.4 in
      let also : IsEntityOf k.numbering v s.unit what there.1 = there.4 in
      record {
        number = there.0;
        entity = there.1;
        paired = record { leaf = d; first = given.3; second = there.2 };
        stands = there.3;
        name = is.name ∙ sym also.name;
        unit_is = is.unit_is ∙ sym also.unit_is;
        place = is.place ∙ sym also.place;
        type = is.type ∙ sym also.type;
        linkage = is.linkage ∙ sym also.linkage;
        storage = is.storage ∙ sym also.storage;
        owner = same_owners h.numbering k.numbering what.owner x.owner there.1.owner is.owner also.owner;
        body = same_bodies h.numbering k.numbering u v what.body x.body there.1.body is.body also.body;
      }

  -- going up to a body and down again
  tree_within : (fuel i : ℕ) → i < length u.nodes.items → length u.nodes.items ≤ i + fuel → HasTree h.numbering k.numbering u v i
  tree_within zero i lt le = absurd (omega arith)
  tree_within (suc fuel) i lt le =
      elim (h.no_other_node i lt) [
        | inl body ↦
            let is : IsLike h.numbering k.numbering u v body.0 body.1 = like body.0 body.1 body.2 in
            body_trees h.numbering k.numbering u v i is.entity.body
            (subst (λ (b : Option ℕ). SameBodies h.numbering k.numbering u v b is.entity.body) body.3 is.body)
        | inr child ↦
            let more : i < child.0 = child_before (trees_of u) h.valid.trees.in_range child.0 i child.1 in
            let within : child.0 < length u.nodes.items = parent_within (trees_of u) child.0 i child.1 in
            let above : HasTree h.numbering k.numbering u v child.0 = tree_within fuel child.0 within (omega arith) in
            child_trees h.numbering k.numbering u v child.0 above.number above.trees.tree i above.trees.first above.trees.second child.1
      ]

  tree : (i : ℕ) (node : Node) → slice_get u.nodes.items i ≡ Some node → HasTree h.numbering k.numbering u v i
  tree i node at = tree_within (length u.nodes.items) i (slice_get_within u.nodes.items i node at) (omega arith)

  uses : (d e f : ℕ) → h.numbering d ≡ Some e → k.numbering d ≡ Some f → (p : Place) → UsedAt (trees_of u) e p → UsedAt (trees_of v) f p
  uses d e f first second p used =
      let w = used.some in
      let there : HasTree h.numbering k.numbering u v w.0 = tree w.0 w.1 w.2 in
      tree_uses h.numbering k.numbering u v w.0 there.number e f d p w.1 h.entity_once first second there.trees w.2 w.3

module _ (s : Source) (name : List ℕ) (u v : Unit) (h : Right s name u) (k : Right s name v) where
  pub entity_like : (e : ℕ) (x : Entity) → entity_at (trees_of u) e ≡ Some x → HasLike h.numbering k.numbering u v e x
  entity_like e x at =
      let is : IsLike h.numbering k.numbering u v e x = like s name u v h k e x at in
      let d : ℕ = is.paired.leaf in
      record {
        number = is.number;
        entity = is.entity;
        paired = is.paired;
        stands = is.stands;
        same = record {
          name = is.name;
          unit_is = is.unit_is;
          place = is.place;
          type = is.type;
          linkage = is.linkage;
          storage = is.storage;
          owner = is.owner;
          body = is.body;
          used = used_places u v e is.number x.used is.entity.used (h.valid.trees.uses e x at) (k.valid.trees.uses is.number is.entity is.stands)
              (uses s name u v h k d e is.number is.paired.first is.paired.second)
              (uses s name v u k h d is.number e is.paired.second is.paired.first);
        };
      }

  pub has_all : HasAll h.numbering k.numbering u v
  has_all = record { entities = entity_like; nodes = tree s name u v h k }

  -- the tags
  pub few_tags : u.types.tags ≤ v.types.tags
  few_tags =
      let no_more : v.types.tags < u.types.tags → ⊥ =
      λ lt. let given = h.no_other_tag v.types.tags lt in
      let below : s.tag_number given.0 < v.types.tags = k.each_tag given.0 given.1 in
      let is : s.tag_number given.0 ≡ v.types.tags = given.2 in
      omega arith in
      omega arith

  pub same_members : (t : ℕ) → t < u.types.tags → parts_in u.types (members_in u.types t) ≡ parts_in v.types (members_in v.types t)
  same_members t lt =
      let given = h.no_other_tag t lt in
      let d : ℕ = given.0 in
      let mine : parts_in u.types (members_in u.types (s.tag_number d)) ≡ members_under (completed_from s h.senses (sense_in h.senses) 0) (s.tag_number d) = h.members d given.1 in
      let there : parts_in v.types (members_in v.types (s.tag_number d)) ≡ members_under (completed_from s k.senses (sense_in k.senses) 0) (s.tag_number d) = k.members d given.1 in
      let over : members_under (completed_from s h.senses (sense_in h.senses) 0) (s.tag_number d) ≡ members_under (completed_from s k.senses (sense_in k.senses) 0) (s.tag_number d) =
      ap (λ (senses : List Sense). members_under (completed_from s senses (sense_in senses) 0) (s.tag_number d)) (senses_same s name u v h k) in
      let at : parts_in u.types (members_in u.types (s.tag_number d)) ≡ parts_in v.types (members_in v.types (s.tag_number d)) = mine ∙ (over ∙ sym there) in
      subst (λ (n : ℕ). parts_in u.types (members_in u.types n) ≡ parts_in v.types (members_in v.types n)) given.2 at
