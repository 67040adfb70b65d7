-- The entities and nodes of units that are alike, pair by pair.
use Rattle.std.proofs.Common.{arith, ◌≡◌, ◌∙◌, ◌<◌, ◌≤◌, ◌+◌, ℕ, zero, suc, List, [], ◌∷◌, Option, Some, None, length, refl, sym, ap, subst, inl, inr}
use Rattle.std.specs.Prelude.{IfSome, All}
use Rattle.std.specs.List.{slice_get}
use Rattle.std.proofs.lemmas.Option.{slice_get_within}
use Rattle.std.proofs.lemmas.List.Elements.{All-head, All-tail}
use Rattle.c_types.specs.Table.{type_of}
use Rattle.c_types.specs.Made.{AreNamed}
use Rattle.core_tree.specs.declared.node.NodeKind.{NodeKind}
use Rattle.core_tree.specs.declared.node.NodeKind.TheVariants.{Named, Literal, VarArgs, FunctionName, Block, For, Initialise}
use Rattle.core_tree.specs.declared.node.Node.{Node}
use Rattle.core_tree.specs.declared.node.Entity.{Entity}
use Rattle.core_tree.specs.declared.node.Unit.{Unit}
use Rattle.core_tree.specs.Typed.{trees_of}
use Rattle.core_tree.specs.Rows.{Initialises, InitialisesEntity, InitialisesIn}
use Rattle.core_tree.specs.Valid.{entity_at, child_in, child_at, IsChild, HasBody, OnlyBody, ValidUnit, named_by, listed_by}
use Rattle.core_tree.proofs.Climb.{child_before, parent_within, parent_node, child_has}
use Rattle.c_consts.specs.Core.{Core, Cores, Of, NoCores, MoreCores}
use Rattle.c_senses.specs.Right.{Numbering, SameEntities, SameKind, StandsBy, AllStandBy}
use Rattle.parsed_tree_laws.specs.reading_laws.right_laws.Alike.{ArePaired, SameOwners, AreTrees, SameBodies, NumbersOnce, HasLike, HasAll}
use Rattle.twin_report_laws.specs.outcome_laws.twin_programs.One.{IsRooted}
use Rattle.twin_report_laws.proofs.outcome_laws.twin_programs.Lists.{some_one, some_at, AllPaired, paired_more, OptionPaired, option_more}
use Rattle.twin_report_laws.proofs.outcome_laws.fault_laws.Pairing.{SameWords}

-- one kind, by the pairs of entities
abbrev pub KindsPaired : (ℕ → ℕ → Type 0) → NodeKind → NodeKind → Type 0
KindsPaired P (Named e) (Named f) = P e f
KindsPaired P (FunctionName e) (FunctionName f) = P e f
KindsPaired P (Literal e) (Literal f) = P e f
KindsPaired P (VarArgs e) (VarArgs f) = P e f
KindsPaired P (Initialise e paths) (Initialise f others) = P e f × (paths ≡ others)
KindsPaired P (Block es) (Block fs) = AllPaired P es fs
KindsPaired P (For es c a) (For fs d b) = AllPaired P es fs × (c ≡ d) × (a ≡ b)
KindsPaired P a b = a ≡ b

-- an entity with the one of the other unit
pub record EntitiesMeet (u v : Unit) (P Q : ℕ → ℕ → Type 0) (x y : Entity) : Type 0 where
  pub words : SameWords x y
  pub owner : OptionPaired P x.owner y.owner
  pub body : OptionPaired Q x.body y.body
  pub used : y.used ≡ x.used
  pub type : type_of u.types x.ty.0 ≡ type_of v.types y.ty.0
  pub within : x.ty.0 < length u.types.terms
  pub other_within : y.ty.0 < length v.types.terms

-- a node with the one of the other unit
pub record NodesMeet (u v : Unit) (P Q : ℕ → ℕ → Type 0) (x y : Node) : Type 0 where
  pub kind : KindsPaired P x.kind y.kind
  pub place : y.place ≡ x.place
  pub type : type_of u.types x.ty.0 ≡ type_of v.types y.ty.0
  pub within : x.ty.0 < length u.types.terms
  pub other_within : y.ty.0 < length v.types.terms
  pub children : AllPaired Q x.children y.children

-- each entity and node of u has one of v as its pair, no two have the same one, and pairs are the same
pub record UnitLeads (u v : Unit) (P Q : ℕ → ℕ → Type 0) : Type 0 where
  pub named : AreNamed u.types
  pub entity : (e : ℕ) (x : Entity) → slice_get u.entities.items e ≡ Some x → (f : ℕ) × (y : Entity) × P e f × (slice_get v.entities.items f ≡ Some y)
  pub entity_once : (e d f : ℕ) → P e f → P d f → e ≡ d
  pub entity_meets : (e f : ℕ) (x y : Entity) → P e f → slice_get u.entities.items e ≡ Some x → slice_get v.entities.items f ≡ Some y → EntitiesMeet u v P Q x y
  pub entity_within : (e f : ℕ) → P e f → e < length u.entities.items
  pub node : (i : ℕ) (x : Node) → slice_get u.nodes.items i ≡ Some x → (j : ℕ) × (y : Node) × Q i j × (slice_get v.nodes.items j ≡ Some y)
  pub node_once : (i g j : ℕ) → Q i j → Q g j → i ≡ g
  pub node_meets : (i j : ℕ) (x y : Node) → Q i j → slice_get u.nodes.items i ≡ Some x → slice_get v.nodes.items j ≡ Some y → NodesMeet u v P Q x y
  pub node_within : (i j : ℕ) → Q i j → i < length u.nodes.items

-- nodes of two units that are bodies of paired entities, or the same child of such nodes
pub data Twins (one other : Numbering) (u v : Unit) : ℕ → ℕ → Type 0 where
  bodies : {e f i j : ℕ} {x y : Entity} → ArePaired one other e f → entity_at (trees_of u) e ≡ Some x → entity_at (trees_of v) f ≡ Some y → x.body ≡ Some i → y.body ≡ Some j → AreTrees one other u v i j → Twins one other u v i j
  children : {p q i j : ℕ} → (k : ℕ) → Twins one other u v p q → child_at (trees_of u) p k ≡ Some i → child_at (trees_of v) q k ≡ Some j → AreTrees one other u v i j → Twins one other u v i j

-- entities that are paired and stand
pub record Paired (one other : Numbering) (u v : Unit) (e f : ℕ) : Type 0 where
  pub pair : ArePaired one other e f
  pub here : e < length u.entities.items
  pub there : f < length v.entities.items

turned_pair : (one other : Numbering) (e f : ℕ) → ArePaired one other e f → ArePaired other one f e
turned_pair one other e f h = record { leaf = h.leaf; first = h.second; second = h.first }

turned_trees : (one other : Numbering) (u v : Unit) (i j : ℕ) → AreTrees one other u v i j → AreTrees other one v u j i
turned_trees one other u v i j h = record { tree = h.tree; first = h.second; second = h.first }

pub turned : (one other : Numbering) (u v : Unit) (i j : ℕ) → Twins one other u v i j → Twins other one v u j i
turned one other u v i j (bodies {e = e} {f = f} pair x y a b t) = bodies (turned_pair one other e f pair) y x b a (turned_trees one other u v i j t)
turned one other u v i j (children {p = p} {q = q} n t a b trees) = children n (turned one other u v p q t) b a (turned_trees one other u v i j trees)

pub turned_paired : (one other : Numbering) (u v : Unit) (e f : ℕ) → Paired one other u v e f → Paired other one v u f e
turned_paired one other u v e f h = record { pair = turned_pair one other e f h.pair; here = h.there; there = h.here }

-- which object an Initialise makes, by the leaf that its tree names
makes_leaf : (n : Numbering) (a kind : NodeKind) (e : ℕ) → SameKind n kind a → InitialisesEntity a e → (d : ℕ) × InitialisesEntity kind d × (n d ≡ Some e)
makes_leaf n (Initialise x paths) (Initialise d others) e same made = (d, refl, same.0 ∙ ap (λ (k : ℕ). Some k) made)
makes_leaf n (Initialise x paths) kind e same made = absurd (cc)
makes_leaf n a kind e same made = absurd made

makes_number : (n : Numbering) (kind a : NodeKind) (d f : ℕ) → SameKind n kind a → InitialisesEntity kind d → n d ≡ Some f → InitialisesEntity a f
makes_number n (Initialise x paths) (Initialise y others) d f same made is =
    let there : n x ≡ Some f = ap n made ∙ is in some_one (sym same.0 ∙ there)
makes_number n (Initialise x paths) a d f same made is = absurd (cc)
makes_number n kind a d f same made is = absurd made

-- an Initialise of paired objects
made_there : (one other : Numbering) (u v : Unit) (i j d e f : ℕ) → NumbersOnce other → one d ≡ Some e → other d ≡ Some f → AreTrees one other u v i j → Initialises (trees_of v) j f → Initialises (trees_of u) i e
made_there one other u v i j d e f once first second trees made = in_tree trees.tree trees.first trees.second
  where
    in_tree : (tree : Core) → StandsBy one u i tree → StandsBy other v j tree → Initialises (trees_of u) i e
    in_tree (Of kind place type under) a b =
        let there : InitialisesEntity b.0.kind f = subst (λ (o : Option Node). InitialisesIn o f) b.1 made in
        let leaf = makes_leaf other b.0.kind kind f b.2 there in
        let is : leaf.0 ≡ d = once leaf.0 d f leaf.2 second in
        let here : InitialisesEntity a.0.kind e = makes_number one kind a.0.kind d e a.2 (subst (InitialisesEntity kind) is leaf.1) first in
        subst (λ (o : Option Node). InitialisesIn o e) (sym a.1) here

-- the kinds of nodes that stand for one tree
module _ (one other : Numbering) (u v : Unit) where
  entities_paired : (leaves es fs : List ℕ) → SameEntities one leaves es → SameEntities other leaves fs → All (λ e. e < length u.entities.items) es → All (λ f. f < length v.entities.items) fs
      → AllPaired (Paired one other u v) es fs
  entities_paired [] [] [] a b x y = tt
  entities_paired [] [] (f ∷ fs) a b x y = absurd b
  entities_paired [] (e ∷ es) fs a b x y = absurd a
  entities_paired (d ∷ ds) [] fs a b x y = absurd a
  entities_paired (d ∷ ds) (e ∷ es) [] a b x y = absurd b
  entities_paired (d ∷ ds) (e ∷ es) (f ∷ fs) a b x y = (
    record {
      pair = record { leaf = d; first = a.0; second = b.0 };
      here = All-head (λ (n : ℕ). n < length u.entities.items) e es x;
      there = All-head (λ (n : ℕ). n < length v.entities.items) f fs y;
    },
    entities_paired ds es fs a.1 b.1 (All-tail (λ (n : ℕ). n < length u.entities.items) e es x) (All-tail (λ (n : ℕ). n < length v.entities.items) f fs y),
  )

  abbrev Fits : Unit → NodeKind → Type 0
  Fits w kind = IfSome (named_by kind) (λ e. e < length w.entities.items) × All (λ e. e < length w.entities.items) (listed_by kind)

  kinds_paired : (kind a b : NodeKind) → SameKind one kind a → SameKind other kind b → Fits u a → Fits v b → KindsPaired (Paired one other u v) a b
  kinds_paired (Named d) (Named e) (Named f) x y i j = record { pair = record { leaf = d; first = x; second = y }; here = i.0; there = j.0 }
  kinds_paired (Named d) (Named e) b x y i j = absurd (cc)
  kinds_paired (Named d) a b x y i j = absurd (cc)
  kinds_paired (FunctionName d) (FunctionName e) (FunctionName f) x y i j = record { pair = record { leaf = d; first = x; second = y }; here = i.0; there = j.0 }
  kinds_paired (FunctionName d) (FunctionName e) b x y i j = absurd (cc)
  kinds_paired (FunctionName d) a b x y i j = absurd (cc)
  kinds_paired (Literal d) (Literal e) (Literal f) x y i j = record { pair = record { leaf = d; first = x; second = y }; here = i.0; there = j.0 }
  kinds_paired (Literal d) (Literal e) b x y i j = absurd (cc)
  kinds_paired (Literal d) a b x y i j = absurd (cc)
  kinds_paired (VarArgs d) (VarArgs e) (VarArgs f) x y i j = record { pair = record { leaf = d; first = x; second = y }; here = i.0; there = j.0 }
  kinds_paired (VarArgs d) (VarArgs e) b x y i j = absurd (cc)
  kinds_paired (VarArgs d) a b x y i j = absurd (cc)
  kinds_paired (Initialise d paths) (Initialise e p) (Initialise f q) x y i j = (record { pair = record { leaf = d; first = x.0; second = y.0 }; here = i.0; there = j.0 }, sym x.1 ∙ y.1)
  kinds_paired (Initialise d paths) (Initialise e p) b x y i j = absurd (cc)
  kinds_paired (Initialise d paths) a b x y i j = absurd (cc)
  kinds_paired (Block ds) (Block es) (Block fs) x y i j = entities_paired ds es fs x y i.1 j.1
  kinds_paired (Block ds) (Block es) b x y i j = absurd (cc)
  kinds_paired (Block ds) a b x y i j = absurd (cc)
  kinds_paired (For ds c n) (For es d m) (For fs e k) x y i j = (entities_paired ds es fs x.0 y.0 i.1 j.1, sym x.1 ∙ y.1, sym x.2 ∙ y.2)
  kinds_paired (For ds c n) (For es d m) b x y i j = absurd (cc)
  kinds_paired (For ds c n) a b x y i j = absurd (cc)
  kinds_paired kind a b x y i j = subst (λ (z : NodeKind). KindsPaired (Paired one other u v) z b) x y

module _ (one other : Numbering) (u v : Unit) (p q : ℕ) (t : Twins one other u v p q) where
  -- the parts of nodes that are paired are paired
  parts_paired : (under : Cores) (is js : List ℕ) (f : ℕ → ℕ) → AllStandBy one u is under → AllStandBy other v js under
      → ((k c : ℕ) → slice_get is k ≡ Some c → child_at (trees_of u) p (f k) ≡ Some c) → ((k c : ℕ) → slice_get js k ≡ Some c → child_at (trees_of v) q (f k) ≡ Some c)
      → AllPaired (Twins one other u v) is js
  parts_paired NoCores is js f a b x y =
      subst (λ (l : List ℕ). AllPaired (Twins one other u v) l js) (sym a) (subst (λ (l : List ℕ). AllPaired (Twins one other u v) [] l) (sym b) tt)
  parts_paired (MoreCores c rest) is js f a b x y =
      let here : (k d : ℕ) → slice_get (a.0 ∷ a.1) k ≡ Some d → child_at (trees_of u) p (f k) ≡ Some d = λ k d e. x k d (ap (λ (l : List ℕ). slice_get l k) a.2 ∙ e) in
      let there : (k d : ℕ) → slice_get (b.0 ∷ b.1) k ≡ Some d → child_at (trees_of v) q (f k) ≡ Some d = λ k d e. y k d (ap (λ (l : List ℕ). slice_get l k) b.2 ∙ e) in
      let first : Twins one other u v a.0 b.0 = children (f 0) t (here 0 a.0 refl) (there 0 b.0 refl) (record { tree = c; first = a.3; second = b.3 }) in
      let more : AllPaired (Twins one other u v) a.1 b.1 = parts_paired rest a.1 b.1 (λ k. f (suc k)) a.4 b.4 (λ k d e. here (suc k) d e) (λ k d e. there (suc k) d e) in
      subst (λ (l : List ℕ). AllPaired (Twins one other u v) l js) (sym a.2) (subst (λ (l : List ℕ). AllPaired (Twins one other u v) (a.0 ∷ a.1) l) (sym b.2) (first, more))

-- the part at one place of nodes that stand for one tree
record PartAt (one other : Numbering) (u v : Unit) (js : List ℕ) (k i : ℕ) : Type 0 where
  number : ℕ
  at : slice_get js k ≡ Some number
  trees : AreTrees one other u v i number

module _ (one other : Numbering) (u v : Unit) where
  part_at : (is js : List ℕ) (under : Cores) (k i : ℕ) → AllStandBy one u is under → AllStandBy other v js under → slice_get is k ≡ Some i → PartAt one other u v js k i
  part_at is js NoCores k i a b at =
      let none : slice_get [] k ≡ Some i = subst (λ (l : List ℕ). slice_get l k ≡ Some i) a at in absurd (cc)
  part_at is js (MoreCores c rest) zero i a b at =
      let here : slice_get (a.0 ∷ a.1) zero ≡ Some i = subst (λ (l : List ℕ). slice_get l zero ≡ Some i) a.2 at in
      let same : a.0 ≡ i = some_one here in
      let first : slice_get (b.0 ∷ b.1) zero ≡ Some b.0 = refl in
      record {
        number = b.0;
        at = subst (λ (l : List ℕ). slice_get l zero ≡ Some b.0) (sym b.2) first;
        trees = record { tree = c; first = subst (λ (n : ℕ). StandsBy one u n c) same a.3; second = b.3 };
      }
  part_at is js (MoreCores c rest) (suc k) i a b at =
      let there : slice_get (a.0 ∷ a.1) (suc k) ≡ Some i = subst (λ (l : List ℕ). slice_get l (suc k) ≡ Some i) a.2 at in
      let rest_at : PartAt one other u v b.1 k i = part_at a.1 b.1 rest k i a.4 b.4 there in
      let behind : slice_get (b.0 ∷ b.1) (suc k) ≡ Some rest_at.number = rest_at.at in
      record {
        number = rest_at.number;
        at = subst (λ (l : List ℕ). slice_get l (suc k) ≡ Some rest_at.number) (sym b.2) behind;
        trees = rest_at.trees;
      }

  twin_trees : (i j : ℕ) → Twins one other u v i j → AreTrees one other u v i j
  twin_trees i j (bodies pair x y a b t) = t
  twin_trees i j (children n t a b trees) = trees

  stands_within : (w : Unit) (n : Numbering) (j : ℕ) (tree : Core) → StandsBy n w j tree → j < length w.nodes.items
  stands_within w n j (Of kind place type under) b = slice_get_within w.nodes.items j b.0 b.1

  child_twin : (p q i : ℕ) (tree : Core) → Twins one other u v p q → StandsBy one u p tree → StandsBy other v q tree → IsChild (trees_of u) p i → (j : ℕ) × Twins one other u v i j
  child_twin p q i (Of kind place type under) t a b (k, e) =
      let at : slice_get a.0.children k ≡ Some i = sym (ap (λ (o : Option Node). child_in o k) a.1) ∙ e in
      let part : PartAt one other u v b.0.children k i = part_at a.0.children b.0.children under k i a.5 b.5 at in
      let there : child_at (trees_of v) q k ≡ Some part.number = ap (λ (o : Option Node). child_in o k) b.1 ∙ part.at in
      (part.number, children k t e there part.trees)

module _ (one other : Numbering) (u v : Unit) (once : NumbersOnce one) (other_once : NumbersOnce other) (has : HasAll one other u v) (valid : ValidUnit u) (other_valid : ValidUnit v) (rooted : IsRooted u) where
  same_first : (e g f : ℕ) → ArePaired one other e f → ArePaired one other g f → e ≡ g
  same_first e g f a b =
      let leaf : a.leaf ≡ b.leaf = other_once a.leaf b.leaf f a.second b.second in
      some_one (sym a.first ∙ (ap one leaf ∙ b.first))

  same_second : (e f g : ℕ) → ArePaired one other e f → ArePaired one other e g → f ≡ g
  same_second e f g a b =
      let leaf : a.leaf ≡ b.leaf = once a.leaf b.leaf e a.first b.first in
      some_one (sym a.second ∙ (ap other leaf ∙ b.second))

  body_of : (f j : ℕ) (y : Entity) → entity_at (trees_of v) f ≡ Some y → y.body ≡ Some j → HasBody (trees_of v) f y (Some j)
  body_of f j y at body = subst (HasBody (trees_of v) f y) body (other_valid.trees.bodied f y at)

  body_at_object : (e i g : ℕ) (x : Entity) → entity_at (trees_of u) e ≡ Some x → x.body ≡ Some i → Initialises (trees_of u) g e → i ≡ g
  body_at_object e i g x at body made =
      let given = rooted.initialisers g e made in
      let same : given.0 ≡ x = some_one (sym given.1 ∙ at) in
      some_one (sym body ∙ (ap (λ (entity : Entity). entity.body) (sym same) ∙ given.2))

  -- a body that is a child too
  body_and_child : (e f i j p g : ℕ) (x y : Entity) → ArePaired one other e f → entity_at (trees_of u) e ≡ Some x → entity_at (trees_of v) f ≡ Some y → x.body ≡ Some i → y.body ≡ Some j
      → IsChild (trees_of v) p j → AreTrees one other u v g j → i ≡ g
  body_and_child e f i j p g x y pair at there body body_there child trees =
      let has = body_of f j y there body_there in
      elim has.0 [
        | inl function ↦
            let node = parent_node (trees_of v) p j child in
            absurd (function.top p node.0 node.1 (child_has (trees_of v) p j node.0 node.1 child))
        | inr object ↦
            body_at_object e i g x at body (made_there one other u v g j pair.leaf e f other_once pair.first pair.second trees object.initialises)
      ]

  twin_once : (i g j : ℕ) → Twins one other u v i j → Twins one other u v g j → i ≡ g
  twin_once i g j (bodies {e = e} {f = f} {x = x} {y = y} pair at there body body_there t) (bodies {e = d} {f = b} {x = z} {y = w} pair_too at_too there_too body_too body_there_too t_too) =
      let only : OnlyBody (trees_of v) f j = (body_of f j y there body_there).1 in
      let f_is : b ≡ f = only b w there_too body_there_too in
      let e_is : e ≡ d = same_first e d f pair (subst (ArePaired one other d) f_is pair_too) in
      let x_is : x ≡ z = some_one (sym at ∙ (ap (slice_get u.entities.items) e_is ∙ at_too)) in
      some_one (sym body ∙ (ap (λ (entity : Entity). entity.body) x_is ∙ body_too))
  twin_once i g j (bodies {e = e} {f = f} {x = x} {y = y} pair at there body body_there t) (children {q = q} n above here child trees) =
      body_and_child e f i j q g x y pair at there body body_there (n, child) trees
  twin_once i g j (children {q = q} n above here child trees) (bodies {e = e} {f = f} {x = x} {y = y} pair at there body body_there t) =
      sym (body_and_child e f g j q i x y pair at there body body_there (n, child) trees)
  twin_once i g j (children {p = p} {q = q} n above here child trees) (children {p = r} {q = w} l above_too here_too child_too trees_too) =
      let same = other_valid.trees.child_once q w n l j child child_too in
      let p_is : p ≡ r = twin_once p r q above (subst (λ (x : ℕ). Twins one other u v r x) (sym same.0) above_too) in
      some_one (sym here ∙ (ap (λ (x : ℕ). child_at (trees_of u) x n) p_is ∙ (ap (child_at (trees_of u) r) same.1 ∙ here_too)))

  body_twin : (e f i : ℕ) (x y : Entity) (b : Option ℕ) → ArePaired one other e f → entity_at (trees_of u) e ≡ Some x → entity_at (trees_of v) f ≡ Some y → x.body ≡ Some i → y.body ≡ b
      → SameBodies one other u v (Some i) b → (j : ℕ) × Twins one other u v i j
  body_twin e f i x y None pair at there body is same = absurd same
  body_twin e f i x y (Some j) pair at there body is same = (j, bodies pair at there body is same)

  twin_within : (fuel i : ℕ) → i < length u.nodes.items → length u.nodes.items ≤ i + fuel → (j : ℕ) × Twins one other u v i j
  twin_within zero i lt le = absurd (omega arith)
  twin_within (suc fuel) i lt le =
      elim (rooted.nodes i lt) [
        | inl body ↦
            let is : HasLike one other u v body.0 body.1 = has.entities body.0 body.1 body.2 in
            body_twin body.0 is.number i body.1 is.entity is.entity.body is.paired body.2 is.stands body.3 refl
            (subst (λ (b : Option ℕ). SameBodies one other u v b is.entity.body) body.3 is.same.body)
        | inr child ↦
            let more : i < child.0 = child_before (trees_of u) valid.trees.in_range child.0 i child.1 in
            let within : child.0 < length u.nodes.items = parent_within (trees_of u) child.0 i child.1 in
            let above : (j : ℕ) × Twins one other u v child.0 j = twin_within fuel child.0 within (omega arith) in
            let trees : AreTrees one other u v child.0 above.0 = twin_trees one other u v child.0 above.0 above.1 in
            child_twin one other u v child.0 above.0 i trees.tree above.1 trees.first trees.second child.1
      ]

  node_there : (i : ℕ) (x : Node) → slice_get u.nodes.items i ≡ Some x → (j : ℕ) × (y : Node) × Twins one other u v i j × (slice_get v.nodes.items j ≡ Some y)
  node_there i x at =
      let given : (j : ℕ) × Twins one other u v i j = twin_within (length u.nodes.items) i (slice_get_within u.nodes.items i x at) (omega arith) in
      let trees : AreTrees one other u v i given.0 = twin_trees one other u v i given.0 given.1 in
      let (y, stands) = some_at v.nodes.items given.0 (stands_within one other u v v other given.0 trees.tree trees.second) in
      (given.0, y, given.1, stands)

  entity_there : (e : ℕ) (x : Entity) → slice_get u.entities.items e ≡ Some x → (f : ℕ) × (y : Entity) × Paired one other u v e f × (slice_get v.entities.items f ≡ Some y)
  entity_there e x at =
      let is : HasLike one other u v e x = has.entities e x at in (
        is.number,
        is.entity,
        record { pair = is.paired; here = slice_get_within u.entities.items e x at; there = slice_get_within v.entities.items is.number is.entity is.stands },
        is.stands,
      )

  owners : (a b : Option ℕ) → SameOwners one other a b → IfSome a (λ e. e < length u.entities.items) → IfSome b (λ f. f < length v.entities.items) → OptionPaired (Paired one other u v) a b
  owners None None h i j = tt
  owners None (Some f) h i j = absurd h
  owners (Some e) None h i j = absurd h
  owners (Some e) (Some f) h i j = record { pair = h; here = i; there = j }

  body_pair : (e f : ℕ) (x y : Entity) → ArePaired one other e f → entity_at (trees_of u) e ≡ Some x → entity_at (trees_of v) f ≡ Some y → (a b : Option ℕ) → x.body ≡ a → y.body ≡ b → SameBodies one other u v a b
      → OptionPaired (Twins one other u v) a b
  body_pair e f x y pair at there None None i j h = tt
  body_pair e f x y pair at there None (Some b) i j h = absurd h
  body_pair e f x y pair at there (Some a) None i j h = absurd h
  body_pair e f x y pair at there (Some a) (Some b) i j h = bodies pair at there i j h

  entity_meets : (e f : ℕ) (x y : Entity) → Paired one other u v e f → slice_get u.entities.items e ≡ Some x → slice_get v.entities.items f ≡ Some y → EntitiesMeet u v (Paired one other u v) (Twins one other u v) x y
  entity_meets e f x y pair at there =
      let is : HasLike one other u v e x = has.entities e x at in
      let number : is.number ≡ f = same_second e is.number f is.paired pair.pair in
      let entity : is.entity ≡ y = some_one (sym is.stands ∙ (ap (slice_get v.entities.items) number ∙ there)) in
      let same = is.same in
      record {
        words = record {
          name = ap (λ (z : Entity). z.name) (sym entity) ∙ sym same.name;
          unit_is = ap (λ (z : Entity). z.unit) (sym entity) ∙ sym same.unit_is;
          place = ap (λ (z : Entity). z.place) (sym entity) ∙ sym same.place;
          linkage = ap (λ (z : Entity). z.linkage) (sym entity) ∙ sym same.linkage;
          storage = ap (λ (z : Entity). z.storage) (sym entity) ∙ sym same.storage;
        };
        owner = owners x.owner y.owner (subst (λ (z : Entity). SameOwners one other x.owner z.owner) entity same.owner) (valid.trees.in_range.owners e x at) (other_valid.trees.in_range.owners f y there);
        body = body_pair e f x y pair.pair at there x.body y.body refl refl (subst (λ (z : Entity). SameBodies one other u v x.body z.body) entity same.body);
        used = ap (λ (z : Entity). z.used) (sym entity) ∙ sym same.used;
        type = same.type ∙ ap (λ (z : Entity). type_of v.types z.ty.0) entity;
        within = valid.trees.in_range.entity_types e x at;
        other_within = other_valid.trees.in_range.entity_types f y there;
      }

  node_meets : (i j : ℕ) (x y : Node) → Twins one other u v i j → slice_get u.nodes.items i ≡ Some x → slice_get v.nodes.items j ≡ Some y → NodesMeet u v (Paired one other u v) (Twins one other u v) x y
  node_meets i j x y t at there = (let trees : AreTrees one other u v i j = twin_trees one other u v i j t in by trees.tree trees.first trees.second)
    where
      by : (tree : Core) → StandsBy one u i tree → StandsBy other v j tree → NodesMeet u v (Paired one other u v) (Twins one other u v) x y
      by (Of kind place type under) a b =
          let x_is : a.0 ≡ x = some_one (sym a.1 ∙ at) in
          let y_is : b.0 ≡ y = some_one (sym b.1 ∙ there) in
          let one_kind : SameKind one kind x.kind = subst (λ (z : Node). SameKind one kind z.kind) x_is a.2 in
          let other_kind : SameKind other kind y.kind = subst (λ (z : Node). SameKind other kind z.kind) y_is b.2 in
          let is = ap (λ (z : Node). z.children) x_is in
          let js = ap (λ (z : Node). z.children) y_is in
          let parts : AllPaired (Twins one other u v) a.0.children b.0.children = parts_paired one other u v i j t under a.0.children b.0.children (λ k. k) a.5 b.5
          (λ k c e. ap (λ (o : Option Node). child_in o k) a.1 ∙ e) (λ k c e. ap (λ (o : Option Node). child_in o k) b.1 ∙ e) in
          record {
            kind = kinds_paired one other u v kind x.kind y.kind one_kind other_kind (valid.trees.in_range.entities i x at, valid.trees.in_range.lists i x at)
                (other_valid.trees.in_range.entities j y there, other_valid.trees.in_range.lists j y there);
            place = ap (λ (z : Node). z.place) (sym y_is) ∙ (b.3 ∙ (sym a.3 ∙ ap (λ (z : Node). z.place) x_is));
            type = ap (λ (z : Node). type_of u.types z.ty.0) (sym x_is) ∙ (a.4 ∙ (sym b.4 ∙ ap (λ (z : Node). type_of v.types z.ty.0) y_is));
            within = valid.trees.in_range.types i x at;
            other_within = other_valid.trees.in_range.types j y there;
            children = subst (λ (l : List ℕ). AllPaired (Twins one other u v) l y.children) is (subst (λ (l : List ℕ). AllPaired (Twins one other u v) a.0.children l) js parts);
          }

  pub unit_leads : AreNamed u.types → UnitLeads u v (Paired one other u v) (Twins one other u v)
  unit_leads named = record {
    named = named;
    entity = entity_there;
    entity_once = λ e d f a b. same_first e d f a.pair b.pair;
    entity_meets = entity_meets;
    entity_within = λ e f a. a.here;
    node = node_there;
    node_once = twin_once;
    node_meets = node_meets;
    node_within = λ i j t. let trees : AreTrees one other u v i j = twin_trees one other u v i j t in stands_within one other u v u one i trees.tree trees.first;
  }

-- the same under other pairs
kinds_more : (P S : ℕ → ℕ → Type 0) → ((e f : ℕ) → P e f → S e f) → (a b : NodeKind) → KindsPaired P a b → KindsPaired S a b
kinds_more P S f (Named d) (Named e) h = f d e h
kinds_more P S f (FunctionName d) (FunctionName e) h = f d e h
kinds_more P S f (Literal d) (Literal e) h = f d e h
kinds_more P S f (VarArgs d) (VarArgs e) h = f d e h
kinds_more P S f (Initialise d paths) (Initialise e others) h = (f d e h.0, h.1)
kinds_more P S f (Block ds) (Block es) h = paired_more P S f ds es h
kinds_more P S f (For ds c a) (For es d b) h = (paired_more P S f ds es h.0, h.1, h.2)
kinds_more P S f a b h = h

pub leads_by : (u v : Unit) (P S Q T : ℕ → ℕ → Type 0) → ((e f : ℕ) → P e f → S e f) → ((e f : ℕ) → S e f → P e f) → ((i j : ℕ) → Q i j → T i j) → ((i j : ℕ) → T i j → Q i j)
    → UnitLeads u v P Q → UnitLeads u v S T
leads_by u v P S Q T to from into out h = record {
  named = h.named;
  entity = λ e x at. let r = h.entity e x at in (r.0, r.1, to e r.0 r.2, r.3);
  entity_once = λ e d f a b. h.entity_once e d f (from e f a) (from d f b);
  entity_meets = λ e f x y a at there.
      let r = h.entity_meets e f x y (from e f a) at there in
      record {
        words = r.words;
        owner = option_more P S to x.owner y.owner r.owner;
        body = option_more Q T into x.body y.body r.body;
        used = r.used;
        type = r.type;
        within = r.within;
        other_within = r.other_within;
      };
  entity_within = λ e f a. h.entity_within e f (from e f a);
  node = λ i x at. let r = h.node i x at in (r.0, r.1, into i r.0 r.2, r.3);
  node_once = λ i g j a b. h.node_once i g j (out i j a) (out g j b);
  node_meets = λ i j x y a at there.
      let r = h.node_meets i j x y (out i j a) at there in
      record {
        kind = kinds_more P S to x.kind y.kind r.kind;
        place = r.place;
        type = r.type;
        within = r.within;
        other_within = r.other_within;
        children = paired_more Q T into x.children y.children r.children;
      };
  node_within = λ i j a. h.node_within i j (out i j a);
}
