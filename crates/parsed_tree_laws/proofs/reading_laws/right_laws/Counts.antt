-- Units that are right for one source have as many entities and as many nodes.
use Rattle.std.proofs.Common.{arith, ◌≡◌, ◌<◌, ◌≤◌, ◌+◌, inl, inr, ℕ, zero, suc, List, [], ◌∷◌, Option, Some, None, length, slice_get, refl, sym, ap, ◌∙◌, subst}
use Rattle.std.proofs.lemmas.Option.{slice_get_within, same_Some}
use Rattle.core_tree.specs.declared.node.NodeKind.{NodeKind}
use Rattle.core_tree.specs.declared.node.NodeKind.TheVariants.{Initialise}
use Rattle.core_tree.specs.declared.node.Node.{Node}
use Rattle.core_tree.specs.declared.node.Entity.{Entity}
use Rattle.core_tree.specs.declared.node.Unit.{Unit}
use Rattle.core_tree.specs.Typed.{trees_of}
use Rattle.core_tree.specs.Rows.{Initialises, InitialisesEntity, InitialisesIn}
use Rattle.core_tree.proofs.Climb.{child_before, parent_within, parent_node, child_has}
use Rattle.core_tree.specs.Valid.{entity_at, child_in, child_at, IsChild, HasBody, OnlyBody}
use Rattle.c_consts.specs.Core.{Core, Cores, Of, NoCores, MoreCores}
use Rattle.c_senses.specs.Tree.{Source}
use Rattle.c_senses.specs.Right.{Numbering, SameKind, StandsBy, AllStandBy, Right}
use Rattle.parsed_tree_laws.specs.reading_laws.right_laws.Alike.{ArePaired, AreTrees, SameBodies, NumbersOnce, HasLike}
use Rattle.parsed_tree_laws.proofs.reading_laws.right_laws.Pairs.{no_more}
use Rattle.parsed_tree_laws.proofs.reading_laws.right_laws.Alike.{entity_like}

-- nodes of two units that are bodies of paired entities, or the same child of such nodes
data Twins (one other : Numbering) (u v : Unit) : ℕ → ℕ → Type 0 where
  bodies : {e f i j : ℕ} {x y : Entity} → ArePaired one other e f → entity_at (trees_of u) e ≡ Some x → entity_at (trees_of v) f ≡ Some y → x.body ≡ Some i → y.body ≡ Some j → AreTrees one other u v i j → Twins one other u v i j
  children : {p q i j : ℕ} → (k : ℕ) → Twins one other u v p q → child_at (trees_of u) p k ≡ Some i → child_at (trees_of v) q k ≡ Some j → AreTrees one other u v i j → Twins one other u v i j

turned_pair : (one other : Numbering) (e f : ℕ) → ArePaired one other e f → ArePaired other one f e
turned_pair one other e f h = record { leaf = h.leaf; first = h.second; second = h.first }

turned_trees : (one other : Numbering) (u v : Unit) (i j : ℕ) → AreTrees one other u v i j → AreTrees other one v u j i
turned_trees one other u v i j h = record { tree = h.tree; first = h.second; second = h.first }

turned : (one other : Numbering) (u v : Unit) (i j : ℕ) → Twins one other u v i j → Twins other one v u j i
turned one other u v i j (bodies {e = e} {f = f} pair x y a b t) = bodies (turned_pair one other e f pair) y x b a (turned_trees one other u v i j t)
turned one other u v i j (children {p = p} {q = q} n t a b trees) = children n (turned one other u v p q t) b a (turned_trees one other u v i j trees)

-- which object an Initialise makes, by the leaf that its tree names
makes_leaf : (n : Numbering) (a kind : NodeKind) (e : ℕ) → SameKind n kind a → InitialisesEntity a e → (d : ℕ) × InitialisesEntity kind d × (n d ≡ Some e)
makes_leaf n (Initialise x paths) (Initialise d others) e same made = (d, refl, same.0 ∙ ap (λ (k : ℕ). Some k) made)
makes_leaf n (Initialise x paths) kind e same made = absurd (cc)
makes_leaf n a kind e same made = absurd made

makes_number : (n : Numbering) (kind a : NodeKind) (d f : ℕ) → SameKind n kind a → InitialisesEntity kind d → n d ≡ Some f → InitialisesEntity a f
makes_number n (Initialise x paths) (Initialise y others) d f same made is =
    let there : n x ≡ Some f = ap n made ∙ is in same_Some y f (sym same.0 ∙ there)
makes_number n (Initialise x paths) a d f same made is = absurd (cc)
makes_number n kind a d f same made is = absurd made

-- an Initialise of paired objects
made_there : (one other : Numbering) (u v : Unit) (i j d e f : ℕ) → NumbersOnce other → one d ≡ Some e → other d ≡ Some f → AreTrees one other u v i j → Initialises (trees_of v) j f → Initialises (trees_of u) i e
made_there one other u v i j d e f once first second trees made = in_tree trees.tree trees.first trees.second
  where
    in_tree : (tree : Core) → StandsBy one u i tree → StandsBy other v j tree → Initialises (trees_of u) i e
    in_tree (Of kind place type under) a b =
        let there : InitialisesEntity b.0.kind f = subst (λ (o : Option Node). InitialisesIn o f) b.1 made in
        let leaf = makes_leaf other b.0.kind kind f b.2 there in
        let is : leaf.0 ≡ d = once leaf.0 d f leaf.2 second in
        let here : InitialisesEntity a.0.kind e = makes_number one kind a.0.kind d e a.2 (subst (InitialisesEntity kind) is leaf.1) first in
        subst (λ (o : Option Node). InitialisesIn o e) (sym a.1) here

module _ (s : Source) (name : List ℕ) (u v : Unit) (h : Right s name u) (k : Right s name v) where
  -- entities by their numbers
  same_first : (e g f : ℕ) → ArePaired h.numbering k.numbering e f → ArePaired h.numbering k.numbering g f → e ≡ g
  same_first e g f a b =
      let leaf : a.leaf ≡ b.leaf = k.entity_once a.leaf b.leaf f a.second b.second in
      same_Some e g (sym a.first ∙ (ap h.numbering leaf ∙ b.first))

  body_of : (f j : ℕ) (y : Entity) → entity_at (trees_of v) f ≡ Some y → y.body ≡ Some j → HasBody (trees_of v) f y (Some j)
  body_of f j y at body = subst (HasBody (trees_of v) f y) body (k.valid.trees.bodied f y at)

  body_at_object : (e i g : ℕ) (x : Entity) → entity_at (trees_of u) e ≡ Some x → x.body ≡ Some i → Initialises (trees_of u) g e → i ≡ g
  body_at_object e i g x at body made =
      let given = h.initialises_once g e made in
      let same : given.0 ≡ x = same_Some given.0 x (sym given.1 ∙ at) in
      same_Some i g (sym body ∙ (ap (λ (entity : Entity). entity.body) (sym same) ∙ given.2))

  -- a body that is a child too
  body_and_child : (e f i j p g : ℕ) (x y : Entity) → ArePaired h.numbering k.numbering e f → entity_at (trees_of u) e ≡ Some x → entity_at (trees_of v) f ≡ Some y → x.body ≡ Some i → y.body ≡ Some j
      → IsChild (trees_of v) p j → AreTrees h.numbering k.numbering u v g j → i ≡ g
  body_and_child e f i j p g x y pair at there body body_there child trees =
      let has = body_of f j y there body_there in
      elim has.0 [
        | inl function ↦
            let node = parent_node (trees_of v) p j child in
            absurd (function.top p node.0 node.1 (child_has (trees_of v) p j node.0 node.1 child))
        | inr object ↦
            body_at_object e i g x at body (made_there h.numbering k.numbering u v g j pair.leaf e f k.entity_once pair.first pair.second trees object.initialises)
      ]

  twin_once : (i g j : ℕ) → Twins h.numbering k.numbering u v i j → Twins h.numbering k.numbering u v g j → i ≡ g
  twin_once i g j (bodies {e = e} {f = f} {x = x} {y = y} pair at there body body_there t) (bodies {e = d} {f = b} {x = z} {y = w} pair_too at_too there_too body_too body_there_too t_too) =
      let only : OnlyBody (trees_of v) f j = (body_of f j y there body_there).1 in
      let f_is : b ≡ f = only b w there_too body_there_too in
      let e_is : e ≡ d = same_first e d f pair (subst (ArePaired h.numbering k.numbering d) f_is pair_too) in
      let x_is : x ≡ z = same_Some x z (sym at ∙ (ap (slice_get u.entities.items) e_is ∙ at_too)) in
      same_Some i g (sym body ∙ (ap (λ (entity : Entity). entity.body) x_is ∙ body_too))
  twin_once i g j (bodies {e = e} {f = f} {x = x} {y = y} pair at there body body_there t) (children {q = q} n above here child trees) =
      body_and_child e f i j q g x y pair at there body body_there (n, child) trees
  twin_once i g j (children {q = q} n above here child trees) (bodies {e = e} {f = f} {x = x} {y = y} pair at there body body_there t) =
      sym (body_and_child e f g j q i x y pair at there body body_there (n, child) trees)
  twin_once i g j (children {p = p} {q = q} n above here child trees) (children {p = r} {q = w} l above_too here_too child_too trees_too) =
      let same = k.valid.trees.child_once q w n l j child child_too in
      let p_is : p ≡ r = twin_once p r q above (subst (λ (x : ℕ). Twins h.numbering k.numbering u v r x) (sym same.0) above_too) in
      same_Some i g (sym here ∙ (ap (λ (x : ℕ). child_at (trees_of u) x n) p_is ∙ (ap (child_at (trees_of u) r) same.1 ∙ here_too)))

-- the part at one place of nodes that stand for one tree
record PartAt (one other : Numbering) (u v : Unit) (js : List ℕ) (k i : ℕ) : Type 0 where
  number : ℕ
  at : slice_get js k ≡ Some number
  trees : AreTrees one other u v i number

module _ (one other : Numbering) (u v : Unit) where
  part_at : (is js : List ℕ) (under : Cores) (k i : ℕ) → AllStandBy one u is under → AllStandBy other v js under → slice_get is k ≡ Some i → PartAt one other u v js k i
  part_at is js NoCores k i a b at =
      let none : slice_get [] k ≡ Some i = subst (λ (l : List ℕ). slice_get l k ≡ Some i) a at in absurd (cc)
  part_at is js (MoreCores c rest) zero i a b at =
      let here : slice_get (a.0 ∷ a.1) zero ≡ Some i = subst (λ (l : List ℕ). slice_get l zero ≡ Some i) a.2 at in
      let same : a.0 ≡ i = same_Some a.0 i here in
      let first : slice_get (b.0 ∷ b.1) zero ≡ Some b.0 = refl in
      record {
        number = b.0;
        at = subst (λ (l : List ℕ). slice_get l zero ≡ Some b.0) (sym b.2) first;
        trees = record { tree = c; first = subst (λ (n : ℕ). StandsBy one u n c) same a.3; second = b.3 };
      }
  part_at is js (MoreCores c rest) (suc k) i a b at =
      let there : slice_get (a.0 ∷ a.1) (suc k) ≡ Some i = subst (λ (l : List ℕ). slice_get l (suc k) ≡ Some i) a.2 at in
      let rest_at : PartAt one other u v b.1 k i = part_at a.1 b.1 rest k i a.4 b.4 there in
      let behind : slice_get (b.0 ∷ b.1) (suc k) ≡ Some rest_at.number = rest_at.at in
      record {
        number = rest_at.number;
        at = subst (λ (l : List ℕ). slice_get l (suc k) ≡ Some rest_at.number) (sym b.2) behind;
        trees = rest_at.trees;
      }

  twin_trees : (i j : ℕ) → Twins one other u v i j → AreTrees one other u v i j
  twin_trees i j (bodies pair x y a b t) = t
  twin_trees i j (children n t a b trees) = trees

  stands_within : (j : ℕ) (tree : Core) → StandsBy other v j tree → j < length v.nodes.items
  stands_within j (Of kind place type under) b = slice_get_within v.nodes.items j b.0 b.1

  child_twin : (p q i : ℕ) (tree : Core) → Twins one other u v p q → StandsBy one u p tree → StandsBy other v q tree → IsChild (trees_of u) p i → (j : ℕ) × Twins one other u v i j
  child_twin p q i (Of kind place type under) t a b (k, e) =
      let at : slice_get a.0.children k ≡ Some i = sym (ap (λ (o : Option Node). child_in o k) a.1) ∙ e in
      let part : PartAt one other u v b.0.children k i = part_at a.0.children b.0.children under k i a.5 b.5 at in
      let there : child_at (trees_of v) q k ≡ Some part.number = ap (λ (o : Option Node). child_in o k) b.1 ∙ part.at in
      (part.number, children k t e there part.trees)

module _ (s : Source) (name : List ℕ) (u v : Unit) (h : Right s name u) (k : Right s name v) where
  body_twin : (e f i : ℕ) (x y : Entity) (b : Option ℕ) → ArePaired h.numbering k.numbering e f → entity_at (trees_of u) e ≡ Some x → entity_at (trees_of v) f ≡ Some y → x.body ≡ Some i → y.body ≡ b
      → SameBodies h.numbering k.numbering u v (Some i) b → (j : ℕ) × Twins h.numbering k.numbering u v i j
  body_twin e f i x y None pair at there body is same = absurd same
  body_twin e f i x y (Some j) pair at there body is same = (j, bodies pair at there body is same)

  twin_within : (fuel i : ℕ) → i < length u.nodes.items → length u.nodes.items ≤ i + fuel → (j : ℕ) × Twins h.numbering k.numbering u v i j
  twin_within zero i lt le = absurd (omega arith)
  twin_within (suc fuel) i lt le =
      elim (h.no_other_node i lt) [
        | inl body ↦
            let is : HasLike h.numbering k.numbering u v body.0 body.1 = entity_like s name u v h k body.0 body.1 body.2 in
            body_twin body.0 is.number i body.1 is.entity is.entity.body is.paired body.2 is.stands body.3 refl
            (subst (λ (b : Option ℕ). SameBodies h.numbering k.numbering u v b is.entity.body) body.3 is.same.body)
        | inr child ↦
            let more : i < child.0 = child_before (trees_of u) h.valid.trees.in_range child.0 i child.1 in
            let within : child.0 < length u.nodes.items = parent_within (trees_of u) child.0 i child.1 in
            let above : (j : ℕ) × Twins h.numbering k.numbering u v child.0 j = twin_within fuel child.0 within (omega arith) in
            let trees : AreTrees h.numbering k.numbering u v child.0 above.0 = twin_trees h.numbering k.numbering u v child.0 above.0 above.1 in
            child_twin h.numbering k.numbering u v child.0 above.0 i trees.tree above.1 trees.first trees.second child.1
      ]

  twin : (i : ℕ) → i < length u.nodes.items → (j : ℕ) × (j < length v.nodes.items) × Twins h.numbering k.numbering u v i j
  twin i lt =
      let given : (j : ℕ) × Twins h.numbering k.numbering u v i j = twin_within (length u.nodes.items) i lt (omega arith) in
      let trees : AreTrees h.numbering k.numbering u v i given.0 = twin_trees h.numbering k.numbering u v i given.0 given.1 in
      (given.0, stands_within h.numbering k.numbering u v given.0 trees.tree trees.second, given.1)

  paired : (e : ℕ) → e < length u.entities.items → (f : ℕ) × (f < length v.entities.items) × ArePaired h.numbering k.numbering e f
  paired e lt =
      let given = h.no_other_entity e lt in
      let mine = h.each_declared given.0 given.1 given.2 in
      let number : mine.0 ≡ e = same_Some mine.0 e (sym mine.2 ∙ given.3) in
      let at : entity_at (trees_of u) e ≡ Some mine.1 = ap (slice_get u.entities.items) (sym number) ∙ mine.3 in
      let is : HasLike h.numbering k.numbering u v e mine.1 = entity_like s name u v h k e mine.1 at in
      (is.number, slice_get_within v.entities.items is.number is.entity is.stands, is.paired)

module _ (s : Source) (name : List ℕ) (u v : Unit) (h : Right s name u) (k : Right s name v) where
  pub few_nodes : length u.nodes.items ≤ length v.nodes.items
  few_nodes =
      no_more (length u.nodes.items) (length v.nodes.items) (Twins h.numbering k.numbering u v)
      (λ j lt. let back = twin s name v u k h j lt in (back.0, turned k.numbering h.numbering v u j back.0 back.2))
      (twin_once s name u v h k) (twin s name u v h k)

  pub few_entities : length u.entities.items ≤ length v.entities.items
  few_entities =
      no_more (length u.entities.items) (length v.entities.items) (ArePaired h.numbering k.numbering)
      (λ j lt. let back = paired s name v u k h j lt in (back.0, turned_pair k.numbering h.numbering j back.0 back.2))
      (same_first s name u v h k) (paired s name u v h k)
