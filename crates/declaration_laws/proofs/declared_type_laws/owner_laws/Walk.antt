-- From a tree down to each node that stands under it.
use Rattle.std.proofs.Common.{◌≡◌, ℕ, zero, suc, List, [], ◌∷◌, Some, slice_get, refl, ◌∙◌, subst}
use Rattle.core_tree.specs.declared.node.Unit.{Unit}
use Rattle.core_tree.specs.declared.node.NodeKind.{NodeKind}
use Rattle.core_tree.specs.declared.node.NodeKind.TheVariants.{Named, FunctionName, Literal, VarArgs, Initialise, Block, For}
use Rattle.core_tree.specs.Typed.{trees_of}
use Rattle.core_tree.specs.Range.{Under, here, below, IsChild}
use Rattle.core_tree.proofs.Climb.{child_has}
use Rattle.c_consts.specs.Core.{Core, Cores, Of, NoCores, MoreCores}
use Rattle.c_senses.specs.Right.{Numbering, SameKind, StandsBy, AllStandBy}
use Rattle.core_node_laws.specs.near_nodes.Holding.{Holds, AllHold}

pub under_further : (u : Unit) (a b n : ℕ) → Under (trees_of u) a b → Under (trees_of u) b n → Under (trees_of u) a n
under_further u a b n up here = up
under_further u a b n up (below {parent = p} down child) = below (under_further u a b p up down) child

module _ (asks : Core → Type 0) (m : Numbering) (u : Unit) where
  abbrev pub Stood : ℕ → Type 0
  Stood n = (c : Core) × StandsBy m u n c × Holds asks c

  child_core : (is : List ℕ) (under : Cores) (k x : ℕ) → AllStandBy m u is under → AllHold asks under → slice_get is k ≡ Some x → Stood x
  child_core is NoCores k x stand hold e = let none : slice_get [] k ≡ Some x = subst (λ (l : List ℕ). slice_get l k ≡ Some x) stand e in cc
  child_core is (MoreCores c rest) k x (i, more, same, own, others) hold e = by k (subst (λ (l : List ℕ). slice_get l k ≡ Some x) same e) (λ j f. child_core more rest j x others hold.1 f)
    where
      by : (k : ℕ) → slice_get (i ∷ more) k ≡ Some x → ((j : ℕ) → slice_get more j ≡ Some x → Stood x) → Stood x
      by zero f later = let one : i ≡ x = cc in subst Stood one (c, own, hold.0)
      by (suc k) f later = later k f

  one_down : (p n : ℕ) → IsChild (trees_of u) p n → Stood p → Stood n
  one_down p n child (Of kind place type under, (node, at, same, place_is, type_is, under_are), hold) =
      let has = child_has (trees_of u) p n node at child in
      child_core node.children under has.0 n under_are hold.1 has.1

  pub stood : (b n : ℕ) → Under (trees_of u) b n → Stood b → Stood n
  stood b n here start = start
  stood b n (below {parent = p} down child) start = one_down p n child (stood b p down start)

-- ---- kinds that name entities

pub named_is : (m : Numbering) (kind other : NodeKind) (e : ℕ) → SameKind m kind other → other ≡ Named e → (d : ℕ) × (kind ≡ Named d) × (m d ≡ Some e)
named_is m (Named d) other e h is = (d, refl, subst (λ (k : NodeKind). SameKind m (Named d) k) is h)
named_is m (FunctionName d) other e h is = absurd (let f : SameKind m (FunctionName d) (Named e) = subst (λ (k : NodeKind). SameKind m (FunctionName d) k) is h in cc)
named_is m (Literal d) other e h is = absurd (let f : SameKind m (Literal d) (Named e) = subst (λ (k : NodeKind). SameKind m (Literal d) k) is h in cc)
named_is m (Initialise d paths) other e h is = absurd (let f : SameKind m (Initialise d paths) (Named e) = subst (λ (k : NodeKind). SameKind m (Initialise d paths) k) is h in cc)
named_is m (Block ds) other e h is = absurd (let f : SameKind m (Block ds) (Named e) = subst (λ (k : NodeKind). SameKind m (Block ds) k) is h in cc)
named_is m (For ds c a) other e h is = absurd (let f : SameKind m (For ds c a) (Named e) = subst (λ (k : NodeKind). SameKind m (For ds c a) k) is h in cc)
named_is m (VarArgs d) other e h is = absurd (let f : SameKind m (VarArgs d) (Named e) = subst (λ (k : NodeKind). SameKind m (VarArgs d) k) is h in cc)
named_is m kind other e h is = absurd (let f : kind ≡ Named e = h ∙ is in cc)

pub literal_is : (m : Numbering) (kind other : NodeKind) (e : ℕ) → SameKind m kind other → other ≡ Literal e → (d : ℕ) × (kind ≡ Literal d) × (m d ≡ Some e)
literal_is m (Literal d) other e h is = (d, refl, subst (λ (k : NodeKind). SameKind m (Literal d) k) is h)
literal_is m (FunctionName d) other e h is = absurd (let f : SameKind m (FunctionName d) (Literal e) = subst (λ (k : NodeKind). SameKind m (FunctionName d) k) is h in cc)
literal_is m (Named d) other e h is = absurd (let f : SameKind m (Named d) (Literal e) = subst (λ (k : NodeKind). SameKind m (Named d) k) is h in cc)
literal_is m (Initialise d paths) other e h is = absurd (let f : SameKind m (Initialise d paths) (Literal e) = subst (λ (k : NodeKind). SameKind m (Initialise d paths) k) is h in cc)
literal_is m (Block ds) other e h is = absurd (let f : SameKind m (Block ds) (Literal e) = subst (λ (k : NodeKind). SameKind m (Block ds) k) is h in cc)
literal_is m (For ds c a) other e h is = absurd (let f : SameKind m (For ds c a) (Literal e) = subst (λ (k : NodeKind). SameKind m (For ds c a) k) is h in cc)
literal_is m (VarArgs d) other e h is = absurd (let f : SameKind m (VarArgs d) (Literal e) = subst (λ (k : NodeKind). SameKind m (VarArgs d) k) is h in cc)
literal_is m kind other e h is = absurd (let f : kind ≡ Literal e = h ∙ is in cc)

pub list_is : (m : Numbering) (kind other : NodeKind) (e : ℕ) → SameKind m kind other → other ≡ VarArgs e → (d : ℕ) × (kind ≡ VarArgs d) × (m d ≡ Some e)
list_is m (VarArgs d) other e h is = (d, refl, subst (λ (k : NodeKind). SameKind m (VarArgs d) k) is h)
list_is m (FunctionName d) other e h is = absurd (let f : SameKind m (FunctionName d) (VarArgs e) = subst (λ (k : NodeKind). SameKind m (FunctionName d) k) is h in cc)
list_is m (Named d) other e h is = absurd (let f : SameKind m (Named d) (VarArgs e) = subst (λ (k : NodeKind). SameKind m (Named d) k) is h in cc)
list_is m (Literal d) other e h is = absurd (let f : SameKind m (Literal d) (VarArgs e) = subst (λ (k : NodeKind). SameKind m (Literal d) k) is h in cc)
list_is m (Initialise d paths) other e h is = absurd (let f : SameKind m (Initialise d paths) (VarArgs e) = subst (λ (k : NodeKind). SameKind m (Initialise d paths) k) is h in cc)
list_is m (Block ds) other e h is = absurd (let f : SameKind m (Block ds) (VarArgs e) = subst (λ (k : NodeKind). SameKind m (Block ds) k) is h in cc)
list_is m (For ds c a) other e h is = absurd (let f : SameKind m (For ds c a) (VarArgs e) = subst (λ (k : NodeKind). SameKind m (For ds c a) k) is h in cc)
list_is m kind other e h is = absurd (let f : kind ≡ VarArgs e = h ∙ is in cc)
