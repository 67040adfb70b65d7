-- From a body down to the statements in it.
use Rattle.std.proofs.Common.{◌≡◌, ℕ, suc, zero, Bool, true, false, ◌&&◌, not, List, [], ◌∷◌, slice_get, Option, Some, refl, sym, ap, ◌∙◌, subst, ◌⊎◌, inl, inr}
use Rattle.c_types.specs.Table.{type_of}
use Rattle.core_tree.specs.declared.node.Unit.{Unit}
use Rattle.core_tree.specs.declared.node.Node.{Node}
use Rattle.core_tree.specs.declared.node.NodeKind.{NodeKind}
use Rattle.core_tree.specs.declared.node.NodeKind.TheVariants.{Named, Literal, FunctionName, VarArgs, Block, For, Initialise}
use Rattle.core_tree.specs.Typed.{trees_of, StatementNode}
use Rattle.core_tree.specs.Range.{Under, here, below, IsChild}
use Rattle.core_tree.specs.Valid.{InRows}
use Rattle.core_tree.proofs.Climb.{child_has, parent_node}
use Rattle.c_consts.specs.Core.{Core, Cores, Of, NoCores, MoreCores, core_sort}
use Rattle.core_nodes.specs.passed.c_senses.Right.{Numbering, SameKind, StandsBy, AllStandBy}
use Rattle.core_node_laws.proofs.standing_laws.Kept.{opens, Kept, AllKept}
use Rattle.core_node_laws.proofs.standing_laws.Rows.{acts, acts_in, acts_statement, still_shut, shut}

-- a kind without its numbers of entities
abbrev pub bare : NodeKind → NodeKind
bare (Named e) = Named 0
bare (FunctionName e) = FunctionName 0
bare (Literal e) = Literal 0
bare (VarArgs e) = VarArgs 0
bare (Initialise e paths) = Initialise 0 paths
bare (Block es) = Block []
bare (For es c a) = For [] c a
bare kind = kind

-- a test that doesn't look at them
abbrev pub Blind : (NodeKind → Bool) → Type 0
Blind test = (kind : NodeKind) → test kind ≡ test (bare kind)

named_bare : (n : Numbering) (d : ℕ) (b : NodeKind) → SameKind n (Named d) b → Named 0 ≡ bare b
named_bare n d (Named e) h = refl
named_bare n d b h = ap bare h

function_bare : (n : Numbering) (d : ℕ) (b : NodeKind) → SameKind n (FunctionName d) b → FunctionName 0 ≡ bare b
function_bare n d (FunctionName e) h = refl
function_bare n d b h = ap bare h

literal_bare : (n : Numbering) (d : ℕ) (b : NodeKind) → SameKind n (Literal d) b → Literal 0 ≡ bare b
literal_bare n d (Literal e) h = refl
literal_bare n d b h = ap bare h

list_bare : (n : Numbering) (d : ℕ) (b : NodeKind) → SameKind n (VarArgs d) b → VarArgs 0 ≡ bare b
list_bare n d (VarArgs e) h = refl
list_bare n d b h = ap bare h

same_bare : (n : Numbering) (a b : NodeKind) → SameKind n a b → bare a ≡ bare b
same_bare n (Named d) b h = named_bare n d b h
same_bare n (FunctionName d) b h = function_bare n d b h
same_bare n (Literal d) b h = literal_bare n d b h
same_bare n (VarArgs d) b h = list_bare n d b h
same_bare n (Initialise d paths) b h = by b h
  where
    by : (b : NodeKind) → SameKind n (Initialise d paths) b → Initialise 0 paths ≡ bare b
    by (Initialise e others) h = ap (λ p. Initialise 0 p) h.1
    by b h = ap bare h
same_bare n (Block ds) b h = by b h
  where
    by : (b : NodeKind) → SameKind n (Block ds) b → Block [] ≡ bare b
    by (Block es) h = refl
    by b h = ap bare h
same_bare n (For ds c a) b h = by b h
  where
    by : (b : NodeKind) → SameKind n (For ds c a) b → For [] c a ≡ bare b
    by (For es d e) h = ap (λ x. For [] x a) h.1 ∙ ap (λ x. For [] d x) h.2
    by b h = ap bare h
same_bare n a b h = ap bare h

pub same_test : (test : NodeKind → Bool) → Blind test → (n : Numbering) (a b : NodeKind) → SameKind n a b → test a ≡ test b
same_test test blind n a b h = blind a ∙ (ap test (same_bare n a b h) ∙ sym (blind b))

blind_opens : Blind opens
blind_opens (Named e) = refl
blind_opens (FunctionName e) = refl
blind_opens (Literal e) = refl
blind_opens (Initialise e paths) = refl
blind_opens (Block es) = refl
blind_opens (For es c a) = refl
blind_opens kind = refl

blind_acts : Blind acts
blind_acts (Named e) = refl
blind_acts (FunctionName e) = refl
blind_acts (Literal e) = refl
blind_acts (Initialise e paths) = refl
blind_acts (Block es) = refl
blind_acts (For es c a) = refl
blind_acts kind = refl

both_true : (a b : Bool) → a ≡ true → b ≡ false → (a && not b) ≡ true
both_true true false ea eb = refl
both_true true true ea eb = cc
both_true false b ea eb = cc

same_node : (a b : Node) → ◌≡◌ {A = Option Node} (Some a) (Some b) → a ≡ b
same_node a b e = cc

module _ (Good : NodeKind → Cores → Type 0) (stops : NodeKind → Bool) (blind : Blind stops) (n : Numbering) (u : Unit) (rows : InRows (trees_of u)) where
  abbrev pub Stopped : ℕ → ℕ → Type 0
  Stopped b m = (top : ℕ) × (node : Node) × (slice_get u.nodes.items top ≡ Some node) × (stops node.kind ≡ true) × Under (trees_of u) b top × Under (trees_of u) top m

  abbrev pub Still : ℕ → Type 0
  Still m = acts_in (slice_get u.nodes.items m) ≡ false

  abbrev pub Held : ℕ → Type 0
  Held m = (c : Core) × StandsBy n u m c × Kept Good stops c

  -- something that stops stands above, or it is no statement, or what is asked holds of it
  abbrev pub State : ℕ → ℕ → Type 0
  State b m = Stopped b m ⊎ (Still m ⊎ Held m)

  abbrev IfHeld : ℕ → Type 0
  IfHeld m = (c : Core) × StandsBy n u m c × (core_sort c ≡ StatementNode → Kept Good stops c)

  child_core : (is : List ℕ) (under : Cores) (k m : ℕ) → AllStandBy n u is under → AllKept Good stops under → slice_get is k ≡ Some m → IfHeld m
  child_core is NoCores k m stand kept e = let none : slice_get [] k ≡ Some m = subst (λ (l : List ℕ). slice_get l k ≡ Some m) stand e in cc
  child_core is (MoreCores c rest) k m (i, more, same, own, others) kept e = by k (subst (λ (l : List ℕ). slice_get l k ≡ Some m) same e) (λ j f. child_core more rest j m others kept.1 f)
    where
      by : (k : ℕ) → slice_get (i ∷ more) k ≡ Some m → ((j : ℕ) → slice_get more j ≡ Some m → IfHeld m) → IfHeld m
      by zero f later = let same : i ≡ m = cc in subst IfHeld same (c, own, kept.0)
      by (suc k) f later = later k f

  settled : (m : ℕ) → IfHeld m → Still m ⊎ Held m
  settled m (Of kind place type under, own, kept) = by (acts_in (slice_get u.nodes.items m)) refl
    where
      by : (b : Bool) → acts_in (slice_get u.nodes.items m) ≡ b → Still m ⊎ Held m
      by false e = inl e
      by true e =
          let node = own.0 in
          let acting : acts kind ≡ true = same_test acts blind_acts n kind node.kind own.2 ∙ (sym (ap acts_in own.1) ∙ e) in
          inr (Of kind place type under, own, kept (acts_statement kind acting))

  module _ (b p m : ℕ) (up : Under (trees_of u) b p) (child : IsChild (trees_of u) p m) where
    shut_still : (node : Node) → slice_get u.nodes.items p ≡ Some node → opens node.kind ≡ false → Still m
    shut_still node at h =
        let has = child_has (trees_of u) p m node at child in
        shut (trees_of u) node.kind (type_of u.types node.ty.0) node.children (rows p node at) h has.0 m has.1

    from_still : Still p → Still m
    from_still h =
        let stands = parent_node (trees_of u) p m child in
        let node = stands.0 in
        shut_still node stands.1 (still_shut node.kind (sym (ap acts_in stands.1) ∙ h))

    from_held : Held p → State b m
    from_held (Of kind place type under, (node, at, same, place_is, type_is, under_are), kept) = by (opens node.kind) (stops node.kind) refl refl
      where
        by : (o t : Bool) → opens node.kind ≡ o → stops node.kind ≡ t → State b m
        by false t eo et = inr (inl (shut_still node at eo))
        by true true eo et = inl (p, node, at, et, up, below here child)
        by true false eo et =
            let enter = both_true (opens kind) (stops kind) (same_test opens blind_opens n kind node.kind same ∙ eo) (same_test stops blind n kind node.kind same ∙ et) in
            let has = child_has (trees_of u) p m node at child in
            inr (settled m (child_core node.children under has.0 m under_are (kept.1 enter) has.1))

    step : State b p → State b m
    step (inl (top, node, at, stop, above, under)) = inl (top, node, at, stop, above, below under child)
    step (inr (inl h)) = inr (inl (from_still h))
    step (inr (inr h)) = from_held h

  pub walk : (b m : ℕ) → Under (trees_of u) b m → State b b → State b m
  walk b m here start = start
  walk b m (below {parent = p} up child) start = step b p m up child (walk b p up start)

  -- nothing under what doesn't act acts
  pub still_below : (b m : ℕ) → Under (trees_of u) b m → Still b → Still m
  still_below b m here start = start
  still_below b m (below {parent = p} up child) start = from_still b p m up child (still_below b p up start)
