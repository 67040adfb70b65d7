-- The trees that stand in the nodes that are kept.
use Rattle.std.proofs.Common.{arith, ◌≡◌, ◌∙◌, ℕ, zero, suc, ◌+◌, ◌<◌, ◌≤◌, inl, inr, Bool, true, false, List, [], ◌∷◌, length, get_or, map, slice_get, Option, Some, None, refl, sym, ap, subst, IsTrue, All}
use Rattle.std.specs.Prelude.{◌&&◌, unwrap_or, is_some}
use Rattle.std.proofs.lemmas.Bool.{false≢true}
use Rattle.std.proofs.lemmas.Option.{slice_get_within, get_or_from_slice_get}
use Rattle.c_types.specs.declared.term.TypeId.{TypeId}
use Rattle.c_types.specs.Table.{type_of}
use Rattle.core_tree.specs.declared.node.Node.{Node}
use Rattle.core_tree.specs.declared.node.Unit.{Unit}
use Rattle.core_tree.specs.declared.node.NodeKind.{NodeKind}
use Rattle.core_tree.specs.declared.node.NodeKind.TheVariants.{Named, Literal, FunctionName, VarArgs, Block, For, Initialise}
use Rattle.core_tree.specs.Range.{child_in}
use Rattle.c_consts.specs.Core.{Core, Cores, core_in}
use Rattle.core_nodes.specs.Standing.{core_at, cores_at, IsReady}
use Rattle.core_nodes.proofs.Reading.{core_is, under_is}
use Rattle.core_nodes.specs.kept_nodes.Marked.{marked, ChildIn}
use Rattle.c_senses.specs.Right.{Numbering, SameEntities, SameKind, StandsBy, AllStandBy, IsPart, Within, Itself, Below}
use Rattle.c_senses.specs.Tree.{Source}
use Rattle.c_senses.specs.Sense.{Sense}
use Rattle.unit_finish.specs.unit_parts.Marked.{AreMarked}
use Rattle.unit_finish.specs.unit_parts.Numbered.{numbered_from, new_number, moved, kept_of}
use Rattle.unit_finish.specs.unit_parts.Renamed.{entity_number, renamed, renamed_node, all_known, is_known}
use Rattle.core_nodes.proofs.kept_nodes.Copying.{child_before}
use Rattle.unit_finish.specs.planted_nodes.Copied.{no_node, node_of}
use Rattle.unit_finish.specs.planted_nodes.Planted.{IsCopy}
use Rattle.unit_finish.proofs.Lists.{kept_at, get_map}

pub number_same : (o : Option ℕ) → is_some o ≡ true → o ≡ Some (unwrap_or o 0)
number_same None h = absurd (false≢true h)
number_same (Some e) h = refl

and_both : (a b : Bool) → (a && b) ≡ true → (a ≡ true) × (b ≡ true)
and_both true b h = (refl, h)
and_both false b h = absurd (false≢true h)

same_entities : (n : Numbering) (ds : List ℕ) → all_known n ds ≡ true → SameEntities n ds (map (entity_number n) ds)
same_entities n [] h = tt
same_entities n (d ∷ ds) h =
    let both = and_both (is_some (n d)) (all_known n ds) h in (number_same (n d) both.0, same_entities n ds both.1)

-- a kind whose entities are known is the same with their numbers
pub same_kind : (n : Numbering) (kind : NodeKind) → is_known n kind ≡ true → SameKind n kind (renamed n kind)
same_kind n (Named d) h = number_same (n d) h
same_kind n (FunctionName d) h = number_same (n d) h
same_kind n (VarArgs d) h = number_same (n d) h
same_kind n (Literal d) h = number_same (n d) h
same_kind n (Initialise d paths) h = (number_same (n d) h, refl)
same_kind n (Block ds) h = same_entities n ds h
same_kind n (For ds c a) h = (same_entities n ds h, refl, refl)
same_kind n kind h = refl

pub at_within : {A : Type 0} (xs : List A) (i : ℕ) → i < length xs → (x : A) × (slice_get xs i ≡ Some x)
at_within [] i lt = absurd (omega arith)
at_within (x ∷ xs) zero lt = (x, refl)
at_within (x ∷ xs) (suc i) lt = at_within xs i (omega arith)

pub marked_within : (marks : List Bool) (i : ℕ) → marked marks i → i < length marks
marked_within [] i on = absurd (false≢true on)
marked_within (m ∷ marks) zero on = omega arith
marked_within (m ∷ marks) (suc i) on = let lt = marked_within marks i on in omega (arith, lt)

-- the parts of a node's tree
core_in_at : (u : Unit) (cs : List ℕ) (k : ℕ) (part : Core) → core_in (cores_at u cs) k ≡ Some part → (k < length cs) × (core_at u (get_or cs k 0) ≡ part)
core_in_at u [] k part e = cc
core_in_at u (c ∷ cs) zero part e = let same : core_at u c ≡ part = cc in (omega arith, same)
core_in_at u (c ∷ cs) (suc k) part e = let r = core_in_at u cs k part e in (omega (arith, r.0), r.1)

at_core_in : (u : Unit) (cs : List ℕ) (k c : ℕ) → slice_get cs k ≡ Some c → core_in (cores_at u cs) k ≡ Some (core_at u c)
at_core_in u [] k c at = cc
at_core_in u (d ∷ cs) zero c at = let same : d ≡ c = cc in ap (λ (i : ℕ). Some (core_at u i)) same
at_core_in u (d ∷ cs) (suc k) c at = at_core_in u cs k c at

within_part : (s : Source) (senses : List Sense) (part c top : Core) → Within s senses c top → IsPart s senses part c → Within s senses part top
within_part s senses part c top Itself h = Below h Itself
within_part s senses part c top (Below g w) h = Below g (within_part s senses part c _ w h)

module _ (s : Source) (senses : List Sense) (old : Unit) (marks : List Bool) (tops : List ℕ) (ready : IsReady old) (are : AreMarked old.nodes.items tops marks) where
  abbrev numbers : List (Option ℕ)
  numbers = numbered_from 0 marks

  pub marked_node : (j : ℕ) → marked marks j → (x : Node) × (slice_get old.nodes.items j ≡ Some x)
  marked_node j on = let lt = marked_within marks j on in at_within old.nodes.items j (omega (arith, are.long, lt))

  part_there : (j : ℕ) (part : Core) → marked marks j → IsPart s senses part (core_at old j) → (c : ℕ) × marked marks c × (core_at old c ≡ part)
  part_there j part on h =
      let there = marked_node j on in
      let x : Node = there.0 in
      let r = core_in_at old x.children h.0 part (sym (ap (λ (cs : Cores). core_in cs h.0) (under_is old ready j x there.1)) ∙ h.1) in
      (get_or x.children h.0 0, are.closed j x there.1 on h.0 r.0, r.1)

  -- a tree inside the tree of a marked node is that of a marked node
  pub within_there : (c d : Core) → Within s senses c d → (j : ℕ) → marked marks j → core_at old j ≡ d → (m : ℕ) × marked marks m × (core_at old m ≡ c)
  within_there c d Itself j on e = (j, on, e)
  within_there c d (Below {part} h w) j on e =
      let r = part_there j part on (subst (λ (t : Core). IsPart s senses part t) (sym e) h) in within_there c part w r.0 r.1 r.2

  is_part : (p j : ℕ) → marked marks p → ChildIn old.nodes.items p j → IsPart s senses (core_at old j) (core_at old p)
  is_part p j on h =
      let there = marked_node p on in
      let x : Node = there.0 in
      let at : slice_get x.children h.0 ≡ Some j = sym (ap (λ (o : Option Node). child_in o h.0) there.1) ∙ h.1 in
      (h.0, ap (λ (cs : Cores). core_in cs h.0) (under_is old ready p x there.1) ∙ at_core_in old x.children h.0 j at)

  -- the tree of a marked node stands inside that of a top
  top_within : (k j : ℕ) → length old.nodes.items ≤ j + k → marked marks j → (q : ℕ) × (q < length tops) × Within s senses (core_at old j) (core_at old (get_or tops q 0))
  top_within zero j le on = let lt = marked_within marks j on in absurd (omega (arith, lt, are.long, le))
  top_within (suc k) j le on =
      elim (are.reached j on) [
        | inl q ↦ (q.0, q.1, subst (λ (i : ℕ). Within s senses (core_at old j) (core_at old i)) (sym q.2) Itself)
        | inr p ↦
            let above = child_before old.types old.nodes.items ready p.0 j p.2 in
            let r = top_within k p.0 (omega (arith, above, le)) p.1 in
            (r.0, r.1, within_part s senses (core_at old j) (core_at old p.0) (core_at old (get_or tops r.0 0)) r.2 (is_part p.0 j p.1 p.2))
      ]

  pub within_top : (j : ℕ) → marked marks j → (q : ℕ) × (q < length tops) × Within s senses (core_at old j) (core_at old (get_or tops q 0))
  within_top j on = top_within (length old.nodes.items) j (omega arith) on

  pub kept_there : (j : ℕ) (x : Node) → marked marks j → slice_get old.nodes.items j ≡ Some x → slice_get (kept_of old.nodes.items numbers) (new_number numbers j) ≡ Some (moved numbers x)
  kept_there j x on at =
      let r = kept_at (moved numbers) 0 marks old.nodes.items j x on at in
      let same : new_number numbers j ≡ r.0 = ap (λ (o : Option ℕ). unwrap_or o 0) r.1 ∙ omega arith in
      ap (λ (i : ℕ). slice_get (kept_of old.nodes.items numbers) i) same ∙ r.2

  -- the copies of the nodes that are kept
  module _ (kept : List Node) (kept_are : kept ≡ kept_of old.nodes.items numbers) (ps : List Node) (origin : ℕ → ℕ) (copies : (i : ℕ) (y : Node) → slice_get ps i ≡ Some y → IsCopy kept origin i y) where
    -- a copy of a marked node
    pub record IsCopyOf (i : ℕ) (x y : Node) : Type 0 where
      pub kind : y.kind ≡ x.kind
      pub place : y.place ≡ x.place
      pub type : y.ty ≡ x.ty
      pub children : map origin y.children ≡ map (new_number numbers) x.children
      pub first : All (λ c. c < i) y.children

    pub copy_of : (i j : ℕ) (x y : Node) → marked marks j → slice_get old.nodes.items j ≡ Some x → slice_get ps i ≡ Some y → origin i ≡ new_number numbers j → IsCopyOf i x y
    copy_of i j x y on at there from =
        let c = copies i y there in
        let stays : slice_get kept (origin i) ≡ Some (moved numbers x) = ap (λ (ns : List Node). slice_get ns (origin i)) kept_are ∙ (ap (slice_get (kept_of old.nodes.items numbers)) from ∙ kept_there j x on at) in
        let node : node_of kept (origin i) ≡ moved numbers x = get_or_from_slice_get kept (origin i) (moved numbers x) no_node stays in
        let same : y ≡ record (moved numbers x) { children = y.children } = c.same ∙ ap (λ (z : Node). record z { children = y.children }) node in
        record {
          kind = ap (λ (z : Node). z.kind) same;
          place = ap (λ (z : Node). z.place) same;
          type = ap (λ (z : Node). z.ty) same;
          children = c.children ∙ ap (λ (z : Node). z.children) node;
          first = c.first;
        }

    -- the same with numbers of entities
    module _ (new : Unit) (n : Numbering) (types : new.types ≡ old.types) (nodes_are : new.nodes.items ≡ map (renamed_node n) ps) (known : All (λ node. IsTrue (is_known n node.kind)) ps) where
      pub node_there : (i : ℕ) (y : Node) → slice_get ps i ≡ Some y → slice_get new.nodes.items i ≡ Some (renamed_node n y)
      node_there i y at = ap (λ (ns : List Node). slice_get ns i) nodes_are ∙ get_map (renamed_node n) ps i y at

      known_there : (i : ℕ) (y : Node) → slice_get ps i ≡ Some y → is_known n y.kind ≡ true
      known_there i y at = subst (λ (z : Node). is_known n z.kind ≡ true) (get_or_from_slice_get ps i y y at) (known i y (slice_get_within ps i y at))

      all_stand : (ys cs : List ℕ) → map origin ys ≡ map (new_number numbers) cs → ((q : ℕ) → q < length ys → get_or ys q 0 < length ps)
          → ((q i : ℕ) → q < length cs → i < length ps → origin i ≡ new_number numbers (get_or cs q 0) → StandsBy n new i (core_at old (get_or cs q 0))) → AllStandBy n new ys (cores_at old cs)
      all_stand [] [] e within h = refl
      all_stand [] (c ∷ cs) e within h = cc
      all_stand (y ∷ ys) [] e within h = cc
      all_stand (y ∷ ys) (c ∷ cs) e within h =
          let first : origin y ≡ new_number numbers c = cc in
          let rest : map origin ys ≡ map (new_number numbers) cs = cc in
          (y, ys, refl, h 0 y (omega arith) (within 0 (omega arith)) first, all_stand ys cs rest (λ q lt. within (suc q) (omega (arith, lt))) (λ q i lt. h (suc q) i (omega (arith, lt))))

      stand_below : (k i j : ℕ) → j < k → marked marks j → i < length ps → origin i ≡ new_number numbers j → StandsBy n new i (core_at old j)
      stand_below zero i j lt on within from = absurd (omega (arith, lt))
      stand_below (suc k) i j lt on within from =
          let there = marked_node j on in
          let x : Node = there.0 in
          let copy = at_within ps i within in
          let y : Node = copy.0 in
          let c = copy_of i j x y on there.1 copy.1 from in
          let below : (q : ℕ) → q < length y.children → get_or y.children q 0 < length ps = λ q few. (let less : get_or y.children q 0 < i = c.first q 0 few in omega (arith, less, within)) in
          let less : (q : ℕ) → q < length x.children → get_or x.children q 0 < k = λ q few. (let first : get_or x.children q 0 < j = ready.children j x there.1 q 0 few in omega (arith, first, lt)) in
          let children = all_stand y.children x.children c.children below (λ q m few inside is. stand_below k m (get_or x.children q 0) (less q few) (are.closed j x there.1 on q few) inside is) in
          let kind : SameKind n x.kind (renamed n y.kind) = subst (λ (z : NodeKind). SameKind n z (renamed n y.kind)) c.kind (same_kind n y.kind (known_there i y copy.1)) in
          let type : type_of new.types y.ty.0 ≡ type_of old.types x.ty.0 = ap (λ t. type_of t y.ty.0) types ∙ ap (λ (t : TypeId). type_of old.types t.0) c.type in
          subst (StandsBy n new i) (sym (core_is old ready j x there.1)) (renamed_node n y, node_there i y copy.1, kind, c.place, type, children)

      -- a marked node's tree stands at each of its copies
      pub stands : (i j : ℕ) → marked marks j → i < length ps → origin i ≡ new_number numbers j → StandsBy n new i (core_at old j)
      stands i j on within from = stand_below (suc j) i j (omega arith) on within from
