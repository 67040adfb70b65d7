-- Each node stands by a tree in the body of a declared name.
use Rattle.std.proofs.Common.{◌≡◌, ◌<◌, ℕ, zero, suc, Bool, true, false, List, [], ◌∷◌, Option, Some, None, length, slice_get, refl, sym, ap, ◌∙◌, subst, ◌⊎◌, inl, inr}
use Rattle.std.specs.Prelude.{is_some, if◌then◌else◌}
use Rattle.std.proofs.lemmas.Option.{slice_get_within}
use Rattle.core_tree.specs.declared.node.Unit.{Unit}
use Rattle.core_tree.specs.declared.node.Node.{Node}
use Rattle.core_tree.specs.declared.node.Entity.{Entity}
use Rattle.core_tree.specs.declared.node.NodeKind.{NodeKind}
use Rattle.core_tree.specs.declared.node.NodeKind.TheVariants.{Literal}
use Rattle.core_tree.specs.declared.node.Storage.{Storage}
use Rattle.core_tree.specs.declared.node.Storage.TheVariants.{Static, Automatic}
use Rattle.core_tree.specs.Typed.{trees_of}
use Rattle.core_tree.specs.Range.{Under, here, below, IsChild, entity_at}
use Rattle.core_tree.specs.Valid.{IsLasting}
use Rattle.core_tree.proofs.Climb.{child_has}
use Rattle.c_consts.specs.Core.{Core, Cores, Of, NoCores, MoreCores, cores_under, core_in}
use Rattle.c_senses.specs.Tree.{Source}
use Rattle.c_senses.specs.Sense.{Sense, sense_in}
use Rattle.c_senses.specs.Entities.{function_around}
use Rattle.c_senses.specs.Right.{Numbering, SameKind, StandsBy, AllStandBy, SameBody, IsEntityOf, Declared as Declares, IsPart, Within, Itself, Below, declared_name, literal_as, IsDeclaredAt}
use Rattle.core_node_laws.specs.standing_laws.Standing.{IsGrown, IsMade}
use Rattle.core_node_laws.proofs.standing_laws.Bodies.{above}
use Rattle.core_node_laws.specs.built_unit_laws.lasting_literals.Lasting.{LiteralsLast}

some_same : {A : Type 0} → {x y : A} → ◌≡◌ {A = Option A} (Some x) (Some y) → x ≡ y
some_same e = cc

-- a literal's kind
literal_of : (n : Numbering) (e : ℕ) (kind : NodeKind) → SameKind n kind (Literal e) → (i : ℕ) × (kind ≡ Literal i) × (n i ≡ Some e)
literal_of n e (Literal d) h = (d, refl, h)
literal_of n e kind h = cc

module _ (s : Source) (senses : List Sense) (numbering : Numbering) (u : Unit) (grown : IsGrown s) (made : IsMade s senses numbering u) where
  -- in the body of a declared name
  abbrev InName : Core → Type 0
  InName c = (d : ℕ) × (what : Declares) × (body : Core) × (declared_name s senses d ≡ Some what) × (what.body ≡ Some body) × Within s senses c body

  abbrev IsPlaced : ℕ → Type 0
  IsPlaced m = (c : Core) × StandsBy numbering u m c × InName c

  further : (part c top : Core) → IsPart s senses part c → Within s senses c top → Within s senses part top
  further part c top is Itself = Below is Itself
  further part c top is (Below first rest) = Below first (further part c _ is rest)

  in_name : (part c : Core) → IsPart s senses part c → InName c → InName part
  in_name part c is (d, what, body, declared, has, within) = (d, what, body, declared, has, further part c body is within)

  child_core : (is : List ℕ) (under : Cores) (k m : ℕ) → AllStandBy numbering u is under → slice_get is k ≡ Some m → (part : Core) × (j : ℕ) × (core_in under j ≡ Some part) × StandsBy numbering u m part
  child_core is NoCores k m stand e = let none : slice_get [] k ≡ Some m = subst (λ (l : List ℕ). slice_get l k ≡ Some m) stand e in cc
  child_core is (MoreCores c rest) k m (i, more, same, own, others) e = by k (subst (λ (l : List ℕ). slice_get l k ≡ Some m) same e) (λ j f. child_core more rest j m others f)
    where
      by : (k : ℕ) → slice_get (i ∷ more) k ≡ Some m → ((j : ℕ) → slice_get more j ≡ Some m → (part : Core) × (j : ℕ) × (core_in rest j ≡ Some part) × StandsBy numbering u m part)
          → (part : Core) × (j : ℕ) × (core_in (MoreCores c rest) j ≡ Some part) × StandsBy numbering u m part
      by zero f later = let one : i ≡ m = cc in (c, 0, refl, subst (λ (x : ℕ). StandsBy numbering u x c) one own)
      by (suc k) f later = let more = later k f in (more.0, suc more.1, more.2, more.3)

  step : (p m : ℕ) → IsChild (trees_of u) p m → IsPlaced p → IsPlaced m
  step p m child (Of kind place type under, (node, at, same, place_is, type_is, under_are), name) =
      let has = child_has (trees_of u) p m node at child in
      let part = child_core node.children under has.0 m under_are has.1 in
      (part.0, part.3, in_name part.0 (Of kind place type under) (part.1, part.2) name)

  walk : (b m : ℕ) → Under (trees_of u) b m → IsPlaced b → IsPlaced m
  walk b m here start = start
  walk b m (below {parent = p} up child) start = step p m child (walk b p up start)

  -- the body of what is declared
  body_placed : (b d : ℕ) (what : Declares) → IsDeclaredAt s senses d what → (o : Option Core) → what.body ≡ o → SameBody numbering u o (Some b) → IsPlaced b
  body_placed b d what declared None e same = absurd same
  body_placed b d what (inl is) (Some c) e same = (c, same, (d, what, c, is, e, Itself))
  body_placed b d what (inr (c, literal, is)) (Some initial) e same =
      let part : core_in (cores_under c) 0 ≡ Some initial = ap (λ (x : Declares). x.body) (sym is) ∙ e in
      (initial, same, in_name initial c (0, part) literal.1)

  own_entity : (e : ℕ) (entity : Entity) → entity_at (trees_of u) e ≡ Some entity → (d : ℕ) × (what : Declares) × IsDeclaredAt s senses d what × IsEntityOf numbering u s.unit what entity
  own_entity e entity at =
      let lt : e < length u.entities.items = slice_get_within u.entities.items e entity at in
      let (d, what, declared, number) = made.no_other_entity e lt in
      let (e2, x2, number2, at2, is) = made.each_declared d what declared in
      let same_number : e2 ≡ e = some_same (sym number2 ∙ number) in
      let same : x2 ≡ entity = some_same (sym at2 ∙ (ap (λ (k : ℕ). slice_get u.entities.items k) same_number ∙ at)) in
      (d, what, declared, subst (λ (x : Entity). IsEntityOf numbering u s.unit what x) same is)

  placed : (n : ℕ) → n < length u.nodes.items → IsPlaced n
  placed n lt =
      let up = above s senses numbering u grown made n lt in
      let (d, what, declared, own) = own_entity up.number up.entity up.stands in
      walk up.top n up.under (body_placed up.top d what declared what.body refl (subst (λ (o : Option ℕ). SameBody numbering u what.body o) up.body own.body))

  lasting_storage : (b : Bool) (x : Storage) → x ≡ (if b then Automatic else Static) → (x ≡ Static) ⊎ (x ≡ Automatic)
  lasting_storage true x e = inr e
  lasting_storage false x e = inl e

  literal_lasts : (n e : ℕ) (node : Node) → slice_get u.nodes.items n ≡ Some node → node.kind ≡ Literal e → IsLasting (entity_at (trees_of u) e)
  literal_lasts n e node at kind = by (placed n (slice_get_within u.nodes.items n node at))
    where
      by : IsPlaced n → IsLasting (entity_at (trees_of u) e)
      by (Of own place type under, (stood, there, same, place_is, type_is, under_are), name) =
          let one : stood ≡ node = some_same (sym there ∙ at) in
          let alike : SameKind numbering own (Literal e) = subst (λ (k : NodeKind). SameKind numbering own k) (ap (λ (x : Node). x.kind) one ∙ kind) same in
          let (i, is, number) = literal_of numbering e own alike in
          let c : Core = Of own place type under in
          let (e2, entity, number2, stands, what) = made.each_declared i (literal_as s senses i c) (inr (c, (is, name), refl)) in
          let same_number : e2 ≡ e = some_same (sym number2 ∙ number) in
          let known : entity_at (trees_of u) e ≡ Some entity = ap (λ (k : ℕ). slice_get u.entities.items k) (sym same_number) ∙ stands in
          subst IsLasting (sym known) (lasting_storage (is_some (function_around s (sense_in senses) i)) entity.storage what.storage)

pub literals_last : LiteralsLast
literals_last s senses numbering u grown made n node at e kind = literal_lasts s senses numbering u grown made n e node at kind
