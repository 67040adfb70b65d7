-- The declarations of units and of their twins, one by one.
use Rattle.std.proofs.Common.{arith, ◌≡◌, ◌∙◌, ◌&&◌, ◌||◌, ℕ, false, not, List, [], ◌∷◌, Option, Some, is_some, AllPairs, refl, sym, ap, subst, inl, inr}
use Rattle.std.specs.List.{slice_get}
use Rattle.std.specs.Option.{option_map, option_map_or}
use Rattle.pta_base.specs.declared.place.Place.{Place}
use Rattle.c_types.specs.Table.{Table}
use Rattle.core_tree.specs.declared.node.Entity.{Entity}
use Rattle.core_tree.specs.declared.node.Storage.{Storage}
use Rattle.core_tree.specs.declared.node.Unit.{Unit}
use Rattle.link_model.specs.declared.item.Item.{Item}
use Rattle.link_model.specs.Units.{item}
use Rattle.link_model.specs.Renamed.{renamed}
use Rattle.link_model.specs.Merged.{Numbering, IsMerged}
use Rattle.link_names.specs.declared.declared.Declared.{Declared}
use Rattle.link_names.specs.Externals.{entity_at, item_of, name_at, has_body, is_defined, is_placed, is_function_type, is_declared_only, type_in, IsDeclaration, Before, AreDeclarations}
use Rattle.unit_link.specs.Linked.{joined}
use Rattle.twin_report_laws.specs.outcome_laws.fault_laws.Twins.{PlacesDiffer, AreAllTwins}
use Rattle.twin_report_laws.proofs.outcome_laws.fault_laws.Images.{function_kept}
use Rattle.twin_report_laws.proofs.outcome_laws.fault_laws.Pairing.{SameDeclared, Pairs}
use Rattle.twin_report_laws.proofs.outcome_laws.fault_laws.Sorting.{SameKey, IsEarlier, In, AreInOrder, in_list, contained, first_before, rest_pairs, paired}
use Rattle.twin_report_laws.proofs.outcome_laws.fault_laws.Twinned.{AreAt, Like, HasUnit, has_unit, at_unit, like, turned_all, turned_twins, external_there}
use Rattle.twin_report_laws.proofs.outcome_laws.fault_laws.Merging.{there, type_there}

some_one : {X : Type 0} → {x y : X} → ◌≡◌ {A = Option X} (Some x) (Some y) → x ≡ y
some_one h = cc

-- a declaration, and the one of its like
pub record Twin (us vs : List Unit) (d e : Declared) : Type 0 where
  pub key : SameKey d e
  pub entity : Entity
  pub like : Like us vs (item_of d) entity
  pub other_is : item_of e ≡ item d.unit like.number

twin_of : (us vs : List Unit) → AreAllTwins us vs → (d : Declared) (h : IsDeclaration us d) → (e : Declared) × IsDeclaration vs e × Twin us vs d e
twin_of us vs all d h =
    let l : Like us vs (item_of d) h.entity = like us vs all (item_of d) h.entity h.entity_is in
    let e : Declared = record { unit = d.unit; line = l.entity.place.line; column = l.entity.place.column; number = l.number } in
    let line : d.line ≡ l.entity.place.line = h.line ∙ ap (λ (p : Place). p.line) l.place in
    let column : d.column ≡ l.entity.place.column = h.column ∙ ap (λ (p : Place). p.column) l.place in (
      e,
      record { entity = l.entity; entity_is = l.there; external = external_there us vs (item_of d) h.entity l h.external; line = refl; column = refl },
      record { key = record { unit = refl; line = line; column = column }; entity = h.entity; like = l; other_is = refl },
    )

-- declarations of a unit in order stand at places in order
earlier : (us vs : List Unit) → AreAllTwins us vs → (c d : Declared) → IsDeclaration us c → IsDeclaration us d → Before c d → IsEarlier c d
earlier us vs all c d h k (inl less) = inl less
earlier us vs all c d h k (inr (same, inl less)) = inr (same, inl less)
earlier us vs all c d h k (inr (same, inr (line, inl less))) = inr (same, inr (line, less))
earlier us vs all c d h k (inr (same, inr (line, inr (column, less)))) =
    let one : HasUnit us (item_of c) h.entity = has_unit us (item_of c) h.entity h.entity_is in
    let two : HasUnit us (item_of d) k.entity = has_unit us (item_of d) k.entity k.entity_is in
    let both : AreAt us vs c.unit = at_unit us vs all c.unit one.unit one.at in
    let units : two.unit ≡ one.unit = some_one (sym two.at ∙ (ap (slice_get us) (sym same) ∙ one.at)) in
    let there : slice_get one.unit.entities.items d.number ≡ Some k.entity = subst (λ (u : Unit). slice_get u.entities.items d.number ≡ Some k.entity) units two.stands in
    let differ : PlacesDiffer one.unit = subst PlacesDiffer (some_one (sym both.first ∙ one.at)) both.twins.places in
    let number : c.number ≡ d.number = differ.once c.number d.number h.entity k.entity one.stands there h.external k.external (sym h.line ∙ (line ∙ k.line)) (sym h.column ∙ (column ∙ k.column)) in
    absurd (omega (arith, number, less))

in_order : (us vs : List Unit) → AreAllTwins us vs → (ds : List Declared) → ((d : Declared) → In ds d → IsDeclaration us d) → AllPairs Before ds → AreInOrder ds
in_order us vs all [] f h = tt
in_order us vs all (d ∷ ds) f h = (
  (λ e there. earlier us vs all d e (f d (inl refl)) (f e (inr there)) (first_before Before d ds h e there)),
  in_order us vs all ds (λ e there. f e (inr there)) (rest_pairs Before d ds h),
)

pub twins_paired : (us vs : List Unit) (all : AreAllTwins us vs) (ds es : List Declared) → AreDeclarations us ds → AreDeclarations vs es → Pairs (Twin us vs) ds es
twins_paired us vs all ds es h k =
    let other : AreAllTwins vs us = turned_all us vs all in
    paired (Twin us vs) (λ d e t. t.key) ds es
    (in_order us vs all ds (λ d there. (h.each d).0 (contained ds d there)) h.ordered)
    (in_order vs us other es (λ e there. (k.each e).0 (contained es e there)) k.ordered)
    (λ d there. let found = twin_of us vs all d ((h.each d).0 (contained ds d there)) in record { other = found.0; there = in_list es found.0 ((k.each found.0).1 found.1); like = found.2 })
    (λ e there. let found = twin_of vs us other e ((k.each e).0 (contained es e there)) in record { other = found.0; there = in_list ds found.0 ((h.each found.0).1 found.1); like = found.2.key })

-- a list whose pairs are also pairs of another kind
pub pairs_more : (P Q : Declared → Declared → Type 0) → ((d e : Declared) → P d e → Q d e) → (ds es : List Declared) → Pairs P ds es → Pairs Q ds es
pairs_more P Q f [] [] h = tt
pairs_more P Q f [] (e ∷ es) h = absurd h
pairs_more P Q f (d ∷ ds) [] h = absurd h
pairs_more P Q f (d ∷ ds) (e ∷ es) h = (f d e h.0, pairs_more P Q f ds es h.1)

module _ (us vs : List Unit) (n m : Numbering) (table other : Table) (all : AreAllTwins us vs) (one : IsMerged us n table) (two : IsMerged vs m other) where
  abbrev pub to : ℕ → ℕ
  to = there us vs n m table other all one two

  abbrev pub back : ℕ → ℕ
  back = there vs us m n other table (turned_all us vs all) two one

  -- a like of the second units has the first one as its like
  like_back : (a : Item) (x : Entity) (h : Like us vs a x) → Like vs us (item a.unit h.number) h.entity
  like_back a x h = record {
    number = a.number;
    entity = x;
    here = h.there;
    there = h.here;
    name = sym h.name;
    unit_is = sym h.unit_is;
    place = sym h.place;
    linkage = sym h.linkage;
    storage = sym h.storage;
    used = sym h.used;
    body = sym h.body;
    units = turned_at h.units;
    type = sym h.type;
    within = h.other_within;
    other_within = h.within;
  }
    where
      turned_at : (r : AreAt us vs a.unit) → AreAt vs us a.unit
      turned_at r = record { unit = r.other; other = r.unit; first = r.second; second = r.first; twins = turned_twins r.unit r.other r.twins }

  forth : (a : Item) (x : Entity) (h : Like us vs a x) → type_in (joined vs m other) (item a.unit h.number) ≡ renamed to (type_in (joined us n table) a)
  forth a x h = type_there us vs n m table other all one two a x h

  returned : (a : Item) (x : Entity) (h : Like us vs a x) → type_in (joined us n table) a ≡ renamed back (type_in (joined vs m other) (item a.unit h.number))
  unfolding like_back
  returned a x h = type_there vs us m n other table (turned_all us vs all) two one (item a.unit h.number) h.entity (like_back a x h)

  -- an entity and its like are both defined, or neither is
  pub defined_same : (a : Item) (x : Entity) (h : Like us vs a x) → is_defined (joined us n table) a ≡ is_defined (joined vs m other) (item a.unit h.number)
  defined_same a x h =
      let b = item a.unit h.number in
      let s = type_in (joined us n table) a in
      let t = type_in (joined vs m other) b in
      let function : is_function_type t ≡ is_function_type s = ap is_function_type (forth a x h) ∙ function_kept to s in
      ap (λ (o : Option Entity). option_map_or (λ e. is_placed s e) o false) h.here
      ∙ (ap (λ b. b || (not (is_function_type s) && not (is_declared_only x.storage))) h.body
      ∙ (ap (λ b. is_some h.entity.body || (not b && not (is_declared_only x.storage))) (sym function)
      ∙ (ap (λ (storage : Storage). is_some h.entity.body || (not (is_function_type t) && not (is_declared_only storage))) h.storage
      ∙ sym (ap (λ (o : Option Entity). option_map_or (λ e. is_placed t e) o false) h.there))))

  same_declared : (d e : Declared) → Twin us vs d e → SameDeclared (joined us n table) (joined vs m other) to back d e
  same_declared d e t =
      let h = t.like in
      let e_is : item_of e ≡ item d.unit h.number = t.other_is in
      record {
        items = record {
          entity = t.entity;
          other = h.entity;
          here = h.here;
          there = ap (entity_at vs) e_is ∙ h.there;
          words = record { name = sym h.name; unit_is = sym h.unit_is; place = sym h.place; linkage = sym h.linkage; storage = sym h.storage };
        };
        unit = t.key.unit;
        name = ap (option_map (λ (x : Entity). x.name)) h.here ∙ (ap Some h.name ∙ sym (ap (λ (a : Item). name_at vs a) e_is ∙ ap (option_map (λ (x : Entity). x.name)) h.there));
        body = ap (λ (o : Option Entity). option_map_or (λ x. is_some x.body) o false) h.here ∙ (h.body ∙ sym (ap (λ (a : Item). has_body vs a) e_is ∙ ap (λ (o : Option Entity). option_map_or (λ x. is_some x.body) o false) h.there));
        defined = defined_same (item_of d) t.entity h ∙ sym (ap (λ (a : Item). is_defined (joined vs m other) a) e_is);
        forth = ap (λ (a : Item). type_in (joined vs m other) a) e_is ∙ forth (item_of d) t.entity h;
        returned = returned (item_of d) t.entity h ∙ ap (λ (a : Item). renamed back (type_in (joined vs m other) a)) (sym e_is);
      }

  pub all_same : (ds es : List Declared) → AreDeclarations us ds → AreDeclarations vs es → Pairs (SameDeclared (joined us n table) (joined vs m other) to back) ds es
  all_same ds es h k = pairs_more (Twin us vs) (SameDeclared (joined us n table) (joined vs m other) to back) same_declared ds es (twins_paired us vs all ds es h k)
