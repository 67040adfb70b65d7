-- The owners, bodies and uses of entities of programs that are linked from units which are alike.
use Rattle.std.proofs.Common.{arith, ◌≡◌, ◌∙◌, ℕ, List, Option, Some, None, refl, sym, ap, subst, inl, inr}
use Rattle.std.specs.List.{slice_get}
use Rattle.std.specs.Option.{option_map}
use Rattle.std.proofs.lemmas.Bool.{cases_Bool, false≢true}
use Rattle.pta_base.specs.declared.place.Place.{Place}
use Rattle.c_types.specs.Table.{type_of}
use Rattle.core_tree.specs.declared.node.Entity.{Entity}
use Rattle.core_tree.specs.declared.node.Unit.{Unit}
use Rattle.core_tree.specs.declared.node.Program.{Program}
use Rattle.core_tree.specs.Valid.{PlaceAtMost}
use Rattle.link_model.specs.Units.{item}
use Rattle.link_model.specs.Renamed.{renamed}
use Rattle.link_names.specs.declared.declared.Declared.{Declared}
use Rattle.link_names.specs.Externals.{Joined, IsExternal, is_external, entities_if, item_of, entity_at as entity_in}
use Rattle.link_names.specs.Together.{maker_of}
use Rattle.link_names.proofs.Ordering.{external_is, is_external_of}
use Rattle.linked_laws.proofs.link_laws.Wholeness.{maker_found}
use Rattle.unit_link.specs.Places.{node_place}
use Rattle.unit_link.specs.Linked.{IsMovedEntity, UsesName, NameUsed, IsLinkedName, joined, LinkedAt}
use Rattle.twin_report_laws.specs.outcome_laws.fault_laws.Twins.{PlacesDiffer, AreAllTwins}
use Rattle.twin_report_laws.proofs.outcome_laws.fault_laws.Pairing.{SameWords, SameDeclared, Pairs, some_pair, maker_pair}
use Rattle.twin_report_laws.proofs.outcome_laws.fault_laws.Twinned.{HasUnit, has_unit}
use Rattle.twin_report_laws.proofs.outcome_laws.fault_laws.Declared.{to, back, all_same}
use Rattle.twin_report_laws.specs.outcome_laws.twin_programs.One.{Numbers, SameEntity}
use Rattle.twin_report_laws.proofs.outcome_laws.twin_programs.Lists.{some_one, option_maps}
use Rattle.twin_report_laws.proofs.outcome_laws.twin_programs.Matching.{Matching}
use Rattle.twin_report_laws.proofs.outcome_laws.twin_programs.Entities.{EntityPair, MeetAt, external_to, external_from, meet_at, pair_same}
use Rattle.twin_report_laws.proofs.outcome_laws.twin_programs.Nodes.{NodePair, entity_number, node_number}

-- places in both orders are one
same_place : (p q : Place) → PlaceAtMost p q → PlaceAtMost q p → p ≡ q
same_place p q (inl a) (inl b) = absurd (omega (arith, a, b))
same_place p q (inl a) (inr (b, more)) = absurd (omega (arith, a, b))
same_place p q (inr (a, more)) (inl b) = absurd (omega (arith, a, b))
same_place p q (inr (a, inl l)) (inr (b, inl k)) = absurd (omega (arith, l, k))
same_place p q (inr (a, inl l)) (inr (b, inr (k, less))) = absurd (omega (arith, l, k))
same_place p q (inr (a, inr (l, more))) (inr (b, inl k)) = absurd (omega (arith, l, k))
same_place p q (inr (a, inr (l, more))) (inr (b, inr (k, less))) =
    let column : p.column ≡ q.column = omega (arith, more, less) in
    λ i. record { unit = a i; line = l i; column = column i }

-- uses of a name
uses_there : (us vs : List Unit) (P Q : ℕ → ℕ → ℕ → Type 0) → Matching us vs P Q → (name : List ℕ) (place : Place) → UsesName us name place → UsesName vs name place
uses_there us vs P Q match name place h =
    let own : HasUnit us h.item h.entity = has_unit us h.item h.entity h.entity_is in
    let (v, v_at, leads) = match.units h.item.unit own.unit own.at in
    let (f, y, pair, stands) = leads.entity h.item.number h.entity own.stands in
    let meet = leads.entity_meets h.item.number f h.entity y pair own.stands stands in
    record {
      item = item h.item.unit f;
      entity = y;
      entity_is = ap (λ (o : Option Unit). slice_get (entities_if o) f) v_at ∙ stands;
      external = external_to h.entity y meet.words h.external;
      named = meet.words.name ∙ h.named;
      used = meet.used ∙ h.used;
    }

used_same : (us vs : List Unit) (P Q : ℕ → ℕ → ℕ → Type 0) → Matching us vs P Q → Matching vs us (λ c f e. P c e f) (λ c j i. Q c i j) → (name : List ℕ) (a b : Option Place) → NameUsed us name a → NameUsed vs name b → b ≡ a
used_same us vs P Q match match_back name None None h k = refl
used_same us vs P Q match match_back name None (Some q) h k = absurd (h q (uses_there vs us (λ c f e. P c e f) (λ c j i. Q c i j) match_back name q k.used))
used_same us vs P Q match match_back name (Some p) None h k = absurd (k p (uses_there us vs P Q match name p h.used))
used_same us vs P Q match match_back name (Some p) (Some q) h k =
    ap Some (same_place q p (k.first p (uses_there us vs P Q match name p h.used)) (h.first q (uses_there vs us (λ c f e. P c e f) (λ c j i. Q c i j) match_back name q k.used)))

module _ {entered : List (List ℕ)} (us vs : List Unit) (P Q : ℕ → ℕ → ℕ → Type 0) (match : Matching us vs P Q) (p q : Program) (h : LinkedAt entered us p) (k : LinkedAt entered vs q)
    (match_back : Matching vs us (λ c f e. P c e f) (λ c j i. Q c i j)) (all : AreAllTwins us vs) (into : Numbers)
    (tag_is : into.tag ≡ to us vs h.numbers k.numbers p.types q.types all h.types k.types)
    (entity_is : (e f : ℕ) → EntityPair us vs P h.entity_numbers k.entity_numbers e f → into.entity e ≡ f) (node_is : (n m : ℕ) → NodePair us vs Q n m → into.node n ≡ m) where
  abbrev tag : ℕ → ℕ
  tag = to us vs h.numbers k.numbers p.types q.types all h.types k.types

  abbrev again : ℕ → ℕ
  again = back us vs h.numbers k.numbers p.types q.types all h.types k.types

  abbrev J : Joined
  J = joined us h.numbers p.types

  abbrev K : Joined
  K = joined vs k.numbers q.types

  -- what is moved from a pair has one owner, one body and one use
  record SameRest (x y : Entity) : Type 0 where
    owner : y.owner ≡ option_map into.entity x.owner
    body : y.body ≡ option_map into.node x.body
    used : y.used ≡ x.used

  moved_rest : (c d : ℕ) (a b x y : Entity) → d ≡ c → MeetAt us vs P Q c a b → IsMovedEntity us h.entity_numbers c a x → IsMovedEntity vs k.entity_numbers d b y → y.used ≡ x.used → SameRest x y
  moved_rest c d a b x y same meet one two used =
      let moved : IsMovedEntity vs k.entity_numbers c b y = subst (λ (n : ℕ). IsMovedEntity vs k.entity_numbers n b y) same two in
      record {
        owner = moved.owner
            ∙ (option_maps (P c) (h.entity_numbers c) (k.entity_numbers c) into.entity
            (entity_number us vs P Q match p q h k match_back all into tag_is entity_is node_is c meet.unit meet.other meet.unit_is meet.other_is) a.owner b.owner meet.meet.owner
            ∙ ap (option_map into.entity) (sym one.owner));
        body = moved.body
            ∙ (option_maps (Q c) (node_place us c) (node_place vs c) into.node
            (node_number us vs P Q match p q h k match_back all into tag_is entity_is node_is c meet.unit meet.other meet.unit_is meet.other_is) a.body b.body meet.meet.body
            ∙ ap (option_map into.node) (sym one.body));
        used = used;
      }

  -- declarations that say the same are of a pair
  declared_pair : (d e : Declared) (x y : Entity) → SameDeclared J K tag again d e → entity_in us (item_of d) ≡ Some x → IsExternal x → entity_in vs (item_of e) ≡ Some y → MeetAt us vs P Q d.unit x y
  declared_pair d e x y same at external there =
      let own : HasUnit us (item_of d) x = has_unit us (item_of d) x at in
      let (v, v_at, leads) = match.units d.unit own.unit own.at in
      let (f, z, pair, stands) = leads.entity d.number x own.stands in
      let meet = leads.entity_meets d.number f x z pair own.stands stands in
      let one : same.items.entity ≡ x = some_one (sym same.items.here ∙ at) in
      let two : same.items.other ≡ y = some_one (sym same.items.there ∙ there) in
      let words : SameWords x y = subst (λ (w : Entity). SameWords x w) two (subst (λ (w : Entity). SameWords w same.items.other) one same.items.words) in
      let place : z.place ≡ y.place = meet.words.place ∙ sym words.place in
      let at_unit : entity_in vs (item d.unit e.number) ≡ Some y = ap (λ (n : ℕ). entity_in vs (item n e.number)) same.unit ∙ there in
      let y_at : slice_get v.entities.items e.number ≡ Some y = sym (ap (λ (o : Option Unit). slice_get (entities_if o) e.number) v_at) ∙ at_unit in
      let differ : PlacesDiffer v = (all.each d.unit own.unit v own.at v_at).other_places in
      let number : f ≡ e.number = differ.once f e.number z y stands y_at (external_to x z meet.words external) (external_to x y words external)
      (ap (λ (w : Place). w.line) place) (ap (λ (w : Place). w.column) place) in
      meet_at us vs P Q match d.unit d.number e.number x y (subst (λ (n : ℕ). P d.unit d.number n) number pair) at at_unit

  names_rest : (name other : List ℕ) (x y : Entity) → other ≡ name → IsLinkedName J h.declarations h.entity_numbers name x → IsLinkedName K k.declarations k.entity_numbers other y → SameRest x y
  names_rest name other x y names one two =
      let pairs : Pairs (SameDeclared J K tag again) h.declarations k.declarations = all_same us vs h.numbers k.numbers p.types q.types all h.types k.types h.declarations k.declarations h.declared k.declared in
      let (d, made, same) = some_pair (SameDeclared J K tag again) (maker_of J h.declarations name) (maker_of K k.declarations name) one.declared (maker_pair J K tag again name h.declarations k.declarations pairs) one.maker in
      let maker : d ≡ two.declared = some_one (sym made ∙ (ap (maker_of K k.declarations) (sym names) ∙ two.maker)) in
      let whole : SameDeclared J K tag again one.declared two.declared = subst (λ (c : Declared). SameDeclared J K tag again one.declared c) maker same in
      let found = maker_found J h.declarations name one.declared one.maker in
      let declared = (h.declared.each one.declared).0 found.contained in
      let external : IsExternal one.entity = subst IsExternal (some_one (sym declared.entity_is ∙ one.entity_is)) declared.external in
      moved_rest one.declared.unit two.declared.unit one.entity two.entity x y (sym whole.unit) (declared_pair one.declared two.declared one.entity two.entity whole one.entity_is external two.entity_is) one.moved two.moved
      (used_same us vs P Q match match_back name x.used y.used one.used (subst (λ (c : List ℕ). NameUsed vs c y.used) names two.used))

  rest_same : (e f : ℕ) (x y : Entity) → EntityPair us vs P h.entity_numbers k.entity_numbers e f → slice_get p.entities.items e ≡ Some x → slice_get q.entities.items f ≡ Some y → SameRest x y
  rest_same e f x y r at there = (let meet = meet_at us vs P Q match r.unit r.here r.there r.x r.y r.paired r.x_is r.y_is in elim (cases_Bool (is_external r.x)) [
    | inl its ↦
        let ex = external_is r.x its in
        let (a, a_at, one) = h.entities.names (item r.unit r.here) r.x r.x_is ex in
        let (b, b_at, two) = k.entities.names (item r.unit r.there) r.y r.y_is (external_to r.x r.y meet.meet.words ex) in
        as_is a b a_at b_at (names_rest r.x.name r.y.name a b meet.meet.words.name one two)
    | inr not_its ↦
        let isnt : IsExternal r.x → ⊥ = λ ex. false≢true (sym not_its ∙ is_external_of r.x ex) in
        let (a, a_at, one) = h.entities.others (item r.unit r.here) r.x r.x_is isnt in
        let (b, b_at, two) = k.entities.others (item r.unit r.there) r.y r.y_is (λ ex. isnt (external_from r.x r.y meet.meet.words ex)) in
        as_is a b a_at b_at (moved_rest r.unit r.unit r.x r.y a b refl meet one.moved two.moved (two.used ∙ (meet.meet.used ∙ sym one.used)))
  ])
    where
      as_is : (a b : Entity) → slice_get p.entities.items (h.entity_numbers r.unit r.here) ≡ Some a → slice_get q.entities.items (k.entity_numbers r.unit r.there) ≡ Some b → SameRest a b → SameRest x y
      as_is a b a_at b_at same =
          let one : a ≡ x = some_one (sym a_at ∙ (ap (slice_get p.entities.items) r.number ∙ at)) in
          let two : b ≡ y = some_one (sym b_at ∙ (ap (slice_get q.entities.items) r.other_number ∙ there)) in
          subst (λ (z : Entity). SameRest x z) two (subst (λ (z : Entity). SameRest z b) one same)

  pub entity_same : (e f : ℕ) (x y : Entity) → EntityPair us vs P h.entity_numbers k.entity_numbers e f → slice_get p.entities.items e ≡ Some x → slice_get q.entities.items f ≡ Some y → SameEntity p.types q.types into x y
  entity_same e f x y r at there =
      let typed = pair_same us vs P Q match p q h k all e f x y r at there in
      let rest = rest_same e f x y r at there in
      let w = typed.words in
      record {
        name = w.name;
        unit_is = w.unit_is;
        place = w.place;
        linkage = w.linkage;
        storage = w.storage;
        type = typed.type ∙ ap (λ (g : ℕ → ℕ). renamed g (type_of p.types x.ty.0)) (sym tag_is);
        owner = rest.owner;
        body = rest.body;
        used = rest.used;
      }
