-- The entities of programs that are linked from units which are alike, pair by pair.
use Rattle.std.proofs.Common.{◌≡◌, ◌∙◌, ◌<◌, ℕ, List, Option, Some, length, refl, sym, ap, subst, inl, inr}
use Rattle.std.specs.List.{slice_get}
use Rattle.std.specs.Option.{option_map}
use Rattle.std.proofs.lemmas.Bool.{cases_Bool, false≢true}
use Rattle.std.proofs.lemmas.Option.{slice_get_within}
use Rattle.c_types.specs.Table.{Table, type_of}
use Rattle.c_types.specs.Made.{AreNamed}
use Rattle.core_tree.specs.declared.node.Entity.{Entity}
use Rattle.core_tree.specs.declared.node.Unit.{Unit}
use Rattle.core_tree.specs.declared.node.Program.{Program}
use Rattle.core_tree.specs.declared.node.Storage.{Storage}
use Rattle.core_tree.specs.Valid.{IsLocal}
use Rattle.link_model.specs.declared.item.Item.{Item}
use Rattle.link_model.specs.Units.{item}
use Rattle.link_model.specs.Renamed.{renamed}
use Rattle.link_model.specs.Merged.{moved}
use Rattle.link_merge.proofs.Own.{type_tags}
use Rattle.link_names.specs.declared.declared.Declared.{Declared}
use Rattle.link_names.specs.Externals.{Joined, IsExternal, is_external, entities_if, item_of, name_at, entity_at as entity_in}
use Rattle.link_names.specs.Together.{maker_of, type_made}
use Rattle.link_names.proofs.Ordering.{external_is, is_external_of}
use Rattle.link_names.proofs.FirstLemmas.{is_named_own}
use Rattle.link_names.proofs.Gathering.{one_text}
use Rattle.linked_laws.proofs.link_laws.Wholeness.{maker_found}
use Rattle.linked_laws.proofs.Origins.{number_within}
use Rattle.unit_link.specs.Linked.{Entities, entity_of, IsMovedEntity, ShareName, OneEntity, IsLinkedName, IsLinkedOther, joined, LinkedAt}
use Rattle.twin_report_laws.specs.outcome_laws.fault_laws.Twins.{AreAllTwins}
use Rattle.twin_report_laws.proofs.outcome_laws.twin_programs.Lists.{some_one, some_at}
use Rattle.twin_report_laws.proofs.outcome_laws.fault_laws.Pairing.{SameWords, SameDeclared, Pairs, some_pair, maker_pair, made_type}
use Rattle.twin_report_laws.proofs.outcome_laws.twin_programs.Units.{EntitiesMeet}
use Rattle.twin_report_laws.proofs.outcome_laws.twin_programs.Matching.{Matching}
use Rattle.twin_report_laws.proofs.outcome_laws.fault_laws.Twinned.{HasUnit, has_unit}
use Rattle.twin_report_laws.proofs.outcome_laws.fault_laws.Merging.{type_moved}
use Rattle.twin_report_laws.proofs.outcome_laws.fault_laws.Declared.{to, back, all_same}
use Rattle.twin_report_laws.proofs.outcome_laws.twin_programs.Numbering.{type_carried}

-- entities of two programs that are paired in the units
pub record EntityPair (us vs : List Unit) (P : ℕ → ℕ → ℕ → Type 0) (m n : Entities) (e f : ℕ) : Type 0 where
  pub unit : ℕ
  pub here : ℕ
  pub there : ℕ
  pub paired : P unit here there
  pub x : Entity
  pub y : Entity
  pub x_is : entity_in us (item unit here) ≡ Some x
  pub y_is : entity_in vs (item unit there) ≡ Some y
  pub number : m unit here ≡ e
  pub other_number : n unit there ≡ f

pub turned_pair : (us vs : List Unit) (P : ℕ → ℕ → ℕ → Type 0) (m n : Entities) (e f : ℕ) → EntityPair us vs P m n e f → EntityPair vs us (λ k b a. P k a b) n m f e
turned_pair us vs P m n e f h = record {
  unit = h.unit;
  here = h.there;
  there = h.here;
  paired = h.paired;
  x = h.y;
  y = h.x;
  x_is = h.y_is;
  y_is = h.x_is;
  number = h.other_number;
  other_number = h.number;
}

-- what is external stays so
pub external_to : (x y : Entity) → SameWords x y → IsExternal x → IsExternal y
external_to x y w e = record { linkage = w.linkage ∙ e.linkage; lasting = λ l. e.lasting (subst (λ (s : Storage). IsLocal s) w.storage l) }

pub external_from : (x y : Entity) → SameWords x y → IsExternal y → IsExternal x
external_from x y w e = record { linkage = sym w.linkage ∙ e.linkage; lasting = λ l. e.lasting (subst (λ (s : Storage). IsLocal s) (sym w.storage) l) }

-- the same in two programs as in their units
words_moved : (us vs : List Unit) (m n : Entities) (k l : ℕ) (a b x y : Entity) → IsMovedEntity us m k a x → IsMovedEntity vs n l b y → SameWords a b → SameWords x y
words_moved us vs m n k l a b x y one two w = record {
  name = two.name ∙ (w.name ∙ sym one.name);
  unit_is = two.unit_is ∙ (w.unit_is ∙ sym one.unit_is);
  place = two.place ∙ (w.place ∙ sym one.place);
  linkage = two.linkage ∙ (w.linkage ∙ sym one.linkage);
  storage = two.storage ∙ (w.storage ∙ sym one.storage);
}

-- the units of paired entities
pub record MeetAt (us vs : List Unit) (P Q : ℕ → ℕ → ℕ → Type 0) (k : ℕ) (x y : Entity) : Type 0 where
  pub unit : Unit
  pub other : Unit
  pub unit_is : slice_get us k ≡ Some unit
  pub other_is : slice_get vs k ≡ Some other
  pub meet : EntitiesMeet unit other (P k) (Q k) x y
  pub named : AreNamed unit.types

-- the same words, and the same type but for numbers of tags
pub record SameTyped (one other : Table) (tag : ℕ → ℕ) (x y : Entity) : Type 0 where
  pub words : SameWords x y
  pub type : type_of other y.ty.0 ≡ renamed tag (type_of one x.ty.0)

module _ (us vs : List Unit) (P Q : ℕ → ℕ → ℕ → Type 0) (match : Matching us vs P Q) where
  -- paired entities are the same
  pub meet_at : (k i j : ℕ) (x y : Entity) → P k i j → entity_in us (item k i) ≡ Some x → entity_in vs (item k j) ≡ Some y → MeetAt us vs P Q k x y
  meet_at k i j x y pair at there =
      let own : HasUnit us (item k i) x = has_unit us (item k i) x at in
      let (v, v_at, leads) = match.units k own.unit own.at in
      let stands : slice_get v.entities.items j ≡ Some y = sym (ap (λ (o : Option Unit). slice_get (entities_if o) j) v_at) ∙ there in
      record { unit = own.unit; other = v; unit_is = own.at; other_is = v_at; meet = leads.entity_meets i j x y pair own.stands stands; named = leads.named }

  one_first : (k l i g j c : ℕ) (x y : Entity) → k ≡ l → j ≡ c → P k i j → P l g c → entity_in us (item k i) ≡ Some x → (k ≡ l) × (i ≡ g)
  one_first k l i g j c x y same number one two at =
      let own : HasUnit us (item k i) x = has_unit us (item k i) x at in
      let (v, v_at, leads) = match.units k own.unit own.at in
      (same, leads.entity_once i g j one (subst (λ (n : ℕ). P k g n) (sym number) (subst (λ (n : ℕ). P n g c) (sym same) two)))

  module _ {entered : List (List ℕ)} (p q : Program) (h : LinkedAt entered us p) (k : LinkedAt entered vs q) where
    abbrev Pair : ℕ → ℕ → Type 0
    Pair e f = EntityPair us vs P h.entity_numbers k.entity_numbers e f

    pub entity_pair : (e : ℕ) (x : Entity) → slice_get p.entities.items e ≡ Some x → (f : ℕ) × Pair e f
    entity_pair e x at =
        let (a, own, own_at, number) = h.entities.only e (slice_get_within p.entities.items e x at) in
        let has : HasUnit us a own = has_unit us a own own_at in
        let (v, v_at, leads) = match.units a.unit has.unit has.at in
        let (f, y, pair, stands) = leads.entity a.number own has.stands in
        let y_is : entity_in vs (item a.unit f) ≡ Some y = ap (λ (o : Option Unit). slice_get (entities_if o) f) v_at ∙ stands in
        (k.entity_numbers a.unit f, record { unit = a.unit; here = a.number; there = f; paired = pair; x = own; y = y; x_is = own_at; y_is = y_is; number = number; other_number = refl })

    pub pair_stands : (e f : ℕ) → Pair e f → (y : Entity) × (slice_get q.entities.items f ≡ Some y)
    pair_stands e f r = some_at q.entities.items f (subst (λ (n : ℕ). n < length q.entities.items) r.other_number (number_within vs q k (item r.unit r.there) r.y r.y_is))

    pub pair_once : (e d f : ℕ) → Pair e f → Pair d f → e ≡ d
    pair_once e d f r s = by ((k.entities.one (item r.unit r.there) (item s.unit s.there) r.y s.y r.y_is s.y_is).0 (r.other_number ∙ sym s.other_number))
      where
        by : OneEntity vs (item r.unit r.there) (item s.unit s.there) → e ≡ d
        by (inl same) =
            let units : r.unit ≡ s.unit = ap (λ (a : Item). a.unit) same in
            let numbers : r.there ≡ s.there = ap (λ (a : Item). a.number) same in
            let one = one_first r.unit s.unit r.here s.here r.there s.there r.x r.y units numbers r.paired s.paired r.x_is in
            sym r.number ∙ (ap (λ (n : ℕ). h.entity_numbers n r.here) one.0 ∙ (ap (h.entity_numbers s.unit) one.1 ∙ s.number))
        by (inr share) =
            let a = meet_at r.unit r.here r.there r.x r.y r.paired r.x_is r.y_is in
            let b = meet_at s.unit s.here s.there s.x s.y s.paired s.x_is s.y_is in
            let a_is : share.first.entity ≡ r.y = some_one (sym share.first.entity_is ∙ r.y_is) in
            let b_is : share.second.entity ≡ s.y = some_one (sym share.second.entity_is ∙ s.y_is) in
            let shared : ShareName us (item r.unit r.here) (item s.unit s.here) = record {
              name = share.name;
              first = record {
                entity = r.x;
                entity_is = r.x_is;
                external = external_from r.x r.y a.meet.words (subst IsExternal a_is share.first.external);
                named = sym a.meet.words.name ∙ (ap (λ (z : Entity). z.name) (sym a_is) ∙ share.first.named);
              };
              second = record {
                entity = s.x;
                entity_is = s.x_is;
                external = external_from s.x s.y b.meet.words (subst IsExternal b_is share.second.external);
                named = sym b.meet.words.name ∙ (ap (λ (z : Entity). z.name) (sym b_is) ∙ share.second.named);
              };
            } in
            sym r.number ∙ ((h.entities.one (item r.unit r.here) (item s.unit s.here) r.x s.x r.x_is s.x_is).1 (inr shared) ∙ s.number)

    module _ (all : AreAllTwins us vs) where
      abbrev tag : ℕ → ℕ
      tag = to us vs h.numbers k.numbers p.types q.types all h.types k.types

      abbrev again : ℕ → ℕ
      again = back us vs h.numbers k.numbers p.types q.types all h.types k.types

      abbrev J : Joined
      J = joined us h.numbers p.types

      abbrev K : Joined
      K = joined vs k.numbers q.types

      same_entity : (x y : Entity) → SameWords x y → type_of q.types y.ty.0 ≡ renamed tag (type_of p.types x.ty.0) → SameTyped p.types q.types tag x y
      same_entity x y w t = record { words = w; type = t }

      -- entities of external names
      same_names : (name other : List ℕ) (x y : Entity) → other ≡ name → IsLinkedName J h.declarations h.entity_numbers name x → IsLinkedName K k.declarations k.entity_numbers other y → SameTyped p.types q.types tag x y
      same_names name other x y names one two =
          let pairs : Pairs (SameDeclared J K tag again) h.declarations k.declarations = all_same us vs h.numbers k.numbers p.types q.types all h.types k.types h.declarations k.declarations h.declared k.declared in
          let (d, made, same) = some_pair (SameDeclared J K tag again) (maker_of J h.declarations name) (maker_of K k.declarations name) one.declared (maker_pair J K tag again name h.declarations k.declarations pairs) one.maker in
          let maker : d ≡ two.declared = some_one (sym made ∙ (ap (maker_of K k.declarations) (sym names) ∙ two.maker)) in
          let here : same.items.entity ≡ one.entity = some_one (sym same.items.here ∙ one.entity_is) in
          let there : same.items.other ≡ two.entity = some_one (sym same.items.there ∙ (ap (λ (c : Declared). entity_in vs (item_of c)) maker ∙ two.entity_is)) in
          let words : SameWords one.entity two.entity = subst (λ (z : Entity). SameWords one.entity z) there (subst (λ (z : Entity). SameWords z same.items.other) here same.items.words) in
          same_entity x y (words_moved us vs h.entity_numbers k.entity_numbers one.declared.unit two.declared.unit one.entity two.entity x y one.moved two.moved words)
          (two.type ∙ (ap (λ (c : List ℕ). type_made K k.declarations c two.declared) names
          ∙ (ap (type_made K k.declarations name) (sym maker)
          ∙ (made_type J K tag again name h.declarations k.declarations one.declared d pairs same ∙ ap (renamed tag) (sym one.type)))))

      same_others : (r i j : ℕ) (a b x y : Entity) → MeetAt us vs P Q r a b → entity_in us (item r i) ≡ Some a → entity_in vs (item r j) ≡ Some b
          → IsLinkedOther J h.entity_numbers (item r i) a x → IsLinkedOther K k.entity_numbers (item r j) b y → SameTyped p.types q.types tag x y
      same_others r i j a b x y meet at there one two =
          let t = type_of meet.unit.types a.ty.0 in
          let first : type_of p.types x.ty.0 ≡ moved h.numbers r t = one.type ∙ type_moved us h.numbers p.types h.types (item r i) a meet.unit at meet.unit_is meet.meet.within in
          let second : type_of q.types y.ty.0 ≡ moved k.numbers r (type_of meet.other.types b.ty.0) =
          two.type ∙ type_moved vs k.numbers q.types k.types (item r j) b meet.other there meet.other_is meet.meet.other_within in
          let carried : moved k.numbers r t ≡ renamed tag (moved h.numbers r t) =
          type_carried us vs h.numbers k.numbers p.types q.types all h.types k.types r meet.unit t meet.unit_is (type_tags meet.unit.types a.ty.0 meet.named) in
          same_entity x y (words_moved us vs h.entity_numbers k.entity_numbers r r a b x y one.moved two.moved meet.meet.words)
          (second ∙ (ap (moved k.numbers r) (sym meet.meet.type) ∙ (carried ∙ ap (renamed tag) (sym first))))

      pub pair_same : (e f : ℕ) (x y : Entity) → Pair e f → slice_get p.entities.items e ≡ Some x → slice_get q.entities.items f ≡ Some y → SameTyped p.types q.types tag x y
      pair_same e f x y r at there = (let meet = meet_at r.unit r.here r.there r.x r.y r.paired r.x_is r.y_is in elim (cases_Bool (is_external r.x)) [
        | inl its ↦
            let ex = external_is r.x its in
            let (a, a_at, one) = h.entities.names (item r.unit r.here) r.x r.x_is ex in
            let (b, b_at, two) = k.entities.names (item r.unit r.there) r.y r.y_is (external_to r.x r.y meet.meet.words ex) in
            as_is a b a_at b_at (same_names r.x.name r.y.name a b meet.meet.words.name one two)
        | inr not_its ↦
            let isnt : IsExternal r.x → ⊥ = λ ex. false≢true (sym not_its ∙ is_external_of r.x ex) in
            let (a, a_at, one) = h.entities.others (item r.unit r.here) r.x r.x_is isnt in
            let (b, b_at, two) = k.entities.others (item r.unit r.there) r.y r.y_is (λ ex. isnt (external_from r.x r.y meet.meet.words ex)) in
            as_is a b a_at b_at (same_others r.unit r.here r.there r.x r.y a b meet r.x_is r.y_is one two)
      ])
        where
          as_is : (a b : Entity) → slice_get p.entities.items (h.entity_numbers r.unit r.here) ≡ Some a → slice_get q.entities.items (k.entity_numbers r.unit r.there) ≡ Some b
              → SameTyped p.types q.types tag a b → SameTyped p.types q.types tag x y
          as_is a b a_at b_at same =
              let one : a ≡ x = some_one (sym a_at ∙ (ap (slice_get p.entities.items) r.number ∙ at)) in
              let two : b ≡ y = some_one (sym b_at ∙ (ap (slice_get q.entities.items) r.other_number ∙ there)) in
              subst (λ (z : Entity). SameTyped p.types q.types tag x z) two (subst (λ (z : Entity). SameTyped p.types q.types tag z b) one same)

-- an external name stands once
module _ {entered : List (List ℕ)} (units : List Unit) (p : Program) (h : LinkedAt entered units p) where
  declares : (own z : Entity) → IsLinkedName (joined units h.numbers p.types) h.declarations h.entity_numbers own.name z → z.name ≡ own.name
  declares own z linked =
      let found = maker_found (joined units h.numbers p.types) h.declarations own.name linked.declared linked.maker in
      let stands : name_at units (item_of linked.declared) ≡ Some linked.entity.name = ap (option_map (λ (w : Entity). w.name)) linked.entity_is in
      linked.moved.name ∙ sym (one_text (name_at units (item_of linked.declared)) own.name linked.entity.name found.passes (is_named_own units linked.declared linked.entity.name stands))

  -- an external entity is that of a name
  record IsName (e : ℕ) (x : Entity) : Type 0 where
    at : Item
    own : Entity
    own_is : entity_in units at ≡ Some own
    external : IsExternal own
    number : entity_of h.entity_numbers at ≡ e
    named : x.name ≡ own.name

  is_name : (e : ℕ) (x : Entity) → slice_get p.entities.items e ≡ Some x → IsExternal x → IsName e x
  is_name e x at ex =
      let (a, own, own_at, number) = h.entities.only e (slice_get_within p.entities.items e x at) in
      elim (cases_Bool (is_external own)) [
        | inl its ↦
            let (z, z_at, linked) = h.entities.names a own own_at (external_is own its) in
            let same : z ≡ x = some_one (sym z_at ∙ (ap (slice_get p.entities.items) number ∙ at)) in
            record { at = a; own = own; own_is = own_at; external = external_is own its; number = number; named = ap (λ (w : Entity). w.name) (sym same) ∙ declares own z linked }
        | inr not_its ↦
            let isnt : IsExternal own → ⊥ = λ no. false≢true (sym not_its ∙ is_external_of own no) in
            let (z, z_at, linked) = h.entities.others a own own_at isnt in
            let same : z ≡ x = some_one (sym z_at ∙ (ap (slice_get p.entities.items) number ∙ at)) in
            let there : IsExternal z = subst IsExternal (sym same) ex in
            absurd (isnt (record { linkage = sym linked.moved.linkage ∙ there.linkage; lasting = λ l. there.lasting (subst (λ (s : Storage). IsLocal s) (sym linked.moved.storage) l) }))
      ]

  pub external_once : (d e : ℕ) (x y : Entity) → slice_get p.entities.items d ≡ Some x → slice_get p.entities.items e ≡ Some y → IsExternal x → IsExternal y → x.name ≡ y.name → d ≡ e
  external_once d e x y at there ex ey same =
      let a = is_name d x at ex in
      let b = is_name e y there ey in
      let share : ShareName units a.at b.at = record {
        name = a.own.name;
        first = record { entity = a.own; entity_is = a.own_is; external = a.external; named = refl };
        second = record { entity = b.own; entity_is = b.own_is; external = b.external; named = sym b.named ∙ (sym same ∙ a.named) };
      } in
      sym a.number ∙ ((h.entities.one a.at b.at a.own b.own a.own_is b.own_is).1 (inr share) ∙ b.number)
