-- A round that tells tags apart by their lists keeps what is known of their classes.
use Rattle.std.proofs.Common.{arith, ◌≡◌, ◌≢◌, ℕ, ◌+◌, ◌<◌, ◌⊎◌, inl, inr, List, [], ◌∷◌, length, get_or, refl, ap, sym, ◌∙◌, subst, Option, Some, None}
use Rattle.std.specs.List.{slice_get, slice_index_or}
use Rattle.std.proofs.lemmas.Bool.Decides.{eqb_tells}
use Rattle.std.proofs.lemmas.Option.{slice_get_within}
use Rattle.c_types.specs.declared.term.MemberTerm.{MemberTerm}
use Rattle.c_types.specs.Table.{Table, type_of}
use Rattle.core_tree.specs.declared.node.Unit.{Unit}
use Rattle.link_model.specs.declared.item.Item.{Item}
use Rattle.link_model.specs.Units.{IsTag, types_if, SameKey}
use Rattle.link_model.specs.Matching.{member_type}
use Rattle.link_model.specs.Apart.{CountsAs, MayBeOne}
use Rattle.link_model.specs.Renamed.{renamed}
use Rattle.link_model.specs.Partition.{number, Listed, listed, IsStable, Parted}
use Rattle.link_model.proofs.Partition.{separates_more}
use Rattle.link_model.specs.link_types.Joined.{AreStarts, tag_in}
use Rattle.link_model.specs.link_types.Leaders.{AreNumbers}
use Rattle.unit_link.proofs.link_program.Leading.{alike_leaders, one_if_alike, alike_if_one}
use Rattle.link_merge.specs.Codes.{members_code, AreFirstIds}
use Rattle.link_merge.specs.Keys.{tag_code}
use Rattle.link_merge.specs.Tags.{AreKept, AreMade, AreTags, place_in}
use Rattle.link_merge.specs.Classes.{CountsFor, AreCountedAs, lead_in, AreClasses, round_key, IsRefined, AreShown}
use Rattle.link_merge.proofs.Codes.{AllAlike, alike_coded, coded_alike, first_if_same, same_if_first}
use Rattle.link_merge.proofs.Counting.{code_counted}
use Rattle.link_merge.proofs.Own.{TypesIn, own_list, knows_tags}
use Rattle.link_merge.proofs.Numbers.{leader_of_number, separates_numbers}

some_one : {X : Type 0} → {x y : X} → ◌≡◌ {A = Option X} (Some x) (Some y) → x ≡ y
some_one h = cc

none_some : {X : Type 0} → {x : X} → ◌≡◌ {A = Option X} None (Some x) → ⊥
none_some h = cc

heads : (x y : Listed) (xs ys : List Listed) → x ∷ xs ≡ y ∷ ys → (x ≡ y) × (xs ≡ ys)
heads x y xs ys e = (cc, cc)

-- lists that the table shows
module _ (units : List Unit) (type_starts firsts : List ℕ) (tag : ℕ → ℕ → ℕ) (table : Table) (shown : AreShown units type_starts tag table) (are : AreFirstIds table firsts) where
  shown_type : (u : ℕ) (x : Unit) (m : MemberTerm) → slice_get units u ≡ Some x → m.ty.0 < length x.types.terms → type_of table (get_or type_starts u 0 + m.ty.0) ≡ renamed (tag u) (member_type units u m)
  shown_type u x m at lt = shown.each u x m.ty.0 at lt ∙ ap (λ (o : Option Unit). renamed (tag u) (type_of (types_if o) m.ty.0)) (sym at)

  pub listed_if_alike : (u v : ℕ) (x y : Unit) (k l : List MemberTerm) → slice_get units u ≡ Some x → slice_get units v ≡ Some y → TypesIn (length x.types.terms) k → TypesIn (length y.types.terms) l
      → AllAlike firsts (get_or type_starts u 0) (get_or type_starts v 0) k l → listed units tag u k ≡ listed units tag v l
  listed_if_alike u v x y [] [] ux vy tk tl h = refl
  listed_if_alike u v x y [] (n ∷ ns) ux vy tk tl h = absurd h
  listed_if_alike u v x y (m ∷ ms) [] ux vy tk tl h = absurd h
  listed_if_alike u v x y (m ∷ ms) (n ∷ ns) ux vy tk tl h =
      let wu = shown.within u x ux in
      let wv = shown.within v y vy in
      let lm = tk.0 in
      let ln = tl.0 in
      let same = same_if_first table firsts are (get_or type_starts u 0 + m.ty.0) (get_or type_starts v 0 + n.ty.0) (omega arith) (omega arith) h.0.first in
      let types : renamed (tag u) (member_type units u m) ≡ renamed (tag v) (member_type units v n) = sym (shown_type u x m ux lm) ∙ (same ∙ shown_type v y n vy ln) in
      let head : ◌≡◌ {A = Listed} (record { name = m.name; bits = m.bits; type = renamed (tag u) (member_type units u m) }) (record { name = n.name; bits = n.bits; type = renamed (tag v) (member_type units v n) }) = λ i. record { name = h.0.name i; bits = h.0.bits i; type = types i } in
      let rest = listed_if_alike u v x y ms ns ux vy tk.1 tl.1 h.1 in
      ap (λ z. z ∷ listed units tag u ms) head ∙ ap (λ zs. record { name = n.name; bits = n.bits; type = renamed (tag v) (member_type units v n) } ∷ zs) rest

  pub alike_if_listed : (u v : ℕ) (x y : Unit) (k l : List MemberTerm) → slice_get units u ≡ Some x → slice_get units v ≡ Some y → TypesIn (length x.types.terms) k → TypesIn (length y.types.terms) l
      → listed units tag u k ≡ listed units tag v l → AllAlike firsts (get_or type_starts u 0) (get_or type_starts v 0) k l
  alike_if_listed u v x y [] [] ux vy tk tl h = tt
  alike_if_listed u v x y [] (n ∷ ns) ux vy tk tl h = cc
  alike_if_listed u v x y (m ∷ ms) [] ux vy tk tl h = cc
  alike_if_listed u v x y (m ∷ ms) (n ∷ ns) ux vy tk tl h =
      let wu = shown.within u x ux in
      let wv = shown.within v y vy in
      let lm = tk.0 in
      let ln = tl.0 in
      let head = heads _ _ _ _ h in
      let types = ap (λ (z : Listed). z.type) head.0 in
      let same : type_of table (get_or type_starts u 0 + m.ty.0) ≡ type_of table (get_or type_starts v 0 + n.ty.0) = shown_type u x m ux lm ∙ (types ∙ sym (shown_type v y n vy ln)) in (
        record {
          name = ap (λ (z : Listed). z.name) head.0;
          bits = ap (λ (z : Listed). z.bits) head.0;
          first = first_if_same table firsts are (get_or type_starts u 0 + m.ty.0) (get_or type_starts v 0 + n.ty.0) (omega arith) (omega arith) same;
        },
        alike_if_listed u v x y ms ns ux vy tk.1 tl.1 head.1,
      )

may_through : (units : List Unit) (a b c : Item) → SameKey units a b → MayBeOne units b c → MayBeOne units a c
may_through units a b c s (inl e) = subst (MayBeOne units a) e (inr s)
may_through units a b c s (inr t) =
    let one : s.0 ≡ t.0 = some_one (sym s.2 ∙ t.1) in
    inr (s.0, s.1, t.2 ∙ ap Some (sym one))

key_turned : (units : List Unit) (a b : Item) → SameKey units a b → SameKey units b a
key_turned units a b s = (s.0, s.2, s.1)

counts_may : (units : List Unit) (a b : Item) (k : List MemberTerm) → CountsAs units a b k → MayBeOne units a b
counts_may units a b k x = elim x.which [ inl e ↦ inl e | inr f ↦ inr f.same_key ]

module _
    (units : List Unit)
    (starts type_starts leaders numbers next : List ℕ)
    (tags : List Item)
    (counted : List (Option ℕ))
    (table : Table)
    (count : ℕ)
    (kept : AreKept units)
    (made : AreMade units)
    (are : AreTags units starts tags)
    (counts : AreCountedAs units starts counted)
    (classes : AreClasses units starts leaders)
    (many : length leaders ≡ length tags)
    (numbered : AreNumbers leaders numbers count)
    (begin : AreStarts units starts (length numbers))
    (shown : AreShown units type_starts (tag_in starts numbers) table)
    (refined : IsRefined units type_starts table tags counted leaders next) where
  abbrev code_at : Item → List ℕ
  code_at a = tag_code units type_starts refined.firsts tags (slice_index_or counted (place_in starts a) None)

  place_lt : (a : Item) → IsTag units a → place_in starts a < length leaders
  place_lt a tag = (let w = slice_get_within tags (place_in starts a) a (are.place a tag) in omega arith)

  key_lt : (a : Item) → IsTag units a → place_in starts a < length refined.keys
  key_lt a tag = (let w = place_lt a tag in let all = refined.keys_are.all in omega arith)

  heads_of : (x y : ℕ) (xs ys : List ℕ) → x ∷ xs ≡ y ∷ ys → (x ≡ y) × (xs ≡ ys)
  heads_of x y xs ys e = (cc, cc)

  -- tags of one leader after the round had one leader and one code
  keys_same : (a b : Item) → IsTag units a → IsTag units b → number (lead_in starts next) a ≡ number (lead_in starts next) b → (number (lead_in starts leaders) a ≡ number (lead_in starts leaders) b) × (code_at a ≡ code_at b)
  keys_same a b ta tb e = elim (alike_if_one refined.keys next refined.alike (place_in starts a) (place_in starts b) (key_lt a ta) (key_lt b tb) e) [
    | inl same ↦ (ap (λ g. get_or leaders g 0) same, ap (λ g. tag_code units type_starts refined.firsts tags (slice_index_or counted g None)) same)
    | inr share ↦
        let ka = some_one (some_one (sym (refined.keys_are.each (place_in starts a) (place_lt a ta)) ∙ share.first)) in
        let kb = some_one (some_one (sym (refined.keys_are.each (place_in starts b) (place_lt b tb)) ∙ share.second)) in
        heads_of _ _ _ _ (ka ∙ sym kb)
  ]

  keys_if : (a b : Item) → IsTag units a → IsTag units b → number (lead_in starts leaders) a ≡ number (lead_in starts leaders) b → code_at a ≡ code_at b → number (lead_in starts next) a ≡ number (lead_in starts next) b
  keys_if a b ta tb e c =
      let key : round_key units type_starts refined.firsts tags counted leaders (place_in starts b) ≡ round_key units type_starts refined.firsts tags counted leaders (place_in starts a) = ap (λ l. l ∷ code_at b) (sym e) ∙ ap (λ cs. number (lead_in starts leaders) a ∷ cs) (sym c) in
      one_if_alike refined.keys next refined.alike (place_in starts a) (place_in starts b) (key_lt a ta) (key_lt b tb) (inr (record {
        label = round_key units type_starts refined.firsts tags counted leaders (place_in starts a);
        first = refined.keys_are.each (place_in starts a) (place_lt a ta);
        second = refined.keys_are.each (place_in starts b) (place_lt b tb) ∙ ap (λ k. Some (Some k)) key;
      }))

  leader_if_number : (a b : Item) → IsTag units a → IsTag units b → number (tag_in starts numbers) a ≡ number (tag_in starts numbers) b → number (lead_in starts leaders) a ≡ number (lead_in starts leaders) b
  leader_if_number a b ta tb e = leader_of_number units starts leaders numbers tags count are many numbered begin classes.lead a b ta tb e

  -- the codes of lists that count
  code_is : (a p : Item) (k : List MemberTerm) → IsTag units a → CountsAs units a p k → code_at a ≡ members_code refined.firsts (get_or type_starts p.unit 0) k
  code_is a p k ta x = code_counted units starts type_starts refined.firsts tags counted a p k kept are counts ta x

  -- tags of one leader with lists that are the same get one leader
  together_next : (a b p q : Item) (k l : List MemberTerm) → IsTag units a → IsTag units b → number (lead_in starts leaders) a ≡ number (lead_in starts leaders) b → CountsAs units a p k → CountsAs units b q l
      → listed units (tag_in starts numbers) p.unit k ≡ listed units (tag_in starts numbers) q.unit l → number (lead_in starts next) a ≡ number (lead_in starts next) b
  together_next a b p q k l ta tb e ca cb same =
      let op = own_list units p k made ca.list_is in
      let oq = own_list units q l made cb.list_is in
      let alike = alike_if_listed units type_starts refined.firsts (tag_in starts numbers) table shown refined.firsts_are p.unit q.unit op.unit oq.unit k l op.unit_is oq.unit_is op.types oq.types same in
      keys_if a b ta tb e (code_is a p k ta ca ∙ (coded_alike refined.firsts (get_or type_starts p.unit 0) (get_or type_starts q.unit 0) k l alike ∙ sym (code_is b q l tb cb)))

  no_code : (a : Item) → slice_index_or counted (place_in starts a) None ≡ None → code_at a ≡ []
  no_code a e = ap (tag_code units type_starts refined.firsts tags) e

  -- two tags of one label with different leaders after the round
  parted : (a b : Item) → IsTag units a → IsTag units b → SameKey units a b → number (lead_in starts leaders) a ≡ number (lead_in starts leaders) b → number (lead_in starts next) a ≢ number (lead_in starts next) b
      → Parted units (tag_in starts numbers) a b
  parted a b ta tb key e ne = here (slice_index_or counted (place_in starts a) None) refl (counts.each a ta) (slice_index_or counted (place_in starts b) None) refl (counts.each b tb)
    where
      here : (o : Option ℕ) → slice_index_or counted (place_in starts a) None ≡ o → CountsFor units starts a o → (r : Option ℕ) → slice_index_or counted (place_in starts b) None ≡ r → CountsFor units starts b r → Parted units (tag_in starts numbers) a b
      here None ea na None eb nb = absurd (ne (keys_if a b ta tb e (no_code a ea ∙ sym (no_code b eb))))
      here None ea na (Some h) eb c = absurd (none_some (sym (na c.tag (may_through units a b c.tag key (counts_may units b c.tag c.list c.counts))) ∙ c.counts.list_is))
      here (Some h) ea c None eb nb = absurd (none_some (sym (nb c.tag (may_through units b a c.tag (key_turned units a b key) (counts_may units a c.tag c.list c.counts))) ∙ c.counts.list_is))
      here (Some h) ea c (Some i) eb d = record {
        first = c.tag;
        second = d.tag;
        first_list = c.list;
        second_list = d.list;
        first_counts = c.counts;
        second_counts = d.counts;
        differ = λ same. ne (together_next a b c.tag d.tag c.list d.list ta tb e c.counts d.counts same);
      }

  parts : (a b : Item) → IsTag units a → IsTag units b → number (lead_in starts next) a ≢ number (lead_in starts next) b → (number (tag_in starts numbers) a ≢ number (tag_in starts numbers) b) ⊎ Parted units (tag_in starts numbers) a b
  parts a b ta tb ne = elim (eqb_tells (number (lead_in starts leaders) a) (number (lead_in starts leaders) b)) [
    | inr other ↦ inl (λ e. other.1 (leader_if_number a b ta tb e))
    | inl same ↦ elim (classes.joins.one a b ta tb same.1) [
      | inl one ↦ absurd (ne (ap (number (lead_in starts next)) one))
      | inr key ↦ inr (parted a b ta tb key same.1 ne)
    ]
  ]

  pub round_next : AreClasses units starts next
  round_next = record {
    lead = alike_leaders refined.keys next refined.alike;
    joins = record { one = λ a b ta tb e. classes.joins.one a b ta tb (keys_same a b ta tb e).0 };
    separates = separates_more units (tag_in starts numbers) (lead_in starts next) (knows_tags units made) (separates_numbers units starts leaders numbers tags count are many numbered begin classes) parts;
    together = λ a b list ta tb x.
        keys_if a b ta tb (classes.together a b list ta tb x)
        (code_is a b list ta x ∙ sym (code_is b b list tb (record { list_is = x.list_is; which = inl refl })));
  }

  -- where the round changes no leader, the numbers are stable
  pub round_stable : next ≡ leaders → IsStable units (tag_in starts numbers)
  round_stable same = record {
    same = λ a b p q k l ta tb e ca cb.
        let lead = leader_if_number a b ta tb e in
        let after : number (lead_in starts next) a ≡ number (lead_in starts next) b = subst (λ xs. number (lead_in starts xs) a ≡ number (lead_in starts xs) b) (sym same) lead in
        let codes = (keys_same a b ta tb after).1 in
        let op = own_list units p k made ca.list_is in
        let oq = own_list units q l made cb.list_is in
        let alike = alike_coded refined.firsts (get_or type_starts p.unit 0) (get_or type_starts q.unit 0) k l (sym (code_is a p k ta ca) ∙ (codes ∙ code_is b q l tb cb)) in
        listed_if_alike units type_starts refined.firsts (tag_in starts numbers) table shown refined.firsts_are p.unit q.unit op.unit oq.unit k l op.unit_is oq.unit_is op.types oq.types alike;
  }

  -- tags of one leader after the round have lists that are the same under the round's numbers
  pub round_listed : (a b p q : Item) (k l : List MemberTerm) → IsTag units a → IsTag units b → number (lead_in starts next) a ≡ number (lead_in starts next) b → CountsAs units a p k → CountsAs units b q l
      → listed units (tag_in starts numbers) p.unit k ≡ listed units (tag_in starts numbers) q.unit l
  round_listed a b p q k l ta tb after ca cb =
      let codes = (keys_same a b ta tb after).1 in
      let op = own_list units p k made ca.list_is in
      let oq = own_list units q l made cb.list_is in
      let alike = alike_coded refined.firsts (get_or type_starts p.unit 0) (get_or type_starts q.unit 0) k l (sym (code_is a p k ta ca) ∙ (codes ∙ code_is b q l tb cb)) in
      listed_if_alike units type_starts refined.firsts (tag_in starts numbers) table shown refined.firsts_are p.unit q.unit op.unit oq.unit k l op.unit_is oq.unit_is op.types oq.types alike
