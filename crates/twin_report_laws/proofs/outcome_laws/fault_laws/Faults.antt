-- Twins have one fault of linking.
use Rattle.std.proofs.Common.{arith, ◌≡◌, ◌∙◌, ◌⊎◌, ◌<◌, ℕ, List, length, refl, sym, ap, subst, inl, inr}
use Rattle.std.proofs.lemmas.Option.{slice_get_within}
use Rattle.pta_base.specs.declared.place.Place.{Place}
use Rattle.c_types.specs.Table.{Table}
use Rattle.core_tree.specs.declared.node.Entity.{Entity}
use Rattle.core_tree.specs.declared.node.Unit.{Unit}
use Rattle.core_tree.specs.Valid.{PlaceAtMost}
use Rattle.link_model.specs.declared.item.Item.{Item}
use Rattle.link_model.specs.Units.{item}
use Rattle.link_model.specs.Merged.{Numbering, IsMerged}
use Rattle.link_names.specs.declared.declared.Declared.{Declared}
use Rattle.link_names.specs.declared.fault.LinkFault.{LinkFault}
use Rattle.link_names.specs.declared.fault.LinkFault.TheVariants.{Conflict, Twice, Undefined, NoMain, NoEntry, OutOfMemory}
use Rattle.link_names.specs.Externals.{Joined, AreDeclarations}
use Rattle.link_names.specs.Faults.{AreClean, IsFirstFault, IsMissing, IsUndefined, IsFirstUse, AreDefined, IsFault, AreFaultless}
use Rattle.link_names.specs.Said.{IsWant}
use Rattle.unit_link.specs.Linked.{LinkedAt, LinksBadlyAt, joined}
use Rattle.core_tree.specs.declared.node.Program.{Program}
use Rattle.twin_report_laws.specs.outcome_laws.fault_laws.Twins.{AreAllTwins, NamedByPlace, AreOneUse, OneLinkFault}
use Rattle.twin_report_laws.proofs.outcome_laws.fault_laws.Pairing.{SameDeclared, Pairs, as_many, flipped, turned, missing_same, entry_same, started_same}
use Rattle.twin_report_laws.proofs.outcome_laws.fault_laws.Starts.{one_want, no_want}
use Rattle.twin_report_laws.proofs.outcome_laws.fault_laws.Firsts.{not_clean, one_first}
use Rattle.twin_report_laws.proofs.outcome_laws.fault_laws.Twinned.{Like, like, turned_all, external_here, external_there}
use Rattle.twin_report_laws.proofs.outcome_laws.fault_laws.Declared.{to, back, defined_same, all_same}

-- what a fault of linking says: of the declarations, of the uses, or of the start
data FaultView (j : Joined) (ds : List Declared) (entered : List (List ℕ)) (fault : LinkFault) : Type 0 where
  Declaring : IsFirstFault j ds fault → FaultView j ds entered fault
  Using : (place : Place) (name : List ℕ) → fault ≡ Undefined place name → AreClean j ds (length ds) → IsFirstUse j ds place name → FaultView j ds entered fault
  Wanting : AreClean j ds (length ds) → AreDefined j ds → IsWant j ds entered fault → FaultView j ds entered fault

viewed : (j : Joined) (ds : List Declared) (entered : List (List ℕ)) (fault : LinkFault) → IsFault j ds entered (length ds) fault → FaultView j ds entered fault
viewed j ds entered (Conflict name unit) h = Declaring h
viewed j ds entered (Twice name unit) h = Declaring h
viewed j ds entered (Undefined place name) h = Using place name refl h.0 h.1
viewed j ds entered NoMain h = Wanting h.0 h.1 (h.2, h.3)
viewed j ds entered (NoEntry name) h = Wanting h.0 h.1 h.2
viewed j ds entered OutOfMemory h = absurd h

same_place : (p q : Place) → PlaceAtMost p q → PlaceAtMost q p → p ≡ q
same_place p q (inl a) (inl b) = absurd (omega (arith, a, b))
same_place p q (inl a) (inr (b, more)) = absurd (omega (arith, a, b))
same_place p q (inr (a, more)) (inl b) = absurd (omega (arith, a, b))
same_place p q (inr (a, inl l)) (inr (b, inl k)) = absurd (omega (arith, l, k))
same_place p q (inr (a, inl l)) (inr (b, inr (k, less))) = absurd (omega (arith, l, k))
same_place p q (inr (a, inr (l, more))) (inr (b, inl k)) = absurd (omega (arith, l, k))
same_place p q (inr (a, inr (l, more))) (inr (b, inr (k, less))) =
    let column : p.column ≡ q.column = omega (arith, more, less) in
    let first : p ≡ record { unit = q.unit; line = p.line; column = p.column } = ap (λ (n : ℕ). let r : Place = record { unit = n; line = p.line; column = p.column } in r) a in
    let second : ◌≡◌ {A = Place} (record { unit = q.unit; line = p.line; column = p.column }) (record { unit = q.unit; line = q.line; column = p.column }) = ap (λ (n : ℕ). let r : Place = record { unit = q.unit; line = n; column = p.column } in r) l in
    let third : ◌≡◌ {A = Place} (record { unit = q.unit; line = q.line; column = p.column }) q = ap (λ (n : ℕ). let r : Place = record { unit = q.unit; line = q.line; column = n } in r) column in
    first ∙ (second ∙ third)

abbrev SameIn : Joined → Joined → (ℕ → ℕ) → (ℕ → ℕ) → List Declared → List Declared → Type 0
SameIn j k forth again ds es = Pairs (SameDeclared j k forth again) ds es

turn : (j k : Joined) (forth again : ℕ → ℕ) (ds es : List Declared) → SameIn j k forth again ds es → SameIn k j again forth es ds
turn j k forth again ds es h = flipped (SameDeclared j k forth again) (SameDeclared k j again forth) (turned j k forth again) ds es h

module _ (us vs : List Unit) (n m : Numbering) (table other : Table) (all : AreAllTwins us vs) (one : IsMerged us n table) (two : IsMerged vs m other) (forth again : ℕ → ℕ) (ds es : List Declared)
    (same : SameIn (joined us n table) (joined vs m other) forth again ds es) where
  -- an undefined use is one of its like there
  undefined_there : (a : Item) (x : Entity) (place : Place) (l : Like us vs a x) → IsUndefined (joined us n table) ds a x place → IsUndefined (joined vs m other) es (item a.unit l.number) l.entity place
  undefined_there a x place l h = record {
    entity_is = l.there;
    used = sym l.used ∙ h.used;
    external = λ e. subst (λ (name : List ℕ). IsMissing (joined vs m other) es name) l.name
        (missing_same (joined us n table) (joined vs m other) forth again x.name ds es same (h.external (external_here us vs a x l e)));
    internal = λ none. sym (defined_same us vs n m table other all one two a x l) ∙ h.internal (λ e. none (external_there us vs a x l e));
  }

  some_there : (a : Item) (x : Entity) (place : Place) → IsUndefined (joined us n table) ds a x place → AreDefined (joined vs m other) es → ⊥
  some_there a x place h defined =
      let l : Like us vs a x = like us vs all a x h.entity_is in
      defined.each (item a.unit l.number) l.entity place (undefined_there a x place l h)

  not_after : (place : Place) (name : List ℕ) (q : Place) (again_name : List ℕ) → IsFirstUse (joined us n table) ds place name → IsFirstUse (joined vs m other) es q again_name → PlaceAtMost q place
  not_after place name q again_name f g =
      let l : Like us vs f.item f.entity = like us vs all f.item f.entity f.undefined.entity_is in
      g.first (item f.item.unit l.number) l.entity place (undefined_there f.item f.entity place l f.undefined)

module _ (us vs : List Unit) (n m : Numbering) (table other : Table) (all : AreAllTwins us vs) (one : IsMerged us n table) (two : IsMerged vs m other) (ds es : List Declared)
    (first : AreDeclarations us ds) (second : AreDeclarations vs es) where
  abbrev J : Joined
  J = joined us n table

  abbrev K : Joined
  K = joined vs m other

  abbrev F : ℕ → ℕ
  F = to us vs n m table other all one two

  abbrev G : ℕ → ℕ
  G = back us vs n m table other all one two

  same_here : SameIn J K F G ds es
  same_here = all_same us vs n m table other all one two ds es first second

  same_back : SameIn K J G F es ds
  same_back = turn J K F G ds es same_here

  count : length ds ≡ length es
  count = as_many (SameDeclared J K F G) ds es same_here

  -- a fault of the declarations here, and none there
  declaring : (fault : LinkFault) → IsFirstFault J ds fault → AreClean K es (length es) → ⊥
  declaring fault f clean =
      let within : f.at < length ds = slice_get_within ds f.at f.declared f.declared_is in
      let many : length ds ≡ length es = count in
      not_clean J K F G ds es same_here fault (length es) f clean (omega (arith, within, many))

  declaring_there : (fault : LinkFault) → IsFirstFault K es fault → AreClean J ds (length ds) → ⊥
  declaring_there fault f clean =
      let within : f.at < length es = slice_get_within es f.at f.declared f.declared_is in
      let many : length ds ≡ length es = count in
      not_clean K J G F es ds same_back fault (length ds) f clean (omega (arith, within, many))

  using : (place : Place) (name : List ℕ) → IsFirstUse J ds place name → AreDefined K es → ⊥
  using place name f defined = some_there us vs n m table other all one two F G ds es same_here f.item f.entity place f.undefined defined

  using_there : (place : Place) (name : List ℕ) → IsFirstUse K es place name → AreDefined J ds → ⊥
  using_there place name f defined = some_there vs us m n other table (turned_all us vs all) two one G F es ds same_back f.item f.entity place f.undefined defined

  one_place : (place : Place) (name : List ℕ) (q : Place) (more : List ℕ) → IsFirstUse J ds place name → IsFirstUse K es q more → place ≡ q
  one_place place name q more f g =
      same_place place q
      (not_after vs us m n other table (turned_all us vs all) two one G F es ds same_back q more place name g f)
      (not_after us vs n m table other all one two F G ds es same_here place name q more f g)

  -- the names of two first uses, where one place has one name
  one_name : NamedByPlace us → (place : Place) (name : List ℕ) (more : List ℕ) → IsFirstUse J ds place name → IsFirstUse K es place more → name ≡ more
  one_name named place name more f g =
      let l : Like vs us g.item g.entity = like vs us (turned_all us vs all) g.item g.entity g.undefined.entity_is in
      sym f.named ∙ (named.one f.item (item g.item.unit l.number) f.entity l.entity place f.undefined.entity_is l.there f.undefined.used (sym l.used ∙ g.undefined.used) ∙ (sym l.name ∙ g.named))

  both : (entered : List (List ℕ)) (fault more : LinkFault) → FaultView J ds entered fault → FaultView K es entered more → (fault ≡ more) ⊎ ((place : Place) × (name : List ℕ) × (again : List ℕ) × (fault ≡ Undefined place name) × (more ≡ Undefined place again) × IsFirstUse J ds place name × IsFirstUse K es place again)
  both entered fault more (Declaring f) (Declaring g) = inl (one_first J K F G ds es same_here fault more f g)
  both entered fault more (Declaring f) (Using place name e clean use_is) = absurd (declaring fault f clean)
  both entered fault more (Declaring f) (Wanting clean defined want) = absurd (declaring fault f clean)
  both entered fault more (Using place name e clean use_is) (Declaring g) = absurd (declaring_there more g clean)
  both entered fault more (Wanting clean defined want) (Declaring g) = absurd (declaring_there more g clean)
  both entered fault more (Using place name e clean f) (Using q again i cleaner g) =
      let same : place ≡ q = one_place place name q again f g in
      inr (place, name, again, e, i ∙ ap (λ (p : Place). Undefined p again) (sym same), f, subst (λ (p : Place). IsFirstUse K es p again) (sym same) g)
  both entered fault more (Using place name e clean f) (Wanting cleaner defined want) = absurd (using place name f defined)
  both entered fault more (Wanting clean defined want) (Using place name i cleaner f) = absurd (using_there place name f defined)
  both entered fault more (Wanting clean defined want) (Wanting cleaner defined_there want_there) =
      inl (one_want J K ds es entered (λ name. entry_same J K F G name ds es same_here) (λ name. entry_same K J G F name es ds same_back) fault more want want_there)

  pub one_or_use : (entered : List (List ℕ)) (fault more : LinkFault) → IsFault J ds entered (length ds) fault → IsFault K es entered (length es) more → (fault ≡ more) ⊎ AreOneUse fault more
  one_or_use entered fault more f g = elim (both entered fault more (viewed J ds entered fault f) (viewed K es entered more g)) [
    | inl same ↦ inl same
    | inr (place, name, again, e, i, f, g) ↦ inr (record { place = place; name = name; other_name = again; first = e; second = i })
  ]

  pub one_fault : NamedByPlace us → (entered : List (List ℕ)) (fault more : LinkFault) → IsFault J ds entered (length ds) fault → IsFault K es entered (length es) more → fault ≡ more
  one_fault named entered fault more f g = elim (both entered fault more (viewed J ds entered fault f) (viewed K es entered more g)) [
    | inl same ↦ same
    | inr (place, name, again, e, i, f, g) ↦ e ∙ (ap (Undefined place) (one_name named place name again f g) ∙ sym i)
  ]

  none_there : (entered : List (List ℕ)) (more : LinkFault) → AreFaultless J ds entered (length ds) → FaultView K es entered more → ⊥
  none_there entered more h (Declaring g) = declaring_there more g h.clean
  none_there entered more h (Using place name e clean f) = using_there place name f h.defined
  none_there entered more h (Wanting clean defined want) = no_want K es entered more (started_same J K F G entered ds es same_here h.start) want

  pub no_fault : (entered : List (List ℕ)) (more : LinkFault) → AreFaultless J ds entered (length ds) → IsFault K es entered (length es) more → ⊥
  no_fault entered more h g = none_there entered more h (viewed K es entered more g)

link_fault_one : {entered : List (List ℕ)} (us vs : List Unit) (fault more : LinkFault) → AreAllTwins us vs → LinksBadlyAt entered us fault → LinksBadlyAt entered vs more → (fault ≡ more) ⊎ AreOneUse fault more
link_fault_one {entered} us vs fault more all f g =
    one_or_use us vs f.numbers g.numbers f.table g.table all f.merged g.merged f.declarations g.declarations f.declared g.declared entered fault more f.fault_is g.fault_is

link_fault_named : {entered : List (List ℕ)} (us vs : List Unit) (fault more : LinkFault) → AreAllTwins us vs → NamedByPlace us → LinksBadlyAt entered us fault → LinksBadlyAt entered vs more → fault ≡ more
link_fault_named {entered} us vs fault more all named f g =
    one_fault us vs f.numbers g.numbers f.table g.table all f.merged g.merged f.declarations g.declarations f.declared g.declared named entered fault more f.fault_is g.fault_is

pub one_link_fault : OneLinkFault
one_link_fault = record { one = link_fault_one; named = link_fault_named }

pub no_link_fault : {entered : List (List ℕ)} (us vs : List Unit) (p : Program) (fault : LinkFault) → AreAllTwins us vs → LinkedAt entered us p → LinksBadlyAt entered vs fault → ⊥
no_link_fault {entered} us vs p fault all linked g =
    no_fault us vs linked.numbers g.numbers p.types g.table all linked.types g.merged linked.declarations g.declarations linked.declared g.declared entered fault linked.faultless g.fault_is
