-- Programs that are linked from units which are alike are one, but for numbers.
use Rattle.std.proofs.Common.{arith, ◌≡◌, ◌∙◌, ℕ, suc, List, [], ◌∷◌, map, length, Option, Some, None, refl, sym, ap, subst}
use Rattle.std.specs.List.{slice_get, AllZip}
use Rattle.core_tree.specs.declared.node.Node.{Node}
use Rattle.core_tree.specs.declared.node.Entity.{Entity}
use Rattle.core_tree.specs.declared.node.Unit.{Unit}
use Rattle.core_tree.specs.declared.node.Program.{Program}
use Rattle.core_tree.specs.declared.node.Storage.{Storage}
use Rattle.core_tree.specs.Valid.{IsLocal, ValidUnit}
use Rattle.link_names.specs.Externals.{IsExternal}
use Rattle.unit_link.specs.Linked.{IsOfName, LinkedAt}
use Rattle.twin_report_laws.specs.outcome_laws.fault_laws.Twins.{AreAllTwins}
use Rattle.twin_report_laws.specs.outcome_laws.twin_programs.One.{AreAllRooted, Numbers, SameEntity, SameNode, LeadsTo, AreOne}
use Rattle.twin_report_laws.proofs.outcome_laws.twin_programs.Lists.{some_one, none_some, some_at}
use Rattle.twin_report_laws.proofs.outcome_laws.twin_programs.Matching.{Matching, entity_pairs, node_pairs, matching, matching_back}
use Rattle.twin_report_laws.proofs.outcome_laws.fault_laws.Twinned.{at_unit, turned_all}
use Rattle.twin_report_laws.proofs.outcome_laws.fault_laws.Declared.{to}
use Rattle.twin_report_laws.proofs.outcome_laws.twin_programs.Numbering.{tag_round, members_there}
use Rattle.twin_report_laws.proofs.outcome_laws.twin_programs.Entities.{EntityPair, turned_pair, entity_pair, pair_stands, pair_once, external_once}
use Rattle.twin_report_laws.proofs.outcome_laws.twin_programs.Owned.{entity_same}
use Rattle.twin_report_laws.proofs.outcome_laws.twin_programs.Nodes.{child_once, NodePair, turned_node, node_pair, node_stands, node_once, node_same}

-- units of one name each, in order
unit_names : (us vs : List Unit) → length us ≡ length vs → ((c : ℕ) (u v : Unit) → slice_get us c ≡ Some u → slice_get vs c ≡ Some v → u.name ≡ v.name) → map (λ (x : Unit). x.name) us ≡ map (λ (x : Unit). x.name) vs
unit_names [] [] many each = refl
unit_names [] (v ∷ vs) many each = absurd (omega (arith, many))
unit_names (u ∷ us) [] many each = absurd (omega (arith, many))
unit_names (u ∷ us) (v ∷ vs) many each =
    ap (λ (n : List ℕ). n ∷ map (λ (x : Unit). x.name) us) (each 0 u v refl refl)
    ∙ ap (λ (ns : List (List ℕ)). v.name ∷ ns) (unit_names us vs (omega (arith, many)) (λ c x y at there. each (suc c) x y at there))

-- the number that each one of a list has by its pair
module _ {X : Type 0} (xs : List X) (R : ℕ → ℕ → Type 0) (pair : (n : ℕ) (x : X) → slice_get xs n ≡ Some x → (m : ℕ) × R n m) where
  chosen : (n : ℕ) (o : Option X) → slice_get xs n ≡ o → ℕ
  chosen n None e = 0
  chosen n (Some x) e = let r = pair n x e in r.0

  number : ℕ → ℕ
  number n = chosen n (slice_get xs n) refl

  module _ (once : (n m l : ℕ) → R n m → R n l → m ≡ l) where
    chosen_is : (n m : ℕ) (x : X) (o : Option X) (e : slice_get xs n ≡ o) → slice_get xs n ≡ Some x → R n m → chosen n o e ≡ m
    unfolding chosen
    chosen_is n m x None e at r = absurd (none_some (sym e ∙ at))
    chosen_is n m x (Some y) e at r = let own = pair n y e in once n own.0 m own.1 r

    number_is : (n m : ℕ) (x : X) → slice_get xs n ≡ Some x → R n m → number n ≡ m
    unfolding number
    number_is n m x at r = chosen_is n m x (slice_get xs n) refl at r

module _ {entered : List (List ℕ)} (us vs : List Unit) (P Q : ℕ → ℕ → ℕ → Type 0) (match : Matching us vs P Q) (match_back : Matching vs us (λ c f e. P c e f) (λ c j i. Q c i j)) (p q : Program) (h : LinkedAt entered us p) (k : LinkedAt entered vs q)
    (all : AreAllTwins us vs) (other_all : AreAllTwins vs us) where
  abbrev entity_to : ℕ → ℕ
  entity_to = number p.entities.items (EntityPair us vs P h.entity_numbers k.entity_numbers) (entity_pair us vs P Q match p q h k)

  abbrev entity_from : ℕ → ℕ
  entity_from = number q.entities.items (EntityPair vs us (λ c f e. P c e f) k.entity_numbers h.entity_numbers) (entity_pair vs us (λ c f e. P c e f) (λ c j i. Q c i j) match_back q p k h)

  abbrev node_to : ℕ → ℕ
  node_to = number p.nodes.items (NodePair us vs Q) (node_pair us vs P Q match p q h k)

  abbrev node_from : ℕ → ℕ
  node_from = number q.nodes.items (NodePair vs us (λ c j i. Q c i j)) (node_pair vs us (λ c f e. P c e f) (λ c j i. Q c i j) match_back q p k h)

  abbrev into : Numbers
  into = record { tag = to us vs h.numbers k.numbers p.types q.types all h.types k.types; entity = entity_to; node = node_to }

  abbrev back : Numbers
  back = record { tag = to vs us k.numbers h.numbers q.types p.types other_all k.types h.types; entity = entity_from; node = node_from }

  entity_is : (e f : ℕ) → EntityPair us vs P h.entity_numbers k.entity_numbers e f → entity_to e ≡ f
  entity_is e f r =
      let (x, at) = pair_stands vs us (λ c b a. P c a b) (λ c j i. Q c i j) match_back q p k h f e (turned_pair us vs P h.entity_numbers k.entity_numbers e f r) in
      number_is p.entities.items (EntityPair us vs P h.entity_numbers k.entity_numbers) (entity_pair us vs P Q match p q h k)
      (λ n m l a b. pair_once vs us (λ c f e. P c e f) (λ c j i. Q c i j) match_back q p k h m l n (turned_pair us vs P h.entity_numbers k.entity_numbers n m a) (turned_pair us vs P h.entity_numbers k.entity_numbers n l b))
      e f x at r

  node_is : (n m : ℕ) → NodePair us vs Q n m → node_to n ≡ m
  node_is n m r =
      let (x, at) = node_stands vs us (λ c f e. P c e f) (λ c j i. Q c i j) match_back q p k h m n (turned_node us vs Q n m r) in
      number_is p.nodes.items (NodePair us vs Q) (node_pair us vs P Q match p q h k)
      (λ n m l a b. node_once vs us (λ c f e. P c e f) (λ c j i. Q c i j) match_back q p k h m l n (turned_node us vs Q n m a) (turned_node us vs Q n l b)) n m x at r

  entity_is_back : (e f : ℕ) → EntityPair us vs P h.entity_numbers k.entity_numbers e f → entity_from f ≡ e
  entity_is_back e f r =
      let (y, there) = pair_stands us vs P Q match p q h k e f r in
      number_is q.entities.items (EntityPair vs us (λ c f e. P c e f) k.entity_numbers h.entity_numbers) (entity_pair vs us (λ c f e. P c e f) (λ c j i. Q c i j) match_back q p k h)
      (λ n m l a b. pair_once us vs P Q match p q h k m l n (turned_pair vs us (λ c f e. P c e f) k.entity_numbers h.entity_numbers n m a) (turned_pair vs us (λ c f e. P c e f) k.entity_numbers h.entity_numbers n l b))
      f e y there (turned_pair us vs P h.entity_numbers k.entity_numbers e f r)

  node_is_back : (n m : ℕ) → NodePair us vs Q n m → node_from m ≡ n
  node_is_back n m r =
      let (y, there) = node_stands us vs P Q match p q h k n m r in
      number_is q.nodes.items (NodePair vs us (λ c j i. Q c i j)) (node_pair vs us (λ c f e. P c e f) (λ c j i. Q c i j) match_back q p k h)
      (λ n m l a b. node_once us vs P Q match p q h k m l n (turned_node vs us (λ c j i. Q c i j) n m a) (turned_node vs us (λ c j i. Q c i j) n l b)) m n y there (turned_node us vs Q n m r)

  entities_there : (e : ℕ) (x : Entity) → slice_get p.entities.items e ≡ Some x → (y : Entity) × (slice_get q.entities.items (entity_to e) ≡ Some y) × SameEntity p.types q.types into x y
  entities_there e x at =
      let (f, r) = entity_pair us vs P Q match p q h k e x at in
      let (y, there) = pair_stands us vs P Q match p q h k e f r in
      (y, ap (slice_get q.entities.items) (entity_is e f r) ∙ there, entity_same us vs P Q match p q h k match_back all into refl entity_is node_is e f x y r at there)

  nodes_there : (n : ℕ) (x : Node) → slice_get p.nodes.items n ≡ Some x → (y : Node) × (slice_get q.nodes.items (node_to n) ≡ Some y) × SameNode p.types q.types into x y
  nodes_there n x at =
      let (m, r) = node_pair us vs P Q match p q h k n x at in
      let (y, there) = node_stands us vs P Q match p q h k n m r in
      (y, ap (slice_get q.nodes.items) (node_is n m r) ∙ there, node_same us vs P Q match p q h k match_back all into refl entity_is node_is n m x y r at there)

  external_there : (x y : Entity) → SameEntity p.types q.types into x y → IsExternal x → IsExternal y
  external_there x y same ex = record { linkage = same.linkage ∙ ex.linkage; lasting = λ l. ex.lasting (subst (λ (s : Storage). IsLocal s) same.storage l) }

  -- the entry of a name leads to the one of that name
  entry_there : (name : List ℕ) (e f : ℕ) → IsOfName p name e → IsOfName q name f → f ≡ entity_to e
  entry_there name e f a b =
      let (y, there, same) = entities_there e a.entity a.entity_is in
      external_once vs q k f (entity_to e) b.entity y b.entity_is there b.external (external_there a.entity y same a.external) (b.named ∙ (sym a.named ∙ sym same.name))

  entries_there : (names : List (List ℕ)) (ds es : List ℕ) → AllZip (IsOfName p) names ds → AllZip (IsOfName q) names es → es ≡ map entity_to ds
  entries_there [] [] [] a b = refl
  entries_there [] [] (e ∷ es) a b = absurd b
  entries_there [] (d ∷ ds) es a b = absurd a
  entries_there (name ∷ names) [] es a b = absurd a
  entries_there (name ∷ names) (d ∷ ds) [] a b = absurd b
  entries_there (name ∷ names) (d ∷ ds) (e ∷ es) a b =
      ap (λ (n : ℕ). n ∷ es) (entry_there name d e a.0 b.0) ∙ ap (λ (ns : List ℕ). entity_to d ∷ ns) (entries_there names ds es a.1 b.1)

  leads_to : LeadsTo p q into back
  leads_to = record {
    names = k.names ∙ (unit_names vs us (sym all.many) (λ c v u there at. let t = all.each c u v at there in sym t.alike.named) ∙ sym h.names);
    members = λ tag ms lt at. members_there us vs h.numbers k.numbers p.types q.types all h.types k.types tag ms lt at;
    entities = entities_there;
    nodes = nodes_there;
    tag_back = λ tag lt. tag_round us vs h.numbers k.numbers p.types q.types all h.types k.types other_all tag lt;
    entity_back = λ e lt.
        let (x, at) = some_at p.entities.items e lt in
        let (f, r) = entity_pair us vs P Q match p q h k e x at in
        ap entity_from (entity_is e f r) ∙ entity_is_back e f r;
    node_back = λ n lt.
        let (x, at) = some_at p.nodes.items n lt in
        let (m, r) = node_pair us vs P Q match p q h k n x at in
        ap node_from (node_is n m r) ∙ node_is_back n m r;
    external = external_once us p h;
    child_once = child_once us p h
        (λ c u at.
        let r = at_unit us vs all c u at in
        subst ValidUnit (some_one (sym r.first ∙ at)) r.twins.valid);
    entries = entries_there entered p.entries.items q.entries.items h.entries k.entries;
  }

pub twin_programs : {entered : List (List ℕ)} (us vs : List Unit) (p q : Program) → AreAllTwins us vs → AreAllRooted us → AreAllRooted vs → LinkedAt entered us p → LinkedAt entered vs q → AreOne p q
twin_programs us vs p q all rooted other_rooted h k =
    let P = entity_pairs us vs all rooted other_rooted in
    let Q = node_pairs us vs all rooted other_rooted in
    let m = matching us vs all rooted other_rooted in
    let w = matching_back us vs all rooted other_rooted in
    let other_all : AreAllTwins vs us = turned_all us vs all in
    record {
      to = into us vs P Q m w p q h k all other_all;
      back = back us vs P Q m w p q h k all other_all;
      forth = leads_to us vs P Q m w p q h k all other_all;
      returned = leads_to vs us (λ c f e. P c e f) (λ c j i. Q c i j) w m q p k h other_all all;
    }
