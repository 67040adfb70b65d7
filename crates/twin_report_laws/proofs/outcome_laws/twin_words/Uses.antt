-- What programs that are one name of the library.
use Rattle.std.proofs.Common.{arith, ◌≡◌, ◌∙◌, ◌+◌, ℕ, zero, suc, Bool, true, false, ◌||◌, List, [], ◌∷◌, map, Option, Some, None, refl, sym, ap, inl, inr}
use Rattle.std.specs.Prelude.{if◌then◌else◌, codes}
use Rattle.std.specs.List.{slice_get}
use Rattle.std.specs.Option.{option_map, option_and_then}
use Rattle.std.specs.Str.{bytes_eq}
use Rattle.std.proofs.lemmas.Bool.{cases_Bool, false≢true}
use Rattle.std.proofs.lemmas.Option.{slice_get_within}
use Rattle.c_types.specs.Trees.{Ctype, NoTypes, MoreTypes, FunctionFrom}
use Rattle.c_types.specs.Table.{Table, type_of}
use Rattle.core_tree.specs.declared.node.Node.{Node}
use Rattle.core_tree.specs.declared.node.NodeKind.{NodeKind}
use Rattle.core_tree.specs.declared.node.NodeKind.TheVariants.{Named, FunctionName, Decay, CallNode}
use Rattle.core_tree.specs.declared.node.Entity.{Entity}
use Rattle.core_tree.specs.declared.node.Linkage.{Linkage}
use Rattle.core_tree.specs.declared.node.Linkage.TheVariants.{External}
use Rattle.core_tree.specs.declared.node.Storage.{Storage}
use Rattle.core_tree.specs.declared.node.Storage.TheVariants.{FunctionBody}
use Rattle.core_tree.specs.declared.node.Program.{Program}
use Rattle.link_model.specs.Renamed.{renamed}
use Rattle.unit_link.specs.Places.{kind_renamed}
use Rattle.obj_made.specs.Uses.{is_number, number_in, entity_number, library_number, named_entity, function_entity, named_number, is_named, function_node, decayed_in, callee_at, callee_in, direct_callee, is_called, star_number, is_starred_from, is_starred}
use Rattle.obj_space.specs.Objects.{has_parameters, main_in, main_takes, takes_for, takes_arguments, outside_objects}
use Rattle.twin_report_laws.specs.outcome_laws.twin_programs.One.{Numbers, SameEntity, SameNode, LeadsTo}
use Rattle.twin_report_laws.proofs.outcome_laws.twin_words.Sums.{some_one, none_some}
use Rattle.twin_report_laws.proofs.outcome_laws.twin_words.Options.{and_then_some, and_then_is, same_test, any_at, any_one, number_is, is_the_number, mapped_at}

-- kinds under other numbers
pub named_kind : (f : ℕ → ℕ) (kind : NodeKind) (e : ℕ) → named_entity kind ≡ Some e → named_entity (kind_renamed f kind) ≡ Some (f e)
named_kind f (Named d) e h = ap (λ n. Some (f n)) (some_one h)
named_kind f (FunctionName d) e h = ap (λ n. Some (f n)) (some_one h)
named_kind f kind e h = absurd (none_some h)

pub function_kind : (f : ℕ → ℕ) (kind : NodeKind) (e : ℕ) → function_entity kind ≡ Some e → function_entity (kind_renamed f kind) ≡ Some (f e)
function_kind f (FunctionName d) e h = ap (λ n. Some (f n)) (some_one h)
function_kind f kind e h = absurd (none_some h)

-- the call of a node's function by its name
pub record IsDirect (nodes : List Node) (call : Node) (n : ℕ) : Type 0 where
  pub kind : call.kind ≡ CallNode
  pub child : ℕ
  pub child_is : slice_get call.children 0 ≡ Some child
  pub decay : Node
  pub decay_is : slice_get nodes child ≡ Some decay
  pub decays : decay.kind ≡ Decay
  pub of_is : slice_get decay.children 0 ≡ Some n
  pub name : Node
  pub name_is : slice_get nodes n ≡ Some name
  pub entity : ℕ
  pub entity_is : function_entity name.kind ≡ Some entity

callee_view : (nodes : List Node) (kind : NodeKind) (children : List ℕ) (n : ℕ) → callee_in nodes kind children ≡ Some n → (kind ≡ CallNode) × (option_and_then (callee_at nodes) (slice_get children 0) ≡ Some n)
callee_view nodes CallNode children n h = (refl, h)
callee_view nodes kind children n h = absurd (none_some h)

decay_view : (nodes : List Node) (kind : NodeKind) (children : List ℕ) (n : ℕ) → decayed_in nodes kind children ≡ Some n → (kind ≡ Decay) × (option_and_then (function_node nodes) (slice_get children 0) ≡ Some n)
decay_view nodes Decay children n h = (refl, h)
decay_view nodes kind children n h = absurd (none_some h)

map_some : {X Y : Type 0} (g : X → Y) (o : Option X) (y : Y) → option_map g o ≡ Some y → (x : X) × (o ≡ Some x) × (g x ≡ y)
map_some g None y e = absurd (none_some e)
map_some g (Some x) y e = (x, refl, some_one e)

pub direct_view : (nodes : List Node) (call : Node) (n : ℕ) → direct_callee nodes call ≡ Some n → IsDirect nodes call n
direct_view nodes call n h =
    let (kind, inside) = callee_view nodes call.kind call.children n h in
    let (c, c_is, at) = and_then_some (callee_at nodes) (slice_get call.children 0) n inside in
    let (decay, decay_is, under) = and_then_some (λ (node : Node). decayed_in nodes node.kind node.children) (slice_get nodes c) n at in
    let (decays, below) = decay_view nodes decay.kind decay.children n under in
    let (f, f_is, named) = and_then_some (function_node nodes) (slice_get decay.children 0) n below in
    let (name, name_is, last) = and_then_some (λ (node : Node). option_map (λ e. f) (function_entity node.kind)) (slice_get nodes f) n named in
    let (e, e_is, same) = map_some (λ (e : ℕ). f) (function_entity name.kind) n last in
    record {
      kind = kind;
      child = c;
      child_is = c_is;
      decay = decay;
      decay_is = decay_is;
      decays = decays;
      of_is = f_is ∙ ap Some same;
      name = name;
      name_is = ap (slice_get nodes) (sym same) ∙ name_is;
      entity = e;
      entity_is = e_is;
    }

pub direct_is : (nodes : List Node) (call : Node) (n : ℕ) → IsDirect nodes call n → direct_callee nodes call ≡ Some n
direct_is nodes call n d =
    let named : function_node nodes n ≡ Some n = and_then_is (λ (node : Node). option_map (λ e. n) (function_entity node.kind)) (slice_get nodes n) d.name n d.name_is (ap (option_map (λ e. n)) d.entity_is) in
    let below : decayed_in nodes Decay d.decay.children ≡ Some n = and_then_is (function_node nodes) (slice_get d.decay.children 0) n n d.of_is named in
    let under : decayed_in nodes d.decay.kind d.decay.children ≡ Some n = ap (λ (k : NodeKind). decayed_in nodes k d.decay.children) d.decays ∙ below in
    let at : callee_at nodes d.child ≡ Some n = and_then_is (λ (node : Node). decayed_in nodes node.kind node.children) (slice_get nodes d.child) d.decay n d.decay_is under in
    ap (λ (k : NodeKind). callee_in nodes k call.children) d.kind ∙ and_then_is (callee_at nodes) (slice_get call.children 0) d.child n d.child_is at

-- a node from one on that names the function other than as a direct callee
pub star_one : (entities : List Entity) (nodes : List Node) (k n : ℕ) (list : List Node) → is_starred_from entities nodes k n list ≡ true
    → (i : ℕ) × (x : Node) × (slice_get list i ≡ Some x) × (is_number k (star_number entities (is_called nodes (n + i)) x.kind) ≡ true)
star_one entities nodes k n [] h = absurd (false≢true h)
star_one entities nodes k n (x ∷ rest) h = elim (cases_Bool (is_number k (star_number entities (is_called nodes n) x.kind))) [
  | inl its ↦
      let zero_is : n + 0 ≡ n = omega arith in
      (0, x, refl, ap (λ m. is_number k (star_number entities (is_called nodes m) x.kind)) zero_is ∙ its)
  | inr isnt ↦
      let (i, y, at, is) = star_one entities nodes k (suc n) rest (sym (ap (λ b. b || is_starred_from entities nodes k (suc n) rest) isnt) ∙ h) in
      let more : n + suc i ≡ suc n + i = omega arith in
      (suc i, y, at, ap (λ m. is_number k (star_number entities (is_called nodes m) y.kind)) more ∙ is)
]

pub star_at : (entities : List Entity) (nodes : List Node) (k n : ℕ) (list : List Node) (i : ℕ) (x : Node) → slice_get list i ≡ Some x → is_number k (star_number entities (is_called nodes (n + i)) x.kind) ≡ true
    → is_starred_from entities nodes k n list ≡ true
star_at entities nodes k n [] i x at h = absurd (none_some at)
star_at entities nodes k n (y ∷ rest) zero x at h =
    let zero_is : n + 0 ≡ n = omega arith in
    let here : is_number k (star_number entities (is_called nodes n) y.kind) ≡ true =
    ap (λ (z : Node). is_number k (star_number entities (is_called nodes n) z.kind)) (some_one at) ∙ (ap (λ m. is_number k (star_number entities (is_called nodes m) x.kind)) (sym zero_is) ∙ h) in
    ap (λ b. b || is_starred_from entities nodes k (suc n) rest) here
star_at entities nodes k n (y ∷ rest) (suc i) x at h =
    let more : suc n + i ≡ n + suc i = omega arith in
    by (is_number k (star_number entities (is_called nodes n) y.kind)) (star_at entities nodes k (suc n) rest i x at (ap (λ m. is_number k (star_number entities (is_called nodes m) x.kind)) more ∙ h))
  where
    by : (b : Bool) → is_starred_from entities nodes k (suc n) rest ≡ true → (b || is_starred_from entities nodes k (suc n) rest) ≡ true
    by true e = refl
    by false e = e

star_view : (entities : List Entity) (b : Bool) (kind : NodeKind) (k : ℕ) → star_number entities b kind ≡ Some k → (b ≡ false) × (option_and_then (library_number entities) (function_entity kind) ≡ Some k)
star_view entities true kind k h = absurd (none_some h)
star_view entities false kind k h = (refl, h)

parameters_same : (f : ℕ → ℕ) (t : Ctype) → has_parameters (renamed f t) ≡ has_parameters t
parameters_same f (FunctionFrom result NoTypes form) = refl
parameters_same f (FunctionFrom result (MoreTypes first rest) form) = refl
parameters_same f t = refl

main_view : (table : Table) (linkage : Linkage) (storage : Storage) (name : List ℕ) (t : Ctype) → main_in table linkage storage name t ≡ true → (linkage ≡ External) × (storage ≡ FunctionBody) × ((if bytes_eq name (codes "main") then has_parameters t else false) ≡ true)
main_view table External FunctionBody name t h = (refl, refl, h)
main_view table linkage storage name t h = absurd (false≢true h)

module _ (p q : Program) (to back : Numbers) (l : LeadsTo p q to back) where
  pub number_same : (x y : Entity) → SameEntity p.types q.types to x y → entity_number y ≡ entity_number x
  number_same x y s =
      ap (λ (k : Linkage). number_in k y.storage y.name) s.linkage ∙ (ap (λ (k : Storage). number_in x.linkage k y.name) s.storage ∙ ap (number_in x.linkage x.storage) s.name)

  pub library_there : (e k : ℕ) → library_number p.entities.items e ≡ Some k → library_number q.entities.items (to.entity e) ≡ Some k
  library_there e k h =
      let (x, at, is) = and_then_some entity_number (slice_get p.entities.items e) k h in
      let (y, there, same) = l.entities e x at in
      and_then_is entity_number (slice_get q.entities.items (to.entity e)) y k there (number_same x y same ∙ is)

  pub child_there : (x y : Node) (k c : ℕ) → SameNode p.types q.types to x y → slice_get x.children k ≡ Some c → slice_get y.children k ≡ Some (to.node c)
  child_there x y k c s at = ap (λ (ns : List ℕ). slice_get ns k) s.children ∙ mapped_at to.node x.children k c at

  pub kind_there : (kind : NodeKind) (x y : Node) → ((f : ℕ → ℕ) → kind_renamed f kind ≡ kind) → SameNode p.types q.types to x y → x.kind ≡ kind → y.kind ≡ kind
  kind_there kind x y fixed s is = s.kind ∙ (ap (kind_renamed to.entity) is ∙ fixed to.entity)

  named_there : (k : ℕ) → is_named p.entities.items p.nodes.items k ≡ true → is_named q.entities.items q.nodes.items k ≡ true
  named_there k h =
      let (i, x, at, is) = any_one (λ (node : Node). is_number k (named_number p.entities.items node)) p.nodes.items h in
      let (e, e_is, library) = and_then_some (library_number p.entities.items) (named_entity x.kind) k (number_is k (named_number p.entities.items x) is) in
      let (y, there, same) = l.nodes i x at in
      let named : named_entity y.kind ≡ Some (to.entity e) = ap named_entity same.kind ∙ named_kind to.entity x.kind e e_is in
      any_at (λ (node : Node). is_number k (named_number q.entities.items node)) q.nodes.items (to.node i) y there
      (is_the_number k (named_number q.entities.items y) (and_then_is (library_number q.entities.items) (named_entity y.kind) (to.entity e) k named (library_there e k library)))

  pub direct_there : (x y : Node) (n : ℕ) → SameNode p.types q.types to x y → IsDirect p.nodes.items x n → IsDirect q.nodes.items y (to.node n)
  direct_there x y n same d =
      let (decay, decay_is, decay_same) = l.nodes d.child d.decay d.decay_is in
      let (name, name_is, name_same) = l.nodes n d.name d.name_is in
      record {
        kind = kind_there CallNode x y (λ f. refl) same d.kind;
        child = to.node d.child;
        child_is = child_there x y 0 d.child same d.child_is;
        decay = decay;
        decay_is = decay_is;
        decays = kind_there Decay d.decay decay (λ f. refl) decay_same d.decays;
        of_is = child_there d.decay decay 0 n decay_same d.of_is;
        name = name;
        name_is = name_is;
        entity = to.entity d.entity;
        entity_is = ap function_entity name_same.kind ∙ function_kind to.entity d.name.kind d.entity d.entity_is;
      }

  pub called_there : (n : ℕ) → is_called p.nodes.items n ≡ true → is_called q.nodes.items (to.node n) ≡ true
  called_there n h =
      let (i, x, at, is) = any_one (λ (call : Node). is_number n (direct_callee p.nodes.items call)) p.nodes.items h in
      let d = direct_view p.nodes.items x n (number_is n (direct_callee p.nodes.items x) is) in
      let (y, there, same) = l.nodes i x at in
      any_at (λ (call : Node). is_number (to.node n) (direct_callee q.nodes.items call)) q.nodes.items (to.node i) y there
      (is_the_number (to.node n) (direct_callee q.nodes.items y) (direct_is q.nodes.items y (to.node n) (direct_there x y n same d)))

  main_there : main_takes p ≡ true → main_takes q ≡ true
  main_there h =
      let (i, x, at, is) = any_one (λ (entity : Entity). main_in p.types entity.linkage entity.storage entity.name (type_of p.types entity.ty.0)) p.entities.items h in
      let (y, there, same) = l.entities i x at in
      let (linkage, storage, rest) = main_view p.types x.linkage x.storage x.name (type_of p.types x.ty.0) is in
      let type : has_parameters (type_of q.types y.ty.0) ≡ has_parameters (type_of p.types x.ty.0) = ap has_parameters same.type ∙ parameters_same to.tag (type_of p.types x.ty.0) in
      any_at (λ (entity : Entity). main_in q.types entity.linkage entity.storage entity.name (type_of q.types entity.ty.0)) q.entities.items (to.entity i) y there
      (ap (λ (k : Linkage). main_in q.types k y.storage y.name (type_of q.types y.ty.0)) (same.linkage ∙ linkage)
      ∙ (ap (λ (k : Storage). main_in q.types External k y.name (type_of q.types y.ty.0)) (same.storage ∙ storage)
      ∙ (ap (λ (k : List ℕ). if bytes_eq k (codes "main") then has_parameters (type_of q.types y.ty.0) else false) same.name
      ∙ (ap (λ (b : Bool). if bytes_eq x.name (codes "main") then b else false) type ∙ rest))))

  module _ (r : LeadsTo q p back to) (called_back : (n : ℕ) → is_called q.nodes.items n ≡ true → is_called p.nodes.items (back.node n) ≡ true) where
    starred_there : (k : ℕ) → is_starred p.entities.items p.nodes.items k ≡ true → is_starred q.entities.items q.nodes.items k ≡ true
    starred_there k h =
        let (i, x, at, is) = star_one p.entities.items p.nodes.items k 0 p.nodes.items h in
        let (y, there, same) = l.nodes i x at in
        let (not_called, rest) = star_view p.entities.items (is_called p.nodes.items (0 + i)) x.kind k (number_is k (star_number p.entities.items (is_called p.nodes.items (0 + i)) x.kind) is) in
        let (e, e_is, library) = and_then_some (library_number p.entities.items) (function_entity x.kind) k rest in
        let zero_is : 0 + i ≡ i = omega arith in
        let other_zero : 0 + to.node i ≡ to.node i = omega arith in
        let plain : is_called p.nodes.items i ≡ false = ap (is_called p.nodes.items) (sym zero_is) ∙ not_called in
        let there_plain : is_called q.nodes.items (to.node i) ≡ false = by i plain (l.node_back i (slice_get_within p.nodes.items i x at)) (is_called q.nodes.items (to.node i)) refl in
        let whole : is_called q.nodes.items (0 + to.node i) ≡ false = ap (is_called q.nodes.items) other_zero ∙ there_plain in
        let named : function_entity y.kind ≡ Some (to.entity e) = ap function_entity same.kind ∙ function_kind to.entity x.kind e e_is in
        let number : star_number q.entities.items (is_called q.nodes.items (0 + to.node i)) y.kind ≡ Some k =
        ap (λ b. star_number q.entities.items b y.kind) whole ∙ and_then_is (library_number q.entities.items) (function_entity y.kind) (to.entity e) k named (library_there e k library) in
        star_at q.entities.items q.nodes.items k 0 q.nodes.items (to.node i) y there (is_the_number k (star_number q.entities.items (is_called q.nodes.items (0 + to.node i)) y.kind) number)
      where
        by : (i : ℕ) → is_called p.nodes.items i ≡ false → back.node (to.node i) ≡ i → (b : Bool) → is_called q.nodes.items (to.node i) ≡ b → is_called q.nodes.items (to.node i) ≡ false
        by i plain round false e = e
        by i plain round true e = absurd (false≢true (sym plain ∙ (ap (is_called p.nodes.items) (sym round) ∙ called_back (to.node i) e)))

module _ (p q : Program) (to back : Numbers) (l : LeadsTo p q to back) (r : LeadsTo q p back to) where
  pub named_same : (k : ℕ) → is_named q.entities.items q.nodes.items k ≡ is_named p.entities.items p.nodes.items k
  named_same k = same_test (is_named p.entities.items p.nodes.items k) (is_named q.entities.items q.nodes.items k) (named_there p q to back l k) (named_there q p back to r k)

  pub arguments_same : takes_arguments q ≡ takes_arguments p
  arguments_same = ap (λ (es : List ℕ). takes_for q es) l.entries ∙ by p.entries.items
    where
      by : (es : List ℕ) → takes_for q (map to.entity es) ≡ takes_for p es
      by [] = same_test (main_takes p) (main_takes q) (main_there p q to back l) (main_there q p back to r)
      by (e ∷ rest) = refl

  pub outside_same : outside_objects q.entries.items ≡ outside_objects p.entries.items
  outside_same = ap (λ (es : List ℕ). outside_objects es) l.entries ∙ by p.entries.items
    where
      by : (es : List ℕ) → outside_objects (map to.entity es) ≡ outside_objects es
      by [] = refl
      by (e ∷ rest) = refl

  pub starred_same : (k : ℕ) → is_starred q.entities.items q.nodes.items k ≡ is_starred p.entities.items p.nodes.items k
  starred_same k =
      same_test (is_starred p.entities.items p.nodes.items k) (is_starred q.entities.items q.nodes.items k)
      (starred_there p q to back l r (called_there q p back to r) k) (starred_there q p back to r l (called_there p q to back l) k)
