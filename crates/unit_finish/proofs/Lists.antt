-- Lists of nodes, literals and entities, by their numbers.
use Rattle.std.proofs.Common.{arith, ◌≡◌, ◌∙◌, ℕ, zero, suc, ◌+◌, ◌<◌, ◌⊎◌, inl, inr, Bool, true, false, cond, List, [], ◌∷◌, ◌++◌, length, get_or, map, slice_get, Option, Some, None, refl, sym, ap, subst}
use Rattle.std.proofs.lemmas.Bool.{false≢true}
use Rattle.std.proofs.lemmas.Bool.Decides.{eqb_tells}
use Rattle.core_tree.specs.declared.node.Node.{Node}
use Rattle.core_tree.specs.declared.node.NodeKind.{NodeKind}
use Rattle.core_tree.specs.declared.node.NodeKind.TheVariants.{Literal}
use Rattle.core_tree.specs.Range.{child_in}
use Rattle.core_nodes.specs.kept_nodes.Marked.{marked}
use Rattle.c_senses.specs.Tree.{paired}
use Rattle.unit_finish.specs.declared.unit_parts.declared.Declared.{Declared}
use Rattle.unit_finish.specs.declared.unit_parts.literals.LiteralAt.{LiteralAt}
use Rattle.unit_finish.specs.unit_parts.Numbered.{numbered_from, staying}
use Rattle.unit_finish.specs.unit_parts.Renamed.{renamed_node, with_literal, literals_in}
use Rattle.unit_finish.specs.unit_parts.Entities.{leaves_from, numbering_of, with_body, bodies_of, entity_from, entities_from}

-- a marked node stays, under its new number
pub kept_at : (f : Node → Node) (k : ℕ) (marks : List Bool) (nodes : List Node) (j : ℕ) (x : Node) → marked marks j → slice_get nodes j ≡ Some x → (i : ℕ) × (get_or (numbered_from k marks) j None ≡ Some (k + i)) × (slice_get (map f (staying nodes (numbered_from k marks))) i ≡ Some (f x))
kept_at f k [] nodes j x on at = absurd (false≢true on)
kept_at f k (m ∷ marks) [] j x on at = cc
kept_at f k (true ∷ marks) (y ∷ nodes) zero x on at =
    let same : y ≡ x = cc in (0, ap Some (omega arith), ap (λ (n : Node). Some (f n)) same)
kept_at f k (true ∷ marks) (y ∷ nodes) (suc j) x on at =
    let r = kept_at f (suc k) marks nodes j x on at in (suc r.0, r.1 ∙ ap Some (omega arith), r.2)
kept_at f k (false ∷ marks) (y ∷ nodes) zero x on at = absurd (false≢true on)
kept_at f k (false ∷ marks) (y ∷ nodes) (suc j) x on at = kept_at f k marks nodes j x on at

-- what stays is a marked node
pub kept_from : (f : Node → Node) (k : ℕ) (marks : List Bool) (nodes : List Node) (i : ℕ) (y : Node) → slice_get (map f (staying nodes (numbered_from k marks))) i ≡ Some y → (j : ℕ) × (x : Node) × marked marks j × (slice_get nodes j ≡ Some x) × (get_or (numbered_from k marks) j None ≡ Some (k + i)) × (y ≡ f x)
kept_from f k marks [] i y at = cc
kept_from f k [] (x ∷ nodes) i y at = cc
kept_from f k (true ∷ marks) (x ∷ nodes) zero y at =
    let same : y ≡ f x = cc in (0, x, refl, refl, ap Some (omega arith), same)
kept_from f k (true ∷ marks) (x ∷ nodes) (suc i) y at =
    let r = kept_from f (suc k) marks nodes i y at in (suc r.0, r.1, r.2, r.3, r.4 ∙ ap Some (omega arith), r.5)
kept_from f k (false ∷ marks) (x ∷ nodes) i y at =
    let r = kept_from f k marks nodes i y at in (suc r.0, r.1, r.2, r.3, r.4, r.5)

-- a number that is found is a position in the list
found_from : (k : ℕ) (list : List Declared) (d e : ℕ) → paired (leaves_from k list) d ≡ Some e → (i : ℕ) × (x : Declared) × (e ≡ k + i) × (slice_get list i ≡ Some x) × (x.leaf ≡ d)
found_from k [] d e h = cc
found_from k (x ∷ rest) d e h =
    elim (eqb_tells x.leaf d) [
      | inl p ↦
          let one : Some k ≡ Some e = sym (ap (λ (b : Bool). cond b (Some k) (paired (leaves_from (suc k) rest) d)) p.0) ∙ h in
          let same : k ≡ e = cc in (0, x, omega (arith, same), refl, p.1)
      | inr p ↦
          let r = found_from (suc k) rest d e (sym (ap (λ (b : Bool). cond b (Some k) (paired (leaves_from (suc k) rest) d)) p.0) ∙ h) in
          (suc r.0, r.1, omega (arith, r.2), r.3, r.4)
    ]

pub found : (list : List Declared) (d e : ℕ) → numbering_of list d ≡ Some e → (x : Declared) × (slice_get list e ≡ Some x) × (x.leaf ≡ d)
found list d e h =
    let r = found_from 0 list d e h in
    let same : r.0 ≡ e = omega (arith, r.2) in (r.1, subst (λ (i : ℕ). slice_get list i ≡ Some r.1) same r.3, r.4)

-- each one of the list has its entity
module _ (unit : ℕ) (n : ℕ → Option ℕ) (nodes : List Node) where
  entity_there_from : (k : ℕ) (list : List Declared) (i : ℕ) (x : Declared) → slice_get list i ≡ Some x → slice_get (entities_from unit n nodes k list) i ≡ Some (entity_from unit n nodes (k + i) x)
  entity_there_from k [] i x at = cc
  entity_there_from k (y ∷ rest) zero x at =
      let same : y ≡ x = cc in
      let long : k ≡ k + 0 = omega arith in ap (λ (z : Declared). Some (entity_from unit n nodes k z)) same ∙ ap (λ (j : ℕ). Some (entity_from unit n nodes j x)) long
  entity_there_from k (y ∷ rest) (suc i) x at =
      let long : suc k + i ≡ k + suc i = omega arith in
      entity_there_from (suc k) rest i x at ∙ ap (λ (j : ℕ). Some (entity_from unit n nodes j x)) long

  pub entity_there : (list : List Declared) (i : ℕ) (x : Declared) → slice_get list i ≡ Some x → slice_get (entities_from unit n nodes 0 list) i ≡ Some (entity_from unit n nodes i x)
  entity_there list i x at =
      let long : 0 + i ≡ i = omega arith in entity_there_from 0 list i x at ∙ ap (λ (j : ℕ). Some (entity_from unit n nodes j x)) long

  pub entity_back : (k : ℕ) (list : List Declared) (i : ℕ) → i < length (entities_from unit n nodes k list) → (x : Declared) × (slice_get list i ≡ Some x)
  entity_back k [] i lt = absurd (omega arith)
  entity_back k (y ∷ rest) zero lt = (y, refl)
  entity_back k (y ∷ rest) (suc i) lt = entity_back (suc k) rest i (omega arith)

-- a literal that stays is in the list of literals, and each one there is a literal that stays
literal_on : (x : Node) (kind : NodeKind) (list : List LiteralAt) (k : ℕ) (l : LiteralAt) → slice_get list k ≡ Some l → (j : ℕ) × (slice_get (with_literal x kind list) j ≡ Some l)
literal_on x (Literal d) list k l at = (suc k, at)
literal_on x kind list k l at = (k, at)

pub literal_there : (nodes : List Node) (m : ℕ) (y : Node) (d : ℕ) → slice_get nodes m ≡ Some y → y.kind ≡ Literal d → (k : ℕ) × (slice_get (literals_in nodes) k ≡ Some (record { leaf = d; ty = y.ty; body = slice_get y.children 0 }))
literal_there [] m y d at is = cc
literal_there (x ∷ rest) zero y d at is =
    let same : x ≡ y = cc in
    (0, ap (λ (n : Node). slice_get (with_literal n n.kind (literals_in rest)) 0) same ∙ ap (λ (kind : NodeKind). slice_get (with_literal y kind (literals_in rest)) 0) is)
literal_there (x ∷ rest) (suc m) y d at is =
    let r = literal_there rest m y d at is in literal_on x x.kind (literals_in rest) r.0 (record { leaf = d; ty = y.ty; body = slice_get y.children 0 }) r.1

pub record IsLiteralIn (y : Node) (l : LiteralAt) : Type 0 where
  pub kind : y.kind ≡ Literal l.leaf
  pub type : l.ty ≡ y.ty
  pub body : l.body ≡ slice_get y.children 0

literal_off : (x : Node) (kind : NodeKind) (list : List LiteralAt) (k : ℕ) (l : LiteralAt) → x.kind ≡ kind → slice_get (with_literal x kind list) k ≡ Some l → IsLiteralIn x l ⊎ ((j : ℕ) × (slice_get list j ≡ Some l))
literal_off x (Literal d) list zero l is at =
    let same : record { leaf = d; ty = x.ty; body = slice_get x.children 0 } ≡ l = cc in
    inl (subst (λ (m : LiteralAt). IsLiteralIn x m) same (record { kind = is; type = refl; body = refl }))
literal_off x (Literal d) list (suc k) l is at = inr (k, at)
literal_off x kind list k l is at = inr (k, at)

pub literal_back : (nodes : List Node) (k : ℕ) (l : LiteralAt) → slice_get (literals_in nodes) k ≡ Some l → (m : ℕ) × (y : Node) × (slice_get nodes m ≡ Some y) × IsLiteralIn y l
literal_back [] k l at = cc
literal_back (x ∷ rest) k l at =
    elim (literal_off x x.kind (literals_in rest) k l refl at) [
      | inl here ↦ (0, x, refl, here)
      | inr there ↦ let r = literal_back rest there.0 l there.1 in (suc r.0, r.1, r.2, r.3)
    ]

-- a body that is listed, and each one is
body_on : (o : Option ℕ) (bodies : List ℕ) (j b : ℕ) → slice_get bodies j ≡ Some b → (i : ℕ) × (slice_get (with_body o bodies) i ≡ Some b)
body_on None bodies j b at = (j, at)
body_on (Some c) bodies j b at = (suc j, at)

pub body_there : (list : List Declared) (k : ℕ) (x : Declared) (b : ℕ) → slice_get list k ≡ Some x → x.body ≡ Some b → (j : ℕ) × (slice_get (bodies_of list) j ≡ Some b)
body_there [] k x b at is = cc
body_there (y ∷ rest) zero x b at is =
    let same : y ≡ x = cc in
    (0, ap (λ (z : Declared). slice_get (with_body z.body (bodies_of rest)) 0) same ∙ ap (λ (o : Option ℕ). slice_get (with_body o (bodies_of rest)) 0) is)
body_there (y ∷ rest) (suc k) x b at is = let r = body_there rest k x b at is in body_on y.body (bodies_of rest) r.0 b r.1

body_off : (o : Option ℕ) (bodies : List ℕ) (j b : ℕ) → slice_get (with_body o bodies) j ≡ Some b → (o ≡ Some b) ⊎ ((i : ℕ) × (slice_get bodies i ≡ Some b))
body_off None bodies j b at = inr (j, at)
body_off (Some c) bodies zero b at = inl at
body_off (Some c) bodies (suc j) b at = inr (j, at)

pub body_back : (list : List Declared) (j : ℕ) (b : ℕ) → slice_get (bodies_of list) j ≡ Some b → (k : ℕ) × (x : Declared) × (slice_get list k ≡ Some x) × (x.body ≡ Some b)
body_back [] j b at = cc
body_back (y ∷ rest) j b at =
    elim (body_off y.body (bodies_of rest) j b at) [
      | inl here ↦ (0, y, refl, here)
      | inr there ↦ let r = body_back rest there.0 b there.1 in (suc r.0, r.1, r.2, r.3)
    ]

-- lists of which one stands behind the other
pub get_left : {A : Type 0} (xs ys : List A) (k : ℕ) (x : A) → slice_get xs k ≡ Some x → slice_get (xs ++ ys) k ≡ Some x
get_left [] ys k x at = cc
get_left (y ∷ xs) ys zero x at = at
get_left (y ∷ xs) ys (suc k) x at = get_left xs ys k x at

pub get_right : {A : Type 0} (xs ys : List A) (k : ℕ) → slice_get (xs ++ ys) (length xs + k) ≡ slice_get ys k
get_right {A} [] ys k =
    let e : length {A = A} [] + k ≡ k = omega arith in
    ap (λ (n : ℕ). slice_get ys n) e
get_right (x ∷ xs) ys k =
    let e : length (x ∷ xs) + k ≡ suc (length xs + k) = omega arith in
    ap (λ (n : ℕ). slice_get (x ∷ (xs ++ ys)) n) e ∙ get_right xs ys k

pub get_either : {A : Type 0} (xs ys : List A) (k : ℕ) (x : A) → slice_get (xs ++ ys) k ≡ Some x → (slice_get xs k ≡ Some x) ⊎ ((j : ℕ) × (slice_get ys j ≡ Some x))
get_either [] ys k x at = inr (k, at)
get_either (y ∷ xs) ys zero x at = inl at
get_either (y ∷ xs) ys (suc k) x at = get_either xs ys k x at

pub get_map : {A B : Type 0} (f : A → B) (xs : List A) (k : ℕ) (x : A) → slice_get xs k ≡ Some x → slice_get (map f xs) k ≡ Some (f x)
get_map f [] k x at = cc
get_map f (y ∷ xs) zero x at = let same : y ≡ x = cc in ap (λ z. Some (f z)) same
get_map f (y ∷ xs) (suc k) x at = get_map f xs k x at

pub map_back : {A B : Type 0} (f : A → B) (xs : List A) (k : ℕ) (y : B) → slice_get (map f xs) k ≡ Some y → (x : A) × (slice_get xs k ≡ Some x) × (y ≡ f x)
map_back f [] k y at = cc
map_back f (x ∷ xs) zero y at = let same : y ≡ f x = cc in (x, refl, same)
map_back f (x ∷ xs) (suc k) y at = map_back f xs k y at

-- new numbers of entities change no children
pub same_child : (n : ℕ → Option ℕ) (nodes : List Node) (p k : ℕ) → child_in (slice_get (map (renamed_node n) nodes) p) k ≡ child_in (slice_get nodes p) k
same_child n [] p k = refl
same_child n (x ∷ nodes) zero k = refl
same_child n (x ∷ nodes) (suc p) k = same_child n nodes p k
