-- The list of what is declared by names and compound literals, before and after its nodes are made anew.
use Rattle.std.proofs.Common.{arith, ◌≡◌, ◌∙◌, ◌==◌, ℕ, zero, suc, ◌+◌, ◌<◌, ◌⊎◌, inl, inr, Bool, true, false, cond, List, [], ◌∷◌, ◌++◌, length, get_or, map, slice_get, Option, Some, refl, sym, ap, subst, All}
use Rattle.std.specs.Prelude.{is_some}
use Rattle.std.proofs.lemmas.Bool.{eq-eqb}
use Rattle.std.proofs.lemmas.Option.{slice_get_within, slice_get-get_or}
use Rattle.c_senses.specs.Tree.{Source, paired}
use Rattle.c_senses.specs.Right.{declared_name}
use Rattle.c_senses.specs.Right as right
use Rattle.unit_finish.specs.declared.unit_parts.declared.Declared.{Declared}
use Rattle.unit_finish.specs.declared.unit_parts.literals.LiteralAt.{LiteralAt}
use Rattle.unit_finish.specs.unit_parts.Numbered.{numbered_from}
use Rattle.unit_finish.specs.unit_parts.Renamed.{literals_in}
use Rattle.unit_finish.specs.unit_parts.Entities.{leaves_from, numbering_of, with_moved_body}
use Rattle.unit_finish.specs.Walked.{declared_seen, literal_entry}
use Rattle.unit_finish.proofs.Lists.{get_left, get_right, get_map, map_back}
use Rattle.unit_finish.proofs.Standing.{at_within}
use Rattle.valid_unit_laws.specs.body_node_laws.parts_named.Named.{AreParts}

-- what is listed is numbered
number_from : (k : ℕ) (list : List Declared) (i : ℕ) (x : Declared) → slice_get list i ≡ Some x → is_some (paired (leaves_from k list) x.leaf) ≡ true
number_from k [] i x at = cc
number_from k (y ∷ list) zero x at =
    let same : y ≡ x = cc in
    ap (λ (b : Bool). is_some (cond b (Some k) (paired (leaves_from (suc k) list) x.leaf))) (eq-eqb y.leaf x.leaf (ap (λ (z : Declared). z.leaf) same))
number_from k (y ∷ list) (suc i) x at = by (y.leaf == x.leaf) (number_from (suc k) list i x at)
  where
    by : (b : Bool) → is_some (paired (leaves_from (suc k) list) x.leaf) ≡ true → is_some (cond b (Some k) (paired (leaves_from (suc k) list) x.leaf)) ≡ true
    by true h = refl
    by false h = h

pub number_there : (list : List Declared) (i : ℕ) (x : Declared) → slice_get list i ≡ Some x → is_some (numbering_of list x.leaf) ≡ true
number_there list i x at = number_from 0 list i x at

-- what holds of each one by its number holds of all
pub all_of : {A : Type 0} (P : A → Type 0) (list : List A) → ((k : ℕ) (x : A) → slice_get list k ≡ Some x → P x) → All P list
all_of P list h k d lt = h k (get_or list k d) (slice_get-get_or list k d lt)

module _ (s : Source) (p : AreParts s) where
  abbrev pub entries : List Declared
  entries = p.kept.names.items ++ map (literal_entry s p.senses) (literals_in p.kept.nodes.items)

  abbrev pub numbers : List (Option ℕ)
  numbers = numbered_from 0 p.stay.marks

  -- an entry behind the change, and before it
  pub planted_back : (k : ℕ) (y : Declared) → slice_get p.planted.list.items k ≡ Some y → (x : Declared) × (slice_get entries k ≡ Some x) × (y.leaf ≡ x.leaf) × (y.owner ≡ x.owner)
  planted_back k y at =
      let lt : k < length entries = (let few = slice_get_within p.planted.list.items k y at in let long = p.are_planted.long in omega (arith, few, long)) in
      let there = at_within entries k lt in
      let moved = p.are_planted.each k there.0 y there.1 at in
      (there.0, there.1, ap (λ (z : Declared). z.leaf) moved.same, ap (λ (z : Declared). z.owner) moved.same)

  pub planted_there : (k : ℕ) (x : Declared) → slice_get entries k ≡ Some x → (y : Declared) × (slice_get p.planted.list.items k ≡ Some y) × (y.leaf ≡ x.leaf)
  planted_there k x at =
      let lt : k < length p.planted.list.items = (let few = slice_get_within entries k x at in let long = p.are_planted.long in omega (arith, few, long)) in
      let there = at_within p.planted.list.items k lt in
      let moved = p.are_planted.each k x there.0 at there.1 in
      (there.0, there.1, ap (λ (z : Declared). z.leaf) moved.same)

  pub known_there : (k : ℕ) (x : Declared) → slice_get entries k ≡ Some x → is_some (numbering_of p.planted.list.items x.leaf) ≡ true
  known_there k x at =
      let r = planted_there k x at in
      subst (λ (d : ℕ). is_some (numbering_of p.planted.list.items d) ≡ true) r.2 (number_there p.planted.list.items k r.0 r.1)

  -- what a name declares is there
  pub name_there : (d : ℕ) (what : right.Declared) → declared_name s p.senses d ≡ Some what → is_some (numbering_of p.planted.list.items d) ≡ true
  name_there d what e =
      let (k, x, at, leaf) = p.made.are_names.all d what e in
      let moved : slice_get p.kept.names.items k ≡ Some (with_moved_body numbers x) = ap (λ (l : List Declared). slice_get l k) p.stay.names_are ∙ get_map (with_moved_body numbers) p.names k x at in
      subst (λ (l : ℕ). is_some (numbering_of p.planted.list.items l) ≡ true) leaf
      (known_there k (with_moved_body numbers x) (get_left p.kept.names.items (map (literal_entry s p.senses) (literals_in p.kept.nodes.items)) k (with_moved_body numbers x) moved))

  -- and a literal of the nodes that stay
  pub literal_there : (j : ℕ) (l : LiteralAt) → slice_get (literals_in p.kept.nodes.items) j ≡ Some l → is_some (numbering_of p.planted.list.items l.leaf) ≡ true
  literal_there j l at =
      known_there (length p.kept.names.items + j) (literal_entry s p.senses l)
      (get_right p.kept.names.items (map (literal_entry s p.senses) (literals_in p.kept.nodes.items)) j ∙ get_map (literal_entry s p.senses) (literals_in p.kept.nodes.items) j l at)

  -- an entry is a name's or a literal's
  pub record IsOfName (k : ℕ) (x : Declared) : Type 0 where
    pub named : Declared
    pub listed : slice_get p.names k ≡ Some named
    pub is : x ≡ with_moved_body numbers named
    pub declares : declared_name s p.senses x.leaf ≡ Some (declared_seen p.walked named)

  pub record IsOfLiteral (k : ℕ) (x : Declared) : Type 0 where
    pub place : ℕ
    pub literal : LiteralAt
    pub listed : slice_get (literals_in p.kept.nodes.items) place ≡ Some literal
    pub is : x ≡ literal_entry s p.senses literal
    pub behind : k ≡ length p.kept.names.items + place

  either_at : {A : Type 0} (xs ys : List A) (k : ℕ) (x : A) → slice_get (xs ++ ys) k ≡ Some x → (slice_get xs k ≡ Some x) ⊎ ((j : ℕ) × (slice_get ys j ≡ Some x) × (k ≡ length xs + j))
  either_at [] ys k x at = inr (k, at, omega arith)
  either_at (y ∷ xs) ys zero x at = inl at
  either_at (y ∷ xs) ys (suc k) x at = elim (either_at xs ys k x at) [ inl h ↦ inl h | inr h ↦ inr (h.0, h.1, omega (arith, h.2)) ]

  pub entry : (k : ℕ) (x : Declared) → slice_get entries k ≡ Some x → IsOfName k x ⊎ IsOfLiteral k x
  entry k x at =
      elim (either_at p.kept.names.items (map (literal_entry s p.senses) (literals_in p.kept.nodes.items)) k x at) [
        | inl h ↦
            let (z, there, is) = map_back (with_moved_body numbers) p.names k x (sym (ap (λ (l : List Declared). slice_get l k) p.stay.names_are) ∙ h) in
            inl (record { named = z; listed = there; is = is; declares = ap (λ (y : Declared). declared_name s p.senses y.leaf) is ∙ p.made.are_names.each k z there })
        | inr h ↦
            let (l, there, is) = map_back (literal_entry s p.senses) (literals_in p.kept.nodes.items) h.0 x h.1 in
            inr (record { place = h.0; literal = l; listed = there; is = is; behind = h.2 })
      ]
