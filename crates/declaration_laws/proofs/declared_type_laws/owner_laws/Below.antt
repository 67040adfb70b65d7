-- What the trees of nodes below a definition name stands below it.
use Rattle.std.proofs.Common.{arith, ◌≡◌, ◌<◌, ◌≤◌, ◌+◌, ◌||◌, nat_eq, ℕ, zero, suc, Bool, true, false, List, [], ◌∷◌, ◌++◌, Option, Some, None, length, take, slice_get, refl, sym, ap, ◌∙◌, subst, ◌⊎◌, inl, inr}
use Rattle.std.specs.Prelude.{⊤, is_some, option_and_then, option_map, if◌then◌else◌}
use Rattle.std.proofs.lemmas.Bool.{eqb-true}
use Rattle.c_lexer.specs.declared.Tokens.{Tokens}
use Rattle.c_grammar.specs.declared.trees.Tree.{Tree}
use Rattle.c_grammar.specs.Productions.{p_unit, p_external, p_rest, p_declaration, p_declarator, p_block, p_cast, p_unary, p_enumerator, p_post}
use Rattle.c_grammar.specs.Words.{sign_left_parenthesis}
use Rattle.c_types.specs.Trees.{Ctype}
use Rattle.core_tree.specs.declared.node.NodeKind.TheVariants.{Named, Literal, VarArgs, Block, For}
use Rattle.c_consts.specs.Core.{Core, Of}
use Rattle.c_scope.specs.declared.kinds.Declared.{Declared}
use Rattle.c_senses.specs.Names.{source_of, numbered, ordinary_at, has_linkage, names_type, typing_declarations}
use Rattle.c_senses.specs.Tree.{Source, production_at, children_at, is_a, has_sign, child_of, parent_of, paired, first_where, above_within, nearest_above, left_of}
use Rattle.c_senses.specs.World.{World, Meaning, Object, Function, TypeName, Value}
use Rattle.c_senses.specs.Limits.{is_function_type}
use Rattle.c_senses.specs.Sense.{Sense, IsDeclarator, IsValue, sense_in}
use Rattle.c_senses.specs.Entities.{all_together, types_of, type_behind, own_type, is_typedef, is_linked, entity_of, named_by, object_or_function, declared_meaning, enumerated, meaning_of, meaning_at, defined_name, function_around}
use Rattle.c_senses.specs.Initialised.{opening}
use Rattle.c_senses.specs.Statements.{is_automatic_object, automatic_name, objects_among, objects_in_rest, objects_declared, objects_in}
use Rattle.c_senses.specs.Rows.{AreSenses, world_at}
use Rattle.core_node_laws.specs.near_nodes.Holding.{MeaningGives, OfSense, RowGives, Closed, ListsGive}
use Rattle.core_node_laws.proofs.near_nodes.Nearness.{AllNear, IfNear, all_near, first_near}
use Rattle.core_node_laws.proofs.near_nodes.All.{near_kept}
use Rattle.declaration_laws.specs.definition_laws.scope_laws.Beneath.{Beneath, part, deeper}
use Rattle.declaration_laws.specs.definition_laws.scope_laws.Scoped.{IsPart, Rooted, ParametersListed, DeclaredOnce}
use Rattle.declaration_laws.proofs.definition_laws.scope_laws.Whole.{uses_stay, names_declared_once}
use Rattle.declaration_laws.specs.definition_laws.passed.built_unit_laws.parameter_bodies.PassedOn.{IsGrown}
use Rattle.declaration_laws.proofs.definition_laws.passed.built_unit_laws.parameter_bodies.PassedOn.{in_list, list_in, child_inside, parent_is}
use Rattle.declaration_laws.specs.declared_type_laws.owner_laws.Owners.{LeftsStand, FurtherKnown}
use Rattle.declaration_laws.proofs.declared_type_laws.owner_laws.Defined.{is_definition, both}
use Rattle.declaration_laws.proofs.declared_type_laws.owner_laws.Naming.{clash, own_leaf}

pub rooted_of : (s : Source) → IsGrown s → Rooted s
rooted_of s grown = record {
  before = λ i c h. let k = in_list (children_at s i) c h in grown.first i k.0 c k.1;
  single = λ i j c h k. grown.families.single i j c (in_list (children_at s i) c h) (in_list (children_at s j) c k);
  externals = grown.nested.externals;
  units = grown.nested.units;
}

module _ (s : Source) (grown : IsGrown s) (lefts : LeftsStand s) where
  abbrev pub Near : ℕ → ℕ → Type 0
  Near p i = Beneath (IsPart s) p i

  pub closed : (p : ℕ) → Closed s (Near p)
  closed p = record {
    parts = λ i c h n. deeper n (list_in (children_at s i) h.0 c h.1);
    lefts = left;
  }
    where
      left : (i first : ℕ) (rest : List ℕ) → is_a s p_post i ≡ true → children_at s i ≡ first ∷ rest → Near p i → Near p (left_of s first)
      left i first rest post e (part r) = part (lefts i first p rest post e r)
      left i first rest post e (deeper {i = q} b r) = deeper b (lefts i first q rest post e r)

  no_two : (x p q : ℕ) → is_a s p x ≡ true → nat_eq p q ≡ false → is_a s q x ≡ true → ⊥
  no_two x p q is differ other = clash (is_a s q x) other (subst (λ (y : ℕ). nat_eq y q ≡ false) (sym (eqb-true (production_at s x) p is)) differ)

  -- below an external declaration stands no other one
  no_external : (p q : ℕ) → is_a s p_external p ≡ true → Near p q → is_a s p_external q ≡ true → ⊥
  no_external p q is (part r) other = no_two p p_external p_unit is refl (grown.nested.externals p q r other)
  no_external p q is (deeper {i = i} b r) other = no_unit p i b (grown.nested.externals i q r other)
    where
      no_unit : (a c : ℕ) → Near a c → is_a s p_unit c ≡ true → ⊥
      no_unit a c (part h) e = clash (is_a s p_unit c) e (grown.nested.units a c h)
      no_unit a c (deeper {i = j} x h) e = clash (is_a s p_unit c) e (grown.nested.units j c h)

  up : (q c : ℕ) → IsPart s q c → parent_of s c ≡ Some q
  up q c h = parent_is s grown q c (in_list (children_at s q) c h)

  inside : (q c : ℕ) → IsPart s q c → q < length s.nodes
  inside q c h = let k = in_list (children_at s q) c h in child_inside (slice_get s.nodes q) s.nodes q k.0 c refl k.1

  module _ (p : ℕ) (is : is_definition s p ≡ true) where
    external : is_a s p_external p ≡ true
    external = (both (is_a s p_external p) (is_some (child_of s p_block p)) is).0

    above_is : (fuel q : ℕ) → (q ≡ p) ⊎ Near p q → q < length s.nodes → length s.nodes ≤ q + fuel → above_within s (is_definition s) fuel (Some q) ≡ Some p
    above_is zero q h lt enough = absurd (omega (arith, lt, enough))
    above_is (suc fuel) q h lt enough = by (is_definition s q) refl h (λ x h2 lt2 less. above_is fuel x h2 lt2 (omega (arith, less, enough)))
      where
        by : (b : Bool) → is_definition s q ≡ b → (q ≡ p) ⊎ Near p q → ((x : ℕ) → (x ≡ p) ⊎ Near p x → x < length s.nodes → q < x → above_within s (is_definition s) fuel (Some x) ≡ Some p)
            → (if b then Some q else above_within s (is_definition s) fuel (parent_of s q)) ≡ Some p
        by true e (inl same) later = ap (λ (k : ℕ). Some k) same
        by true e (inr n) later = absurd (no_external p q external n (both (is_a s p_external q) (is_some (child_of s p_block q)) e).0)
        by false e (inl same) later = clash (is_definition s p) is (subst (λ (k : ℕ). is_definition s k ≡ false) same e)
        by false e (inr (part r)) later = ap (above_within s (is_definition s) fuel) (up p q r) ∙ later p (inl refl) (inside p q r) ((rooted_of s grown).before p q r)
        by false e (inr (deeper {i = i} b r)) later = ap (above_within s (is_definition s) fuel) (up i q r) ∙ later i (inr b) (inside i q r) ((rooted_of s grown).before i q r)

    nearest : (c : ℕ) → Near p c → nearest_above s (is_definition s) c ≡ Some p
    nearest c (part r) = ap (above_within s (is_definition s) (length s.nodes)) (up p c r) ∙ above_is (length s.nodes) p (inl refl) (inside p c r) (omega arith)
    nearest c (deeper {i = i} b r) = ap (above_within s (is_definition s) (length s.nodes)) (up i c r) ∙ above_is (length s.nodes) i (inr b) (inside i c r) (omega arith)

    -- the function around what stands below a definition
    pub around_is : (sense : ℕ → Sense) (c : ℕ) → Near p c → function_around s sense c ≡ defined_name s sense p
    around_is sense c n = ap (λ (o : Option ℕ). option_and_then (defined_name s sense) o) (nearest c n)

-- ---- what is asked of the trees

module _ (tokens : Tokens) (tree : Tree) (tag_number : ℕ → ℕ) where
  abbrev s : Source
  s = numbered tag_number (source_of tokens tree)

  module _ (grown : IsGrown s) (lefts : LeftsStand s) (listed : ParametersListed tokens tree s) (senses : List Sense) (are : AreSenses s senses) (p : ℕ) (is : is_definition s p ≡ true) where
    abbrev sense : ℕ → Sense
    sense = sense_in senses

    abbrev pub N : ℕ → Type 0
    N i = Near s grown lefts p i

    -- what has no linkage stands below the definition, and what has is a name; a list is that of the function
    abbrev pub Stands : Core → Type 0
    Stands (Of (Named d) place type under) = is_linked s sense d ≡ false → N d
    Stands (Of (Literal d) place type under) = N d
    Stands (Of (VarArgs d) place type under) = option_map (entity_of s sense) (defined_name s sense p) ≡ Some d
    Stands (Of (Block ds) place type under) = AllNear N ds
    Stands (Of (For ds c a) place type under) = AllNear N ds
    Stands c = ⊤

    once : DeclaredOnce s
    once = names_declared_once tokens tree tag_number (rooted_of s grown)

    module _ (f : ℕ → Sense) where
      -- a use of a name
      type_some : (l : ℕ) (t : Ctype) → type_behind s f l ≡ Some t → (d : Declared) × (ordinary_at s l ≡ Some d)
      type_some l t e = by (ordinary_at s l) refl e
        where
          by : (o : Option Declared) → ordinary_at s l ≡ o → all_together None (types_of s f (typing_declarations s o)) ≡ Some t → (d : Declared) × (ordinary_at s l ≡ Some d)
          by None at e = cc
          by (Some d) at e = (d, at)

      object_named : (at l q : ℕ) (t : Ctype) → N at → paired s.uses at ≡ Some l → parent_of s l ≡ Some q → is_a s p_enumerator q ≡ false → is_typedef s f l ≡ false → type_behind s f l ≡ Some t
          → is_linked s f (entity_of s f (named_by s f l)) ≡ false → N (entity_of s f (named_by s f l))
      object_named at l q t near paired_is above no_enumerator no_type typed off =
          let own = own_leaf s f once l off in
          let d = type_some l t typed in
          let unlinked : has_linkage d.0 ≡ false = sym (ap (λ (o : Option Declared). elim o as (λ _. Bool) [ None ↦ false | Some z ↦ has_linkage z ]) d.1) ∙ own.1 in
          let untyped : names_type d.0 ≡ false = sym (ap (λ (o : Option Declared). elim o as (λ _. Bool) [ None ↦ false | Some z ↦ names_type z ]) d.1) ∙ no_type in
          subst N (sym own.0)
          (uses_stay tokens tree tag_number (rooted_of s grown) listed p at l d.0 (external s grown lefts p is) near paired_is d.1 unlinked untyped
          (λ i h. let one : ◌≡◌ {A = Option ℕ} (Some q) (Some i) = sym above ∙ up s grown lefts i l h in let same : q ≡ i = cc in subst (λ (k : ℕ). is_a s p_enumerator k ≡ false) same no_enumerator))

      object_gives : (at l q : ℕ) (o : Option Ctype) → N at → paired s.uses at ≡ Some l → parent_of s l ≡ Some q → is_a s p_enumerator q ≡ false → is_typedef s f l ≡ false → type_behind s f l ≡ o
          → MeaningGives Stands (option_map (object_or_function s f (entity_of s f (named_by s f l))) o)
      object_gives at l q None near paired_is above no_enumerator no_type typed = tt
      object_gives at l q (Some t) near paired_is above no_enumerator no_type typed = by (is_function_type t)
        where
          by : (b : Bool) → MeaningGives Stands (Some (if b then Function (entity_of s f (named_by s f l)) t else Object (entity_of s f (named_by s f l)) t))
          by true = λ place. tt
          by false = λ place. object_named at l q t near paired_is above no_enumerator no_type typed

      declared_gives : (at l q : ℕ) → N at → paired s.uses at ≡ Some l → parent_of s l ≡ Some q → is_a s p_enumerator q ≡ false → MeaningGives Stands (declared_meaning s f l)
      declared_gives at l q near paired_is above no_enumerator = by (is_typedef s f l) refl
        where
          types : (o : Option Ctype) → MeaningGives Stands (option_map TypeName o)
          types None = tt
          types (Some t) = tt

          by : (b : Bool) → is_typedef s f l ≡ b → MeaningGives Stands (if b then option_map TypeName (own_type s f l) else option_map (object_or_function s f (entity_of s f (named_by s f l))) (type_behind s f l))
          by true e = types (own_type s f l)
          by false e = object_gives at l q (type_behind s f l) near paired_is above no_enumerator e refl

      meaning_gives : (at l : ℕ) → N at → paired s.uses at ≡ Some l → MeaningGives Stands (meaning_of s f l)
      meaning_gives at l near paired_is = by (parent_of s l) refl
        where
          values : (x : Sense) → MeaningGives Stands (elim x as (λ _. Option Meaning) [ IsValue n ↦ Some (Value n) | _ ↦ None ])
          values (IsValue n) = tt
          values x = tt

          of_parent : (q : ℕ) → parent_of s l ≡ Some q → (b : Bool) → is_a s p_enumerator q ≡ b → MeaningGives Stands (if b then enumerated s f q else declared_meaning s f l)
          of_parent q e true is_one = values (f q)
          of_parent q e false is_none = declared_gives at l q near paired_is e is_none

          by : (o : Option ℕ) → parent_of s l ≡ o → MeaningGives Stands (elim o as (λ _. Option Meaning) [ None ↦ None | Some q ↦ if is_a s p_enumerator q then enumerated s f q else declared_meaning s f l ])
          by None e = tt
          by (Some q) e = of_parent q e (is_a s p_enumerator q) refl

      use_gives : (at : ℕ) → N at → MeaningGives Stands (meaning_at s f at)
      use_gives at near = by (paired s.uses at) refl
        where
          by : (o : Option ℕ) → paired s.uses at ≡ o → MeaningGives Stands (option_and_then (meaning_of s f) o)
          by None e = tt
          by (Some l) e = meaning_gives at l near e

      -- a compound literal
      parent_near : (at q : ℕ) → N at → parent_of s at ≡ Some q → (q ≡ p) ⊎ N q
      parent_near at q (part r) e = let one : ◌≡◌ {A = Option ℕ} (Some q) (Some p) = sym e ∙ up s grown lefts p at r in inl (let same : q ≡ p = cc in same)
      parent_near at q (deeper {i = i} b r) e = let one : ◌≡◌ {A = Option ℕ} (Some q) (Some i) = sym e ∙ up s grown lefts i at r in inr (subst N (let same : i ≡ q = cc in same) b)

      opening_near : (w : World) (at q : ℕ) → N at → parent_of s at ≡ Some q → (is_a s p_cast q || is_a s p_unary q) ≡ true → N (opening w s f q)
      opening_near w at q near above over = by (parent_near at q near above)
        where
          of_cast : (a b : Bool) → is_a s p_cast q ≡ a → is_a s p_unary q ≡ b → (a || b) ≡ true → q ≡ p → ⊥
          of_cast true b ea eb e same = no_two s grown lefts p p_external p_cast (external s grown lefts p is) refl (subst (λ (k : ℕ). is_a s p_cast k ≡ true) same ea)
          of_cast false true ea eb e same = no_two s grown lefts p p_external p_unary (external s grown lefts p is) refl (subst (λ (k : ℕ). is_a s p_unary k ≡ true) same eb)
          of_cast false false ea eb e same = cc

          or_self : (o : Option ℕ) → IfNear N o → N q → N (elim o as (λ _. ℕ) [ None ↦ q | Some leaf ↦ leaf ])
          or_self None h n = n
          or_self (Some leaf) h n = h

          by : (q ≡ p) ⊎ N q → N (opening w s f q)
          by (inl same) = absurd (of_cast (is_a s p_cast q) (is_a s p_unary q) refl refl over same)
          by (inr n) = or_self (first_where (has_sign s sign_left_parenthesis) (children_at s q)) (first_near N (has_sign s sign_left_parenthesis) (children_at s q) (all_near N (children_at s q) (λ c h. (closed s grown lefts p).parts q c h n))) n

      -- the objects that are listed
      module _ (w : World) (each : (c : ℕ) → N c → OfSense s N Stands (f c)) where
        both_near : (a b : List ℕ) → AllNear N a → AllNear N b → AllNear N (a ++ b)
        both_near [] b h k = k
        both_near (x ∷ a) b h k = (h.0, both_near a b h.1 k)

        one_or : (b : Bool) (leaf : ℕ) → N leaf → AllNear N (if b then leaf ∷ [] else [])
        one_or true leaf n = (n, tt)
        one_or false leaf n = tt

        name_listed : (x : Sense) → OfSense s N Stands x → AllNear N (automatic_name w s f x)
        name_listed (IsDeclarator None ds) h = tt
        name_listed (IsDeclarator (Some leaf) ds) h = one_or (is_automatic_object w s f leaf) leaf h.0
        name_listed x h = tt

        among_near : (list : List ℕ) → AllNear N list → AllNear N (objects_among w s f list)
        among_near [] h = tt
        among_near (c ∷ rest) h = by (is_a s p_declarator c) (among_near rest h.1)
          where
            by : (b : Bool) → AllNear N (objects_among w s f rest) → AllNear N (if b then automatic_name w s f (f c) ++ objects_among w s f rest else objects_among w s f rest)
            by true more = both_near (automatic_name w s f (f c)) (objects_among w s f rest) (name_listed (f c) (each c h.0)) more
            by false more = more

        parts_near : (i : ℕ) → N i → AllNear N (children_at s i)
        parts_near i n = all_near N (children_at s i) (λ c h. (closed s grown lefts p).parts i c h n)

        rest_near : (list : List ℕ) → AllNear N list → AllNear N (objects_in_rest w s f list)
        rest_near [] h = tt
        rest_near (c ∷ rest) h = by (is_a s p_rest c) (rest_near rest h.1)
          where
            by : (b : Bool) → AllNear N (objects_in_rest w s f rest) → AllNear N (if b then objects_among w s f (children_at s c) else objects_in_rest w s f rest)
            by true more = among_near (children_at s c) (parts_near c h.0)
            by false more = more

        declared_near : (d : ℕ) → N d → AllNear N (objects_declared w s f d)
        declared_near d n = both_near (objects_among w s f (children_at s d)) (objects_in_rest w s f (children_at s d)) (among_near (children_at s d) (parts_near d n)) (rest_near (children_at s d) (parts_near d n))

        objects_near : (list : List ℕ) → AllNear N list → AllNear N (objects_in w s f list)
        objects_near [] h = tt
        objects_near (c ∷ rest) h = by (is_a s p_declaration c) (objects_near rest h.1)
          where
            by : (b : Bool) → AllNear N (objects_in w s f rest) → AllNear N (if b then objects_declared w s f c ++ objects_in w s f rest else objects_in w s f rest)
            by true more = both_near (objects_declared w s f c) (objects_in w s f rest) (declared_near c h.0) more
            by false more = more

    list_gives : FurtherKnown s senses → (n : ℕ) → n < length senses → ListsGive Stands (world_at s (take n senses) n)
    list_gives further n lt entity function place at type near e =
        let known = further n entity function lt e in
        sym (ap (option_map (entity_of s sense)) (around_is s grown lefts p is sense entity (near known.0))) ∙ known.1

    row_gives : FurtherKnown s senses → (n : ℕ) → n < length senses → N n → ((c : ℕ) → N c → OfSense s N Stands (sense_in (take n senses) c)) → RowGives Stands (world_at s (take n senses) n) s (sense_in (take n senses)) n (children_at s n)
    row_gives further n lt near each = record {
      lists = list_gives further n lt;
      names = λ leaf h. use_gives (sense_in (take n senses)) leaf ((closed s grown lefts p).parts n leaf h near);
      objects = λ declarator leaf by named paths values fixed. tt;
      initials = λ q above paths values over fixed. tt;
      literals = λ q above type initial over. opening_near (sense_in (take n senses)) (world_at s (take n senses) n) n q near above over;
      blocks = λ is_one place under. objects_near (sense_in (take n senses)) (world_at s (take n senses) n) each (children_at s n) (all_near N (children_at s n) (λ c h. (closed s grown lefts p).parts n c h near));
      plains = λ c a place under. tt;
      fors = λ is_statement d h is_one c a place under. declared_near (sense_in (take n senses)) (world_at s (take n senses) n) each d ((closed s grown lefts p).parts n d h near);
    }

    -- each tree of a node below the definition
    pub trees_stand : FurtherKnown s senses → (i : ℕ) → N i → OfSense s N Stands (sense_in senses i)
    trees_stand further i near = near_kept Stands s senses N are (closed s grown lefts p) (row_gives further) i near
