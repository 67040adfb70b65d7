-- Compound literals that are kept stand in blocks, or in external declarations without one.
use Rattle.std.proofs.Common.{◌≡◌, ◌⊎◌, inl, inr, ℕ, zero, suc, ◌==◌, ◌&&◌, ◌||◌, not, nat_lt, Bool, true, false, List, ◌∷◌, length, Option, Some, None, refl, sym, ap, ◌∙◌, subst}
use Rattle.std.specs.Prelude.{⊤, is_some, option_map, option_and_then, if◌then◌else◌}
use Rattle.std.proofs.lemmas.Bool.{eqb-true, and_parts, or_cases}
use Rattle.c_types.specs.Trees.{Ctype}
use Rattle.core_tree.specs.declared.node.Linkage.{Linkage}
use Rattle.core_tree.specs.declared.node.Linkage.TheVariants.{External, Internal, Local}
use Rattle.core_tree.specs.declared.node.Storage.TheVariants.{Static, Automatic}
use Rattle.core_tree.specs.declared.node.NodeKind.{NodeKind}
use Rattle.core_tree.specs.declared.node.NodeKind.TheVariants.{Literal}
use Rattle.c_grammar.specs.Productions.{p_external, p_rest, p_declaration, p_declarator, p_parameter, p_field, p_block, p_cast, p_unary, p_post}
use Rattle.c_grammar.specs.Words.{sign_left_parenthesis}
use Rattle.c_consts.specs.Core.{Core, Cores, Of, NoCores, MoreCores, kind_of, core_in}
use Rattle.c_senses.specs.Tree.{Source, is_a, is_name, has_sign, production_at, children_at, parent_of, child_of, first_where, last_where, nearest_above, left_of}
use Rattle.c_senses.specs.World.{World, Meaning, Object, Function, TypeName, Tag, Value}
use Rattle.c_senses.specs.Sense.{Sense, IsCore, IsInitial, sense_in}
use Rattle.c_senses.specs.Rows.{AreSenses, world_at}
use Rattle.c_senses.specs.Declarators.{outermost_of, declaration_around}
use Rattle.c_senses.specs.Entities.{keep, first_of, is_linked, linkage_of, is_defined, is_automatic_storage, storage_of, declaration_of, initialiser_of, initialiser_for, initialised_by, defined_name}
use Rattle.c_senses.specs.Initialised.{is_in_body, opening}
use Rattle.c_senses.specs.Right.{IsLiteralOf, literal_storage, Within, Itself, Below, IsPart, of_internal, is_tentative, is_definition_at, is_declaring, stands_in_declaration, declares_entity, entity_type, declared_as, declared_name, representative, body_at, block_for, core_of_sense}
use Rattle.c_senses.specs.Right as right
use Rattle.core_node_laws.specs.near_nodes.Holding.{Asks, Holds, AllHold, OfSense, MeaningGives, RowGives, Closed}
use Rattle.core_node_laws.proofs.near_nodes.All.{near_kept}
use Rattle.parsed_tree_laws.proofs.placed_laws.Climbing.{Grown}
use Rattle.core_node_laws.specs.standing_laws.Standing.{IsGrown}
use Rattle.core_node_laws.proofs.standing_laws.Climbing.{in_list, parent_is, parent_holds}
use Rattle.parsed_tree_laws.specs.family_laws.Families.{IsChild}
use Rattle.parsed_tree_laws.specs.grown_parts.Parts.{IsBrought}
use Rattle.valid_unit_laws.proofs.object_initialiser_laws.static_value_laws.fixed_laws.PassedOn.{known_at, world_of}
use Rattle.valid_unit_laws.proofs.object_initialiser_laws.static_value_laws.fixed_laws.PassedOn.{last_found}
use Rattle.declaration_laws.specs.function_laws.passed.definition_laws.Definitions.{is_definition, InDefinition}
use Rattle.declaration_laws.specs.function_laws.passed.definition_laws.linkage_laws.Linked.{StandsLinked}
use Rattle.declaration_laws.proofs.function_laws.passed.definition_laws.linkage_laws.Seen.{list_in}
use Rattle.declaration_laws.proofs.function_laws.passed.definition_laws.linkage_laws.Linked.{Tree, linked_named, declaration_is}
use Rattle.declaration_laws.proofs.function_laws.passed.definition_laws.linkage_laws.Unlinked.{IsInternal, stands_for}
use Rattle.core_node_laws.proofs.count_laws.once_nodes.Rooted.{initial_of, found_where}
use Rattle.valid_unit_laws.specs.object_initialiser_laws.static_value_laws.fixed_laws.PassedOn.{InitialisersAreOf}
use Rattle.declaration_laws.specs.declared_type_laws.passed.owner_laws.left_laws.PassedOn.{LeftsStand}
use Rattle.declaration_laws.proofs.declared_type_laws.passed.owner_laws.left_laws.PassedOn.{literal_unnamed}
use Rattle.valid_unit_laws.specs.object_initialiser_laws.static_value_laws.fixed_laws.Fixed.{LiteralsStatic}
use Rattle.valid_unit_laws.proofs.object_initialiser_laws.static_value_laws.fixed_laws.Declarators.{declarators_are}
use Rattle.valid_unit_laws.proofs.object_initialiser_laws.static_value_laws.static_literals.Chains.{is_top, Chained, top, up, chain_found, rest_chained, no_definition}

none_some : {X : Type 0} → {x : X} → ◌≡◌ {A = Option X} None (Some x) → ⊥
none_some h = cc

some_one : {X : Type 0} → {x y : X} → ◌≡◌ {A = Option X} (Some x) (Some y) → x ≡ y
some_one h = cc

no_both : (b : Bool) → b ≡ true → b ≡ false → ⊥
no_both b e f = let both : true ≡ false = sym e ∙ f in cc

module _ (s : Source) (senses : List Sense) (are : AreSenses s senses) (whole : length senses ≡ length s.nodes) (grown : IsGrown s) (tree : Grown s) (brought : IsBrought s) (own : InitialisersAreOf s) (linked_tree : Tree s)
    (each : (leaf : ℕ) → is_linked s (sense_in senses) leaf ≡ true → StandsLinked s (sense_in senses) leaf) (defined : (i : ℕ) → is_a s p_declaration i ≡ true → InDefinition s i) (lefts : LeftsStand s) where
  abbrev G : ℕ → Sense
  G = sense_in senses

  abbrev Near : ℕ → Type 0
  Near i = Chained s (is_top s) i ⊎ ((is_a s p_block i ≡ true) × ((p : ℕ) × IsChild s p i × (is_a s p_external p ≡ true)))

  abbrev AsksKept : Core → Type 0
  AsksKept (Of (Literal d) place type under) = Chained s (is_top s) d
  AsksKept c = ⊤

  apart : (i a b : ℕ) → is_a s a i ≡ true → (a == b) ≡ false → is_a s b i ≡ false
  apart i a b is other = ap (λ (q : ℕ). q == b) (eqb-true (production_at s i) a is) ∙ other

  block_top : (i : ℕ) → is_a s p_block i ≡ true → is_top s i ≡ true
  block_top i h = ap (λ (b : Bool). b || (is_a s p_external i && not (is_some (child_of s p_block i)))) h

  part_near : (i c : ℕ) → IsChild s i c → Near i → Near c
  part_near i c child (inl chain) = inl (up chain child)
  part_near i c child (inr (block, rest)) = inl (top (block_top i block) child)

  left_near : (i first : ℕ) (rest : List ℕ) → is_a s p_post i ≡ true → children_at s i ≡ first ∷ rest → Near i → Near (left_of s first)
  left_near i first rest post are_parts (inl (top {p = p} is child)) = inl (top is (in_list (children_at s p) (left_of s first) (lefts i first p rest post are_parts (list_in (children_at s p) child.0 i child.1))))
  left_near i first rest post are_parts (inl (up {p = p} more child)) = inl (up more (in_list (children_at s p) (left_of s first) (lefts i first p rest post are_parts (list_in (children_at s p) child.0 i child.1))))
  left_near i first rest post are_parts (inr (block, more)) = absurd (no_both (is_a s p_block i) block (apart i p_post p_block post refl))

  closed : Closed s Near
  closed = record { parts = λ i c h near. part_near i c h near; lefts = λ i first rest post are_parts near. left_near i first rest post are_parts near }

  over_apart : (p b : ℕ) → (is_a s p_cast p || is_a s p_unary p) ≡ true → (p_cast == b) ≡ false → (p_unary == b) ≡ false → is_a s b p ≡ false
  over_apart p b over cast unary = elim (or_cases (is_a s p_cast p) (is_a s p_unary p) over) [ inl h ↦ apart p p_cast b h cast | inr h ↦ apart p p_unary b h unary ]

  two_off : (a b c : Bool) → a ≡ false → b ≡ false → (a || (b && c)) ≡ false
  two_off true b c e f = cc
  two_off false true c e f = cc
  two_off false false c e f = refl

  over_chained : (n p : ℕ) → Near n → parent_of s n ≡ Some p → (is_a s p_cast p || is_a s p_unary p) ≡ true → Chained s (is_top s) p
  over_chained n p (inl (top {p = q} is child)) parent over =
      let same : q ≡ p = some_one (sym (parent_is s grown q n child) ∙ parent) in
      absurd (no_both (is_top s p) (subst (λ (x : ℕ). is_top s x ≡ true) same is) (two_off (is_a s p_block p) (is_a s p_external p) (not (is_some (child_of s p_block p))) (over_apart p p_block over refl refl) (over_apart p p_external over refl refl)))
  over_chained n p (inl (up {p = q} more child)) parent over = subst (Chained s (is_top s)) (some_one (sym (parent_is s grown q n child) ∙ parent)) more
  over_chained n p (inr (block, (q, child, external))) parent over =
      let same : q ≡ p = some_one (sym (parent_is s grown q n child) ∙ parent) in
      absurd (no_both (is_a s p_external p) (subst (λ (x : ℕ). is_a s p_external x ≡ true) same external) (over_apart p p_external over refl refl))

  opening_chained : (w : World) (f : ℕ → Sense) (p : ℕ) → Chained s (is_top s) p → Chained s (is_top s) (opening w s f p)
  opening_chained w f p chain = by (first_where (has_sign s sign_left_parenthesis) (children_at s p)) refl
    where
      by : (o : Option ℕ) → first_where (has_sign s sign_left_parenthesis) (children_at s p) ≡ o → Chained s (is_top s) (elim o as (λ _. ℕ) [ None ↦ p | Some leaf ↦ leaf ])
      by None e = chain
      by (Some leaf) e = up chain (found_where (has_sign s sign_left_parenthesis) (children_at s p) leaf e).1

  meaning_asks : (o : Option Meaning) → MeaningGives AsksKept o
  meaning_asks None = tt
  meaning_asks (Some (Object e t)) = λ place. tt
  meaning_asks (Some (Function e t)) = λ place. tt
  meaning_asks (Some (TypeName t)) = tt
  meaning_asks (Some (Tag tag)) = tt
  meaning_asks (Some (Value n)) = tt

  gives : (n : ℕ) → Near n → RowGives AsksKept (world_of s senses n) s (known_at s senses n) n (children_at s n)
  gives n near = record {
    names = λ leaf has. meaning_asks ((world_of s senses n).meaning leaf);
    lists = λ entity function place at type asked e. tt;
    objects = λ declarator leaf by_it name paths values fixed. tt;
    initials = λ p parent paths values over fixed. tt;
    literals = λ p parent type initial over. opening_chained (world_of s senses n) (known_at s senses n) p (over_chained n p near parent over);
    blocks = λ is place under. tt;
    plains = λ c a place under. tt;
    fors = λ is declaration has production c a place under. tt;
  }

  kept : (i : ℕ) → Near i → OfSense s Near AsksKept (G i)
  kept i near = near_kept AsksKept s senses Near are closed (λ n lt here before. gives n here) i near

  -- ---- in trees

  part_in : (under : Cores) (k : ℕ) (c : Core) → AllHold AsksKept under → core_in under k ≡ Some c → Holds AsksKept c
  part_in NoCores k c h e = cc
  part_in (MoreCores x rest) zero c h e = subst (Holds AsksKept) (let same : x ≡ c = cc in same) h.0
  part_in (MoreCores x rest) (suc k) c h e = part_in rest k c h.1 e

  part_held : (part c : Core) → Holds AsksKept c → IsPart s senses part c → Holds AsksKept part
  part_held part (Of kind place type under) h p = part_in under p.0 part h.1 p.1

  within_held : (c body : Core) → Within s senses c body → Holds AsksKept body → Holds AsksKept c
  within_held c body Itself h = h
  within_held c body (Below {part = part} p inner) h = within_held c part inner (part_held part body h p)

  of_sense : (x : Sense) (c : Core) → OfSense s Near AsksKept x → core_of_sense s senses x ≡ Some c → Holds AsksKept c
  of_sense (IsCore y) c h e = subst (Holds AsksKept) (some_one e) h
  of_sense (IsInitial y n) c h e = subst (Holds AsksKept) (some_one e) h
  of_sense x c h e = cc

  asked : (c : Core) (leaf : ℕ) → Holds AsksKept c → kind_of c ≡ Literal leaf → Chained s (is_top s) leaf
  asked (Of kind place type under) leaf h e = subst (λ (k : NodeKind). Asks AsksKept k place type under) e h.0

  -- ---- bodies

  declared_there : (r : ℕ) → stands_in_declaration s senses r ≡ true → (d : ℕ) × (declaration_of s G r ≡ Some d)
  declared_there r h = by (declaration_of s G r) refl h
    where
      by : (o : Option ℕ) → declaration_of s G r ≡ o → (elim o as (λ _. Bool) [ None ↦ false | Some p ↦ is_a s p_external p || (is_a s p_declaration p || (is_a s p_parameter p && right.is_defined_parameter s senses r)) ]) ≡ true → (d : ℕ) × (declaration_of s G r ≡ Some d)
      by None e k = cc
      by (Some d) e k = (d, e)

  -- the declaration of what stands for a declared name
  stands_declared : (d : ℕ) → stands_in_declaration s senses d ≡ true → (a : ℕ) × (declaration_of s G (representative s senses d) ≡ Some a)
  stands_declared d h = by (linkage_of s G d) refl
    where
      chosen : Linkage → ℕ
      chosen l =
          elim l as (λ _. ℕ) [
            | Internal ↦ first_of s G (first_of s G d (keep s G (is_tentative s senses) (of_internal s senses d))) (keep s G (is_definition_at s senses) (of_internal s senses d))
            | _ ↦ d
          ]

      plain : (l : Linkage) → linkage_of s G d ≡ l → (elim l as (λ _. ℕ) [ Internal ↦ first_of s G (first_of s G d (keep s G (is_tentative s senses) (of_internal s senses d))) (keep s G (is_definition_at s senses) (of_internal s senses d)) | _ ↦ d ]) ≡ d
          → (a : ℕ) × (declaration_of s G (representative s senses d) ≡ Some a)
      plain l e same =
          let one : representative s senses d ≡ d =
          ap (λ (k : Linkage). elim k as (λ _. ℕ) [ Internal ↦ first_of s G (first_of s G d (keep s G (is_tentative s senses) (of_internal s senses d))) (keep s G (is_definition_at s senses) (of_internal s senses d)) | _ ↦ d ]) e ∙ same in
          let there = declared_there d h in
          (there.0, ap (declaration_of s G) one ∙ there.1)

      left : (a b : Bool) → (a && b) ≡ true → a ≡ true
      left true b e = refl
      left false b e = cc

      by : (l : Linkage) → linkage_of s G d ≡ l → (a : ℕ) × (declaration_of s G (representative s senses d) ≡ Some a)
      by External e = plain External e refl
      by Local e = plain Local e refl
      by Internal e =
          let internal : IsInternal s senses each (representative s senses d) = stands_for s senses each d e in
          let linked : is_linked s G (representative s senses d) ≡ true = left (is_linked s G (representative s senses d)) _ internal in
          let (y, at, kind, named) = linked_named s linked_tree senses are whole (representative s senses d) linked in
          (named.at.declaration, declaration_is s linked_tree senses are whole (representative s senses d) y named)

  -- the rest of a declaration in which an initialiser stands is a part of it
  rest_part : (r a q i o : ℕ) → declaration_of s G r ≡ Some a → outermost_of s r ≡ Some o → parent_of s i ≡ Some q → is_a s p_rest q ≡ true → initialised_by s G i ≡ Some o → (p : ℕ) × (parent_of s q ≡ Some p)
  rest_part r a q i o declaration outer parent rest by_it = by (last_where (λ c. is_a s p_declarator c && nat_lt c i) (children_at s q)) refl there
    where
      there : (elim (last_where (λ c. is_a s p_declarator c && nat_lt c i) (children_at s q)) as (λ _. Option ℕ) [ Some d ↦ Some d | None ↦ option_and_then (child_of s p_declarator) (parent_of s q) ]) ≡ Some o
      there =
          sym (ap (λ (x : Option ℕ). elim x as (λ _. Option ℕ) [
            | None ↦ None
            | Some p ↦ elim (last_where (λ c. is_a s p_declarator c && nat_lt c i) (children_at s p)) as (λ _. Option ℕ) [ Some d ↦ Some d | None ↦ option_and_then (child_of s p_declarator) (parent_of s p) ]
          ]) parent) ∙ by_it

      over : (x : Option ℕ) → parent_of s q ≡ x → option_and_then (child_of s p_declarator) x ≡ Some o → (p : ℕ) × (parent_of s q ≡ Some p)
      over None e h = cc
      over (Some p) e h = (p, e)

      by : (x : Option ℕ) → last_where (λ c. is_a s p_declarator c && nat_lt c i) (children_at s q) ≡ x → (elim x as (λ _. Option ℕ) [ Some d ↦ Some d | None ↦ option_and_then (child_of s p_declarator) (parent_of s q) ]) ≡ Some o → (p : ℕ) × (parent_of s q ≡ Some p)
      by None e h = over (parent_of s q) refl h
      by (Some d) e h =
          let inside = last_found (λ c. is_a s p_declarator c && nat_lt c i) (children_at s q) o (e ∙ h) in
          let above : parent_of s o ≡ Some q = parent_is s grown q o (in_list (children_at s q) o inside.0) in
          (a, sym (ap (λ (b : Bool). if b || is_a s p_field q then parent_of s q else Some q) rest) ∙ (sym (ap (λ (x : Option ℕ). option_and_then (declaration_around s) (option_and_then (parent_of s) x)) outer ∙ ap (option_and_then (declaration_around s)) above) ∙ declaration))

  initial_near : (r a i : ℕ) → declaration_of s G r ≡ Some a → initialiser_for s G r ≡ Some i → Near i
  initial_near r a i declaration e = by (outermost_of s r) refl e
    where
      by : (x : Option ℕ) → outermost_of s r ≡ x → option_and_then (initialiser_of s G) x ≡ Some i → Near i
      by None outer init = cc
      by (Some o) outer init =
          let (q, rest, at) = initial_of s G r i e in
          let by_it : initialised_by s G i ≡ Some o = own G o i (declarators_are s grown brought G r o i outer init) init in
          let (p, above) = rest_part r a q i o declaration outer (parent_is s grown q i at) rest by_it in
          inl (rest_chained s grown tree brought p q i (in_list (children_at s p) q (parent_holds s grown p q above)) at rest (λ is. defined p is))

  body_held : (d : ℕ) (c : Core) → stands_in_declaration s senses d ≡ true → body_at s senses (representative s senses d) ≡ Some c → Holds AsksKept c
  body_held d c stands body = by (is_defined s G (representative s senses d)) refl (block_for s senses (representative s senses d)) refl (initialiser_for s G (representative s senses d)) refl body
    where
      in_definition : (o : Option ℕ) (b : ℕ) → declaration_of s G (representative s senses d) ≡ o → option_and_then (child_of s p_block) o ≡ Some b → (elim o as (λ _. Bool) [ None ↦ false | Some p ↦ is_a s p_external p && is_some (child_of s p_block p) ]) ≡ true → Near b
      in_definition None b e f h = cc
      in_definition (Some p) b e f h =
          let there = found_where (is_a s p_block) (children_at s p) b f in
          inr (there.0, (p, there.1, (and_parts (is_a s p_external p) _ h).0))

      by : (x : Bool) → is_defined s G (representative s senses d) ≡ x → (o : Option ℕ) → block_for s senses (representative s senses d) ≡ o → (k : Option ℕ) → initialiser_for s G (representative s senses d) ≡ k
          → (if x then option_and_then (λ b. core_of_sense s senses (G b)) o else option_and_then (λ b. core_of_sense s senses (G b)) k) ≡ Some c → Holds AsksKept c
      by true is None block k init e = cc
      by true is (Some b) block k init e = of_sense (G b) c (kept b (in_definition (declaration_of s G (representative s senses d)) b refl block is)) e
      by false is o block None init e = cc
      by false is o block (Some i) init e =
          let (a, declaration) = stands_declared d stands in
          of_sense (G i) c (kept i (initial_near (representative s senses d) a i declaration init)) e

  declared_held : (d : ℕ) (what : right.Declared) (c : Core) → declared_name s senses d ≡ Some what → what.body ≡ Some c → Holds AsksKept c
  declared_held d what c e body = by (declares_entity s senses d) (entity_type s senses d) refl e
    where
      by : (b : Bool) (o : Option Ctype) → declares_entity s senses d ≡ b → (if b then option_map (declared_as s senses d) o else None) ≡ Some what → Holds AsksKept c
      by false o q e = absurd (none_some e)
      by true None q e = absurd (none_some e)
      by true (Some t) q e =
          let same : declared_as s senses d t ≡ what = some_one e in
          let second = (and_parts (is_declaring s senses d) _ q).1 in
          body_held d c (and_parts (stands_in_declaration s senses d) _ second).0 (ap (λ (x : right.Declared). x.body) same ∙ body)

  literal_chained : (leaf : ℕ) (c : Core) → IsLiteralOf s senses leaf c → Chained s (is_top s) leaf
  literal_chained leaf c (kind, (d, what, body, named, has, within)) = asked c leaf (within_held c body within (declared_held d what body named has)) kind

  pub literals_are : LiteralsStatic s senses
  literals_are leaf c literal free =
      let plain : is_name s leaf ≡ false = literal_unnamed s senses are leaf c literal in
      let body : is_some (nearest_above s (λ k. is_a s p_block k) leaf) ≡ false =
      sym (ap (λ (b : Bool). if b then is_automatic_storage s G (storage_of s G leaf) else is_in_body (world_at s senses (length senses)) s G leaf) plain) ∙ free in
      let none : nearest_above s (is_definition s) leaf ≡ None =
      no_definition s grown tree brought leaf (literal_chained leaf c literal) (λ chain. no_both _ (chain_found s grown tree brought (λ k. is_a s p_block k) leaf chain) body) in
      ap (λ (o : Option ℕ). if is_some (option_and_then (defined_name s G) o) then Automatic else Static) none
