-- Where the nodes of a tree stand, by their parents.
use Rattle.std.proofs.Common.{arith, ◌≡◌, ◌<◌, ◌+◌, ℕ, zero, suc, nat_eq, Bool, true, false, ◌&&◌, ◌||◌, ◌==◌, List, [], ◌∷◌, Option, Some, None, length, slice_get, refl, sym, ap, ◌∙◌, subst, ◌⊎◌, inl, inr}
use Rattle.std.specs.Prelude.{if◌then◌else◌}
use Rattle.std.proofs.lemmas.Bool.{eqb-true}
use Rattle.c_lexer.specs.declared.Token.{Token}
use Rattle.c_grammar.specs.Reads.{Node}
use Rattle.c_grammar.specs.Terminals.{contains}
use Rattle.c_grammar.specs.Productions.{p_external, p_rest, p_declaration, p_specs, p_type, p_struct, p_members, p_enum, p_enumerators, p_enumerator, p_declarator, p_either, p_parameter, p_block, p_statement, p_primary}
use Rattle.c_mentions.specs.declared.roles.Role.{Role}
use Rattle.c_mentions.specs.declared.roles.Role.TheVariants as role
use Rattle.c_mentions.specs.declared.roles.TagUse.TheVariants as tag
use Rattle.c_mentions.specs.declared.declarators.Declarator.{Declarator}
use Rattle.c_mentions.specs.declared.mentions.Mention.TheVariants as mention
use Rattle.c_mentions.specs.Syntax as syntax
use Rattle.c_mentions.specs.Declarators.{declarator}
use Rattle.c_mentions.specs.Roles.{handed, in_declaration, by_specs, in_specs, in_type, is_alone, in_struct, in_enum, in_statement, selects, is_body, is_function}
use Rattle.c_mentions.specs.Mentions.{mention_at, leaf_mention, name_used, label_used, is_type_word, is_list_word, is_exempt, end_mention, declarator_mention, enumerator_mention, at_leaf, name_declared, enumerator_leaf, name_at}
use Rattle.c_mentions.specs.Settings.{Standing, standing, standings, handed_down, outermost}

module _ (tokens : List Token) (nodes : List Node) where
  -- where a node stands: outside of all where it has no parent, else where its parent hands it down
  abbrev Origin : ℕ → ℕ → List Node → List Standing → Standing → Type 0
  Origin c m ns ss st =
      ((st ≡ outermost (length nodes)) × ((k : ℕ) (n : Node) → slice_get ns k ≡ Some n → contains n.children c ≡ false))
      ⊎ ((k : ℕ) × (n : Node) × (sp : Standing) × (slice_get ns k ≡ Some n) × (contains n.children c ≡ true) × (slice_get ss k ≡ Some sp) × (st ≡ handed_down tokens nodes (m + k) sp))

  origin : (c m : ℕ) (ns : List Node) → Origin c m ns (standings tokens nodes m ns) (standing tokens nodes c m ns (standings tokens nodes m ns))
  origin c m [] = inl (refl, λ k n e. cc)
  origin c m (x ∷ ns) = by (contains x.children c) refl (origin c (m + 1) ns)
    where
      ss : List Standing
      ss = standings tokens nodes (m + 1) ns

      own : Standing
      own = standing tokens nodes m (m + 1) ns (standings tokens nodes (m + 1) ns)

      by : (b : Bool) → contains x.children c ≡ b → Origin c (m + 1) ns (standings tokens nodes (m + 1) ns) (standing tokens nodes c (m + 1) ns (standings tokens nodes (m + 1) ns))
          → Origin c m (x ∷ ns) (standing tokens nodes m (m + 1) ns (standings tokens nodes (m + 1) ns) ∷ standings tokens nodes (m + 1) ns)
          (if b then handed_down tokens nodes m (standing tokens nodes m (m + 1) ns (standings tokens nodes (m + 1) ns)) else standing tokens nodes c (m + 1) ns (standings tokens nodes (m + 1) ns))
      by true e later = let plus : m ≡ m + 0 = omega arith in inr (0, x, standing tokens nodes m (m + 1) ns (standings tokens nodes (m + 1) ns), refl, e, refl, ap (λ (n : ℕ). handed_down tokens nodes n (standing tokens nodes m (m + 1) ns (standings tokens nodes (m + 1) ns))) plus)
      by false e (inl (same, none)) = inl (same, λ k n f. at k n f)
        where
          at : (k : ℕ) (n : Node) → slice_get (x ∷ ns) k ≡ Some n → contains n.children c ≡ false
          at zero n f = let one : x ≡ n = cc in subst (λ (y : Node). contains y.children c ≡ false) one e
          at (suc k) n f = none k n f
      by false e (inr (k, n, sp, at, has, there, same)) =
          let plus : m + 1 + k ≡ m + suc k = omega arith in
          inr (suc k, n, sp, at, has, there, same ∙ ap (λ (y : ℕ). handed_down tokens nodes y sp) plus)

  -- of the node at an offset
  abbrev OriginAt : ℕ → List Node → ℕ → Standing → Type 0
  OriginAt i ns j st =
      ((st ≡ outermost (length nodes)) × ((k : ℕ) (n : Node) → j < k → slice_get ns k ≡ Some n → contains n.children (i + j) ≡ false))
      ⊎ ((k : ℕ) × (n : Node) × (sp : Standing) × (slice_get ns k ≡ Some n) × (contains n.children (i + j) ≡ true) × (slice_get (standings tokens nodes i ns) k ≡ Some sp) × (st ≡ handed_down tokens nodes (i + k) sp))

  origins : (i : ℕ) (ns : List Node) (j : ℕ) (st : Standing) → slice_get (standings tokens nodes i ns) j ≡ Some st → OriginAt i ns j st
  origins i [] j st e = cc
  origins i (x ∷ ns) zero st e = by (origin i (i + 1) ns)
    where
      same : standing tokens nodes i (i + 1) ns (standings tokens nodes (i + 1) ns) ≡ st
      same = cc

      zero_is : i ≡ i + 0
      zero_is = omega arith

      by : Origin i (i + 1) ns (standings tokens nodes (i + 1) ns) (standing tokens nodes i (i + 1) ns (standings tokens nodes (i + 1) ns)) → OriginAt i (x ∷ ns) 0 st
      by (inl (out, none)) = inl (sym same ∙ out, λ k n lt f. at k n lt f)
        where
          at : (k : ℕ) (n : Node) → 0 < k → slice_get (x ∷ ns) k ≡ Some n → contains n.children (i + 0) ≡ false
          at zero n lt f = absurd (omega (arith, lt))
          at (suc k) n lt f = subst (λ (y : ℕ). contains n.children y ≡ false) zero_is (none k n f)
      by (inr (k, n, sp, at, has, there, handed_is)) =
          let plus : i + 1 + k ≡ i + suc k = omega arith in
          inr (suc k, n, sp, at, subst (λ (y : ℕ). contains n.children y ≡ true) zero_is has, there, sym same ∙ (handed_is ∙ ap (λ (y : ℕ). handed_down tokens nodes y sp) plus))
  origins i (x ∷ ns) (suc j) st e = by (origins (i + 1) ns j st e)
    where
      plus_j : i + 1 + j ≡ i + suc j
      plus_j = omega arith

      by : OriginAt (i + 1) ns j st → OriginAt i (x ∷ ns) (suc j) st
      by (inl (out, none)) = inl (out, λ k n lt f. at k n lt f)
        where
          at : (k : ℕ) (n : Node) → suc j < k → slice_get (x ∷ ns) k ≡ Some n → contains n.children (i + suc j) ≡ false
          at zero n lt f = absurd (omega (arith, lt))
          at (suc k) n lt f = subst (λ (y : ℕ). contains n.children y ≡ false) plus_j (none k n (omega (arith, lt)) f)
      by (inr (k, n, sp, at, has, there, handed_is)) =
          let plus : i + 1 + k ≡ i + suc k = omega arith in
          inr (suc k, n, sp, at, subst (λ (y : ℕ). contains n.children y ≡ true) plus_j has, there, handed_is ∙ ap (λ (y : ℕ). handed_down tokens nodes y sp) plus)

  -- each node stands somewhere
  stands_somewhere : (i : ℕ) (ns : List Node) (j : ℕ) → j < length ns → (st : Standing) × (slice_get (standings tokens nodes i ns) j ≡ Some st)
  stands_somewhere i [] j lt = absurd (omega (arith, lt))
  stands_somewhere i (x ∷ ns) zero lt = (standing tokens nodes i (i + 1) ns (standings tokens nodes (i + 1) ns), refl)
  stands_somewhere i (x ∷ ns) (suc j) lt = stands_somewhere (i + 1) ns j (omega (arith, lt))

  abbrev pub Stand : ℕ → Standing → Type 0
  Stand c st = slice_get (standings tokens nodes 0 nodes) c ≡ Some st

  pub somewhere : (c : ℕ) → c < length nodes → (st : Standing) × Stand c st
  somewhere c lt = stands_somewhere 0 nodes c lt

  pub data From (c : ℕ) (st : Standing) : Type 0 where
    outside : st ≡ outermost (length nodes) → ((k : ℕ) (n : Node) → c < k → slice_get nodes k ≡ Some n → contains n.children c ≡ false) → From c st
    below : (p : ℕ) (n : Node) (sp : Standing) → slice_get nodes p ≡ Some n → contains n.children c ≡ true → Stand p sp → st ≡ handed_down tokens nodes p sp → From c st

  pub from_where : (c : ℕ) (st : Standing) → Stand c st → From c st
  from_where c st e = by (origins 0 nodes c st e)
    where
      by : OriginAt 0 nodes c st → From c st
      by (inl (out, none)) = outside out (λ k n lt f. subst (λ (y : ℕ). contains n.children y ≡ false) (let plus : 0 + c ≡ c = omega arith in plus) (none k n lt f))
      by (inr (k, n, sp, at, has, there, handed_is)) =
          below k n sp at (subst (λ (y : ℕ). contains n.children y ≡ true) (let plus : 0 + c ≡ c = omega arith in plus) has) there (handed_is ∙ ap (λ (y : ℕ). handed_down tokens nodes y sp) (let plus : 0 + k ≡ k = omega arith in plus))

  -- ---- what is handed down

  abbrev P : ℕ → ℕ
  P p = syntax.production_at nodes p

  pub statement_role : (p : ℕ) (r : Role) → P p ≡ 30 → handed tokens nodes p r ≡ role.Statement (syntax.first_child nodes p) (selects tokens nodes p)
  unfolding handed in_statement
  statement_role p r e =
      ap (λ (q : ℕ).
      if q == p_external then in_declaration tokens nodes p
      else if q == p_declaration then in_declaration tokens nodes p
      else if q == p_rest then r
      else if q == p_parameter then role.Parameter
      else if q == p_specs then in_specs r
      else if q == p_type then in_type r
      else if q == p_primary then role.Name
      else if q == p_struct then in_struct nodes p r
      else if q == p_enum then in_enum nodes p
      else if q == p_statement then role.Statement (syntax.first_child nodes p) (selects tokens nodes p)
      else role.Elsewhere) e

  pub external_role : (p first : ℕ) (r : Role) → P p ≡ 1 → syntax.first_child nodes p ≡ Some first → is_function (handed tokens nodes p r) ≡ true
  unfolding handed in_declaration
  external_role p first r e f =
      ap (λ (q : ℕ).
      is_function
      (if q == p_external then by_specs tokens nodes p (syntax.first_child nodes p)
      else if q == p_declaration then by_specs tokens nodes p (syntax.first_child nodes p)
      else if q == p_rest then r
      else if q == p_parameter then role.Parameter
      else if q == p_specs then in_specs r
      else if q == p_type then in_type r
      else if q == p_primary then role.Name
      else if q == p_struct then in_struct nodes p r
      else if q == p_enum then in_enum nodes p
      else if q == p_statement then in_statement tokens nodes p
      else role.Elsewhere)) e
      ∙ ap (λ (o : Option ℕ). is_function (by_specs tokens nodes p o)) f

  pub no_body : (p : ℕ) (r : Role) → (P p == p_block) ≡ false → is_body nodes p r ≡ false
  unfolding is_body
  no_body p r e = ap (λ (b : Bool). b && is_function r) e

  pub inner_block : (p : ℕ) (r : Role) → is_function r ≡ false → is_body nodes p r ≡ false
  unfolding is_body
  inner_block p r e = by (P p == p_block) (is_function r) e
    where
      by : (a b : Bool) → b ≡ false → (a && b) ≡ false
      by true b e = e
      by false b e = refl

  pub own_body : (p : ℕ) (r : Role) → (P p == p_block) ≡ true → is_function r ≡ true → is_body nodes p r ≡ true
  unfolding is_body
  own_body p r e f = by (P p == p_block) (is_function r) e f
    where
      by : (a b : Bool) → a ≡ true → b ≡ true → (a && b) ≡ true
      by true b e f = f
      by false b e f = cc

  -- the role of a part of a statement comes from one
  abbrev StatementFrom : ℕ → Role → Option ℕ → Type 0
  StatementFrom p r f = ((P p ≡ 30) × (f ≡ syntax.first_child nodes p)) ⊎ ((P p ≡ 2) × ((sel : Bool) × (r ≡ role.Statement f sel)))

  no_specs : (p : ℕ) (o : Option ℕ) (f : Option ℕ) (sel : Bool) → by_specs tokens nodes p o ≡ role.Statement f sel → ⊥
  no_specs p None f sel e = cc
  no_specs p (Some x) f sel e = cc

  no_in_specs : (r : Role) (f : Option ℕ) (sel : Bool) → in_specs r ≡ role.Statement f sel → ⊥
  no_in_specs (role.Declaration x) f sel e = by x.is_alone e
    where
      by : (b : Bool) → (if b then role.Alone else role.Elsewhere) ≡ role.Statement f sel → ⊥
      by true e = cc
      by false e = cc
  no_in_specs role.Name f sel e = cc
  no_in_specs role.Alone f sel e = cc
  no_in_specs (role.Tag how) f sel e = cc
  no_in_specs (role.Statement a b) f sel e = cc
  no_in_specs role.Elsewhere f sel e = cc
  no_in_specs role.Parameter f sel e = cc

  pub statement_from : (p : ℕ) (r : Role) (f : Option ℕ) (sel : Bool) → handed tokens nodes p r ≡ role.Statement f sel → StatementFrom p r f
  unfolding handed in_declaration in_type in_struct in_enum in_statement
  statement_from p r f sel e =
      by (P p == p_external) (P p == p_declaration) (P p == p_rest) (P p == p_parameter) (P p == p_specs) (P p == p_type) (P p == p_primary) (P p == p_struct) (P p == p_enum) (P p == p_statement) refl refl e
    where
      type_no : (b : Bool) → (if b then role.Alone else role.Name) ≡ role.Statement f sel → ⊥
      type_no true e = cc
      type_no false e = cc

      struct_no : (b : Bool) → (if b then role.Tag tag.Declares else role.Tag tag.Refers) ≡ role.Statement f sel → ⊥
      struct_no true e = cc
      struct_no false e = cc

      enum_no : (b : Bool) → (if b then role.Tag tag.Declares else role.Tag tag.Uses) ≡ role.Statement f sel → ⊥
      enum_no true e = cc
      enum_no false e = cc

      first_same : role.Statement (syntax.first_child nodes p) (selects tokens nodes p) ≡ role.Statement f sel → f ≡ syntax.first_child nodes p
      first_same e = cc

      by : (a b c d g h i j k l : Bool) → (P p == p_rest) ≡ c → (P p == p_statement) ≡ l
          → (if a then by_specs tokens nodes p (syntax.first_child nodes p)
          else if b then by_specs tokens nodes p (syntax.first_child nodes p)
          else if c then r
          else if d then role.Parameter
          else if g then in_specs r
          else if h then (if is_alone r then role.Alone else role.Name)
          else if i then role.Name
          else if j then (if syntax.has_part nodes p p_members || is_alone r then role.Tag tag.Declares else role.Tag tag.Refers)
          else if k then (if syntax.has_part nodes p p_enumerators then role.Tag tag.Declares else role.Tag tag.Uses)
          else if l then role.Statement (syntax.first_child nodes p) (selects tokens nodes p)
          else role.Elsewhere) ≡ role.Statement f sel
          → StatementFrom p r f
      by true b c d g h i j k l ec el e = absurd (no_specs p (syntax.first_child nodes p) f sel e)
      by false true c d g h i j k l ec el e = absurd (no_specs p (syntax.first_child nodes p) f sel e)
      by false false true d g h i j k l ec el e = inr (eqb-true (P p) p_rest ec, (sel, e))
      by false false false true g h i j k l ec el e = cc
      by false false false false true h i j k l ec el e = absurd (no_in_specs r f sel e)
      by false false false false false true i j k l ec el e = absurd (type_no (is_alone r) e)
      by false false false false false false true j k l ec el e = cc
      by false false false false false false false true k l ec el e = absurd (struct_no (syntax.has_part nodes p p_members || is_alone r) e)
      by false false false false false false false false true l ec el e = absurd (enum_no (syntax.has_part nodes p p_enumerators) e)
      by false false false false false false false false false true ec el e = inl (eqb-true (P p) p_statement el, first_same e)
      by false false false false false false false false false false ec el e = cc

  -- ---- labels and gotos

  module _ (text : List ℕ) (symbol : ℕ → ℕ) where
    pub names_label : (n : ℕ) (in_body : Bool) (sel : Bool) → syntax.is_name tokens nodes n ≡ true → mention_at text tokens symbol nodes n in_body (role.Statement (Some n) sel) ≡ mention.Label (symbol (syntax.token_at nodes n))
    unfolding mention_at
    names_label n in_body sel e =
        taken (syntax.is_name tokens nodes n) e ∙ own (nat_eq n n) (equal n)
      where
        equal : (x : ℕ) → nat_eq x x ≡ true
        equal x = grind (arith)

        own : (b : Bool) → b ≡ true → (if b then mention.Label (symbol (syntax.token_at nodes n)) else mention.Goto (symbol (syntax.token_at nodes n))) ≡ mention.Label (symbol (syntax.token_at nodes n))
        own true f = refl
        own false f = cc

        taken : (b : Bool) → b ≡ true → (if b then label_used (Some n) n (symbol (syntax.token_at nodes n)) else end_mention tokens symbol nodes n (role.Statement (Some n) sel)) ≡ label_used (Some n) n (symbol (syntax.token_at nodes n))
        taken true f = refl
        taken false f = cc

    pub names_goto : (n first : ℕ) (in_body : Bool) (sel : Bool) → syntax.is_name tokens nodes n ≡ true → nat_eq first n ≡ false → mention_at text tokens symbol nodes n in_body (role.Statement (Some first) sel) ≡ mention.Goto (symbol (syntax.token_at nodes n))
    unfolding mention_at
    names_goto n first in_body sel e differs = taken (syntax.is_name tokens nodes n) e ∙ own (nat_eq first n) differs
      where
        own : (b : Bool) → b ≡ false → (if b then mention.Label (symbol (syntax.token_at nodes n)) else mention.Goto (symbol (syntax.token_at nodes n))) ≡ mention.Goto (symbol (syntax.token_at nodes n))
        own false f = refl
        own true f = cc

        taken : (b : Bool) → b ≡ true → (if b then label_used (Some first) n (symbol (syntax.token_at nodes n)) else end_mention tokens symbol nodes n (role.Statement (Some first) sel)) ≡ label_used (Some first) n (symbol (syntax.token_at nodes n))
        taken true f = refl
        taken false f = cc

    -- a label is the name that begins a statement
    abbrev IsLabelAt : ℕ → Role → ℕ → Type 0
    IsLabelAt n r x = (syntax.is_name tokens nodes n ≡ true) × (x ≡ symbol (syntax.token_at nodes n)) × ((sel : Bool) × (r ≡ role.Statement (Some n) sel))

    no_used : (name : List ℕ) (x y : ℕ) (in_body : Bool) → name_used name y in_body ≡ mention.Label x → ⊥
    unfolding name_used
    no_used name x y in_body e = by (is_type_word name || is_list_word name) e
      where
        by : (b : Bool) → (if b then mention.Nothing else mention.Use y (is_exempt name in_body)) ≡ mention.Label x → ⊥
        by true e = cc
        by false e = cc

    used_label : (first : Option ℕ) (n x y : ℕ) → label_used first n y ≡ mention.Label x → (first ≡ Some n) × (x ≡ y)
    used_label None n x y e = cc
    used_label (Some a) n x y e = by (nat_eq a n) refl e
      where
        by : (b : Bool) → nat_eq a n ≡ b → (if b then mention.Label y else mention.Goto y) ≡ mention.Label x → (Some a ≡ Some n) × (x ≡ y)
        by true is e = (ap (λ (z : ℕ). Some z) (eqb-true a n is), cc)
        by false is e = cc

    leaf_label : (name : List ℕ) (y n x : ℕ) (in_body : Bool) (r : Role) → leaf_mention name y n in_body r ≡ mention.Label x → (x ≡ y) × ((sel : Bool) × (r ≡ role.Statement (Some n) sel))
    leaf_label name y n x in_body role.Name e = absurd (no_used name x y in_body e)
    leaf_label name y n x in_body role.Alone e = absurd (no_used name x y in_body e)
    leaf_label name y n x in_body (role.Tag how) e = cc
    leaf_label name y n x in_body (role.Statement first sel) e = let u = used_label first n x y e in (u.1, (sel, ap (λ (o : Option ℕ). role.Statement o sel) u.0))
    leaf_label name y n x in_body role.Elsewhere e = cc
    leaf_label name y n x in_body (role.Declaration specifiers) e = cc
    leaf_label name y n x in_body role.Parameter e = cc

    no_declared : (leaf y x : ℕ) (d : Declarator) (r : Role) → name_declared leaf y d.derivation r ≡ mention.Label x → ⊥
    no_declared leaf y x d role.Name e = cc
    no_declared leaf y x d role.Alone e = cc
    no_declared leaf y x d (role.Tag how) e = cc
    no_declared leaf y x d (role.Statement a b) e = cc
    no_declared leaf y x d role.Elsewhere e = cc
    no_declared leaf y x d (role.Declaration specifiers) e = cc
    no_declared leaf y x d role.Parameter e = cc

    no_end : (n x : ℕ) (r : Role) → end_mention tokens symbol nodes n r ≡ mention.Label x → ⊥
    unfolding end_mention enumerator_mention declarator_mention
    no_end n x r e = by (P n == p_enumerator) (P n == p_declarator || P n == p_either) e
      where
        enumerator : (o : Option ℕ) → enumerator_leaf symbol nodes o ≡ mention.Label x → ⊥
        enumerator None e = cc
        enumerator (Some leaf) e = cc

        declares : (d : Declarator) (o : Option ℕ) → at_leaf symbol nodes d.derivation r o ≡ mention.Label x → ⊥
        declares d None e = cc
        declares d (Some leaf) e = no_declared leaf (symbol (syntax.token_at nodes leaf)) x d r e

        by : (a b : Bool) → (if a then enumerator_leaf symbol nodes (syntax.first_child nodes n) else if b then at_leaf symbol nodes (declarator tokens nodes n).derivation r (declarator tokens nodes n).name else mention.Nothing) ≡ mention.Label x → ⊥
        by true b e = enumerator (syntax.first_child nodes n) e
        by false true e = declares (declarator tokens nodes n) (declarator tokens nodes n).name e
        by false false e = cc

    pub label_named : (n x : ℕ) (in_body : Bool) (r : Role) → mention_at text tokens symbol nodes n in_body r ≡ mention.Label x → IsLabelAt n r x
    unfolding mention_at
    label_named n x in_body r e = by (syntax.is_name tokens nodes n) refl e
      where
        by : (b : Bool) → syntax.is_name tokens nodes n ≡ b → (if b then leaf_mention (name_at text tokens (syntax.token_at nodes n)) (symbol (syntax.token_at nodes n)) n in_body r else end_mention tokens symbol nodes n r) ≡ mention.Label x → IsLabelAt n r x
        by true is e = let own = leaf_label (name_at text tokens (syntax.token_at nodes n)) (symbol (syntax.token_at nodes n)) n x in_body r e in (is, own.0, own.1)
        by false is e = absurd (no_end n x r e)
