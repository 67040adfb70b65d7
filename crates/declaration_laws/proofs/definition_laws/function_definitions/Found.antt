-- A node that declares a name, and no other one does.
use Rattle.std.proofs.Common.{arith, ◌≡◌, ◌+◌, ℕ, zero, suc, ◌||◌, ◌==◌, nat_eq, Bool, true, false, cond, List, [], ◌∷◌, ◌++◌, Option, Some, None, length, slice_get, eq-eqb, refl, sym, ap, ◌∙◌, subst, ◌⊎◌, inl, inr}
use Rattle.std.specs.Prelude.{if◌then◌else◌, nat_lt}
use Rattle.std.specs.List.{find}
use Rattle.c_lexer.specs.declared.Token.{Token}
use Rattle.c_grammar.specs.Productions.{p_external, p_rest, p_declaration, p_specs, p_type, p_struct, p_enum, p_enumerator, p_declarator, p_either, p_parameter, p_statement, p_primary}
use Rattle.c_grammar.specs.Reads.{Node}
use Rattle.c_mentions.specs.declared.declarators.Derivation.{Derivation}
use Rattle.c_mentions.specs.declared.mentions.Linkage.{Linkage}
use Rattle.c_mentions.specs.declared.mentions.Mention.{Mention}
use Rattle.c_mentions.specs.declared.mentions.Mention.TheVariants as mention
use Rattle.c_mentions.specs.declared.roles.Role.{Role}
use Rattle.c_mentions.specs.declared.roles.Role.TheVariants as role
use Rattle.c_mentions.specs.declared.roles.TagUse.{TagUse}
use Rattle.c_mentions.specs.declared.roles.TagUse.TheVariants as tag
use Rattle.c_mentions.specs.declared.roles.Specifiers.{Specifiers}
use Rattle.c_mentions.specs.Syntax as syntax
use Rattle.c_mentions.specs.Declarators.{declarator}
use Rattle.c_mentions.specs.Mentions.{mention_at, leaf_mention, end_mention, declarator_mention, enumerator_mention, at_leaf, name_declared, name_at, linkage_of}
use Rattle.c_mentions.specs.Roles.{handed, in_declaration, by_specs, in_specs, in_type, in_struct, in_enum, in_statement, specified}
use Rattle.c_mentions.specs.Settings.{Standing, standings, standing}
use Rattle.c_mentions.specs.Symbols.{symbol_of}
use Rattle.c_scope.specs.declared.kinds.Declared.{Declared}
use Rattle.c_scope.specs.declared.kinds.NameFault.TheVariants as fault
use Rattle.c_scope.specs.Known.{Happening, Known, known, nothing_known, after, after_use, after_tag, after_tag_use, after_tag_reference, after_label, after_goto, innermost, tag_declared, first_scope, declared_by, first_label, is_first, with_fault}
use Rattle.c_scope.specs.Resolves.{bindings, happenings, happenings_from, happening}
use Rattle.declaration_laws.proofs.definition_laws.linkage_laws.Origins.{mentioned}

-- ---- in what is known at the end

-- some declaration of a leaf
abbrev pub Has : ℕ → List Declared → Type 0
Has leaf [] = ⊥
Has leaf (d ∷ ds) = (d.node ≡ leaf) ⊎ Has leaf ds

has_more : (leaf : ℕ) (ds more : List Declared) → Has leaf ds → Has leaf (ds ++ more)
has_more leaf [] more h = absurd h
has_more leaf (d ∷ ds) more (inl e) = inl e
has_more leaf (d ∷ ds) more (inr h) = inr (has_more leaf ds more h)

has_last : (leaf : ℕ) (ds : List Declared) (d : Declared) → d.node ≡ leaf → Has leaf (ds ++ d ∷ [])
has_last leaf [] d e = inl e
has_last leaf (x ∷ ds) d e = inr (has_last leaf ds d e)

pub found_of : (leaf : ℕ) (ds : List Declared) → Has leaf ds → (y : Declared) × (find (λ (d : Declared). d.node == leaf) ds ≡ Some y)
found_of leaf [] h = absurd h
found_of leaf (d ∷ ds) h = by (nat_eq d.node leaf) refl h (λ more. found_of leaf ds more)
  where
    by : (b : Bool) → nat_eq d.node leaf ≡ b → (d.node ≡ leaf) ⊎ Has leaf ds → (Has leaf ds → (y : Declared) × (find (λ (x : Declared). x.node == leaf) ds ≡ Some y)) → (y : Declared) × (cond b (Some d) (find (λ (x : Declared). x.node == leaf) ds) ≡ Some y)
    by true e h later = (d, refl)
    by false e (inl same) later = absurd (let bad : true ≡ false = sym (eq-eqb d.node leaf same) ∙ e in cc)
    by false e (inr more) later = later more

module _ (file : ℕ) (labels : ℕ → ℕ → Option ℕ) (leaf : ℕ) where
  used : (n : ℕ) (exempt : Bool) (o : Option Declared) (k : Known) → Has leaf k.names → Has leaf (after_use n exempt o k).names
  used n true None k h = h
  used n false None k h = h
  used n exempt (Some d) k h = h

  tagged : (n symbol : ℕ) (scopes : List ℕ) (how : TagUse) (k : Known) → Has leaf k.names → Has leaf (after_tag file n symbol scopes how k).names
  tagged n symbol scopes tag.Declares k h = h
  tagged n symbol scopes tag.Refers k h = by (innermost scopes symbol k.tags)
    where
      by : (o : Option Declared) → Has leaf (after_tag_reference n (tag_declared n symbol (first_scope file scopes)) o k).names
      by None = h
      by (Some d) = h
  tagged n symbol scopes tag.Uses k h = by (innermost scopes symbol k.tags)
    where
      by : (o : Option Declared) → Has leaf (after_tag_use n o k).names
      by None = h
      by (Some d) = h

  labelled : (n : ℕ) (first : Option ℕ) (k : Known) → Has leaf k.names → Has leaf (after_label n first k).names
  labelled n first k h = by (is_first n first)
    where
      by : (b : Bool) → Has leaf (if b then k else with_fault (fault.Redeclared n) k).names
      by true = h
      by false = h

  gone : (n : ℕ) (first : Option ℕ) (k : Known) → Has leaf k.names → Has leaf (after_goto n first k).names
  gone n None k h = h
  gone n (Some first) k h = h

  still : (n : ℕ) (scopes : List ℕ) (body : ℕ) (m : Mention) (k : Known) → Has leaf k.names → Has leaf (after file labels n scopes body m k).names
  still n scopes body mention.Nothing k h = h
  still n scopes body (mention.Use symbol exempt) k h = used n exempt (innermost scopes symbol k.names) k h
  still n scopes body (mention.Tag symbol how) k h = tagged n symbol scopes how k h
  still n scopes body (mention.Label symbol) k h = labelled n (labels body symbol) k h
  still n scopes body (mention.Goto symbol) k h = gone n (labels body symbol) k h
  still n scopes body (mention.Declares name symbol linkage derivation type_name) k h = has_more leaf k.names (declared_by file name symbol linkage derivation type_name (first_scope file scopes) k ∷ []) h

  stays : (n : ℕ) (k : Known) (hs : List Happening) → Has leaf k.names → Has leaf (known file labels n k hs).names
  stays n k [] h = h
  stays n k (e ∷ hs) h = stays (n + 1) (after file labels n e.scopes e.body e.mention k) hs (still n e.scopes e.body e.mention k h)

  begins : (n : ℕ) (scopes : List ℕ) (body symbol : ℕ) (l : Linkage) (derivation : Derivation) (type_name : Option ℕ) (m : Mention) (k : Known) → m ≡ mention.Declares leaf symbol l derivation type_name → Has leaf (after file labels n scopes body m k).names
  begins n scopes body symbol l derivation type_name m k e =
      subst (λ (x : Mention). Has leaf (after file labels n scopes body x k).names) (sym e) (has_last leaf k.names (declared_by file leaf symbol l derivation type_name (first_scope file scopes) k) refl)

  comes : (n j : ℕ) (k : Known) (hs : List Happening) (h : Happening) (symbol : ℕ) (l : Linkage) (derivation : Derivation) (type_name : Option ℕ) → slice_get hs j ≡ Some h → h.mention ≡ mention.Declares leaf symbol l derivation type_name → Has leaf (known file labels n k hs).names
  comes n j k [] h symbol l derivation type_name e is = cc
  comes n zero k (x ∷ hs) h symbol l derivation type_name e is = let same : x ≡ h = cc in stays (n + 1) (after file labels n x.scopes x.body x.mention k) hs (begins n x.scopes x.body symbol l derivation type_name x.mention k (ap (λ (y : Happening). y.mention) same ∙ is))
  comes n (suc j) k (x ∷ hs) h symbol l derivation type_name e is = comes (n + 1) j (after file labels n x.scopes x.body x.mention k) hs h symbol l derivation type_name e is

module _ (text : List ℕ) (tokens : List Token) (nodes : List Node) where
  happens_at : (n j : ℕ) (ss : List Standing) (st : Standing) → slice_get ss j ≡ Some st → slice_get (happenings_from text tokens nodes n ss) j ≡ Some (happening text tokens nodes (n + j) st)
  happens_at n j [] st e = cc
  happens_at n zero (x ∷ ss) st e = let same : x ≡ st = cc in let plain : n ≡ n + 0 = omega arith in ap (λ (y : Standing). Some (happening text tokens nodes n y)) same ∙ ap (λ (k : ℕ). Some (happening text tokens nodes k st)) plain
  happens_at n (suc j) (x ∷ ss) st e = happens_at (n + 1) j ss st e ∙ (let plus : n + 1 + j ≡ n + suc j = omega arith in ap (λ (k : ℕ). Some (happening text tokens nodes k st)) plus)

  -- what a node declares is known at the end
  pub comes_out : (n : ℕ) (st : Standing) (leaf symbol : ℕ) (l : Linkage) (derivation : Derivation) (type_name : Option ℕ) → slice_get (standings tokens nodes 0 nodes) n ≡ Some st → mentioned text tokens nodes n st ≡ mention.Declares leaf symbol l derivation type_name
      → (y : Declared) × (find (λ (d : Declared). d.node == leaf) (bindings text tokens nodes).names ≡ Some y)
  unfolding bindings happenings
  comes_out n st leaf symbol l derivation type_name at is =
      let all : List Happening = happenings_from text tokens nodes 0 (standings tokens nodes 0 nodes) in
      let plain : 0 + n ≡ n = omega arith in
      let there = happens_at 0 n (standings tokens nodes 0 nodes) st at in
      found_of leaf (known (length nodes) (first_label 0 all) 0 nothing_known all).names
      (comes (length nodes) (first_label 0 all) leaf 0 n nothing_known all (happening text tokens nodes (0 + n) st) symbol l derivation type_name there (ap (λ (k : ℕ). (happening text tokens nodes k st).mention) plain ∙ is))

  -- each node has a standing
  standings_there : (i : ℕ) (ns : List Node) (j : ℕ) (n : Node) → slice_get ns j ≡ Some n → (st : Standing) × (slice_get (standings tokens nodes i ns) j ≡ Some st)
  standings_there i [] j n e = cc
  standings_there i (x ∷ ns) zero n e = (standing tokens nodes i (i + 1) ns (standings tokens nodes (i + 1) ns), refl)
  standings_there i (x ∷ ns) (suc j) n e = standings_there (i + 1) ns j n e

  pub stands_there : (j : ℕ) (n : Node) → slice_get nodes j ≡ Some n → (st : Standing) × (slice_get (standings tokens nodes 0 nodes) j ≡ Some st)
  stands_there j n e = standings_there 0 nodes j n e

  -- ---- what an external declaration's declarator mentions

  pub external_hands : (n specs : ℕ) (r : Role) → syntax.production_at nodes n ≡ p_external → syntax.first_child nodes n ≡ Some specs → handed tokens nodes n r ≡ role.Declaration (specified tokens nodes n specs)
  unfolding handed in_declaration
  external_hands n specs r is first =
      ap (λ (p : ℕ). if p == p_external then by_specs tokens nodes n (syntax.first_child nodes n) else (if p == p_declaration then by_specs tokens nodes n (syntax.first_child nodes n) else if p == p_rest then r else if p == p_parameter then role.Parameter else if p == p_specs then in_specs r else if p == p_type then in_type r else if p == p_primary then role.Name else if p == p_struct then in_struct nodes n r else if p == p_enum then in_enum nodes n else if p == p_statement then in_statement tokens nodes n else role.Elsewhere)) is
      ∙ ap (by_specs tokens nodes n) first

  pub declarator_declares : (n leaf : ℕ) (st : Standing) (x : Specifiers) → syntax.production_at nodes n ≡ p_declarator → syntax.is_name tokens nodes n ≡ false → st.role ≡ role.Declaration x → (declarator tokens nodes n).name ≡ Some leaf
      → mentioned text tokens nodes n st ≡ mention.Declares leaf (symbol_of text tokens (syntax.token_at nodes leaf)) (linkage_of x) (declarator tokens nodes n).derivation x.type_name
  unfolding mention_at end_mention declarator_mention
  declarator_declares n leaf st x is other role_is name =
      ap (λ (b : Bool). if b then leaf_mention (name_at text tokens (syntax.token_at nodes n)) (symbol_of text tokens (syntax.token_at nodes n)) n (nat_lt st.body (length nodes)) st.role else end_mention tokens (symbol_of text tokens) nodes n st.role) other
      ∙ (ap (λ (p : ℕ). if p == p_enumerator then enumerator_mention (symbol_of text tokens) nodes n else if p == p_declarator || p == p_either then at_leaf (symbol_of text tokens) nodes (declarator tokens nodes n).derivation st.role (declarator tokens nodes n).name else mention.Nothing) is
      ∙ (ap (at_leaf (symbol_of text tokens) nodes (declarator tokens nodes n).derivation st.role) name ∙ ap (name_declared leaf (symbol_of text tokens (syntax.token_at nodes leaf)) (declarator tokens nodes n).derivation) role_is))
