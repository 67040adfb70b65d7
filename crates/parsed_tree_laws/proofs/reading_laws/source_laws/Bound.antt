-- Declarations that name resolution finds are made at nodes.
use Rattle.std.proofs.Common.{arith, ◌≡◌, ◌+◌, ◌<◌, ℕ, zero, suc, ◌||◌, ◌==◌, Bool, true, false, cond, List, [], ◌∷◌, ◌++◌, Option, Some, None, length, slice_get, All, ◌≤◌, refl, sym, ap, ◌∙◌, subst}
use Rattle.std.specs.Prelude.{⊤, filter, IfSome, if◌then◌else◌, option_map, nat_lt}
use Rattle.std.specs.List.{find}
use Rattle.std.proofs.lemmas.List.{length-map}
use Rattle.std.proofs.lemmas.List.Elements.{All-nil, All-cons, All-head, All-tail, All-push}
use Rattle.std.proofs.lemmas.Option.{slice_get_within, slice_get-map}
use Rattle.c_lexer.specs.declared.Token.{Token}
use Rattle.c_lexer.specs.declared.TokenKind.TheVariants as token
use Rattle.c_lexer.specs.declared.Tokens.{Tokens}
use Rattle.c_grammar.specs.declared.trees.SyntaxNode.{SyntaxNode}
use Rattle.c_grammar.specs.declared.trees.Tree.{Tree}
use Rattle.c_grammar.specs.Productions.{p_declarator, p_either, p_enumerator}
use Rattle.c_grammar.specs.Reads.{Node, node_of, leaf}
use Rattle.c_mentions.specs.declared.declarators.Declarator.{Declarator}
use Rattle.c_mentions.specs.declared.declarators.Derivation.{Derivation}
use Rattle.c_mentions.specs.declared.mentions.Mention.{Mention}
use Rattle.c_mentions.specs.declared.mentions.Mention.TheVariants as mention
use Rattle.c_mentions.specs.declared.roles.Role.{Role}
use Rattle.c_mentions.specs.declared.roles.Role.TheVariants as role
use Rattle.c_mentions.specs.declared.roles.TagUse.{TagUse}
use Rattle.c_mentions.specs.declared.roles.TagUse.TheVariants as tag
use Rattle.c_mentions.specs.Syntax as syntax
use Rattle.c_mentions.specs.Syntax.{nodes_of}
use Rattle.c_mentions.specs.Declarators.{declarator, within, name_of, inner_of, level}
use Rattle.c_mentions.specs.Mentions.{mention_at, leaf_mention, name_used, label_used, is_type_word, is_list_word, end_mention, declarator_mention, enumerator_mention, at_leaf, name_declared, enumerator_leaf, name_at, is_exempt}
use Rattle.c_mentions.specs.Settings.{Standing, standings}
use Rattle.c_mentions.specs.Symbols.{symbol_of}
use Rattle.c_scope.specs.declared.kinds.Declared.{Declared}
use Rattle.c_scope.specs.declared.kinds.NameFault.TheVariants as fault
use Rattle.c_scope.specs.declared.resolving.Bound.{Bound}
use Rattle.c_scope.specs.Known.{Happening, Known, known, nothing_known, after, after_use, after_tag, after_tag_use, after_tag_reference, after_label, after_goto, innermost, latest, last_of, those_at, is_at, or_else, tag_declared, first_scope, declared_by, first_label, is_first, with_fault}
use Rattle.c_scope.specs.Resolves.{IsBound, bindings, happenings, happenings_from}
use Rattle.c_senses.specs.Tree as tree
use Rattle.parsed_tree_laws.specs.reading_laws.source_laws.Bound.{AreBefore, StandAmong}

-- what is found among declarations is one of them
module _ (P : Declared → Type 0) where
  one_filtered : (b : Bool) (d : Declared) (kept : List Declared) → P d → All P kept → All P (cond b (d ∷ kept) kept)
  one_filtered true d kept h rest = All-cons P d kept h rest
  one_filtered false d kept h rest = rest

  all_filtered : (test : Declared → Bool) (ds : List Declared) → All P ds → All P (filter test ds)
  all_filtered test [] h = All-nil P
  all_filtered test (d ∷ ds) h = one_filtered (test d) d (filter test ds) (All-head P d ds h) (all_filtered test ds (All-tail P d ds h))

  last_is : (before : Option Declared) (ds : List Declared) → IfSome before P → All P ds → IfSome (last_of before ds) P
  last_is before [] h all = h
  last_is before (d ∷ ds) h all = last_is (Some d) ds (All-head P d ds all) (All-tail P d ds all)

  or_is : (a b : Option Declared) → IfSome a P → IfSome b P → IfSome (or_else a b) P
  or_is None b h k = k
  or_is (Some d) b h k = h

  innermost_is : (scopes : List ℕ) (symbol : ℕ) (ds : List Declared) → All P ds → IfSome (innermost scopes symbol ds) P
  innermost_is [] symbol ds h = tt
  innermost_is (scope ∷ scopes) symbol ds h =
      or_is (latest scope symbol ds) (innermost scopes symbol ds) (last_is None (those_at scope symbol ds) tt (all_filtered (is_at scope symbol) ds h)) (innermost_is scopes symbol ds h)

-- what is known stands among so many nodes
module _ (count : ℕ) where
  IsIn : Declared → Type 0
  IsIn d = d.node < count

  IsPaired : ℕ × ℕ → Type 0
  IsPaired p = p.1 < count

  record Among (k : Known) : Type 0 where
    pub names : All IsIn k.names
    pub tags : All IsIn k.tags
    pub uses : All IsPaired k.uses

  -- what a node declares by its mention is a node
  Fits : Mention → Type 0
  Fits (mention.Declares name symbol linkage derivation type_name) = name < count
  Fits m = ⊤

  uses_more : (k : Known) (n : ℕ) (d : Declared) → Among k → IsIn d → All IsPaired (k.uses ++ (n, d.node) ∷ [])
  unfolding IsIn IsPaired
  uses_more k n d h is = All-push IsPaired k.uses (n, d.node) h.uses is

  used : (n : ℕ) (exempt : Bool) (o : Option Declared) (k : Known) → IfSome o IsIn → Among k → Among (after_use n exempt o k)
  used n true None k is h = h
  used n false None k is h = record { names = h.names; tags = h.tags; uses = h.uses }
  used n exempt (Some d) k is h = record { names = h.names; tags = h.tags; uses = uses_more k n d h is }

  with_tag_in : (d : Declared) (k : Known) → IsIn d → Among k → All IsIn (k.tags ++ d ∷ [])
  with_tag_in d k is h = All-push IsIn k.tags d h.tags is

  declared_in : (n symbol scope : ℕ) → n < count → IsIn (tag_declared n symbol scope)
  unfolding IsIn
  declared_in n symbol scope lt = lt

  tagged : (file n symbol : ℕ) (scopes : List ℕ) (how : TagUse) (k : Known) → n < count → Among k → Among (after_tag file n symbol scopes how k)
  tagged file n symbol scopes tag.Declares k lt h =
      record { names = h.names; tags = with_tag_in (tag_declared n symbol (first_scope file scopes)) k (declared_in n symbol (first_scope file scopes) lt) h; uses = h.uses }
  tagged file n symbol scopes tag.Refers k lt h = by (innermost scopes symbol k.tags) (innermost_is IsIn scopes symbol k.tags h.tags)
    where
      by : (o : Option Declared) → IfSome o IsIn → Among (after_tag_reference n (tag_declared n symbol (first_scope file scopes)) o k)
      by None is = record { names = h.names; tags = with_tag_in (tag_declared n symbol (first_scope file scopes)) k (declared_in n symbol (first_scope file scopes) lt) h; uses = h.uses }
      by (Some d) is = record { names = h.names; tags = h.tags; uses = uses_more k n d h is }
  tagged file n symbol scopes tag.Uses k lt h = by (innermost scopes symbol k.tags) (innermost_is IsIn scopes symbol k.tags h.tags)
    where
      by : (o : Option Declared) → IfSome o IsIn → Among (after_tag_use n o k)
      by None is = record { names = h.names; tags = h.tags; uses = h.uses }
      by (Some d) is = record { names = h.names; tags = h.tags; uses = uses_more k n d h is }

  labelled : (n : ℕ) (first : Option ℕ) (k : Known) → Among k → Among (after_label n first k)
  labelled n first k h = by (is_first n first)
    where
      by : (b : Bool) → Among (if b then k else with_fault (fault.Redeclared n) k)
      by true = h
      by false = record { names = h.names; tags = h.tags; uses = h.uses }

  gone : (n : ℕ) (first : Option ℕ) (k : Known) → Among k → Among (after_goto n first k)
  gone n None k h = record { names = h.names; tags = h.tags; uses = h.uses }
  gone n (Some first) k h = record { names = h.names; tags = h.tags; uses = h.uses }

  names_more : (k : Known) (d : Declared) → Among k → d.node < count → All IsIn (k.names ++ d ∷ [])
  unfolding IsIn
  names_more k d h lt = All-push IsIn k.names d h.names lt

  stands_after : (file : ℕ) (labels : ℕ → ℕ → Option ℕ) (n : ℕ) (scopes : List ℕ) (body : ℕ) (m : Mention) (k : Known) → n < count → Fits m → Among k → Among (after file labels n scopes body m k)
  unfolding Fits
  stands_after file labels n scopes body mention.Nothing k lt fits h = h
  stands_after file labels n scopes body (mention.Use symbol exempt) k lt fits h = used n exempt (innermost scopes symbol k.names) k (innermost_is IsIn scopes symbol k.names h.names) h
  stands_after file labels n scopes body (mention.Tag symbol how) k lt fits h = tagged file n symbol scopes how k lt h
  stands_after file labels n scopes body (mention.Label symbol) k lt fits h = labelled n (labels body symbol) k h
  stands_after file labels n scopes body (mention.Goto symbol) k lt fits h = gone n (labels body symbol) k h
  stands_after file labels n scopes body (mention.Declares name symbol linkage derivation type_name) k lt fits h =
      record { names = names_more k (declared_by file name symbol linkage derivation type_name (first_scope file scopes) k) h fits; tags = h.tags; uses = h.uses }

  AllFit : List Happening → Type 0
  AllFit [] = ⊤
  AllFit (h ∷ hs) = Fits h.mention × AllFit hs

  known_among : (file : ℕ) (labels : ℕ → ℕ → Option ℕ) (n : ℕ) (k : Known) (hs : List Happening) → n + length hs ≤ count → AllFit hs → Among k → Among (known file labels n k hs)
  unfolding AllFit
  known_among file labels n k [] long fit h = h
  known_among file labels n k (e ∷ hs) long fit h =
      known_among file labels (n + 1) (after file labels n e.scopes e.body e.mention k) hs (omega arith) fit.1
      (stands_after file labels n e.scopes e.body e.mention k (omega arith) fit.0 h)

  nothing_among : Among nothing_known
  nothing_among = record { names = All-nil IsIn; tags = All-nil IsIn; uses = All-nil IsPaired }

  among_parts : (k : Known) → Among k → (All (λ d. d.node < count) k.names) × (All (λ d. d.node < count) k.tags) × (All (λ p. p.1 < count) k.uses)
  unfolding IsIn IsPaired
  among_parts k h = (h.names, h.tags, h.uses)

-- the first of a list that passes a test passes it
found_or : {A : Type 0} (test : A → Bool) (x : A) (b : Bool) (later : Option A) → test x ≡ b → IfSome later (λ y. test y ≡ true) → IfSome (cond b (Some x) later) (λ y. test y ≡ true)
found_or test x true later e h = e
found_or test x false later e h = h

found : {A : Type 0} (test : A → Bool) (xs : List A) → IfSome (find test xs) (λ x. test x ≡ true)
found test [] = tt
found test (x ∷ xs) = found_or test x (test x) (find test xs) refl (found test xs)

-- the name of a declarator is a node
module _ (tokens : List Token) (nodes : List Node) where
  leaf_stands : (o : Option Node) (i : ℕ) → slice_get nodes i ≡ o → (syntax.production_of o == leaf) ≡ true → i < length nodes
  leaf_stands None i e h = cc
  leaf_stands (Some n) i e h = slice_get_within nodes i n e

  name_stands : (i : ℕ) → syntax.is_name tokens nodes i ≡ true → i < length nodes
  name_stands i h = by (syntax.is_leaf nodes i) refl h
    where
      by : (b : Bool) → syntax.is_leaf nodes i ≡ b → syntax.is_identifier (if b then syntax.token_kind tokens (syntax.token_at nodes i) else token.End) ≡ true → i < length nodes
      by true e h = leaf_stands (slice_get nodes i) i refl e
      by false e h = cc

  IsNode : ℕ → Type 0
  IsNode i = i < length nodes

  names_stand : (o : Option ℕ) → IfSome o (λ i. syntax.is_name tokens nodes i ≡ true) → IfSome o IsNode
  unfolding IsNode
  names_stand None h = tt
  names_stand (Some i) h = name_stands i h

  own_name : (n : ℕ) → IfSome (name_of tokens nodes n) IsNode
  unfolding name_of
  own_name n = names_stand (find (λ child. syntax.is_name tokens nodes child) (syntax.children_at nodes n)) (found (λ child. syntax.is_name tokens nodes child) (syntax.children_at nodes n))

  level_within : (deeper : ℕ → Declarator) (n : ℕ) (o : Option ℕ) → ((inner : ℕ) → IfSome (deeper inner).name IsNode) → IfSome (level tokens nodes deeper n o).name IsNode
  level_within deeper n None h = own_name n
  level_within deeper n (Some inner) h = h inner

  name_within : (levels n : ℕ) → IfSome (within tokens nodes levels n).name IsNode
  name_within zero n = tt
  name_within (suc levels) n = level_within (within tokens nodes levels) n (inner_of nodes n) (λ inner. name_within levels inner)

  name_in : (n : ℕ) → IfSome (declarator tokens nodes n).name IsNode
  unfolding declarator
  name_in n = name_within (suc n) n

-- what nodes mention
module _ (text : List ℕ) (tokens : List Token) (nodes : List Node) (symbol : ℕ → ℕ) where
  abbrev Fit : Mention → Type 0
  Fit = Fits (length nodes)

  used_fits : (name : List ℕ) (at : ℕ) (in_body : Bool) → Fit (name_used name at in_body)
  unfolding Fits name_used
  used_fits name at in_body = by (is_type_word name || is_list_word name)
    where
      by : (b : Bool) → Fit (if b then mention.Nothing else mention.Use at (is_exempt name in_body))
      by true = tt
      by false = tt

  label_fits : (first : Option ℕ) (n at : ℕ) → Fit (label_used first n at)
  unfolding Fits
  label_fits None n at = tt
  label_fits (Some first) n at = by (first == n)
    where
      by : (b : Bool) → Fit (if b then mention.Label at else mention.Goto at)
      by true = tt
      by false = tt

  leaf_fits : (name : List ℕ) (at n : ℕ) (in_body : Bool) (r : Role) → Fit (leaf_mention name at n in_body r)
  unfolding Fits
  leaf_fits name at n in_body role.Name = used_fits name at in_body
  leaf_fits name at n in_body role.Alone = used_fits name at in_body
  leaf_fits name at n in_body (role.Tag how) = tt
  leaf_fits name at n in_body (role.Statement first selects) = label_fits first n at
  leaf_fits name at n in_body role.Elsewhere = tt
  leaf_fits name at n in_body (role.Declaration specifiers) = tt
  leaf_fits name at n in_body role.Parameter = tt

  declared_fits : (name at : ℕ) (d : Derivation) (r : Role) → name < length nodes → Fit (name_declared name at d r)
  unfolding Fits
  declared_fits name at d role.Name h = tt
  declared_fits name at d role.Alone h = tt
  declared_fits name at d (role.Tag how) h = tt
  declared_fits name at d (role.Statement first selects) h = tt
  declared_fits name at d role.Elsewhere h = tt
  declared_fits name at d (role.Declaration specifiers) h = h
  declared_fits name at d role.Parameter h = h

  declarator_fits : (d : Declarator) (r : Role) → IfSome d.name (IsNode tokens nodes) → Fit (declarator_mention symbol nodes d r)
  unfolding declarator_mention IsNode Fits
  declarator_fits d r h = by d.name h
    where
      by : (o : Option ℕ) → IfSome o (λ i. i < length nodes) → Fit (at_leaf symbol nodes d.derivation r o)
      by None h = tt
      by (Some name) h = declared_fits name (symbol (syntax.token_at nodes name)) d.derivation r h

  enumerator_fits : (n : ℕ) → IfSome (syntax.first_child nodes n) (λ i. i < length nodes) → Fit (enumerator_mention symbol nodes n)
  unfolding enumerator_mention Fits
  enumerator_fits n h = by (syntax.first_child nodes n) h
    where
      by : (o : Option ℕ) → IfSome o (λ i. i < length nodes) → Fit (enumerator_leaf symbol nodes o)
      by None h = tt
      by (Some name) h = h

  end_fits : (n : ℕ) (r : Role) → IfSome (syntax.first_child nodes n) (λ i. i < length nodes) → Fit (end_mention tokens symbol nodes n r)
  unfolding end_mention Fits
  end_fits n r h = by (syntax.production_at nodes n == p_enumerator) (syntax.production_at nodes n == p_declarator || syntax.production_at nodes n == p_either)
    where
      by : (a b : Bool) → Fit (if a then enumerator_mention symbol nodes n else if b then declarator_mention symbol nodes (declarator tokens nodes n) r else mention.Nothing)
      by true b = enumerator_fits n h
      by false true = declarator_fits (declarator tokens nodes n) r (name_in tokens nodes n)
      by false false = tt

  mention_fits : (n : ℕ) (in_body : Bool) (r : Role) → IfSome (syntax.first_child nodes n) (λ i. i < length nodes) → Fit (mention_at text tokens symbol nodes n in_body r)
  unfolding mention_at
  mention_fits n in_body r h = by (syntax.is_name tokens nodes n)
    where
      by : (b : Bool) → Fit (if b then leaf_mention (name_at text tokens (syntax.token_at nodes n)) (symbol (syntax.token_at nodes n)) n in_body r else end_mention tokens symbol nodes n r)
      by true = leaf_fits (name_at text tokens (syntax.token_at nodes n)) (symbol (syntax.token_at nodes n)) n in_body r
      by false = end_fits n r h

-- the first child of a node is a node
ChildIn : List Node → Type 0
ChildIn nodes = (n : ℕ) → n < length nodes → IfSome (syntax.first_child nodes n) (λ i. i < length nodes)

first_below : (n : ℕ) (xs : List ℕ) → ((c : ℕ) → slice_get xs 0 ≡ Some c → c < n) → IfSome (syntax.first_of xs) (λ i. i < n)
first_below n [] h = tt
first_below n (x ∷ xs) h = h x refl

children_same : (o : Option SyntaxNode) → syntax.children_of (option_map node_of o) ≡ tree.children_of o
children_same None = refl
children_same (Some n) = refl

children_in : (nodes : List SyntaxNode) → AreBefore nodes → ChildIn (nodes_of nodes)
unfolding ChildIn
children_in nodes before n lt =
    let same : syntax.children_at (nodes_of nodes) n ≡ tree.children_of (slice_get nodes n) = ap syntax.children_of (slice_get-map node_of nodes n) ∙ children_same (slice_get nodes n) in
    let long : length (nodes_of nodes) ≡ length nodes = length-map nodes node_of in
    let first : IfSome (syntax.first_of (tree.children_of (slice_get nodes n))) (λ i. i < n) = first_below n (tree.children_of (slice_get nodes n)) (λ c e. before n 0 c e) in
    wider n (length (nodes_of nodes)) (syntax.first_child (nodes_of nodes) n) lt (subst (λ (xs : List ℕ). IfSome (syntax.first_of xs) (λ i. i < n)) (sym same) first)
  where
    wider : (n m : ℕ) (o : Option ℕ) → n < m → IfSome o (λ i. i < n) → IfSome o (λ i. i < m)
    wider n m None lt h = tt
    wider n m (Some i) lt h = omega arith

module _ (text : List ℕ) (tokens : List Token) (nodes : List Node) (in_range : ChildIn nodes) where
  happenings_fit : (n : ℕ) (ss : List Standing) → n + length ss ≤ length nodes → AllFit (length nodes) (happenings_from text tokens nodes n ss)
  unfolding AllFit ChildIn
  happenings_fit n [] long = tt
  happenings_fit n (s ∷ ss) long =
      (mention_fits text tokens nodes (symbol_of text tokens) n (nat_lt s.body (length nodes)) s.role (in_range n (omega arith)), happenings_fit (n + 1) ss (omega arith))

  length_happenings : (n : ℕ) (ss : List Standing) → length (happenings_from text tokens nodes n ss) ≡ length ss
  length_happenings n [] = refl
  length_happenings n (s ∷ ss) = ap suc (length_happenings (n + 1) ss)

  length_standings : (i : ℕ) (ns : List Node) → length (standings tokens nodes i ns) ≡ length ns
  length_standings i [] = refl
  length_standings i (n ∷ ns) = ap suc (length_standings (i + 1) ns)

  bindings_among : Among (length nodes) (bindings text tokens nodes)
  unfolding bindings happenings
  bindings_among =
      let all : List Happening = happenings_from text tokens nodes 0 (standings tokens nodes 0 nodes) in
      let so_many : length (standings tokens nodes 0 nodes) ≡ length nodes = length_standings 0 nodes in
      let long : length (happenings_from text tokens nodes 0 (standings tokens nodes 0 nodes)) ≡ length (standings tokens nodes 0 nodes) = length_happenings 0 (standings tokens nodes 0 nodes) in
      known_among (length nodes) (length nodes) (first_label 0 all) 0 nothing_known all (omega (arith, so_many, long)) (happenings_fit 0 (standings tokens nodes 0 nodes) (omega (arith, so_many))) (nothing_among (length nodes))

pub bound_stand : (tokens : Tokens) (tree : Tree) (bound : Bound) → IsBound tokens tree bound → AreBefore tree.nodes.items → StandAmong (length tree.nodes.items) bound
bound_stand tokens tree bound is before =
    let nodes : List Node = nodes_of tree.nodes.items in
    let long : length (nodes_of tree.nodes.items) ≡ length tree.nodes.items = length-map tree.nodes.items node_of in
    let parts = among_parts (length (nodes_of tree.nodes.items)) (bindings tokens.text.now tokens.list.items (nodes_of tree.nodes.items)) (bindings_among tokens.text.now tokens.list.items (nodes_of tree.nodes.items) (children_in tree.nodes.items before)) in
    record {
      names = subst (λ (n : ℕ). All (λ (d : Declared). d.node < n) bound.names.items) long (subst (λ (ds : List Declared). All (λ (d : Declared). d.node < length (nodes_of tree.nodes.items)) ds) (sym is.names) parts.0);
      tags = subst (λ (n : ℕ). All (λ (d : Declared). d.node < n) bound.tags.items) long (subst (λ (ds : List Declared). All (λ (d : Declared). d.node < length (nodes_of tree.nodes.items)) ds) (sym is.tags) parts.1);
      uses = subst (λ (n : ℕ). All (λ (p : ℕ × ℕ). p.1 < n) bound.uses.items) long (subst (λ (ps : List (ℕ × ℕ)). All (λ (p : ℕ × ℕ). p.1 < length (nodes_of tree.nodes.items)) ps) (sym is.uses) parts.2);
    }
