-- What stands in no statement declares no label.
use Rattle.std.proofs.Common.{◌≡◌, ◌≢◌, ℕ, Bool, true, false, ◌||◌, eqb, Option, Some, None, List, cond, refl, sym}
use Rattle.std.specs.BTreeMap.{BTreeMap}
use Rattle.c_lexer.specs.declared.Token.{Token}
use Rattle.c_grammar.specs.Reads.{Node}
use Rattle.c_grammar.specs.Productions.{p_declarator, p_either, p_enumerator}
use Rattle.c_mentions.specs.declared.declarators.Derivation.{Derivation}
use Rattle.c_mentions.specs.declared.mentions.Mention.{Mention}
use Rattle.c_mentions.specs.declared.mentions.Mention.TheVariants as mention
use Rattle.c_mentions.specs.declared.roles.Role.{Role}
use Rattle.c_mentions.specs.declared.roles.Role.TheVariants.{Elsewhere, Name, Alone, Tag, Statement, Declaration, Parameter}
use Rattle.c_mentions.specs.Declarators.{declarator}
use Rattle.c_mentions.specs.Mentions.{mention_at, end_mention, leaf_mention, name_used, name_at, at_leaf, declarator_mention, enumerator_mention, enumerator_leaf, is_type_word, is_list_word, is_exempt}
use Rattle.c_mentions.specs.Syntax.{first_child, is_name, production_at, token_at}
use Rattle.c_scope.specs.Binding.{label_at, label_after, LeaveSameLabels}

abbrev is_label : Mention → Bool
is_label (mention.Label symbol) = true
is_label mention.Nothing = false
is_label (mention.Use symbol exempt) = false
is_label (mention.Tag symbol how) = false
is_label (mention.Goto symbol) = false
is_label (mention.Declares leaf symbol linkage derivation type_name) = false

abbrev is_in_statement : Role → Bool
is_in_statement (Statement first selects) = true
is_in_statement Elsewhere = false
is_in_statement Name = false
is_in_statement Alone = false
is_in_statement (Tag how) = false
is_in_statement (Declaration specifiers) = false
is_in_statement Parameter = false

-- no label is left by what is none
left : (before : BTreeMap (ℕ × ℕ) ℕ) (body node : ℕ) (m : Mention) (other sign : ℕ) → is_label m ≡ false → label_after before body node m other sign ≡ label_at before other sign
left before body node (mention.Label symbol) other sign h = cc
left before body node mention.Nothing other sign h = refl
left before body node (mention.Use symbol exempt) other sign h = refl
left before body node (mention.Tag symbol how) other sign h = refl
left before body node (mention.Goto symbol) other sign h = refl
left before body node (mention.Declares leaf symbol linkage derivation type_name) other sign h = refl

either : (b : Bool) (x y : Mention) → is_label x ≡ false → is_label y ≡ false → is_label (cond b x y) ≡ false
either true x y h k = h
either false x y h k = k

used : (name : List ℕ) (symbol : ℕ) (in_body : Bool) → is_label (name_used name symbol in_body) ≡ false
unfolding name_used
used name symbol in_body = either (is_type_word name || is_list_word name) mention.Nothing (mention.Use symbol (is_exempt name in_body)) refl refl

leaf : (name : List ℕ) (symbol n : ℕ) (in_body : Bool) (role : Role) → is_in_statement role ≡ false → is_label (leaf_mention name symbol n in_body role) ≡ false
leaf name symbol n in_body Name h = used name symbol in_body
leaf name symbol n in_body Alone h = used name symbol in_body
leaf name symbol n in_body (Tag how) h = refl
leaf name symbol n in_body (Statement first selects) h = cc
leaf name symbol n in_body Elsewhere h = refl
leaf name symbol n in_body (Declaration specifiers) h = refl
leaf name symbol n in_body Parameter h = refl

declared : (symbol : ℕ → ℕ) (nodes : List Node) (derivation : Derivation) (role : Role) (o : Option ℕ) → is_label (at_leaf symbol nodes derivation role o) ≡ false
declared symbol nodes derivation role None = refl
declared symbol nodes derivation Elsewhere (Some name) = refl
declared symbol nodes derivation Name (Some name) = refl
declared symbol nodes derivation Alone (Some name) = refl
declared symbol nodes derivation (Tag how) (Some name) = refl
declared symbol nodes derivation (Statement first selects) (Some name) = refl
declared symbol nodes derivation (Declaration specifiers) (Some name) = refl
declared symbol nodes derivation Parameter (Some name) = refl

enumerated : (symbol : ℕ → ℕ) (nodes : List Node) (o : Option ℕ) → is_label (enumerator_leaf symbol nodes o) ≡ false
enumerated symbol nodes None = refl
enumerated symbol nodes (Some name) = refl

ended : (tokens : List Token) (symbol : ℕ → ℕ) (nodes : List Node) (n : ℕ) (role : Role) → is_label (end_mention tokens symbol nodes n role) ≡ false
unfolding end_mention declarator_mention enumerator_mention
ended tokens symbol nodes n role =
    let d = declarator tokens nodes n in
    let named = declarator_mention symbol nodes d role in
    either (eqb (production_at nodes n) p_enumerator) (enumerator_mention symbol nodes n) _
    (enumerated symbol nodes (first_child nodes n))
    (either (eqb (production_at nodes n) p_declarator || eqb (production_at nodes n) p_either) named mention.Nothing (declared symbol nodes d.derivation role d.name) refl)

mentioned : (text : List ℕ) (tokens : List Token) (symbol : ℕ → ℕ) (nodes : List Node) (n : ℕ) (in_body : Bool) (role : Role) → is_in_statement role ≡ false → is_label (mention_at text tokens symbol nodes n in_body role) ≡ false
unfolding mention_at
mentioned text tokens symbol nodes n in_body role h =
    either (is_name tokens nodes n) (leaf_mention (name_at text tokens (token_at nodes n)) (symbol (token_at nodes n)) n in_body role) (end_mention tokens symbol nodes n role)
    (leaf (name_at text tokens (token_at nodes n)) (symbol (token_at nodes n)) n in_body role h)
    (ended tokens symbol nodes n role)

outside : (role : Role) → ((first : Option ℕ) (selects : Bool) → role ≢ Statement first selects) → is_in_statement role ≡ false
outside (Statement first selects) h = absurd (h first selects refl)
outside Elsewhere h = refl
outside Name h = refl
outside Alone h = refl
outside (Tag how) h = refl
outside (Declaration specifiers) h = refl
outside Parameter h = refl

-- what stands in no statement leaves the labels
pub no_label : (text : List ℕ) (tokens : List Token) (symbol : ℕ → ℕ) (nodes : List Node) (n : ℕ) (in_body : Bool) (role : Role) → ((first : Option ℕ) (selects : Bool) → role ≢ Statement first selects) → LeaveSameLabels n mention.Nothing (mention_at text tokens symbol nodes n in_body role)
no_label text tokens symbol nodes n in_body role h =
    λ before body other sign. sym (left before body n (mention_at text tokens symbol nodes n in_body role) other sign (mentioned text tokens symbol nodes n in_body role (outside role h)))
