-- What makes a declaration one of a function.
use Rattle.std.specs.Prelude.{ℕ, ◌<◌, ◌≡◌, ◌⊎◌, true, List, [], ◌∷◌, Some}
use Rattle.c_lexer.specs.declared.Token.{Token}
use Rattle.c_grammar.specs.Reads.{Node}
use Rattle.c_mentions.specs.declared.declarators.Derivation.TheVariants.{Bare, Function}
use Rattle.c_scope.specs.declared.kinds.Declared.{Declared}
use Rattle.c_scope.specs.Resolves.{bindings}
use Rattle.c_senses.specs.Tree.{paired}
use Rattle.declaration_laws.specs.definition_laws.linkage_laws.Origins.{HasOrigin}

abbrev pub In : Declared → List Declared → Type 0
In d [] = ⊥
In d (x ∷ xs) = (x ≡ d) ⊎ In d xs

module _ (text : List ℕ) (tokens : List Token) (nodes : List Node) where
  -- a parameter list stands next to its name; or it has the type of a typedef name that is declared so, earlier
  pub data IsFunctionBy (uses : List (ℕ × ℕ)) (names : List Declared) : Declared → Type 0 where
    Listed : {d : Declared} (h : HasOrigin text tokens nodes d)
        → h.derivation ≡ Function
        → IsFunctionBy uses names d
    Typed : {d : Declared} (n : ℕ) (t : Declared) (h : HasOrigin text tokens nodes d)
        (o : HasOrigin text tokens nodes t)
        → h.derivation ≡ Bare
        → h.type_name ≡ Some n
        → paired uses n ≡ Some t.node
        → In t names
        → o.node < n
        → IsFunctionBy uses names t
        → IsFunctionBy uses names d

-- so it is of all declarations of a tree
abbrev pub FunctionsCome : Type 0
FunctionsCome =
    (text : List ℕ) (tokens : List Token) (nodes : List Node) (d : Declared)
    → In d (bindings text tokens nodes).names
    → d.is_function ≡ true
    → IsFunctionBy text tokens nodes (bindings text tokens nodes).uses (bindings text tokens nodes).names d
