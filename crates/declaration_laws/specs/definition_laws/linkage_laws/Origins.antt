-- What a declaration of a name comes from.
use Rattle.std.specs.Prelude.{ℕ, ◌≡◌, List, Option, Some, length, slice_get, nat_lt}
use Rattle.c_lexer.specs.declared.Token.{Token}
use Rattle.c_grammar.specs.Reads.{Node}
use Rattle.c_mentions.specs.declared.declarators.Derivation.{Derivation}
use Rattle.c_mentions.specs.declared.mentions.Linkage.{Linkage}
use Rattle.c_mentions.specs.declared.mentions.Mention.{Mention}
use Rattle.c_mentions.specs.declared.mentions.Mention.TheVariants as mention
use Rattle.c_mentions.specs.Mentions.{mention_at}
use Rattle.c_mentions.specs.Settings.{Standing, standings}
use Rattle.c_mentions.specs.Symbols.{symbol_of}
use Rattle.c_scope.specs.declared.kinds.Declared.{Declared}
use Rattle.c_scope.specs.Known.{Known, declared_by, first_scope}

module _ (text : List ℕ) (tokens : List Token) (nodes : List Node) where
  abbrev pub all_standings : List Standing
  all_standings = standings tokens nodes 0 nodes

  abbrev pub mentioned : ℕ → Standing → Mention
  mentioned n st = mention_at text tokens (symbol_of text tokens) nodes n (nat_lt st.body (length nodes)) st.role

  -- a declaration is what a node makes
  pub record HasOrigin (d : Declared) : Type 0 where
    pub node : ℕ
    pub standing : Standing
    pub stands : slice_get all_standings node ≡ Some standing
    pub leaf : ℕ
    pub symbol : ℕ
    pub linkage : Linkage
    pub derivation : Derivation
    pub type_name : Option ℕ
    pub before : Known
    pub mentions : mentioned node standing ≡ mention.Declares leaf symbol linkage derivation type_name
    pub is : d
        ≡ declared_by (length nodes) leaf symbol linkage derivation type_name
        (first_scope (length nodes) standing.scopes) before
