-- Rows keep the rows of constants.
use Rattle.std.proofs.Common.{◌≡◌, ◌^◌, ℕ, ℤ, nat_lt, Bool, true, not, List, [], ◌∷◌, Option, Some, None, map, refl, subst}
use Rattle.std.specs.Option.{option_copied}
use Rattle.std.proofs.lemmas.Bool.{ltb-true}
use Rattle.pta_base.specs.declared.kind.Kind.TheVariants.{NotBuilt}
use Rattle.c_lexer.specs.declared.TokenKind.{TokenKind}
use Rattle.c_lexer.specs.declared.TokenKind.TheVariants.{Identifier, Keyword, Punctuator, Integer, Floating, Character, Text, End}
use Rattle.c_types.specs.Table.{type_of, members_in, look_in}
use Rattle.c_inits.specs.Made.{looked_up, laid_out}
use Rattle.c_inits.specs.Tables.{tag_parts}
use Rattle.core_tree.specs.declared.node.Unit.{Unit}
use Rattle.core_tree.specs.Typed.{Holds}
use Rattle.core_tree.specs.Rows.{int}
use Rattle.c_senses.specs.Given.{Fits}
use Rattle.c_senses.specs.Tree.{Source, place_at, spelling_at, kind_at, is_leaf, all_where}
use Rattle.c_senses.specs.World.{World, Meaning}
use Rattle.c_senses.specs.World as world
use Rattle.c_senses.specs.Literals.{value_of_integer}
use Rattle.c_senses.specs.Objects.{name_row, text_core}
use Rattle.c_senses.specs.Sense.{Sense, IsCore}
use Rattle.c_senses.specs.Expressions.{string_bytes}
use Rattle.core_nodes.specs.Standing.{parts_in, Knows}
use Rattle.c_conversions.specs.Constants.{HasRows}
use Rattle.expression_rows.specs.declared.c_rows.names.Named.{Named}
use Rattle.expression_rows.specs.declared.c_rows.names.Named.TheVariants.{Undeclared, Object, Function, Value, NoValue}
use Rattle.expression_rows.specs.c_rows.Literals.{integer_core, are_bytes, built_integer, built_text}
use Rattle.expression_rows.specs.c_rows.Built.{built_primary, built_primary_of}
use Rattle.expression_rows.specs.c_rows.Named.{IsNamed, IsNamedWithin, NameFits}
use Rattle.expression_rows.specs.c_rows.Lists.{LeafFits, NamesLast, SecondFits, named_leaf}
use Rattle.expression_rows.specs.declared.around.Around.{Around}
use Rattle.expression_rows.specs.Fitting.{IdentifierFits}
use Rattle.parsed_tree_laws.specs.sense_laws.Sound.{Gives}
use Rattle.parsed_tree_laws.proofs.sense_laws.Giving.{if_given}
use Rattle.parsed_tree_laws.proofs.sense_laws.Literals.{integer_holds, character_holds}
use Rattle.parsed_tree_laws.specs.sense_laws.row_trees.Trees.{SenseHasRows, ValuesFit}
use Rattle.parsed_tree_laws.proofs.sense_laws.row_trees.Objects.{text_rows, name_rows}
use Rattle.parsed_tree_laws.proofs.sense_laws.row_trees.Expressions.{as_sense_rows, list_row_rows}

named_meaning : Unit → Named → Option Meaning
named_meaning u Undeclared = None
named_meaning u (Object entity ty allowed) = Some (world.Object entity (type_of u.types ty.0))
named_meaning u (Function entity ty) = Some (world.Function entity (type_of u.types ty.0))
named_meaning u (Value n) = Some (world.Value n)
named_meaning u NoValue = Some (world.Tag 0)

named_allowed : Named → Bool
named_allowed (Object entity ty allowed) = allowed
named_allowed named = true

-- a unit's members and layouts, where each name means the same
pub named_world : Unit → Named → Bool → Option (List ℕ) → Option ℕ → World
named_world u named may name further = record {
  meaning = λ i. named_meaning u named;
  members = λ tag. parts_in u.types (members_in u.types tag);
  look = look_in u.types;
  fillable = looked_up (laid_out [] (map (tag_parts u.types) u.types.completed));
  tags = u.types.tags;
  may_name = λ e. named_allowed named;
  may_call = may;
  own_name = name;
  further = λ e. further;
}

module _ (u : Unit) (may : Bool) (name : Option (List ℕ)) (further : Option ℕ) where
  pub named_knows : (named : Named) → Knows (named_world u named may name further) u
  unfolding named_world
  named_knows named = record { members = λ tag. refl; extents = λ t. refl; tags = refl }

  pub named_calls : (named : Named) → (named_world u named may name further).may_call ≡ may
  unfolding named_world
  named_calls named = refl

  pub named_fits : (named : Named) (i : ℕ) → NameFits (named_world u named may name further) u named name ((named_world u named may name further).meaning i)
  unfolding named_world named_meaning named_allowed
  named_fits Undeclared i = record { meant = refl; own = λ e. refl }
  named_fits (Object entity ty allowed) i = record { meant = (refl, refl); own = λ e. refl }
  named_fits (Function entity ty) i = record { meant = refl; own = λ e. refl }
  named_fits (Value n) i = record { meant = refl; own = λ e. refl }
  named_fits NoValue i = record { meant = tt; own = λ e. refl }

  value_held : (named : Named) → IsNamedWithin u named → (n : ℤ) → named_meaning u named ≡ Some (world.Value n) → Holds int n
  unfolding named_meaning
  value_held Undeclared h n e = cc
  value_held (Object entity ty allowed) h n e = cc
  value_held (Function entity ty) h n e = cc
  value_held (Value k) h n e = let same : k ≡ n = cc in subst (Holds int) same h
  value_held NoValue h n e = cc

  pub named_values : (named : Named) → IsNamedWithin u named → ValuesFit (named_world u named may name further)
  unfolding named_world
  named_values named h = λ leaf n e. value_held named h n e

  -- whatever is looked up for an operation on lists
  leaf_fits : (named : Named) (o : Option ℕ) → LeafFits (named_world u named may name further) o further
  unfolding named_world
  leaf_fits named None = tt
  leaf_fits named (Some leaf) = refl

  names_fits : (named : Named) (x : Sense) → NamesLast (named_world u named may name further) x further
  names_fits named (IsCore c) = leaf_fits named (named_leaf c)
  names_fits named x = tt

  pub second_fits : (named : Named) (sense : ℕ → Sense) (parts : List ℕ) → SecondFits (named_world u named may name further) sense parts further
  second_fits named sense [] = tt
  second_fits named sense (a ∷ []) = tt
  second_fits named sense (a ∷ b ∷ []) = names_fits named (sense b)
  second_fits named sense (a ∷ b ∷ c ∷ parts) = tt

-- a world that fits whatever is looked up for a name
pub identifier_fits : (u : Unit) (s : Source) (sense : ℕ → Sense) (first : ℕ) (rest : List ℕ) (around : Around)
    → IdentifierFits (named_world u around.first around.may_call (option_copied around.own_name) around.further) u s sense first rest around
identifier_fits u s sense first [] around = named_fits u around.may_call (option_copied around.own_name) around.further around.first first
identifier_fits u s sense first (c ∷ rest) around =
    second_fits u around.may_call (option_copied around.own_name) around.further around.first sense (all_where (λ i. not (is_leaf s i)) (c ∷ rest))

-- primaries
module _ (w : World) (s : Source) (sense : ℕ → Sense) (sound : (i : ℕ) → SenseHasRows (sense i)) where
  kind_rows : ValuesFit w → (at first : ℕ) (rest : List ℕ) (kind : TokenKind) → Gives SenseHasRows (built_primary_of w s sense at first rest kind)
  kind_rows values at first [] Identifier = as_sense_rows w (name_row w (place_at s first) at (w.meaning first)) (name_rows w values (place_at s first) at first (w.meaning first) refl)
  kind_rows values at first (c ∷ rest) Identifier = list_row_rows w s sense sound at first (c ∷ rest)
  kind_rows values at first rest Integer =
      as_sense_rows w (built_integer at (place_at s first) (spelling_at s first))
      (if_given HasRows (nat_lt (value_of_integer (spelling_at s first)) (2 ^ 64)) NotBuilt at (Fits (integer_core (place_at s first) (spelling_at s first)))
      (λ lt. ((integer_holds (spelling_at s first) (ltb-true (value_of_integer (spelling_at s first)) (2 ^ 64) lt)).0, tt)))
  kind_rows values at first rest Character = (character_holds (spelling_at s first), tt)
  kind_rows values at first rest Text =
      as_sense_rows w (built_text at (place_at s first) (string_bytes w s sense (first ∷ rest)))
      (if_given HasRows (are_bytes (string_bytes w s sense (first ∷ rest))) NotBuilt at (Fits (text_core (place_at s first) (string_bytes w s sense (first ∷ rest))))
      (λ bytes. text_rows w (place_at s first) (string_bytes w s sense (first ∷ rest))))
  kind_rows values at first [] (Punctuator p) = tt
  kind_rows values at first (c ∷ rest) (Punctuator p) = sound c
  kind_rows values at first rest (Keyword k) = tt
  kind_rows values at first rest Floating = tt
  kind_rows values at first rest End = tt

  pub primary_kept : ValuesFit w → (at : ℕ) (xs : List ℕ) → Gives SenseHasRows (built_primary w s sense at xs)
  primary_kept values at [] = tt
  primary_kept values at (first ∷ rest) = kind_rows values at first rest (kind_at s first)
