-- What a designator's row gives, in the world that is a unit's own.
use Rattle.std.proofs.Common.{ℕ, ℤ, refl, subst, Bool, true, false, Option, Some, None, List, [], ◌∷◌, Result, Ok, Err, IfOk, if◌then◌else◌}
use Rattle.pta_base.specs.declared.kind.Kind.TheVariants.{Operand}
use Rattle.c_types.specs.Table.{members_in, look_in}
use Rattle.core_tree.specs.declared.node.Unit.{Unit}
use Rattle.c_grammar.specs.Productions.{p_conditional}
use Rattle.c_grammar.specs.Words.{sign_left_bracket}
use Rattle.c_senses.specs.Given.{Given, Fits, Refuses, ◌>>=◌, given_some}
use Rattle.c_senses.specs.World.{World}
use Rattle.c_senses.specs.Tree.{Source, has_sign, child_of}
use Rattle.c_senses.specs.Sense.{Sense, Nothing, IsValue}
use Rattle.c_senses.specs.Constants.{constant_in}
use Rattle.c_senses.specs.Initialised.{designator_row}
use Rattle.core_nodes.specs.Standing.{parts_in, Knows}
use Rattle.core_nodes.specs.declared.fault.CheckFault.{CheckFault}
use Rattle.c_results.specs.declared.made.Made.{Made}
use Rattle.c_results.specs.Standing.{sense_made, Rowed}
use Rattle.parsed_tree_laws.specs.sense_laws.Sound.{Gives}
use Rattle.statement_rows.specs.Kept.{HasAllRows}
use Rattle.name_places.specs.Named.{IsNamedIn, IsNamedSense}
use Rattle.name_places.proofs.Naming.{named_from_sense}

abbrev pub own_world : Unit → World
own_world u = record {
  meaning = λ leaf. None;
  members = λ tag. parts_in u.types (members_in u.types tag);
  look = look_in u.types;
  fillable = λ tag. None;
  tags = u.types.tags;
  may_name = λ e. true;
  may_call = true;
  own_name = None;
  further = λ leaf. None;
}

pub own_known : (u : Unit) → Knows (own_world u) u
own_known u = record { members = λ tag. refl; extents = λ t. refl; tags = refl }

value_kept : (g : Given ℤ) → Gives HasAllRows (g >>= (λ n. Fits (IsValue n)))
value_kept (Fits n) = (tt, tt)
value_kept (Refuses kind node) = tt

module _ (w : World) (s : Source) (sense : ℕ → Sense) (at : ℕ) where
  index_kept : (o : Option ℕ) → Gives HasAllRows (given_some o Operand at >>= (λ c. constant_in w s at (sense c) >>= (λ n. Fits (IsValue n))))
  index_kept None = tt
  index_kept (Some c) = value_kept (constant_in w s at (sense c))

  designator_kept : (children : List ℕ) → Gives HasAllRows (designator_row w s sense at children)
  designator_kept [] = tt
  designator_kept (first ∷ rest) = by (has_sign s sign_left_bracket first)
    where
      by : (b : Bool) → Gives HasAllRows (if b then (given_some (child_of s p_conditional at) Operand at >>= (λ c. constant_in w s at (sense c) >>= (λ n. Fits (IsValue n)))) else Fits Nothing)
      by true = index_kept (child_of s p_conditional at)
      by false = (tt, tt)

  -- it is no declarator
  value_unnamed : (count : ℕ) (g : Given ℤ) → Gives (IsNamedSense count) (g >>= (λ n. Fits (IsValue n)))
  value_unnamed count (Fits n) = tt
  value_unnamed count (Refuses kind node) = tt

  index_unnamed : (count : ℕ) (o : Option ℕ) → Gives (IsNamedSense count) (given_some o Operand at >>= (λ c. constant_in w s at (sense c) >>= (λ n. Fits (IsValue n))))
  index_unnamed count None = tt
  index_unnamed count (Some c) = value_unnamed count (constant_in w s at (sense c))

  designator_unnamed : (count : ℕ) (children : List ℕ) → Gives (IsNamedSense count) (designator_row w s sense at children)
  designator_unnamed count [] = tt
  designator_unnamed count (first ∷ rest) = by (has_sign s sign_left_bracket first)
    where
      by : (b : Bool) → Gives (IsNamedSense count) (if b then (given_some (child_of s p_conditional at) Operand at >>= (λ c. constant_in w s at (sense c) >>= (λ n. Fits (IsValue n)))) else Fits Nothing)
      by true = index_unnamed count (child_of s p_conditional at)
      by false = tt

  pub designator_named : (u : Unit) (r : Result Made CheckFault) (children : List ℕ) (count : ℕ) → Rowed u r (designator_row w s sense at children) → IfOk r (IsNamedIn count)
  designator_named u (Ok m) children count made = named_from_sense u count m (subst (Gives (IsNamedSense count)) made (designator_unnamed count children))
  designator_named u (Err e) children count made = tt

  pub designator_rows : (u : Unit) (r : Result Made CheckFault) (children : List ℕ) → Rowed u r (designator_row w s sense at children) → IfOk r (λ m. HasAllRows (sense_made u m))
  designator_rows u (Ok m) children made = subst (Gives HasAllRows) made (designator_kept children)
  designator_rows u (Err e) children made = tt
