-- That no two entities have one body.
use Rattle.std.proofs.Common.{◌≡◌, ◌∙◌, ℕ, ◌⊎◌, inl, inr, List, Option, Some, None, refl, sym}
use Rattle.core_tree.specs.declared.node.Node.{Node}
use Rattle.core_tree.specs.declared.node.NodeKind.{NodeKind}
use Rattle.core_tree.specs.declared.node.NodeKind.TheVariants.{Initialise}
use Rattle.core_tree.specs.declared.node.Unit.{Unit}
use Rattle.core_tree.specs.declared.node.Entity.{Entity}
use Rattle.core_tree.specs.declared.node.Storage.{Storage}
use Rattle.core_tree.specs.declared.node.Storage.TheVariants.{Static, Automatic, FunctionBody, Parameter, Declared}
use Rattle.core_tree.specs.Typed.{trees_of}
use Rattle.core_tree.specs.Rows.{InitialisesEntity, InitialisesIn}
use Rattle.core_tree.specs.Range.{entity_at}
use Rattle.c_senses.specs.Tree.{Source}
use Rattle.declaration_laws.specs.definition_laws.passed.built_unit_laws.built_units.Built.{IsBuilt}
use Rattle.declaration_laws.specs.function_laws.body_laws.Bodies.{BodiesInitialise, OneBodyEach}

is_function : (s : Storage) → (s ≡ FunctionBody) ⊎ (s ≡ FunctionBody → ⊥)
is_function Static = inr (λ e. cc)
is_function Automatic = inr (λ e. cc)
is_function FunctionBody = inl refl
is_function Parameter = inr (λ e. cc)
is_function Declared = inr (λ e. cc)

-- a node initialises one entity at most
one_kind : (kind : NodeKind) (d e : ℕ) → InitialisesEntity kind d → InitialisesEntity kind e → d ≡ e
one_kind (Initialise o paths) d e hd he = sym hd ∙ he
one_kind kind d e hd he = absurd hd

one_node : (node : Option Node) (d e : ℕ) → InitialisesIn node d → InitialisesIn node e → d ≡ e
one_node None d e hd he = absurd hd
one_node (Some x) d e hd he = one_kind x.kind d e hd he

module _ (s : Source) (name : List ℕ) (u : Unit) (built : IsBuilt s name u) (objects : BodiesInitialise u) where
  apart : (e d b : ℕ) (entity other : Entity) → entity_at (trees_of u) e ≡ Some entity → entity_at (trees_of u) d ≡ Some other → entity.body ≡ Some b → other.body ≡ Some b → d ≡ e
  apart e d b entity other at there body same =
      elim (is_function entity.storage) [
        | inl f ↦ built.alone e entity at f b body d other there same
        | inr not ↦ elim (is_function other.storage) [
          | inl f ↦ sym (built.alone d other there f b same e entity at body)
          | inr neither ↦ one_node _ d e (objects d other there neither b same) (objects e entity at not b body)
        ]
      ]

pub one_body_each : OneBodyEach
one_body_each s name u built objects = λ e entity at b body d other there same. apart s name u built objects e d b entity other at there body same
