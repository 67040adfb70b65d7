-- The items of the code as those of the definitions.
use Rattle.std.specs.Prelude.{Bool, false, ◌||◌, eqb, List, [], ◌∷◌, map, Vec, if◌then◌else◌}
use Rattle.std.specs.Global.{Global}
use Rattle.std.specs.Cmp.Lexicographic.{pointwise}
use Rattle.std.specs.List.{list_any}
use Rattle.std.specs.BTreeSet.{BTreeSet}
use Rattle.c_types.specs.declared.term.PathStep.{PathStep}
use Rattle.c_types.specs.declared.term.PathStep.TheVariants.{Index, Member}
use Rattle.c_inits.specs.declared.items.InitItem.{InitItem}
use Rattle.c_inits.specs.declared.items.InitAction.{InitAction}
use Rattle.c_inits.specs.declared.items.InitAction.TheVariants.{Clears as ClearsPath, Puts as PutsItem}
use Rattle.c_inits.specs.declared.items.StepKey.{StepKey}
use Rattle.c_inits.specs.declared.items.StepKey.TheVariants.{Index as IndexKey, Member as MemberKey}
use Rattle.c_inits.specs.Initial.{Placed, Action, Clears, Puts}

abbrev pub placed_of : InitItem → Placed
placed_of i = record { path = i.path.items; node = i.node; character = i.character }

abbrev pub action_of : InitAction → Action
action_of (ClearsPath path) = Clears path.items
action_of (PutsItem item) = Puts (placed_of item)

abbrev pub key_step : PathStep → StepKey
key_step (Index k) = IndexKey k
key_step (Member k) = MemberKey k

abbrev pub key_path : List PathStep → List StepKey
key_path path = map key_step path

-- whether a beginning of a list, or all of it, passes a test
abbrev pub has_prefix : {A : Type 0} → (List A → Bool) → List A → Bool
has_prefix test [] = test []
has_prefix test (x ∷ xs) = test [] || has_prefix (λ p. test (x ∷ p)) xs

abbrev pub same_step_key : StepKey → StepKey → Bool
same_step_key (IndexKey a) (IndexKey b) = eqb a b
same_step_key (MemberKey a) (MemberKey b) = eqb a b
same_step_key a b = false

abbrev pub same_key : List StepKey → List StepKey → Bool
same_key a b = pointwise same_step_key a b

-- whether a set has that key
abbrev pub knows : BTreeSet (Vec StepKey Global) → List StepKey → Bool
knows set p = list_any (λ k. same_key p k.items) set.keys

-- whether an action clears that path
abbrev pub clears_key : InitAction → List StepKey → Bool
clears_key (ClearsPath path) p = same_key (key_path path.items) p
clears_key (PutsItem item) p = false

-- what is left of an action, where later ones take away what passes a test
abbrev pub left_of : (List StepKey → Bool) → InitAction → List InitItem
left_of gone (ClearsPath path) = []
left_of gone (PutsItem item) = if gone (key_path item.path.items) then [] else item ∷ []
