-- The names of declarators, as they have been made.
use Rattle.std.specs.Prelude.{ℕ, ◌<◌, ⊤, Option, None, IfSome}
use Rattle.c_senses.specs.Sense.{Sense, IsDeclarator}
use Rattle.c_results.specs.declared.made.Made.{Made}
use Rattle.c_results.specs.declared.made.Made.TheVariants as made

-- the name of a declarator
abbrev pub name_within : Sense → Option ℕ
name_within sense = elim sense [ IsDeclarator name ds ↦ name | _ ↦ None ]

-- a name is the number of a node, in a tree of so many
abbrev pub IsNamedIn : ℕ → Made → Type 0
IsNamedIn count made.Nothing = ⊤
IsNamedIn count (made.Node i) = ⊤
IsNamedIn count (made.Typed t) = ⊤
IsNamedIn count (made.Specifiers storage functions ty) = ⊤
IsNamedIn count (made.Declarator name ds) = IfSome name (λ leaf. leaf < count)
IsNamedIn count (made.Derived d) = ⊤
IsNamedIn count (made.Parameter name ty) = ⊤
IsNamedIn count (made.Members members) = ⊤
IsNamedIn count (made.Value n) = ⊤
IsNamedIn count (made.Run nodes) = ⊤
IsNamedIn count (made.Initial node n) = ⊤

-- a named sense
abbrev pub IsNamedSense : ℕ → Sense → Type 0
IsNamedSense count sense = IfSome (name_within sense) (λ leaf. leaf < count)
