-- Functions that are defined with () in units have no parameters in the program.
use Rattle.std.proofs.Common.{◌≡◌, ◌∙◌, ℕ, Bool, true, false, List, Option, Some, None, is_some, refl, sym, ap, subst, inl, inr}
use Rattle.std.specs.Option.{option_map_or}
use Rattle.c_types.specs.declared.term.Form.TheVariants.{Fixed, Variadic, Unspecified}
use Rattle.c_types.specs.Trees.{Ctype, NoTypes, MoreTypes, FunctionFrom}
use Rattle.c_types.specs.Table.{type_of}
use Rattle.type_rules.specs.Kinds.{IsFunction}
use Rattle.core_tree.specs.declared.node.Entity.{Entity}
use Rattle.core_tree.specs.declared.node.Storage.TheVariants.{FunctionBody}
use Rattle.core_tree.specs.declared.node.Unit.{Unit}
use Rattle.core_tree.specs.declared.node.Program.{Program}
use Rattle.core_tree.specs.Typed.{trees_of, trees_in}
use Rattle.core_tree.specs.Valid.{HasBody}
use Rattle.link_model.specs.Merged.{moved}
use Rattle.link_model.specs.Renamed.{renamed}
use Rattle.link_names.specs.declared.declared.Declared.{Declared}
use Rattle.link_names.specs.Externals.{item_of, declared_type, has_body, is_defined}
use Rattle.link_names.specs.Together.{type_together, linked_type}
use Rattle.unit_link.specs.Linked.{LinkedAt, joined}
use Rattle.unit_link.specs.Needs.{AreLinkable}
use Rattle.linked_laws.specs.alike_laws.Plain.{IsPlain, DefinesPlain, DefinePlain}
use Rattle.linked_laws.proofs.alike_laws.Origins.{own_type}
use Rattle.linked_laws.proofs.embedded_laws.Entities.{IsNameOf, IsOtherOf, at_item, each_entity}
use Rattle.linked_laws.proofs.row_laws.Types.{function_to}
use Rattle.linked_laws.proofs.row_laws.Agreeing.{Fits}
use Rattle.linked_laws.proofs.row_laws.Names.{fits_together}

plain_to : (f : ℕ → ℕ) (t : Ctype) → IsPlain t → IsPlain (renamed f t)
plain_to f (FunctionFrom r (MoreTypes t ts) Unspecified) h = h
plain_to f t h = tt

-- what makes a name keeps its list, and () where it has a body
made_plain : (defined : Bool) (own t : Ctype) → IsFunction own → IsPlain own → Fits own t → IsPlain (linked_type true defined own t)
made_plain true (FunctionFrom r ps Unspecified) t is h k = h
made_plain false (FunctionFrom r ps Unspecified) t is h k = h
made_plain true (FunctionFrom r ps Fixed) t is h k = subst (λ (y : Ctype). IsPlain (linked_type true true (FunctionFrom r ps Fixed) y)) k h
made_plain false (FunctionFrom r ps Fixed) t is h k = subst (λ (y : Ctype). IsPlain (linked_type true false (FunctionFrom r ps Fixed) y)) k h
made_plain true (FunctionFrom r ps Variadic) t is h k = subst (λ (y : Ctype). IsPlain (linked_type true true (FunctionFrom r ps Variadic) y)) k h
made_plain false (FunctionFrom r ps Variadic) t is h k = subst (λ (y : Ctype). IsPlain (linked_type true false (FunctionFrom r ps Variadic) y)) k h
made_plain defined own t is h k = absurd is

module _ {names : List (List ℕ)} (units : List Unit) (p : Program) (linkable : AreLinkable units) (plain : DefinePlain units) (h : LinkedAt names units p) where
  name_plain : (d : Declared) (of : Unit) (x y : Entity) → IsNameOf units p linkable h d of x y → y.storage ≡ FunctionBody → IsPlain (type_of p.types y.ty.0)
  name_plain d of x y m storage = by x.body ((linkable.valid d.unit of m.of_is).trees.bodied d.number x m.at) bodied
    where
      own : Ctype
      own = moved h.numbers d.unit (type_of of.types x.ty.0)

      stored : x.storage ≡ FunctionBody
      stored = sym m.moves.storage ∙ storage

      bodied : has_body units (item_of d) ≡ is_some x.body
      bodied = ap (λ o. option_map_or (λ (z : Entity). is_some z.body) o false) (at_item units p linkable h d.unit d.number of x m.of_is m.at)

      typed : (b : Bool) → has_body units (item_of d) ≡ b → type_of p.types y.ty.0 ≡ linked_type b (is_defined (joined units h.numbers p.types) (item_of d)) own (type_together (joined units h.numbers p.types) x.name h.declarations)
      typed b e =
          let j = joined units h.numbers p.types in
          let all = type_together j x.name h.declarations in
          m.type
          ∙ (ap (λ (c : Bool). linked_type c (is_defined j (item_of d)) (declared_type j d) all) e
          ∙ ap (λ (t : Ctype). linked_type b (is_defined j (item_of d)) t all) (own_type units p linkable h d.unit of d.number x m.of_is m.at))

      by : (o : Option ℕ) → HasBody (trees_of of) d.number x o → has_body units (item_of d) ≡ is_some o → IsPlain (type_of p.types y.ty.0)
      by None b e = absurd (b stored)
      by (Some n) b e =
          let j = joined units h.numbers p.types in
          let function : IsFunction (type_of of.types x.ty.0) = elim b.0 [ inl f ↦ f.function | inr object ↦ absurd (object.storage stored) ] in
          subst IsPlain (sym (typed true e))
          (made_plain (is_defined j (item_of d)) own (type_together j x.name h.declarations) (function_to (h.numbers.tag d.unit) (type_of of.types x.ty.0) function)
          (plain_to (h.numbers.tag d.unit) (type_of of.types x.ty.0) (plain d.unit of m.of_is d.number x m.at stored)) (fits_together units p linkable h d.unit d.number of x m.of_is m.at m.external x.name refl))

  pub linked_plain : DefinesPlain (trees_in p)
  linked_plain = each_entity units p linkable h (λ e y. y.storage ≡ FunctionBody → IsPlain (type_of p.types y.ty.0)) name_plain
      (λ u e of x y m storage. subst IsPlain (sym m.type) (plain_to (h.numbers.tag u) (type_of of.types x.ty.0) (plain u of m.of_is e x m.at (sym m.moves.storage ∙ storage))))
