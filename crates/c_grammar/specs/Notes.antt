-- What a production notes of what it has read, for the choices and the declarations that ask for it.
use Rattle.std.specs.Prelude.{ℕ, ◌==◌, Bool, true, false, ◌||◌, nat_le, ◌&&◌, Option, Some, None, List, [], ◌++◌}
use Rattle.std.specs.Prelude.{if◌then◌else◌}
use Rattle.std.specs.Option.{option_to_list}
use Rattle.c_grammar.specs.declared.notes.Notes.{Notes}
use Rattle.c_grammar.specs.declared.notes.Shape.{Shape}
use Rattle.c_grammar.specs.declared.notes.Shape.TheVariants.{Nameless, Bare, Listed, Function, Other}
use Rattle.c_grammar.specs.Log.{seen_all}
use Rattle.c_grammar.specs.Names.{Names, Declaration, closing}
use Rattle.c_grammar.specs.Productions.{p_rest, p_specs, p_storage, p_type, p_struct, p_enum, p_enumerator}
use Rattle.c_grammar.specs.Productions.{p_declarator, p_either, p_suffix, p_just_typedef, p_just_void, p_just_bool}
use Rattle.c_grammar.specs.Productions.{p_floating_name, p_typedef_name, p_just_struct, p_just_union, p_star}
use Rattle.c_grammar.specs.Productions.{p_just_ident, p_list_suffix}

-- The notes of a production: whether its specifiers have the word typedef; the token of the name that it declares;
-- whether a star stands before the name at its level; what the declarator makes of its name; the word of one type
-- specifier; the type words of specifiers; and what the parameter list that belongs to the declared name declares:
-- its parameters and the enumerators in it, in the order of the text.
pub record Noted : Type 0 where
  pub typedef_seen : Bool
  pub name : Option ℕ
  pub pointer : Bool
  pub shape : Shape
  pub word : Option ℕ
  pub words : List ℕ
  pub parameters : List Declaration

-- the code's notes, seen so
abbrev pub noted : Notes → Noted
noted n =
    record {
      typedef_seen = n.typedef_seen;
      name = n.name;
      pointer = n.pointer;
      shape = n.shape;
      word = n.word;
      words = n.words.items;
      parameters = seen_all n.parameters.items;
    }

abbrev pub no_notes : Noted
no_notes =
    record {
      typedef_seen = false;
      name = None;
      pointer = false;
      shape = Nameless;
      word = None;
      words = [];
      parameters = [];
    }

-- a production begins without notes; only the rest of a declaration knows of the specifiers before it
unfoldable pub notes_begin : ℕ → Noted → Noted
notes_begin production outer =
    if production == p_rest then record no_notes { typedef_seen = outer.typedef_seen } else no_notes

-- the rows that take a type word
abbrev pub names_type : ℕ → Bool
names_type p =
    (nat_le p_just_void p && nat_le p p_just_bool) || (p == p_floating_name) || (p == p_typedef_name)
    || (p == p_just_struct) || (p == p_just_union) || (p == p_enum)

-- after a token that a row takes, by its place and its terminal
unfoldable pub notes_token : ℕ → ℕ → ℕ → Noted → Noted
notes_token row place first n =
    if row == p_just_ident then record n { name = Some place; shape = Bare }
    else if row == p_star then record n { pointer = true }
    else if row == p_list_suffix then record n { shape = Listed }
    else if row == p_enumerator then record n { name = Some place }
    else if row == p_just_typedef then record n { typedef_seen = true }
    else if names_type row then record n { word = Some first }
    else n

-- What a declarator's suffix makes of its name: next to the name a parameter list makes it a function, as long as
-- it is the only suffix of its level, and any other suffix makes it something else.
abbrev pub shape_after : Shape → Shape → Shape
shape_after suffix Bare = elim suffix [ Listed ↦ Listed | _ ↦ Other ]
shape_after suffix Listed = Other
shape_after suffix Nameless = Nameless
shape_after suffix Function = Function
shape_after suffix Other = Other

-- what a declarator is to what stands around it: a star before a bare name makes something else of it
abbrev pub shape_closed : Bool → Shape → Shape
shape_closed pointer Bare = if pointer then Other else Bare
shape_closed pointer Listed = Function
shape_closed pointer Nameless = Nameless
shape_closed pointer Function = Function
shape_closed pointer Other = Other

abbrev pub parameters_after : Shape → List Declaration → List Declaration → List Declaration
parameters_after Bare inner outer = inner
parameters_after Listed inner outer = outer
parameters_after Nameless inner outer = outer
parameters_after Function inner outer = outer
parameters_after Other inner outer = outer

abbrev pub with_word : Option ℕ → Noted → Noted
with_word word n = record n { words = n.words ++ option_to_list word }

abbrev pub with_suffix : Noted → Noted → Noted
with_suffix inner n =
    record n {
      shape = shape_after inner.shape n.shape;
      parameters = parameters_after n.shape inner.parameters n.parameters;
    }

-- what a production notes of one that it used, from the notes of both
unfoldable pub notes_after : ℕ → Noted → Noted → Noted
notes_after production inner outer =
    if (production == p_storage) then record outer { typedef_seen = outer.typedef_seen || inner.typedef_seen }
    else if production == p_specs then record outer { typedef_seen = inner.typedef_seen }
    else if production == p_type then with_word inner.word outer
    else if (production == p_struct) || (production == p_enum) then record outer { word = inner.word }
    else if (production == p_declarator)
    || (production == p_either)
    then record outer
    { name = inner.name; shape = shape_closed inner.pointer inner.shape; parameters = inner.parameters }
    else if production == p_suffix then with_suffix inner outer
    else outer

-- after a step of scopes in a row: a parameter list keeps what the scope that it closes has declared (C11 6.2.1p4)
unfoldable pub notes_step : ℕ → ℕ → Names → Noted → Noted
notes_step row step scopes n =
    if (row == p_list_suffix) && (step == 1) then record n { parameters = closing scopes } else n
