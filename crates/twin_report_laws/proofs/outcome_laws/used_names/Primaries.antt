-- The rows of all productions make the names of objects and functions at the leaves that name them.
use Rattle.std.proofs.Common.{◌≡◌, ◌||◌, nat_eq, ℕ, Bool, true, false, List, [], ◌∷◌, Option, Some, None, refl, subst}
use Rattle.std.specs.Prelude.{⊤, if◌then◌else◌}
use Rattle.std.proofs.lemmas.Bool.{eqb-true}
use Rattle.pta_base.specs.declared.kind.Kind.TheVariants.{Operand}
use Rattle.pta_base.specs.declared.place.Place.{Place}
use Rattle.c_lexer.specs.declared.TokenKind.{TokenKind}
use Rattle.c_lexer.specs.declared.TokenKind.TheVariants.{Identifier, Keyword, Punctuator, Integer, Floating, Character, Text, End}
use Rattle.c_grammar.specs.Productions.{p_rest, p_specs, p_type, p_struct, p_enum, p_primary}
use Rattle.c_grammar.specs.Terminals.{contains}
use Rattle.c_types.specs.Trees.{Ctype}
use Rattle.core_tree.specs.declared.node.NodeKind.TheVariants.{Named, FunctionName}
use Rattle.core_tree.specs.Rows.{Has}
use Rattle.c_consts.specs.Core.{Core, Of, leaf}
use Rattle.c_senses.specs.Tree.{Source, production_at, place_at, kind_at}
use Rattle.c_senses.specs.Given.{Given, Fits, Refuses}
use Rattle.c_senses.specs.World.{World, Meaning, Object, Function, TypeName, Tag, Value}
use Rattle.c_senses.specs.Objects.{text_core, object_name, name_row}
use Rattle.c_senses.specs.Sense.{Sense, IsInitial}
use Rattle.c_senses.specs.Expressions.{passed, primary_of, primary_row}
use Rattle.c_senses.specs.Statements.{runs_initialiser, initials_among}
use Rattle.c_senses.specs.Rows.{row_of}
use Rattle.core_node_laws.specs.near_nodes.Holding.{Holds, AreOf, OfSense, MeaningGives, RowGives}
use Rattle.core_node_laws.proofs.near_nodes.Nearness.{AllNear, all_near}
use Rattle.core_node_laws.proofs.near_nodes.Giving.{Gives, if_given, if_holds}
use Rattle.core_node_laws.proofs.near_nodes.Values.{typed_kept}
use Rattle.core_node_laws.proofs.near_nodes.Expressions.{as_sense_kept, list_row_kept}
use Rattle.core_node_laws.proofs.near_nodes.Types.{type_kept, specs_kept, struct_kept, enum_kept}
use Rattle.core_node_laws.proofs.near_nodes.Rows.{row_kept}
use Rattle.twin_report_laws.specs.outcome_laws.used_names.Uses.{using}

-- the names of objects and functions in a tree are used so, each at its place
abbrev pub Placed : (ℕ → Place → Type 0) → Core → Type 0
Placed used (Of (Named e) place type under) = used e place
Placed used (Of (FunctionName e) place type under) = used e place
Placed used c = ⊤

abbrev pub Anywhere : ℕ → Type 0
Anywhere i = ⊤

module _ (used : ℕ → Place → Type 0) where
  -- what a name means that stands at a place
  abbrev pub MeansAt : Place → Option Meaning → Type 0
  MeansAt place (Some (Object e t)) = used e place
  MeansAt place (Some (Function e t)) = used e place
  MeansAt place m = ⊤

  object_placed : (w : World) (place : Place) (at entity : ℕ) (t : Ctype) → used entity place → Gives (Holds (Placed used)) (object_name w place at entity t)
  object_placed w place at entity t named = typed_kept (Placed used) at t _ (if_given (Holds (Placed used)) (w.may_name entity) Operand at (Fits (leaf (Named entity) place t)) (named, tt))

  own_placed : (place : Place) (at : ℕ) (o : Option (List ℕ)) → Gives (Holds (Placed used)) (elim o as (λ _. Given Core) [ None ↦ Refuses Operand at | Some name ↦ Fits (text_core place name) ])
  own_placed place at None = tt
  own_placed place at (Some name) = (tt, tt)

  name_placed : (w : World) (place : Place) (at : ℕ) (o : Option Meaning) → MeansAt place o → Gives (Holds (Placed used)) (name_row w place at o)
  name_placed w place at None h = own_placed place at w.own_name
  name_placed w place at (Some (Object entity t)) h = object_placed w place at entity t h
  name_placed w place at (Some (Function entity t)) h = (h, tt)
  name_placed w place at (Some (TypeName t)) h = tt
  name_placed w place at (Some (Tag tag)) h = tt
  name_placed w place at (Some (Value n)) h = (tt, tt)

  initial_or : (s : Source) (b : Bool) (x : Sense) → OfSense s Anywhere (Placed used) x → (cores : List Core) → AreOf (Placed used) cores
      → AreOf (Placed used) (elim x as (λ _. List Core) [ IsInitial y n ↦ if b then y ∷ cores else cores | _ ↦ cores ])
  initial_or s b (IsInitial y n) h cores k = if_holds (AreOf (Placed used)) b (y ∷ cores) cores (h, k) k
  initial_or s b x h cores k = k

  module _ (w : World) (s : Source) (sense : ℕ → Sense) (each : (c : ℕ) → OfSense s Anywhere (Placed used) (sense c)) where
    abbrev Good : Given Sense → Type 0
    Good = Gives (OfSense s Anywhere (Placed used))

    passed_placed : (at : ℕ) (children : List ℕ) → Good (passed sense at children)
    passed_placed at [] = tt
    passed_placed at (c ∷ rest) = each c

    primary_of_placed : (at first : ℕ) (rest : List ℕ) (kind : TokenKind) → (kind ≡ Identifier → MeansAt (place_at s first) (w.meaning first)) → Good (primary_of w s sense at first rest kind)
    primary_of_placed at first (c ∷ rest) Identifier means =
        list_row_kept (Placed used) w s sense Anywhere (λ i here. each i) (λ entity function place list type asked e. tt) at first (c ∷ rest) (all_near Anywhere (c ∷ rest) (λ i has. tt))
    primary_of_placed at first [] Identifier means =
        as_sense_kept s Anywhere (Placed used) w (name_row w (place_at s first) at (w.meaning first)) (name_placed w (place_at s first) at (w.meaning first) (means refl))
    primary_of_placed at first rest Integer means = (tt, tt)
    primary_of_placed at first rest Character means = (tt, tt)
    primary_of_placed at first rest Text means = (tt, tt)
    primary_of_placed at first rest (Punctuator p) means = passed_placed at rest
    primary_of_placed at first rest (Keyword k) means = tt
    primary_of_placed at first rest Floating means = tt
    primary_of_placed at first rest End means = tt

    abbrev pub FirstMeans : List ℕ → Type 0
    FirstMeans children = (first : ℕ) (rest : List ℕ) → children ≡ first ∷ rest → kind_at s first ≡ Identifier → MeansAt (place_at s first) (w.meaning first)

    primary_placed : (at : ℕ) (children : List ℕ) → FirstMeans children → Good (primary_row w s sense at children)
    primary_placed at [] means = tt
    primary_placed at (first ∷ rest) means = primary_of_placed at first rest (kind_at s first) (means first rest refl)

    -- what declarations run
    initials_placed : (list : List ℕ) → AreOf (Placed used) (initials_among w s sense list)
    initials_placed [] = tt
    initials_placed (c ∷ rest) = initial_or s (runs_initialiser w s sense c) (sense c) (each c) (initials_among w s sense rest) (initials_placed rest)

    module _ (production at : ℕ) (children : List ℕ) (own : production ≡ production_at s at) where
      near : AllNear Anywhere children
      near = all_near Anywhere children (λ c has. tt)

      -- a row whose parts are no names that are used
      other_placed : ((c : ℕ) → Has children c → MeaningGives (Placed used) (w.meaning c)) → Good (row_of w s sense production at children)
      other_placed names =
          let gives : RowGives (Placed used) w s sense at children = record {
            names = names;
            lists = λ entity function place at type asked e. tt;
            objects = λ declarator l by_it named paths values fixed. tt;
            initials = λ q above paths values over fixed. tt;
            literals = λ q above type initial over. tt;
            blocks = λ is_one place under. tt;
            plains = λ c a place under. tt;
            fors = λ is_statement e has is_one c a place under. tt;
          } in
          row_kept (Placed used) w s sense Anywhere (λ i c has here. tt) (λ c here. each c) production at children gives own tt near (λ is first rest e. tt)

      of_one : (q : ℕ) → nat_eq q production ≡ true → Good (row_of w s sense q at children) → Good (row_of w s sense production at children)
      of_one q e h = subst (λ (p : ℕ). Good (row_of w s sense p at children)) (eqb-true q production e) h

      pub row_placed : (nat_eq p_primary production ≡ true → FirstMeans children) → (contains using production ≡ false → (c : ℕ) → Has children c → MeaningGives (Placed used) (w.meaning c)) → Good (row_of w s sense production at children)
      row_placed means names =
          by (nat_eq p_rest production) (nat_eq p_specs production) (nat_eq p_type production) (nat_eq p_struct production) (nat_eq p_enum production) (nat_eq p_primary production) refl refl refl refl refl refl (λ e. other_placed (names e))
        where
          by : (a b c d e f : Bool) → nat_eq p_rest production ≡ a → nat_eq p_specs production ≡ b → nat_eq p_type production ≡ c → nat_eq p_struct production ≡ d → nat_eq p_enum production ≡ e → nat_eq p_primary production ≡ f
              → ((a || (b || (c || (d || (e || (f || false)))))) ≡ false → Good (row_of w s sense production at children)) → Good (row_of w s sense production at children)
          by true b c d e f ea eb ec ed ee ef later = of_one p_rest ea (initials_placed children)
          by false true c d e f ea eb ec ed ee ef later = of_one p_specs eb (specs_kept (Placed used) w s sense Anywhere (λ c here. each c) at children)
          by false false true d e f ea eb ec ed ee ef later = of_one p_type ec (type_kept (Placed used) w s sense Anywhere (λ c here. each c) at children near)
          by false false false true e f ea eb ec ed ee ef later = of_one p_struct ed (struct_kept (Placed used) w s sense Anywhere (λ c here. each c) at)
          by false false false false true f ea eb ec ed ee ef later = of_one p_enum ee (enum_kept (Placed used) w s sense Anywhere (λ c here. each c) at)
          by false false false false false true ea eb ec ed ee ef later = of_one p_primary ef (primary_placed at children (means ef))
          by false false false false false false ea eb ec ed ee ef later = later refl
