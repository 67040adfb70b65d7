-- What is there at the start of two programs that are one, but for numbers, where they are entered from outside.
use Rattle.std.proofs.Common.{◌≡◌, ◌∙◌, ◌<◌, ◌++◌, ◌==◌, ℕ, Bool, true, false, List, [], ◌∷◌, map, length, All, Option, Some, None, refl, sym, ap, subst, inl, inr}
use Rattle.std.specs.Prelude.{if◌then◌else◌, not}
use Rattle.std.specs.List.{slice_get, flat_map}
use Rattle.std.specs.Option.{option_map}
use Rattle.std.proofs.lemmas.Bool.{eqb-true, eq-eqb}
use Rattle.std.proofs.lemmas.List.{map-append}
use Rattle.std.proofs.lemmas.List.Elements.{All-head, All-tail}
use Rattle.c_types.specs.declared.key.ObjectKey.{ObjectKey}
use Rattle.c_types.specs.declared.key.ObjectKey.TheVariants.{Entity as EntityKey, Outside}
use Rattle.c_types.specs.Trees.{Ctype}
use Rattle.c_types.specs.Table.{type_of}
use Rattle.core_tree.specs.declared.node.Entity.{Entity}
use Rattle.core_tree.specs.declared.node.Program.{Program}
use Rattle.core_tree.specs.Typed.{CoreTrees, trees_in}
use Rattle.type_rules.specs.Conversions.{result_of}
use Rattle.link_model.specs.Renamed.{renamed}
use Rattle.sol_model.specs.declared.system.Constraint.{Constraint}
use Rattle.sol_model.specs.declared.system.Constraint.TheVariants.{Address as AddressForm, Copy as CopyForm}
use Rattle.obj_space.specs.Space.{locations_in}
use Rattle.obj_space.specs.View.{SpaceView}
use Rattle.row_numbers.specs.Kept.{nodes_of, row_list}
use Rattle.row_numbers.specs.Functions.{number_of, entity_in, is_owned_by, all_parameters, parameters_of, type_or_void}
use Rattle.row_numbers.specs.Setting.{none_row, result_row, result_nodes}
use Rattle.normal_form.specs.Facts.{parameter_rows}
use Rattle.normal_form.specs.SystemOf.{present_rows, taken_in, given_out, result_rows, entry_constraints, outside_constraints, start_constraints}
use Rattle.twin_report_laws.specs.outcome_laws.twin_programs.One.{Numbers}
use Rattle.twin_report_laws.specs.outcome_laws.twin_locations.Same.{key_moved}
use Rattle.twin_report_laws.specs.systems.Systems.{Maps, constraint_moved}
use Rattle.twin_report_laws.proofs.outcome_laws.twin_words.Options.{same_test}
use Rattle.twin_report_laws.proofs.outcome_laws.twin_words.Members.{Member}
use Rattle.twin_report_laws.proofs.outcome_laws.twin_words.Library.{first_below}
use Rattle.twin_report_laws.proofs.outcome_laws.twin_words.Results.{result_renamed, result_tags}
use Rattle.twin_report_laws.specs.rows.Paired.{ArePaired, flipped}
use Rattle.twin_report_laws.specs.rows.Ready.{IsReady}
use Rattle.twin_report_laws.proofs.rows.Views.{here, over, first_same, number_same}
use Rattle.twin_report_laws.proofs.rows.Types.{nodes_moved, own_tags}
use Rattle.twin_report_laws.proofs.rows.Rows.{row_list_moved, row_moved, row_location, none_moved, result_moved, rows_round}
use Rattle.twin_report_laws.proofs.rows.Nodes.{some_at}
use Rattle.twin_report_laws.proofs.rows.Functions.{filter_member, parameters_same, entity_type_moved, rows_same}

-- lists that are made of each of a list, one of the list's images
flat_moved : {X : Type 0} (f g : X → List Constraint) (k : X → X) (c : Constraint → Constraint) (xs : List X) → ((x : X) → Member xs x → g (k x) ≡ map c (f x)) → flat_map g (map k xs) ≡ map c (flat_map f xs)
flat_moved f g k c [] h = refl
flat_moved f g k c (x ∷ xs) h =
    ap (λ (ys : List Constraint). ys ++ flat_map g (map k xs)) (h x (inl refl))
    ∙ (ap (λ (ys : List Constraint). map c (f x) ++ ys) (flat_moved f g k c xs (λ y there. h y (inr there))) ∙ sym (map-append c (f x) (flat_map f xs)))

all_member : {X : Type 0} (P : X → Type 0) (xs : List X) (x : X) → All P xs → Member xs x → P x
all_member P [] x h m = absurd m
all_member P (y ∷ ys) x h (inl same) = subst P same (All-head P y ys h)
all_member P (y ∷ ys) x h (inr m) = all_member P ys x (All-tail P y ys h) m

module _ (p q : Program) (to back : Numbers) (h : ArePaired p q to back) (ready : IsReady p) (maps : Maps) (rows : (r : ℕ) → maps.row r ≡ row_moved p q to back h r) where
  abbrev u : CoreTrees
  u = trees_in p

  abbrev v : CoreTrees
  v = trees_in q

  abbrev s : SpaceView
  s = here p q to back h

  abbrev z : SpaceView
  z = over p q to back h

  abbrev m : ℕ → ℕ
  m = row_moved p q to back h

  abbrev moved : Constraint → Constraint
  moved = constraint_moved maps

  -- rows that are there
  present_same : (r : ℕ) → (m r == none_row v z) ≡ (r == none_row u s)
  present_same r =
      same_test (r == none_row u s) (m r == none_row v z) (λ e. eq-eqb (m r) (none_row v z) (ap m (eqb-true r (none_row u s) e) ∙ none_moved p q to back h))
      (λ e. eq-eqb r (none_row u s)
      (sym (rows_round p q to back h r) ∙ (ap (row_moved q p back to (flipped p q to back h)) (eqb-true (m r) (none_row v z) e) ∙ none_moved q p back to (flipped p q to back h))))

  present_moved : (rs : List ℕ) → present_rows v z (map m rs) ≡ map m (present_rows u s rs)
  present_moved [] = refl
  present_moved (r ∷ rs) = ap (λ (b : Bool). if not b then m r ∷ present_rows v z (map m rs) else present_rows v z (map m rs)) (present_same r) ∙ by (r == none_row u s) (present_moved rs)
    where
      by : (b : Bool) → present_rows v z (map m rs) ≡ map m (present_rows u s rs)
          → (if not b then m r ∷ present_rows v z (map m rs) else present_rows v z (map m rs)) ≡ map m (if not b then r ∷ present_rows u s rs else present_rows u s rs)
      by true e = e
      by false e = ap (λ (ns : List ℕ). m r ∷ ns) e

  -- copies from one row and to one row, which stays where it is
  module _ (l : ℕ) (stays : maps.row l ≡ l) where
    copies_in : (rs : List ℕ) → map (λ row. CopyForm l row) (map m rs) ≡ map moved (map (λ row. CopyForm l row) rs)
    copies_in [] = refl
    copies_in (r ∷ rs) =
        ap (λ (n : ℕ). CopyForm n (m r) ∷ map (λ row. CopyForm l row) (map m rs)) (sym stays)
        ∙ (ap (λ (n : ℕ). CopyForm (maps.row l) n ∷ map (λ row. CopyForm l row) (map m rs)) (sym (rows r)) ∙ ap (λ (cs : List Constraint). CopyForm (maps.row l) (maps.row r) ∷ cs) (copies_in rs))

    copies_out : (rs : List ℕ) → map (λ row. CopyForm row l) (map m rs) ≡ map moved (map (λ row. CopyForm row l) rs)
    copies_out [] = refl
    copies_out (r ∷ rs) =
        ap (λ (n : ℕ). CopyForm (m r) n ∷ map (λ row. CopyForm row l) (map m rs)) (sym stays)
        ∙ (ap (λ (n : ℕ). CopyForm n (maps.row l) ∷ map (λ row. CopyForm row l) (map m rs)) (sym (rows r)) ∙ ap (λ (cs : List Constraint). CopyForm (maps.row r) (maps.row l) ∷ cs) (copies_out rs))

    taken_moved : (rs : List ℕ) → taken_in v z l (map m rs) ≡ map moved (taken_in u s l rs)
    taken_moved rs = ap (map (λ (row : ℕ). CopyForm l row)) (present_moved rs) ∙ copies_in (present_rows u s rs)

    given_moved : (rs : List ℕ) → given_out v z l (map m rs) ≡ map moved (given_out u s l rs)
    given_moved rs = ap (map (λ (row : ℕ). CopyForm row l)) (present_moved rs) ∙ copies_out (present_rows u s rs)

    -- the rows of a result
    results_moved : (e : ℕ) (a : Entity) → slice_get p.entities.items e ≡ Some a → result_rows v z (to.entity e) ≡ map m (result_rows u s e)
    results_moved e a at =
        let t : Ctype = type_of p.types a.ty.0 in
        let own : result_nodes u (EntityKey e) ≡ nodes_of p.types (result_of t) = ap (λ (o : Option Entity). nodes_of p.types (result_of (type_or_void p.types (option_map (λ (k : Entity). k.ty) o)))) at in
        let its : result_nodes v (EntityKey (to.entity e)) ≡ map (renamed to.tag) (result_nodes u (EntityKey e)) =
        ap (λ (x : Ctype). nodes_of q.types (result_of x)) (entity_type_moved p q to back h ready e a at)
        ∙ (ap (nodes_of q.types) (result_renamed to.tag t) ∙ (nodes_moved p q to back h (result_of t) (result_tags p.types.tags t (own_tags p q to back h a.ty.0)) ∙ sym (ap (map (renamed to.tag)) own))) in
        ap (λ (n : ℕ). row_list (none_row v z) (result_row v z n) (result_nodes v (EntityKey (to.entity e)))) (number_same p q to back h e a at)
        ∙ (ap (row_list (none_row v z) (result_row v z (number_of u s e))) its
        ∙ row_list_moved m to.tag (result_nodes u (EntityKey e)) (none_row u s) (none_row v z) (result_row u s (number_of u s e)) (result_row v z (number_of u s e)) (none_moved p q to back h)
        (λ j lt. result_moved p q to back h (number_of u s e) j))

    entry_moved : (e : ℕ) → e < length p.entities.items → entry_constraints v z l (to.entity e) ≡ map moved (entry_constraints u s l e)
    entry_moved e lt =
        let (a, at) = some_at p.entities.items e lt in
        let f : ObjectKey → List Constraint = λ key. taken_in u s l (parameter_rows u s key) in
        let g : ObjectKey → List Constraint = λ key. taken_in v z l (parameter_rows v z key) in
        let keys = parameters_of u s e in
        let front : flat_map g (parameters_of v z (to.entity e)) ≡ map moved (flat_map f keys) =
        ap (λ (ks : List ObjectKey). flat_map g ks) (parameters_same p q to back h ready e lt)
        ∙ flat_moved f g (key_moved to) moved keys
        (λ key there. ap (taken_in v z l) (rows_same p q to back h ready key (filter_member (λ k. is_owned_by e (entity_in u k)) (all_parameters u s) key there)) ∙ taken_moved (parameter_rows u s key)) in
        ap (λ (cs : List Constraint). cs ++ given_out v z l (result_rows v z (to.entity e))) front
        ∙ (ap (λ (cs : List Constraint). map moved (flat_map f keys) ++ cs) (ap (given_out v z l) (results_moved e a at) ∙ given_moved (result_rows u s e))
        ∙ sym (map-append moved (flat_map f keys) (given_out u s l (result_rows u s e))))

  abbrev AreWithin : List ℕ → Type 0
  AreWithin es = All (λ e. e < length p.entities.items) es

  outside_moved : (es : List ℕ) → AreWithin es → (o : Option ℕ) → s.first Outside ≡ o → outside_constraints v z (map to.entity es) o ≡ map moved (outside_constraints u s es o)
  outside_moved es within None first = refl
  outside_moved es within (Some l) first =
      let stays : maps.row l ≡ l = rows l ∙ row_location p q to back h l (first_below (locations_in p) l Outside first) in
      let rest = flat_moved (entry_constraints u s l) (entry_constraints v z l) to.entity moved es (λ e there. entry_moved l stays e (all_member (λ n. n < length p.entities.items) es e within there)) in
      ap (λ (n : ℕ). AddressForm n n ∷ flat_map (entry_constraints v z l) (map to.entity es)) (sym stays) ∙ ap (λ (cs : List Constraint). AddressForm (maps.row l) (maps.row l) ∷ cs) rest

  -- what is there at the start, where some entry is named
  pub entries_moved : (e : ℕ) (es : List ℕ) → AreWithin (e ∷ es) → start_constraints v z (map to.entity (e ∷ es)) ≡ map moved (start_constraints u s (e ∷ es))
  entries_moved e es within = ap (outside_constraints v z (map to.entity (e ∷ es))) (first_same p q to back h Outside refl) ∙ outside_moved (e ∷ es) within (s.first Outside) refl
