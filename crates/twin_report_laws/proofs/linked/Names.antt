-- The names of locations and the places of calls, in programs that are one, but for numbers.
use Rattle.std.proofs.Common.{arith, ◌≡◌, ◌∙◌, ◌+◌, ◌-◌, ◌<◌, ◌==◌, ◌||◌, ◌++◌, ℕ, zero, suc, Bool, false, List, [], ◌∷◌, length, Option, Some, unwrap_or, refl, sym, ap, subst, inl, inr}
use Rattle.std.specs.Prelude.{if◌then◌else◌, nat_lt, decimal}
use Rattle.std.specs.List.{slice_get, AllZip}
use Rattle.std.proofs.lemmas.Bool.{cases_Bool}
use Rattle.std.proofs.lemmas.Bool.Decides.{nat_tests}
use Rattle.std.proofs.lemmas.Fmt.{decimal_injective}
use Rattle.pta_base.specs.declared.place.Place.{Place}
use Rattle.core_tree.specs.declared.node.Node.{Node}
use Rattle.core_tree.specs.declared.node.NodeKind.TheVariants.{CallNode}
use Rattle.core_tree.specs.declared.node.Program.{Program}
use Rattle.sol_model.specs.declared.system.System.{System}
use Rattle.sol_model.specs.declared.system.CallSite.{CallSite}
use Rattle.obj_made.specs.Spelling.{unit_name, spot_text}
use Rattle.obj_space.specs.declared.location.Location.{Location}
use Rattle.obj_space.specs.Space.{locations_in}
use Rattle.obj_space.specs.View.{view_of}
use Rattle.call_sites.specs.Calls.{calls_upto, IsSiteAt}
use Rattle.normal_form.specs.SystemOf.{SystemOf, setting_of}
use Rattle.alias_query.specs.Asked.{made_setting, place_text}
use Rattle.linked_laws.specs.location_laws.name_shapes.Bytes.{is_unit_byte, is_base_byte, IsMadeOf}
use Rattle.linked_laws.proofs.location_laws.name_shapes.Cutting.{cut, decimal_base}
use Rattle.linked_laws.specs.location_laws.name_laws.Named.{IsPlace, HasNames}
use Rattle.unit_report.specs.report_text.Report.{name_in, has_set}
use Rattle.twin_report_laws.specs.outcome_laws.twin_programs.One.{Numbers}
use Rattle.twin_report_laws.specs.outcome_laws.twin_locations.Same.{number_moved, SameLocation}
use Rattle.twin_report_laws.proofs.outcome_laws.twin_words.Sums.{some_one}
use Rattle.twin_report_laws.specs.reports.Same.{SameNames, CallsApart}
use Rattle.twin_report_laws.specs.answers.Same.{CallsTold}
use Rattle.twin_report_laws.specs.orders.Order.{MayMake, MadeApart}
use Rattle.twin_report_laws.specs.rows.Paired.{ArePaired}
use Rattle.twin_report_laws.proofs.rows.Views.{count_same}
use Rattle.twin_report_laws.proofs.rows.Nodes.{some_at}
use Rattle.twin_report_laws.proofs.rows.Calls.{zip_at, call_at}

-- ---- names of locations
small_moved : (f : ℕ → ℕ) (n k : ℕ) → k < 8 → (number_moved f n == k) ≡ (n == k)
small_moved f n k small = elim (cases_Bool (nat_lt n 8)) [
  | inl its ↦ ap (λ (b : Bool). (if b then n else 8 + f (n - 8)) == k) its
  | inr isnt ↦
      let past : 8 + f (n - 8) == k ≡ false = grind (arith, nat_tests) in
      let far : n == k ≡ false = grind (arith, nat_tests) in
      ap (λ (b : Bool). (if b then n else 8 + f (n - 8)) == k) isnt ∙ (past ∙ sym far)
]

module _ (to : Numbers) where
  name_zip : (xs ys : List Location) → AllZip (SameLocation to) xs ys → (l : ℕ) → name_in ys l ≡ name_in xs l
  name_zip [] [] h l = refl
  name_zip [] (y ∷ ys) h l = absurd h
  name_zip (x ∷ xs) [] h l = absurd h
  name_zip (x ∷ xs) (y ∷ ys) h zero = h.0.name
  name_zip (x ∷ xs) (y ∷ ys) h (suc l) = name_zip xs ys h.1 l

  set_zip : (xs ys : List Location) → AllZip (SameLocation to) xs ys → (l : ℕ) → has_set ys l ≡ has_set xs l
  set_zip [] [] h l = refl
  set_zip [] (y ∷ ys) h l = absurd h
  set_zip (x ∷ xs) [] h l = absurd h
  set_zip (x ∷ xs) (y ∷ ys) h zero =
      ap (λ (b : Bool). b || (y.ty == 4) || (y.ty == 7)) h.0.collapsed
      ∙ (ap (λ (n : ℕ). x.collapsed || (n == 4) || (n == 7)) h.0.ty
      ∙ (ap (λ (b : Bool). x.collapsed || b || (number_moved to.tag x.ty == 7)) (small_moved to.tag x.ty 4 (omega arith))
      ∙ ap (λ (b : Bool). x.collapsed || (x.ty == 4) || b) (small_moved to.tag x.ty 7 (omega arith))))
  set_zip (x ∷ xs) (y ∷ ys) h (suc l) = set_zip xs ys h.1 l

pub same_names : (p q : Program) (to back : Numbers) → ArePaired p q to back → SameNames (locations_in p) (locations_in q)
same_names p q to back h = record {
  many = count_same p q to back h;
  names = name_zip to (locations_in p) (locations_in q) h.order;
  sets = set_zip to (locations_in p) (locations_in q) h.order;
}

-- ---- places of calls
module _ (p : Program) (S : System) (of : SystemOf p (view_of (locations_in p)) S) where
  -- the node of a call
  record HasCallNode (c : ℕ) (site : CallSite) : Type 0 where
    number : ℕ
    node : Node
    there : slice_get p.nodes.items number ≡ Some node
    kind : node.kind ≡ CallNode
    place : site.place ≡ node.place
    count : c ≡ length (calls_upto p.nodes.items number)

  node_of_call : (c : ℕ) (site : CallSite) → slice_get S.calls c ≡ Some site → HasCallNode c site
  node_of_call c site at =
      let (n, n_at, own) = zip_at (IsSiteAt (setting_of p (view_of (locations_in p)) of.owners)) (calls_upto p.nodes.items (length p.nodes.items)) S.calls c site of.calls at in
      let call = call_at p.nodes.items c n n_at in
      record {
        number = n;
        node = call.node;
        there = call.there;
        kind = call.call;
        place = own.right.place ∙ ap (λ (y : Node). y.place) (some_one (sym own.there ∙ call.there));
        count = call.place;
      }

  one_number : (c d : ℕ) (x y : CallSite) (a : HasCallNode c x) (b : HasCallNode d y) → a.number ≡ b.number → c ≡ d
  one_number c d x y a b same = a.count ∙ (ap (λ (n : ℕ). length (calls_upto p.nodes.items n)) same ∙ sym b.count)

  may : (y : Node) → y.kind ≡ CallNode → MayMake y.kind
  may y e = subst MayMake (sym e) tt

  pub calls_apart : MadeApart p → CallsApart S
  calls_apart apart = record {
    once = λ j k x y at there dx dy same.
        let a = node_of_call j x at in
        let b = node_of_call k y there in
        one_number j k x y a b (apart.nodes a.number b.number a.node b.node a.there b.there (may a.node a.kind) (may b.node b.kind) (sym a.place ∙ (same ∙ b.place)));
  }

  module _ (names : HasNames p) where
    named_at : (u : ℕ) → u < length p.names.items → (name : List ℕ) × (slice_get p.names.items u ≡ Some name) × (unit_name p.names.items u ≡ name) × IsMadeOf is_unit_byte name
    named_at u lt =
        let (name, at) = some_at p.names.items u lt in
        (name, at, ap (λ (o : Option (List ℕ)). unwrap_or o []) at, names.units.bytes u name at)

    place_is : (a b : Place) → a.unit ≡ b.unit → a.line ≡ b.line → a.column ≡ b.column → a ≡ b
    place_is a b e f g = λ i. record { unit = e i; line = f i; column = g i }

    behind : (x : ℕ) (s t : List ℕ) → x ∷ s ≡ x ∷ t → s ≡ t
    behind x s t e = cc

    same_place : (a b : Place) → IsPlace p a → IsPlace p b → place_text p.names.items a ≡ place_text p.names.items b → a ≡ b
    same_place a b ia ib e =
        let (na, na_at, na_is, na_bytes) = named_at a.unit ia.unit in
        let (nb, nb_at, nb_is, nb_bytes) = named_at b.unit ib.unit in
        let whole : na ++ (58 ∷ spot_text a) ≡ nb ++ (58 ∷ spot_text b) =
        ap (λ (name : List ℕ). name ++ (58 ∷ spot_text a)) (sym na_is) ∙ (e ∙ ap (λ (name : List ℕ). name ++ (58 ∷ spot_text b)) nb_is) in
        let (units, spots) = cut is_unit_byte na nb (58 ∷ spot_text a) (58 ∷ spot_text b) na_bytes nb_bytes refl refl whole in
        let al = ia.line in
        let ac = ia.column in
        let bl = ib.line in
        let bc = ib.column in
        let (lines, columns) = cut is_base_byte (decimal a.line) (decimal b.line) (58 ∷ decimal a.column) (58 ∷ decimal b.column) (decimal_base a.line (omega (arith, al))) (decimal_base b.line (omega (arith, bl))) refl refl
        (behind 58 (spot_text a) (spot_text b) spots) in
        place_is a b (names.units.once a.unit b.unit nb (na_at ∙ ap (λ (name : List ℕ). Some name) units) nb_at)
        (decimal_injective a.line b.line (omega (arith, al)) (omega (arith, bl)) lines)
        (decimal_injective a.column b.column (omega (arith, ac)) (omega (arith, bc)) (behind 58 (decimal a.column) (decimal b.column) columns))

    pub calls_told : CallsTold (made_setting (locations_in p) S p.names.items)
    calls_told = record {
      once = λ word c d h k.
          let a = node_of_call c h.site h.there in
          let b = node_of_call d k.site k.there in
          let pa : IsPlace p h.site.place = subst (IsPlace p) (sym a.place) (names.nodes.place a.number a.node a.there) in
          let pb : IsPlace p k.site.place = subst (IsPlace p) (sym b.place) (names.nodes.place b.number b.node b.there) in
          let same : h.site.place ≡ k.site.place = same_place h.site.place k.site.place pa pb (h.text ∙ sym k.text) in
          one_number c d h.site k.site a b (names.nodes.call a.number b.number a.node b.node a.there b.there a.kind b.kind (sym a.place ∙ (same ∙ b.place)));
    }
