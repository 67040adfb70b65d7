-- The library's objects of programs that are one are the same.
use Rattle.std.proofs.Common.{◌≡◌, ◌∙◌, ℕ, zero, suc, Bool, List, ◌++◌, refl, ap}
use Rattle.core_tree.specs.declared.node.Program.{Program}
use Rattle.obj_made.specs.declared.object.Object.{Object}
use Rattle.obj_made.specs.Uses.{is_named, is_starred}
use Rattle.obj_space.specs.Objects.{function_if, function_object, functions_below, library_objects, star_if, star_object, star_objects, takes_arguments, outside_objects, library_part}
use Rattle.twin_report_laws.specs.outcome_laws.twin_programs.One.{Numbers, LeadsTo}
use Rattle.twin_report_laws.proofs.outcome_laws.twin_locations.Uses.{named_same, arguments_same, outside_same, starred_same}

module _ (p q : Program) (to back : Numbers) (l : LeadsTo p q to back) (r : LeadsTo q p back to) where
  functions_same : (n : ℕ) → functions_below q n ≡ functions_below p n
  unfolding functions_below
  functions_same zero = refl
  functions_same (suc n) =
      ap (λ (os : List Object). os ++ function_object q n) (functions_same n) ∙ ap (λ (b : Bool). functions_below p n ++ function_if b n) (named_same p q to back l r n)

  names_same : ◌≡◌ {A = ℕ → Bool} (is_named q.entities.items q.nodes.items) (is_named p.entities.items p.nodes.items)
  names_same = λ i k. named_same p q to back l r k i

  pub library_same : library_part q ≡ library_part p
  library_same =
      let named = is_named p.entities.items p.nodes.items in
      let starred = is_starred p.entities.items p.nodes.items in
      let first : star_objects q ≡ star_objects p =
      ap (λ (b : Bool). star_if b 0 ++ (star_object q 1 ++ (star_object q 2 ++ star_object q 21))) (starred_same p q to back l r 0)
      ∙ (ap (λ (b : Bool). star_object p 0 ++ (star_if b 1 ++ (star_object q 2 ++ star_object q 21))) (starred_same p q to back l r 1)
      ∙ (ap (λ (b : Bool). star_object p 0 ++ (star_object p 1 ++ (star_if b 2 ++ star_object q 21))) (starred_same p q to back l r 2)
      ∙ ap (λ (b : Bool). star_object p 0 ++ (star_object p 1 ++ (star_object p 2 ++ star_if b 21))) (starred_same p q to back l r 21))) in
      let outside = outside_objects q.entries.items in
      ap (λ (os : List Object). os ++ (library_objects (is_named q.entities.items q.nodes.items) (takes_arguments q) ++ (star_objects q ++ outside))) (functions_same 55)
      ∙ (ap (λ (f : ℕ → Bool). functions_below p 55 ++ (library_objects f (takes_arguments q) ++ (star_objects q ++ outside))) names_same
      ∙ (ap (λ (b : Bool). functions_below p 55 ++ (library_objects named b ++ (star_objects q ++ outside))) (arguments_same p q to back l r)
      ∙ (ap (λ (os : List Object). functions_below p 55 ++ (library_objects named (takes_arguments p) ++ (os ++ outside))) first
      ∙ ap (λ (os : List Object). functions_below p 55 ++ (library_objects named (takes_arguments p) ++ (star_objects p ++ os))) (outside_same p q to back l r))))
